use Rattle.std.proofs.Common.{refl, subst}
use Rattle.swc_ast.specs.Parts.{word_text}
use Rattle.swc_ast.specs.Views.{stmt_tree}
use Rattle.swc_ast.proofs.Equations.{stmt_tree-Empty}
use Rattle.branch_rules.specs.Turns.{as_it_was}
use Rattle.branch_statements.specs.Shapes.{Idles}
use Rattle.branch_statements.proofs.Turned.{label_turns}
use Rattle.branch_statements.proofs.blocks.fold_label.Goals as goal

pub returns-then-is_idle-clause-steps : goal.returns-then-is_idle-clause-steps
returns-then-is_idle-clause-steps c = λ mark. label_turns mark (word_text c.args.n.now.label) _ c.args.n.now.span _ _ _ (subst (λ s. Idles (word_text c.args.n.now.label) (stmt_tree s)) c.deref.ensures (c.is_idle.ensures c.if-is_idle.true)) (stmt_tree-Empty _)

pub returns-clause-steps : goal.returns-clause-steps
returns-clause-steps c = λ mark. as_it_was refl
