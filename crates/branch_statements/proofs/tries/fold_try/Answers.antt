use Rattle.std.proofs.Common.{ap, refl, ◌∙◌, ◌∷◌, []}
use Rattle.swc_ast.specs.Parts.{list_trees}
use Rattle.swc_ast.specs.Tree.{Block, node}
use Rattle.swc_ast.specs.Views.{stmt_tree}
use Rattle.swc_ast.proofs.Equations.{stmt_tree-Block}
use Rattle.branch_rules.specs.Turns.{as_it_was}
use Rattle.branch_statements.proofs.Rested.{try_rests}
use Rattle.branch_statements.proofs.Tells.{counted, none_left, uncounted}
use Rattle.branch_statements.proofs.Turned.{bare_turns}
use Rattle.branch_statements.proofs.tries.fold_try.Goals as goal

pub final_only-requires : goal.final_only-requires
final_only-requires c = none_left c.args.n.now.block.stmts.items (counted _ _ c.args.n.now.block.stmts.items c.if-is_empty.true c.is_empty.ensures c.args.n.now.block.stmts.ok.0)

pub returns-then-is_bare-clause-steps : goal.returns-then-is_bare-clause-steps
returns-then-is_bare-clause-steps c = λ mark. bare_turns mark _ _ _ _ (c.is_bare.ensures c.if-is_bare.true) (stmt_tree-Block _ ∙ ap (λ xs. node Block (c.args.n.now.block.span ∷ []) (list_trees stmt_tree xs)) c.take_stmts.ensures)

pub returns-clause-steps : goal.returns-clause-steps
returns-clause-steps c = λ mark. as_it_was refl

pub returns-clause-finished : goal.returns-clause-finished
returns-clause-finished c = λ h. try_rests c.args.n.now (uncounted _ _ c.args.n.now.block.stmts.items c.if-is_empty.false c.is_empty.ensures c.args.n.now.block.stmts.ok.0)
