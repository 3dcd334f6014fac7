use Rattle.std.proofs.Common.{refl, arith}
use Rattle.swc_ast.proofs.Equations.{stmt_tree-Empty}
use Rattle.branch_rules.specs.Turns.{as_it_was}
use Rattle.branch_statements.proofs.Tells.{counted}
use Rattle.branch_statements.proofs.Turned.{empty_turns, popped_turns}
use Rattle.branch_statements.proofs.blocks.fold_block.Goals as goal

pub returns-then-is_empty-clause-steps : goal.returns-then-is_empty-clause-steps
returns-then-is_empty-clause-steps c = λ mark. empty_turns mark c.args.n.now.span c.args.n.now.stmts.items _ _ (counted _ _ c.args.n.now.stmts.items c.if-is_empty.true c.is_empty.ensures c.args.n.now.stmts.ok.0) (stmt_tree-Empty _)

pub returns-then-has_one_shallow-clause-steps : goal.returns-then-has_one_shallow-clause-steps
returns-then-has_one_shallow-clause-steps c = λ mark. popped_turns mark c.args.n.now.span c.args.n.now.stmts.items c.pop.new.self.items _ c.pop.result (c.has_one_shallow.ensures c.if-has_one_shallow.true) (λ h. c.pop.ensures.variant.1 (omega (arith, c.args.n.now.stmts.ok.0))) c.pop.ensures.items

pub returns-clause-steps : goal.returns-clause-steps
returns-clause-steps c = λ mark. as_it_was refl
