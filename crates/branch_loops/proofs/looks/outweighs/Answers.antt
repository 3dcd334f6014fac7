use Rattle.std.proofs.Common.{◌<◌, subst}
use Rattle.swc_ast.specs.Views.{expr_tree}
use Rattle.swc_ast.specs.Weight.{weight}
use Rattle.branch_loops.proofs.Weights.{label_outweighs, return_outweighs, statement_outweighs, throw_outweighs}
use Rattle.branch_loops.proofs.looks.outweighs.Goals as goal

pub returns-in-Throw : goal.returns-in-Throw
returns-in-Throw c = λ h. throw_outweighs c.args.s.now c.in-Throw.n c.in-Throw.is (subst (λ e. 0 < weight (expr_tree e)) c.deref.ensures (c.weighs.ensures h))

pub returns-in-Return : goal.returns-in-Return
returns-in-Return c = λ h. return_outweighs c.args.s.now c.in-Return.n c.in-Return.is (c.returns_weight.ensures h)

pub returns-in-Labeled : goal.returns-in-Labeled
returns-in-Labeled c = λ h. label_outweighs c.args.s.now _ c.in-Labeled.is

pub returns-in_default : goal.returns-in_default
returns-in_default c = λ h. statement_outweighs c.args.s.now _ c.is_heavy.ensures h
