use Rattle.std.proofs.Common.{rules, refl}
use Rattle.swc_ast.specs.Parts.{list_trees}
use Rattle.swc_ast.specs.Views.{stmt_tree}
use Rattle.branch_lists.specs.Swept.{trees}
use Rattle.branch_lists.proofs.Onto.{onto_none, onto_made, onto_both}
use Rattle.branch_lists.proofs.Turns.{trees_on, trees_end, pushed_statement}
use Rattle.branch_lists.proofs.sweep.push_stmts.Goals as goal

pub loop-s-init : goal.loop-s-init
loop-s-init g c = (search rules, onto_none refl)

pub loop-s-preserved : goal.loop-s-preserved
loop-s-preserved g c =
    let f = g.T.StmtLike.item in (
      trees_on (λ ss. list_trees stmt_tree ss) (λ s ss. refl) (trees f c.loop-s.out.items) _ c.in-Some.s _ _ c.in-Some.ensures.steps.0 (pushed_statement f g.met.T.StmtLike.made_is c.loop-s.out.items _ c.from.result c.in-Some.s c.in_ok-push.ensures.items c.from.ensures) c.loop-s.invariant.0,
      onto_both c.loop-s.invariant.1 (onto_made c.in-Some.s c.from.ensures c.in_ok-push.ensures.items),
    )

pub returns-clause-pushed : goal.returns-clause-pushed
returns-clause-pushed g c = trees_end (λ ss. list_trees stmt_tree ss) refl _ c.loop-s.s-iterator c.in-None.ensures.steps.0 c.loop-s.invariant.0
