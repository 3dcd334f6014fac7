use Rattle.std.proofs.Common.{refl, sym, ap, ◌∙◌}
use Rattle.swc_ast.specs.Views.{stmt_tree}
use Rattle.branch_jumps.specs.Aims.{sought}
use Rattle.branch_rules.specs.Jumps.{escapes}
use Rattle.branch_loops.proofs.OnceSteps.{first_left, passed_more}
use Rattle.branch_loops.proofs.once.jump_place.Goals as goal

pub loop-left-preserved : goal.loop-left-preserved
loop-left-preserved c =
    passed_more (sought c.args.labels) c.loop-left.place _ c.args.stmts.now c.loop-left.left.now _ c.s-item.result c.loop-left.invariant
    (first_left c.loop-left.left.now c.s-item.result c.in-len1-up.len_at_least c.s-item.is)
    refl
    (ap (λ g. escapes g (stmt_tree c.s-item.result)) (sym c.looping.ensures) ∙ sym c.has_jump.ensures ∙ c.if-has_jump.false)
