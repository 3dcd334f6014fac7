use Rattle.std.specs.Vec.Iter.{into_iter_items}
use Rattle.swc_utils.specs.Globals.{unresolved}
use Rattle.branch_expressions.proofs.Kept.{SoFar}
use Rattle.branch_expressions.proofs.objects.kept_props.Given as goal

abbrev pub invariant-loop-prop : goal.invariant-loop-prop
invariant-loop-prop l = SoFar (unresolved l.ctx) l.changed l.out.items (into_iter_items l.prop-iterator) l.fn.props.items
