use Rattle.std.proofs.Common.{refl}
use Rattle.swc_ast.specs.Parts.{list_trees}
use Rattle.swc_ast.specs.Views.{expr_tree}
use Rattle.swc_utils.specs.Globals.{unresolved}
use Rattle.expr_members.specs.Fronts.{all_folded}
use Rattle.expr_members.proofs.Turns.{trees_end}
use Rattle.expr_members.proofs.sequences.push_fronts.Goals as goal

pub returns : goal.returns
returns c = trees_end (λ es. all_folded (unresolved c.args.ctx.now) c.args.is_callee (list_trees expr_tree es)) refl _ c.loop-e.e-iterator c.in-None.ensures.steps.0 c.loop-e.invariant
