use Rattle.std.proofs.Common.{[], ◌∷◌}
use Rattle.const_imports.proofs.Unloading.{all_taken}
use Rattle.const_imports.proofs.unload.unloaded.Goals as goal

pub returns : goal.returns
returns g c = λ k same. all_taken k (c.args.module.now.span ∷ []) c.loop-left.body.items c.loop-left.left.now _ c.in_default.len_below (c.loop-left.invariant k same)
