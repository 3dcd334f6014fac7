use Rattle.std.proofs.Common.{rules}
use Rattle.swc_debug.proofs.shapes.shape_of.Goals as goal

pub returns-in-NumLit : goal.returns-in-NumLit
returns-in-NumLit c cs = Prim.search rules
