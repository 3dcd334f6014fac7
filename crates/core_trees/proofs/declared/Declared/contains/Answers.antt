use Rattle.std.proofs.Common.{◌∙◌}
use Rattle.swc_resolved.specs.Names.{name}
use Rattle.swc_resolved.proofs.Sets.{has_key}
use Rattle.core_trees.proofs.declared.Declared.contains.Goals as goal

pub returns : goal.returns
returns c = c.contains.ensures ∙ has_key (name c.args.x) c.args.self.now.names.keys
