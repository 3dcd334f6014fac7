use Rattle.std.proofs.Common.{◌∙◌, ap}
use Rattle.std.specs.Prelude.{not}
use Rattle.swc_resolved.specs.Names.{name}
use Rattle.swc_resolved.proofs.Sets.{has_key, has_more}
use Rattle.core_trees.proofs.declared.Declared.insert.Goals as goal

pub returns-clause-added : goal.returns-clause-added
returns-clause-added c = c.in_ok-insert.ensures.added ∙ ap not (has_key (name c.args.x) c.args.self.now.names.keys)

pub returns-clause-names : goal.returns-clause-names
returns-clause-names c = λ y. has_more c.in_ok-insert.field-0 c.args.x c.args.self.now.names.keys c.insert.new.self.keys c.in_ok-insert.ensures.added c.in_ok-insert.ensures.keys y
