use Rattle.core_trees.proofs.Names.{has_less}
use Rattle.core_trees.proofs.declared.Declared.remove.Goals as goal

pub returns : goal.returns
returns c = λ y. has_less c.args.x c.args.self.now.names.keys c.remove.new.self.keys c.remove.ensures.updates.0 y
