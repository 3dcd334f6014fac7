use Rattle.tree_keys.proofs.Seen.{one_more}
use Rattle.tree_keys.proofs.keys.KeySet.insert.Goals as goal

pub returns-clause-keys : goal.returns-clause-keys
returns-clause-keys c = one_more c.in_ok-insert.field-0 c.args.key c.args.self.now.keys.keys c.insert.new.self.keys _ c.in_ok-insert.ensures.keys
