use Rattle.dce_uses.proofs.Retaining.{kept}
use Rattle.dce_uses.proofs.retained.Retained.of.Goals as goal

pub loop-left-preserved : goal.loop-left-preserved
loop-left-preserved c = λ t. kept t c.loop-left.left.now c.text-item.result c.as_str.result c.loop-left.ordered.keys c.insert.new.self.keys _ c.in-len1-up.len_at_least c.text-item.is c.as_str.ensures.value c.in_ok-insert.ensures.keys (c.loop-left.invariant t)
