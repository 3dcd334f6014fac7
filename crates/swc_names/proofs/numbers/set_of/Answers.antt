use Rattle.swc_names.specs.Ids.{ids}
use Rattle.swc_names.proofs.Distinct.{first_left, counted}
use Rattle.swc_names.proofs.numbers.set_of.Goals as goal

pub loop-left-preserved : goal.loop-left-preserved
loop-left-preserved c =
    let n = c.name-item.result in
    counted c.loop-left.left.now _ n (ids c.loop-left.set.keys) (ids c.add.new.set.keys) _ (first_left c.loop-left.left.now n c.in-len1-up.len_at_least c.name-item.is) c.in_ok-add.ensures c.loop-left.invariant
