use Rattle.swc_names.proofs.Distinct.{named, first_left}
use Rattle.swc_names.proofs.Sorted.{kept}
use Rattle.swc_names.proofs.ids.set_of.Goals as goal

pub loop-left-preserved : goal.loop-left-preserved
loop-left-preserved c = λ x.
    let n = c.name-item.result in let i = c.in_ok-to_id.field-0 in
    kept x c.loop-left.left.now _ n i c.loop-left.ids.keys c.insert.new.self.keys _ (first_left c.loop-left.left.now n c.in-len1-up.len_at_least c.name-item.is) (named i n.now c.in_ok-to_id.ensures.text c.in_ok-to_id.ensures.context) c.in_ok-insert.ensures.keys (c.loop-left.invariant x)
