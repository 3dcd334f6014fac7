use Rattle.dce_items.proofs.Wrapping.{called_function, empty, nameless}
use Rattle.dce_items.proofs.wrapper.body_of_function.Goals as goal

pub returns : goal.returns
returns c =
    let f = c.deref.result.now in called_function c.args.n.now f c.deref-2.result.now c.deref.ensures c.deref-2.ensures (nameless _ c.args.n.now.ident c.is_some.ensures c.if-is_some.false) (empty _ _ f.params.items c.if-not-is_empty.false c.is_empty.ensures f.params.ok.0)
