use Rattle.std.proofs.Common.{refl, sym}
use Rattle.std.specs.Box.{with_value}
use Rattle.dce_items.proofs.Leaving.{of_function}
use Rattle.dce_items.proofs.inside.Inside.leave_function.Goals as goal

pub returns : goal.returns
returns c =
    let n = c.args.n.now in
    let f = c.deref_mut.result.now in
    let v = c.leave_stmts.new.stmts in of_function c.args.self.now n.ident f v n.function (with_value n.function (record f { body = record f.body { stmts = v } })) (sym c.deref_mut.ensures.value) refl c.in_ok-leave_stmts.ensures
