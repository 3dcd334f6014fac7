use Rattle.std.proofs.lemmas.Result.{on_ok_weaker}
use Rattle.tree_visit.specs.Kinds.{kind_label}
use Rattle.dce_uses.specs.Noted.{by_naming, by_declaring}
use Rattle.dce_uses.proofs.Adding.{next}
use Rattle.dce_uses.proofs.table.Table.note.Goals as goal

pub returns : goal.returns
returns c =
    let l = kind_label c.args.kind in let p = c.args.place in
    on_ok_weaker c.note_declared.result
    (next c.args.self.now c.note_named.new.self c.note_declared.new.self (λ f x. by_naming f x p l) (λ f x. by_declaring f x p l) c.in_ok-note_named.ensures)
    c.note_declared.ensures
