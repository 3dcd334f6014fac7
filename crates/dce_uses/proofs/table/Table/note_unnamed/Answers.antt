use Rattle.std.proofs.lemmas.Result.{on_ok_weaker}
use Rattle.tree_visit.specs.Kinds.{kind_label}
use Rattle.tree_visit.specs.Nodes.{children_forest}
use Rattle.dce_uses.specs.Noted.{by_arguments, by_eval}
use Rattle.dce_uses.proofs.Adding.{next}
use Rattle.dce_uses.proofs.table.Table.note_unnamed.Goals as goal

pub returns : goal.returns
returns c =
    let l = kind_label c.args.kind in let p = c.args.place in let cs = children_forest c.args.children in
    on_ok_weaker c.note_seen.result
    (next c.args.self.now c.note_arguments.new.self c.note_seen.new.self (λ f x. by_arguments f x l cs) (λ f x. by_eval f x p l cs) c.in_ok-note_arguments.ensures)
    c.note_seen.ensures
