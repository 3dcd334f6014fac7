use Rattle.std.proofs.Common.{◌||◌, [], ap, subst}
use Rattle.swc_ast.specs.Tree.{node}
use Rattle.tree_visit.specs.Kinds.{kind_label}
use Rattle.tree_visit.specs.Nodes.{children_forest}
use Rattle.dce_uses.specs.declared.uses.Uses.{Uses}
use Rattle.dce_uses.specs.Noted.{noted}
use Rattle.dce_uses.specs.Tables.{Notes}
use Rattle.dce_uses.proofs.Items.{item_noted}
use Rattle.dce_uses.proofs.uses.Uses.note_item.Goals as goal

pub returns-clause-notes : goal.returns-clause-notes
returns-clause-notes c =
    let u = c.args.self.now in let l = kind_label c.args.item.kind in let cs = children_forest c.args.item.children in
    let v : Uses = record { table = c.note_exported.new.self; exports_default = u.exports_default || c.is_nameless.result; rows = u.rows; told = u.told } in
    item_noted u v c.count_opened.new.self l cs
    (subst (λ p. Notes u.table c.count_opened.new.self (λ f x. noted f x p (node l [] cs))) c.top.ensures c.in_ok-count_opened.ensures.notes)
    c.in_ok-note_exported.ensures
    (ap (λ b. u.exports_default || b) c.is_nameless.ensures)
