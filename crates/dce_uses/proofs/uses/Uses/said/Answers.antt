use Rattle.std.proofs.Common.{false, refl, arith}
use Rattle.swc_ast.specs.Modules.{item_tree}
use Rattle.tree_visit.specs.Kinds.{kind_label}
use Rattle.tree_visit.specs.Nodes.{children_forest}
use Rattle.dce_uses.specs.declared.uses.Uses.{Uses}
use Rattle.dce_uses.proofs.Saying.{item_said, said_grows}
use Rattle.dce_uses.proofs.uses.Uses.said.Goals as goal

pub returns-clause-grows : goal.returns-clause-grows
returns-clause-grows g c =
    let counted = c.note_item.new.self in
    let w : Uses = record { table = c.take_rows.new.self; exports_default = false; rows = c.take_rows.new.rows; told = counted.told } in
    said_grows c.args.self.now counted w (kind_label c.open_item.result.kind) (children_forest c.open_item.result.children) c.in_ok-note_item.ensures.notes c.note_item.ensures.rows c.in_ok-take_rows.ensures.rows

pub returns-clause-says : goal.returns-clause-says
returns-clause-says g c =
    let counted = c.note_item.new.self in
    let w : Uses = record { table = c.take_rows.new.self; exports_default = false; rows = c.take_rows.new.rows; told = counted.told } in
    item_said c.args.self.now counted w (record { start = c.in_ok-start.start; end = c.in_ok-end.end; exports_default = counted.exports_default }) (item_tree (g.T.StmtLike.item c.args.item.now))
    (kind_label c.open_item.result.kind) (children_forest c.open_item.result.children) c.requires c.open_item.ensures.0 c.open_item.ensures.1 c.in_ok-note_item.ensures.notes c.in_ok-take_rows.ensures.rows (omega (arith, c.in_ok-start.ensures, counted.rows.ok.0)) (omega (arith, c.in_ok-end.ensures, w.rows.ok.0)) refl
