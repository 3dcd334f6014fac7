use Rattle.std.proofs.Common.{sym, ap, ◌∙◌}
use Rattle.swc_ast.specs.Parts.{ident_name}
use Rattle.tree_visit.specs.Kinds.{kind_label}
use Rattle.tree_visit.specs.Nodes.{children_forest}
use Rattle.swc_names.specs.Ids.{optional}
use Rattle.carry_vars.proofs.Counting.{some_noted, none_noted}
use Rattle.carry_vars.proofs.vars.note.Goals as goal

pub returns-in-Some : goal.returns-in-Some
returns-in-Some c = some_noted c.args.table.now c.add.new.table (kind_label c.args.kind) (children_forest c.args.children) (ident_name c.in-Some.name.now) c.of.result (sym (ap optional c.in-Some.is) ∙ c.told_name.ensures) c.of.ensures c.add.ensures

pub returns-in_default : goal.returns-in_default
returns-in_default c = none_noted c.args.table.now (kind_label c.args.kind) (children_forest c.args.children) (sym (ap optional c.in_default.is) ∙ c.told_name.ensures)
