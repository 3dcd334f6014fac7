use Rattle.std.proofs.Common.{sym, ◌∙◌}
use Rattle.std.proofs.lemmas.Result.{on_ok_weaker}
use Rattle.tree_visit.specs.Kinds.{kind_label}
use Rattle.tree_visit.specs.Nodes.{children_forest}
use Rattle.dce_uses.proofs.Counting.{with_params}
use Rattle.dce_uses.proofs.table.Table.note_arguments.Goals as goal

pub returns-then-inside : goal.returns-then-inside
returns-then-inside c =
    on_ok_weaker c.note_listed.result
    (with_params c.args.self.now c.note_listed.new.self (kind_label c.args.kind) (children_forest c.args.children) (children_forest c.params_of.result)
    (sym c.has_arguments.ensures ∙ c.if-has_arguments.true) (sym c.requires.arguments ∙ c.if-inside.true) c.params_of.ensures)
    c.note_listed.ensures
