use Rattle.std.proofs.Common.{sym, ◌∙◌}
use Rattle.tree_visit.specs.Kinds.{kind_label}
use Rattle.tree_visit.specs.Nodes.{children_forest}
use Rattle.swc_resolved.proofs.Beside.{plain_apart}
use Rattle.swc_resolved.proofs.apart.is_own_apart.Goals as goal

pub returns-then-not-is_function : goal.returns-then-not-is_function
returns-then-not-is_function c = plain_apart (kind_label c.args.kind) (children_forest c.args.children) (sym c.is_function.ensures ∙ c.if-not-is_function.true)
