use Rattle.swc_utils.specs.Globals.{unresolved}
use Rattle.tree_visit.specs.Nodes.{children_forest}
use Rattle.dce_items.proofs.Dividing.{other_item, whole_divides}
use Rattle.dce_items.proofs.parts.parts_of.Goals as goal

pub returns-in_default : goal.returns-in_default
returns-in_default c =
    whole_divides (unresolved c.args.ctx.now) c.args.item c.whole-in_default.result c.whole-in_default.ensures.name c.whole-in_default.ensures.inner (other_item (unresolved c.args.ctx.now) c.args.item.kind (children_forest c.args.item.children) c.in_default.not-VarDecl c.in_default.not-FnDecl)
