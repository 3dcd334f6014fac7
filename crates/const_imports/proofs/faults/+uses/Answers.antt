use Rattle.std.proofs.Common.{sym, ◌∙◌}
use Rattle.tree_visit.specs.Kinds.{kind_label}
use Rattle.tree_visit.specs.Nodes.{node_tree, children_forest}
use Rattle.const_imports.specs.Views.{has_value, roles_of}
use Rattle.const_imports.proofs.Firsts.{child_first}
use Rattle.const_imports.proofs.faults.+uses.Goals as goal

pub first_in-returns : goal.first_in-returns
first_in-returns g t c =
    let o = c.open-opened.result in
    child_first (has_value c.args.given.now) (roles_of c.args.locals.now) (node_tree c.args.n) (kind_label o.kind) (children_forest o.children) (children_forest c.look-looked.result.rest) c.look-looked.result.fault c.first_among.result
    c.open-opened.ensures.0 c.open-opened.ensures.1 (sym c.is_delete.ensures ∙ c.if-is_delete.false) c.look-looked.ensures.fault (sym c.is_some.ensures ∙ c.if-is_some.false) c.look-looked.ensures.rest c.first_among.ensures
