use Rattle.std.proofs.Common.{◌≡◌, IfOk, subst}
use Rattle.tree_visit.specs.Kinds.{kind_label}
use Rattle.tree_visit.specs.Nodes.{node_tree, children_forest}
use Rattle.tree_captures.specs.Places.{within}
use Rattle.tree_captures.specs.Views.{sight, captures}
use Rattle.tree_captures.proofs.First.{found_in_whole}
use Rattle.tree_captures.proofs.captures.first_in_whole.Goals as goal

pub returns : goal.returns
returns c =
    let opened = c.open-opened in
    subst (λ x. IfOk c.first_below.result (λ s. sight s ≡ x))
    (found_in_whole (node_tree c.args.n) (kind_label opened.result.kind) (children_forest opened.result.children) (captures c.in_ok-table.table) (within c.none-scopes.result) c.stays_valid-is_good.result opened.ensures.0 opened.ensures.1 c.requires c.in_ok-table.ensures c.none-scopes.ensures.within c.stays_valid-is_good.ensures)
    c.first_below.ensures.sight
