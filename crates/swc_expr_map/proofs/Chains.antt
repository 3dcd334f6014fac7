-- The name that a chain begins with, by what its outermost node was found to be.
use Rattle.std.proofs.Common.{◌≡◌, [], refl, ◌∙◌}
use Rattle.swc_ast.specs.Tree.{Read, Tree, node, label_of, children_of}
use Rattle.tree_visit.specs.Nodes.{Opens, children_forest}
use Rattle.tree_visit.specs.Kinds.{kind_label}
use Rattle.tree_visit.specs.declared.opened.Opened.{Opened}
use Rattle.swc_expr_map.specs.Entries.{leading_name}

parts_lead : (t : Tree) → leading_name t ≡ leading_name (node (label_of t) [] (children_of t))
parts_lead (node (Read x) ss cs) = refl
parts_lead (node l ss cs) = refl

pub opened_leads : (t : Tree) (o : Opened) → Opens t o → leading_name t ≡ leading_name (node (kind_label o.kind) [] (children_forest o.children))
opened_leads t o p = parts_lead t ∙ (λ i. leading_name (node (p.0 i) [] (p.1 i)))
