use Rattle.std.proofs.Common.{◌≡◌, [], ap, ◌∙◌}
use Rattle.tree_visit.specs.Kinds.{kind_label}
use Rattle.tree_visit.specs.Nodes.{node_tree, children_forest, next_forest}
use Rattle.dce_uses.specs.Noted.{is_hiding}
use Rattle.dce_uses.specs.Exports.{first_names}
use Rattle.dce_uses.proofs.Adding.{nothing, none_named}
use Rattle.dce_uses.proofs.Counting.{alone}
use Rattle.dce_uses.proofs.Unexported.{no_declaration}
use Rattle.dce_uses.proofs.Lists.{first_as}
use Rattle.dce_uses.proofs.table.Table.note_declaration.Goals as goal

pub returns-in_default-kind : goal.returns-in_default-kind
returns-in_default-kind c =
    let xs = first_names (children_forest c.args.children) in
    let k = c.open-opened.result.kind in let cs = children_forest c.open-opened.result.children in
    let none : xs ≡ [] =
    first_as (node_tree c.in-Some.declaration) (children_forest c.in-Some.field-0-1) (children_forest c.args.children) cs (kind_label k) (c.next.ensures ∙ ap next_forest c.in-Some.is) c.open-opened.ensures.0 c.open-opened.ensures.1
    ∙ no_declaration k cs c.in_default-kind.not-VarDecl c.in_default-kind.not-FnDecl in
    nothing c.args.self.now (alone is_hiding xs) (λ f x. none_named is_hiding f x xs none)
