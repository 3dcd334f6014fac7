use Rattle.std.proofs.Common.{◌≡◌, ◌++◌, OnOk, refl, sym, ap, subst, ◌∙◌, arith}
use Rattle.tree_visit.specs.Kinds.{kind_label}
use Rattle.tree_visit.specs.Nodes.{node_tree, children_forest, next_forest}
use Rattle.swc_resolved.specs.Names.{names}
use Rattle.swc_resolved.specs.declared.declared.Part.TheVariants.{Declarations}
use Rattle.swc_resolved.proofs.Sizes.{rest_within}
use Rattle.swc_resolved.proofs.Gathered.{goes_on, passes_by, declarators, lone, declaration_falls}
use Rattle.swc_resolved.proofs.declared.+names.Goals as goal

pub add_names-loop-child-preserved-in_ok-add_node : goal.add_names-loop-child-preserved-in_ok-add_node
add_names-loop-child-preserved-in_ok-add_node t c =
    let is = c.next.ensures ∙ ap next_forest c.in-Some.is in (
      goes_on c.args.part (node_tree c.in-Some.child) (children_forest c.in-Some.rest) (children_forest c.loop-child.left) (names c.loop-child.names.items) (names c.add_node.new.names.items) (names c.args.names.now.items ++ _) is c.in_ok-add_node.ensures c.loop-child.invariant.0,
      rest_within (node_tree c.in-Some.child) (children_forest c.in-Some.rest) (children_forest c.loop-child.left) (children_forest c.args.children) is c.loop-child.invariant.1,
    )

pub add_names-loop-child-preserved : goal.add_names-loop-child-preserved
add_names-loop-child-preserved t c =
    let is = c.next.ensures ∙ ap next_forest c.in-Some.is in (
      passes_by c.args.part (node_tree c.in-Some.child) (children_forest c.in-Some.rest) (children_forest c.loop-child.left) (names c.loop-child.names.items) (names c.args.names.now.items ++ _) is (c.is_still.ensures c.if-not-is_still.false) c.loop-child.invariant.0,
      rest_within (node_tree c.in-Some.child) (children_forest c.in-Some.rest) (children_forest c.loop-child.left) (children_forest c.args.children) is c.loop-child.invariant.1,
    )

pub add_declaration-add_names-requires : goal.add_declaration-add_names-requires
add_declaration-add_names-requires t c =
    let opened = c.declaration-declaration.ensures (node_tree c.args.n) c.open-opened.ensures in
    let h = declaration_falls (node_tree c.args.n) (children_forest c.declaration-declaration.result.children) opened.1 in
    (omega (arith, h, c.decreases), tt)

pub add_declaration-returns-then-is_lexical : goal.add_declaration-returns-then-is_lexical
add_declaration-returns-then-is_lexical t c =
    let opened = c.declaration-declaration.ensures (node_tree c.args.n) c.open-opened.ensures in
    subst (λ ys. OnOk c.add_names.result (names c.add_names.new.names.items ≡ names c.args.names.now.items ++ ys))
    (declarators Declarations (node_tree c.args.n) (kind_label c.declaration-declaration.result.kind) (children_forest c.declaration-declaration.result.children) refl opened.0 opened.1 (sym c.is_lexical.ensures ∙ c.if-is_lexical.true))
    c.add_names.ensures

pub add_declaration-returns : goal.add_declaration-returns
add_declaration-returns t c =
    let opened = c.declaration-declaration.ensures (node_tree c.args.n) c.open-opened.ensures in
    subst (λ ys. OnOk c.add_optional.result (names c.add_optional.new.names.items ≡ names c.args.names.now.items ++ ys))
    (c.declared_name.ensures ∙ lone Declarations (node_tree c.args.n) (kind_label c.declaration-declaration.result.kind) refl opened.0 (sym c.is_lexical.ensures ∙ c.if-is_lexical.false))
    c.add_optional.ensures
