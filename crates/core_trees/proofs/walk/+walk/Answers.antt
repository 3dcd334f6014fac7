use Rattle.std.proofs.Common.{Bool, true, false, ◌==◌, refl, sym, ap, ap₂, ◌∙◌, arith}
use Rattle.swc_ast.specs.Tree.{Name}
use Rattle.swc_ast.specs.Scope.{has_name}
use Rattle.tree_visit.specs.Kinds.{kind_label}
use Rattle.tree_visit.specs.Nodes.{node_tree, children_forest, next_forest}
use Rattle.tree_visit.proofs.Caps.{opened_smaller}
use Rattle.swc_resolved.specs.Names.{names}
use Rattle.swc_resolved.proofs.Binding.{gathered_one}
use Rattle.core_trees.specs.Inside.{declares, without, fits_inside, all_inside, some_fit, some_inside, vars_apart}
use Rattle.core_trees.proofs.Names.{none_named}
use Rattle.core_trees.proofs.Sizes.{child_within, rest_within}
use Rattle.core_trees.proofs.Inside.{refused_here, children_decide, scope_decides, inside_refused, inside_holder, inside_var, inside_leaf, inside_scope, first_stops, first_passes, none_left, all_first, fit_stops, fit_goes_on, fit_ends, nothing_named, nowhere_declared, entered, came_back, stayed_in, first_refuses, behind_first}
use Rattle.core_trees.proofs.Cases.{unasked, asked, entered_cases}
use Rattle.core_trees.proofs.walk.+walk.Goals as goal

-- how far into the tree the walk is

pub is_fit-is_scope_fit-requires : goal.is_fit-is_scope_fit-requires
is_fit-is_scope_fit-requires t c = (let h = opened_smaller (node_tree c.args.n) (children_forest c.open-opened.result.children) c.open-opened.ensures.1 in omega (arith, h, c.decreases), tt)

pub is_fit-are_fit-requires : goal.is_fit-are_fit-requires
is_fit-are_fit-requires t c = (let h = opened_smaller (node_tree c.args.n) (children_forest c.open-opened.result.children) c.open-opened.ensures.1 in omega (arith, h, c.decreases), tt)

pub is_inside-is_scope_inside-requires : goal.is_inside-is_scope_inside-requires
is_inside-is_scope_inside-requires t c = (let h = opened_smaller (node_tree c.args.n) (children_forest c.open-opened.result.children) c.open-opened.ensures.1 in omega (arith, h, c.decreases), tt)

pub is_inside-are_inside-requires : goal.is_inside-are_inside-requires
is_inside-are_inside-requires t c = (let h = opened_smaller (node_tree c.args.n) (children_forest c.open-opened.result.children) c.open-opened.ensures.1 in omega (arith, h, c.decreases), tt)

pub is_inside-are_fit-requires : goal.is_inside-are_fit-requires
is_inside-are_fit-requires t c = (let h = opened_smaller (node_tree c.args.n) (children_forest c.open-opened.result.children) c.open-opened.ensures.1 in omega (arith, h, c.decreases), tt)

pub are_fit-is_fit-requires : goal.are_fit-is_fit-requires
are_fit-is_fit-requires t c = (let h = child_within (node_tree c.in-Some.child) (children_forest c.in-Some.rest) (children_forest c.loop-child.left) (children_forest c.args.children) (c.next.ensures ∙ ap next_forest c.in-Some.is) c.loop-child.invariant.1 in omega (arith, h, c.decreases), tt)

pub are_inside-is_inside-requires : goal.are_inside-is_inside-requires
are_inside-is_inside-requires t c = (let h = child_within (node_tree c.in-Some.child) (children_forest c.in-Some.rest) (children_forest c.loop-child.left) (children_forest c.args.children) (c.next.ensures ∙ ap next_forest c.in-Some.is) c.loop-child.invariant.2 in omega (arith, h, c.decreases), tt)

pub some_inside-is_any_inside-requires : goal.some_inside-is_any_inside-requires
some_inside-is_any_inside-requires t c = (let h = child_within (node_tree c.in-Some.child) (children_forest c.in-Some.rest) (children_forest c.loop-child.left) (children_forest c.args.children) (c.next.ensures ∙ ap next_forest c.in-Some.is) c.loop-child.invariant.2 in omega (arith, h, c.decreases), tt)

-- a tree by itself

pub is_fit-returns-then-not-branch : goal.is_fit-returns-then-not-branch
is_fit-returns-then-not-branch t c = refused_here (node_tree c.args.n) (kind_label c.open-opened.result.kind) (children_forest c.open-opened.result.children) c.open-opened.ensures.0 c.open-opened.ensures.1 (sym c.in_ok-is_own_core.ensures ∙ c.if-not-branch.true)

pub is_fit-returns-then-opens_inner : goal.is_fit-returns-then-opens_inner
is_fit-returns-then-opens_inner t c =
    let opens = sym c.opens_inner.ensures ∙ c.if-opens_inner.true in
    c.in_ok-is_fit.ensures opens
    ∙ scope_decides (node_tree c.args.n) (kind_label c.open-opened.result.kind) (children_forest c.open-opened.result.children) c.open-opened.ensures.0 c.open-opened.ensures.1 opens (sym c.in_ok-is_own_core.ensures ∙ c.if-not-branch.false)

pub is_fit-returns : goal.is_fit-returns
is_fit-returns t c =
    c.in_ok-is_fit-2.ensures
    ∙ children_decide (node_tree c.args.n) (kind_label c.open-opened.result.kind) (children_forest c.open-opened.result.children) c.open-opened.ensures.0 c.open-opened.ensures.1 (sym c.opens_inner.ensures ∙ c.if-opens_inner.false) (sym c.in_ok-is_own_core.ensures ∙ c.if-not-branch.false)

pub are_fit-loop-child-preserved : goal.are_fit-loop-child-preserved
are_fit-loop-child-preserved t c =
    let is = c.next.ensures ∙ ap next_forest c.in-Some.is in let u = node_tree c.in-Some.child in let ts = children_forest c.in-Some.rest in let us = children_forest c.loop-child.left in (
      fit_goes_on c.in_ok-is_fit.field-0 _ u ts us is c.in_ok-is_fit.ensures c.if-not-branch.false c.loop-child.invariant.0,
      rest_within u ts us (children_forest c.args.children) is c.loop-child.invariant.1,
    )

pub are_fit-returns-then-not-branch : goal.are_fit-returns-then-not-branch
are_fit-returns-then-not-branch t c = fit_stops c.in_ok-is_fit.field-0 _ (node_tree c.in-Some.child) (children_forest c.in-Some.rest) (children_forest c.loop-child.left) (c.next.ensures ∙ ap next_forest c.in-Some.is) c.in_ok-is_fit.ensures c.if-not-branch.true c.loop-child.invariant.0

pub are_fit-returns : goal.are_fit-returns
are_fit-returns t c = fit_ends _ (children_forest c.loop-child.left) (c.next.ensures ∙ ap next_forest c.in_default.is) c.loop-child.invariant.0

-- a scope inside a body, with none round it

pub is_scope_fit-returns-then-is_empty : goal.is_scope_fit-returns-then-is_empty
is_scope_fit-returns-then-is_empty t c = λ opens.
    let l = kind_label c.args.kind in let cs = children_forest c.args.children in let ns = names c.add_own_names.new.names.items in
    let are = gathered_one c.new-names.result.items ns _ c.new-names.ensures.items c.in_ok-add_own_names.ensures in
    c.in_ok-is_fit.ensures ∙ nothing_named l cs ns are (none_named _ c.add_own_names.new.names.items (c.is_empty.ensures ∙ ap (λ n. n == 0) c.add_own_names.new.names.ok.0) c.if-is_empty.true)

pub is_scope_fit-returns : goal.is_scope_fit-returns
is_scope_fit-returns t c = λ opens.
    let l = kind_label c.args.kind in let cs = children_forest c.args.children in
    let are = gathered_one c.new-names.result.items (names c.add_own_names.new.names.items) _ c.new-names.ensures.items c.in_ok-add_own_names.ensures in
    (c.in_ok-is_fit-2.ensures opens (ap names c.deref.ensures.value ∙ are)).0 ∙ nowhere_declared (declares c.new-round.result) cs (vars_apart l cs) (λ x. ap (has_name x) c.new-round.ensures)

-- a tree inside scopes

pub is_inside-returns-then-not-branch : goal.is_inside-returns-then-not-branch
is_inside-returns-then-not-branch t c =
    let f = declares c.args.round.now in
    inside_refused f f (node_tree c.args.n) (kind_label c.open-opened.result.kind) (children_forest c.open-opened.result.children) c.open-opened.ensures.0 c.open-opened.ensures.1 (sym c.in_ok-is_own_core.ensures ∙ c.if-not-branch.true)

pub is_inside-returns-then-opens_inner : goal.is_inside-returns-then-opens_inner
is_inside-returns-then-opens_inner t c =
    let opens = sym c.opens_inner.ensures ∙ c.if-opens_inner.true in
    inside_scope c.in_ok-is_fit.is_fit (declares c.args.round.now) (declares c.is_scope_inside.new.round) (node_tree c.args.n) (kind_label c.open-opened.result.kind) (children_forest c.open-opened.result.children) c.open-opened.ensures.0 c.open-opened.ensures.1
    opens (sym c.in_ok-is_own_core.ensures ∙ c.if-not-branch.false) (c.in_ok-is_fit.ensures opens)

pub is_inside-returns-then-holds_statements : goal.is_inside-returns-then-holds_statements
is_inside-returns-then-holds_statements t c =
    inside_holder c.in_ok-is_fit-2.is_fit (declares c.args.round.now) (declares c.are_inside.new.round) (node_tree c.args.n) (kind_label c.open-opened.result.kind) (children_forest c.open-opened.result.children) c.open-opened.ensures.0 c.open-opened.ensures.1
    (sym c.opens_inner.ensures ∙ c.if-opens_inner.false) (sym c.in_ok-is_own_core.ensures ∙ c.if-not-branch.false) (sym c.holds_statements.ensures ∙ c.if-holds_statements.true) c.in_ok-is_fit-2.ensures

pub is_inside-returns-then-is_declared_var : goal.is_inside-returns-then-is_declared_var
is_inside-returns-then-is_declared_var t c =
    let f = declares c.args.round.now in
    inside_var f f (node_tree c.args.n) (kind_label c.open-opened.result.kind) (children_forest c.open-opened.result.children) c.open-opened.ensures.0 c.open-opened.ensures.1
    (sym c.holds_statements.ensures ∙ c.if-holds_statements.false) (sym c.is_declared_var.ensures ∙ c.if-is_declared_var.true)

pub is_inside-returns : goal.is_inside-returns
is_inside-returns t c =
    inside_leaf c.in_ok-is_fit-3.is_fit (declares c.args.round.now) (node_tree c.args.n) (kind_label c.open-opened.result.kind) (children_forest c.open-opened.result.children) c.open-opened.ensures.0 c.open-opened.ensures.1
    (sym c.opens_inner.ensures ∙ c.if-opens_inner.false) (sym c.in_ok-is_own_core.ensures ∙ c.if-not-branch.false) (sym c.holds_statements.ensures ∙ c.if-holds_statements.false) (sym c.is_declared_var.ensures ∙ c.if-is_declared_var.false) c.in_ok-is_fit-3.ensures

pub are_inside-loop-child-preserved : goal.are_inside-loop-child-preserved
are_inside-loop-child-preserved t c =
    let is = c.next.ensures ∙ ap next_forest c.in-Some.is in let u = node_tree c.in-Some.child in let ts = children_forest c.in-Some.rest in let us = children_forest c.loop-child.left in
    let old = declares c.args.round.now in let cur = declares c.loop-child.round in (
      first_passes fits_inside all_inside all_first c.in_ok-is_inside.field-0 _ cur old (declares c.is_inside.new.round) u ts us is c.if-not-branch.false c.in_ok-is_inside.ensures c.loop-child.invariant.1 c.loop-child.invariant.0,
      c.in_ok-is_inside.ensures.1 c.if-not-branch.false ∙ c.loop-child.invariant.1,
      rest_within u ts us (children_forest c.args.children) is c.loop-child.invariant.2,
    )

pub are_inside-returns-then-not-branch : goal.are_inside-returns-then-not-branch
are_inside-returns-then-not-branch t c =
    first_stops fits_inside all_inside all_first c.in_ok-is_inside.field-0 _ (declares c.loop-child.round) (declares c.args.round.now) (declares c.is_inside.new.round) (declares c.is_inside.new.round) (node_tree c.in-Some.child) (children_forest c.in-Some.rest) (children_forest c.loop-child.left)
    (c.next.ensures ∙ ap next_forest c.in-Some.is) c.if-not-branch.true c.in_ok-is_inside.ensures c.loop-child.invariant.1 c.loop-child.invariant.0

pub are_inside-returns : goal.are_inside-returns
are_inside-returns t c = none_left all_inside (λ f. refl) _ (declares c.args.round.now) (declares c.loop-child.round) (children_forest c.loop-child.left) (c.next.ensures ∙ ap next_forest c.in_default.is) c.loop-child.invariant.1 c.loop-child.invariant.0

-- some of the children of a `switch`

pub some_inside-loop-child-preserved : goal.some_inside-loop-child-preserved
some_inside-loop-child-preserved t c =
    let is = c.next.ensures ∙ ap next_forest c.in-Some.is in let u = node_tree c.in-Some.child in let ts = children_forest c.in-Some.rest in let us = children_forest c.loop-child.left in
    let old = declares c.args.round.now in let cur = declares c.loop-child.round in (
      first_passes (some_fit c.args.bodies) (some_inside c.args.bodies) (λ f u us. refl) c.in_ok-is_any_inside.field-0 _ cur old (declares c.is_any_inside.new.round) u ts us is c.if-not-branch.false c.in_ok-is_any_inside.ensures c.loop-child.invariant.1 c.loop-child.invariant.0,
      c.in_ok-is_any_inside.ensures.1 c.if-not-branch.false ∙ c.loop-child.invariant.1,
      rest_within u ts us (children_forest c.args.children) is c.loop-child.invariant.2,
    )

pub some_inside-returns-then-not-branch : goal.some_inside-returns-then-not-branch
some_inside-returns-then-not-branch t c =
    first_stops (some_fit c.args.bodies) (some_inside c.args.bodies) (λ f u us. refl) c.in_ok-is_any_inside.field-0 _ (declares c.loop-child.round) (declares c.args.round.now) (declares c.is_any_inside.new.round) (declares c.is_any_inside.new.round) (node_tree c.in-Some.child) (children_forest c.in-Some.rest) (children_forest c.loop-child.left)
    (c.next.ensures ∙ ap next_forest c.in-Some.is) c.if-not-branch.true c.in_ok-is_any_inside.ensures c.loop-child.invariant.1 c.loop-child.invariant.0

pub some_inside-returns : goal.some_inside-returns
some_inside-returns t c = none_left (some_inside c.args.bodies) (λ f. refl) _ (declares c.args.round.now) (declares c.loop-child.round) (children_forest c.loop-child.left) (c.next.ensures ∙ ap next_forest c.in_default.is) c.loop-child.invariant.1 c.loop-child.invariant.0

pub is_any_inside-returns-then-not-is_asked : goal.is_any_inside-returns-then-not-is_asked
is_any_inside-returns-then-not-is_asked t c = unasked c.args.bodies (declares c.args.round.now) (node_tree c.args.child) (kind_label c.open-opened.result.kind) c.open-opened.ensures.0 (sym c.is_asked.ensures ∙ c.if-not-is_asked.true)

pub is_any_inside-returns : goal.is_any_inside-returns
is_any_inside-returns t c = asked c.in_ok-is_fit.is_fit c.args.bodies (declares c.args.round.now) (declares c.is_inside.new.round) (node_tree c.args.child) (kind_label c.open-opened.result.kind) c.open-opened.ensures.0 (sym c.is_asked.ensures ∙ c.if-not-is_asked.false) c.in_ok-is_fit.ensures

-- a scope inside others

pub is_scope_inside-returns : goal.is_scope_inside-returns
is_scope_inside-returns t c = λ opens. c.in_ok-is_fit.ensures opens (ap names c.deref.ensures.value ∙ gathered_one c.new-names.result.items (names c.add_own_names.new.names.items) _ c.new-names.ensures.items c.in_ok-add_own_names.ensures)

pub is_entered_fit-returns-then-is_switch : goal.is_entered_fit-returns-then-is_switch
is_entered_fit-returns-then-is_switch t c = λ opens are. entered_cases c.in_ok-is_fit.is_fit (declares c.args.round.now) (declares c.are_cases_inside.new.round) (kind_label c.args.kind) (children_forest c.args.children) (names c.args.names.now) are (sym c.is_switch.ensures ∙ c.if-is_switch.true) c.in_ok-is_fit.ensures

pub is_entered_fit-returns : goal.is_entered_fit-returns
is_entered_fit-returns t c = λ opens are. entered c.in_ok-is_fit-2.is_fit (declares c.args.round.now) (declares c.are_within.new.round) (kind_label c.args.kind) (children_forest c.args.children) (names c.args.names.now) are (sym c.is_switch.ensures ∙ c.if-is_switch.false) c.in_ok-is_fit-2.ensures

pub are_within-returns-then-not-branch : goal.are_within-returns-then-not-branch
are_within-returns-then-not-branch t c =
    stayed_in c.in_ok-are_inside.field-0 (λ f. all_inside f (children_forest c.args.children)) (names c.args.names.now) (declares c.args.round.now) (declares c.open.new.self) (declares c.are_inside.new.round) (declares c.are_inside.new.round)
    c.in_ok-new.ensures.inside c.in_ok-are_inside.ensures c.if-not-branch.true

pub are_within-returns : goal.are_within-returns
are_within-returns t c =
    came_back c.in_ok-are_inside.field-0 (λ f. all_inside f (children_forest c.args.children)) (names c.args.names.now) (declares c.args.round.now) (declares c.open.new.self) (declares c.are_inside.new.round) (declares c.close.new.self)
    c.in_ok-new.ensures.inside c.in_ok-are_inside.ensures c.if-not-branch.false (λ e. c.close.ensures ∙ ap₂ (λ ns f. without (names ns) f) c.deref.ensures.value e ∙ c.in_ok-new.ensures.outside)

pub are_cases_inside-returns-then-not-branch : goal.are_cases_inside-returns-then-not-branch
are_cases_inside-returns-then-not-branch t c =
    first_refuses c.in_ok-some_inside.field-0 _ _ (declares c.args.round.now) (declares c.some_inside.new.round) c.in_ok-some_inside.ensures.0 c.if-not-branch.true

pub are_cases_inside-returns-then-not-branch-2 : goal.are_cases_inside-returns-then-not-branch-2
are_cases_inside-returns-then-not-branch-2 t c =
    let all : (Name → Bool) → Bool = λ f. some_inside true f (children_forest c.args.children) in
    behind_first c.in_ok-some_inside.field-0 false _ all (names c.args.names.now) (declares c.args.round.now) (declares c.some_inside.new.round) (declares c.some_inside-2.new.round) c.in_ok-some_inside.ensures.0 c.if-not-branch.false (c.in_ok-some_inside.ensures.1 c.if-not-branch.false)
    (stayed_in c.in_ok-some_inside-2.field-0 all (names c.args.names.now) (declares c.some_inside.new.round) (declares c.open.new.self) (declares c.some_inside-2.new.round) (declares c.some_inside-2.new.round) c.in_ok-new.ensures.inside c.in_ok-some_inside-2.ensures c.if-not-branch-2.true)

pub are_cases_inside-returns : goal.are_cases_inside-returns
are_cases_inside-returns t c =
    let all : (Name → Bool) → Bool = λ f. some_inside true f (children_forest c.args.children) in
    behind_first c.in_ok-some_inside.field-0 true _ all (names c.args.names.now) (declares c.args.round.now) (declares c.some_inside.new.round) (declares c.close.new.self) c.in_ok-some_inside.ensures.0 c.if-not-branch.false (c.in_ok-some_inside.ensures.1 c.if-not-branch.false)
    (came_back c.in_ok-some_inside-2.field-0 all (names c.args.names.now) (declares c.some_inside.new.round) (declares c.open.new.self) (declares c.some_inside-2.new.round) (declares c.close.new.self) c.in_ok-new.ensures.inside c.in_ok-some_inside-2.ensures c.if-not-branch-2.false
    (λ e. c.close.ensures ∙ ap₂ (λ ns f. without (names ns) f) c.deref.ensures.value e ∙ c.in_ok-new.ensures.outside))
