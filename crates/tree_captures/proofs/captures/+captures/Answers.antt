use Rattle.std.proofs.Common.{◌≡◌, ◌&&◌, IfOk, sym, ap, subst, ◌∙◌}
use Rattle.swc_ast.specs.Valid.{valid, valid_all}
use Rattle.tree_visit.specs.Kinds.{kind_label}
use Rattle.tree_visit.specs.Nodes.{node_tree, children_forest}
use Rattle.swc_resolved.proofs.Sizes.{rest_within}
use Rattle.tree_captures.specs.Captured.{captured, captured_in, if_captured, seen, spelled}
use Rattle.tree_captures.specs.Places.{before, from, round, within}
use Rattle.tree_captures.specs.Views.{sight, captures, restored}
use Rattle.tree_captures.proofs.First.{nothing, found_below, found_among, goes_on, nobody}
use Rattle.tree_captures.proofs.Places.{first_at, from_next, before_next, stands, goes}
use Rattle.tree_captures.proofs.captures.+captures.Goals as goal

pub first_in_opened-returns-clause-sight : goal.first_in_opened-returns-clause-sight
first_in_opened-returns-clause-sight t c =
    let opened = c.open-opened.ensures in
    let e = captures c.args.table.now in let l = kind_label c.open-opened.result.kind in
    subst (λ x. IfOk c.first_below.result (λ s. sight s ≡ x))
    (found_below e (node_tree c.args.n) l (children_forest c.open-opened.result.children) (within c.of-scopes.result e) c.args.is_valid c.stays_valid-is_good.result opened.0 opened.1
    (nothing c.own_captured-own.result (if_captured e (spelled l)) c.own_captured-own.ensures (sym c.is_some.ensures ∙ c.if-is_some.false))
    (ap (λ w. w e) c.of-scopes.ensures.within) c.stays_valid-is_good.ensures)
    c.first_below.ensures.sight

pub first_below-go_to-requires : goal.first_below-go_to-requires
first_below-go_to-requires t c =
    let h = c.loop-child.invariant in
    stands (captures c.args.table.now) (round c.loop-child.scopes c.loop-child.table) (captures c.loop-child.table) (within c.args.scopes) (within c.loop-child.scopes) c.loop-child.place h.1.0 h.1.1.0 h.1.1.1.0

pub first_below-returns-then-is_some-clause-sight : goal.first_below-returns-then-is_some-clause-sight
first_below-returns-then-is_some-clause-sight t c =
    let h = c.loop-child.invariant in
    let e = captures c.args.table.now in let cs = children_forest c.args.children in let in_node = within c.args.scopes in let i = from (in_node e) c.loop-child.place in
    let child = node_tree c.in-Some.child in let left = children_forest c.loop-child.left in let v = c.loop-child.so_far in
    let here = goes e (round c.loop-child.scopes c.loop-child.table) (captures c.go_to.new.table) in_node (within c.loop-child.scopes) c.loop-child.place c.in_ok-go_to.ensures.here h.1.1.0 h.1.1.1.0 ∙ first_at (in_node e) c.loop-child.place in
    found_among i child (children_forest c.in-Some.rest) left c.in_ok-found.found (v && valid child) (v && valid_all left) (seen (captured_in (in_node e) cs) (c.args.is_valid && valid_all cs)) c.in-Some.ensures
    (subst (λ s. sight c.in_ok-found.found ≡ seen (captured s child) (v && valid child)) here c.in_ok-found.ensures.sight) (sym c.is_some.ensures ∙ c.if-is_some.true) h.0

pub first_below-loop-child-preserved : goal.first_below-loop-child-preserved
first_below-loop-child-preserved t c =
    let h = c.loop-child.invariant in
    let e = captures c.args.table.now in let cs = children_forest c.args.children in let in_node = within c.args.scopes in let p = c.loop-child.place in let i = from (in_node e) p in
    let child = node_tree c.in-Some.child in let rest = children_forest c.in-Some.rest in let left = children_forest c.loop-child.left in let v = c.loop-child.so_far in
    let at_place = goes e (round c.loop-child.scopes c.loop-child.table) (captures c.go_to.new.table) in_node (within c.loop-child.scopes) p c.in_ok-go_to.ensures.here h.1.1.0 h.1.1.1.0 in
    let free = sym c.is_some.ensures ∙ c.if-is_some.false in
    let kept = c.in_ok-found.ensures.kept (nobody c.in_ok-found.found.captured free) in (
      goes_on i (from (in_node e) c.next-place.result) child rest left c.in_ok-found.found v (seen (captured_in (in_node e) cs) (c.args.is_valid && valid_all cs)) c.in-Some.ensures
          (subst (λ s. sight c.in_ok-found.found ≡ seen (captured s child) (v && valid child)) (at_place ∙ first_at (in_node e) p) c.in_ok-found.ensures.sight) free (ap (from (in_node e)) c.next-place.ensures ∙ from_next (in_node e) p) h.0,
      (
        kept ∙ (at_place ∙ (before_next e (in_node e) p ∙ ap (before e (in_node e)) (sym c.next-place.ensures))),
        (
          ap (restored c.go_to.new.self.outer.items) kept ∙ (c.in_ok-go_to.ensures.round ∙ h.1.1.0),
          (
            c.in_ok-go_to.ensures.within ∙ h.1.1.1.0,
            rest_within child rest left cs c.in-Some.ensures h.1.1.1.1,
          ),
        ),
      ),
    )
