use Rattle.std.proofs.Common.{◌≡◌, ◌+◌, IfOk, true, ap, sym, subst, ◌∙◌, arith}
use Rattle.swc_ast.specs.Resolved.{one_if, own_scopes, scopes, scopes_all}
use Rattle.tree_visit.specs.Kinds.{kind_label}
use Rattle.tree_visit.specs.Nodes.{node_tree, children_forest, next_forest}
use Rattle.swc_resolved.specs.Jumps.{targets}
use Rattle.swc_resolved.specs.Names.{is_taken}
use Rattle.swc_resolved.specs.Asked.{own_good, own_named, good, good_all, Passes}
use Rattle.swc_resolved.proofs.Aimed.{adds_none}
use Rattle.swc_resolved.proofs.Sizes.{children_fall, child_falls, rest_within}
use Rattle.swc_resolved.proofs.Plain.{leaf_passes}
use Rattle.swc_resolved.proofs.Good.{own_fails, own_binds_again, last_below, first_fails, rest_decides, rest_binds}
use Rattle.swc_resolved.proofs.names.Taken.+walk.Goals as goal

pub walk_all-walk-requires : goal.walk_all-walk-requires
walk_all-walk-requires t c = (let h = child_falls (node_tree c.in-Some.child) (children_forest c.in-Some.rest) (children_forest c.loop-child.left) (children_forest c.args.children) (c.next.ensures ∙ ap next_forest c.in-Some.is) c.loop-child.invariant.2 in omega (arith, h, c.decreases), tt)

pub walk_opened-walk_below-requires : goal.walk_opened-walk_below-requires
walk_opened-walk_below-requires t c = (let h = children_fall (node_tree c.args.n) (children_forest c.open-opened.result.children) c.open-opened.ensures.1 in omega (arith, h, c.decreases), tt)

pub walk-returns-in-Some : goal.walk-returns-in-Some
walk-returns-in-Some t c = leaf_passes c.is_leaf_fit.result c.args.core_too (targets c.args.g.now) (node_tree c.args.n) c.in-Some.leaf (is_taken c.args.self.now) c.in-Some.ensures c.is_leaf_fit.ensures

pub walk_opened-returns-then-not-branch : goal.walk_opened-returns-then-not-branch
walk_opened-returns-then-not-branch t c =
    let l = kind_label c.open-opened.result.kind in let cs = children_forest c.open-opened.result.children in let g = targets c.args.g.now in
    own_fails c.args.core_too g (node_tree c.args.n) l cs (is_taken c.args.self.now) (is_taken c.args.self.now) (λ x. scopes x (node_tree c.args.n)) c.open-opened.ensures.0 c.open-opened.ensures.1 (sym c.in_ok-is_own_good.ensures ∙ c.if-not-branch.true)

pub walk_opened-returns-then-not-branch-2 : goal.walk_opened-returns-then-not-branch-2
walk_opened-returns-then-not-branch-2 t c =
    let l = kind_label c.open-opened.result.kind in let cs = children_forest c.open-opened.result.children in let g = targets c.args.g.now in
    own_binds_again c.args.core_too g (is_taken c.args.self.now) (is_taken c.bind_named.new.self) (is_taken c.bind_named.new.self) (node_tree c.args.n) l cs c.open-opened.ensures.0 c.open-opened.ensures.1
    (subst (λ b. Passes b (own_named c.args.core_too l cs) (is_taken c.args.self.now) (is_taken c.bind_named.new.self) (λ x. own_scopes x l cs)) c.if-not-branch-2.true c.in_ok-bind_named.ensures)

pub walk_opened-returns : goal.walk_opened-returns
walk_opened-returns t c =
    let l = kind_label c.open-opened.result.kind in let cs = children_forest c.open-opened.result.children in let g = targets c.args.g.now in
    let own : own_good c.args.core_too g l cs ≡ true = sym c.in_ok-is_own_good.ensures ∙ c.if-not-branch.false in
    let first = subst (λ b. Passes b (own_named c.args.core_too l cs) (is_taken c.args.self.now) (is_taken c.bind_named.new.self) (λ x. own_scopes x l cs)) c.if-not-branch-2.false c.in_ok-bind_named.ensures in
    last_below c.walk_below.result c.args.core_too g (node_tree c.args.n) l cs (is_taken c.args.self.now) (is_taken c.bind_named.new.self) (is_taken c.walk_below.new.self) c.open-opened.ensures.0 c.open-opened.ensures.1 own first c.walk_below.ensures

pub walk_below-returns-in_default : goal.walk_below-returns-in_default
walk_below-returns-in_default t c =
    let k = c.args.kind in let cs = children_forest c.args.children in let d = c.in_default in
    subst (λ h. IfOk c.walk_all.result (λ b. Passes b (good_all c.args.core_too h cs) (is_taken c.args.self.now) (is_taken c.walk_all.new.self) (λ x. scopes_all x cs))) (c.inside-inner.ensures (adds_none k d.not-Labeled d.not-While d.not-DoWhile d.not-For)) c.walk_all.ensures

pub walk_all-returns-then-not-branch : goal.walk_all-returns-then-not-branch
walk_all-returns-then-not-branch t c =
    let v = c.args.core_too in let g = targets c.args.g.now in let child = node_tree c.in-Some.child in let cs = children_forest c.args.children in
    let fails = subst (λ b. Passes b (good v g child) (is_taken c.loop-child.self) (is_taken c.walk.new.self) (λ x. scopes x child)) c.if-not-branch.true c.in_ok-walk.ensures in
    first_fails v g (is_taken c.args.self.now) (is_taken c.loop-child.self) (is_taken c.walk.new.self) (is_taken c.walk.new.self) (λ x. scopes_all x cs) child (children_forest c.in-Some.rest) (children_forest c.loop-child.left) cs (c.next.ensures ∙ ap next_forest c.in-Some.is) c.loop-child.invariant.0 c.loop-child.invariant.1 fails

pub walk_all-loop-child-preserved : goal.walk_all-loop-child-preserved
walk_all-loop-child-preserved t c =
    let v = c.args.core_too in let g = targets c.args.g.now in let child = node_tree c.in-Some.child in let rest = children_forest c.in-Some.rest in let cs = children_forest c.args.children in
    let left = c.next.ensures ∙ ap next_forest c.in-Some.is in
    let passes = subst (λ b. Passes b (good v g child) (is_taken c.loop-child.self) (is_taken c.walk.new.self) (λ x. scopes x child)) c.if-not-branch.false c.in_ok-walk.ensures in (
      rest_decides v g (is_taken c.loop-child.self) (is_taken c.walk.new.self) child rest (children_forest c.loop-child.left) cs left passes c.loop-child.invariant.0,
      rest_binds (good v g child) (is_taken c.loop-child.self) (is_taken c.walk.new.self) (λ x. one_if (is_taken c.args.self.now x) + scopes_all x cs) child rest (children_forest c.loop-child.left) left passes c.loop-child.invariant.1,
      rest_within child rest (children_forest c.loop-child.left) cs left c.loop-child.invariant.2,
    )
