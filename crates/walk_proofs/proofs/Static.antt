-- A pass whose steps owe nothing: its walk keeps a module resolved and in the core, changes nothing or makes it lighter, and
-- what it leaves as it is holds no redex of its kind.
use Rattle.std.proofs.Common.{◌≡◌, ℕ, ◌<◌, Bool, true, false, ◌||◌, List, refl, ap, arith, ◌⊎◌, inl, inr}
use Rattle.std.proofs.lemmas.Bool.{false≢true, or_parts}
use Rattle.swc_ast.specs.declared.Span.{Span}
use Rattle.swc_ast.specs.Tree.{Name, Label, For, Import, ExportDecl, Tree, node, Forest, ε, ◌⊳◌, children_of}
use Rattle.swc_ast.specs.Scope.{has_name}
use Rattle.swc_ast.specs.Weight.{weight}
use Rattle.swc_ast.specs.Resolved.{IsResolved}
use Rattle.swc_ast.specs.Core.{IsCore}
use Rattle.static_proofs.specs.Spares.{exports_of}
use Rattle.static_proofs.specs.Lighter.{Weighed, Lowers, is_settled}
use Rattle.static_proofs.specs.Step.{Step}
use Rattle.static_proofs.specs.Free.{has_kind, kind_at}
use Rattle.static_proofs.specs.Walks.{AllLeave}
use Rattle.static_proofs.proofs.Walked.{leaves_walks}
use Rattle.static_proofs.proofs.Static.{walk_resolved, walk_core}
use Rattle.static_proofs.proofs.Lighter.{leaves_weighed, all_leave_weighed, inside_weighed, step_lower, lower_then}
use Rattle.static_proofs.proofs.Free.{unchanged_free}
use Rattle.tree_walk.specs.Pass.{Pass, only_head}
use Rattle.tree_walk.specs.Walks.{Walks, closed, opened, passes, stands, stepped, Entered, plain, exported, headed, head_shut, imports, block, listed, tidied, Whole, shut, whole, AllWalk, nothing, both}
use Rattle.tree_walk.proofs.Walked.{whole_same}
use Rattle.walk_proofs.specs.Finished.{Does, at_front, at_node, at_list, at_both, Closed, closed_node, closed_head, Finished}
use Rattle.walk_proofs.proofs.Finished.{leaves, all_leave, whole_leaves, exported_leaves, headed_leaves, shut_leaves, all_unvisited_leave, block_list, whole_list}

pub whole_resolved : {N : Type 0} {P : Name → Type 0} {X : Pass} {mark : ℕ} {c : Bool} {t u : Tree} → ((a b : Tree) → Does X a b → Step N P a b) → ((x : Name) → has_name x (exports_of t) ≡ true → P x) → Whole X c t u → IsResolved mark t → IsResolved mark u
whole_resolved f p w r = walk_resolved f p (leaves_walks (whole_leaves w)) r

pub whole_core : {N : Type 0} {P : Name → Type 0} {X : Pass} {c : Bool} {t u : Tree} → ((a b : Tree) → Does X a b → Step N P a b) → Whole X c t u → IsCore t → IsCore u
whole_core f w r = walk_core f (leaves_walks (whole_leaves w)) r

-- the children of the first child
abbrev inner_trees : Tree → Forest
inner_trees (node l ss ε) = ε
inner_trees (node l ss (t ⊳ ts)) = children_of t

abbrev first_or : Tree → Forest → Tree
first_or d ε = d
first_or d (t ⊳ ts) = t

abbrev rest_of : Forest → Forest
rest_of ε = ε
rest_of (t ⊳ ts) = ts

module _ {N : Type 0} {X : Pass} (settled : (b : Tree) → Finished X b → N → is_settled b) (lowers : (b c : Tree) → Does X b c → Lowers N b c) where
  lower_at : (l : Label) (ss : List Span) {ts us : Forest} {v : Tree} → AllLeave (Closed X) (Finished X) (Does X) ts us → Does X (node l ss us) v → v ≡ node l ss ts → ⊥
  lower_at l ss {ts} {us} {v} h x e = omega (arith, ap weight e, step_lower (inside_weighed l ss (all_leave_weighed settled lowers h)) (lowers (node l ss us) v x))

  -- where a step was taken, the tree is another
  mutual
    differs : {c : Bool} {a b : Tree} → Walks X c a b → c ≡ true → b ≡ a → ⊥
    differs (closed s) h e = absurd (false≢true h)
    differs (opened {t = t} {u = u} s w) h e = omega (arith, ap weight e, lower_then (lowers t u (at_front s)) (leaves_weighed settled lowers (leaves w)))
    differs (passes i w) h e = node_differs w h e
    differs (stands w r) h e = node_differs w h e
    differs (stepped (plain {l = l} {ss = ss} p ws) s) h e = lower_at l ss (all_leave ws) (at_node s) e
    differs (stepped (exported {l = l} {ss = ss} {rs = rs} d ws) s) h e = lower_at ExportDecl ss (exported_leaves l rs d (all_leave ws)) (at_node s) e
    differs (stepped (headed {k = k} {ss = ss} {rs = rs} ds ws) s) h e = lower_at For ss (headed_leaves k rs (all_leave ds) (all_leave ws)) (at_node s) e
    differs (stepped (head_shut {ss = ss} i ws) s) h e = lower_at For ss (shut_leaves i (all_leave ws)) (at_node s) e
    differs (stepped (imports {src = src} {ss = ss} {ts = ts} u) s) h e = lower_at (Import src) ss (all_unvisited_leave ts u) (at_node s) e
    differs (stepped (block {l = l} {ss = ss} b (listed ws t)) s) h e = lower_at l ss (all_leave ws) (at_node s) e
    differs (stepped (block {l = l} {ss = ss} b (tidied ws t)) s) h e = lower_at l ss (all_leave ws) (at_both (block_list l b) t s) e

    node_differs : {c : Bool} {a b : Tree} → Entered X c a b → c ≡ true → b ≡ a → ⊥
    node_differs (plain p ws) h e = all_differ ws h (ap children_of e)
    node_differs (exported d ws) h e = all_differ ws h (ap inner_trees e)
    node_differs (headed {c = true} ds ws) h e = all_differ ds refl (ap inner_trees e)
    node_differs (headed {c = false} ds ws) h e = all_differ ws h (ap (λ t. rest_of (children_of t)) e)
    node_differs (head_shut i ws) h e = all_differ ws h (ap (λ t. rest_of (children_of t)) e)
    node_differs (imports u) h e = absurd (false≢true h)
    node_differs (block b (listed ws t)) h e = all_differ ws h (ap children_of e)
    node_differs (block {l = l} {ss = ss} b (tidied ws t)) h e = lower_at l ss (all_leave ws) (at_list (block_list l b) t) e

    all_differ : {c : Bool} {ts us : Forest} → AllWalk X c ts us → c ≡ true → us ≡ ts → ⊥
    all_differ nothing h e = absurd (false≢true h)
    all_differ (both {c = true} {t = t} w ws) h e = differs w refl (ap (first_or t) e)
    all_differ (both {c = false} w ws) h e = all_differ ws h (ap rest_of e)

  whole_differs : {c : Bool} {a b : Tree} → Whole X c a b → c ≡ true → b ≡ a → ⊥
  whole_differs (shut s) h e = absurd (false≢true h)
  whole_differs (whole i (listed ws t)) h e = all_differ ws h (ap children_of e)
  whole_differs (whole {l = l} {ss = ss} i (tidied ws t)) h e = lower_at l ss (all_leave ws) (at_list (whole_list l i) t) e

  pub whole_weighed : {c : Bool} {t u : Tree} → Whole X c t u → Weighed N t u
  whole_weighed w = leaves_weighed settled lowers (whole_leaves w)

  -- where a step was taken, the tree is lighter
  pub whole_falls : {t u : Tree} → Whole X true t u → weight u < weight t
  whole_falls {t} {u} w = by_case (whole_weighed w).outcome
    where
      by_case : (u ≡ t) ⊎ (weight u < weight t) → weight u < weight t
      by_case (inl e) = absurd (whole_differs w refl e)
      by_case (inr h) = h

  -- where no step was taken, no redex of a kind is left
  closed_free : {k : Label → Forest → Bool} → ((b : Tree) → X.skips b → has_kind k b ≡ false) → (b : Tree) → Closed X b → has_kind k b ≡ false
  closed_free none b (closed_node s) = none b s
  closed_free {k} none b (closed_head s) = (or_parts (has_kind k b) false (or_parts (k For (b ⊳ ε)) (has_kind k b || false) (none (only_head b) s)).1).0

  pub whole_free : (k : Label → Forest → Bool) → ((b : Tree) → Finished X b → kind_at k b ≡ false) → ((b : Tree) → X.skips b → has_kind k b ≡ false) → {t u : Tree} → Whole X false t u → has_kind k t ≡ false
  whole_free k free none w = unchanged_free N (Closed X) (Finished X) (Does X) k settled lowers free (closed_free none) (whole_leaves w) (whole_same w refl)
