-- The contract of the walk says that it is finished at each node.
use Rattle.std.proofs.Common.{◌≡◌, Bool, true, false, List, refl}
use Rattle.std.proofs.lemmas.Bool.{false≢true, true≢false}
use Rattle.std.specs.Prelude.{not, ◌&&◌}
use Rattle.swc_ast.specs.Labels.{is_block, is_whole, is_declaration}
use Rattle.swc_ast.specs.declared.Span.{Span}
use Rattle.swc_ast.specs.declared.VarDeclKind.{VarDeclKind}
use Rattle.swc_ast.specs.Tree.{Label, Block, Body, CaseBody, Module, Script, VarDecl, FnDecl, Tree, node, Forest, ε, ◌⊳◌}
use Rattle.swc_ast.specs.Weight.{is_list}
use Rattle.static_proofs.specs.Walks as finished
use Rattle.static_proofs.specs.Walks.{Leaves, AllLeave}
use Rattle.tree_walk.specs.Pass.{Pass, is_visited, may_pass, only_head, walks_each, is_apart, are_unvisited, is_unvisited}
use Rattle.tree_walk.specs.Walks.{Walks, closed, opened, passes, stands, stepped, plain, exported, headed, head_shut, imports, block, listed, tidied, Whole, shut, whole, AllWalk, nothing, both}
use Rattle.tree_walk.proofs.Walked.{and_left, and_right, none_of, pass_unseen}
use Rattle.walk_proofs.specs.Finished.{Does, at_front, at_node, at_list, at_both, Closed, closed_node, closed_head, Finished}

pub block_list : (l : Label) → is_block l ≡ true → is_list l ≡ true
block_list Block h = refl
block_list Body h = refl
block_list CaseBody h = refl
block_list l h = absurd (false≢true h)

pub whole_list : (l : Label) → is_whole l ≡ true → is_list l ≡ true
whole_list Module h = refl
whole_list Script h = refl
whole_list l h = absurd (false≢true h)

whole_unseen : (l : Label) → is_whole l ≡ true → is_visited l ≡ false
whole_unseen Module h = refl
whole_unseen Script h = refl
whole_unseen l h = absurd (false≢true h)

declaration_unseen : (l : Label) → is_declaration l ≡ true → is_visited l ≡ false
declaration_unseen (VarDecl k) h = refl
declaration_unseen (FnDecl x) h = refl
declaration_unseen l h = absurd (false≢true h)

declaration_no_list : (l : Label) → is_declaration l ≡ true → is_list l ≡ false
declaration_no_list (VarDecl k) h = refl
declaration_no_list (FnDecl x) h = refl
declaration_no_list l h = absurd (false≢true h)

plain_no_list : (l : Label) → walks_each l ≡ true → is_list l ≡ false
plain_no_list l h = none_of (is_list l) (and_left (not (is_list l)) (not (is_apart l)) h)

clash : {A : Type 0} (b : Bool) → b ≡ false → b ≡ true → A
clash true h k = absurd (true≢false h)
clash false h k = absurd (false≢true k)

module _ {X : Pass} where
  -- no list, and a rule that fits nothing or none at all
  node_finished : (l : Label) (ss : List Span) (ts : Forest) → is_list l ≡ false → X.rests (node l ss ts) → Finished X (node l ss ts)
  node_finished l ss ts h r = record { rests_there = λ e. r; tidy_there = λ e. clash (is_list l) h e }

  unseen_finished : (l : Label) (ss : List Span) (ts : Forest) → is_list l ≡ false → is_visited l ≡ false → Finished X (node l ss ts)
  unseen_finished l ss ts h i = record { rests_there = λ e. clash (is_visited l) i e; tidy_there = λ e. clash (is_list l) h e }

  list_finished : (l : Label) (ss : List Span) (ts : Forest) → X.rests (node l ss ts) → X.tidy l ts → Finished X (node l ss ts)
  list_finished l ss ts r t = record { rests_there = λ e. r; tidy_there = λ e. t }

  unseen_list_finished : (l : Label) (ss : List Span) (ts : Forest) → is_visited l ≡ false → X.tidy l ts → Finished X (node l ss ts)
  unseen_list_finished l ss ts i t = record { rests_there = λ e. clash (is_visited l) i e; tidy_there = λ e. t }

  pub exported_leaves : (l : Label) (ss : List Span) {ts us : Forest} → is_declaration l ≡ true → AllLeave (Closed X) (Finished X) (Does X) ts us → AllLeave (Closed X) (Finished X) (Does X) (node l ss ts ⊳ ε) (node l ss us ⊳ ε)
  exported_leaves l ss {ts} {us} i ws = finished.more_left (finished.stands ws (unseen_finished l ss us (declaration_no_list l i) (declaration_unseen l i))) finished.none_left

  -- the head of a `for`, and what stands behind it
  pub headed_leaves : (k : VarDeclKind) (ss : List Span) {ds es ts us : Forest} → AllLeave (Closed X) (Finished X) (Does X) ds es → AllLeave (Closed X) (Finished X) (Does X) ts us → AllLeave (Closed X) (Finished X) (Does X) (node (VarDecl k) ss ds ⊳ ts) (node (VarDecl k) ss es ⊳ us)
  headed_leaves k ss {es = es} ds ws = finished.more_left (finished.stands ds (unseen_finished (VarDecl k) ss es refl refl)) ws

  pub shut_leaves : {h : Tree} {ts us : Forest} → X.skips (only_head h) → AllLeave (Closed X) (Finished X) (Does X) ts us → AllLeave (Closed X) (Finished X) (Does X) (h ⊳ ts) (h ⊳ us)
  shut_leaves s ws = finished.more_left (finished.closed (closed_head s)) ws

  mutual
    unvisited_leaves : (t : Tree) → is_unvisited t ≡ true → Leaves (Closed X) (Finished X) (Does X) t t
    unvisited_leaves (node l ss ts) h = finished.stands (all_unvisited_leave ts (and_right (may_pass l) (are_unvisited ts) (and_right (walks_each l) (may_pass l && are_unvisited ts) h))) (unseen_finished l ss ts (plain_no_list l (and_left (walks_each l) (may_pass l && are_unvisited ts) h)) (pass_unseen l (and_left (may_pass l) (are_unvisited ts) (and_right (walks_each l) (may_pass l && are_unvisited ts) h))))

    pub all_unvisited_leave : (ts : Forest) → are_unvisited ts ≡ true → AllLeave (Closed X) (Finished X) (Does X) ts ts
    all_unvisited_leave ε h = finished.none_left
    all_unvisited_leave (t ⊳ ts) h = finished.more_left (unvisited_leaves t (and_left (is_unvisited t) (are_unvisited ts) h)) (all_unvisited_leave ts (and_right (is_unvisited t) (are_unvisited ts) h))

  mutual
    pub leaves : {c : Bool} {a b : Tree} → Walks X c a b → Leaves (Closed X) (Finished X) (Does X) a b
    leaves (closed s) = finished.closed (closed_node s)
    leaves (opened s w) = finished.opened (at_front s) (leaves w)
    leaves (passes i (plain {l = l} {ss = ss} {us = us} p ws)) = finished.stands (all_leave ws) (unseen_finished l ss us (plain_no_list l p) (pass_unseen l i))
    leaves (passes i (exported d ws)) = absurd (false≢true i)
    leaves (passes i (headed ds ws)) = absurd (false≢true i)
    leaves (passes i (head_shut s ws)) = absurd (false≢true i)
    leaves (passes i (imports u)) = absurd (false≢true i)
    leaves (passes i (block {l = l} {ss = ss} b (listed {us = us} ws t))) = finished.stands (all_leave ws) (unseen_list_finished l ss us (pass_unseen l i) t)
    leaves (passes i (block {l = l} b (tidied ws t))) = finished.steps (all_leave ws) (at_list (block_list l b) t)
    leaves (stands (plain {l = l} {ss = ss} {us = us} p ws) r) = finished.stands (all_leave ws) (node_finished l ss us (plain_no_list l p) r)
    leaves (stands (exported {l = l} {ss = ss} {rs = rs} {us = us} d ws) r) = finished.stands (exported_leaves l rs d (all_leave ws)) (record { rests_there = λ e. r; tidy_there = λ e. absurd (false≢true e) })
    leaves (stands (headed {k = k} {rs = rs} ds ws) r) = finished.stands (headed_leaves k rs (all_leave ds) (all_leave ws)) (record { rests_there = λ e. r; tidy_there = λ e. absurd (false≢true e) })
    leaves (stands (head_shut s ws) r) = finished.stands (shut_leaves s (all_leave ws)) (record { rests_there = λ e. r; tidy_there = λ e. absurd (false≢true e) })
    leaves (stands (imports {ts = ts} u) r) = finished.stands (all_unvisited_leave ts u) (record { rests_there = λ e. r; tidy_there = λ e. absurd (false≢true e) })
    leaves (stands (block {l = l} {ss = ss} b (listed {us = us} ws t)) r) = finished.stands (all_leave ws) (list_finished l ss us r t)
    leaves (stands (block {l = l} b (tidied ws t)) r) = finished.steps (all_leave ws) (at_list (block_list l b) t)
    leaves (stepped (plain p ws) s) = finished.steps (all_leave ws) (at_node s)
    leaves (stepped (exported {l = l} {rs = rs} d ws) s) = finished.steps (exported_leaves l rs d (all_leave ws)) (at_node s)
    leaves (stepped (headed {k = k} {rs = rs} ds ws) s) = finished.steps (headed_leaves k rs (all_leave ds) (all_leave ws)) (at_node s)
    leaves (stepped (head_shut i ws) s) = finished.steps (shut_leaves i (all_leave ws)) (at_node s)
    leaves (stepped (imports {ts = ts} u) s) = finished.steps (all_unvisited_leave ts u) (at_node s)
    leaves (stepped (block b (listed ws t)) s) = finished.steps (all_leave ws) (at_node s)
    leaves (stepped (block {l = l} b (tidied ws t)) s) = finished.steps (all_leave ws) (at_both (block_list l b) t s)

    pub all_leave : {c : Bool} {ts us : Forest} → AllWalk X c ts us → AllLeave (Closed X) (Finished X) (Does X) ts us
    all_leave nothing = finished.none_left
    all_leave (both w ws) = finished.more_left (leaves w) (all_leave ws)

  pub whole_leaves : {c : Bool} {a b : Tree} → Whole X c a b → Leaves (Closed X) (Finished X) (Does X) a b
  whole_leaves (shut s) = finished.closed (closed_node s)
  whole_leaves (whole {l = l} {ss = ss} i (listed {us = us} ws t)) = finished.stands (all_leave ws) (unseen_list_finished l ss us (whole_unseen l i) t)
  whole_leaves (whole {l = l} i (tidied ws t)) = finished.steps (all_leave ws) (at_list (whole_list l i) t)
