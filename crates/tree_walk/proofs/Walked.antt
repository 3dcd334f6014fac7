-- How a walk is put together.
use Rattle.std.proofs.Common.{◌≡◌, ℕ, ◌+◌, ◌<◌, ◌≤◌, ◌++◌, length, Bool, true, false, ◌||◌, refl, sym, ap, ◌∙◌, subst, List, [], ◌∷◌, take, get_or, set, arith}
use Rattle.std.proofs.lemmas.Bool.{false≢true}
use Rattle.std.proofs.lemmas.List.{take_all, take_more, take_more_set}
use Rattle.std.specs.Prelude.{not, ◌&&◌}
use Rattle.swc_ast.specs.Tree as tree
use Rattle.swc_ast.specs.Tree.{Label, Tree, node, Forest, ε, ◌⊳◌}
use Rattle.swc_ast.specs.Parts.{list_trees, then_all}
use Rattle.swc_ast.specs.declared.Span.{Span}
use Rattle.tree_walk.specs.declared.rules.Place.{Place}
use Rattle.tree_walk.specs.declared.rules.Place.TheVariants as place
use Rattle.tree_walk.specs.Walks.{Walks, closed, opened, passes, stands, stepped, Entered, plain, exported, headed, head_shut, imports, block, ListMade, listed, tidied, Whole, shut, whole, AllWalk, nothing, both, Inside, parts, Opened, Stepped, Became, Fits, Placed, Each, none, more}
use Rattle.tree_walk.specs.Pass.{Pass, is_visited, may_pass, walks_each, is_unvisited, are_unvisited, is_shallow}

pub or_assoc : (a b c : Bool) → ((a || b) || c) ≡ (a || (b || c))
or_assoc true b c = refl
or_assoc false b c = refl

pub or_none : (a : Bool) → (a || false) ≡ a
or_none true = refl
or_none false = refl

pub or_true : (a : Bool) → (a || true) ≡ true
or_true true = refl
or_true false = refl

or_left : (a b : Bool) → (a || b) ≡ false → a ≡ false
or_left true b h = h
or_left false b h = refl

or_right : (a b : Bool) → (a || b) ≡ false → b ≡ false
or_right true true h = h
or_right true false h = refl
or_right false b h = h

pub inside_entered : {X : Pass} {c : Bool} {a b : Tree} → Inside X c a b → Entered X c a b
inside_entered (parts i ts) = plain i ts

pub and_left : (a b : Bool) → (a && b) ≡ true → a ≡ true
and_left true b h = refl
and_left false b h = h

pub and_right : (a b : Bool) → (a && b) ≡ true → b ≡ true
and_right true b h = h
and_right false true h = refl
and_right false false h = h

pub none_of : (b : Bool) → not b ≡ true → b ≡ false
none_of false h = refl
none_of true h = absurd (false≢true h)

-- what may go unseen, no rule sees everywhere
pub pass_unseen : (l : Label) → may_pass l ≡ true → is_visited l ≡ false
pass_unseen (tree.VarDecl k) h = refl
pass_unseen l h = none_of (is_visited l) h

-- nodes that no rule sees
mutual
  pub walks_unvisited : (X : Pass) (t : Tree) → is_unvisited t ≡ true → Walks X false t t
  walks_unvisited X (node l ss ts) h = passes (and_left (may_pass l) (are_unvisited ts) (and_right (walks_each l) (may_pass l && are_unvisited ts) h)) (plain (and_left (walks_each l) (may_pass l && are_unvisited ts) h) (all_unvisited X ts (and_right (may_pass l) (are_unvisited ts) (and_right (walks_each l) (may_pass l && are_unvisited ts) h))))

  pub all_unvisited : (X : Pass) (ts : Forest) → are_unvisited ts ≡ true → AllWalk X false ts ts
  all_unvisited X ε h = nothing
  all_unvisited X (t ⊳ ts) h = both (walks_unvisited X t (and_left (is_unvisited t) (are_unvisited ts) h)) (all_unvisited X ts (and_right (is_unvisited t) (are_unvisited ts) h))

pub shallow_inside : (X : Pass) (t : Tree) → is_shallow t ≡ true → Inside X false t t
shallow_inside X (node l ss ts) h = parts (and_left (walks_each l) (are_unvisited ts) h) (all_unvisited X ts (and_right (walks_each l) (are_unvisited ts) h))

-- the same of what is made of a variant
pub unvisited_at : {N : Type 0} (X : Pass) (f : N → Tree) {e : N} {t : Tree} → f e ≡ t → is_unvisited t ≡ true → Walks X false (f e) (f e)
unvisited_at X f {e} {t} is h = walks_unvisited X (f e) (ap is_unvisited is ∙ h)

pub shallow_at : {N : Type 0} (X : Pass) (f : N → Tree) {e : N} {t : Tree} → f e ≡ t → is_shallow t ≡ true → Inside X false (f e) (f e)
shallow_at X f {e} {t} is h = shallow_inside X (f e) (ap is_shallow is ∙ h)

pub entered_at_shallow : {N : Type 0} (X : Pass) (f : N → Tree) {e : N} {t : Tree} → f e ≡ t → is_shallow t ≡ true → Entered X false (f e) (f e)
entered_at_shallow X f {e} {t} is h = inside_entered (shallow_at X f is h)

-- where no step was taken, nothing changed
mutual
  pub walks_same : {X : Pass} {c : Bool} {a b : Tree} → Walks X c a b → c ≡ false → b ≡ a
  walks_same (closed s) h = refl
  walks_same (opened s w) h = absurd (false≢true (sym h))
  walks_same (passes i w) h = entered_same w h
  walks_same (stands w r) h = entered_same w h
  walks_same (stepped w s) h = absurd (false≢true (sym h))

  pub entered_same : {X : Pass} {c : Bool} {a b : Tree} → Entered X c a b → c ≡ false → b ≡ a
  entered_same (plain {l = l} {ss = ss} i ts) h = ap (node l ss) (all_same ts h)
  entered_same (exported {l = l} {ss = ss} {rs = rs} i ts) h = ap (λ k. node tree.ExportDecl ss (node l rs k ⊳ ε)) (all_same ts h)
  entered_same (headed {c = c} {d = d} {k = k} {ss = ss} {rs = rs} ds ts) h = cc (all_same ds (or_left c d h), all_same ts (or_right c d h))
  entered_same (head_shut {h = head} {ss = ss} i ts) h = ap (λ k. node tree.For ss (head ⊳ k)) (all_same ts h)
  entered_same (imports i) h = refl
  entered_same (block {l = l} {ss = ss} i w) h = ap (node l ss) (list_same w h)

  pub list_same : {X : Pass} {l : Label} {c : Bool} {ts us : Forest} → ListMade X l c ts us → c ≡ false → us ≡ ts
  list_same (listed ts k) h = all_same ts h
  list_same (tidied ts s) h = absurd (false≢true (sym h))

  pub all_same : {X : Pass} {c : Bool} {ts us : Forest} → AllWalk X c ts us → c ≡ false → us ≡ ts
  all_same nothing h = refl
  all_same (both {c = c} {d = d} w ws) h = cc (walks_same w (or_left c d h), all_same ws (or_right c d h))

pub passed : {X : Pass} {c : Bool} {l : Label} {ss : List Span} {ts us : Forest} → may_pass l ≡ true → walks_each l ≡ true → AllWalk X c ts us → Walks X c (node l ss ts) (node l ss us)
passed h i ws = passes h (plain i ws)

-- a node that no rule sees but one of its own
abbrev pub is_passed : Tree → Bool
is_passed (node l ss ts) = may_pass l

passed_by : {X : Pass} {c : Bool} {a b : Tree} → is_passed b ≡ true → Inside X c a b → Walks X c a b
passed_by h (parts i ts) = passes h (plain i ts)

pub shortened : {X : Pass} {a b e : Tree} (c d : Bool) → is_passed b ≡ true → Inside X c a b → Stepped X d b e → Walks X (c || d) a e
shortened {X} {a} {b} {e} c true h w s = subst (λ k. Walks X k a e) (sym (or_true c)) (stepped (inside_entered w) s)
shortened {X} {a} {b} {e} c false h w s = subst (λ k. Walks X k a e) (sym (or_none c)) (subst (λ k. Walks X c a k) (sym s) (passed_by h w))

pub walks_at : {X : Pass} {c : Bool} {a b x y : Tree} → a ≡ x → b ≡ y → Walks X c x y → Walks X c a b
walks_at {X} {c} {a} {b} {x} {y} p q h = subst (λ z. Walks X c z b) (sym p) (subst (λ z. Walks X c x z) (sym q) h)

pub inside_at : {X : Pass} {c : Bool} {a b x y : Tree} → a ≡ x → b ≡ y → Inside X c x y → Inside X c a b
inside_at {X} {c} {a} {b} {x} {y} p q h = subst (λ z. Inside X c z b) (sym p) (subst (λ z. Inside X c x z) (sym q) h)

pub entered_at : {X : Pass} {c : Bool} {a b x y : Tree} → a ≡ x → b ≡ y → Entered X c x y → Entered X c a b
entered_at {X} {c} {a} {b} {x} {y} p q h = subst (λ z. Entered X c z b) (sym p) (subst (λ z. Entered X c x z) (sym q) h)

pub whole_same : {X : Pass} {c : Bool} {a b : Tree} → Whole X c a b → c ≡ false → b ≡ a
whole_same (shut s) h = refl
whole_same (whole {l = l} {ss = ss} i w) h = ap (node l ss) (list_same w h)

-- a node whose label is the same fits where the other does
pub fits_inside : {X : Pass} {c : Bool} {a b : Tree} (p : Place) → Inside X c a b → Fits p a → Fits p b
fits_inside place.Value (parts i ts) h = h
fits_inside place.Statement (parts i ts) h = h
fits_inside place.Part (parts i ts) h = h
fits_inside place.Callee (parts i ts) h = h
fits_inside place.TypeOf (parts i ts) h = h
fits_inside place.Delete (parts i ts) h = h

pub made_then : {X : Pass} {a b e : Tree} (c d : Bool) → Entered X c a b → Became X d b e → Walks X (c || d) a e
made_then {X} {a} {b} {e} c true w s = subst (λ k. Walks X k a e) (sym (or_true c)) (stepped w s)
made_then {X} {a} {b} {e} c false w s = subst (λ k. Walks X k a e) (sym (or_none c)) (stands (subst (λ k. Entered X c a k) (sym s.0) w) s.1)

pub placed_then : {X : Pass} {a b e : Tree} (p : Place) (c d : Bool) → Inside X c a b → Became X d b e → (Fits p b → Fits p e) → Placed X p a e (c || d)
placed_then p c d w s fits = (made_then c d (inside_entered w) s, λ h. fits (fits_inside p w h))

-- a step in front of a walk, if any
pub opened_then : {X : Pass} {a b e : Tree} (c d : Bool) → Opened X c a b → Walks X d b e → Walks X (c || d) a e
opened_then true d s w = opened s w
opened_then {X} {e = e} false d s w = subst (λ k. Walks X d k e) s w

pub placed_opened : {X : Pass} {a b e : Tree} (p : Place) (c d : Bool) → Opened X c a b → (Fits p a → Fits p b) → Placed X p b e d → Placed X p a e (c || d)
placed_opened p c d s fits w = (opened_then c d s w.0, λ h. w.1 (fits h))

pub opened_closed : {X : Pass} {a b : Tree} (c : Bool) → Opened X c a b → X.skips b → Walks X c a b
opened_closed {X} {a} {b} c s k = subst (λ d. Walks X d a b) (or_none c) (opened_then c false s (closed k))

pub placed_closed : {X : Pass} {a b : Tree} (p : Place) (c : Bool) → Opened X c a b → (Fits p a → Fits p b) → X.skips b → Placed X p a b c
placed_closed p c s fits k = (opened_closed c s k, fits)

pub one_child : {X : Pass} {c : Bool} {t u : Tree} → Walks X c t u → AllWalk X c (t ⊳ ε) (u ⊳ ε)
one_child {X} {c} {t} {u} w = subst (λ k. AllWalk X k (t ⊳ ε) (u ⊳ ε)) (or_none c) (both w nothing)

pub all_then : {X : Pass} {c d : Bool} {vs ws ts us : Forest} → AllWalk X c vs ws → AllWalk X d ts us → AllWalk X (c || d) (then_all vs ts) (then_all ws us)
all_then nothing h = h
all_then {X} {d = e} {ts = ts} {us = us} (both {c = c} {d = d} {t = t} {u = u} {ts = vs} {us = ws} w rest) h = subst (λ k. AllWalk X k (t ⊳ then_all vs ts) (u ⊳ then_all ws us)) (sym (or_assoc c d e)) (both w (all_then rest h))

pub or_comm : (a b : Bool) → (a || b) ≡ (b || a)
or_comm true true = refl
or_comm true false = refl
or_comm false true = refl
or_comm false false = refl

pub two_children : {X : Pass} {c d : Bool} {t u v w : Tree} → Walks X c t u → Walks X d v w → AllWalk X (c || d) (t ⊳ v ⊳ ε) (u ⊳ w ⊳ ε)
two_children h k = both h (one_child k)

-- a list of nodes
pub each_list : {N : Type 0} {X : Pass} {f : N → Tree} {xs ys : List N} {c : Bool} → Each (λ x y d. Walks X d (f x) (f y)) xs ys c → AllWalk X c (list_trees f xs) (list_trees f ys)
each_list none = nothing
each_list (more w rest) = both w (each_list rest)

pub each_append : {N : Type 0} (P : N → N → Bool → Type 0) {xs ys : List N} {x y : N} {c d : Bool} → Each P xs ys c → P x y d → Each P (xs ++ x ∷ []) (ys ++ y ∷ []) (c || d)
each_append P {xs} {ys} {x} {y} {c} {d} none p = subst (λ k. Each P (x ∷ []) (y ∷ []) k) (or_none d) (more p none)
each_append P {xs} {ys} {x} {y} {c} {d} (more {x = v} {y = w} {xs = vs} {ys = ws} {c = a} {d = b} q rest) p = subst (λ k. Each P (v ∷ vs ++ x ∷ []) (w ∷ ws ++ y ∷ []) k) (sym (or_assoc a b d)) (more q (each_append P rest p))

-- one more turn of a loop that walks a list in place
pub each_more : {N : Type 0} (P : N → N → Bool → Type 0) (xs ys : List N) (i : ℕ) (x y : N) (c d : Bool) → i < length xs → length ys ≡ length xs → x ≡ get_or xs i x → P x y d → Each P (take i xs) (take i ys) c → Each P (take (i + 1) xs) (take (i + 1) (set ys i y)) (c || d)
each_more P xs ys i x y c d lt same at p h =
    let inner : i < length ys = omega (arith, same, lt) in
    subst (λ k. Each P k (take (i + 1) (set ys i y)) (c || d)) (sym (take_more xs i x lt ∙ ap (λ k. take i xs ++ k ∷ []) (sym at))) (subst (λ k. Each P (take i xs ++ x ∷ []) k (c || d)) (sym (take_more_set ys i y inner)) (each_append P h p))

-- a loop that has walked the whole list
pub each_all : {N : Type 0} (P : N → N → Bool → Type 0) (xs ys : List N) (i : ℕ) (c : Bool) → length xs ≤ i → length ys ≡ length xs → Each P (take i xs) (take i ys) c → Each P xs ys c
each_all P xs ys i c all same h =
    let inner : length ys ≤ i = omega (arith, same, all) in
    subst (λ k. Each P k ys c) (take_all i xs all) (subst (λ k. Each P (take i xs) k c) (take_all i ys inner) h)
