-- What the tree shaker left once it leaves again, as long as no name goes that it declares but those that went then.
use Rattle.std.proofs.Common.{◌≡◌, Bool, true, false, not, ◌&&◌, ◌||◌, if◌then◌else◌, List, [], ◌∷◌, ◌++◌, ◌⊎◌, inl, inr, refl, sym, ap, ap₂, subst, ◌∙◌}
use Rattle.std.proofs.lemmas.Bool.{false≢true, or_left, or_right, or_parts, or_cases, and_parts}
use Rattle.swc_ast.specs.declared.Span.{Span}
use Rattle.swc_ast.specs.Scope.{has_name}
use Rattle.swc_ast.specs.Tree.{Name, same_name, Label, VarDecl, Declarator, FnDecl, Import, ImportNamed, ImportDefault, ImportStar, Empty, Block, For, ExportDecl, Tree, node, Forest, ε, ◌⊳◌}
use Rattle.static_proofs.proofs.Names.{has_name_append, same_name_itself, same_name_path}
use Rattle.static_proofs.specs.Names.{is_some_tree}
use Rattle.tree_walk.specs.Walks.{Walks, closed, opened, passes, stands, stepped, Entered, plain, exported, headed, head_shut, imports, block, ListMade, listed, tidied, AllWalk, nothing, both}
use Rattle.tree_walk.proofs.Walked.{walks_same}
use Rattle.dce_rules.specs.Left.{any_of, is_plain_value}
use Rattle.dce_rules.specs.Shakes.{Shaker, goes_plainly, some_go, all_go, import_goes, item_goes, some_item_goes, Rests as FitsNone, shake_pass}
use Rattle.dce_rules.specs.Uses.{declared_by_node, declared_in, declared_among}
use Rattle.dce_uses.specs.Said.{OnlyFree}
use Rattle.dce_uses.specs.Tables.{is_free}
use Rattle.dce_uses.proofs.Adding.{and_false, or_false}
use Rattle.dce_code.specs.declared.known.Known.{Known}
use Rattle.dce_code.specs.Knowledge.{is_inner, may_go, shaker}
use Rattle.round_units.specs.Rests.{AllGo, OnlyGo, Settles}

from_not : (b : Bool) → not b ≡ true → b ≡ false
from_not true h = absurd (false≢true h)
from_not false h = refl

-- of what doesn't hold where something else doesn't
unless : (a b : Bool) → (b ≡ true → a ≡ true) → a ≡ false → b ≡ false
unless a true f h = absurd (false≢true (sym h ∙ f refl))
unless a false f h = refl

-- The same node or list by what two shakers know.
module _ (S Z : Shaker) where
  -- imports stay
  abbrev Stays : Type 0
  Stays = (S.drops_imports ≡ false) × (Z.drops_imports ≡ false)

  -- each name that a tree declares and that goes by the second goes by the first, and imports stay
  abbrev Less : Tree → Type 0
  Less t = (x : Name) → declared_in x t ≡ true → Z.free x ≡ true → (S.free x ≡ true) × Stays

  -- the same of trees in a row
  abbrev LessAll : Forest → Type 0
  LessAll ts = (x : Name) → declared_among x ts ≡ true → Z.free x ≡ true → (S.free x ≡ true) × Stays

  first_of : (t : Tree) (ts : Forest) → LessAll (t ⊳ ts) → Less t
  first_of t ts q = λ x h. q x (or_left (declared_in x t) (declared_among x ts) h)

  rest_of : (t : Tree) (ts : Forest) → LessAll (t ⊳ ts) → LessAll ts
  rest_of t ts q = λ x h. q x (or_right (declared_in x t) (declared_among x ts) h)

  below : (l : Label) (ss : List Span) (cs : Forest) → Less (node l ss cs) → LessAll cs
  below l ss cs q = λ x h. q x (or_right (has_name x (declared_by_node l)) (declared_among x cs) h)

  -- a node itself

  here : (x : Name) (l : Label) (ss : List Span) (cs : Forest) → declared_by_node l ≡ x ∷ [] → Less (node l ss cs) → Z.free x ≡ true → (S.free x ≡ true) × Stays
  here x l ss cs is q = q x (or_left (has_name x (declared_by_node l)) (declared_among x cs) (ap (has_name x) is ∙ or_left (same_name x x) false (same_name_itself x)))

  one_went : (x : Name) → (Z.free x ≡ true → (S.free x ≡ true) × Stays) → any_of Z.free (x ∷ []) ≡ true → (any_of S.free (x ∷ []) ≡ true) × Stays
  one_went x q g = let k = q (sym (or_false (Z.free x)) ∙ g) in (or_false (S.free x) ∙ k.0, k.1)

  valued_went : (b : Bool) (x : Name) → (Z.free x ≡ true → (S.free x ≡ true) × Stays) → any_of Z.free (if b then x ∷ [] else []) ≡ true → (any_of S.free (if b then x ∷ [] else []) ≡ true) × Stays
  valued_went true x q g = one_went x q g
  valued_went false x q g = absurd (false≢true g)

  went : (t : Tree) → Less t → goes_plainly Z t ≡ true → (goes_plainly S t ≡ true) × Stays
  went (node (FnDecl x) ss cs) q g = one_went x (here x (FnDecl x) ss cs refl q) g
  went (node (ImportNamed x i) ss cs) q g = one_went x (here x (ImportNamed x i) ss cs refl q) g
  went (node (ImportDefault x) ss cs) q g = one_went x (here x (ImportDefault x) ss cs refl q) g
  went (node (ImportStar x) ss cs) q g = one_went x (here x (ImportStar x) ss cs refl q) g
  went (node (Declarator k x) ss ε) q g = one_went x (here x (Declarator k x) ss ε refl q) g
  went (node (Declarator k x) ss (r ⊳ ε)) q g = valued_went (is_plain_value r) x (here x (Declarator k x) ss (r ⊳ ε) refl q) g
  went (node l ss cs) q g = absurd (false≢true g)

  some_went : (ts : Forest) → LessAll ts → some_go Z ts ≡ true → (some_go S ts ≡ true) × Stays
  some_went ε q g = absurd (false≢true g)
  some_went (t ⊳ ts) q g = by (goes_plainly Z t) refl (λ k. some_went ts (rest_of t ts q) k) g
    where
      by : (b : Bool) → goes_plainly Z t ≡ b → (some_go Z ts ≡ true → (some_go S ts ≡ true) × Stays) → (b || some_go Z ts) ≡ true → (some_go S (t ⊳ ts) ≡ true) × Stays
      by true e f k = let w = went t (first_of t ts q) e in (or_left (goes_plainly S t) (some_go S ts) w.0, w.1)
      by false e f k = let w = f k in (or_right (goes_plainly S t) (some_go S ts) w.0, w.1)

  import_stays : (cs : Forest) → LessAll cs → import_goes Z cs ≡ false
  import_stays ε q = and_false Z.drops_imports
  import_stays (t ⊳ ts) q = by (goes_plainly Z t) refl
    where
      by : (b : Bool) → goes_plainly Z t ≡ b → import_goes Z (t ⊳ ts) ≡ false
      by true e = ap (λ d. d && (is_some_tree (t ⊳ ts) && all_go Z (t ⊳ ts))) (went t (first_of t ts q) e).1.1
      by false e =
          ap (λ b. Z.drops_imports && (is_some_tree (t ⊳ ts) && (b && all_go Z ts))) e
          ∙ ap (λ b. Z.drops_imports && b) (and_false (is_some_tree (t ⊳ ts))) ∙ and_false Z.drops_imports

  -- no rule fits it by the second where none fits it by the first
  fits_none : (t : Tree) → Less t → FitsNone S t → FitsNone Z t
  fits_none (node (VarDecl k) ss ds) q r = ap not (unless (some_go S ds) (some_go Z ds) (λ g. (some_went ds (below (VarDecl k) ss ds q) g).0) (from_not (some_go S ds) r))
  fits_none (node (Import src) ss cs) q r = by (some_go Z cs) refl
    where
      none : (a b : Bool) → a ≡ false → b ≡ true → (a || not b) ≡ true → ⊥
      none a b e f k = false≢true (sym (ap₂ (λ x y. x || not y) e f) ∙ k)

      by : (b : Bool) → some_go Z cs ≡ b → FitsNone Z (node (Import src) ss cs)
      by true e = let w = some_went cs (below (Import src) ss cs q) e in absurd (none (import_goes S cs) (some_go S cs) (ap (λ d. d && (is_some_tree cs && all_go S cs)) w.1.0) w.0 r)
      by false e = or_right (import_goes Z cs) (not (some_go Z cs)) (ap not e)
  fits_none (node l ss cs) q r = refl

  -- an item of a list: an empty statement or an empty block goes whatever a shaker knows
  item_stays : (t : Tree) → item_goes S t ≡ false → Less t → item_goes Z t ≡ false
  item_stays (node (FnDecl x) ss cs) h q = unless (S.free x) (Z.free x) (λ g. (here x (FnDecl x) ss cs refl q g).0) h
  item_stays (node (Import src) ss cs) h q = import_stays cs (below (Import src) ss cs q)
  item_stays (node Empty ss ε) h q = h
  item_stays (node Block ss ε) h q = h
  item_stays (node l ss cs) h q = refl

  items_stay : (ts : Forest) → some_item_goes S ts ≡ false → LessAll ts → some_item_goes Z ts ≡ false
  items_stay ε h q = refl
  items_stay (t ⊳ ts) h q = let p = or_parts (item_goes S t) (some_item_goes S ts) h in ap₂ (λ a b. a || b) (item_stays t p.0 (first_of t ts q)) (items_stay ts p.1 (rest_of t ts q))

  -- a walk that took no step
  mutual
    walks : {c : Bool} {t u : Tree} → Walks (shake_pass S) c t u → c ≡ false → Less u → Walks (shake_pass Z) c t u
    walks (closed s) h q = closed s
    walks (opened s w) h q = absurd (false≢true (sym h))
    walks (passes i w) h q = passes i (entered w h q)
    walks (stands {b = b} w r) h q = stands (entered w h q) (fits_none b q r)
    walks (stepped w s) h q = absurd (false≢true (sym h))

    entered : {c : Bool} {t u : Tree} → Entered (shake_pass S) c t u → c ≡ false → Less u → Entered (shake_pass Z) c t u
    entered (plain {l = l} {ss = ss} {us = us} i ws) h q = plain i (all ws h (below l ss us q))
    entered (exported {l = l} {ss = ss} {rs = rs} {us = us} i ws) h q = exported i (all ws h (below l rs us (first_of (node l rs us) ε (below ExportDecl ss (node l rs us ⊳ ε) q))))
    entered (headed {c = c} {d = d} {k = k} {ss = ss} {rs = rs} {es = es} {us = us} ds ts) h q =
        let p = or_parts c d h in let inner = below For ss (node (VarDecl k) rs es ⊳ us) q in
        headed (all ds p.0 (below (VarDecl k) rs es (first_of (node (VarDecl k) rs es) us inner))) (all ts p.1 (rest_of (node (VarDecl k) rs es) us inner))
    entered (head_shut {h = head} {ss = ss} {us = us} s ws) h q = head_shut s (all ws h (rest_of head us (below For ss (head ⊳ us) q)))
    entered (imports i) h q = imports i
    entered (block {l = l} {ss = ss} {us = us} i w) h q = block i (list w h (below l ss us q))

    list : {l : Label} {c : Bool} {ts us : Forest} → ListMade (shake_pass S) l c ts us → c ≡ false → LessAll us → ListMade (shake_pass Z) l c ts us
    list (listed {us = us} ws k) h q = listed (all ws h q) (items_stay us k q)
    list (tidied ws s) h q = absurd (false≢true (sym h))

    all : {c : Bool} {ts us : Forest} → AllWalk (shake_pass S) c ts us → c ≡ false → LessAll us → AllWalk (shake_pass Z) c ts us
    all nothing h q = nothing
    all (both {c = c} {d = d} {u = u} {us = us} w ws) h q = let p = or_parts c d h in both (walks w p.0 (first_of u us q)) (all ws p.1 (rest_of u us q))

-- So what a walk left settles, beside names that went.
pub settles : (S : Shaker) (xs : List Name) (c : Bool) (a b : Tree) → c ≡ false → Walks (shake_pass S) c a b → AllGo S xs → Settles xs b
settles S xs c a b e w g = λ Z q. subst (λ t. Walks (shake_pass Z) false t b) (sym (walks_same w e)) (subst (λ d. Walks (shake_pass Z) d a b) e (walks S Z w e (less Z q)))
  where
    less : (Z : Shaker) → OnlyGo Z xs b → Less S Z b
    less Z q = λ x is free. let k = q x is free in let m = g x k.0 in (m.0, (m.1, k.1))

-- by what a shaker knows of a module in which no other is free
pub only_go : (k : Known) (xs : List Name) (t : Tree) → OnlyFree k.uses.now xs t → ((x : Name) → has_name x xs ≡ true → k.drops_imports ≡ false) → OnlyGo (shaker k) xs t
only_go k xs t h d = λ x is free. let f = h x is (and_parts (is_free k.uses.now x) (is_inner k x) (and_parts (may_go k x) (is_free k.uses.now x && is_inner k x) free).1).0 in (f, d x f)

-- one name more
pub one_more : (S : Shaker) (xs ys : List Name) (y : Name) → ys ≡ xs ++ y ∷ [] → S.free y ≡ true → S.drops_imports ≡ false → AllGo S xs → AllGo S ys
one_more S xs ys y is free stay g x h = by (or_cases (has_name x xs) (has_name x (y ∷ [])) (sym (ap (has_name x) is ∙ has_name_append x xs (y ∷ [])) ∙ h))
  where
    by : (has_name x xs ≡ true) ⊎ (has_name x (y ∷ []) ≡ true) → (S.free x ≡ true) × (S.drops_imports ≡ false)
    by (inl k) = g x k
    by (inr k) = (subst (λ z. S.free z ≡ true) (sym (same_name_path x y (sym (or_false (same_name x y)) ∙ k))) free, stay)
