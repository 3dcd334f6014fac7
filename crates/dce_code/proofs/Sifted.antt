-- Lists out of which some items go.
use Rattle.std.proofs.Common.{◌≡◌, ◌≤◌, ◌<◌, ℕ, Bool, true, false, not, ◌||◌, List, [], ◌∷◌, length, filter, cond, nat_lt, ◌==◌, refl, sym, ap, subst, ◌∙◌, arith}
use Rattle.std.proofs.lemmas.Bool.{false≢true, true≢false, lt-ltb, le-ltb}
use Rattle.std.specs.Cmp.{unsigned_Decides}
use Rattle.swc_ast.specs.Tree.{Tree, node, Forest, ε, ◌⊳◌}
use Rattle.swc_ast.specs.Parts.{list_trees}
use Rattle.swc_ast.specs.Valid.{count}
use Rattle.walk_proofs.specs.Meant.{Sifts, sifted, stays_there, goes_there}
use Rattle.swc_ast.specs.Tree.{Block, Import, Text}
use Rattle.swc_ast.specs.declared.Span.{Span}
use Rattle.swc_ast.specs.declared.statements.Stmt.{Stmt}
use Rattle.stmt_like.specs.Kept.{Kept}
use Rattle.stmt_like.proofs.Kept.{kept_filter}
use Rattle.static_proofs.specs.Names.{is_some_tree}
use Rattle.tree_walk.specs.Walks.{Became}
use Rattle.dce_rules.specs.Shakes.{Shaker, goes_plainly, item_goes, some_go, some_item_goes, import_goes, items_go, specifiers_go, shake_pass}
use Rattle.dce_code.specs.Lists.{any_goes, Sifted, ListShaken}

-- what stays of a list where items go by a test of their trees
pub sifts_filter : {X : Type 0} (f : X → Tree) (G : Tree → Bool) (xs : List X) → Sifts (λ t. G t ≡ true) (list_trees f xs) (list_trees f (filter (λ x. not (G (f x))) xs))
sifts_filter f G [] = sifted
sifts_filter f G (x ∷ xs) = by (G (f x)) refl (sifts_filter f G xs)
  where
    by : (b : Bool) → G (f x) ≡ b → Sifts (λ t. G t ≡ true) (list_trees f xs) (list_trees f (filter (λ y. not (G (f y))) xs)) → Sifts (λ t. G t ≡ true) (list_trees f (x ∷ xs)) (list_trees f (cond (not b) (x ∷ filter (λ y. not (G (f y))) xs) (filter (λ y. not (G (f y))) xs)))
    by true e h = goes_there e h
    by false e h = stays_there h

-- as many as there are
pub counts : {X : Type 0} (f : X → Tree) (xs : List X) → count (list_trees f xs) ≡ length xs
counts f [] = refl
counts f (x ∷ xs) = omega (arith, counts f xs)

pub no_longer : {X : Type 0} (p : X → Bool) (xs : List X) → length (filter p xs) ≤ length xs
no_longer p [] = omega arith
no_longer p (x ∷ xs) = by (p x) (no_longer p xs)
  where
    by : (b : Bool) → length (filter p xs) ≤ length xs → length (cond b (x ∷ filter p xs) (filter p xs)) ≤ length (x ∷ xs)
    by true h = omega (arith, h)
    by false h = omega (arith, h)

-- where one goes, fewer stay
pub fewer : {X : Type 0} (f : X → Tree) (G : Tree → Bool) (xs : List X) → any_goes G (list_trees f xs) ≡ true → length (filter (λ x. not (G (f x))) xs) < length xs
fewer f G [] h = absurd (false≢true h)
fewer f G (x ∷ xs) h = by (G (f x)) h (fewer f G xs)
  where
    by : (b : Bool) → (b || any_goes G (list_trees f xs)) ≡ true → (any_goes G (list_trees f xs) ≡ true → length (filter (λ y. not (G (f y))) xs) < length xs) → length (cond (not b) (x ∷ filter (λ y. not (G (f y))) xs) (filter (λ y. not (G (f y))) xs)) < length (x ∷ xs)
    by true h k = omega (arith, no_longer (λ y. not (G (f y))) xs)
    by false h k = omega (arith, k h)

-- so the list changes
pub changes : {X : Type 0} (f : X → Tree) (G : Tree → Bool) (xs : List X) → any_goes G (list_trees f xs) ≡ true → list_trees f (filter (λ x. not (G (f x))) xs) ≡ list_trees f xs → ⊥
changes f G xs h e = omega (arith, fewer f G xs h, sym (counts f (filter (λ x. not (G (f x))) xs)), ap count e, counts f xs)

-- and the list stays
pub all_stay : {X : Type 0} (f : X → Tree) (G : Tree → Bool) (xs : List X) → any_goes G (list_trees f xs) ≡ false → filter (λ x. not (G (f x))) xs ≡ xs
all_stay f G [] h = refl
all_stay f G (x ∷ xs) h = by (G (f x)) h (all_stay f G xs)
  where
    by : (b : Bool) → (b || any_goes G (list_trees f xs)) ≡ false → (any_goes G (list_trees f xs) ≡ false → filter (λ y. not (G (f y))) xs ≡ xs) → cond (not b) (x ∷ filter (λ y. not (G (f y))) xs) (filter (λ y. not (G (f y))) xs) ≡ x ∷ xs
    by true h k = absurd (true≢false h)
    by false h k = ap (λ ys. x ∷ ys) (k h)

kept_by : {X : Type 0} (f : X → Tree) (G : Tree → Bool) (xs ys : List X) → ys ≡ filter (λ x. not (G (f x))) xs → any_goes G (list_trees f xs) ≡ false → Sifted G false (list_trees f xs) (list_trees f ys)
kept_by f G xs ys e h = let same = e ∙ all_stay f G xs h in (ap (list_trees f) same, ap (λ zs. any_goes G (list_trees f zs)) same ∙ h)

gone_by : {X : Type 0} (f : X → Tree) (G : Tree → Bool) (xs ys : List X) → ys ≡ filter (λ x. not (G (f x))) xs → any_goes G (list_trees f xs) ≡ true → Sifted G true (list_trees f xs) (list_trees f ys)
gone_by f G xs ys e h = (subst (λ zs. Sifts (λ t. G t ≡ true) (list_trees f xs) (list_trees f zs)) (sym e) (sifts_filter f G xs), λ same. changes f G xs h (sym (ap (list_trees f) e) ∙ same))

-- what is left of a list, and whether some went
pub sifted_by : {X : Type 0} (f : X → Tree) (G : Tree → Bool) (b : Bool) (xs ys : List X) (m n : ℕ) → ys ≡ filter (λ x. not (G (f x))) xs → n ≡ length xs → m ≡ length ys → b ≡ nat_lt m n → Sifted G b (list_trees f xs) (list_trees f ys)
sifted_by f G b xs ys m n e p q is = by (any_goes G (list_trees f xs)) refl
  where
    by : (c : Bool) → any_goes G (list_trees f xs) ≡ c → Sifted G b (list_trees f xs) (list_trees f ys)
    by true h = subst (λ d. Sifted G d (list_trees f xs) (list_trees f ys)) (sym (is ∙ lt-ltb m n (omega (arith, fewer f G xs h, ap length e, p, q)))) (gone_by f G xs ys e h)
    by false h = subst (λ d. Sifted G d (list_trees f xs) (list_trees f ys)) (sym (is ∙ le-ltb m n (omega (arith, ap length (all_stay f G xs h), ap length e, p, q)))) (kept_by f G xs ys e h)

-- each item that stays is one of the list
pub kept_sifted : {X : Type 0} (made : Stmt → X) (f : X → Tree) (G : Tree → Bool) (xs ys : List X) → ys ≡ filter (λ x. not (G (f x))) xs → Kept made xs ys
kept_sifted made f G xs ys e = subst (Kept made xs) (sym e) (kept_filter made (λ x. not (G (f x))) xs)

-- the tests of lists

pub some_go_any : (S : Shaker) (ts : Forest) → some_go S ts ≡ any_goes (goes_plainly S) ts
some_go_any S ε = refl
some_go_any S (t ⊳ ts) = ap (λ b. goes_plainly S t || b) (some_go_any S ts)

some_item_any : (S : Shaker) (ts : Forest) → some_item_goes S ts ≡ any_goes (item_goes S) ts
some_item_any S ε = refl
some_item_any S (t ⊳ ts) = ap (λ b. item_goes S t || b) (some_item_any S ts)

pub list_shaken : (S : Shaker) (b : Bool) (ts us : Forest) → Sifted (item_goes S) b ts us → ListShaken S b ts us
list_shaken S true ts us h = items_go h.0 h.1
list_shaken S false ts us h = (h.0, some_item_any S us ∙ h.1)

-- an import

pub import_stays : (S : Shaker) (cs : Forest) → import_goes S cs ≡ true → (import_goes S cs || not (some_go S cs)) ≡ true
import_stays S cs h = ap (λ b. b || not (some_go S cs)) h

none_left : (b c : Bool) → c ≡ false → (b || not c) ≡ true
none_left true c h = refl
none_left false c h = ap not h

pub import_shaken : (S : Shaker) (b : Bool) (src : Text) (ss : List Span) (ts us : Forest) → Sifted (goes_plainly S) b ts us → Became (shake_pass S) b (node (Import src) ss ts) (node (Import src) ss us)
import_shaken S true src ss ts us h = specifiers_go h.0 h.1
import_shaken S false src ss ts us h = (ap (λ cs. node (Import src) ss cs) h.0, none_left (import_goes S us) (some_go S us) (some_go_any S us ∙ h.1))

-- no items

not_zero : (n : ℕ) → 1 ≤ n → (n == 0) ≡ false
not_zero n h = by (n == 0) refl
  where
    by : (b : Bool) → (n == 0) ≡ b → (n == 0) ≡ false
    by true e = absurd (omega (arith, (unsigned_Decides n 0).0 e, h))
    by false e = e

pub none_by_count : {X : Type 0} (f : X → Tree) (xs : List X) → (length xs == 0) ≡ not (is_some_tree (list_trees f xs))
none_by_count f [] = refl
none_by_count f (x ∷ xs) = not_zero (length (x ∷ xs)) (omega arith)

pub some_by_count : {X : Type 0} (f : X → Tree) (xs : List X) → not (length xs == 0) ≡ is_some_tree (list_trees f xs)
some_by_count f [] = refl
some_by_count f (x ∷ xs) = ap not (not_zero (length (x ∷ xs)) (omega arith))

pub block_goes : (S : Shaker) (ss : List Span) (ts : Forest) → not (is_some_tree ts) ≡ item_goes S (node Block ss ts)
block_goes S ss ε = refl
block_goes S ss (t ⊳ ts) = refl
