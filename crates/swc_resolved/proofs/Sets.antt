-- What a set of names has, and what it has after one more.
use Rattle.std.proofs.Common.{◌≡◌, Bool, true, false, not, cond, ◌||◌, List, [], ◌∷◌, refl, sym, ap, ◌∙◌}
use Rattle.std.proofs.lemmas.Bool.{false≢true}
use Rattle.std.proofs.lemmas.List.Sorted.{list_any-IsPermutation}
use Rattle.std.specs.Bool.{MatchBool}
use Rattle.std.specs.List.{list_any}
use Rattle.std.specs.List.Sorted.{IsPermutation}
use Rattle.swc_ast.specs.Tree as tree
use Rattle.swc_ast.specs.Tree.{same_name}
use Rattle.swc_ast.specs.Scope.{has_name}
use Rattle.static_proofs.proofs.Names.{same_name_path}
use Rattle.swc_resolved.specs.Names.{name, names}
use Rattle.swc_resolved.specs.declared.names.Name.{Name}

pub has_key : (x : tree.Name) (ks : List Name) → list_any (λ k. same_name x (name k)) ks ≡ has_name x (names ks)
has_key x [] = refl
has_key x (k ∷ ks) = ap (λ b. same_name x (name k) || b) (has_key x ks)

pub has_kept : (free found here : Bool) → free ≡ false → found ≡ here → found ≡ (free || here)
has_kept free found here is h = h ∙ ap (λ b. b || here) (sym is)

-- a name is taken if it is free, and else as it is in the set
pub free_taken : (free here : Bool) → free ≡ true → (free || here) ≡ true
free_taken free here is = ap (λ b. b || here) is

pub new_taken : (free here : Bool) → free ≡ false → here ≡ (free || here)
new_taken free here is = has_kept free here here is refl

pub or_turned : (a b : Bool) → (a || b) ≡ (b || a)
or_turned true true = refl
or_turned true false = refl
or_turned false true = refl
or_turned false false = refl

there_already : (x y : tree.Name) (b : Bool) (xs : List tree.Name) → same_name y x ≡ b → has_name x xs ≡ true → has_name y xs ≡ (has_name y xs || b)
there_already x y true xs is h = let there = ap (λ z. has_name z xs) (same_name_path y x is) ∙ h in there ∙ sym (ap (λ b. b || true) there)
there_already x y false xs is h = or_turned false (has_name y xs)

-- a name that was taken adds nothing
pub taken_still : (old : tree.Name → Bool) (x y : tree.Name) → old x ≡ true → old y ≡ (old y || same_name y x)
taken_still old x y there = by_case (same_name y x) refl
  where
    by_case : (b : Bool) → same_name y x ≡ b → old y ≡ (old y || b)
    by_case true is = let now = ap old (same_name_path y x is) ∙ there in now ∙ sym (ap (λ b. b || true) now)
    by_case false is = or_turned false (old y)

pub not_false : (b : Bool) → false ≡ not b → b ≡ true
not_false true h = refl
not_false false h = absurd (false≢true h)

pub has_more : (added : Bool) (k : Name) (ks ns : List Name) → added ≡ not (list_any (λ j. same_name (name k) (name j)) ks) → MatchBool added (IsPermutation (k ∷ ks) ns) (ns ≡ ks) → (y : tree.Name) → has_name y (names ns) ≡ (has_name y (names ks) || same_name y (name k))
has_more true k ks ns is put y = sym (has_key y ns) ∙ sym (list_any-IsPermutation (λ j. same_name y (name j)) (k ∷ ks) ns put) ∙ has_key y (k ∷ ks) ∙ or_turned (same_name y (name k)) (has_name y (names ks))
has_more false k ks ns is put y = ap (λ js. has_name y (names js)) put ∙ there_already (name k) y (same_name y (name k)) (names ks) refl (sym (has_key (name k) ks) ∙ not_false (list_any (λ j. same_name (name k) (name j)) ks) is)

pub or_behind : (a b c d : Bool) → b ≡ (c || d) → (a || b) ≡ ((a || c) || d)
or_behind true b c d h = refl
or_behind false b c d h = h

-- a set of texts that has one more
pub text_more : (is had has : Bool) → has ≡ cond is true had → has ≡ (had || is)
text_more true true has h = h
text_more true false has h = h
text_more false true has h = h
text_more false false has h = h
