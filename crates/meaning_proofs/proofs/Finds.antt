-- Names in lists: what is found in two lists, one behind the other.
use Rattle.std.proofs.Common.{◌≡◌, Bool, true, false, ◌||◌, List, [], ◌∷◌, ◌++◌, Option, Some, None, refl, sym, ap, cond, ◌∙◌, append_assoc}
use Rattle.swc_ast.specs.Tree.{Name, same_name, Tree, Forest, ε, ◌⊳◌}
use Rattle.swc_ast.specs.Scope.{Declaration, Lexical, has_name, found, is_found, vars, vars_all, declared_by, declared, as_lexicals, joined}
use Rattle.meaning_proofs.proofs.Relation.{Maybe, neither, both}
use Rattle.meaning_proofs.proofs.Names.{same_name_turned}

abbrev pub or_else : {A : Type 0} → Option A → Option A → Option A
or_else None p = p
or_else (Some a) p = Some a

or_else_if : {A : Type 0} (b : Bool) (a : A) (o p : Option A) → cond b (Some a) (or_else o p) ≡ or_else (cond b (Some a) o) p
or_else_if true a o p = refl
or_else_if false a o p = refl

pub or_else_sim : {A : Type 0} {RA : A → A → Type 0} {o p q r : Option A} → Maybe RA o p → Maybe RA q r → Maybe RA (or_else o q) (or_else p r)
or_else_sim neither h = h
or_else_sim (both k) h = both k

pub found_append : {A : Type 0} (x : Name) (xs ys : List (Name × A)) → found x (xs ++ ys) ≡ or_else (found x xs) (found x ys)
found_append x [] ys = refl
found_append x (p ∷ xs) ys = ap (cond (same_name p.0 x) (Some p.1)) (found_append x xs ys) ∙ or_else_if (same_name p.0 x) p.1 (found x xs) (found x ys)

none_if : {A : Type 0} (b : Bool) (a : A) (o : Option A) (f : Bool) → (f ≡ false → o ≡ None) → (b || f) ≡ false → cond b (Some a) o ≡ None
none_if true a o f h q = cc
none_if false a o f h q = h q

pub is_none : {A : Type 0} (x : Name) (ps : List (Name × A)) → is_found x ps ≡ false → found x ps ≡ None
is_none x [] e = refl
is_none x (p ∷ ps) e = none_if (same_name p.0 x) p.1 (found x ps) (is_found x ps) (is_none x ps) e

or_assoc : (a b c : Bool) → (a || (b || c)) ≡ ((a || b) || c)
or_assoc true b c = refl
or_assoc false b c = refl

pub has_append : (x : Name) (xs ys : List Name) → has_name x (xs ++ ys) ≡ (has_name x xs || has_name x ys)
has_append x [] ys = refl
has_append x (y ∷ xs) ys = ap (λ b. same_name x y || b) (has_append x xs ys) ∙ or_assoc (same_name x y) (has_name x xs) (has_name x ys)

-- what a list of `let`s or `const`s declares
pub found_lexical : (x : Name) (w : Bool) (xs : List Name) → found x (as_lexicals w xs) ≡ cond (has_name x xs) (Some (Lexical w)) None
found_lexical x w [] = refl
found_lexical x w (y ∷ xs) = ap (λ (o : Option Declaration). cond (same_name y x) (Some (Lexical w)) o) (found_lexical x w xs) ∙ go (same_name y x) (same_name x y) (same_name_turned y x)
  where
    go : (b d : Bool) → b ≡ d → cond b (Some (Lexical w)) (cond (has_name x xs) (Some (Lexical w)) None) ≡ cond (d || has_name x xs) (Some (Lexical w)) None
    go true true e = refl
    go false false e = refl
    go true false e = cc
    go false true e = cc

-- lists of statements

pub found_cons : (x : Name) (t : Tree) (ts : Forest) → found x (declared (t ⊳ ts)) ≡ or_else (found x (declared_by t)) (found x (declared ts))
found_cons x t ts = found_append x (declared_by t) (declared ts)

pub has_cons : (x : Name) (t : Tree) (ts : Forest) → has_name x (vars_all (t ⊳ ts)) ≡ (has_name x (vars t) || has_name x (vars_all ts))
has_cons x t ts = has_append x (vars t) (vars_all ts)

declared_joined : (ts us : Forest) → declared (joined ts us) ≡ declared ts ++ declared us
declared_joined ε us = refl
declared_joined (t ⊳ ts) us = ap (λ xs. declared_by t ++ xs) (declared_joined ts us) ∙ sym (append_assoc (declared_by t) (declared ts) (declared us))

vars_joined : (ts us : Forest) → vars_all (joined ts us) ≡ vars_all ts ++ vars_all us
vars_joined ε us = refl
vars_joined (t ⊳ ts) us = ap (λ xs. vars t ++ xs) (vars_joined ts us) ∙ sym (append_assoc (vars t) (vars_all ts) (vars_all us))

pub found_joined : (x : Name) (ts us : Forest) → found x (declared (joined ts us)) ≡ or_else (found x (declared ts)) (found x (declared us))
found_joined x ts us = ap (found x) (declared_joined ts us) ∙ found_append x (declared ts) (declared us)

pub has_joined : (x : Name) (ts us : Forest) → has_name x (vars_all (joined ts us)) ≡ (has_name x (vars_all ts) || has_name x (vars_all us))
has_joined x ts us = ap (has_name x) (vars_joined ts us) ∙ has_append x (vars_all ts) (vars_all us)
