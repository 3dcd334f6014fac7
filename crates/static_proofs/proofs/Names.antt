-- Laws of lists of names: what is within another list, and what stands there as often.
use Rattle.std.proofs.Common.{◌≡◌, ℕ, suc, ◌+◌, ◌≤◌, Bool, true, false, not, ◌||◌, ◌==◌, if◌then◌else◌, nat_le, List, [], ◌∷◌, ◌++◌, refl, sym, ap, ap₂, subst, ◌∙◌, bytes_eq, arith, ◌⊎◌, inl, inr}
use Rattle.std.proofs.lemmas.Bool.{and_parts, and_from, or_cases, or_left, or_right, false≢true, not-true, leb-true, le-leb, eqb-true, eq-eqb}
use Rattle.std.proofs.lemmas.Slice.Eq.{bytes_eq-Decides}
use Rattle.swc_ast.specs.Tree.{Text, Name, same_name}
use Rattle.swc_ast.specs.Scope.{has_name, is_found}
use Rattle.swc_ast.specs.Resolved.{first_names, declares_text, none_declared}
use Rattle.swc_ast.specs.Core.{times_in, once_each, none_in}
use Rattle.static_proofs.specs.Names.{Within, Fewer}

-- equal names

pub same_name_path : (x y : Name) → same_name x y ≡ true → x ≡ y
same_name_path x y h =
    let p = and_parts (bytes_eq x.text y.text) (x.context == y.context) h in
    names (x.text) (y.text) (x.context) (y.context) ((bytes_eq-Decides (x.text) (y.text)).0 p.0) (eqb-true (x.context) (y.context) p.1)
  where
    names : (s t : Text) (a b : ℕ) → s ≡ t → a ≡ b → ◌≡◌ {A = Name} (record { text = s; context = a }) (record { text = t; context = b })
    names s t a b e f = ap₂ (λ u c. let n : Name = record { text = u; context = c } in n) e f

pub same_name_itself : (x : Name) → same_name x x ≡ true
same_name_itself x = and_from (bytes_eq x.text x.text) (x.context == x.context) ((bytes_eq-Decides x.text x.text).1 refl) (eq-eqb x.context x.context refl)

bool_same : (a b : Bool) → (a ≡ true → b ≡ true) → (b ≡ true → a ≡ true) → a ≡ b
bool_same true true f g = refl
bool_same true false f g = sym (f refl)
bool_same false true f g = g refl
bool_same false false f g = refl

pub same_name_swap : (x y : Name) → same_name x y ≡ same_name y x
same_name_swap x y = bool_same (same_name x y) (same_name y x) (λ h. subst (λ z. same_name z x ≡ true) (same_name_path x y h) (same_name_itself x)) (λ h. subst (λ z. same_name z y ≡ true) (same_name_path y x h) (same_name_itself y))

-- lists within lists

pub within_same : (xs : List Name) → Within xs xs
within_same xs = record { by = λ x h. h }

pub within_trans : {xs ys zs : List Name} → Within xs ys → Within ys zs → Within xs zs
within_trans f g = record { by = λ x h. g.by x (f.by x h) }

pub within_none : (xs : List Name) → Within [] xs
within_none xs = record { by = λ x h. absurd (false≢true h) }

pub has_name_append : (x : Name) (xs ys : List Name) → has_name x (xs ++ ys) ≡ (has_name x xs || has_name x ys)
has_name_append x [] ys = refl
has_name_append x (y ∷ xs) ys = elim (same_name x y) as (λ b. (b || has_name x (xs ++ ys)) ≡ ((b || has_name x xs) || has_name x ys)) [ true ↦ refl | false ↦ has_name_append x xs ys ]

pub within_append : {xs ys us vs : List Name} → Within xs us → Within ys vs → Within (xs ++ ys) (us ++ vs)
within_append {xs} {ys} {us} {vs} f g = record { by = λ x h. sides x (or_cases (has_name x xs) (has_name x ys) (sym (has_name_append x xs ys) ∙ h)) }
  where
    sides : (x : Name) → (has_name x xs ≡ true) ⊎ (has_name x ys ≡ true) → has_name x (us ++ vs) ≡ true
    sides x (inl h) = has_name_append x us vs ∙ or_left (has_name x us) (has_name x vs) (f.by x h)
    sides x (inr h) = has_name_append x us vs ∙ or_right (has_name x us) (has_name x vs) (g.by x h)

pub within_first : (xs ys : List Name) → Within xs (xs ++ ys)
within_first xs ys = record { by = λ x h. has_name_append x xs ys ∙ or_left (has_name x xs) (has_name x ys) h }

pub within_second : (xs ys : List Name) → Within ys (xs ++ ys)
within_second xs ys = record { by = λ x h. has_name_append x xs ys ∙ or_right (has_name x xs) (has_name x ys) h }

-- both parts of a joined list are within
pub within_both : {xs ys zs : List Name} → Within xs zs → Within ys zs → Within (xs ++ ys) zs
within_both {xs} {ys} {zs} f g = record { by = λ x h. sides x (or_cases (has_name x xs) (has_name x ys) (sym (has_name_append x xs ys) ∙ h)) }
  where
    sides : (x : Name) → (has_name x xs ≡ true) ⊎ (has_name x ys ≡ true) → has_name x zs ≡ true
    sides x (inl h) = f.by x h
    sides x (inr h) = g.by x h

-- lists in which each name stands no more often

pub fewer_same : (xs : List Name) → Fewer xs xs
fewer_same xs = record { by = λ x. omega arith }

pub fewer_trans : {xs ys zs : List Name} → Fewer xs ys → Fewer ys zs → Fewer xs zs
fewer_trans f g = record { by = λ x. omega (arith, f.by x, g.by x) }

pub fewer_none : (xs : List Name) → Fewer [] xs
fewer_none xs = record { by = λ x. omega arith }

pub times_append : (x : Name) (xs ys : List Name) → times_in x (xs ++ ys) ≡ times_in x xs + times_in x ys
times_append x [] ys = omega arith
times_append x (y ∷ xs) ys = elim (same_name x y) as (λ b. (if b then suc (times_in x (xs ++ ys)) else times_in x (xs ++ ys)) ≡ (if b then suc (times_in x xs) else times_in x xs) + times_in x ys) [ true ↦ omega (arith, times_append x xs ys) | false ↦ times_append x xs ys ]

pub fewer_append : {xs ys us vs : List Name} → Fewer xs us → Fewer ys vs → Fewer (xs ++ ys) (us ++ vs)
fewer_append {xs} {ys} {us} {vs} f g = record { by = λ x. omega (arith, f.by x, g.by x, times_append x xs ys, times_append x us vs) }

pub fewer_second : (xs ys : List Name) → Fewer ys (xs ++ ys)
fewer_second xs ys = record { by = λ x. omega (arith, times_append x xs ys) }

pub times_has : (x : Name) (xs : List Name) → 1 ≤ times_in x xs → has_name x xs ≡ true
times_has x [] h = absurd (omega arith)
times_has x (y ∷ xs) h = chosen (same_name x y) (times_has x xs) h
  where
    chosen : (b : Bool) → (1 ≤ times_in x xs → has_name x xs ≡ true) → 1 ≤ (if b then suc (times_in x xs) else times_in x xs) → (b || has_name x xs) ≡ true
    chosen true rest h' = refl
    chosen false rest h' = rest h'

pub has_times : (x : Name) (xs : List Name) → has_name x xs ≡ true → 1 ≤ times_in x xs
has_times x [] h = absurd (false≢true h)
has_times x (y ∷ xs) h = chosen (same_name x y) (has_times x xs) h
  where
    chosen : (b : Bool) → (has_name x xs ≡ true → 1 ≤ times_in x xs) → (b || has_name x xs) ≡ true → 1 ≤ (if b then suc (times_in x xs) else times_in x xs)
    chosen true rest h' = omega arith
    chosen false rest h' = rest h'

pub fewer_within : {xs ys : List Name} → Fewer xs ys → Within xs ys
fewer_within {xs} {ys} f = record { by = λ x h. times_has x ys (omega (arith, has_times x xs h, f.by x)) }

-- names of pairs

pub first_names_append : {A : Type 0} (ps qs : List (Name × A)) → first_names (ps ++ qs) ≡ first_names ps ++ first_names qs
first_names_append [] qs = refl
first_names_append (p ∷ ps) qs = ap (λ xs. p.0 ∷ xs) (first_names_append ps qs)

pub found_first : {A : Type 0} (x : Name) (ps : List (Name × A)) → is_found x ps ≡ has_name x (first_names ps)
found_first x [] = refl
found_first x (p ∷ ps) = ap₂ ◌||◌ (same_name_swap p.0 x) (found_first x ps)

-- each name once

pub once_said : (xs all : List Name) → once_each xs all ≡ true → (x : Name) → has_name x xs ≡ true → times_in x all ≤ 1
once_said [] all h x i = absurd (false≢true i)
once_said (y ∷ xs) all h x i =
    let p = and_parts (nat_le (times_in y all) 1) (once_each xs all) h in
    sides p.0 (once_said xs all p.1 x) (or_cases (same_name x y) (has_name x xs) i)
  where
    sides : nat_le (times_in y all) 1 ≡ true → (has_name x xs ≡ true → times_in x all ≤ 1) → (same_name x y ≡ true) ⊎ (has_name x xs ≡ true) → times_in x all ≤ 1
    sides a rest (inl e) = subst (λ z. times_in z all ≤ 1) (sym (same_name_path x y e)) (leb-true (times_in y all) 1 a)
    sides a rest (inr e) = rest e

once_show : (xs all : List Name) → ((x : Name) → has_name x xs ≡ true → times_in x all ≤ 1) → once_each xs all ≡ true
once_show [] all f = refl
once_show (y ∷ xs) all f = and_from (nat_le (times_in y all) 1) (once_each xs all) (le-leb (times_in y all) 1 (f y (or_left (same_name y y) (has_name y xs) (same_name_itself y)))) (once_show xs all (λ x h. f x (or_right (same_name x y) (has_name x xs) h)))

pub once_fewer : {xs ys : List Name} → Fewer xs ys → once_each ys ys ≡ true → once_each xs xs ≡ true
once_fewer {xs} {ys} f h = once_show xs xs (λ x i. omega (arith, once_said ys ys h x ((fewer_within f).by x i), f.by x))

-- lists apart

pub none_said : (xs ys : List Name) → none_in xs ys ≡ true → (x : Name) → has_name x xs ≡ true → has_name x ys ≡ false
none_said [] ys h x i = absurd (false≢true i)
none_said (y ∷ xs) ys h x i =
    let p = and_parts (not (has_name y ys)) (none_in xs ys) h in
    sides p.0 (none_said xs ys p.1 x) (or_cases (same_name x y) (has_name x xs) i)
  where
    sides : not (has_name y ys) ≡ true → (has_name x xs ≡ true → has_name x ys ≡ false) → (same_name x y ≡ true) ⊎ (has_name x xs ≡ true) → has_name x ys ≡ false
    sides a rest (inl e) = subst (λ z. has_name z ys ≡ false) (sym (same_name_path x y e)) (not-true (has_name y ys) a)
    sides a rest (inr e) = rest e

pub none_show : (xs ys : List Name) → ((x : Name) → has_name x xs ≡ true → has_name x ys ≡ false) → none_in xs ys ≡ true
none_show [] ys f = refl
none_show (y ∷ xs) ys f = and_from (not (has_name y ys)) (none_in xs ys) (ap not (f y (or_left (same_name y y) (has_name y xs) (same_name_itself y)))) (none_show xs ys (λ x h. f x (or_right (same_name x y) (has_name x xs) h)))

absent_within : {xs ys : List Name} (x : Name) → Within xs ys → has_name x ys ≡ false → has_name x xs ≡ false
absent_within {xs} {ys} x f h = by_case (has_name x xs) refl
  where
    by_case : (b : Bool) → has_name x xs ≡ b → b ≡ false
    by_case false e = refl
    by_case true e = sym (f.by x e) ∙ h

pub none_within : {xs ys us vs : List Name} → Within xs us → Within ys vs → none_in us vs ≡ true → none_in xs ys ≡ true
none_within {xs} {ys} {us} {vs} f g h = none_show xs ys (λ x i. absent_within x g (none_said us vs h x (f.by x i)))

-- texts that are declared

text_said : (t : Text) (xs : List Name) → declares_text xs t ≡ true → (x : Name) × (has_name x xs ≡ true) × (x.text ≡ t)
text_said t [] h = absurd (false≢true h)
text_said t (y ∷ xs) h = sides (text_said t xs) (or_cases (bytes_eq y.text t) (declares_text xs t) h)
  where
    later : (x : Name) × (has_name x xs ≡ true) × (x.text ≡ t) → (x : Name) × (has_name x (y ∷ xs) ≡ true) × (x.text ≡ t)
    later p = (p.0, or_right (same_name p.0 y) (has_name p.0 xs) p.1, p.2)

    sides : (declares_text xs t ≡ true → (x : Name) × (has_name x xs ≡ true) × (x.text ≡ t)) → (bytes_eq y.text t ≡ true) ⊎ (declares_text xs t ≡ true) → (x : Name) × (has_name x (y ∷ xs) ≡ true) × (x.text ≡ t)
    sides rest (inl e) = (y, or_left (same_name y y) (has_name y xs) (same_name_itself y), (bytes_eq-Decides y.text t).0 e)
    sides rest (inr e) = later (rest e)

text_show : (xs : List Name) (x : Name) → has_name x xs ≡ true → declares_text xs x.text ≡ true
text_show [] x h = absurd (false≢true h)
text_show (y ∷ xs) x h = sides (text_show xs x) (or_cases (same_name x y) (has_name x xs) h)
  where
    sides : (has_name x xs ≡ true → declares_text xs x.text ≡ true) → (same_name x y ≡ true) ⊎ (has_name x xs ≡ true) → declares_text (y ∷ xs) x.text ≡ true
    sides rest (inl e) = or_left (bytes_eq y.text x.text) (declares_text xs x.text) ((bytes_eq-Decides y.text x.text).1 (ap (λ z. z.text) (sym (same_name_path x y e))))
    sides rest (inr e) = or_right (bytes_eq y.text x.text) (declares_text xs x.text) (rest e)

text_within : {xs ys : List Name} (t : Text) → Within xs ys → declares_text xs t ≡ true → declares_text ys t ≡ true
text_within {xs} {ys} t f h = let p = text_said t xs h in subst (λ s. declares_text ys s ≡ true) p.2 (text_show ys p.0 (f.by p.0 p.1))

pub apart_within : (ps : List Name) {xs ys : List Name} → Within xs ys → none_declared ps ys ≡ true → none_declared ps xs ≡ true
apart_within [] f h = refl
apart_within (p ∷ ps) {xs} {ys} f h =
    let q = and_parts (not (declares_text ys p.text)) (none_declared ps ys) h in
    and_from (not (declares_text xs p.text)) (none_declared ps xs) (no_text (declares_text xs p.text) refl (not-true _ q.0)) (apart_within ps f q.1)
  where
    no_text : (b : Bool) → declares_text xs p.text ≡ b → declares_text ys p.text ≡ false → not b ≡ true
    no_text false e i = refl
    no_text true e i = absurd (false≢true (sym i ∙ text_within p.text f e))
