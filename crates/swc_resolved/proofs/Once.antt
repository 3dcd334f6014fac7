-- Names that stand once in a list, as they are put in a set one by one, and lists with no name in common.
use Rattle.std.proofs.Common.{◌≡◌, ℕ, zero, suc, Bool, true, false, not, ◌||◌, ◌&&◌, if◌then◌else◌, nat_le, refl, ap, ap₂, ◌∙◌, sym, List, [], ◌∷◌, ◌++◌, length, take, drop, get_or, ◌-◌, ◌≤◌, ◌<◌, arith}
use Rattle.std.proofs.lemmas.Bool.{false≢true}
use Rattle.std.proofs.lemmas.List.{take_all}
use Rattle.std.proofs.Math.Dec.{leb-suc-suc, leb-suc-zero}
use Rattle.swc_ast.specs.Tree.{Name, same_name}
use Rattle.swc_ast.specs.Core.{times_in, once_each, none_in}
use Rattle.swc_ast.specs.Scope.{has_name}
use Rattle.static_proofs.proofs.Names.{same_name_itself, same_name_swap, has_name_append, has_times, none_said, none_show}
use Rattle.swc_resolved.specs.Names.{name, names}
use Rattle.swc_resolved.specs.declared.names.Name as key
use Rattle.swc_resolved.proofs.Sets.{or_turned}

-- no name of a list stands in it again, or in another list
abbrev pub fresh : List Name → List Name → Bool
fresh ms [] = true
fresh ms (x ∷ xs) = not (has_name x ms) && fresh (x ∷ ms) xs

fresh_same : (ms ns xs : List Name) → ((y : Name) → has_name y ms ≡ has_name y ns) → fresh ms xs ≡ fresh ns xs
fresh_same ms ns [] h = refl
fresh_same ms ns (x ∷ xs) h = cc (h x, fresh_same (x ∷ ms) (x ∷ ns) xs (λ y. ap (λ b. same_name y x || b) (h y)))

abbrev distinct : List Name → Bool
distinct [] = true
distinct (x ∷ xs) = not (has_name x xs) && distinct xs

no_times : (x : Name) (xs : List Name) → has_name x xs ≡ false → times_in x xs ≡ 0
no_times x [] h = refl
no_times x (y ∷ ys) h = by_case (no_times x ys) (same_name x y) refl
  where
    by_case : (has_name x ys ≡ false → times_in x ys ≡ 0) → (b : Bool) → same_name x y ≡ b → (if same_name x y then suc (times_in x ys) else times_in x ys) ≡ 0
    by_case rest true is = absurd (false≢true (sym h ∙ ap (λ b. b || has_name x ys) is))
    by_case rest false is = ap (λ b. if b then suc (times_in x ys) else times_in x ys) is ∙ rest (sym (ap (λ b. b || has_name x ys) is) ∙ h)

once_behind : (x : Name) (ys xs : List Name) → has_name x ys ≡ false → once_each ys (x ∷ xs) ≡ once_each ys xs
once_behind x [] xs h = refl
once_behind x (y ∷ ys) xs h = by_case (once_behind x ys xs) (same_name x y) refl
  where
    by_case : (has_name x ys ≡ false → once_each ys (x ∷ xs) ≡ once_each ys xs) → (b : Bool) → same_name x y ≡ b → once_each (y ∷ ys) (x ∷ xs) ≡ once_each (y ∷ ys) xs
    by_case rest true is = absurd (false≢true (sym h ∙ ap (λ b. b || has_name x ys) is))
    by_case rest false is = cc (ap (λ b. if b then suc (times_in y xs) else times_in y xs) (same_name_swap y x ∙ is), rest (sym (ap (λ b. b || has_name x ys) is) ∙ h))

too_many : (n : ℕ) → 1 ≤ n → nat_le (suc n) 1 ≡ false
too_many zero h = absurd (omega (arith, h))
too_many (suc n) h = leb-suc-suc (suc n) 0 ∙ leb-suc-zero n

once_is_distinct : (xs : List Name) → once_each xs xs ≡ distinct xs
once_is_distinct [] = refl
once_is_distinct (x ∷ xs) = ap (λ b. nat_le (if b then suc (times_in x xs) else times_in x xs) 1 && once_each xs (x ∷ xs)) (same_name_itself x) ∙ by_case (once_is_distinct xs) (has_name x xs) refl
  where
    by_case : once_each xs xs ≡ distinct xs → (b : Bool) → has_name x xs ≡ b → (nat_le (suc (times_in x xs)) 1 && once_each xs (x ∷ xs)) ≡ (not (has_name x xs) && distinct xs)
    by_case rest true is = ap (λ b. b && once_each xs (x ∷ xs)) (too_many (times_in x xs) (has_times x xs is)) ∙ sym (ap (λ b. not b && distinct xs) is)
    by_case rest false is = ap (λ n. nat_le (suc n) 1 && once_each xs (x ∷ xs)) (no_times x xs is) ∙ once_behind x xs xs is ∙ rest ∙ sym (ap (λ b. not b && distinct xs) is)

none_behind : (x : Name) (xs ms : List Name) → none_in xs (x ∷ ms) ≡ (not (has_name x xs) && none_in xs ms)
none_behind x [] ms = refl
none_behind x (y ∷ ys) ms = cc (same_name_swap y x, none_behind x ys ms) ∙ turned (same_name x y) (has_name y ms) (has_name x ys) (none_in ys ms)
  where
    turned : (a b c d : Bool) → (not (a || b) && (not c && d)) ≡ (not (a || c) && (not b && d))
    turned true b c d = refl
    turned false true true d = refl
    turned false true false d = refl
    turned false false true d = refl
    turned false false false d = refl

pub none_in_none : (xs : List Name) → none_in xs [] ≡ true
none_in_none [] = refl
none_in_none (x ∷ xs) = none_in_none xs

joined : (xs ys : List Name) → distinct (xs ++ ys) ≡ (distinct xs && (distinct ys && none_in ys xs))
joined [] ys = alone (distinct ys) ∙ sym (ap (λ b. distinct ys && b) (none_in_none ys))
  where
    alone : (b : Bool) → b ≡ (b && true)
    alone true = refl
    alone false = refl
joined (x ∷ xs) ys =
    ap₂ (λ a b. not a && b) (has_name_append x xs ys) (joined xs ys) ∙ turned (has_name x xs) (has_name x ys) (distinct xs) (distinct ys) (none_in ys xs)
    ∙ sym (ap (λ b. distinct (x ∷ xs) && (distinct ys && b)) (none_behind x ys xs))
  where
    turned : (a b c d e : Bool) → (not (a || b) && (c && (d && e))) ≡ ((not a && c) && (d && (not b && e)))
    turned true b c d e = refl
    turned false true true true e = refl
    turned false true true false e = refl
    turned false true false d e = refl
    turned false false c d e = refl

-- names that stand once in a list of two parts
pub once_joined : (xs ys : List Name) → once_each (xs ++ ys) (xs ++ ys) ≡ (once_each xs xs && (once_each ys ys && none_in ys xs))
once_joined xs ys = once_is_distinct (xs ++ ys) ∙ joined xs ys ∙ sym (ap₂ (λ a b. a && (b && none_in ys xs)) (once_is_distinct xs) (once_is_distinct ys))

fresh_is : (ms xs : List Name) → fresh ms xs ≡ (none_in xs ms && distinct xs)
fresh_is ms [] = refl
fresh_is ms (x ∷ xs) = ap (λ b. not (has_name x ms) && b) (fresh_is (x ∷ ms) xs ∙ ap (λ b. b && distinct xs) (none_behind x xs ms)) ∙ turned (has_name x ms) (has_name x xs) (none_in xs ms) (distinct xs)
  where
    turned : (a b c d : Bool) → (not a && ((not b && c) && d)) ≡ ((not a && c) && (not b && d))
    turned true b c d = refl
    turned false true true d = refl
    turned false true false d = refl
    turned false false true d = refl
    turned false false false d = refl

pub one_starts : (ms xs : List Name) → ((y : Name) → has_name y ms ≡ false) → fresh ms xs ≡ once_each xs xs
one_starts ms xs none = fresh_same ms [] xs none ∙ fresh_is [] xs ∙ ap (λ b. b && distinct xs) (none_in_none xs) ∙ sym (once_is_distinct xs)

-- a step of a loop that puts names in
pub one_goes_on : (x : Name) (ms ns xs : List Name) (g : Bool) → has_name x ms ≡ false → ((y : Name) → has_name y ns ≡ (has_name y ms || same_name y x)) → fresh ms (x ∷ xs) ≡ g → fresh ns xs ≡ g
one_goes_on x ms ns xs g new put h = fresh_same ns (x ∷ ms) xs (λ y. put y ∙ or_turned (has_name y ms) (same_name y x)) ∙ sym (ap (λ c. not c && fresh (x ∷ ms) xs) new) ∙ h

pub one_twice : (x : Name) (ms xs : List Name) (g : Bool) → has_name x ms ≡ true → fresh ms (x ∷ xs) ≡ g → g ≡ false
one_twice x ms xs g old h = sym h ∙ ap (λ c. not c && fresh (x ∷ ms) xs) old

pub all_go_on : (x y : Name) (ms ns xs : List Name) (g : Bool) → has_name y ns ≡ (has_name y ms || same_name y x) → (has_name y ms || has_name y (x ∷ xs)) ≡ g → (has_name y ns || has_name y xs) ≡ g
all_go_on x y ms ns xs g put h = ap (λ c. c || has_name y xs) (put ∙ or_turned (has_name y ms) (same_name y x)) ∙ turned (same_name y x) (has_name y ms) (has_name y xs) ∙ h
  where
    turned : (a b c : Bool) → ((a || b) || c) ≡ (b || (a || c))
    turned true true c = refl
    turned true false c = refl
    turned false b c = refl

pub all_end : (a g : Bool) → (a || false) ≡ g → a ≡ g
all_end true g h = h
all_end false g h = h

-- no element, where there is none
abbrev pub nobody : key.Name
nobody = record { text = record { ref_ptr = (0, 0); now = [] }; context = record { 0 = 0 } }

pub rest_is : (x : key.Name) (xs : List key.Name) → take (length (x ∷ xs) - 1) (drop 1 (x ∷ xs)) ≡ xs
rest_is x xs = take_all (length (x ∷ xs) - 1) xs (omega arith)

-- the step for the first of the elements that are left
pub once_step : (left : List key.Name) (ms ns : List Name) (g : Bool) → 1 ≤ length left → has_name (name (get_or left 0 nobody)) ms ≡ false → ((y : Name) → has_name y ns ≡ (has_name y ms || same_name y (name (get_or left 0 nobody)))) → fresh ms (names left) ≡ g → fresh ns (names (take (length left - 1) (drop 1 left))) ≡ g
once_step [] ms ns g some new put h = absurd (omega (arith, some))
once_step (x ∷ xs) ms ns g some new put h = ap (λ rs. fresh ns (names rs)) (rest_is x xs) ∙ one_goes_on (name x) ms ns (names xs) g new put h

pub all_step : (left : List key.Name) (ms ns : List Name) (y : Name) (g : Bool) → 1 ≤ length left → has_name y ns ≡ (has_name y ms || same_name y (name (get_or left 0 nobody))) → (has_name y ms || has_name y (names left)) ≡ g → (has_name y ns || has_name y (names (take (length left - 1) (drop 1 left)))) ≡ g
all_step [] ms ns y g some put h = absurd (omega (arith, some))
all_step (x ∷ xs) ms ns y g some put h = ap (λ rs. has_name y ns || has_name y (names rs)) (rest_is x xs) ∙ all_go_on (name x) y ms ns (names xs) g put h

pub one_ends : (ms : List Name) (ns : List key.Name) (g : Bool) → length ns < 1 → fresh ms (names ns) ≡ g → g ≡ true
one_ends ms [] g short h = sym h
one_ends ms (n ∷ ns) g short h = absurd (omega (arith, short))

pub all_found : (b : Bool) (y : Name) (ns : List key.Name) (g : Bool) → length ns < 1 → (b || has_name y (names ns)) ≡ g → b ≡ g
all_found b y [] g short h = all_end b g h
all_found b y (n ∷ ns) g short h = absurd (omega (arith, short))

-- apart, by the set of one list
bool_same : (a b : Bool) → (a ≡ true → b ≡ true) → (b ≡ true → a ≡ true) → a ≡ b
bool_same true true f g = refl
bool_same true false f g = sym (f refl)
bool_same false true f g = g refl
bool_same false false f g = refl

turned_over : (ms xs ys : List Name) → ((y : Name) → has_name y ms ≡ has_name y xs) → none_in ys ms ≡ true → none_in xs ys ≡ true
turned_over ms xs ys same h = none_show xs ys (λ x i. by_case x i (has_name x ys) refl)
  where
    by_case : (x : Name) → has_name x xs ≡ true → (b : Bool) → has_name x ys ≡ b → has_name x ys ≡ false
    by_case x i false is = is
    by_case x i true is = absurd (false≢true (sym (none_said ys ms h x is) ∙ same x ∙ i))

turned_back : (ms xs ys : List Name) → ((y : Name) → has_name y ms ≡ has_name y xs) → none_in xs ys ≡ true → none_in ys ms ≡ true
turned_back ms xs ys same h = none_show ys ms (λ y i. by_case y i (has_name y ms) refl)
  where
    by_case : (y : Name) → has_name y ys ≡ true → (b : Bool) → has_name y ms ≡ b → has_name y ms ≡ false
    by_case y i false is = is
    by_case y i true is = absurd (false≢true (sym (none_said xs ys h y (sym (same y) ∙ is)) ∙ i))

pub none_turned : (ms xs ys : List Name) → ((y : Name) → has_name y ms ≡ has_name y xs) → none_in ys ms ≡ none_in xs ys
none_turned ms xs ys same = bool_same (none_in ys ms) (none_in xs ys) (turned_over ms xs ys same) (turned_back ms xs ys same)

pub one_alone : (x : Name) → once_each (x ∷ []) (x ∷ []) ≡ true
one_alone x = once_is_distinct (x ∷ [])
