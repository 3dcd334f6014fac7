-- Names of a scope that are put one by one among those that are taken.
use Rattle.std.proofs.Common.{◌≡◌, ℕ, ◌+◌, ◌-◌, ◌<◌, ◌≤◌, Bool, true, false, not, ◌||◌, ◌&&◌, List, [], ◌∷◌, ◌++◌, length, take, drop, get_or, refl, sym, ap, ap₂, subst, ◌∙◌, arith}
use Rattle.std.proofs.lemmas.Bool.{false≢true, not-true}
use Rattle.std.proofs.lemmas.List.{append_assoc, append-nil, map-append, length-append}
use Rattle.std.proofs.Math.Seq.{take-append_seam}
use Rattle.swc_ast.specs.Tree.{Name, same_name}
use Rattle.swc_ast.specs.Scope.{has_name}
use Rattle.swc_ast.specs.Resolved.{one_if}
use Rattle.static_proofs.proofs.Names.{same_name_path, same_name_itself, has_name_append}
use Rattle.swc_resolved.specs.Names.{name, names}
use Rattle.swc_resolved.specs.declared.names.Name as key
use Rattle.swc_resolved.specs.Here.{distinct}
use Rattle.swc_resolved.specs.Scopes.{Binds}
use Rattle.swc_resolved.proofs.Binding.{binds_then}
use Rattle.swc_resolved.proofs.Once.{nobody, rest_is, once_joined, one_alone}

-- of the names of a scope, those in front of the ones that are left were new and are bound
abbrev pub AreNew : (old cur : Name → Bool) → List key.Name → List key.Name → Type 0
AreNew old cur ns left = (done : List key.Name) × (ns ≡ done ++ left) × Binds true old cur (λ x. one_if (has_name x (names done))) × (distinct (names done) ≡ true)

-- the start of a loop that puts them in
pub none_yet : (old cur : Name → Bool) (ns : List key.Name) → ((x : Name) → cur x ≡ old x) → AreNew old cur ns ns
none_yet old cur ns same = ([], refl, λ x. let h = ap one_if (same x) in omega (arith, h), refl)

-- a name that is put in

bound_too : (old cur next had is : Bool) → next ≡ (cur || is) → (is ≡ true → cur ≡ false) → one_if cur ≡ one_if old + one_if had → one_if next ≡ one_if old + one_if (had || (is || false))
bound_too old true next had true put new bound = absurd (false≢true (sym (new refl)))
bound_too old true next true false put new bound = ap one_if put ∙ bound
bound_too old true next false false put new bound = ap one_if put ∙ bound
bound_too old false next true is put new bound = absurd (omega (arith, bound))
bound_too old false next false true put new bound = let n = ap one_if put in omega (arith, n, bound)
bound_too old false next false false put new bound = ap one_if put ∙ bound

names_then : (done : List key.Name) (x : key.Name) → names (done ++ (x ∷ [])) ≡ names done ++ (name x ∷ [])
names_then done x = map-append name done (x ∷ [])

binds_too : (old cur next : Name → Bool) (x : key.Name) (done : List key.Name) → cur (name x) ≡ false → ((y : Name) → next y ≡ (cur y || same_name y (name x))) → Binds true old cur (λ y. one_if (has_name y (names done))) → Binds true old next (λ y. one_if (has_name y (names (done ++ (x ∷ [])))))
binds_too old cur next x done new put bound y =
    bound_too (old y) (cur y) (next y) (has_name y (names done)) (same_name y (name x)) (put y) (λ is. ap cur (same_name_path y (name x) is) ∙ new) (bound y)
    ∙ sym (ap (λ b. one_if (old y) + one_if b) (ap (has_name y) (names_then done x) ∙ has_name_append y (names done) (name x ∷ [])))

not_there : (old cur had : Bool) → cur ≡ false → one_if cur ≡ one_if old + one_if had → had ≡ false
not_there old cur true new bound = let n = ap one_if new in absurd (omega (arith, n, bound))
not_there old cur false new bound = refl

once_too : (x : Name) (xs : List Name) → has_name x xs ≡ false → distinct xs ≡ true → distinct (xs ++ (x ∷ [])) ≡ true
once_too x xs new once = once_joined xs (x ∷ []) ∙ ap₂ (λ a b. a && (distinct (x ∷ []) && (not b && true))) once new ∙ ap (λ b. b && true) (one_alone x)

one_more : (old cur next : Name → Bool) (ns : List key.Name) (x : key.Name) (xs : List key.Name) → cur (name x) ≡ false → ((y : Name) → next y ≡ (cur y || same_name y (name x))) → AreNew old cur ns (x ∷ xs) → AreNew old next ns xs
one_more old cur next ns x xs new put are =
    let done = are.0 in (
      done ++ (x ∷ []),
      are.1 ∙ sym (append_assoc done (x ∷ []) xs),
      binds_too old cur next x done new put are.2,
      ap distinct (names_then done x) ∙ once_too (name x) (names done) (not_there (old (name x)) (cur (name x)) (has_name (name x) (names done)) new (are.2 (name x))) are.3,
    )

-- a step of the loop, for the first of the names that are left
pub put_in : (old cur next : Name → Bool) (ns left : List key.Name) → 1 ≤ length left → cur (name (get_or left 0 nobody)) ≡ false → ((y : Name) → next y ≡ (cur y || same_name y (name (get_or left 0 nobody)))) → AreNew old cur ns left → AreNew old next ns (take (length left - 1) (drop 1 left))
put_in old cur next ns [] some new put are = absurd (omega (arith, some))
put_in old cur next ns (x ∷ xs) some new put are = subst (AreNew old next ns) (sym (rest_is x xs)) (one_more old cur next ns x xs new put are)

-- the end of the loop
pub all_new : (old new : Name → Bool) (ns left : List key.Name) → length left < 1 → AreNew old new ns left → Binds true old new (λ x. one_if (has_name x (names ns))) × (distinct (names ns) ≡ true)
all_new old new ns [] short are = let is = are.1 ∙ append-nil are.0 in (subst (λ ks. Binds true old new (λ x. one_if (has_name x (names ks)))) (sym is) are.2, ap (λ ks. distinct (names ks)) is ∙ are.3)
all_new old new ns (x ∷ xs) short are = absurd (omega (arith, short))

-- a name that was not new: what is left is bound by itself

unchanged : (cur next is : Bool) → next ≡ (cur || is) → (is ≡ true → cur ≡ true) → next ≡ cur
unchanged true next is put there = put
unchanged false next true put there = absurd (false≢true (there refl))
unchanged false next false put there = put

cut : (ns done left : List key.Name) → ns ≡ done ++ left → take (length ns - length left) ns ≡ done
cut ns done left is = ap (λ ks. take (length ks - length left) ks) is ∙ ap (λ n. take n (done ++ left)) (let all = length-append done left in omega (arith, all)) ∙ take-append_seam done left

in_part : (a b : Bool) → one_if (a || b) ≡ one_if a + one_if (b && not a)
in_part true true = refl
in_part true false = refl
in_part false true = refl
in_part false false = refl

parts : (x : Name) (ns done left : List key.Name) → ns ≡ done ++ left → one_if (has_name x (names ns)) ≡ one_if (has_name x (names done)) + one_if (has_name x (names left) && not (has_name x (names done)))
parts x ns done left is = ap (λ ks. one_if (has_name x (names ks))) is ∙ ap one_if (ap (has_name x) (map-append name done left) ∙ has_name_append x (names done) (names left)) ∙ in_part (has_name x (names done)) (has_name x (names left))

-- the whole scope, where a slower loop binds what is left
pub others_bound : (b : Bool) (old cur mid new : Name → Bool) (ns left first : List key.Name) → cur (name (get_or left 0 nobody)) ≡ true → ((y : Name) → mid y ≡ (cur y || same_name y (name (get_or left 0 nobody)))) → first ≡ take (length ns - length left) ns → AreNew old cur ns left → Binds b mid new (λ x. one_if (has_name x (names left) && not (has_name x (names first)))) → Binds b old new (λ x. one_if (has_name x (names ns)))
others_bound b old cur mid new ns left first there put is are bound =
    let x = name (get_or left 0 nobody) in
    binds_then b old mid new (λ y. one_if (has_name y (names are.0))) (λ y. one_if (has_name y (names left) && not (has_name y (names first)))) (λ y. one_if (has_name y (names ns)))
    (λ y. parts y ns are.0 left are.1 ∙ sym (ap (λ ks. one_if (has_name y (names are.0)) + one_if (has_name y (names left) && not (has_name y (names ks)))) (is ∙ cut ns are.0 left are.1)))
    (λ y. ap one_if (unchanged (cur y) (mid y) (same_name y x) (put y) (λ same. ap cur (same_name_path y x same) ∙ there)) ∙ are.2 y)
    bound

-- a name that is bound unless some set has it

passed : (had is : Bool) (n : ℕ) → (is ≡ true → had ≡ true) → n ≡ n + one_if (is && not had)
passed true true n there = omega arith
passed true false n there = omega arith
passed false true n there = absurd (false≢true (there refl))
passed false false n there = omega arith

-- a name that the set has: nothing is bound
pub passed_by : (old : Name → Bool) (x : Name) (own : List Name) → has_name x own ≡ true → Binds true old old (λ y. one_if (same_name y x && not (has_name y own)))
passed_by old x own there y = passed (has_name y own) (same_name y x) (one_if (old y)) (λ same. ap (λ z. has_name z own) (same_name_path y x same) ∙ there)

added : (old next had is : Bool) → next ≡ (old || is) → (is ≡ true → old ≡ false) → (is ≡ true → had ≡ false) → one_if next ≡ one_if old + one_if (is && not had)
added true next had true put new fresh = absurd (false≢true (sym (new refl)))
added false next true true put new fresh = absurd (false≢true (sym (fresh refl)))
added false next false true put new fresh = ap one_if put
added true next had false put new fresh = ap one_if put
added false next had false put new fresh = ap one_if put

taken_twice : (old same had : Bool) → false ≡ not old → same ≡ true → had ≡ false → 2 ≤ one_if old + one_if (same && not had)
taken_twice true same had there is fresh = let all = ap₂ (λ a b. one_if (a && not b)) is fresh in omega (arith, all)
taken_twice false same had there is fresh = absurd (false≢true there)

-- a name that it has not
pub bound_other : (b : Bool) (old next : Name → Bool) (x : Name) (own : List Name) → b ≡ not (old x) → ((y : Name) → next y ≡ (old y || same_name y x)) → has_name x own ≡ false → Binds b old next (λ y. one_if (same_name y x && not (has_name y own)))
bound_other true old next x own is put fresh = λ y. added (old y) (next y) (has_name y own) (same_name y x) (put y) (λ same. ap old (same_name_path y x same) ∙ not-true (old x) (sym is)) (λ same. ap (λ z. has_name z own) (same_name_path y x same) ∙ fresh)
bound_other false old next x own is put fresh = (x, taken_twice (old x) (same_name x x) (has_name x own) is (same_name_itself x) fresh)

-- names of a scope that are not among others, one by one: each is taken or left as often as the scope says
abbrev pub AreLeft : (old cur : Name → Bool) → List Name → List key.Name → (Name → ℕ) → Type 0
AreLeft old cur own left all = (y : Name) → one_if (cur y) + one_if (has_name y (names left) && not (has_name y own)) ≡ one_if (old y) + all y

-- the start of the slower loop
pub all_left : (old : Name → Bool) (own : List Name) (ns done : List key.Name) → ((y : Name) → has_name y own ≡ has_name y (names done)) → AreLeft old old own ns (λ y. one_if (has_name y (names ns) && not (has_name y (names done))))
all_left old own ns done is y = ap (λ b. one_if (old y) + one_if (has_name y (names ns) && not b)) (is y)

split : (had is rest now : Bool) → now ≡ (had || is) → one_if ((is || rest) && not had) ≡ one_if (is && not had) + one_if (rest && not now)
split had is rest now put = by_case had is rest ∙ ap (λ b. one_if (is && not had) + one_if (rest && not b)) (sym put)
  where
    by_case : (had is rest : Bool) → one_if ((is || rest) && not had) ≡ one_if (is && not had) + one_if (rest && not (had || is))
    by_case true true true = refl
    by_case true true false = refl
    by_case true false true = refl
    by_case true false false = refl
    by_case false true true = refl
    by_case false true false = refl
    by_case false false true = refl
    by_case false false false = refl

-- a step of it
pub one_left : (old cur next : Name → Bool) (own now : List Name) (left : List key.Name) (all : Name → ℕ) → 1 ≤ length left → ((y : Name) → has_name y now ≡ (has_name y own || same_name y (name (get_or left 0 nobody)))) → Binds true cur next (λ y. one_if (same_name y (name (get_or left 0 nobody)) && not (has_name y own))) → AreLeft old cur own left all → AreLeft old next now (take (length left - 1) (drop 1 left)) all
one_left old cur next own now [] all some put bound are = absurd (omega (arith, some))
one_left old cur next own now (x ∷ xs) all some put bound are =
    subst (λ ks. AreLeft old next now ks all) (sym (rest_is x xs)) (λ y. let f = split (has_name y own) (same_name y (name x)) (has_name y (names xs)) (has_name y now) (put y) in let b = bound y in let h = are y in omega (arith, f, b, h))

-- a step that finds a name taken
pub left_taken : (old cur next : Name → Bool) (own : List Name) (left : List key.Name) (all : Name → ℕ) → 1 ≤ length left → Binds false cur next (λ y. one_if (same_name y (name (get_or left 0 nobody)) && not (has_name y own))) → AreLeft old cur own left all → Binds false old next all
left_taken old cur next own [] all some bound are = absurd (omega (arith, some))
left_taken old cur next own (x ∷ xs) all some bound are =
    let y = bound.0 in let f = split (has_name y own) (same_name y (name x)) (has_name y (names xs)) (has_name y own || same_name y (name x)) refl in let b = bound.1 in let h = are y in
    (y, omega (arith, f, b, h))

-- its end
pub none_left : (old new : Name → Bool) (own : List Name) (left : List key.Name) (all : Name → ℕ) → length left < 1 → AreLeft old new own left all → Binds true old new all
none_left old new own [] all short are = λ y. let h = are y in omega (arith, h)
none_left old new own (x ∷ xs) all short are = absurd (omega (arith, short))
