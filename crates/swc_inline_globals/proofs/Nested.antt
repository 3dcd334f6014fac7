-- How many levels there are, by what is told of values.
use Rattle.std.proofs.Common.{◌≡◌, ℕ, zero, suc, ◌+◌, ◌-◌, ◌<◌, ◌≤◌, ◌==◌, ◌||◌, ◌⊎◌, Bool, true, false, max, inl, inr, List, [], ◌∷◌, length, set, take, get_or, Some, slice_get, nat_lt, ltb-true, refl, sym, ap, subst, ◌∙◌, arith}
use Rattle.std.proofs.lemmas.Bool.{false≢true, or_right, cases_lt}
use Rattle.std.proofs.lemmas.Bool.Decides.{eqb_tells}
use Rattle.std.proofs.lemmas.List.{length-set}
use Rattle.std.proofs.lemmas.List.Elements.{All-head, All-tail}
use Rattle.std.specs.List.{All}
use Rattle.swc_ast.specs.Tree.{Tree}
use Rattle.swc_levels.specs.Levels.{levels}
use Rattle.swc_pass.specs.Given.{Answers, value_at}
use Rattle.given_rules.specs.Cycles.{is_among, Leads, meets, through}
use Rattle.given_rules.specs.Met.{met}
use Rattle.swc_inline_globals.specs.Nesting.{Nests, alone, with_value, Behind, nothing_behind, value_behind, Reaches, asked, further, TurnsBack, TellsOfTree, TellsBehind, TellsOfValue, IfCounted, IsBegun, Told, Lead, FewerBegun}
use Rattle.swc_inline_globals.specs.Walking.{AllInRange}
use Rattle.swc_inline_globals.specs.declared.levels.Nesting.{Nesting}
use Rattle.swc_inline_globals.specs.declared.levels.Nesting.TheVariants.{Levels, TooMany, Cyclic}
use Rattle.swc_inline_globals.specs.declared.levels.Seen.{Seen}
use Rattle.swc_inline_globals.specs.declared.levels.Seen.TheVariants.{New, Begun, Done}
use Rattle.swc_inline_globals.proofs.Lists.{get_set_same, get_set_other, covers_at, same_number, among_at}

-- a number that is the only one
pub only_one : (j i : ℕ) → is_among j (i ∷ []) ≡ true → i ≡ j
only_one j i h = elim (eqb_tells i j) [
  | inl e ↦ e.1
  | inr e ↦ absurd (false≢true (sym (ap (λ b. b || false) e.0) ∙ h))
]

pub one_only : (i : ℕ) → is_among i (i ∷ []) ≡ true
one_only i = ap (λ b. b || false) (same_number i)

-- one of the first numbers of a list, with one more

only_first : (i j : ℕ) (is : List ℕ) → is_among j (i ∷ take 0 is) ≡ true → i ≡ j
only_first i j [] m = only_one j i m
only_first i j (x ∷ xs) m = only_one j i m

among_next : (i j g : ℕ) (is js : List ℕ) → (is_among j is ≡ true → (is_among j js ≡ true) ⊎ (g ≡ j)) → (b : Bool) → (i == j) ≡ b → (b || is_among j is) ≡ true → (is_among j (i ∷ js) ≡ true) ⊎ (g ≡ j)
among_next i j g is js f true q m = inl (ap (λ b. b || is_among j js) q)
among_next i j g is js f false q m = elim (f m) [
  | inl l ↦ inl (or_right (i == j) (is_among j js) l)
  | inr r ↦ inr r
]

next_suc : (k : ℕ) → suc k + 1 ≡ suc (k + 1)
next_suc k = omega arith

pub among_more : (is : List ℕ) (k d j : ℕ) → k < length is → is_among j (take (k + 1) is) ≡ true → (is_among j (take k is) ≡ true) ⊎ (get_or is k d ≡ j)
among_more [] k d j h m = absurd (omega (arith, h))
among_more (i ∷ is) zero d j h m = inr (only_first i j is m)
among_more (i ∷ is) (suc k) d j h m = among_next i j (get_or is k d) (take (k + 1) is) (take k is) (among_more is k d j (omega (arith, h))) (i == j) refl (subst (λ n. is_among j (take n (i ∷ is)) ≡ true) (next_suc k) m)

-- where nothing was met

all_new : (xs : List Seen) → All (λ s. s ≡ New) xs → (i : ℕ) (s : Seen) → slice_get xs i ≡ Some s → s ≡ New
all_new [] h i s e = cc
all_new (x ∷ xs) h zero s e = let f = All-head (λ y. y ≡ New) x xs h in cc
all_new (x ∷ xs) h (suc i) s e = all_new xs (All-tail (λ y. y ≡ New) x xs h) i s e

pub none_begun : (xs : List Seen) → All (λ s. s ≡ New) xs → (i : ℕ) → IsBegun xs i → ⊥
none_begun xs h i b = not_new (all_new xs h i Begun b)
  where
    not_new : Begun ≡ New → ⊥
    not_new e = cc

-- where levels were counted, what holds then
pub counted : (r : Nesting) (n : ℕ) (P : Type 0) → r ≡ Levels n → IfCounted r P → P
counted (Levels m) n P e p = p
counted TooMany n P e p = cc
counted Cyclic n P e p = cc

pub uncounted : (r : Nesting) → ((n : ℕ) → r ≡ Levels n → ⊥) → (P : Type 0) → IfCounted r P
uncounted (Levels n) other P = absurd (other n refl)
uncounted TooMany other P = tt
uncounted Cyclic other P = tt

-- a number at a place of a list that is in range
pub in_range_at : (n : ℕ) (is : List ℕ) (k : ℕ) → AllInRange n is → k < length is → get_or is k 0 < n
in_range_at n is k r h = ltb-true (get_or is k 0) n (covers_at (λ i. nat_lt i n) is k 0 r h)

module _ (a : Answers) where
  abbrev value : ℕ → Tree
  value i = value_at a.values i

  -- a tree with what is behind it

  pub nests_with : (t : Tree) (h : ℕ) → levels t ≡ h → {n : ℕ} → Behind a (met a t) n → Nests a t (h + n)
  nests_with t h own nothing_behind = subst (Nests a t) (own ∙ omega arith) (alone t)
  nests_with t h own (value_behind i {n} m v) = subst (λ k. Nests a t (k + (1 + n))) own (with_value t i m v)

  pub nests_most : (t : Tree) (h n : ℕ) → levels t ≡ h → ((m : ℕ) → Behind a (met a t) m → m ≤ n) → (m : ℕ) → Nests a t m → m ≤ h + n
  nests_most t h n own most m (alone u) = omega (arith, own)
  nests_most t h n own most m (with_value u i {n = k} among v) = let low = most (1 + k) (value_behind i among v) in omega (arith, own, low)

  reached_leads : (t : Tree) (i : ℕ) → Reaches a (met a t) i → Leads a t i
  reached_leads t i (asked m) = meets m
  reached_leads t i (further j m l) = through j m l

  pub tree_alone : (t : Tree) (most : ℕ) → most < levels t → TellsOfTree a t most TooMany
  tree_alone t most h = (levels t, alone t, h)

  pub tree_told : (t : Tree) (is : List ℕ) (h most : ℕ) → is ≡ met a t → levels t ≡ h → h ≤ most → (n : ℕ) → TellsBehind a is (most - h) (Levels n) → TellsOfTree a t most (Levels (h + n))
  tree_told t is h most e own low n told =
      let told' : TellsBehind a (met a t) (most - h) (Levels n) = subst (λ js. TellsBehind a js (most - h) (Levels n)) e told in
      let l = told'.2 in
      (nests_with t h own told'.0, nests_most t h n own told'.1, omega (arith, l, low))

  pub tree_other : (t : Tree) (is : List ℕ) (h most : ℕ) → is ≡ met a t → levels t ≡ h → h ≤ most → (r : Nesting) → ((n : ℕ) → r ≡ Levels n → ⊥) → TellsBehind a is (most - h) r → TellsOfTree a t most r
  tree_other t is h most e own low (Levels n) other told = absurd (other n refl)
  tree_other t is h most e own low TooMany other told =
      let told' : TellsBehind a (met a t) (most - h) TooMany = subst (λ js. TellsBehind a js (most - h) TooMany) e told in
      let m = told'.2 in
      (h + told'.0, nests_with t h own told'.1, omega (arith, m, low))
  tree_other t is h most e own low Cyclic other told =
      let c : TurnsBack a (met a t) = subst (TurnsBack a) e told in
      (c.to, record { reached = reached_leads t c.to c.reached; again = c.again })

  -- a value, as one of some

  behind_one : (i n : ℕ) → Nests a (value i) n → Behind a (i ∷ []) (1 + n)
  behind_one i n v = value_behind i (one_only i) v

  behind_most : (i n : ℕ) → ((m : ℕ) → Nests a (value i) m → m ≤ n) → (m : ℕ) → Behind a (i ∷ []) m → m ≤ 1 + n
  behind_most i n most m nothing_behind = omega arith
  behind_most i n most m (value_behind j {n = k} among v) = let low = most k (subst (λ l. Nests a (value l) k) (sym (only_one j i among)) v) in omega (arith, low)

  pub met_high : (i most : ℕ) → most ≡ 0 → TellsBehind a (i ∷ []) most TooMany
  met_high i most e = (1 + levels (value i), behind_one i (levels (value i)) (alone (value i)), omega (arith, e))

  pub met_done : (xs : List Seen) (i n most : ℕ) → Told a xs → slice_get xs i ≡ Some (Done n) → n < most → TellsBehind a (i ∷ []) most (Levels (n + 1))
  met_done xs i n most t d low = subst (λ k. TellsBehind a (i ∷ []) most (Levels k)) (omega arith) (behind_one i n (t.nests i n d), behind_most i n (t.most i n d), omega (arith, low))

  pub met_too_high : (xs : List Seen) (i n most : ℕ) → Told a xs → slice_get xs i ≡ Some (Done n) → most ≤ n → TellsBehind a (i ∷ []) most TooMany
  met_too_high xs i n most t d high = (1 + n, behind_one i n (t.nests i n d), omega (arith, high))

  pub met_begun : (xs : List Seen) (i most : ℕ) → Lead a xs (i ∷ []) → IsBegun xs i → TellsBehind a (i ∷ []) most Cyclic
  met_begun xs i most l b = record { to = i; reached = asked (one_only i); again = l i i b (one_only i) }

  pub met_new : (i n most : ℕ) → TellsOfValue a i (most - 1) (Levels n) → 0 < most → TellsBehind a (i ∷ []) most (Levels (n + 1))
  met_new i n most told h = let low = told.2 in subst (λ k. TellsBehind a (i ∷ []) most (Levels k)) (omega arith) (behind_one i n told.0, behind_most i n told.1, omega (arith, low, h))

  pub met_other : (i most : ℕ) → 0 < most → (r : Nesting) → ((n : ℕ) → r ≡ Levels n → ⊥) → TellsOfValue a i (most - 1) r → TellsBehind a (i ∷ []) most r
  met_other i most h (Levels n) other told = absurd (other n refl)
  met_other i most h TooMany other told = let m = told.2 in (1 + told.0, behind_one i told.0 told.1, omega (arith, m, h))
  met_other i most h Cyclic other told = told

  -- a value that wasn't met yet

  pub value_alone : (i most : ℕ) (t : Tree) → t ≡ value_at a.values i → most < levels t → TellsOfValue a i most TooMany
  value_alone i most t e h = (levels (value i), alone (value i), subst (λ u. most < levels u) e h)

  pub value_told : (i : ℕ) (t : Tree) (is : List ℕ) (h most : ℕ) → t ≡ value_at a.values i → is ≡ met a (value_at a.values i) → levels t ≡ h → h ≤ most → (n : ℕ) → TellsBehind a is (most - h) (Levels n) → TellsOfValue a i most (Levels (h + n))
  value_told i t is h most v e own low n told = tree_told (value i) is h most e (ap levels (sym v) ∙ own) low n told

  pub value_other : (i : ℕ) (t : Tree) (is : List ℕ) (h most : ℕ) → t ≡ value_at a.values i → is ≡ met a (value_at a.values i) → levels t ≡ h → h ≤ most → (r : Nesting) → ((n : ℕ) → r ≡ Levels n → ⊥) → TellsBehind a is (most - h) r → TellsOfValue a i most r
  value_other i t is h most v e own low (Levels n) other told = absurd (other n refl)
  value_other i t is h most v e own low TooMany other told = tree_other (value i) is h most e (ap levels (sym v) ∙ own) low TooMany other told
  value_other i t is h most v e own low Cyclic other told =
      let c : TurnsBack a (met a (value i)) = subst (TurnsBack a) e told in
      record { to = c.to; reached = further i (one_only i) (reached_leads (value i) c.to c.reached); again = c.again }

  -- some values, one after another

  behind_wider : (is js : List ℕ) → ((i : ℕ) → is_among i is ≡ true → is_among i js ≡ true) → {n : ℕ} → Behind a is n → Behind a js n
  behind_wider is js f nothing_behind = nothing_behind
  behind_wider is js f (value_behind i m v) = value_behind i (f i m) v

  one_among : (is : List ℕ) (k d : ℕ) → k < length is → (i : ℕ) → is_among i (get_or is k d ∷ []) ≡ true → is_among i is ≡ true
  one_among is k d h i m = subst (λ j. is_among j is ≡ true) (only_one i (get_or is k d) m) (among_at is k d h)

  -- what is told of the first numbers of a list
  pub record FirstTold (is : List ℕ) (k most n : ℕ) : Type 0 where
    pub behind : Behind a is n
    pub most_behind : (m : ℕ) → Behind a (take k is) m → m ≤ n
    pub low : n ≤ most

  pub first_none : (is : List ℕ) (most : ℕ) → FirstTold is 0 most 0
  first_none is most = record { behind = nothing_behind; most_behind = λ m b. none is m b; low = omega arith }
    where
      none : (is : List ℕ) (m : ℕ) → Behind a (take 0 is) m → m ≤ 0
      none [] m nothing_behind = omega arith
      none [] m (value_behind i h v) = absurd (false≢true h)
      none (x ∷ xs) m nothing_behind = omega arith
      none (x ∷ xs) m (value_behind i h v) = absurd (false≢true h)

  greater : (P : ℕ → Type 0) (m n : ℕ) → P m → P n → P (max m n)
  greater P m n x y = elim (cases_lt m n) [
    | inl low ↦ subst P (omega (arith, low)) y
    | inr high ↦ subst P (omega (arith, high)) x
  ]

  pub first_more : (is : List ℕ) (k d most n m g : ℕ) → k < length is → FirstTold is k most n → TellsBehind a (get_or is k d ∷ []) most (Levels m) → g ≡ max m n → FirstTold is (k + 1) most g
  first_more is k d most n m g h f told e =
      let l = told.2 in
      let low = f.low in
      record {
        behind = subst (Behind a is) (sym e) (greater (Behind a is) m n (behind_wider (get_or is k d ∷ []) is (one_among is k d h) told.0) f.behind);
        most_behind = λ j b. step j b;
        low = omega (arith, e, l, low);
      }
    where
      step : (j : ℕ) → Behind a (take (k + 1) is) j → j ≤ g
      step j nothing_behind = omega arith
      step j (value_behind i {n = p} among v) = elim (among_more is k d i h among) [
        | inl q ↦ let low = f.most_behind (1 + p) (value_behind i q v) in omega (arith, e, low)
        | inr q ↦ let low = told.1 (1 + p) (value_behind i (subst (λ x. is_among i (x ∷ []) ≡ true) (sym q) (one_only i)) v) in omega (arith, e, low)
      ]

  pub first_all : (is : List ℕ) (k most n : ℕ) → length is ≤ k → FirstTold is k most n → TellsBehind a is most (Levels n)
  first_all is k most n h f = (f.behind, λ m b. f.most_behind m (subst (λ js. Behind a js m) (sym (whole is k h)) b), f.low)
    where
      whole : (is : List ℕ) (k : ℕ) → length is ≤ k → take k is ≡ is
      whole [] zero h = refl
      whole [] (suc k) h = refl
      whole (i ∷ is) zero h = absurd (omega (arith, h))
      whole (i ∷ is) (suc k) h = ap (λ js. i ∷ js) (whole is k (omega (arith, h)))

  reaches_wider : (is js : List ℕ) → ((i : ℕ) → is_among i is ≡ true → is_among i js ≡ true) → (i : ℕ) → Reaches a is i → Reaches a js i
  reaches_wider is js f i (asked m) = asked (f i m)
  reaches_wider is js f i (further j m l) = further j (f j m) l

  pub all_other : (is : List ℕ) (k d most : ℕ) → k < length is → (r : Nesting) → ((n : ℕ) → r ≡ Levels n → ⊥) → TellsBehind a (get_or is k d ∷ []) most r → TellsBehind a is most r
  all_other is k d most h (Levels n) other told = absurd (other n refl)
  all_other is k d most h TooMany other told = (told.0, behind_wider (get_or is k d ∷ []) is (one_among is k d h) told.1, told.2)
  all_other is k d most h Cyclic other told = record { to = told.to; reached = reaches_wider (get_or is k d ∷ []) is (one_among is k d h) told.to told.reached; again = told.again }

  -- what is begun leads on

  leads_on : {t : Tree} (i : ℕ) → Leads a t i → (j : ℕ) → is_among j (met a (value i)) ≡ true → Leads a t j
  leads_on i (meets m) j h = through i m (meets h)
  leads_on i (through k m l) j h = through k m (leads_on i l j h)

  pub lead_one : (xs : List Seen) (is : List ℕ) (k d : ℕ) → k < length is → Lead a xs is → Lead a xs (get_or is k d ∷ [])
  lead_one xs is k d h l i j b m = l i j b (one_among is k d h j m)

  pub lead_fewer : (xs ys : List Seen) (is : List ℕ) → FewerBegun xs ys → Lead a xs is → Lead a ys is
  lead_fewer xs ys is f l i j b m = l i j (f i b) m

  -- a value is begun, and leads to what is met in it
  pub lead_begun : (xs ys : List Seen) (i : ℕ) (is : List ℕ) → i < length xs → ys ≡ set xs i Begun → is ≡ met a (value_at a.values i) → Lead a xs (i ∷ []) → Lead a ys is
  lead_begun xs ys i is h e m l k j b among =
      let q : is_among j (met a (value i)) ≡ true = subst (λ js. is_among j js ≡ true) m among in
      elim (eqb_tells i k) [
        | inl s ↦ subst (λ n. Leads a (value n) j) s.1 (meets q)
        | inr s ↦ leads_on i (l k i (sym (get_set_other xs i k Begun s.1) ∙ subst (λ zs. IsBegun zs k) e b) (one_only i)) j q
      ]

  pub fewer_done : (xs ys zs : List Seen) (i n : ℕ) → i < length ys → FewerBegun (set xs i Begun) ys → zs ≡ set ys i (Done n) → FewerBegun xs zs
  fewer_done xs ys zs i n h f e k b =
      let c : IsBegun (set ys i (Done n)) k = subst (λ ws. IsBegun ws k) e b in
      elim (eqb_tells i k) [
        | inl s ↦ absurd (not_begun (sym (get_set_same ys i (Done n) h) ∙ ap (slice_get (set ys i (Done n))) s.1 ∙ c))
        | inr s ↦ sym (get_set_other xs i k Begun s.1) ∙ f k (sym (get_set_other ys i k (Done n) s.1) ∙ c)
      ]
    where
      not_begun : Some (Done n) ≡ Some Begun → ⊥
      not_begun e = cc

  -- what is known of values

  pub told_begun : (xs ys : List Seen) (i : ℕ) → Told a xs → i < length xs → ys ≡ set xs i Begun → Told a ys
  told_begun xs ys i t h e = subst (Told a) (sym e) (record {
    all = length-set xs i Begun ∙ t.all;
    nests = λ j n d. t.nests j n (was j n d);
    most = λ j n d. t.most j n (was j n d);
  })
    where
      not_done : (n : ℕ) → Some Begun ≡ Some (Done n) → ⊥
      not_done n e = cc

      was : (j n : ℕ) → slice_get (set xs i Begun) j ≡ Some (Done n) → slice_get xs j ≡ Some (Done n)
      was j n d = elim (eqb_tells i j) [
        | inl q ↦ absurd (not_done n (sym (get_set_same xs i Begun h) ∙ ap (slice_get (set xs i Begun)) q.1 ∙ d))
        | inr q ↦ sym (get_set_other xs i j Begun q.1) ∙ d
      ]

  pub told_done : (xs ys : List Seen) (i k : ℕ) → Told a xs → i < length xs → ys ≡ set xs i (Done k) → Nests a (value_at a.values i) k → ((m : ℕ) → Nests a (value_at a.values i) m → m ≤ k) → Told a ys
  told_done xs ys i k t h e v top = subst (Told a) (sym e) (record {
    all = length-set xs i (Done k) ∙ t.all;
    nests = λ j n d. elim (was j n d) [
      | inl q ↦ subst (λ l. Nests a (value l) n) q.0 (subst (Nests a (value i)) q.1 v)
      | inr q ↦ t.nests j n q
    ];
    most = λ j n d m w. elim (was j n d) [
      | inl q ↦ let low = top m (subst (λ l. Nests a (value l) m) (sym q.0) w) in omega (arith, low, q.1)
      | inr q ↦ t.most j n q m w
    ];
  })
    where
      same_done : (n : ℕ) → Some (Done k) ≡ Some (Done n) → k ≡ n
      same_done n e = cc

      was : (j n : ℕ) → slice_get (set xs i (Done k)) j ≡ Some (Done n) → ((i ≡ j) × (k ≡ n)) ⊎ (slice_get xs j ≡ Some (Done n))
      was j n d = elim (eqb_tells i j) [
        | inl q ↦ inl (q.1, same_done n (sym (get_set_same xs i (Done k) h) ∙ ap (slice_get (set xs i (Done k))) q.1 ∙ d))
        | inr q ↦ inr (sym (get_set_other xs i j (Done k) q.1) ∙ d)
      ]

  -- nothing is known

  pub none_told : (xs : List Seen) → length xs ≡ length a.values → All (λ s. s ≡ New) xs → Told a xs
  none_told xs l new = record { all = l; nests = λ i n d. absurd (not_new n (all_new xs new i (Done n) d)); most = λ i n d. absurd (not_new n (all_new xs new i (Done n) d)) }
    where
      not_new : (n : ℕ) → Done n ≡ New → ⊥
      not_new n e = cc
