-- Facts of names by their numbers.
use Rattle.std.proofs.Common.{◌≡◌, ℕ, zero, suc, ◌+◌, ◌-◌, ◌<◌, ◌≤◌, Bool, true, false, not, cond, ◌||◌, ◌&&◌, List, [], ◌∷◌, ◌++◌, length, get_or, take, replicate, slice_get, slice_set, slice_index_or, vec_len, position, Option, Some, None, refl, sym, ap, ap₂, subst, ◌∙◌, arith}
use Rattle.std.specs.Prelude.{if◌then◌else◌, option_map, option_and_then, unwrap_or, nat_lt, nat_eq}
use Rattle.std.specs.List.{position_or_len}
use Rattle.std.specs.Vec.{with_item}
use Rattle.std.proofs.lemmas.Bool.{or_parts, or_left, or_right, ltb-true, lt-ltb, eqb-true, eq-eqb, false_from_ne_true, false≢true}
use Rattle.std.proofs.lemmas.List.{length-append, length-set, length-replicate, take_all}
use Rattle.std.proofs.lemmas.List.Quantifiers.{position-Some}
use Rattle.std.proofs.lemmas.Option.{same_Some, cond_some, slice_get-get_or, slice_get_read}
use Rattle.swc_ast.specs.Tree.{Name, same_name}
use Rattle.swc_ast.specs.Scope.{has_name}
use Rattle.static_proofs.proofs.Names.{same_name_path, same_name_itself}
use Rattle.swc_names.specs.Names.{with_name}
use Rattle.dce_uses.specs.declared.tally.Fact.{Fact}
use Rattle.dce_uses.specs.declared.tally.Tally.{Tally}
use Rattle.dce_uses.specs.declared.table.Table.{Table}
use Rattle.dce_uses.specs.Noted.{is_counted}
use Rattle.dce_uses.specs.Said.{is_number}
use Rattle.dce_uses.specs.Tables.{Extends, IsBlank, IsNumbered, Notes, Numbers, Restores, Touches, fact_at, fact_of, has_number, holds}
use Rattle.dce_uses.proofs.Adding.{or_false, or_grouped, and_false}
use Rattle.dce_uses.proofs.Counting.{alone}
use Rattle.dce_uses.proofs.Extending.{extends_as, extends_itself, longer}

-- where a name stands among others

among_more : (x y : Name) (ys : List Name) (b : Bool) → same_name x y ≡ b → (b ≡ false → position_or_len (same_name x) ys < length ys) → position_or_len (same_name x) (y ∷ ys) < length (y ∷ ys)
among_more x y ys true is rest = omega (arith, ap (λ b. cond (not b) (1 + position_or_len (same_name x) ys) 0) is)
among_more x y ys false is rest =
    let inner = rest refl in
    omega (arith, inner, ap (λ b. cond (not b) (1 + position_or_len (same_name x) ys) 0) is)

among : (x : Name) (ns : List Name) → has_name x ns ≡ true → position_or_len (same_name x) ns < length ns
among x [] h = absurd (false≢true h)
among x (y ∷ ys) h = among_more x y ys (same_name x y) refl (λ none. among x ys (sym (ap (λ b. b || has_name x ys) none) ∙ h))

nowhere : (x : Name) (ns : List Name) → has_name x ns ≡ false → position_or_len (same_name x) ns ≡ length ns
nowhere x [] h = refl
nowhere x (y ∷ ys) h =
    let p = or_parts (same_name x y) (has_name x ys) h in
    let inner = nowhere x ys p.1 in
    omega (arith, inner, ap (λ b. cond (not b) (1 + position_or_len (same_name x) ys) 0) p.0)

-- the same where more names stand behind them

in_front_more : (x z : Name) (zs more : List Name) (b : Bool) → same_name x z ≡ b → (b ≡ false → position_or_len (same_name x) (zs ++ more) ≡ position_or_len (same_name x) zs) → position_or_len (same_name x) ((z ∷ zs) ++ more) ≡ position_or_len (same_name x) (z ∷ zs)
in_front_more x z zs more true is rest =
    ap (λ b. cond (not b) (1 + position_or_len (same_name x) (zs ++ more)) 0) is
    ∙ sym (ap (λ b. cond (not b) (1 + position_or_len (same_name x) zs) 0) is)
in_front_more x z zs more false is rest = ap (λ n. cond (not (same_name x z)) (1 + n) 0) (rest refl)

in_front : (x : Name) (ns more : List Name) → has_name x ns ≡ true → position_or_len (same_name x) (ns ++ more) ≡ position_or_len (same_name x) ns
in_front x [] more h = absurd (false≢true h)
in_front x (z ∷ zs) more h = in_front_more x z zs more (same_name x z) refl (λ none. in_front x zs more (sym (ap (λ b. b || has_name x zs) none) ∙ h))

behind : (x : Name) (ns more : List Name) → has_name x ns ≡ false → position_or_len (same_name x) (ns ++ more) ≡ length ns + position_or_len (same_name x) more
behind x [] more h = omega arith
behind x (z ∷ zs) more h =
    let p = or_parts (same_name x z) (has_name x zs) h in
    let inner = behind x zs more p.1 in
    omega (arith, inner, ap (λ b. cond (not b) (1 + position_or_len (same_name x) (zs ++ more)) 0) p.0)

-- numbers by places

numbered_at : {X : Type 0} (p : X → Bool) (xs : List X) (n : ℕ) → position_or_len p xs ≡ n → n < length xs → position p xs ≡ Some n
numbered_at p xs n is h = ap (λ m. cond (nat_lt m (length xs)) (Some m) None) is ∙ ap (λ b. cond b (Some n) None) (lt-ltb n (length xs) h)

unnumbered : {X : Type 0} (p : X → Bool) (xs : List X) → position_or_len p xs ≡ length xs → position p xs ≡ None
unnumbered p xs is = by (nat_lt (position_or_len p xs) (length xs)) refl
  where
    by : (b : Bool) → nat_lt (position_or_len p xs) (length xs) ≡ b → position p xs ≡ None
    by true low = let less = ltb-true (position_or_len p xs) (length xs) low in absurd (omega (arith, less, is))
    by false high = ap (λ b. cond b (Some (position_or_len p xs)) None) high

pub within : (x : Name) (ns : List Name) (n : ℕ) → position (same_name x) ns ≡ Some n → n < length ns
within x ns n is = (position-Some (same_name x) ns n x is).0

place_of : (y : Name) (ns : List Name) (n : ℕ) → position (same_name y) ns ≡ Some n → position_or_len (same_name y) ns ≡ n
place_of y ns n is = (cond_some (nat_lt (position_or_len (same_name y) ns) (length ns)) (position_or_len (same_name y) ns) n is).1

-- what holds of no number behind those of some names holds of a name's number as before, where more names stand behind
pub same_among : (x : Name) (ns ms : List Name) (g : Option ℕ → Bool) → Extends ns ms → g None ≡ false → ((n : ℕ) → length ns ≤ n → g (Some n) ≡ false) → g (position (same_name x) ms) ≡ g (position (same_name x) ns)
same_among x ns ms g e none high = ap (λ ks. g (position (same_name x) ks)) e.is ∙ by (has_name x ns) refl
  where
    late : has_name x ns ≡ false → (o : Option ℕ) → position (same_name x) (ns ++ e.more) ≡ o → g o ≡ false
    late away None is = none
    late away (Some n) is =
        let place = behind x ns e.more away in
        let at = place_of x (ns ++ e.more) n is in
        high n (omega (arith, place, at))

    by : (b : Bool) → has_name x ns ≡ b → g (position (same_name x) (ns ++ e.more)) ≡ g (position (same_name x) ns)
    by true is =
        let low = among x ns is in
        ap g (numbered_at (same_name x) (ns ++ e.more) (position_or_len (same_name x) ns) (in_front x ns e.more is) (omega (arith, low, length-append ns e.more)))
        ∙ sym (ap g (numbered_at (same_name x) ns (position_or_len (same_name x) ns) refl low))
    by false away =
        late away (position (same_name x) (ns ++ e.more)) refl
        ∙ sym (ap g (unnumbered (same_name x) ns (nowhere x ns away)) ∙ none)

-- what was noted of the name that has a number, if one has
abbrev pub fact_in : List Tally → Option ℕ → Fact → Bool
fact_in ts o f = unwrap_or (option_map (λ t. holds t f) (option_and_then (slice_get ts) o)) false

-- nothing was noted where no tallies are
pub past : (ts : List Tally) (f : Fact) (n : ℕ) → length ts ≤ n → fact_at ts f n ≡ false
past [] f n h = refl
past (t ∷ ts) f zero h = absurd (omega (arith, h))
past (t ∷ ts) f (suc n) h = past ts f n (omega (arith, h))

-- the same at each number, so of each name
pub same_in : (ts us : List Tally) (f : Fact) → ((n : ℕ) → fact_at ts f n ≡ fact_at us f n) → (o : Option ℕ) → fact_in ts o f ≡ fact_in us o f
same_in ts us f h None = refl
same_in ts us f h (Some n) = h n

-- a number is touched

pub has_append : (n : ℕ) (ms ks : List ℕ) → has_number n (ms ++ ks) ≡ (has_number n ms || has_number n ks)
has_append n [] ks = refl
has_append n (m ∷ ms) ks = ap (λ b. nat_eq n m || b) (has_append n ms ks) ∙ sym (or_grouped (nat_eq n m) (has_number n ms) (has_number n ks))

-- a number behind others is there, and the others are
has_last : (n : ℕ) (ms : List ℕ) → has_number n (ms ++ n ∷ []) ≡ true
has_last n ms = has_append n ms (n ∷ []) ∙ or_right (has_number n ms) (nat_eq n n || false) (or_left (nat_eq n n) false (eq-eqb n n refl))

still_has : (n m : ℕ) (ms : List ℕ) → has_number n ms ≡ true → has_number n (ms ++ m ∷ []) ≡ true
still_has n m ms is = has_append n ms (m ∷ []) ∙ or_left (has_number n ms) (nat_eq n m || false) is

-- more tallies, in which nothing was noted
padded : (ts : List Tally) (k : ℕ) (e : Tally) (f : Fact) (n : ℕ) → holds e f ≡ false → fact_at (ts ++ replicate k e) f n ≡ fact_at ts f n
padded [] zero e f n none = refl
padded [] (suc k) e f zero none = none
padded [] (suc k) e f (suc n) none = padded [] k e f n none
padded (t ∷ ts) k e f zero none = refl
padded (t ∷ ts) k e f (suc n) none = padded ts k e f n none

-- a number that has a tally
pub had_tally : (u v : Table) (n m : ℕ) → v.names ≡ u.names → v.tallies.items ≡ u.tallies.items → v.touched.items ≡ u.touched.items ++ n ∷ [] → n < m → m ≡ vec_len u.tallies → Touches u v n
had_tally u v n m names tallies touched low len = record {
  names = names;
  within = omega (arith, low, len, u.tallies.ok.0, ap (λ ts. length ts) tallies);
  touched = λ _. ap (has_number n) touched ∙ has_last n u.touched.items;
  numbered = λ k. record {
    within = omega (arith, k.within, ap (λ ts. length ts) tallies, ap (λ ns. length ns) names);
    touched = λ f i is. ap (has_number i) touched ∙ still_has i n u.touched.items (k.touched f i (sym (ap (λ ts. fact_at ts f i) tallies) ∙ is));
  };
  facts = λ f i. ap (λ ts. fact_at ts f i) tallies;
}

-- one at which something was noted was touched
pub noted_tally : (u : Table) (n m : ℕ) (f : Fact) → n < m → m ≡ vec_len u.tallies → fact_at u.tallies.items f n ≡ true → Touches u u n
noted_tally u n m f low len noted = record {
  names = refl;
  within = omega (arith, low, len, u.tallies.ok.0);
  touched = λ k. k.touched f n noted;
  numbered = λ k. k;
  facts = λ f i. refl;
}

-- another gets one, as do all
pub got_tally : (u v : Table) (n m k : ℕ) (e : Tally) → v.names ≡ u.names → v.tallies.items ≡ take k u.tallies.items ++ replicate (k - vec_len u.tallies) e → v.touched.items ≡ u.touched.items ++ n ∷ [] → ((f : Fact) → holds e f ≡ false) → n < length u.names → k ≡ length u.names → m ≤ n → m ≡ vec_len u.tallies → Touches u v n
got_tally u v n m k e names tallies touched none low all high len = record {
  names = names;
  within = omega (arith, low, all, long);
  touched = λ _. ap (has_number n) touched ∙ has_last n u.touched.items;
  numbered = λ h. record {
    within = omega (arith, all, long, ap (λ ns. length ns) names);
    touched = λ f i is. ap (has_number i) touched ∙ still_has i n u.touched.items (h.touched f i (sym (facts f i) ∙ is));
  };
  facts = facts;
}
  where
    longer : v.tallies.items ≡ u.tallies.items ++ replicate (k - vec_len u.tallies) e
    longer = tallies ∙ ap (λ ts. ts ++ replicate (k - vec_len u.tallies) e) (take_all k u.tallies.items (omega (arith, low, all, high, len, u.tallies.ok.0)))

    long : length v.tallies.items ≡ k
    long = omega (arith, ap (λ ts. length ts) longer, length-append u.tallies.items (replicate (k - vec_len u.tallies) e), length-replicate (k - vec_len u.tallies) e, low, all, high, len, u.tallies.ok.0)

    facts : (f : Fact) (i : ℕ) → fact_at v.tallies.items f i ≡ fact_at u.tallies.items f i
    facts f i = ap (λ ts. fact_at ts f i) longer ∙ padded u.tallies.items (k - vec_len u.tallies) e f i (none f)

-- of each name the same was noted
pub same_facts : (u v : Table) (n : ℕ) → Touches u v n → (f : Fact) (x : Name) → fact_of v f x ≡ fact_of u f x
same_facts u v n h f x = ap (λ ns. fact_in v.tallies.items (position (same_name x) ns) f) h.names ∙ same_in v.tallies.items u.tallies.items f (h.facts f) (position (same_name x) u.names)

-- a name gets a number

added : (y : Name) (ns : List Name) (b : Bool) → has_name y ns ≡ b → Extends ns (with_name ns y)
added y ns true is = extends_as ns (with_name ns y) (ap (λ c. if c then ns else ns ++ y ∷ []) is)
added y ns false is = record { more = y ∷ []; is = ap (λ c. if c then ns else ns ++ y ∷ []) is }

-- a table with other names
abbrev pub with_names : Table → List Name → Table
with_names u ns = record { names = ns; tallies = u.tallies; touched = u.touched }

pub got_number : (u v : Table) (y : Name) (ns : List Name) (n : ℕ) → ns ≡ with_name u.names y → position (same_name y) ns ≡ Some n → Touches (with_names u ns) v n → Numbers u v y n
got_number u v y ns n names number h = record {
  names = more;
  within = h.within;
  touched = λ k. h.touched (renamed k);
  numbered = λ k. h.numbered (renamed k);
  number = ap (position (same_name y)) h.names ∙ number;
  facts = λ k f x.
      same_in v.tallies.items u.tallies.items f (h.facts f) (position (same_name x) v.names)
      ∙ same_among x u.names v.names (λ o. fact_in u.tallies.items o f) more refl (λ i high. past u.tallies.items f i (omega (arith, high, k.within)));
}
  where
    between : Extends u.names ns
    between = subst (Extends u.names) (sym names) (added y u.names (has_name y u.names) refl)

    more : Extends u.names v.names
    more = subst (Extends u.names) (sym h.names) between

    renamed : IsNumbered u → IsNumbered (with_names u ns)
    renamed k = record { within = omega (arith, k.within, longer u.names ns between); touched = k.touched }

-- the tally of a name changes

-- the name that has the number of a name is that name
named : (x : Name) (ns : List Name) (n : ℕ) → position (same_name x) ns ≡ Some n → slice_get ns n ≡ Some x
named x ns n is =
    let p = position-Some (same_name x) ns n x is in
    slice_get-get_or ns n x p.0 ∙ ap (λ y. Some y) (sym (same_name_path x (get_or ns n x) p.1))

other_number : (x y : Name) (ns : List Name) (m n : ℕ) → same_name x y ≡ false → position (same_name x) ns ≡ Some m → position (same_name y) ns ≡ Some n → m ≡ n → ⊥
other_number x y ns m n apart at_x at_y same =
    let is : x ≡ y = same_Some x y (sym (named x ns m at_x) ∙ ap (slice_get ns) same ∙ named y ns n at_y) in
    false≢true (sym apart ∙ ap (same_name x) (sym is) ∙ same_name_itself x)

-- whether a name has the number of another
pub numbered_so : (x y : Name) (ns : List Name) (n : ℕ) → position (same_name y) ns ≡ Some n → is_number ns x n ≡ has_name x (y ∷ [])
numbered_so x y ns n at = by (same_name x y) refl
  where
    other : same_name x y ≡ false → (o : Option ℕ) → position (same_name x) ns ≡ o → unwrap_or (option_map (nat_eq n) o) false ≡ false
    other apart None is = refl
    other apart (Some m) is = false_from_ne_true (nat_eq n m) (λ same. other_number x y ns m n apart is at (sym (eqb-true n m same)))

    by : (b : Bool) → same_name x y ≡ b → is_number ns x n ≡ (same_name x y || false)
    by true same =
        ap (λ z. is_number ns z n) (same_name_path x y same) ∙ ap (λ o. unwrap_or (option_map (nat_eq n) o) false) at ∙ eq-eqb n n refl
        ∙ sym (ap (λ b. b || false) same)
    by false apart = other apart (position (same_name x) ns) refl ∙ sym (ap (λ b. b || false) apart)

-- A table changes at one number.
pub record Changes (u v : Table) (n : ℕ) (t w : Tally) : Type 0 where
  pub names : v.names ≡ u.names
  pub touched : v.touched.items ≡ u.touched.items
  pub length : length v.tallies.items ≡ length u.tallies.items
  pub before : slice_get u.tallies.items n ≡ Some t
  pub after : slice_get v.tallies.items n ≡ Some w
  pub others : (k : ℕ) → (k ≡ n → ⊥) → slice_get v.tallies.items k ≡ slice_get u.tallies.items k

-- an item of a list is written
written : (ts : List Tally) (n : ℕ) (w : Tally) → n < length ts → slice_get (slice_set ts n w) n ≡ Some w
written [] n w h = absurd (omega (arith, h))
written (t ∷ ts) zero w h = refl
written (t ∷ ts) (suc n) w h = written ts n w (omega (arith, h))

untouched : (ts : List Tally) (n k : ℕ) (w : Tally) → (k ≡ n → ⊥) → slice_get (slice_set ts n w) k ≡ slice_get ts k
untouched [] n k w h = refl
untouched (t ∷ ts) zero zero w h = absurd (h refl)
untouched (t ∷ ts) zero (suc k) w h = refl
untouched (t ∷ ts) (suc n) zero w h = refl
untouched (t ∷ ts) (suc n) (suc k) w h = untouched ts n k w (λ e. h (ap suc e))

-- a table with another tally at a number
abbrev pub with_tally : Table → ℕ → Tally → Table
with_tally u n w = record { names = u.names; tallies = with_item u.tallies n w; touched = u.touched }

pub changes : (u : Table) (n m : ℕ) (t w : Tally) → n < m → m ≡ vec_len u.tallies → t ≡ slice_index_or u.tallies.items n t → Changes u (with_tally u n w) n t w
changes u n m t w low len read =
    let inside : n < length u.tallies.items = omega (arith, low, len, u.tallies.ok.0) in
    record {
      names = refl;
      touched = refl;
      length = length-set u.tallies.items n w;
      before = slice_get_read u.tallies.items (length u.tallies.items) n t refl inside read;
      after = written u.tallies.items n w inside;
      others = λ k h. untouched u.tallies.items n k w h;
    }

-- whether a fact was noted in a tally, if there is one
abbrev told : Fact → Option Tally → Bool
told f o = unwrap_or (option_map (λ t. holds t f) o) false

-- what is told at each number
pub changed_at : (u v : Table) (n : ℕ) (t w : Tally) → Changes u v n t w → (f : Fact) (m : ℕ) → fact_at v.tallies.items f m ≡ (if nat_eq n m then holds w f else fact_at u.tallies.items f m)
changed_at u v n t w h f m = by (nat_eq n m) refl
  where
    by : (b : Bool) → nat_eq n m ≡ b → fact_at v.tallies.items f m ≡ (if nat_eq n m then holds w f else fact_at u.tallies.items f m)
    by true same =
        ap (λ k. fact_at v.tallies.items f k) (sym (eqb-true n m same)) ∙ ap (told f) h.after
        ∙ sym (ap (λ b. if b then holds w f else fact_at u.tallies.items f m) same)
    by false apart =
        ap (told f) (h.others m (λ e. false≢true (sym apart ∙ eq-eqb n m (sym e))))
        ∙ sym (ap (λ b. if b then holds w f else fact_at u.tallies.items f m) apart)

-- what is told of each name
pub changed_of : (u v : Table) (n : ℕ) (t w : Tally) → Changes u v n t w → (f : Fact) (x : Name) → fact_of v f x ≡ (if is_number u.names x n then holds w f else fact_of u f x)
changed_of u v n t w h f x = ap (λ ns. fact_in v.tallies.items (position (same_name x) ns) f) h.names ∙ by (position (same_name x) u.names)
  where
    by : (o : Option ℕ) → fact_in v.tallies.items o f ≡ (if unwrap_or (option_map (nat_eq n) o) false then holds w f else fact_in u.tallies.items o f)
    by None = refl
    by (Some m) = changed_at u v n t w h f m

-- what was told of the name of the number
pub told_before : (u v : Table) (n : ℕ) (t w : Tally) → Changes u v n t w → (f : Fact) (x : Name) → is_number u.names x n ≡ true → fact_of u f x ≡ holds t f
told_before u v n t w h f x is = by (position (same_name x) u.names) is
  where
    by : (o : Option ℕ) → unwrap_or (option_map (nat_eq n) o) false ≡ true → fact_in u.tallies.items o f ≡ holds t f
    by None is = absurd (false≢true is)
    by (Some m) is = ap (λ k. fact_at u.tallies.items f k) (sym (eqb-true n m is)) ∙ ap (told f) h.before

pub stays_numbered : (u v : Table) (n : ℕ) (t w : Tally) → Changes u v n t w → has_number n u.touched.items ≡ true → IsNumbered u → IsNumbered v
stays_numbered u v n t w h has k = record {
  within = omega (arith, h.length, k.within, ap (λ ns. length ns) h.names);
  touched = λ f m is. ap (has_number m) h.touched ∙ by f m (nat_eq n m) refl (sym (changed_at u v n t w h f m) ∙ is);
}
  where
    by : (f : Fact) (m : ℕ) (b : Bool) → nat_eq n m ≡ b → (if nat_eq n m then holds w f else fact_at u.tallies.items f m) ≡ true → has_number m u.touched.items ≡ true
    by f m true same is = ap (λ i. has_number i u.touched.items) (sym (eqb-true n m same)) ∙ has
    by f m false apart is = k.touched f m (sym (ap (λ b. if b then holds w f else fact_at u.tallies.items f m) apart) ∙ is)

pub and_true : (a : Bool) → (a && true) ≡ a
and_true true = refl
and_true false = refl

-- facts are noted
pub more_told : (u v : Table) (n : ℕ) (t w : Tally) (g : Fact → Bool) → Changes u v n t w → ((f : Fact) → holds w f ≡ (holds t f || g f)) → (f : Fact) (x : Name) → fact_of v f x ≡ (fact_of u f x || (g f && is_number u.names x n))
more_told u v n t w g h with_more f x = changed_of u v n t w h f x ∙ by (is_number u.names x n) refl
  where
    by : (b : Bool) → is_number u.names x n ≡ b → (if is_number u.names x n then holds w f else fact_of u f x) ≡ (fact_of u f x || (g f && is_number u.names x n))
    by true is =
        ap (λ b. if b then holds w f else fact_of u f x) is ∙ with_more f
        ∙ ap₂ (λ a b. a || b) (sym (told_before u v n t w h f x is)) (sym (ap (λ b. g f && b) is ∙ and_true (g f)))
    by false is =
        ap (λ b. if b then holds w f else fact_of u f x) is
        ∙ sym (ap (λ b. fact_of u f x || b) (ap (λ b. g f && b) is ∙ and_false (g f)) ∙ or_false (fact_of u f x))

pub noted_one : (u v w : Table) (y : Name) (n : ℕ) (t r : Tally) (g : Fact → Bool) → Numbers u v y n → Changes v w n t r → ((f : Fact) → holds r f ≡ (holds t f || g f)) → Notes u w (alone g (y ∷ []))
noted_one u v w y n t r g got h with_more = record {
  names = subst (Extends u.names) (sym h.names) got.names;
  numbered = λ k. stays_numbered v w n t r h (got.touched k) (got.numbered k);
  facts = λ k f x.
      more_told v w n t r g h with_more f x
      ∙ ap₂ (λ a b. a || (g f && b)) (got.facts k f x) (numbered_so x y v.names n got.number);
}

-- uses and writes become those of before
back : (v w : Table) (y : Name) (n : ℕ) (t r b : Tally) → position (same_name y) v.names ≡ Some n → Changes v w n t r → ((f : Fact) → holds r f ≡ (if is_counted f then holds b f else holds t f)) → (f : Fact) (x : Name) → fact_of w f x ≡ (if is_counted f && has_name x (y ∷ []) then holds b f else fact_of v f x)
back v w y n t r b at h counted f x = changed_of v w n t r h f x ∙ by (is_number v.names x n) refl ∙ ap (λ c. if is_counted f && c then holds b f else fact_of v f x) (numbered_so x y v.names n at)
  where
    by : (c : Bool) → is_number v.names x n ≡ c → (if is_number v.names x n then holds r f else fact_of v f x) ≡ (if is_counted f && is_number v.names x n then holds b f else fact_of v f x)
    by true is =
        ap (λ c. if c then holds r f else fact_of v f x) is ∙ counted f
        ∙ ap₂ (λ c d. if c then holds b f else d) (sym (ap (λ c. is_counted f && c) is ∙ and_true (is_counted f))) (sym (told_before v w n t r h f x is))
    by false is =
        ap (λ c. if c then holds r f else fact_of v f x) is
        ∙ sym (ap (λ c. if c then holds b f else fact_of v f x) (ap (λ c. is_counted f && c) is ∙ and_false (is_counted f)))

pub restored_one : (u v w : Table) (y : Name) (n : ℕ) (t r b : Tally) → Numbers u v y n → Changes v w n t r → ((f : Fact) → holds r f ≡ (if is_counted f then holds b f else holds t f)) → Restores u w (y ∷ []) b
restored_one u v w y n t r b got h counted = record {
  names = subst (Extends u.names) (sym h.names) got.names;
  numbered = λ k. stays_numbered v w n t r h (got.touched k) (got.numbered k);
  facts = λ k f x. back v w y n t r b got.number h counted f x ∙ ap (λ c. if is_counted f && has_name x (y ∷ []) then holds b f else c) (got.facts k f x);
}

pub none_restored : (u : Table) (xs : List Name) (b : Tally) → [] ≡ xs → Restores u u xs b
none_restored u xs b none = record {
  names = extends_itself u.names;
  numbered = λ k. k;
  facts = λ k f x. sym (ap (λ c. if c then holds b f else fact_of u f x) (ap (λ ys. is_counted f && has_name x ys) (sym none) ∙ and_false (is_counted f)));
}

-- a number that is touched stands below the length
pub never_beyond : (v : Table) (n m : ℕ) → n < length v.tallies.items → m ≤ n → m ≡ vec_len v.tallies → ⊥
never_beyond v n m low high len = omega (arith, low, high, len, v.tallies.ok.0)

-- a table without tallies
pub blank : (u : Table) → u.tallies.items ≡ [] → IsBlank u
blank u none = record {
  numbered = record { within = omega (arith, ap (λ ts. length ts) none); touched = λ f n is. absurd (false≢true (sym (ap (λ ts. fact_at ts f n) none) ∙ is)) };
  facts = λ f x. ap (λ ts. fact_in ts (position (same_name x) u.names) f) none ∙ by f (position (same_name x) u.names);
}
  where
    by : (f : Fact) (o : Option ℕ) → fact_in [] o f ≡ false
    by f None = refl
    by f (Some n) = refl
