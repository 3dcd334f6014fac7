-- What is carried of variables, by number.
use Rattle.std.proofs.Common.{◌≡◌, ℕ, zero, suc, ◌+◌, ◌<◌, ◌≤◌, Bool, true, false, List, [], ◌∷◌, ◌++◌, length, slice_get, Option, Some, None, refl, sym, ap, ◌∙◌, arith}
use Rattle.std.proofs.lemmas.Bool.{false≢true, le-leb, lt-leb}
use Rattle.std.proofs.lemmas.Option.{same_Some}
use Rattle.std.specs.Prelude.{nat_le, is_some, option_map, option_and_then, if◌then◌else◌}
use Rattle.swc_ast.specs.Tree.{Name, same_name}
use Rattle.link_proofs.specs.Links as links
use Rattle.link_proofs.specs.Links.{Put, nothing}
use Rattle.carry_rules.specs.Carry.{or_put, with_put}
use Rattle.static_proofs.proofs.Names.{same_name_path}
use Rattle.carry_parts.specs.Carries.{put_of, puts_of}
use Rattle.carry_parts.specs.declared.carry.Carry.{Carry}
use Rattle.carry_parts.specs.declared.carry.Carry.TheVariants as a
use Rattle.carry_tables.specs.Tables.{item_of, Keeps}
use Rattle.carry_reads.specs.declared.settled.Settled.{Settled}
use Rattle.carry_reads.specs.Fronts.{names_in}
use Rattle.carry_reads.specs.Settles.{numbered, settled_of, Within, Grows}
use Rattle.carry_reads.proofs.Undoing.{keeps_itself, keeps_on, changed_names}

-- numbers in front of the base
below_base : (cs : List (Option Carry)) (base n : ℕ) → n < base → numbered cs base (Some n) ≡ nothing
below_base cs base n h = ap (λ b. if b then puts_of (option_and_then (λ o. o) (slice_get cs n)) else nothing) (lt-leb base n h)

pub none_next : (u : Settled) → Within u → (x : Name) → settled_of u (length u.carries.items) x ≡ nothing
none_next u within x = by (item_of u.numbers x) refl
  where
    by : (o : Option ℕ) → item_of u.numbers x ≡ o → numbered u.carries.items (length u.carries.items) o ≡ nothing
    by None e = refl
    by (Some n) e = below_base u.carries.items (length u.carries.items) n (within x n e)

from_base : (cs : List (Option Carry)) (base n : ℕ) → base ≤ n → numbered cs base (Some n) ≡ puts_of (option_and_then (λ o. o) (slice_get cs n))
from_base cs base n h = ap (λ b. if b then puts_of (option_and_then (λ o. o) (slice_get cs n)) else nothing) (le-leb base n h)

pub in_front : (u : Settled) (base : ℕ) (x : Name) (n : ℕ) → item_of u.numbers x ≡ Some n → n < base → nothing ≡ settled_of u base x
in_front u base x n is h = sym (ap (numbered u.carries.items base) is ∙ below_base u.carries.items base n h)

-- something is carried already

pub or_something : (c : Carry) (q : Put) → or_put (put_of c) q ≡ put_of c
or_something (a.Name n) q = refl
or_something (a.Num z) q = refl
or_something (a.Text t) q = refl
or_something (a.Truth b) q = refl
or_something a.Null q = refl
or_something a.Void q = refl

pub or_nothing : (q : Put) → or_put q nothing ≡ q
or_nothing nothing = refl
or_nothing (links.a_name x) = refl
or_nothing (links.a_value v) = refl

pub with_first : (y : Name) (c : Carry) (q : Put) (f : Name → Put) → f y ≡ put_of c → (x : Name) → f x ≡ with_put y q f x
with_first y c q f is x = by (same_name y x) refl
  where
    by : (b : Bool) → same_name y x ≡ b → f x ≡ (if b then or_put (f x) q else f x)
    by true e = let here : f x ≡ put_of c = ap f (sym (same_name_path y x e)) ∙ is in here ∙ sym (ap (λ p. or_put p q) here ∙ or_something c q)
    by false e = refl

pub with_nothing : (y : Name) (f : Name → Put) (x : Name) → f x ≡ with_put y nothing f x
with_nothing y f x = by (same_name y x)
  where
    by : (b : Bool) → f x ≡ (if b then or_put (f x) nothing else f x)
    by true = sym (or_nothing (f x))
    by false = refl

-- more is carried

slice_get_front : {A : Type 0} (xs ys : List A) (n : ℕ) → n < length xs → slice_get (xs ++ ys) n ≡ slice_get xs n
slice_get_front [] ys n h = absurd (omega (arith, h))
slice_get_front (x ∷ xs) ys zero h = refl
slice_get_front (x ∷ xs) ys (suc n) h = slice_get_front xs ys n (omega (arith, h))

slice_get_next : {A : Type 0} (xs : List A) (y : A) → slice_get (xs ++ y ∷ []) (length xs) ≡ Some y
slice_get_next [] y = refl
slice_get_next (x ∷ xs) y = slice_get_next xs y

one_longer : {A : Type 0} (xs : List A) (y : A) → length (xs ++ y ∷ []) ≡ length xs + 1
one_longer [] y = refl
one_longer (x ∷ xs) y = let e = one_longer xs y in omega (arith, e)

pub grows_itself : (u : Settled) → Grows u u
grows_itself u = record { numbers = keeps_itself u.numbers; names = λ x. refl; longer = omega arith; carries = λ n h. refl; within = λ h. h }

pub grows_on : {u v w : Settled} → Grows u v → Grows v w → Grows u w
grows_on {u} {v} {w} g h = record {
  numbers = keeps_on g.numbers h.numbers;
  names = λ x. h.names x ∙ g.names x;
  longer = omega (arith, g.longer, h.longer);
  carries = λ n i. h.carries n (omega (arith, g.longer, i)) ∙ g.carries n i;
  within = λ i. h.within (g.within i);
}

module _ (u w : Settled) (y : Name) (c : Carry) (number : ℕ) (counted : number ≡ length u.carries.items) (set : (x : Name) → item_of w.numbers x ≡ option_map (λ t. if same_name y x then number else t) (item_of u.numbers x)) (longer : w.carries.items ≡ u.carries.items ++ Some c ∷ []) where
  made : (x : Name) → item_of w.numbers x ≡ option_map (λ t. if same_name y x then length u.carries.items else t) (item_of u.numbers x)
  made x = set x ∙ ap (λ n. option_map (λ t. if same_name y x then n else t) (item_of u.numbers x)) counted

  pub settled_grows : Keeps u.numbers w.numbers → Grows u w
  settled_grows keeps =
      let count : length w.carries.items ≡ length u.carries.items + 1 = ap length longer ∙ one_longer u.carries.items (Some c) in record {
        numbers = keeps;
        names = changed_names u.numbers w.numbers y (length u.carries.items) made;
        longer = omega (arith, count);
        carries = λ n h. ap (λ cs. slice_get cs n) longer ∙ slice_get_front u.carries.items (Some c ∷ []) n h;
        within = λ h x n e. by h x n (same_name y x) (item_of u.numbers x) refl (sym (made x) ∙ e);
      }
    where
      by : Within u → (x : Name) (n : ℕ) (b : Bool) (o : Option ℕ) → item_of u.numbers x ≡ o → option_map (λ t. if b then length u.carries.items else t) o ≡ Some n → n < length w.carries.items
      by h x n b None e is = absurd (cc)
      by h x n true (Some t) e is = omega (arith, same_Some (length u.carries.items) n is, ap length longer, one_longer u.carries.items (Some c))
      by h x n false (Some t) e is = omega (arith, same_Some t n is, h x t e, ap length longer, one_longer u.carries.items (Some c))

  pub settled_more : (base : ℕ) → base ≤ length u.carries.items → names_in u.numbers y ≡ true → Within u → nothing ≡ settled_of u base y → (x : Name) → settled_of w base x ≡ with_put y (put_of c) (settled_of u base) x
  settled_more base room named within free x = ap (λ cs. numbered cs base (item_of w.numbers x)) longer ∙ ap (numbered (u.carries.items ++ Some c ∷ []) base) (made x) ∙ by (same_name y x) refl
    where
      new : (o : Option ℕ) → is_some o ≡ true → numbered (u.carries.items ++ Some c ∷ []) base (option_map (λ t. length u.carries.items) o) ≡ put_of c
      new None e = absurd (false≢true e)
      new (Some t) e = from_base (u.carries.items ++ Some c ∷ []) base (length u.carries.items) room ∙ ap (λ r. puts_of (option_and_then (λ p. p) r)) (slice_get_next u.carries.items (Some c))

      old : (o : Option ℕ) → item_of u.numbers x ≡ o → numbered (u.carries.items ++ Some c ∷ []) base (option_map (λ t. t) o) ≡ numbered u.carries.items base o
      old None e = refl
      old (Some t) e = ap (λ r. if nat_le base t then puts_of (option_and_then (λ p. p) r) else nothing) (slice_get_front u.carries.items (Some c ∷ []) t (within x t e))

      by : (b : Bool) → same_name y x ≡ b → numbered (u.carries.items ++ Some c ∷ []) base (option_map (λ t. if b then length u.carries.items else t) (item_of u.numbers x)) ≡ (if b then or_put (settled_of u base x) (put_of c) else settled_of u base x)
      by true e =
          let is : y ≡ x = same_name_path y x e in
          new (item_of u.numbers x) (ap (names_in u.numbers) (sym is) ∙ named) ∙ ap (λ p. or_put p (put_of c)) (free ∙ ap (settled_of u base) is)
      by false e = old (item_of u.numbers x) refl
