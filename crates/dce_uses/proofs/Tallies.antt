-- The bits of tallies.
use Rattle.std.proofs.Common.{◌≡◌, ℕ, zero, suc, ◌*◌, ◌^◌, ◌%◌, ◌<◌, Bool, true, false, not, ◌||◌, ◌&&◌, nat_eq, bit_and, bit_or, refl, sym, ap, ap₂, ◌∙◌, arith}
use mir.Val.{bool_byte}
use Rattle.std.specs.Prelude.{max, min, if◌then◌else◌}
use Rattle.std.specs.Int.{bit_at}
use Rattle.std.proofs.Math.Bool.{and-false, or-false}
use Rattle.std.proofs.lemmas.Bool.{eqb-true, eqb-false}
use Rattle.std.proofs.lemmas.Nat.{one_shl}
use Rattle.std.proofs.lemmas.Nat.Bits.{bit_at-lt, bit_at-zero, bit_at-pow_same, bit_at-pow_other, bit_at_and, bit_at_or}
use Rattle.swc_ast.specs.Tree.{Label}
use Rattle.dce_uses.specs.declared.place.Place.{Place}
use Rattle.dce_uses.specs.declared.tally.Fact.{Fact}
use Rattle.dce_uses.specs.declared.tally.Fact.TheVariants as fact
use Rattle.dce_uses.specs.declared.tally.Tally.{Tally}
use Rattle.dce_uses.specs.Noted.{declaring, is_counted, is_hiding, lets_go, naming, reads, writes}
use Rattle.dce_uses.specs.Tables.{holds, is_same, place_of}

-- whether a number has a bit
abbrev pub has_bit : ℕ → ℕ → Bool
has_bit n i = nat_eq (bit_at n i) 1

-- the larger and the smaller of two bits

larger : (m n : ℕ) → m < 2 → n < 2 → nat_eq (max m n) 1 ≡ (nat_eq m 1 || nat_eq n 1)
larger zero zero low_m low_n = refl
larger zero (suc zero) low_m low_n = refl
larger (suc zero) zero low_m low_n = refl
larger (suc zero) (suc zero) low_m low_n = refl
larger (suc (suc m)) n low_m low_n = absurd (omega (arith, low_m))
larger m (suc (suc n)) low_m low_n = absurd (omega (arith, low_n))

smaller : (m n : ℕ) → m < 2 → n < 2 → nat_eq (min m n) 1 ≡ (nat_eq m 1 && nat_eq n 1)
smaller zero zero low_m low_n = refl
smaller zero (suc zero) low_m low_n = refl
smaller (suc zero) zero low_m low_n = refl
smaller (suc zero) (suc zero) low_m low_n = refl
smaller (suc (suc m)) n low_m low_n = absurd (omega (arith, low_m))
smaller m (suc (suc n)) low_m low_n = absurd (omega (arith, low_n))

-- what is in either of two numbers
in_either : (m n i : ℕ) → has_bit (bit_or m n) i ≡ (has_bit m i || has_bit n i)
in_either m n i = ap (λ b. nat_eq b 1) (bit_at_or m n i) ∙ larger (bit_at m i) (bit_at n i) (bit_at-lt m i) (bit_at-lt n i)

-- what is in both
in_both : (m n i : ℕ) → has_bit (bit_and m n) i ≡ (has_bit m i && has_bit n i)
in_both m n i = ap (λ b. nat_eq b 1) (bit_at_and m n i) ∙ smaller (bit_at m i) (bit_at n i) (bit_at-lt m i) (bit_at-lt n i)

-- two numbers in one
pub either_holds : (s t : Tally) (f : Fact) → holds (record { facts = bit_or s.facts t.facts }) f ≡ (holds s f || holds t f)
either_holds s t f = in_either s.facts t.facts (place_of f)

-- the bit at a place, if that is so
bit_put : (p i b : ℕ) (is_so : Bool) → p < 8 → b ≡ bool_byte is_so → has_bit (b * 2 ^ p % 256) i ≡ (nat_eq p i && is_so)
bit_put p i b false low is =
    let none : bool_byte false * 2 ^ p % 256 ≡ 0 = omega arith in
    ap (λ n. has_bit (n * 2 ^ p % 256) i) is ∙ ap (λ n. has_bit n i) none ∙ ap (λ n. nat_eq n 1) (bit_at-zero i) ∙ sym (and-false (nat_eq p i))
bit_put p i b true low is = ap (λ n. has_bit (n * 2 ^ p % 256) i) is ∙ ap (λ n. has_bit n i) (one_shl p 8 low) ∙ by (nat_eq p i) refl
  where
    by : (c : Bool) → nat_eq p i ≡ c → has_bit (2 ^ p) i ≡ (nat_eq p i && true)
    by true same = ap (has_bit (2 ^ p)) (sym (eqb-true p i same)) ∙ ap (λ n. nat_eq n 1) (bit_at-pow_same p) ∙ sym (ap (λ c. c && true) same)
    by false apart = ap (λ n. nat_eq n 1) (bit_at-pow_other p i (λ e. eqb-false p i apart (sym e))) ∙ sym (ap (λ c. c && true) apart)

-- places are those of a byte
place_low : (f : Fact) → place_of f < 8
place_low fact.Used = omega arith
place_low fact.Written = omega arith
place_low fact.Abroad = omega arith
place_low fact.Declared = omega arith
place_low fact.Held = omega arith
place_low fact.Hidden = omega arith

-- a fact more, if that is so
pub with_holds : (t : Tally) (g : Fact) (is_so : Bool) (p b : ℕ) → p ≡ place_of g → b ≡ bool_byte is_so → (f : Fact) → holds (record { facts = bit_or t.facts (b * 2 ^ p % 256) }) f ≡ (holds t f || is_same g f && is_so)
with_holds t g is_so p b place byte f =
    ap (λ q. has_bit (bit_or t.facts (b * 2 ^ q % 256)) (place_of f)) place ∙ in_either t.facts (b * 2 ^ place_of g % 256) (place_of f)
    ∙ ap (λ c. holds t f || c) (bit_put (place_of g) (place_of f) b is_so (place_low g) byte)

-- the masks of the facts that are counted and of the others

counted_mask : (f : Fact) → has_bit 3 (place_of f) ≡ is_counted f
counted_mask fact.Used = refl
counted_mask fact.Written = refl
counted_mask fact.Abroad = refl
counted_mask fact.Declared = refl
counted_mask fact.Held = refl
counted_mask fact.Hidden = refl

other_mask : (f : Fact) → has_bit 252 (place_of f) ≡ not (is_counted f)
other_mask fact.Used = refl
other_mask fact.Written = refl
other_mask fact.Abroad = refl
other_mask fact.Declared = refl
other_mask fact.Held = refl
other_mask fact.Hidden = refl

-- one of two truth values
chosen : (c a b : Bool) → ((a && not c) || (b && c)) ≡ (if c then b else a)
chosen true true true = refl
chosen true true false = refl
chosen true false true = refl
chosen true false false = refl
chosen false true b = refl
chosen false false true = refl
chosen false false false = refl

-- uses and writes of one tally, and the rest of another
pub counted_holds : (s t : Tally) (f : Fact) → holds (record { facts = bit_or (bit_and s.facts 252) (bit_and t.facts 3) }) f ≡ (if is_counted f then holds t f else holds s f)
counted_holds s t f =
    in_either (bit_and s.facts 252) (bit_and t.facts 3) (place_of f)
    ∙ ap₂ (λ a b. a || b) (in_both s.facts 252 (place_of f) ∙ ap (λ c. holds s f && c) (other_mask f)) (in_both t.facts 3 (place_of f) ∙ ap (λ c. holds t f && c) (counted_mask f))
    ∙ chosen (is_counted f) (holds s f) (holds t f)

-- tallies that are made fact by fact

-- the fact that hides a name
pub hiding_holds : (e t : Tally) → ((f : Fact) → holds e f ≡ false) → ((f : Fact) → holds t f ≡ (holds e f || is_same fact.Hidden f && true)) → (f : Fact) → holds t f ≡ is_hiding f
hiding_holds e t none last f = last f ∙ ap (λ b. b || is_same fact.Hidden f && true) (none f) ∙ by f
  where
    by : (f : Fact) → (false || is_same fact.Hidden f && true) ≡ is_hiding f
    by fact.Used = refl
    by fact.Written = refl
    by fact.Abroad = refl
    by fact.Declared = refl
    by fact.Held = refl
    by fact.Hidden = refl

-- what a node says of the name that it reads or writes
pub naming_holds : (e r w t : Tally) (p : Place) (l : Label) (read wrote : Bool) → ((f : Fact) → holds e f ≡ false) → ((f : Fact) → holds r f ≡ (holds e f || is_same fact.Used f && read)) → ((f : Fact) → holds w f ≡ (holds r f || is_same fact.Written f && wrote)) → ((f : Fact) → holds t f ≡ (holds w f || is_same fact.Abroad f && not p.in_declaration)) → read ≡ reads l → wrote ≡ writes l → (f : Fact) → holds t f ≡ naming f p l
naming_holds e r w t p l read wrote none first second last is_read is_written f =
    last f ∙ ap (λ b. b || is_same fact.Abroad f && not p.in_declaration) (second f ∙ ap (λ b. b || is_same fact.Written f && wrote) (first f ∙ ap (λ b. b || is_same fact.Used f && read) (none f))) ∙ by f
  where
    by : (f : Fact) → (((false || is_same fact.Used f && read) || is_same fact.Written f && wrote) || is_same fact.Abroad f && not p.in_declaration) ≡ naming f p l
    by fact.Used = or-false (read || false) ∙ or-false read ∙ is_read
    by fact.Written = or-false wrote ∙ is_written
    by fact.Abroad = refl
    by fact.Declared = refl
    by fact.Held = refl
    by fact.Hidden = refl

-- what a node says of the name that it declares
pub declaring_holds : (e d t : Tally) (p : Place) (l : Label) (low : Bool) → ((f : Fact) → holds e f ≡ false) → ((f : Fact) → holds d f ≡ (holds e f || is_same fact.Declared f && true)) → ((f : Fact) → holds t f ≡ (holds d f || is_same fact.Held f && not low)) → low ≡ lets_go p l → (f : Fact) → holds t f ≡ declaring f p l
declaring_holds e d t p l low none first last is_low f =
    last f ∙ ap (λ b. b || is_same fact.Held f && not low) (first f ∙ ap (λ b. b || is_same fact.Declared f && true) (none f)) ∙ by f
  where
    by : (f : Fact) → ((false || is_same fact.Declared f && true) || is_same fact.Held f && not low) ≡ declaring f p l
    by fact.Used = refl
    by fact.Written = refl
    by fact.Abroad = refl
    by fact.Declared = refl
    by fact.Held = ap not is_low
    by fact.Hidden = refl
