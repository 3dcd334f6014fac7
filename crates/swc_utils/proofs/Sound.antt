-- The answers on an expression hold in each of its runs.
use Rattle.std.proofs.Common.{◌≡◌, ℕ, Bool, true, false, ◌&&◌, if◌then◌else◌, List, Option, Some, None, refl, sym, ap, ◌∙◌, bytes_eq, codes, ℤ, string_bytes}
use Rattle.std.proofs.lemmas.Option.{none-some}
use Rattle.std.proofs.lemmas.Bool.{and_parts, false≢true}
use Rattle.std.proofs.lemmas.Slice.Eq.{bytes_eq-Decides}
use Rattle.swc_ast.specs.declared.Span.{Span}
use Rattle.swc_ast.specs.Tree.{Name, Read, Tree, node, Forest}
use Rattle.swc_ast.specs.Value.{Undefined, NaN}
use Rattle.swc_ast.specs.Meaning.{is_unresolved, eval}
use Rattle.swc_ast.specs.Operators.{Numeric}
use Rattle.swc_ast.specs.Call.{call_at}
use Rattle.std.specs.declared.alloc.Global.{Global}
use Rattle.std.specs.declared.string.String.{String}
use Rattle.swc_utils.specs.declared.answers.Purity.{Purity}
use Rattle.swc_utils.specs.declared.answers.Purity.TheVariants.{Pure}
use Rattle.swc_utils.specs.declared.answers.ValueType.{ValueType}
use Rattle.swc_utils.specs.declared.answers.Value.{Value as Answer}
use Rattle.swc_utils.specs.declared.answers.Value.TheVariants.{Known, Unknown}
use Rattle.swc_utils.specs.Globals.{is_global, is_undefined, is_nan}
use Rattle.swc_utils.specs.Pure.{pure}
use Rattle.swc_utils.specs.Known.{truth, number, text, pure_truth}
use Rattle.swc_utils.specs.Types.{type_of}
use Rattle.swc_utils.specs.Holds.{Is, HasTruth, HasNumber, HasText, HasType}
use Rattle.swc_utils.specs.Sound.{Always, NoEffect, purity, known, IfKnown, numeric, known_number, known_text}
use Rattle.swc_utils.proofs.Pure.{pure_is_still}
use Rattle.swc_utils.proofs.Known.{literal_gives, truth_holds, number_holds, text_holds, number_pure, text_pure}
use Rattle.swc_utils.proofs.Typed.{type_holds}

pub pure_sound : (mark : ℕ) (t : Tree) → pure mark t ≡ true → NoEffect mark t
pure_sound mark t h = record { by = λ n d. pure_is_still mark n d t h }

pub truth_sound : (mark : ℕ) (t : Tree) (b : Bool) → truth mark t ≡ Some b → Always mark t (HasTruth b)
truth_sound mark t b h = record { by = λ n d. truth_holds mark n (call_at (eval mark n) d) t b h }

pub number_sound : (mark : ℕ) (t : Tree) (k : Numeric) → number mark t ≡ Some k → Always mark t (HasNumber k)
number_sound mark t k h = record { by = λ n d. number_holds mark n (call_at (eval mark n) d) t k h }

pub text_sound : (mark : ℕ) (t : Tree) (s : List ℕ) → text mark t ≡ Some s → Always mark t (HasText s)
text_sound mark t s h = record { by = λ n d. text_holds mark n (call_at (eval mark n) d) t s h }

pub type_sound : (mark : ℕ) (t : Tree) (τ : ValueType) → type_of mark t ≡ Some τ → Always mark t (HasType τ)
type_sound mark t τ h = record { by = λ n d. type_holds mark n (call_at (eval mark n) d) t τ h }

constant_undefined : (mark : ℕ) (ss : List Span) (ts : Forest) (x : Name) → is_global mark (codes "undefined") x ≡ true → Always mark (node (Read x) ss ts) (Is Undefined)
constant_undefined mark ss ts x h = record { by = λ n d. literal_gives mark n (call_at (eval mark n) d) (Read x) ss ts Undefined (known_undefined (is_unresolved mark x) _ _ h) }
  where
    known_undefined : (u a b : Bool) → (u && a) ≡ true → (if u then (if a then Some Undefined else (if b then Some NaN else None)) else None) ≡ Some Undefined
    known_undefined true true b h = refl
    known_undefined true false b h = absurd (false≢true h)
    known_undefined false a b h = absurd (false≢true h)

-- the unresolved `undefined` is undefined
pub undefined_sound : (mark : ℕ) (t : Tree) → is_undefined mark t ≡ true → Always mark t (Is Undefined)
undefined_sound mark (node (Read x) ss ts) h = constant_undefined mark ss ts x h
undefined_sound mark (node l ss ts) h = absurd (false≢true h)

constant_nan : (mark : ℕ) (ss : List Span) (ts : Forest) (x : Name) → is_global mark (codes "NaN") x ≡ true → Always mark (node (Read x) ss ts) (Is NaN)
constant_nan mark ss ts x h = let p = and_parts _ _ h in record { by = λ n d. literal_gives mark n (call_at (eval mark n) d) (Read x) ss ts NaN (known_nan (is_unresolved mark x) (bytes_eq x.text (codes "undefined")) (bytes_eq x.text (codes "NaN")) p.0 (not_both x.text p.1) p.1) }
  where
    known_nan : (u a b : Bool) → u ≡ true → a ≡ false → b ≡ true → (if u then (if a then Some Undefined else (if b then Some NaN else None)) else None) ≡ Some NaN
    known_nan true false true hu ha hb = refl
    known_nan true false false hu ha hb = absurd (false≢true hb)
    known_nan true true b hu ha hb = absurd (false≢true (sym ha))
    known_nan false a b hu ha hb = absurd (false≢true hu)

    not_both : (t : List ℕ) → bytes_eq t (codes "NaN") ≡ true → bytes_eq t (codes "undefined") ≡ false
    not_both t h = ap (λ s. bytes_eq s (codes "undefined")) ((bytes_eq-Decides t (codes "NaN")).0 h)

-- the unresolved `NaN` is NaN
pub nan_sound : (mark : ℕ) (t : Tree) → is_nan mark t ≡ true → Always mark t (Is NaN)
nan_sound mark (node (Read x) ss ts) h = constant_nan mark ss ts x h
nan_sound mark (node l ss ts) h = absurd (false≢true h)

-- what an answer knows, by what it is of the tree

pub truth_known : (mark : ℕ) (t : Tree) (r : Answer Bool) → known r ≡ truth mark t → IfKnown r (λ b. Always mark t (HasTruth b))
truth_known mark t (Known b) h = truth_sound mark t b (sym h)
truth_known mark t Unknown h = tt

if_pure : {A : Type 0} (p : Bool) (o : Option A) (a : A) → Some a ≡ (if p then o else None) → (p ≡ true) × (o ≡ Some a)
if_pure true o a h = (refl, sym h)
if_pure false o a h = absurd (none-some a (sym h))

pub pure_truth_known : (mark : ℕ) (t : Tree) (r : Answer Bool) → known r ≡ pure_truth mark t → IfKnown r (λ b. NoEffect mark t × Always mark t (HasTruth b))
pure_truth_known mark t (Known b) h = let p = if_pure (pure mark t) (truth mark t) b h in (pure_sound mark t p.0, truth_sound mark t b p.1)
pure_truth_known mark t Unknown h = tt

pub number_known : (mark : ℕ) (t : Tree) (r : Answer (Option ℤ)) → known_number r ≡ number mark t → IfKnown r (λ k. NoEffect mark t × Always mark t (HasNumber (numeric k)))
number_known mark t (Known k) h = (pure_sound mark t (number_pure mark t (numeric k) (sym h)), number_sound mark t (numeric k) (sym h))
number_known mark t Unknown h = tt

pub text_known : (mark : ℕ) (t : Tree) (r : Answer (String Global)) → known_text r ≡ text mark t → IfKnown r (λ s. NoEffect mark t × Always mark t (HasText (string_bytes s)))
text_known mark t (Known s) h = (pure_sound mark t (text_pure mark t (string_bytes s) (sym h)), text_sound mark t (string_bytes s) (sym h))
text_known mark t Unknown h = tt

pub type_known : (mark : ℕ) (t : Tree) (r : Answer ValueType) → known r ≡ type_of mark t → IfKnown r (λ τ. Always mark t (HasType τ))
type_known mark t (Known τ) h = type_sound mark t τ (sym h)
type_known mark t Unknown h = tt

purity_tells : (p : Bool) → purity p ≡ Pure → p ≡ true
purity_tells true h = refl
purity_tells false h = cc

pub purity_known : (mark : ℕ) (t : Tree) (r : Purity) → r ≡ purity (pure mark t) → r ≡ Pure → NoEffect mark t
purity_known mark t r is h = pure_sound mark t (purity_tells (pure mark t) (sym is ∙ h))
