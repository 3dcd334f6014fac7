-- What the walk does at a literal, by its text.
use Rattle.std.proofs.Common.{◌≡◌, ℕ, suc, ◌+◌, ◌-◌, ◌<◌, ◌≤◌, ◌^◌, Bool, true, false, nat_le, nat_lt, length, if◌then◌else◌, Option, Some, None, option_map, option_and_then, inl, inr, ◌++◌, string_bytes, refl, sym, ap, ap₂, ◌∙◌, arith}
use Rattle.std.proofs.lemmas.Bool.Decides.{leb_tells}
use Rattle.serde_json.specs.Data.{Data, depth}
use Rattle.serde_json.specs.Read.{max_depth}
use Rattle.serde_json.specs.Written.{compact_text}
use Rattle.swc_ast.specs.Tree.{Text, Tree}
use Rattle.swc_ast.specs.declared.Span.{Span}
use Rattle.tree_put.specs.Puts.{enter, stay, become}
use Rattle.swc_json_parse.specs.JsonText.{data_of, shallow, json_text}
use Rattle.swc_json_parse.specs.Parsing.{parse_call}
use Rattle.swc_json_parse.specs.Quick.{quick_call}
use Rattle.swc_json_parse.specs.Written.{text_within}
use Rattle.swc_json_parse.specs.declared.sink.Length.{Length}
use Rattle.swc_json_parse.specs.declared.sink.Written.{Written}

within_is : (o : Option Data) → option_map compact_text (option_and_then shallow o) ≡ option_and_then (λ d. if nat_le (depth d) max_depth then Some (compact_text d) else None) o
within_is None = refl
within_is (Some d) = by_depth (nat_le (depth d) max_depth)
  where
    by_depth : (b : Bool) → option_map compact_text (if b then Some d else None) ≡ (if b then Some (compact_text d) else None)
    by_depth true = refl
    by_depth false = refl

-- the text of a literal is the one that is written
pub json_within : (t : Tree) → json_text t ≡ text_within 127 t
json_within t = within_is (data_of t)

-- the greatest number that a `usize` holds
greatest_fails : (least : ℕ) → least ≡ 2 ^ 64 - 1 → nat_lt (least + 1) (2 ^ 64) ≡ false
greatest_fails least h = elim (leb_tells (suc (least + 1)) (2 ^ 64)) [ inl p ↦ absurd (omega (arith, p.1, h)) | inr p ↦ p.0 ]

smaller_holds : (least : ℕ) → least < 2 ^ 64 → (least ≡ 2 ^ 64 - 1 → ⊥) → nat_lt (least + 1) (2 ^ 64) ≡ true
smaller_holds least below h = elim (leb_tells (suc (least + 1)) (2 ^ 64)) [ inl p ↦ p.0 | inr p ↦ absurd (h (omega (arith, p.1, below))) ]

pub greatest_enters : (least : ℕ) (s : Span) (q : Option Text) → least ≡ 2 ^ 64 - 1 → enter ≡ quick_call least (Some s) q
greatest_enters least s None h = refl
greatest_enters least s (Some x) h = sym (ap (λ b. if b then (if nat_le least (length x) then become (parse_call s x) else stay) else enter) (greatest_fails least h))

pub none_enters : (least : ℕ) (s : Span) (q : Option Text) → q ≡ None → enter ≡ quick_call least (Some s) q
none_enters least s q h = sym (ap (quick_call least (Some s)) h)

by_length : (least : ℕ) (s : Span) (q : Option Text) (x : Text) (b : Bool) → q ≡ Some x → least < 2 ^ 64 → (least ≡ 2 ^ 64 - 1 → ⊥) → nat_le least (length x) ≡ b → (if b then become (parse_call s x) else stay) ≡ quick_call least (Some s) q
by_length least s q x b is below other h = sym (ap (quick_call least (Some s)) is ∙ ap₂ (λ a c. if a then (if c then become (parse_call s x) else stay) else enter) (smaller_holds least below other) h)

pub short_stays : (least : ℕ) (s : Span) (q : Option Text) (x : Text) (n : ℕ) → q ≡ Some x → least < 2 ^ 64 → (least ≡ 2 ^ 64 - 1 → ⊥) → n ≡ 0 + length x → n < least → stay ≡ quick_call least (Some s) q
short_stays least s q x n is below other counted short = by_length least s q x false is below other (elim (leb_tells least (length x)) [ inl p ↦ absurd (omega (arith, p.1, counted, short)) | inr p ↦ p.0 ])

pub long_becomes : (least : ℕ) (s : Span) (q : Option Text) (x : Text) (n : ℕ) (t : Tree) → q ≡ Some x → least < 2 ^ 64 → (least ≡ 2 ^ 64 - 1 → ⊥) → n ≡ 0 + length x → least ≤ n → t ≡ parse_call s x → become t ≡ quick_call least (Some s) q
long_becomes least s q x n t is below other counted long made = ap become made ∙ by_length least s q x true is below other (elim (leb_tells least (length x)) [ inl p ↦ p.0 | inr p ↦ absurd (omega (arith, p.1, counted, long)) ])

-- what a length and a written text take
abbrev pub lengths : Length → Text → Length → Type 0
lengths a xs b = b.bytes ≡ a.bytes + length xs

abbrev pub texts : Written → Text → Written → Type 0
texts a xs b = string_bytes b.text ≡ string_bytes a.text ++ xs

pub some_same : (x y : Text) → Some x ≡ Some y → x ≡ y
some_same x y h = cc
