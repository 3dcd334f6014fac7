-- The walk that leaves literals whose texts are too short makes the same of a tree.
use Rattle.std.proofs.Common.{◌≡◌, ℕ, ◌+◌, ◌<◌, ◌^◌, Bool, true, false, ◌&&◌, nat_le, nat_lt, List, [], ◌∷◌, length, if◌then◌else◌, Option, Some, None, option_map, option_and_then, inl, inr, refl, sym, ap, ap₂, ◌∙◌, arith}
use Rattle.std.proofs.lemmas.Bool.{false≢true}
use Rattle.std.proofs.lemmas.Bool.Decides.{leb_tells}
use mathlib.Core.Path.{fun_ext}
use Rattle.serde_json.specs.Data.{Data, depth}
use Rattle.serde_json.specs.Read.{max_depth}
use Rattle.serde_json.specs.Written.{compact_text}
use Rattle.swc_ast.specs.Labels.{is_expression}
use Rattle.swc_ast.specs.Tree as tree
use Rattle.swc_ast.specs.Tree.{Text, Label, Tree, node, Forest, ε, ◌⊳◌}
use Rattle.swc_ast.specs.declared.Span.{Span}
use Rattle.swc_ast.specs.declared.UnaryOp.TheVariants as op
use Rattle.tree_put.specs.Put.{Step, put, put_parts, steps, around, chosen}
use Rattle.tree_put.specs.Puts.{Answer, enter, stay, become}
use Rattle.tree_put.specs.Still.{still, put_still}
use Rattle.tree_put.specs.declared.rules.Spot.TheVariants as spot
use Rattle.tree_put.specs.declared.rules.Spot.{Spot}
use Rattle.swc_json_parse.specs.JsonText.{data_of, shallow, json_text}
use Rattle.swc_json_parse.specs.Parsing.{literal_span, call_for, parse_call, parsing, parsed}
use Rattle.swc_json_parse.specs.Quick.{quick_call, quick}
use Rattle.swc_json_parse.proofs.Settled.{parts_stay}

-- the data of a text
pub record Shallow (o : Option Data) (x : Text) : Type 0 where
  pub of : Data
  pub is : o ≡ Some of
  pub text : compact_text of ≡ x

pub data_at : (o : Option Data) (x : Text) → option_map compact_text (option_and_then shallow o) ≡ Some x → Shallow o x
data_at None x h = absurd cc
data_at (Some d) x h = by_depth (nat_le (depth d) max_depth) h
  where
    by_depth : (b : Bool) → option_map compact_text (if b then Some d else None) ≡ Some x → Shallow (Some d) x
    by_depth true k = record { of = d; is = refl; text = cc }
    by_depth false k = absurd cc

-- the two do the same, or the one stays and the other walks parts that stay
data Alike (least : ℕ) (t : Tree) (a b : Answer) : Type 0 where
  same : a ≡ b → Alike least t a b
  stays : a ≡ stay → b ≡ enter → put_parts (still parsing) t least ≡ (t, least) → Alike least t a b

called_alike : (least : ℕ) (t : Tree) (o : Option Span) (q : Option Text) → json_text t ≡ q → Alike least t (quick_call least o q) (call_for least o q)
called_alike least t None q h = same refl
called_alike least t (Some s) None h = same refl
called_alike least t (Some s) (Some x) h = by_tests (nat_lt (least + 1) (2 ^ 64)) (nat_le least (length x)) refl
  where
    by_tests : (a b : Bool) → nat_le least (length x) ≡ b → Alike least t (if a then (if b then become (parse_call s x) else stay) else enter) (if a && b then become (parse_call s x) else enter)
    by_tests false b e = same refl
    by_tests true true e = same refl
    by_tests true false e =
        let d = data_at (data_of t) x h in
        let short : length x < least = elim (leb_tells least (length x)) [ inl p ↦ absurd (false≢true (sym e ∙ p.0)) | inr p ↦ p.1 ] in
        let same_length : length (compact_text d.of) ≡ length x = ap length d.text in
        stays refl refl (parts_stay least t d.of d.is (omega (arith, same_length, short)))

around_same : (s : ℕ) (l : Label) (ss : List Span) (ts : Forest) (fs : List (Step ℕ)) → around (still quick) s l ss ts fs ≡ around (still parsing) s l ss ts fs
unfolding around
around_same s (tree.CallDot x) ss (o ⊳ ts) (f ∷ fs) = refl
around_same s tree.CallIndex ss (o ⊳ i ⊳ ts) (f ∷ g ∷ fs) = refl
around_same s (tree.CallEval x) ss ts fs = refl
around_same s tree.Call ss (t ⊳ ts) (f ∷ fs) = refl
around_same s (tree.TypeOfName x) ss ts fs = refl
around_same s (tree.Unary op.TypeOf) ss (t ⊳ ε) (f ∷ []) = refl
around_same s (tree.Unary op.Delete) ss ts fs = refl
around_same s (tree.Import src) ss ts fs = refl
around_same s (tree.Shorthand x) ss ts fs = refl
around_same s tree.Method ss (t ⊳ ts) (f ∷ fs) = refl
around_same s (tree.Switch ds) ss (t ⊳ ts) (f ∷ fs) = refl
around_same s (tree.Try (Some o)) ss (b ⊳ t ⊳ e ⊳ ε) (f ∷ g ∷ h ∷ []) = refl
around_same s (tree.ExportSpecifier x i) ss ts fs = refl
around_same s l ss ts fs = refl

if_same : {A : Type 0} (b : Bool) (x y u v : A) → x ≡ y → u ≡ v → (if b then x else u) ≡ (if b then y else v)
if_same true x y u v h k = h
if_same false x y u v h k = k

chosen_same : (least : ℕ) (t : Tree) (a b : Answer) (x y : Tree × ℕ) → Alike least t a b → x ≡ y → y ≡ put_parts (still parsing) t least → chosen (a, least) t x ≡ chosen (b, least) t y
chosen_same least t a b x y (same e) w k = ap₂ (λ c z. chosen (c, least) t z) e w
chosen_same least t a b x y (stays e f h) w k = ap (λ c. chosen (c, least) t x) e ∙ sym (ap (λ c. chosen (c, least) t y) f ∙ k ∙ h)

mutual
  unfolding put steps

  put_same : (t : Tree) (s : ℕ) (p : Spot) → put (still quick) t s p ≡ put (still parsing) t s p
  put_same (node l ss cs) s p =
      let w : around (still quick) s l ss cs (steps (still quick) cs) ≡ around (still parsing) s l ss cs (steps (still parsing) cs) = ap (around (still quick) s l ss cs) (steps_same cs) ∙ around_same s l ss cs (steps (still parsing) cs) in
      if_same (is_expression l) _ _ _ _ (chosen_same s (node l ss cs) (quick s p (node l ss cs)) (parsing s p (node l ss cs)) _ _ (called_alike s (node l ss cs) (literal_span (node l ss cs)) (json_text (node l ss cs)) refl) w refl) w

  steps_same : (ts : Forest) → steps (still quick) ts ≡ steps (still parsing) ts
  steps_same ε = refl
  steps_same (t ⊳ ts) = ap₂ (λ f fs. f ∷ fs) (fun_ext (λ s. fun_ext (λ p. put_same t s p))) (steps_same ts)

-- what becomes of a tree
pub quick_parses : (least : ℕ) (t : Tree) → put_still quick least spot.Here t ≡ parsed least t
quick_parses least t = ap (λ r. r.0) (put_same t least spot.Here)
