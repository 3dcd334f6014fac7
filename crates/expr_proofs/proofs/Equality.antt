-- `==`, `===`, `!=` and `!==` with a known answer: the effects of both sides, and that answer.
use Rattle.std.specs.Cmp.Lexicographic.{bytes_decides}
use Rattle.std.proofs.Common.{◌≡◌, ℕ, pos, Bool, true, false, not, ◌&&◌, ◌||◌, if◌then◌else◌, List, Option, Some, None, refl, sym, ap, ap₂, subst, ◌∙◌, ⊎_elim, IfSome, codes, bytes_eq}
use Rattle.std.proofs.lemmas.Bool.{false≢true, and_parts, or_cases}
use Rattle.std.proofs.lemmas.Option.{none-some, same_Some, cond_some}
use Rattle.swc_ast.specs.declared.BinaryOp.{BinaryOp}
use Rattle.swc_ast.specs.declared.BinaryOp.TheVariants.{EqEq, NotEq, EqEqEq, NotEqEq}
use Rattle.swc_ast.specs.declared.Span.{Span}
use Rattle.swc_ast.specs.Tree.{Name, Read, Binary, Tree, node, Forest, ε, ◌⊳◌}
use Rattle.swc_ast.specs.Value.{Value, NaN, Truth, Run, Context}
use Rattle.swc_ast.specs.Meaning.{◌>>=◌, is_unresolved, Caller, compute, operate, act, eval}
use Rattle.swc_ast.specs.Operators.{Prim, undefined, null, nan, object, truth as truth_of, num, text as text_of, prim, prim_number, to_number, to_text, Numeric, Whole, both, truth_eq, is_object, is_nullish_prim, is_text, same_primitive, strict_equal, numeric_equal, abstract_equal, truth_value, untruth_value, binary_prim, binary_value}
use Rattle.meaning_proofs.specs.Exact.{Exact}
use Rattle.swc_utils.specs.Pure.{pure}
use Rattle.swc_utils.specs.Known.{number, known_truth, of_value}
use Rattle.swc_utils.specs.Types.{type_of, constant_type, prim_type, value_type, same_type}
use Rattle.swc_utils.specs.Globals.{constant, is_nan}
use Rattle.swc_utils.specs.declared.answers.ValueType.{ValueType}
use Rattle.swc_utils.specs.Effects.{effects, preserve}
use Rattle.swc_utils.specs.Holds.{Is, Yields}
use Rattle.swc_utils.proofs.Ends.{yields_then, yields_map, yields_both, yields_in_core, any}
use Rattle.swc_utils.proofs.Known.{number_holds}
use Rattle.swc_utils.proofs.Typed.{type_holds}
use Rattle.pass_rules.specs.Values.{value_by_type, value_of, is_nullish_type}
use Rattle.expr_rules.specs.Equality.{is_equality, is_strict_equality, tells, may_compare, compared, equal_values, alike_known, is_nan_side, strict_by_types, strict_known, is_object_type, loose_apart, loose_by_types, loose_known, equal_known}
use Rattle.pass_rules.specs.Leaves.{truth_tree}
use Rattle.pass_proofs.proofs.Values.{value_holds}
use Rattle.pass_proofs.proofs.Truths.{truth_tree_gives}
use Rattle.expr_proofs.proofs.Rewrites.{strict_differ}
use Rattle.expr_proofs.proofs.Constant.{constant_exact}
use Rattle.expr_proofs.proofs.Special.{nan_left, nan_right}

-- what an operator asks
equates : BinaryOp → Prim → Prim → Option Bool
equates op p q = if is_strict_equality op then strict_equal p q else abstract_equal p q

asked : (o : Option Bool) (b : Bool) → o ≡ Some b → IfSome (truth_value o) (Is (Truth b))
asked None b h = absurd (none-some b h)
asked (Some a) b h = ap Truth (same_Some _ _ h)

denied : (o : Option Bool) (b : Bool) → o ≡ Some b → IfSome (untruth_value o) (Is (Truth (not b)))
denied None b h = absurd (none-some b h)
denied (Some a) b h = ap (λ x. Truth (not x)) (same_Some _ _ h)

told : (op : BinaryOp) (p q : Prim) (b : Bool) → is_equality op ≡ true → equates op p q ≡ Some b → IfSome (binary_prim op p q) (Is (Truth (tells op b)))
unfolding binary_prim equates
told EqEq p q b k h = asked (abstract_equal p q) b h
told NotEq p q b k h = denied (abstract_equal p q) b h
told EqEqEq p q b k h = asked (strict_equal p q) b h
told NotEqEq p q b k h = denied (strict_equal p q) b h
told _ p q b k h = absurd (false≢true k)

operate_equality : (op : BinaryOp) (v : Value) (right : Run Value) → is_equality op ≡ true → operate op v right ≡ (right >>= λ w. compute op v w)
unfolding operate
operate_equality EqEq v right k = refl
operate_equality NotEq v right k = refl
operate_equality EqEqEq v right k = refl
operate_equality NotEqEq v right k = refl
operate_equality _ v right k = absurd (false≢true k)

-- sides of which enough is known
module _ (mark : ℕ) (op : BinaryOp) (ss rs ts : List Span) (a b : Tree) (r : Bool) (P Q : Value → Type 0) (k : is_equality op ≡ true) where
  by_sides : ((n : ℕ) (call : Caller) (c : Context) → Yields P (eval mark n call a c)) → ((n : ℕ) (call : Caller) (c : Context) → Yields Q (eval mark n call b c)) → ((v w : Value) → P v → Q w → equates op (prim v) (prim w) ≡ Some r) → Exact mark (node (Binary op) ss (a ⊳ b ⊳ ε)) (preserve rs (effects mark (node (Binary op) ss (a ⊳ b ⊳ ε))) (truth_tree ts (tells op r)))
  unfolding eval act
  by_sides ha hb h = constant_exact mark rs (node (Binary op) ss (a ⊳ b ⊳ ε)) (truth_tree ts (tells op r)) (Truth (tells op r))
      (λ n call c. yields_then (ha n call c) (λ v p. subst (Yields (Is (Truth (tells op r)))) (sym (operate_equality op v (eval mark n call b c) k)) (yields_then (hb n call c) (λ w q. yields_in_core (binary_value op v w) (told op (prim v) (prim w) r k (h v w p q))))))
      (λ n call c s. truth_tree_gives mark n call ts (tells op r) c s)

-- what is so of values of the known types

nullish_typed : (p : Prim) → is_nullish_prim p ≡ is_nullish_type (prim_type p)
nullish_typed undefined = refl
nullish_typed null = refl
nullish_typed nan = refl
nullish_typed object = refl
nullish_typed (truth_of b) = refl
nullish_typed (num z) = refl
nullish_typed (text_of t) = refl

object_typed : (p : Prim) → is_object p ≡ is_object_type (prim_type p)
object_typed undefined = refl
object_typed null = refl
object_typed nan = refl
object_typed object = refl
object_typed (truth_of b) = refl
object_typed (num z) = refl
object_typed (text_of t) = refl

apart_texts : (p q : Prim) → same_type (prim_type p) (prim_type q) ≡ false → (is_text p && is_text q) ≡ false
apart_texts (text_of s) (text_of t) h = absurd (false≢true (sym h))
apart_texts undefined q h = refl
apart_texts null q h = refl
apart_texts nan q h = refl
apart_texts object q h = refl
apart_texts (truth_of b) q h = refl
apart_texts (num z) q h = refl
apart_texts (text_of s) undefined h = refl
apart_texts (text_of s) null h = refl
apart_texts (text_of s) nan h = refl
apart_texts (text_of s) object h = refl
apart_texts (text_of s) (truth_of b) h = refl
apart_texts (text_of s) (num z) h = refl

-- values of different types, by their types and numbers
apart_loosely : (p q : Prim) (i j : Option Numeric) (r : Bool) → same_type (prim_type p) (prim_type q) ≡ false → ((x : Numeric) → i ≡ Some x → prim_number p ≡ Some x) → ((x : Numeric) → j ≡ Some x → prim_number q ≡ Some x) → loose_apart (prim_type p) (prim_type q) i j ≡ Some r → abstract_equal p q ≡ Some r
apart_loosely p q i j r d hi hj h =
    subst (λ x. (if x || is_nullish_prim q then Some (x && is_nullish_prim q) else rest) ≡ Some r) (sym (nullish_typed p))
    (subst (λ y. (if is_nullish_type (prim_type p) || y then Some (is_nullish_type (prim_type p) && y) else rest) ≡ Some r) (sym (nullish_typed q))
    (by_nullish (is_nullish_type (prim_type p) || is_nullish_type (prim_type q)) h))
  where
    rest : Option Bool
    rest = if is_object p || is_object q then None else (if is_text p && is_text q then Some (same_primitive p q) else both numeric_equal (prim_number p) (prim_number q))

    numbers : (x y : Option Numeric) → i ≡ x → j ≡ y → both numeric_equal x y ≡ Some r → both numeric_equal (prim_number p) (prim_number q) ≡ Some r
    numbers (Some x) (Some y) ei ej h' = ap₂ (both numeric_equal) (hi x ei) (hj y ej) ∙ h'
    numbers (Some x) None ei ej h' = absurd (none-some r h')
    numbers None y ei ej h' = absurd (none-some r h')

    by_object : (o : Bool) → (if o then None else both numeric_equal i j) ≡ Some r → (if o then None else (if is_text p && is_text q then Some (same_primitive p q) else both numeric_equal (prim_number p) (prim_number q))) ≡ Some r
    by_object true h' = absurd (none-some r h')
    by_object false h' = subst (λ x. (if x then Some (same_primitive p q) else both numeric_equal (prim_number p) (prim_number q)) ≡ Some r) (sym (apart_texts p q d)) (numbers i j refl refl h')

    by_nullish : (b : Bool) → (if b then Some (is_nullish_type (prim_type p) && is_nullish_type (prim_type q)) else (if is_object_type (prim_type p) || is_object_type (prim_type q) then None else both numeric_equal i j)) ≡ Some r → (if b then Some (is_nullish_type (prim_type p) && is_nullish_type (prim_type q)) else rest) ≡ Some r
    by_nullish true h' = h'
    by_nullish false h' = subst (λ x. (if x || is_object q then None else (if is_text p && is_text q then Some (same_primitive p q) else both numeric_equal (prim_number p) (prim_number q))) ≡ Some r) (sym (object_typed p)) (subst (λ y. (if is_object_type (prim_type p) || y then None else (if is_text p && is_text q then Some (same_primitive p q) else both numeric_equal (prim_number p) (prim_number q))) ≡ Some r) (sym (object_typed q)) (by_object (is_object_type (prim_type p) || is_object_type (prim_type q)) h'))

truth_numbers : (a b : Bool) → numeric_equal (Whole (if a then pos 1 else pos 0)) (Whole (if b then pos 1 else pos 0)) ≡ Some (truth_eq a b)
truth_numbers true true = refl
truth_numbers true false = refl
truth_numbers false true = refl
truth_numbers false false = refl

-- values of one type
alike_loosely : (p q : Prim) (r : Bool) → same_type (prim_type p) (prim_type q) ≡ true → strict_equal p q ≡ Some r → abstract_equal p q ≡ Some r
alike_loosely undefined undefined r d h = h
alike_loosely null null r d h = h
alike_loosely nan nan r d h = h
alike_loosely nan (num z) r d h = h
alike_loosely (num z) nan r d h = h
alike_loosely (num y) (num z) r d h = h
alike_loosely (text_of s) (text_of t) r d h = h
alike_loosely (truth_of a) (truth_of b) r d h = truth_numbers a b ∙ h
alike_loosely object object r d h = absurd (none-some r h)
alike_loosely _ _ r d h = absurd (false≢true d)

-- what is known of a value of a tree
record Knows (mark : ℕ) (t : Tree) (v : Value) : Type 0 where
  by_nan : is_nan mark t ≡ true → v ≡ NaN
  by_type : (τ : ValueType) → type_of mark t ≡ Some τ → value_type v ≡ τ
  by_value : (w : Value) → value_of mark t ≡ Some w → v ≡ w
  by_number : (x : Numeric) → number mark t ≡ Some x → prim_number (prim v) ≡ Some x

yields_each : {B : Type 0} (R : B → Value → Type 0) (m : Run Value) (o : Option B) → ((x : B) → o ≡ Some x → Yields (R x) m) → Yields (λ v. (x : B) → o ≡ Some x → R x v) m
yields_each R m None h = yields_map (any m) (λ v _ x e. absurd (none-some x e))
yields_each R m (Some y) h = yields_map (h y refl) (λ v p x e. subst (λ z. R z v) (same_Some _ _ e) p)

yields_when : (b : Bool) (R : Value → Type 0) (m : Run Value) → (b ≡ true → Yields R m) → Yields (λ v. b ≡ true → R v) m
yields_when true R m h = yields_map (h refl) (λ v p e. p)
yields_when false R m h = yields_map (any m) (λ v _ e. absurd (false≢true e))

name_is_nan : (mark : ℕ) (x : Name) (ss : List Span) (ts : Forest) → (is_unresolved mark x && bytes_eq x.text (codes "NaN")) ≡ true → value_of mark (node (Read x) ss ts) ≡ Some NaN
name_is_nan mark x ss ts h = let p = and_parts (is_unresolved mark x) _ h in by_parts (is_unresolved mark x) x.text p.0 ((bytes_decides x.text (codes "NaN")).0 p.1)
  where
    by_parts : (u : Bool) (t : List ℕ) → u ≡ true → t ≡ codes "NaN" → value_by_type (if u then constant_type t else None) (known_truth (if u then constant t else None)) (of_value to_number (if u then constant t else None)) (of_value to_text (if u then constant t else None)) ≡ Some NaN
    by_parts u t e i = subst (λ v. value_by_type (if v then constant_type t else None) (known_truth (if v then constant t else None)) (of_value to_number (if v then constant t else None)) (of_value to_text (if v then constant t else None)) ≡ Some NaN) (sym e) (subst (λ s. value_by_type (constant_type s) (known_truth (constant s)) (of_value to_number (constant s)) (of_value to_text (constant s)) ≡ Some NaN) (sym i) refl)

nan_value : (mark : ℕ) (t : Tree) → is_nan mark t ≡ true → value_of mark t ≡ Some NaN
nan_value mark (node (Read x) ss ts) h = name_is_nan mark x ss ts h
nan_value mark _ h = absurd (false≢true h)

known : (mark n : ℕ) (call : Caller) (t : Tree) (c : Context) → Yields (Knows mark t) (eval mark n call t c)
known mark n call t c =
    yields_map
    (yields_both (yields_when (is_nan mark t) (λ v. v ≡ NaN) _ (λ e. value_holds mark n call t NaN c (nan_value mark t e)))
    (yields_both (yields_each (λ τ v. value_type v ≡ τ) _ (type_of mark t) (λ τ e. type_holds mark n call t τ e c))
    (yields_both (yields_each (λ w v. v ≡ w) _ (value_of mark t) (λ w e. value_holds mark n call t w c e))
    (yields_each (λ x v. prim_number (prim v) ≡ Some x) _ (number mark t) (λ x e. number_holds mark n call t x e c)))))
    (λ v p. record { by_nan = p.0; by_type = p.1.0; by_value = p.1.1.0; by_number = p.1.1.1 })

module _ (mark : ℕ) (a b : Tree) (v w : Value) (ka : Knows mark a v) (kb : Knows mark b w) where
  compared_is : (t : Tree) (τ : ValueType) (o : Option Value) (x : Value) → compared mark t τ o ≡ Some x → o ≡ Some x
  compared_is t τ None x h = absurd (none-some x h)
  compared_is t τ (Some y) x h = ap Some (cond_some (may_compare τ (pure mark t) y) y x h).1

  alike_told : (σ : ValueType) (r : Bool) → alike_known mark a b σ ≡ Some r → strict_equal (prim v) (prim w) ≡ Some r
  alike_told σ r h = by_both (compared mark a σ (value_of mark a)) (compared mark b σ (value_of mark b)) refl refl h
    where
      by_both : (i j : Option Value) → compared mark a σ (value_of mark a) ≡ i → compared mark b σ (value_of mark b) ≡ j → equal_values i j ≡ Some r → strict_equal (prim v) (prim w) ≡ Some r
      by_both (Some x) (Some y) ei ej h' = ap₂ (λ s t. strict_equal (prim s) (prim t)) (ka.by_value x (compared_is a σ (value_of mark a) x ei)) (kb.by_value y (compared_is b σ (value_of mark b) y ej)) ∙ h'
      by_both (Some x) None ei ej h' = absurd (none-some r h')
      by_both None j ei ej h' = absurd (none-some r h')

  nan_told : is_nan_side mark a b ≡ true → strict_equal (prim v) (prim w) ≡ Some false
  nan_told h = ⊎_elim (λ e. ap (λ x. strict_equal (prim x) (prim w)) (ka.by_nan e) ∙ nan_left (prim w)) (λ e. ap (λ x. strict_equal (prim v) (prim x)) (kb.by_nan e) ∙ nan_right (prim v)) (or_cases (is_nan mark a) (is_nan mark b) h)

  types_told : (σ τ : Option ValueType) (r : Bool) → type_of mark a ≡ σ → type_of mark b ≡ τ → strict_by_types mark a b σ τ ≡ Some r → strict_equal (prim v) (prim w) ≡ Some r
  types_told (Some σ) (Some τ) r ea eb h = by_same (same_type σ τ) refl h
    where
      by_same : (d : Bool) → same_type σ τ ≡ d → (if d then alike_known mark a b σ else Some false) ≡ Some r → strict_equal (prim v) (prim w) ≡ Some r
      by_same true e h' = alike_told σ r h'
      by_same false e h' = strict_differ (prim v) (prim w) (ap₂ same_type (ka.by_type σ ea) (kb.by_type τ eb) ∙ e) ∙ h'
  types_told (Some σ) None r ea eb h = absurd (none-some r h)
  types_told None τ r ea eb h = absurd (none-some r h)

  strict_told : (r : Bool) → strict_known mark a b ≡ Some r → strict_equal (prim v) (prim w) ≡ Some r
  strict_told r h = by_nans (is_nan_side mark a b) refl h
    where
      by_nans : (d : Bool) → is_nan_side mark a b ≡ d → (if d then Some false else strict_by_types mark a b (type_of mark a) (type_of mark b)) ≡ Some r → strict_equal (prim v) (prim w) ≡ Some r
      by_nans true e h' = nan_told e ∙ h'
      by_nans false e h' = types_told (type_of mark a) (type_of mark b) r refl refl h'

  loose_told : (σ τ : Option ValueType) (r : Bool) → type_of mark a ≡ σ → type_of mark b ≡ τ → loose_by_types mark a b σ τ ≡ Some r → abstract_equal (prim v) (prim w) ≡ Some r
  loose_told (Some σ) (Some τ) r ea eb h = by_same (same_type σ τ) refl h
    where
      same_types : same_type (value_type v) (value_type w) ≡ same_type σ τ
      same_types = ap₂ same_type (ka.by_type σ ea) (kb.by_type τ eb)

      by_same : (d : Bool) → same_type σ τ ≡ d → (if d then strict_known mark a b else loose_apart σ τ (number mark a) (number mark b)) ≡ Some r → abstract_equal (prim v) (prim w) ≡ Some r
      by_same true e h' = alike_loosely (prim v) (prim w) r (same_types ∙ e) (strict_told r h')
      by_same false e h' = apart_loosely (prim v) (prim w) (number mark a) (number mark b) r (same_types ∙ e) ka.by_number kb.by_number (ap₂ (λ x y. loose_apart x y (number mark a) (number mark b)) (ka.by_type σ ea) (kb.by_type τ eb) ∙ h')
  loose_told (Some σ) None r ea eb h = absurd (none-some r h)
  loose_told None τ r ea eb h = absurd (none-some r h)

  equal_told : (op : BinaryOp) (r : Bool) → equal_known mark op a b ≡ Some r → equates op (prim v) (prim w) ≡ Some r
  unfolding equates
  equal_told op r h = by_kind (is_strict_equality op) h
    where
      by_kind : (d : Bool) → (if d then strict_known mark a b else loose_known mark a b) ≡ Some r → (if d then strict_equal (prim v) (prim w) else abstract_equal (prim v) (prim w)) ≡ Some r
      by_kind true h' = strict_told r h'
      by_kind false h' = loose_told (type_of mark a) (type_of mark b) r refl refl h'

pub equality_exact : (mark : ℕ) (op : BinaryOp) (ss rs ts : List Span) (a b : Tree) (r : Bool) → is_equality op ≡ true → equal_known mark op a b ≡ Some r → Exact mark (node (Binary op) ss (a ⊳ b ⊳ ε)) (preserve rs (effects mark (node (Binary op) ss (a ⊳ b ⊳ ε))) (truth_tree ts (tells op r)))
equality_exact mark op ss rs ts a b r k h = by_sides mark op ss rs ts a b r (Knows mark a) (Knows mark b) k (λ n call c. known mark n call a c) (λ n call c. known mark n call b c) (λ v w ka kb. equal_told mark a b v w ka kb op r h)
