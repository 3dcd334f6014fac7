-- Comparisons of known numbers.
use Rattle.std.proofs.Common.{◌≡◌, ℕ, ℤ, Bool, true, false, not, ◌&&◌, if◌then◌else◌, List, Some, None, refl, sym, ap, ap₂, subst, ◌∙◌}
use Rattle.std.proofs.lemmas.Bool.{false≢true, and_from}
use Rattle.std.proofs.lemmas.Option.{none-some}
use Rattle.swc_ast.specs.declared.BinaryOp.{BinaryOp}
use Rattle.swc_ast.specs.declared.BinaryOp.TheVariants.{Lt, Gt, LtEq, GtEq}
use Rattle.swc_ast.specs.declared.Span.{Span}
use Rattle.swc_ast.specs.Tree.{Read, NumLit, StrLit, BoolLit, NullLit, Unary, Binary, Tree, node, ε, ◌⊳◌}
use Rattle.swc_ast.specs.Value.{Value, Undefined, NaN, Truth, Run}
use Rattle.swc_ast.specs.Meaning.{◌>>=◌, is_unresolved, in_core, compute, operate, act, eval}
use Rattle.swc_ast.specs.Operators.{Prim, prim, text as text_of, Numeric, to_number, prim_number, both, is_text, relational, compare_numbers, int_before, units_before, binary_prim}
use Rattle.meaning_proofs.specs.Exact.{Exact}
use Rattle.swc_utils.specs.Known.{of_value, number}
use Rattle.swc_utils.specs.Pure.{pure}
use Rattle.swc_utils.specs.Types.{type_of, unary_type, value_type, is_text_type}
use Rattle.swc_utils.specs.declared.answers.ValueType.{ValueType}
use Rattle.swc_utils.specs.declared.answers.ValueType.TheVariants.{Undefined as UndefinedType, Num as NumberType}
use Rattle.swc_utils.specs.Holds.{Is, Yields}
use Rattle.swc_utils.proofs.Ends.{yields_then, yields_gives, yields_both}
use Rattle.swc_utils.proofs.Known.{number_holds, number_pure}
use Rattle.swc_utils.proofs.Typed.{type_holds, text_by_type}
use Rattle.pass_rules.specs.Leaves.{truth_tree}
use Rattle.expr_rules.specs.Comparisons.{compares, is_comparison}
use Rattle.pass_proofs.proofs.Truths.{truth_tree_gives}
use Rattle.expr_proofs.proofs.Folds.{pure_constant}

-- what has a known number has a known type
name_typed : (u a b i : Bool) (k : Numeric) → of_value to_number (if u then (if a then Some Undefined else (if b then Some NaN else None)) else None) ≡ Some k → (τ : ValueType) × ((if u then (if a then Some UndefinedType else (if b then Some NumberType else (if i then Some NumberType else None))) else None) ≡ Some τ)
name_typed false a b i k h = absurd (none-some k h)
name_typed true true b i k h = (UndefinedType, refl)
name_typed true false true i k h = (NumberType, refl)
name_typed true false false i k h = absurd (none-some k h)

number_typed : (mark : ℕ) (t : Tree) (k : Numeric) → number mark t ≡ Some k → (τ : ValueType) × (type_of mark t ≡ Some τ)
number_typed mark (node (Unary op) ss (a ⊳ ε)) k h = (unary_type op, refl)
number_typed mark (node (Read x) ss ts) k h = name_typed (is_unresolved mark x) _ _ _ k h
number_typed mark (node (NumLit z) ss ts) k h = (_, refl)
number_typed mark (node (StrLit t) ss ts) k h = (_, refl)
number_typed mark (node (BoolLit b) ss ts) k h = (_, refl)
number_typed mark (node NullLit ss ts) k h = (_, refl)
number_typed mark _ k h = absurd (none-some k h)

by_numbers : (on_texts : List ℕ → List ℕ → Bool) (on_ints : ℤ → ℤ → Bool) (p q : Prim) → (is_text p && is_text q) ≡ false → relational on_texts on_ints p q ≡ both (compare_numbers on_ints) (prim_number p) (prim_number q)
by_numbers on_texts on_ints (text_of a) (text_of b) h = absurd (false≢true (sym h))
by_numbers on_texts on_ints p q h = refl

compared : (op : BinaryOp) (p q : Prim) → is_comparison op ≡ true → (is_text p && is_text q) ≡ false → binary_prim op p q ≡ both (compare_numbers (compares op)) (prim_number p) (prim_number q)
unfolding binary_prim
compared Lt p q k h = by_numbers units_before int_before p q h
compared Gt p q k h = by_numbers (λ s t. units_before t s) (λ m n. int_before n m) p q h
compared LtEq p q k h = by_numbers (λ s t. not (units_before t s)) (λ m n. not (int_before n m)) p q h
compared GtEq p q k h = by_numbers (λ s t. not (units_before s t)) (λ m n. not (int_before m n)) p q h
compared _ p q k h = absurd (false≢true k)

operate_compared : (op : BinaryOp) (v : Value) (right : Run Value) → is_comparison op ≡ true → operate op v right ≡ (right >>= λ w. compute op v w)
unfolding operate
operate_compared Lt v right k = refl
operate_compared Gt v right k = refl
operate_compared LtEq v right k = refl
operate_compared GtEq v right k = refl
operate_compared _ v right k = absurd (false≢true k)

-- `<`, `>`, `<=` and `>=` of two known numbers, where the sides are not both of type text
pub compare_exact : (mark : ℕ) (op : BinaryOp) (ss rs : List Span) (a b : Tree) (i j : Numeric) (r : Bool) → is_comparison op ≡ true → number mark a ≡ Some i → number mark b ≡ Some j → (is_text_type (type_of mark a) && is_text_type (type_of mark b)) ≡ false → compare_numbers (compares op) i j ≡ Some (Truth r) → Exact mark (node (Binary op) ss (a ⊳ b ⊳ ε)) (truth_tree rs r)
unfolding eval act
compare_exact mark op ss rs a b i j r k ha hb ty h =
    let p = number_typed mark a i ha in
    let q = number_typed mark b j hb in
    pure_constant mark (node (Binary op) ss (a ⊳ b ⊳ ε)) (truth_tree rs r) (Truth r) (compared_pure op k (and_from (pure mark a) _ (number_pure mark a i ha) (and_from (pure mark b) true (number_pure mark b j hb) refl)))
    (λ n call c. yields_then (yields_both (number_holds mark n call a i ha c) (type_holds mark n call a p.0 p.1 c)) (λ v hv. subst (Yields (Is (Truth r))) (sym (operate_compared op v (eval mark n call b c) k)) (yields_then (yields_both (number_holds mark n call b j hb c) (type_holds mark n call b q.0 q.1 c)) (λ w hw.
    subst (λ o. Yields (Is (Truth r)) (in_core o)) (sym (compared op (prim v) (prim w) k (sides p.0 q.0 p.1 q.1 v w hv.1 hw.1) ∙ ap₂ (both (compare_numbers (compares op))) hv.0 hw.0 ∙ h)) (yields_gives _ refl)))))
    (λ n call c s. truth_tree_gives mark n call rs r c s)
  where
    sides : (σ τ : ValueType) → type_of mark a ≡ Some σ → type_of mark b ≡ Some τ → (v w : Value) → value_type v ≡ σ → value_type w ≡ τ → (is_text (prim v) && is_text (prim w)) ≡ false
    sides σ τ ea eb v w hv hw = ap₂ ◌&&◌ (text_by_type (prim v) ∙ ap is_text_type (ap Some hv ∙ sym ea)) (text_by_type (prim w) ∙ ap is_text_type (ap Some hw ∙ sym eb)) ∙ ty

    compared_pure : (o : BinaryOp) → is_comparison o ≡ true → (pure mark a && (pure mark b && true)) ≡ true → pure mark (node (Binary o) ss (a ⊳ b ⊳ ε)) ≡ true
    compared_pure Lt l g = g
    compared_pure Gt l g = g
    compared_pure LtEq l g = g
    compared_pure GtEq l g = g
    compared_pure _ l g = absurd (false≢true l)
