-- Operators on known numbers, and `&&` and `||` with a left side of known truth, are exact.
use Rattle.std.proofs.Common.{◌≡◌, ℕ, Bool, true, false, not, ◌&&◌, if◌then◌else◌, List, Option, Some, None, refl, sym, ap, ap₂, subst, ◌∙◌, codes, ◌==◌}
use Rattle.std.proofs.lemmas.Bool.{and_parts, false≢true, or_right, eq-eqb}
use Rattle.std.proofs.lemmas.Option.{none-some, same_Some}
use Rattle.swc_ast.specs.declared.BinaryOp.{BinaryOp}
use Rattle.swc_ast.specs.declared.BinaryOp.TheVariants.{LShift, RShift, ZeroFillRShift, Sub, Mul, Div, Mod, Exp, BitOr, BitXor, BitAnd, LogicalOr, LogicalAnd}
use Rattle.swc_ast.specs.declared.Span.{Span}
use Rattle.swc_ast.specs.Tree.{Name, Seq, Binary, Tree, node, ε, ◌⊳◌}
use Rattle.swc_ast.specs.Value.{Value, NaN, Num, State, Done, Run, Context}
use Rattle.swc_ast.specs.Meaning.{◌>>=◌, gives, in_core, read, read_bound, Caller, in_turn, compute, operate, shortened, act, eval, evals}
use Rattle.swc_ast.specs.Operators.{Prim, undefined, null, object, truth as truth_of, num, text as text_of, prim, truthy, to_number, prim_number, Numeric, NotANumber, Whole, number_value, both, on_numbers, is_object, same_primitive, strict_equal, binary_prim, binary_value}
use Rattle.swc_ast.specs.Call.{call_at}
use Rattle.meaning_proofs.specs.Exact.{Refines, Exact}
use Rattle.swc_utils.specs.Pure.{pure}
use Rattle.swc_utils.specs.Known.{truth, number, of_value}
use Rattle.swc_utils.specs.Types.{prim_type, same_type, is_numeric_op}
use Rattle.swc_utils.specs.declared.answers.ValueType.TheVariants.{Obj as ObjectType}
use Rattle.swc_utils.specs.Holds.{HasTruth, HasNumber, Keeps}
use Rattle.swc_utils.proofs.Ends.{keeps_yields}
use Rattle.swc_utils.proofs.Pure.{pure_is_still}
use Rattle.swc_utils.proofs.Known.{truth_holds, number_holds, number_pure, of_value_some}
use Rattle.swc_utils.proofs.Refines.{refines_drop}
use Rattle.pass_rules.specs.Leaves.{number_tree}
use Rattle.expr_rules.specs.Arithmetic.{as_numeric, divides, is_zero, computed, fold_numbers}
use Rattle.expr_rules.specs.Choices.{chosen_side, decided, is_logical}
use Rattle.pass_proofs.proofs.Truths.{truth_keeps}
use Rattle.pass_proofs.proofs.Refines.{refines_path, refines_where, refines_end}

-- what is known of a pure part

pub number_keeps : (mark n d : ℕ) (t : Tree) (k : Numeric) → number mark t ≡ Some k → (c : Context) → Keeps (HasNumber k) (eval mark n (call_at (eval mark n) d) t c)
number_keeps mark n d t k h c = keeps_yields (pure_is_still mark n d t (number_pure mark t k h) c) (number_holds mark n (call_at (eval mark n) d) t k h c)

-- the outcome is known
pub refines_known : {m k : Run Value} (v : Value) → m ≡ gives v → ((s : State) → k s ≡ Done v s) → Refines m k
refines_known {k} v e h = subst (λ r. Refines r k) (sym e) (record { by = h })

-- numeric operators on known numbers

by_number : (f : Numeric → Numeric → Option Value) (p p' q q' : Prim) → prim_number p ≡ prim_number p' → prim_number q ≡ prim_number q' → on_numbers f p q ≡ on_numbers f p' q'
by_number f p p' q q' e g = ap₂ (both f) e g

pub numeric_by_number : (op : BinaryOp) (p p' q q' : Prim) → is_numeric_op op ≡ true → prim_number p ≡ prim_number p' → prim_number q ≡ prim_number q' → binary_prim op p q ≡ binary_prim op p' q'
unfolding binary_prim
numeric_by_number Sub p p' q q' h e g = by_number _ p p' q q' e g
numeric_by_number Mul p p' q q' h e g = by_number _ p p' q q' e g
numeric_by_number Div p p' q q' h e g = by_number _ p p' q q' e g
numeric_by_number Mod p p' q q' h e g = by_number _ p p' q q' e g
numeric_by_number Exp p p' q q' h e g = by_number _ p p' q q' e g
numeric_by_number BitAnd p p' q q' h e g = by_number _ p p' q q' e g
numeric_by_number BitOr p p' q q' h e g = by_number _ p p' q q' e g
numeric_by_number BitXor p p' q q' h e g = by_number _ p p' q q' e g
numeric_by_number LShift p p' q q' h e g = by_number _ p p' q q' e g
numeric_by_number RShift p p' q q' h e g = by_number _ p p' q q' e g
numeric_by_number ZeroFillRShift p p' q q' h e g = by_number _ p p' q q' e g
numeric_by_number _ p p' q q' h e g = absurd (false≢true h)

pub operate_numeric : (op : BinaryOp) (v : Value) (right : Run Value) → is_numeric_op op ≡ true → operate op v right ≡ (right >>= λ w. compute op v w)
unfolding operate
operate_numeric Sub v right h = refl
operate_numeric Mul v right h = refl
operate_numeric Div v right h = refl
operate_numeric Mod v right h = refl
operate_numeric Exp v right h = refl
operate_numeric BitAnd v right h = refl
operate_numeric BitOr v right h = refl
operate_numeric BitXor v right h = refl
operate_numeric LShift v right h = refl
operate_numeric RShift v right h = refl
operate_numeric ZeroFillRShift v right h = refl
operate_numeric _ v right h = absurd (false≢true h)

pub number_back : (k : Numeric) → to_number (number_value k) ≡ Some k
number_back NotANumber = refl
number_back (Whole z) = refl

pub as_numeric_back : (v : Value) (k : Numeric) → as_numeric v ≡ Some k → v ≡ number_value k
as_numeric_back NaN k h = ap number_value (same_Some _ _ h)
as_numeric_back (Num z) k h = ap number_value (same_Some _ _ h)
as_numeric_back _ k h = absurd (none-some k h)

abbrev nan_name : ℕ → Name
nan_name mark = record { text = codes "NaN"; context = mark }

pub number_tree_gives : (mark n : ℕ) (call : Caller) (rs : List Span) (k : Numeric) (c : Context) (s : State) → eval mark n call (number_tree mark rs k) c s ≡ Done (number_value k) s
unfolding eval act evals read
number_tree_gives mark n call rs (Whole z) c s = refl
number_tree_gives mark n call rs NotANumber c s = ap (λ b. (if b then gives NaN else read_bound (nan_name mark) (c.env (nan_name mark))) s) (or_right (mark == 0) (mark == mark) (eq-eqb mark mark refl))

pub if_gives : {A : Type 0} (b : Bool) (o : Option A) (a : A) → (if b then o else None) ≡ Some a → (b ≡ true) × (o ≡ Some a)
if_gives true o a h = (refl, h)
if_gives false o a h = absurd (none-some a h)

pub fold_numbers_exact : (mark : ℕ) (op : BinaryOp) (ss rs : List Span) (a b : Tree) (k : Numeric) → fold_numbers mark op a b ≡ Some k → Exact mark (node (Binary op) ss (a ⊳ b ⊳ ε)) (number_tree mark rs k)
unfolding eval act
fold_numbers_exact mark op ss rs a b k h = known (number mark a) (number mark b) refl refl h
  where
    known : (i j : Option Numeric) → number mark a ≡ i → number mark b ≡ j → computed op i j ≡ Some k → Exact mark (node (Binary op) ss (a ⊳ b ⊳ ε)) (number_tree mark rs k)
    known (Some i) (Some j) ea eb h' =
        let p = if_gives (is_numeric_op op && not (divides op && is_zero j)) (of_value as_numeric (binary_value op (number_value i) (number_value j))) k h' in
        let q = and_parts (is_numeric_op op) (not (divides op && is_zero j)) p.0 in
        let r = of_value_some as_numeric (binary_value op (number_value i) (number_value j)) k p.1 in
        record { by = λ n d c. refines_drop (number_keeps mark n d a i ea _) (λ v hv. subst (λ m. Refines m (eval mark n (call_at (eval mark n) d) (number_tree mark rs k) c)) (sym (operate_numeric op v (eval mark n (call_at (eval mark n) d) b c) q.0)) (refines_drop (number_keeps mark n d b j eb _) (λ w hw. refines_known (number_value k) (ap in_core (numeric_by_number op (prim v) (prim (number_value i)) (prim w) (prim (number_value j)) q.0 (hv ∙ sym (number_back i)) (hw ∙ sym (number_back j)) ∙ r.1 ∙ ap Some (as_numeric_back r.0 k r.2))) (number_tree_gives mark n (call_at (eval mark n) d) rs k c)))) }
    known (Some i) None ea eb h' = absurd (none-some k h')
    known None j ea eb h' = absurd (none-some k h')

-- `&&` and `||` with a left side of known truth

-- a short circuit that is decided
chosen : (b : Bool) (left right both : Run Value) → shortened (Some b) left right both ≡ (if b then left else right)
chosen true left right both = refl
chosen false left right both = refl

logical_choice : (op : BinaryOp) (v : Value) (right : Run Value) (known : Bool) → is_logical op ≡ true → truthy v ≡ known → operate op v right ≡ (if decided op known then gives v else right)
unfolding operate
logical_choice LogicalAnd v right known h e = ap (λ b. shortened (Some (not b)) (gives v) right (right >>= λ w. compute LogicalAnd v w)) e ∙ chosen (not known) (gives v) right _
logical_choice LogicalOr v right known h e = ap (λ b. shortened (Some b) (gives v) right (right >>= λ w. compute LogicalOr v w)) e ∙ chosen known (gives v) right _
logical_choice _ v right known h e = absurd (false≢true h)

module _ (mark : ℕ) (op : BinaryOp) (ss rs : List Span) (a b : Tree) (known : Bool) (logical : is_logical op ≡ true) (left_known : truth mark a ≡ Some known) where
  -- what the operator does with a left side of that truth
  choice_is : (decides : Bool) → decided op known ≡ decides → (v : Value) (right : Run Value) → HasTruth known v → operate op v right ≡ (if decides then gives v else right)
  choice_is decides e v right t = logical_choice op v right known logical t ∙ ap (λ x. if x then gives v else right) e

  side_exact : (decides is_pure : Bool) → decided op known ≡ decides → pure mark a ≡ is_pure → Exact mark (node (Binary op) ss (a ⊳ b ⊳ ε)) (if decides then a else (if is_pure then b else node Seq rs (a ⊳ b ⊳ ε)))
  unfolding eval act in_turn
  side_exact true is_pure e p = record { by = λ n d c. refines_end (truth_holds mark n (call_at (eval mark n) d) a known left_known c) (λ v t. refines_path (choice_is true e v _ t)) }
  side_exact false true e p = record { by = λ n d c. refines_drop (truth_keeps mark n d a known p left_known c) (λ v t. refines_path (choice_is false e v _ t)) }
  side_exact false false e p = record { by = λ n d c. refines_where (truth_holds mark n (call_at (eval mark n) d) a known left_known c) (λ v t. refines_path (choice_is false e v _ t)) }

pub logical_exact : (mark : ℕ) (op : BinaryOp) (ss rs : List Span) (a b : Tree) (known : Bool) → is_logical op ≡ true → truth mark a ≡ Some known → Exact mark (node (Binary op) ss (a ⊳ b ⊳ ε)) (chosen_side mark rs op a b known)
logical_exact mark op ss rs a b known l h = side_exact mark op ss rs a b known l h (decided op known) (pure mark a) refl refl

-- `===` of sides of different types

pub primitive_differ : (p q : Prim) → same_type (prim_type p) (prim_type q) ≡ false → same_primitive p q ≡ false
primitive_differ undefined undefined h = absurd (false≢true (sym h))
primitive_differ null null h = absurd (false≢true (sym h))
primitive_differ (truth_of x) (truth_of y) h = absurd (false≢true (sym h))
primitive_differ (num x) (num y) h = absurd (false≢true (sym h))
primitive_differ (text_of x) (text_of y) h = absurd (false≢true (sym h))
primitive_differ p q h = refl

object_type : (p : Prim) → is_object p ≡ true → prim_type p ≡ ObjectType
object_type object h = refl
object_type _ h = absurd (false≢true h)

pub strict_differ : (p q : Prim) → same_type (prim_type p) (prim_type q) ≡ false → strict_equal p q ≡ Some false
strict_differ p q h = by_objects (is_object p) (is_object q) refl refl
  where
    by_objects : (i j : Bool) → is_object p ≡ i → is_object q ≡ j → (if i && j then None else Some (same_primitive p q)) ≡ Some false
    by_objects true true e g = absurd (false≢true (sym h ∙ ap₂ same_type (object_type p e) (object_type q g)))
    by_objects true false e g = ap Some (primitive_differ p q h)
    by_objects false j e g = ap Some (primitive_differ p q h)
