-- Rewrites for the place where an expression stands: `(0, e)`, `typeof` of a name that stands for a value, and a member
-- by a literal key.
use Rattle.std.specs.Fmt.{signed_decimal}
use Rattle.std.proofs.Common.{◌≡◌, ℕ, ℤ, Bool, true, false, not, ◌&&◌, ◌||◌, if◌then◌else◌, List, Some, None, refl, ap, ◌∙◌, bytes_eq, codes}
use Rattle.std.proofs.lemmas.Option.{none-some, same_Some}
use Rattle.swc_ast.specs.declared.UnaryOp.TheVariants.{TypeOf}
use Rattle.swc_ast.specs.declared.Span.{Span}
use Rattle.swc_ast.specs.Tree.{Name, NumLit, StrLit, Read, TypeOfName, Dot, Index, Tree, node, Forest, ε, ◌⊳◌}
use Rattle.swc_ast.specs.Value.{Value, Undefined, Null, NaN, TypeError, ScriptThis, Truth, Num, Text, Items, Record, Function, Token, Own, TypeOf as TypeOfEvent, Run, and_then}
use Rattle.swc_ast.specs.Meaning.{◌>>=◌, in_core, ask, checked_type, is_unresolved, read, type_of_name, get, get_at, act, eval, evals}
use Rattle.swc_ast.specs.Operators.{unary_value, type_name}
use Rattle.meaning_proofs.specs.Exact.{Exact}
use Rattle.swc_utils.specs.Globals.{name_value}
use Rattle.swc_utils.specs.Holds.{Is, Yields}
use Rattle.swc_utils.proofs.Ends.{yields_then, yields_gives}
use Rattle.swc_utils.proofs.Known.{yields0, literal_gives, constant_pure}
use Rattle.swc_utils.proofs.Refines.{refines_same, refines_then}
use Rattle.pass_rules.specs.Leaves.{text_tree, key_text_of}
use Rattle.pass_proofs.proofs.Refines.{refines_path}
use Rattle.expr_proofs.proofs.Folds.{pure_constant, text_gives}

-- `typeof` of a name that stands for a value

module _ (host m : Run Value) (v : Value) (hm : Yields (Is v) m) where
  asks_nothing : (u a b i g : Bool) → (if u then (if a then Some Undefined else (if b then Some NaN else None)) else None) ≡ Some v → Yields (Is (Text (type_name v))) (if u && not (a || (b || (i || g))) then host else (m >>= λ w. in_core (unary_value TypeOf w)))
  unfolding unary_value
  asks_nothing false a b i g h = absurd (none-some v h)
  asks_nothing true true b i g h = yields_then hm (λ w e. yields_gives _ (ap (λ x. Text (type_name x)) e))
  asks_nothing true false true i g h = yields_then hm (λ w e. yields_gives _ (ap (λ x. Text (type_name x)) e))
  asks_nothing true false false i g h = absurd (none-some v h)

pub type_of_constant_exact : (mark : ℕ) (ss rs : List Span) (ts : Forest) (x : Name) (v : Value) → name_value mark x ≡ Some v → Exact mark (node (TypeOfName x) ss ts) (text_tree rs (type_name v))
unfolding eval act evals type_of_name
type_of_constant_exact mark ss rs ts x v h = pure_constant mark (node (TypeOfName x) ss ts) (text_tree rs (type_name v)) (Text (type_name v)) (constant_pure (is_unresolved mark x) _ _ _ v h)
    (λ n call c. yields0 (evals mark n call ts) (λ d. asks_nothing (ask (TypeOfEvent x.text) >>= checked_type) (read mark x d) v (literal_gives mark n call (Read x) ss ε v h d) (is_unresolved mark x) (bytes_eq x.text (codes "undefined")) (bytes_eq x.text (codes "NaN")) (bytes_eq x.text (codes "Infinity")) (bytes_eq x.text (codes "arguments")) h) c)
    (text_gives mark rs (type_name v))

-- a member by a literal key

by_text : (v : Value) (k : List ℕ) → get_at v (Text k) ≡ get v k
unfolding get_at get and_then
by_text Undefined k = refl
by_text Null k = refl
by_text NaN k = refl
by_text TypeError k = refl
by_text ScriptThis k = refl
by_text (Truth b) k = refl
by_text (Num z) k = refl
by_text (Text t) k = refl
by_text (Items vs) k = refl
by_text (Record fs) k = refl
by_text (Function f e t) k = refl
by_text (Token i b) k = refl
by_text (Own i) k = refl

by_number : (v : Value) (z : ℤ) → get_at v (Num z) ≡ get v (signed_decimal z)
unfolding get_at get and_then
by_number Undefined z = refl
by_number Null z = refl
by_number NaN z = refl
by_number TypeError z = refl
by_number ScriptThis z = refl
by_number (Truth b) z = refl
by_number (Num y) z = refl
by_number (Text t) z = refl
by_number (Items vs) z = refl
by_number (Record fs) z = refl
by_number (Function f e t) z = refl
by_number (Token i b) z = refl
by_number (Own i) z = refl

-- `o[key]` is `o.k` where the key is a literal of text k
pub member_exact : (mark : ℕ) (ss rs : List Span) (o key : Tree) (k : List ℕ) → key_text_of key ≡ Some k → Exact mark (node Index ss (o ⊳ key ⊳ ε)) (node (Dot k) rs (o ⊳ ε))
unfolding eval act evals and_then
member_exact mark ss rs o (node (StrLit t) ks ε) k h = record { by = λ n d c. refines_then (refines_same _) (λ v. refines_path (by_text v t ∙ ap (get v) (same_Some _ _ h))) }
member_exact mark ss rs o (node (NumLit z) ks ε) k h = record { by = λ n d c. refines_then (refines_same _) (λ v. refines_path (by_number v z ∙ ap (get v) (same_Some _ _ h))) }
member_exact mark ss rs o _ k h = absurd (none-some k h)
