-- What a rewrite of an expression leaves is lighter.
use Rattle.std.proofs.Common.{◌≡◌, ℕ, ◌<◌, ◌≤◌, Bool, true, false, if◌then◌else◌, List, refl, arith}
use Rattle.std.proofs.lemmas.Bool.{false≢true}
use Rattle.swc_ast.specs.declared.Span.{Span}
use Rattle.swc_ast.specs.declared.UnaryOp.{UnaryOp}
use Rattle.swc_ast.specs.declared.UnaryOp.TheVariants.{Bang, TypeOf, Void, Delete}
use Rattle.swc_ast.specs.declared.BinaryOp.{BinaryOp}
use Rattle.swc_ast.specs.declared.BinaryOp.TheVariants.{EqEq, NotEq, EqEqEq, NotEqEq, Exp}
use Rattle.swc_ast.specs.Tree.{Name, Unary, TypeOfName, Binary, Cond, Seq, Tree, node, Forest, ε, ◌⊳◌}
use Rattle.swc_ast.specs.Operators.{Numeric}
use Rattle.swc_ast.specs.Weight.{own_weight, weight}
use Rattle.swc_utils.specs.Pure.{pure}
use Rattle.swc_utils.specs.Effects.{is_strict, effects, effects_all, preserve}
use Rattle.expr_rules.specs.Equality.{is_equality}
use Rattle.pass_rules.specs.Leaves.{text_tree, void_tree, number_tree, truth_tree}
use Rattle.expr_rules.specs.Choices.{chosen_arm, decided, chosen_side}
use Rattle.pass_proofs.proofs.Weights.{number_light, truth_light, text_light, void_weighs, binary_preserved, unary_preserved, parts_preserved}

-- a literal in place of an operator, a condition or `typeof` of a name

pub binary_lighter : (op : BinaryOp) (ss : List Span) (ts : Forest) (u : Tree) → weight u ≤ 2 → weight u < weight (node (Binary op) ss ts)
unfolding own_weight
binary_lighter op ss ts u h = omega arith

pub unary_lighter : (op : UnaryOp) (ss : List Span) (ts : Forest) (u : Tree) → weight u ≤ 2 → weight u < weight (node (Unary op) ss ts)
unfolding own_weight
unary_lighter op ss ts u h = omega arith

pub type_name_lighter : (x : Name) (ss : List Span) (ts : Forest) (u : Tree) → weight u ≤ 2 → weight u < weight (node (TypeOfName x) ss ts)
unfolding own_weight
type_name_lighter x ss ts u h = omega arith

-- a number, by `+a`, `-a`, `~a` and by an operator

pub number_by_unary_lighter : (mark : ℕ) (op : UnaryOp) (ss rs : List Span) (ts : Forest) (k : Numeric) → weight (number_tree mark rs k) < weight (node (Unary op) ss ts)
number_by_unary_lighter mark op ss rs ts k = unary_lighter op ss ts (number_tree mark rs k) (number_light mark rs k)

pub number_by_binary_lighter : (mark : ℕ) (op : BinaryOp) (ss rs : List Span) (ts : Forest) (k : Numeric) → weight (number_tree mark rs k) < weight (node (Binary op) ss ts)
number_by_binary_lighter mark op ss rs ts k = binary_lighter op ss ts (number_tree mark rs k) (number_light mark rs k)

pub text_by_binary_lighter : (op : BinaryOp) (ss rs : List Span) (ts : Forest) (t : List ℕ) → weight (text_tree rs t) < weight (node (Binary op) ss ts)
text_by_binary_lighter op ss rs ts t = binary_lighter op ss ts (text_tree rs t) (text_light rs t)

pub truth_by_binary_lighter : (op : BinaryOp) (ss rs : List Span) (ts : Forest) (b : Bool) → weight (truth_tree rs b) < weight (node (Binary op) ss ts)
truth_by_binary_lighter op ss rs ts b = binary_lighter op ss ts (truth_tree rs b) (truth_light rs b)

pub type_of_constant_lighter : (ss rs : List Span) (ts : Forest) (x : Name) (t : List ℕ) → weight (text_tree rs t) < weight (node (TypeOfName x) ss ts)
type_of_constant_lighter ss rs ts x t = type_name_lighter x ss ts (text_tree rs t) (text_light rs t)

-- `!a` and `typeof a`, with the effects of a in front

bang_runs : Bang ≡ Delete → ⊥
bang_runs h = cc

type_of_runs : TypeOf ≡ Delete → ⊥
type_of_runs h = cc

pub not_lighter : (mark : ℕ) (ss rs ts : List Span) (cs : Forest) (b : Bool) → weight (preserve rs (effects mark (node (Unary Bang) ss cs)) (truth_tree ts b)) < weight (node (Unary Bang) ss cs)
not_lighter mark ss rs ts cs b = unary_preserved mark rs (truth_tree ts b) (truth_light ts b) Bang ss cs bang_runs

pub typeof_lighter : (mark : ℕ) (ss rs ts : List Span) (cs : Forest) (t : List ℕ) → weight (preserve rs (effects mark (node (Unary TypeOf) ss cs)) (text_tree ts t)) < weight (node (Unary TypeOf) ss cs)
typeof_lighter mark ss rs ts cs t = unary_preserved mark rs (text_tree ts t) (text_light ts t) TypeOf ss cs type_of_runs

-- `void a`, where a is no lighter than most expressions
pub void_lighter : (ss rs zs : List Span) (a : Tree) → 2 ≤ weight a → weight (void_tree rs zs) < weight (node (Unary Void) ss (a ⊳ ε))
unfolding own_weight
void_lighter ss rs zs a h = let e = void_weighs rs zs in omega (arith, e)

-- operators with the effects of both sides in front

strict_equality : (op : BinaryOp) → is_equality op ≡ true → is_strict op ≡ true
strict_equality EqEq h = refl
strict_equality NotEq h = refl
strict_equality EqEqEq h = refl
strict_equality NotEqEq h = refl
strict_equality _ h = absurd (false≢true h)

pub equality_lighter : (mark : ℕ) (op : BinaryOp) (ss rs ts : List Span) (cs : Forest) (b : Bool) → is_equality op ≡ true → weight (preserve rs (effects mark (node (Binary op) ss cs)) (truth_tree ts b)) < weight (node (Binary op) ss cs)
equality_lighter mark op ss rs ts cs b h = binary_preserved mark rs (truth_tree ts b) (truth_light ts b) op ss cs (strict_equality op h)

pub power_zero_lighter : (mark : ℕ) (ss rs ts : List Span) (cs : Forest) (k : Numeric) → weight (preserve rs (effects mark (node (Binary Exp) ss cs)) (number_tree mark ts k)) < weight (node (Binary Exp) ss cs)
power_zero_lighter mark ss rs ts cs k = binary_preserved mark rs (number_tree mark ts k) (number_light mark ts k) Exp ss cs refl

pub no_meaning_lighter : (mark : ℕ) (op : BinaryOp) (ss rs ts : List Span) (cs : Forest) (b : Bool) → weight (preserve rs (effects_all mark cs) (truth_tree ts b)) < weight (node (Binary op) ss cs)
no_meaning_lighter mark op ss rs ts cs b = parts_preserved mark rs (truth_tree ts b) (truth_light ts b) op ss cs

-- a known side or arm

pub side_lighter : (mark : ℕ) (op : BinaryOp) (ss rs : List Span) (a b : Tree) (known : Bool) → weight (chosen_side mark rs op a b known) < weight (node (Binary op) ss (a ⊳ b ⊳ ε))
unfolding own_weight
side_lighter mark op ss rs a b known = by_kind (decided op known) (pure mark a)
  where
    by_kind : (x y : Bool) → weight (if x then a else (if y then b else node Seq rs (a ⊳ b ⊳ ε))) < weight (node (Binary op) ss (a ⊳ b ⊳ ε))
    by_kind true y = omega arith
    by_kind false true = omega arith
    by_kind false false = omega arith

pub arm_lighter : (ss rs : List Span) (t a b : Tree) (known is_pure : Bool) → weight (chosen_arm rs t (if known then a else b) is_pure) < weight (node Cond ss (t ⊳ a ⊳ b ⊳ ε))
unfolding own_weight
arm_lighter ss rs t a b true true = omega arith
arm_lighter ss rs t a b true false = omega arith
arm_lighter ss rs t a b false true = omega arith
arm_lighter ss rs t a b false false = omega arith

-- grouped anew
pub regroup_lighter : (mark : ℕ) (op : BinaryOp) (ss is rs ns : List Span) (a b c : Tree) (r : Numeric) → weight (node (Binary op) rs (a ⊳ number_tree mark ns r ⊳ ε)) < weight (node (Binary op) ss (node (Binary op) is (a ⊳ b ⊳ ε) ⊳ c ⊳ ε))
unfolding own_weight
regroup_lighter mark op ss is rs ns a b c r = let l = number_light mark ns r in omega (arith, l)

-- a sequence of one
pub single_lighter : (ss : List Span) (t : Tree) → weight t < weight (node Seq ss (t ⊳ ε))
unfolding own_weight
single_lighter ss t = omega arith
