-- What is known of the value of an expression: its truth, its number and its text. ECMA-262, section 7.1.
use Rattle.std.specs.Prelude.{ℕ, zero, suc, pos, negsuc, Bool, true, false, not, ◌||◌, if◌then◌else◌, List, [], ◌∷◌, ◌++◌, Option, Some, None, string_bytes}
use Rattle.swc_ast.specs.declared.UnaryOp.{UnaryOp}
use Rattle.swc_ast.specs.declared.UnaryOp.TheVariants.{Minus, Bang, Void}
use Rattle.swc_ast.specs.declared.BinaryOp.{BinaryOp}
use Rattle.swc_ast.specs.declared.BinaryOp.TheVariants.{LogicalOr, LogicalAnd}
use Rattle.swc_ast.specs.declared.AssignOp.{AssignOp}
use Rattle.swc_ast.specs.declared.AssignOp.TheVariants.{Assign as PlainAssign}
use Rattle.swc_ast.specs.declared.literals.Lit.{Lit}
use Rattle.swc_ast.specs.declared.literals.Lit.TheVariants as lit
use Rattle.swc_ast.specs.Tree.{Label, NumLit, StrLit, BoolLit, NullLit, Read, Template, Array, Object, Fn, Arrow, Unary, Binary, Seq, Assign, AssignDot, AssignIndex, Tree, node, Forest, ε, ◌⊳◌}
use Rattle.swc_ast.specs.Value.{Value, Undefined, Null, Truth, Num, Text}
use Rattle.swc_ast.specs.Operators.{Numeric, NotANumber, Whole, whole, truthy, to_number, to_text, number_value}
use Rattle.swc_utils.specs.Globals.{name_value}
use Rattle.swc_utils.specs.Pure.{no_trees, pure}

-- the value of a literal, or of a name that stands for one
abbrev pub literal : ℕ → Label → Option Value
literal mark (Read x) = name_value mark x
literal mark (NumLit z) = Some (Num z)
literal mark (StrLit t) = Some (Text t)
literal mark (BoolLit b) = Some (Truth b)
literal mark NullLit = Some Null
literal mark _ = None

-- the value of a literal
abbrev pub lit_value : Lit → Value
lit_value (lit.Str n) = Text (string_bytes n.value)
lit_value (lit.Bool n) = Truth n.value
lit_value (lit.Null n) = Null
lit_value (lit.Num n) = Num n.value

-- the value of `void` and `!` of a pure operand, by the operand's truth
abbrev pub unary_known : UnaryOp → Bool → Option Bool → Option Value
unary_known Void true truth = Some Undefined
unary_known Bang true (Some b) = Some (Truth (not b))
unary_known _ is_pure truth = None

-- what f says of a value, if that is known
abbrev pub of_value : {A : Type 0} → (Value → Option A) → Option Value → Option A
of_value f None = None
of_value f (Some v) = f v

-- the truth of a value, if the value is known
abbrev pub known_truth : Option Value → Option Bool
known_truth o = of_value (λ v. Some (truthy v)) o

-- the number of `-a`; -0 is no known number, nor is one past 2^53 - 1
abbrev pub minus : Option Numeric → Option Numeric
minus None = None
minus (Some NotANumber) = Some NotANumber
minus (Some (Whole (pos zero))) = None
minus (Some (Whole (pos (suc n)))) = whole (negsuc n)
minus (Some (Whole (negsuc n))) = whole (pos (suc n))

-- the number of an operator's value, by the operand's number, and by what `void` and `!` give
abbrev pub unary_number : UnaryOp → Option Numeric → Option Value → Option Numeric
unary_number Minus number v = minus number
unary_number _ number v = of_value to_number v

-- whether a number is neither 0 nor NaN
abbrev pub number_truth : Option Numeric → Option Bool
number_truth None = None
number_truth (Some n) = Some (truthy (number_value n))

-- the other truth
abbrev pub negation : Option Bool → Option Bool
negation None = None
negation (Some b) = Some (not b)

-- the truth of an operator's value, by the operand's truth and number
abbrev pub unary_truth : UnaryOp → Option Bool → Option Numeric → Option Bool
unary_truth Void truth number = Some false
unary_truth Bang truth number = negation truth
unary_truth Minus truth number = number_truth number
unary_truth _ truth number = None

-- `a || b`: true if a side is, false if both are
abbrev pub or_truth : Option Bool → Option Bool → Option Bool
or_truth (Some true) b = Some true
or_truth a (Some true) = Some true
or_truth (Some false) (Some false) = Some false
or_truth a b = None

-- `a && b`: false if a side is, true if both are
abbrev pub and_truth : Option Bool → Option Bool → Option Bool
and_truth (Some false) b = Some false
and_truth a (Some false) = Some false
and_truth (Some true) (Some true) = Some true
and_truth a b = None

-- the truth of an operator's value, by those of both sides
abbrev pub binary_truth : BinaryOp → Option Bool → Option Bool → Option Bool
binary_truth LogicalOr a b = or_truth a b
binary_truth LogicalAnd a b = and_truth a b
binary_truth _ a b = None

-- the truth of an assignment's value, by that of its right side
abbrev pub assign_truth : AssignOp → Option Bool → Option Bool
assign_truth PlainAssign b = b
assign_truth _ b = None

-- whether a text is not empty
abbrev pub is_filled : List ℕ → Bool
is_filled [] = false
is_filled (c ∷ cs) = true

-- whether one of a template's texts is not empty
abbrev pub some_filled : List (List ℕ × Bool) → Forest → Bool
some_filled [] ts = false
some_filled (q ∷ qs) ε = is_filled q.0
some_filled (q ∷ qs) (t ⊳ ts) = is_filled q.0 || some_filled qs ts

-- the truth of a template: true if a text is not empty; false if all are empty and there is no expression
abbrev pub template_truth : List (List ℕ × Bool) → Forest → Option Bool
template_truth qs ts = if some_filled qs ts then Some true else (if no_trees ts then Some false else None)

abbrev mutual
  -- what ToBoolean gives of an expression's value (7.1.2)
  pub truth : ℕ → Tree → Option Bool
  truth mark (node (Fn o) ss ts) = Some true
  truth mark (node Arrow ss ts) = Some true
  truth mark (node (Array ks) ss ts) = Some true
  truth mark (node Object ss ts) = Some true
  truth mark (node (Template qs) ss ts) = template_truth qs ts
  truth mark (node (Assign PlainAssign x) ss (r ⊳ ε)) = truth mark r
  truth mark (node (AssignDot PlainAssign k) ss (o ⊳ r ⊳ ε)) = truth mark r
  truth mark (node (AssignIndex PlainAssign) ss (o ⊳ k ⊳ r ⊳ ε)) = truth mark r
  truth mark (node (Unary op) ss (a ⊳ ε)) = unary_truth op (truth mark a) (number mark a)
  truth mark (node (Binary op) ss (a ⊳ b ⊳ ε)) = binary_truth op (truth mark a) (truth mark b)
  truth mark (node Seq ss ts) = last_truth mark ts
  truth mark (node l ss ts) = known_truth (literal mark l)

  -- the same of the last of some expressions
  pub last_truth : ℕ → Forest → Option Bool
  last_truth mark ε = None
  last_truth mark (t ⊳ ε) = truth mark t
  last_truth mark (t ⊳ u ⊳ ts) = last_truth mark (u ⊳ ts)

  -- what ToNumber gives of an expression's value, if the expression is pure (7.1.4)
  pub number : ℕ → Tree → Option Numeric
  number mark (node (Unary op) ss (a ⊳ ε)) = unary_number op (number mark a) (unary_known op (pure mark a) (truth mark a))
  number mark (node l ss ts) = of_value to_number (literal mark l)

-- the truth, if the expression is pure
abbrev pub pure_truth : ℕ → Tree → Option Bool
pure_truth mark t = if pure mark t then truth mark t else None

-- two known texts, one after the other
abbrev pub joined_texts : Option (List ℕ) → Option (List ℕ) → Option (List ℕ)
joined_texts (Some s) (Some t) = Some (s ++ t)
joined_texts s t = None

abbrev mutual
  -- what ToString gives of an expression's value, if the expression is pure (7.1.17)
  pub text : ℕ → Tree → Option (List ℕ)
  text mark (node (Unary op) ss (a ⊳ ε)) = of_value to_text (unary_known op (pure mark a) (truth mark a))
  text mark (node (Template qs) ss ts) = template_known mark qs ts
  text mark (node l ss ts) = of_value to_text (literal mark l)

  -- the text of a template whose expressions have known texts
  pub template_known : ℕ → List (List ℕ × Bool) → Forest → Option (List ℕ)
  template_known mark [] ε = Some []
  template_known mark [] (t ⊳ ts) = None
  template_known mark (q ∷ qs) ε = Some q.0
  template_known mark (q ∷ qs) (t ⊳ ts) = joined_texts (joined_texts (Some q.0) (text mark t)) (template_known mark qs ts)
