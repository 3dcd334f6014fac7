-- What `typeof` gives of literals, and which expressions are none.
use Rattle.std.proofs.Common.{◌≡◌, ℕ, false, Some, codes, refl, ap, ◌∙◌}
use Rattle.swc_ast.specs.Tree as tree
use Rattle.swc_ast.specs.Tree.{Tree, node}
use Rattle.swc_ast.specs.Expressions.{unary_node}
use Rattle.swc_ast.specs.Operators.{type_name}
use Rattle.swc_ast.specs.Parts.{lit_tree}
use Rattle.swc_ast.specs.Redex.{is_simple_literal}
use Rattle.swc_ast.specs.declared.Span.{Span}
use Rattle.swc_ast.specs.declared.UnaryOp.{UnaryOp}
use Rattle.swc_ast.specs.declared.UnaryOp.TheVariants as op
use Rattle.swc_ast.specs.declared.literals.Lit.{Lit}
use Rattle.swc_ast.specs.declared.literals.Lit.TheVariants as lit
use Rattle.swc_utils.specs.Known.{lit_value}
use Rattle.swc_utils.specs.Literals.{is_literal}
use Rattle.expr_rules.specs.TypeNames.{typeof_known}

pub literal_word : (mark : ℕ) (n : Lit) → typeof_known mark (lit_tree n) ≡ Some (type_name (lit_value n))
literal_word mark (lit.Str n) = refl
literal_word mark (lit.Bool n) = refl
literal_word mark (lit.Null n) = refl
literal_word mark (lit.Num n) = refl

void_node : (mark : ℕ) (s : Span) (t : Tree) → typeof_known mark (unary_node op.Void s t) ≡ Some (codes "undefined")
unfolding unary_node
void_node mark s t = refl

pub void_word : (mark : ℕ) (o : UnaryOp) (s : Span) (t : Tree) → o ≡ op.Void → typeof_known mark (unary_node o s t) ≡ Some (codes "undefined")
void_word mark o s t is = ap (λ x. typeof_known mark (unary_node x s t)) is ∙ void_node mark s t

pub no_simple : (t : Tree) → is_literal t ≡ false → is_simple_literal t ≡ false
no_simple (node (tree.NumLit z) ss cs) h = h
no_simple (node (tree.StrLit t) ss cs) h = h
no_simple (node (tree.BoolLit b) ss cs) h = h
no_simple (node tree.NullLit ss cs) h = h
no_simple (node l ss cs) h = refl
