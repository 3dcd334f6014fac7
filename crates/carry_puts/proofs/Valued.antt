-- Expressions that are put, and what is put next.
use Rattle.std.proofs.Common.{◌≡◌, ℤ, Bool, List, [], ◌∷◌, map, String, string_bytes, refl, sym, ap, ap₂, ◌∙◌, pos}
use Rattle.std.specs.Borrow.{Bor}
use Rattle.std.specs.Prelude.{Option, Some}
use Rattle.std.specs.declared.alloc.Global.{Global}
use Rattle.std.specs.declared.boxed.Box.{Box}
use Rattle.swc_ast.specs.Expressions.{unary_node}
use Rattle.swc_ast.specs.Tree as tree
use Rattle.swc_ast.specs.Tree.{Name, node, ε, ◌⊳◌}
use Rattle.swc_ast.specs.Views.{expr_tree}
use Rattle.swc_ast.proofs.Equations.{expr_tree-Unary, expr_tree-Ident, expr_tree-Lit}
use Rattle.swc_ast.specs.declared.Span.{Span}
use Rattle.swc_ast.specs.declared.UnaryOp.TheVariants as op
use Rattle.swc_ast.specs.declared.expressions.Expr.{Expr}
use Rattle.swc_ast.specs.declared.expressions.Expr.TheVariants as in_expr
use Rattle.swc_ast.specs.declared.literals.Lit.TheVariants as lit
use Rattle.swc_ast.specs.declared.literals.Str.{Str}
use Rattle.swc_ast.specs.declared.names.Ident.{Ident}
use Rattle.swc_ast.specs.declared.names.SyntaxContext.{SyntaxContext}
use Rattle.carry_rules.specs.Carry.{Pass, put_tree}
use Rattle.tree_put.specs.Puts.{become}
use Rattle.carry_parts.specs.declared.carry.Carry.{Carry}
use Rattle.carry_parts.specs.declared.carry.Carry.TheVariants as a
use Rattle.carry_parts.specs.Carries.{put_of, puts_of}
use Rattle.carry_puts.specs.Placed.{put_answer, taken}
use Rattle.carry_puts.specs.Values.{number}

-- the place of what is put
at_carry : (c d : Carry) (s : Span) (y : Name) → c ≡ d → put_tree y (put_of d) (s ∷ []) ≡ put_tree y (put_of c) (s ∷ [])
at_carry c d s y is = ap (λ q. put_tree y (put_of q) (s ∷ [])) (sym is)

pub name_made : (c : Carry) (s : Span) (n : Bor Ident) (t : tree.Text) (k : SyntaxContext) → c ≡ a.Name n → t ≡ n.now.sym → k ≡ n.now.ctxt → (y : Name) → expr_tree (in_expr.Ident (record { span = s; sym = t; ctxt = k })) ≡ put_tree y (put_of c) (s ∷ [])
name_made c s n t k is text context y = expr_tree-Ident (record { span = s; sym = t; ctxt = k }) ∙ ap₂ (λ x d. node (tree.Read (record { text = x; context = d })) (s ∷ []) ε) text (ap (λ d. d.0) context) ∙ at_carry c (a.Name n) s y is

pub number_made : (c : Carry) (s : Span) (z v : ℤ) → c ≡ a.Num z → v ≡ z → (y : Name) → expr_tree (number s v) ≡ put_tree y (put_of c) (s ∷ [])
number_made c s z v is same y = expr_tree-Lit (lit.Num (record { span = s; value = v })) ∙ ap (λ k. node (tree.NumLit k) (s ∷ []) ε) same ∙ at_carry c (a.Num z) s y is

pub text_made : (c : Carry) (s : Span) (n : Bor Str) (t : String Global) → c ≡ a.Text n → string_bytes t ≡ string_bytes n.now.value → (y : Name) → expr_tree (in_expr.Lit (lit.Str (record { span = s; value = t }))) ≡ put_tree y (put_of c) (s ∷ [])
text_made c s n t is text y = expr_tree-Lit (lit.Str (record { span = s; value = t })) ∙ ap (λ x. node (tree.StrLit x) (s ∷ []) ε) text ∙ at_carry c (a.Text n) s y is

pub truth_made : (c : Carry) (s : Span) (b : Bool) → c ≡ a.Truth b → (y : Name) → expr_tree (in_expr.Lit (lit.Bool (record { span = s; value = b }))) ≡ put_tree y (put_of c) (s ∷ [])
truth_made c s b is y = expr_tree-Lit (lit.Bool (record { span = s; value = b })) ∙ at_carry c (a.Truth b) s y is

pub null_made : (c : Carry) (s : Span) → c ≡ a.Null → (y : Name) → expr_tree (in_expr.Lit (lit.Null (record { span = s }))) ≡ put_tree y (put_of c) (s ∷ [])
null_made c s is y = expr_tree-Lit (lit.Null (record { span = s })) ∙ at_carry c a.Null s y is

pub void_made : (c : Carry) (s : Span) (e : Expr) (b : Box Expr Global) → c ≡ a.Void → e ≡ number s (pos 0) → b.value ≡ e → (y : Name) → expr_tree (in_expr.Unary (record { span = s; op = op.Void; arg = b })) ≡ put_tree y (put_of c) (s ∷ [])
unfolding unary_node
void_made c s e b is made held y =
    expr_tree-Unary (record { span = s; op = op.Void; arg = b })
    ∙ ap (λ t. node (tree.Unary op.Void) (s ∷ []) (t ⊳ ε)) (ap expr_tree (held ∙ made) ∙ expr_tree-Lit (lit.Num (record { span = s; value = pos 0 })))
    ∙ at_carry c a.Void s y is

-- what is put next
some_answer : (y : Name) (s : Span) (c : Carry) → put_answer y (s ∷ []) (put_of c) ≡ become (put_tree y (put_of c) (s ∷ []))
some_answer y s (a.Name n) = refl
some_answer y s (a.Num z) = refl
some_answer y s (a.Text t) = refl
some_answer y s (a.Truth b) = refl
some_answer y s a.Null = refl
some_answer y s a.Void = refl

pub taken_next : (p : Pass) (y : Name) (s : Span) (ls rest : List (Option Carry)) (o : Option Carry) (c : Carry) (e : Expr) → ls ≡ o ∷ rest → o ≡ Some c → ((y : Name) → expr_tree e ≡ put_tree y (put_of c) (s ∷ [])) → taken p y (s ∷ []) (map puts_of ls) ≡ (become (expr_tree e), (p, map puts_of rest))
taken_next p y s ls rest o c e is some made = ap (λ l. taken p y (s ∷ []) (map puts_of l)) is ∙ ap (λ q. (put_answer y (s ∷ []) (puts_of q), (p, map puts_of rest))) some ∙ ap (λ r. (r, (p, map puts_of rest))) (some_answer y s c ∙ ap become (sym (made y)))
