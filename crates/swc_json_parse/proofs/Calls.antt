-- The call in a literal's place, and where literals stand.
use Rattle.std.proofs.Common.{◌≡◌, ℕ, Bool, false, ◌||◌, ◌==◌, List, [], ◌∷◌, Some, None, String, codes, string_bytes, refl, sym, ap, ap₂, ◌∙◌}
use Rattle.std.proofs.lemmas.Bool.{false≢true}
use Rattle.std.specs.declared.alloc.Global.{Global}
use Rattle.std.specs.declared.boxed.Box.{Box}
use Rattle.std.specs.declared.vec.Vec.{Vec}
use Rattle.swc_ast.specs.Expressions.{call_node}
use Rattle.swc_ast.specs.Parts.{list_trees}
use Rattle.swc_ast.specs.Tree as tree
use Rattle.swc_ast.specs.Tree.{Tree, node, ε, ◌⊳◌, label_of}
use Rattle.swc_ast.specs.Views.{expr_tree}
use Rattle.swc_ast.proofs.ApartExpressions.{ExprForm, expr_form, expr_at}
use Rattle.swc_ast.proofs.Equations.{expr_tree-Array, expr_tree-Object, expr_tree-Call, expr_tree-Member, expr_tree-Ident, expr_tree-Lit}
use Rattle.swc_ast.specs.declared.Span.{Span}
use Rattle.swc_ast.specs.declared.declarations.Decl.TheOpen as Open
use Rattle.swc_ast.specs.declared.declarations.Decl.TheViews.{roll-Expr, out-Expr, roll-out-Expr}
use Rattle.swc_ast.specs.declared.expressions.ArrayLit.{ArrayLit}
use Rattle.swc_ast.specs.declared.expressions.Expr.{Expr}
use Rattle.swc_ast.specs.declared.expressions.Expr.TheVariants as in_expr
use Rattle.swc_ast.specs.declared.expressions.MemberProp.TheVariants as prop
use Rattle.swc_ast.specs.declared.expressions.ObjectLit.{ObjectLit}
use Rattle.swc_ast.specs.declared.expressions.PropOrSpread.{PropOrSpread}
use Rattle.swc_ast.specs.declared.literals.Lit.TheVariants as lit
use Rattle.swc_ast.specs.declared.names.SyntaxContext.{SyntaxContext}
use Rattle.swc_json_parse.specs.Parsing.{nowhere, json_name, parse_call, literal_span}

pub array_span : (e : Expr) (n : ArrayLit Expr) → e ≡ in_expr.Array n → Some n.span ≡ literal_span (expr_tree e)
array_span e n is = sym (ap (λ x. literal_span (expr_tree x)) is ∙ ap literal_span (expr_tree-Array n))

pub object_span : (e : Expr) (n : ObjectLit PropOrSpread) → e ≡ in_expr.Object n → Some n.span ≡ literal_span (expr_tree e)
object_span e n is = sym (ap (λ x. literal_span (expr_tree x)) is ∙ ap literal_span (expr_tree-Object n))

-- the forms of expressions that are array or object literals
abbrev is_list_form : ℕ → Bool
is_list_form n = (n == 2) || (n == 3)

spanless : (t : Tree) → is_list_form (expr_form (label_of t)) ≡ false → literal_span t ≡ None
spanless (node (tree.Array ks) ss cs) h = absurd (false≢true (sym h))
spanless (node tree.Object ss cs) h = absurd (false≢true (sym h))
spanless (node _ ss cs) h = refl

-- an expression of another form
pub no_span : (e : Expr) → ((n : ArrayLit Expr) → e ≡ in_expr.Array n → ⊥) → ((n : ObjectLit PropOrSpread) → e ≡ in_expr.Object n → ⊥) → None ≡ literal_span (expr_tree e)
no_span e no_array no_object = sym (by_form (out-Expr e) (roll-out-Expr e))
  where
    by_form : (o : ExprForm) → roll-Expr o ≡ e → literal_span (expr_tree e) ≡ None
    by_form (Open.Array n) is = absurd (no_array n (sym is ∙ in_expr.rolls-Array n))
    by_form (Open.Object n) is = absurd (no_object n (sym is ∙ in_expr.rolls-Object n))
    by_form o is = spanless (expr_tree e) (ap (λ x. is_list_form (expr_form (label_of (expr_tree x)))) (sym is) ∙ ap is_list_form (expr_at o))

named : (sym_text : tree.Text) (ctxt : SyntaxContext) (json : Expr) → sym_text ≡ codes "JSON" → ctxt.0 ≡ 0 → json ≡ in_expr.Ident (record { span = nowhere; sym = sym_text; ctxt = ctxt }) → expr_tree json ≡ node (tree.Read json_name) (nowhere ∷ []) ε
named t c json text context is = ap expr_tree is ∙ expr_tree-Ident (record { span = nowhere; sym = t; ctxt = c }) ∙ ap₂ (λ x k. node (tree.Read (record { text = x; context = k })) (nowhere ∷ []) ε) text context

member : (word : tree.Text) (json : Box Expr Global) (callee : Expr) → word ≡ codes "parse" → callee ≡ in_expr.Member (record { span = nowhere; obj = json; prop = prop.Ident (record { span = nowhere; sym = word }) }) → expr_tree json.value ≡ node (tree.Read json_name) (nowhere ∷ []) ε
    → expr_tree callee ≡ node (tree.Dot (codes "parse")) (nowhere ∷ nowhere ∷ []) (node (tree.Read json_name) (nowhere ∷ []) ε ⊳ ε)
member w json callee text is object = ap expr_tree is ∙ expr_tree-Member (record { span = nowhere; obj = json; prop = prop.Ident (record { span = nowhere; sym = w }) }) ∙ ap₂ (λ k o. node (tree.Dot k) (nowhere ∷ nowhere ∷ []) (o ⊳ ε)) text object

argument : (text : String Global) (args : List Expr) → args ≡ in_expr.Lit (lit.Str (record { span = nowhere; value = text })) ∷ [] → list_trees expr_tree args ≡ node (tree.StrLit (string_bytes text)) (nowhere ∷ []) ε ⊳ ε
argument t args is = ap (list_trees expr_tree) is ∙ ap (λ a. a ⊳ ε) (expr_tree-Lit (lit.Str (record { span = nowhere; value = t })))

-- the call
pub call_made : (s : Span) (text : String Global) (name word : tree.Text) (ctxt : SyntaxContext) (json callee : Box Expr Global) (args : Vec Expr Global) → name ≡ codes "JSON" → word ≡ codes "parse" → ctxt.0 ≡ 0
    → json.value ≡ in_expr.Ident (record { span = nowhere; sym = name; ctxt = ctxt }) → callee.value ≡ in_expr.Member (record { span = nowhere; obj = json; prop = prop.Ident (record { span = nowhere; sym = word }) })
    → args.items ≡ in_expr.Lit (lit.Str (record { span = nowhere; value = text })) ∷ [] → expr_tree (in_expr.Call (record { span = s; callee = callee; args = args })) ≡ parse_call s (string_bytes text)
unfolding call_node
call_made s text name word ctxt json callee args n w c j m a = expr_tree-Call (record { span = s; callee = callee; args = args }) ∙ ap₂ (call_node s) (member word json callee.value w m (named name ctxt json.value n c j)) (argument text args.items a)
