-- Wrappers and their bodies.
use Rattle.std.proofs.Common.{ℕ, ◌+◌, ◌-◌, ◌≡◌, ◌<◌, Bool, true, false, ◌||◌, List, [], ◌∷◌, ◌++◌, Option, Some, None, length, get_or, take, drop, is_some, ◌==◌, refl, sym, ap, ap₂, ◌∙◌, arith}
use Rattle.std.proofs.lemmas.Bool.{false≢true}
use Rattle.std.proofs.lemmas.List.{drop_more, take-append-drop}
use Rattle.std.specs.Cmp.{unsigned_Decides}
use Rattle.swc_ast.specs.declared.Span.{Span}
use Rattle.swc_ast.specs.declared.declarations.Function.{Function}
use Rattle.swc_ast.specs.declared.expressions.ArrowExpr.{ArrowExpr}
use Rattle.swc_ast.specs.declared.expressions.CallExpr.{CallExpr}
use Rattle.swc_ast.specs.declared.expressions.Expr.{Expr}
use Rattle.swc_ast.specs.declared.expressions.FnExpr.{FnExpr}
use Rattle.swc_ast.specs.declared.names.Ident.{Ident}
use Rattle.swc_ast.specs.declared.statements.BlockStmt.{BlockStmt}
use Rattle.swc_ast.specs.declared.statements.ExprStmt.{ExprStmt as Statement}
use Rattle.swc_ast.specs.declared.statements.Stmt.{Stmt}
use Rattle.swc_ast.specs.Expressions as form
use Rattle.swc_ast.specs.Expressions.{FunctionTrees, call_tree, fn_expr_tree, body_tree, params_tree}
use Rattle.swc_ast.specs.declared.modules.ModuleItem.{ModuleItem}
use Rattle.swc_ast.specs.Modules.{item_tree}
use Rattle.swc_ast.specs.Parts.{list_trees, option_ident_name, option_ident_spans}
use Rattle.swc_ast.specs.Statements.{expr_stmt_tree}
use Rattle.swc_ast.specs.Tree.{Label, Fn, Arrow, Call, ExprStmt, Tree, node, Forest, ε, ◌⊳◌, label_of, children_of}
use Rattle.swc_ast.specs.Views.{arrow_tree, arrow_body_tree, expr_tree, function_trees, stmt_tree}
use Rattle.swc_ast.proofs.Equations.{function_trees-is, arrow_tree-is}
use Rattle.dce_rules.specs.Uses.{is_eval, any_eval}
use Rattle.dce_layer_proofs.specs.Frames.{Wrapper, function_label, wrapped_parts, wrapped_function, wrapped_call, wrapped}
use Rattle.dce_items.specs.Wrapped.{Wraps, WrapperAt}

-- a list that is said to be empty is
pub empty : {X : Type 0} (b : Bool) (n : ℕ) (xs : List X) → b ≡ true → b ≡ (n == 0) → n ≡ length xs → xs ≡ []
empty b n [] h is len = refl
empty b n (x ∷ xs) h is len = absurd (omega (arith, len, (unsigned_Decides n 0).0 (sym is ∙ h)))

pub nameless : {X : Type 0} (b : Bool) (o : Option X) → b ≡ is_some o → b ≡ false → o ≡ None
nameless b None is none = refl
nameless b (Some x) is none = absurd (false≢true (sym none ∙ is))

-- a function without a name and without parameters
pub called_function : (n : FnExpr Function) (f g : Function) → f ≡ n.function.value → g ≡ n.function.value → n.ident ≡ None → f.params.items ≡ [] → Wraps wrapped_function (fn_expr_tree function_trees n) (list_trees stmt_tree g.body.stmts.items)
called_function n f g same so unnamed none =
    let w : Wrapper = record { is_arrow = false; statement = []; call = []; function = g.span ∷ []; params = []; body = g.body.span ∷ [] } in
    let made : FunctionTrees → Option Ident → Tree = λ p o. form.function_node (Fn (option_ident_name o)) (option_ident_spans o) p in
    record {
      parts = w;
      is = ap₂ (λ k o. made (function_trees k) o) (sym so) unnamed ∙ ap (λ p. made p None) (function_trees-is g) ∙ ap (λ ps. made (record { own = g.span; parameters = params_tree expr_tree ps; body = body_tree stmt_tree g.body }) None) (ap (λ k. k.params.items) (so ∙ sym same) ∙ none);
    }

-- an arrow with a block for its body, without parameters
pub called_arrow : (n : ArrowExpr) (b : BlockStmt Stmt) → arrow_body_tree n.body ≡ body_tree stmt_tree b → n.params.items ≡ [] → Wraps wrapped_function (arrow_tree n) (list_trees stmt_tree b.stmts.items)
called_arrow n b is none =
    let w : Wrapper = record { is_arrow = true; statement = []; call = []; function = n.span ∷ []; params = []; body = b.span ∷ [] } in
    record {
      parts = w;
      is = arrow_tree-is n ∙ ap₂ (λ ps u. node Arrow (n.span ∷ []) (params_tree expr_tree ps ⊳ u ⊳ ε)) none is;
    }

abbrev pub called : Wrapper → Span → Wrapper
called w s = record w { call = s ∷ [] }

-- its call where it stands, without arguments
called_label : (b : Bool) (s : Span) (ss : List Span) (cs : Forest) → form.call_node s (node (function_label b) ss cs) ε ≡ node Call (s ∷ []) (node (function_label b) ss cs ⊳ ε)
unfolding form.call_node
called_label true s ss cs = refl
called_label false s ss cs = refl

pub called_node : (w : Wrapper) (s : Span) (ts : Forest) → form.call_node s (wrapped_function w ts) ε ≡ wrapped_call (called w s) ts
called_node w s ts = called_label w.is_arrow s w.function (wrapped_parts w ts)

pub called_so : (n : CallExpr Expr) (ts : Forest) → n.args.items ≡ [] → Wraps wrapped_function (expr_tree n.callee.value) ts → Wraps wrapped_call (call_tree expr_tree n) ts
called_so n ts none h = record {
  parts = called h.parts n.span;
  is = ap₂ (λ t us. form.call_node n.span t (list_trees expr_tree us)) h.is none ∙ called_node h.parts n.span ts;
}

-- the call as a statement
pub stated : (n : Statement Expr) (ts : Forest) → Wraps wrapped_call (expr_tree n.expr.value) ts → Wraps wrapped (expr_stmt_tree expr_tree n) ts
stated n ts h = record {
  parts = record h.parts { statement = n.span ∷ [] };
  is = ap (λ t. node ExprStmt (n.span ∷ []) (t ⊳ ε)) h.is;
}

-- the wrapper among the module's items
pub wrapper_at : (items : List ModuleItem) (i : ℕ) (x : ModuleItem) (ts : Forest) → i < length items → x ≡ get_or items i x → Wraps wrapped (item_tree x) ts → WrapperAt items i ts
wrapper_at items i x ts there is h = record {
  there = there;
  item = x;
  splits = sym (take-append-drop i items) ∙ ap (λ ys. take i items ++ ys) (drop_more items i x there ∙ ap (λ y. y ∷ drop (i + 1) items) (sym is));
  is = h;
}

-- `eval` among children: a child that calls it, and one that doesn't

eval_at : (t : Tree) (l : Label) (cs ts us : Forest) → us ≡ t ⊳ ts → label_of t ≡ l → children_of t ≡ cs → any_eval us ≡ ((is_eval l || any_eval cs) || any_eval ts)
eval_at (node m ss ds) l cs ts us is labelled held = ap any_eval is ∙ ap₂ (λ k es. (is_eval k || any_eval es) || any_eval ts) labelled held

pub eval_here : (t : Tree) (l : Label) (cs ts us all : Forest) → us ≡ t ⊳ ts → label_of t ≡ l → children_of t ≡ cs → (is_eval l || any_eval cs) ≡ true → any_eval us ≡ any_eval all → true ≡ any_eval all
eval_here t l cs ts us all is labelled held calls so = sym (ap (λ b. b || any_eval ts) calls) ∙ sym (eval_at t l cs ts us is labelled held) ∙ so

pub eval_behind : (t : Tree) (l : Label) (cs ts us all : Forest) → us ≡ t ⊳ ts → label_of t ≡ l → children_of t ≡ cs → (is_eval l || any_eval cs) ≡ false → any_eval us ≡ any_eval all → any_eval ts ≡ any_eval all
eval_behind t l cs ts us all is labelled held none so = sym (ap (λ b. b || any_eval ts) none) ∙ sym (eval_at t l cs ts us is labelled held) ∙ so

pub no_eval : (us all : Forest) → us ≡ ε → any_eval us ≡ any_eval all → false ≡ any_eval all
no_eval us all is so = sym (ap any_eval is) ∙ so
