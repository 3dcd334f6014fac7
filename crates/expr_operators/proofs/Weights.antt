-- What expressions weigh at least.
use Rattle.std.proofs.Common.{◌≡◌, ◌≤◌, zero, suc, ℤ, pos, negsuc, length, get_or, true, false, if◌then◌else◌, Bool, List, [], ◌∷◌, sym, ap, ◌∙◌, subst, arith}
use Rattle.swc_ast.specs.Tree as tree
use Rattle.swc_ast.specs.Tree.{Label, Name, Tree, node, Forest, ε, ◌⊳◌}
use Rattle.swc_ast.specs.Expressions.{is_eval, unary_node, call_node, update_node, assign_node, member_node, seq_tree}
use Rattle.swc_ast.specs.Parts.{leaf, lit_tree, then_all, list_trees}
use Rattle.swc_ast.specs.Redex.{is_zero}
use Rattle.swc_ast.specs.Views.{expr_tree}
use Rattle.swc_ast.specs.Weight.{own_weight, weight, weight_all}
use Rattle.swc_ast.specs.declared.Span.{Span}
use Rattle.swc_ast.specs.declared.UnaryOp.{UnaryOp}
use Rattle.swc_ast.specs.declared.UnaryOp.TheVariants as op
use Rattle.swc_ast.specs.declared.UpdateOp.{UpdateOp}
use Rattle.swc_ast.specs.declared.AssignOp.{AssignOp}
use Rattle.std.specs.declared.alloc.Global.{Global}
use Rattle.std.specs.declared.boxed.Box.{Box}
use Rattle.swc_ast.specs.declared.expressions.Expr.{Expr}
use Rattle.swc_ast.specs.declared.expressions.Expr.TheVariants as in_expr
use Rattle.swc_ast.specs.declared.expressions.ArrayLit.{ArrayLit}
use Rattle.swc_ast.specs.declared.expressions.ObjectLit.{ObjectLit}
use Rattle.swc_ast.specs.declared.expressions.FnExpr.{FnExpr}
use Rattle.swc_ast.specs.declared.expressions.ThisExpr.{ThisExpr}
use Rattle.swc_ast.specs.declared.expressions.UnaryExpr.{UnaryExpr}
use Rattle.swc_ast.specs.declared.expressions.UpdateExpr.{UpdateExpr}
use Rattle.swc_ast.specs.declared.expressions.BinExpr.{BinExpr}
use Rattle.swc_ast.specs.declared.expressions.AssignExpr.{AssignExpr}
use Rattle.swc_ast.specs.declared.expressions.CondExpr.{CondExpr}
use Rattle.swc_ast.specs.declared.expressions.CallExpr.{CallExpr}
use Rattle.swc_ast.specs.declared.expressions.NewExpr.{NewExpr}
use Rattle.swc_ast.specs.declared.expressions.SeqExpr.{SeqExpr}
use Rattle.swc_ast.specs.declared.expressions.Tpl.{Tpl}
use Rattle.swc_ast.specs.declared.expressions.ArrowExpr.{ArrowExpr}
use Rattle.swc_ast.specs.declared.expressions.PropOrSpread.{PropOrSpread}
use Rattle.swc_ast.specs.declared.declarations.Function.{Function}
use Rattle.swc_ast.specs.declared.names.Ident.{Ident}
use Rattle.swc_ast.specs.declared.literals.Lit.{Lit}
use Rattle.swc_ast.specs.declared.literals.Lit.TheVariants as lit
use Rattle.swc_ast.specs.declared.expressions.AssignTarget.{AssignTarget}
use Rattle.swc_ast.specs.declared.expressions.AssignTarget.TheVariants as target
use Rattle.swc_ast.specs.declared.expressions.MemberExpr.{MemberExpr}
use Rattle.swc_ast.specs.declared.expressions.MemberProp.{MemberProp}
use Rattle.swc_ast.specs.declared.expressions.MemberProp.TheVariants as prop
use Rattle.swc_ast.proofs.Places.{at_expr-This, at_expr-Array, at_expr-Object, at_expr-Fn, at_expr-Unary, at_expr-Update, at_expr-Bin, at_expr-Assign, at_expr-Member, at_expr-Cond, at_expr-Call, at_expr-New, at_expr-Ident, at_expr-Tpl, at_expr-Arrow, at_expr-Lit, at_expr-Seq}
use Rattle.swc_ast.proofs.Equations.{arrow_tree-is}

-- a node weighs what it does by itself, at least
heavy : (l : Label) (ss : List Span) (cs : Forest) → 2 ≤ own_weight l cs → 2 ≤ weight (node l ss cs)
heavy l ss cs h = omega arith

by_tree : (e : Expr) (t : Tree) → expr_tree e ≡ t → 2 ≤ weight t → 2 ≤ weight (expr_tree e)
by_tree e t is h = subst (λ u. 2 ≤ weight u) (sym is) h

unary : (o : UnaryOp) (s : Span) (t : Tree) → 2 ≤ weight (unary_node o s t)
unfolding unary_node own_weight
unary op.TypeOf s (node (tree.Read x) ss cs) = heavy (tree.TypeOfName x) (s ∷ ss) cs (omega arith)
unary op.TypeOf s (node l ss cs) = heavy (tree.Unary op.TypeOf) (s ∷ []) (node l ss cs ⊳ ε) (omega arith)
unary o s t = heavy (tree.Unary o) (s ∷ []) (t ⊳ ε) (omega arith)

eval_call : (x : Name) (b : Bool) (s : Span) (ss : List Span) (cs ts : Forest) → 2 ≤ weight (if b then node (tree.CallEval x) (s ∷ ss) ts else node tree.Call (s ∷ []) (node (tree.Read x) ss cs ⊳ ts))
unfolding own_weight
eval_call x true s ss cs ts = heavy (tree.CallEval x) (s ∷ ss) ts (omega arith)
eval_call x false s ss cs ts = heavy tree.Call (s ∷ []) (node (tree.Read x) ss cs ⊳ ts) (omega arith)

call : (s : Span) (t : Tree) (ts : Forest) → 2 ≤ weight (call_node s t ts)
unfolding call_node own_weight
call s (node (tree.Dot k) ss cs) ts = heavy (tree.CallDot k) (s ∷ ss) (then_all cs ts) (omega arith)
call s (node tree.Index ss cs) ts = heavy tree.CallIndex (s ∷ ss) (then_all cs ts) (omega arith)
call s (node (tree.Read x) ss cs) ts = eval_call x (is_eval x) s ss cs ts
call s (node l ss cs) ts = heavy tree.Call (s ∷ []) (node l ss cs ⊳ ts) (omega arith)

update : (o : UpdateOp) (b : Bool) (s : Span) (t : AssignTarget Expr) → 2 ≤ weight (update_node expr_tree o b s t)
unfolding own_weight
update o b s (target.Ident n) = omega arith
update o b s (target.Member n) = by_prop n.prop
  where
    by_prop : (p : MemberProp Expr) → 2 ≤ weight (update_node expr_tree o b s (target.Member (record n { prop = p })))
    by_prop (prop.Ident k) = omega arith
    by_prop (prop.Computed k) = omega arith

assign : (o : AssignOp) (s : Span) (t : AssignTarget Expr) (v : Tree) → 2 ≤ weight (assign_node expr_tree o s t v)
unfolding own_weight
assign o s (target.Ident n) v = omega arith
assign o s (target.Member n) v = by_prop n.prop
  where
    by_prop : (p : MemberProp Expr) → 2 ≤ weight (assign_node expr_tree o s (target.Member (record n { prop = p })) v)
    by_prop (prop.Ident k) = omega arith
    by_prop (prop.Computed k) = omega arith

member : (s : Span) (x : Expr) (p : MemberProp Expr) → 2 ≤ weight (member_node expr_tree s x p)
unfolding own_weight
member s x (prop.Ident k) = omega arith
member s x (prop.Computed k) = omega arith

pub weighs-This : (e : Expr) (n : ThisExpr) → e ≡ in_expr.This n → 2 ≤ weight (expr_tree e)
unfolding own_weight
weighs-This e n is = by_tree e _ (at_expr-This e n is) (omega arith)

pub weighs-Array : (e : Expr) (n : ArrayLit Expr) → e ≡ in_expr.Array n → 2 ≤ weight (expr_tree e)
unfolding own_weight
weighs-Array e n is = by_tree e _ (at_expr-Array e n is) (omega arith)

pub weighs-Object : (e : Expr) (n : ObjectLit PropOrSpread) → e ≡ in_expr.Object n → 2 ≤ weight (expr_tree e)
unfolding own_weight
weighs-Object e n is = by_tree e _ (at_expr-Object e n is) (omega arith)

pub weighs-Fn : (e : Expr) (n : FnExpr Function) → e ≡ in_expr.Fn n → 2 ≤ weight (expr_tree e)
unfolding own_weight
weighs-Fn e n is = by_tree e _ (at_expr-Fn e n is) (omega arith)

pub weighs-Unary : (e : Expr) (n : UnaryExpr Expr) → e ≡ in_expr.Unary n → 2 ≤ weight (expr_tree e)
weighs-Unary e n is = by_tree e _ (at_expr-Unary e n is) (unary n.op n.span (expr_tree n.arg.value))

pub weighs-Update : (e : Expr) (n : Box (UpdateExpr Expr) Global) → e ≡ in_expr.Update n → 2 ≤ weight (expr_tree e)
weighs-Update e n is = by_tree e _ (at_expr-Update e n is) (update n.value.op n.value.prefix n.value.span n.value.arg)

pub weighs-Bin : (e : Expr) (n : BinExpr Expr) → e ≡ in_expr.Bin n → 2 ≤ weight (expr_tree e)
unfolding own_weight
weighs-Bin e n is = by_tree e _ (at_expr-Bin e n is) (omega arith)

pub weighs-Assign : (e : Expr) (n : Box (AssignExpr Expr) Global) → e ≡ in_expr.Assign n → 2 ≤ weight (expr_tree e)
weighs-Assign e n is = by_tree e _ (at_expr-Assign e n is) (assign n.value.op n.value.span n.value.left (expr_tree n.value.right.value))

pub weighs-Member : (e : Expr) (n : MemberExpr Expr) → e ≡ in_expr.Member n → 2 ≤ weight (expr_tree e)
weighs-Member e n is = by_tree e _ (at_expr-Member e n is) (member n.span n.obj.value n.prop)

pub weighs-Cond : (e : Expr) (n : CondExpr Expr) → e ≡ in_expr.Cond n → 2 ≤ weight (expr_tree e)
unfolding own_weight
weighs-Cond e n is = by_tree e _ (at_expr-Cond e n is) (omega arith)

pub weighs-Call : (e : Expr) (n : CallExpr Expr) → e ≡ in_expr.Call n → 2 ≤ weight (expr_tree e)
weighs-Call e n is = by_tree e _ (at_expr-Call e n is) (call n.span (expr_tree n.callee.value) (list_trees expr_tree n.args.items))

pub weighs-New : (e : Expr) (n : NewExpr Expr) → e ≡ in_expr.New n → 2 ≤ weight (expr_tree e)
unfolding own_weight
weighs-New e n is = by_tree e _ (at_expr-New e n is) (omega arith)

pub weighs-Ident : (e : Expr) (n : Ident) → e ≡ in_expr.Ident n → 2 ≤ weight (expr_tree e)
unfolding own_weight
weighs-Ident e n is = by_tree e _ (at_expr-Ident e n is) (omega arith)

pub weighs-Tpl : (e : Expr) (n : Tpl Expr) → e ≡ in_expr.Tpl n → 2 ≤ weight (expr_tree e)
unfolding own_weight
weighs-Tpl e n is = by_tree e _ (at_expr-Tpl e n is) (omega arith)

pub weighs-Arrow : (e : Expr) (n : Box ArrowExpr Global) → e ≡ in_expr.Arrow n → 2 ≤ weight (expr_tree e)
unfolding own_weight
weighs-Arrow e n is = by_tree e _ (at_expr-Arrow e n is ∙ arrow_tree-is n.value) (omega arith)

lit_weight : (n : Lit) → 1 ≤ weight (lit_tree n)
unfolding own_weight
lit_weight (lit.Str n) = omega arith
lit_weight (lit.Bool n) = omega arith
lit_weight (lit.Null n) = omega arith
lit_weight (lit.Num n) = by_value n.value
  where
    by_value : (z : ℤ) → 1 ≤ weight (leaf (tree.NumLit z) n.span)
    by_value (pos zero) = omega arith
    by_value (pos (suc k)) = omega arith
    by_value (negsuc k) = omega arith

-- a literal that isn't 0
lit_heavy : (n : Lit) → is_zero (lit_tree n) ≡ false → 2 ≤ weight (lit_tree n)
unfolding own_weight
lit_heavy (lit.Str n) h = omega arith
lit_heavy (lit.Bool n) h = omega arith
lit_heavy (lit.Null n) h = omega arith
lit_heavy (lit.Num n) h = by_value n.value h
  where
    by_value : (z : ℤ) → is_zero (leaf (tree.NumLit z) n.span) ≡ false → 2 ≤ weight (leaf (tree.NumLit z) n.span)
    by_value (pos zero) h = cc
    by_value (pos (suc k)) h = omega arith
    by_value (negsuc k) h = omega arith

pub weighs-Lit : (e : Expr) (n : Lit) → e ≡ in_expr.Lit n → 1 ≤ weight (expr_tree e)
weighs-Lit e n is = subst (λ t. 1 ≤ weight t) (sym (at_expr-Lit e n is)) (lit_weight n)

pub heavy_literal : (e : Expr) (n : Lit) → e ≡ in_expr.Lit n → is_zero (expr_tree e) ≡ false → 2 ≤ weight (expr_tree e)
heavy_literal e n is h = by_tree e (lit_tree n) (at_expr-Lit e n is) (lit_heavy n (sym (ap is_zero (at_expr-Lit e n is)) ∙ h))

pub weighs-Seq : (e : Expr) (n : SeqExpr Expr) → e ≡ in_expr.Seq n → 1 ≤ weight (expr_tree e)
unfolding own_weight
weighs-Seq e n is = subst (λ t. 1 ≤ weight t) (sym (at_expr-Seq e n is)) (omega arith)

first_weighs : (xs : List Expr) (x : Expr) → 1 ≤ length xs → x ≡ get_or xs 0 x → 1 ≤ weight (expr_tree x) → 1 ≤ weight_all (list_trees expr_tree xs)
first_weighs [] x l is h = absurd (omega (arith, l))
first_weighs (y ∷ ys) x l is h = let k : 1 ≤ weight (expr_tree y) = subst (λ z. 1 ≤ weight (expr_tree z)) is h in omega (arith, k)

seq_weighs : (n : SeqExpr Expr) → 1 ≤ weight_all (list_trees expr_tree n.exprs.items) → 2 ≤ weight (seq_tree expr_tree n)
unfolding own_weight
seq_weighs n h = omega (arith, h)

-- a sequence of something
pub heavy_sequence : (e : Expr) (n : SeqExpr Expr) (xs : List Expr) (x : Expr) → e ≡ in_expr.Seq n → xs ≡ n.exprs.items → 1 ≤ length xs → x ≡ get_or xs 0 x → 1 ≤ weight (expr_tree x) → 2 ≤ weight (expr_tree e)
heavy_sequence e n xs x is all l at h = by_tree e (seq_tree expr_tree n) (at_expr-Seq e n is) (seq_weighs n (subst (λ ys. 1 ≤ weight_all (list_trees expr_tree ys)) all (first_weighs xs x l at h)))

pub ruleset weights = (
  weighs-This,
  weighs-Array,
  weighs-Object,
  weighs-Fn,
  weighs-Unary,
  weighs-Update,
  weighs-Bin,
  weighs-Assign,
  weighs-Member,
  weighs-Cond,
  weighs-Call,
  weighs-New,
  weighs-Ident,
  weighs-Tpl,
  weighs-Arrow,
  weighs-Lit,
  weighs-Seq,
)
