-- Expressions of two variants have different trees.
use Rattle.std.proofs.Common.{◌≡◌, refl, sym, ap, ◌∙◌, Bool, true, false, ◌==◌}
use Rattle.std.specs.Prelude.{ℕ, [], ◌∷◌, if◌then◌else◌}
use Rattle.swc_ast.specs.Tree as tree
use Rattle.swc_ast.specs.Tree.{Label, Tree, node, Forest, ◌⊳◌, label_of}
use Rattle.swc_ast.specs.Parts.{lit_tree, list_trees}
use Rattle.swc_ast.specs.Expressions.{unary_node, update_node, member_update, assign_node, member_assign, member_node, call_node, is_eval}
use Rattle.swc_ast.specs.Same.{same}
use Rattle.swc_ast.specs.Views.{expr_tree}
use Rattle.swc_ast.proofs.Labels.{differ}
use Rattle.swc_ast.proofs.Equations.{expr_tree-This, expr_tree-Array, expr_tree-Object, expr_tree-Fn, expr_tree-Unary, expr_tree-Update, expr_tree-Bin, expr_tree-Assign, expr_tree-Member, expr_tree-Cond, expr_tree-Call, expr_tree-New, expr_tree-Seq, expr_tree-Ident, expr_tree-Lit, expr_tree-Tpl, expr_tree-Arrow, expr_tree-Invalid, arrow_tree-is}
use Rattle.swc_ast.specs.declared.declarations.Decl.TheViews.{roll-Expr, out-Expr, roll-out-Expr}
use Rattle.swc_ast.specs.declared.expressions.Expr.TheVariants as in_expr
use Rattle.swc_ast.specs.declared.expressions.AssignTarget.{AssignTarget}
use Rattle.swc_ast.specs.declared.expressions.AssignTarget.TheVariants as target
use Rattle.swc_ast.specs.declared.expressions.MemberProp.{MemberProp}
use Rattle.swc_ast.specs.declared.expressions.MemberProp.TheVariants as prop
use Rattle.swc_ast.specs.declared.literals.Lit.{Lit}
use Rattle.swc_ast.specs.declared.literals.Lit.TheVariants as lit
use Rattle.swc_ast.specs.declared.AssignOp.{AssignOp}
use Rattle.swc_ast.specs.declared.UnaryOp.{UnaryOp}
use Rattle.swc_ast.specs.declared.UnaryOp.TheVariants as op
use Rattle.swc_ast.specs.declared.UpdateOp.{UpdateOp}
use Rattle.swc_ast.specs.declared.Span.{Span}
use Rattle.swc_ast.specs.declared.declarations.Decl.TheOpen as Open
use Rattle.swc_ast.specs.declared.declarations.Decl.{Decl}
use Rattle.swc_ast.specs.declared.declarations.Function.{Function}
use Rattle.swc_ast.specs.declared.expressions.ArrowExpr.{ArrowExpr}
use Rattle.swc_ast.specs.declared.expressions.BlockStmtOrExpr.{BlockStmtOrExpr}
use Rattle.swc_ast.specs.declared.expressions.Expr.{Expr}
use Rattle.swc_ast.specs.declared.expressions.MethodProp.{MethodProp}
use Rattle.swc_ast.specs.declared.expressions.Prop.{Prop}
use Rattle.swc_ast.specs.declared.expressions.PropOrSpread.{PropOrSpread}
use Rattle.swc_ast.specs.declared.statements.ForStmt.{ForStmt}
use Rattle.swc_ast.specs.declared.statements.IfStmt.{IfStmt}
use Rattle.swc_ast.specs.declared.statements.SwitchCase.{SwitchCase}
use Rattle.swc_ast.specs.declared.statements.SwitchStmt.{SwitchStmt}
use Rattle.swc_ast.specs.declared.statements.WhileStmt.{WhileStmt}
use Rattle.swc_ast.specs.declared.statements.Stmt.{Stmt}

-- which expression a label_of is of, by number
abbrev pub expr_form : Label → ℕ
expr_form tree.This = 1
expr_form (tree.Array _) = 2
expr_form tree.Object = 3
expr_form (tree.Fn _) = 4
expr_form (tree.Unary _) = 5
expr_form (tree.TypeOfName _) = 5
expr_form (tree.Update _ _ _) = 6
expr_form (tree.UpdateDot _ _ _) = 6
expr_form (tree.UpdateIndex _ _) = 6
expr_form (tree.Binary _) = 7
expr_form (tree.Assign _ _) = 8
expr_form (tree.AssignDot _ _) = 8
expr_form (tree.AssignIndex _) = 8
expr_form (tree.Dot _) = 9
expr_form tree.Index = 9
expr_form tree.Cond = 10
expr_form tree.Call = 11
expr_form (tree.CallEval _) = 11
expr_form (tree.CallDot _) = 11
expr_form tree.CallIndex = 11
expr_form tree.New = 12
expr_form tree.Seq = 13
expr_form (tree.Read _) = 14
expr_form (tree.NumLit _) = 15
expr_form (tree.StrLit _) = 15
expr_form (tree.BoolLit _) = 15
expr_form tree.NullLit = 15
expr_form (tree.Template _) = 16
expr_form tree.Arrow = 17
expr_form tree.Invalid = 18
expr_form _ = 0

abbrev pub ExprForm : Type 0
ExprForm = Open.Expr-F Decl BlockStmtOrExpr Expr Prop PropOrSpread Stmt Function ArrowExpr MethodProp ForStmt IfStmt SwitchCase SwitchStmt WhileStmt

abbrev pub expr_number : ExprForm → ℕ
expr_number (Open.This n) = 1
expr_number (Open.Array n) = 2
expr_number (Open.Object n) = 3
expr_number (Open.Expr::Fn n) = 4
expr_number (Open.Unary n) = 5
expr_number (Open.Update n) = 6
expr_number (Open.Bin n) = 7
expr_number (Open.Assign n) = 8
expr_number (Open.Member n) = 9
expr_number (Open.Cond n) = 10
expr_number (Open.Call n) = 11
expr_number (Open.New n) = 12
expr_number (Open.Seq n) = 13
expr_number (Open.Ident n) = 14
expr_number (Open.Lit n) = 15
expr_number (Open.Tpl n) = 16
expr_number (Open.Arrow n) = 17
expr_number (Open.Invalid n) = 18

unary_at : (o : UnaryOp) (s : Span) (t : Tree) → expr_form (label_of (unary_node o s t)) ≡ 5
unfolding unary_node
unary_at op.TypeOf s (node (tree.Read x) ss cs) = refl
unary_at op.TypeOf s (node _ ss cs) = refl
unary_at _ s t = refl

update_at : (o : UpdateOp) (b : Bool) (s : Span) (t : AssignTarget Expr) → expr_form (label_of (update_node expr_tree o b s t)) ≡ 6
update_at o b s (target.Ident n) = refl
update_at o b s (target.Member n) = by n.prop
  where
    by : (p : MemberProp Expr) → expr_form (label_of (member_update expr_tree o b s n.span n.obj.value p)) ≡ 6
    by (prop.Ident i) = refl
    by (prop.Computed c) = refl

assign_at : (o : AssignOp) (s : Span) (t : AssignTarget Expr) (v : Tree) → expr_form (label_of (assign_node expr_tree o s t v)) ≡ 8
assign_at o s (target.Ident n) v = refl
assign_at o s (target.Member n) v = by n.prop
  where
    by : (p : MemberProp Expr) → expr_form (label_of (member_assign expr_tree o s n.span n.obj.value p v)) ≡ 8
    by (prop.Ident i) = refl
    by (prop.Computed c) = refl

member_at : (s : Span) (o : Expr) (p : MemberProp Expr) → expr_form (label_of (member_node expr_tree s o p)) ≡ 9
member_at s o (prop.Ident i) = refl
member_at s o (prop.Computed c) = refl

call_at : (s : Span) (t : Tree) (args : Forest) → expr_form (label_of (call_node s t args)) ≡ 11
unfolding call_node
call_at s (node (tree.Dot k) ss cs) args = refl
call_at s (node tree.Index ss cs) args = refl
call_at s (node (tree.Read x) ss cs) args = by (is_eval x)
  where
    by : (e : Bool) → expr_form (label_of (if e then node (tree.CallEval x) (s ∷ ss) args else node tree.Call (s ∷ []) (node (tree.Read x) ss cs ⊳ args))) ≡ 11
    by true = refl
    by false = refl
call_at s t args = refl

lit_at : (n : Lit) → expr_form (label_of (lit_tree n)) ≡ 15
lit_at (lit.Str n) = refl
lit_at (lit.Bool n) = refl
lit_at (lit.Null n) = refl
lit_at (lit.Num n) = refl

pub expr_at : (o : ExprForm) → expr_form (label_of (expr_tree (roll-Expr o))) ≡ expr_number o
expr_at (Open.This n) = ap (λ t. expr_form (label_of t)) (ap expr_tree (in_expr.rolls-This n) ∙ expr_tree-This n)
expr_at (Open.Array n) = ap (λ t. expr_form (label_of t)) (ap expr_tree (in_expr.rolls-Array n) ∙ expr_tree-Array n)
expr_at (Open.Object n) = ap (λ t. expr_form (label_of t)) (ap expr_tree (in_expr.rolls-Object n) ∙ expr_tree-Object n)
expr_at (Open.Expr::Fn n) = ap (λ t. expr_form (label_of t)) (ap expr_tree (in_expr.rolls-Fn n) ∙ expr_tree-Fn n)
expr_at (Open.Unary n) = ap (λ t. expr_form (label_of t)) (ap expr_tree (in_expr.rolls-Unary n) ∙ expr_tree-Unary n) ∙ unary_at n.op n.span (expr_tree n.arg.value)
expr_at (Open.Update n) = ap (λ t. expr_form (label_of t)) (ap expr_tree (in_expr.rolls-Update n) ∙ expr_tree-Update n) ∙ update_at n.value.op n.value.prefix n.value.span n.value.arg
expr_at (Open.Bin n) = ap (λ t. expr_form (label_of t)) (ap expr_tree (in_expr.rolls-Bin n) ∙ expr_tree-Bin n)
expr_at (Open.Assign n) = ap (λ t. expr_form (label_of t)) (ap expr_tree (in_expr.rolls-Assign n) ∙ expr_tree-Assign n) ∙ assign_at n.value.op n.value.span n.value.left (expr_tree n.value.right.value)
expr_at (Open.Member n) = ap (λ t. expr_form (label_of t)) (ap expr_tree (in_expr.rolls-Member n) ∙ expr_tree-Member n) ∙ member_at n.span n.obj.value n.prop
expr_at (Open.Cond n) = ap (λ t. expr_form (label_of t)) (ap expr_tree (in_expr.rolls-Cond n) ∙ expr_tree-Cond n)
expr_at (Open.Call n) = ap (λ t. expr_form (label_of t)) (ap expr_tree (in_expr.rolls-Call n) ∙ expr_tree-Call n) ∙ call_at n.span (expr_tree n.callee.value) (list_trees expr_tree n.args.items)
expr_at (Open.New n) = ap (λ t. expr_form (label_of t)) (ap expr_tree (in_expr.rolls-New n) ∙ expr_tree-New n)
expr_at (Open.Seq n) = ap (λ t. expr_form (label_of t)) (ap expr_tree (in_expr.rolls-Seq n) ∙ expr_tree-Seq n)
expr_at (Open.Ident n) = ap (λ t. expr_form (label_of t)) (ap expr_tree (in_expr.rolls-Ident n) ∙ expr_tree-Ident n)
expr_at (Open.Lit n) = ap (λ t. expr_form (label_of t)) (ap expr_tree (in_expr.rolls-Lit n) ∙ expr_tree-Lit n) ∙ lit_at n
expr_at (Open.Tpl n) = ap (λ t. expr_form (label_of t)) (ap expr_tree (in_expr.rolls-Tpl n) ∙ expr_tree-Tpl n)
expr_at (Open.Arrow n) = ap (λ t. expr_form (label_of t)) (ap expr_tree (in_expr.rolls-Arrow n) ∙ expr_tree-Arrow n ∙ arrow_tree-is n.value)
expr_at (Open.Invalid n) = ap (λ t. expr_form (label_of t)) (ap expr_tree (in_expr.rolls-Invalid n) ∙ expr_tree-Invalid n)

pub expr_apart : (s : Bool) (o p : ExprForm) (a b : Expr) → roll-Expr o ≡ a → roll-Expr p ≡ b → (expr_number o == expr_number p) ≡ false → false ≡ same s (expr_tree a) (expr_tree b)
expr_apart s o p a b at_a at_b = differ expr_form s (expr_tree a) (expr_tree b) (expr_number o) (expr_number p) (ap (λ e. expr_form (label_of (expr_tree e))) (sym at_a) ∙ expr_at o) (ap (λ e. expr_form (label_of (expr_tree e))) (sym at_b) ∙ expr_at p)

pub other_expr-This : (s : Bool) (a b : Expr) (x : _) → a ≡ in_expr.This x → ((y : _) → b ≡ in_expr.This y → ⊥) → false ≡ same s (expr_tree a) (expr_tree b)
other_expr-This s a b x is others = by (out-Expr b) (roll-out-Expr b)
  where
    by : (p : ExprForm) → roll-Expr p ≡ b → false ≡ same s (expr_tree a) (expr_tree b)
    by (Open.This y) r = absurd (others y (sym r ∙ in_expr.rolls-This y))
    by p r = expr_apart s (Open.This x) p a b (in_expr.rolls-This x ∙ sym is) r refl

pub other_expr-Array : (s : Bool) (a b : Expr) (x : _) → a ≡ in_expr.Array x → ((y : _) → b ≡ in_expr.Array y → ⊥) → false ≡ same s (expr_tree a) (expr_tree b)
other_expr-Array s a b x is others = by (out-Expr b) (roll-out-Expr b)
  where
    by : (p : ExprForm) → roll-Expr p ≡ b → false ≡ same s (expr_tree a) (expr_tree b)
    by (Open.Array y) r = absurd (others y (sym r ∙ in_expr.rolls-Array y))
    by p r = expr_apart s (Open.Array x) p a b (in_expr.rolls-Array x ∙ sym is) r refl

pub other_expr-Object : (s : Bool) (a b : Expr) (x : _) → a ≡ in_expr.Object x → ((y : _) → b ≡ in_expr.Object y → ⊥) → false ≡ same s (expr_tree a) (expr_tree b)
other_expr-Object s a b x is others = by (out-Expr b) (roll-out-Expr b)
  where
    by : (p : ExprForm) → roll-Expr p ≡ b → false ≡ same s (expr_tree a) (expr_tree b)
    by (Open.Object y) r = absurd (others y (sym r ∙ in_expr.rolls-Object y))
    by p r = expr_apart s (Open.Object x) p a b (in_expr.rolls-Object x ∙ sym is) r refl

pub other_expr-Fn : (s : Bool) (a b : Expr) (x : _) → a ≡ in_expr.Fn x → ((y : _) → b ≡ in_expr.Fn y → ⊥) → false ≡ same s (expr_tree a) (expr_tree b)
other_expr-Fn s a b x is others = by (out-Expr b) (roll-out-Expr b)
  where
    by : (p : ExprForm) → roll-Expr p ≡ b → false ≡ same s (expr_tree a) (expr_tree b)
    by (Open.Expr::Fn y) r = absurd (others y (sym r ∙ in_expr.rolls-Fn y))
    by p r = expr_apart s (Open.Expr::Fn x) p a b (in_expr.rolls-Fn x ∙ sym is) r refl

pub other_expr-Unary : (s : Bool) (a b : Expr) (x : _) → a ≡ in_expr.Unary x → ((y : _) → b ≡ in_expr.Unary y → ⊥) → false ≡ same s (expr_tree a) (expr_tree b)
other_expr-Unary s a b x is others = by (out-Expr b) (roll-out-Expr b)
  where
    by : (p : ExprForm) → roll-Expr p ≡ b → false ≡ same s (expr_tree a) (expr_tree b)
    by (Open.Unary y) r = absurd (others y (sym r ∙ in_expr.rolls-Unary y))
    by p r = expr_apart s (Open.Unary x) p a b (in_expr.rolls-Unary x ∙ sym is) r refl

pub other_expr-Update : (s : Bool) (a b : Expr) (x : _) → a ≡ in_expr.Update x → ((y : _) → b ≡ in_expr.Update y → ⊥) → false ≡ same s (expr_tree a) (expr_tree b)
other_expr-Update s a b x is others = by (out-Expr b) (roll-out-Expr b)
  where
    by : (p : ExprForm) → roll-Expr p ≡ b → false ≡ same s (expr_tree a) (expr_tree b)
    by (Open.Update y) r = absurd (others y (sym r ∙ in_expr.rolls-Update y))
    by p r = expr_apart s (Open.Update x) p a b (in_expr.rolls-Update x ∙ sym is) r refl

pub other_expr-Bin : (s : Bool) (a b : Expr) (x : _) → a ≡ in_expr.Bin x → ((y : _) → b ≡ in_expr.Bin y → ⊥) → false ≡ same s (expr_tree a) (expr_tree b)
other_expr-Bin s a b x is others = by (out-Expr b) (roll-out-Expr b)
  where
    by : (p : ExprForm) → roll-Expr p ≡ b → false ≡ same s (expr_tree a) (expr_tree b)
    by (Open.Bin y) r = absurd (others y (sym r ∙ in_expr.rolls-Bin y))
    by p r = expr_apart s (Open.Bin x) p a b (in_expr.rolls-Bin x ∙ sym is) r refl

pub other_expr-Assign : (s : Bool) (a b : Expr) (x : _) → a ≡ in_expr.Assign x → ((y : _) → b ≡ in_expr.Assign y → ⊥) → false ≡ same s (expr_tree a) (expr_tree b)
other_expr-Assign s a b x is others = by (out-Expr b) (roll-out-Expr b)
  where
    by : (p : ExprForm) → roll-Expr p ≡ b → false ≡ same s (expr_tree a) (expr_tree b)
    by (Open.Assign y) r = absurd (others y (sym r ∙ in_expr.rolls-Assign y))
    by p r = expr_apart s (Open.Assign x) p a b (in_expr.rolls-Assign x ∙ sym is) r refl

pub other_expr-Member : (s : Bool) (a b : Expr) (x : _) → a ≡ in_expr.Member x → ((y : _) → b ≡ in_expr.Member y → ⊥) → false ≡ same s (expr_tree a) (expr_tree b)
other_expr-Member s a b x is others = by (out-Expr b) (roll-out-Expr b)
  where
    by : (p : ExprForm) → roll-Expr p ≡ b → false ≡ same s (expr_tree a) (expr_tree b)
    by (Open.Member y) r = absurd (others y (sym r ∙ in_expr.rolls-Member y))
    by p r = expr_apart s (Open.Member x) p a b (in_expr.rolls-Member x ∙ sym is) r refl

pub other_expr-Cond : (s : Bool) (a b : Expr) (x : _) → a ≡ in_expr.Cond x → ((y : _) → b ≡ in_expr.Cond y → ⊥) → false ≡ same s (expr_tree a) (expr_tree b)
other_expr-Cond s a b x is others = by (out-Expr b) (roll-out-Expr b)
  where
    by : (p : ExprForm) → roll-Expr p ≡ b → false ≡ same s (expr_tree a) (expr_tree b)
    by (Open.Cond y) r = absurd (others y (sym r ∙ in_expr.rolls-Cond y))
    by p r = expr_apart s (Open.Cond x) p a b (in_expr.rolls-Cond x ∙ sym is) r refl

pub other_expr-Call : (s : Bool) (a b : Expr) (x : _) → a ≡ in_expr.Call x → ((y : _) → b ≡ in_expr.Call y → ⊥) → false ≡ same s (expr_tree a) (expr_tree b)
other_expr-Call s a b x is others = by (out-Expr b) (roll-out-Expr b)
  where
    by : (p : ExprForm) → roll-Expr p ≡ b → false ≡ same s (expr_tree a) (expr_tree b)
    by (Open.Call y) r = absurd (others y (sym r ∙ in_expr.rolls-Call y))
    by p r = expr_apart s (Open.Call x) p a b (in_expr.rolls-Call x ∙ sym is) r refl

pub other_expr-New : (s : Bool) (a b : Expr) (x : _) → a ≡ in_expr.New x → ((y : _) → b ≡ in_expr.New y → ⊥) → false ≡ same s (expr_tree a) (expr_tree b)
other_expr-New s a b x is others = by (out-Expr b) (roll-out-Expr b)
  where
    by : (p : ExprForm) → roll-Expr p ≡ b → false ≡ same s (expr_tree a) (expr_tree b)
    by (Open.New y) r = absurd (others y (sym r ∙ in_expr.rolls-New y))
    by p r = expr_apart s (Open.New x) p a b (in_expr.rolls-New x ∙ sym is) r refl

pub other_expr-Seq : (s : Bool) (a b : Expr) (x : _) → a ≡ in_expr.Seq x → ((y : _) → b ≡ in_expr.Seq y → ⊥) → false ≡ same s (expr_tree a) (expr_tree b)
other_expr-Seq s a b x is others = by (out-Expr b) (roll-out-Expr b)
  where
    by : (p : ExprForm) → roll-Expr p ≡ b → false ≡ same s (expr_tree a) (expr_tree b)
    by (Open.Seq y) r = absurd (others y (sym r ∙ in_expr.rolls-Seq y))
    by p r = expr_apart s (Open.Seq x) p a b (in_expr.rolls-Seq x ∙ sym is) r refl

pub other_expr-Ident : (s : Bool) (a b : Expr) (x : _) → a ≡ in_expr.Ident x → ((y : _) → b ≡ in_expr.Ident y → ⊥) → false ≡ same s (expr_tree a) (expr_tree b)
other_expr-Ident s a b x is others = by (out-Expr b) (roll-out-Expr b)
  where
    by : (p : ExprForm) → roll-Expr p ≡ b → false ≡ same s (expr_tree a) (expr_tree b)
    by (Open.Ident y) r = absurd (others y (sym r ∙ in_expr.rolls-Ident y))
    by p r = expr_apart s (Open.Ident x) p a b (in_expr.rolls-Ident x ∙ sym is) r refl

pub other_expr-Lit : (s : Bool) (a b : Expr) (x : _) → a ≡ in_expr.Lit x → ((y : _) → b ≡ in_expr.Lit y → ⊥) → false ≡ same s (expr_tree a) (expr_tree b)
other_expr-Lit s a b x is others = by (out-Expr b) (roll-out-Expr b)
  where
    by : (p : ExprForm) → roll-Expr p ≡ b → false ≡ same s (expr_tree a) (expr_tree b)
    by (Open.Lit y) r = absurd (others y (sym r ∙ in_expr.rolls-Lit y))
    by p r = expr_apart s (Open.Lit x) p a b (in_expr.rolls-Lit x ∙ sym is) r refl

pub other_expr-Tpl : (s : Bool) (a b : Expr) (x : _) → a ≡ in_expr.Tpl x → ((y : _) → b ≡ in_expr.Tpl y → ⊥) → false ≡ same s (expr_tree a) (expr_tree b)
other_expr-Tpl s a b x is others = by (out-Expr b) (roll-out-Expr b)
  where
    by : (p : ExprForm) → roll-Expr p ≡ b → false ≡ same s (expr_tree a) (expr_tree b)
    by (Open.Tpl y) r = absurd (others y (sym r ∙ in_expr.rolls-Tpl y))
    by p r = expr_apart s (Open.Tpl x) p a b (in_expr.rolls-Tpl x ∙ sym is) r refl

pub other_expr-Arrow : (s : Bool) (a b : Expr) (x : _) → a ≡ in_expr.Arrow x → ((y : _) → b ≡ in_expr.Arrow y → ⊥) → false ≡ same s (expr_tree a) (expr_tree b)
other_expr-Arrow s a b x is others = by (out-Expr b) (roll-out-Expr b)
  where
    by : (p : ExprForm) → roll-Expr p ≡ b → false ≡ same s (expr_tree a) (expr_tree b)
    by (Open.Arrow y) r = absurd (others y (sym r ∙ in_expr.rolls-Arrow y))
    by p r = expr_apart s (Open.Arrow x) p a b (in_expr.rolls-Arrow x ∙ sym is) r refl

pub other_expr-Invalid : (s : Bool) (a b : Expr) (x : _) → a ≡ in_expr.Invalid x → ((y : _) → b ≡ in_expr.Invalid y → ⊥) → false ≡ same s (expr_tree a) (expr_tree b)
other_expr-Invalid s a b x is others = by (out-Expr b) (roll-out-Expr b)
  where
    by : (p : ExprForm) → roll-Expr p ≡ b → false ≡ same s (expr_tree a) (expr_tree b)
    by (Open.Invalid y) r = absurd (others y (sym r ∙ in_expr.rolls-Invalid y))
    by p r = expr_apart s (Open.Invalid x) p a b (in_expr.rolls-Invalid x ∙ sym is) r refl

some_form : (o : ExprForm) → (0 == expr_number o) ≡ false
some_form (Open.This n) = refl
some_form o = refl

-- an expression and a tree that no expression has
pub no_expr : (s : Bool) (t : Tree) (e : Expr) → expr_form (label_of t) ≡ 0 → false ≡ same s t (expr_tree e)
no_expr s t e none = differ expr_form s t (expr_tree e) 0 (expr_number (out-Expr e)) none (ap (λ x. expr_form (label_of (expr_tree x))) (sym (roll-out-Expr e)) ∙ expr_at (out-Expr e)) (some_form (out-Expr e))

some_form-2 : (o : ExprForm) → (expr_number o == 0) ≡ false
some_form-2 (Open.This n) = refl
some_form-2 o = refl

pub no_expr-2 : (s : Bool) (e : Expr) (t : Tree) → expr_form (label_of t) ≡ 0 → false ≡ same s (expr_tree e) t
no_expr-2 s e t none = differ expr_form s (expr_tree e) t (expr_number (out-Expr e)) 0 (ap (λ x. expr_form (label_of (expr_tree x))) (sym (roll-out-Expr e)) ∙ expr_at (out-Expr e)) none (some_form-2 (out-Expr e))
