-- A name or a member that is part of the node round it: an operand of `typeof` and a callee.
use Rattle.std.proofs.Common.{◌≡◌, Bool, true, false, refl, sym, ap, ◌∙◌, List, [], ◌∷◌}
use Rattle.std.proofs.lemmas.Bool.{false≢true}
use Rattle.std.specs.Prelude.{if◌then◌else◌}
use Rattle.swc_ast.specs.Labels.{is_member_or_name}
use Rattle.swc_ast.specs.Tree as tree
use Rattle.swc_ast.specs.Tree.{Name, Tree, node, Forest, ε, ◌⊳◌, label_of, children_of}
use Rattle.swc_ast.specs.Parts.{ident_name, ident_tree, list_trees, word_text}
use Rattle.swc_ast.specs.Expressions.{is_eval, call_node, call_tree, unary_node, unary_tree, member_node, member_tree}
use Rattle.swc_ast.specs.Views.{expr_tree}
use Rattle.swc_ast.specs.declared.Span.{Span}
use Rattle.swc_ast.specs.declared.UnaryOp.{UnaryOp}
use Rattle.swc_ast.specs.declared.UnaryOp.TheVariants as op
use Rattle.swc_ast.specs.declared.names.Ident.{Ident}
use Rattle.swc_ast.specs.declared.expressions.CallExpr.{CallExpr}
use Rattle.swc_ast.specs.declared.expressions.Expr.{Expr}
use Rattle.swc_ast.specs.declared.expressions.UnaryExpr.{UnaryExpr}
use Rattle.swc_ast.specs.declared.expressions.MemberExpr.{MemberExpr}
use Rattle.swc_ast.specs.declared.expressions.MemberProp.{MemberProp}
use Rattle.swc_ast.specs.declared.expressions.MemberProp.TheVariants as prop
use Rattle.swc_ast.specs.declared.expressions.ComputedPropName.{ComputedPropName}
use Rattle.swc_ast.specs.declared.names.IdentName.{IdentName}
use Rattle.tree_visit.specs.declared.opened.Opened.{Opened}
use Rattle.tree_visit.specs.Kinds.{kind_label}
use Rattle.tree_visit.specs.Nodes.{Opens, children_forest}

either_call : (x : Name) (b : Bool) (s : Span) (ss : List Span) (cs ts : Forest) → is_member_or_name (label_of (if b then node (tree.CallEval x) (s ∷ ss) ts else node tree.Call (s ∷ []) (node (tree.Read x) ss cs ⊳ ts))) ≡ false
either_call x true s ss cs ts = refl
either_call x false s ss cs ts = refl

pub call_no_part : (s : Span) (t : Tree) (ts : Forest) → is_member_or_name (label_of (call_node s t ts)) ≡ false
unfolding call_node
call_no_part s (node (tree.Dot k) ss cs) ts = refl
call_no_part s (node tree.Index ss cs) ts = refl
call_no_part s (node (tree.Read x) ss cs) ts = either_call x (is_eval x) s ss cs ts
call_no_part s (node l ss cs) ts = refl

pub unary_no_part : (o : UnaryOp) (s : Span) (t : Tree) → is_member_or_name (label_of (unary_node o s t)) ≡ false
unfolding unary_node
unary_no_part op.TypeOf s (node (tree.Read x) ss cs) = refl
unary_no_part op.TypeOf s (node l ss cs) = refl
unary_no_part o s t = refl

abbrev pub is_read_label : tree.Label → Bool
is_read_label (tree.Read x) = true
is_read_label _ = false

-- an operand that is part of the label of its operator's node
abbrev pub hides : UnaryOp → Tree → Bool
hides op.TypeOf t = is_read_label (label_of t)
hides o t = false

whole_unread : (t : Tree) → is_member_or_name (label_of t) ≡ false → is_read_label (label_of t) ≡ false
whole_unread (node (tree.Read x) ss cs) h = absurd (false≢true (sym h))
whole_unread (node l ss cs) h = refl

member_unread : (s : Span) (x : Expr) (p : MemberProp Expr) → is_read_label (label_of (member_node expr_tree s x p)) ≡ false
member_unread s x (prop.Ident k) = refl
member_unread s x (prop.Computed k) = refl

unread : (o : UnaryOp) (t : Tree) → is_read_label (label_of t) ≡ false → hides o t ≡ false
unread op.TypeOf t h = h
unread o t h = refl

pub whole_hides : (o : UnaryOp) (t : Tree) → is_member_or_name (label_of t) ≡ false → hides o t ≡ false
whole_hides o t h = unread o t (whole_unread t h)

pub member_hides : (o : UnaryOp) (t : Tree) (m : MemberExpr Expr) → t ≡ member_tree expr_tree m → hides o t ≡ false
member_hides o t m is = unread o t (ap (λ u. is_read_label (label_of u)) is ∙ member_unread m.span m.obj.value m.prop)

operand_opens : (o : UnaryOp) (s : Span) (t : Tree) (r : Opened) → hides o t ≡ false → Opens (node (tree.Unary o) [] (t ⊳ ε)) r → Opens (unary_node o s t) r
unfolding unary_node
operand_opens op.TypeOf s (node (tree.Read x) ss cs) r h p = absurd (false≢true (sym h))
operand_opens op.TypeOf s (node l ss cs) r h p = p
operand_opens o s t r h p = p

typeof_name : (o : UnaryOp) (s : Span) (t : Tree) (i : Ident) → o ≡ op.TypeOf → t ≡ ident_tree i → unary_node o s t ≡ node (tree.TypeOfName (ident_name i)) (s ∷ i.span ∷ []) ε
unfolding unary_node
typeof_name o s t i typed is = ap (λ p. unary_node p s t) typed ∙ ap (λ u. unary_node op.TypeOf s u) is

call_whole : (s : Span) (t : Tree) (ts : Forest) → is_member_or_name (label_of t) ≡ false → call_node s t ts ≡ node tree.Call (s ∷ []) (t ⊳ ts)
unfolding call_node
call_whole s (node (tree.Dot k) ss cs) ts h = absurd (false≢true (sym h))
call_whole s (node tree.Index ss cs) ts h = absurd (false≢true (sym h))
call_whole s (node (tree.Read x) ss cs) ts h = absurd (false≢true (sym h))
call_whole s (node l ss cs) ts h = refl

at_name : (s : Span) (i : Ident) (ts : Forest) → call_node s (ident_tree i) ts ≡ (if is_eval (ident_name i) then node (tree.CallEval (ident_name i)) (s ∷ i.span ∷ []) ts else node tree.Call (s ∷ []) (ident_tree i ⊳ ts))
unfolding call_node
at_name s i ts = refl

call_eval : (s : Span) (t : Tree) (ts : Forest) (i : Ident) → t ≡ ident_tree i → is_eval (ident_name i) ≡ true → call_node s t ts ≡ node (tree.CallEval (ident_name i)) (s ∷ i.span ∷ []) ts
call_eval s t ts i is h = ap (λ u. call_node s u ts) is ∙ at_name s i ts ∙ ap (λ b. if b then node (tree.CallEval (ident_name i)) (s ∷ i.span ∷ []) ts else node tree.Call (s ∷ []) (ident_tree i ⊳ ts)) h

call_name : (s : Span) (t : Tree) (ts : Forest) (i : Ident) → t ≡ ident_tree i → is_eval (ident_name i) ≡ false → call_node s t ts ≡ node tree.Call (s ∷ []) (t ⊳ ts)
call_name s t ts i is h = ap (λ u. call_node s u ts) is ∙ at_name s i ts ∙ ap (λ b. if b then node (tree.CallEval (ident_name i)) (s ∷ i.span ∷ []) ts else node tree.Call (s ∷ []) (ident_tree i ⊳ ts)) h ∙ ap (λ u. node tree.Call (s ∷ []) (u ⊳ ts)) (sym is)

at_dot : (s m : Span) (x : Expr) (k : IdentName) (ts : Forest) → call_node s (member_node expr_tree m x (prop.Ident k)) ts ≡ node (tree.CallDot (word_text k)) (s ∷ m ∷ k.span ∷ []) (expr_tree x ⊳ ts)
unfolding call_node
at_dot s m x k ts = refl

at_index : (s m : Span) (x : Expr) (k : ComputedPropName Expr) (ts : Forest) → call_node s (member_node expr_tree m x (prop.Computed k)) ts ≡ node tree.CallIndex (s ∷ m ∷ k.span ∷ []) (expr_tree x ⊳ expr_tree k.expr.value ⊳ ts)
unfolding call_node
at_index s m x k ts = refl

call_dot : (s : Span) (t : Tree) (ts : Forest) (m : MemberExpr Expr) (k : IdentName) → t ≡ member_tree expr_tree m → m.prop ≡ prop.Ident k → call_node s t ts ≡ node (tree.CallDot (word_text k)) (s ∷ m.span ∷ k.span ∷ []) (expr_tree m.obj.value ⊳ ts)
call_dot s t ts m k is has = ap (λ u. call_node s u ts) is ∙ ap (λ p. call_node s (member_node expr_tree m.span m.obj.value p) ts) has ∙ at_dot s m.span m.obj.value k ts

call_index : (s : Span) (t : Tree) (ts : Forest) (m : MemberExpr Expr) (k : ComputedPropName Expr) → t ≡ member_tree expr_tree m → m.prop ≡ prop.Computed k → call_node s t ts ≡ node tree.CallIndex (s ∷ m.span ∷ k.span ∷ []) (expr_tree m.obj.value ⊳ expr_tree k.expr.value ⊳ ts)
call_index s t ts m k is has = ap (λ u. call_node s u ts) is ∙ ap (λ p. call_node s (member_node expr_tree m.span m.obj.value p) ts) has ∙ at_index s m.span m.obj.value k ts

opens_as : (t u : Tree) (r : Opened) → t ≡ u → label_of u ≡ kind_label r.kind → children_of u ≡ children_forest r.children → Opens t r
opens_as t u r is labelled held = (ap label_of is ∙ labelled, ap children_of is ∙ held)

-- an operator in front of its operand
pub opens_operand : (n : UnaryExpr Expr) (r : Opened) → hides n.op (expr_tree n.arg.value) ≡ false → Opens (node (tree.Unary n.op) [] (expr_tree n.arg.value ⊳ ε)) r → Opens (unary_tree expr_tree n) r
opens_operand n r h p = operand_opens n.op n.span (expr_tree n.arg.value) r h p

pub opens_typeof : (n : UnaryExpr Expr) (i : Ident) (r : Opened) → n.op ≡ op.TypeOf → expr_tree n.arg.value ≡ ident_tree i → tree.TypeOfName (ident_name i) ≡ kind_label r.kind → ε ≡ children_forest r.children → Opens (unary_tree expr_tree n) r
opens_typeof n i r typed is labelled held = opens_as _ _ r (typeof_name n.op n.span (expr_tree n.arg.value) i typed is) labelled held

-- a call, by its callee
pub opens_dot : (n : CallExpr Expr) (m : MemberExpr Expr) (k : IdentName) (r : Opened) → expr_tree n.callee.value ≡ member_tree expr_tree m → m.prop ≡ prop.Ident k → tree.CallDot (word_text k) ≡ kind_label r.kind → (expr_tree m.obj.value ⊳ list_trees expr_tree n.args.items) ≡ children_forest r.children → Opens (call_tree expr_tree n) r
opens_dot n m k r is has labelled held = opens_as _ _ r (call_dot n.span (expr_tree n.callee.value) (list_trees expr_tree n.args.items) m k is has) labelled held

pub opens_index : (n : CallExpr Expr) (m : MemberExpr Expr) (k : ComputedPropName Expr) (r : Opened) → expr_tree n.callee.value ≡ member_tree expr_tree m → m.prop ≡ prop.Computed k → tree.CallIndex ≡ kind_label r.kind → (expr_tree m.obj.value ⊳ expr_tree k.expr.value ⊳ list_trees expr_tree n.args.items) ≡ children_forest r.children → Opens (call_tree expr_tree n) r
opens_index n m k r is has labelled held = opens_as _ _ r (call_index n.span (expr_tree n.callee.value) (list_trees expr_tree n.args.items) m k is has) labelled held

pub opens_eval : (n : CallExpr Expr) (i : Ident) (r : Opened) → expr_tree n.callee.value ≡ ident_tree i → is_eval (ident_name i) ≡ true → tree.CallEval (ident_name i) ≡ kind_label r.kind → list_trees expr_tree n.args.items ≡ children_forest r.children → Opens (call_tree expr_tree n) r
opens_eval n i r is h labelled held = opens_as _ _ r (call_eval n.span (expr_tree n.callee.value) (list_trees expr_tree n.args.items) i is h) labelled held

pub opens_name : (n : CallExpr Expr) (i : Ident) (r : Opened) → expr_tree n.callee.value ≡ ident_tree i → is_eval (ident_name i) ≡ false → tree.Call ≡ kind_label r.kind → (expr_tree n.callee.value ⊳ list_trees expr_tree n.args.items) ≡ children_forest r.children → Opens (call_tree expr_tree n) r
opens_name n i r is h labelled held = opens_as _ _ r (call_name n.span (expr_tree n.callee.value) (list_trees expr_tree n.args.items) i is h) labelled held

pub opens_whole : (n : CallExpr Expr) (r : Opened) → is_member_or_name (label_of (expr_tree n.callee.value)) ≡ false → tree.Call ≡ kind_label r.kind → (expr_tree n.callee.value ⊳ list_trees expr_tree n.args.items) ≡ children_forest r.children → Opens (call_tree expr_tree n) r
opens_whole n r h labelled held = opens_as _ _ r (call_whole n.span (expr_tree n.callee.value) (list_trees expr_tree n.args.items) h) labelled held
