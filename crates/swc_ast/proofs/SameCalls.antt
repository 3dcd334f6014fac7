-- Calls whose callees and arguments are the same.
use Rattle.std.proofs.Common.{◌≡◌, refl, sym, ap, ◌∙◌, Bool, true, false, ◌&&◌, ◌==◌, List, [], ◌∷◌, subst}
use Rattle.std.specs.Prelude.{ℕ, bytes_eq, if◌then◌else◌}
use Rattle.swc_ast.specs.Tree as tree
use Rattle.swc_ast.specs.Tree.{Label, Name, Text, same_name, Tree, node, Forest, ε, ◌⊳◌, label_of}
use Rattle.swc_ast.specs.Parts.{ident_name, word_text}
use Rattle.swc_ast.specs.Expressions.{call_node, is_eval, member_node}
use Rattle.swc_ast.specs.Same.{same, same_forest, same_label, same_spans}
use Rattle.swc_ast.specs.SameLaws.{impossible}
use Rattle.swc_ast.specs.Views.{expr_tree}
use Rattle.swc_ast.proofs.ApartExpressions.{ExprForm, expr_form, expr_at}
use Rattle.swc_ast.proofs.Equations.{expr_tree-Member, expr_tree-Ident}
use Rattle.swc_ast.proofs.Labels.{differ}
use Rattle.swc_ast.proofs.SameParts.{first_span, two-at}
use Rattle.swc_ast.proofs.Truths.{never-then}
use Rattle.swc_ast.specs.declared.Span.{Span}
use Rattle.swc_ast.specs.declared.declarations.Decl.TheOpen as Open
use Rattle.swc_ast.specs.declared.declarations.Decl.TheViews.{roll-Expr, out-Expr, roll-out-Expr}
use Rattle.swc_ast.specs.declared.expressions.Expr.{Expr}
use Rattle.swc_ast.specs.declared.expressions.Expr.TheVariants as in_expr
use Rattle.swc_ast.specs.declared.expressions.MemberProp.{MemberProp}
use Rattle.swc_ast.specs.declared.expressions.MemberProp.TheVariants as prop

-- which part of its callee a call's label_of takes
abbrev pub callee_form : Label → ℕ
callee_form (tree.Dot k) = 1
callee_form tree.Index = 2
callee_form (tree.Read x) = if is_eval x then 3 else 0
callee_form _ = 0

-- a callee by what a call makes of it
pub data Callee : Tree → Type 0 where
  dot : (k : Text) (ss : List Span) (t : Tree) → Callee (node (tree.Dot k) ss (t ⊳ ε))
  index : (ss : List Span) (t u : Tree) → Callee (node tree.Index ss (t ⊳ u ⊳ ε))
  eval : (x : Name) (ss : List Span) → callee_form (tree.Read x) ≡ 3 → ((s : Span) (args : Forest) → call_node s (node (tree.Read x) ss ε) args ≡ node (tree.CallEval x) (s ∷ ss) args) → Callee (node (tree.Read x) ss ε)
  plain : (t : Tree) → callee_form (label_of t) ≡ 0 → ((s : Span) (args : Forest) → call_node s t args ≡ node tree.Call (s ∷ []) (t ⊳ args)) → Callee t

named : (x : Name) (ss : List Span) → Callee (node (tree.Read x) ss ε)
unfolding call_node
named x ss = by (is_eval x) refl
  where
    by : (e : Bool) → is_eval x ≡ e → Callee (node (tree.Read x) ss ε)
    by true is = eval x ss (ap (λ e. if e then 3 else 0) is) (λ s args. ap (λ e. if e then node (tree.CallEval x) (s ∷ ss) args else node tree.Call (s ∷ []) (node (tree.Read x) ss ε ⊳ args)) is)
    by false is = plain (node (tree.Read x) ss ε) (ap (λ e. if e then 3 else 0) is) (λ s args. ap (λ e. if e then node (tree.CallEval x) (s ∷ ss) args else node tree.Call (s ∷ []) (node (tree.Read x) ss ε ⊳ args)) is)

other_form : (t : Tree) → (9 == expr_form (label_of t)) ≡ false → (14 == expr_form (label_of t)) ≡ false → callee_form (label_of t) ≡ 0
other_form (node (tree.Dot k) ss cs) p q = impossible (sym p)
other_form (node tree.Index ss cs) p q = impossible (sym p)
other_form (node (tree.Read x) ss cs) p q = impossible (sym q)
other_form (node _ ss cs) p q = refl

other_call : (t : Tree) → (9 == expr_form (label_of t)) ≡ false → (14 == expr_form (label_of t)) ≡ false → (s : Span) (args : Forest) → call_node s t args ≡ node tree.Call (s ∷ []) (t ⊳ args)
unfolding call_node
other_call (node (tree.Dot k) ss cs) p q s args = impossible (sym p)
other_call (node tree.Index ss cs) p q s args = impossible (sym p)
other_call (node (tree.Read x) ss cs) p q s args = impossible (sym q)
other_call (node _ ss cs) p q s args = refl

other : (t : Tree) → (9 == expr_form (label_of t)) ≡ false → (14 == expr_form (label_of t)) ≡ false → Callee t
other t p q = plain t (other_form t p q) (other_call t p q)

member : (s : Span) (o : Expr) (p : MemberProp Expr) → Callee (member_node expr_tree s o p)
member s o (prop.Ident i) = dot (word_text i) (s ∷ i.span ∷ []) (expr_tree o)
member s o (prop.Computed c) = index (s ∷ c.span ∷ []) (expr_tree o) (expr_tree c.expr.value)

callee_at : (o : ExprForm) → Callee (expr_tree (roll-Expr o))
callee_at (Open.Member n) = subst Callee (sym (ap expr_tree (in_expr.rolls-Member n) ∙ expr_tree-Member n)) (member n.span n.obj.value n.prop)
callee_at (Open.Ident n) = subst Callee (sym (ap expr_tree (in_expr.rolls-Ident n) ∙ expr_tree-Ident n)) (named (ident_name n) (n.span ∷ []))
callee_at o = other (expr_tree (roll-Expr o)) (ap (λ n. 9 == n) (expr_at o)) (ap (λ n. 14 == n) (expr_at o))

pub callee : (e : Expr) → Callee (expr_tree e)
callee e = subst (λ x. Callee (expr_tree x)) (roll-out-Expr e) (callee_at (out-Expr e))

dots : (a k s t f : Bool) → ((a && (k && (s && (t && true)))) && f) ≡ (k && ((a && s) && (t && f)))
dots true true true true f = refl
dots true true true false f = refl
dots true true false t f = refl
dots true false s t f = refl
dots false true s t f = refl
dots false false s t f = refl

indexes : (a s t u f : Bool) → ((a && (s && (t && (u && true)))) && f) ≡ ((a && s) && (t && (u && f)))
indexes true true true true f = refl
indexes true true true false f = refl
indexes true true false u f = refl
indexes true false t u f = refl
indexes false s t u f = refl

evals : (a n s f : Bool) → ((a && (n && (s && true))) && f) ≡ (n && ((a && s) && f))
evals true true true f = refl
evals true true false f = refl
evals true false s f = refl
evals false true s f = refl
evals false false s f = refl

plains : (a r f : Bool) → ((a && r) && f) ≡ (a && (r && f))
plains true r f = refl
plains false r f = refl

-- callees of two kinds, and calls with two labels
mixed : (s : Bool) (a b : Span) (t u : Tree) (args rest : Forest) (x y : Tree) → call_node a t args ≡ x → call_node b u rest ≡ y → false ≡ same s x y → false ≡ same s t u → ((same_spans s (a ∷ []) (b ∷ []) && same s t u) && same_forest s args rest) ≡ same s (call_node a t args) (call_node b u rest)
mixed s a b t u args rest x y at_t at_u calls callees = ap (λ r. (same_spans s (a ∷ []) (b ∷ []) && r) && same_forest s args rest) (sym callees) ∙ sym (never-then (same_spans s (a ∷ []) (b ∷ [])) (same_forest s args rest)) ∙ calls ∙ two-at (λ p q. same s p q) at_t at_u

-- a call by its callee and its arguments
pub call-same : (s : Bool) (a b : Span) (t u : Tree) → Callee t → Callee u → (args rest : Forest) → ((same_spans s (a ∷ []) (b ∷ []) && same s t u) && same_forest s args rest) ≡ same s (call_node a t args) (call_node b u rest)
unfolding same same_label call_node
call-same s a b _ _ (dot k ss t) (dot l ts u) args rest = dots (same_spans s (a ∷ []) (b ∷ [])) (bytes_eq k l) (same_spans s ss ts) (same s t u) (same_forest s args rest) ∙ ap (λ z. bytes_eq k l && (z && (same s t u && same_forest s args rest))) (sym (first_span s a b ss ts))
call-same s a b _ _ (dot k ss t) (index ts u v) args rest = sym (never-then (same_spans s (a ∷ []) (b ∷ [])) (same_forest s args rest))
call-same s a b _ _ (dot k ss t) (eval y ts is calls) args rest = mixed s a b (node (tree.Dot k) ss (t ⊳ ε)) (node (tree.Read y) ts ε) args rest (node (tree.CallDot k) (a ∷ ss) (t ⊳ args)) (node (tree.CallEval y) (b ∷ ts) rest) refl (calls b rest) refl refl
call-same s a b _ _ (dot k ss t) (plain u form calls) args rest = mixed s a b (node (tree.Dot k) ss (t ⊳ ε)) u args rest (node (tree.CallDot k) (a ∷ ss) (t ⊳ args)) (node tree.Call (b ∷ []) (u ⊳ rest)) refl (calls b rest) refl (differ callee_form s (node (tree.Dot k) ss (t ⊳ ε)) u 1 0 refl form refl)
call-same s a b _ _ (index ss t u) (dot l ts v) args rest = sym (never-then (same_spans s (a ∷ []) (b ∷ [])) (same_forest s args rest))
call-same s a b _ _ (index ss t u) (index ts v w) args rest = indexes (same_spans s (a ∷ []) (b ∷ [])) (same_spans s ss ts) (same s t v) (same s u w) (same_forest s args rest) ∙ ap (λ z. z && (same s t v && (same s u w && same_forest s args rest))) (sym (first_span s a b ss ts))
call-same s a b _ _ (index ss t u) (eval y ts is calls) args rest = mixed s a b (node tree.Index ss (t ⊳ u ⊳ ε)) (node (tree.Read y) ts ε) args rest (node tree.CallIndex (a ∷ ss) (t ⊳ u ⊳ args)) (node (tree.CallEval y) (b ∷ ts) rest) refl (calls b rest) refl refl
call-same s a b _ _ (index ss t u) (plain v form calls) args rest = mixed s a b (node tree.Index ss (t ⊳ u ⊳ ε)) v args rest (node tree.CallIndex (a ∷ ss) (t ⊳ u ⊳ args)) (node tree.Call (b ∷ []) (v ⊳ rest)) refl (calls b rest) refl (differ callee_form s (node tree.Index ss (t ⊳ u ⊳ ε)) v 2 0 refl form refl)
call-same s a b _ _ (eval x ss is calls) (dot l ts v) args rest = mixed s a b (node (tree.Read x) ss ε) (node (tree.Dot l) ts (v ⊳ ε)) args rest (node (tree.CallEval x) (a ∷ ss) args) (node (tree.CallDot l) (b ∷ ts) (v ⊳ rest)) (calls a args) refl refl refl
call-same s a b _ _ (eval x ss is calls) (index ts v w) args rest = mixed s a b (node (tree.Read x) ss ε) (node tree.Index ts (v ⊳ w ⊳ ε)) args rest (node (tree.CallEval x) (a ∷ ss) args) (node tree.CallIndex (b ∷ ts) (v ⊳ w ⊳ rest)) (calls a args) refl refl refl
call-same s a b _ _ (eval x ss is calls) (eval y ts also called) args rest = evals (same_spans s (a ∷ []) (b ∷ [])) (same_name x y) (same_spans s ss ts) (same_forest s args rest) ∙ ap (λ z. same_name x y && (z && same_forest s args rest)) (sym (first_span s a b ss ts)) ∙ two-at (λ p q. same s p q) (calls a args) (called b rest)
call-same s a b _ _ (eval x ss is calls) (plain u form called) args rest = mixed s a b (node (tree.Read x) ss ε) u args rest (node (tree.CallEval x) (a ∷ ss) args) (node tree.Call (b ∷ []) (u ⊳ rest)) (calls a args) (called b rest) refl (differ callee_form s (node (tree.Read x) ss ε) u 3 0 is form refl)
call-same s a b _ _ (plain t form calls) (dot l ts v) args rest = mixed s a b t (node (tree.Dot l) ts (v ⊳ ε)) args rest (node tree.Call (a ∷ []) (t ⊳ args)) (node (tree.CallDot l) (b ∷ ts) (v ⊳ rest)) (calls a args) refl refl (differ callee_form s t (node (tree.Dot l) ts (v ⊳ ε)) 0 1 form refl refl)
call-same s a b _ _ (plain t form calls) (index ts v w) args rest = mixed s a b t (node tree.Index ts (v ⊳ w ⊳ ε)) args rest (node tree.Call (a ∷ []) (t ⊳ args)) (node tree.CallIndex (b ∷ ts) (v ⊳ w ⊳ rest)) (calls a args) refl refl (differ callee_form s t (node tree.Index ts (v ⊳ w ⊳ ε)) 0 2 form refl refl)
call-same s a b _ _ (plain t form calls) (eval y ts is called) args rest = mixed s a b t (node (tree.Read y) ts ε) args rest (node tree.Call (a ∷ []) (t ⊳ args)) (node (tree.CallEval y) (b ∷ ts) rest) (calls a args) (called b rest) refl (differ callee_form s t (node (tree.Read y) ts ε) 0 3 form is refl)
call-same s a b _ _ (plain t form calls) (plain u also called) args rest = plains (same_spans s (a ∷ []) (b ∷ [])) (same s t u) (same_forest s args rest) ∙ two-at (λ p q. same s p q) (calls a args) (called b rest)
