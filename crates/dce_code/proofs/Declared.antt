-- Declarators, and what is left of a declaration.
use Rattle.std.proofs.Common.{◌≡◌, ◌≤◌, Bool, true, false, not, ◌&&◌, ◌||◌, if◌then◌else◌, List, [], ◌∷◌, Option, Some, None, filter, refl, sym, ap, ◌∙◌, arith}
use Rattle.std.proofs.lemmas.Bool.{false≢true, true≢false}
use Rattle.std.specs.declared.alloc.Global.{Global}
use Rattle.std.specs.declared.boxed.Box.{Box}
use Rattle.swc_ast.specs.declared.Span.{Span}
use Rattle.swc_ast.specs.declared.UnaryOp.{UnaryOp}
use Rattle.swc_ast.specs.declared.UnaryOp.TheVariants as op
use Rattle.swc_ast.specs.declared.VarDeclKind.{VarDeclKind}
use Rattle.swc_ast.specs.declared.VarDeclKind.TheVariants.{Var}
use Rattle.swc_ast.specs.declared.declarations.VarDeclarator.{VarDeclarator}
use Rattle.swc_ast.specs.declared.expressions.Expr.{Expr}
use Rattle.swc_ast.specs.Expressions.{is_eval, call_node, unary_node}
use Rattle.swc_ast.specs.Parts.{ident_name, list_trees, optional_trees}
use Rattle.swc_ast.specs.Statements.{declarator_tree}
use Rattle.swc_ast.specs.Tree as tree
use Rattle.swc_ast.specs.Tree.{Name, VarDecl, Declarator, Empty, Tree, node, Forest, ε, ◌⊳◌}
use Rattle.swc_ast.specs.Valid.{count}
use Rattle.swc_ast.specs.Views.{expr_tree}
use Rattle.static_proofs.specs.Names.{is_some_tree}
use Rattle.walk_proofs.specs.Meant.{Sifts, sifted, stays_there, goes_there}
use Rattle.dce_rules.specs.Left.{is_plain_value, any_of}
use Rattle.dce_rules.specs.Shakes.{Shaker, Goes, Leaves, nothing_left, goes_with_value, goes_plainly, Shakes, declarators_go, declaration_goes, Rests}
use Rattle.dce_code.specs.Lists.{Sifted}
use Rattle.dce_code.proofs.Sifted.{some_go_any}

-- no value written out

pub plain_unary : (o : UnaryOp) (s : Span) (t : Tree) → is_plain_value (unary_node o s t) ≡ false
unfolding unary_node
plain_unary op.TypeOf s (node (tree.Read x) ss cs) = refl
plain_unary op.TypeOf s (node l ss cs) = refl
plain_unary o s t = refl

eval_call : (x : Name) (b : Bool) (s : Span) (ss : List Span) (cs ts : Forest) → is_plain_value (if b then node (tree.CallEval x) (s ∷ ss) ts else node tree.Call (s ∷ []) (node (tree.Read x) ss cs ⊳ ts)) ≡ false
eval_call x true s ss cs ts = refl
eval_call x false s ss cs ts = refl

pub plain_call : (s : Span) (t : Tree) (ts : Forest) → is_plain_value (call_node s t ts) ≡ false
unfolding call_node
plain_call s (node (tree.Dot k) ss cs) ts = refl
plain_call s (node tree.Index ss cs) ts = refl
plain_call s (node (tree.Read x) ss cs) ts = eval_call x (is_eval x) s ss cs ts
plain_call s (node l ss cs) ts = refl

-- a declarator with a first value
pub value_goes : (S : Shaker) (x : Name) (ss : List Span) (r : Tree) → (is_plain_value r && S.free x) ≡ goes_plainly S (node (Declarator Var x) ss (r ⊳ ε))
value_goes S x ss r = by (is_plain_value r)
  where
    or_none : (b : Bool) → b ≡ (b || false)
    or_none true = refl
    or_none false = refl

    by : (b : Bool) → (b && S.free x) ≡ any_of S.free (if b then x ∷ [] else [])
    by true = or_none (S.free x)
    by false = refl

-- declarators of each kind go alike

by_value : (S : Shaker) (k : VarDeclKind) (x : Name) (ss : List Span) (o : Option (Box Expr Global)) → goes_plainly S (node (Declarator Var x) ss (optional_trees expr_tree o)) ≡ goes_plainly S (node (Declarator k x) ss (optional_trees expr_tree o))
by_value S k x ss None = refl
by_value S k x ss (Some b) = refl

goes_alike : (S : Shaker) (k : VarDeclKind) (d : VarDeclarator Expr) → goes_plainly S (declarator_tree expr_tree Var d) ≡ goes_plainly S (declarator_tree expr_tree k d)
goes_alike S k d = by_value S k (ident_name d.name) (d.span ∷ d.name.span ∷ []) d.init

pub filters_alike : (S : Shaker) (k : VarDeclKind) (ds : List (VarDeclarator Expr)) → filter (λ d. not (goes_plainly S (declarator_tree expr_tree Var d))) ds ≡ filter (λ d. not (goes_plainly S (declarator_tree expr_tree k d))) ds
filters_alike S k ds = λ i. filter (λ d. not (goes_alike S k d i)) ds

-- what is left of a declaration

pub declaration_stays : (S : Shaker) (k : VarDeclKind) (ss : List Span) (ds es : Forest) → Sifted (goes_plainly S) false ds es → (node (VarDecl k) ss es ≡ node (VarDecl k) ss ds) × Rests S (node (VarDecl k) ss es)
declaration_stays S k ss ds es h = (ap (λ cs. node (VarDecl k) ss cs) h.0, ap not (some_go_any S es ∙ h.1))

pub some_counted : (es : Forest) → not (is_some_tree es) ≡ false → 1 ≤ count es
some_counted ε h = absurd (true≢false h)
some_counted (t ⊳ ts) h = omega arith

pub declaration_less : (S : Shaker) (k : VarDeclKind) (ss : List Span) (ds es : Forest) → Sifted (goes_plainly S) true ds es → not (is_some_tree es) ≡ false → Shakes S (node (VarDecl k) ss ds) (node (VarDecl k) ss es)
declaration_less S k ss ds es h some = declarators_go h.0 (some_counted es some) h.1

leaves : (S : Shaker) {ds es : Forest} → Sifts (Goes S) ds es → is_some_tree es ≡ false → Leaves S ds ε
leaves S sifted h = nothing_left
leaves S (stays_there s) h = absurd (true≢false h)
leaves S (goes_there g s) h = goes_with_value g (leaves S s h)

pub some_before : (ds es : Forest) → (es ≡ ds → ⊥) → is_some_tree es ≡ false → 1 ≤ count ds
some_before ε ε h e = absurd (h refl)
some_before ds (t ⊳ ts) h e = absurd (true≢false e)
some_before (t ⊳ ts) ε h e = omega arith

pub not_true : (b : Bool) → not b ≡ true → b ≡ false
not_true true h = absurd (false≢true h)
not_true false h = refl

pub declaration_gone : (S : Shaker) (k : VarDeclKind) (ss : List Span) (ds es : Forest) → Sifted (goes_plainly S) true ds es → not (is_some_tree es) ≡ true → (rs : List Span) → Shakes S (node (VarDecl k) ss ds) (node Empty rs ε)
declaration_gone S k ss ds es h none rs =
    let e = not_true (is_some_tree es) none in
    declaration_goes rs [] ε (some_before ds es h.1 e) (leaves S h.0 e)

-- whether any are left doesn't depend on the kind

some_alike : (k : VarDeclKind) (ds : List (VarDeclarator Expr)) → is_some_tree (list_trees (declarator_tree expr_tree k) ds) ≡ is_some_tree (list_trees (declarator_tree expr_tree Var) ds)
some_alike k [] = refl
some_alike k (d ∷ ds) = refl

pub left_alike : (k : VarDeclKind) (b c : Bool) (ds es : List (VarDeclarator Expr)) → ds ≡ es → b ≡ not (is_some_tree (list_trees (declarator_tree expr_tree Var) ds)) → b ≡ c → not (is_some_tree (list_trees (declarator_tree expr_tree k) es)) ≡ c
left_alike k b c ds es e is at = ap not (some_alike k es) ∙ ap (λ xs. not (is_some_tree (list_trees (declarator_tree expr_tree Var) xs))) (sym e) ∙ sym is ∙ at
