-- What the comparison of parts says of the nodes that hold each other.
use Rattle.std.proofs.Common.{◌≡◌, refl, sym, ap, ◌∙◌, Bool, true, false, ◌&&◌, List, [], ◌∷◌, map}
use Rattle.std.specs.Prelude.{Option, Some, None}
use Rattle.std.specs.Bool.{beq}
use Rattle.std.specs.Cmp.Lexicographic.{pointwise}
use Rattle.std.specs.declared.alloc.Global.{Global}
use Rattle.std.specs.declared.boxed.Box.{Box}
use Rattle.swc_ast.specs.Tree as tree
use Rattle.swc_ast.specs.Tree.{Label, same_name, Tree, node, Forest, ε, ◌⊳◌}
use Rattle.swc_ast.specs.Parts.{absent, list_trees, optional_trees, tree_or_absent, ident_name, ident_tree, option_ident_name, option_ident_spans}
use Rattle.swc_ast.specs.Expressions.{FunctionTrees, function_node, key_tree}
use Rattle.swc_ast.specs.Statements.{LoopTrees, while_node, do_while_node, option_init_tree, is_default_case, case_children, is_missing, var_tree}
use Rattle.swc_ast.specs.Nodes.{case_tree, option_init_node}
use Rattle.swc_ast.specs.Same.{same, same_forest, same_label, same_option, same_spans}
use Rattle.swc_ast.specs.Views.{expr_tree, case_trees}
use Rattle.swc_ast.proofs.ApartExpressions.{no_expr, no_expr-2}
use Rattle.swc_ast.proofs.Joined.{ends}
use Rattle.swc_ast.proofs.SameParts.{first_span}
use Rattle.swc_ast.proofs.Truths.{never-then}
use Rattle.swc_ast.specs.declared.Span.{Span}
use Rattle.swc_ast.specs.declared.names.Ident.{Ident}
use Rattle.swc_ast.specs.declared.expressions.Expr.{Expr}
use Rattle.swc_ast.specs.declared.expressions.PropName.{PropName}
use Rattle.swc_ast.specs.declared.statements.SwitchCase.{SwitchCase}
use Rattle.swc_ast.specs.declared.statements.VarDeclOrExpr.{VarDeclOrExpr}
use Rattle.swc_ast.specs.declared.statements.VarDeclOrExpr.TheVariants as init

-- parts in the order in which they are compared, and in the order in which trees have them
four : (a b c d : Bool) → (((a && b) && c) && d) ≡ (a && (b && (c && d)))
four true true c d = refl
four true false c d = refl
four false b c d = refl

pub all-four : {a a' b b' c c' d d' : Bool} → a ≡ a' → b ≡ b' → c ≡ c' → d ≡ d' → (((a && b) && c) && d) ≡ (a' && (b' && (c' && d')))
all-four {a = a} {b = b} {c = c} {d = d} p q r s = four a b c d ∙ (cc)

five : (a b c d e : Bool) → ((((a && b) && c) && d) && e) ≡ (a && (b && (c && (d && (e && true)))))
five true true true true e = ends e
five true true true false e = refl
five true true false d e = refl
five true false c d e = refl
five false b c d e = refl

pub joined-5 : {a a' b b' c c' d d' e e' : Bool} → a ≡ a' → b ≡ b' → c ≡ c' → d ≡ d' → e ≡ e' → ((((a && b) && c) && d) && e) ≡ (a' && (b' && (c' && (d' && (e' && true)))))
joined-5 {a = a} {b = b} {c = c} {d = d} {e = e} p q r s t = five a b c d e ∙ (cc)

swapped : (a b c : Bool) → (a && (b && c)) ≡ (b && (a && c))
swapped true b c = refl
swapped false true c = refl
swapped false false c = refl

after-name : (n p o k : Bool) → ((n && (p && true)) && (o && k)) ≡ (n && ((o && p) && k))
after-name true true true k = refl
after-name true true false k = refl
after-name true false true k = refl
after-name true false false k = refl
after-name false p o k = refl

-- a function with its name
pub named-function : (s : Bool) (l m : Label) (x y : Ident) (p q : FunctionTrees) → same_label l m ≡ same_name (ident_name x) (ident_name y) → (same s (ident_tree x) (ident_tree y) && same s (function_node (tree.Fn None) [] p) (function_node (tree.Fn None) [] q)) ≡ same s (function_node l (x.span ∷ []) p) (function_node m (y.span ∷ []) q)
unfolding same same_label
named-function s l m x y p q names = after-name (same_name (ident_name x) (ident_name y)) (same_spans s (x.span ∷ []) (y.span ∷ [])) (same_spans s (p.own ∷ []) (q.own ∷ [])) (same_forest s (p.parameters ⊳ p.body ⊳ ε) (q.parameters ⊳ q.body ⊳ ε)) ∙ ap (λ z. same_name (ident_name x) (ident_name y) && (z && same_forest s (p.parameters ⊳ p.body ⊳ ε) (q.parameters ⊳ q.body ⊳ ε))) (sym (first_span s p.own q.own (x.span ∷ []) (y.span ∷ []))) ∙ ap (λ n. n && (same_spans s (p.own ∷ x.span ∷ []) (q.own ∷ y.span ∷ []) && same_forest s (p.parameters ⊳ p.body ⊳ ε) (q.parameters ⊳ q.body ⊳ ε))) (sym names)

beside : (n z o k : Bool) → ((n && z) && (o && k)) ≡ (n && ((o && z) && k))
beside true true true k = refl
beside true true false k = refl
beside true false true k = refl
beside true false false k = refl
beside false z o k = refl

-- a function with its name, if it has one
pub with-name : (s : Bool) (x y : Option Ident) (p q : FunctionTrees) → ((same_option same_name (option_ident_name x) (option_ident_name y) && same_spans s (option_ident_spans x) (option_ident_spans y)) && same s (function_node (tree.Fn None) [] p) (function_node (tree.Fn None) [] q)) ≡ same s (function_node (tree.Fn (option_ident_name x)) (option_ident_spans x) p) (function_node (tree.Fn (option_ident_name y)) (option_ident_spans y) q)
unfolding same same_label
with-name s x y p q = beside (same_option same_name (option_ident_name x) (option_ident_name y)) (same_spans s (option_ident_spans x) (option_ident_spans y)) (same_spans s (p.own ∷ []) (q.own ∷ [])) (same_forest s (p.parameters ⊳ p.body ⊳ ε) (q.parameters ⊳ q.body ⊳ ε)) ∙ ap (λ z. same_option same_name (option_ident_name x) (option_ident_name y) && (z && same_forest s (p.parameters ⊳ p.body ⊳ ε) (q.parameters ⊳ q.body ⊳ ε))) (sym (first_span s p.own q.own (option_ident_spans x) (option_ident_spans y)))

-- a method by its key and its function
pub method-same : (s : Bool) (k l : PropName Expr) (p q : FunctionTrees) → (same s (key_tree expr_tree k) (key_tree expr_tree l) && same s (function_node (tree.Fn None) [] p) (function_node (tree.Fn None) [] q)) ≡ same s (node tree.Method (p.own ∷ []) (key_tree expr_tree k ⊳ p.parameters ⊳ p.body ⊳ ε)) (node tree.Method (q.own ∷ []) (key_tree expr_tree l ⊳ q.parameters ⊳ q.body ⊳ ε))
unfolding same same_label
method-same s k l p q = swapped (same s (key_tree expr_tree k) (key_tree expr_tree l)) (same_spans s (p.own ∷ []) (q.own ∷ [])) (same_forest s (p.parameters ⊳ p.body ⊳ ε) (q.parameters ⊳ q.body ⊳ ε))

-- a `do` has the parts of a `while` in another order
pub do-same : (s : Bool) (l m : LoopTrees) → same s (while_node l) (while_node m) ≡ same s (do_while_node l) (do_while_node m)
unfolding same same_label
do-same s l m = ap (λ z. same_spans s (l.own ∷ []) (m.own ∷ []) && z) (swapped (same s l.test m.test) (same s l.body m.body) true)

-- a part of a `for`, and its first part
pub test-same : (s : Bool) (t u : Option (Box Expr Global)) → same s (node tree.Block [] (optional_trees expr_tree t)) (node tree.Block [] (optional_trees expr_tree u)) ≡ same s (tree_or_absent expr_tree t) (tree_or_absent expr_tree u)
unfolding same same_label
test-same s None None = refl
test-same s None (Some e) = no_expr s absent e.value refl
test-same s (Some d) None = no_expr-2 s d.value absent refl
test-same s (Some d) (Some e) = sym (ends (same s (expr_tree d.value) (expr_tree e.value)))

pub init-same : (s : Bool) (t u : Option (VarDeclOrExpr Expr)) → same s (option_init_node expr_tree t) (option_init_node expr_tree u) ≡ same s (option_init_tree expr_tree t) (option_init_tree expr_tree u)
unfolding same same_label
init-same s None None = refl
init-same s None (Some (init.VarDecl n)) = refl
init-same s None (Some (init.Expr e)) = no_expr s absent e.value refl
init-same s (Some (init.VarDecl n)) None = refl
init-same s (Some (init.Expr d)) None = no_expr-2 s d.value absent refl
init-same s (Some (init.VarDecl m)) (Some (init.VarDecl n)) = refl
init-same s (Some (init.VarDecl m)) (Some (init.Expr e)) = no_expr s (var_tree expr_tree m) e.value refl
init-same s (Some (init.Expr d)) (Some (init.VarDecl n)) = no_expr-2 s d.value (var_tree expr_tree n) refl
init-same s (Some (init.Expr d)) (Some (init.Expr e)) = sym (ends (same s (expr_tree d.value) (expr_tree e.value)))

default-case : (a b : Bool) → ((a && true) && b) ≡ ((a && b) && true)
default-case true true = refl
default-case true false = refl
default-case false b = refl

tested-case : (a t b : Bool) → ((a && (t && true)) && b) ≡ (t && ((a && b) && true))
tested-case true true b = ends b
tested-case true false b = refl
tested-case false true b = refl
tested-case false false b = refl

-- a case by its test and its statements
pub case-same : (s : Bool) (a b : Span) (t u : Option (Box Expr Global)) (ts us : Forest) → ((same_spans s (a ∷ []) (b ∷ []) && same s (node tree.Block [] (optional_trees expr_tree t)) (node tree.Block [] (optional_trees expr_tree u))) && same s (node tree.Block [] ts) (node tree.Block [] us)) ≡ same s (node (tree.Switch (is_missing t ∷ [])) [] (tree_or_absent expr_tree t ⊳ node tree.CaseBody (a ∷ []) ts ⊳ ε)) (node (tree.Switch (is_missing u ∷ [])) [] (tree_or_absent expr_tree u ⊳ node tree.CaseBody (b ∷ []) us ⊳ ε))
unfolding same same_label
case-same s a b None None ts us = default-case (same_spans s (a ∷ []) (b ∷ [])) (same_forest s ts us)
case-same s a b None (Some e) ts us = sym (never-then (same_spans s (a ∷ []) (b ∷ [])) (same_forest s ts us))
case-same s a b (Some d) None ts us = sym (never-then (same_spans s (a ∷ []) (b ∷ [])) (same_forest s ts us))
case-same s a b (Some d) (Some e) ts us = tested-case (same_spans s (a ∷ []) (b ∷ [])) (same s (expr_tree d.value) (expr_tree e.value)) (same_forest s ts us)

case-more : (q t b p f : Bool) → (((q && true) && (t && (b && true))) && (p && f)) ≡ ((q && p) && (t && (b && f)))
case-more true true true p f = refl
case-more true true false true f = refl
case-more true true false false f = refl
case-more true false b true f = refl
case-more true false b false f = refl
case-more false t b p f = refl

switch-parts : (a d p f : Bool) → ((a && d) && (p && f)) ≡ (p && (a && (d && f)))
switch-parts true true p f = refl
switch-parts true false true f = refl
switch-parts true false false f = refl
switch-parts false d true f = refl
switch-parts false d false f = refl

-- the cases of a `switch` one by one, and all of their tests and bodies
cases-same : (s : Bool) (xs ys : List SwitchCase) → same_forest s (list_trees case_tree xs) (list_trees case_tree ys) ≡ (pointwise beq (map is_default_case (map case_trees xs)) (map is_default_case (map case_trees ys)) && same_forest s (case_children (map case_trees xs)) (case_children (map case_trees ys)))
unfolding same same_label
cases-same s [] [] = refl
cases-same s [] (y ∷ ys) = refl
cases-same s (x ∷ xs) [] = refl
cases-same s (x ∷ xs) (y ∷ ys) = ap (λ r. same s (case_tree x) (case_tree y) && r) (cases-same s xs ys) ∙ case-more (beq (case_trees x).is_default (case_trees y).is_default) (same s (case_trees x).test (case_trees y).test) (same s (case_trees x).body (case_trees y).body) (pointwise beq (map is_default_case (map case_trees xs)) (map is_default_case (map case_trees ys))) (same_forest s (case_children (map case_trees xs)) (case_children (map case_trees ys)))

pub switch-same : (s : Bool) (a b : Span) (d e : Tree) (xs ys : List SwitchCase) → ((same_spans s (a ∷ []) (b ∷ []) && same s d e) && same_forest s (list_trees case_tree xs) (list_trees case_tree ys)) ≡ same s (node (tree.Switch (map is_default_case (map case_trees xs))) (a ∷ []) (d ⊳ case_children (map case_trees xs))) (node (tree.Switch (map is_default_case (map case_trees ys))) (b ∷ []) (e ⊳ case_children (map case_trees ys)))
unfolding same same_label
switch-same s a b d e xs ys = ap (λ r. (same_spans s (a ∷ []) (b ∷ []) && same s d e) && r) (cases-same s xs ys) ∙ switch-parts (same_spans s (a ∷ []) (b ∷ [])) (same s d e) (pointwise beq (map is_default_case (map case_trees xs)) (map is_default_case (map case_trees ys))) (same_forest s (case_children (map case_trees xs)) (case_children (map case_trees ys)))
