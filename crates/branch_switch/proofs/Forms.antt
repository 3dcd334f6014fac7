-- A `switch` by its cases.
use Rattle.std.proofs.Common.{◌≡◌, ℕ, true, false, not, List, [], ◌∷◌, ◌++◌, map, take, drop, refl, sym, ap, ap₂, subst, ◌∙◌}
use Rattle.std.specs.Prelude.{Option, Some, None, if◌then◌else◌}
use Rattle.std.proofs.lemmas.Bool.{and_from, false≢true}
use Rattle.std.proofs.lemmas.List.{map-append, take-append-drop}
use Rattle.std.specs.declared.alloc.Global.{Global}
use Rattle.std.specs.declared.boxed.Box.{Box}
use Rattle.swc_ast.specs.declared.expressions.Expr.{Expr}
use Rattle.swc_ast.specs.declared.statements.Stmt.{Stmt}
use Rattle.swc_ast.specs.declared.statements.SwitchCase.{SwitchCase}
use Rattle.swc_ast.specs.declared.statements.SwitchStmt.{SwitchStmt}
use Rattle.swc_ast.specs.declared.declarations.Decl.TheViews.{out-SwitchStmt}
use Rattle.swc_ast.specs.Parts.{tree_or_absent}
use Rattle.swc_ast.specs.Scope.{joined}
use Rattle.swc_ast.specs.Statements.{is_missing, is_default_case, case_children}
use Rattle.swc_ast.specs.Tree.{Switch, CaseBody, Tree, node, ◌⊳◌, label_of}
use Rattle.swc_ast.specs.Views as view
use Rattle.swc_ast.specs.Views.{expr_tree, case_trees}
use Rattle.swc_ast.proofs.Equations.{case_trees-is, switch_tree-is}
use Rattle.swc_ast.specs.Labels.{is_expression}
use Rattle.swc_utils.proofs.Chains.{joined_assoc}
use Rattle.pass_proofs.proofs.ExprTrees.{is_an_expression}
use Rattle.branch_rules.specs.Jumps.{escapes}
use Rattle.branch_rules.specs.Removes.{Rests, cases}
use Rattle.branch_rules.specs.Statements.{is_absent}
use Rattle.branch_rules.specs.Switches.{Clause, kinds_of, trees_of, bodies_of, switch_tree, has_test, have_tests, is_discriminant, breaking, SwitchStep}
use Rattle.branch_rules.specs.Turns.{Turns, by_rule}
use Rattle.branch_jumps.proofs.Expressions.{expr_closed}
use Rattle.branch_switch.specs.Clauses.{clause, clauses, all_idle}
use Rattle.branch_switch.specs.Plans.{Switched, switched}

case_kind : (c : SwitchCase) → is_default_case (case_trees c) ≡ (clause c).is_default
case_kind c = ap is_default_case (case_trees-is c)

case_kinds : (cs : List SwitchCase) → map is_default_case (map case_trees cs) ≡ kinds_of (clauses cs)
case_kinds [] = refl
case_kinds (c ∷ cs) = ap₂ (λ k ks. k ∷ ks) (case_kind c) (case_kinds cs)

children : (cs : List SwitchCase) → case_children (map case_trees cs) ≡ trees_of (clauses cs)
children [] = refl
children (c ∷ cs) = ap (λ p. p.test ⊳ p.body ⊳ case_children (map case_trees cs)) (case_trees-is c) ∙ ap (λ ts. (clause c).test ⊳ node CaseBody (clause c).spans (clause c).body ⊳ ts) (children cs)

-- the view of a `switch`
pub by_clauses : (n : SwitchStmt) → view.switch_tree n ≡ switch_tree ((out-SwitchStmt n).span ∷ []) (expr_tree (out-SwitchStmt n).discriminant.value) (clauses (out-SwitchStmt n).cases.items)
by_clauses n =
    let m = out-SwitchStmt n in
    switch_tree-is n ∙ ap₂ (λ ks ts. node (Switch ks) (m.span ∷ []) (expr_tree m.discriminant.value ⊳ ts)) (case_kinds m.cases.items) (children m.cases.items)

-- an expression is a discriminant
pub is_discriminant_view : (e : Expr) → is_discriminant (expr_tree e) ≡ true
is_discriminant_view e = and_from (is_expression (label_of (expr_tree e))) (not (escapes breaking (expr_tree e))) (is_an_expression e) (ap not (expr_closed breaking e))

-- the tests of cases are expressions

test_view : (o : Option (Box Expr Global)) (k : Clause) → k.is_default ≡ is_missing o → k.test ≡ tree_or_absent expr_tree o → has_test k ≡ true
test_view None k e f = ap (λ b. if b then is_absent k.test else is_expression (label_of k.test)) e ∙ ap is_absent f
test_view (Some x) k e f = ap (λ b. if b then is_absent k.test else is_expression (label_of k.test)) e ∙ (ap (λ t. is_expression (label_of t)) f ∙ is_an_expression x.value)

pub have_tests_view : (cs : List SwitchCase) → have_tests (clauses cs) ≡ true
have_tests_view [] = refl
have_tests_view (c ∷ cs) = and_from (has_test (clause c)) (have_tests (clauses cs)) (test_view c.test (clause c) refl refl) (have_tests_view cs)

-- a `switch` with cases holds nothing that has to go
rests_by : (n : SwitchStmt) (cs : List SwitchCase) → (out-SwitchStmt n).cases.items ≡ cs → (cs ≡ [] → false ≡ true) → Rests (view.switch_tree n)
rests_by n [] e f = absurd (false≢true (f refl))
rests_by n (c ∷ cs) e f = subst Rests (sym (by_clauses n ∙ ap (λ ds. switch_tree ((out-SwitchStmt n).span ∷ []) (expr_tree (out-SwitchStmt n).discriminant.value) (clauses ds)) e)) refl

pub with_cases : (n : SwitchStmt) → ((out-SwitchStmt n).cases.items ≡ [] → false ≡ true) → Rests (view.switch_tree n)
with_cases n f = rests_by n (out-SwitchStmt n).cases.items refl f

-- the statements of two rows of cases
pub bodies_joined : (fs ks : List Clause) → bodies_of (fs ++ ks) ≡ joined (bodies_of fs) (bodies_of ks)
bodies_joined [] ks = refl
bodies_joined (f ∷ fs) ks = ap (joined f.body) (bodies_joined fs ks) ∙ sym (joined_assoc f.body (bodies_of fs) (bodies_of ks))

pub clauses_parted : (i : ℕ) (cs : List SwitchCase) → clauses (take i cs) ++ clauses (drop i cs) ≡ clauses cs
clauses_parted i cs = sym (map-append clause (take i cs) (drop i cs)) ∙ ap clauses (take-append-drop i cs)

-- what takes the place of the view of a `switch`
pub turned : (mark : ℕ) (n : SwitchStmt) (u : Tree) (s : Stmt) (d : Expr) (cs : List SwitchCase) → d ≡ (out-SwitchStmt n).discriminant.value → cs ≡ (out-SwitchStmt n).cases.items → Switched mark (out-SwitchStmt n).span (expr_tree d) (clauses cs) s → Turns mark (view.switch_tree n) u (Some s)
turned mark n u s d cs e f (switched rs {us = us} step at) =
    by_rule rs (cases (subst (λ x. SwitchStep mark x us) (ap (λ x. switch_tree ((out-SwitchStmt n).span ∷ []) (expr_tree x) (clauses cs)) e ∙ (ap (λ x. switch_tree ((out-SwitchStmt n).span ∷ []) (expr_tree (out-SwitchStmt n).discriminant.value) (clauses x)) f ∙ sym (by_clauses n))) step)) at

-- a `switch` without cases is idle
pub idle_rests : (mark : ℕ) (n : SwitchStmt) (cs : List SwitchCase) → cs ≡ (out-SwitchStmt n).cases.items → all_idle mark (clauses cs) ≡ false → Rests (view.switch_tree n)
idle_rests mark n cs e f = with_cases n (λ g. sym f ∙ ap (λ ds. all_idle mark (clauses ds)) (e ∙ g))
