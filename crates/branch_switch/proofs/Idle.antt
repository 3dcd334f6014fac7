-- A `switch` of which no case does anything.
use Rattle.std.proofs.Common.{◌≡◌, ℕ, true, ◌&&◌, List, [], ◌∷◌, refl, ap, subst, ◌∙◌}
use Rattle.std.proofs.lemmas.Bool.{and_parts, and_from}
use Rattle.swc_ast.specs.declared.Span.{Span}
use Rattle.swc_ast.specs.declared.expressions.Expr.{Expr}
use Rattle.swc_ast.specs.declared.statements.Stmt.{Stmt}
use Rattle.swc_ast.specs.declared.statements.SwitchCase.{SwitchCase}
use Rattle.swc_ast.specs.Scope.{joined}
use Rattle.swc_ast.specs.Tree.{Forest, ε}
use Rattle.swc_ast.specs.Views.{expr_tree, stmt_tree}
use Rattle.branch_rules.specs.Statements.{Alone, as_statement, all_plain}
use Rattle.branch_rules.specs.Switches.{Clause, bodies_of, pure_tests, starts_with_break, nothing_runs, nothing_left}
use Rattle.branch_rules.specs.Vars.{VarsOf}
use Rattle.branch_parts.specs.Behind.{LeftBehind, left_behind, VarsBehind, vars_behind}
use Rattle.branch_switch.specs.Clauses.{clauses, is_pure_test, is_idle, all_idle, plain_bodies}
use Rattle.branch_switch.specs.Plans.{Switched, switched}
use Rattle.branch_switch.proofs.Forms.{is_discriminant_view, have_tests_view}
use Rattle.branch_switch.proofs.Keeping.{plain_bodies_declare}

idle_parts : (mark : ℕ) (ks : List Clause) → all_idle mark ks ≡ true → (nothing_runs ks ≡ true) × (pure_tests mark ks ≡ true) × (plain_bodies ks ≡ true)
idle_parts mark [] e = (refl, refl, refl)
idle_parts mark (k ∷ ks) e =
    let p = and_parts (is_idle mark k) (all_idle mark ks) e in
    let q = and_parts (starts_with_break k.body) (is_pure_test mark k && all_plain k.body) p.0 in
    let r = and_parts (is_pure_test mark k) (all_plain k.body) q.1 in
    let h = idle_parts mark ks p.1 in
    (and_from (starts_with_break k.body) (nothing_runs ks) q.0 h.0, and_from (is_pure_test mark k) (pure_tests mark ks) r.0 h.1, and_from (all_plain k.body) (plain_bodies ks) r.1 h.2)

-- what is left of the discriminant, and the `var` names of the cases
pub idle_switched : (mark : ℕ) (span : Span) (rs : List Span) (d e : Expr) (cs : List SwitchCase) (o a b : Forest) (gs : Forest) (s : Stmt) → all_idle mark (clauses cs) ≡ true → o ≡ ε → e ≡ d → LeftBehind mark (expr_tree e) o a → gs ≡ bodies_of (clauses cs) → VarsBehind gs a b → stmt_tree s ≡ as_statement rs b → Switched mark span (expr_tree d) (clauses cs) s
idle_switched mark span rs d e cs o a b gs s idle none same (left_behind {c = c} {es = es} alone f) at_bodies (vars_behind {vs = vs} vars g) at =
    let h = idle_parts mark (clauses cs) idle in
    switched rs
    (nothing_left (span ∷ []) (expr_tree d) (clauses cs) (is_discriminant_view d) (have_tests_view cs) h.1 h.0 (plain_bodies_declare (clauses cs) h.2) (subst (λ x. Alone mark c (expr_tree x) es) same alone) (subst (λ x. VarsOf x vs) at_bodies vars))
    (at ∙ ap (as_statement rs) (g ∙ ap (λ x. joined x vs) (f ∙ ap (λ x. joined x es) none)))
