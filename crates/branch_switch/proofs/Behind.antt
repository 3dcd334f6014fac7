-- A `switch` of which cases in front are known to be passed.
use Rattle.std.proofs.Common.{◌≡◌, ℕ, ◌≤◌, true, List, [], ◌∷◌, length, take, drop, refl, sym, ap, ap₂, subst, ◌∙◌}
use Rattle.std.specs.declared.alloc.Global.{Global}
use Rattle.std.specs.declared.boxed.Box.{Box}
use Rattle.std.specs.declared.vec.Vec.{Vec}
use Rattle.swc_ast.specs.declared.Span.{Span}
use Rattle.swc_ast.specs.declared.declarations.Decl.TheViews.{roll-SwitchStmt, out-roll-SwitchStmt}
use Rattle.swc_ast.specs.declared.expressions.Expr.{Expr}
use Rattle.swc_ast.specs.declared.statements.Stmt.{Stmt}
use Rattle.swc_ast.specs.declared.statements.Stmt.TheVariants as in_stmt
use Rattle.swc_ast.specs.declared.statements.SwitchCase.{SwitchCase}
use Rattle.swc_ast.specs.Scope.{joined, declared}
use Rattle.swc_ast.specs.Tree.{Tree, Forest, ε, ◌⊳◌}
use Rattle.swc_ast.specs.Views.{expr_tree, stmt_tree}
use Rattle.swc_ast.proofs.Equations.{stmt_tree-Switch}
use Rattle.branch_rules.specs.Statements.{as_statement}
use Rattle.branch_rules.specs.Switches.{bodies_of, switch_tree, have_tests, SwitchStep, leading_go}
use Rattle.branch_rules.specs.Vars.{VarsOf}
use Rattle.branch_parts.specs.Behind.{VarsBehind, vars_behind}
use Rattle.branch_switch.specs.Clauses.{clauses}
use Rattle.branch_switch.specs.Plans.{Switched, switched, StartsBehind}
use Rattle.branch_switch.proofs.Forms.{by_clauses, is_discriminant_view, have_tests_view, bodies_joined, clauses_parted}
use Rattle.branch_switch.proofs.Keeping.{plain_bodies_declare, declared_behind}
use Rattle.branch_switch.proofs.Room.{rest_lighter}

-- a `switch` of the cases behind
pub rest_tree : (span : Span) (b : Box Expr Global) (cs : Vec SwitchCase Global) (d : Tree) (ks : List SwitchCase) → expr_tree b.value ≡ d → cs.items ≡ ks → stmt_tree (in_stmt.Switch (roll-SwitchStmt (record { span = span; discriminant = b; cases = cs }))) ≡ switch_tree (span ∷ []) d (clauses ks)
rest_tree span b cs d ks e f =
    stmt_tree-Switch _ ∙ (by_clauses _
    ∙ (ap (λ m. switch_tree (m.span ∷ []) (expr_tree m.discriminant.value) (clauses m.cases.items)) (out-roll-SwitchStmt (record { span = span; discriminant = b; cases = cs }))
    ∙ ap₂ (λ x xs. switch_tree (span ∷ []) x (clauses xs)) e f))

-- the `var` names of the cases in front, and a `switch` of those behind
pub behind_switched : (mark : ℕ) (span : Span) (rs us : List Span) (d : Expr) (cs : List SwitchCase) (i : ℕ) (o b gs ts : Forest) (t : Tree) (s : Stmt) → 1 ≤ i → i ≤ length cs → StartsBehind mark (expr_tree d) (clauses (take i cs)) → o ≡ ε → gs ≡ bodies_of (clauses (take i cs)) → VarsBehind gs o b → t ≡ switch_tree us (expr_tree d) (clauses (drop i cs)) → ts ≡ joined b (t ⊳ ε) → stmt_tree s ≡ as_statement rs ts → Switched mark span (expr_tree d) (clauses cs) s
behind_switched mark span rs us d cs i o b gs ts t s some within h none at_bodies (vars_behind {vs = vs} vars g) at_rest at_all at =
    let fs = clauses (take i cs) in
    let ks = clauses (drop i cs) in
    let gone = subst (λ x. VarsOf x vs) at_bodies vars in
    switched rs
    (subst (λ x. SwitchStep mark (switch_tree (span ∷ []) (expr_tree d) x) (joined vs (switch_tree us (expr_tree d) ks ⊳ ε))) (clauses_parted i cs)
    (leading_go (span ∷ []) us rs (expr_tree d) h.behind_value fs ks (is_discriminant_view d) (subst (λ x. have_tests x ≡ true) (sym (clauses_parted i cs)) (have_tests_view cs)) h.behind_known h.behind_passed h.behind_named
    (declared_behind (bodies_of fs) (bodies_of ks) (bodies_of ks) (plain_bodies_declare fs h.behind_plain) refl ∙ sym (ap declared (bodies_joined fs ks))) gone
    (rest_lighter mark h.behind_value (span ∷ []) us rs (expr_tree d) cs i ks some within h.behind_passed h.behind_named gone)))
    (at ∙ ap (as_statement rs) (at_all ∙ (ap (λ x. joined x (t ⊳ ε)) (g ∙ ap (λ x. joined x vs) none) ∙ ap (λ x. joined vs (x ⊳ ε)) at_rest)))
