-- A `switch` of which it is known what it selects.
use Rattle.std.proofs.Common.{◌≡◌, ℕ, ◌+◌, ◌<◌, true, false, List, [], ◌∷◌, ◌++◌, length, take, drop, get_or, sym, ap, subst, ◌∙◌}
use Rattle.std.proofs.lemmas.List.{map-append, take_more}
use Rattle.swc_ast.specs.declared.Span.{Span}
use Rattle.swc_ast.specs.declared.expressions.Expr.{Expr}
use Rattle.swc_ast.specs.declared.statements.Stmt.{Stmt}
use Rattle.swc_ast.specs.declared.statements.SwitchCase.{SwitchCase}
use Rattle.swc_ast.specs.Scope.{joined, declared}
use Rattle.swc_ast.specs.Tree.{Block, Tree, node, Forest, ε, ◌⊳◌}
use Rattle.swc_ast.specs.Value.{Value}
use Rattle.swc_ast.specs.Views.{expr_tree, stmt_tree}
use Rattle.branch_rules.specs.Statements.{as_statement}
use Rattle.branch_rules.specs.Switches.{Clause, bodies_of, switch_tree, have_tests, is_discriminant, Passed, none_passed, unequal, over_default, Selects, by_test, by_default, SwitchStep, selected_case, selected_default, none_selected}
use Rattle.branch_rules.specs.Vars.{VarsOf}
use Rattle.branch_parts.specs.Behind.{VarsBehind, vars_behind}
use Rattle.branch_switch.specs.Clauses.{clause, clauses, plain_bodies}
use Rattle.branch_switch.specs.Kept.{kept, gone, bodies_fit}
use Rattle.branch_switch.specs.Plans.{Switched, switched, Known, SelectsNone, SelectsFrom}
use Rattle.branch_switch.proofs.Forms.{is_discriminant_view, have_tests_view, bodies_joined, clauses_parted}
use Rattle.branch_switch.proofs.Keeping.{plain_bodies_declare, declared_behind, unbroken, kept_declared, kept_reached, bodies_fit_all}

-- cases that are passed one behind another
pub passed_both : (mark : ℕ) (v : Value) {fs ks : List Clause} → Passed mark v fs → Passed mark v ks → Passed mark v (fs ++ ks)
passed_both mark v none_passed i = i
passed_both mark v (unequal k w e f g h p) i = unequal k w e f g h (passed_both mark v p i)
passed_both mark v (over_default k e p) i = over_default k e (passed_both mark v p i)

pub passed_more : (mark : ℕ) (v : Value) (cs : List SwitchCase) (i : ℕ) (c : SwitchCase) → i < length cs → c ≡ get_or cs i c → Passed mark v (clauses (take i cs)) → Passed mark v (clause c ∷ []) → Passed mark v (clauses (take (i + 1) cs))
passed_more mark v cs i c within at h k =
    subst (Passed mark v) (sym (ap clauses (take_more cs i c within ∙ ap (λ y. take i cs ++ y ∷ []) (sym at)) ∙ map-append clause (take i cs) (c ∷ []))) (passed_both mark v h k)

-- no case
pub none_switched : (mark : ℕ) (span : Span) (rs : List Span) (d : Expr) (cs : List SwitchCase) (o b gs : Forest) (s : Stmt) → SelectsNone mark (expr_tree d) (clauses cs) → o ≡ ε → gs ≡ bodies_of (clauses cs) → VarsBehind gs o b → stmt_tree s ≡ as_statement rs b → Switched mark span (expr_tree d) (clauses cs) s
none_switched mark span rs d cs o b gs s h none at_bodies (vars_behind {vs = vs} vars g) at =
    switched rs
    (none_selected (span ∷ []) (expr_tree d) h.none_value (clauses cs) (is_discriminant_view d) (have_tests_view cs) h.none_known.pure_value h.none_known.known_value h.none_passed h.without_default (plain_bodies_declare (clauses cs) h.none_plain) (subst (λ x. VarsOf x vs) at_bodies vars))
    (at ∙ ap (as_statement rs) (g ∙ ap (λ x. joined x vs) none))

-- the rule for a case that is selected
selected : (mark : ℕ) (ss us : List Span) (d : Tree) (v : Value) (fs ks : List Clause) (vs : Forest) → is_discriminant d ≡ true → have_tests (fs ++ ks) ≡ true → Known mark d v → Selects mark v fs ks → plain_bodies fs ≡ true → bodies_fit false ks ≡ true → VarsOf (joined (bodies_of fs) (gone false (bodies_of ks))) vs → SwitchStep mark (switch_tree ss d (fs ++ ks)) (node Block us (joined vs (kept false (bodies_of ks))) ⊳ ε)
selected mark ss us d v fs ks vs is_d tests known (by_test gs k ls passed met) plain fit vars =
    let all = bodies_fit_all false (k ∷ ls) fit in
    selected_case ss us d v met.met.value fs k ls is_d tests known.pure_value known.known_value passed met.no_default met.met.pure_test met.met.known met.met.compared (unbroken (bodies_of (k ∷ ls)) all)
    (declared_behind (bodies_of fs) (kept false (bodies_of (k ∷ ls))) (bodies_of (k ∷ ls)) (plain_bodies_declare fs plain) (kept_declared false (bodies_of (k ∷ ls)) all) ∙ sym (ap declared (bodies_joined fs (k ∷ ls)))) vars (kept_reached (bodies_of (k ∷ ls)))
selected mark ss us d v fs ks vs is_d tests known (by_default gs k ls passed none is_default) plain fit vars =
    let all = bodies_fit_all false (k ∷ ls) fit in
    selected_default ss us d v fs k ls is_d tests known.pure_value known.known_value passed none is_default (unbroken (bodies_of (k ∷ ls)) all)
    (declared_behind (bodies_of fs) (kept false (bodies_of (k ∷ ls))) (bodies_of (k ∷ ls)) (plain_bodies_declare fs plain) (kept_declared false (bodies_of (k ∷ ls)) all) ∙ sym (ap declared (bodies_joined fs (k ∷ ls)))) vars (kept_reached (bodies_of (k ∷ ls)))

-- a block of the `var` names of what goes, and of what stays
pub from_switched : (mark : ℕ) (span : Span) (us : List Span) (d : Expr) (cs : List SwitchCase) (i : ℕ) (o b fs ks gs st : Forest) (s : Stmt) → SelectsFrom mark (expr_tree d) (clauses (take i cs)) (clauses (drop i cs)) → fs ≡ bodies_of (clauses (take i cs)) → ks ≡ bodies_of (clauses (drop i cs)) → gs ≡ joined fs (gone false ks) → st ≡ kept false ks → o ≡ ε → VarsBehind gs o b → stmt_tree s ≡ node Block us (joined b st) → Switched mark span (expr_tree d) (clauses cs) s
from_switched mark span us d cs i o b fs ks gs st s h at_front at_back at_gone at_kept none (vars_behind {vs = vs} vars f) at =
    switched us
    (subst (λ x. SwitchStep mark (switch_tree (span ∷ []) (expr_tree d) x) (node Block us (joined vs (kept false (bodies_of (clauses (drop i cs))))) ⊳ ε)) (clauses_parted i cs)
    (selected mark (span ∷ []) us (expr_tree d) h.from_value (clauses (take i cs)) (clauses (drop i cs)) vs (is_discriminant_view d) (subst (λ x. have_tests x ≡ true) (sym (clauses_parted i cs)) (have_tests_view cs)) h.from_known h.selects h.front_plain h.back_fits
    (subst (λ x. VarsOf x vs) (at_gone ∙ (ap (λ x. joined x (gone false ks)) at_front ∙ ap (λ x. joined (bodies_of (clauses (take i cs))) (gone false x)) at_back)) vars)))
    (at ∙ (ap (λ x. node Block us (joined x st)) (f ∙ ap (λ x. joined x vs) none) ∙ ap (λ x. node Block us (joined vs x)) (at_kept ∙ ap (kept false) at_back)))
