-- A `switch` of which `default` alone does something.
use Rattle.std.proofs.Common.{◌≡◌, ℕ, Bool, true, false, not, ◌&&◌, ◌||◌, List, [], ◌∷◌, ◌++◌, take, drop, refl, sym, ap, subst, ◌∙◌}
use Rattle.std.proofs.lemmas.Bool.{and_parts, and_from, or_right, false≢true}
use Rattle.swc_ast.specs.declared.Span.{Span}
use Rattle.swc_ast.specs.declared.expressions.Expr.{Expr}
use Rattle.swc_ast.specs.declared.statements.Stmt.{Stmt}
use Rattle.swc_ast.specs.declared.statements.SwitchCase.{SwitchCase}
use Rattle.swc_ast.specs.Scope.{joined, vars_all}
use Rattle.swc_ast.specs.Tree.{Block, Tree, node, Forest, ε, ◌⊳◌}
use Rattle.swc_ast.specs.Views.{expr_tree, stmt_tree}
use Rattle.swc_utils.specs.Pure.{pure, no_trees}
use Rattle.swc_utils.proofs.Chains.{joined_none}
use Rattle.branch_rules.specs.Statements.{Alone, as_statement, all_plain, all_give_nothing}
use Rattle.branch_rules.specs.Switches.{Clause, bodies_of, switch_tree, have_tests, is_discriminant, pure_tests, no_default, all_empty, SwitchStep, only_default, only_default_apart}
use Rattle.branch_parts.specs.Behind.{LeftBehind, left_behind}
use Rattle.branch_switch.specs.Clauses.{clauses}
use Rattle.branch_switch.specs.Defaults.{falls_through, all_fall_through, is_alone, DefaultAlone}
use Rattle.branch_switch.specs.Kept.{kept, all_fit, none_goes}
use Rattle.branch_switch.specs.Plans.{Switched, switched}
use Rattle.branch_switch.proofs.Forms.{is_discriminant_view, have_tests_view, bodies_joined, clauses_parted}
use Rattle.branch_switch.proofs.Keeping.{unbroken, kept_declared, kept_reached, none_gone}

pub planned_default : (mark : ℕ) (cs : List SwitchCase) (i : ℕ) → (all_fall_through mark (clauses (take i cs)) && is_alone (clauses (drop i cs))) ≡ true → DefaultAlone mark cs
planned_default mark cs i e = record { place = i; alone = e }

-- what the tests and the statements of the cases in front are
record Front (mark : ℕ) (fs : List Clause) : Type 0 where
  pure_front : pure_tests mark fs ≡ true
  none_default : no_default fs ≡ true
  empty_front : all_empty fs ≡ true
  no_bodies : bodies_of fs ≡ ε

no_tree : (ts : Forest) → no_trees ts ≡ true → ts ≡ ε
no_tree ε e = refl
no_tree (t ⊳ ts) e = absurd (false≢true e)

front : (mark : ℕ) (fs : List Clause) → all_fall_through mark fs ≡ true → Front mark fs
front mark [] e = record { pure_front = refl; none_default = refl; empty_front = refl; no_bodies = refl }
front mark (k ∷ fs) e =
    let p = and_parts (falls_through mark k) (all_fall_through mark fs) e in
    let q = and_parts (not k.is_default) (pure mark k.test && no_trees k.body) p.0 in
    let r = and_parts (pure mark k.test) (no_trees k.body) q.1 in
    let h = front mark fs p.1 in
    record {
      pure_front = and_from (k.is_default || pure mark k.test) (pure_tests mark fs) (or_right k.is_default (pure mark k.test) r.0) h.pure_front;
      none_default = and_from (not k.is_default) (no_default fs) q.0 h.none_default;
      empty_front = and_from (no_trees k.body) (all_empty fs) r.1 h.empty_front;
      no_bodies = ap (λ b. joined b (bodies_of fs)) (no_tree k.body r.1) ∙ h.no_bodies;
    }

-- a `default` that may be opened
data Last : List Clause → Type 0 where
  last : (k : Clause) → k.is_default ≡ true → all_fit false k.body ≡ true → none_goes false k.body ≡ true → Last (k ∷ [])

the_last : (ks : List Clause) → is_alone ks ≡ true → Last ks
the_last [] e = absurd (false≢true e)
the_last (k ∷ []) e =
    let p = and_parts k.is_default (all_fit false k.body && none_goes false k.body) e in
    let q = and_parts (all_fit false k.body) (none_goes false k.body) p.1 in
    last k p.0 q.0 q.1
the_last (k ∷ j ∷ ks) e = absurd (false≢true e)

pure_both : (mark : ℕ) (fs ks : List Clause) → pure_tests mark fs ≡ true → pure_tests mark ks ≡ true → pure_tests mark (fs ++ ks) ≡ true
pure_both mark [] ks e f = f
pure_both mark (k ∷ fs) ks e f = let p = and_parts (k.is_default || pure mark k.test) (pure_tests mark fs) e in and_from (k.is_default || pure mark k.test) (pure_tests mark (fs ++ ks)) p.0 (pure_both mark fs ks p.1 f)

default_pure : (mark : ℕ) (k : Clause) → k.is_default ≡ true → pure_tests mark (k ∷ []) ≡ true
default_pure mark k e = ap (λ b. (b || pure mark k.test) && true) e

-- the statements are those of `default`
its_body : (fs : List Clause) (k : Clause) → bodies_of fs ≡ ε → bodies_of (fs ++ k ∷ []) ≡ k.body
its_body fs k e = bodies_joined fs (k ∷ []) ∙ (ap (λ b. joined b (joined k.body ε)) e ∙ joined_none k.body)

beside : (mark : ℕ) (ss : List Span) (d : Tree) (fs ks : List Clause) {c : Bool} {es : Forest} → is_discriminant d ≡ true → have_tests (fs ++ ks) ≡ true → Front mark fs → Last ks → Alone mark c d es → all_plain (kept false (bodies_of (fs ++ ks))) ≡ true → all_give_nothing (kept false (bodies_of (fs ++ ks))) ≡ true → SwitchStep mark (switch_tree ss d (fs ++ ks)) (joined es (kept false (bodies_of (fs ++ ks))))
beside mark ss d fs ks {c} {es} is_d tests h (last k e f g) alone plain gives =
    let body = its_body fs k h.no_bodies in
    subst (λ b. SwitchStep mark (switch_tree ss d (fs ++ k ∷ [])) (joined es (kept false b))) (sym body)
    (only_default ss d fs k is_d tests (pure_both mark fs (k ∷ []) h.pure_front (default_pure mark k e)) h.none_default h.empty_front e alone (unbroken k.body f) (ap vars_all (none_gone false k.body g)) (kept_declared false k.body f) (kept_reached k.body)
    (subst (λ b. all_plain (kept false b) ≡ true) body plain) (subst (λ b. all_give_nothing (kept false b) ≡ true) body gives))

apart : (mark : ℕ) (ss us : List Span) (d : Tree) (fs ks : List Clause) {c : Bool} {es : Forest} → is_discriminant d ≡ true → have_tests (fs ++ ks) ≡ true → Front mark fs → Last ks → Alone mark c d es → SwitchStep mark (switch_tree ss d (fs ++ ks)) (joined es (node Block us (kept false (bodies_of (fs ++ ks))) ⊳ ε))
apart mark ss us d fs ks {c} {es} is_d tests h (last k e f g) alone =
    let body = its_body fs k h.no_bodies in
    subst (λ b. SwitchStep mark (switch_tree ss d (fs ++ k ∷ [])) (joined es (node Block us (kept false b) ⊳ ε))) (sym body)
    (only_default_apart ss us d fs k is_d tests (pure_both mark fs (k ∷ []) h.pure_front (default_pure mark k e)) h.none_default h.empty_front e alone (unbroken k.body f) (ap vars_all (none_gone false k.body g)) (kept_declared false k.body f) (kept_reached k.body))

-- in the words of the code

module _ (mark : ℕ) (span : Span) (rs us : List Span) (d e : Expr) (cs : List SwitchCase) (h : DefaultAlone mark cs) where
  parts : (all_fall_through mark (clauses (take h.place cs)) ≡ true) × (is_alone (clauses (drop h.place cs)) ≡ true)
  parts = and_parts (all_fall_through mark (clauses (take h.place cs))) (is_alone (clauses (drop h.place cs))) h.alone

  tests : have_tests (clauses (take h.place cs) ++ clauses (drop h.place cs)) ≡ true
  tests = subst (λ x. have_tests x ≡ true) (sym (clauses_parted h.place cs)) (have_tests_view cs)

  pub beside_switched : (o a body st b : Forest) (s : Stmt) → o ≡ ε → e ≡ d → LeftBehind mark (expr_tree e) o a → body ≡ bodies_of (clauses cs) → st ≡ kept false body → all_plain st ≡ true → all_give_nothing st ≡ true → b ≡ joined a st → stmt_tree s ≡ as_statement rs b → Switched mark span (expr_tree d) (clauses cs) s
  beside_switched o a body st b s none same (left_behind {c = c} {es = es} alone f) at_body at_kept plain gives at_all at =
      let is : st ≡ kept false (bodies_of (clauses cs)) = at_kept ∙ ap (kept false) at_body in
      let whole = ap (λ ks. kept false (bodies_of ks)) (sym (clauses_parted h.place cs)) in
      switched rs
      (subst (λ ks. SwitchStep mark (switch_tree (span ∷ []) (expr_tree d) ks) (joined es (kept false (bodies_of ks)))) (clauses_parted h.place cs)
      (beside mark (span ∷ []) (expr_tree d) (clauses (take h.place cs)) (clauses (drop h.place cs)) (is_discriminant_view d) tests (front mark (clauses (take h.place cs)) parts.0) (the_last (clauses (drop h.place cs)) parts.1) (subst (λ x. Alone mark c (expr_tree x) es) same alone)
      (subst (λ ts. all_plain ts ≡ true) (is ∙ whole) plain) (subst (λ ts. all_give_nothing ts ≡ true) (is ∙ whole) gives)))
      (at ∙ ap (as_statement rs) (at_all ∙ (ap (λ x. joined x st) (f ∙ ap (λ x. joined x es) none) ∙ ap (joined es) is)))

  pub apart_switched : (o a body st b : Forest) (s : Stmt) → o ≡ ε → e ≡ d → LeftBehind mark (expr_tree e) o a → body ≡ bodies_of (clauses cs) → st ≡ kept false body → b ≡ joined a (node Block us st ⊳ ε) → stmt_tree s ≡ as_statement rs b → Switched mark span (expr_tree d) (clauses cs) s
  apart_switched o a body st b s none same (left_behind {c = c} {es = es} alone f) at_body at_kept at_all at =
      let is : st ≡ kept false (bodies_of (clauses cs)) = at_kept ∙ ap (kept false) at_body in
      switched rs
      (subst (λ ks. SwitchStep mark (switch_tree (span ∷ []) (expr_tree d) ks) (joined es (node Block us (kept false (bodies_of ks)) ⊳ ε))) (clauses_parted h.place cs)
      (apart mark (span ∷ []) us (expr_tree d) (clauses (take h.place cs)) (clauses (drop h.place cs)) (is_discriminant_view d) tests (front mark (clauses (take h.place cs)) parts.0) (the_last (clauses (drop h.place cs)) parts.1) (subst (λ x. Alone mark c (expr_tree x) es) same alone)))
      (at ∙ ap (as_statement rs) (at_all ∙ (ap (λ x. joined x (node Block us st ⊳ ε)) (f ∙ ap (λ x. joined x es) none) ∙ ap (λ x. joined es (node Block us x ⊳ ε)) is)))
