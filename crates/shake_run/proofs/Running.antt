-- A pass that tells what the options say is the pass that they name.
use Rattle.std.proofs.Common.{ℕ, ◌≡◌, true, refl, sym, ap, subst, ◌∙◌, List, map, string_bytes, IfOk, Result}
use Rattle.std.proofs.lemmas.Result.{IfOk-weaker}
use Rattle.swc_ast.specs.Core.{IsCore}
use Rattle.swc_ast.specs.Marks.{mark_number}
use Rattle.swc_ast.specs.Resolved.{IsResolved}
use Rattle.swc_ast.specs.Run.{Same}
use Rattle.swc_ast.specs.Tree.{Text, Tree}
use Rattle.swc_ast.specs.Valid.{valid}
use Rattle.swc_ast.specs.declared.names.Mark.{Mark}
use Rattle.swc_pass.specs.Pass.{PassSpec, IsFor, Keeps}
use Rattle.carry_rules.specs.Carry.{Pass as Carried, constants, inlines}
use Rattle.carry_proofs.specs.Propagation.{propagation_spec}
use Rattle.swc_expr.specs.Simplified.{simplify_spec}
use Rattle.swc_branch.specs.Removed.{remove_spec}
use Rattle.swc_dce.specs.Configured.{told}
use Rattle.swc_dce.specs.Shaken.{Told, shake_spec}
use Rattle.swc_dce.specs.declared.config.Config.{Config}
use Rattle.swc_json_parse.specs.Answers.{Parsed}
use Rattle.swc_pass.specs.Chain.{chained}
use Rattle.swc_pass.specs.Repeat.{repeated}
use Rattle.swc_optimization.specs.Optimizer.{optimize_spec}
use Rattle.swc_optimization.specs.Simplifier.{rounds_spec, Simplifying, Simplifies}
use Rattle.shake_run.specs.Passes.{told_by, json_spec, pass_of, pass_by}
use Rattle.shake_options.specs.declared.options.Options.{Options}
use Rattle.shake_options.specs.declared.options.PassName.{PassName}
use Rattle.shake_options.specs.declared.options.PassName.TheVariants.{Expr, Branch, Dce, Simplify, Optimize, Const, Inline, Json}

module _ (mark : Mark) (o : Options) (retained : List Text) where
  by_name : {n : PassName} → o.pass ≡ n → pass_of n (told_by mark o retained) o.max_rounds o.min_cost ≡ pass_by mark o retained
  by_name is = ap (λ n. pass_of n (told_by mark o retained) o.max_rounds o.min_cost) (sym is)

  pub is_expr : {s : Mark} → o.pass ≡ Expr → s ≡ mark → simplify_spec s ≡ pass_by mark o retained
  is_expr is e = ap simplify_spec e ∙ by_name is

  pub is_branch : {s : Mark} → o.pass ≡ Branch → s ≡ mark → remove_spec s ≡ pass_by mark o retained
  is_branch is e = ap remove_spec e ∙ by_name is

  pub is_dce : {s : Told} → o.pass ≡ Dce → s ≡ told_by mark o retained → shake_spec s ≡ pass_by mark o retained
  is_dce is e = ap shake_spec e ∙ by_name is

  pub is_simplify : {s : Told} {most : ℕ} → o.pass ≡ Simplify → s ≡ told_by mark o retained → most ≡ o.max_rounds → rounds_spec s most ≡ pass_by mark o retained
  is_simplify {s} {most} is e f = ap (λ x. rounds_spec x most) e ∙ (ap (rounds_spec (told_by mark o retained)) f ∙ by_name is)

  -- what rounds of an optimizer with these settings answer
  pub is_optimize : {s : (Unit {0} × (Told × ℕ)) × ℕ} {t : Told} {most : ℕ} → o.pass ≡ Optimize → s ≡ ((tt, (t, most)), most) → t ≡ told_by mark o retained → most ≡ o.max_rounds → repeated (chained (propagation_spec inlines) (rounds_spec s.0.1.0 s.0.1.1)) s.1 ≡ pass_by mark o retained
  is_optimize {s} {t} {most} is e f g =
      ap (λ x. repeated (chained (propagation_spec inlines) (rounds_spec x.0.1.0 x.0.1.1)) x.1) e
      ∙ (ap (λ x. optimize_spec x most) f ∙ (ap (optimize_spec (told_by mark o retained)) g ∙ by_name is))

  -- and that its rounds are for modules with the mark
  pub for_optimize : {s : (Unit {0} × (Told × ℕ)) × ℕ} {t : Told} {most : ℕ} → s ≡ ((tt, (t, most)), most) → t ≡ told_by mark o retained → mark_number mark ≡ mark_number s.0.1.0.mark
  for_optimize {s} {t} {most} e f = sym (ap (λ x. mark_number x.0.1.0.mark) e ∙ ap (λ x. mark_number x.mark) f)

  pub is_const : o.pass ≡ Const → propagation_spec constants ≡ pass_by mark o retained
  is_const is = by_name is

  pub is_inline : o.pass ≡ Inline → propagation_spec inlines ≡ pass_by mark o retained
  is_inline is = by_name is

  pub is_json : {least : ℕ} → o.pass ≡ Json → least ≡ o.min_cost → json_spec least ≡ pass_by mark o retained
  is_json is e = ap json_spec e ∙ by_name is

  -- what a configuration tells that has these options
  pub told_is : (c : Config) → c.top_level ≡ o.top_level → map string_bytes c.top_retain.items ≡ retained → c.preserve_imports_with_side_effects ≡ o.preserve_imports_with_side_effects → told mark c ≡ told_by mark o retained
  told_is c a b d = rw (a, b, d) refl

-- what a pass answers, the same pass does
pub answers_as : {A E : Type 0} (f : A → Tree) (r : Result A E) (t : Tree) {p q : PassSpec} → p ≡ q → IfOk r (λ x. p.answers t (f x)) → IfOk r (λ x. q.answers t (f x))
answers_as f r t is a = subst (λ q. IfOk r (λ x. q.answers t (f x))) is a

-- rounds are an answer of the simplifier, however many they are and whether or not the last one changed nothing
pub rounds_answer : {A E : Type 0} (f : A → Tree) (r : Result A E) (t : Tree) (s : Told) (most : ℕ) (now : Simplifying) → IfOk r (λ x. Simplifies s most now t (f x)) → IfOk r (λ x. (rounds_spec s most).answers t (f x))
rounds_answer f r t s most now a = IfOk-weaker r _ _ (λ x k. (now.rounds, now.reached, k.rounds)) a

-- what literals are replaced in stays resolved
pub stays_resolved : {A E : Type 0} (f : A → Tree) (r : Result A E) (least n : ℕ) (t : Tree) → IfOk r (λ x. Parsed least t (f x)) → IfOk r (λ x. IsResolved n t → IsResolved n (f x))
stays_resolved f r least n t a = IfOk-weaker r _ _ (λ x k. k.resolved n) a

-- what an answer keeps by the laws of its pass, for modules with a mark that the pass is for: it does the same, and stays resolved, valid
-- and in the core

pub keeps_same : {A E : Type 0} (f : A → Tree) (r : Result A E) {p q : PassSpec} (D : Type 0) (n : ℕ) (t : Tree) → p ≡ q → IfOk r (λ x. Keeps p t (f x)) → IsFor p.mark n → IfOk r (λ x. D → IsResolved n t → IsCore t → Same n q.loads t (f x))
keeps_same f r D n t is a for = subst (λ q. IfOk r (λ x. D → IsResolved n t → IsCore t → Same n q.loads t (f x))) is (IfOk-weaker r _ _ (λ x k d i c. k.same n for i c) a)

pub keeps_resolved : {A E : Type 0} (f : A → Tree) (r : Result A E) (p : PassSpec) (n : ℕ) (t : Tree) → IfOk r (λ x. Keeps p t (f x)) → IsFor p.mark n → IfOk r (λ x. IsResolved n t → IsResolved n (f x))
keeps_resolved f r p n t a for = IfOk-weaker r _ _ (λ x k i. k.resolved n for i) a

pub keeps_valid : {A E : Type 0} (f : A → Tree) (r : Result A E) (p : PassSpec) (n : ℕ) (t : Tree) → IfOk r (λ x. Keeps p t (f x)) → IsFor p.mark n → IfOk r (λ x. IsResolved n t → valid t ≡ true → valid (f x) ≡ true)
keeps_valid f r p n t a for = IfOk-weaker r _ _ (λ x k i v. k.valid n for i v) a

pub keeps_core : {A E : Type 0} (f : A → Tree) (r : Result A E) (p : PassSpec) (n : ℕ) (t : Tree) → IfOk r (λ x. Keeps p t (f x)) → IsFor p.mark n → IfOk r (λ x. IsResolved n t → IsCore t → IsCore (f x))
keeps_core f r p n t a for = IfOk-weaker r _ _ (λ x k i c. k.core n for i c) a
