-- Steps between expressions.
use Rattle.std.proofs.Common.{◌≡◌, ◌+◌, ◌*◌, if◌then◌else◌, ◌<◌, Bool, true, false, List, [], refl, sym, subst, ◌∙◌, arith}
use Rattle.std.proofs.lemmas.Bool.{false≢true}
use Rattle.swc_ast.specs.Labels.{is_expression}
use Rattle.swc_ast.specs.declared.Span.{Span}
use Rattle.swc_ast.specs.Tree.{Name, Label, Tree, node, Forest, ε, ◌⊳◌, label_of, expr}
use Rattle.swc_ast.specs.Scope.{vars}
use Rattle.swc_ast.specs.Valid.{valid}
use Rattle.swc_ast.specs.Core.{fits}
use Rattle.swc_ast.specs.Weight.{weight, weight_all, own_weight, test_weight, unreached, is_list, is_stopper, stays_behind, is_truth_or_absent}
use Rattle.static_proofs.specs.Names.{Within}
use Rattle.static_proofs.specs.Spares.{Spared}
use Rattle.static_proofs.specs.Lighter.{base_weight, Lowers}
use Rattle.static_proofs.specs.Step.{Step}
use Rattle.static_proofs.specs.Drawn.{lets_jumps_out, AllDrawn}
use Rattle.static_proofs.specs.Over.{Over}
use Rattle.static_proofs.proofs.Names.{within_none}
use Rattle.static_proofs.proofs.Spared.{spared_none}
use Rattle.static_proofs.proofs.Plain.{expression_plain, spares_plain}
use Rattle.static_proofs.proofs.Over.{built_keeps}

-- An expression declares no `var`, stops nothing, is no declaration and no list, and lets jumps out.
pub record Quiet (t : Tree) : Type 0 where
  pub no_vars : vars t ≡ []
  pub no_stopper : is_stopper t ≡ false
  pub no_stay : stays_behind t ≡ false
  pub no_list : is_list (label_of t) ≡ false
  pub out : lets_jumps_out (label_of t) ≡ true

quiet : {t : Tree} → vars t ≡ [] → is_stopper t ≡ false → stays_behind t ≡ false → is_list (label_of t) ≡ false → lets_jumps_out (label_of t) ≡ true → Quiet t
quiet a b c d e = record { no_vars = a; no_stopper = b; no_stay = c; no_list = d; out = e }

pub expression_quiet : (t : Tree) → is_expression (label_of t) ≡ true → Quiet t
expression_quiet (node (expr e) ss cs) h = quiet refl refl refl refl refl
expression_quiet (node l ss cs) h = absurd (false≢true h)

-- a step whose node is no list has no surplus
pub lowers_plain : {N : Type 0} {t u : Tree} → weight u < weight t → base_weight t ≡ weight t → is_truth_or_absent t ≡ false → is_stopper u ≡ false → stays_behind t ≡ false → Lowers N t u
lowers_plain {N} {t} {u} h b e s y = record {
  lower = h;
  lower_list = λ n. omega (arith, h, b);
  truth_kept = λ i. absurd (false≢true (sym e ∙ i));
  stopper_paid = λ i. absurd (false≢true (sym s ∙ i));
  stay_paid = λ i. absurd (false≢true (sym y ∙ i));
}

pub base_same : (t : Tree) → is_list (label_of t) ≡ false → base_weight t ≡ weight t
base_same (node l ss cs) h = by_list (is_list l) h
  where
    by_list : (b : Bool) → b ≡ false → own_weight l cs + test_weight l cs + weight_all cs ≡ own_weight l cs + test_weight l cs + (if b then 4 * unreached cs else 0) + weight_all cs
    by_list false e = omega arith
    by_list true e = absurd (false≢true (sym e))

pub expression_step : {N : Type 0} {P : Name → Type 0} {l : Label} {ss : List Span} {cs us : Forest} {u : Tree} → is_expression l ≡ true → is_expression (label_of u) ≡ true → is_truth_or_absent (node l ss cs) ≡ false → AllDrawn cs us → Over (valid (node l ss cs) ≡ true) (fits (node l ss cs) ≡ true) us (u ⊳ ε) → weight u < weight (node l ss cs) → Step N P (node l ss cs) u
expression_step {N} {P} {l} {ss} {cs} {us} {u} p q e d o h =
    let t = node l ss cs in
    let a = expression_quiet t p in
    let b = expression_quiet u q in
    record {
      keeps = built_keeps a.out (expression_plain t p) (expression_plain u q) (subst (λ xs. Within xs (vars t)) (sym b.no_vars) (within_none (vars t))) d o;
      spares = spares_plain (expression_plain t p) (expression_plain u q) (subst (λ xs. Spared P xs (vars u)) (sym a.no_vars) (spared_none (vars u)));
      lowers = lowers_plain h (base_same t a.no_list) e b.no_stopper a.no_stay;
    }
