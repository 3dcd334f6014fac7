-- Truths of one type, compared.
use Rattle.std.proofs.Common.{◌≡◌, ℕ, Bool, true, false, if◌then◌else◌, Option, Some, None, refl, sym, ap, ◌∙◌}
use Rattle.swc_ast.specs.Tree.{Tree}
use Rattle.swc_ast.specs.Value.{Truth}
use Rattle.swc_utils.specs.Known.{number, pure_truth, text, truth}
use Rattle.swc_utils.specs.Pure.{pure}
use Rattle.swc_utils.specs.Types.{type_of}
use Rattle.swc_utils.specs.declared.answers.ValueType.TheVariants.{Bool as TruthType}
use Rattle.expr_rules.specs.Equality.{alike_known, compared, equal_values, may_compare}
use Rattle.pass_rules.specs.Values.{truth_of_known, value_by_type, value_of}

truth_value : (mark : ℕ) (t : Tree) → type_of mark t ≡ Some TruthType → value_of mark t ≡ truth_of_known (truth mark t)
truth_value mark t h = ap (λ k. value_by_type k (truth mark t) (number mark t) (text mark t)) h

by_purity : (mark : ℕ) (t : Tree) (p : Bool) (o : Option Bool) → pure mark t ≡ p → truth_of_known (if p then o else None) ≡ compared mark t TruthType (truth_of_known o)
by_purity mark t true None h = refl
by_purity mark t false None h = refl
by_purity mark t true (Some b) h = sym (ap (λ q. if may_compare TruthType q (Truth b) then Some (Truth b) else None) h)
by_purity mark t false (Some b) h = sym (ap (λ q. if may_compare TruthType q (Truth b) then Some (Truth b) else None) h)

side : (mark : ℕ) (t : Tree) → type_of mark t ≡ Some TruthType → truth_of_known (pure_truth mark t) ≡ compared mark t TruthType (value_of mark t)
side mark t h = by_purity mark t (pure mark t) (truth mark t) refl ∙ sym (ap (compared mark t TruthType) (truth_value mark t h))

pub truths_alike : (mark : ℕ) (a b : Tree) → type_of mark a ≡ Some TruthType → type_of mark b ≡ Some TruthType → equal_values (truth_of_known (pure_truth mark a)) (truth_of_known (pure_truth mark b)) ≡ alike_known mark a b TruthType
truths_alike mark a b h k = ap (λ v. equal_values v (truth_of_known (pure_truth mark b))) (side mark a h) ∙ ap (equal_values (compared mark a TruthType (value_of mark a))) (side mark b k)
