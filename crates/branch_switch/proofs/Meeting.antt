-- What the test of a case is to a value, the case is.
use Rattle.std.proofs.Common.{◌≡◌, ℕ, false, sym, ap, subst, ◌∙◌}
use Rattle.swc_ast.specs.Tree.{Tree}
use Rattle.swc_ast.specs.Value.{Value}
use Rattle.swc_utils.specs.Pure.{pure}
use Rattle.branch_rules.specs.Switches.{Clause, FixedValue, none_passed, unequal}
use Rattle.branch_switch.specs.Values.{Compares, Meets}
use Rattle.branch_switch.specs.declared.selection.Meeting.{Meeting}
use Rattle.branch_switch.specs.declared.selection.Meeting.TheVariants as meeting

pub met_by : (mark : ℕ) (v : Value) (k : Clause) (t : Tree) (m : Meeting) → k.is_default ≡ false → k.test ≡ t → Compares mark v t m → Meets mark v k m
met_by mark v k t meeting.Unknown e f h = tt
met_by mark v k t meeting.Passed e f h = unequal k h.value e (ap (pure mark) f ∙ h.pure_test) (subst (λ x. FixedValue mark x h.value) (sym f) h.known) h.compared none_passed
met_by mark v k t meeting.Met e f h = record { no_default = e; met = record { value = h.value; pure_test = ap (pure mark) f ∙ h.pure_test; known = subst (λ x. FixedValue mark x h.value) (sym f) h.known; compared = h.compared } }
