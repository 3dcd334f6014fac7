-- What is planned from what is found.
use Rattle.std.proofs.Common.{◌≡◌, ℕ, ◌+◌, ◌<◌, true, false, not, ◌&&◌, List, [], ◌∷◌, ◌++◌, suc, length, take, drop, get_or, refl, sym, ap, subst, ◌∙◌}
use Rattle.std.proofs.Math.Seq.{drop-cons}
use Rattle.std.proofs.lemmas.Bool.{and_parts, and_from}
use Rattle.std.proofs.lemmas.List.{map-append, take_more}
use Rattle.swc_ast.specs.declared.statements.SwitchCase.{SwitchCase}
use Rattle.swc_ast.specs.Tree.{Tree}
use Rattle.swc_ast.specs.Value.{Value}
use Rattle.branch_rules.specs.Statements.{all_plain}
use Rattle.branch_rules.specs.Switches.{Clause, FixedValue, no_default, Passed, IsMet, Selects, by_test, by_default}
use Rattle.branch_switch.specs.Clauses.{clause, clauses, plain_bodies}
use Rattle.branch_switch.specs.Kept.{bodies_fit}
use Rattle.branch_switch.specs.Plans.{Known, SelectsNone, SelectsFrom, Leads, StartsBehind}
use Rattle.branch_switch.proofs.Forms.{clauses_parted}

pub starts : (mark : ℕ) (v : Value) (d : Tree) (cs : List SwitchCase) (i : ℕ) → (plain_bodies (clauses (take i cs)) && bodies_fit false (clauses (drop i cs))) ≡ true → Selects mark v (clauses (take i cs)) (clauses (drop i cs)) → Known mark d v → SelectsFrom mark d (clauses (take i cs)) (clauses (drop i cs))
starts mark v d cs i e h k =
    let p = and_parts (plain_bodies (clauses (take i cs))) (bodies_fit false (clauses (drop i cs))) e in
    record { from_value = v; from_known = k; selects = h; front_plain = p.0; back_fits = p.1 }

pub nothing : (mark : ℕ) (v : Value) (d : Tree) (ks : List Clause) → plain_bodies ks ≡ true → Passed mark v ks → no_default ks ≡ true → Known mark d v → SelectsNone mark d ks
nothing mark v d ks e p n k = record { none_value = v; none_known = k; none_passed = p; without_default = n; none_plain = e }

pub behind : (mark : ℕ) (v : Value) (d : Tree) (cs : List SwitchCase) (i : ℕ) → FixedValue mark d v → Leads mark v cs i → StartsBehind mark d (clauses (take i cs))
behind mark v d cs i e h = record { behind_value = v; behind_known = e; behind_passed = h.leads_passed; behind_named = h.leads_named; behind_plain = h.leads_plain }

-- from a case on
here : (cs : List SwitchCase) (i : ℕ) (c : SwitchCase) → i < length cs → c ≡ get_or cs i c → drop i cs ≡ c ∷ drop (suc i) cs
here cs i c within at = drop-cons cs i c within ∙ ap (λ x. x ∷ drop (suc i) cs) (sym at)

pub met_here : (mark : ℕ) (v : Value) (cs : List SwitchCase) (i : ℕ) (c : SwitchCase) → i < length cs → c ≡ get_or cs i c → Passed mark v (clauses (take i cs)) → IsMet mark v (clause c) → Selects mark v (clauses (take i cs)) (clauses (drop i cs))
met_here mark v cs i c within at h m = subst (λ ds. Selects mark v (clauses (take i cs)) (clauses ds)) (sym (here cs i c within at)) (by_test (clauses (take i cs)) (clause c) (clauses (drop (suc i) cs)) h m)

pub default_here : (mark : ℕ) (v : Value) (cs : List SwitchCase) (i : ℕ) (c : SwitchCase) → i < length cs → c ≡ get_or cs i c → no_default (clauses (take i cs)) ≡ true → (clause c).is_default ≡ true → Passed mark v (clauses cs) → Selects mark v (clauses (take i cs)) (clauses (drop i cs))
default_here mark v cs i c within at n e h =
    subst (λ ds. Selects mark v (clauses (take i cs)) (clauses ds)) (sym (here cs i c within at))
    (by_default (clauses (take i cs)) (clause c) (clauses (drop (suc i) cs)) (subst (Passed mark v) (sym (clauses_parted i cs) ∙ ap (λ ds. clauses (take i cs) ++ clauses ds) (here cs i c within at)) h) n e)

no_default_both : (fs ks : List Clause) → no_default fs ≡ true → no_default ks ≡ true → no_default (fs ++ ks) ≡ true
no_default_both [] ks e f = f
no_default_both (k ∷ fs) ks e f = let p = and_parts (not k.is_default) (no_default fs) e in and_from (not k.is_default) (no_default (fs ++ ks)) p.0 (no_default_both fs ks p.1 f)

pub no_default_more : (cs : List SwitchCase) (i : ℕ) (c : SwitchCase) → i < length cs → c ≡ get_or cs i c → no_default (clauses (take i cs)) ≡ true → (clause c).is_default ≡ false → no_default (clauses (take (i + 1) cs)) ≡ true
no_default_more cs i c within at e f =
    subst (λ ks. no_default ks ≡ true) (sym (ap clauses (take_more cs i c within ∙ ap (λ y. take i cs ++ y ∷ []) (sym at)) ∙ map-append clause (take i cs) (c ∷ [])))
    (no_default_both (clauses (take i cs)) (clause c ∷ []) e (and_from (not (clause c).is_default) true (ap not f) refl))

plain_both : (fs ks : List Clause) → plain_bodies fs ≡ true → plain_bodies ks ≡ true → plain_bodies (fs ++ ks) ≡ true
plain_both [] ks e f = f
plain_both (k ∷ fs) ks e f = let p = and_parts (all_plain k.body) (plain_bodies fs) e in and_from (all_plain k.body) (plain_bodies (fs ++ ks)) p.0 (plain_both fs ks p.1 f)

pub plain_more : (cs : List SwitchCase) (i : ℕ) (c : SwitchCase) → i < length cs → c ≡ get_or cs i c → plain_bodies (clauses (take i cs)) ≡ true → all_plain (clause c).body ≡ true → plain_bodies (clauses (take (i + 1) cs)) ≡ true
plain_more cs i c within at e f =
    subst (λ ks. plain_bodies ks ≡ true) (sym (ap clauses (take_more cs i c within ∙ ap (λ y. take i cs ++ y ∷ []) (sym at)) ∙ map-append clause (take i cs) (c ∷ [])))
    (plain_both (clauses (take i cs)) (clause c ∷ []) e (and_from (all_plain (clause c).body) true f refl))
