-- A loop in whose body a `do` runs its body once keeps and spares what a pass may not touch, and is lighter.
use Rattle.std.proofs.Common.{◌≡◌, ℕ, ◌+◌, ◌≤◌, ◌<◌, Bool, true, false, not, ◌&&◌, ◌||◌, if◌then◌else◌, List, [], Some, None, refl, sym, ap, ap₂, subst, ◌∙◌, arith, append-nil, ◌⊎◌, inl, inr}
use Rattle.std.proofs.lemmas.Bool.{and_parts, and_from, false≢true}
use Rattle.swc_ast.specs.declared.Span.{Span}
use Rattle.swc_ast.specs.Tree.{Text, Name, Block, Throw, Return, If, While, DoWhile, For, Labeled, Break, Continue, Switch, CaseBody, Try, Tree, node, Forest, ε, ◌⊳◌, label_of, children_of}
use Rattle.swc_ast.specs.Scope.{vars, vars_all, Declared, is_found, list_binds}
use Rattle.swc_ast.specs.Meaning.{head_names}
use Rattle.swc_ast.specs.Valid.{is_identifier, valid, valid_all, is_listed, none_listed}
use Rattle.swc_ast.specs.Resolved.{first_names, one_if, own_scopes, Targets, in_loop as loop_targets, below, aimed, apart}
use Rattle.swc_ast.specs.Core.{once_each, none_in, list_names, good_list, fits, fits_all}
use Rattle.swc_ast.specs.Weight.{own_weight, weight, weight_all, is_stopper, stays_behind, unreached, is_truth_or_absent}
use Rattle.static_proofs.specs.Drawn.{is_plain_statement}
use Rattle.static_proofs.specs.Keeps.{Keeps, AllKeep, none_kept, more_kept}
use Rattle.static_proofs.specs.Lighter.{Weighed, AllWeighed, none_weighed, more_weighed}
use Rattle.static_proofs.specs.Names.{Within}
use Rattle.static_proofs.specs.Step.{Step}
use Rattle.static_proofs.specs.Together.{without_own, KeepsAll}
use Rattle.static_proofs.proofs.Inside.{keeps_inside}
use Rattle.static_proofs.proofs.Kept.{keeps_itself}
use Rattle.static_proofs.proofs.Lighter.{Inside, same_node, lower_node, opened_node, inside_weighed, weighed_itself}
use Rattle.static_proofs.proofs.Names.{within_same, none_within as none_among}
use Rattle.static_proofs.proofs.Plain.{statement_plain, keeps_plain, spares_plain}
use Rattle.static_proofs.proofs.Targets.{MoreLabels, no_labels, label_on_top}
use Rattle.static_proofs.proofs.Together.{together, kept_joined, kept_then, list_keeps}
use Rattle.branch_rules.specs.Jumps.{Sought}
use Rattle.branch_rules.specs.Once.{whole, a_jump, inside, DoStep, do_once}
use Rattle.branch_rules.specs.Statements.{as_statement}
use Rattle.branch_rules.specs.Within as rules
use Rattle.branch_rules.specs.Within.{unstopped, stays, runs, of_part, in_if, in_label, in_try, in_switch, AllWithin, none_within, one_within, PartWithin, same_part, in_block, in_case, PartsWithin, none_parts, one_part, WithinStep, while_within, do_within, for_within}
use Rattle.branch_proofs.proofs.BranchesOwe.{statement_lowers}
use Rattle.branch_proofs.proofs.DoOwes.{plain_alone, alone, do_alone, do_aims, do_lighter}
use Rattle.branch_proofs.proofs.Labelled.{plain_declares}
use Rattle.branch_proofs.proofs.PlainNames.{plain_names}
use Rattle.branch_proofs.proofs.Tests.{one_declares}
use Rattle.branch_proofs.proofs.Within.{all_names_within}

do_plain : {mark : ℕ} {k : Sought} {t : Tree} {us : Forest} (rs : List Span) → DoStep mark k t us → is_plain_statement (label_of (as_statement rs us)) ≡ true
do_plain rs (do_once ss b t q p k (whole _ i g e)) = i
do_plain rs (do_once ss b t q p k (a_jump _ g)) = refl
do_plain rs (do_once ss b t q p k (inside bs us ts j others e g f)) = refl

-- a block round a plain statement

unreached_alone : (u : Tree) → unreached (u ⊳ ε) ≡ 0
unreached_alone u = by_stopper (is_stopper u)
  where
    by_stopper : (b : Bool) → ◌≡◌ {A = ℕ} (if b then 0 else 0) 0
    by_stopper true = refl
    by_stopper false = refl

module _ (qs : List Span) (u : Tree) (p : is_plain_statement (label_of u) ≡ true) where
  none_named : list_names (u ⊳ ε) ≡ []
  none_named = plain_names (u ⊳ ε) (and_from (is_plain_statement (label_of u)) true p refl)

  none_bound : (x : Name) → list_binds (u ⊳ ε) x ≡ false
  none_bound x = ap (λ (ps : List Declared). is_found x ps) (one_declares u (plain_declares u p))

  boxed_alone : KeepsAll (u ⊳ ε) (node Block qs (u ⊳ ε) ⊳ ε)
  unfolding own_scopes
  boxed_alone = plain_alone p refl
      (λ x. omega (arith, ap one_if (none_bound x)))
      (subst (λ xs. Within xs (vars u)) (sym (append-nil (vars u))) (within_same (vars u)))
      (λ v. and_from (valid u) true v refl)
      (λ g a. and_from (aimed (without_own g) u) true a refl)
      (λ a. and_from (apart u) true a refl)
      (λ f. and_from (good_list (u ⊳ ε)) (fits_all (u ⊳ ε)) (ap (λ xs. once_each xs xs && none_in xs (vars_all (u ⊳ ε))) none_named) (and_from (fits u) true f refl))

  unstopped_alone : KeepsAll (u ⊳ ε) (unstopped qs u ⊳ ε)
  unstopped_alone = by_stopper (is_stopper u)
    where
      by_stopper : (b : Bool) → KeepsAll (u ⊳ ε) ((if b then node Block qs (u ⊳ ε) else u) ⊳ ε)
      by_stopper true = boxed_alone
      by_stopper false = alone (keeps_itself u)

  unstopped_unlisted : is_listed (unstopped qs u) ≡ false
  unstopped_unlisted = by_stopper (is_stopper u)
    where
      by_stopper : (b : Bool) → is_listed (if b then node Block qs (u ⊳ ε) else u) ≡ false
      by_stopper true = refl
      by_stopper false = (statement_plain u p).not_listed

no_stopper : (qs : List Span) (u : Tree) → is_stopper (unstopped qs u) ≡ false
no_stopper qs u = by_stopper (is_stopper u) refl
  where
    by_stopper : (b : Bool) → is_stopper u ≡ b → is_stopper (if b then node Block qs (u ⊳ ε) else u) ≡ false
    by_stopper true e = refl
    by_stopper false e = e

unstopped_lighter : (qs : List Span) (u t : Tree) → weight u < weight t → (is_stopper u ≡ true → weight u + 4 ≤ weight t) → weight (unstopped qs u) < weight t
unfolding own_weight
unstopped_lighter qs u t h i = by_stopper (is_stopper u) refl
  where
    by_stopper : (b : Bool) → is_stopper u ≡ b → weight (if b then node Block qs (u ⊳ ε) else u) < weight t
    by_stopper true e = omega (arith, i e, unreached_alone u)
    by_stopper false e = h

-- what is kept

listed_within : {mark : ℕ} {ls : List Text} {k : Bool} {t u : Tree} → rules.Within mark ls k t u → is_listed u ≡ is_listed t
listed_within (stays t) = refl
listed_within (runs rs qs {us = us} (do_once ss b t z p e o)) = unstopped_unlisted qs (as_statement rs us) (do_plain rs (do_once ss b t z p e o))
listed_within (of_part (same_part t)) = refl
listed_within (of_part (in_block ss ws)) = refl
listed_within (of_part (in_case ss ws)) = refl
listed_within (in_if ss t ws) = refl
listed_within (in_label l ss w) = refl
listed_within (in_try p ss ps) = refl
listed_within (in_switch ds ss ps) = refl

none_listed_within : {mark : ℕ} {ls : List Text} {k : Bool} {ts us : Forest} → AllWithin mark ls k ts us → none_listed us ≡ none_listed ts
none_listed_within none_within = refl
none_listed_within (one_within w ws) = ap₂ (λ a b. not a && b) (listed_within w) (none_listed_within ws)

if_keeps : (ss : List Span) {ts us : Forest} → KeepsAll ts us → none_listed us ≡ none_listed ts → Keeps (node If ss ts) (node If ss us)
unfolding own_scopes
if_keeps ss {ts} {us} k e = keeps_plain (statement_plain (node If ss ts) refl) (statement_plain (node If ss us) refl) (λ x. omega (arith, k.scopes_kept x)) k.list_kept.vars_kept
    (λ v. let o = and_parts (none_listed ts) (valid_all ts) v in and_from (none_listed us) (valid_all us) (e ∙ o.0) (k.valid_kept o.1))
    (λ g. k.aimed_kept g) k.apart_kept k.fits_kept

if_kept : (ss : List Span) (t : Tree) {ts us : Forest} → KeepsAll ts us → none_listed us ≡ none_listed ts → Keeps (node If ss (t ⊳ ts)) (node If ss (t ⊳ us))
if_kept ss t k e = if_keeps ss (kept_joined (alone (keeps_itself t)) k) (ap (λ b. not (is_listed t) && b) e)

-- a label in front
label_alone : (l : Text) (ss : List Span) {t u : Tree} → KeepsAll (t ⊳ ε) (u ⊳ ε) → is_listed u ≡ is_listed t → ((g : Targets) → aimed (below (Labeled l) (without_own g)) t ≡ true → aimed (below (Labeled l) (without_own g)) u ≡ true) → KeepsAll (node (Labeled l) ss (t ⊳ ε) ⊳ ε) (node (Labeled l) ss (u ⊳ ε) ⊳ ε)
unfolding own_scopes
label_alone l ss {t} {u} k e a = plain_alone refl refl (λ x. omega (arith, k.scopes_kept x)) k.list_kept.vars_kept
    (λ v. let o = and_parts (is_identifier l && none_listed (t ⊳ ε)) (valid_all (t ⊳ ε)) v in
    and_from (is_identifier l && none_listed (u ⊳ ε)) (valid_all (u ⊳ ε)) (ap (λ b. is_identifier l && (not b && true)) e ∙ o.0) (k.valid_kept o.1))
    (λ g h. let b = below (Labeled l) (without_own g) in and_from (aimed b u) true (a g (and_parts (aimed b t) true h).0) refl) k.apart_kept k.fits_kept

-- a statement that ends its list goes where it went, whatever labels stand in front of it
stopper_aimed : (u : Tree) (g : Targets) → is_stopper u ≡ true → aimed g u ≡ true → aimed (without_own g) u ≡ true
stopper_aimed (node Throw ss cs) g s a = a
stopper_aimed (node Return ss cs) g s a = a
stopper_aimed (node (Break None) ss cs) g s a = a
stopper_aimed (node (Break (Some l)) ss cs) g s a = a
stopper_aimed (node (Continue None) ss cs) g s a = a
stopper_aimed (node (Continue (Some l)) ss cs) g s a = a
stopper_aimed (node _ ss cs) g s a = absurd (false≢true s)

unstopped_aimed : (qs : List Span) (u : Tree) (g : Targets) → aimed g u ≡ true → aimed g (unstopped qs u) ≡ true
unstopped_aimed qs u g a = by_stopper (is_stopper u) refl
  where
    by_stopper : (b : Bool) → is_stopper u ≡ b → aimed g (if b then node Block qs (u ⊳ ε) else u) ≡ true
    by_stopper true e = and_from (aimed (without_own g) u) true (stopper_aimed u g e a) refl
    by_stopper false e = a

mutual
  within_alone : {mark : ℕ} {ls : List Text} {k : Bool} {t u : Tree} → rules.Within mark ls k t u → KeepsAll (t ⊳ ε) (u ⊳ ε)
  within_alone (stays t) = alone (keeps_itself t)
  within_alone (runs rs qs {us = us} s) = kept_then (do_alone rs s) (unstopped_alone qs (as_statement rs us) (do_plain rs s))
  within_alone (of_part p) = alone (part_keeps p)
  within_alone (in_if ss t ws) = alone (if_kept ss t (all_alone ws) (none_listed_within ws))
  within_alone (in_label l ss w) = label_alone l ss (within_alone w) (listed_within w) (λ g a. within_aims w (below (Labeled l) (without_own g)) (label_on_top l (no_labels _)) a)
  within_alone (in_try p ss ps) = alone (keeps_inside (Try p) ss (parts_keep ps))
  within_alone (in_switch ds ss ps) = alone (keeps_inside (Switch ds) ss (parts_keep ps))

  all_alone : {mark : ℕ} {ls : List Text} {k : Bool} {ts us : Forest} → AllWithin mark ls k ts us → KeepsAll ts us
  all_alone none_within = together none_kept
  all_alone (one_within w ws) = kept_joined (within_alone w) (all_alone ws)

  part_keeps : {mark : ℕ} {ls : List Text} {k : Bool} {t u : Tree} → PartWithin mark ls k t u → Keeps t u
  part_keeps (same_part t) = keeps_itself t
  part_keeps (in_block ss ws) = list_keeps Block ss refl (all_alone ws)
  part_keeps (in_case ss ws) = list_keeps CaseBody ss refl (all_alone ws)

  parts_keep : {mark : ℕ} {ls : List Text} {k : Bool} {ts us : Forest} → PartsWithin mark ls k ts us → AllKeep ts us
  parts_keep none_parts = none_kept
  parts_keep (one_part p ps) = more_kept (part_keeps p) (parts_keep ps)

  -- a jump has its target behind the labels that stand there too
  within_aims : {mark : ℕ} {ls : List Text} {k : Bool} {t u : Tree} → rules.Within mark ls k t u → (g : Targets) → MoreLabels g.own ls → aimed g t ≡ true → aimed g u ≡ true
  within_aims (stays t) g m a = a
  within_aims (runs rs qs {us = us} s) g m a = unstopped_aimed qs (as_statement rs us) g (do_aims rs s g m a)
  within_aims (of_part p) g m a = (part_keeps p).aimed_kept g a
  within_aims (in_if ss t ws) g m a = (if_kept ss t (all_alone ws) (none_listed_within ws)).aimed_kept g a
  within_aims (in_label l ss {t} {u} w) g m a = and_from (aimed (below (Labeled l) g) u) true (within_aims w (below (Labeled l) g) (label_on_top l m) (and_parts (aimed (below (Labeled l) g) t) true a).0) refl
  within_aims (in_try p ss ps) g m a = (keeps_inside (Try p) ss (parts_keep ps)).aimed_kept g a
  within_aims (in_switch ds ss ps) g m a = (keeps_inside (Switch ds) ss (parts_keep ps)).aimed_kept g a

-- what is lighter

once_lighter : {mark : ℕ} {k : Sought} (rs qs : List Span) {t : Tree} {us : Forest} → DoStep mark k t us → weight (unstopped qs (as_statement rs us)) < weight t
once_lighter rs qs {t} {us} s = let l = do_lighter rs s in unstopped_lighter qs (as_statement rs us) t l.0 l.1

-- a node whose children are walked, and that is neither a test, a stopper nor a declaration
node_weighed : {t u : Tree} → is_truth_or_absent t ≡ false → is_stopper u ≡ false → stays_behind t ≡ false → Inside ⊥ t u → Weighed ⊥ t u
node_weighed {t} {u} e f g i = record {
  outcome = by_case i;
  truth_kept = λ h. absurd (false≢true (sym e ∙ h));
  stopper_paid = λ h. absurd (false≢true (sym f ∙ h));
  stay_paid = λ h. absurd (false≢true (sym g ∙ h));
}
  where
    by_case : Inside ⊥ t u → (u ≡ t) ⊎ (weight u < weight t)
    by_case (same_node q) = inl q
    by_case (lower_node p q) = inr p
    by_case (opened_node n p) = absurd n

mutual
  within_weighed : {mark : ℕ} {ls : List Text} {k : Bool} {t u : Tree} → rules.Within mark ls k t u → Weighed ⊥ t u
  within_weighed (stays t) = weighed_itself t
  within_weighed (runs rs qs {us = us} (do_once ss b t z p e o)) =
      record {
        outcome = inr (once_lighter rs qs (do_once ss b t z p e o));
        truth_kept = λ h. absurd (false≢true h);
        stopper_paid = λ h. absurd (false≢true (sym (no_stopper qs (as_statement rs us)) ∙ h));
        stay_paid = λ h. absurd (false≢true h);
      }
  within_weighed (of_part p) = part_weighed p
  within_weighed (in_if ss t ws) = node_weighed refl refl refl (inside_weighed If ss (more_weighed (weighed_itself t) (all_weighed ws)))
  within_weighed (in_label l ss w) = node_weighed refl refl refl (inside_weighed (Labeled l) ss (more_weighed (within_weighed w) none_weighed))
  within_weighed (in_try p ss ps) = node_weighed refl refl refl (inside_weighed (Try p) ss (parts_weighed ps))
  within_weighed (in_switch ds ss ps) = node_weighed refl refl refl (inside_weighed (Switch ds) ss (parts_weighed ps))

  all_weighed : {mark : ℕ} {ls : List Text} {k : Bool} {ts us : Forest} → AllWithin mark ls k ts us → AllWeighed ⊥ ts us
  all_weighed none_within = none_weighed
  all_weighed (one_within w ws) = more_weighed (within_weighed w) (all_weighed ws)

  part_weighed : {mark : ℕ} {ls : List Text} {k : Bool} {t u : Tree} → PartWithin mark ls k t u → Weighed ⊥ t u
  part_weighed (same_part t) = weighed_itself t
  part_weighed (in_block ss ws) = node_weighed refl refl refl (inside_weighed Block ss (all_weighed ws))
  part_weighed (in_case ss ws) = node_weighed refl refl refl (inside_weighed CaseBody ss (all_weighed ws))

  parts_weighed : {mark : ℕ} {ls : List Text} {k : Bool} {ts us : Forest} → PartsWithin mark ls k ts us → AllWeighed ⊥ ts us
  parts_weighed none_parts = none_weighed
  parts_weighed (one_part p ps) = more_weighed (part_weighed p) (parts_weighed ps)

at_most : {t u : Tree} → (u ≡ t) ⊎ (weight u < weight t) → weight u ≤ weight t
at_most (inl q) = omega (arith, ap weight q)
at_most (inr q) = omega arith

all_at_most : {ts us : Forest} → AllWeighed ⊥ ts us → weight_all us ≤ weight_all ts
all_at_most none_weighed = omega arith
all_at_most (more_weighed w ws) = omega (arith, at_most w.outcome, all_at_most ws)

-- one of several is lighter, and none of the others heavier
first_lower : (c : Bool) {t u : Tree} {ts us : Forest} → Weighed ⊥ t u → AllWeighed ⊥ ts us → (c ≡ true → weight u < weight t) → (c ≡ false → weight_all us < weight_all ts) → weight_all (u ⊳ us) < weight_all (t ⊳ ts)
first_lower true w ws f g = omega (arith, f refl, all_at_most ws)
first_lower false w ws f g = omega (arith, at_most w.outcome, g refl)

-- a node with lighter children is another one
changed : {t u : Tree} → (u ≡ t) ⊎ (weight u < weight t) → weight_all (children_of u) < weight_all (children_of t) → weight u < weight t
changed (inl q) h = absurd (omega (arith, ap (λ z. weight_all (children_of z)) q, h))
changed (inr q) h = q

mutual
  within_lighter : {mark : ℕ} {ls : List Text} {k : Bool} {t u : Tree} → rules.Within mark ls k t u → k ≡ true → weight u < weight t
  within_lighter (stays t) e = absurd (false≢true e)
  within_lighter (runs rs qs s) e = once_lighter rs qs s
  within_lighter (of_part p) e = part_lighter p e
  within_lighter (in_if ss t ws) e = changed (within_weighed (in_if ss t ws)).outcome (omega (arith, all_lighter ws e))
  within_lighter (in_label l ss w) e = changed (within_weighed (in_label l ss w)).outcome (omega (arith, within_lighter w e))
  within_lighter (in_try p ss ps) e = changed (within_weighed (in_try p ss ps)).outcome (parts_lighter ps e)
  within_lighter (in_switch ds ss ps) e = changed (within_weighed (in_switch ds ss ps)).outcome (parts_lighter ps e)

  all_lighter : {mark : ℕ} {ls : List Text} {k : Bool} {ts us : Forest} → AllWithin mark ls k ts us → k ≡ true → weight_all us < weight_all ts
  all_lighter none_within e = absurd (false≢true e)
  all_lighter (one_within {c = c} {d} w ws) e = first_lower c (within_weighed w) (all_weighed ws) (within_lighter w) (λ f. all_lighter ws (ap (λ b. b || d) (sym f) ∙ e))

  part_lighter : {mark : ℕ} {ls : List Text} {k : Bool} {t u : Tree} → PartWithin mark ls k t u → k ≡ true → weight u < weight t
  part_lighter (same_part t) e = absurd (false≢true e)
  part_lighter (in_block ss ws) e = changed (part_weighed (in_block ss ws)).outcome (all_lighter ws e)
  part_lighter (in_case ss ws) e = changed (part_weighed (in_case ss ws)).outcome (all_lighter ws e)

  parts_lighter : {mark : ℕ} {ls : List Text} {k : Bool} {ts us : Forest} → PartsWithin mark ls k ts us → k ≡ true → weight_all us < weight_all ts
  parts_lighter none_parts e = absurd (false≢true e)
  parts_lighter (one_part {c = c} {d} p ps) e = first_lower c (part_weighed p) (parts_weighed ps) (part_lighter p) (λ f. parts_lighter ps (ap (λ b. b || d) (sym f) ∙ e))

-- loops

module _ {N : Type 0} {P : Name → Type 0} {mark : ℕ} (n : N) where
  pub within_owes : {t : Tree} {us : Forest} (rs : List Span) → WithinStep mark t us → Step N P t (as_statement rs us)
  unfolding own_scopes own_weight
  within_owes ws (while_within ss rs t {b} {u} w) =
      let parts = one_within (stays t) (one_within w none_within) in
      let k = all_alone parts in
      record {
        keeps = keeps_plain (statement_plain (node While ss (t ⊳ b ⊳ ε)) refl) (statement_plain (node While rs (t ⊳ u ⊳ ε)) refl) (λ x. omega (arith, k.scopes_kept x)) k.list_kept.vars_kept
            (λ v. let o = and_parts (none_listed (t ⊳ b ⊳ ε)) (valid_all (t ⊳ b ⊳ ε)) v in and_from (none_listed (t ⊳ u ⊳ ε)) (valid_all (t ⊳ u ⊳ ε)) (none_listed_within parts ∙ o.0) (k.valid_kept o.1))
            (λ g. k.aimed_kept (loop_targets g)) k.apart_kept k.fits_kept;
        spares = spares_plain (statement_plain (node While ss (t ⊳ b ⊳ ε)) refl) (statement_plain (node While rs (t ⊳ u ⊳ ε)) refl) (record { by = λ x p h. sym (all_names_within x parts) ∙ h });
        lowers = statement_lowers n refl refl (omega (arith, within_lighter w refl)) (λ s. absurd (false≢true s));
      }
  within_owes ws (do_within ss rs t {b} {u} w) =
      let parts = one_within w (one_within (stays t) none_within) in
      let k = all_alone parts in
      record {
        keeps = keeps_plain (statement_plain (node DoWhile ss (b ⊳ t ⊳ ε)) refl) (statement_plain (node DoWhile rs (u ⊳ t ⊳ ε)) refl) (λ x. omega (arith, k.scopes_kept x)) k.list_kept.vars_kept
            (λ v. let o = and_parts (none_listed (b ⊳ t ⊳ ε)) (valid_all (b ⊳ t ⊳ ε)) v in and_from (none_listed (u ⊳ t ⊳ ε)) (valid_all (u ⊳ t ⊳ ε)) (none_listed_within parts ∙ o.0) (k.valid_kept o.1))
            (λ g. k.aimed_kept (loop_targets g)) k.apart_kept k.fits_kept;
        spares = spares_plain (statement_plain (node DoWhile ss (b ⊳ t ⊳ ε)) refl) (statement_plain (node DoWhile rs (u ⊳ t ⊳ ε)) refl) (record { by = λ x p h. sym (all_names_within x parts) ∙ h });
        lowers = statement_lowers n refl refl (omega (arith, within_lighter w refl)) (λ s. absurd (false≢true s));
      }
  within_owes ws (for_within ss rs i t v {b} {u} w) =
      let parts = one_within (stays i) (one_within (stays t) (one_within (stays v) (one_within w none_within))) in
      let k = all_alone parts in
      let heads = first_names (head_names i) in
      record {
        keeps = keeps_plain (statement_plain (node For ss (i ⊳ t ⊳ v ⊳ b ⊳ ε)) refl) (statement_plain (node For rs (i ⊳ t ⊳ v ⊳ u ⊳ ε)) refl) (λ x. omega (arith, k.scopes_kept x)) k.list_kept.vars_kept
            (λ h. let o = and_parts (not (is_listed b)) (valid_all (i ⊳ t ⊳ v ⊳ b ⊳ ε)) h in and_from (not (is_listed u)) (valid_all (i ⊳ t ⊳ v ⊳ u ⊳ ε)) (ap not (listed_within w) ∙ o.0) (k.valid_kept o.1))
            (λ g. k.aimed_kept (loop_targets g)) k.apart_kept
            (λ f. let o = and_parts (once_each heads heads && none_in heads (vars_all (i ⊳ t ⊳ v ⊳ b ⊳ ε))) (fits_all (i ⊳ t ⊳ v ⊳ b ⊳ ε)) f in let q = and_parts (once_each heads heads) (none_in heads (vars_all (i ⊳ t ⊳ v ⊳ b ⊳ ε))) o.0 in
            and_from (once_each heads heads && none_in heads (vars_all (i ⊳ t ⊳ v ⊳ u ⊳ ε))) (fits_all (i ⊳ t ⊳ v ⊳ u ⊳ ε)) (and_from (once_each heads heads) (none_in heads (vars_all (i ⊳ t ⊳ v ⊳ u ⊳ ε))) q.0 (none_among (within_same heads) k.list_kept.vars_kept q.1)) (k.fits_kept o.1));
        spares = spares_plain (statement_plain (node For ss (i ⊳ t ⊳ v ⊳ b ⊳ ε)) refl) (statement_plain (node For rs (i ⊳ t ⊳ v ⊳ u ⊳ ε)) refl) (record { by = λ x p h. sym (all_names_within x parts) ∙ h });
        lowers = statement_lowers n refl refl (omega (arith, within_lighter w refl)) (λ s. absurd (false≢true s));
      }
