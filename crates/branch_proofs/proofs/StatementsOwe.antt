-- Each step of a statement keeps and spares what a pass may not touch, and is lighter.
use Rattle.std.proofs.Common.{◌≡◌, ℕ, ◌≤◌, ◌<◌, Bool, true, List, [], ◌++◌, Some, None, refl, sym, ap, subst, ◌∙◌, arith}
use Rattle.std.proofs.lemmas.Bool.{and_parts, and_from, false≢true}
use Rattle.swc_ast.specs.Labels.{is_expression}
use Rattle.swc_ast.specs.declared.Span.{Span}
use Rattle.swc_ast.specs.Tree.{Name, Label, Empty, ExprStmt, If, For, Tree, node, Forest, ε, ◌⊳◌, label_of}
use Rattle.swc_ast.specs.Scope.{vars, vars_all, joined}
use Rattle.swc_ast.specs.Valid.{valid, valid_all}
use Rattle.swc_ast.specs.Core.{fits}
use Rattle.swc_ast.specs.Weight.{own_weight, weight}
use Rattle.static_proofs.specs.Names.{Within}
use Rattle.static_proofs.specs.Keeps.{Keeps}
use Rattle.static_proofs.specs.Step.{Step}
use Rattle.static_proofs.specs.Drawn.{is_plain_statement}
use Rattle.static_proofs.specs.Over.{Over, over_none, over_made}
use Rattle.static_proofs.proofs.Names.{within_same, within_none}
use Rattle.static_proofs.proofs.Drawn.{valid_below}
use Rattle.static_proofs.proofs.Expressions.{expression_quiet}
use Rattle.static_proofs.proofs.Kept.{keeps_then}
use Rattle.static_proofs.proofs.Loops.{none_fine, more_fine, fine_kept, for_keeps}
use Rattle.static_proofs.proofs.Over.{built_keeps}
use Rattle.static_proofs.proofs.Plain.{expression_plain, statement_plain, keeps_plain, spares_plain}
use Rattle.static_proofs.proofs.Spared.{spared_same, spared_path, spared_none, spares_then}
use Rattle.pass_proofs.proofs.Remains.{nothing, remains_below}
use Rattle.branch_rules.specs.Ignored.{Ignores}
use Rattle.branch_rules.specs.Statements.{as_statement, is_plain, all_plain, Alone, nothing_alone, left_alone, Part, part_goes, part_left, Chooses, only_arm, no_arm, then_arm, else_arm, StatementStep, expression, choose, else_goes, branch_goes, while_true, while_false, while_never, for_first, for_update, for_true, for_false, for_no_update, for_no_body, for_never, do_true, label_empty, label_left, block_empty, block_one, try_inside, try_beside, try_alone, try_block}
use Rattle.branch_proofs.proofs.BranchForms as form
use Rattle.branch_proofs.proofs.BranchForms.{Tested, untested, tested}
use Rattle.branch_proofs.proofs.BranchesOwe.{branch_step, statement_lowers}
use Rattle.branch_proofs.proofs.Gathered.{joined_none, expression_made}
use Rattle.branch_proofs.proofs.HoistsOf.{hoists_of}
use Rattle.branch_proofs.proofs.IgnoredLeft.{drawn_one, ignores_left}
use Rattle.branch_proofs.proofs.IgnoredLight.{ignores_light, pure_weighs}
use Rattle.branch_proofs.proofs.Labelled.{expression_vars, optional_vars}
use Rattle.branch_proofs.proofs.ListForms.{no_vars}
use Rattle.branch_proofs.proofs.LoopForms as loop
use Rattle.branch_proofs.proofs.LoopsOwe.{loop_step, fine_itself, for_lowers, loop_spares}
use Rattle.branch_proofs.proofs.PlainNames.{plain_nothing}

-- the spans of a statement don't matter

pub span_keeps : (l : Label) (ss us : List Span) (cs : Forest) → is_plain_statement l ≡ true → Keeps (node l ss cs) (node l us cs)
span_keeps l ss us cs h = keeps_plain (statement_plain (node l ss cs) h) (statement_plain (node l us cs) h) (λ x. omega arith) (within_same _) (λ v. v) (λ g v. v) (λ v. v) (λ v. v)

respanned : {N : Type 0} {P : Name → Type 0} {t : Tree} {l : Label} {ss : List Span} {cs : Forest} (us : List Span) → is_plain_statement l ≡ true → Step N P t (node l ss cs) → Step N P t (node l us cs)
respanned {l = l} {ss} {cs} us h s = record {
  keeps = keeps_then s.keeps (span_keeps l ss us cs h);
  spares = spares_then s.spares (spares_plain (statement_plain (node l ss cs) h) (statement_plain (node l us cs) h) (spared_same _));
  lowers = record {
    lower = s.lowers.lower;
    lower_list = s.lowers.lower_list;
    truth_kept = λ i. absurd (false≢true (sym (plain_nothing (node l ss cs) h).no_truth ∙ s.lowers.truth_kept i));
    stopper_paid = s.lowers.stopper_paid;
    stay_paid = s.lowers.stay_paid;
  };
}

-- expressions

module _ {mark : ℕ} where
  light_by : {k : Bool} {a v : Tree} → Ignores mark k a (Some v) → weight v ≤ weight a
  light_by r = omega (arith, ignores_light r)

  lighter_by : {a v : Tree} → Ignores mark true a (Some v) → weight v < weight a
  lighter_by r = omega (arith, ignores_light r)

  gone_weighs : {a : Tree} → Ignores mark true a None → 1 ≤ weight a
  gone_weighs r = omega (arith, ignores_light r)

  -- what is left stands for the test of a statement
  pub tested_of : {k : Bool} {a : Tree} {es : Forest} (t : Tree) → (valid t ≡ true → valid a ≡ true) → Alone mark k a es → Tested t a es
  tested_of t v (nothing_alone a r) = untested
  tested_of t v (left_alone rs a w e r) =
      let m = ignores_left {V = valid t ≡ true} {F = fits t ≡ true} r (record { by = v }) nothing in
      tested m.parts (drawn_one m.drawn) m.built (expression_vars w e) (light_by r)

  expression_keeps : (i j : Tree) → is_expression (label_of i) ≡ true → is_expression (label_of j) ≡ true → Ignores mark true i (Some j) → Keeps i j
  expression_keeps (node l ss cs) j p q r =
      let t = node l ss cs in
      let m = remains_below (lighter_by r) (ignores_left {V = valid t ≡ true} {F = fits t ≡ true} r (record { by = λ v. v }) nothing) in
      built_keeps (expression_quiet t p).out (expression_plain t p) (expression_plain j q) (subst (λ xs. Within xs (vars t)) (sym (expression_vars j q)) (within_none (vars t))) m.drawn m.built

  module _ {N : Type 0} {P : Name → Type 0} (n : N) where
    -- another expression as a statement
    left_step : (ss us : List Span) (a v : Tree) → is_expression (label_of a) ≡ true → is_expression (label_of v) ≡ true → Ignores mark true a (Some v) → Step N P (node ExprStmt ss (a ⊳ ε)) (node ExprStmt us (v ⊳ ε))
    unfolding own_weight
    left_step ss us a v p q r =
        let t = node ExprStmt ss (a ⊳ ε) in
        let u = node ExprStmt us (v ⊳ ε) in
        let m = ignores_left {V = valid t ≡ true} {F = fits t ≡ true} r (record { by = λ i. (and_parts (valid a) true (valid_below ExprStmt ss (a ⊳ ε) i)).0 }) nothing in
        record {
          keeps = built_keeps refl (statement_plain t refl) (statement_plain u refl) (within_none _) m.drawn (subst (λ z. Over (valid t ≡ true) (fits t ≡ true) z (u ⊳ ε)) (joined_none m.parts) (over_made (expression_made _ _ (v ⊳ ε)) m.built over_none));
          spares = spares_plain (statement_plain t refl) (statement_plain u refl) (spared_none []);
          lowers = statement_lowers n refl refl (omega (arith, lighter_by r)) (λ s. absurd (false≢true s));
        }

    expression_step : (ss rs : List Span) (a : Tree) {es : Forest} → is_expression (label_of a) ≡ true → Alone mark true a es → Step N P (node ExprStmt ss (a ⊳ ε)) (as_statement rs es)
    expression_step ss rs a e (nothing_alone _ r) = branch_step _ _ n (form.idle {ss = ss} {rs = rs} (expression_vars a e))
    expression_step ss rs a e (left_alone us _ v q r) = left_step ss us a v e q r

    -- parts of a `for`
    first_left : (ss : List Span) (i j t u b : Tree) → is_expression (label_of i) ≡ true → is_expression (label_of j) ≡ true → Ignores mark true i (Some j) → Step N P (node For ss (i ⊳ t ⊳ u ⊳ b ⊳ ε)) (node For ss (j ⊳ t ⊳ u ⊳ b ⊳ ε))
    unfolding own_weight
    first_left ss i j t u b p q r = record {
      keeps = for_keeps ss (more_fine (fine_kept (expression_keeps i j p q r)) (more_fine (fine_itself t) (more_fine (fine_itself u) (more_fine (fine_itself b) none_fine))));
      spares = loop_spares For ss ss refl (spared_path (ap (λ xs. xs ++ vars_all (t ⊳ u ⊳ b ⊳ ε)) (expression_vars i p ∙ sym (expression_vars j q))));
      lowers = for_lowers ss _ _ (omega (arith, lighter_by r)) n;
    }

    update_left : (ss : List Span) (i t u v b : Tree) → is_expression (label_of u) ≡ true → is_expression (label_of v) ≡ true → Ignores mark true u (Some v) → Step N P (node For ss (i ⊳ t ⊳ u ⊳ b ⊳ ε)) (node For ss (i ⊳ t ⊳ v ⊳ b ⊳ ε))
    unfolding own_weight
    update_left ss i t u v b p q r = record {
      keeps = for_keeps ss (more_fine (fine_itself i) (more_fine (fine_itself t) (more_fine (fine_kept (expression_keeps u v p q r)) (more_fine (fine_itself b) none_fine))));
      spares = loop_spares For ss ss refl (spared_path (ap (λ xs. vars i ++ (vars t ++ (xs ++ vars_all (b ⊳ ε)))) (expression_vars u p ∙ sym (expression_vars v q))));
      lowers = for_lowers ss _ _ (omega (arith, lighter_by r)) n;
    }

    first_step : (ss : List Span) (i j t u b : Tree) → is_expression (label_of i) ≡ true → Part mark i j → Step N P (node For ss (i ⊳ t ⊳ u ⊳ b ⊳ ε)) (node For ss (j ⊳ t ⊳ u ⊳ b ⊳ ε))
    first_step ss i j t u b p (part_goes rs _ r) = loop_step _ _ n (loop.init_gone (expression_vars i p) (gone_weighs r))
    first_step ss i j t u b p (part_left _ _ q r) = first_left ss i j t u b p q r

    update_step : (ss : List Span) (i t u v b : Tree) → is_expression (label_of u) ≡ true → Part mark u v → Step N P (node For ss (i ⊳ t ⊳ u ⊳ b ⊳ ε)) (node For ss (i ⊳ t ⊳ v ⊳ b ⊳ ε))
    update_step ss i t u v b p (part_goes rs _ r) = loop_step _ _ n (loop.update_gone (expression_vars u p) (gone_weighs r))
    update_step ss i t u v b p (part_left _ _ q r) = update_left ss i t u v b p q r

-- conditions

arms_of : {known : Bool} {arms kept gone : Forest} → Chooses known arms kept gone → form.Chooses arms kept gone
arms_of (only_arm a) = form.only_arm
arms_of (no_arm a) = form.no_arm
arms_of (then_arm a b) = form.then_arm
arms_of (else_arm a b) = form.else_arm

kept_plain : {known : Bool} {arms kept gone : Forest} → Chooses known arms kept gone → all_plain arms ≡ true → all_plain kept ≡ true
kept_plain (only_arm a) h = h
kept_plain (no_arm a) h = refl
kept_plain (then_arm a b) h = and_from (is_plain a) true (and_parts (is_plain a) _ h).0 refl
kept_plain (else_arm a b) h = (and_parts (is_plain a) _ h).1

empty_weighs : (ss : List Span) → 1 ≤ weight (node Empty ss ε)
unfolding own_weight
empty_weighs ss = omega arith

test_valid : (ss : List Span) (t : Tree) (arms : Forest) → valid (node If ss (t ⊳ arms)) ≡ true → valid t ≡ true
test_valid ss t arms v = (and_parts (valid t) (valid_all arms) (valid_below If ss (t ⊳ arms) v)).0

module _ {N : Type 0} {P : Name → Type 0} {mark : ℕ} (n : N) (rs : List Span) where
  -- an `if` without a branch is what its test does
  no_branch_step : {k : Bool} (ss qs : List Span) (t : Tree) {es : Forest} → is_expression (label_of t) ≡ true → Alone mark k t es → Step N P (node If ss (t ⊳ node Empty qs ε ⊳ ε)) (as_statement rs (joined es ε))
  no_branch_step ss qs t {es} e h = branch_step _ _ n (form.choose rs es ε ε (node Empty qs ε ⊳ ε) form.no_arm (expression_vars t e) refl (tested_of _ (test_valid ss t (node Empty qs ε ⊳ ε)) h) (no_vars refl))

  pub statement_owes : {t : Tree} {us : Forest} → StatementStep mark t us → Step N P t (as_statement rs us)
  statement_owes (expression ss a e w h) = expression_step n ss rs a e h
  statement_owes (choose ss t known arms kept gone {es} {vs} e k r p g h v) = branch_step _ _ n (form.choose rs es vs kept gone (arms_of r) (expression_vars t e) (kept_plain r p) (tested_of _ (test_valid ss t arms) h) (hoists_of gone v))
  statement_owes (else_goes ss xs us t a e p) = respanned us refl (loop_step _ _ n (loop.else_gone {ss = ss} refl (empty_weighs xs)))
  statement_owes (branch_goes ss xs t {es} e h) = subst (λ z. Step N P (node If ss (t ⊳ node Empty xs ε ⊳ ε)) (as_statement rs z)) (joined_none es) (no_branch_step ss xs t e h)
  statement_owes (while_true ss xs us t b q l p e) = respanned us refl (loop_step _ _ n (loop.test_true {ss = ss} (expression_vars t q) l))
  statement_owes (while_false ss xs us t b {vs} q e h w) = respanned us refl (loop_step _ _ n (loop.while_body {ss = ss} xs vs (hoists_of (b ⊳ ε) h) w))
  statement_owes (while_never ss t b {vs} q p e h) = branch_step _ _ n (form.no_turn rs vs (expression_vars t q) (hoists_of (b ⊳ ε) h))
  statement_owes (for_first ss us i j t u b q r) = respanned us refl (first_step n ss i j t u b q r)
  statement_owes (for_update ss us i t u v b q r) = respanned us refl (update_step n ss i t u v b q r)
  statement_owes (for_true ss xs us i t u b q p e) = respanned us refl (loop_step _ _ n (loop.test_gone {ss = ss} (expression_vars t q) (pure_weighs mark t q p)))
  statement_owes (for_false ss xs us i t u b q l p e) = respanned us refl (loop_step _ _ n (loop.test_false {ss = ss} (expression_vars t q) l))
  statement_owes (for_no_update ss xs us i t u b q r z p e) = respanned us refl (loop_step _ _ n (loop.update_gone {ss = ss} (expression_vars u r) (omega (arith, z))))
  statement_owes (for_no_body ss xs us i t u b {vs} q p e h w) = respanned us refl (loop_step _ _ n (loop.for_body {ss = ss} xs vs (hoists_of (b ⊳ ε) h) w))
  statement_owes (for_never ss is t u b {vs} q o p e h) = loop_step _ _ n (loop.for_no_turn is rs vs (expression_vars t q) (optional_vars u o) (hoists_of (b ⊳ ε) h))
  statement_owes (do_true ss ks ls ms us b t q p e) = respanned us refl (loop_step _ _ n (loop.do_for {ss = ss} ks ls ms (expression_vars t q)))
  statement_owes (label_empty l ss xs) = loop_step _ _ n (loop.label_gone refl)
  statement_owes (label_left l m ss xs e) = loop_step _ _ n (loop.label_gone refl)
  statement_owes (block_empty ss) = branch_step _ _ n (form.hollow)
  statement_owes (block_one ss t p q g) = branch_step _ _ n (form.unwrap p)
  statement_owes (try_inside p ss bs fs us h cs {vs} a q) = loop_step _ _ n (loop.try_inside us vs refl a (hoists_of (h ⊳ ε) q))
  statement_owes (try_beside p ss bs fs h cs {vs} q) = loop_step _ _ n (loop.try_final rs vs refl refl (hoists_of (h ⊳ ε) q))
  statement_owes (try_alone p ss bs fs h {vs} q) = loop_step _ _ n (loop.try_gone rs vs refl refl (hoists_of (h ⊳ ε) q))
  statement_owes (try_block ss bs hs fs cs) = loop_step _ _ n (loop.try_plain refl refl refl)
