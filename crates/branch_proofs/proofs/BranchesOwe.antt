-- Each step of a single statement owes nothing.
use Rattle.std.proofs.Common.{◌≡◌, ℕ, ◌+◌, ◌≤◌, ◌<◌, Bool, true, false, if◌then◌else◌, List, [], ◌++◌, refl, sym, ap, subst, ◌∙◌, arith, append-nil, ◌⊎◌, inl, inr}
use Rattle.std.proofs.lemmas.Bool.{and_parts, and_from, or_cases, or_left, or_right, false≢true}
use Rattle.swc_ast.specs.declared.Span.{Span}
use Rattle.swc_ast.specs.Tree.{Name, Label, Block, Empty, ExprStmt, If, While, Tree, node, Forest, ε, ◌⊳◌, label_of}
use Rattle.swc_ast.specs.Scope.{has_name, vars, vars_all, joined}
use Rattle.swc_ast.specs.Valid.{valid, valid_all}
use Rattle.swc_ast.specs.Core.{fits}
use Rattle.swc_ast.specs.Weight.{own_weight, weight, weight_all, is_list, is_stopper, unreached}
use Rattle.static_proofs.specs.Names.{Within}
use Rattle.static_proofs.specs.Spares.{Spared, Spares}
use Rattle.static_proofs.specs.Lighter.{Lowers}
use Rattle.static_proofs.specs.Step.{Step}
use Rattle.static_proofs.specs.Drawn.{is_plain_statement, Drawn, AllDrawn, nothing_of, all_of, none_drawn, more_drawn}
use Rattle.static_proofs.specs.Over.{Over, over_none, over_piece, over_made}
use Rattle.static_proofs.proofs.Names.{within_same, within_none, within_append, within_trans, within_both, within_second, has_name_append}
use Rattle.static_proofs.proofs.Parts.{vars_joined}
use Rattle.static_proofs.proofs.Drawn.{weight_joined, valid_below}
use Rattle.static_proofs.proofs.Plain.{statement_plain, spares_plain}
use Rattle.static_proofs.specs.Keeps.{Keeps}
use Rattle.static_proofs.proofs.Kept.{keeps_then}
use Rattle.static_proofs.proofs.Spared.{spared_same, spared_path, spares_then}
use Rattle.static_proofs.proofs.Over.{built_keeps, made_keeps}
use Rattle.static_proofs.proofs.Together.{list_keeps, list_spares}
use Rattle.static_proofs.proofs.Expressions.{base_same}
use Rattle.branch_rules.specs.Statements.{as_statement, all_plain}
use Rattle.branch_proofs.proofs.ListForms.{Hoists, no_vars, some_vars}
use Rattle.branch_proofs.proofs.BranchForms.{Chooses, only_arm, no_arm, then_arm, else_arm, Tested, untested, tested, BranchStep, choose, no_turn, unwrap, hollow, tidy_unwrap, idle}
use Rattle.branch_proofs.proofs.Hoists.{bare_vars, hoists_weight}
use Rattle.branch_proofs.proofs.Cuts.{hoists_unreached}
use Rattle.branch_proofs.proofs.PlainNames.{plain_nothing, all_vars_weight}
use Rattle.branch_proofs.proofs.Tidies.{tidies_keep, tidies_spare_vars, tidies_single}
use Rattle.branch_proofs.proofs.Gathered.{joined_none, over_joined, over_itself, expression_made, empty_made, hoists_over, gathered_over, gathered_vars, gathered_plain, gathered_weight}

-- names of lists that are the same as sets
pub record SameNames (xs ys : List Name) : Type 0 where
  pub there : Within ys xs
  pub back : Within xs ys

pub statement_lowers : {N : Type 0} {l : Label} {ss : List Span} {cs : Forest} {u : Tree} → N → is_plain_statement l ≡ true → is_list l ≡ false → weight u < weight (node l ss cs) → (is_stopper u ≡ true → weight u + 3 ≤ weight (node l ss cs)) → Lowers N (node l ss cs) u
statement_lowers {N} {l} {ss} {cs} {u} n p e h s =
    let t = node l ss cs in
    let a = plain_nothing t p in
    record {
      lower = h;
      lower_list = λ i. omega (arith, h, base_same t e);
      truth_kept = λ i. absurd (false≢true (sym a.no_truth ∙ i));
      stopper_paid = λ i. inr (n, omega (arith, s i, base_same t e));
      stay_paid = λ i. absurd (false≢true (sym a.no_stay ∙ i));
    }

pub spared_same_names : {P : Name → Type 0} {xs ys : List Name} → SameNames xs ys → Spared P xs ys
spared_same_names v = record { by = λ x i k. v.back.by x k }

-- `if` with a test of known truth

chosen_drawn : {arms kept gone : Forest} → Chooses arms kept gone → AllDrawn arms kept
chosen_drawn only_arm = more_drawn all_of none_drawn
chosen_drawn no_arm = more_drawn nothing_of none_drawn
chosen_drawn then_arm = more_drawn all_of (more_drawn nothing_of none_drawn)
chosen_drawn else_arm = more_drawn nothing_of (more_drawn all_of none_drawn)

gone_valid : {arms kept gone : Forest} → Chooses arms kept gone → valid_all arms ≡ true → valid_all gone ≡ true
gone_valid only_arm v = refl
gone_valid no_arm v = v
gone_valid (then_arm {a = a} {b = b}) v = (and_parts (valid a) (valid_all (b ⊳ ε)) v).1
gone_valid (else_arm {a = a} {b = b}) v = and_from (valid a) true (and_parts (valid a) (valid_all (b ⊳ ε)) v).0 refl

chosen_weight : {arms kept gone : Forest} → Chooses arms kept gone → weight_all kept + weight_all gone ≡ weight_all arms
chosen_weight only_arm = omega arith
chosen_weight no_arm = omega arith
chosen_weight then_arm = omega arith
chosen_weight else_arm = omega arith

pub record PartedNames (xs ys zs : List Name) : Type 0 where
  pub first_in : Within ys xs
  pub second_in : Within zs xs
  pub parted : (x : Name) → has_name x xs ≡ true → (has_name x ys ≡ true) ⊎ (has_name x zs ≡ true)

append_parts : (x : Name) (xs ys : List Name) → has_name x (xs ++ ys) ≡ true → (has_name x xs ≡ true) ⊎ (has_name x ys ≡ true)
append_parts x xs ys h = or_cases (has_name x xs) (has_name x ys) (sym (has_name_append x xs ys) ∙ h)

chosen_vars : {arms kept gone : Forest} → Chooses arms kept gone → PartedNames (vars_all arms) (vars_all kept) (vars_all gone)
chosen_vars (only_arm {a = a}) = record { first_in = within_same _; second_in = within_none _; parted = λ x h. inl h }
chosen_vars (no_arm {a = a}) = record { first_in = within_none _; second_in = within_same _; parted = λ x h. inr h }
chosen_vars (then_arm {a = a} {b = b}) = record { first_in = within_append (within_same (vars a)) (within_none (vars b ++ [])); second_in = within_second (vars a) (vars b ++ []); parted = λ x h. by_parts x (append_parts x (vars a) (vars b ++ []) h) }
  where
    by_parts : (x : Name) → (has_name x (vars a) ≡ true) ⊎ (has_name x (vars b ++ []) ≡ true) → (has_name x (vars a ++ []) ≡ true) ⊎ (has_name x (vars b ++ []) ≡ true)
    by_parts x (inl e) = inl (has_name_append x (vars a) [] ∙ or_left (has_name x (vars a)) false e)
    by_parts x (inr e) = inr e
chosen_vars (else_arm {a = a} {b = b}) = record { first_in = within_second (vars a) (vars b ++ []); second_in = within_append (within_same (vars a)) (within_none (vars b ++ [])); parted = λ x h. by_parts x (append_parts x (vars a) (vars b ++ []) h) }
  where
    by_parts : (x : Name) → (has_name x (vars a) ≡ true) ⊎ (has_name x (vars b ++ []) ≡ true) → (has_name x (vars b ++ []) ≡ true) ⊎ (has_name x (vars a ++ []) ≡ true)
    by_parts x (inl e) = inr (has_name_append x (vars a) [] ∙ or_left (has_name x (vars a)) false e)
    by_parts x (inr e) = inl e

pub hoists_same : {ts hs : Forest} → Hoists ts hs → SameNames (vars_all ts) (vars_all hs)
hoists_same {ts} (no_vars h) = record { there = within_none _; back = subst (λ xs. Within xs []) (sym h) (within_same []) }
hoists_same {ts} (some_vars {ss = ss} {ds = ds} b f g n m) = record { there = subst (λ xs. Within xs (vars_all ts)) (sym (append-nil (vars_all ds) ∙ bare_vars ds b)) f; back = subst (λ xs. Within (vars_all ts) xs) (sym (append-nil (vars_all ds) ∙ bare_vars ds b)) g }

pub tested_vars : {t c : Tree} {es : Forest} → Tested t c es → vars_all es ≡ []
tested_vars untested = refl
tested_vars (tested parts d o v w) = refl

-- the names of what a condition becomes
chosen_same : {t c : Tree} {arms es hs kept gone : Forest} → Chooses arms kept gone → Tested t c es → Hoists gone hs → SameNames (vars_all arms) (vars_all (joined es (joined hs kept)))
chosen_same {t} {c} {arms} {es} {hs} {kept} {gone} k e h = subst (λ xs. SameNames (vars_all arms) xs) (sym (vars_joined es (joined hs kept) ∙ ap (λ xs. xs ++ vars_all (joined hs kept)) (tested_vars e) ∙ vars_joined hs kept)) (record {
  there = within_both (within_trans (hoists_same h).there (chosen_vars k).second_in) (chosen_vars k).first_in;
  back = record { by = λ x i. by_parts x ((chosen_vars k).parted x i) };
})
  where
    by_parts : (x : Name) → (has_name x (vars_all kept) ≡ true) ⊎ (has_name x (vars_all gone) ≡ true) → has_name x (vars_all hs ++ vars_all kept) ≡ true
    by_parts x (inl i) = has_name_append x (vars_all hs) (vars_all kept) ∙ or_right (has_name x (vars_all hs)) (has_name x (vars_all kept)) i
    by_parts x (inr i) = has_name_append x (vars_all hs) (vars_all kept) ∙ or_left (has_name x (vars_all hs)) (has_name x (vars_all kept)) ((hoists_same h).back.by x i)

pub tested_weight : {t c : Tree} {es : Forest} → Tested t c es → weight_all es ≤ weight c + 2
unfolding own_weight
tested_weight untested = omega arith
tested_weight (tested parts d o v w) = omega (arith, w)

pub hoists_weigh : {ts hs : Forest} → Hoists ts hs → weight_all hs ≤ weight_all ts + 3
hoists_weigh {ts} h = omega (arith, hoists_weight h, all_vars_weight ts)

pub tested_unreached : {t c : Tree} {es : Forest} (us : Forest) → Tested t c es → unreached (joined es us) ≡ unreached us
tested_unreached us untested = refl
tested_unreached us (tested parts d o v w) = refl

pub unreached_one : (t : Tree) → unreached (t ⊳ ε) ≡ 0
unreached_one t = by_stopper (is_stopper t)
  where
    by_stopper : (b : Bool) → ◌≡◌ {A = ℕ} (if b then 0 else 0) 0
    by_stopper true = refl
    by_stopper false = refl

kept_unreached : {arms kept gone : Forest} → Chooses arms kept gone → unreached kept ≡ 0
kept_unreached (only_arm {a = a}) = unreached_one a
kept_unreached no_arm = refl
kept_unreached (then_arm {a = a}) = unreached_one a
kept_unreached (else_arm {b = b}) = unreached_one b

chosen_unreached : {t c : Tree} {arms es hs kept gone : Forest} → Chooses arms kept gone → Tested t c es → Hoists gone hs → unreached (joined es (joined hs kept)) ≡ 0
chosen_unreached {hs = hs} {kept = kept} k e h = tested_unreached (joined hs kept) e ∙ hoists_unreached kept h ∙ kept_unreached k

-- only the arm that stays may stop
single_stopper : {arms kept gone : Forest} (rs : List Span) → Chooses arms kept gone → is_stopper (as_statement rs kept) ≡ true → weight (as_statement rs kept) ≤ weight_all arms
single_stopper rs only_arm h = omega arith
single_stopper rs no_arm h = absurd (false≢true h)
single_stopper rs then_arm h = omega arith
single_stopper rs else_arm h = omega arith

pub front_stopper : (rs : List Span) (t : Tree) (us : Forest) → is_stopper t ≡ false → is_stopper (as_statement rs (t ⊳ us)) ≡ false
front_stopper rs t ε h = h
front_stopper rs t (u ⊳ us) h = refl

chosen_stopper : {t c : Tree} {arms es hs kept gone : Forest} (rs : List Span) → Chooses arms kept gone → Tested t c es → Hoists gone hs → is_stopper (as_statement rs (joined es (joined hs kept))) ≡ true → weight (as_statement rs (joined es (joined hs kept))) ≤ weight_all arms
chosen_stopper rs k untested (no_vars h) s = single_stopper rs k s
chosen_stopper {kept = kept} rs k untested (some_vars b f g n m) s = absurd (false≢true (sym (front_stopper rs _ kept refl) ∙ s))
chosen_stopper {hs = hs} {kept = kept} rs k (tested parts d o v w) h s = absurd (false≢true (sym (front_stopper rs _ (joined hs kept) refl) ∙ s))

pub tested_over : {t c : Tree} {es : Forest} → Tested t c es → (parts : Forest) × Drawn c parts × Over (valid t ≡ true) (fits t ≡ true) parts es
tested_over untested = (ε, nothing_of, over_none)
tested_over {t} (tested {ss = ss} {e = e} parts d o v w) = (parts, d, subst (λ z. Over (valid t ≡ true) (fits t ≡ true) z (node ExprStmt ss (e ⊳ ε) ⊳ ε)) (joined_none parts) (over_made (expression_made _ _ (e ⊳ ε)) o over_none))

pub joined_plain : (ts us : Forest) → all_plain ts ≡ true → all_plain us ≡ true → all_plain (joined ts us) ≡ true
joined_plain ε us h i = i
joined_plain (t ⊳ ts) us h i = let p = and_parts (is_plain_statement (label_of t)) (all_plain ts) h in and_from (is_plain_statement (label_of t)) (all_plain (joined ts us)) p.0 (joined_plain ts us p.1 i)

pub tested_plain : {t c : Tree} {es : Forest} → Tested t c es → all_plain es ≡ true
tested_plain untested = refl
tested_plain (tested parts d o v w) = refl

pub hoists_plain : {ts hs : Forest} → Hoists ts hs → all_plain hs ≡ true
hoists_plain (no_vars h) = refl
hoists_plain (some_vars b f g n m) = refl

choose_step : {N : Type 0} {P : Name → Type 0} {ss : List Span} {c : Tree} {arms : Forest} (rs : List Span) (es hs kept gone : Forest) → N → Chooses arms kept gone → vars c ≡ [] → all_plain kept ≡ true → Tested (node If ss (c ⊳ arms)) c es → Hoists gone hs → Step N P (node If ss (c ⊳ arms)) (as_statement rs (joined es (joined hs kept)))
unfolding own_weight
choose_step {N} {P} {ss} {c} {arms} rs es hs kept gone n k cv kp e h =
    let t = node If ss (c ⊳ arms) in
    let ws = joined es (joined hs kept) in
    let all : all_plain ws ≡ true = joined_plain es (joined hs kept) (tested_plain e) (joined_plain hs kept (hoists_plain h) kp) in
    let to = tested_over e in
    let over : Over (valid t ≡ true) (fits t ≡ true) (joined to.0 kept) ws = over_joined to.2 (over_joined (hoists_over _ _ (λ v. gone_valid k (and_parts (valid c) (valid_all arms) (valid_below If ss (c ⊳ arms) v)).1) h) (over_itself kept)) in
    let names : SameNames (vars t) (vars (as_statement rs ws)) = subst (λ xs. SameNames xs (vars (as_statement rs ws))) (sym (ap (λ xs. xs ++ vars_all arms) cv)) (subst (λ xs. SameNames (vars_all arms) xs) (sym (sym (append-nil (vars (as_statement rs ws))) ∙ gathered_vars rs ws)) (chosen_same k e h)) in
    record {
      keeps = built_keeps refl (statement_plain t refl) (statement_plain (as_statement rs ws) (gathered_plain rs ws all)) names.there (more_drawn to.1 (chosen_drawn k)) (gathered_over rs (joined to.0 kept) ws all over);
      spares = spares_plain (statement_plain t refl) (statement_plain (as_statement rs ws) (gathered_plain rs ws all)) (spared_same_names names);
      lowers = statement_lowers n refl refl (omega (arith, gathered_weight rs ws, chosen_unreached k e h, weight_joined es (joined hs kept), weight_joined hs kept, tested_weight e, hoists_weigh h, chosen_weight k)) (λ s. omega (arith, chosen_stopper rs k e h s));
    }

-- a loop that takes no turn

pub hoists_no_stopper : {ts hs : Forest} (rs : List Span) → Hoists ts hs → is_stopper (as_statement rs hs) ≡ false
hoists_no_stopper rs (no_vars h) = refl
hoists_no_stopper rs (some_vars b f g n m) = refl

pub hoists_none_unreached : {ts hs : Forest} → Hoists ts hs → unreached hs ≡ 0
hoists_none_unreached (no_vars h) = refl
hoists_none_unreached (some_vars b f g n m) = refl

no_turn_step : {N : Type 0} {P : Name → Type 0} {ss : List Span} {c b : Tree} (rs : List Span) (hs : Forest) → N → vars c ≡ [] → Hoists (b ⊳ ε) hs → Step N P (node While ss (c ⊳ b ⊳ ε)) (as_statement rs hs)
unfolding own_weight
no_turn_step {N} {P} {ss} {c} {b} rs hs n cv h =
    let t = node While ss (c ⊳ b ⊳ ε) in
    let names : SameNames (vars t) (vars (as_statement rs hs)) = subst (λ xs. SameNames xs (vars (as_statement rs hs))) (sym (ap (λ xs. xs ++ vars_all (b ⊳ ε)) cv)) (subst (λ xs. SameNames (vars_all (b ⊳ ε)) xs) (sym (sym (append-nil (vars (as_statement rs hs))) ∙ gathered_vars rs hs)) (hoists_same h)) in
    record {
      keeps = made_keeps (statement_plain t refl) (statement_plain (as_statement rs hs) (gathered_plain rs hs (hoists_plain h))) names.there (gathered_over rs ε hs (hoists_plain h) (hoists_over _ _ (λ v. (and_parts (valid c) (valid_all (b ⊳ ε)) (valid_below While ss (c ⊳ b ⊳ ε) v)).1) h));
      spares = spares_plain (statement_plain t refl) (statement_plain (as_statement rs hs) (gathered_plain rs hs (hoists_plain h))) (spared_same_names names);
      lowers = statement_lowers n refl refl (omega (arith, gathered_weight rs hs, hoists_none_unreached h, hoists_weigh h)) (λ s. absurd (false≢true (sym (hoists_no_stopper rs h) ∙ s)));
    }

-- blocks of one statement

unwrap_keeps : (ss : List Span) (s : Tree) → is_plain_statement (label_of s) ≡ true → Keeps (node Block ss (s ⊳ ε)) s
unwrap_keeps ss s p = built_keeps refl (statement_plain (node Block ss (s ⊳ ε)) refl) (statement_plain s p) (subst (λ xs. Within (vars s) xs) (sym (append-nil (vars s))) (within_same (vars s))) (more_drawn all_of none_drawn) (over_piece over_none)

unwrap_spares : {P : Name → Type 0} (ss : List Span) (s : Tree) → is_plain_statement (label_of s) ≡ true → Spares P (node Block ss (s ⊳ ε)) s
unwrap_spares ss s p = spares_plain (statement_plain (node Block ss (s ⊳ ε)) refl) (statement_plain s p) (spared_path (append-nil (vars s)))

unwrap_lowers : {N : Type 0} (ss : List Span) (ts : Forest) (s : Tree) → N → weight s ≤ weight_all ts → Lowers N (node Block ss ts) s
unfolding own_weight
unwrap_lowers ss ts s n w = record {
  lower = omega arith;
  lower_list = λ i. omega arith;
  truth_kept = λ i. absurd (false≢true i);
  stopper_paid = λ i. inr (n, omega arith);
  stay_paid = λ i. absurd (false≢true i);
}

-- statements that do nothing

hollow_step : {N : Type 0} {P : Name → Type 0} (ss rs : List Span) → N → Step N P (node Block ss ε) (node Empty rs ε)
unfolding own_weight
hollow_step ss rs n = record {
  keeps = made_keeps (statement_plain (node Block ss ε) refl) (statement_plain (node Empty rs ε) refl) (within_none _) (over_made (empty_made _ _ ε) over_none over_none);
  spares = spares_plain (statement_plain (node Block ss ε) refl) (statement_plain (node Empty rs ε) refl) (spared_same []);
  lowers = record { lower = omega arith; lower_list = λ i. omega arith; truth_kept = λ i. absurd (false≢true i); stopper_paid = λ i. absurd (false≢true i); stay_paid = λ i. absurd (false≢true i) };
}

idle_step : {N : Type 0} {P : Name → Type 0} (ss rs : List Span) (e : Tree) → N → Step N P (node ExprStmt ss (e ⊳ ε)) (node Empty rs ε)
unfolding own_weight
idle_step ss rs e n = record {
  keeps = made_keeps (statement_plain (node ExprStmt ss (e ⊳ ε)) refl) (statement_plain (node Empty rs ε) refl) (within_none _) (over_made (empty_made _ _ ε) over_none over_none);
  spares = spares_plain (statement_plain (node ExprStmt ss (e ⊳ ε)) refl) (statement_plain (node Empty rs ε) refl) (spared_same []);
  lowers = statement_lowers n refl refl (omega arith) (λ s. absurd (false≢true s));
}

pub branch_step : {N : Type 0} {P : Name → Type 0} (t u : Tree) → N → BranchStep t u → Step N P t u
branch_step t u n (choose {ss = ss} {c = c} {arms = arms} rs es hs kept gone k cv kp e h) = choose_step rs es hs kept gone n k cv kp e h
branch_step t u n (no_turn {ss = ss} {c = c} {b = b} rs hs cv h) = no_turn_step rs hs n cv h
branch_step t u n (unwrap {ss = ss} {s = s} p) = record { keeps = unwrap_keeps ss s p; spares = unwrap_spares ss s p; lowers = unwrap_lowers ss (s ⊳ ε) s n (omega arith) }
branch_step t u n (hollow {ss = ss} {rs = rs}) = hollow_step ss rs n
branch_step {N} {P} t u n (tidy_unwrap {ss = ss} {ts = ts} {s = s} d p) = record {
  keeps = keeps_then (list_keeps Block ss refl (tidies_keep d)) (unwrap_keeps ss s p);
  spares = spares_then (list_spares Block ss refl refl (tidies_spare_vars d)) (unwrap_spares ss s p);
  lowers = unwrap_lowers ss ts s n (tidies_single d);
}
branch_step t u n (idle {ss = ss} {rs = rs} {e = e} v) = idle_step ss rs e n
