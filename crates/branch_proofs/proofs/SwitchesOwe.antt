-- Each step of a `switch` owes nothing.
use Rattle.std.proofs.Common.{◌≡◌, ◌+◌, ◌≤◌, ◌<◌, Bool, true, false, ◌&&◌, List, [], ◌++◌, refl, sym, ap, subst, ◌∙◌, arith, append-nil, ◌⊎◌, inl, inr}
use Rattle.std.proofs.lemmas.Bool.{and_parts, and_from, or_left, or_right, false≢true}
use Rattle.swc_ast.specs.declared.Span.{Span}
use Rattle.swc_ast.specs.Tree.{Name, Block, Switch, Tree, node, Forest, ε, ◌⊳◌}
use Rattle.swc_ast.specs.Scope.{has_name, vars, vars_all, joined, body_statements, case_statements, list_binds}
use Rattle.swc_ast.specs.Valid.{valid, valid_all}
use Rattle.swc_ast.specs.Resolved.{own_scopes, scopes, scopes_all, Targets, below, aimed, aimed_all, apart, apart_all}
use Rattle.swc_ast.specs.Core.{list_names, good_list, fits, fits_all}
use Rattle.swc_ast.specs.Weight.{own_weight, weight, weight_all, is_stopper, unreached}
use Rattle.static_proofs.specs.Names.{Within, Fewer, KeptList}
use Rattle.static_proofs.specs.Keeps.{Keeps}
use Rattle.static_proofs.specs.Step.{Step}
use Rattle.static_proofs.specs.Together.{without_own}
use Rattle.static_proofs.specs.Drawn.{Drawn}
use Rattle.static_proofs.specs.Over.{Over, over_none, over_made}
use Rattle.static_proofs.specs.Jumps.{jumps_out, any_jumps_out}
use Rattle.static_proofs.proofs.Names.{within_same, within_none, within_append, within_trans, within_both, within_first, within_second, fewer_same, fewer_none, fewer_append, fewer_trans, fewer_second, has_name_append}
use Rattle.static_proofs.proofs.Parts.{vars_joined, names_joined}
use Rattle.static_proofs.proofs.Inside.{one_if_kept, list_binds_kept, good_list_kept}
use Rattle.static_proofs.proofs.Targets.{same_labels, no_labels, aimed_all_more}
use Rattle.static_proofs.proofs.Jumps.{MoreBut, aimed_but, aimed_all_but}
use Rattle.static_proofs.proofs.Drawn.{scopes_joined, weight_joined, valid_joined, aimed_joined, apart_joined, fits_joined, drawn_scopes, drawn_valid, drawn_aimed, drawn_apart, drawn_fit, valid_below, aimed_below, apart_below, fits_below}
use Rattle.static_proofs.proofs.Spared.{spared_path}
use Rattle.static_proofs.proofs.Plain.{statement_plain, keeps_plain, spares_plain}
use Rattle.static_proofs.proofs.Over.{single, valid_parts, aimed_parts, apart_parts, fits_parts, more_without, over_scopes, over_valid, over_aimed, over_apart, over_fits}
use Rattle.branch_rules.specs.Statements.{all_plain}
use Rattle.branch_proofs.proofs.ListForms.{Hoists, no_vars, some_vars}
use Rattle.branch_proofs.proofs.BranchForms.{Tested, untested, tested}
use Rattle.branch_rules.specs.Statements.{as_statement}
use Rattle.branch_proofs.proofs.SwitchForms.{Takes, SwitchStep, taken, none_taken, no_cases, taken_apart, cases_gone}
use Rattle.branch_proofs.proofs.PlainNames.{plain_names}
use Rattle.branch_proofs.proofs.Cuts.{hoists_unreached}
use Rattle.branch_proofs.proofs.Gathered.{joined_none, joined_assoc, over_joined, block_made, over_itself, hoists_over, gathered_over, gathered_vars, gathered_plain, gathered_weight}
use Rattle.branch_proofs.proofs.BranchesOwe.{SameNames, statement_lowers, spared_same_names, hoists_same, hoists_weigh, hoists_plain, front_stopper, joined_plain, tested_over, tested_plain, tested_vars, tested_weight, tested_unreached}
use Rattle.branch_proofs.proofs.Takes.{in_front, in_back, in_either, takes_vars, takes_statements, takes_names, takes_weight, takes_scopes, takes_valid, takes_aimed, takes_apart, takes_fit}

-- below a switch an unlabelled `break` may stand that may not stand where the switch does
leaves_switch : (kinds : List Bool) (g : Targets) → MoreBut true false (below (Switch kinds) g) (without_own g)
leaves_switch kinds g = record { but_labels = same_labels g.labels; but_loops = same_labels g.loops; but_own = no_labels []; but_break = λ i e. absurd (false≢true (sym i)); but_continue = λ i e. e }

module _ (kinds : List Bool) (ss : List Span) (d : Tree) (cs ws ds : Forest) (k : Takes cs ws ds) (dv : vars d ≡ []) (dj : jumps_out true false d ≡ false) (wj : any_jumps_out true false ws ≡ false) (es hs : Forest) (e : Tested (node (Switch kinds) ss (d ⊳ cs)) d es) (h : Hoists ds hs) where
  abbrev whole : Tree
  whole = node (Switch kinds) ss (d ⊳ cs)

  abbrev V : Type 0
  V = valid whole ≡ true

  abbrev F : Type 0
  F = fits whole ≡ true

  abbrev left : Forest
  left = joined es (joined hs ws)

  test_parts : (parts : Forest) × Drawn d parts × Over V F parts es
  test_parts = tested_over e

  hoisted : Over V F ε hs
  hoisted = hoists_over V F (λ v. (takes_valid k (and_parts (valid d) (valid_all cs) (valid_below (Switch kinds) ss (d ⊳ cs) v)).1).1) h

  names_left : list_names left ≡ list_names ws
  names_left = names_joined es (joined hs ws) ∙ ap (λ xs. xs ++ list_names (joined hs ws)) (plain_names es (tested_plain e)) ∙ names_joined hs ws ∙ ap (λ xs. xs ++ list_names ws) (plain_names hs (hoists_plain h))

  vars_left : vars_all left ≡ vars_all hs ++ vars_all ws
  vars_left = vars_joined es (joined hs ws) ∙ ap (λ xs. xs ++ vars_all (joined hs ws)) (tested_vars e) ∙ vars_joined hs ws

  -- the discriminant's own part, if any, comes first
  statements_behind : Within (vars_all (case_statements cs)) (vars_all (case_statements (d ⊳ cs)))
  statements_behind = behind d
    where
      behind : (d : Tree) → Within (vars_all (case_statements cs)) (vars_all (case_statements (d ⊳ cs)))
      behind (node l rs is) = subst (λ xs. Within (vars_all (case_statements cs)) xs) (sym (vars_joined (body_statements l is) (case_statements cs))) (within_second _ _)

  names_behind : Fewer (list_names (case_statements cs)) (list_names (case_statements (d ⊳ cs)))
  names_behind = behind d
    where
      behind : (d : Tree) → Fewer (list_names (case_statements cs)) (list_names (case_statements (d ⊳ cs)))
      behind (node l rs is) = subst (λ xs. Fewer (list_names (case_statements cs)) xs) (sym (names_joined (body_statements l is) (case_statements cs))) (fewer_second _ _)

  list_kept : KeptList (case_statements (d ⊳ cs)) left
  list_kept = record {
    vars_kept = subst (λ xs. Within xs (vars_all (case_statements (d ⊳ cs)))) (sym vars_left) (within_both (within_trans (hoists_same h).there (within_trans (takes_statements k).1 statements_behind)) (within_trans (takes_statements k).0 statements_behind));
    names_kept = subst (λ xs. Fewer xs (list_names (case_statements (d ⊳ cs)))) (sym names_left) (fewer_trans (takes_names k) names_behind);
  }

  same_names : SameNames (vars whole) (vars_all left)
  same_names = subst (λ xs. SameNames xs (vars_all left)) (sym (ap (λ xs. xs ++ vars_all cs) dv)) (subst (λ xs. SameNames (vars_all cs) xs) (sym vars_left) (record {
    there = within_both (within_trans (hoists_same h).there (takes_vars k).second_in) (takes_vars k).first_in;
    back = record { by = λ x i. by_place x ((takes_vars k).parted x i) };
  }))
    where
      by_place : (x : Name) → (has_name x (vars_all ws) ≡ true) ⊎ (has_name x (vars_all ds) ≡ true) → has_name x (vars_all hs ++ vars_all ws) ≡ true
      by_place x (inl i) = has_name_append x (vars_all hs) (vars_all ws) ∙ or_right (has_name x (vars_all hs)) _ i
      by_place x (inr i) = has_name_append x (vars_all hs) (vars_all ws) ∙ or_left (has_name x (vars_all hs)) _ ((hoists_same h).back.by x i)

  scopes_left : (x : Name) → scopes_all x left ≤ scopes x d + scopes_all x cs
  scopes_left x = omega (arith, scopes_joined x es (joined hs ws), scopes_joined x hs ws, over_scopes V F x test_parts.2, drawn_scopes x test_parts.1, over_scopes V F x hoisted, takes_scopes x k)

  valid_left : V → valid_all left ≡ true
  valid_left v =
      let p = and_parts (valid d) (valid_all cs) (valid_below (Switch kinds) ss (d ⊳ cs) v) in
      valid_joined es (joined hs ws) (over_valid V F test_parts.2 v (drawn_valid test_parts.1 p.0)) (valid_joined hs ws (over_valid V F hoisted v refl) (takes_valid k p.1).0)

  aimed_left : (g : Targets) → aimed g whole ≡ true → aimed_all (without_own g) left ≡ true
  aimed_left g v =
      let p = and_parts (aimed (below (Switch kinds) g) d) (aimed_all (below (Switch kinds) g) cs) (aimed_below g (Switch kinds) ss (d ⊳ cs) v) in
      aimed_joined (without_own g) es (joined hs ws) (over_aimed V F g test_parts.2 (drawn_aimed (without_own g) test_parts.1 (aimed_but d true false (leaves_switch kinds g) dj p.0)))
      (aimed_joined (without_own g) hs ws (over_aimed V F g hoisted refl) (aimed_all_but ws true false (leaves_switch kinds g) wj (takes_aimed (below (Switch kinds) g) k p.1)))

  apart_left : apart whole ≡ true → apart_all left ≡ true
  apart_left v =
      let p = and_parts (apart d) (apart_all cs) (apart_below (Switch kinds) ss (d ⊳ cs) v) in
      apart_joined es (joined hs ws) (over_apart V F test_parts.2 (drawn_apart test_parts.1 p.0)) (apart_joined hs ws (over_apart V F hoisted refl) (takes_apart k p.1))

  fits_left : F → fits_all left ≡ true
  fits_left f =
      let p = and_parts (fits d) (fits_all cs) (fits_below (Switch kinds) ss (d ⊳ cs) f) in
      fits_joined es (joined hs ws) (over_fits V F test_parts.2 f (drawn_fit test_parts.1 p.0)) (fits_joined hs ws (over_fits V F hoisted f refl) (takes_fit k p.1))

  left_weight : weight_all left ≤ weight d + weight_all cs + 5
  left_weight = omega (arith, weight_joined es (joined hs ws), weight_joined hs ws, tested_weight e, hoists_weigh h, takes_weight k)

  left_unreached : unreached left ≡ unreached ws
  left_unreached = tested_unreached (joined hs ws) e ∙ hoists_unreached ws h

  block_keeps : (rs : List Span) → Keeps whole (node Block rs left)
  unfolding own_scopes
  block_keeps rs = keeps_plain (statement_plain whole refl) (statement_plain (node Block rs left) refl)
      (λ x. omega (arith, scopes_left x, one_if_kept (list_binds (case_statements (d ⊳ cs)) x) (list_binds left x) (list_binds_kept x list_kept)))
      same_names.there
      (λ v. valid_left v)
      (λ g v. aimed_left g v)
      (λ v. apart_left v)
      (λ f. and_from (good_list left) (fits_all left) (good_list_kept list_kept (and_parts (good_list (case_statements (d ⊳ cs))) (fits_all (d ⊳ cs)) f).0) (fits_left f))

  pub taken_step : {N : Type 0} {P : Name → Type 0} (rs : List Span) → N → unreached ws ≡ 0 → Step N P whole (node Block rs left)
  unfolding own_weight
  taken_step rs n u = record {
    keeps = block_keeps rs;
    spares = spares_plain (statement_plain whole refl) (statement_plain (node Block rs left) refl) (spared_same_names same_names);
    lowers = statement_lowers n refl refl (omega (arith, left_weight, left_unreached, u)) (λ s. absurd (false≢true s));
  }

  gathered_keeps : (rs : List Span) → all_plain ws ≡ true → Keeps whole (as_statement rs left)
  gathered_keeps rs p =
      let plain : all_plain left ≡ true = joined_plain es (joined hs ws) (tested_plain e) (joined_plain hs ws (hoists_plain h) p) in
      let o : Over V F left (as_statement rs left ⊳ ε) = gathered_over rs left left plain (over_itself left) in
      keeps_plain (statement_plain whole refl) (statement_plain (as_statement rs left) (gathered_plain rs left plain))
      (λ x. omega (arith, scopes_left x, over_scopes V F x o))
      (subst (λ xs. Within xs (vars whole)) (append-nil (vars (as_statement rs left))) (subst (λ xs. Within xs (vars whole)) (sym (gathered_vars rs left)) same_names.there))
      (λ v. single (valid (as_statement rs left)) (over_valid V F o v (valid_left v)))
      (λ g v. single (aimed g (as_statement rs left)) (aimed_all_more (as_statement rs left ⊳ ε) (more_without g) (over_aimed V F g o (aimed_left g v))))
      (λ v. single (apart (as_statement rs left)) (over_apart V F o (apart_left v)))
      (λ f. single (fits (as_statement rs left)) (over_fits V F o f (fits_left f)))

  pub gathered_step : {N : Type 0} {P : Name → Type 0} (rs : List Span) → N → all_plain ws ≡ true → unreached ws ≡ 0 → is_stopper (as_statement rs left) ≡ false → Step N P whole (as_statement rs left)
  unfolding own_weight
  gathered_step rs n p u s =
      let plain : all_plain left ≡ true = joined_plain es (joined hs ws) (tested_plain e) (joined_plain hs ws (hoists_plain h) p) in
      let names : SameNames (vars whole) (vars (as_statement rs left)) = subst (λ xs. SameNames (vars whole) xs) (append-nil (vars (as_statement rs left))) (subst (λ xs. SameNames (vars whole) xs) (sym (gathered_vars rs left)) same_names) in
      record {
        keeps = gathered_keeps rs p;
        spares = spares_plain (statement_plain whole refl) (statement_plain (as_statement rs left) (gathered_plain rs left plain)) (spared_same_names names);
        lowers = statement_lowers n refl refl (omega (arith, left_weight, left_unreached, u, gathered_weight rs left)) (λ i. absurd (false≢true (sym s ∙ i)));
      }

  -- in a block of its own

  abbrev rest : Forest
  rest = joined hs ws

  rest_kept : KeptList (case_statements (d ⊳ cs)) rest
  rest_kept = record {
    vars_kept = subst (λ xs. Within xs (vars_all (case_statements (d ⊳ cs)))) (sym (vars_joined hs ws)) (within_both (within_trans (hoists_same h).there (within_trans (takes_statements k).1 statements_behind)) (within_trans (takes_statements k).0 statements_behind));
    names_kept = subst (λ xs. Fewer xs (list_names (case_statements (d ⊳ cs)))) (sym (names_joined hs ws ∙ ap (λ xs. xs ++ list_names ws) (plain_names hs (hoists_plain h)))) (fewer_trans (takes_names k) names_behind);
  }

  abbrev both : List Span → Forest
  both qs = joined es (node Block qs rest ⊳ ε)

  both_plain : (qs : List Span) → all_plain (both qs) ≡ true
  both_plain qs = joined_plain es (node Block qs rest ⊳ ε) (tested_plain e) refl

  both_vars : (qs : List Span) → vars_all (both qs) ≡ vars_all left
  both_vars qs = vars_joined es (node Block qs rest ⊳ ε) ∙ ap (λ xs. vars_all es ++ xs) (append-nil (vars_all rest)) ∙ sym (vars_joined es rest)

  both_scopes : (x : Name) (qs : List Span) → scopes_all x (both qs) ≤ scopes x whole
  unfolding own_scopes
  both_scopes x qs = omega (arith, scopes_joined x es (node Block qs rest ⊳ ε), scopes_joined x hs ws, over_scopes V F x test_parts.2, drawn_scopes x test_parts.1, over_scopes V F x hoisted, takes_scopes x k, one_if_kept (list_binds (case_statements (d ⊳ cs)) x) (list_binds rest x) (list_binds_kept x rest_kept))

  both_valid : (qs : List Span) → V → valid_all (both qs) ≡ true
  both_valid qs v = let p = valid_parts es rest (valid_left v) in valid_joined es (node Block qs rest ⊳ ε) p.0 (and_from (valid_all rest) true p.1 refl)

  both_aimed : (qs : List Span) (g : Targets) → aimed g whole ≡ true → aimed_all (without_own g) (both qs) ≡ true
  both_aimed qs g v = let p = aimed_parts (without_own g) es rest (aimed_left g v) in aimed_joined (without_own g) es (node Block qs rest ⊳ ε) p.0 (and_from (aimed_all (without_own g) rest) true p.1 refl)

  both_apart : (qs : List Span) → apart whole ≡ true → apart_all (both qs) ≡ true
  both_apart qs v = let p = apart_parts es rest (apart_left v) in apart_joined es (node Block qs rest ⊳ ε) p.0 (and_from (apart_all rest) true p.1 refl)

  both_fit : (qs : List Span) → F → fits_all (both qs) ≡ true
  both_fit qs f =
      let p = fits_parts es rest (fits_left f) in
      fits_joined es (node Block qs rest ⊳ ε) p.0 (and_from (good_list rest && fits_all rest) true (and_from (good_list rest) (fits_all rest) (good_list_kept rest_kept (and_parts (good_list (case_statements (d ⊳ cs))) (fits_all (d ⊳ cs)) f).0) p.1) refl)

  both_names : (qs : List Span) → SameNames (vars whole) (vars_all (both qs))
  both_names qs = subst (λ xs. SameNames (vars whole) xs) (sym (both_vars qs)) same_names

  pub apart_step : {N : Type 0} {P : Name → Type 0} (rs qs : List Span) → N → unreached ws ≡ 0 → Step N P whole (node Block rs (both qs))
  unfolding own_weight
  apart_step rs qs n u =
      let o : Over V F (both qs) (node Block rs (both qs) ⊳ ε) = subst (λ z. Over V F z (node Block rs (both qs) ⊳ ε)) (joined_none (both qs)) (over_made (block_made V F (both qs) (both_plain qs)) (over_itself (both qs)) over_none) in
      record {
        keeps = keeps_plain (statement_plain whole refl) (statement_plain (node Block rs (both qs)) refl)
            (λ x. omega (arith, both_scopes x qs, over_scopes V F x o))
            (both_names qs).there
            (λ v. both_valid qs v)
            (λ g v. both_aimed qs g v)
            (λ v. both_apart qs v)
            (λ f. single (fits (node Block rs (both qs))) (over_fits V F o f (both_fit qs f)));
        spares = spares_plain (statement_plain whole refl) (statement_plain (node Block rs (both qs)) refl) (spared_same_names (both_names qs));
        lowers = statement_lowers n refl refl (omega (arith, weight_joined es (node Block qs rest ⊳ ε), weight_joined hs ws, tested_weight e, hoists_weigh h, takes_weight k, tested_unreached (node Block qs rest ⊳ ε) e, hoists_unreached ws h, u)) (λ s. absurd (false≢true s));
      }

none_stopper : {t c : Tree} {es ds hs : Forest} (rs : List Span) → Tested t c es → Hoists ds hs → is_stopper (as_statement rs (joined es (joined hs ε))) ≡ false
none_stopper rs untested (no_vars h) = refl
none_stopper rs untested (some_vars b f g n m) = refl
none_stopper {hs = hs} rs (tested parts d o v w) h = front_stopper rs _ (joined hs ε) refl

-- a switch that loses its cases

first_names_kept : (d : Tree) (cs : Forest) → KeptList (case_statements (d ⊳ cs)) (case_statements (d ⊳ ε))
first_names_kept (node l ss is) cs = record {
  vars_kept = subst (λ xs. Within xs (vars_all (joined (body_statements l is) (case_statements cs)))) (sym (vars_joined (body_statements l is) ε)) (subst (λ xs. Within (vars_all (body_statements l is) ++ []) xs) (sym (vars_joined (body_statements l is) (case_statements cs))) (within_append (within_same _) (within_none _)));
  names_kept = subst (λ xs. Fewer xs (list_names (joined (body_statements l is) (case_statements cs)))) (sym (names_joined (body_statements l is) ε)) (subst (λ xs. Fewer (list_names (body_statements l is) ++ []) xs) (sym (names_joined (body_statements l is) (case_statements cs))) (fewer_append (fewer_same _) (fewer_none _)));
}

no_cases_keeps : (kinds : List Bool) (ss : List Span) (d : Tree) (cs : Forest) → Keeps (node (Switch kinds) ss (d ⊳ cs)) (node (Switch []) ss (d ⊳ ε))
unfolding own_scopes
no_cases_keeps kinds ss d cs = record {
  scopes_kept = λ x. omega (arith, one_if_kept (list_binds (case_statements (d ⊳ cs)) x) (list_binds (case_statements (d ⊳ ε)) x) (list_binds_kept x (first_names_kept d cs)));
  vars_kept = within_append (within_same (vars d)) (within_none (vars_all cs));
  names_kept = fewer_same [];
  own_kept = fewer_same [];
  frame_kept = refl;
  part_kept = tt;
  listed_kept = λ h. h;
  valid_kept = λ v. and_from (valid d) true (and_parts (valid d) (valid_all cs) (valid_below (Switch kinds) ss (d ⊳ cs) v)).0 refl;
  aimed_kept = λ g v. and_from (aimed (below (Switch kinds) g) d) true (and_parts (aimed (below (Switch kinds) g) d) (aimed_all (below (Switch kinds) g) cs) (aimed_below g (Switch kinds) ss (d ⊳ cs) v)).0 refl;
  apart_kept = λ v. and_from (apart d) true (and_parts (apart d) (apart_all cs) (apart_below (Switch kinds) ss (d ⊳ cs) v)).0 refl;
  fits_kept = λ f. and_from (good_list (case_statements (d ⊳ ε))) (fits d && true) (good_list_kept (first_names_kept d cs) (and_parts (good_list (case_statements (d ⊳ cs))) (fits_all (d ⊳ cs)) f).0) (and_from (fits d) true (and_parts (fits d) (fits_all cs) (fits_below (Switch kinds) ss (d ⊳ cs) f)).0 refl);
}

no_cases_step : {N : Type 0} {P : Name → Type 0} (kinds : List Bool) (ss : List Span) (d : Tree) (cs : Forest) → N → vars_all cs ≡ [] → 1 ≤ weight_all cs → Step N P (node (Switch kinds) ss (d ⊳ cs)) (node (Switch []) ss (d ⊳ ε))
unfolding own_weight
no_cases_step kinds ss d cs n e w = record {
  keeps = no_cases_keeps kinds ss d cs;
  spares = spares_plain (statement_plain (node (Switch kinds) ss (d ⊳ cs)) refl) (statement_plain (node (Switch []) ss (d ⊳ ε)) refl) (spared_path (ap (λ xs. vars d ++ xs) e));
  lowers = statement_lowers n refl refl (omega (arith, w)) (λ s. absurd (false≢true s));
}

-- leading cases that go

cases_joined : (ts us : Forest) → case_statements (joined ts us) ≡ joined (case_statements ts) (case_statements us)
cases_joined ε us = refl
cases_joined (node l ss is ⊳ ts) us = ap (joined (body_statements l is)) (cases_joined ts us) ∙ sym (joined_assoc (body_statements l is) (case_statements ts) (case_statements us))

module _ (kinds others : List Bool) (ss us : List Span) (d : Tree) (gone cs ds : Forest) (k : Takes gone ε ds) (hs : Forest) (h : Hoists ds hs) where
  abbrev before : Tree
  before = node (Switch kinds) ss (d ⊳ joined gone cs)

  abbrev after : Tree
  after = node (Switch others) us (d ⊳ cs)

  later_vars : Within (vars_all (case_statements cs)) (vars_all (case_statements (joined gone cs)))
  later_vars = subst (λ z. Within (vars_all (case_statements cs)) (vars_all z)) (sym (cases_joined gone cs)) (subst (λ xs. Within (vars_all (case_statements cs)) xs) (sym (vars_joined (case_statements gone) (case_statements cs))) (within_second _ _))

  later_names : Fewer (list_names (case_statements cs)) (list_names (case_statements (joined gone cs)))
  later_names = subst (λ z. Fewer (list_names (case_statements cs)) (list_names z)) (sym (cases_joined gone cs)) (subst (λ xs. Fewer (list_names (case_statements cs)) xs) (sym (names_joined (case_statements gone) (case_statements cs))) (fewer_second _ _))

  later_kept : KeptList (case_statements (d ⊳ joined gone cs)) (case_statements (d ⊳ cs))
  later_kept = behind d
    where
      behind : (d : Tree) → KeptList (case_statements (d ⊳ joined gone cs)) (case_statements (d ⊳ cs))
      behind (node l rs is) = record {
        vars_kept = subst (λ xs. Within xs (vars_all (joined (body_statements l is) (case_statements (joined gone cs))))) (sym (vars_joined (body_statements l is) (case_statements cs))) (subst (λ xs. Within (vars_all (body_statements l is) ++ vars_all (case_statements cs)) xs) (sym (vars_joined (body_statements l is) (case_statements (joined gone cs)))) (within_append (within_same _) later_vars));
        names_kept = subst (λ xs. Fewer xs (list_names (joined (body_statements l is) (case_statements (joined gone cs))))) (sym (names_joined (body_statements l is) (case_statements cs))) (subst (λ xs. Fewer (list_names (body_statements l is) ++ list_names (case_statements cs)) xs) (sym (names_joined (body_statements l is) (case_statements (joined gone cs)))) (fewer_append (fewer_same _) later_names));
      }

  after_scopes : (x : Name) → scopes x after ≤ scopes x before
  unfolding own_scopes
  after_scopes x = omega (arith, scopes_joined x gone cs, one_if_kept (list_binds (case_statements (d ⊳ joined gone cs)) x) (list_binds (case_statements (d ⊳ cs)) x) (list_binds_kept x later_kept))

  after_valid : valid before ≡ true → valid after ≡ true
  after_valid v = let p = and_parts (valid d) (valid_all (joined gone cs)) v in and_from (valid d) (valid_all cs) p.0 (valid_parts gone cs p.1).1

  after_aimed : (g : Targets) → aimed g before ≡ true → aimed (without_own g) after ≡ true
  after_aimed g v = let p = and_parts (aimed (below (Switch kinds) g) d) (aimed_all (below (Switch kinds) g) (joined gone cs)) v in and_from (aimed (below (Switch kinds) g) d) (aimed_all (below (Switch kinds) g) cs) p.0 (aimed_parts (below (Switch kinds) g) gone cs p.1).1

  after_apart : apart before ≡ true → apart after ≡ true
  after_apart v = let p = and_parts (apart d) (apart_all (joined gone cs)) v in and_from (apart d) (apart_all cs) p.0 (apart_parts gone cs p.1).1

  after_fits : fits before ≡ true → fits after ≡ true
  after_fits f =
      let p = and_parts (good_list (case_statements (d ⊳ joined gone cs))) (fits d && fits_all (joined gone cs)) f in
      let q = and_parts (fits d) (fits_all (joined gone cs)) p.1 in
      and_from (good_list (case_statements (d ⊳ cs))) (fits d && fits_all cs) (good_list_kept later_kept p.0) (and_from (fits d) (fits_all cs) q.0 (fits_parts gone cs q.1).1)

  abbrev items : Forest
  items = joined hs (after ⊳ ε)

  items_plain : all_plain items ≡ true
  items_plain = joined_plain hs (after ⊳ ε) (hoists_plain h) refl

  over_after : (rs : List Span) → Over (valid before ≡ true) (fits before ≡ true) (after ⊳ ε) (as_statement rs items ⊳ ε)
  over_after rs = gathered_over rs (after ⊳ ε) items items_plain (over_joined (hoists_over _ _ (λ v. (takes_valid k (valid_parts gone cs (and_parts (valid d) (valid_all (joined gone cs)) v).1).0).1) h) (over_itself (after ⊳ ε)))

  items_names : SameNames (vars before) (vars_all items)
  items_names = subst (λ xs. SameNames (vars d ++ xs) (vars_all items)) (sym (vars_joined gone cs)) (subst (λ xs. SameNames (vars d ++ (vars_all gone ++ vars_all cs)) xs) (sym (vars_joined hs (after ⊳ ε))) (record {
    there = within_both (within_trans (hoists_same h).there (within_trans (takes_vars k).second_in (within_trans (within_first (vars_all gone) (vars_all cs)) (within_second (vars d) _)))) (subst (λ xs. Within xs (vars d ++ (vars_all gone ++ vars_all cs))) (sym (append-nil (vars after))) (within_append (within_same (vars d)) (within_second (vars_all gone) (vars_all cs))));
    back = record { by = λ x i. by_place x (in_either x (vars d) (vars_all gone ++ vars_all cs) i) };
  }))
    where
      in_after : (x : Name) → has_name x (vars after) ≡ true → has_name x (vars_all hs ++ (vars after ++ [])) ≡ true
      in_after x i = in_back x (vars_all hs) (vars after ++ []) (in_front x (vars after) [] i)

      by_parted : (x : Name) → (false ≡ true) ⊎ (has_name x (vars_all ds) ≡ true) → has_name x (vars_all hs ++ (vars after ++ [])) ≡ true
      by_parted x (inl i) = absurd (false≢true i)
      by_parted x (inr i) = in_front x (vars_all hs) (vars after ++ []) ((hoists_same h).back.by x i)

      by_case : (x : Name) → (has_name x (vars_all gone) ≡ true) ⊎ (has_name x (vars_all cs) ≡ true) → has_name x (vars_all hs ++ (vars after ++ [])) ≡ true
      by_case x (inl i) = by_parted x ((takes_vars k).parted x i)
      by_case x (inr i) = in_after x (in_back x (vars d) (vars_all cs) i)

      by_place : (x : Name) → (has_name x (vars d) ≡ true) ⊎ (has_name x (vars_all gone ++ vars_all cs) ≡ true) → has_name x (vars_all hs ++ (vars after ++ [])) ≡ true
      by_place x (inl i) = in_after x (in_front x (vars d) (vars_all cs) i)
      by_place x (inr i) = by_case x (in_either x (vars_all gone) (vars_all cs) i)

  no_stopper : (rs : List Span) → is_stopper (as_statement rs items) ≡ false
  no_stopper rs = by_hoists h
    where
      by_hoists : {hs : Forest} → Hoists ds hs → is_stopper (as_statement rs (joined hs (after ⊳ ε))) ≡ false
      by_hoists (no_vars i) = refl
      by_hoists (some_vars b f g n m) = refl

  pub cases_gone_step : {N : Type 0} {P : Name → Type 0} (rs : List Span) → N → weight (as_statement rs items) < weight before → Step N P before (as_statement rs items)
  unfolding own_weight
  cases_gone_step rs n w =
      let u = as_statement rs items in
      let o = over_after rs in
      let names : SameNames (vars before) (vars u) = subst (λ xs. SameNames (vars before) xs) (append-nil (vars u)) (subst (λ xs. SameNames (vars before) xs) (sym (gathered_vars rs items)) items_names) in
      record {
        keeps = keeps_plain (statement_plain before refl) (statement_plain u (gathered_plain rs items items_plain))
            (λ x. omega (arith, after_scopes x, over_scopes (valid before ≡ true) (fits before ≡ true) x o))
            names.there
            (λ v. single (valid u) (over_valid (valid before ≡ true) (fits before ≡ true) o v (and_from (valid after) true (after_valid v) refl)))
            (λ g v. single (aimed g u) (aimed_all_more (u ⊳ ε) (more_without g) (over_aimed (valid before ≡ true) (fits before ≡ true) g o (and_from (aimed (without_own g) after) true (after_aimed g v) refl))))
            (λ v. single (apart u) (over_apart (valid before ≡ true) (fits before ≡ true) o (and_from (apart after) true (after_apart v) refl)))
            (λ f. single (fits u) (over_fits (valid before ≡ true) (fits before ≡ true) o f (and_from (fits after) true (after_fits f) refl)));
        spares = spares_plain (statement_plain before refl) (statement_plain u (gathered_plain rs items items_plain)) (spared_same_names names);
        lowers = statement_lowers n refl refl w (λ s. absurd (false≢true (sym (no_stopper rs) ∙ s)));
      }

pub switch_step : {N : Type 0} {P : Name → Type 0} (t u : Tree) → N → SwitchStep t u → Step N P t u
switch_step t u n (taken {kinds = kinds} {ss = ss} {d = d} {cs = cs} {ws = ws} {ds = ds} rs es hs dv dj k wj e h z) = taken_step kinds ss d cs ws ds k dv dj wj es hs e h rs n z
switch_step {N} {P} t u n (none_taken {kinds = kinds} {ss = ss} {d = d} {cs = cs} {ds = ds} rs es hs dv dj k e h) = subst (λ z. Step N P (node (Switch kinds) ss (d ⊳ cs)) (as_statement rs (joined es z))) (joined_none hs) (gathered_step kinds ss d cs ε ds k dv dj refl es hs e h rs n refl refl (none_stopper rs e h))
switch_step t u n (no_cases {kinds = kinds} {ss = ss} {d = d} {cs = cs} e w) = no_cases_step kinds ss d cs n e w
switch_step t u n (taken_apart {kinds = kinds} {ss = ss} {d = d} {cs = cs} {ws = ws} {ds = ds} rs qs es hs dv dj k wj e h z) = apart_step kinds ss d cs ws ds k dv dj wj es hs e h rs qs n z
switch_step t u n (cases_gone {kinds = kinds} {ss = ss} {d = d} us gone cs ds others rs hs k h w) = cases_gone_step kinds others ss us d gone cs ds k hs h rs n w
