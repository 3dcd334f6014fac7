-- Each step of a loop, a label or a `try` owes nothing.
use Rattle.std.proofs.Common.{◌≡◌, ℕ, ◌+◌, ◌≤◌, ◌<◌, Bool, true, false, not, ◌&&◌, if◌then◌else◌, List, [], ◌++◌, Option, Some, None, refl, sym, ap, ap₂, subst, ◌∙◌, arith, append-nil}
use Rattle.std.proofs.lemmas.Bool.{and_parts, and_from, false≢true}
use Rattle.swc_ast.specs.declared.Span.{Span}
use Rattle.swc_ast.specs.Tree.{Name, Label, Block, Empty, Absent, If, While, DoWhile, For, Labeled, Try, Tree, node, Forest, ε, ◌⊳◌, label_of}
use Rattle.swc_ast.specs.Scope.{vars, vars_all, joined}
use Rattle.swc_ast.specs.Valid.{valid, valid_all, is_listed, none_listed}
use Rattle.swc_ast.specs.Resolved.{own_scopes, in_loop, aimed, aimed_all, apart, apart_all}
use Rattle.swc_ast.specs.Core.{fits, fits_all}
use Rattle.swc_ast.specs.Weight.{own_weight, weight, weight_all, is_stopper, is_truth_or_absent}
use Rattle.static_proofs.specs.Names.{Within, Fewer, names_of}
use Rattle.static_proofs.specs.Keeps.{Keeps}
use Rattle.static_proofs.specs.Spares.{Spared, Spares}
use Rattle.static_proofs.specs.Lighter.{Lowers}
use Rattle.static_proofs.specs.Step.{Step}
use Rattle.static_proofs.specs.Fine.{Fine}
use Rattle.static_proofs.specs.Drawn.{is_plain_statement, AllDrawn, nothing_of, all_of, part_of, none_drawn, more_drawn}
use Rattle.static_proofs.specs.Over.{Makes, Over, over_none, over_piece, over_made}
use Rattle.static_proofs.proofs.Names.{within_same, within_none, within_append, fewer_none, fewer_same}
use Rattle.static_proofs.proofs.Parts.{vars_joined}
use Rattle.static_proofs.proofs.Kept.{keeps_then, keeps_itself}
use Rattle.static_proofs.proofs.Spared.{spared_same, spared_path, spared_append, spares_then}
use Rattle.static_proofs.proofs.Drawn.{weight_joined, valid_below}
use Rattle.static_proofs.proofs.Plain.{statement_plain, spares_plain}
use Rattle.static_proofs.proofs.Targets.{aimed_all_more}
use Rattle.static_proofs.proofs.Over.{built_keeps, made_keeps, single, more_without, over_scopes, over_valid, over_aimed, over_apart, over_fits}
use Rattle.static_proofs.proofs.Together.{list_keeps, list_spares}
use Rattle.static_proofs.proofs.Loops.{none_fine, more_fine, fine_kept, fine_gone, fine_truth, for_keeps, while_keeps}
use Rattle.branch_proofs.proofs.ListForms.{Hoists, no_vars, some_vars}
use Rattle.branch_rules.specs.Statements.{as_statement}
use Rattle.branch_proofs.proofs.LoopForms.{LoopStep, init_gone, update_gone, test_gone, test_false, test_true, for_body, while_body, for_no_turn, do_for, label_gone, else_gone, try_gone, try_final, try_inside, try_plain, tidy_hollow}
use Rattle.branch_proofs.proofs.PlainNames.{all_vars_weight}
use Rattle.branch_proofs.proofs.Hoists.{bare_weight}
use Rattle.branch_proofs.proofs.Cuts.{hoists_unreached}
use Rattle.branch_proofs.proofs.Tidies.{tidies_keep, tidies_spare_vars}
use Rattle.branch_proofs.proofs.Gathered.{over_joined, over_itself, empty_made, block_made, hoists_over, gathered_over, gathered_vars, gathered_plain, gathered_weight}
use Rattle.branch_proofs.proofs.BranchesOwe.{SameNames, statement_lowers, spared_same_names, hoists_same, hoists_weigh, hoists_plain, hoists_no_stopper, unreached_one, joined_plain}

pub fine_itself : (t : Tree) → Fine t t
fine_itself t = fine_kept (keeps_itself t)

-- parts of a loop

pub loop_spares : {P : Name → Type 0} (l : Label) (ss rs : List Span) {ts us : Forest} → is_plain_statement l ≡ true → Spared P (vars (node l ss ts)) (vars (node l rs us)) → Spares P (node l ss ts) (node l rs us)
loop_spares l ss rs {ts} {us} h v = spares_plain (statement_plain (node l ss ts) h) (statement_plain (node l rs us) h) v

pub for_lowers : {N : Type 0} (ss : List Span) (ts us : Forest) → weight (node For ss us) < weight (node For ss ts) → N → Lowers N (node For ss ts) (node For ss us)
for_lowers ss ts us h n = statement_lowers n refl refl h (λ s. absurd (false≢true s))

while_lowers : {N : Type 0} (ss : List Span) (ts us : Forest) → weight (node While ss us) < weight (node While ss ts) → N → Lowers N (node While ss ts) (node While ss us)
while_lowers ss ts us h n = statement_lowers n refl refl h (λ s. absurd (false≢true s))

test_lowest : (b : Bool) → b ≡ false → ◌≡◌ {A = ℕ} (if b then 0 else 3) 3
test_lowest b h = ap (λ c. if c then 0 else 3) h

both_ways : {b : Bool} → b ≡ false → b ≡ true → ⊥
both_ways e h = false≢true (sym e ∙ h)

-- the `var` names of statements in place of them
hoists_gathered : {ts hs : Forest} (rs : List Span) → Hoists ts hs → weight (as_statement rs hs) ≤ 3 + weight_all ts
unfolding own_weight
hoists_gathered rs (no_vars h) = omega arith
hoists_gathered {ts} rs (some_vars {ss = ss} {ds = ds} b f g n m) = omega (arith, bare_weight ds b, all_vars_weight ts)

body_same : (rs : List Span) {b : Tree} {hs : Forest} → Hoists (b ⊳ ε) hs → SameNames (vars b ++ []) (vars (as_statement rs hs) ++ [])
body_same rs {b} {hs} h = subst (λ xs. SameNames (vars b ++ []) xs) (sym (gathered_vars rs hs)) (hoists_same h)

vars_fine : (rs : List Span) (b : Tree) (hs : Forest) → Hoists (b ⊳ ε) hs → Fine b (as_statement rs hs)
vars_fine rs b hs h =
    let u = as_statement rs hs in
    let q = statement_plain u (gathered_plain rs hs (hoists_plain h)) in
    let o : Over (valid b ≡ true) (fits b ≡ true) ε (u ⊳ ε) = gathered_over rs ε hs (hoists_plain h) (hoists_over _ _ (λ v. and_from (valid b) true v refl) h) in
    record {
      scopes_fine = λ x. omega (arith, over_scopes (valid b ≡ true) (fits b ≡ true) x o);
      vars_fine = subst (λ xs. Within xs (vars b)) (append-nil (vars u)) (subst (λ xs. Within (vars u ++ []) xs) (append-nil (vars b)) (body_same rs h).there);
      names_fine = subst (λ xs. Fewer xs (names_of b)) (sym q.no_names) (fewer_none (names_of b));
      listed_fine = λ e. absurd (false≢true (sym q.not_listed ∙ e));
      valid_fine = λ v. single (valid u) (over_valid (valid b ≡ true) (fits b ≡ true) o v refl);
      aimed_fine = λ g v. single (aimed g u) (aimed_all_more (u ⊳ ε) (more_without g) (over_aimed (valid b ≡ true) (fits b ≡ true) g o refl));
      apart_fine = λ v. single (apart u) (over_apart (valid b ≡ true) (fits b ≡ true) o refl);
      fits_fine = λ v. single (fits u) (over_fits (valid b ≡ true) (fits b ≡ true) o v refl);
    }

spared_body : {P : Name → Type 0} (rs : List Span) {b : Tree} {hs : Forest} → Hoists (b ⊳ ε) hs → Spared P (vars b ++ []) (vars (as_statement rs hs) ++ [])
spared_body rs h = spared_same_names (body_same rs h)

-- `do` to `for`

do_keeps : (ss ks ls ms : List Span) (b t : Tree) → Keeps (node DoWhile ss (b ⊳ t ⊳ ε)) (node For ss (node Absent ks ε ⊳ node Absent ls ε ⊳ node Absent ms ε ⊳ b ⊳ ε))
unfolding own_scopes
do_keeps ss ks ls ms b t = record {
  scopes_kept = λ x. omega arith;
  vars_kept = within_append (within_same (vars b)) (within_none (vars t ++ []));
  names_kept = fewer_same [];
  own_kept = fewer_same [];
  frame_kept = refl;
  part_kept = tt;
  listed_kept = λ h. h;
  valid_kept = λ h. let p = and_parts (none_listed (b ⊳ t ⊳ ε)) (valid_all (b ⊳ t ⊳ ε)) h in and_from (not (is_listed b)) (valid b && true) (and_parts (not (is_listed b)) (none_listed (t ⊳ ε)) p.0).0 (and_from (valid b) true (and_parts (valid b) (valid_all (t ⊳ ε)) p.1).0 refl);
  aimed_kept = λ g h. and_from (aimed (in_loop g) b) true (and_parts (aimed (in_loop g) b) (aimed_all (in_loop g) (t ⊳ ε)) h).0 refl;
  apart_kept = λ h. and_from (apart b) true (and_parts (apart b) (apart_all (t ⊳ ε)) h).0 refl;
  fits_kept = λ h. and_from (fits b) true (and_parts (fits b) (fits_all (t ⊳ ε)) h).0 refl;
}

-- `if` and `try`

if_made : (V F : Type 0) (ws : Forest) → (V → none_listed ws ≡ true) → Makes V F If ws
unfolding own_scopes
if_made V F ws h = record { names = λ v. refl; shape = h; numbers = λ f. refl; scope = λ f. refl; opens_none = λ x. refl; out = refl; no_function = refl; no_jump = λ g. refl }

two_listed : (c a e : Tree) → none_listed (c ⊳ a ⊳ e ⊳ ε) ≡ true → none_listed (c ⊳ a ⊳ ε) ≡ true
two_listed c a e h =
    let p = and_parts (not (is_listed c)) (none_listed (a ⊳ e ⊳ ε)) h in
    and_from (not (is_listed c)) (none_listed (a ⊳ ε)) p.0 (and_from (not (is_listed a)) true (and_parts (not (is_listed a)) (none_listed (e ⊳ ε)) p.1).0 refl)

try_weight : (o : Option (Option Name)) (ss : List Span) (b h f : Tree) → 8 + (weight b + (weight h + weight f)) ≤ weight (node (Try o) ss (b ⊳ h ⊳ f ⊳ ε))
unfolding own_weight
try_weight None ss b h f = omega arith
try_weight (Some o) ss b h f = omega arith

try_valid : (o : Option (Option Name)) (ss : List Span) (b h f : Tree) → valid (node (Try o) ss (b ⊳ h ⊳ f ⊳ ε)) ≡ true → valid_all (h ⊳ ε) ≡ true
try_valid o ss b h f v =
    let p = and_parts (valid b) (valid_all (h ⊳ f ⊳ ε)) (valid_below (Try o) ss (b ⊳ h ⊳ f ⊳ ε) v) in
    and_from (valid h) true (and_parts (valid h) (valid_all (f ⊳ ε)) p.1).0 refl

try_step : {N : Type 0} {P : Name → Type 0} {o : Option (Option Name)} {ss : List Span} {b h f u : Tree} {us : Forest} → N → is_plain_statement (label_of u) ≡ true → SameNames (vars (node (Try o) ss (b ⊳ h ⊳ f ⊳ ε))) (vars u) → AllDrawn (b ⊳ h ⊳ f ⊳ ε) us → Over (valid (node (Try o) ss (b ⊳ h ⊳ f ⊳ ε)) ≡ true) (fits (node (Try o) ss (b ⊳ h ⊳ f ⊳ ε)) ≡ true) us (u ⊳ ε) → weight u < 8 + (weight b + (weight h + weight f)) → (is_stopper u ≡ true → weight u + 3 ≤ 8 + (weight b + (weight h + weight f))) → Step N P (node (Try o) ss (b ⊳ h ⊳ f ⊳ ε)) u
try_step {o = o} {ss = ss} {b = b} {h = h} {f = f} {u = u} n q v d k w s =
    let t = node (Try o) ss (b ⊳ h ⊳ f ⊳ ε) in
    record {
      keeps = built_keeps refl (statement_plain t refl) (statement_plain u q) v.there d k;
      spares = spares_plain (statement_plain t refl) (statement_plain u q) (spared_same_names v);
      lowers = statement_lowers n refl refl (omega (arith, w, try_weight o ss b h f)) (λ i. omega (arith, s i, try_weight o ss b h f));
    }

same_names_at : {xs ys us vs : List Name} → xs ≡ us → ys ≡ vs → SameNames us vs → SameNames xs ys
same_names_at {xs} {ys} {us} {vs} p q k = subst (λ z. SameNames z ys) (sym p) (subst (λ z. SameNames us z) (sym q) k)

both_names : {xs ys us vs : List Name} → SameNames xs us → SameNames ys vs → SameNames (xs ++ ys) (us ++ vs)
both_names k j = record { there = within_append k.there j.there; back = within_append k.back j.back }

names_itself : (xs : List Name) → SameNames xs xs
names_itself xs = record { there = within_same xs; back = within_same xs }

pub loop_step : {N : Type 0} {P : Name → Type 0} (t u : Tree) → N → LoopStep t u → Step N P t u
unfolding own_weight own_scopes
loop_step v w n (init_gone {ss = ss} {rs = rs} {i = i} {t = t} {u = u} {b = b} e m) = record {
  keeps = for_keeps ss (more_fine (fine_gone i rs) (more_fine (fine_itself t) (more_fine (fine_itself u) (more_fine (fine_itself b) none_fine))));
  spares = loop_spares For ss ss refl (spared_path (ap (λ xs. xs ++ vars_all (t ⊳ u ⊳ b ⊳ ε)) e));
  lowers = for_lowers ss _ _ (omega (arith, m)) n;
}
loop_step v w n (update_gone {ss = ss} {rs = rs} {i = i} {t = t} {u = u} {b = b} e m) = record {
  keeps = for_keeps ss (more_fine (fine_itself i) (more_fine (fine_itself t) (more_fine (fine_gone u rs) (more_fine (fine_itself b) none_fine))));
  spares = loop_spares For ss ss refl (spared_path (ap (λ xs. vars i ++ (vars t ++ (xs ++ vars_all (b ⊳ ε)))) e));
  lowers = for_lowers ss _ _ (omega (arith, m)) n;
}
loop_step v w n (test_gone {ss = ss} {rs = rs} {i = i} {t = t} {u = u} {b = b} e m) = record {
  keeps = for_keeps ss (more_fine (fine_itself i) (more_fine (fine_gone t rs) (more_fine (fine_itself u) (more_fine (fine_itself b) none_fine))));
  spares = loop_spares For ss ss refl (spared_path (ap (λ xs. vars i ++ (xs ++ vars_all (u ⊳ b ⊳ ε))) e));
  lowers = for_lowers ss _ _ (omega (arith, m)) n;
}
loop_step v w n (test_false {ss = ss} {rs = rs} {i = i} {t = t} {u = u} {b = b} e m) = record {
  keeps = for_keeps ss (more_fine (fine_itself i) (more_fine (fine_truth t false rs) (more_fine (fine_itself u) (more_fine (fine_itself b) none_fine))));
  spares = loop_spares For ss ss refl (spared_path (ap (λ xs. vars i ++ (xs ++ vars_all (u ⊳ b ⊳ ε))) e));
  lowers = for_lowers ss _ _ (omega (arith, test_lowest (is_truth_or_absent t) m)) n;
}
loop_step v w n (test_true {ss = ss} {rs = rs} {t = t} {b = b} e m) = record {
  keeps = while_keeps ss (more_fine (fine_truth t true rs) (more_fine (fine_itself b) none_fine));
  spares = loop_spares While ss ss refl (spared_path (ap (λ xs. xs ++ vars_all (b ⊳ ε)) e));
  lowers = while_lowers ss _ _ (omega (arith, test_lowest (is_truth_or_absent t) m)) n;
}
loop_step v w n (for_body {ss = ss} {i = i} {t = t} {u = u} {b = b} rs hs h m) = record {
  keeps = for_keeps ss (more_fine (fine_itself i) (more_fine (fine_itself t) (more_fine (fine_itself u) (more_fine (vars_fine rs b hs h) none_fine))));
  spares = loop_spares For ss ss refl (spared_append (spared_same (vars i)) (spared_append (spared_same (vars t)) (spared_append (spared_same (vars u)) (spared_body rs h))));
  lowers = for_lowers ss _ _ (omega (arith, m)) n;
}
loop_step v w n (while_body {ss = ss} {t = t} {b = b} rs hs h m) = record {
  keeps = while_keeps ss (more_fine (fine_itself t) (more_fine (vars_fine rs b hs h) none_fine));
  spares = loop_spares While ss ss refl (spared_append (spared_same (vars t)) (spared_body rs h));
  lowers = while_lowers ss _ _ (omega (arith, m)) n;
}
loop_step v w n (for_no_turn {ss = ss} {t = t} {u = u} {b = b} ks rs hs e f h) =
    let names : SameNames (vars t ++ (vars u ++ (vars b ++ []))) (vars (as_statement rs hs)) = same_names_at (ap₂ (λ xs ys. xs ++ (ys ++ (vars b ++ []))) e f) (sym (append-nil _)) (body_same rs h) in
    let p = statement_plain (node For ss (node Absent ks ε ⊳ t ⊳ u ⊳ b ⊳ ε)) refl in
    let q = statement_plain (as_statement rs hs) (gathered_plain rs hs (hoists_plain h)) in
    record {
      keeps = made_keeps p q names.there (gathered_over rs ε hs (hoists_plain h) (hoists_over _ _ (λ v. (and_parts (valid u) (valid_all (b ⊳ ε)) (and_parts (valid t) (valid_all (u ⊳ b ⊳ ε)) (valid_below For ss (node Absent ks ε ⊳ t ⊳ u ⊳ b ⊳ ε) v)).1).1) h));
      spares = spares_plain p q (spared_same_names names);
      lowers = statement_lowers n refl refl (omega (arith, hoists_gathered rs h)) (λ s. absurd (both_ways (hoists_no_stopper rs h) s));
    }
loop_step v w n (do_for {ss = ss} {b = b} {t = t} ks ls ms e) = record {
  keeps = do_keeps ss ks ls ms b t;
  spares = spares_plain (statement_plain (node DoWhile ss (b ⊳ t ⊳ ε)) refl) (statement_plain (node For ss (node Absent ks ε ⊳ node Absent ls ε ⊳ node Absent ms ε ⊳ b ⊳ ε)) refl) (spared_path (ap (λ xs. vars b ++ (xs ++ [])) e));
  lowers = statement_lowers n refl refl (omega arith) (λ s. absurd (false≢true s));
}
loop_step v w n (label_gone {l = l} {ss = ss} {rs = rs} {s = s} e) = record {
  keeps = made_keeps (statement_plain (node (Labeled l) ss (s ⊳ ε)) refl) (statement_plain (node Empty rs ε) refl) (within_none _) (over_made (empty_made _ _ ε) over_none over_none);
  spares = spares_plain (statement_plain (node (Labeled l) ss (s ⊳ ε)) refl) (statement_plain (node Empty rs ε) refl) (spared_path (ap (λ xs. xs ++ []) e));
  lowers = statement_lowers n refl refl (omega arith) (λ i. absurd (false≢true i));
}
loop_step v w n (else_gone {ss = ss} {c = c} {a = a} {e = e} h m) = record {
  keeps = built_keeps refl (statement_plain (node If ss (c ⊳ a ⊳ e ⊳ ε)) refl) (statement_plain (node If ss (c ⊳ a ⊳ ε)) refl) (within_append (within_same (vars c)) (within_append (within_same (vars a)) (within_none (vars e ++ [])))) (more_drawn all_of (more_drawn all_of (more_drawn nothing_of none_drawn))) (over_made (if_made _ _ (c ⊳ a ⊳ ε) (λ v. two_listed c a e (and_parts (none_listed (c ⊳ a ⊳ e ⊳ ε)) (valid_all (c ⊳ a ⊳ e ⊳ ε)) v).0)) (over_itself (c ⊳ a ⊳ ε)) over_none);
  spares = spares_plain (statement_plain (node If ss (c ⊳ a ⊳ e ⊳ ε)) refl) (statement_plain (node If ss (c ⊳ a ⊳ ε)) refl) (spared_path (ap (λ xs. vars c ++ (vars a ++ (xs ++ []))) h));
  lowers = statement_lowers n refl refl (omega (arith, m)) (λ i. absurd (false≢true i));
}
loop_step v w n (try_gone {o = o} {ss = ss} {b = b} {h = h} {f = f} rs hs eb ef k) = try_step n (gathered_plain rs hs (hoists_plain k))
    (same_names_at (ap₂ (λ xs ys. xs ++ (vars h ++ (ys ++ []))) eb ef) (sym (append-nil _)) (body_same rs k))
    (more_drawn nothing_of (more_drawn nothing_of (more_drawn nothing_of none_drawn)))
    (gathered_over rs ε hs (hoists_plain k) (hoists_over _ _ (try_valid o ss b h f) k))
    (omega (arith, hoists_gathered rs k)) (λ s. absurd (both_ways (hoists_no_stopper rs k) s))
loop_step v w n (try_final {o = o} {ss = ss} {b = b} {h = h} {f = f} rs hs eb pf k) = try_step n (gathered_plain rs (joined hs (f ⊳ ε)) (joined_plain hs (f ⊳ ε) (hoists_plain k) (and_from (is_plain_statement (label_of f)) true pf refl)))
    (same_names_at (ap (λ xs. xs ++ (vars h ++ (vars f ++ []))) eb ∙ ap (λ xs. xs ++ (vars f ++ [])) (sym (append-nil (vars h)))) (sym (append-nil _) ∙ gathered_vars rs (joined hs (f ⊳ ε)) ∙ vars_joined hs (f ⊳ ε)) (both_names (hoists_same k) (names_itself (vars f ++ []))))
    (more_drawn nothing_of (more_drawn nothing_of (more_drawn all_of none_drawn)))
    (gathered_over rs (f ⊳ ε) (joined hs (f ⊳ ε)) (joined_plain hs (f ⊳ ε) (hoists_plain k) (and_from (is_plain_statement (label_of f)) true pf refl)) (over_joined (hoists_over _ _ (try_valid o ss b h f) k) (over_itself (f ⊳ ε))))
    (omega (arith, gathered_weight rs (joined hs (f ⊳ ε)), hoists_unreached (f ⊳ ε) k, unreached_one f, weight_joined hs (f ⊳ ε), hoists_weigh k)) (final_stopper rs k)
  where
    final_stopper : (rs : List Span) {hs : Forest} → Hoists (h ⊳ ε) hs → is_stopper (as_statement rs (joined hs (f ⊳ ε))) ≡ true → weight (as_statement rs (joined hs (f ⊳ ε))) + 3 ≤ 8 + (weight b + (weight h + weight f))
    final_stopper rs (no_vars e) s = omega arith
    final_stopper rs (some_vars d i j m l) s = absurd (false≢true s)
loop_step v w n (try_inside {o = o} {ss = ss} {fs = fs} {b = b} {h = h} {cs = cs} rs hs eb pc k) = try_step n refl
    (same_names_at (ap (λ xs. xs ++ (vars h ++ (vars_all cs ++ []))) eb ∙ ap (λ xs. xs ++ (vars_all cs ++ [])) (sym (append-nil (vars h))) ∙ ap (λ xs. (vars h ++ []) ++ xs) (append-nil (vars_all cs))) (vars_joined hs cs) (both_names (hoists_same k) (names_itself (vars_all cs))))
    (more_drawn nothing_of (more_drawn nothing_of (more_drawn (part_of refl (all_itself cs)) none_drawn)))
    (inside_over (hoists_over _ _ (try_valid o ss b h (node Block fs cs)) k))
    (omega (arith, hoists_unreached cs k, weight_joined hs cs, hoists_weigh k)) (λ s. absurd (false≢true s))
  where
    all_itself : (ts : Forest) → AllDrawn ts ts
    all_itself ε = none_drawn
    all_itself (t ⊳ ts) = more_drawn all_of (all_itself ts)

    inside_over : {V F : Type 0} → Over V F ε hs → Over V F (joined cs ε) (node Block rs (joined hs cs) ⊳ ε)
    inside_over {V} {F} d = over_made (block_made V F (joined hs cs) (joined_plain hs cs (hoists_plain k) pc)) (over_joined d (over_itself cs)) over_none
loop_step v w n (try_plain {o = o} {ss = ss} {b = b} {h = h} {f = f} eh ef pb) = try_step n pb
    (same_names_at (ap₂ (λ xs ys. vars b ++ (xs ++ (ys ++ []))) eh ef ∙ append-nil (vars b)) refl (names_itself (vars b)))
    (more_drawn all_of (more_drawn nothing_of (more_drawn nothing_of none_drawn))) (over_piece over_none)
    (omega arith) (λ s. omega arith)
loop_step {N} {P} v w n (tidy_hollow {ss = ss} {rs = rs} {ts = ts} d) = record {
  keeps = keeps_then (list_keeps Block ss refl (tidies_keep d)) (made_keeps (statement_plain (node Block ss ε) refl) (statement_plain (node Empty rs ε) refl) (within_none _) (over_made (empty_made _ _ ε) over_none over_none));
  spares = spares_then (list_spares Block ss refl refl (tidies_spare_vars d)) (spares_plain (statement_plain (node Block ss ε) refl) (statement_plain (node Empty rs ε) refl) (spared_same []));
  lowers = record { lower = omega arith; lower_list = λ i. omega arith; truth_kept = λ i. absurd (false≢true i); stopper_paid = λ i. absurd (false≢true i); stay_paid = λ i. absurd (false≢true i) };
}
