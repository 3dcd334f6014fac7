-- What a node becomes does exactly what the node does, and declares the same.
use Rattle.std.proofs.Common.{◌≡◌, ℕ, Bool, true, false, List, Option, refl, sym, ap, subst, ◌∙◌}
use Rattle.std.proofs.lemmas.Bool.{false≢true, and_parts, and_from}
use Rattle.swc_ast.specs.declared.Span.{Span}
use Rattle.swc_ast.specs.Tree.{Name, Label, Block, Try, Absent, Param, Seq, Assign, Cond, Tree, node, Forest, ε, ◌⊳◌, label_of}
use Rattle.swc_ast.specs.Scope.{joined}
use Rattle.swc_ast.specs.Value.{Context}
use Rattle.swc_ast.specs.Meaning.{act, eval, evals}
use Rattle.swc_ast.specs.Call.{call_at}
use Rattle.swc_utils.proofs.Refines.{refines_same}
use Rattle.meaning_proofs.specs.Exact.{Exact, GivesUndefined}
use Rattle.meaning_proofs.specs.Roles.{Fits, unchanged, changed, SameNames, is_item, is_part}
use Rattle.meaning_proofs.specs.Walks.{no_names}
use Rattle.meaning_proofs.proofs.Laws.{exact_trans}
use Rattle.meaning_proofs.proofs.Quiet.{fits_nothing}
use Rattle.swc_ast.specs.Labels.{is_expression, is_param}
use Rattle.walk_proofs.specs.Plain.{NodeRight, does_same, default_goes}
use Rattle.pass_proofs.proofs.Defaults.{void_is_undefined}
use Rattle.branch_proofs.proofs.Labelled.{expression_inside}
use Rattle.branch_rules.specs.Expressions.{ExpressionStep, front, itself, same_arms, in_guard}
use Rattle.branch_rules.specs.Jumps.{every}
use Rattle.branch_rules.specs.Once.{DoStep, do_once}
use Rattle.branch_rules.specs.Removes.{BranchStep, statement, once, within, cases, Removes, of_expression, of_statement, of_default, followed}
use Rattle.branch_rules.specs.Statements.{as_statement, gives_nothing, all_give_nothing, Chooses, only_arm, no_arm, then_arm, else_arm, StatementStep, expression, choose, else_goes, branch_goes, while_true, while_false, while_never, for_first, for_update, for_true, for_false, for_no_update, for_no_body, for_never, do_true, label_empty, label_left, block_empty, block_one, try_inside, try_beside, try_alone, try_block}
use Rattle.branch_rules.specs.Switches.{SwitchStep, nothing_left, only_default, only_default_apart, selected_case, selected_default, none_selected, leading_go}
use Rattle.branch_rules.specs.Within.{WithinStep, while_within, do_within, for_within}
use Rattle.branch_proofs.proofs.Becoming.{Becomes, SameVars}
use Rattle.branch_proofs.proofs.Declared.{statement_vars}
use Rattle.branch_proofs.proofs.DoOnce.{do_becomes, do_stands, do_vars}
use Rattle.branch_proofs.proofs.Expressions.{expression_exact}
use Rattle.branch_proofs.proofs.Places.{becomes_exact, as_no_part, statement_fits}
use Rattle.branch_proofs.proofs.Statements.{statement_becomes, try_nothing}
use Rattle.branch_proofs.proofs.SwitchDeclared.{switch_vars}
use Rattle.branch_proofs.proofs.Switches.{switch_becomes}
use Rattle.branch_proofs.proofs.Tests.{alone_stands, statements_joined}
use Rattle.branch_proofs.proofs.Undefined.{Nothing, statement_nothing}
use Rattle.branch_proofs.proofs.Vars.{vars_stand}
use Rattle.branch_proofs.proofs.Within.{within_becomes, within_vars}

-- statements

arms_stand : {known : Bool} {arms kept gone : Forest} → Chooses known arms kept gone → all_give_nothing arms ≡ true → all_give_nothing kept ≡ true
arms_stand (only_arm a) h = h
arms_stand (no_arm a) h = refl
arms_stand (then_arm a b) h = and_from (gives_nothing a) true (and_parts (gives_nothing a) _ h).0 refl
arms_stand (else_arm a b) h = (and_parts (gives_nothing a) _ h).1

switch_stands : {mark : ℕ} {t : Tree} {us : Forest} → SwitchStep mark t us → all_give_nothing us ≡ true
switch_stands (nothing_left ss t ks {es} {vs} h g p r e a q) = statements_joined es vs (alone_stands a) (vars_stand q)
switch_stands (only_default ss t fs k {es} {ts} h g p i j w a u x q z l y) = statements_joined es ts (alone_stands a) y
switch_stands (only_default_apart ss us t fs k {es} {ts} h g p i j w a u x q z) = statements_joined es (node Block us ts ⊳ ε) (alone_stands a) refl
switch_stands (selected_case ss us t v w fs k ks h g p e r i j l m u q o z) = refl
switch_stands (selected_default ss us t v fs k ks h g p e r i j u q o z) = refl
switch_stands (none_selected ss t v ks h g p e r i d q) = vars_stand q
switch_stands (leading_go ss us rs t v fs ks {vs} h g e r i q o z) = statements_joined vs (_ ⊳ ε) (vars_stand o) refl

-- it does exactly what one statement of what it becomes does, it declares the same, and it is no part and no item
pub record Same (mark : ℕ) (t u : Tree) : Type 0 where
  exact : Exact mark t u
  fits : Fits no_names t u
  no_item : is_item (label_of t) ≡ false
  no_param : is_param (label_of t) ≡ false
  still_no_param : is_param (label_of u) ≡ false

part_no_param : (l : Label) → is_part l ≡ false → is_param l ≡ false
part_no_param (Param x) h = h
part_no_param _ h = refl

gives_same : {mark : ℕ} (rs : List Span) (t : Tree) (us : Forest) → is_part (label_of t) ≡ false → is_item (label_of t) ≡ false → ((n d : ℕ) (c : Context) → Nothing (eval mark n (call_at (eval mark n) d) t c)) → all_give_nothing us ≡ true → SameVars t us → Becomes mark (t ⊳ ε) us → Same mark t (as_statement rs us)
gives_same {mark} rs t us p i h g v b = record {
  exact = becomes_exact mark rs t us h g v.behind b;
  fits = statement_fits rs t us p (as_no_part rs us g) v;
  no_item = i;
  no_param = part_no_param (label_of t) p;
  still_no_param = part_no_param (label_of (as_statement rs us)) (as_no_part rs us g);
}

module _ {mark : ℕ} (rs : List Span) where
  -- where the tree by itself says that it gives no value
  plainly : (t : Tree) (us : Forest) → gives_nothing t ≡ true → is_part (label_of t) ≡ false → is_item (label_of t) ≡ false → all_give_nothing us ≡ true → SameVars t us → Becomes mark (t ⊳ ε) us → Same mark t (as_statement rs us)
  plainly t us h p i g v b = gives_same rs t us p i (λ n d c. statement_nothing mark n (call_at (eval mark n) d) t h c) g v b

  tried : {t : Tree} {us : Forest} (p : Option (Option Name)) (ss bs : List Span) (h f : Tree) → t ≡ node (Try p) ss (node Block bs ε ⊳ h ⊳ f ⊳ ε) → StatementStep mark t us → all_give_nothing us ≡ true → Same mark t (as_statement rs us)
  tried {t} {us} p ss bs h f e s g = gives_same rs t us (ap (λ x. is_part (label_of x)) e) (ap (λ x. is_item (label_of x)) e) (λ n d c. subst (λ x. Nothing (eval mark n (call_at (eval mark n) d) x c)) (sym e) (try_nothing mark n d p ss bs h f c)) g (statement_vars s) (statement_becomes s)

  statement_same : {t : Tree} {us : Forest} → StatementStep mark t us → Same mark t (as_statement rs us)
  unfolding eval act evals
  statement_same {t} {us} (expression ss a e w h) = let s = expression ss a e w h in plainly t us refl refl refl (alone_stands h) (statement_vars s) (statement_becomes s)
  statement_same {t} {us} (choose ss a known arms kept gone {es} {vs} e k r p g h v) = let s = choose ss a known arms kept gone e k r p g h v in plainly t us g refl refl (statements_joined es (joined vs kept) (alone_stands h) (statements_joined vs kept (vars_stand v) (arms_stand r g))) (statement_vars s) (statement_becomes s)
  statement_same {t} {us} (else_goes ss xs ys a b e p) = record { exact = record { by = λ n d c. refines_same _ }; fits = statement_fits rs t us refl refl (statement_vars {mark = mark} (else_goes ss xs ys a b e p)); no_item = refl; no_param = refl; still_no_param = refl }
  statement_same {t} {us} (branch_goes ss xs a e h) = let s = branch_goes ss xs a e h in plainly t us refl refl refl (alone_stands h) (statement_vars s) (statement_becomes s)
  statement_same {t} {us} (while_true ss xs ys a b q l p e) = let s = while_true ss xs ys a b q l p e in plainly t us refl refl refl refl (statement_vars s) (statement_becomes s)
  statement_same {t} {us} (while_false ss xs ys a b q e h w) = let s = while_false ss xs ys a b q e h w in plainly t us refl refl refl refl (statement_vars s) (statement_becomes s)
  statement_same {t} {us} (while_never ss a b q p e h) = let s = while_never ss a b q p e h in plainly t us refl refl refl (vars_stand h) (statement_vars s) (statement_becomes s)
  statement_same {t} {us} (for_first ss ys i j a u b q r) = let s = for_first ss ys i j a u b q r in plainly t us refl refl refl refl (statement_vars s) (statement_becomes s)
  statement_same {t} {us} (for_update ss ys i a u v b q r) = let s = for_update ss ys i a u v b q r in plainly t us refl refl refl refl (statement_vars s) (statement_becomes s)
  statement_same {t} {us} (for_true ss xs ys i a u b q p e) = let s = for_true ss xs ys i a u b q p e in plainly t us refl refl refl refl (statement_vars s) (statement_becomes s)
  statement_same {t} {us} (for_false ss xs ys i a u b q l p e) = let s = for_false ss xs ys i a u b q l p e in plainly t us refl refl refl refl (statement_vars s) (statement_becomes s)
  statement_same {t} {us} (for_no_update ss xs ys i a u b q r z p e) = let s = for_no_update ss xs ys i a u b q r z p e in plainly t us refl refl refl refl (statement_vars s) (statement_becomes s)
  statement_same {t} {us} (for_no_body ss xs ys i a u b q p e h w) = let s = for_no_body ss xs ys i a u b q p e h w in plainly t us refl refl refl refl (statement_vars s) (statement_becomes s)
  statement_same {t} {us} (for_never ss xs a u b q o p e h) = let s = for_never ss xs a u b q o p e h in plainly t us refl refl refl (vars_stand h) (statement_vars s) (statement_becomes s)
  statement_same {t} {us} (do_true ss ks ls ms ys b a q p e) = let s = do_true ss ks ls ms ys b a q p e in plainly t us refl refl refl refl (statement_vars s) (statement_becomes s)
  statement_same {t} {us} (label_empty l ss xs) = plainly t us refl refl refl refl (statement_vars {mark = mark} (label_empty l ss xs)) (statement_becomes (label_empty l ss xs))
  statement_same {t} {us} (label_left l m ss xs e) = plainly t us refl refl refl refl (statement_vars {mark = mark} (label_left l m ss xs e)) (statement_becomes (label_left l m ss xs e))
  statement_same {t} {us} (block_empty ss) = plainly t us refl refl refl refl (statement_vars {mark = mark} (block_empty ss)) (statement_becomes (block_empty ss))
  statement_same {t} {us} (block_one ss a p q g) = plainly t us refl refl refl (and_from (gives_nothing a) true g refl) (statement_vars {mark = mark} (block_one ss a p q g)) (statement_becomes (block_one ss a p q g))
  statement_same (try_inside p ss bs fs ys h cs a q) = tried p ss bs h (node Block fs cs) refl (try_inside p ss bs fs ys h cs a q) refl
  statement_same (try_beside p ss bs fs h cs {vs} q) = tried p ss bs h (node Block fs cs) refl (try_beside p ss bs fs h cs q) (statements_joined vs (node Block fs cs ⊳ ε) (vars_stand q) refl)
  statement_same (try_alone p ss bs fs h q) = tried p ss bs h (node Absent fs ε) refl (try_alone p ss bs fs h q) (vars_stand q)
  statement_same {t} {us} (try_block ss bs hs fs cs) = plainly t us refl refl refl refl (statement_vars {mark = mark} (try_block ss bs hs fs cs)) (statement_becomes (try_block ss bs hs fs cs))

  do_same : {t : Tree} {us : Forest} → DoStep mark every t us → Same mark t (as_statement rs us)
  do_same {t} {us} (do_once ss b a e p k o) = let s = do_once ss b a e p k o in plainly t us refl refl refl (do_stands s) (do_vars s) (do_becomes s)

  within_same : {t : Tree} {us : Forest} → WithinStep mark t us → Same mark t (as_statement rs us)
  within_same {t} {us} (while_within ss xs a w) = let s = while_within ss xs a w in plainly t us refl refl refl refl (within_vars s) (within_becomes s)
  within_same {t} {us} (do_within ss xs a w) = let s = do_within ss xs a w in plainly t us refl refl refl refl (within_vars s) (within_becomes s)
  within_same {t} {us} (for_within ss xs i a v w) = let s = for_within ss xs i a v w in plainly t us refl refl refl refl (within_vars s) (within_becomes s)

  of_switch : {t : Tree} {us : Forest} → gives_nothing t ≡ true → is_part (label_of t) ≡ false → is_item (label_of t) ≡ false → SwitchStep mark t us → Same mark t (as_statement rs us)
  of_switch {t} {us} h p i s = plainly t us h p i (switch_stands s) (switch_vars s) (switch_becomes s)

  switch_same : {t : Tree} {us : Forest} → SwitchStep mark t us → Same mark t (as_statement rs us)
  switch_same (nothing_left ss t ks h g p r e a q) = of_switch refl refl refl (nothing_left ss t ks h g p r e a q)
  switch_same (only_default ss t fs k h g p i j w a u x q z l y) = of_switch refl refl refl (only_default ss t fs k h g p i j w a u x q z l y)
  switch_same (only_default_apart ss us t fs k h g p i j w a u x q z) = of_switch refl refl refl (only_default_apart ss us t fs k h g p i j w a u x q z)
  switch_same (selected_case ss us t v w fs k ks h g p e r i j l m u q o z) = of_switch refl refl refl (selected_case ss us t v w fs k ks h g p e r i j l m u q o z)
  switch_same (selected_default ss us t v fs k ks h g p e r i j u q o z) = of_switch refl refl refl (selected_default ss us t v fs k ks h g p e r i j u q o z)
  switch_same (none_selected ss t v ks h g p e r i d q) = of_switch refl refl refl (none_selected ss t v ks h g p e r i d q)
  switch_same (leading_go ss us xs t v fs ks h g e r i q o z) = of_switch refl refl refl (leading_go ss us xs t v fs ks h g e r i q o z)

  pub branch_same : {t : Tree} {us : Forest} → BranchStep mark t us → Same mark t (as_statement rs us)
  branch_same (statement s) = statement_same s
  branch_same (once s) = do_same s
  branch_same (within s) = within_same s
  branch_same (cases s) = switch_same s

-- expressions

abbrev pub is_source : Label → Bool
is_source Seq = true
is_source (Assign op x) = true
is_source Cond = true
is_source _ = false

pub step_source : {mark : ℕ} {t u : Tree} → ExpressionStep mark t u → is_source (label_of t) ≡ true
step_source (front ss rs fs us t h) = refl
step_source (itself ss is rs x h) = refl
step_source (same_arms ss c u v p h i) = refl
step_source (in_guard rs zs s l) = step_source s

pub source_expression : (l : Label) → is_source l ≡ true → is_expression l ≡ true
source_expression Seq h = refl
source_expression (Assign op x) h = refl
source_expression Cond h = refl
source_expression _ h = absurd (false≢true h)

expression_same : {mark : ℕ} {t u : Tree} → is_expression (label_of u) ≡ true → ExpressionStep mark t u → Same mark t u
expression_same {t = node l ss cs} {u = node m rs us} q s =
    let p = expression_inside l (source_expression l (step_source s)) in
    let r = expression_inside m q in
    record {
      exact = expression_exact s;
      fits = fits_nothing (node l ss cs) (node m rs us) p.nothing r.nothing;
      no_item = p.no_item;
      no_param = p.no_param;
      still_no_param = r.no_param;
    }

-- one step behind another

names_trans : {t u v : Tree} → SameNames no_names t u → SameNames no_names u v → SameNames no_names t v
names_trans h i = record {
  guarded_vars = λ x g e. i.guarded_vars x g (h.guarded_vars x g e);
  vars = λ x d s. h.vars x d s ∙ i.vars x d s;
  declares = λ x d. h.declares x d ∙ i.declares x d;
  functions = λ x g e. h.functions x g (i.functions x g e);
  copied = λ x d. h.copied x d ∙ i.copied x d;
}

fits_trans : {t u v : Tree} → Fits no_names t u → Fits no_names u v → Fits no_names t v
fits_trans unchanged i = i
fits_trans (changed a b h) unchanged = changed a b h
fits_trans (changed a b h) (changed c d i) = changed a d (names_trans h i)

-- what a node becomes, or a parameter without its default
data Right (mark : ℕ) : Tree → Tree → Type 0 where
  same : {t u : Tree} → Same mark t u → Right mark t u
  no_default : {x : Name} {ss rs : List Span} {t : Tree} → GivesUndefined mark t → Right mark (node (Param x) ss (t ⊳ ε)) (node (Param x) rs ε)

abbrev is_bare_param : Tree → Bool
is_bare_param (node (Param x) ss ε) = true
is_bare_param _ = false

bare_param : (t : Tree) → is_bare_param t ≡ true → is_param (label_of t) ≡ true
bare_param (node (Param x) ss ε) h = refl
bare_param _ h = absurd (false≢true h)

param_stays : {mark : ℕ} {t u : Tree} → Right mark t u → is_bare_param t ≡ true → ⊥
param_stays {t = t} (same s) h = false≢true (sym s.no_param ∙ bare_param t h)
param_stays (no_default d) h = false≢true h

same_then : {mark : ℕ} {t u v : Tree} → Same mark t u → Right mark u v → Right mark t v
same_then {mark} h (same i) = same (record { exact = exact_trans mark h.exact i.exact; fits = fits_trans h.fits i.fits; no_item = h.no_item; no_param = h.no_param; still_no_param = i.still_no_param })
same_then h (no_default d) = absurd (false≢true (sym h.still_no_param))

right_then : {mark : ℕ} {t u v : Tree} → Right mark t u → Right mark u v → Right mark t v
right_then (same h) i = same_then h i
right_then (no_default d) i = absurd (param_stays i refl)

right : {mark : ℕ} {t u : Tree} → Removes mark t u → Right mark t u
right (of_expression q s) = same (expression_same q s)
right (of_statement rs s) = same (branch_same rs s)
right {mark} (of_default {d = d} h) = no_default (void_is_undefined mark d h)
right (followed e h i) = right_then (right h) (right i)

node_right : {mark : ℕ} {t u : Tree} → Right mark t u → NodeRight mark t u
node_right (same h) = does_same h.exact h.fits h.no_item
node_right (no_default d) = default_goes d

pub removes_right : {mark : ℕ} {t u : Tree} → Removes mark t u → NodeRight mark t u
removes_right r = node_right (right r)
