-- Each step of a statement: to run it is to run what it becomes.
use Rattle.std.proofs.Common.{◌≡◌, ℕ, Bool, true, false, if◌then◌else◌, List, [], ◌++◌, Option, Some, None, refl, sym, ap, ap₂, subst, ◌∙◌, bytes_eq}
use Rattle.swc_ast.specs.declared.Span.{Span}
use Rattle.swc_ast.specs.Tree.{Text, Name, BoolLit, Block, For, Absent, Try, Tree, node, Forest, ε, ◌⊳◌}
use Rattle.swc_ast.specs.Value.{Value, Undefined, Truth, State, Outcome, Done, Jumps, Outside, Cut, Broken, Run, and_then, Context, Meaning}
use Rattle.swc_ast.specs.Scope.{joined, Declared, found, is_found, declared_by, declared}
use Rattle.swc_ast.specs.Meaning.{◌>>=◌, gives, in_scope, cell_of_declared, in_list_scope, plain, run_all, turns, copies, head_names, copied_names, first_tree, at_label, handled, resume, finally, try_catch, act, eval, evals}
use Rattle.swc_ast.specs.Call.{call_at}
use Rattle.meaning_proofs.specs.Exact.{Refined, Refines}
use Rattle.swc_utils.specs.Holds.{Is, Where}
use Rattle.branch_proofs.proofs.Undefined.{Nothing, finally_nothing}
use Rattle.swc_utils.proofs.RunEffects.{drop}
use Rattle.swc_utils.proofs.Known.{truth_holds}
use Rattle.pass_proofs.proofs.Truths.{truth_keeps, truth_tree_gives}
use Rattle.swc_utils.proofs.Refines.{refines_same, refines_then, refines_trans}
use Rattle.pass_proofs.proofs.Refines.{refines_path}
use Rattle.branch_proofs.proofs.Becoming.{Becomes}
use Rattle.branch_rules.specs.Statements.{as_statement, Part, part_goes, part_left, StatementStep, expression, choose, else_goes, branch_goes, while_true, while_false, while_never, for_first, for_update, for_true, for_false, for_no_update, for_no_body, for_never, do_true, label_empty, label_left, block_empty, block_one, try_inside, try_beside, try_alone, try_block}
use Rattle.branch_rules.specs.Vars.{Declares}
use Rattle.branch_proofs.proofs.Becomes.{run_behind}
use Rattle.branch_proofs.proofs.Dropped.{made_dropped}
use Rattle.branch_proofs.proofs.Ignore.{ignores_run}
use Rattle.branch_proofs.proofs.Loops.{turns_refine, turns_idle, turns_end, turns_body, turns_true, turns_never, do_forever, shell, shell_refines, for_is, copies_nothing, given, shell_nothing}
use Rattle.branch_proofs.proofs.Places.{open_block, no_copies}
use Rattle.branch_proofs.proofs.Tests.{alone_run, behind_alone, behind_vars, choose_run, no_branch, declared_behind, one_declares}
use Rattle.branch_proofs.proofs.Labelled.{expression_declares, plain_declares, part_declares}
use Rattle.branch_proofs.proofs.Vars.{vars_declare, vars_run}
use mathlib.Core.Path.{fun_ext}

-- a statement in the place of one that is run for what it does
pub dropped_same : {m k : Run Value} → Refines m k → Refines (drop m) (drop k)
dropped_same h = refines_then h (λ v. refines_same _)

-- scopes

abbrev pub scope_of : List Declared → Meaning → Meaning
scope_of ps m c = in_scope (λ x. is_found x ps) (λ e x. cell_of_declared e c.this (found x ps)) m c

-- try

labeled_left : (l m : Text) (s : State) → bytes_eq l m ≡ true → (if bytes_eq l m then Done Undefined s else Jumps (Broken (Some m)) s) ≡ Done Undefined s
labeled_left l m s e = ap (λ (b : Bool). if b then Done Undefined s else Jumps (Broken (Some m)) s) e

-- behind a block that did nothing
final_dropped : (v : Value) (s : State) (o : Outcome Value) → Refined (and_then (resume (Done v s) o) (λ w. gives Undefined)) (and_then o (λ w. gives Undefined))
unfolding and_then
final_dropped v s (Done w t) = refl
final_dropped v s (Jumps j t) = refl
final_dropped v s Outside = tt
final_dropped v s Cut = tt

-- where nothing is done in the end
final_nothing : (f : Meaning) (c : Context) (o : Outcome Value) → ((s : State) → f c s ≡ Done Undefined s) → Refined (finally f c o) o
final_nothing f c (Done v s) h = subst (λ p. Refined (resume (Done v s) p) (Done v s)) (sym (h s)) refl
final_nothing f c (Jumps j s) h = subst (λ p. Refined (resume (Jumps j s) p) (Jumps j s)) (sym (h s)) refl
final_nothing f c Outside h = tt
final_nothing f c Cut h = tt

module _ (mark n d : ℕ) where
  abbrev does : Tree → Meaning
  does = eval mark n (call_at (eval mark n) d)

  abbrev runs : Forest → Meaning
  runs ts = run_all (evals mark n (call_at (eval mark n) d) ts)

  empty_block : (ss : List Span) (c : Context) → does (node Block ss ε) c ≡ gives Undefined
  unfolding run_all evals
  empty_block ss c = open_block mark n (call_at (eval mark n) d) ss ε refl c

  -- a list with `var`s in front, in a scope of its own
  pub block_inside : (ss us : List Span) {xs : List Name} {vs : Forest} (cs : Forest) (c : Context) → Declares xs vs → does (node Block ss cs) c ≡ does (node Block us (joined vs cs)) c
  unfolding eval act and_then in_list_scope in_scope
  block_inside ss us {vs = vs} cs c h =
      ap₂ (λ (ps : List Declared) (m : Meaning). scope_of ps m c) (sym (declared_behind vs cs ∙ ap (λ (ps : List Declared). ps ++ declared cs) (vars_declare h)))
      (sym (fun_ext (λ e. run_behind mark n (call_at (eval mark n) d) vs cs e ∙ ap (λ (m : Run Value). m >>= λ v. runs cs e) (vars_run mark n (call_at (eval mark n) d) h e))))

  absent_gives : (rs : List Span) (c : Context) → does (node Absent rs ε) c ≡ gives (Truth true)
  unfolding eval act evals
  absent_gives rs c = refl

  part_run : {a b : Tree} → Part mark a b → (c : Context) → Refines (drop (does a c)) (drop (does b c))
  unfolding run_all eval evals act and_then
  part_run (part_goes rs a r) c = ignores_run mark n d r c
  part_run (part_left a v e r) c = ignores_run mark n d r c

  pub for_runs : (ss : List Span) (i t u b : Tree) (c : Context) → does (node For ss (i ⊳ t ⊳ u ⊳ b ⊳ ε)) c ≡ shell (head_names i) (copied_names i) (does i) (turns n (does t) (does b) (copies (copied_names i)) (does u)) c
  unfolding eval act evals
  for_runs ss i t u b c = for_is n (first_tree (i ⊳ t ⊳ u ⊳ b ⊳ ε)) (does i) (does t) (does u) (does b) c

  for_plain : (ss : List Span) (i t u b : Tree) (c : Context) → declared_by i ≡ [] → does (node For ss (i ⊳ t ⊳ u ⊳ b ⊳ ε)) c ≡ shell [] [] (does i) (turns n (does t) (does b) (copies []) (does u)) c
  for_plain ss i t u b c h =
      for_runs ss i t u b c
      ∙ ap (λ (ps : List Declared). shell ps (copied_names i) (does i) (turns n (does t) (does b) (copies (copied_names i)) (does u)) c) (one_declares i h)
      ∙ ap (λ (ps : List Declared). shell [] ps (does i) (turns n (does t) (does b) (copies ps) (does u)) c) (no_copies i h)

  -- without a first part
  for_bare : (ss rs : List Span) (t u b : Tree) (c : Context) → does (node For ss (node Absent rs ε ⊳ t ⊳ u ⊳ b ⊳ ε)) c ≡ turns n (does t) (does b) (copies []) (does u) c
  for_bare ss rs t u b c =
      for_plain ss (node Absent rs ε) t u b c refl
      ∙ shell_nothing (does (node Absent rs ε)) (turns n (does t) (does b) (copies []) (does u)) c
      ∙ ap (λ (m : Run Value). m >>= λ v. turns n (does t) (does b) (copies []) (does u) c) (absent_gives rs (plain c))
      ∙ given (Truth true) (λ v. turns n (does t) (does b) (copies []) (does u) c)

  truth_gives : (rs : List Span) (b : Bool) (c : Context) → does (node (BoolLit b) rs ε) c ≡ gives (Truth b)
  truth_gives rs b c = fun_ext (λ s. truth_tree_gives mark n (call_at (eval mark n) d) rs b c s)

  try_handled : (p : Option (Option Name)) (m : Meaning) (c : Context) (s : State) → handled p m c (Done Undefined s) ≡ Done Undefined s
  try_handled None m c s = refl
  try_handled (Some q) m c s = refl

  try_run : (p : Option (Option Name)) (ss bs : List Span) (h f : Tree) (c : Context) → Refines (drop (does (node (Try p) ss (node Block bs ε ⊳ h ⊳ f ⊳ ε)) c)) (drop (does f c))
  unfolding eval act evals try_catch
  try_run p ss bs h f c = record {
    by = λ s. subst (λ o. Refined (and_then (finally (does f) c o) (λ w. gives Undefined)) (and_then (does f c s) (λ w. gives Undefined))) (sym (ap (λ (m : Run Value). handled p (does h) c (m s)) (empty_block bs c) ∙ try_handled p (does h) c s)) (final_dropped Undefined s (does f c s));
  }

  -- it gives no value
  pub try_nothing : (p : Option (Option Name)) (ss bs : List Span) (h f : Tree) (c : Context) → Nothing (does (node (Try p) ss (node Block bs ε ⊳ h ⊳ f ⊳ ε)) c)
  unfolding eval act evals try_catch
  try_nothing p ss bs h f c = record {
    by = λ s. finally_nothing (does f) c _ (subst (Where (Is Undefined)) (sym (ap (λ (m : Run Value). handled p (does h) c (m s)) (empty_block bs c) ∙ try_handled p (does h) c s)) refl);
  }

  try_ended : (ss fs : List Span) (b h : Tree) (c : Context) → Refines (does (node (Try None) ss (b ⊳ h ⊳ node Block fs ε ⊳ ε)) c) (does b c)
  unfolding eval act evals try_catch
  try_ended ss fs b h c = record { by = λ s. final_nothing (does (node Block fs ε)) c (does b c s) (λ t. ap (λ (m : Run Value). m t) (empty_block fs c)) }

  -- `var`s in front
  pub vars_first : {xs : List Name} {vs : Forest} (us : Forest) (c : Context) → Declares xs vs → runs us c ≡ runs (joined vs us) c
  unfolding and_then
  vars_first {vs = vs} us c h = sym (run_behind mark n (call_at (eval mark n) d) vs us c ∙ ap (λ (m : Run Value). m >>= λ v. runs us c) (vars_run mark n (call_at (eval mark n) d) h c))

  -- nothing but `var`s are left
  only_vars : {xs : List Name} {vs : Forest} {m : Run Value} (c : Context) → Declares xs vs → Refines m (gives Undefined) → Refines (drop m) (runs vs c)
  unfolding and_then
  only_vars c h r = refines_trans (dropped_same r) (refines_path (sym (vars_run mark n (call_at (eval mark n) d) h c)))

  -- parts of a `for`
  pub for_parts : (ss us : List Span) (i t t' u u' b b' : Tree) (c : Context) → ((e : Context) → Refines (turns n (does t) (does b) (copies (copied_names i)) (does u) e) (turns n (does t') (does b') (copies (copied_names i)) (does u') e)) → Refines (does (node For ss (i ⊳ t ⊳ u ⊳ b ⊳ ε)) c) (does (node For us (i ⊳ t' ⊳ u' ⊳ b' ⊳ ε)) c)
  for_parts ss us i t t' u u' b b' c h = refines_trans (refines_path (for_runs ss i t u b c)) (refines_trans (shell_refines (head_names i) (copied_names i) (does i) (does i) _ _ (λ e. refines_same _) h c) (refines_path (sym (for_runs us i t' u' b' c))))

  pub statement_run : {t : Tree} {us : Forest} → StatementStep mark t us → (c : Context) → Refines (drop (does t c)) (runs us c)
  unfolding run_all eval evals act at_label and_then
  statement_run (expression ss a e w h) c = refines_trans (refines_path (made_dropped (does a c) (λ v. Undefined))) (alone_run mark n d h c)
  statement_run (choose ss t known arms kept gone e k r a g h v) c = refines_trans (choose_run mark n d ss t r k c) (behind_alone mark n d (joined _ kept) (runs kept) c h (behind_vars mark n d kept (runs kept) c v (refines_same _)))
  statement_run (else_goes ss rs us t a e p) c = refines_same _
  statement_run (branch_goes ss rs t e h) c = refines_trans (no_branch mark n d t c) (alone_run mark n d h c)
  statement_run (while_true ss rs us t b q l p e) c = dropped_same (turns_true n (does t) (does (node (BoolLit true) rs ε)) (does b) (λ d. gives Undefined) gives (truth_keeps mark n d t true p e) (truth_gives rs true) c)
  statement_run (while_false ss rs us t b {vs} q e h w) c = dropped_same (turns_body n (does t) (does b) (does (as_statement rs vs)) gives (λ d. gives Undefined) c (truth_holds mark n (call_at (eval mark n) d) t false e))
  statement_run (while_never ss t b q p e h) c = only_vars c h (turns_end n (does t) (does b) gives (λ d. gives Undefined) c (truth_keeps mark n d t false p e))
  statement_run (for_first ss us i j t u b q r) c = dropped_same (refines_trans (refines_path (for_plain ss i t u b c (expression_declares i q))) (refines_trans (shell_refines [] [] (does i) (does j) _ _ (part_run r) (λ e. refines_same _) c) (refines_path (sym (for_plain us j t u b c (part_declares r))))))
  statement_run (for_update ss us i t u v b q r) c = dropped_same (for_parts ss us i t t u v b b c (turns_refine n (does t) (does t) (does b) (does b) (does u) (does v) (copies (copied_names i)) (λ e. refines_same _) (λ e. refines_same _) (part_run r)))
  statement_run (for_true ss rs us i t u b q p e) c = dropped_same (for_parts ss us i t (node Absent rs ε) u u b b c (turns_true n (does t) (does (node Absent rs ε)) (does b) (does u) (copies (copied_names i)) (truth_keeps mark n d t true p e) (absent_gives rs)))
  statement_run (for_false ss rs us i t u b q l p e) c = dropped_same (for_parts ss us i t (node (BoolLit false) rs ε) u u b b c (λ x. refines_trans (turns_end n (does t) (does b) (copies (copied_names i)) (does u) x (truth_keeps mark n d t false p e)) (refines_path (sym (turns_never n (does (node (BoolLit false) rs ε)) (does b) (copies (copied_names i)) (does u) x (truth_gives rs false))))))
  statement_run (for_no_update ss ws us i t u b q r z p e) c = dropped_same (for_parts ss us i t t u (node Absent ws ε) b b c (λ x. turns_idle n (does t) (does b) (does b) (copies (copied_names i)) (does u) (does (node Absent ws ε)) x (truth_holds mark n (call_at (eval mark n) d) t false e)))
  statement_run (for_no_body ss bs us i t u b {vs} q p e h w) c = dropped_same (for_parts ss us i t t u u b (as_statement bs vs) c (λ x. turns_idle n (does t) (does b) (does (as_statement bs vs)) (copies (copied_names i)) (does u) (does u) x (truth_holds mark n (call_at (eval mark n) d) t false e)))
  statement_run (for_never ss is t u b q o p e h) c = only_vars c h (refines_trans (refines_path (for_bare ss is t u b c)) (turns_end n (does t) (does b) (copies []) (does u) c (truth_keeps mark n d t false p e)))
  statement_run (do_true ss ks ls ms us b t q p e) c = dropped_same (refines_trans (do_forever n (does t) (does b) (does (node Absent ls ε)) (does (node Absent ms ε)) (copies []) (truth_keeps mark n d t true p e) (absent_gives ls) copies_nothing (absent_gives ms) c) (refines_path (sym (for_bare us ks (node Absent ls ε) (node Absent ms ε) b c))))
  statement_run (label_empty l ss rs) c = refines_same _
  statement_run (label_left l m ss rs e) c = refines_path (ap drop (fun_ext (λ s. labeled_left l m s e)))
  statement_run (block_empty ss) c = refines_path (ap drop (empty_block ss c))
  statement_run (block_one ss t p q g) c = refines_path (ap drop (open_block mark n (call_at (eval mark n) d) ss (t ⊳ ε) (one_declares t (plain_declares t p)) c) ∙ made_dropped (does t c) (λ v. Undefined))
  statement_run (try_inside p ss bs fs us h cs a q) c = refines_trans (try_run p ss bs h (node Block fs cs) c) (refines_path (ap drop (block_inside fs us cs c q)))
  statement_run (try_beside p ss bs fs h cs q) c = refines_trans (try_run p ss bs h (node Block fs cs) c) (refines_path (vars_first (node Block fs cs ⊳ ε) c q))
  statement_run (try_alone p ss bs fs h q) c = refines_trans (try_run p ss bs h (node Absent fs ε) c) (refines_path (sym (vars_run mark n (call_at (eval mark n) d) q c)))
  statement_run (try_block ss bs hs fs cs) c = dropped_same (try_ended ss fs (node Block bs cs) (node Absent hs ε) c)

pub statement_becomes : {mark : ℕ} {t : Tree} {us : Forest} → StatementStep mark t us → Becomes mark (t ⊳ ε) us
unfolding run_all evals
statement_becomes {mark} h = record { by = λ n d c. statement_run mark n d h c }
