-- Each step keeps and spares what a pass may not touch, and is lighter; so is a list that is tidied, and a block that is tidied and then opened.
use Rattle.std.proofs.Common.{◌≡◌, ℕ, true, false, List, refl, sym, ◌∙◌}
use Rattle.std.proofs.lemmas.Bool.{false≢true}
use Rattle.swc_ast.specs.declared.Span.{Span}
use Rattle.swc_ast.specs.Tree.{Name, Label, Seq, Assign, Cond, Block, Empty, Tree, node, Forest, ε, ◌⊳◌, label_of}
use Rattle.swc_ast.specs.Weight.{is_list}
use Rattle.static_proofs.specs.Step.{Step}
use Rattle.static_proofs.proofs.Compose.{step_then}
use Rattle.walk_proofs.specs.Finished.{Does, at_front, at_node, at_list, at_both}
use Rattle.pass_proofs.proofs.DefaultsOwe.{default_owes}
use Rattle.branch_rules.specs.Jumps.{every}
use Rattle.branch_rules.specs.Lists.{Tidied, kept_names}
use Rattle.branch_rules.specs.Once.{DoStep, do_once}
use Rattle.branch_rules.specs.Removes.{statement, once, within, cases, Removes, of_expression, of_statement, of_default, followed, remove_pass}
use Rattle.branch_rules.specs.Statements.{as_statement, is_plain, StatementStep, expression, choose, else_goes, branch_goes, while_true, while_false, while_never, for_first, for_update, for_true, for_false, for_no_update, for_no_body, for_never, do_true, label_empty, label_left, block_empty, block_one, try_inside, try_beside, try_alone, try_block}
use Rattle.branch_rules.specs.Switches.{SwitchStep, nothing_left, only_default, only_default_apart, selected_case, selected_default, none_selected, leading_go}
use Rattle.branch_rules.specs.Within.{WithinStep, while_within, do_within, for_within}
use Rattle.branch_proofs.proofs.BranchForms as branch
use Rattle.branch_proofs.proofs.BranchesOwe.{branch_step}
use Rattle.branch_proofs.proofs.DoOwes.{do_owes}
use Rattle.branch_proofs.proofs.ExpressionsOwe.{expression_owes}
use Rattle.branch_proofs.proofs.LoopForms as loop
use Rattle.branch_proofs.proofs.LoopsOwe.{loop_step}
use Rattle.branch_proofs.proofs.StatementsOwe.{statement_owes}
use Rattle.branch_proofs.proofs.Steps.{is_source, step_source}
use Rattle.branch_proofs.proofs.SwitchOwes.{switch_owes}
use Rattle.branch_proofs.proofs.TidiedOwe.{tidied_owes, tidies_of}
use Rattle.branch_proofs.proofs.Unlet.{shed_owes}
use Rattle.branch_proofs.proofs.WithinOwe.{within_owes}

pub removes_owes : {N : Type 0} {P : Name → Type 0} {mark : ℕ} {t u : Tree} → N → Removes mark t u → Step N P t u
removes_owes n (of_expression q s) = expression_owes q s
removes_owes n (of_statement rs (statement s)) = statement_owes n rs s
removes_owes n (of_statement rs (once s)) = do_owes n rs s
removes_owes n (of_statement rs (within s)) = within_owes n rs s
removes_owes n (of_statement rs (cases s)) = switch_owes n rs s
removes_owes n (of_default h) = default_owes _ _ _ _
removes_owes n (followed e h i) = step_then e (removes_owes n h) (removes_owes n i)

-- what a list becomes by a step of its node: a block of no statement, or of a plain one, is opened
pub data Opened : Tree → Tree → Type 0 where
  hollow : (ss rs : List Span) → Opened (node Block ss ε) (node Empty rs ε)
  unwrap : (ss : List Span) (t : Tree) → is_plain t ≡ true → Opened (node Block ss (t ⊳ ε)) t

no_list : (l : Label) → is_source l ≡ true → is_list l ≡ true → ⊥
no_list Seq h i = false≢true i
no_list (Assign op x) h i = false≢true i
no_list Cond h i = false≢true i
no_list l h i = absurd (false≢true h)

statement_opens : {mark : ℕ} {t : Tree} {us : Forest} (rs : List Span) → StatementStep mark t us → is_list (label_of t) ≡ true → Opened t (as_statement rs us)
statement_opens rs (block_empty ss) e = hollow ss rs
statement_opens rs (block_one ss t p q g) e = unwrap ss t p
statement_opens rs (expression ss a q w h) e = absurd (false≢true e)
statement_opens rs (choose ss t known arms kept gone q k r p g h v) e = absurd (false≢true e)
statement_opens rs (else_goes ss xs us t a q p) e = absurd (false≢true e)
statement_opens rs (branch_goes ss xs t q h) e = absurd (false≢true e)
statement_opens rs (while_true ss xs us t b q l p k) e = absurd (false≢true e)
statement_opens rs (while_false ss xs us t b q k h w) e = absurd (false≢true e)
statement_opens rs (while_never ss t b q p k h) e = absurd (false≢true e)
statement_opens rs (for_first ss us i j t u b q r) e = absurd (false≢true e)
statement_opens rs (for_update ss us i t u v b q r) e = absurd (false≢true e)
statement_opens rs (for_true ss xs us i t u b q p k) e = absurd (false≢true e)
statement_opens rs (for_false ss xs us i t u b q l p k) e = absurd (false≢true e)
statement_opens rs (for_no_update ss xs us i t u b q r z p k) e = absurd (false≢true e)
statement_opens rs (for_no_body ss xs us i t u b q p k h w) e = absurd (false≢true e)
statement_opens rs (for_never ss is t u b q o p k h) e = absurd (false≢true e)
statement_opens rs (do_true ss ks ls ms us b t q p k) e = absurd (false≢true e)
statement_opens rs (label_empty l ss xs) e = absurd (false≢true e)
statement_opens rs (label_left l m ss xs k) e = absurd (false≢true e)
statement_opens rs (try_inside p ss bs fs us h cs a q) e = absurd (false≢true e)
statement_opens rs (try_beside p ss bs fs h cs q) e = absurd (false≢true e)
statement_opens rs (try_alone p ss bs fs h q) e = absurd (false≢true e)
statement_opens rs (try_block ss bs hs fs cs) e = absurd (false≢true e)

switch_no_list : {mark : ℕ} {t : Tree} {us : Forest} → SwitchStep mark t us → is_list (label_of t) ≡ false
switch_no_list (nothing_left ss d ks h g p r e a q) = refl
switch_no_list (only_default ss d fs k h g p i j w a u v q z l y) = refl
switch_no_list (only_default_apart ss us d fs k h g p i j w a u v q z) = refl
switch_no_list (selected_case ss us d v w fs k ks h g p e r i j l m u q o z) = refl
switch_no_list (selected_default ss us d v fs k ks h g p e r i j u q o z) = refl
switch_no_list (none_selected ss d v ks h g p e r i f q) = refl
switch_no_list (leading_go ss us xs d v fs ks h g e r i q o w) = refl

do_no_list : {mark : ℕ} {t : Tree} {us : Forest} → DoStep mark every t us → is_list (label_of t) ≡ false
do_no_list (do_once ss b t q p k o) = refl

within_no_list : {mark : ℕ} {t : Tree} {us : Forest} → WithinStep mark t us → is_list (label_of t) ≡ false
within_no_list (while_within ss rs t w) = refl
within_no_list (do_within ss rs t w) = refl
within_no_list (for_within ss rs i t v w) = refl

pub list_opens : {mark : ℕ} {t u : Tree} → Removes mark t u → is_list (label_of t) ≡ true → Opened t u
list_opens {t = t} (of_expression q s) e = absurd (no_list (label_of t) (step_source s) e)
list_opens (of_statement rs (statement s)) e = statement_opens rs s e
list_opens (of_statement rs (once s)) e = absurd (false≢true (sym (do_no_list s) ∙ e))
list_opens (of_statement rs (within s)) e = absurd (false≢true (sym (within_no_list s) ∙ e))
list_opens (of_statement rs (cases s)) e = absurd (false≢true (sym (switch_no_list s) ∙ e))
list_opens (of_default h) e = absurd (false≢true e)
list_opens (followed n h i) e = absurd (false≢true (sym n ∙ e))

pub opened_after : {N : Type 0} {P : Name → Type 0} {l : Label} {ss : List Span} {ts us : Forest} {b : Tree} → N → Tidied (kept_names l ts) ts us → Opened (node l ss us) b → Step N P (node l ss ts) b
opened_after n d (hollow ss rs) = loop_step _ _ n (loop.tidy_hollow (tidies_of d))
opened_after n d (unwrap ss t p) = branch_step _ _ n (branch.tidy_unwrap (tidies_of d) p)

pub does_owe : {N : Type 0} {P : Name → Type 0} {mark : ℕ} {a b : Tree} → N → Does (remove_pass mark) a b → Step N P a b
does_owe n (at_front h) = shed_owes n h
does_owe n (at_node h) = removes_owes n h
does_owe n (at_list {l = l} {ss = ss} e d) = tidied_owes l ss e d
does_owe n (at_both e d h) = opened_after n d (list_opens h e)
