-- The removal of dead branches loses no `var` name.
use Rattle.std.proofs.Common.{◌≡◌, ℕ, true, false, List, [], ◌++◌, refl, sym, subst, ◌∙◌, append-nil}
use Rattle.std.proofs.lemmas.Bool.{false≢true}
use Rattle.swc_ast.specs.Labels.{is_whole}
use Rattle.swc_ast.specs.declared.Span.{Span}
use Rattle.swc_ast.specs.Tree.{Name, Label, Seq, Assign, Cond, Block, Body, CaseBody, Module, Script, Tree, node, Forest, ◌⊳◌, label_of}
use Rattle.swc_ast.specs.Scope.{vars, vars_all}
use Rattle.swc_ast.specs.Weight.{is_list}
use Rattle.static_proofs.specs.Names.{Within}
use Rattle.static_proofs.specs.Spares.{Spared}
use Rattle.static_proofs.specs.Vars.{LosesNoVar}
use Rattle.static_proofs.specs.Together.{is_module}
use Rattle.static_proofs.proofs.Names.{within_same, within_append, within_trans, within_both, within_first, within_second}
use Rattle.static_proofs.proofs.Parts.{vars_joined}
use Rattle.static_proofs.proofs.Together.{list_spares}
use Rattle.static_proofs.proofs.Vars.{loses_none}
use Rattle.walk_proofs.specs.Finished.{Does, at_front, at_node, at_list, at_both}
use Rattle.branch_rules.specs.Once.{do_once}
use Rattle.branch_rules.specs.Removes.{BranchStep, statement, once, within, cases, Removes, of_expression, of_statement, of_default, followed, remove_pass}
use Rattle.branch_rules.specs.Statements.{StatementStep, expression, choose, else_goes, branch_goes, while_true, while_false, while_never, for_first, for_update, for_true, for_false, for_no_update, for_no_body, for_never, do_true, label_empty, label_left, block_empty, block_one, try_inside, try_beside, try_alone, try_block}
use Rattle.branch_rules.specs.Switches.{ShedStep, leading_shed, selected_shed, SwitchStep, nothing_left, only_default, only_default_apart, selected_case, selected_default, none_selected, leading_go}
use Rattle.branch_rules.specs.Within.{while_within, do_within, for_within}
use Rattle.branch_proofs.proofs.Steps.{is_source, step_source}
use Rattle.branch_rules.specs.Lists.{Tidied, kept_names}
use Rattle.branch_proofs.proofs.Owes.{Opened, hollow, unwrap, list_opens, opened_after, removes_owes}
use Rattle.branch_proofs.proofs.TidiedOwe.{tidies_of, module_step_of}
use Rattle.branch_rules.specs.Lists.{staying}
use Rattle.branch_proofs.proofs.ModuleForms.{ModuleHoists, no_names, some_names, ModuleCuts, uncut, past_item, cut_at, ModuleStep, tidy_module}
use Rattle.branch_proofs.proofs.Sweeps.{sweeps_spare}
use Rattle.branch_proofs.proofs.Hoists.{bare_vars}
use Rattle.branch_proofs.proofs.Tidies.{tidies_spare_vars}
use Rattle.branch_proofs.proofs.ModuleBinds.{vars_parted}
use Rattle.branch_proofs.proofs.Unlet.{shed_owes}

abbrev Every : Name → Type 0
Every x = Unit {0}

spared_within : {xs ys : List Name} → Spared Every xs ys → Within xs ys
spared_within f = record { by = λ x h. f.by x tt h }

within_spared : {xs ys : List Name} → Within xs ys → Spared Every xs ys
within_spared f = record { by = λ x p h. f.by x h }

-- lists

list_loses : (l : Label) (ss : List Span) {ts vs : Forest} → is_list l ≡ true → is_module l ≡ false → Spared Every (vars_all ts) (vars_all vs) → LosesNoVar (node l ss ts) (node l ss vs)
list_loses Block ss e m k = loses_none refl (list_spares Block ss refl refl k)
list_loses Body ss e m k = loses_none refl (list_spares Body ss refl refl k)
list_loses CaseBody ss e m k = loses_none refl (list_spares CaseBody ss refl refl k)
list_loses Script ss e m k = record { vars_there = within_same []; body_there = spared_within k }
list_loses Module ss e m k = absurd (false≢true (sym m))
list_loses l ss e m k = absurd (false≢true e)

hoists_there : {P : Name → Type 0} {ts hs : Forest} → ModuleHoists P ts hs → Within (vars_all ts) (vars_all hs)
hoists_there (no_names h g) = subst (λ xs. Within xs []) (sym h) (within_same [])
hoists_there {P} {ts} (some_names {ss = ss} {ds = ds} b f g p n m) = subst (λ xs. Within (vars_all ts) xs) (sym (append-nil (vars_all ds) ∙ bare_vars ds b)) g

cuts_there : {P : Name → Type 0} {ts us : Forest} → ModuleCuts P ts us → Within (vars_all ts) (vars_all us)
cuts_there uncut = within_same []
cuts_there (past_item {t = t} h c) = within_append (within_same (vars t)) (cuts_there c)
cuts_there (cut_at {t = t} {ts = ts} {hs = hs} h o) = subst (λ xs. Within (vars t ++ vars_all ts) xs) (sym (vars_joined hs (t ⊳ staying ts))) (within_both (within_trans (within_first (vars t) (vars_all (staying ts))) (within_second (vars_all hs) _)) (within_trans (spared_within (vars_parted ts hs (within_spared (hoists_there o)))) (within_append (within_same (vars_all hs)) (within_second (vars t) (vars_all (staying ts))))))

module_loses : {P : Name → Type 0} {t u : Tree} → ModuleStep P t u → LosesNoVar t u
module_loses (tidy_module s m c n) = record { vars_there = within_same []; body_there = within_trans (spared_within (sweeps_spare {P = Every} s).vars_spared) (cuts_there c) }

-- below the top

source_below : (l : Label) → is_source l ≡ true → is_whole l ≡ false
source_below Seq h = refl
source_below (Assign op x) h = refl
source_below Cond h = refl
source_below l h = absurd (false≢true h)

statement_below : {mark : ℕ} {t : Tree} {us : Forest} → StatementStep mark t us → is_whole (label_of t) ≡ false
statement_below (block_empty ss) = refl
statement_below (block_one ss t p q g) = refl
statement_below (expression ss a q w h) = refl
statement_below (choose ss t known arms kept gone q k r p g h v) = refl
statement_below (else_goes ss xs us t a q p) = refl
statement_below (branch_goes ss xs t q h) = refl
statement_below (while_true ss xs us t b q l p k) = refl
statement_below (while_false ss xs us t b q k h w) = refl
statement_below (while_never ss t b q p k h) = refl
statement_below (for_first ss us i j t u b q r) = refl
statement_below (for_update ss us i t u v b q r) = refl
statement_below (for_true ss xs us i t u b q p k) = refl
statement_below (for_false ss xs us i t u b q l p k) = refl
statement_below (for_no_update ss xs us i t u b q r z p k) = refl
statement_below (for_no_body ss xs us i t u b q p k h w) = refl
statement_below (for_never ss is t u b q o p k h) = refl
statement_below (do_true ss ks ls ms us b t q p k) = refl
statement_below (label_empty l ss xs) = refl
statement_below (label_left l m ss xs k) = refl
statement_below (try_inside p ss bs fs us h cs a q) = refl
statement_below (try_beside p ss bs fs h cs q) = refl
statement_below (try_alone p ss bs fs h q) = refl
statement_below (try_block ss bs hs fs cs) = refl

shed_below : {mark : ℕ} {t u : Tree} → ShedStep mark t u → is_whole (label_of t) ≡ false
shed_below (leading_shed ss d v fs gs ks e p n s) = refl
shed_below (selected_shed ss d v fs gs ks hs ls e p q s r o) = refl

switch_below : {mark : ℕ} {t : Tree} {us : Forest} → SwitchStep mark t us → is_whole (label_of t) ≡ false
switch_below (nothing_left ss d ks h g p r e a q) = refl
switch_below (only_default ss d fs k h g p i j w a u v q z l y) = refl
switch_below (only_default_apart ss us d fs k h g p i j w a u v q z) = refl
switch_below (selected_case ss us d v w fs k ks h g p e r i j l m u q o z) = refl
switch_below (selected_default ss us d v fs k ks h g p e r i j u q o z) = refl
switch_below (none_selected ss d v ks h g p e r i f q) = refl
switch_below (leading_go ss us xs d v fs ks h g e r i q o w) = refl

branch_below : {mark : ℕ} {t : Tree} {us : Forest} → BranchStep mark t us → is_whole (label_of t) ≡ false
branch_below (statement s) = statement_below s
branch_below (once (do_once ss b t q p k o)) = refl
branch_below (within (while_within ss rs t w)) = refl
branch_below (within (do_within ss rs t w)) = refl
branch_below (within (for_within ss rs i t v w)) = refl
branch_below (cases s) = switch_below s

-- no step is at a module or a script
pub removes_below : {mark : ℕ} {t u : Tree} → Removes mark t u → is_whole (label_of t) ≡ false
removes_below {t = t} (of_expression q s) = source_below (label_of t) (step_source s)
removes_below (of_statement rs s) = branch_below s
removes_below (of_default h) = refl
removes_below (followed e h i) = removes_below h

opened_loses : {l : Label} {ss : List Span} {ts us : Forest} {b : Tree} → Tidied (kept_names l ts) ts us → Opened (node l ss us) b → LosesNoVar (node l ss ts) b
opened_loses d (hollow ss rs) = loses_none refl (opened_after {N = Unit {0}} tt d (hollow ss rs)).spares
opened_loses d (unwrap ss t p) = loses_none refl (opened_after {N = Unit {0}} tt d (unwrap ss t p)).spares

tidied_loses : (l : Label) (ss : List Span) {ts us : Forest} → is_list l ≡ true → Tidied (kept_names l ts) ts us → LosesNoVar (node l ss ts) (node l ss us)
tidied_loses Block ss e d = list_loses Block ss refl refl (tidies_spare_vars (tidies_of d))
tidied_loses Body ss e d = list_loses Body ss refl refl (tidies_spare_vars (tidies_of d))
tidied_loses CaseBody ss e d = list_loses CaseBody ss refl refl (tidies_spare_vars (tidies_of d))
tidied_loses Script ss e d = list_loses Script ss refl refl (tidies_spare_vars (tidies_of d))
tidied_loses Module ss e d = module_loses (module_step_of ss d)
tidied_loses l ss e d = absurd (false≢true e)

pub does_lose_none : {mark : ℕ} {a b : Tree} → Does (remove_pass mark) a b → LosesNoVar a b
does_lose_none (at_front h) = loses_none (shed_below h) (shed_owes {N = Unit {0}} tt h).spares
does_lose_none (at_node h) = loses_none (removes_below h) (removes_owes {N = Unit {0}} tt h).spares
does_lose_none (at_list {l = l} {ss = ss} e d) = tidied_loses l ss e d
does_lose_none (at_both e d h) = opened_loses d (list_opens h e)
