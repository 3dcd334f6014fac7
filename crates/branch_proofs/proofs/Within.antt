-- A `do` in the body of a loop: to run the loop is to run what it becomes.
use Rattle.std.proofs.Common.{◌≡◌, ℕ, Bool, true, false, ◌||◌, if◌then◌else◌, List, [], ◌++◌, refl, sym, ap, ap₂, ◌∙◌}
use Rattle.std.proofs.lemmas.Bool.{and_parts}
use Rattle.swc_ast.specs.declared.Span.{Span}
use Rattle.swc_ast.specs.Tree.{Text, Name, Block, While, DoWhile, For, Tree, node, Forest, ε, ◌⊳◌}
use Rattle.swc_ast.specs.Value.{Undefined, Context, Meaning}
use Rattle.swc_ast.specs.Scope.{has_name, vars, vars_all, declared_by, declared, Declared, body_statements, case_statements}
use Rattle.swc_ast.specs.Meaning.{gives, in_list_scope, run_all, copies, copied_names, act, eval, evals}
use Rattle.swc_ast.specs.Call.{call_at}
use Rattle.swc_ast.specs.Weight.{is_stopper}
use Rattle.meaning_proofs.specs.Exact.{Refines}
use Rattle.meaning_proofs.proofs.Relation.{Each, none, more}
use Rattle.swc_utils.proofs.RunEffects.{drop}
use Rattle.swc_utils.proofs.Refines.{refines_same, refines_trans}
use Rattle.meaning_proofs.proofs.Finds.{has_cons}
use Rattle.pass_proofs.proofs.Refines.{refines_path}
use Rattle.branch_rules.specs.Jumps.{only}
use Rattle.branch_rules.specs.Once.{DoStep, do_once}
use Rattle.branch_rules.specs.Statements.{as_statement, gives_nothing, all_give_nothing}
use Rattle.branch_rules.specs.Within.{unstopped, Within, stays, runs, of_part, in_if, in_label, in_try, in_switch, AllWithin, none_within, one_within, PartWithin, same_part, in_block, in_case, PartsWithin, none_parts, one_part, WithinStep, while_within, do_within, for_within}
use Rattle.branch_proofs.proofs.Becoming.{Becomes, SameVars}
use Rattle.branch_proofs.proofs.Declared.{one}
use Rattle.branch_proofs.proofs.DoOnce.{do_run, do_stands, do_vars}
use Rattle.branch_proofs.proofs.Loops.{turns_refine, do_turns_refine}
use Rattle.branch_proofs.proofs.Places.{discarded, open_block, standing, as_vars, as_declares}
use Rattle.branch_proofs.proofs.Relabelled.{relabel}
use Rattle.branch_proofs.proofs.Statements.{scope_of, dropped_same, for_parts}
use Rattle.branch_proofs.proofs.Tests.{one_declares, declared_behind}
use Rattle.branch_proofs.proofs.Undefined.{statement_nothing}
use Rattle.branch_proofs.proofs.WithinParts.{Bare, bare_same, scope_bare, all_bare, if_bare, label_bare, try_bare, switch_bare}

-- names

as_gives : (rs : List Span) (us : Forest) → all_give_nothing us ≡ true → gives_nothing (as_statement rs us) ≡ true
as_gives rs ε h = refl
as_gives rs (t ⊳ ε) h = (and_parts (gives_nothing t) true h).0
as_gives rs (t ⊳ u ⊳ ts) h = refl

-- a statement in a block of its own declares the same
unstopped_vars : (x : Name) (qs : List Span) (u : Tree) → has_name x (vars u) ≡ has_name x (vars (unstopped qs u))
unstopped_vars x qs u = by_stopper (is_stopper u)
  where
    by_stopper : (b : Bool) → has_name x (vars u) ≡ has_name x (vars (if b then node Block qs (u ⊳ ε) else u))
    by_stopper true = sym (one x u)
    by_stopper false = refl

unstopped_declares : (qs : List Span) (u : Tree) → declared_by u ≡ [] → declared_by (unstopped qs u) ≡ []
unstopped_declares qs u e = by_stopper (is_stopper u)
  where
    by_stopper : (b : Bool) → declared_by (if b then node Block qs (u ⊳ ε) else u) ≡ []
    by_stopper true = refl
    by_stopper false = e

mutual
  pub names_within : {mark : ℕ} {ls : List Text} {k : Bool} {t u : Tree} (x : Name) → Within mark ls k t u → has_name x (vars t) ≡ has_name x (vars u)
  names_within x (stays t) = refl
  names_within x (runs rs qs {t} {us} s) = (do_vars s).vars x ∙ ap (has_name x) (as_vars rs us) ∙ unstopped_vars x qs (as_statement rs us)
  names_within x (of_part p) = part_names x p
  names_within x (in_if ss t {ts} {us} ws) = has_cons x t ts ∙ ap (λ b. has_name x (vars t) || b) (all_names_within x ws) ∙ sym (has_cons x t us)
  names_within x (in_label l ss {t} {u} w) = has_cons x t ε ∙ ap (λ b. b || false) (names_within x w) ∙ sym (has_cons x u ε)
  names_within x (in_try p ss ps) = parts_names x ps
  names_within x (in_switch ds ss ps) = parts_names x ps

  pub all_names_within : {mark : ℕ} {ls : List Text} {k : Bool} {ts us : Forest} (x : Name) → AllWithin mark ls k ts us → has_name x (vars_all ts) ≡ has_name x (vars_all us)
  all_names_within x none_within = refl
  all_names_within x (one_within {t = t} {u} {ts} {us} w ws) = has_cons x t ts ∙ ap₂ ◌||◌ (names_within x w) (all_names_within x ws) ∙ sym (has_cons x u us)

  part_names : {mark : ℕ} {ls : List Text} {k : Bool} {t u : Tree} (x : Name) → PartWithin mark ls k t u → has_name x (vars t) ≡ has_name x (vars u)
  part_names x (same_part t) = refl
  part_names x (in_block ss ws) = all_names_within x ws
  part_names x (in_case ss ws) = all_names_within x ws

  parts_names : {mark : ℕ} {ls : List Text} {k : Bool} {ts us : Forest} (x : Name) → PartsWithin mark ls k ts us → has_name x (vars_all ts) ≡ has_name x (vars_all us)
  parts_names x none_parts = refl
  parts_names x (one_part {t = t} {u} {ts} {us} p ps) = has_cons x t ts ∙ ap₂ ◌||◌ (part_names x p) (parts_names x ps) ∙ sym (has_cons x u us)

declares_within : {mark : ℕ} {ls : List Text} {k : Bool} {t u : Tree} → Within mark ls k t u → declared_by t ≡ declared_by u
declares_within (stays t) = refl
declares_within (runs rs qs {t} {us} s) = (do_vars s).before ∙ sym (unstopped_declares qs (as_statement rs us) (as_declares rs us (do_vars s).behind))
declares_within (of_part (same_part t)) = refl
declares_within (of_part (in_block ss ws)) = refl
declares_within (of_part (in_case ss ws)) = refl
declares_within (in_if ss t ws) = refl
declares_within (in_label l ss w) = refl
declares_within (in_try p ss ps) = refl
declares_within (in_switch ds ss ps) = refl

all_declare_within : {mark : ℕ} {ls : List Text} {k : Bool} {ts us : Forest} → AllWithin mark ls k ts us → declared ts ≡ declared us
all_declare_within none_within = refl
all_declare_within (one_within w ws) = ap₂ ◌++◌ (declares_within w) (all_declare_within ws)

-- what the cases of a switch declare, which have one scope
cases_declare : {mark : ℕ} {ls : List Text} {k : Bool} {ts us : Forest} → PartsWithin mark ls k ts us → declared (case_statements ts) ≡ declared (case_statements us)
cases_declare none_parts = refl
cases_declare (one_part {ts = ts} {us = us} (same_part (node l ss cs)) ps) =
    declared_behind (body_statements l cs) (case_statements ts) ∙ ap (λ xs. declared (body_statements l cs) ++ xs) (cases_declare ps) ∙ sym (declared_behind (body_statements l cs) (case_statements us))
cases_declare (one_part (in_block ss ws) ps) = cases_declare ps
cases_declare (one_part {ts = ps} {us = qs} (in_case ss {ts} {us} ws) rest) =
    declared_behind ts (case_statements ps) ∙ ap₂ ◌++◌ (all_declare_within ws) (cases_declare rest) ∙ sym (declared_behind us (case_statements qs))

pub within_vars : {mark : ℕ} {t : Tree} {us : Forest} → WithinStep mark t us → SameVars t us
within_vars (while_within ss rs t {b} {u} w) = record { vars = λ x. all_names_within x (one_within (stays t) (one_within w none_within)) ∙ sym (one x (node While rs (t ⊳ u ⊳ ε))); before = refl; behind = refl }
within_vars (do_within ss rs t {b} {u} w) = record { vars = λ x. all_names_within x (one_within w (one_within (stays t) none_within)) ∙ sym (one x (node DoWhile rs (u ⊳ t ⊳ ε))); before = refl; behind = refl }
within_vars (for_within ss rs i t v {b} {u} w) = record { vars = λ x. all_names_within x (one_within (stays i) (one_within (stays t) (one_within (stays v) (one_within w none_within)))) ∙ sym (one x (node For rs (i ⊳ t ⊳ v ⊳ u ⊳ ε))); before = refl; behind = refl }

-- runs

module _ (mark n d : ℕ) where
  abbrev does : Tree → Meaning
  does = eval mark n (call_at (eval mark n) d)

  abbrev do_all : Forest → Meaning
  do_all ts = run_all (evals mark n (call_at (eval mark n) d) ts)

  block_is : (us : List Span) (ts : Forest) (c : Context) → does (node Block us ts) c ≡ scope_of (declared ts) (do_all ts) c
  unfolding eval act in_list_scope
  block_is us ts c = refl

  nothing_behind : (t : Tree) (c : Context) → gives_nothing t ≡ true → drop (does t c) ≡ does t c
  nothing_behind t c h = discarded (statement_nothing mark n (call_at (eval mark n) d) t h c)

  unstopped_runs : (qs : List Span) (u : Tree) (c : Context) → gives_nothing u ≡ true → declared_by u ≡ [] → does u c ≡ does (unstopped qs u) c
  unfolding run_all evals
  unstopped_runs qs u c h e = by_stopper (is_stopper u)
    where
      by_stopper : (b : Bool) → does u c ≡ does (if b then node Block qs (u ⊳ ε) else u) c
      by_stopper true = sym (open_block mark n (call_at (eval mark n) d) qs (u ⊳ ε) (one_declares u e) c ∙ nothing_behind u c h)
      by_stopper false = refl

  once_bare : {ls : List Text} (rs qs : List Span) {t : Tree} {us : Forest} → gives_nothing t ≡ true → DoStep mark (only ls) t us → Bare ls (does t) (does (unstopped qs (as_statement rs us)))
  once_bare {ls} rs qs {t} {us} g s = record {
    by = λ c.
        let h = do_stands s in
        let e = (do_vars s).behind in
        let f = relabel ls c in
        refines_trans (refines_path (sym (nothing_behind t f g)))
        (refines_trans (do_run mark n d s f (λ l o. o))
        (refines_path (standing mark rs us h e n d f ∙ unstopped_runs qs (as_statement rs us) f (as_gives rs us h) (as_declares rs us e))));
  }

  block_bare : {ls : List Text} {k : Bool} (ss : List Span) {ts us : Forest} → AllWithin mark ls k ts us → Bare ls (do_all ts) (do_all us) → Bare ls (does (node Block ss ts)) (does (node Block ss us))
  block_bare {ls} ss {ts} {us} ws h = record {
    by = λ c.
        refines_trans (refines_path (block_is ss ts (relabel ls c)))
        (refines_trans ((scope_bare (declared ts) h).by c) (refines_path (ap (λ (ps : List Declared). scope_of ps (do_all us) (relabel ls c)) (all_declare_within ws) ∙ sym (block_is ss us (relabel ls c)))));
  }

  mutual
    unfolding eval evals act

    within_bare : {ls : List Text} {k : Bool} {t u : Tree} → Within mark ls k t u → Bare ls (does t) (does u)
    within_bare (stays t) = bare_same (does t)
    within_bare (runs rs qs (do_once ss b t z p e o)) = once_bare rs qs refl (do_once ss b t z p e o)
    within_bare (of_part p) = part_bare p
    within_bare (in_if ss t ws) = if_bare (more (bare_same (does t)) (trees_bare ws))
    within_bare (in_label l ss w) = label_bare l (within_bare w)
    within_bare (in_try p ss ps) = try_bare p (parts_bare ps)
    within_bare (in_switch ds ss {ts} {us} ps) = switch_bare ts us ds (cases_declare ps) (parts_bare ps)

    trees_bare : {ls : List Text} {k : Bool} {ts us : Forest} → AllWithin mark ls k ts us → Each (Bare ls) (evals mark n (call_at (eval mark n) d) ts) (evals mark n (call_at (eval mark n) d) us)
    trees_bare none_within = none
    trees_bare (one_within w ws) = more (within_bare w) (trees_bare ws)

    part_bare : {ls : List Text} {k : Bool} {t u : Tree} → PartWithin mark ls k t u → Bare ls (does t) (does u)
    part_bare (same_part t) = bare_same (does t)
    part_bare (in_block ss ws) = block_bare ss ws (all_bare (trees_bare ws))
    part_bare (in_case ss ws) = all_bare (trees_bare ws)

    parts_bare : {ls : List Text} {k : Bool} {ts us : Forest} → PartsWithin mark ls k ts us → Each (Bare ls) (evals mark n (call_at (eval mark n) d) ts) (evals mark n (call_at (eval mark n) d) us)
    parts_bare none_parts = none
    parts_bare (one_part p ps) = more (part_bare p) (parts_bare ps)

  within_run : {t : Tree} {us : Forest} → WithinStep mark t us → (c : Context) → Refines (drop (does t c)) (do_all us c)
  unfolding run_all eval evals act
  within_run (while_within ss rs t {b} {u} w) c = dropped_same (turns_refine n (does t) (does t) (does b) (does u) (λ e. gives Undefined) (λ e. gives Undefined) gives (λ e. refines_same _) (within_bare w).by (λ e. refines_same _) c)
  within_run (do_within ss rs t {b} {u} w) c = dropped_same (do_turns_refine n (does b) (does u) (does t) (within_bare w).by c)
  within_run (for_within ss rs i t v {b} {u} w) c = dropped_same (for_parts mark n d ss rs i t t v v b u c (turns_refine n (does t) (does t) (does b) (does u) (does v) (does v) (copies (copied_names i)) (λ e. refines_same _) (within_bare w).by (λ e. refines_same _)))

pub within_becomes : {mark : ℕ} {t : Tree} {us : Forest} → WithinStep mark t us → Becomes mark (t ⊳ ε) us
unfolding run_all evals
within_becomes {mark} h = record { by = λ n d c. within_run mark n d h c }
