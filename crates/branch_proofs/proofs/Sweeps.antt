-- A list without its idle statements and with its blocks flattened keeps and spares what it declares, and weighs no more.
use Rattle.std.proofs.Common.{◌≡◌, suc, ◌+◌, ◌≤◌, ◌<◌, Bool, true, false, if◌then◌else◌, List, [], ◌++◌, refl, sym, ap, subst, ◌∙◌, arith, append-nil}
use Rattle.std.proofs.lemmas.Bool.{or_left, false≢true}
use Rattle.swc_ast.specs.declared.Span.{Span}
use Rattle.swc_ast.specs.Tree.{Name, Block, Tree, node, Forest, ε, ◌⊳◌, label_of}
use Rattle.swc_ast.specs.Scope.{vars, vars_all, import_names}
use Rattle.swc_ast.specs.Valid.{valid_all}
use Rattle.swc_ast.specs.Resolved.{own_scopes, aimed_all, apart_all}
use Rattle.swc_ast.specs.Core.{list_names, fits}
use Rattle.swc_ast.specs.Weight.{own_weight, weight, weight_all, is_stopper, stays_behind, movable, unreached}
use Rattle.static_proofs.specs.Names.{Within, Fewer}
use Rattle.static_proofs.specs.Keeps.{more_kept, none_kept}
use Rattle.static_proofs.specs.Spares.{exports_all}
use Rattle.static_proofs.specs.Drawn.{is_plain_statement}
use Rattle.static_proofs.specs.Together.{without_own, KeepsAll, SparesAll}
use Rattle.static_proofs.proofs.Names.{within_same, fewer_none}
use Rattle.static_proofs.proofs.Parts.{names_cons}
use Rattle.static_proofs.proofs.Kept.{keeps_itself}
use Rattle.static_proofs.proofs.Spared.{spared_same, spared_path, spared_none}
use Rattle.static_proofs.proofs.Drawn.{weight_joined, fits_below}
use Rattle.static_proofs.proofs.Over.{single}
use Rattle.static_proofs.proofs.Together.{together, all_dropped, kept_joined, spared_joined}
use Rattle.branch_rules.specs.Lists.{all_bare}
use Rattle.branch_proofs.proofs.ListForms.{Sweeps, swept, kept_item, idle_item, flat_item}
use Rattle.branch_proofs.proofs.PlainNames.{plain_nothing, bare_names, bare_imports, bare_exports, statement_weight}

-- a block that declares nothing

flat_keeps : (ss : List Span) (cs : Forest) → all_bare cs ≡ true → KeepsAll (node Block ss cs ⊳ ε) cs
unfolding own_scopes
flat_keeps ss cs h = record {
  scopes_kept = λ x. omega arith;
  list_kept = record {
    vars_kept = subst (λ xs. Within (vars_all cs) xs) (sym (append-nil (vars_all cs))) (within_same (vars_all cs));
    names_kept = subst (λ xs. Fewer xs (list_names (node Block ss cs ⊳ ε))) (sym (bare_names cs h)) (fewer_none _);
  };
  imports_kept = subst (λ xs. Fewer xs (import_names (node Block ss cs ⊳ ε))) (sym (bare_imports cs h)) (fewer_none _);
  valid_kept = λ e. single (valid_all cs) e;
  aimed_kept = λ g e. single (aimed_all (without_own g) cs) e;
  apart_kept = λ e. single (apart_all cs) e;
  fits_kept = λ e. fits_below Block ss cs (single (fits (node Block ss cs)) e);
}

flat_spares : {P : Name → Type 0} (ss : List Span) (cs : Forest) → all_bare cs ≡ true → SparesAll P (node Block ss cs ⊳ ε) cs
flat_spares {P} ss cs h = record {
  vars_spared = spared_path (append-nil (vars_all cs));
  names_spared = spared_none (list_names cs);
  imports_spared = spared_none (import_names cs);
  exports_kept = subst (λ xs. Within xs (exports_all (node Block ss cs ⊳ ε))) (sym (bare_exports cs h)) (within_same []);
}

-- an idle statement
idle_spares : {P : Name → Type 0} (t : Tree) → is_plain_statement (label_of t) ≡ true → vars t ≡ [] → SparesAll P (t ⊳ ε) ε
idle_spares {P} (node l ss cs) h v =
    let n = plain_nothing (node l ss cs) h in
    record {
      vars_spared = spared_path (ap (λ xs. xs ++ []) v);
      names_spared = spared_path (names_cons (node l ss cs) ε ∙ ap (λ xs. xs ++ []) n.no_names);
      imports_spared = spared_path (ap (λ xs. xs ++ []) n.no_imports);
      exports_kept = record { by = λ x e. absurd (false≢true e) };
    }

one_spares : {P : Name → Type 0} (t : Tree) → SparesAll P (t ⊳ ε) (t ⊳ ε)
one_spares t = record { vars_spared = spared_same _; names_spared = spared_same _; imports_spared = spared_same _; exports_kept = within_same _ }

pub sweeps_keep : {ts us : Forest} → Sweeps ts us → KeepsAll ts us
sweeps_keep swept = all_dropped ε
sweeps_keep (kept_item {t = t} s) = kept_joined (together (more_kept (keeps_itself t) none_kept)) (sweeps_keep s)
sweeps_keep (idle_item {t = t} h i v s) = kept_joined (all_dropped (t ⊳ ε)) (sweeps_keep s)
sweeps_keep (flat_item {ss = ss} {cs = cs} h s) = kept_joined (flat_keeps ss cs h) (sweeps_keep s)

pub sweeps_spare : {P : Name → Type 0} {ts us : Forest} → Sweeps ts us → SparesAll P ts us
sweeps_spare swept = record { vars_spared = spared_same []; names_spared = spared_same []; imports_spared = spared_same []; exports_kept = within_same [] }
sweeps_spare (kept_item {t = t} s) = spared_joined (one_spares t) (sweeps_spare s)
sweeps_spare (idle_item {t = t} h i v s) = spared_joined (idle_spares t h v) (sweeps_spare s)
sweeps_spare (flat_item {ss = ss} {cs = cs} h s) = spared_joined (flat_spares ss cs h) (sweeps_spare s)

-- weights: nothing changes, or idle statements went, or a block was flattened
pub data Swept (ts us : Forest) : Type 0 where
  same_items : us ≡ ts → Swept ts us
  fewer_items : unreached us ≤ unreached ts → movable us ≤ movable ts → weight_all us < weight_all ts → Swept ts us
  flat_items : weight_all us + 3 ≤ weight_all ts → Swept ts us

pub swept_at_most : {ts us : Forest} → Swept ts us → weight_all us ≤ weight_all ts
swept_at_most (same_items e) = omega (arith, ap weight_all e)
swept_at_most (fewer_items a b c) = omega arith
swept_at_most (flat_items a) = omega arith

keep_one : (t : Tree) {ts us : Forest} → Swept ts us → Swept (t ⊳ ts) (t ⊳ us)
keep_one t (same_items e) = same_items (ap (λ z. t ⊳ z) e)
keep_one t {ts} {us} (fewer_items a b c) = fewer_items (by_stopper (is_stopper t)) (by_stay (stays_behind t)) (omega arith)
  where
    by_stopper : (s : Bool) → (if s then movable us else unreached us) ≤ (if s then movable ts else unreached ts)
    by_stopper true = b
    by_stopper false = a

    by_stay : (s : Bool) → (if s then movable us else suc (movable us)) ≤ (if s then movable ts else suc (movable ts))
    by_stay true = b
    by_stay false = omega arith
keep_one t (flat_items a) = flat_items (omega arith)

drop_one : (t : Tree) {ts us : Forest} → is_stopper t ≡ false → stays_behind t ≡ false → 1 ≤ weight t → Swept ts us → Swept (t ⊳ ts) us
drop_one t {ts} {us} h i w (same_items e) = fewer_items (subst (λ s. unreached us ≤ (if s then movable ts else unreached ts)) (sym h) (omega (arith, ap unreached e))) (subst (λ s. movable us ≤ (if s then movable ts else suc (movable ts))) (sym i) (omega (arith, ap movable e))) (omega (arith, ap weight_all e))
drop_one t {ts} {us} h i w (fewer_items a b c) = fewer_items (subst (λ s. unreached us ≤ (if s then movable ts else unreached ts)) (sym h) a) (subst (λ s. movable us ≤ (if s then movable ts else suc (movable ts))) (sym i) (omega arith)) (omega arith)
drop_one t h i w (flat_items a) = flat_items (omega arith)

block_weight : (ss : List Span) (cs : Forest) → 3 + weight_all cs ≤ weight (node Block ss cs)
unfolding own_weight
block_weight ss cs = omega arith

pub sweeps_weight : {ts us : Forest} → Sweeps ts us → Swept ts us
sweeps_weight swept = same_items refl
sweeps_weight (kept_item {t = t} s) = keep_one t (sweeps_weight s)
sweeps_weight (idle_item {t = t} h i v s) = drop_one t i (plain_nothing t h).no_stay (omega (arith, statement_weight t (or_left (is_plain_statement (label_of t)) _ h))) (sweeps_weight s)
sweeps_weight (flat_item {ss = ss} {cs = cs} {us = us} h s) = flat_items (omega (arith, weight_joined cs us, block_weight ss cs, swept_at_most (sweeps_weight s)))
