-- The list step of a module keeps bound what has to be kept, and owes nothing.
use Rattle.std.proofs.Common.{◌≡◌, Bool, true, false, ◌||◌, if◌then◌else◌, List, [], ◌++◌, refl, sym, ap, subst, ◌∙◌, append-nil, ◌⊎◌, inl, inr}
use Rattle.std.proofs.lemmas.Bool.{and_parts, or_cases, or_left, or_right}
use Rattle.swc_ast.specs.Tree.{Name, Module, Tree, node, Forest, ε, ◌⊳◌, label_of, children_of}
use Rattle.swc_ast.specs.Scope.{has_name, vars, vars_all, import_names_of, import_names, joined, list_binds, declared, body_declares, module_binds}
use Rattle.swc_ast.specs.Core.{list_names}
use Rattle.swc_ast.specs.Weight.{is_stopper, stays_behind}
use Rattle.static_proofs.specs.Names.{Within, names_of}
use Rattle.static_proofs.specs.Spares.{Spared, exports_by, exports_all}
use Rattle.static_proofs.specs.Step.{Step}
use Rattle.static_proofs.specs.Together.{SparesAll}
use Rattle.static_proofs.proofs.Names.{has_name_append, within_same, within_append, within_trans, within_second, found_first}
use Rattle.static_proofs.proofs.Parts.{names_cons, vars_joined, names_joined}
use Rattle.static_proofs.proofs.Spared.{spared_same, spared_append, spared_then}
use Rattle.static_proofs.proofs.Together.{imports_joined, exports_joined, module_spares}
use Rattle.branch_rules.specs.Lists.{staying, going, is_statement, all_statements}
use Rattle.branch_proofs.proofs.ModuleForms.{all_declared, ModuleHoists, no_names, some_names, ModuleCuts, uncut, past_item, cut_at, ModuleStep, tidy_module}
use Rattle.branch_proofs.proofs.PlainNames.{plain_nothing}
use Rattle.branch_proofs.proofs.Hoists.{bare_vars}
use Rattle.branch_proofs.proofs.Cuts.{parted_vars}
use Rattle.branch_proofs.proofs.Sweeps.{sweeps_keep, sweeps_spare, sweeps_weight}
use Rattle.branch_proofs.proofs.Tidies.{items_by, list_lowers}
use Rattle.branch_proofs.proofs.Modules.{ModuleStatement, plain_one, lexical_one, module_statement, module_keeps, cuts_keep, cuts_settled, cuts_weight, kept_after, hoists_added}

-- What a module's items bind: names of `let` and `const` may become `var` names.
pub record SparesModule (P : Name → Type 0) (ts vs : Forest) : Type 0 where
  pub imports_spared : Spared P (import_names ts) (import_names vs)
  pub vars_spared : Spared P (vars_all ts) (vars_all vs)
  pub names_spared : Spared P (list_names ts) (all_declared vs)
  pub exports_kept : Within (exports_all vs) (exports_all ts)

either : {P : Name → Type 0} {xs ys zs : List Name} → Spared P xs zs → Spared P ys zs → Spared P (xs ++ ys) zs
either {P} {xs} {ys} {zs} f g = record { by = λ x p h. by_place x p (or_cases (has_name x xs) (has_name x ys) (sym (has_name_append x xs ys) ∙ h)) }
  where
    by_place : (x : Name) → P x → (has_name x xs ≡ true) ⊎ (has_name x ys ≡ true) → has_name x zs ≡ true
    by_place x p (inl e) = f.by x p e
    by_place x p (inr e) = g.by x p e

to_first : {P : Name → Type 0} {xs ys : List Name} (zs : List Name) → Spared P xs ys → Spared P xs (ys ++ zs)
to_first {P} {xs} {ys} zs f = record { by = λ x p h. has_name_append x ys zs ∙ or_left (has_name x ys) (has_name x zs) (f.by x p h) }

to_second : {P : Name → Type 0} {xs zs : List Name} (ys : List Name) → Spared P xs zs → Spared P xs (ys ++ zs)
to_second {P} {xs} {zs} ys f = record { by = λ x p h. has_name_append x ys zs ∙ or_right (has_name x ys) (has_name x zs) (f.by x p h) }

-- a module binds what it bound
binds_spared : {P : Name → Type 0} {ts vs : Forest} → SparesModule P ts vs → (x : Name) → P x → module_binds ts x ≡ true → module_binds vs x ≡ true
binds_spared {P} {ts} {vs} k x p h = by_import (or_cases (has_name x (import_names ts)) (body_declares ts x) h)
  where
    in_body : body_declares vs x ≡ true → module_binds vs x ≡ true
    in_body e = or_right (has_name x (import_names vs)) (body_declares vs x) e

    in_vars : has_name x (vars_all vs) ≡ true → module_binds vs x ≡ true
    in_vars e = in_body (or_left (has_name x (vars_all vs)) (list_binds vs x) e)

    in_names : has_name x (list_names vs) ≡ true → module_binds vs x ≡ true
    in_names e = in_body (or_right (has_name x (vars_all vs)) (list_binds vs x) (found_first x (declared vs) ∙ e))

    by_either : (has_name x (vars_all vs) ≡ true) ⊎ (has_name x (list_names vs) ≡ true) → module_binds vs x ≡ true
    by_either (inl e) = in_vars e
    by_either (inr e) = in_names e

    by_body : (has_name x (vars_all ts) ≡ true) ⊎ (list_binds ts x ≡ true) → module_binds vs x ≡ true
    by_body (inl e) = in_vars (k.vars_spared.by x p e)
    by_body (inr e) = by_either (or_cases (has_name x (vars_all vs)) (has_name x (list_names vs)) (sym (has_name_append x (vars_all vs) (list_names vs)) ∙ k.names_spared.by x p (sym (found_first x (declared ts)) ∙ e)))

    by_import : (has_name x (import_names ts) ≡ true) ⊎ (body_declares ts x ≡ true) → module_binds vs x ≡ true
    by_import (inl e) = or_left (has_name x (import_names vs)) (body_declares vs x) (k.imports_spared.by x p e)
    by_import (inr e) = by_body (or_cases (has_name x (vars_all ts)) (list_binds ts x) e)

-- statements that go import and export nothing

statement_imports : (t : Tree) → ModuleStatement t → import_names_of (label_of t) (children_of t) ≡ []
statement_imports t (plain_one h) = (plain_nothing t h).no_imports
statement_imports t (lexical_one p q r) = ap (λ z. import_names_of (label_of z) (children_of z)) p

staying_imports : {P : Name → Type 0} (ts : Forest) → all_statements ts ≡ true → Spared P (import_names ts) (import_names (staying ts))
staying_imports ε h = spared_same []
staying_imports {P} (node l ss cs ⊳ ts) h = let p = and_parts (stays_behind (node l ss cs) || is_statement (node l ss cs)) (all_statements ts) h in by_stay (stays_behind (node l ss cs)) p.0 (staying_imports ts p.1)
  where
    by_stay : (b : Bool) → (b || is_statement (node l ss cs)) ≡ true → Spared P (import_names ts) (import_names (staying ts)) → Spared P (import_names_of l cs ++ import_names ts) (import_names (if b then node l ss cs ⊳ staying ts else staying ts))
    by_stay true m k = spared_append (spared_same (import_names_of l cs)) k
    by_stay false m k = subst (λ xs. Spared P (xs ++ import_names ts) (import_names (staying ts))) (sym (statement_imports (node l ss cs) (module_statement (node l ss cs) m))) k

staying_exports : (ts : Forest) → Within (exports_all (staying ts)) (exports_all ts)
staying_exports ε = within_same []
staying_exports (node l ss cs ⊳ ts) = by_stay (stays_behind (node l ss cs)) (staying_exports ts)
  where
    by_stay : (b : Bool) → Within (exports_all (staying ts)) (exports_all ts) → Within (exports_all (if b then node l ss cs ⊳ staying ts else staying ts)) (exports_by l cs ++ exports_all ts)
    by_stay true k = within_append (within_same (exports_by l cs)) k
    by_stay false k = within_trans k (within_second (exports_by l cs) (exports_all ts))

-- what goes is declared in front of the stopper

hoists_spare : {P : Name → Type 0} {ts hs : Forest} → ModuleHoists P ts hs → (Spared P (vars_all ts) (vars_all hs)) × (Spared P (list_names ts) (vars_all hs))
hoists_spare {P} (no_names h g) = (subst (λ xs. Spared P xs []) (sym h) (spared_same []), g)
hoists_spare {P} {ts} (some_names {ss = ss} {ds = ds} b f g p n m) = (subst (λ xs. Spared P (vars_all ts) xs) (sym (append-nil (vars_all ds) ∙ bare_vars ds b)) (record { by = λ x i h. g.by x h }), subst (λ xs. Spared P (list_names ts) xs) (sym (append-nil (vars_all ds) ∙ bare_vars ds b)) p)

parted_names : (x : Name) (ts : Forest) → has_name x (list_names ts) ≡ true → (has_name x (list_names (going ts)) ≡ true) ⊎ (has_name x (list_names (staying ts)) ≡ true)
parted_names x ε h = inl h
parted_names x (t ⊳ ts) h = by_stay (stays_behind t) (or_cases (has_name x (names_of t)) (has_name x (list_names ts)) (sym (has_name_append x (names_of t) (list_names ts)) ∙ subst (λ xs. has_name x xs ≡ true) (names_cons t ts) h)) (parted_names x ts)
  where
    front : (us : Forest) → has_name x (names_of t) ≡ true → has_name x (list_names (t ⊳ us)) ≡ true
    front us e = ap (has_name x) (names_cons t us) ∙ has_name_append x (names_of t) (list_names us) ∙ or_left (has_name x (names_of t)) (has_name x (list_names us)) e

    back : (us : Forest) → has_name x (list_names us) ≡ true → has_name x (list_names (t ⊳ us)) ≡ true
    back us e = ap (has_name x) (names_cons t us) ∙ has_name_append x (names_of t) (list_names us) ∙ or_right (has_name x (names_of t)) (has_name x (list_names us)) e

    by_part : (b : Bool) → (has_name x (list_names (going ts)) ≡ true) ⊎ (has_name x (list_names (staying ts)) ≡ true) → (has_name x (list_names (if b then going ts else t ⊳ going ts)) ≡ true) ⊎ (has_name x (list_names (if b then t ⊳ staying ts else staying ts)) ≡ true)
    by_part true (inl e) = inl e
    by_part true (inr e) = inr (back (staying ts) e)
    by_part false (inl e) = inl (back (going ts) e)
    by_part false (inr e) = inr e

    by_stay : (b : Bool) → (has_name x (names_of t) ≡ true) ⊎ (has_name x (list_names ts) ≡ true) → (has_name x (list_names ts) ≡ true → (has_name x (list_names (going ts)) ≡ true) ⊎ (has_name x (list_names (staying ts)) ≡ true)) → (has_name x (list_names (if b then going ts else t ⊳ going ts)) ≡ true) ⊎ (has_name x (list_names (if b then t ⊳ staying ts else staying ts)) ≡ true)
    by_stay true (inl e) f = inr (front (staying ts) e)
    by_stay false (inl e) f = inl (front (going ts) e)
    by_stay b (inr e) f = by_part b (f e)

pub vars_parted : {P : Name → Type 0} (ts hs : Forest) → Spared P (vars_all (going ts)) (vars_all hs) → Spared P (vars_all ts) (vars_all hs ++ vars_all (staying ts))
vars_parted {P} ts hs f = record { by = λ x p h. by_part x p (parted_vars x ts h) }
  where
    by_part : (x : Name) → P x → (has_name x (vars_all (going ts)) ≡ true) ⊎ (has_name x (vars_all (staying ts)) ≡ true) → has_name x (vars_all hs ++ vars_all (staying ts)) ≡ true
    by_part x p (inl e) = has_name_append x (vars_all hs) (vars_all (staying ts)) ∙ or_left (has_name x (vars_all hs)) _ (f.by x p e)
    by_part x p (inr e) = has_name_append x (vars_all hs) (vars_all (staying ts)) ∙ or_right (has_name x (vars_all hs)) _ e

cut_names : {P : Name → Type 0} (t : Tree) (ts hs : Forest) → Spared P (list_names (going ts)) (vars_all hs) → Spared P (names_of t ++ list_names ts) (vars_all hs ++ (names_of t ++ list_names (staying ts)))
cut_names {P} t ts hs f = either (to_second (vars_all hs) (to_first (list_names (staying ts)) (spared_same (names_of t)))) (record { by = λ x p h. by_part x p (parted_names x ts h) })
  where
    by_part : (x : Name) → P x → (has_name x (list_names (going ts)) ≡ true) ⊎ (has_name x (list_names (staying ts)) ≡ true) → has_name x (vars_all hs ++ (names_of t ++ list_names (staying ts))) ≡ true
    by_part x p (inl e) = has_name_append x (vars_all hs) (names_of t ++ list_names (staying ts)) ∙ or_left (has_name x (vars_all hs)) _ (f.by x p e)
    by_part x p (inr e) = has_name_append x (vars_all hs) (names_of t ++ list_names (staying ts)) ∙ or_right (has_name x (vars_all hs)) _ (has_name_append x (names_of t) (list_names (staying ts)) ∙ or_right (has_name x (names_of t)) _ e)

as_var : (x : Name) (us : Forest) → has_name x (vars_all us) ≡ true → has_name x (all_declared us) ≡ true
as_var x us h = has_name_append x (vars_all us) (list_names us) ∙ or_left (has_name x (vars_all us)) (has_name x (list_names us)) h

as_name : (x : Name) (us : Forest) → has_name x (list_names us) ≡ true → has_name x (all_declared us) ≡ true
as_name x us h = has_name_append x (vars_all us) (list_names us) ∙ or_right (has_name x (vars_all us)) (has_name x (list_names us)) h

imports_front : {P : Name → Type 0} (t : Tree) (ts us : Forest) → Spared P (import_names ts) (import_names us) → Spared P (import_names (t ⊳ ts)) (import_names (t ⊳ us))
imports_front (node l ss cs) ts us f = spared_append (spared_same (import_names_of l cs)) f

exports_front : (t : Tree) (ts us : Forest) → Within (exports_all us) (exports_all ts) → Within (exports_all (t ⊳ us)) (exports_all (t ⊳ ts))
exports_front (node l ss cs) ts us f = within_append (within_same (exports_by l cs)) f

names_front : {P : Name → Type 0} (t : Tree) (ts us : Forest) → Spared P (list_names ts) (all_declared us) → Spared P (list_names (t ⊳ ts)) (all_declared (t ⊳ us))
names_front {P} t ts us f = record { by = λ x p h. by_place x p (or_cases (has_name x (names_of t)) (has_name x (list_names ts)) (sym (has_name_append x (names_of t) (list_names ts)) ∙ subst (λ xs. has_name x xs ≡ true) (names_cons t ts) h)) }
  where
    by_rest : (x : Name) → (has_name x (vars_all us) ≡ true) ⊎ (has_name x (list_names us) ≡ true) → has_name x (all_declared (t ⊳ us)) ≡ true
    by_rest x (inl e) = as_var x (t ⊳ us) (has_name_append x (vars t) (vars_all us) ∙ or_right (has_name x (vars t)) _ e)
    by_rest x (inr e) = as_name x (t ⊳ us) (ap (has_name x) (names_cons t us) ∙ has_name_append x (names_of t) (list_names us) ∙ or_right (has_name x (names_of t)) _ e)

    by_place : (x : Name) → P x → (has_name x (names_of t) ≡ true) ⊎ (has_name x (list_names ts) ≡ true) → has_name x (all_declared (t ⊳ us)) ≡ true
    by_place x p (inl e) = as_name x (t ⊳ us) (ap (has_name x) (names_cons t us) ∙ has_name_append x (names_of t) (list_names us) ∙ or_left (has_name x (names_of t)) _ e)
    by_place x p (inr e) = by_rest x (or_cases (has_name x (vars_all us)) (has_name x (list_names us)) (sym (has_name_append x (vars_all us) (list_names us)) ∙ f.by x p e))

cut_declared : {P : Name → Type 0} (t : Tree) (ts hs : Forest) → list_names hs ≡ [] → Spared P (list_names (going ts)) (vars_all hs) → Spared P (list_names (t ⊳ ts)) (all_declared (joined hs (t ⊳ staying ts)))
cut_declared {P} t ts hs n f = subst (λ xs. Spared P xs (all_declared (joined hs (t ⊳ staying ts)))) (sym (names_cons t ts)) (spared_then (cut_names t ts hs f) (record { by = λ x p h. by_place x (or_cases (has_name x (vars_all hs)) (has_name x (names_of t ++ list_names (staying ts))) (sym (has_name_append x (vars_all hs) (names_of t ++ list_names (staying ts))) ∙ h)) }))
  where
    by_place : (x : Name) → (has_name x (vars_all hs) ≡ true) ⊎ (has_name x (names_of t ++ list_names (staying ts)) ≡ true) → has_name x (all_declared (joined hs (t ⊳ staying ts))) ≡ true
    by_place x (inl e) = as_var x (joined hs (t ⊳ staying ts)) (ap (has_name x) (vars_joined hs (t ⊳ staying ts)) ∙ has_name_append x (vars_all hs) (vars_all (t ⊳ staying ts)) ∙ or_left (has_name x (vars_all hs)) _ e)
    by_place x (inr e) = as_name x (joined hs (t ⊳ staying ts)) (ap (has_name x) (names_joined hs (t ⊳ staying ts) ∙ ap (λ xs. xs ++ list_names (t ⊳ staying ts)) n ∙ names_cons t (staying ts)) ∙ e)

cut_spares : {P : Name → Type 0} (t : Tree) (ts hs : Forest) → is_stopper t ≡ true → all_statements ts ≡ true → ModuleHoists P (going ts) hs → SparesModule P (t ⊳ ts) (joined hs (t ⊳ staying ts))
cut_spares {P} t ts hs s m o =
    let a = hoists_added o in
    record {
      imports_spared = subst (λ xs. Spared P (import_names (t ⊳ ts)) xs) (sym (imports_joined hs (t ⊳ staying ts) ∙ ap (λ xs. xs ++ import_names (t ⊳ staying ts)) a.no_imports)) (imports_front t ts (staying ts) (staying_imports ts m));
      vars_spared = subst (λ xs. Spared P (vars t ++ vars_all ts) xs) (sym (vars_joined hs (t ⊳ staying ts))) (either (to_second (vars_all hs) (to_first (vars_all (staying ts)) (spared_same (vars t)))) (spared_then (vars_parted ts hs (hoists_spare o).0) (spared_append (spared_same (vars_all hs)) (to_second (vars t) (spared_same (vars_all (staying ts)))))));
      names_spared = cut_declared t ts hs a.no_lexicals (hoists_spare o).1;
      exports_kept = subst (λ xs. Within xs (exports_all (t ⊳ ts))) (sym (exports_joined hs (t ⊳ staying ts) ∙ ap (λ xs. xs ++ exports_all (t ⊳ staying ts)) a.no_exports)) (exports_front t ts (staying ts) (staying_exports ts));
    }

cuts_spare : {P : Name → Type 0} {ts us : Forest} → ModuleCuts P ts us → all_statements ts ≡ true → SparesModule P ts us
cuts_spare uncut m = record { imports_spared = spared_same []; vars_spared = spared_same []; names_spared = spared_same []; exports_kept = within_same [] }
cuts_spare (past_item {t = t} {ts = ts} {us = us} h c) m =
    let k = cuts_spare c (and_parts (stays_behind t || is_statement t) (all_statements ts) m).1 in
    record { imports_spared = imports_front t ts us k.imports_spared; vars_spared = spared_append (spared_same (vars t)) k.vars_spared; names_spared = names_front t ts us k.names_spared; exports_kept = exports_front t ts us k.exports_kept }
cuts_spare (cut_at {t = t} {ts = ts} {hs = hs} h o) m = cut_spares t ts hs h (and_parts (stays_behind t || is_statement t) (all_statements ts) m).1 o

spares_after : {P : Name → Type 0} {ts us vs : Forest} → SparesAll P ts us → SparesModule P us vs → SparesModule P ts vs
spares_after h k = record { imports_spared = spared_then h.imports_spared k.imports_spared; vars_spared = spared_then h.vars_spared k.vars_spared; names_spared = spared_then h.names_spared k.names_spared; exports_kept = within_trans k.exports_kept h.exports_kept }

pub module_step : {N : Type 0} {P : Name → Type 0} (t u : Tree) → ModuleStep P t u → Step N P t u
module_step {N} {P} t u (tidy_module {ss = ss} {ts = ts} {us = us} {vs = vs} s m c n) =
    let k : SparesModule P ts vs = spares_after (sweeps_spare s) (cuts_spare c m) in
    record {
      keeps = module_keeps ss (kept_after (sweeps_keep s) (cuts_keep c m));
      spares = module_spares ss k.exports_kept (binds_spared k);
      lowers = list_lowers Module ss ts vs refl (cuts_settled c) (items_by ts us vs n (sweeps_weight s) (cuts_weight c m));
    }
