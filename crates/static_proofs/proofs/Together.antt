-- A list whose items are kept together is kept.
use Rattle.std.proofs.Common.{◌≡◌, true, false, ◌&&◌, List, [], ◌++◌, refl, sym, ap, subst, ◌∙◌, arith, append_assoc}
use Rattle.std.proofs.lemmas.Bool.{and_parts, and_from, false≢true}
use Rattle.swc_ast.specs.declared.Span.{Span}
use Rattle.swc_ast.specs.Tree.{Name, Label, Block, Body, CaseBody, Module, Script, node, Forest, ε, ◌⊳◌}
use Rattle.swc_ast.specs.Scope.{has_name, vars_all, import_names_of, import_names, joined, list_binds, body_declares, module_binds}
use Rattle.swc_ast.specs.Valid.{valid, valid_all}
use Rattle.swc_ast.specs.Resolved.{own_scopes}
use Rattle.swc_ast.specs.Core.{none_in, list_names, good_body, good_scope, fits, fits_all}
use Rattle.swc_ast.specs.Weight.{is_list}
use Rattle.static_proofs.specs.Names.{Within, Fewer}
use Rattle.static_proofs.specs.Keeps.{Keeps, AllKeep}
use Rattle.static_proofs.specs.Spares.{Spared, Spares, exports_by, exports_all}
use Rattle.static_proofs.specs.Together.{is_module, without_own, KeepsAll, SparesAll}
use Rattle.static_proofs.proofs.Names.{within_same, within_none, within_append, within_trans, fewer_same, fewer_none, fewer_append, fewer_trans, fewer_within, none_within}
use Rattle.static_proofs.proofs.Parts.{all_scopes, kept_list, all_imports, vars_joined, names_joined, all_valid, all_aimed, all_apart, all_fit}
use Rattle.static_proofs.proofs.Inside.{one_if_kept, or_kept, list_binds_kept, body_declares_kept, good_list_kept, good_body_kept}
use Rattle.static_proofs.proofs.Spared.{spared_same, spared_append, module_binds_spared, exports_said, exports_show}
use Rattle.static_proofs.proofs.Drawn.{scopes_joined, valid_joined, aimed_joined, apart_joined, fits_joined, valid_below}
use Rattle.static_proofs.proofs.Over.{valid_parts, aimed_parts, apart_parts, fits_parts}

-- joined lists

pub imports_joined : (ts us : Forest) → import_names (joined ts us) ≡ import_names ts ++ import_names us
imports_joined ε us = refl
imports_joined (node l ss cs ⊳ ts) us = ap (λ z. import_names_of l cs ++ z) (imports_joined ts us) ∙ sym (append_assoc (import_names_of l cs) (import_names ts) (import_names us))

pub exports_joined : (ts us : Forest) → exports_all (joined ts us) ≡ exports_all ts ++ exports_all us
exports_joined ε us = refl
exports_joined (node l ss cs ⊳ ts) us = ap (λ z. exports_by l cs ++ z) (exports_joined ts us) ∙ sym (append_assoc (exports_by l cs) (exports_all ts) (exports_all us))

-- ways to be kept together

pub together : {ts us : Forest} → AllKeep ts us → KeepsAll ts us
together ks = record { scopes_kept = λ x. all_scopes x ks; list_kept = kept_list ks; imports_kept = all_imports ks; valid_kept = all_valid ks; aimed_kept = λ g. all_aimed (without_own g) ks; apart_kept = all_apart ks; fits_kept = all_fit ks }

-- items that go
pub all_dropped : (ts : Forest) → KeepsAll ts ε
all_dropped ts = record { scopes_kept = λ x. omega arith; list_kept = record { vars_kept = within_none (vars_all ts); names_kept = fewer_none (list_names ts) }; imports_kept = fewer_none (import_names ts); valid_kept = λ h. refl; aimed_kept = λ g h. refl; apart_kept = λ h. refl; fits_kept = λ h. refl }

pub kept_joined : {ts us ps qs : Forest} → KeepsAll ts us → KeepsAll ps qs → KeepsAll (joined ts ps) (joined us qs)
kept_joined {ts} {us} {ps} {qs} h i = record {
  scopes_kept = λ x. omega (arith, h.scopes_kept x, i.scopes_kept x, scopes_joined x ts ps, scopes_joined x us qs);
  list_kept = record {
    vars_kept = subst (λ z. Within z (vars_all (joined ts ps))) (sym (vars_joined us qs)) (subst (λ z. Within (vars_all us ++ vars_all qs) z) (sym (vars_joined ts ps)) (within_append h.list_kept.vars_kept i.list_kept.vars_kept));
    names_kept = subst (λ z. Fewer z (list_names (joined ts ps))) (sym (names_joined us qs)) (subst (λ z. Fewer (list_names us ++ list_names qs) z) (sym (names_joined ts ps)) (fewer_append h.list_kept.names_kept i.list_kept.names_kept));
  };
  imports_kept = subst (λ z. Fewer z (import_names (joined ts ps))) (sym (imports_joined us qs)) (subst (λ z. Fewer (import_names us ++ import_names qs) z) (sym (imports_joined ts ps)) (fewer_append h.imports_kept i.imports_kept));
  valid_kept = λ e. let p = valid_parts ts ps e in valid_joined us qs (h.valid_kept p.0) (i.valid_kept p.1);
  aimed_kept = λ g e. let p = aimed_parts (without_own g) ts ps e in aimed_joined (without_own g) us qs (h.aimed_kept g p.0) (i.aimed_kept g p.1);
  apart_kept = λ e. let p = apart_parts ts ps e in apart_joined us qs (h.apart_kept p.0) (i.apart_kept p.1);
  fits_kept = λ e. let p = fits_parts ts ps e in fits_joined us qs (h.fits_kept p.0) (i.fits_kept p.1);
}

pub kept_then : {ts us vs : Forest} → KeepsAll ts us → KeepsAll us vs → KeepsAll ts vs
kept_then h i = record {
  scopes_kept = λ x. omega (arith, h.scopes_kept x, i.scopes_kept x);
  list_kept = record { vars_kept = within_trans i.list_kept.vars_kept h.list_kept.vars_kept; names_kept = fewer_trans i.list_kept.names_kept h.list_kept.names_kept };
  imports_kept = fewer_trans i.imports_kept h.imports_kept;
  valid_kept = λ e. i.valid_kept (h.valid_kept e);
  aimed_kept = λ g e. i.aimed_kept g (h.aimed_kept g e);
  apart_kept = λ e. i.apart_kept (h.apart_kept e);
  fits_kept = λ e. i.fits_kept (h.fits_kept e);
}

pub spared_joined : {P : Name → Type 0} {ts us ps qs : Forest} → SparesAll P ts us → SparesAll P ps qs → SparesAll P (joined ts ps) (joined us qs)
spared_joined {P} {ts} {us} {ps} {qs} h i = record {
  vars_spared = subst (λ z. Spared P z (vars_all (joined us qs))) (sym (vars_joined ts ps)) (subst (λ z. Spared P (vars_all ts ++ vars_all ps) z) (sym (vars_joined us qs)) (spared_append h.vars_spared i.vars_spared));
  names_spared = subst (λ z. Spared P z (list_names (joined us qs))) (sym (names_joined ts ps)) (subst (λ z. Spared P (list_names ts ++ list_names ps) z) (sym (names_joined us qs)) (spared_append h.names_spared i.names_spared));
  imports_spared = subst (λ z. Spared P z (import_names (joined us qs))) (sym (imports_joined ts ps)) (subst (λ z. Spared P (import_names ts ++ import_names ps) z) (sym (imports_joined us qs)) (spared_append h.imports_spared i.imports_spared));
  exports_kept = subst (λ z. Within z (exports_all (joined ts ps))) (sym (exports_joined us qs)) (subst (λ z. Within (exports_all us ++ exports_all qs) z) (sym (exports_joined ts ps)) (within_append h.exports_kept i.exports_kept));
}

-- the node that holds the list

module_good : {ts us : Forest} → KeepsAll ts us → good_scope Module ts ≡ true → good_scope Module us ≡ true
module_good {ts} {us} k h =
    let p = and_parts (good_body (import_names ts) ts) (none_in (import_names ts) (vars_all ts)) h in
    and_from (good_body (import_names us) us) (none_in (import_names us) (vars_all us)) (good_body_kept k.imports_kept k.list_kept p.0) (none_within (fewer_within k.imports_kept) k.list_kept.vars_kept p.1)

valid_with : (l : Label) (ss : List Span) {ts us : Forest} → KeepsAll ts us → valid (node l ss us) ≡ valid_all us → valid (node l ss ts) ≡ true → valid (node l ss us) ≡ true
valid_with l ss {ts} {us} k e h = e ∙ k.valid_kept (valid_below l ss ts h)

fits_with : {ts us : Forest} (l : Label) (ss : List Span) → KeepsAll ts us → (good_scope l ts ≡ true → good_scope l us ≡ true) → fits (node l ss us) ≡ (good_scope l us && fits_all us) → fits (node l ss ts) ≡ (good_scope l ts && fits_all ts) → fits (node l ss ts) ≡ true → fits (node l ss us) ≡ true
fits_with {ts} {us} l ss k f e d h = let p = and_parts (good_scope l ts) (fits_all ts) (sym d ∙ h) in e ∙ and_from (good_scope l us) (fits_all us) (f p.0) (k.fits_kept p.1)

pub list_keeps : (l : Label) (ss : List Span) {ts us : Forest} → is_list l ≡ true → KeepsAll ts us → Keeps (node l ss ts) (node l ss us)
unfolding own_scopes
list_keeps Block ss {ts} {us} e k = record {
  scopes_kept = λ x. omega (arith, k.scopes_kept x, one_if_kept (list_binds ts x) (list_binds us x) (list_binds_kept x k.list_kept));
  vars_kept = k.list_kept.vars_kept;
  names_kept = fewer_same [];
  own_kept = fewer_same [];
  frame_kept = refl;
  part_kept = tt;
  listed_kept = λ h. h;
  valid_kept = valid_with Block ss k refl;
  aimed_kept = λ g h. k.aimed_kept g h;
  apart_kept = λ h. k.apart_kept h;
  fits_kept = fits_with Block ss k (good_list_kept k.list_kept) refl refl;
}
list_keeps Body ss {ts} {us} e k = record {
  scopes_kept = λ x. omega (arith, k.scopes_kept x);
  vars_kept = within_same [];
  names_kept = fewer_same [];
  own_kept = fewer_same [];
  frame_kept = refl;
  part_kept = k.list_kept;
  listed_kept = λ h. h;
  valid_kept = valid_with Body ss k refl;
  aimed_kept = λ g h. k.aimed_kept g h;
  apart_kept = λ h. k.apart_kept h;
  fits_kept = fits_with Body ss k (λ h. refl) refl refl;
}
list_keeps CaseBody ss {ts} {us} e k = record {
  scopes_kept = λ x. omega (arith, k.scopes_kept x);
  vars_kept = k.list_kept.vars_kept;
  names_kept = fewer_same [];
  own_kept = fewer_same [];
  frame_kept = refl;
  part_kept = k.list_kept;
  listed_kept = λ h. h;
  valid_kept = valid_with CaseBody ss k refl;
  aimed_kept = λ g h. k.aimed_kept g h;
  apart_kept = λ h. k.apart_kept h;
  fits_kept = fits_with CaseBody ss k (λ h. refl) refl refl;
}
list_keeps Module ss {ts} {us} e k = record {
  scopes_kept = λ x. omega (arith, k.scopes_kept x, one_if_kept (module_binds ts x) (module_binds us x) (or_kept (has_name x (import_names ts)) (body_declares ts x) (has_name x (import_names us)) (body_declares us x) ((fewer_within k.imports_kept).by x) (body_declares_kept x k.list_kept)));
  vars_kept = within_same [];
  names_kept = fewer_same [];
  own_kept = fewer_same [];
  frame_kept = refl;
  part_kept = tt;
  listed_kept = λ h. h;
  valid_kept = valid_with Module ss k refl;
  aimed_kept = λ g h. k.aimed_kept g h;
  apart_kept = λ h. k.apart_kept h;
  fits_kept = fits_with Module ss k (module_good k) refl refl;
}
list_keeps Script ss {ts} {us} e k = record {
  scopes_kept = λ x. omega (arith, k.scopes_kept x, one_if_kept (body_declares ts x) (body_declares us x) (body_declares_kept x k.list_kept));
  vars_kept = within_same [];
  names_kept = fewer_same [];
  own_kept = fewer_same [];
  frame_kept = refl;
  part_kept = tt;
  listed_kept = λ h. h;
  valid_kept = valid_with Script ss k refl;
  aimed_kept = λ g h. k.aimed_kept g h;
  apart_kept = λ h. k.apart_kept h;
  fits_kept = fits_with Script ss k (good_list_kept k.list_kept) refl refl;
}
list_keeps l ss e k = absurd (false≢true e)

-- what a list that is no module's spares
pub list_spares : {P : Name → Type 0} (l : Label) (ss : List Span) {ts us : Forest} → is_list l ≡ true → is_module l ≡ false → Spared P (vars_all ts) (vars_all us) → Spares P (node l ss ts) (node l ss us)
list_spares Block ss e n k = record { vars_spared = k; names_spared = spared_same []; own_spared = spared_same []; frame_spared = refl; part_spared = tt; exports_kept = within_same []; exports_bound_kept = λ p h. refl }
list_spares Body ss e n k = record { vars_spared = spared_same []; names_spared = spared_same []; own_spared = spared_same []; frame_spared = refl; part_spared = tt; exports_kept = within_same []; exports_bound_kept = λ p h. refl }
list_spares CaseBody ss e n k = record { vars_spared = k; names_spared = spared_same []; own_spared = spared_same []; frame_spared = refl; part_spared = tt; exports_kept = within_same []; exports_bound_kept = λ p h. refl }
list_spares Script ss e n k = record { vars_spared = spared_same []; names_spared = spared_same []; own_spared = spared_same []; frame_spared = refl; part_spared = tt; exports_kept = within_same []; exports_bound_kept = λ p h. refl }
list_spares Module ss e n k = absurd (false≢true (sym n))
list_spares l ss e n k = absurd (false≢true e)

-- what a module's list spares, where what it binds stays bound
pub module_spares : {P : Name → Type 0} (ss : List Span) {ts us : Forest} → Within (exports_all us) (exports_all ts) → ((x : Name) → P x → module_binds ts x ≡ true → module_binds us x ≡ true) → Spares P (node Module ss ts) (node Module ss us)
module_spares ss {ts} {us} k f = record { vars_spared = spared_same []; names_spared = spared_same []; own_spared = spared_same []; frame_spared = refl; part_spared = tt; exports_kept = k; exports_bound_kept = λ p h. exports_show (module_binds us) us (λ x i. let j = k.by x i in f x (p x j) (exports_said (module_binds ts) ts h x j)) }

pub module_spares_all : {P : Name → Type 0} (ss : List Span) {ts us : Forest} → SparesAll P ts us → Spares P (node Module ss ts) (node Module ss us)
module_spares_all ss {ts} {us} k = module_spares ss k.exports_kept (λ x p h. module_binds_spared ts us k.imports_spared k.vars_spared k.names_spared x p h)
