-- A forest of which some trees went keeps and weighs no more than before.
use Rattle.std.proofs.Common.{◌≡◌, suc, ◌+◌, ◌≤◌, ◌<◌, Bool, true, false, if◌then◌else◌, [], refl, sym, ap, subst, ◌∙◌, arith, append-nil, ◌⊎◌, inl, inr}
use Rattle.swc_ast.specs.Tree.{Name, Tree, node, Forest, ε, ◌⊳◌}
use Rattle.swc_ast.specs.Scope.{declarator_name, declarator_names, imported_name, specifier_names, vars}
use Rattle.swc_ast.specs.Weight.{weight, weight_all, is_stopper, stays_behind, movable, unreached}
use Rattle.static_proofs.specs.Names.{Fewer, names_of}
use Rattle.static_proofs.specs.Keeps.{more_kept, none_kept}
use Rattle.static_proofs.specs.Spares.{Spared}
use Rattle.static_proofs.specs.Together.{KeepsAll, SparesAll}
use Rattle.static_proofs.proofs.Names.{within_same, within_none, fewer_same, fewer_append, fewer_trans, fewer_second}
use Rattle.static_proofs.proofs.Parts.{names_cons}
use Rattle.static_proofs.proofs.Kept.{keeps_itself}
use Rattle.static_proofs.proofs.Spared.{spared_same}
use Rattle.static_proofs.proofs.Together.{together, all_dropped, kept_joined, spared_joined}
use Rattle.dce_proofs.proofs.Dropping.{MayGo, Drops, none_dropped, item_kept, item_dropped, Thins, none_thinned, tree_kept, tree_dropped}

pub thins_keep : {ts us : Forest} → Thins ts us → KeepsAll ts us
thins_keep none_thinned = all_dropped ε
thins_keep (tree_kept {t = t} h) = kept_joined (together (more_kept (keeps_itself t) none_kept)) (thins_keep h)
thins_keep (tree_dropped {t = t} w h) = kept_joined (all_dropped (t ⊳ ε)) (thins_keep h)

pub thins_declarators : {ts us : Forest} → Thins ts us → Fewer (declarator_names us) (declarator_names ts)
thins_declarators none_thinned = fewer_same []
thins_declarators (tree_kept {t = node l ss cs} h) = fewer_append (fewer_same (declarator_name l)) (thins_declarators h)
thins_declarators (tree_dropped {t = node l ss cs} {ts = ts} w h) = fewer_trans (thins_declarators h) (fewer_second (declarator_name l) (declarator_names ts))

pub thins_specifiers : {ts us : Forest} → Thins ts us → Fewer (specifier_names us) (specifier_names ts)
thins_specifiers none_thinned = fewer_same []
thins_specifiers (tree_kept {t = node l ss cs} h) = fewer_append (fewer_same (imported_name l)) (thins_specifiers h)
thins_specifiers (tree_dropped {t = node l ss cs} {ts = ts} w h) = fewer_trans (thins_specifiers h) (fewer_second (imported_name l) (specifier_names ts))

pub thins_weight : {ts us : Forest} → Thins ts us → (us ≡ ts) ⊎ (weight_all us < weight_all ts)
thins_weight none_thinned = inl refl
thins_weight (tree_kept {t = t} {ts = ts} {us = us} h) = by_rest (thins_weight h)
  where
    by_rest : (us ≡ ts) ⊎ (weight_all us < weight_all ts) → ◌⊎◌ (◌≡◌ {A = Forest} (t ⊳ us) (t ⊳ ts)) (weight_all (t ⊳ us) < weight_all (t ⊳ ts))
    by_rest (inl e) = inl (ap (λ z. t ⊳ z) e)
    by_rest (inr e) = inr (omega arith)
thins_weight (tree_dropped {t = t} {ts = ts} {us = us} w h) = inr (by_rest (thins_weight h))
  where
    by_rest : (us ≡ ts) ⊎ (weight_all us < weight_all ts) → weight_all us < weight_all (t ⊳ ts)
    by_rest (inl e) = omega (arith, w, ap weight_all e)
    by_rest (inr e) = omega (arith, w)

-- items of a list

pub drops_keep : {P : Name → Type 0} {ts us : Forest} → Drops P ts us → KeepsAll ts us
drops_keep none_dropped = all_dropped ε
drops_keep (item_kept {t = t} h) = kept_joined (together (more_kept (keeps_itself t) none_kept)) (drops_keep h)
drops_keep (item_dropped {t = t} m h) = kept_joined (all_dropped (t ⊳ ε)) (drops_keep h)

gone_spares : {P : Name → Type 0} (t : Tree) → MayGo P t → SparesAll P (t ⊳ ε) ε
gone_spares {P} t m = record {
  vars_spared = subst (λ xs. Spared P xs []) (sym (append-nil (vars t))) m.no_vars;
  names_spared = subst (λ xs. Spared P xs []) (sym (names_cons t ε ∙ append-nil (names_of t))) m.no_names;
  imports_spared = m.no_imports;
  exports_kept = within_none _;
}

one_spares : {P : Name → Type 0} (t : Tree) → SparesAll P (t ⊳ ε) (t ⊳ ε)
one_spares t = record { vars_spared = spared_same _; names_spared = spared_same _; imports_spared = spared_same _; exports_kept = within_same _ }

pub drops_spare : {P : Name → Type 0} {ts us : Forest} → Drops P ts us → SparesAll P ts us
drops_spare none_dropped = record { vars_spared = spared_same []; names_spared = spared_same []; imports_spared = spared_same []; exports_kept = within_same [] }
drops_spare (item_kept {t = t} h) = spared_joined (one_spares t) (drops_spare h)
drops_spare (item_dropped {t = t} m h) = spared_joined (gone_spares t m) (drops_spare h)

-- nothing goes, or the rest is lighter, and no more stands behind a stopper
pub data Dropped (ts us : Forest) : Type 0 where
  same_items : us ≡ ts → Dropped ts us
  lighter_items : unreached us ≤ unreached ts → movable us ≤ movable ts → weight_all us < weight_all ts → Dropped ts us

keep_one : (t : Tree) {ts us : Forest} → Dropped ts us → Dropped (t ⊳ ts) (t ⊳ us)
keep_one t (same_items e) = same_items (ap (λ z. t ⊳ z) e)
keep_one t {ts} {us} (lighter_items a b c) = lighter_items (by_stopper (is_stopper t)) (by_stay (stays_behind t)) (omega arith)
  where
    by_stopper : (s : Bool) → (if s then movable us else unreached us) ≤ (if s then movable ts else unreached ts)
    by_stopper true = b
    by_stopper false = a

    by_stay : (s : Bool) → (if s then movable us else suc (movable us)) ≤ (if s then movable ts else suc (movable ts))
    by_stay true = b
    by_stay false = omega arith

drop_one : (t : Tree) (ts us : Forest) → is_stopper t ≡ false → 1 ≤ weight t → Dropped ts us → Dropped (t ⊳ ts) us
drop_one t ts us h w d = lighter_items (subst (λ s. unreached us ≤ (if s then movable ts else unreached ts)) (sym h) (no_more d)) (by_stay (stays_behind t) (no_more_movable d)) (less d)
  where
    no_more : Dropped ts us → unreached us ≤ unreached ts
    no_more (same_items e) = omega (arith, ap unreached e)
    no_more (lighter_items a b c) = a

    no_more_movable : Dropped ts us → movable us ≤ movable ts
    no_more_movable (same_items e) = omega (arith, ap movable e)
    no_more_movable (lighter_items a b c) = b

    by_stay : (s : Bool) → movable us ≤ movable ts → movable us ≤ (if s then movable ts else suc (movable ts))
    by_stay true b = b
    by_stay false b = omega arith

    less : Dropped ts us → weight_all us < weight t + weight_all ts
    less (same_items e) = omega (arith, w, ap weight_all e)
    less (lighter_items a b c) = omega (arith, w, c)

pub drops_weight : {P : Name → Type 0} {ts us : Forest} → Drops P ts us → Dropped ts us
drops_weight none_dropped = same_items refl
drops_weight (item_kept {t = t} h) = keep_one t (drops_weight h)
drops_weight (item_dropped {t = t} {ts = ts} {us = us} m h) = drop_one t ts us m.no_stopper m.weighs (drops_weight h)
