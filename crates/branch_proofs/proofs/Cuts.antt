-- A list that is cut behind its first stopper keeps what it declares, spares its `var` names, and has nothing behind it.
use Rattle.std.proofs.Common.{◌≡◌, ℕ, zero, suc, ◌+◌, ◌*◌, ◌≤◌, Bool, true, false, ◌||◌, if◌then◌else◌, [], ◌++◌, length, refl, sym, ap, ap₂, subst, ◌∙◌, arith, append-nil, length-append, ◌⊎◌, inl, inr}
use Rattle.std.proofs.lemmas.Bool.{and_parts, and_from, or_cases, or_left, or_right}
use Rattle.swc_ast.specs.Tree.{Name, Tree, Forest, ε, ◌⊳◌}
use Rattle.swc_ast.specs.Scope.{has_name, vars, vars_all, joined}
use Rattle.swc_ast.specs.Valid.{count, valid, valid_all}
use Rattle.swc_ast.specs.Weight.{weight, weight_all, is_stopper, stays_behind, movable, unreached}
use Rattle.static_proofs.specs.Names.{Within}
use Rattle.static_proofs.specs.Keeps.{more_kept, none_kept}
use Rattle.static_proofs.specs.Spares.{Spared}
use Rattle.static_proofs.specs.Together.{KeepsAll}
use Rattle.static_proofs.proofs.Names.{within_same, within_append, within_second, within_trans, has_name_append}
use Rattle.static_proofs.proofs.Parts.{vars_joined}
use Rattle.static_proofs.proofs.Kept.{keeps_itself}
use Rattle.static_proofs.proofs.Spared.{spared_same, spared_append}
use Rattle.static_proofs.proofs.Drawn.{weight_joined}
use Rattle.static_proofs.proofs.Together.{together, all_dropped, kept_joined}
use Rattle.branch_proofs.proofs.ListForms.{may_go, all_may_go, Hoists, no_vars, some_vars, Cuts, uncut, past_item, cut_at}
use Rattle.branch_rules.specs.Lists.{staying, going}
use Rattle.branch_proofs.proofs.PlainNames.{statement_weight}
use Rattle.branch_proofs.proofs.Hoists.{Beside, hoists_beside, hoists_weight, kept_beside, bare_vars}

-- what stays and what goes

pub staying_keeps : (ts : Forest) → KeepsAll ts (staying ts)
staying_keeps ε = all_dropped ε
staying_keeps (t ⊳ ts) = by_stay (stays_behind t) (staying_keeps ts)
  where
    by_stay : (b : Bool) → KeepsAll ts (staying ts) → KeepsAll (t ⊳ ts) (if b then t ⊳ staying ts else staying ts)
    by_stay true k = kept_joined (together (more_kept (keeps_itself t) none_kept)) k
    by_stay false k = kept_joined (all_dropped (t ⊳ ε)) k

pub going_vars : (ts : Forest) → Within (vars_all (going ts)) (vars_all ts)
going_vars ε = within_same []
going_vars (t ⊳ ts) = by_stay (stays_behind t) (going_vars ts)
  where
    by_stay : (b : Bool) → Within (vars_all (going ts)) (vars_all ts) → Within (vars_all (if b then going ts else t ⊳ going ts)) (vars_all (t ⊳ ts))
    by_stay true k = within_trans k (within_second (vars t) (vars_all ts))
    by_stay false k = within_append (within_same (vars t)) k

pub going_valid : (ts : Forest) → valid_all ts ≡ true → valid_all (going ts) ≡ true
going_valid ε h = refl
going_valid (t ⊳ ts) h = let p = and_parts (valid t) (valid_all ts) h in by_stay (stays_behind t) p.0 (going_valid ts p.1)
  where
    by_stay : (b : Bool) → valid t ≡ true → valid_all (going ts) ≡ true → valid_all (if b then going ts else t ⊳ going ts) ≡ true
    by_stay true v k = k
    by_stay false v k = and_from (valid t) (valid_all (going ts)) v k

beside_more : {ts us hs : Forest} → Within (vars_all ts) (vars_all us) → (valid_all us ≡ true → valid_all ts ≡ true) → Beside ts hs → Beside us hs
beside_more f v b = record { opens_none = b.opens_none; vars_there = within_trans b.vars_there f; no_names = b.no_names; no_imports = b.no_imports; valid_too = λ h. b.valid_too (v h); aims = b.aims; stands_apart = b.stands_apart; fits_too = b.fits_too }

pub cuts_keep : {ts us : Forest} → Cuts ts us → KeepsAll ts us
cuts_keep uncut = all_dropped ε
cuts_keep (past_item {t = t} h c) = kept_joined (together (more_kept (keeps_itself t) none_kept)) (cuts_keep c)
cuts_keep (cut_at {t = t} {ts = ts} h o) = kept_beside (beside_more (within_trans (going_vars ts) (within_second (vars t) (vars_all ts))) (λ v. going_valid ts (and_parts (valid t) (valid_all ts) v).1) (hoists_beside o)) (kept_joined (together (more_kept (keeps_itself t) none_kept)) (staying_keeps ts))

-- `var` names are spared

pub parted_vars : (x : Name) (ts : Forest) → has_name x (vars_all ts) ≡ true → (has_name x (vars_all (going ts)) ≡ true) ⊎ (has_name x (vars_all (staying ts)) ≡ true)
parted_vars x ε h = inl h
parted_vars x (t ⊳ ts) h = by_stay (stays_behind t) (or_cases (has_name x (vars t)) (has_name x (vars_all ts)) (sym (has_name_append x (vars t) (vars_all ts)) ∙ h)) (parted_vars x ts)
  where
    front : (us : Forest) → has_name x (vars t) ≡ true → has_name x (vars_all (t ⊳ us)) ≡ true
    front us e = has_name_append x (vars t) (vars_all us) ∙ or_left (has_name x (vars t)) (has_name x (vars_all us)) e

    back : (us : Forest) → has_name x (vars_all us) ≡ true → has_name x (vars_all (t ⊳ us)) ≡ true
    back us e = has_name_append x (vars t) (vars_all us) ∙ or_right (has_name x (vars t)) (has_name x (vars_all us)) e

    by_part : (b : Bool) → (has_name x (vars_all (going ts)) ≡ true) ⊎ (has_name x (vars_all (staying ts)) ≡ true) → (has_name x (vars_all (if b then going ts else t ⊳ going ts)) ≡ true) ⊎ (has_name x (vars_all (if b then t ⊳ staying ts else staying ts)) ≡ true)
    by_part true (inl e) = inl e
    by_part true (inr e) = inr (back (staying ts) e)
    by_part false (inl e) = inl (back (going ts) e)
    by_part false (inr e) = inr e

    by_stay : (b : Bool) → (has_name x (vars t) ≡ true) ⊎ (has_name x (vars_all ts) ≡ true) → (has_name x (vars_all ts) ≡ true → (has_name x (vars_all (going ts)) ≡ true) ⊎ (has_name x (vars_all (staying ts)) ≡ true)) → (has_name x (vars_all (if b then going ts else t ⊳ going ts)) ≡ true) ⊎ (has_name x (vars_all (if b then t ⊳ staying ts else staying ts)) ≡ true)
    by_stay true (inl e) f = inr (front (staying ts) e)
    by_stay false (inl e) f = inl (front (going ts) e)
    by_stay b (inr e) f = by_part b (f e)

hoists_vars : {ts hs : Forest} → Hoists ts hs → Within (vars_all ts) (vars_all hs)
hoists_vars {ts} (no_vars h) = subst (λ xs. Within xs []) (sym h) (within_same [])
hoists_vars {ts} (some_vars {ss = ss} {ds = ds} b f g n m) = subst (λ xs. Within (vars_all ts) xs) (sym (append-nil (vars_all ds) ∙ bare_vars ds b)) g

cut_spares : {P : Name → Type 0} (t : Tree) (ts hs : Forest) → Within (vars_all (going ts)) (vars_all hs) → Spared P (vars t ++ vars_all ts) (vars_all hs ++ (vars t ++ vars_all (staying ts)))
cut_spares {P} t ts hs f = record { by = λ x p h. by_place x (or_cases (has_name x (vars t)) (has_name x (vars_all ts)) (sym (has_name_append x (vars t) (vars_all ts)) ∙ h)) }
  where
    in_hoisted : (x : Name) → has_name x (vars_all hs) ≡ true → has_name x (vars_all hs ++ (vars t ++ vars_all (staying ts))) ≡ true
    in_hoisted x e = has_name_append x (vars_all hs) (vars t ++ vars_all (staying ts)) ∙ or_left (has_name x (vars_all hs)) _ e

    in_rest : (x : Name) → has_name x (vars t ++ vars_all (staying ts)) ≡ true → has_name x (vars_all hs ++ (vars t ++ vars_all (staying ts))) ≡ true
    in_rest x e = has_name_append x (vars_all hs) (vars t ++ vars_all (staying ts)) ∙ or_right (has_name x (vars_all hs)) _ e

    by_part : (x : Name) → (has_name x (vars_all (going ts)) ≡ true) ⊎ (has_name x (vars_all (staying ts)) ≡ true) → has_name x (vars_all hs ++ (vars t ++ vars_all (staying ts))) ≡ true
    by_part x (inl e) = in_hoisted x (f.by x e)
    by_part x (inr e) = in_rest x (has_name_append x (vars t) (vars_all (staying ts)) ∙ or_right (has_name x (vars t)) _ e)

    by_place : (x : Name) → (has_name x (vars t) ≡ true) ⊎ (has_name x (vars_all ts) ≡ true) → has_name x (vars_all hs ++ (vars t ++ vars_all (staying ts))) ≡ true
    by_place x (inl e) = in_rest x (has_name_append x (vars t) (vars_all (staying ts)) ∙ or_left (has_name x (vars t)) _ e)
    by_place x (inr e) = by_part x (parted_vars x ts e)

pub cuts_spare : {P : Name → Type 0} {ts us : Forest} → Cuts ts us → Spared P (vars_all ts) (vars_all us)
cuts_spare uncut = spared_same []
cuts_spare (past_item {t = t} h c) = spared_append (spared_same (vars t)) (cuts_spare c)
cuts_spare {P} (cut_at {t = t} {ts = ts} {hs = hs} h o) = subst (λ xs. Spared P (vars t ++ vars_all ts) xs) (sym (vars_joined hs (t ⊳ staying ts))) (cut_spares t ts hs (hoists_vars o))

-- weights

pub parted_weight : (ts : Forest) → weight_all (going ts) + weight_all (staying ts) ≡ weight_all ts
parted_weight ε = refl
parted_weight (t ⊳ ts) = by_stay (stays_behind t) (parted_weight ts)
  where
    by_stay : (b : Bool) → weight_all (going ts) + weight_all (staying ts) ≡ weight_all ts → weight_all (if b then going ts else t ⊳ going ts) + weight_all (if b then t ⊳ staying ts else staying ts) ≡ weight t + weight_all ts
    by_stay true e = omega (arith, e)
    by_stay false e = omega (arith, e)

pub going_count : (ts : Forest) → count (going ts) ≡ movable ts
going_count ε = refl
going_count (t ⊳ ts) = by_stay (stays_behind t) (going_count ts)
  where
    by_stay : (b : Bool) → count (going ts) ≡ movable ts → count (if b then going ts else t ⊳ going ts) ≡ (if b then movable ts else suc (movable ts))
    by_stay true e = e
    by_stay false e = ap suc e

pub staying_movable : (ts : Forest) → movable (staying ts) ≡ 0
staying_movable ε = refl
staying_movable (t ⊳ ts) = by_stay (stays_behind t) refl (staying_movable ts)
  where
    by_stay : (b : Bool) → stays_behind t ≡ b → movable (staying ts) ≡ 0 → movable (if b then t ⊳ staying ts else staying ts) ≡ 0
    by_stay true d e = ap (λ s. if s then movable (staying ts) else suc (movable (staying ts))) d ∙ e
    by_stay false d e = e

pub staying_all : (ts : Forest) → movable ts ≡ 0 → staying ts ≡ ts
staying_all ε h = refl
staying_all (t ⊳ ts) h = by_stay (stays_behind t) h (staying_all ts)
  where
    by_stay : (b : Bool) → (if b then movable ts else suc (movable ts)) ≡ 0 → (movable ts ≡ 0 → staying ts ≡ ts) → (if b then t ⊳ staying ts else staying ts) ≡ (t ⊳ ts)
    by_stay true e f = ap (λ z. t ⊳ z) (f e)
    by_stay false e f = absurd (omega (arith, e))

pub going_none : (ts : Forest) → movable ts ≡ 0 → going ts ≡ ε
going_none ε h = refl
going_none (t ⊳ ts) h = by_stay (stays_behind t) h (going_none ts)
  where
    by_stay : (b : Bool) → (if b then movable ts else suc (movable ts)) ≡ 0 → (movable ts ≡ 0 → going ts ≡ ε) → (if b then going ts else t ⊳ going ts) ≡ ε
    by_stay true e f = f e
    by_stay false e f = absurd (omega (arith, e))

-- statements that go weigh more than their `var` names
going_weight : (ts : Forest) → all_may_go ts ≡ true → 4 * length (vars_all (going ts)) + count (going ts) ≤ weight_all (going ts)
going_weight ε h = omega arith
going_weight (t ⊳ ts) h = let p = and_parts (stays_behind t || may_go t) (all_may_go ts) h in by_stay (stays_behind t) p.0 (going_weight ts p.1)
  where
    by_stay : (b : Bool) → (b || may_go t) ≡ true → 4 * length (vars_all (going ts)) + count (going ts) ≤ weight_all (going ts) → 4 * length (vars_all (if b then going ts else t ⊳ going ts)) + count (if b then going ts else t ⊳ going ts) ≤ weight_all (if b then going ts else t ⊳ going ts)
    by_stay true i e = e
    by_stay false i e = omega (arith, statement_weight t i, length-append (vars t) (vars_all (going ts)))

hoists_none : {hs : Forest} → Hoists ε hs → hs ≡ ε
hoists_none (no_vars h) = refl
hoists_none (some_vars b f g n m) = absurd (omega arith)

pub hoists_unreached : {ts hs : Forest} (us : Forest) → Hoists ts hs → unreached (joined hs us) ≡ unreached us
hoists_unreached us (no_vars h) = refl
hoists_unreached us (some_vars b f g n m) = refl

pub data Cut (ts us : Forest) : Type 0 where
  same_list : us ≡ ts → unreached ts ≡ 0 → Cut ts us
  cut_list : 1 ≤ unreached ts → weight_all us ≤ weight_all ts + 2 → Cut ts us

pub cuts_settled : {ts us : Forest} → Cuts ts us → unreached us ≡ 0
cuts_settled uncut = refl
cuts_settled (past_item {t = t} {us = us} h c) = ap (λ s. if s then movable us else unreached us) h ∙ cuts_settled c
cuts_settled (cut_at {t = t} {ts = ts} h o) = hoists_unreached (t ⊳ staying ts) o ∙ ap (λ s. if s then movable (staying ts) else unreached (staying ts)) h ∙ staying_movable ts

cut_by : (t : Tree) (ts hs : Forest) → is_stopper t ≡ true → all_may_go ts ≡ true → Hoists (going ts) hs → (movable ts ≡ 0) ⊎ (1 ≤ movable ts) → Cut (t ⊳ ts) (joined hs (t ⊳ staying ts))
cut_by t ts hs h a o (inl e) = same_list (ap₂ (λ x y. joined x (t ⊳ y)) (hoists_none (subst (λ z. Hoists z hs) (going_none ts e) o)) (staying_all ts e)) (ap (λ s. if s then movable ts else unreached ts) h ∙ e)
cut_by t ts hs h a o (inr e) = cut_list (subst (λ s. 1 ≤ (if s then movable ts else unreached ts)) (sym h) e) (omega (arith, weight_joined hs (t ⊳ staying ts), hoists_weight o, parted_weight ts, going_weight ts a, going_count ts))

pub none_or_some : (n : ℕ) → (n ≡ 0) ⊎ (1 ≤ n)
none_or_some zero = inl refl
none_or_some (suc n) = inr (omega arith)

pub past_by : (t : Tree) (ts us : Forest) → is_stopper t ≡ false → Cut ts us → Cut (t ⊳ ts) (t ⊳ us)
past_by t ts us h (same_list e u) = same_list (ap (λ z. t ⊳ z) e) (ap (λ s. if s then movable ts else unreached ts) h ∙ u)
past_by t ts us h (cut_list n w) = cut_list (subst (λ s. 1 ≤ (if s then movable ts else unreached ts)) (sym h) n) (omega arith)

pub cuts_weight : {ts us : Forest} → Cuts ts us → all_may_go ts ≡ true → Cut ts us
cuts_weight uncut a = same_list refl refl
cuts_weight (past_item {t = t} {ts = ts} {us = us} h c) a = past_by t ts us h (cuts_weight c (and_parts (stays_behind t || may_go t) (all_may_go ts) a).1)
cuts_weight (cut_at {t = t} {ts = ts} {hs = hs} h o) a = cut_by t ts hs h (and_parts (stays_behind t || may_go t) (all_may_go ts) a).1 o (none_or_some (movable ts))

-- a list that is cut to one statement holds no new one
hoists_single : {ts hs : Forest} (t : Tree) (us : Forest) → Hoists ts hs → count (joined hs (t ⊳ us)) ≡ 1 → hs ≡ ε
hoists_single t us (no_vars h) e = refl
hoists_single t us (some_vars b f g n m) e = absurd (omega (arith, e))

pub cuts_single : {ts us : Forest} → Cuts ts us → count us ≡ 1 → weight_all us ≤ weight_all ts
cuts_single uncut e = omega arith
cuts_single (past_item h uncut) e = omega arith
cuts_single (past_item h (past_item i c)) e = absurd (omega (arith, e))
cuts_single (past_item {t = t} h (cut_at {t = u} {ts = ts} {hs = hs} i o)) e = absurd (none_left hs e)
  where
    none_left : (hs : Forest) → count (t ⊳ joined hs (u ⊳ staying ts)) ≡ 1 → ⊥
    none_left ε d = omega (arith, d)
    none_left (k ⊳ ks) d = omega (arith, d)
cuts_single (cut_at {t = t} {ts = ts} {hs = hs} h o) e = omega (arith, ap (λ z. weight_all (joined z (t ⊳ staying ts))) (hoists_single t (staying ts) o e), parted_weight ts)
