-- The list step of a module owes nothing.
use Rattle.std.proofs.Common.{◌≡◌, ◌+◌, ◌*◌, ◌≤◌, Bool, true, false, ◌&&◌, ◌||◌, if◌then◌else◌, nat_le, List, [], ◌∷◌, ◌++◌, length, refl, sym, ap, ap₂, subst, ◌∙◌, arith, append-nil, append_assoc, length-append, ◌⊎◌, inl, inr}
use Rattle.std.proofs.lemmas.Bool.{and_parts, and_from, or_cases, or_left, or_right, false≢true, false_from_ne_true, le-leb}
use Rattle.swc_ast.specs.declared.Span.{Span}
use Rattle.swc_ast.specs.declared.VarDeclKind.TheVariants.{Var, Let, Const}
use Rattle.swc_ast.specs.Tree.{Name, same_name, Label, VarDecl, Declarator, Module, Tree, node, Forest, ε, ◌⊳◌, label_of}
use Rattle.swc_ast.specs.Scope.{has_name, vars, vars_all, as_lexicals, declarator_name, declarator_names, import_names, joined, list_binds, declared, body_declares, module_binds}
use Rattle.swc_ast.specs.Valid.{count, is_identifier, good_names, good_shape, valid, valid_all}
use Rattle.swc_ast.specs.Resolved.{first_names, own_scopes, scopes_all, Targets, aimed, aimed_all, apart, apart_all}
use Rattle.swc_ast.specs.Core.{times_in, once_each, none_in, list_names, good_list, good_body, good_scope, fits, fits_all}
use Rattle.swc_ast.specs.Weight.{own_weight, weight, weight_all, is_stopper, stays_behind, movable, unreached}
use Rattle.static_proofs.specs.Names.{Within, Fewer, names_of}
use Rattle.static_proofs.specs.Keeps.{Keeps, more_kept, none_kept}
use Rattle.static_proofs.specs.Shaped.{is_declarator_of, labels_of, all_labels}
use Rattle.static_proofs.specs.Spares.{exports_all}
use Rattle.static_proofs.specs.Together.{without_own, KeepsAll}
use Rattle.static_proofs.specs.Drawn.{is_plain_statement}
use Rattle.static_proofs.proofs.Names.{same_name_path, has_name_append, within_same, within_none, within_append, within_trans, within_both, within_first, within_second, fewer_append, fewer_trans, fewer_same, fewer_within, times_append, found_first, once_fewer, once_said, none_said, none_show, has_times, none_within}
use Rattle.static_proofs.proofs.Inside.{one_if_kept}
use Rattle.static_proofs.proofs.Drawn.{valid_below, scopes_joined, weight_joined, valid_joined, aimed_joined, apart_joined, fits_joined}
use Rattle.static_proofs.proofs.Together.{together, all_dropped, kept_joined, imports_joined}
use Rattle.static_proofs.proofs.Kept.{keeps_itself}
use Rattle.static_proofs.proofs.Parts.{names_cons, vars_joined, names_joined}
use Rattle.swc_ast.specs.declared.VarDeclKind.{VarDeclKind}
use Rattle.branch_proofs.proofs.PlainNames.{plain_nothing, statement_weight}
use Rattle.branch_proofs.proofs.Hoists.{all_var_identifiers, bare_vars, bare_scopes, bare_aimed, bare_apart, bare_fit, bare_valid, bare_weight}
use Rattle.branch_proofs.proofs.Cuts.{staying_keeps, going_valid, going_vars, parted_weight, going_count, staying_movable, staying_all, going_none, none_or_some, Cut, same_list, cut_list, past_by}
use Rattle.walk_proofs.proofs.Shown.{no_vars}
use Rattle.branch_rules.specs.Lists.{staying, going, is_statement, all_statements}
use Rattle.branch_proofs.proofs.ModuleForms.{all_declared, ModuleHoists, no_names, some_names, ModuleCuts, uncut, past_item, cut_at}

-- What a rewrite of a module's items keeps, where names of `let` and `const` become `var` names.
pub record KeepsModule (ts vs : Forest) : Type 0 where
  pub moved : List Name
  pub scopes_kept : (x : Name) → scopes_all x vs ≤ scopes_all x ts
  pub vars_kept : Within (vars_all vs) (vars_all ts ++ moved)
  pub names_moved : (x : Name) → times_in x (list_names vs) + times_in x moved ≤ times_in x (list_names ts)
  pub imports_kept : Fewer (import_names vs) (import_names ts)
  pub valid_kept : valid_all ts ≡ true → valid_all vs ≡ true
  pub aimed_kept : (g : Targets) → aimed_all (without_own g) ts ≡ true → aimed_all (without_own g) vs ≡ true
  pub apart_kept : apart_all ts ≡ true → apart_all vs ≡ true
  pub fits_kept : fits_all ts ≡ true → fits_all vs ≡ true

moved_within : {ts vs : Forest} (k : KeepsModule ts vs) → Fewer (list_names vs) (list_names ts)
moved_within k = record { by = λ x. omega (arith, k.names_moved x) }

moved_named : {ts vs : Forest} (k : KeepsModule ts vs) → Fewer k.moved (list_names ts)
moved_named k = record { by = λ x. omega (arith, k.names_moved x) }

-- the module binds no more
binds_by : {ts vs : Forest} (k : KeepsModule ts vs) (x : Name) → module_binds vs x ≡ true → module_binds ts x ≡ true
binds_by {ts} {vs} k x h = by_import (or_cases (has_name x (import_names vs)) (body_declares vs x) h)
  where
    as_import : has_name x (import_names ts) ≡ true → module_binds ts x ≡ true
    as_import e = or_left (has_name x (import_names ts)) (body_declares ts x) e

    as_var : has_name x (vars_all ts) ≡ true → module_binds ts x ≡ true
    as_var e = or_right (has_name x (import_names ts)) (body_declares ts x) (or_left (has_name x (vars_all ts)) (list_binds ts x) e)

    as_name : has_name x (list_names ts) ≡ true → module_binds ts x ≡ true
    as_name e = or_right (has_name x (import_names ts)) (body_declares ts x) (or_right (has_name x (vars_all ts)) (list_binds ts x) (found_first x (declared ts) ∙ e))

    by_var : (has_name x (vars_all ts) ≡ true) ⊎ (has_name x k.moved ≡ true) → module_binds ts x ≡ true
    by_var (inl e) = as_var e
    by_var (inr e) = as_name ((fewer_within (moved_named k)).by x e)

    by_body : (has_name x (vars_all vs) ≡ true) ⊎ (list_binds vs x ≡ true) → module_binds ts x ≡ true
    by_body (inl e) = by_var (or_cases (has_name x (vars_all ts)) (has_name x k.moved) (sym (has_name_append x (vars_all ts) k.moved) ∙ k.vars_kept.by x e))
    by_body (inr e) = as_name ((fewer_within (moved_within k)).by x (sym (found_first x (declared vs)) ∙ e))

    by_import : (has_name x (import_names vs) ≡ true) ⊎ (body_declares vs x ≡ true) → module_binds ts x ≡ true
    by_import (inl e) = as_import ((fewer_within k.imports_kept).by x e)
    by_import (inr e) = by_body (or_cases (has_name x (vars_all vs)) (list_binds vs x) e)

good_by : {ts vs : Forest} → KeepsModule ts vs → good_scope Module ts ≡ true → good_scope Module vs ≡ true
good_by {ts} {vs} k h =
    let p = and_parts (good_body (import_names ts) ts) (none_in (import_names ts) (vars_all ts)) h in
    let q = and_parts (good_list ts) (once_each (import_names ts) (import_names ts) && none_in (list_names ts) (import_names ts)) p.0 in
    let r = and_parts (once_each (list_names ts) (list_names ts)) (none_in (list_names ts) (vars_all ts)) q.0 in
    let s = and_parts (once_each (import_names ts) (import_names ts)) (none_in (list_names ts) (import_names ts)) q.1 in
    let names : Within (list_names vs) (list_names ts) = fewer_within (moved_within k) in
    let imports : Within (import_names vs) (import_names ts) = fewer_within k.imports_kept in
    and_from (good_body (import_names vs) vs) (none_in (import_names vs) (vars_all vs))
    (and_from (good_list vs) (once_each (import_names vs) (import_names vs) && none_in (list_names vs) (import_names vs))
    (and_from (once_each (list_names vs) (list_names vs)) (none_in (list_names vs) (vars_all vs)) (once_fewer (moved_within k) r.0) (none_show (list_names vs) (vars_all vs) (λ x i. no_var x i r.0 r.1 (names.by x i))))
    (and_from (once_each (import_names vs) (import_names vs)) (none_in (list_names vs) (import_names vs)) (once_fewer k.imports_kept s.0) (none_within names imports s.1)))
    (none_show (import_names vs) (vars_all vs) (λ x i. no_import x p.1 s.1 (imports.by x i)))
  where
    by_var : (x : Name) → (has_name x (vars_all ts) ≡ true → ⊥) → (has_name x k.moved ≡ true → ⊥) → has_name x (vars_all vs) ≡ true → ⊥
    by_var x f g e = sides (or_cases (has_name x (vars_all ts)) (has_name x k.moved) (sym (has_name_append x (vars_all ts) k.moved) ∙ k.vars_kept.by x e))
      where
        sides : (has_name x (vars_all ts) ≡ true) ⊎ (has_name x k.moved ≡ true) → ⊥
        sides (inl i) = f i
        sides (inr i) = g i

    no_var : (x : Name) → has_name x (list_names vs) ≡ true → once_each (list_names ts) (list_names ts) ≡ true → none_in (list_names ts) (vars_all ts) ≡ true → has_name x (list_names ts) ≡ true → has_name x (vars_all vs) ≡ false
    no_var x i o n j = false_from_ne_true (has_name x (vars_all vs)) (by_var x (λ e. false≢true (sym (none_said (list_names ts) (vars_all ts) n x j) ∙ e)) (λ e. omega (arith, once_said (list_names ts) (list_names ts) o x j, k.names_moved x, has_times x (list_names vs) i, has_times x k.moved e)))

    no_import : (x : Name) → none_in (import_names ts) (vars_all ts) ≡ true → none_in (list_names ts) (import_names ts) ≡ true → has_name x (import_names ts) ≡ true → has_name x (vars_all vs) ≡ false
    no_import x n m j = false_from_ne_true (has_name x (vars_all vs)) (by_var x (λ e. false≢true (sym (none_said (import_names ts) (vars_all ts) n x j) ∙ e)) (λ e. false≢true (sym (none_said (list_names ts) (import_names ts) m x ((fewer_within (moved_named k)).by x e)) ∙ j)))

pub module_keeps : (ss : List Span) {ts vs : Forest} → KeepsModule ts vs → Keeps (node Module ss ts) (node Module ss vs)
unfolding own_scopes
module_keeps ss {ts} {vs} k = record {
  scopes_kept = λ x. omega (arith, k.scopes_kept x, one_if_kept (module_binds ts x) (module_binds vs x) (binds_by k x));
  vars_kept = within_same [];
  names_kept = fewer_same [];
  own_kept = fewer_same [];
  frame_kept = refl;
  part_kept = tt;
  listed_kept = λ h. h;
  valid_kept = λ h. k.valid_kept (valid_below Module ss ts h);
  aimed_kept = λ g h. k.aimed_kept g h;
  apart_kept = λ h. k.apart_kept h;
  fits_kept = λ h. let p = and_parts (good_scope Module ts) (fits_all ts) h in and_from (good_scope Module vs) (fits_all vs) (good_by k p.0) (k.fits_kept p.1);
}

-- names of statements that go

pub lexical_names : (b : Bool) (xs : List Name) → first_names (as_lexicals b xs) ≡ xs
lexical_names b [] = refl
lexical_names b (x ∷ xs) = ap (λ ys. x ∷ ys) (lexical_names b xs)

declared_identifier : (x : Name) (l : Label) → good_names l ≡ true → has_name x (declarator_name l) ≡ true → is_identifier x.text ≡ true
declared_identifier x (Declarator kind y) g e = by_name (or_cases (same_name x y) false e)
  where
    by_name : (same_name x y ≡ true) ⊎ (false ≡ true) → is_identifier x.text ≡ true
    by_name (inl i) = subst (λ z. is_identifier z.text ≡ true) (sym (same_name_path x y i)) g
    by_name (inr i) = absurd (false≢true i)
declared_identifier x l g e = absurd (false≢true e)

declarator_identifier : (x : Name) (cs : Forest) → valid_all cs ≡ true → has_name x (declarator_names cs) ≡ true → is_identifier x.text ≡ true
declarator_identifier x ε v e = absurd (false≢true e)
declarator_identifier x (node l ss cs ⊳ ts) v e =
    let p = and_parts (valid (node l ss cs)) (valid_all ts) v in
    let q = and_parts (good_names l && good_shape l cs) (valid_all cs) p.0 in
    by_place (and_parts (good_names l) (good_shape l cs) q.0).0 (declarator_identifier x ts p.1) (or_cases (has_name x (declarator_name l)) (has_name x (declarator_names ts)) (sym (has_name_append x (declarator_name l) (declarator_names ts)) ∙ e))
  where
    by_place : good_names l ≡ true → (has_name x (declarator_names ts) ≡ true → is_identifier x.text ≡ true) → (has_name x (declarator_name l) ≡ true) ⊎ (has_name x (declarator_names ts) ≡ true) → is_identifier x.text ≡ true
    by_place g f (inl i) = declared_identifier x l g i
    by_place g f (inr i) = f i

-- a module statement is a plain one, or its names are those of its declarators
pub data ModuleStatement (t : Tree) : Type 0 where
  plain_one : is_plain_statement (label_of t) ≡ true → ModuleStatement t
  lexical_one : {kind : VarDeclKind} {ss : List Span} {cs : Forest} → t ≡ node (VarDecl kind) ss cs → names_of t ≡ declarator_names cs → vars t ≡ [] → ModuleStatement t

-- declarators of `let` or `const` hold no `var`

let_holds_none : (l : Label) (ss : List Span) (cs : Forest) → is_declarator_of Let l ≡ true → vars (node l ss cs) ≡ []
let_holds_none (Declarator Let x) ss cs h = refl
let_holds_none l ss cs h = absurd (false≢true h)

const_holds_none : (l : Label) (ss : List Span) (cs : Forest) → is_declarator_of Const l ≡ true → vars (node l ss cs) ≡ []
const_holds_none (Declarator Const x) ss cs h = refl
const_holds_none l ss cs h = absurd (false≢true h)

pub lets_hold_none : (cs : Forest) → all_labels (is_declarator_of Let) (labels_of cs) ≡ true → vars_all cs ≡ []
lets_hold_none cs h = no_vars (is_declarator_of Let) let_holds_none cs h

pub consts_hold_none : (cs : Forest) → all_labels (is_declarator_of Const) (labels_of cs) ≡ true → vars_all cs ≡ []
consts_hold_none cs h = no_vars (is_declarator_of Const) const_holds_none cs h

pub module_statement : (t : Tree) → is_statement t ≡ true → ModuleStatement t
module_statement (node (VarDecl Var) ss cs) h = plain_one refl
module_statement (node (VarDecl Let) ss cs) h = lexical_one refl (lexical_names true (declarator_names cs)) (lets_hold_none cs h)
module_statement (node (VarDecl Const) ss cs) h = lexical_one refl (lexical_names false (declarator_names cs)) (consts_hold_none cs h)
module_statement (node l ss cs) h = plain_one h

statement_identifier : (x : Name) (t : Tree) → ModuleStatement t → valid t ≡ true → has_name x (names_of t) ≡ true → is_identifier x.text ≡ true
statement_identifier x t (plain_one h) v e = absurd (false≢true (sym (ap (has_name x) (plain_nothing t h).no_names) ∙ e))
statement_identifier x t (lexical_one {kind = kind} {ss = ss} {cs = cs} p q r) v e = declarator_identifier x cs (valid_below (VarDecl kind) ss cs (subst (λ z. valid z ≡ true) p v)) (subst (λ xs. has_name x xs ≡ true) q e)

going_names : (x : Name) (ts : Forest) → all_statements ts ≡ true → valid_all ts ≡ true → has_name x (list_names (going ts)) ≡ true → is_identifier x.text ≡ true
going_names x ε h v e = absurd (false≢true e)
going_names x (t ⊳ ts) h v e =
    let p = and_parts (stays_behind t || is_statement t) (all_statements ts) h in
    let q = and_parts (valid t) (valid_all ts) v in
    by_stay (stays_behind t) p.0 q.0 (going_names x ts p.1 q.1) e
  where
    by_place : is_statement t ≡ true → valid t ≡ true → (has_name x (list_names (going ts)) ≡ true → is_identifier x.text ≡ true) → (has_name x (names_of t) ≡ true) ⊎ (has_name x (list_names (going ts)) ≡ true) → is_identifier x.text ≡ true
    by_place m w f (inl i) = statement_identifier x t (module_statement t m) w i
    by_place m w f (inr i) = f i

    by_stay : (b : Bool) → (b || is_statement t) ≡ true → valid t ≡ true → (has_name x (list_names (going ts)) ≡ true → is_identifier x.text ≡ true) → has_name x (list_names (if b then going ts else t ⊳ going ts)) ≡ true → is_identifier x.text ≡ true
    by_stay true m w f i = f i
    by_stay false m w f i = by_place m w f (or_cases (has_name x (names_of t)) (has_name x (list_names (going ts))) (sym (has_name_append x (names_of t) (list_names (going ts))) ∙ subst (λ xs. has_name x xs ≡ true) (names_cons t (going ts)) i))

pub going_identifier : (x : Name) (ts : Forest) → all_statements ts ≡ true → valid_all ts ≡ true → has_name x (all_declared (going ts)) ≡ true → is_identifier x.text ≡ true
going_identifier x ts h v e = by_place (or_cases (has_name x (vars_all (going ts))) (has_name x (list_names (going ts))) (sym (has_name_append x (vars_all (going ts)) (list_names (going ts))) ∙ e))
  where
    by_place : (has_name x (vars_all (going ts)) ≡ true) ⊎ (has_name x (list_names (going ts)) ≡ true) → is_identifier x.text ≡ true
    by_place (inl i) = all_var_identifiers x (going ts) (going_valid ts v) i
    by_place (inr i) = going_names x ts h v i

-- weights of statements that go

declarators_weight : (cs : Forest) → 4 * length (declarator_names cs) ≤ weight_all cs
unfolding own_weight
declarators_weight ε = omega arith
declarators_weight (node (Declarator kind x) ss cs ⊳ ts) = omega (arith, declarators_weight ts)
declarators_weight (node l ss cs ⊳ ts) = omega (arith, declarators_weight ts)

lexical_weight : (t : Tree) (kind : VarDeclKind) (ss : List Span) (cs : Forest) → t ≡ node (VarDecl kind) ss cs → 3 + weight_all cs ≤ weight t
unfolding own_weight
lexical_weight t kind ss cs p = subst (λ z. 3 + weight_all cs ≤ weight z) (sym p) (omega arith)

module_statement_weight : (t : Tree) → ModuleStatement t → 4 * (length (vars t) + length (names_of t)) + 1 ≤ weight t
module_statement_weight t (plain_one h) = omega (arith, statement_weight t (or_left (is_plain_statement (label_of t)) _ h), ap length (plain_nothing t h).no_names)
module_statement_weight t (lexical_one {kind = kind} {ss = ss} {cs = cs} p q r) = omega (arith, lexical_weight t kind ss cs p, declarators_weight cs, ap length q, ap length r)

names_length : (t : Tree) (ts : Forest) → length (list_names (t ⊳ ts)) ≡ length (names_of t) + length (list_names ts)
names_length t ts = ap length (names_cons t ts) ∙ length-append (names_of t) (list_names ts)

going_weight : (ts : Forest) → all_statements ts ≡ true → 4 * (length (vars_all (going ts)) + length (list_names (going ts))) + count (going ts) ≤ weight_all (going ts)
going_weight ε h = omega arith
going_weight (t ⊳ ts) h = let p = and_parts (stays_behind t || is_statement t) (all_statements ts) h in by_stay (stays_behind t) p.0 (going_weight ts p.1)
  where
    by_stay : (b : Bool) → (b || is_statement t) ≡ true → 4 * (length (vars_all (going ts)) + length (list_names (going ts))) + count (going ts) ≤ weight_all (going ts) → 4 * (length (vars_all (if b then going ts else t ⊳ going ts)) + length (list_names (if b then going ts else t ⊳ going ts))) + count (if b then going ts else t ⊳ going ts) ≤ weight_all (if b then going ts else t ⊳ going ts)
    by_stay true i e = e
    by_stay false i e = omega (arith, module_statement_weight t (module_statement t i), length-append (vars t) (vars_all (going ts)), names_length t (going ts))

hoists_weight : {P : Name → Type 0} {ts hs : Forest} → ModuleHoists P ts hs → weight_all hs ≤ 4 * (length (vars_all ts) + length (list_names ts)) + 3
unfolding own_weight
hoists_weight (no_names h g) = omega arith
hoists_weight {P} {ts} (some_names {ss = ss} {ds = ds} b f g p n m) = omega (arith, bare_weight ds b, length-append (vars_all ts) (list_names ts))

hoists_none : {P : Name → Type 0} {hs : Forest} → ModuleHoists P ε hs → hs ≡ ε
hoists_none (no_names h g) = refl
hoists_none (some_names b f g p n m) = absurd (omega arith)

hoists_unreached : {P : Name → Type 0} {ts hs : Forest} (us : Forest) → ModuleHoists P ts hs → unreached (joined hs us) ≡ unreached us
hoists_unreached us (no_names h g) = refl
hoists_unreached us (some_names b f g p n m) = refl

pub cuts_settled : {P : Name → Type 0} {ts us : Forest} → ModuleCuts P ts us → unreached us ≡ 0
cuts_settled uncut = refl
cuts_settled (past_item {t = t} {us = us} h c) = ap (λ s. if s then movable us else unreached us) h ∙ cuts_settled c
cuts_settled (cut_at {t = t} {ts = ts} h o) = hoists_unreached (t ⊳ staying ts) o ∙ ap (λ s. if s then movable (staying ts) else unreached (staying ts)) h ∙ staying_movable ts

cut_by : {P : Name → Type 0} (t : Tree) (ts hs : Forest) → is_stopper t ≡ true → all_statements ts ≡ true → ModuleHoists P (going ts) hs → (movable ts ≡ 0) ⊎ (1 ≤ movable ts) → Cut (t ⊳ ts) (joined hs (t ⊳ staying ts))
cut_by {P} t ts hs h a o (inl e) = same_list (ap₂ (λ x y. joined x (t ⊳ y)) (hoists_none (subst (λ z. ModuleHoists P z hs) (going_none ts e) o)) (staying_all ts e)) (ap (λ s. if s then movable ts else unreached ts) h ∙ e)
cut_by t ts hs h a o (inr e) = cut_list (subst (λ s. 1 ≤ (if s then movable ts else unreached ts)) (sym h) e) (omega (arith, weight_joined hs (t ⊳ staying ts), hoists_weight o, parted_weight ts, going_weight ts a, going_count ts))

pub cuts_weight : {P : Name → Type 0} {ts us : Forest} → ModuleCuts P ts us → all_statements ts ≡ true → Cut ts us
cuts_weight uncut a = same_list refl refl
cuts_weight (past_item {t = t} {ts = ts} {us = us} h c) a = past_by t ts us h (cuts_weight c (and_parts (stays_behind t || is_statement t) (all_statements ts) a).1)
cuts_weight (cut_at {t = t} {ts = ts} {hs = hs} h o) a = cut_by t ts hs h (and_parts (stays_behind t || is_statement t) (all_statements ts) a).1 o (none_or_some (movable ts))

-- what is kept

parted_names : (x : Name) (ts : Forest) → times_in x (list_names (staying ts)) + times_in x (list_names (going ts)) ≡ times_in x (list_names ts)
parted_names x ε = refl
parted_names x (t ⊳ ts) = by_stay (stays_behind t) (parted_names x ts)
  where
    front : (us : Forest) → times_in x (list_names (t ⊳ us)) ≡ times_in x (names_of t) + times_in x (list_names us)
    front us = ap (times_in x) (names_cons t us) ∙ times_append x (names_of t) (list_names us)

    by_stay : (b : Bool) → times_in x (list_names (staying ts)) + times_in x (list_names (going ts)) ≡ times_in x (list_names ts) → times_in x (list_names (if b then t ⊳ staying ts else staying ts)) + times_in x (list_names (if b then going ts else t ⊳ going ts)) ≡ times_in x (list_names (t ⊳ ts))
    by_stay true e = omega (arith, e, front (staying ts), front ts)
    by_stay false e = omega (arith, e, front (going ts), front ts)

kept_module : {ts vs : Forest} → KeepsAll ts vs → KeepsModule ts vs
kept_module {ts} {vs} k = record {
  moved = [];
  scopes_kept = k.scopes_kept;
  vars_kept = subst (λ xs. Within (vars_all vs) xs) (sym (append-nil (vars_all ts))) k.list_kept.vars_kept;
  names_moved = λ x. omega (arith, k.list_kept.names_kept.by x);
  imports_kept = k.imports_kept;
  valid_kept = k.valid_kept;
  aimed_kept = k.aimed_kept;
  apart_kept = k.apart_kept;
  fits_kept = k.fits_kept;
}

-- What stands in front of a stopper.
pub record Added (ts hs : Forest) : Type 0 where
  pub opens_none : (x : Name) → scopes_all x hs ≡ 0
  pub vars_there : Within (vars_all hs) (all_declared ts)
  pub no_lexicals : list_names hs ≡ []
  pub no_imports : import_names hs ≡ []
  pub no_exports : exports_all hs ≡ []
  pub valid_too : ((x : Name) → has_name x (all_declared ts) ≡ true → is_identifier x.text ≡ true) → valid_all hs ≡ true
  pub aims : (g : Targets) → aimed_all g hs ≡ true
  pub stands_apart : apart_all hs ≡ true
  pub fits_too : fits_all hs ≡ true

pub hoists_added : {P : Name → Type 0} {ts hs : Forest} → ModuleHoists P ts hs → Added ts hs
unfolding own_scopes
hoists_added {P} {ts} (no_names h g) = record { opens_none = λ x. refl; vars_there = within_none _; no_lexicals = refl; no_imports = refl; no_exports = refl; valid_too = λ f. refl; aims = λ g. refl; stands_apart = refl; fits_too = refl }
hoists_added {P} {ts} (some_names {ss = ss} {ds = ds} b f g p n m) = record {
  opens_none = λ x. omega (arith, bare_scopes x ds b);
  vars_there = subst (λ xs. Within xs (all_declared ts)) (sym (append-nil (vars_all ds) ∙ bare_vars ds b)) f;
  no_lexicals = refl;
  no_imports = refl;
  no_exports = refl;
  valid_too = λ h. and_from (nat_le 1 (count ds) && valid_all ds) true (and_from (nat_le 1 (count ds)) (valid_all ds) (le-leb 1 (count ds) n) (bare_valid ds b (λ x i. h x (f.by x i)))) refl;
  aims = λ g. and_from (aimed_all _ ds) true (bare_aimed _ ds b) refl;
  stands_apart = and_from (apart_all ds) true (bare_apart ds b) refl;
  fits_too = and_from (fits_all ds) true (bare_fit ds b) refl;
}

kept_added : {ts hs : Forest} (t : Tree) → all_statements ts ≡ true → Added (going ts) hs → KeepsModule (t ⊳ ts) (joined hs (t ⊳ staying ts))
kept_added {ts} {hs} t m a =
    let k = kept_joined (together (more_kept (keeps_itself t) none_kept)) (staying_keeps ts) in
    record {
      moved = list_names (going ts);
      scopes_kept = λ x. omega (arith, k.scopes_kept x, scopes_joined x hs (t ⊳ staying ts), a.opens_none x);
      vars_kept = subst (λ xs. Within xs (vars_all (t ⊳ ts) ++ list_names (going ts))) (sym (vars_joined hs (t ⊳ staying ts))) (within_both (within_trans a.vars_there (within_append (within_trans (going_vars ts) (within_second (vars t) (vars_all ts))) (within_same _))) (within_trans k.list_kept.vars_kept (within_first _ _)));
      names_moved = λ x. omega (arith, ap (times_in x) (names_joined hs (t ⊳ staying ts) ∙ ap (λ xs. xs ++ list_names (t ⊳ staying ts)) a.no_lexicals), front x (staying ts), front x ts, parted_names x ts);
      imports_kept = subst (λ xs. Fewer xs (import_names (t ⊳ ts))) (sym (imports_joined hs (t ⊳ staying ts) ∙ ap (λ xs. xs ++ import_names (t ⊳ staying ts)) a.no_imports)) k.imports_kept;
      valid_kept = λ v. valid_joined hs (t ⊳ staying ts) (a.valid_too (λ x h. going_identifier x ts m (and_parts (valid t) (valid_all ts) v).1 h)) (k.valid_kept v);
      aimed_kept = λ g h. aimed_joined (without_own g) hs (t ⊳ staying ts) (a.aims (without_own g)) (k.aimed_kept g h);
      apart_kept = λ h. apart_joined hs (t ⊳ staying ts) a.stands_apart (k.apart_kept h);
      fits_kept = λ h. fits_joined hs (t ⊳ staying ts) a.fits_too (k.fits_kept h);
    }
  where
    front : (x : Name) (us : Forest) → times_in x (list_names (t ⊳ us)) ≡ times_in x (names_of t) + times_in x (list_names us)
    front x us = ap (times_in x) (names_cons t us) ∙ times_append x (names_of t) (list_names us)

kept_front : {ts us : Forest} (t : Tree) → KeepsModule ts us → KeepsModule (t ⊳ ts) (t ⊳ us)
kept_front {ts} {us} t k = record {
  moved = k.moved;
  scopes_kept = λ x. omega (arith, k.scopes_kept x);
  vars_kept = subst (λ xs. Within (vars t ++ vars_all us) xs) (sym (append_assoc (vars t) (vars_all ts) k.moved)) (within_append (within_same (vars t)) k.vars_kept);
  names_moved = λ x. omega (arith, front x us, front x ts, k.names_moved x);
  imports_kept = import_front t k.imports_kept;
  valid_kept = λ v. let p = and_parts (valid t) (valid_all ts) v in and_from (valid t) (valid_all us) p.0 (k.valid_kept p.1);
  aimed_kept = λ g v. let p = and_parts (aimed (without_own g) t) (aimed_all (without_own g) ts) v in and_from (aimed (without_own g) t) (aimed_all (without_own g) us) p.0 (k.aimed_kept g p.1);
  apart_kept = λ v. let p = and_parts (apart t) (apart_all ts) v in and_from (apart t) (apart_all us) p.0 (k.apart_kept p.1);
  fits_kept = λ v. let p = and_parts (fits t) (fits_all ts) v in and_from (fits t) (fits_all us) p.0 (k.fits_kept p.1);
}
  where
    front : (x : Name) (us : Forest) → times_in x (list_names (t ⊳ us)) ≡ times_in x (names_of t) + times_in x (list_names us)
    front x us = ap (times_in x) (names_cons t us) ∙ times_append x (names_of t) (list_names us)

    import_front : (t : Tree) → Fewer (import_names us) (import_names ts) → Fewer (import_names (t ⊳ us)) (import_names (t ⊳ ts))
    import_front (node l ss cs) f = fewer_append (fewer_same _) f

pub cuts_keep : {P : Name → Type 0} {ts us : Forest} → ModuleCuts P ts us → all_statements ts ≡ true → KeepsModule ts us
cuts_keep uncut m = kept_module (all_dropped ε)
cuts_keep (past_item {t = t} {ts = ts} h c) m = kept_front t (cuts_keep c (and_parts (stays_behind t || is_statement t) (all_statements ts) m).1)
cuts_keep (cut_at {t = t} {ts = ts} {hs = hs} h o) m = kept_added t (and_parts (stays_behind t || is_statement t) (all_statements ts) m).1 (hoists_added o)

pub kept_after : {ts us vs : Forest} → KeepsAll ts us → KeepsModule us vs → KeepsModule ts vs
kept_after {ts} {us} {vs} h k = record {
  moved = k.moved;
  scopes_kept = λ x. omega (arith, h.scopes_kept x, k.scopes_kept x);
  vars_kept = within_trans k.vars_kept (within_append h.list_kept.vars_kept (within_same k.moved));
  names_moved = λ x. omega (arith, k.names_moved x, h.list_kept.names_kept.by x);
  imports_kept = fewer_trans k.imports_kept h.imports_kept;
  valid_kept = λ v. k.valid_kept (h.valid_kept v);
  aimed_kept = λ g v. k.aimed_kept g (h.aimed_kept g v);
  apart_kept = λ v. k.apart_kept (h.apart_kept v);
  fits_kept = λ v. k.fits_kept (h.fits_kept v);
}
