-- A list that is tidied keeps and spares what a pass may not touch, and is lighter.
use Rattle.std.proofs.Common.{◌≡◌, suc, ◌+◌, ◌≤◌, Bool, true, false, ◌&&◌, ◌||◌, if◌then◌else◌, List, [], ◌∷◌, ◌++◌, length, refl, sym, ap, ap₂, subst, ◌∙◌, arith, length-append, ◌⊎◌, inl, inr}
use Rattle.std.proofs.lemmas.Bool.{and_parts, and_from, or_cases, or_left, or_right, false≢true}
use Rattle.swc_ast.specs.Labels.{is_var_declaration}
use Rattle.swc_ast.specs.declared.Span.{Span}
use Rattle.swc_ast.specs.declared.VarDeclKind.TheVariants.{Var, Let, Const}
use Rattle.swc_ast.specs.Tree.{Name, Text, same_name, Label, Block, VarDecl, Body, CaseBody, Module, Script, ExportNamed, ExportSpecifier, Tree, node, Forest, ε, ◌⊳◌}
use Rattle.swc_ast.specs.Scope.{has_name, vars, vars_all, declarator_names, joined}
use Rattle.swc_ast.specs.Core.{list_names}
use Rattle.swc_ast.specs.Reach.{is_exported}
use Rattle.swc_ast.specs.Run.{specifier_export, specifier_exports, item_exports, exported}
use Rattle.swc_ast.specs.Weight.{is_list, stays_behind}
use Rattle.static_proofs.specs.Names.{Within, names_of}
use Rattle.static_proofs.specs.Spares.{Spared, export_name, export_names, exports_by, exports_all}
use Rattle.static_proofs.specs.Step.{Step}
use Rattle.static_proofs.proofs.Names.{within_same, within_none, within_append, same_name_path, same_name_itself}
use Rattle.static_proofs.proofs.Parts.{names_cons}
use Rattle.static_proofs.proofs.Spared.{spared_same}
use Rattle.branch_rules.specs.Statements.{is_plain}
use Rattle.branch_rules.specs.Vars.{each_once, those, names_left, all_names_left, Declares, none_declared, some_declared}
use Rattle.branch_rules.specs.Lists.{is_bare, all_bare, Swept, none_swept, item_stays, empty_goes, block_opens, going, Cut, uncut, past_item, cut_at, is_statement, all_statements, Tidied, kept_names}
use Rattle.branch_proofs.proofs.Vars.{left_has}
use Rattle.branch_proofs.proofs.ListForms as form
use Rattle.branch_proofs.proofs.ListForms.{may_go, all_may_go, Sweeps, Cuts, Tidies}
use Rattle.branch_proofs.proofs.ModuleForms as modules
use Rattle.branch_proofs.proofs.ModuleForms.{ModuleHoists, ModuleCuts}
use Rattle.branch_proofs.proofs.ModuleBinds.{module_step}
use Rattle.branch_proofs.proofs.Modules.{lexical_names, lets_hold_none, consts_hold_none}
use Rattle.branch_proofs.proofs.HoistsOf.{unset_bare, unset_names, unset_count, once_fewer, once_none, hoists_by}
use Rattle.branch_proofs.proofs.PlainNames.{plain_nothing}
use Rattle.branch_proofs.proofs.Takes.{in_front, in_back, in_either}
use Rattle.branch_proofs.proofs.Tidies.{list_step}

-- items

sweeps_of : {ts us : Forest} → Swept ts us → Sweeps ts us
sweeps_of none_swept = form.swept
sweeps_of (item_stays t s) = form.kept_item (sweeps_of s)
sweeps_of (empty_goes ss s) = form.idle_item refl refl refl (sweeps_of s)
sweeps_of (block_opens ss cs h s) = form.flat_item h (sweeps_of s)

bare_of : (t : Tree) → is_bare t ≡ true → is_statement t ≡ true
bare_of (node (VarDecl Var) ss cs) h = refl
bare_of (node (VarDecl Let) ss ε) h = refl
bare_of (node (VarDecl Const) ss ε) h = refl
bare_of (node (VarDecl Let) ss (c ⊳ cs)) h = absurd (false≢true h)
bare_of (node (VarDecl Const) ss (c ⊳ cs)) h = absurd (false≢true h)
bare_of t h = h

bares_before : (cs us : Forest) → all_bare cs ≡ true → all_statements us ≡ true → all_statements (joined cs us) ≡ true
bares_before ε us h i = i
bares_before (c ⊳ cs) us h i = let p = and_parts (is_bare c) (all_bare cs) h in and_from (stays_behind c || is_statement c) (all_statements (joined cs us)) (or_right (stays_behind c) (is_statement c) (bare_of c p.0)) (bares_before cs us p.1 i)

pub swept_statements : {ts us : Forest} → Swept ts us → all_statements ts ≡ true → all_statements us ≡ true
swept_statements none_swept h = refl
swept_statements (item_stays t {ts} {us} s) h = let p = and_parts (stays_behind t || is_statement t) (all_statements ts) h in and_from (stays_behind t || is_statement t) (all_statements us) p.0 (swept_statements s p.1)
swept_statements (empty_goes ss {ts} s) h = swept_statements s h
swept_statements (block_opens ss cs {ts} {us} b s) h = bares_before cs us b (swept_statements s h)

may_of : (t : Tree) → is_statement t ≡ true → may_go t ≡ true
may_of (node (VarDecl k) ss cs) h = or_right (is_plain (node (VarDecl k) ss cs)) true refl
may_of (node l ss cs) h = or_left (is_plain (node l ss cs)) (is_var_declaration l) h

may_item : (b : Bool) (t : Tree) → (b || is_statement t) ≡ true → (b || may_go t) ≡ true
may_item true t h = refl
may_item false t h = may_of t h

all_may : (ts : Forest) → all_statements ts ≡ true → all_may_go ts ≡ true
all_may ε h = refl
all_may (t ⊳ ts) h = let p = and_parts (stays_behind t || is_statement t) (all_statements ts) h in and_from (stays_behind t || may_go t) (all_may_go ts) (may_item (stays_behind t) t p.0) (all_may ts p.1)

-- what goes are statements

abbrev pub all_module : Forest → Bool
all_module ε = true
all_module (t ⊳ ts) = is_statement t && all_module ts

pub going_all : (ts : Forest) → all_statements ts ≡ true → all_module (going ts) ≡ true
going_all ε h = refl
going_all (t ⊳ ts) h = let p = and_parts (stays_behind t || is_statement t) (all_statements ts) h in by_stay (stays_behind t) p.0 (going_all ts p.1)
  where
    by_stay : (b : Bool) → (b || is_statement t) ≡ true → all_module (going ts) ≡ true → all_module (if b then going ts else t ⊳ going ts) ≡ true
    by_stay true i j = j
    by_stay false i j = and_from (is_statement t) (all_module (going ts)) i j

-- the names of what goes that are left: each `var`, and those of `let` and `const` that are kept
pub record Left (kept : Name → Bool) (vs ns xs : List Name) : Type 0 where
  pub vars_in : Within vs xs
  pub back : (x : Name) → has_name x xs ≡ true → (has_name x vs ≡ true) ⊎ (has_name x ns ≡ true)
  pub spared : Spared (λ x. kept x ≡ true) ns xs
  pub short : length xs ≤ length vs + length ns

left_joined : {kept : Name → Bool} (vs ns xs us ms ys : List Name) → Left kept vs ns xs → Left kept us ms ys → Left kept (vs ++ us) (ns ++ ms) (xs ++ ys)
left_joined {kept} vs ns xs us ms ys h k = record {
  vars_in = within_append h.vars_in k.vars_in;
  back = λ x e. sides x (in_either x xs ys e);
  spared = record { by = λ x p e. by_place x p (in_either x ns ms e) };
  short = omega (arith, h.short, k.short, length-append xs ys, length-append vs us, length-append ns ms);
}
  where
    first : (x : Name) → (has_name x vs ≡ true) ⊎ (has_name x ns ≡ true) → (has_name x (vs ++ us) ≡ true) ⊎ (has_name x (ns ++ ms) ≡ true)
    first x (inl i) = inl (in_front x vs us i)
    first x (inr i) = inr (in_front x ns ms i)

    second : (x : Name) → (has_name x us ≡ true) ⊎ (has_name x ms ≡ true) → (has_name x (vs ++ us) ≡ true) ⊎ (has_name x (ns ++ ms) ≡ true)
    second x (inl i) = inl (in_back x vs us i)
    second x (inr i) = inr (in_back x ns ms i)

    sides : (x : Name) → (has_name x xs ≡ true) ⊎ (has_name x ys ≡ true) → (has_name x (vs ++ us) ≡ true) ⊎ (has_name x (ns ++ ms) ≡ true)
    sides x (inl i) = first x (h.back x i)
    sides x (inr i) = second x (k.back x i)

    by_place : (x : Name) → kept x ≡ true → (has_name x ns ≡ true) ⊎ (has_name x ms ≡ true) → has_name x (xs ++ ys) ≡ true
    by_place x p (inl i) = in_front x xs ys (h.spared.by x p i)
    by_place x p (inr i) = in_back x xs ys (k.spared.by x p i)

head_or : (x y : Name) (us xs : List Name) → (has_name x us ≡ true → has_name x xs ≡ true) → (same_name x y ≡ true) ⊎ (has_name x us ≡ true) → (same_name x y || has_name x xs) ≡ true
head_or x y us xs f (inl j) = or_left (same_name x y) (has_name x xs) j
head_or x y us xs f (inr j) = or_right (same_name x y) (has_name x xs) (f j)

those_one : (b : Bool) (x y : Name) (us xs : List Name) → (has_name x us ≡ true → has_name x xs ≡ true) → has_name x (if b then y ∷ us else us) ≡ true → (same_name x y || has_name x xs) ≡ true
those_one true x y us xs f h = head_or x y us xs f (or_cases (same_name x y) (has_name x us) h)
those_one false x y us xs f h = or_right (same_name x y) (has_name x xs) (f h)

pub those_back : (kept : Name → Bool) (x : Name) (xs : List Name) → has_name x (those kept xs) ≡ true → has_name x xs ≡ true
those_back kept x [] h = h
those_back kept x (y ∷ xs) h = those_one (kept y) x y (those kept xs) xs (those_back kept x xs) h

one_there : (b : Bool) (x y : Name) (us xs : List Name) → (same_name x y ≡ true → b ≡ true) → (has_name x xs ≡ true → has_name x us ≡ true) → (same_name x y ≡ true) ⊎ (has_name x xs ≡ true) → has_name x (if b then y ∷ us else us) ≡ true
one_there true x y us xs k f (inl j) = or_left (same_name x y) (has_name x us) j
one_there true x y us xs k f (inr j) = or_right (same_name x y) (has_name x us) (f j)
one_there false x y us xs k f (inl j) = absurd (false≢true (k j))
one_there false x y us xs k f (inr j) = f j

those_there : (kept : Name → Bool) (x : Name) (xs : List Name) → kept x ≡ true → has_name x xs ≡ true → has_name x (those kept xs) ≡ true
those_there kept x [] p h = h
those_there kept x (y ∷ xs) p h = one_there (kept y) x y (those kept xs) xs (λ e. sym (ap kept (same_name_path x y e)) ∙ p) (those_there kept x xs p) (or_cases (same_name x y) (has_name x xs) h)

one_short : (b : Bool) (y : Name) (us xs : List Name) → length us ≤ length xs → length (if b then y ∷ us else us) ≤ suc (length xs)
one_short true y us xs h = omega arith
one_short false y us xs h = omega arith

those_short : (kept : Name → Bool) (xs : List Name) → length (those kept xs) ≤ length xs
those_short kept [] = omega arith
those_short kept (y ∷ xs) = one_short (kept y) y (those kept xs) xs (those_short kept xs)

lexical_left : {kept : Name → Bool} (vs ns ds : List Name) → vs ≡ [] → ns ≡ ds → Left kept vs ns (those kept ds)
lexical_left {kept} vs ns ds e f = record {
  vars_in = subst (λ zs. Within zs (those kept ds)) (sym e) (within_none _);
  back = λ x h. inr (ap (has_name x) f ∙ those_back kept x ds h);
  spared = record { by = λ x p h. those_there kept x ds p (sym (ap (has_name x) f) ∙ h) };
  short = omega (arith, those_short kept ds, ap length f);
}

plain_left : {kept : Name → Bool} (vs ns : List Name) → ns ≡ [] → Left kept vs ns vs
plain_left vs ns e = record {
  vars_in = within_same vs;
  back = λ x h. inl h;
  spared = record { by = λ x p h. absurd (false≢true (sym (ap (has_name x) e) ∙ h)) };
  short = omega arith;
}

names_are : (kept : Name → Bool) (t : Tree) → is_statement t ≡ true → Left kept (vars t) (names_of t) (names_left kept t)
names_are kept (node (VarDecl Var) ss cs) h = plain_left _ _ refl
names_are kept (node (VarDecl Let) ss cs) h = lexical_left _ _ (declarator_names cs) (lets_hold_none cs h) (lexical_names true (declarator_names cs))
names_are kept (node (VarDecl Const) ss cs) h = lexical_left _ _ (declarator_names cs) (consts_hold_none cs h) (lexical_names false (declarator_names cs))
names_are kept (node l ss cs) h = plain_left _ _ (plain_nothing (node l ss cs) h).no_names

pub all_names_are : (kept : Name → Bool) (ts : Forest) → all_module ts ≡ true → Left kept (vars_all ts) (list_names ts) (all_names_left kept ts)
all_names_are kept ε h = plain_left [] [] refl
all_names_are kept (t ⊳ ts) h = let p = and_parts (is_statement t) (all_module ts) h in subst (λ ns. Left kept (vars t ++ vars_all ts) ns (names_left kept t ++ all_names_left kept ts)) (sym (names_cons t ts)) (left_joined (vars t) (names_of t) (names_left kept t) (vars_all ts) (list_names ts) (all_names_left kept ts) (names_are kept t p.0) (all_names_are kept ts p.1))

-- the declaration in a module

nothing_in : (xs : List Name) → Within xs [] → xs ≡ []
nothing_in [] h = refl
nothing_in (x ∷ xs) h = absurd (false≢true (h.by x (or_left (same_name x x) (has_name x xs) (same_name_itself x))))

either_place : (x : Name) (xs ys : List Name) → (has_name x xs ≡ true) ⊎ (has_name x ys ≡ true) → has_name x (xs ++ ys) ≡ true
either_place x xs ys (inl h) = in_front x xs ys h
either_place x xs ys (inr h) = in_back x xs ys h

module _ (kept : Name → Bool) (ts : Forest) (a : Left kept (vars_all ts) (list_names ts) (all_names_left kept ts)) where
  module_hoists : {xs : List Name} {hs : Forest} → Declares xs hs → xs ≡ each_once [] (all_names_left kept ts) → ModuleHoists (λ x. kept x ≡ true) ts hs
  module_hoists none_declared e =
      let n = once_none (all_names_left kept ts) e in
      modules.no_names (nothing_in (vars_all ts) (subst (Within (vars_all ts)) n a.vars_in)) (subst (Spared (λ x. kept x ≡ true) (list_names ts)) n a.spared)
  module_hoists (some_declared ss {x} {xs} {ds} u) e =
      let same : (y : Name) → has_name y (declarator_names ds) ≡ has_name y (all_names_left kept ts) = λ y. ap (has_name y) (unset_names u ∙ e) ∙ left_has y (all_names_left kept ts) in
      modules.some_names (unset_bare u) (record { by = λ y h. either_place y (vars_all ts) (list_names ts) (a.back y (sym (same y) ∙ h)) }) (record { by = λ y h. same y ∙ a.vars_in.by y h }) (record { by = λ y p h. same y ∙ a.spared.by y p h })
      (omega (arith, unset_count u)) (omega (arith, unset_count u, ap length e, once_fewer [] (all_names_left kept ts), a.short, length-append (vars_all ts) (list_names ts)))

module_cuts : (kept : Name → Bool) {ts vs : Forest} → Cut kept ts vs → all_statements ts ≡ true → ModuleCuts (λ x. kept x ≡ true) ts vs
module_cuts kept uncut m = modules.uncut
module_cuts kept (past_item t {ts} h c) m = modules.past_item h (module_cuts kept c (and_parts (stays_behind t || is_statement t) (all_statements ts) m).1)
module_cuts kept (cut_at t ts h n) m = modules.cut_at h (module_hoists kept (going ts) (all_names_are kept (going ts) (going_all ts (and_parts (stays_behind t || is_statement t) (all_statements ts) m).1)) n refl)

-- the declaration elsewhere

those_none : (xs : List Name) → those (λ x. false) xs ≡ []
those_none [] = refl
those_none (x ∷ xs) = those_none xs

no_lexicals : (t : Tree) → is_statement t ≡ true → names_left (λ x. false) t ≡ vars t
no_lexicals (node (VarDecl Var) ss cs) h = refl
no_lexicals (node (VarDecl Let) ss cs) h = those_none (declarator_names cs) ∙ sym (lets_hold_none cs h)
no_lexicals (node (VarDecl Const) ss cs) h = those_none (declarator_names cs) ∙ sym (consts_hold_none cs h)
no_lexicals (node l ss cs) h = refl

vars_alone : (ts : Forest) → all_module ts ≡ true → all_names_left (λ x. false) ts ≡ vars_all ts
vars_alone ε h = refl
vars_alone (t ⊳ ts) h = let p = and_parts (is_statement t) (all_module ts) h in ap₂ ◌++◌ (no_lexicals t p.0) (vars_alone ts p.1)

cuts_of : {ts vs : Forest} → Cut (λ x. false) ts vs → all_statements ts ≡ true → Cuts ts vs
cuts_of uncut m = form.uncut
cuts_of (past_item t {ts} h c) m = form.past_item h (cuts_of c (and_parts (stays_behind t || is_statement t) (all_statements ts) m).1)
cuts_of (cut_at t ts h n) m = form.cut_at h (hoists_by (going ts) n (ap (each_once []) (vars_alone (going ts) (going_all ts (and_parts (stays_behind t || is_statement t) (all_statements ts) m).1))))

pub tidies_of : {ts vs : Forest} → Tidied (λ x. false) ts vs → Tidies ts vs
tidies_of d =
    let m = swept_statements d.sweeps d.statements in
    record { between = d.between; sweeps = sweeps_of d.sweeps; statements = all_may d.between m; cuts = cuts_of d.cuts m; changes = d.changes }

-- what a module exports by specifiers is exported

is_exported_first : (x : Name) (ps qs : List (Text × Name)) → is_exported x ps ≡ true → is_exported x (ps ++ qs) ≡ true
is_exported_first x [] qs h = absurd (false≢true h)
is_exported_first x (p ∷ ps) qs h = by_place (or_cases (same_name x p.1) (is_exported x ps) h) (is_exported_first x ps qs)
  where
    by_place : (same_name x p.1 ≡ true) ⊎ (is_exported x ps ≡ true) → (is_exported x ps ≡ true → is_exported x (ps ++ qs) ≡ true) → (same_name x p.1 || is_exported x (ps ++ qs)) ≡ true
    by_place (inl e) f = or_left (same_name x p.1) _ e
    by_place (inr e) f = or_right (same_name x p.1) _ (f e)

is_exported_second : (x : Name) (ps qs : List (Text × Name)) → is_exported x qs ≡ true → is_exported x (ps ++ qs) ≡ true
is_exported_second x [] qs h = h
is_exported_second x (p ∷ ps) qs h = or_right (same_name x p.1) _ (is_exported_second x ps qs h)

exported_either : (x : Name) (ps qs : List (Text × Name)) → (is_exported x ps ≡ true) ⊎ (is_exported x qs ≡ true) → is_exported x (ps ++ qs) ≡ true
exported_either x ps qs (inl h) = is_exported_first x ps qs h
exported_either x ps qs (inr h) = is_exported_second x ps qs h

both_ways : {A B C D : Type 0} → (A → C) → (B → D) → A ⊎ B → C ⊎ D
both_ways f g (inl a) = inl (f a)
both_ways f g (inr b) = inr (g b)

label_exports : (x : Name) (l : Label) → has_name x (export_name l) ≡ true → is_exported x (specifier_export l) ≡ true
label_exports x (ExportSpecifier y i) h = h
label_exports x _ h = absurd (false≢true h)

specifiers_export : (x : Name) (ts : Forest) → has_name x (export_names ts) ≡ true → is_exported x (specifier_exports ts) ≡ true
specifiers_export x ε h = absurd (false≢true h)
specifiers_export x (node l ss cs ⊳ ts) h = exported_either x (specifier_export l) (specifier_exports ts) (both_ways (label_exports x l) (specifiers_export x ts) (in_either x (export_name l) (export_names ts) h))

item_exports_it : (x : Name) (l : Label) (cs : Forest) → has_name x (exports_by l cs) ≡ true → is_exported x (item_exports l cs) ≡ true
item_exports_it x ExportNamed cs h = specifiers_export x cs h
item_exports_it x _ cs h = absurd (false≢true h)

exports_it : (x : Name) (ts : Forest) → has_name x (exports_all ts) ≡ true → is_exported x (exported ts) ≡ true
exports_it x ε h = absurd (false≢true h)
exports_it x (node l ss cs ⊳ ts) h = exported_either x (item_exports l cs) (exported ts) (both_ways (item_exports_it x l cs) (exports_it x ts) (in_either x (exports_by l cs) (exports_all ts) h))

-- the step of a list

pub module_step_of : (ss : List Span) {ts vs : Forest} → Tidied (kept_names Module ts) ts vs → modules.ModuleStep (λ x. kept_names Module ts x ≡ true) (node Module ss ts) (node Module ss vs)
module_step_of ss {ts} {vs} d =
    let m = swept_statements d.sweeps d.statements in
    modules.tidy_module (sweeps_of d.sweeps) m (module_cuts (kept_names Module ts) d.cuts m) d.changes

module _ {N : Type 0} {P : Name → Type 0} where
  module_owes : (ss : List Span) {ts vs : Forest} → Tidied (kept_names Module ts) ts vs → Step N P (node Module ss ts) (node Module ss vs)
  module_owes ss {ts} {vs} d =
      let s : Step N (λ x. kept_names Module ts x ≡ true) (node Module ss ts) (node Module ss vs) = module_step _ _ (module_step_of ss d) in
      record {
        keeps = s.keeps;
        spares = record {
          vars_spared = spared_same [];
          names_spared = spared_same [];
          own_spared = spared_same [];
          frame_spared = refl;
          part_spared = tt;
          exports_kept = s.spares.exports_kept;
          exports_bound_kept = λ h. s.spares.exports_bound_kept (λ x e. exports_it x ts e);
        };
        lowers = s.lowers;
      }

  pub tidied_owes : (l : Label) (ss : List Span) {ts vs : Forest} → is_list l ≡ true → Tidied (kept_names l ts) ts vs → Step N P (node l ss ts) (node l ss vs)
  tidied_owes Block ss e d = list_step _ _ (form.tidy refl refl (tidies_of d))
  tidied_owes Body ss e d = list_step _ _ (form.tidy refl refl (tidies_of d))
  tidied_owes CaseBody ss e d = list_step _ _ (form.tidy refl refl (tidies_of d))
  tidied_owes Script ss e d = list_step _ _ (form.tidy refl refl (tidies_of d))
  tidied_owes Module ss e d = module_owes ss d
  tidied_owes l ss e d = absurd (false≢true e)
