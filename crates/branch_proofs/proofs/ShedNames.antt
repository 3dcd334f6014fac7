-- A list that is cut declares what it does without its `let` and `const`, off their names.
use Rattle.std.proofs.Common.{◌≡◌, Bool, true, false, ◌||◌, if◌then◌else◌, List, [], ◌++◌, refl, sym, ap, ap₂, ◌∙◌}
use Rattle.std.proofs.lemmas.Bool.{and_parts, false≢true}
use Rattle.swc_ast.specs.declared.VarDeclKind.TheVariants.{Var, Let, Const}
use Rattle.swc_ast.specs.Tree.{Name, VarDecl, Tree, node, Forest, ε, ◌⊳◌}
use Rattle.swc_ast.specs.Scope.{has_name, found, vars, vars_all, declarator_names}
use Rattle.swc_ast.specs.Weight.{stays_behind}
use Rattle.meaning_proofs.specs.Roles.{holds_function, SameLists}
use Rattle.meaning_proofs.specs.Walks.{dead_names}
use Rattle.meaning_proofs.proofs.Finds.{has_cons, has_joined}
use Rattle.static_proofs.proofs.Names.{has_name_append}
use Rattle.branch_rules.specs.Lists.{staying, going, Cut, uncut, past_item, cut_at, is_statement, all_statements}
use Rattle.static_proofs.specs.Shaped.{is_lexical}
use Rattle.branch_rules.specs.Switches.{unlet}
use Rattle.branch_rules.specs.Vars.{names_left, all_names_left}
use Rattle.branch_proofs.proofs.Escapes.{neither}
use Rattle.branch_proofs.proofs.Modules.{lets_hold_none, consts_hold_none}
use Rattle.branch_proofs.proofs.Shedding.{cut_between, cut_declares, unlet_vars}
use Rattle.branch_proofs.proofs.TidiedOwe.{those_back, going_all, all_names_are}
use Rattle.branch_proofs.proofs.Vars.{declares_vars, left_has}

-- the names of `let` and `const` among statements
abbrev pub shed_names : Tree → List Name
shed_names (node (VarDecl k) ss ds) = if is_lexical k then declarator_names ds else []
shed_names _ = []

abbrev pub let_names : Forest → List Name
let_names ε = []
let_names (t ⊳ ts) = shed_names t ++ let_names ts

-- those that go where a list is cut
abbrev pub cut_names : {kept : Name → Bool} {ts vs : Forest} → Cut kept ts vs → List Name
cut_names uncut = []
cut_names (past_item t h c) = cut_names c
cut_names (cut_at t ts h o) = let_names ts

not_there : (b : Bool) → (b ≡ true → ⊥) → b ≡ false
not_there true h = absurd (h refl)
not_there false h = refl

module _ (kept : Name → Bool) (x : Name) where
  item_left : (t : Tree) → is_statement t ≡ true → has_name x (shed_names t) ≡ false → has_name x (names_left kept t) ≡ has_name x (vars t)
  item_left (node (VarDecl Var) ss cs) h e = refl
  item_left (node (VarDecl Let) ss cs) h e = not_there _ (λ i. false≢true (sym e ∙ those_back kept x (declarator_names cs) i)) ∙ ap (has_name x) (sym (lets_hold_none cs h))
  item_left (node (VarDecl Const) ss cs) h e = not_there _ (λ i. false≢true (sym e ∙ those_back kept x (declarator_names cs) i)) ∙ ap (has_name x) (sym (consts_hold_none cs h))
  item_left (node l ss cs) h e = refl

  left_vars : (ts : Forest) → all_statements ts ≡ true → has_name x (let_names ts) ≡ false → has_name x (all_names_left kept (going ts)) ≡ has_name x (vars_all (going ts))
  left_vars ε h e = refl
  left_vars (t ⊳ ts) h e =
      let p = and_parts (stays_behind t || is_statement t) (all_statements ts) h in
      let q = neither (has_name x (shed_names t)) (has_name x (let_names ts)) (sym (has_name_append x (shed_names t) (let_names ts)) ∙ e) in
      by_stay (stays_behind t) p.0 q.0 (left_vars ts p.1 q.1)
    where
      by_stay : (b : Bool) → (b || is_statement t) ≡ true → has_name x (shed_names t) ≡ false → has_name x (all_names_left kept (going ts)) ≡ has_name x (vars_all (going ts)) → has_name x (all_names_left kept (if b then going ts else t ⊳ going ts)) ≡ has_name x (vars_all (if b then going ts else t ⊳ going ts))
      by_stay true h e i = i
      by_stay false h e i = has_name_append x (names_left kept t) (all_names_left kept (going ts)) ∙ ap₂ ◌||◌ (item_left t h e) i ∙ sym (has_name_append x (vars t) (vars_all (going ts)))

or_part : (a b d : Bool) → (a || (b || d)) ≡ (b || (a || d))
or_part true true d = refl
or_part true false d = refl
or_part false b d = refl

or_chain : (a b d : Bool) → (a || (b || d)) ≡ ((a || b) || d)
or_chain true b d = refl
or_chain false b d = refl

parted : (x : Name) (t : Tree) (ts : Forest) (b : Bool) → (has_name x (vars_all (going ts)) || has_name x (vars_all (staying ts))) ≡ has_name x (vars_all ts) → (has_name x (vars_all (if b then going ts else t ⊳ going ts)) || has_name x (vars_all (if b then t ⊳ staying ts else staying ts))) ≡ (has_name x (vars t) || has_name x (vars_all ts))
parted x t ts true h = ap (λ z. has_name x (vars_all (going ts)) || z) (has_cons x t (staying ts)) ∙ or_part (has_name x (vars_all (going ts))) (has_name x (vars t)) (has_name x (vars_all (staying ts))) ∙ ap (λ z. has_name x (vars t) || z) h
parted x t ts false h = ap (λ z. z || has_name x (vars_all (staying ts))) (has_cons x t (going ts)) ∙ sym (or_chain (has_name x (vars t)) (has_name x (vars_all (going ts))) (has_name x (vars_all (staying ts)))) ∙ ap (λ z. has_name x (vars t) || z) h

parts_vars : (x : Name) (ts : Forest) → (has_name x (vars_all (going ts)) || has_name x (vars_all (staying ts))) ≡ has_name x (vars_all ts)
parts_vars x ε = refl
parts_vars x (t ⊳ ts) = parted x t ts (stays_behind t) (parts_vars x ts) ∙ sym (has_cons x t ts)

-- names of the cut list that are no shed ones
pub cut_vars : (x : Name) {kept : Name → Bool} {ts vs : Forest} (c : Cut kept ts vs) → all_statements ts ≡ true → has_name x (cut_names c) ≡ false → has_name x (vars_all (cut_between c)) ≡ has_name x (vars_all vs)
cut_vars x uncut m e = refl
cut_vars x (past_item t {ts} {us} h c) m e = has_cons x t (cut_between c) ∙ ap (λ b. has_name x (vars t) || b) (cut_vars x c (and_parts (stays_behind t || is_statement t) (all_statements ts) m).1 e) ∙ sym (has_cons x t us)
cut_vars x {kept} (cut_at t ts {vs} h o) m e =
    let p = (and_parts (stays_behind t || is_statement t) (all_statements ts) m).1 in
    has_cons x t (unlet ts) ∙ ap (λ xs. has_name x (vars t) || has_name x xs) (unlet_vars ts p)
    ∙ ap (λ b. has_name x (vars t) || b) (sym (parts_vars x ts)) ∙ or_part (has_name x (vars t)) (has_name x (vars_all (going ts))) (has_name x (vars_all (staying ts)))
    ∙ ap (λ b. b || (has_name x (vars t) || has_name x (vars_all (staying ts)))) (sym (declares_vars o x ∙ left_has x (all_names_left kept (going ts)) ∙ left_vars kept x ts p e))
    ∙ sym (has_joined x vs (t ⊳ staying ts) ∙ ap (λ b. has_name x (vars_all vs) || b) (has_cons x t (staying ts)))

-- and each `var` stays one
or_more : (a b d : Bool) → (a ≡ true → b ≡ true) → (a || d) ≡ true → (b || d) ≡ true
or_more a true d h e = refl
or_more true false d h e = absurd (false≢true (h refl))
or_more false false d h e = e

or_kept : (a b d : Bool) → (b ≡ true → d ≡ true) → (a || b) ≡ true → (a || d) ≡ true
or_kept true b d h e = refl
or_kept false b d h e = h e

pub cut_vars_stay : (x : Name) {kept : Name → Bool} {ts vs : Forest} (c : Cut kept ts vs) → all_statements ts ≡ true → has_name x (vars_all (cut_between c)) ≡ true → has_name x (vars_all vs) ≡ true
cut_vars_stay x uncut m e = e
cut_vars_stay x (past_item t {ts} {us} h c) m e = has_cons x t us ∙ or_kept (has_name x (vars t)) (has_name x (vars_all (cut_between c))) (has_name x (vars_all us)) (cut_vars_stay x c (and_parts (stays_behind t || is_statement t) (all_statements ts) m).1) (sym (has_cons x t (cut_between c)) ∙ e)
cut_vars_stay x {kept} (cut_at t ts {vs} h o) m e =
    let p = (and_parts (stays_behind t || is_statement t) (all_statements ts) m).1 in
    let old = sym (or_part (has_name x (vars t)) (has_name x (vars_all (going ts))) (has_name x (vars_all (staying ts)))) ∙ ap (λ b. has_name x (vars t) || b) (parts_vars x ts) ∙ ap (λ xs. has_name x (vars t) || has_name x xs) (sym (unlet_vars ts p)) ∙ sym (has_cons x t (unlet ts)) ∙ e in
    has_joined x vs (t ⊳ staying ts) ∙ ap (λ b. has_name x (vars_all vs) || b) (has_cons x t (staying ts)) ∙ or_more (has_name x (vars_all (going ts))) (has_name x (vars_all vs)) (has_name x (vars t) || has_name x (vars_all (staying ts))) (λ i. declares_vars o x ∙ left_has x (all_names_left kept (going ts)) ∙ (all_names_are kept (going ts) (going_all ts p)).vars_in.by x i) old

-- a list that is cut declares the same, off the names that go
pub cut_same : (dead : Name → Bool) {kept : Name → Bool} {ts vs : Forest} (c : Cut kept ts vs) → all_statements ts ≡ true → ((x : Name) → has_name x (cut_names c) ≡ true → dead x ≡ true) → SameLists (dead_names dead) (cut_between c) vs
cut_same dead c m f = record {
  vars = λ x keeps z. cut_vars x c m (not_there _ (λ i. false≢true (sym keeps ∙ f x i)));
  guarded_vars = λ x g v. cut_vars_stay x c m v;
  declares = λ x keeps. ap (found x) (cut_declares c m);
  functions = λ x g v. ap (λ ps. holds_function (found x ps)) (cut_declares c m) ∙ v;
}
