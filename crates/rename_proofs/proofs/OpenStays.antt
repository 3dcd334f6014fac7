-- What stays of a module whose exported declarations are opened.
use Rattle.std.proofs.Common.{◌≡◌, ◌+◌, ◌≤◌, ℕ, Bool, true, false, ◌&&◌, ◌||◌, List, [], ◌∷◌, refl, sym, ap, ap₂, subst, ◌∙◌, arith}
use Rattle.std.proofs.lemmas.Bool.{and_parts, and_from}
use Rattle.swc_ast.specs.declared.Span.{Span}
use Rattle.swc_ast.specs.Tree.{Name, Label, VarDecl, Declarator, FnDecl, Module, ExportDecl, Tree, node, Forest, ε, ◌⊳◌}
use Rattle.swc_ast.specs.Scope.{has_name, is_found, declarator_names, module_binds}
use Rattle.swc_ast.specs.Resolved.{one_if, own_scopes, scopes, scopes_all}
use Rattle.swc_ast.specs.Core.{once_each, none_in, good_scope, fits, fits_all, IsCore}
use Rattle.swc_ast.specs.Resolved.{first_names, no_targets, aimed, aimed_all, apart, apart_all, own_exports_bound, IsResolved}
use Rattle.swc_ast.specs.Valid.{is_identifier, good_shape, valid, valid_all}
use Rattle.rename_rules.specs.Opened.{specifiers_for, opened_item, opened_items, opened}
use Rattle.rename_proofs.proofs.Opens.{declared_opened, vars_opened, names_opened}

-- specifiers bind nothing, hold no numbers and no jumps

specifiers_scopes : (x : Name) (ss : List Span) (xs : List Name) → scopes_all x (specifiers_for ss xs) ≡ 0
unfolding own_scopes
specifiers_scopes x ss [] = refl
specifiers_scopes x ss (y ∷ ys) = ap (λ n. 0 + 0 + n) (specifiers_scopes x ss ys)

specifiers_fit : (ss : List Span) (xs : List Name) → fits_all (specifiers_for ss xs) ≡ true
specifiers_fit ss [] = refl
specifiers_fit ss (x ∷ xs) = specifiers_fit ss xs

module_binds_opened : (ts : Forest) (x : Name) → module_binds (opened_items ts) x ≡ module_binds ts x
module_binds_opened ts x = λ i. has_name x (names_opened ts i) || (has_name x (vars_opened ts i) || is_found x (declared_opened ts i))

sum_of : (a b c : ℕ) → b ≡ 0 → a + ((0 + b) + c) ≡ (0 + (a + 0)) + c
sum_of a b c e = omega (arith, e)

module _ (x : Name) where
  scopes_item : (l : Label) (ss : List Span) (cs ts : Forest) → scopes_all x (opened_item l ss cs ts) ≡ scopes x (node l ss cs) + scopes_all x ts
  unfolding own_scopes
  scopes_item ExportDecl ss (node (VarDecl k) rs ds ⊳ ε) ts = sum_of (scopes x (node (VarDecl k) rs ds)) (scopes_all x (specifiers_for ss (declarator_names ds))) (scopes_all x ts) (specifiers_scopes x ss (declarator_names ds))
  scopes_item ExportDecl ss (node (FnDecl y) rs cs ⊳ ε) ts = sum_of (scopes x (node (FnDecl y) rs cs)) (scopes_all x (specifiers_for ss (y ∷ []))) (scopes_all x ts) (specifiers_scopes x ss (y ∷ []))
  scopes_item l ss cs ts = refl

  scopes_items : (ts : Forest) → scopes_all x (opened_items ts) ≡ scopes_all x ts
  scopes_items ε = refl
  scopes_items (node l ss cs ⊳ ts) = scopes_item l ss cs (opened_items ts) ∙ ap (λ n. scopes x (node l ss cs) + n) (scopes_items ts)

  pub scopes_opened : (t : Tree) → scopes x (opened t) ≡ scopes x t
  unfolding own_scopes
  scopes_opened (node Module ss ts) = ap₂ (λ (b : Bool) (n : ℕ). one_if b + n) (module_binds_opened ts x) (scopes_items ts)
  scopes_opened (node _ ss ts) = refl

fits_item : (l : Label) (ss : List Span) (cs ts : Forest) → fits_all (opened_item l ss cs ts) ≡ (fits (node l ss cs) && fits_all ts)
fits_item ExportDecl ss (node (VarDecl k) rs ds ⊳ ε) ts = go (fits (node (VarDecl k) rs ds)) (fits_all (specifiers_for ss (declarator_names ds))) (specifiers_fit ss (declarator_names ds))
  where
    go : (a b : Bool) → b ≡ true → (a && (b && fits_all ts)) ≡ ((a && true) && fits_all ts)
    go true true e = refl
    go false b e = refl
    go true false e = cc
fits_item ExportDecl ss (node (FnDecl x) rs cs ⊳ ε) ts = go (fits (node (FnDecl x) rs cs))
  where
    go : (a : Bool) → (a && fits_all ts) ≡ ((a && true) && fits_all ts)
    go true = refl
    go false = refl
fits_item l ss cs ts = refl

fits_items : (ts : Forest) → fits_all (opened_items ts) ≡ fits_all ts
fits_items ε = refl
fits_items (node l ss cs ⊳ ts) = fits_item l ss cs (opened_items ts) ∙ ap (λ (b : Bool). fits (node l ss cs) && b) (fits_items ts)

good_opened : (ts : Forest) → good_scope Module (opened_items ts) ≡ good_scope Module ts
good_opened ts = λ i.
    (((once_each (first_names (declared_opened ts i)) (first_names (declared_opened ts i)) && none_in (first_names (declared_opened ts i)) (vars_opened ts i))
    && (once_each (names_opened ts i) (names_opened ts i) && none_in (first_names (declared_opened ts i)) (names_opened ts i)))
    && none_in (names_opened ts i) (vars_opened ts i))

pub fits_opened : (t : Tree) → fits (opened t) ≡ fits t
fits_opened (node Module ss ts) = ap₂ ◌&&◌ (good_opened ts) (fits_items ts)
fits_opened (node _ ss ts) = refl

-- valid

declarators_spelled : (ss : List Span) (ds : Forest) → valid_all ds ≡ true → valid_all (specifiers_for ss (declarator_names ds)) ≡ true
declarators_spelled ss ε e = refl
declarators_spelled ss (node (Declarator kind x) rs cs ⊳ ds) e =
    let p = and_parts (valid (node (Declarator kind x) rs cs)) (valid_all ds) e in
    let q = and_parts (is_identifier x.text && true) (valid_all cs) p.0 in
    let i = (and_parts (is_identifier x.text) true q.0).0 in
    ap₂ (λ (a b : Bool). (((a && true) && true) && true) && b) i (declarators_spelled ss ds p.1)
declarators_spelled ss (node l rs cs ⊳ ds) e = declarators_spelled ss ds (and_parts (valid (node l rs cs)) (valid_all ds) e).1

valid_item : (l : Label) (ss : List Span) (cs ts : Forest) → valid (node l ss cs) ≡ true → valid_all ts ≡ true → valid_all (opened_item l ss cs ts) ≡ true
valid_item ExportDecl ss (node (VarDecl k) rs ds ⊳ ε) ts e h =
    let v : valid (node (VarDecl k) rs ds) ≡ true = (and_parts (valid (node (VarDecl k) rs ds)) true e).0 in
    let d = (and_parts (good_shape (VarDecl k) ds) (valid_all ds) v).1 in
    ap₂ (λ (a b : Bool). a && (b && valid_all ts)) v (declarators_spelled ss ds d) ∙ h
valid_item ExportDecl ss (node (FnDecl x) rs cs ⊳ ε) ts e h =
    let v : valid (node (FnDecl x) rs cs) ≡ true = (and_parts (valid (node (FnDecl x) rs cs)) true e).0 in
    let i = (and_parts (is_identifier x.text) true (and_parts (is_identifier x.text && true) (valid_all cs) v).0).0 in
    ap₂ (λ (a b : Bool). a && (((((b && true) && true) && true) && true) && valid_all ts)) v i ∙ h
valid_item l ss cs ts e h = and_from (valid (node l ss cs)) (valid_all ts) e h

valid_items : (ts : Forest) → valid_all ts ≡ true → valid_all (opened_items ts) ≡ true
valid_items ε e = refl
valid_items (node l ss cs ⊳ ts) e =
    let p = and_parts (valid (node l ss cs)) (valid_all ts) e in
    valid_item l ss cs (opened_items ts) p.0 (valid_items ts p.1)

pub valid_opened : (t : Tree) → valid t ≡ true → valid (opened t) ≡ true
valid_opened (node Module ss ts) e = valid_items ts e
valid_opened (node _ ss ts) e = e

pub core_opened : (t : Tree) → IsCore t → IsCore (opened t)
core_opened t c = record { is_valid = valid_opened t c.is_valid; fits_core = fits_opened t ∙ c.fits_core }

-- jumps and parameters

specifiers_aimed : (ss : List Span) (xs : List Name) → aimed_all no_targets (specifiers_for ss xs) ≡ true
specifiers_aimed ss [] = refl
specifiers_aimed ss (x ∷ xs) = specifiers_aimed ss xs

specifiers_apart : (ss : List Span) (xs : List Name) → apart_all (specifiers_for ss xs) ≡ true
specifiers_apart ss [] = refl
specifiers_apart ss (x ∷ xs) = specifiers_apart ss xs

three : (a b c : Bool) → b ≡ true → (a && (b && c)) ≡ ((a && true) && c)
three true true c e = refl
three false b c e = refl
three true false c e = cc

aimed_item : (l : Label) (ss : List Span) (cs ts : Forest) → aimed_all no_targets (opened_item l ss cs ts) ≡ (aimed no_targets (node l ss cs) && aimed_all no_targets ts)
aimed_item ExportDecl ss (node (VarDecl k) rs ds ⊳ ε) ts = three (aimed no_targets (node (VarDecl k) rs ds)) (aimed_all no_targets (specifiers_for ss (declarator_names ds))) (aimed_all no_targets ts) (specifiers_aimed ss (declarator_names ds))
aimed_item ExportDecl ss (node (FnDecl x) rs cs ⊳ ε) ts = three (aimed no_targets (node (FnDecl x) rs cs)) true (aimed_all no_targets ts) refl
aimed_item l ss cs ts = refl

aimed_items : (ts : Forest) → aimed_all no_targets (opened_items ts) ≡ aimed_all no_targets ts
aimed_items ε = refl
aimed_items (node l ss cs ⊳ ts) = aimed_item l ss cs (opened_items ts) ∙ ap (λ (b : Bool). aimed no_targets (node l ss cs) && b) (aimed_items ts)

apart_item : (l : Label) (ss : List Span) (cs ts : Forest) → apart_all (opened_item l ss cs ts) ≡ (apart (node l ss cs) && apart_all ts)
apart_item ExportDecl ss (node (VarDecl k) rs ds ⊳ ε) ts = three (apart (node (VarDecl k) rs ds)) (apart_all (specifiers_for ss (declarator_names ds))) (apart_all ts) (specifiers_apart ss (declarator_names ds))
apart_item ExportDecl ss (node (FnDecl x) rs cs ⊳ ε) ts = three (apart (node (FnDecl x) rs cs)) true (apart_all ts) refl
apart_item l ss cs ts = refl

apart_items : (ts : Forest) → apart_all (opened_items ts) ≡ apart_all ts
apart_items ε = refl
apart_items (node l ss cs ⊳ ts) = apart_item l ss cs (opened_items ts) ∙ ap (λ (b : Bool). apart (node l ss cs) && b) (apart_items ts)

aimed_opened : (t : Tree) → aimed no_targets (opened t) ≡ aimed no_targets t
aimed_opened (node Module ss ts) = aimed_items ts
aimed_opened (node _ ss ts) = refl

apart_opened : (t : Tree) → apart (opened t) ≡ apart t
apart_opened (node Module ss ts) = apart_items ts
apart_opened (node _ ss ts) = refl

pub resolved_opened : (mark : ℕ) (t : Tree) → own_exports_bound (opened t) ≡ true → IsResolved mark t → IsResolved mark (opened t)
resolved_opened mark t e r = record {
  bound_once = λ x. subst (λ n. n ≤ 1) (sym (scopes_opened x t)) (r.bound_once x);
  none_unresolved = λ x u d. scopes_opened x t ∙ r.none_unresolved x u d;
  jumps_aimed = aimed_opened t ∙ r.jumps_aimed;
  params_stand_apart = apart_opened t ∙ r.params_stand_apart;
  exports_are_bound = e;
}
