-- A renamed tree is in the core.
use Rattle.std.proofs.Common.{◌≡◌, ℕ, suc, Bool, true, false, not, ◌&&◌, List, [], ◌∷◌, Option, Some, None, refl, sym, ap, ap₂, ◌∙◌, if◌then◌else◌, nat_le}
use Rattle.swc_ast.specs.declared.Span.{Span}
use Rattle.swc_ast.specs.Tree.{Name, same_name, NameKey, Label, prop, NumLit, Read, Shorthand, PlainKey, Fn, Arrow, Method, FnDecl, ExportDefaultFn, Try, Block, For, Switch, Module, Script, Tree, node, Forest, ε, ◌⊳◌}
use Rattle.swc_ast.specs.Scope.{option_name, vars_all, Declared, declared, param_names, import_names, case_statements}
use Rattle.swc_ast.specs.Meaning.{head_names, first_tree}
use Rattle.swc_ast.specs.Resolved.{first_names, params_of, body_of}
use Rattle.swc_ast.specs.Core.{numbers_fit, times_in, once_each, none_in, list_names, good_list, good_body, good_scope, fits, fits_all, IsCore}
use Rattle.rename_rules.specs.Renamed.{new_option, new_label, new_children, renamed, renamed_all}
use Rattle.rename_rules.specs.Tables.{all_named}
use Rattle.rename_proofs.proofs.Relation.{Pairing}
use Rattle.rename_proofs.proofs.Stores.{same_new}
use Rattle.rename_proofs.proofs.Declared.{of_field, new_names, has_new, new_declared, declared_new, vars_all_new, params_new, first_new, cases_new}
use Rattle.rename_proofs.proofs.Exports.{import_names_new}
use Rattle.rename_proofs.proofs.Valid.{is_named, valid_new}
use Rattle.rename_proofs.proofs.Resolved.{params_of_new, body_of_new}

module _ (P : Pairing) where
  times_new : (x : Name) (ys : List Name) → times_in (P.to x) (new_names P ys) ≡ times_in x ys
  times_new x [] = refl
  times_new x (y ∷ ys) = ap₂ (λ (b : Bool) (n : ℕ). if b then suc n else n) (same_new P x y) (times_new x ys)

  once_new : (xs ys : List Name) → once_each (new_names P xs) (new_names P ys) ≡ once_each xs ys
  once_new [] ys = refl
  once_new (x ∷ xs) ys = ap₂ (λ (n : ℕ) (b : Bool). nat_le n 1 && b) (times_new x ys) (once_new xs ys)

  none_new : (xs ys : List Name) → none_in (new_names P xs) (new_names P ys) ≡ none_in xs ys
  none_new [] ys = refl
  none_new (x ∷ xs) ys = ap₂ (λ (a b : Bool). not a && b) (sym (has_new P x ys)) (none_new xs ys)

  first_names_new : (ps : List Declared) → first_names (new_declared P ps) ≡ new_names P (first_names ps)
  first_names_new [] = refl
  first_names_new (p ∷ ps) = ap (λ zs. P.to p.0 ∷ zs) (first_names_new ps)

  list_names_new : (ts : Forest) → list_names (renamed_all P.to ts) ≡ new_names P (list_names ts)
  list_names_new ts = ap first_names (declared_new P ts) ∙ first_names_new (declared ts)

  -- the two tests of lists of names, by lists that are renamed
  both_new : (xs vs : List Name) → (once_each (new_names P xs) (new_names P xs) && none_in (new_names P xs) (new_names P vs)) ≡ (once_each xs xs && none_in xs vs)
  both_new xs vs = ap₂ ◌&&◌ (once_new xs xs) (none_new xs vs)

  good_list_new : (ts : Forest) → good_list (renamed_all P.to ts) ≡ good_list ts
  good_list_new ts = ap₂ (λ (xs vs : List Name). once_each xs xs && none_in xs vs) (list_names_new ts) (vars_all_new P ts) ∙ both_new (list_names ts) (vars_all ts)

  good_body_new : (others : List Name) (ts : Forest) → good_body (new_names P others) (renamed_all P.to ts) ≡ good_body others ts
  good_body_new others ts = ap₂ ◌&&◌ (good_list_new ts) (ap₂ ◌&&◌ (once_new others others) (ap (λ xs. none_in xs (new_names P others)) (list_names_new ts) ∙ none_new (list_names ts) others))

  option_names_new : (o : Option Name) → option_name (new_option P.to o) ≡ new_names P (option_name o)
  option_names_new None = refl
  option_names_new (Some x) = refl

  head_names_new : (ts : Forest) → first_names (head_names (first_tree (renamed_all P.to ts))) ≡ new_names P (first_names (head_names (first_tree ts)))
  unfolding renamed
  head_names_new ts = ap (λ t. first_names (head_names t)) (first_new P ts) ∙ ap first_names (declared_new P (first_tree ts ⊳ ε)) ∙ first_names_new (head_names (first_tree ts))

  function_new : (cs : Forest) → good_body (param_names (params_of (renamed_all P.to cs))) (body_of (renamed_all P.to cs)) ≡ good_body (param_names (params_of cs)) (body_of cs)
  function_new cs = ap₂ good_body (ap param_names (params_of_new P cs) ∙ params_new P (params_of cs)) (body_of_new P cs) ∙ good_body_new (param_names (params_of cs)) (body_of cs)

  good_scope_new : (l : Label) (ss : List Span) (cs : Forest) → good_scope (new_label P.to l) (new_children P.to l ss (renamed_all P.to cs)) ≡ good_scope l cs
  good_scope_new Block ss cs = good_list_new cs
  good_scope_new (Switch ds) ss cs = ap good_list (cases_new P cs) ∙ good_list_new (case_statements cs)
  good_scope_new For ss cs = ap₂ (λ (xs vs : List Name). once_each xs xs && none_in xs vs) (head_names_new cs) (vars_all_new P cs) ∙ both_new (first_names (head_names (first_tree cs))) (vars_all cs)
  good_scope_new Module ss cs =
      ap₂ (λ (is vs : List Name). good_body is (renamed_all P.to cs) && none_in is vs) (import_names_new P cs) (vars_all_new P cs)
      ∙ ap₂ ◌&&◌ (good_body_new (import_names cs) cs) (none_new (import_names cs) (vars_all cs))
  good_scope_new Script ss cs = good_list_new cs
  good_scope_new (Try None) ss cs = refl
  good_scope_new (Try (Some o)) ss cs = ap₂ none_in (option_names_new o) (vars_all_new P cs) ∙ none_new (option_name o) (vars_all cs)
  good_scope_new (Fn o) ss cs = function_new cs
  good_scope_new Arrow ss cs = function_new cs
  good_scope_new Method ss cs = function_new cs
  good_scope_new (FnDecl x) ss cs = function_new cs
  good_scope_new (ExportDefaultFn o) ss cs = function_new cs
  good_scope_new (Shorthand x) ss cs = of_field (λ p. good_scope (prop p) (new_children P.to (Shorthand x) ss (renamed_all P.to cs))) (same_name (P.to x) x) x true refl refl
  good_scope_new _ ss cs = refl

  numbers_new : (l : Label) → numbers_fit (new_label P.to l) ≡ numbers_fit l
  numbers_new (NumLit z) = refl
  numbers_new (Shorthand x) = of_field (λ p. numbers_fit (prop p)) (same_name (P.to x) x) x true refl refl
  numbers_new _ = refl

  field_fits : (y : Name) (ss : List Span) (us : Forest) (b : Bool) → fits_all (if b then us else (node (PlainKey (NameKey y.text)) ss ε ⊳ node (Read (P.to y)) ss ε ⊳ us)) ≡ fits_all us
  field_fits y ss us true = refl
  field_fits y ss us false = refl

  children_fit : (l : Label) (ss : List Span) (us : Forest) → fits_all (new_children P.to l ss us) ≡ fits_all us
  children_fit (Shorthand y) ss us = field_fits y ss us (same_name (P.to y) y)
  children_fit _ ss us = refl

  mutual
    unfolding renamed

    pub fits_new : (t : Tree) → fits (renamed P.to t) ≡ fits t
    fits_new (node l ss cs) = ap₂ ◌&&◌ (numbers_new l) (ap₂ ◌&&◌ (good_scope_new l ss cs) (children_fit l ss (renamed_all P.to cs) ∙ fits_all_new cs))

    fits_all_new : (ts : Forest) → fits_all (renamed_all P.to ts) ≡ fits_all ts
    fits_all_new ε = refl
    fits_all_new (t ⊳ ts) = ap₂ ◌&&◌ (fits_new t) (fits_all_new ts)

  pub core_new : (t : Tree) → all_named (is_named P.to) t ≡ true → IsCore t → IsCore (renamed P.to t)
  core_new t e h = record { is_valid = valid_new P.to t e h.is_valid; fits_core = fits_new t ∙ h.fits_core }
