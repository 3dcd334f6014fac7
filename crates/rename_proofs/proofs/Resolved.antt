-- A renamed tree is resolved, where no new text of a parameter is declared in the body beside a default.
use Rattle.std.proofs.Common.{◌≡◌, ◌+◌, ◌≤◌, ℕ, Bool, true, false, ◌&&◌, ◌||◌, List, Option, Some, None, refl, sym, ap, ap₂, subst, ◌∙◌, if◌then◌else◌, arith}
use Rattle.swc_ast.specs.declared.Span.{Span}
use Rattle.swc_ast.specs.Tree.{Name, same_name, NameKey, Label, prop, simple, Read, Shorthand, PlainKey, Fn, Arrow, Method, FnDecl, ExportDefaultFn, Params, Body, Param, Block, For, Switch, Try, Module, Script, ExportNamed, ExportSpecifier, Tree, node, Forest, ε, ◌⊳◌}
use Rattle.swc_ast.specs.Scope.{has_name, option_name, list_binds, param_names, body_declares, module_binds, case_statements, is_found}
use Rattle.swc_ast.specs.Meaning.{head_names, first_tree}
use Rattle.swc_ast.specs.Resolved.{one_if, catch_name, has_default, params_of, body_of, function_scopes, own_scopes, scopes, scopes_all, Targets, no_targets, below, jump_is_aimed, aimed, aimed_all, specifier_bound, exports_bound, own_exports_bound, apart, IsResolved}
use Rattle.rename_rules.specs.Renamed.{new_option, new_handler, new_label, new_children, renamed, renamed_all}
use Rattle.rename_proofs.proofs.Relation.{Pairing}
use Rattle.rename_proofs.proofs.Stores.{same_new}
use Rattle.rename_proofs.proofs.Statements.{is_found_same}
use Rattle.rename_proofs.proofs.Declared.{of_field, has_new, binds_new, declares_new, params_new, first_new, same_head, cases_new}
use Rattle.rename_proofs.proofs.Runs.{module_binds_new}

no_more : (n : ℕ) → 0 + (0 + n) ≡ n
no_more n = omega arith

module _ (P : Pairing) where
  -- parts of functions

  pub params_of_new : (ts : Forest) → params_of (renamed_all P.to ts) ≡ renamed_all P.to (params_of ts)
  unfolding renamed
  params_of_new ε = refl
  params_of_new (node Params ss ps ⊳ ts) = refl
  params_of_new (node _ ss cs ⊳ ts) = params_of_new ts

  pub body_of_new : (ts : Forest) → body_of (renamed_all P.to ts) ≡ renamed_all P.to (body_of ts)
  unfolding renamed
  body_of_new ε = refl
  body_of_new (node Body ss ps ⊳ ts) = refl
  body_of_new (node _ ss cs ⊳ ts) = body_of_new ts

  has_default_new : (ts : Forest) → has_default (renamed_all P.to ts) ≡ has_default ts
  unfolding renamed
  has_default_new ε = refl
  has_default_new (node (Param x) ss ε ⊳ ts) = has_default_new ts
  has_default_new (node (Param x) ss (d ⊳ ds) ⊳ ts) = refl
  has_default_new (node _ ss cs ⊳ ts) = has_default_new ts

  -- how many scopes bind a name

  has_params : (x : Name) (cs : Forest) → has_name (P.to x) (param_names (params_of (renamed_all P.to cs))) ≡ has_name x (param_names (params_of cs))
  has_params x cs = ap (λ ts. has_name (P.to x) (param_names ts)) (params_of_new cs) ∙ ap (has_name (P.to x)) (params_new P (params_of cs)) ∙ sym (has_new P x (param_names (params_of cs)))

  body_binds_it : (x : Name) (cs : Forest) → body_declares (body_of (renamed_all P.to cs)) (P.to x) ≡ body_declares (body_of cs) x
  body_binds_it x cs = ap (λ ts. body_declares ts (P.to x)) (body_of_new cs) ∙ sym (declares_new P (body_of cs) x)

  function_scopes_new : (x : Name) (cs : Forest) → function_scopes (P.to x) (renamed_all P.to cs) ≡ function_scopes x cs
  function_scopes_new x cs =
      ap₂ (λ (a b : Bool). if has_default (params_of (renamed_all P.to cs)) then one_if a + one_if b else one_if (a || b)) (has_params x cs) (body_binds_it x cs)
      ∙ ap (λ (d : Bool). if d then one_if (has_name x (param_names (params_of cs))) + one_if (body_declares (body_of cs) x) else one_if (has_name x (param_names (params_of cs)) || body_declares (body_of cs) x)) (ap has_default (params_of_new cs) ∙ has_default_new (params_of cs))

  option_new : (x : Name) (o : Option Name) → has_name (P.to x) (option_name (new_option P.to o)) ≡ has_name x (option_name o)
  option_new x None = refl
  option_new x (Some y) = ap (λ (b : Bool). b || false) (same_new P x y)

  catch_new : (x : Name) (o : Option (Option Name)) → has_name (P.to x) (catch_name (new_handler P.to o)) ≡ has_name x (catch_name o)
  catch_new x None = refl
  catch_new x (Some o) = option_new x o

  head_new : (x : Name) (ts : Forest) → is_found (P.to x) (head_names (first_tree (renamed_all P.to ts))) ≡ is_found x (head_names (first_tree ts))
  head_new x ts = ap (λ t. is_found (P.to x) (head_names t)) (first_new P ts) ∙ sym (is_found_same x (P.to x) (head_names (first_tree ts)) (head_names (renamed P.to (first_tree ts))) ((same_head P (first_tree ts)).names x))

  own_scopes_new : (x : Name) (l : Label) (ss : List Span) (cs : Forest) → own_scopes (P.to x) (new_label P.to l) (new_children P.to l ss (renamed_all P.to cs)) ≡ own_scopes x l cs
  unfolding own_scopes
  own_scopes_new x (Fn o) ss cs = ap₂ (λ (b : Bool) (n : ℕ). one_if b + n) (option_new x o) (function_scopes_new x cs)
  own_scopes_new x Arrow ss cs = function_scopes_new x cs
  own_scopes_new x Method ss cs = function_scopes_new x cs
  own_scopes_new x (FnDecl f) ss cs = function_scopes_new x cs
  own_scopes_new x (ExportDefaultFn o) ss cs = function_scopes_new x cs
  own_scopes_new x Block ss cs = ap one_if (sym (binds_new P cs x))
  own_scopes_new x For ss cs = ap one_if (head_new x cs)
  own_scopes_new x (Switch ds) ss cs = ap one_if (ap (λ ts. list_binds ts (P.to x)) (cases_new P cs) ∙ sym (binds_new P (case_statements cs) x))
  own_scopes_new x (Try o) ss cs = ap one_if (catch_new x o)
  own_scopes_new x Module ss cs = ap one_if (sym (module_binds_new P cs x))
  own_scopes_new x Script ss cs = ap one_if (sym (declares_new P cs x))
  own_scopes_new x (Shorthand y) ss cs = of_field (λ p. own_scopes (P.to x) (prop p) (new_children P.to (Shorthand y) ss (renamed_all P.to cs))) (same_name (P.to y) y) y 0 refl refl
  own_scopes_new x _ ss cs = refl

  field_scopes : (z : Name) (y : Name) (ss : List Span) (us : Forest) (b : Bool) → scopes_all z (if b then us else (node (PlainKey (NameKey y.text)) ss ε ⊳ node (Read (P.to y)) ss ε ⊳ us)) ≡ scopes_all z us
  unfolding own_scopes
  field_scopes z y ss us true = refl
  field_scopes z y ss us false = no_more (scopes_all z us)

  children_scopes : (z : Name) (l : Label) (ss : List Span) (us : Forest) → scopes_all z (new_children P.to l ss us) ≡ scopes_all z us
  children_scopes z (Shorthand y) ss us = field_scopes z y ss us (same_name (P.to y) y)
  children_scopes z _ ss us = refl

  mutual
    unfolding renamed

    pub scopes_new : (x : Name) (t : Tree) → scopes (P.to x) (renamed P.to t) ≡ scopes x t
    scopes_new x (node l ss cs) = ap₂ ◌+◌ (own_scopes_new x l ss cs) (children_scopes (P.to x) l ss (renamed_all P.to cs) ∙ scopes_all_new x cs)

    scopes_all_new : (x : Name) (ts : Forest) → scopes_all (P.to x) (renamed_all P.to ts) ≡ scopes_all x ts
    scopes_all_new x ε = refl
    scopes_all_new x (t ⊳ ts) = ap₂ ◌+◌ (scopes_new x t) (scopes_all_new x ts)

  -- jumps

  below_new : (l : Label) (g : Targets) → below (new_label P.to l) g ≡ below l g
  below_new (Shorthand x) g = of_field (λ p. below (prop p) g) (same_name (P.to x) x) x (below (Shorthand x) g) refl refl
  below_new (Fn o) g = refl
  below_new For g = refl
  below_new (FnDecl x) g = refl
  below_new (ExportDefaultFn o) g = refl
  below_new _ g = refl

  jump_new : (l : Label) (g : Targets) → jump_is_aimed (new_label P.to l) g ≡ jump_is_aimed l g
  jump_new (simple s) g = refl
  jump_new _ g = refl

  field_aimed : (g : Targets) (y : Name) (ss : List Span) (us : Forest) (b : Bool) → aimed_all g (if b then us else (node (PlainKey (NameKey y.text)) ss ε ⊳ node (Read (P.to y)) ss ε ⊳ us)) ≡ aimed_all g us
  field_aimed g y ss us true = refl
  field_aimed g y ss us false = refl

  children_aimed : (g : Targets) (l : Label) (ss : List Span) (us : Forest) → aimed_all g (new_children P.to l ss us) ≡ aimed_all g us
  children_aimed g (Shorthand y) ss us = field_aimed g y ss us (same_name (P.to y) y)
  children_aimed g _ ss us = refl

  mutual
    unfolding renamed

    aimed_new : (g : Targets) (t : Tree) → aimed g (renamed P.to t) ≡ aimed g t
    aimed_new g (node l ss cs) = ap₂ ◌&&◌ (jump_new l g) (ap (λ h. aimed_all h (new_children P.to l ss (renamed_all P.to cs))) (below_new l g) ∙ children_aimed (below l g) l ss (renamed_all P.to cs) ∙ aimed_all_new (below l g) cs)

    aimed_all_new : (g : Targets) (ts : Forest) → aimed_all g (renamed_all P.to ts) ≡ aimed_all g ts
    aimed_all_new g ε = refl
    aimed_all_new g (t ⊳ ts) = ap₂ ◌&&◌ (aimed_new g t) (aimed_all_new g ts)

  -- exports by name

  module _ (binds binds' : Name → Bool) (h : (x : Name) → binds x ≡ binds' (P.to x)) where
    specifiers_bound : (ts : Forest) → specifier_bound binds' (renamed_all P.to ts) ≡ specifier_bound binds ts
    unfolding renamed
    specifiers_bound ε = refl
    specifiers_bound (node (ExportSpecifier x o) ss cs ⊳ ts) = ap₂ ◌&&◌ (sym (h x)) (specifiers_bound ts)
    specifiers_bound (node _ ss cs ⊳ ts) = specifiers_bound ts

    exports_bound_new : (ts : Forest) → exports_bound binds' (renamed_all P.to ts) ≡ exports_bound binds ts
    unfolding renamed
    exports_bound_new ε = refl
    exports_bound_new (node ExportNamed ss cs ⊳ ts) = ap₂ ◌&&◌ (specifiers_bound cs) (exports_bound_new ts)
    exports_bound_new (node _ ss cs ⊳ ts) = exports_bound_new ts

  own_exports_new : (t : Tree) → own_exports_bound (renamed P.to t) ≡ own_exports_bound t
  unfolding renamed
  own_exports_new (node Module ss ts) = exports_bound_new (module_binds ts) (module_binds (renamed_all P.to ts)) (module_binds_new P ts) ts
  own_exports_new (node _ ss cs) = refl

  -- a renaming that each name is a new name of
  pub resolved_new : ((y : Name) → (x : Name) × (P.to x ≡ y)) → (t : Tree) → apart (renamed P.to t) ≡ true → IsResolved P.mark t → IsResolved P.mark (renamed P.to t)
  resolved_new onto t a r = record {
    bound_once = λ y. let x = onto y in subst (λ (y : Name). scopes y (renamed P.to t) ≤ 1) x.1 (subst (λ n. n ≤ 1) (sym (scopes_new x.0 t)) (r.bound_once x.0));
    none_unresolved = λ y e d. ap (λ (z : Name). scopes z (renamed P.to t)) (sym (P.is.hosts_stay y e)) ∙ scopes_new y t ∙ r.none_unresolved y e d;
    jumps_aimed = aimed_new no_targets t ∙ r.jumps_aimed;
    params_stand_apart = a;
    exports_are_bound = own_exports_new t ∙ r.exports_are_bound;
  }
