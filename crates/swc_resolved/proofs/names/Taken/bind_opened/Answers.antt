use Rattle.std.proofs.Common.{◌≡◌, ◌++◌, false, true, refl, sym, ap, subst, ◌∙◌}
use Rattle.std.specs.Prelude.{IfOk}
use Rattle.swc_ast.specs.Core.{good_body}
use Rattle.swc_ast.specs.Scope.{has_name, is_function, param_names}
use Rattle.swc_ast.specs.Resolved.{one_if, declared_names, params_of, body_of, function_scopes, own_scopes}
use Rattle.swc_ast.specs.Tree.{Script}
use Rattle.tree_visit.specs.Kinds.{kind_label}
use Rattle.tree_visit.specs.Nodes.{children_forest}
use Rattle.swc_resolved.specs.Here.{distinct, stand_apart, named_once}
use Rattle.swc_resolved.specs.Names.{names, is_taken}
use Rattle.swc_resolved.specs.Scopes.{own_names, BindsNamed}
use Rattle.swc_resolved.proofs.Binding.{gathered_one, no_function, with_function}
use Rattle.swc_resolved.proofs.NamedOnce.{none_loose, no_others, plain_named, function_named, named_as, last_named_as, named_then}
use Rattle.swc_resolved.proofs.names.Taken.bind_opened.Goals as goal

pub returns-in-Script : goal.returns-in-Script
returns-in-Script c =
    let cs = children_forest c.args.children in let none = c.new.result.items in let nil = c.new.ensures.items in
    let old = is_taken c.args.self.now in let new = is_taken c.bind_list.new.self in
    subst (λ k. IfOk c.bind_list.result (λ b. BindsNamed b old new (λ x. own_scopes x (kind_label k) cs) (named_once (kind_label k) cs))) (sym c.in-Script.is)
    (last_named_as c.bind_list.result old new (λ x. one_if (has_name x (names none ++ declared_names cs))) (λ x. own_scopes x Script cs) (good_body (names none) cs) (named_once Script cs)
    (λ x. ap (λ ks. one_if (has_name x (names ks ++ declared_names cs))) nil ∙ no_function x Script cs refl) (ap (λ ks. good_body (names ks) cs) nil ∙ no_others cs) c.bind_list.ensures)

pub returns-then-not-is_function : goal.returns-then-not-is_function
returns-then-not-is_function c =
    let k = c.args.kind in let l = kind_label k in let cs = children_forest c.args.children in let xs = own_names l cs in let ns = names c.deref.result.now in
    let plain : is_function l ≡ false = sym c.is_function.ensures ∙ c.if-not-is_function.true in
    let own : ns ≡ xs = ap names c.deref.ensures.value ∙ gathered_one c.new-names.result.items (names c.add_own_names.new.names.items) xs c.new-names.ensures.items c.in_ok-add_own_names-in_default.ensures in
    named_as c.in_ok-own_bound-in_default.own_bound (is_taken c.args.self.now) (is_taken c.bind_scope.new.self) (λ x. one_if (has_name x ns)) (λ x. own_scopes x l cs) (stand_apart 0 0 ns) (named_once l cs)
    (λ x. ap (λ us. one_if (has_name x us)) own ∙ no_function x l cs plain) (none_loose ns ∙ ap distinct own ∙ plain_named k cs c.in_default.not-Module c.in_default.not-Script plain) c.in_ok-own_bound-in_default.ensures

pub returns-in_ok-function_bound-in_default : goal.returns-in_ok-function_bound-in_default
returns-in_ok-function_bound-in_default c =
    let l = kind_label c.args.kind in let cs = children_forest c.args.children in let xs = own_names l cs in let ns = names c.deref.result.now in
    let old = is_taken c.args.self.now in let mid = is_taken c.bind_scope.new.self in let new = is_taken c.bind_function.new.self in
    let a = c.in_ok-own_bound-in_default.own_bound in let b = c.in_ok-function_bound-in_default.function_bound in
    let is : is_function l ≡ true = sym c.is_function.ensures ∙ c.if-not-is_function.false in
    let own : ns ≡ xs = ap names c.deref.ensures.value ∙ gathered_one c.new-names.result.items (names c.add_own_names.new.names.items) xs c.new-names.ensures.items c.in_ok-add_own_names-in_default.ensures in
    subst (λ r. BindsNamed r old new (λ x. own_scopes x l cs) (named_once l cs)) (sym c.and.ensures)
    (named_then a b old mid new (λ x. one_if (has_name x xs)) (λ x. function_scopes x cs) (λ x. own_scopes x l cs) (distinct xs) (good_body (param_names (params_of cs)) (body_of cs)) (named_once l cs)
    (λ x. with_function x l cs is) (λ h i. function_named l cs is)
    (named_as a old mid (λ x. one_if (has_name x ns)) (λ x. one_if (has_name x xs)) (stand_apart 0 0 ns) (distinct xs) (λ x. ap (λ us. one_if (has_name x us)) own) (none_loose ns ∙ ap distinct own) c.in_ok-own_bound-in_default.ensures)
    c.in_ok-function_bound-in_default.ensures)
