use Rattle.std.proofs.Common.{◌≡◌, ◌++◌, false, true, sym, ap, ap₂, subst, ◌∙◌}
use Rattle.swc_ast.specs.Core.{good_list, good_body}
use Rattle.swc_ast.specs.Scope.{has_name, param_names}
use Rattle.swc_ast.specs.Resolved.{one_if, function_scopes, params_of, body_of, has_default, declared_names}
use Rattle.tree_visit.specs.Nodes.{children_forest}
use Rattle.swc_resolved.specs.Here.{distinct, stand_apart}
use Rattle.swc_resolved.specs.Names.{names, is_taken}
use Rattle.swc_resolved.specs.Scopes.{BindsNamed}
use Rattle.swc_resolved.proofs.Binding.{gathered_one, one_scope, two_scopes}
use Rattle.swc_resolved.proofs.NamedOnce.{none_loose, no_others, apart_from_params, named_as, last_named_as, named_then}
use Rattle.swc_resolved.proofs.names.Taken.bind_function.Goals as goal

pub returns-then-not-has_default : goal.returns-then-not-has_default
returns-then-not-has_default c =
    let cs = children_forest c.args.children in let ns = names c.add_names.new.names.items in let ts = children_forest c.half_of-body.result in
    let plain : has_default (params_of cs) ≡ false = sym (c.has_default.ensures ∙ ap has_default c.half_of-params.ensures) ∙ c.if-not-has_default.true in
    let own : ns ≡ param_names (params_of cs) = gathered_one c.new-names.result.items ns (param_names (children_forest c.half_of-params.result)) c.new-names.ensures.items c.in_ok-add_names.ensures ∙ ap param_names c.half_of-params.ensures in
    last_named_as c.bind_list.result (is_taken c.args.self.now) (is_taken c.bind_list.new.self) (λ x. one_if (has_name x (ns ++ declared_names ts))) (λ x. function_scopes x cs) (good_body ns ts) (good_body (param_names (params_of cs)) (body_of cs))
    (λ x. ap₂ (λ ps bs. one_if (has_name x (ps ++ declared_names bs))) own c.half_of-body.ensures ∙ one_scope x cs plain) (ap₂ good_body own c.half_of-body.ensures) c.bind_list.ensures

pub returns : goal.returns
returns c =
    let cs = children_forest c.args.children in let ps = param_names (params_of cs) in let bs = body_of cs in let ns = names c.deref.result.now in let none = c.new.result.items in let ts = children_forest c.half_of-body.result in
    let old = is_taken c.args.self.now in let mid = is_taken c.bind_scope.new.self in let new = is_taken c.bind_list-2.new.self in
    let defaulted : has_default (params_of cs) ≡ true = sym (c.has_default.ensures ∙ ap has_default c.half_of-params.ensures) ∙ c.if-not-has_default.false in
    let own : ns ≡ ps = ap names c.deref.ensures.value ∙ gathered_one c.new-names.result.items (names c.add_names.new.names.items) (param_names (children_forest c.half_of-params.result)) c.new-names.ensures.items c.in_ok-add_names.ensures ∙ ap param_names c.half_of-params.ensures in
    let a = c.in_ok-outer_bound.outer_bound in let b = c.in_ok-inner_bound.inner_bound in
    subst (λ r. BindsNamed r old new (λ x. function_scopes x cs) (good_body ps bs)) (sym c.and.ensures)
    (named_then a b old mid new (λ x. one_if (has_name x ps)) (λ x. one_if (has_name x (declared_names bs))) (λ x. function_scopes x cs) (distinct ps) (good_list bs) (good_body ps bs)
    (λ x. two_scopes x cs defaulted) (apart_from_params old mid new ps bs)
    (named_as a old mid (λ x. one_if (has_name x ns)) (λ x. one_if (has_name x ps)) (stand_apart 0 0 ns) (distinct ps) (λ x. ap (λ xs. one_if (has_name x xs)) own) (none_loose ns ∙ ap distinct own) c.in_ok-outer_bound.ensures)
    (named_as b mid new (λ x. one_if (has_name x (names none ++ declared_names ts))) (λ x. one_if (has_name x (declared_names bs))) (good_body (names none) ts) (good_list bs)
    (λ x. ap₂ (λ ks us. one_if (has_name x (names ks ++ declared_names us))) c.new.ensures.items c.half_of-body.ensures) (ap₂ (λ ks us. good_body (names ks) us) c.new.ensures.items c.half_of-body.ensures ∙ no_others bs) c.in_ok-inner_bound.ensures))
