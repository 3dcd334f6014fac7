use Rattle.std.proofs.Common.{◌≡◌, length, ap, ◌∙◌, arith}
use Rattle.swc_ast.specs.Core.{list_names}
use Rattle.swc_ast.specs.Scope.{has_name, import_names}
use Rattle.swc_ast.specs.Resolved.{one_if, own_scopes}
use Rattle.swc_ast.specs.Tree.{Module}
use Rattle.tree_visit.specs.Nodes.{children_forest}
use Rattle.swc_resolved.specs.Here.{stand_apart, named_once}
use Rattle.swc_resolved.specs.Names.{names, is_taken}
use Rattle.swc_resolved.proofs.NamedOnce.{longer, module_binds_as, module_stands, last_named_as}
use Rattle.swc_resolved.proofs.names.Taken.bind_module.Goals as goal

pub bind_scope-requires : goal.bind_scope-requires
bind_scope-requires c =
    let cs = children_forest c.args.items in let vars = c.add_names.new.names.items in let mid = c.add_names-2.new.names.items in let all = c.add_names-3.new.names.items in
    let second = longer vars mid (import_names cs) c.in_ok-add_names-2.ensures in let third = longer mid all (list_names cs) c.in_ok-add_names-3.ensures in let whole = ap length c.deref.ensures.value in
    record { strict = omega arith; loose = omega (arith, second, third, whole, c.len-loose.ensures, c.add_names.new.names.ok.0) }

pub returns : goal.returns
returns c =
    let cs = children_forest c.args.items in let start = c.new-names.result.items in let vars = c.add_names.new.names.items in let mid = c.add_names-2.new.names.items in let all = c.add_names-3.new.names.items in let ns = names c.deref.result.now in
    let loose : c.len-loose.result ≡ length vars = omega (arith, c.len-loose.ensures, c.add_names.new.names.ok.0) in
    let same = ap names c.deref.ensures.value in
    last_named_as c.bind_scope.result (is_taken c.args.self.now) (is_taken c.bind_scope.new.self) (λ x. one_if (has_name x ns)) (λ x. own_scopes x Module cs) (stand_apart 0 c.len-loose.result ns) (named_once Module cs)
    (λ x. ap (λ xs. one_if (has_name x xs)) same ∙ module_binds_as x start vars mid all cs c.new-names.ensures.items c.in_ok-add_names.ensures c.in_ok-add_names-2.ensures c.in_ok-add_names-3.ensures)
    (ap (stand_apart 0 c.len-loose.result) same ∙ module_stands c.len-loose.result start vars mid all cs loose c.new-names.ensures.items c.in_ok-add_names.ensures c.in_ok-add_names-2.ensures c.in_ok-add_names-3.ensures)
    c.bind_scope.ensures
