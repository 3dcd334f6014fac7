use Rattle.std.proofs.Common.{◌≡◌, ◌++◌, length, ap, ◌∙◌, arith}
use Rattle.swc_ast.specs.Core.{good_body, list_names}
use Rattle.swc_ast.specs.Scope.{has_name, vars_all}
use Rattle.swc_ast.specs.Resolved.{one_if, declared_names}
use Rattle.tree_visit.specs.Nodes.{children_forest}
use Rattle.swc_resolved.specs.Here.{stand_apart}
use Rattle.swc_resolved.specs.Names.{names, is_taken}
use Rattle.swc_resolved.proofs.NamedOnce.{longer, body_names_are, body_stands, last_named_as}
use Rattle.swc_resolved.proofs.names.Taken.bind_list.Goals as goal

pub bind_scope-requires : goal.bind_scope-requires
bind_scope-requires c =
    let ts = children_forest c.args.body in let os = c.args.others.items in let mid = c.add_names.new.names.items in let all = c.add_names-2.new.names.items in
    let first = longer os mid (vars_all ts) c.in_ok-add_names.ensures in let second = longer mid all (list_names ts) c.in_ok-add_names-2.ensures in let whole = ap length c.deref.ensures.value in
    record {
      strict = omega (arith, first, second, whole, c.len-strict.ensures, c.args.others.ok.0);
      loose = omega (arith, second, whole, c.len-loose.ensures, c.add_names.new.names.ok.0);
    }

pub returns : goal.returns
returns c =
    let ts = children_forest c.args.body in let os = c.args.others.items in let mid = c.add_names.new.names.items in let all = c.add_names-2.new.names.items in let ns = names c.deref.result.now in
    let strict : c.len-strict.result ≡ length os = omega (arith, c.len-strict.ensures, c.args.others.ok.0) in
    let loose : c.len-loose.result ≡ length mid = omega (arith, c.len-loose.ensures, c.add_names.new.names.ok.0) in
    let same = ap names c.deref.ensures.value in
    last_named_as c.bind_scope.result (is_taken c.args.self.now) (is_taken c.bind_scope.new.self) (λ x. one_if (has_name x ns)) (λ x. one_if (has_name x (names os ++ declared_names ts))) (stand_apart c.len-strict.result c.len-loose.result ns) (good_body (names os) ts)
    (λ x. ap (λ xs. one_if (has_name x xs)) (same ∙ body_names_are os mid all ts c.in_ok-add_names.ensures c.in_ok-add_names-2.ensures))
    (ap (stand_apart c.len-strict.result c.len-loose.result) same ∙ body_stands c.len-strict.result c.len-loose.result os mid all ts strict loose c.in_ok-add_names.ensures c.in_ok-add_names-2.ensures)
    c.bind_scope.ensures
