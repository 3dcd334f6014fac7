use Rattle.std.proofs.Common.{ap, ◌∙◌}
use Rattle.swc_ast.specs.Scope.{vars_all}
use Rattle.tree_visit.specs.Nodes.{children_forest}
use Rattle.swc_resolved.specs.Names.{names}
use Rattle.swc_resolved.proofs.Lists.{apart_from}
use Rattle.swc_resolved.proofs.here.are_apart_from_vars.Goals as goal

pub returns : goal.returns
returns c = c.in_ok-is_good.ensures ∙ apart_from (names c.args.names.now) (names c.deref.result.now) (vars_all (children_forest c.args.list)) (ap names c.deref.ensures.value ∙ c.in_ok-vars.ensures)
