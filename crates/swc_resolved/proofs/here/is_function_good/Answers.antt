use Rattle.std.proofs.Common.{ap, ◌∙◌}
use Rattle.swc_resolved.specs.Names.{names}
use Rattle.std.proofs.Common.{ap₂}
use Rattle.swc_ast.specs.Core.{good_body}
use Rattle.swc_ast.specs.Scope.{param_names}
use Rattle.swc_resolved.proofs.here.is_function_good.Goals as goal

pub returns : goal.returns
returns c = c.in_ok-is_good.ensures ∙ ap₂ good_body (ap names c.deref.ensures.value ∙ c.in_ok-params.ensures ∙ ap param_names c.half_of.ensures) c.half_of-2.ensures
