use Rattle.std.proofs.Common.{◌∙◌}
use Rattle.swc_ast.specs.Same.{same, same_label}
use Rattle.swc_ast.specs.Views.{function_trees}
use Rattle.swc_ast.proofs.SameHubs.{with-name}
use Rattle.swc_ast.proofs.same_callables.FnExprCompare.is_same.Goals as goal

pub returns : goal.returns
unfolding same same_label
returns c = c.same_fn_exprs.ensures ∙ with-name c.args.spans c.args.self.now.ident c.args.other.now.ident (function_trees c.args.self.now.function.value) (function_trees c.args.other.now.function.value)
