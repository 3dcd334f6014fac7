use Rattle.std.proofs.Common.{◌∙◌}
use Rattle.swc_ast.specs.Same.{same, same_label}
use Rattle.swc_ast.specs.Parts.{list_trees}
use Rattle.swc_ast.specs.Views.{expr_tree}
use Rattle.swc_ast.proofs.SameCalls.{callee, call-same}
use Rattle.swc_ast.proofs.same_callables.CallExprCompare.is_same.Goals as goal

pub returns : goal.returns
unfolding same same_label
returns c = c.same_calls.ensures ∙ call-same c.args.spans c.args.self.now.span c.args.other.now.span (expr_tree c.args.self.now.callee.value) (expr_tree c.args.other.now.callee.value) (callee c.args.self.now.callee.value) (callee c.args.other.now.callee.value) (list_trees expr_tree c.args.self.now.args.items) (list_trees expr_tree c.args.other.now.args.items)
