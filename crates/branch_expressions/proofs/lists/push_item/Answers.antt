use Rattle.std.proofs.Common.{ap, ◌∙◌}
use Rattle.swc_ast.specs.Expressions.{item_spans, item_trees}
use Rattle.swc_ast.specs.Scope.{joined}
use Rattle.swc_ast.specs.Tree.{ε, ◌⊳◌}
use Rattle.swc_ast.specs.Views.{expr_tree}
use Rattle.branch_expressions.proofs.ArrayItems.{spans_joined, trees_joined}
use Rattle.branch_expressions.proofs.lists.push_item.Goals as goal

pub returns-clause-trees : goal.returns-clause-trees
returns-clause-trees c = ap (item_trees expr_tree) c.in_ok-push.ensures.items ∙ trees_joined c.args.out.now.items _ ∙ ap (λ x. joined (item_trees expr_tree c.args.out.now.items) (expr_tree x ⊳ ε)) c.in_ok-expr.ensures.ok

pub returns-clause-spans : goal.returns-clause-spans
returns-clause-spans c = ap item_spans c.in_ok-push.ensures.items ∙ spans_joined c.args.out.now.items _
