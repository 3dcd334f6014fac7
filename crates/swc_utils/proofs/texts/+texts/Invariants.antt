use Rattle.std.proofs.Common.{◌≡◌, ◌+◌, ◌*◌, map, drop, string_bytes}
use Rattle.std.specs.Prelude.{Some}
use Rattle.swc_ast.specs.Parts.{list_trees}
use Rattle.swc_ast.specs.Expressions.{quasi_text}
use Rattle.swc_ast.specs.Views.{expr_tree}
use Rattle.swc_utils.specs.Globals.{unresolved}
use Rattle.swc_utils.specs.Known.{joined_texts, template_known}
use Rattle.swc_utils.proofs.texts.+texts.Given as goal

abbrev pub decreases-text_of : goal.decreases-text_of
decreases-text_of l = 2 * goal.size-text_of l

abbrev pub decreases-text_of_template : goal.decreases-text_of_template
decreases-text_of_template l = 2 * goal.size-text_of_template l + 1

abbrev pub invariant-text_of_template-loop-e : goal.invariant-text_of_template-loop-e
invariant-text_of_template-loop-e l = joined_texts (Some (string_bytes l.out)) (template_known (unresolved l.ctx) (map quasi_text l.texts) (list_trees expr_tree (drop l.e-index l.exprs))) ≡ template_known (unresolved l.ctx) (map quasi_text l.quasis) (list_trees expr_tree l.exprs)
