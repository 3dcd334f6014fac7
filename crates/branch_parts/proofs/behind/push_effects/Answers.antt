use Rattle.swc_ast.specs.Parts.{list_trees}
use Rattle.swc_ast.specs.Views.{stmt_tree}
use Rattle.swc_utils.specs.Globals.{unresolved}
use Rattle.branch_parts.proofs.Left.{behind_idle}
use Rattle.branch_parts.proofs.behind.push_effects.Goals as goal

pub returns-then-not-may_have_side_effects : goal.returns-then-not-may_have_side_effects
returns-then-not-may_have_side_effects c = behind_idle (unresolved c.args.ctx.now) c.args.e.now _ (list_trees stmt_tree c.args.out.now.items) c.may_have_side_effects.ensures.answer c.if-not-may_have_side_effects.true
