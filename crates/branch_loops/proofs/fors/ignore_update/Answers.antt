use Rattle.std.proofs.Common.{rules, refl}
use Rattle.swc_ast.specs.Views.{expr_tree}
use Rattle.swc_utils.specs.Globals.{unresolved}
use Rattle.branch_loops.specs.Bodies.{part_same}
use Rattle.branch_loops.proofs.ForSteps.{part_kept, part_other, part_gone}
use Rattle.branch_loops.proofs.fors.ignore_update.Goals as goal

pub returns-in-Same : goal.returns-in-Same
returns-in-Same c = part_kept (unresolved c.args.ctx.now) _ _ (expr_tree c.deref_mut.result.now) (expr_tree c.ignore.new.e) c.in_ok-ignore-in-Some.field-0 c.in-Same.is c.in_ok-ignore-in-Some.ensures (search rules) refl

pub returns-in-Changed : goal.returns-in-Changed
returns-in-Changed c = part_other (unresolved c.args.ctx.now) _ _ c.deref_mut.result.now c.ignore.new.e c.in_ok-ignore-in-Some.field-0 c.in-Changed.is c.in_ok-ignore-in-Some.ensures (search rules) refl

pub returns-in-Nothing : goal.returns-in-Nothing
returns-in-Nothing c = part_gone (unresolved c.args.ctx.now) _ (expr_tree c.ignore.new.e) c.deref_mut.result.now c.in_ok-ignore-in-Some.field-0 c.in-Nothing.is c.in_ok-ignore-in-Some.ensures (search rules)

pub returns-in-None : goal.returns-in-None
returns-in-None c = part_same refl
