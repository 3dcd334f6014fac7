use Rattle.std.proofs.Common.{rules, subst}
use Rattle.std.specs.Prelude.{IfSome}
use Rattle.swc_ast.specs.Expressions.{array_tree}
use Rattle.swc_ast.specs.Views.{expr_tree}
use Rattle.swc_ast.specs.declared.expressions.Expr.TheVariants.{Array}
use Rattle.swc_ast.proofs.Equations.{expr_tree-Array}
use Rattle.swc_utils.specs.Globals.{unresolved}
use Rattle.expr_members.specs.Members.{StandsFor}
use Rattle.expr_members.proofs.MemberSteps.{arm}
use Rattle.expr_members.proofs.members.member_of.Goals as goal

pub returns-in-Some : goal.returns-in-Some
returns-in-Some c =
    let mark = unresolved c.args.ctx.now in
    subst (λ o. IfSome o (λ e. StandsFor mark (expr_tree c.args.object.now) c.args.key.now e)) c.in-Some.is (c.in_ok-e.ensures mark)

pub returns-in_ok-folded-in-Array : goal.returns-in_ok-folded-in-Array
returns-in_ok-folded-in-Array c = arm (unresolved c.args.ctx.now) c.args.key.now Array (array_tree expr_tree) expr_tree-Array c.array_member.new.array c.in_ok-folded-in-Array.folded c.in-Array.is c.in-Array.array-is (search rules) c.in_ok-folded-in-Array.ensures
