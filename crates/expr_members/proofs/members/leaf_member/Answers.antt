use Rattle.std.proofs.Common.{ap, sym, subst, ◌∙◌}
use Rattle.std.specs.Prelude.{IfOk, IfSome}
use Rattle.swc_ast.specs.Views.{expr_tree}
use Rattle.swc_ast.proofs.Equations.{expr_tree-Lit}
use Rattle.expr_members.specs.Members.{StandsFor}
use Rattle.expr_members.proofs.members.leaf_member.Goals as goal

pub returns-in-Lit : goal.returns-in-Lit
returns-in-Lit c = λ mark. subst (λ t. IfOk c.literal_member.result (λ o. IfSome o (λ e. StandsFor mark t c.args.key.now e))) (sym (ap expr_tree c.in-Lit.is ∙ expr_tree-Lit _)) (c.literal_member.ensures mark)
