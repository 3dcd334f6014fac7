use Rattle.std.proofs.Common.{refl, sym, ap, ◌∙◌}
use Rattle.swc_ast.specs.Scope.{joined}
use Rattle.swc_utils.proofs.Chains.{joined_none}
use Rattle.branch_vars.specs.Names.{statements}
use Rattle.branch_lists.specs.Swept.{trees}
use Rattle.branch_lists.proofs.Onto.{onto_none, onto_made}
use Rattle.branch_lists.proofs.Turns.{pushed_statement}
use Rattle.branch_lists.proofs.cut.push_optional.Goals as goal

pub returns-in_ok-push-clause-pushed : goal.returns-in_ok-push-clause-pushed
returns-in_ok-push-clause-pushed g c =
    let f = g.T.StmtLike.item in
    pushed_statement f g.met.T.StmtLike.made_is c.args.out.now.items _ c.from.result c.in-Some.s c.in_ok-push.ensures.items c.from.ensures
    ∙ ap (λ o. joined (trees f c.args.out.now.items) (statements o)) (sym c.in-Some.is)

pub returns-in_ok-push-clause-made : goal.returns-in_ok-push-clause-made
returns-in_ok-push-clause-made g c = onto_made c.in-Some.s c.from.ensures c.in_ok-push.ensures.items

pub returns-in_default-clause-pushed : goal.returns-in_default-clause-pushed
returns-in_default-clause-pushed g c =
    let old = trees g.T.StmtLike.item c.args.out.now.items in
    sym (joined_none old) ∙ ap (λ o. joined old (statements o)) (sym c.in_default.is)

pub returns-in_default-clause-made : goal.returns-in_default-clause-made
returns-in_default-clause-made g c = onto_none refl
