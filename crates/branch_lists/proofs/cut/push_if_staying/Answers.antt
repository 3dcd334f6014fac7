use Rattle.std.proofs.Common.{refl, sym, ap, ◌∙◌}
use Rattle.std.specs.Prelude.{if◌then◌else◌}
use Rattle.swc_ast.specs.Modules.{item_tree}
use Rattle.swc_ast.specs.Scope.{joined}
use Rattle.swc_ast.specs.Tree.{ε, ◌⊳◌}
use Rattle.swc_utils.proofs.Chains.{joined_none}
use Rattle.branch_lists.specs.Swept.{trees}
use Rattle.branch_lists.proofs.Onto.{onto_none, onto_item}
use Rattle.branch_lists.proofs.Turns.{pushed_item}
use Rattle.branch_lists.proofs.cut.push_if_staying.Goals as goal

pub returns-in_ok-push-clause-staying : goal.returns-in_ok-push-clause-staying
returns-in_ok-push-clause-staying g c =
    let f = g.T.StmtLike.item in
    pushed_item f c.args.out.now.items _ c.args.item c.in_ok-push.ensures.items
    ∙ ap (λ b. joined (trees f c.args.out.now.items) (if b then item_tree (f c.args.item) ⊳ ε else ε)) (sym (sym c.stays.ensures ∙ c.if-stays.true))

pub returns-in_ok-push-clause-kept : goal.returns-in_ok-push-clause-kept
returns-in_ok-push-clause-kept g c = onto_item c.in_ok-push.ensures.items

pub returns-else-stays-clause-staying : goal.returns-else-stays-clause-staying
returns-else-stays-clause-staying g c =
    let f = g.T.StmtLike.item in
    sym (joined_none (trees f c.args.out.now.items))
    ∙ ap (λ b. joined (trees f c.args.out.now.items) (if b then item_tree (f c.args.item) ⊳ ε else ε)) (sym (sym c.stays.ensures ∙ c.if-stays.false))

pub returns-else-stays-clause-kept : goal.returns-else-stays-clause-kept
returns-else-stays-clause-kept g c = onto_none refl
