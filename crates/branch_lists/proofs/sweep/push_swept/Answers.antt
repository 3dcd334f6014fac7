use Rattle.std.proofs.Common.{[], ◌∷◌, sym, ap, ◌∙◌}
use Rattle.std.specs.Prelude.{if◌then◌else◌}
use Rattle.swc_ast.specs.Modules.{item_tree}
use Rattle.swc_ast.specs.Scope.{joined}
use Rattle.swc_ast.specs.Tree.{ε, ◌⊳◌}
use Rattle.branch_lists.specs.Swept.{trees, contents}
use Rattle.branch_lists.proofs.Onto.{onto_item, call_onto}
use Rattle.branch_lists.proofs.Turns.{pushed_item}
use Rattle.branch_lists.proofs.sweep.push_swept.Goals as goal

pub returns-then-not-is_loose-clause-swept : goal.returns-then-not-is_loose-clause-swept
returns-then-not-is_loose-clause-swept g c =
    let f = g.T.StmtLike.item in
    let t = item_tree (f c.args.item) in
    pushed_item f c.args.out.now.items _ c.args.item c.in_ok-push.ensures.items
    ∙ ap (λ b. joined (trees f c.args.out.now.items) (if b then contents t else t ⊳ ε)) (sym (sym c.is_loose.ensures ∙ c.if-not-is_loose.true))

pub returns-then-not-is_loose-clause-kept : goal.returns-then-not-is_loose-clause-kept
returns-then-not-is_loose-clause-kept g c = onto_item c.in_ok-push.ensures.items

pub returns-in-Ok-clause-kept : goal.returns-in-Ok-clause-kept
returns-in-Ok-clause-kept g c = call_onto g.T.StmtLike.made (c.args.item ∷ []) c.args.out.now.items c.push_stmts.new.out.items c.push_stmts.result c.push_stmts.ensures.made
