use Rattle.std.proofs.Common.{◌∷◌, [], sym, subst}
use Rattle.static_proofs.proofs.ShapedViews.{items_shaped}
use Rattle.swc_ast.specs.Modules.{item_tree}
use Rattle.swc_ast.specs.Parts.{list_trees}
use Rattle.swc_ast.specs.Tree.{Module, node}
use Rattle.swc_pass.specs.Pass.{TellsChange}
use Rattle.swc_expr.specs.Simplified.{Simplified}
use Rattle.swc_expr.proofs.SimplifyLaw.{simplified, tells as simplified_tells}
use Rattle.swc_branch.specs.Removed.{Removed}
use Rattle.swc_branch.proofs.RemoveLaw.{removed, tells as removed_tells}
use Rattle.round_units.specs.Trees.{units_tree}
use Rattle.swc_optimization.proofs.Turns.{cleared_as, cleared_tells}
use Rattle.swc_optimization.proofs.rounds.UnitsInRounds.cleared.Goals as goal

pub returns-clause-answer : goal.returns-clause-answer
returns-clause-answer c =
    let h = c.in_ok-made.ensures in
    let t = units_tree c.args.self in
    let v = node Module (h.span ∷ []) (list_trees item_tree h.between) in
    let u = units_tree c.in_ok-made.made.whole in
    cleared_as _ _ t v u
    (subst (λ n. Simplified n t v) c.rules-simplifying.ensures (simplified _ t v h.by_first h.simplified))
    (subst (λ n. Removed n v u) c.rules-removing.ensures (removed _ v u h.by_second (items_shaped h.span h.between) h.removed))

pub returns-clause-changed : goal.returns-clause-changed
returns-clause-changed c =
    let h = c.in_ok-made.ensures in
    let t = units_tree c.args.self in
    let v = node Module (h.span ∷ []) (list_trees item_tree h.between) in
    let u = units_tree c.in_ok-made.made.whole in
    subst (λ b. TellsChange b t u) (sym h.either)
    (cleared_tells _ _ h.by_first h.by_second t v u
    (subst (λ n. Simplified n t v) c.rules-simplifying.ensures (simplified _ t v h.by_first h.simplified)) (simplified_tells _ t v h.by_first h.simplified)
    (subst (λ n. Removed n v u) c.rules-removing.ensures (removed _ v u h.by_second (items_shaped h.span h.between) h.removed)) (removed_tells _ v u h.by_second h.removed))
