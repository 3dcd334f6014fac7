use Rattle.std.proofs.Common.{sym, subst}
use Rattle.swc_ast.specs.Modules.{script_tree}
use Rattle.swc_pass.specs.Pass.{TellsChange}
use Rattle.swc_optimization.proofs.Turns.{cleared_as, cleared_tells}
use Rattle.swc_optimization.proofs.rounds.ScriptInRounds.cleared.Goals as goal

pub returns-clause-answer : goal.returns-clause-answer
returns-clause-answer c = cleared_as _ _ (script_tree c.args.self) (script_tree c.in_ok-simplified.simplified.whole) (script_tree c.in_ok-removed.removed.whole) c.in_ok-simplified.ensures.answer c.in_ok-removed.ensures.answer

pub returns-clause-changed : goal.returns-clause-changed
returns-clause-changed c =
    let t = script_tree c.args.self in
    let v = script_tree c.in_ok-simplified.simplified.whole in
    let u = script_tree c.in_ok-removed.removed.whole in
    subst (λ b. TellsChange b t u) (sym c.either-changed.ensures) (cleared_tells _ _ _ _ t v u c.in_ok-simplified.ensures.answer c.in_ok-simplified.ensures.changed c.in_ok-removed.ensures.answer c.in_ok-removed.ensures.changed)
