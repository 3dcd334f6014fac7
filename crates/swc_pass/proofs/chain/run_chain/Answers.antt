use Rattle.std.proofs.Common.{◌∙◌, sym, subst}
use Rattle.swc_pass.specs.ChainLaws.{lower_row, lower_tells}
use Rattle.swc_pass.specs.Pass.{TellsChange}
use Rattle.swc_pass.proofs.chain.run_chain.Goals as goal

pub returns-then-lowers-2-clause-answer : goal.returns-then-lowers-2-clause-answer
returns-then-lowers-2-clause-answer g c = lower_row (g.met.A.Pass.lawful c.args.first.now) (g.met.B.Pass.lawful c.args.second.now) (sym c.lowers.ensures ∙ c.if-lowers.true) (sym c.lowers-then-lowers.ensures ∙ c.if-lowers-2.true) _ _ _ _ c.in_ok-whole.ensures.answer

pub returns-then-lowers-2-clause-changed : goal.returns-then-lowers-2-clause-changed
returns-then-lowers-2-clause-changed g c = subst (λ b. TellsChange b (g.W.Whole.tree c.args.whole) (g.W.Whole.tree c.in_ok-whole.whole)) (sym c.is_either_changed-changed.ensures) (lower_tells (g.met.A.Pass.lawful c.args.first.now) (g.met.B.Pass.lawful c.args.second.now) (sym c.lowers.ensures ∙ c.if-lowers.true) (sym c.lowers-then-lowers.ensures ∙ c.if-lowers-2.true) _ _ _ _ c.in_ok-whole.ensures.answer)
