-- one piece more
use Rattle.std.proofs.Common.{sym, ◌∙◌}
use Rattle.text_tokens.specs.Texts.{piece}
use Rattle.text_tokens.proofs.Steps.{where_both}
use Rattle.text_tokens.proofs.quoted.after_pieces.Goals as goal

pub loop-piece-init : goal.loop-piece-init
loop-piece-init c = λ e h. h

pub loop-piece-preserved : goal.loop-piece-preserved
loop-piece-preserved c = λ e h. c.loop-piece.invariant e (piece (sym c.ends.ensures ∙ c.if-ends.false) c.in_ok-behind_text.ensures h)

pub returns-then-ends : goal.returns-then-ends
returns-then-ends c = where_both _ _ c.at_end.result (λ rest. c.loop-piece.invariant rest.now) c.at_end.ensures

pub returns : goal.returns
returns c = where_both _ _ c.at_end-2.result (λ rest. c.loop-piece.invariant rest.now) c.at_end-2.ensures
