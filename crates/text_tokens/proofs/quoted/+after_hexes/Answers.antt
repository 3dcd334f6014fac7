-- one digit more
use Rattle.std.proofs.Common.{◌≡◌, ◌<◌, sym, subst, ◌∙◌, arith}
use Rattle.text_tokens.specs.Texts.{Hexes, no_hex}
use Rattle.text_tokens.proofs.Steps.{where_both, hexes_at}
use Rattle.text_tokens.proofs.quoted.+after_hexes.Goals as goal

pub returns-then-count-eq0 : goal.returns-then-count-eq0
returns-then-count-eq0 t c = let none : c.args.count ≡ 0 = omega arith in subst (λ k. Hexes k c.args.before c.args.before c.args.text.now c.args.text.now) (sym none) no_hex

pub returns : goal.returns
returns t c =
    let some : 0 < c.args.count = omega arith in
    where_both _ _ c.after_hexes.result
    (λ found. hexes_at c.args.count c.args.before found.0 c.hex.result c.in_ok-first.first c.args.text.now c.in_ok-first.rest.now found.1.now some c.in_ok-first.ensures (sym c.is_hex.ensures ∙ c.if-not-is_hex.false) c.hex.ensures.value)
    c.after_hexes.ensures
