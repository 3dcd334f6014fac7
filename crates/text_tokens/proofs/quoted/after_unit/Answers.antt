-- four digits, or some in braces
use Rattle.text_tokens.proofs.Steps.{where_both, four_at, braced_at}
use Rattle.text_tokens.proofs.quoted.after_unit.Goals as goal

pub returns-in-Some : goal.returns-in-Some
returns-in-Some c = where_both _ _ c.after_braces.result (λ found. braced_at found.0 c.args.text.now c.in_ok-rest.rest.now c.in-Some.digits.now found.1.now c.in_ok-rest.ensures c.in-Some.ensures) c.after_braces.ensures

pub returns-in-None : goal.returns-in-None
returns-in-None c = where_both _ _ c.after_hexes.result (λ found. four_at found.0 c.args.text.now c.in_ok-rest.rest.now found.1.now c.in_ok-rest.ensures) c.after_hexes.ensures
