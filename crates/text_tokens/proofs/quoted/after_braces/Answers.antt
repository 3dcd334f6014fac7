-- digits and a brace
use Rattle.std.proofs.Common.{◌<◌, arith}
use Rattle.text_tokens.proofs.Steps.{braces_at}
use Rattle.text_tokens.proofs.quoted.after_braces.Goals as goal

pub returns : goal.returns
returns c = let some : 0 < c.hexes_len-count.result = omega arith in braces_at c.hexes_len-count.result c.in_ok-unit.unit c.args.text.now c.in_ok-unit.end.now c.in_ok-rest.rest.now some c.in_ok-rest.ensures c.in_ok-unit.ensures
