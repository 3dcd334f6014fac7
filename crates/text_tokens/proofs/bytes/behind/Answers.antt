-- what is behind it
use Rattle.std.proofs.lemmas.Slice.Eq.{strip_prefix_is}
use Rattle.std.proofs.lemmas.Bool.Decides.{Decides-eqb}
use Rattle.text_tokens.proofs.Steps.{where_some}
use Rattle.text_tokens.proofs.bytes.behind.Goals as goal

pub returns : goal.returns
returns c = where_some _ _ c.strip_prefix.result (strip_prefix_is Decides-eqb c.args.text.now c.args.front.now c.strip_prefix.result c.strip_prefix.ensures.cases)
