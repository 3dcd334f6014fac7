-- the text
use Rattle.std.proofs.Common.{subst}
use Rattle.text_tokens.specs.Texts.{Quoted}
use Rattle.text_match.specs.Grammar.{text_key}
use Rattle.text_match.proofs.Steps.{where_some}
use Rattle.text_match.proofs.expressions.after_text_key.Goals as goal

pub returns : goal.returns
returns c = where_some _ _ c.after_quoted.result (λ rest h. text_key (subst (λ w. Quoted w c.args.text.now rest.now) c.as_bytes.ensures.value h)) c.after_quoted.ensures
