-- the name
use Rattle.std.proofs.Common.{◌∙◌, subst}
use Rattle.text_tokens.specs.Tokens.{Identifier}
use Rattle.text_match.specs.Grammar.{name}
use Rattle.text_match.proofs.Steps.{where_some}
use Rattle.text_match.proofs.expressions.after_ident.Goals as goal

pub returns : goal.returns
returns c = where_some _ _ c.after_identifier.result (λ rest h. name (subst (λ w. Identifier w c.args.text.now rest.now) (c.as_bytes.ensures.value ∙ c.as_str.ensures.value) h)) c.after_identifier.ensures
