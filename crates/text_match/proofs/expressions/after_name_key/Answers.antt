-- the name
use Rattle.std.proofs.Common.{◌∙◌, subst}
use Rattle.text_tokens.specs.Tokens.{Name}
use Rattle.text_match.specs.Grammar.{name_key}
use Rattle.text_match.proofs.Steps.{where_some}
use Rattle.text_match.proofs.expressions.after_name_key.Goals as goal

pub returns : goal.returns
returns c = where_some _ _ c.after_name.result (λ rest h. name_key (subst (λ w. Name w c.args.text.now rest.now) (c.as_bytes.ensures.value ∙ c.as_str.ensures.value) h)) c.after_name.ensures
