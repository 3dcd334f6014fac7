-- the name that is written to
use Rattle.std.proofs.Common.{◌∙◌}
use Rattle.text_match.proofs.Steps.{writable_at}
use Rattle.text_match.proofs.expressions.is_writable.Goals as goal

pub returns-in-Ident : goal.returns-in-Ident
returns-in-Ident c = writable_at c.args.target.now c.in-Ident.name c.as_bytes.result.now c.is_evil.result c.in-Ident.is (c.as_bytes.ensures.value ∙ c.as_str.ensures.value) c.is_evil.ensures
