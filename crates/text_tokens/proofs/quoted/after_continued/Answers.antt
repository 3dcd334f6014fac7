-- it stands for nothing
use Rattle.text_tokens.specs.Texts.{continued}
use Rattle.text_tokens.proofs.quoted.after_continued.Goals as goal

pub returns : goal.returns
returns c = continued c.in_ok-rest.ensures
