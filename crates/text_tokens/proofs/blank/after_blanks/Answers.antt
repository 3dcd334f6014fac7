-- whether a line ends or not
use Rattle.text_tokens.specs.Lines.{blanks}
use Rattle.text_tokens.proofs.blank.after_blanks.Goals as goal

pub returns : goal.returns
returns c = blanks c.after_between-line.ensures
