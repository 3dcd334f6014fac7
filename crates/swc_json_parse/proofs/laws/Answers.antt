use Rattle.swc_json_parse.proofs.ReadBack.{texts_read_back}
use Rattle.swc_json_parse.proofs.laws.Goals as goal

pub returns : goal.returns
returns c = record { reads = texts_read_back }
