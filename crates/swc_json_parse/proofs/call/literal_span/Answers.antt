use Rattle.swc_json_parse.proofs.Calls.{array_span, object_span, no_span}
use Rattle.swc_json_parse.proofs.call.literal_span.Goals as goal

pub returns-in-Array : goal.returns-in-Array
returns-in-Array c = array_span c.args.e.now c.in-Array.n c.in-Array.is

pub returns-in-Object : goal.returns-in-Object
returns-in-Object c = object_span c.args.e.now c.in-Object.n c.in-Object.is

pub returns-in_default : goal.returns-in_default
returns-in_default c = no_span c.args.e.now c.in_default.not-Array c.in_default.not-Object
