use Rattle.swc_ast.specs.Modules.{script_tree}
use Rattle.carry_parts.specs.Carries.{pass_of}
use Rattle.carry_reads.proofs.Starting.{call_tells}
use Rattle.carry_reads.proofs.reading.Reading.of_script.Goals as goal

pub returns : goal.returns
returns c = call_tells c.read.result (pass_of c.args.pass) c.in_ok-vars.vars (script_tree c.args.s.now) c.in_ok-vars.ensures c.read.ensures
