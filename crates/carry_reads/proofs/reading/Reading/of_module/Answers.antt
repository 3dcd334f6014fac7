use Rattle.swc_ast.specs.Modules.{module_tree}
use Rattle.carry_parts.specs.Carries.{pass_of}
use Rattle.carry_reads.proofs.Starting.{call_tells}
use Rattle.carry_reads.proofs.reading.Reading.of_module.Goals as goal

pub returns : goal.returns
returns c = call_tells c.read.result (pass_of c.args.pass) c.in_ok-vars.vars (module_tree c.args.m.now) c.in_ok-vars.ensures c.read.ensures
