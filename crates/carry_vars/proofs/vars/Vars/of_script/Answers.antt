use Rattle.swc_ast.specs.Modules.{script_tree}
use Rattle.carry_vars.proofs.Telling.{told_of}
use Rattle.carry_vars.proofs.vars.Vars.of_script.Goals as goal

pub returns : goal.returns
returns c = told_of (script_tree c.args.s.now) c.args.names.now (record { table = c.count.new.table }) c.in_ok-table.table c.empty.result c.requires c.empty.ensures c.in_ok-table.ensures c.count.ensures
