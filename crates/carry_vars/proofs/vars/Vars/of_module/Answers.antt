use Rattle.swc_ast.specs.Modules.{module_tree}
use Rattle.carry_vars.proofs.Telling.{told_of}
use Rattle.carry_vars.proofs.vars.Vars.of_module.Goals as goal

pub returns : goal.returns
returns c = told_of (module_tree c.args.m.now) c.args.names.now (record { table = c.count.new.table }) c.in_ok-table.table c.empty.result c.requires c.empty.ensures c.in_ok-table.ensures c.count.ensures
