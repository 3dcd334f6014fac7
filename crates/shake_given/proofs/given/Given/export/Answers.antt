use Rattle.swc_ast.specs.Views.{expr_tree}
use Rattle.shake_options.specs.Flags.{a_const}
use Rattle.shake_given.specs.Refusals.{no_memory, unread_value, Refuses}
use Rattle.shake_given.proofs.Refusals.{returned}
use Rattle.shake_given.proofs.given.Given.export.Goals as goal

pub returns-in_err-set_export-clause-refused : goal.returns-in_err-set_export-clause-refused
returns-in_err-set_export-clause-refused c = returned c.from_residual-in_err-set_export.result (Refuses (a_const c.args.source.now c.args.name.now c.args.value.now) c.args.mark) _ c.from_residual-in_err-set_export.ensures.1 (unread_value no_memory)

pub returns-clause-exports : goal.returns-clause-exports
returns-clause-exports c = record {
  value = record { tree = expr_tree c.in_ok-value.value; read = c.in_ok-value.ensures.read; holds = c.in_ok-value.ensures.givable };
  sets = c.in_ok-set_export.ensures;
}
