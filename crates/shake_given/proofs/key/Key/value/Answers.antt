use Rattle.std.proofs.Common.{sym, subst}
use Rattle.swc_ast.specs.Views.{expr_tree}
use Rattle.shake_given.specs.Keys.{key_text}
use Rattle.shake_given.specs.Refusals.{no_memory, RefusesValue, unread_value, unfit}
use Rattle.shake_given.proofs.Refusals.{returned, untrue}
use Rattle.shake_given.proofs.key.Key.value.Goals as goal

pub returns-in_err-value-clause-refused : goal.returns-in_err-value-clause-refused
returns-in_err-value-clause-refused c = returned c.from_residual.result (RefusesValue (key_text c.args.self) c.args.text.now c.args.mark) c.in_err-value.field-0.0 c.from_residual.ensures.1 (unread_value c.in_err-value.ensures.unread)

pub returns-in_err-is_givable-clause-refused : goal.returns-in_err-is_givable-clause-refused
returns-in_err-is_givable-clause-refused c =
    let refuses = RefusesValue (key_text c.args.self) c.args.text.now c.args.mark in
    returned c.from_residual-in_err-is_givable.result refuses c.in_err-is_givable.field-0.0 c.from_residual-in_err-is_givable.ensures.1 (subst refuses (sym c.in_err-is_givable.ensures.memory) (unread_value no_memory))

pub returns-in_err-text-clause-refused : goal.returns-in_err-text-clause-refused
returns-in_err-text-clause-refused c = returned c.from_residual-in_err-text.result (RefusesValue (key_text c.args.self) c.args.text.now c.args.mark) _ c.from_residual-in_err-text.ensures.1 (unread_value no_memory)

pub returns-in_ok-text-clause-refused : goal.returns-in_ok-text-clause-refused
returns-in_ok-text-clause-refused c = unfit c.in_ok-text.ensures (record { tree = expr_tree c.in_ok-value.value; read = c.in_ok-value.ensures.read; holds = untrue _ c.in_ok-is_givable.ensures.answer c.if-branch.false })
