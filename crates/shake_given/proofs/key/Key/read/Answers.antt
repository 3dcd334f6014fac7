use Rattle.std.proofs.lemmas.Result.{IfOk-from_err}
use Rattle.swc_ast.specs.Views.{expr_tree}
use Rattle.shake_given.specs.Keys.{key_text}
use Rattle.shake_given.specs.Reads.{IsRead}
use Rattle.shake_given.specs.Refusals.{Unread, no_memory, unreadable}
use Rattle.shake_given.proofs.Refusals.{returned, is_unread}
use Rattle.shake_given.proofs.key.Key.read.Goals as goal

pub returns-in_err-text-in_default : goal.returns-in_err-text-in_default
returns-in_err-text-in_default c =
    let r = c.from_residual.result in
    record {
      read = IfOk-from_err r (λ e. IsRead c.args.text.now c.args.mark (expr_tree e)) c.from_residual.ensures.0;
      unread = returned r (Unread (key_text c.args.self) c.args.text.now) _ c.from_residual.ensures.1 no_memory;
    }

pub returns-in-OutOfMemory-clause-unread : goal.returns-in-OutOfMemory-clause-unread
returns-in-OutOfMemory-clause-unread c = no_memory

pub returns-in_ok-text-in_default : goal.returns-in_ok-text-in_default
returns-in_ok-text-in_default c = record {
  read = tt;
  unread = unreadable c.in_ok-text-in_default.ensures (is_unread c.read_value.result c.args.text.now c.in-Err.fault c.in-Err.is c.read_value.ensures.too_long c.in_default.not-OutOfMemory);
}
