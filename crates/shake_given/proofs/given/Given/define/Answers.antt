use Rattle.std.proofs.Common.{refl, inl, sym, ap, subst}
use Rattle.swc_ast.specs.Views.{expr_tree}
use Rattle.shake_options.specs.Flags.{defined}
use Rattle.shake_given.specs.Refused.{of_pass}
use Rattle.shake_given.specs.Refusals.{no_memory, unread_key, Refuses}
use Rattle.shake_given.proofs.Refusals.{returned}
use Rattle.shake_given.proofs.given.Given.define.Goals as goal

pub returns-in_err-insert-clause-refused : goal.returns-in_err-insert-clause-refused
returns-in_err-insert-clause-refused c =
    let refuses = Refuses (defined c.args.key.now c.args.value.now) c.args.mark in
    returned c.from_residual-in_err-insert.result refuses (of_pass c.in_err-insert.field-0.0) c.from_residual-in_err-insert.ensures.1 (subst refuses (sym (ap of_pass c.in_err-insert.ensures.memory)) (inl (unread_key no_memory)))

pub returns-clause-defines : goal.returns-clause-defines
returns-clause-defines c = record {
  key = record { tree = expr_tree c.in_ok-chain.chain; read = c.in_ok-chain.ensures.read; holds = c.in_ok-chain.ensures.chain };
  value = record { tree = expr_tree c.in_ok-value.value; read = c.in_ok-value.ensures.read; holds = c.in_ok-value.ensures.givable };
  exprs = c.in_ok-insert.ensures.get;
  envs = refl;
  typeofs = refl;
  modules = refl;
}
