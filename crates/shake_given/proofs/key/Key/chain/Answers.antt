use Rattle.std.proofs.Common.{sym, ◌∙◌}
use Rattle.swc_ast.specs.Views.{expr_tree}
use Rattle.shake_given.specs.Keys.{key_text}
use Rattle.shake_given.specs.Refusals.{no_memory, RefusesKey, unread_key, no_chain}
use Rattle.shake_given.proofs.Refusals.{returned}
use Rattle.shake_given.proofs.key.Key.chain.Goals as goal

pub returns-in_err-chain-clause-refused : goal.returns-in_err-chain-clause-refused
returns-in_err-chain-clause-refused c = returned c.from_residual.result (RefusesKey (key_text c.args.self) c.args.self.name.now c.args.mark) c.in_err-chain.field-0.0 c.from_residual.ensures.1 (unread_key c.in_err-chain.ensures.unread)

pub returns-in_err-text-clause-refused : goal.returns-in_err-text-clause-refused
returns-in_err-text-clause-refused c = returned c.from_residual-in_err-text.result (RefusesKey (key_text c.args.self) c.args.self.name.now c.args.mark) _ c.from_residual-in_err-text.ensures.1 (unread_key no_memory)

pub returns-in_ok-text-clause-refused : goal.returns-in_ok-text-clause-refused
returns-in_ok-text-clause-refused c = no_chain c.in_ok-text.ensures (record { tree = expr_tree c.in_ok-chain.chain; read = c.in_ok-chain.ensures.read; holds = sym c.is_chain.ensures ∙ c.if-is_chain.false })
