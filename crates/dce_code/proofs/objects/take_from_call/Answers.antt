use Rattle.std.proofs.Common.{subst}
use Rattle.std.proofs.lemmas.Option.{IfSome_then}
use Rattle.swc_ast.specs.Views.{expr_tree}
use Rattle.dce_code.specs.Objects.{Gives}
use Rattle.dce_code.proofs.Given.{counted_none, call_shakes, given_fits}
use Rattle.dce_code.proofs.objects.take_from_call.Goals as goal

pub returns-clause-steps : goal.returns-clause-steps
returns-clause-steps c = IfSome_then c.take_from_callee.result c.take_from_callee.ensures.gives (λ o h S. call_shakes S c.args.n.now (expr_tree o) (counted_none _ _ c.args.n.now.args.items c.if-not-is_empty.false c.is_empty.ensures c.args.n.now.args.ok.0) (subst (λ e. Gives (expr_tree e) (expr_tree o)) c.deref_mut.ensures.value h))

pub returns-clause-fits : goal.returns-clause-fits
returns-clause-fits c = IfSome_then c.take_from_callee.result c.take_from_callee.ensures.gives (λ o h p. given_fits p h)
