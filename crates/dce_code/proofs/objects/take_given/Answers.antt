use Rattle.std.proofs.Common.{refl}
use Rattle.std.proofs.lemmas.Option.{IfSome_then}
use Rattle.swc_ast.specs.Views.{expr_tree}
use Rattle.dce_code.proofs.Given.{counted_none, given_by, function_stays}
use Rattle.dce_code.proofs.objects.take_given.Goals as goal

pub returns-clause-gives : goal.returns-clause-gives
returns-clause-gives c = IfSome_then c.take_alone.result c.take_alone.ensures.returns (λ o h fs. given_by c.args.f.now (expr_tree o) (counted_none _ _ c.args.f.now.params.items c.if-not-is_empty.false c.is_empty.ensures c.args.f.now.params.ok.0) h fs)

pub returns-clause-stays : goal.returns-clause-stays
returns-clause-stays c = λ h. function_stays c.args.f.now _ refl refl refl (c.take_alone.ensures.stays h)
