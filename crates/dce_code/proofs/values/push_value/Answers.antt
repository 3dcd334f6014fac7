use Rattle.std.proofs.Common.{sym, ◌∙◌}
use Rattle.swc_ast.specs.Parts.{list_trees}
use Rattle.swc_ast.specs.Views.{expr_tree}
use Rattle.dce_code.proofs.Valued.{no_value, plain_value, value_stays}
use Rattle.dce_code.proofs.values.push_value.Goals as goal

pub returns-in-None : goal.returns-in-None
returns-in-None c = λ S k free. no_value S k c.args.d (list_trees expr_tree c.args.out.now.items) c.in-None.is free

pub returns-then-is_plain_value : goal.returns-then-is_plain_value
returns-then-is_plain_value c = λ S k free. plain_value S k c.args.d c.in-Some.init c.into_inner-value.result (list_trees expr_tree c.args.out.now.items) c.in-Some.is c.into_inner-value.ensures (sym c.is_plain_value.ensures ∙ c.if-is_plain_value.true) free

pub returns : goal.returns
returns c = λ S k free. value_stays S k c.args.d c.in-Some.init c.into_inner-value.result c.args.out.now.items _ c.in-Some.is c.into_inner-value.ensures c.in_ok-push-in-Some.ensures.items free
