use Rattle.pass_proofs.proofs.Defaults.{void_is_undefined}
use Rattle.pass_proofs.proofs.DefaultsOwe.{default_owes}
use Rattle.pass_proofs.proofs.ExprTrees.{is_an_expression}
use Rattle.pass_proofs.proofs.laws.Goals as goal

pub returns : goal.returns
returns c = record {
  trees = is_an_expression;
  defaults = void_is_undefined;
  defaults_owe = λ n p x ss rs t. default_owes x ss rs t;
}
