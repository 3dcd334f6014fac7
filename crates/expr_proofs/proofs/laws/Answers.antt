use Rattle.expr_proofs.proofs.ExprSteps.{step_exact}
use Rattle.expr_proofs.proofs.Owes.{step_owes, step_fits, step_no_item}
use Rattle.expr_proofs.proofs.Roomy.{guarded_lighter}
use Rattle.expr_proofs.proofs.Redexes.{redexes_step}
use Rattle.expr_proofs.proofs.laws.Goals as goal

pub returns : goal.returns
returns c = record {
  exact = λ mark t u s. step_exact s;
  owes = λ mark n p t u e s. step_owes e s;
  fits = λ mark t u e s. step_fits e s;
  no_item = λ mark t u s. step_no_item s;
  roomy = λ mark t u s. guarded_lighter s;
  redexes = λ mark ss. redexes_step mark ss;
}
