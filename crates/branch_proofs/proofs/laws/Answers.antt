use Rattle.std.proofs.Common.{refl}
use Rattle.branch_proofs.proofs.Dying.{removes_die}
use Rattle.branch_proofs.proofs.ListsExact.{tidied_exact}
use Rattle.branch_proofs.proofs.Owes.{does_owe}
use Rattle.branch_proofs.proofs.Resting.{finished_free, finished_settled, valid_free}
use Rattle.branch_proofs.proofs.Steps.{removes_right}
use Rattle.branch_proofs.proofs.VarsStay.{does_lose_none}
use Rattle.branch_proofs.proofs.laws.Goals as goal

pub returns : goal.returns
returns c = record {
  right = λ mark t u r. removes_right r;
  owe = λ mark p a b d. does_owe refl d;
  free = λ mark b f. finished_free b f;
  settled = λ mark b f. finished_settled b f;
  valid_free = valid_free;
  lists = λ mark l ts us d. tidied_exact d;
  vars = λ mark a b d. does_lose_none d;
  dying = λ mark. removes_die mark;
}
