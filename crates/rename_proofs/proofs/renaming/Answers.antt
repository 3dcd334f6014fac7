use Rattle.rename_proofs.proofs.renaming.Goals as goal
use Rattle.rename_proofs.proofs.Runs.{same}
use Rattle.rename_proofs.proofs.Tables.{same_by_table}
use Rattle.rename_proofs.proofs.Tells.{tree_stays, names_stay}
use Rattle.rename_proofs.proofs.OpenStays.{core_opened, resolved_opened}
use Rattle.rename_proofs.proofs.Opens.{opened_same}
use Rattle.rename_proofs.proofs.Stays.{valid_by_table, core_by_table, resolved_by_table}

pub returns-clause-renamed : goal.returns-clause-renamed
returns-clause-renamed c = λ mark loads to t r e. same (record { mark = mark; to = to; is = r }) loads t e

pub returns-clause-tabled : goal.returns-clause-tabled
returns-clause-tabled c = λ mark loads ps t h. same_by_table mark loads ps t h

pub returns-clause-valid : goal.returns-clause-valid
returns-clause-valid c = λ ps t e h. valid_by_table ps t e h

pub returns-clause-core : goal.returns-clause-core
returns-clause-core c = λ mark ps t f e h. core_by_table mark ps t f e h

pub returns-clause-resolved : goal.returns-clause-resolved
returns-clause-resolved c = λ mark ps t f a r. resolved_by_table mark ps t f a r

pub returns-clause-tells : goal.returns-clause-tells
returns-clause-tells c = λ to t. (tree_stays to t, names_stay to t)

pub returns-clause-opened : goal.returns-clause-opened
returns-clause-opened c = λ mark loads t. opened_same mark loads t

pub returns-clause-opened_core : goal.returns-clause-opened_core
returns-clause-opened_core c = λ t h. core_opened t h

pub returns-clause-opened_resolved : goal.returns-clause-opened_resolved
returns-clause-opened_resolved c = λ mark t e r. resolved_opened mark t e r
