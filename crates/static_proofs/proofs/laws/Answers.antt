use Rattle.static_proofs.proofs.Bare.{same_exactly}
use Rattle.static_proofs.proofs.Free.{free_of_both}
use Rattle.static_proofs.proofs.Whole.{resolved_kept, core_kept}
use Rattle.static_proofs.proofs.ShapedViews.{module_shaped, script_shaped}
use Rattle.static_proofs.proofs.laws.Goals as goal

pub returns-clause-resolved : goal.returns-clause-resolved
returns-clause-resolved c = λ mark p t u k s e r. resolved_kept k s e r

pub returns-clause-core : goal.returns-clause-core
returns-clause-core c = λ t u k i. core_kept k i

pub returns-clause-exactly : goal.returns-clause-exactly
returns-clause-exactly c = λ n t u w e. same_exactly w e

pub returns-clause-free : goal.returns-clause-free
returns-clause-free c = λ t h i. free_of_both t h i

pub returns-clause-modules : goal.returns-clause-modules
returns-clause-modules c = λ m. module_shaped m

pub returns-clause-scripts : goal.returns-clause-scripts
returns-clause-scripts c = λ s. script_shaped s
