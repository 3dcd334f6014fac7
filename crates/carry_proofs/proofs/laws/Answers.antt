use Rattle.carry_proofs.proofs.laws.Goals as goal
use Rattle.carry_proofs.proofs.Answered.{answered}
use Rattle.carry_proofs.proofs.Kept.{propagation_kept}
use Rattle.carry_proofs.proofs.Lawful.{propagation_lawful}
use Rattle.carry_proofs.proofs.Voids.{propagated_voids}
use Rattle.carry_proofs.proofs.Same.{propagated_early, propagated_same, module_whole, script_whole}

pub returns-clause-same : goal.returns-clause-same
returns-clause-same c = λ p mark loads t w r o. propagated_same p loads t w r o

pub returns-clause-resolved : goal.returns-clause-resolved
returns-clause-resolved c = λ p mark t w r. (propagation_kept p t w).resolved mark r

pub returns-clause-valid : goal.returns-clause-valid
returns-clause-valid c = λ p t w e. (propagation_kept p t w).valid_too e

pub returns-clause-core : goal.returns-clause-core
returns-clause-core c = λ p t w o. (propagation_kept p t w).core o

pub returns-clause-lawful : goal.returns-clause-lawful
returns-clause-lawful c = propagation_lawful

pub returns-clause-modules : goal.returns-clause-modules
returns-clause-modules c = module_whole

pub returns-clause-scripts : goal.returns-clause-scripts
returns-clause-scripts c = script_whole

pub returns-clause-literals : goal.returns-clause-literals
returns-clause-literals c = λ p mark t w r o x h. propagated_early p t w r o x h

pub returns-clause-voids : goal.returns-clause-voids
returns-clause-voids c = propagated_voids

pub returns-clause-answers : goal.returns-clause-answers
returns-clause-answers c = answered
