use Rattle.swc_pass.specs.RepeatLaws.{repeated_lawful, comes_to_end, few_rounds}
use Rattle.swc_pass.proofs.repeat_laws.Goals as goal

pub returns-clause-lawful : goal.returns-clause-lawful
returns-clause-lawful g c = λ s h most. repeated_lawful h most

pub returns-clause-comes_to_end : goal.returns-clause-comes_to_end
returns-clause-comes_to_end g c = λ s h l most t n b u k r. comes_to_end h most t n b r.last l k r.rounded

pub returns-clause-few_rounds : goal.returns-clause-few_rounds
returns-clause-few_rounds g c = λ s h l most t n b u r. few_rounds h t n b r.last l r.rounded.rounds
