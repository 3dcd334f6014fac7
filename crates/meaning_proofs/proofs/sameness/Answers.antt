use Rattle.meaning_proofs.proofs.sameness.Goals as goal
use Rattle.meaning_proofs.proofs.Runs.{same, same_in}
use Rattle.meaning_proofs.proofs.Spans.{same_bare}
use Rattle.meaning_proofs.proofs.Observations.{same_trans}

pub returns-clause-rewritten : goal.returns-clause-rewritten
returns-clause-rewritten c = λ loads N mark t u h. same loads h

pub returns-clause-rewritten_in : goal.returns-clause-rewritten_in
returns-clause-rewritten_in c = λ N mark does ignores t u h. same_in h

pub returns-clause-spans : goal.returns-clause-spans
returns-clause-spans c = λ mark loads t u e. same_bare mark loads t u e

pub returns-clause-goes_on : goal.returns-clause-goes_on
returns-clause-goes_on c = λ mark loads t u v h i. same_trans mark loads t u v h i
