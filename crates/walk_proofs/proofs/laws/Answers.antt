use Rattle.std.proofs.Common.{refl}
use Rattle.tree_walk.proofs.Walked.{whole_same}
use Rattle.walk_proofs.proofs.Plain.{right_same}
use Rattle.walk_proofs.proofs.Dying.{dying_same}
use Rattle.walk_proofs.proofs.Static.{whole_resolved, whole_core, whole_falls, whole_free}
use Rattle.walk_proofs.proofs.laws.Goals as goal

pub returns-clause-same : goal.returns-clause-same
returns-clause-same g c = λ mark p loads d t u w. right_same p loads w

pub returns-clause-dying : goal.returns-clause-dying
returns-clause-dying g c = λ mark r loads d t u e k s w. dying_same mark r loads e k s w

pub returns-clause-resolved : goal.returns-clause-resolved
returns-clause-resolved g c = λ n p f mark d t u e w r. whole_resolved f e w r

pub returns-clause-core : goal.returns-clause-core
returns-clause-core g c = λ n p f d t u w k. whole_core f w k

pub returns-clause-lighter : goal.returns-clause-lighter
returns-clause-lighter g c = λ n f t u w. whole_falls f.settled f.lowers w

pub returns-clause-free : goal.returns-clause-free
returns-clause-free g c = λ n f k free shut t u w. whole_free f.settled f.lowers k free shut w

pub returns-clause-unchanged : goal.returns-clause-unchanged
returns-clause-unchanged g c = λ t u w. whole_same w refl
