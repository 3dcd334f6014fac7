use Rattle.std.proofs.Common.{subst, ◌∙◌}
use Rattle.std.specs.Prelude.{IfSome}
use Rattle.swc_resolved.specs.Names.{names, members}
use Rattle.swc_resolved.specs.Once.{EachOnce, AreMembers}
use Rattle.swc_resolved.proofs.Lists.{first_false, first_true}
use Rattle.swc_resolved.proofs.Once.{none_turned}
use Rattle.swc_resolved.proofs.distinct.are_apart.Goals as goal

pub returns-in-None : goal.returns-in-None
returns-in-None c = first_false _ _ (subst (EachOnce (names c.args.names.now)) c.in-None.is c.in_ok-set_of-in_default.ensures.once)

pub returns-in-Some : goal.returns-in-Some
returns-in-Some c = c.has_none.ensures ∙ none_turned (members c.in-Some.set) (names c.args.names.now) (names c.args.others.now) (subst (λ o. IfSome o (AreMembers (names c.args.names.now))) c.in-Some.is c.in_ok-set_of-in_default.ensures.members) ∙ first_true _ _ (subst (EachOnce (names c.args.names.now)) c.in-Some.is c.in_ok-set_of-in_default.ensures.once)
