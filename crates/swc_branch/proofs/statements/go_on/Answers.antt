use Rattle.std.proofs.Common.{subst, sym}
use Rattle.swc_utils.specs.Globals.{unresolved}
use Rattle.branch_rules.specs.Removes.{Removes}
use Rattle.swc_branch.proofs.Becoming.{followed_at, unturned_at}
use Rattle.swc_branch.proofs.statements.go_on.Goals as goal

pub returns-in-Some : goal.returns-in-Some
returns-in-Some c = followed_at _ _ _ _ c.in-Some.turned c.in-Some.is c.in_ok-turned.ensures

pub returns-in-None : goal.returns-in-None
returns-in-None c = λ t n r. subst (Removes (unresolved c.args.ctx.now) t) (sym (unturned_at _ _ _ _ c.in-None.is c.in_ok-turned.ensures)) r
