use Rattle.std.proofs.Common.{◌≡◌, subst, string_bytes}
use Rattle.std.specs.Prelude.{IfSome, MatchOption}
use Rattle.swc_ast.specs.Views.{expr_tree}
use Rattle.swc_utils.specs.Globals.{unresolved}
use Rattle.expr_members.specs.Members.{IsKey, StandsFor}
use Rattle.expr_members.proofs.MemberSteps.{replaced}
use Rattle.expr_members.proofs.members.fold_member.Goals as goal

pub returns-in_ok-folded-in-Some : goal.returns-in_ok-folded-in-Some
returns-in_ok-folded-in-Some c =
    let mark = unresolved c.args.ctx.now in
    let new = c.member_of.new.object in
    replaced mark c.args.n.now.span c.args.n.now.obj.value new c.args.n.now.prop (string_bytes c.in-Some.key) c.in_ok-folded-in-Some.folded
    (subst (λ o. IfSome o (λ k. IsKey c.args.n.now.prop (string_bytes k))) c.in-Some.is c.in_ok-key.ensures)
    (subst (λ x. MatchOption c.in_ok-folded-in-Some.folded (new ≡ x) (λ e. StandsFor mark (expr_tree x) (string_bytes c.in-Some.key) e)) c.deref_mut.ensures.value
    (subst (λ k. MatchOption c.in_ok-folded-in-Some.folded (new ≡ c.deref_mut.result.now) (λ e. StandsFor mark (expr_tree c.deref_mut.result.now) k e)) c.deref-in-Some.ensures c.in_ok-folded-in-Some.ensures))
