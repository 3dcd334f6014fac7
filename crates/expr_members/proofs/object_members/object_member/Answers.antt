use Rattle.std.proofs.Common.{rules, sym, ap, ◌∙◌}
use Rattle.tree_keys.specs.Keys.{are_keys, keys_of}
use Rattle.swc_utils.specs.Globals.{unresolved}
use Rattle.expr_members.proofs.MemberSteps.{object_arm}
use Rattle.expr_members.proofs.Props.{trees_of}
use Rattle.expr_members.proofs.object_members.object_member.Goals as goal

pub returns-in_ok-folded-in-Object : goal.returns-in_ok-folded-in-Object
returns-in_ok-folded-in-Object c = object_arm (unresolved c.args.ctx.now) c.args.key.now _ c.object_value.new.object c.in_ok-folded-in-Object.folded c.in-Object.is c.in-Object.object-is (search rules)
    (ap (λ xs. are_keys (keys_of (trees_of xs))) (sym c.deref.ensures.value) ∙ sym c.in_ok-are_keys-in-Object.ensures ∙ c.if-not-branch-2.false)
    c.in_ok-folded-in-Object.ensures
