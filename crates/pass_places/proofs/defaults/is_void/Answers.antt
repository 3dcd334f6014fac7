use Rattle.std.proofs.Common.{◌∙◌}
use Rattle.pass_places.proofs.Views.{other_void, void_at, void_not_at}
use Rattle.pass_places.proofs.defaults.is_void.Goals as goal

pub returns-in-Void : goal.returns-in-Void
returns-in-Void c = void_at _ _ _ _ c.in-Unary.is c.in-Void.is (cc (c.may_have_side_effects.ensures.answer, c.deref.ensures))

pub returns-in_default-op : goal.returns-in_default-op
returns-in_default-op c = void_not_at _ _ _ c.in-Unary.is c.in_default-op.not-Void

pub returns-in_default : goal.returns-in_default
returns-in_default c = c.is_undefined.ensures.answer ∙ other_void _ _ c.in_default.not-Unary
