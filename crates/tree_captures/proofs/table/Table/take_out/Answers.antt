use Rattle.std.proofs.Common.{refl}
use Rattle.swc_ast.specs.Resolved.{declares_text}
use Rattle.swc_resolved.specs.Names.{names}
use Rattle.tree_captures.specs.Views.{known_of}
use Rattle.tree_captures.proofs.Tables.{has_outer, had_next, taken_next, outside_next, had_all, taken_all}
use Rattle.tree_captures.proofs.table.Table.take_out.Goals as goal

pub loop-left-preserved : goal.loop-left-preserved
loop-left-preserved c = (
  λ t. had_next c.loop-left.outer.items c.push.new.self.items _ c.loop-left.left.now _ t c.in_ok-push.ensures.items c.in-len1-up.len_at_least refl (c.loop-left.invariant.0 t),
  λ t. taken_next c.loop-left.self.known c.remove-known.new.self c.loop-left.outer.items c.push.new.self.items _ _ t c.in_ok-push.ensures.items c.remove-known.ensures.updates (c.loop-left.invariant.1 t),
  λ e x. outside_next c.args.self.now (λ s. known_of c.loop-left.self s) c.loop-left.outer.items c.push.new.self.items _ e x c.in_ok-push.ensures.items c.remove-known.ensures.value c.loop-left.invariant.1 (λ f. c.loop-left.invariant.2 f x),
)

pub returns-clause-taken : goal.returns-clause-taken
returns-clause-taken c = λ t. taken_all (has_outer c.loop-left.outer.items t) (declares_text (names c.args.names.now) t) _ _ _ (had_all c.loop-left.outer.items c.loop-left.left.now _ t c.in_default.len_below (c.loop-left.invariant.0 t)) (c.loop-left.invariant.1 t)

pub returns-clause-outside : goal.returns-clause-outside
returns-clause-outside c = λ e x. taken_all (has_outer c.loop-left.outer.items x.text) (declares_text (names c.args.names.now) x.text) _ _ _ (had_all c.loop-left.outer.items c.loop-left.left.now _ x.text c.in_default.len_below (c.loop-left.invariant.0 x.text)) (c.loop-left.invariant.2 e x)
