use Rattle.std.proofs.Common.{refl, sym, ap, codes, [], ◌∷◌, ◌∙◌, string_bytes, option_map}
use Rattle.tree_keys.proofs.Seen.{first_key, without_key, new_key}
use Rattle.tree_keys.proofs.keys.are_keys.Goals as goal
use Rattle.tree_keys.proofs.keys.are_keys.Goals.{in-Some+in_ok-insert-2+else-not-branch, in_default}

pub loop-prop-init : goal.loop-prop-init
loop-prop-init c = record {
  seen = codes "__proto__" ∷ [];
  has = first_key c.in_ok-insert.field-0 (string_bytes c.in_ok-from_str.field-0) _ c.new-seen.result c.insert.new.self c.new-seen.ensures c.in_ok-from_str.ensures.ok c.in_ok-insert.ensures.added c.in_ok-insert.ensures.keys;
  rest = refl;
}

pub loop-prop-preserved : goal.loop-prop-preserved
loop-prop-preserved c = elim c.match-branch-4.branch [
  | in-Some+in_ok-insert-2+else-not-branch w ↦ new_key _ _ _ c.loop-prop.seen w.insert-in-Some.new.self _ _ _ c.loop-prop-test.true c.prop-item.is (sym c.in_ok-key.ensures ∙ ap (option_map string_bytes) w.in-Some.is) (sym w.if-not-branch.false ∙ w.in_ok-insert-2.ensures.added) (w.in_ok-insert-2.ensures.keys w.if-not-branch.false) c.loop-prop.invariant w.seen-is
  | in_default w ↦ without_key _ _ _ c.loop-prop.seen _ _ c.loop-prop-test.true c.prop-item.is (sym c.in_ok-key.ensures ∙ ap (option_map string_bytes) w.in_default.is) c.loop-prop.invariant w.seen-is
]
