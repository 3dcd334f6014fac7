use Rattle.std.proofs.Common.{false, true, ◌&&◌, not, ◌-◌, length, take, get_or, refl, sym, subst, ◌∙◌}
use Rattle.std.proofs.lemmas.Bool.{not-true}
use Rattle.swc_ast.specs.Resolved.{one_if}
use Rattle.swc_ast.specs.Scope.{has_name}
use Rattle.swc_resolved.specs.Names.{name, names, is_taken}
use Rattle.swc_resolved.specs.Scopes.{Binds}
use Rattle.swc_resolved.proofs.Sets.{not_false}
use Rattle.swc_resolved.proofs.Once.{nobody}
use Rattle.swc_resolved.proofs.Fresh.{none_yet, put_in, all_new, others_bound}
use Rattle.swc_resolved.proofs.NamedOnce.{once_apart}
use Rattle.swc_resolved.proofs.names.Taken.bind_scope.Goals as goal

pub loop-left-init : goal.loop-left-init
loop-left-init c = none_yet (is_taken c.args.self.now) (is_taken c.make_room.new.self) c.args.names.now c.make_room.ensures

pub loop-left-preserved : goal.loop-left-preserved
loop-left-preserved c = put_in (is_taken c.args.self.now) (is_taken c.loop-left.self) (is_taken c.add.new.self) c.args.names.now c.loop-left.left.now c.in-len1-up.len_at_least (not-true (is_taken c.loop-left.self (name (get_or c.loop-left.left.now 0 nobody))) (sym c.in_ok-add.ensures.added ∙ c.if-not-branch.false)) c.in_ok-add.ensures.names c.loop-left.invariant

pub returns-then-not-branch-2 : goal.returns-then-not-branch-2
returns-then-not-branch-2 c =
    let ns = c.args.names.now in let left = c.loop-left.left.now in let first = take (length ns - length left) ns in let cur = is_taken c.loop-left.self in let mid = is_taken c.add.new.self in let new = is_taken c.bind_others.new.self in
    let there = not_false (cur (name (get_or left 0 nobody))) (sym c.if-not-branch.true ∙ c.in_ok-add.ensures.added) in
    let bound = subst (λ b. Binds b mid new (λ x. one_if (has_name x (names left) && not (has_name x (names first))))) c.if-not-branch-2.true c.in_ok-bind_others.ensures in
    others_bound false (is_taken c.args.self.now) cur mid new ns left first there c.in_ok-add.ensures.names refl c.loop-left.invariant bound

pub returns-then-not-branch-3 : goal.returns-then-not-branch-3
returns-then-not-branch-3 c =
    let ns = c.args.names.now in let left = c.loop-left.left.now in let first = take (length ns - length left) ns in let cur = is_taken c.loop-left.self in let mid = is_taken c.add.new.self in let new = is_taken c.bind_others.new.self in
    let there = not_false (cur (name (get_or left 0 nobody))) (sym c.if-not-branch.true ∙ c.in_ok-add.ensures.added) in
    let bound = subst (λ b. Binds b mid new (λ x. one_if (has_name x (names left) && not (has_name x (names first))))) c.if-not-branch-2.false c.in_ok-bind_others.ensures in
    (others_bound true (is_taken c.args.self.now) cur mid new ns left first there c.in_ok-add.ensures.names refl c.loop-left.invariant bound, sym c.in_ok-stand_apart.ensures ∙ c.if-not-branch-3.true)

pub returns-then-not-branch : goal.returns-then-not-branch
returns-then-not-branch c =
    let ns = c.args.names.now in let left = c.loop-left.left.now in let first = take (length ns - length left) ns in let cur = is_taken c.loop-left.self in let mid = is_taken c.add.new.self in let new = is_taken c.bind_others.new.self in
    let there = not_false (cur (name (get_or left 0 nobody))) (sym c.if-not-branch.true ∙ c.in_ok-add.ensures.added) in
    let bound = subst (λ b. Binds b mid new (λ x. one_if (has_name x (names left) && not (has_name x (names first))))) c.if-not-branch-2.false c.in_ok-bind_others.ensures in
    (others_bound true (is_taken c.args.self.now) cur mid new ns left first there c.in_ok-add.ensures.names refl c.loop-left.invariant bound, sym c.in_ok-stand_apart.ensures ∙ c.if-not-branch-3.false)

pub returns : goal.returns
returns c =
    let all = all_new (is_taken c.args.self.now) (is_taken c.loop-left.self) c.args.names.now c.loop-left.left.now c.in_default.len_below c.loop-left.invariant in
    (all.0, once_apart c.args.strict c.args.loose (names c.args.names.now) all.1)
