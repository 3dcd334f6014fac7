use Rattle.std.proofs.Common.{not, ◌&&◌, get_or, subst}
use Rattle.swc_ast.specs.Resolved.{one_if}
use Rattle.swc_ast.specs.Scope.{has_name}
use Rattle.swc_ast.specs.Tree.{same_name}
use Rattle.swc_resolved.specs.Names.{name, names, members, is_taken}
use Rattle.swc_resolved.specs.Scopes.{Binds}
use Rattle.swc_resolved.proofs.Once.{nobody}
use Rattle.swc_resolved.proofs.Fresh.{all_left, one_left, left_taken, none_left}
use Rattle.swc_resolved.proofs.names.Taken.bind_others.Goals as goal

pub loop-left-init : goal.loop-left-init
loop-left-init c = all_left (is_taken c.args.self.now) (members c.in_ok-own.own) c.args.names.now c.args.done.now c.in_ok-own.ensures

pub returns-then-not-branch : goal.returns-then-not-branch
returns-then-not-branch c =
    let x = name (get_or c.loop-left.left.now 0 nobody) in
    let taken = subst (λ b. Binds b (is_taken c.loop-left.self) (is_taken c.bind_other.new.self) (λ y. one_if (same_name y x && not (has_name y (members c.loop-left.own))))) c.if-not-branch.true c.in_ok-bind_other.ensures.binds in
    left_taken (is_taken c.args.self.now) (is_taken c.loop-left.self) (is_taken c.bind_other.new.self) (members c.loop-left.own) c.loop-left.left.now (λ y. one_if (has_name y (names c.args.names.now) && not (has_name y (names c.args.done.now)))) c.in-len1-up.len_at_least taken c.loop-left.invariant

pub loop-left-preserved : goal.loop-left-preserved
loop-left-preserved c =
    let x = name (get_or c.loop-left.left.now 0 nobody) in
    let bound = subst (λ b. Binds b (is_taken c.loop-left.self) (is_taken c.bind_other.new.self) (λ y. one_if (same_name y x && not (has_name y (members c.loop-left.own))))) c.if-not-branch.false c.in_ok-bind_other.ensures.binds in
    one_left (is_taken c.args.self.now) (is_taken c.loop-left.self) (is_taken c.bind_other.new.self) (members c.loop-left.own) (members c.bind_other.new.own) c.loop-left.left.now (λ y. one_if (has_name y (names c.args.names.now) && not (has_name y (names c.args.done.now)))) c.in-len1-up.len_at_least c.in_ok-bind_other.ensures.names bound c.loop-left.invariant

pub returns : goal.returns
returns c = none_left (is_taken c.args.self.now) (is_taken c.loop-left.self) (members c.loop-left.own) c.loop-left.left.now (λ y. one_if (has_name y (names c.args.names.now) && not (has_name y (names c.args.done.now)))) c.in_default.len_below c.loop-left.invariant
