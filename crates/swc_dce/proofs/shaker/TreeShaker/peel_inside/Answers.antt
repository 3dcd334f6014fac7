use Rattle.std.proofs.Common.{◌≤◌, IfSome, refl, map, string_bytes, subst}
use Rattle.std.specs.Vec.{with_item}
use Rattle.swc_ast.specs.Modules.{module_tree}
use Rattle.swc_ast.specs.declared.modules.Module.{Module}
use Rattle.swc_utils.specs.Globals.{unresolved}
use Rattle.dce_items.specs.Wrapped.{LayeredInside}
use Rattle.dce_items.proofs.Replacing.{module_same}
use Rattle.swc_dce.specs.Configured.{told}
use Rattle.swc_dce.proofs.Rounds.{none_left, some_inside}
use Rattle.swc_dce.proofs.shaker.TreeShaker.peel_inside.Goals as goal

pub returns-clause-peeled : goal.returns-clause-peeled
returns-clause-peeled c =
    let m = c.args.module in
    let i = c.in-Some.found in
    let new = c.leave_item.new.item in
    let left : Module = record { span = m.span; body = with_item m.body i.at new } in
    let mark = unresolved c.ctx.result in
    some_inside (told c.args.self.now.unresolved_mark c.args.self.now.config) mark c.args.most m left i c.index_mut.result.now new c.ctx.ensures c.requires
    (subst (λ o. IfSome o (λ j. j.rounds ≤ c.args.most)) c.in-Some.is c.in_ok-found.ensures.few)
    (subst (λ ts. LayeredInside mark (map string_bytes ts) m i) c.deref.ensures.value (subst (λ o. IfSome o (LayeredInside mark (map string_bytes c.deref.result.now) m)) c.in-Some.is c.in_ok-found.ensures.layered))
    c.index_mut.ensures.value (c.in_ok-leave_item.ensures.remains c.if-not-branch.false) refl refl

pub returns-then-not-branch-clause-peeled : goal.returns-then-not-branch-clause-peeled
returns-then-not-branch-clause-peeled c =
    let m = c.args.module in
    let i = c.in-Some.found in
    let new = c.leave_item.new.item in
    let left : Module = record { span = m.span; body = with_item m.body i.at new } in
    none_left (told c.args.self.now.unresolved_mark c.args.self.now.config) c.args.most (module_tree m) (module_tree left) (module_same m left i.at c.index_mut.result.now new refl refl c.index_mut.ensures.value (c.in_ok-leave_item.ensures.same c.if-not-branch.true))
