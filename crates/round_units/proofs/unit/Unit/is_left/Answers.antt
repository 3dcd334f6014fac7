use Rattle.std.proofs.Common.{◌≡◌, true, false, subst}
use Rattle.std.specs.Prelude.{IfSome}
use Rattle.swc_ast.specs.Modules.{item_tree}
use Rattle.swc_ast.specs.Scope.{has_name}
use Rattle.swc_ast.specs.Tree.{Name}
use Rattle.swc_names.specs.Ids.{ids}
use Rattle.dce_uses.specs.Said.{OnlyFree, Says, register_of}
use Rattle.dce_code.specs.Knowledge.{shaker}
use Rattle.round_units.specs.Rests.{Settles}
use Rattle.round_units.proofs.Lists.{said_within}
use Rattle.round_units.proofs.Settling.{only_go}
use Rattle.round_units.proofs.unit.Unit.is_left.Goals as goal

pub leaves-requires : goal.leaves-requires
leaves-requires c = said_within (register_of c.args.rules.now.known.uses.now) c.args.self.now.said c.in-Some-said.said (item_tree c.args.self.now.item) c.in-Some-said.is c.requires.said

pub returns-then-has_place : goal.returns-then-has_place
returns-then-has_place c = λ is.
    let k = c.args.rules.now.known in
    let t = item_tree c.args.self.now.item in
    let settled = subst (λ o. IfSome o (λ xs. Settles (ids xs.items) t)) c.in-Some.is c.requires.known.1.1 in
    let says = subst (λ o. IfSome o (λ s. Says (register_of k.uses.now) s t)) c.in-Some-said.is c.requires.said in
    let free = subst (λ xs. OnlyFree k.uses.now (ids xs) t) c.deref-then-has_place.ensures.value (c.leaves.ensures is t says) in
    let place = subst (λ xs. (x : Name) → has_name x (ids xs) ≡ true → k.drops_imports ≡ false) c.deref.ensures.value (c.has_place.ensures c.if-has_place.true) in
    settled (shaker k) (only_go k (ids c.in-Some.gone.items) t free place)
