use Rattle.std.proofs.Common.{refl, sym, subst}
use Rattle.swc_ast.specs.Modules.{item_tree}
use Rattle.swc_utils.specs.Globals.{unresolved}
use Rattle.tree_walk.specs.Walks.{Walks}
use Rattle.branch_rules.specs.Removes.{remove_pass}
use Rattle.round_units.proofs.unit.Unit.clear.Goals as goal

pub returns-clause-cleared : goal.returns-clause-cleared
returns-clause-cleared c =
    let b = c.in_ok-removed.removed in
    let x = c.simplify.new.self.item in
    record {
      between = x;
      by_first = c.in_ok-simplified.simplified;
      by_second = b;
      simplified = c.in_ok-simplified.ensures.made;
      removed = subst (λ y. Walks (remove_pass (unresolved c.args.branches.now.ctx)) b (item_tree x) (item_tree y)) (sym c.in_ok-say.ensures.item) c.in_ok-removed.ensures.made;
      either = refl;
    }
