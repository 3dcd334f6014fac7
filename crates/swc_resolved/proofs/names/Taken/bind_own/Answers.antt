use Rattle.std.proofs.Common.{sym, ◌∙◌}
use Rattle.tree_visit.specs.Kinds.{kind_label}
use Rattle.tree_visit.specs.Nodes.{children_forest}
use Rattle.swc_resolved.specs.Names.{is_taken}
use Rattle.swc_resolved.proofs.Binding.{none_opened}
use Rattle.swc_resolved.proofs.NamedOnce.{unopened_once}
use Rattle.swc_resolved.proofs.names.Taken.bind_own.Goals as goal

pub returns-then-not-opens_scope : goal.returns-then-not-opens_scope
returns-then-not-opens_scope c =
    let l = kind_label c.args.kind in let cs = children_forest c.args.children in let none = sym c.opens_scope.ensures ∙ c.if-not-opens_scope.true in
    (none_opened (is_taken c.args.self.now) l cs none, unopened_once l cs none)
