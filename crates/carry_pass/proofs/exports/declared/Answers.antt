use Rattle.std.proofs.Common.{sym}
use Rattle.std.proofs.lemmas.Result.{IfOk-weaker}
use Rattle.swc_ast.specs.Modules.{item_tree}
use Rattle.swc_ast.specs.Parts.{list_trees}
use Rattle.swc_resolved.specs.Names.{members}
use Rattle.tree_visit.specs.Nodes.{children_forest}
use Rattle.carry_pass.proofs.Listing.{listed}
use Rattle.carry_pass.proofs.exports.declared.Goals as goal

pub returns : goal.returns
returns c = IfOk-weaker c.set_of.result _ _ (λ s h x. listed x (members s) c.new-names.result.items c.add_names.new.names.items _ (list_trees item_tree c.args.m.now.body.items) (children_forest c.open.result.children) (h x) c.deref.ensures.value c.new-names.ensures.items c.in_ok-add_names.ensures (sym c.open.ensures.1)) c.set_of.ensures
