use Rattle.std.proofs.Common.{subst}
use Rattle.swc_ast.specs.Modules.{item_tree}
use Rattle.branch_rules.specs.Lists.{going}
use Rattle.branch_rules.specs.Vars.{NamesOf}
use Rattle.branch_vars.specs.Names.{statements}
use Rattle.branch_lists.specs.Exports.{among}
use Rattle.branch_lists.specs.Swept.{trees}
use Rattle.branch_lists.proofs.Lists.{cuts_onto}
use Rattle.branch_lists.proofs.Onto.{onto_cut}
use Rattle.branch_lists.proofs.Turns.{pushed_item}
use Rattle.branch_lists.proofs.cut.push_cut.Goals as goal

pub returns-clause-cuts : goal.returns-clause-cuts
returns-clause-cuts g c =
    let f = g.T.StmtLike.item in
    cuts_onto (among c.args.kept.now) (item_tree (f c.args.stopper)) (trees f c.args.behind.items) (statements c.in_ok-names.names) (trees f c.args.out.now.items) (trees f c.push_optional.new.out.items) (trees f c.push.new.self.items) (trees f c.push_staying.new.out.items)
    c.requires
    (subst (λ xs. NamesOf (among c.args.kept.now) (going (trees f xs)) (statements c.in_ok-names.names)) c.deref.ensures.value c.in_ok-names.ensures)
    c.in_ok-push_optional.ensures.pushed
    (pushed_item f c.push_optional.new.out.items _ c.args.stopper c.in_ok-push.ensures.items)
    c.in_ok-push_staying.ensures.staying

pub returns-clause-kept : goal.returns-clause-kept
returns-clause-kept g c = onto_cut c.args.stopper c.args.behind.items c.in_ok-push_optional.ensures.made c.in_ok-push.ensures.items c.in_ok-push_staying.ensures.kept
