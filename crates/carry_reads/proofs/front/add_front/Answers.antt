use Rattle.std.proofs.Common.{OnOk, sym, subst}
use Rattle.swc_ast.specs.Tree.{label_of, children_of}
use Rattle.carry_rules.specs.Carry.{ready_at}
use Rattle.tree_visit.specs.Kinds.{kind_label}
use Rattle.tree_visit.specs.Nodes.{node_tree}
use Rattle.carry_reads.specs.Fronts.{Adds}
use Rattle.carry_reads.proofs.front.add_front.Goals as goal

pub returns : goal.returns
returns c =
    subst (λ l. OnOk c.add_opened.result (Adds c.args.vars.now c.args.ready.now c.add_opened.new.ready (ready_at l (children_of (node_tree c.args.n))))) (sym c.open-opened.ensures.0)
    (subst (λ cs. OnOk c.add_opened.result (Adds c.args.vars.now c.args.ready.now c.add_opened.new.ready (ready_at (kind_label c.open-opened.result.kind) cs))) (sym c.open-opened.ensures.1) c.add_opened.ensures)
