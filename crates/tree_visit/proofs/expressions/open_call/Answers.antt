use Rattle.std.proofs.Common.{rules}
use Rattle.tree_visit.specs.Nodes.{children_forest}
use Rattle.tree_visit.proofs.Parts.{opens_whole, opens_eval, opens_name, opens_dot, opens_index}
use Rattle.tree_visit.proofs.expressions.open_call.Goals as goal

pub returns-in-Ident : goal.returns-in-Ident
unfolding children_forest
returns-in-Ident c = opens_dot c.args.n.now c.in-Member.m.now c.in-Ident.k c.new.result (search rules) c.in-Ident.is (search rules) (search rules)

pub returns-in-Computed : goal.returns-in-Computed
unfolding children_forest
returns-in-Computed c = opens_index c.args.n.now c.in-Member.m.now c.in-Computed.k c.new-in-Computed.result (search rules) c.in-Computed.is (search rules) (search rules)

pub returns-then-eq : goal.returns-then-eq
unfolding children_forest
returns-then-eq c = opens_eval c.args.n.now c.in-Name.i.now c.listed.result (search rules) (search rules) (search rules) (search rules)

pub returns-else-eq : goal.returns-else-eq
unfolding children_forest
returns-else-eq c = opens_name c.args.n.now c.in-Name.i.now c.new-else-eq.result (search rules) (search rules) (search rules) (search rules)

pub returns-in-Whole : goal.returns-in-Whole
unfolding children_forest
returns-in-Whole c = opens_whole c.args.n.now c.new-in-Whole.result (search rules) (search rules) (search rules)
