use Rattle.std.proofs.Common.{not, sym, ap, ◌∙◌}
use Rattle.branch_switch.proofs.Sheds.{shed_by_count, shed_by_kind}
use Rattle.branch_switch.proofs.shed.is_shed_var.Goals as goal

pub returns-then-is_lexical : goal.returns-then-is_lexical
returns-then-is_lexical c = ap not c.is_empty.ensures ∙ shed_by_count c.args.n.now _ (sym c.is_lexical.ensures ∙ c.if-is_lexical.true) c.args.n.now.decls.ok.0

pub returns : goal.returns
returns c = shed_by_kind c.args.n.now (sym c.is_lexical.ensures ∙ c.if-is_lexical.false)
