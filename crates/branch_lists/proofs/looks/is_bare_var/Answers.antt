use Rattle.std.proofs.Common.{sym, ◌∙◌}
use Rattle.branch_lists.proofs.Shapes.{bare_by_count, bare_by_kind}
use Rattle.branch_lists.proofs.looks.is_bare_var.Goals as goal

pub returns-then-is_lexical : goal.returns-then-is_lexical
returns-then-is_lexical c = c.is_empty.ensures ∙ bare_by_count c.args.n.now _ (sym c.is_lexical.ensures ∙ c.if-is_lexical.true) c.args.n.now.decls.ok.0

pub returns : goal.returns
returns c = bare_by_kind c.args.n.now (sym c.is_lexical.ensures ∙ c.if-is_lexical.false)
