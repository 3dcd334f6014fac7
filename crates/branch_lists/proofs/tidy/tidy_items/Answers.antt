use Rattle.std.proofs.Common.{sym, ◌∙◌}
use Rattle.stmt_like.proofs.Kept.{kept_all}
use Rattle.branch_lists.proofs.Lists.{tidied_by}
use Rattle.branch_lists.proofs.Onto.{kept_taken}
use Rattle.branch_lists.proofs.tidy.tidy_items.Goals as goal

pub returns-then-not-is_untidy-clause-kept : goal.returns-then-not-is_untidy-clause-kept
returns-then-not-is_untidy-clause-kept g c = kept_all _ _

pub returns-clause-tidied : goal.returns-clause-tidied
returns-clause-tidied g c =
    tidied_by _ g.T.StmtLike.item c.args.items.now c.replace-old.result c.deref.result.now c.deref-2.result.now c.in_ok-swept.swept.items c.in_ok-items.field-0.items c.deref-3.result.now c.in_ok-kept.kept.items
    c.deref.ensures.value c.deref-2.ensures.value c.replace-old.ensures.value
    (sym c.is_untidy.ensures ∙ c.if-not-is_untidy.false)
    c.in_ok-kept.ensures c.deref-3.ensures.value c.in_ok-swept.ensures.swept c.in_ok-items.ensures.cuts

pub returns-clause-kept : goal.returns-clause-kept
returns-clause-kept g c = kept_taken c.replace-old.ensures.value c.in_ok-swept.ensures.kept c.in_ok-items.ensures.kept
