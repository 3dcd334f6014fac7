use Rattle.std.proofs.Common.{sym, ap, ◌∙◌}
use Rattle.std.specs.Prelude.{option_copied}
use Rattle.branch_lists.proofs.Exported.{none_by, names_past}
use Rattle.branch_lists.proofs.Turns.{first_left}
use Rattle.branch_lists.proofs.exports.exported_names.Goals as goal

pub loop-left-preserved : goal.loop-left-preserved
loop-left-preserved g c =
    let f = g.T.StmtLike.item in
    names_past f c.loop-left.left.now _ c.item-item.result _ _ (first_left c.loop-left.left.now c.item-item.result c.in-len1-up.len_at_least c.item-item.is) (none_by (f c.item-item.result) (sym (ap option_copied c.in_default-as_module_decl.is) ∙ c.as_module_decl.ensures)) c.loop-left.invariant
