use Rattle.std.proofs.Common.{◌≡◌, sym, ap, ◌∙◌}
use Rattle.std.specs.Prelude.{option_copied}
use Rattle.swc_ast.specs.Modules.{item_tree, module_decl_tree}
use Rattle.swc_ast.specs.Tree.{label_of, children_of}
use Rattle.swc_names.proofs.Items.{declared}
use Rattle.swc_names.proofs.gather.open_item.Goals as goal

pub returns : goal.returns
returns g c =
    let s = c.in-Some-as_module_decl in
    let same : item_tree (g.T.StmtLike.item c.args.item.now) ≡ module_decl_tree s.n.now = declared (g.T.StmtLike.item c.args.item.now) s.n.now (sym (ap option_copied s.is) ∙ c.as_module_decl.ensures) in
    (ap label_of same ∙ c.open_module_decl.ensures.0, ap children_of same ∙ c.open_module_decl.ensures.1)
