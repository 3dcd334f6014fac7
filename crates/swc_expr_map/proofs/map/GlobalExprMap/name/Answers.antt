use Rattle.std.proofs.Common.{sym, ap, ◌∙◌}
use Rattle.swc_ast.specs.Views.{expr_tree}
use Rattle.swc_expr_map.specs.Entries.{key_of, leading_name, told, name_at}
use Rattle.swc_expr_map.proofs.Chains.{opened_leads}
use Rattle.swc_expr_map.proofs.map.GlobalExprMap.name.Goals as goal

-- the key is that of the entry that was read
pub returns : goal.returns
returns c =
    c.leading_name.ensures
    ∙ sym (opened_leads (expr_tree c.in_ok-entry.field-0.now.key) c.open_expr.result c.open_expr.ensures)
    ∙ ap (told (λ d. leading_name (key_of d))) c.in_ok-entry.ensures
    ∙ ap (λ es. name_at es c.args.number) c.self.view_is
