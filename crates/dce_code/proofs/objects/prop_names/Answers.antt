use Rattle.std.proofs.Common.{sym, ap, subst, ◌∙◌}
use Rattle.swc_ast.proofs.Equations.{prop_tree-Shorthand}
use Rattle.swc_ast.specs.Parts.{ident_name}
use Rattle.swc_ast.specs.Tree.{◌⊳◌}
use Rattle.swc_ast.specs.Views.{prop_tree}
use Rattle.dce_rules.specs.Shakes.{NamesOnly, short}
use Rattle.dce_code.proofs.objects.prop_names.Goals as goal

pub returns-in-Shorthand : goal.returns-in-Shorthand
returns-in-Shorthand c = λ _ ts only. subst (λ t. NamesOnly (t ⊳ ts)) (sym (ap prop_tree c.in-Shorthand.is ∙ prop_tree-Shorthand c.in-Shorthand.field-0)) (short (ident_name c.in-Shorthand.field-0) only)
