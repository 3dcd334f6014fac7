use Rattle.std.proofs.Common.{ap, ◌∙◌}
use Rattle.swc_ast.specs.Parts.{list_trees}
use Rattle.swc_ast.specs.Views.{stmt_tree}
use Rattle.swc_names.specs.Ids.{idents}
use Rattle.swc_names.proofs.Gathered.{vars_among}
use Rattle.swc_names.proofs.ids.extract_var_ids.Goals as goal

pub returns-clause-names : goal.returns-clause-names
returns-clause-names c = c.in_ok-to_ids.ensures ∙ ap idents c.deref.ensures.value ∙ c.in_ok-names.ensures ∙ vars_among (list_trees stmt_tree c.args.stmts.now)
