use Rattle.std.proofs.Common.{◌∙◌}
use Rattle.swc_ast.specs.Same.{same, same_label}
use Rattle.swc_ast.specs.Views.{function_trees}
use Rattle.swc_ast.proofs.SameModules.{default-same}
use Rattle.swc_ast.proofs.SameParts.{both}
use Rattle.swc_ast.proofs.same_modules.ExportDefaultDeclCompare.is_same.Goals as goal

pub returns : goal.returns
unfolding same same_label
returns c = both c.spans_agree.ensures c.is_same.ensures ∙ default-same c.args.spans c.args.self.now.span c.args.other.now.span c.args.self.now.decl.ident c.args.other.now.decl.ident (function_trees c.args.self.now.decl.function.value) (function_trees c.args.other.now.decl.function.value)
