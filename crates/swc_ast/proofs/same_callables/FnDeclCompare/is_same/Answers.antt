use Rattle.std.proofs.Common.{◌∙◌, refl}
use Rattle.swc_ast.specs.Same.{same, same_label}
use Rattle.swc_ast.specs.Parts.{ident_name}
use Rattle.swc_ast.specs.Tree as tree
use Rattle.swc_ast.specs.Views.{function_trees}
use Rattle.swc_ast.proofs.SameHubs.{named-function}
use Rattle.swc_ast.proofs.same_callables.FnDeclCompare.is_same.Goals as goal

pub returns : goal.returns
unfolding same same_label
returns c = c.same_fn_decls.ensures ∙ named-function c.args.spans (tree.FnDecl (ident_name c.args.self.now.ident)) (tree.FnDecl (ident_name c.args.other.now.ident)) c.args.self.now.ident c.args.other.now.ident (function_trees c.args.self.now.function.value) (function_trees c.args.other.now.function.value) refl
