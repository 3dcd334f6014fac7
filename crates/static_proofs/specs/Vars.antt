-- That no `var` name goes, neither inside a tree nor of a module's or a script's own body.
use Rattle.std.specs.Prelude.{List, []}
use Rattle.swc_ast.specs.Tree.{Name, Module, Script, Tree, node}
use Rattle.swc_ast.specs.Scope.{vars, vars_all}
use Rattle.static_proofs.specs.Names.{Within}

-- the `var` names of the body of a module or script
abbrev pub body_vars : Tree → List Name
body_vars (node Module ss items) = vars_all items
body_vars (node Script ss items) = vars_all items
body_vars _ = []

pub record LosesNoVar (t u : Tree) : Type 0 where
  pub vars_there : Within (vars t) (vars u)
  pub body_there : Within (body_vars t) (body_vars u)
