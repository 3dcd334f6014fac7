-- What is made of a module or a script.
use Rattle.swc_ast.specs.Scope.{list_binds}
use Rattle.swc_ast.specs.Tree.{Name, Module, Tree, node}
use Rattle.link_proofs.specs.Links.{Put}
use Rattle.carry_rules.specs.Carry.{Pass, constants, reexported}

-- where constants are carried, exports of a module name what names of the module stand for
abbrev pub exported : Pass → (Name → Put) → Tree → Tree → Tree
exported constants values (node Module ss cs) (node Module rs ds) = node Module rs (reexported (list_binds cs) values ds)
exported p values t u = u
