-- What the class of a tree's label says of its weight.
use Rattle.std.proofs.Common.{◌≡◌, refl}
use Rattle.swc_ast.specs.Tree as tree
use Rattle.swc_ast.specs.Tree.{Forest}
use Rattle.swc_ast.specs.Weight.{test_weight, list_weight}
use Rattle.swc_ast.specs.declared.VarDeclKind.TheVariants.{Var, Let, Const}
use Rattle.tree_visit.specs.Classes.{label_class}
use Rattle.swc_weight.specs.Classes.{class_test_weight, class_list_weight}

pub test_by : (l : tree.Label) (cs : Forest) → test_weight l cs ≡ class_test_weight (label_class l) cs
test_by tree.While cs = refl
test_by tree.For cs = refl
test_by (tree.VarDecl Var) cs = refl
test_by (tree.VarDecl Let) cs = refl
test_by (tree.VarDecl Const) cs = refl
test_by tree.This cs = refl
test_by tree.Method cs = refl
test_by tree.Absent cs = refl
test_by tree.Empty cs = refl
test_by tree.ExportNamed cs = refl
test_by l cs = refl

pub list_by : (l : tree.Label) (cs : Forest) → list_weight l cs ≡ class_list_weight (label_class l) cs
list_by (tree.VarDecl Var) cs = refl
list_by (tree.VarDecl Let) cs = refl
list_by (tree.VarDecl Const) cs = refl
list_by tree.This cs = refl
list_by tree.Method cs = refl
list_by tree.Absent cs = refl
list_by tree.Empty cs = refl
list_by tree.Block cs = refl
list_by tree.ExportNamed cs = refl
list_by l cs = refl
