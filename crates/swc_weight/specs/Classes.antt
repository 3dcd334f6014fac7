-- What nodes weigh by their class.
use Rattle.std.specs.Prelude.{ℕ, ◌+◌, ◌*◌}
use Rattle.swc_ast.specs.Tree as tree
use Rattle.swc_ast.specs.Tree.{Forest}
use Rattle.swc_ast.specs.Weight.{own_weight, test_weight, list_weight, unreached}
use Rattle.tree_visit.specs.declared.class.Class.{Class}
use Rattle.tree_visit.specs.declared.class.Class.TheVariants as class

abbrev pub class_test_weight : Class → Forest → ℕ
class_test_weight class.While cs = test_weight tree.While cs
class_test_weight class.For cs = test_weight tree.For cs
class_test_weight _ cs = 0

abbrev pub class_list_weight : Class → Forest → ℕ
class_list_weight class.List cs = 4 * unreached cs
class_list_weight _ cs = 0

abbrev pub weight_without_children : tree.Label → Forest → ℕ
weight_without_children l cs = own_weight l cs + test_weight l cs + list_weight l cs
