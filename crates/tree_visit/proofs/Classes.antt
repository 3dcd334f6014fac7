-- What the class of a tree's label says of the tree.
use Rattle.std.proofs.Common.{◌≡◌, Bool, true, false, refl}
use Rattle.swc_ast.specs.Tree as tree
use Rattle.swc_ast.specs.Tree.{Tree, node, label_of}
use Rattle.swc_ast.specs.Weight.{is_stopper, is_stopper_label, stays_behind, stays_label, is_truth_or_absent}
use Rattle.swc_ast.specs.Valid.{is_absent, is_listed}
use Rattle.swc_ast.specs.declared.VarDeclKind.TheVariants.{Var, Let, Const}
use Rattle.tree_visit.specs.Classes.{label_class}
use Rattle.tree_visit.specs.declared.class.Class.{Class}
use Rattle.tree_visit.specs.declared.class.Class.TheVariants as class

abbrev pub class_stops : Class → Bool
class_stops class.Stopper = true
class_stops _ = false

abbrev pub class_stays : Class → Bool
class_stays class.FnDecl = true
class_stays class.ModuleItem = true
class_stays _ = false

abbrev pub class_is_truth : Class → Bool
class_is_truth class.Truth = true
class_is_truth class.Absent = true
class_is_truth _ = false

label_stops : (l : tree.Label) → is_stopper_label l ≡ class_stops (label_class l)
label_stops (tree.VarDecl Var) = refl
label_stops (tree.VarDecl Let) = refl
label_stops (tree.VarDecl Const) = refl
label_stops tree.This = refl
label_stops tree.Absent = refl
label_stops tree.Empty = refl
label_stops tree.Block = refl
label_stops tree.ExportNamed = refl
label_stops l = refl

pub stops_by : (t : Tree) → is_stopper t ≡ class_stops (label_class (label_of t))
stops_by (node l ss cs) = label_stops l

label_stays : (l : tree.Label) → stays_label l ≡ class_stays (label_class l)
label_stays (tree.VarDecl Var) = refl
label_stays (tree.VarDecl Let) = refl
label_stays (tree.VarDecl Const) = refl
label_stays tree.This = refl
label_stays tree.Absent = refl
label_stays tree.Empty = refl
label_stays tree.Block = refl
label_stays tree.ExportNamed = refl
label_stays l = refl

pub stays_by : (t : Tree) → stays_behind t ≡ class_stays (label_class (label_of t))
stays_by (node l ss cs) = label_stays l

pub truth_by : (t : Tree) → is_truth_or_absent t ≡ class_is_truth (label_class (label_of t))
truth_by (node (tree.VarDecl Var) ss cs) = refl
truth_by (node (tree.VarDecl Let) ss cs) = refl
truth_by (node (tree.VarDecl Const) ss cs) = refl
truth_by (node tree.This ss cs) = refl
truth_by (node tree.Absent ss cs) = refl
truth_by (node tree.Empty ss cs) = refl
truth_by (node tree.Block ss cs) = refl
truth_by (node tree.ExportNamed ss cs) = refl
truth_by (node l ss cs) = refl

abbrev pub class_is_absent : Class → Bool
class_is_absent class.Absent = true
class_is_absent _ = false

abbrev pub class_is_listed : Class → Bool
class_is_listed class.FnDecl = true
class_is_listed class.Lexical = true
class_is_listed _ = false

pub absent_by : (t : Tree) → is_absent t ≡ class_is_absent (label_class (label_of t))
absent_by (node (tree.VarDecl Var) ss cs) = refl
absent_by (node (tree.VarDecl Let) ss cs) = refl
absent_by (node (tree.VarDecl Const) ss cs) = refl
absent_by (node tree.This ss cs) = refl
absent_by (node tree.Absent ss cs) = refl
absent_by (node tree.Empty ss cs) = refl
absent_by (node tree.Block ss cs) = refl
absent_by (node tree.ExportNamed ss cs) = refl
absent_by (node l ss cs) = refl

pub listed_by : (t : Tree) → is_listed t ≡ class_is_listed (label_class (label_of t))
listed_by (node (tree.VarDecl Var) ss cs) = refl
listed_by (node (tree.VarDecl Let) ss cs) = refl
listed_by (node (tree.VarDecl Const) ss cs) = refl
listed_by (node tree.This ss cs) = refl
listed_by (node tree.Absent ss cs) = refl
listed_by (node tree.Empty ss cs) = refl
listed_by (node tree.Block ss cs) = refl
listed_by (node tree.ExportNamed ss cs) = refl
listed_by (node l ss cs) = refl
