-- How two lists of names compare, and the parts of a tree that its parent reads names from.
use Rattle.std.specs.Prelude.{◌≤◌, ◌≡◌, Bool, true, false, List, Option, Some, None}
use Rattle.swc_ast.specs.Tree.{Name, Label, Params, Body, CaseBody, Param, Absent, Declarator, Import, ImportNamed, ImportDefault, ImportStar, ExportNamed, ExportSpecifier, Tree, node, Forest, ε, ◌⊳◌}
use Rattle.swc_ast.specs.Scope.{has_name, declared_by, declared_by_label, vars_all, param_names, specifier_names}
use Rattle.swc_ast.specs.Resolved.{first_names, has_default}
use Rattle.swc_ast.specs.Core.{times_in, list_names}

-- the names of one list are in another
pub record Within (xs ys : List Name) : Type 0 where
  pub by : (x : Name) → has_name x xs ≡ true → has_name x ys ≡ true

-- no name stands in one list more often than in another
pub record Fewer (xs ys : List Name) : Type 0 where
  pub by : (x : Name) → times_in x xs ≤ times_in x ys

-- what a statement of a list declares there
abbrev pub names_of : Tree → List Name
names_of t = first_names (declared_by t)

-- the same, where no `export` stands in front
abbrev pub own_names : Tree → List Name
own_names (node l ss cs) = first_names (declared_by_label l ss cs)

-- Labels that a parent looks for among its children: those of parts that no expression and no statement has.
abbrev pub frame_label : Label → Option Label
frame_label Params = Some Params
frame_label Body = Some Body
frame_label CaseBody = Some CaseBody
frame_label (Param x) = Some (Param x)
frame_label Absent = Some Absent
frame_label (Declarator kind x) = Some (Declarator kind x)
frame_label (Import src) = Some (Import src)
frame_label (ImportNamed x i) = Some (ImportNamed x i)
frame_label (ImportDefault x) = Some (ImportDefault x)
frame_label (ImportStar x) = Some (ImportStar x)
frame_label ExportNamed = Some ExportNamed
frame_label (ExportSpecifier x i) = Some (ExportSpecifier x i)
frame_label _ = None

abbrev pub frame : Tree → Option Label
frame (node l ss cs) = frame_label l

-- What a parent reads inside such a part: no more afterwards than before.
pub record KeptList (ts us : Forest) : Type 0 where
  pub vars_kept : Within (vars_all us) (vars_all ts)
  pub names_kept : Fewer (list_names us) (list_names ts)

pub record KeptParams (ts us : Forest) : Type 0 where
  pub same_params : param_names us ≡ param_names ts
  pub no_new_default : has_default us ≡ true → has_default ts ≡ true

abbrev pub is_some_tree : Forest → Bool
is_some_tree ε = false
is_some_tree (t ⊳ ts) = true

abbrev pub KeptPart : Option Label → Forest → Forest → Type 0
KeptPart (Some Params) ts us = KeptParams ts us
KeptPart (Some Body) ts us = KeptList ts us
KeptPart (Some CaseBody) ts us = KeptList ts us
KeptPart (Some (Param x)) ts us = is_some_tree us ≡ true → is_some_tree ts ≡ true
KeptPart (Some (Import src)) ts us = Fewer (specifier_names us) (specifier_names ts)
KeptPart _ ts us = Unit {0}
