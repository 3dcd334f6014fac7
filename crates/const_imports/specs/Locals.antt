-- Which names the imports of given modules bind, and for what they stand.
use Rattle.std.specs.Prelude.{Bool, false, if◌then◌else◌, List, [], ◌∷◌, ◌++◌, Option, Some, None, codes}
use Rattle.swc_ast.specs.Run.{imported_text}
use Rattle.swc_ast.specs.Tree.{Text, Name, same_name, Label, Import, ImportNamed, ImportDefault, ImportStar, Forest, ε, ◌⊳◌, label_of, children_of}

-- what is imported: an export by its name, the default export, or all exports
pub data Imported : Type 0 where
  an_export : Text → Imported
  the_default : Imported
  the_namespace : Imported

-- a name, the module that it is imported from, and what it stands for there
pub record Local : Type 0 where
  pub name : Name
  pub source : Text
  pub imported : Imported

-- the name of the export that a local stands for
abbrev pub export_name : Imported → Option Text
export_name (an_export m) = Some m
export_name the_default = Some (codes "default")
export_name the_namespace = None

abbrev pub specifier_locals : Text → Label → List Local
specifier_locals src (ImportNamed x i) = record { name = x; source = src; imported = an_export (imported_text x i) } ∷ []
specifier_locals src (ImportDefault x) = record { name = x; source = src; imported = the_default } ∷ []
specifier_locals src (ImportStar x) = record { name = x; source = src; imported = the_namespace } ∷ []
specifier_locals src l = []

abbrev pub specifiers_locals : Text → Forest → List Local
specifiers_locals src ε = []
specifiers_locals src (t ⊳ ts) = specifier_locals src (label_of t) ++ specifiers_locals src ts

-- the locals of items, in order, by which modules are given
module _ (is_given : Text → Bool) where
  -- an import of a given module
  abbrev pub given_label : Label → Bool
  given_label (Import src) = is_given src
  given_label l = false

  abbrev pub item_locals : Label → Forest → List Local
  item_locals (Import src) cs = if is_given src then specifiers_locals src cs else []
  item_locals l cs = []

  abbrev pub locals : Forest → List Local
  locals ε = []
  locals (t ⊳ ts) = item_locals (label_of t) (children_of t) ++ locals ts

-- what a name is: a constant, a namespace of a given module, or another
pub data Role : Type 0 where
  a_constant other : Role
  a_namespace : Text → Role

abbrev pub own_role : Text → Imported → Role
own_role src (an_export m) = a_constant
own_role src the_default = a_constant
own_role src the_namespace = a_namespace src

-- the first local of a name tells its role
abbrev pub role_in : List Local → Name → Role
role_in [] x = other
role_in (l ∷ ls) x = if same_name l.name x then own_role l.source l.imported else role_in ls x
