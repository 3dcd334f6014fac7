-- What is given of modules whose exports are known expressions.
use Rattle.std.specs.Prelude.{Bool, false, if◌then◌else◌, [], Option, Some, None, codes}
use Rattle.swc_ast.specs.Tree.{Text, Name, same_name, Label, StrLit, Read, Dot, Index, Module, Import, ImportNamed, ImportDefault, ImportStar, Tree, node, Forest, ε, ◌⊳◌}
use Rattle.swc_ast.specs.Run.{imported_text}
use Rattle.swc_pass.specs.Given.{Answers}
use Rattle.swc_pass.specs.Inlined.{by_plain}

-- which modules are given, and the expressions that they export
pub record Constants : Type 0 where
  pub is_given : Text → Bool
  pub export : Text → Text → Option Tree

abbrev pub or_expression : Option Tree → Option Tree → Option Tree
or_expression None other = other
or_expression (Some t) other = Some t

module _ (k : Constants) where
  -- the expression of a name that a specifier binds
  abbrev pub by_specifier : Text → Label → Name → Option Tree
  by_specifier src (ImportNamed y i) x = if same_name y x then k.export src (imported_text y i) else None
  by_specifier src (ImportDefault y) x = if same_name y x then k.export src (codes "default") else None
  by_specifier src l x = None

  -- the expression of a member of a namespace that a specifier binds
  abbrev pub by_namespace : Text → Label → Name → Text → Option Tree
  by_namespace src (ImportStar y) x m = if same_name y x then k.export src m else None
  by_namespace src l x m = None

  module _ (by : Text → Label → Option Tree) where
    abbrev pub in_specifiers : Text → Forest → Option Tree
    in_specifiers src ε = None
    in_specifiers src (node l ss cs ⊳ ts) = or_expression (by src l) (in_specifiers src ts)

    abbrev pub in_item : Label → Forest → Option Tree
    in_item (Import src) cs = if k.is_given src then in_specifiers src cs else None
    in_item l cs = None

    abbrev pub in_items : Forest → Option Tree
    in_items ε = None
    in_items (node l ss cs ⊳ ts) = or_expression (in_item l cs) (in_items ts)

  module _ (items : Forest) where
    abbrev pub constant : Name → Option Tree
    constant x = in_items (λ src l. by_specifier src l x) items

    abbrev pub member : Name → Text → Option Tree
    member x m = in_items (λ src l. by_namespace src l x m) items

    abbrev pub member_of : Tree → Text → Option Tree
    member_of (node (Read x) ss cs) m = member x m
    member_of t m = None

    abbrev pub constant_at : Tree → Option Tree
    constant_at (node (Read x) ss cs) = constant x
    constant_at (node (Dot m) ss (o ⊳ ε)) = member_of o m
    constant_at (node Index ss (o ⊳ node (StrLit m) rs cs ⊳ ε)) = member_of o m
    constant_at t = None

  -- an import of a given module
  abbrev pub is_given_import : Label → Bool
  is_given_import (Import src) = k.is_given src
  is_given_import l = false

  -- items without imports of given modules, which load nothing and bind nothing here
  abbrev pub without_given : Forest → Forest
  without_given ε = ε
  without_given (node l ss cs ⊳ ts) = if is_given_import l then without_given ts else node l ss cs ⊳ without_given ts

abbrev pub items_of : Tree → Forest
items_of (node l ss cs) = cs

abbrev pub unloaded : Constants → Tree → Tree
unloaded k (node Module ss items) = node Module ss (without_given k items)
unloaded k t = t

abbrev pub constants : Constants → Forest → Answers
constants k items = record { found = λ t. by_plain (constant_at k items t); text = λ x. None; values = [] }
