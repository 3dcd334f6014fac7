-- Why a module with imports of given modules is refused: the imports in order, and then the rest in the order of the text.
use Rattle.std.specs.Prelude.{ℕ, Bool, if◌then◌else◌, List, [], ◌∷◌, ◌++◌, drop, Option, Some, None, codes}
use Rattle.swc_ast.specs.Tree.{Text, Name, Label, StrLit, Read, Shorthand, TypeOfName, Dot, Index, CallEval, CallDot, CallIndex, Assign, Update, ExportSpecifier, Tree, node, Forest, ε, ◌⊳◌, label_of}
use Rattle.swc_ast.specs.Redex.{is_delete}
use Rattle.const_imports.specs.Locals.{Imported, an_export, the_default, the_namespace, Local, locals, Role, a_constant, other, a_namespace, role_in}

pub data Fault : Type 0 where
  -- a module and the export that it doesn't have
  missing_export : Text → Text → Fault
  missing_default : Text → Fault
  bare_namespace : Text → Fault
  re_exported : Text → Fault

-- whether a module has an export
abbrev pub Has : Type 0
Has = Text → Text → Bool

abbrev pub unless : Bool → Fault → List Fault
unless b f = if b then [] else f ∷ []

-- imports

abbrev pub local_faults : Has → Text → Imported → List Fault
local_faults has src (an_export m) = unless (has src m) (missing_export src m)
local_faults has src the_default = unless (has src (codes "default")) (missing_default src)
local_faults has src the_namespace = []

abbrev pub import_faults : Has → List Local → List Fault
import_faults has [] = []
import_faults has (l ∷ ls) = local_faults has l.source l.imported ++ import_faults has ls

-- nodes

-- a name that is read, or written
abbrev pub used_name : Label → Option Name
used_name (Read x) = Some x
used_name (Shorthand x) = Some x
used_name (TypeOfName x) = Some x
used_name (CallEval x) = Some x
used_name (Assign op x) = Some x
used_name (Update op prefix x) = Some x
used_name l = None

-- a name that is exported
abbrev pub exported_name : Label → Option Name
exported_name (ExportSpecifier x t) = Some x
exported_name l = None

-- a member of a name, read or called
pub record Member : Type 0 where
  pub name : Name
  pub key : Text

-- the name that a label reads, and the text that it is
abbrev pub read_name : Label → Option Name
read_name (Read x) = Some x
read_name l = None

abbrev pub read_text : Label → Option Text
read_text (StrLit m) = Some m
read_text l = None

abbrev pub member_with : Option Name → Option Text → Option Member
member_with (Some x) (Some m) = Some (record { name = x; key = m })
member_with (Some x) None = None
member_with None o = None

abbrev pub member_of : Label → Forest → Option Member
member_of (Dot m) (o ⊳ ts) = member_with (read_name (label_of o)) (Some m)
member_of (CallDot m) (o ⊳ ts) = member_with (read_name (label_of o)) (Some m)
member_of Index (o ⊳ k ⊳ ts) = member_with (read_name (label_of o)) (read_text (label_of k))
member_of CallIndex (o ⊳ k ⊳ ts) = member_with (read_name (label_of o)) (read_text (label_of k))
member_of l cs = None

-- how many children of a node are its member
abbrev pub member_parts : Label → ℕ
member_parts (Dot m) = 1
member_parts (CallDot m) = 1
member_parts Index = 2
member_parts CallIndex = 2
member_parts l = 0

-- a namespace by itself
abbrev pub bare_faults : Role → Name → List Fault
bare_faults (a_namespace src) x = bare_namespace x.text ∷ []
bare_faults r x = []

-- a name that is exported again
abbrev pub export_faults : Role → Name → List Fault
export_faults (a_namespace src) x = bare_namespace x.text ∷ []
export_faults a_constant x = re_exported x.text ∷ []
export_faults other x = []

-- what is seen at a node: its own faults, and how many of its first children are not looked into
pub record Seen : Type 0 where
  pub own : List Fault
  pub skipped : ℕ

abbrev pub joined : List (List Fault) → List Fault
joined [] = []
joined (f ∷ fs) = f ++ joined fs

-- an exported name, or else one that is used
abbrev pub name_faults : (Name → Role) → Option Name → Option Name → List Fault
name_faults role (Some x) o = export_faults (role x) x
name_faults role None (Some x) = bare_faults (role x) x
name_faults role None None = []

module _ (has : Has) (role : Name → Role) where
  -- a member of a namespace
  abbrev pub seen_member : Role → Text → ℕ → Seen → Seen
  seen_member (a_namespace src) m n s = record { own = unless (has src m) (missing_export src m); skipped = n }
  seen_member r m n s = s

  abbrev pub or_member : Option Member → ℕ → Seen → Seen
  or_member None n s = s
  or_member (Some m) n s = seen_member (role m.name) m.key n s

  abbrev pub seen_at : Label → Forest → Seen
  seen_at l cs = or_member (member_of l cs) (member_parts l) (record { own = name_faults role (exported_name l) (used_name l); skipped = 0 })

  abbrev mutual
    -- nothing is looked for in what is deleted
    pub use_faults : Tree → List Fault
    use_faults (node l ss cs) = if is_delete l then [] else (seen_at l cs).own ++ joined (drop (seen_at l cs).skipped (each_faults cs))

    pub each_faults : Forest → List (List Fault)
    each_faults ε = []
    each_faults (t ⊳ ts) = use_faults t ∷ each_faults ts

-- what a name stands for in a module with these items
abbrev pub role_of : (Text → Bool) → Forest → Name → Role
role_of is_given items x = role_in (locals is_given items) x

-- The faults of a module with these items, in the order in which they are told: the first one is.
abbrev pub faults : (Text → Bool) → Has → Forest → List Fault
faults is_given has items = import_faults has (locals is_given items) ++ joined (each_faults has (role_of is_given items) items)
