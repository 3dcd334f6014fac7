-- What given modules, borrowed parts and tables stand for.
use Rattle.std.specs.Prelude.{ℕ, zero, suc, Bool, if◌then◌else◌, List, [], ◌∷◌, map, filter, Option, Some, None, is_some, option_map, string_bytes, bytes_eq, ◌≡◌}
use Rattle.std.specs.Borrow.{Bor}
use Rattle.std.specs.BTreeMap.{BTreeMap, get_by_text}
use Rattle.std.specs.HashMap.{get_by}
use Rattle.std.specs.declared.alloc.Global.{Global}
use Rattle.std.specs.declared.string.String.{String}
use Rattle.swc_ast.specs.Parts.{ident_name}
use Rattle.swc_ast.specs.Tree.{Text, Name, same_name, Tree, Forest, ε, ◌⊳◌, label_of}
use Rattle.swc_ast.specs.declared.errors.PassError.{PassError}
use Rattle.swc_ast.specs.declared.errors.PassError.TheVariants as error
use Rattle.swc_ast.specs.declared.names.Ident.{Ident}
use Rattle.swc_pass.specs.Constants.{Constants}
use Rattle.const_imports.specs.declared.faults.Fault as rust_fault
use Rattle.const_imports.specs.declared.faults.Fault.TheVariants as fault
use Rattle.const_imports.specs.declared.faults.Member as faults_member
use Rattle.const_imports.specs.declared.given.GivenModules.{GivenModules}
use Rattle.const_imports.specs.declared.imports.Imported as rust_imported
use Rattle.const_imports.specs.declared.imports.Imported.TheVariants as imported
use Rattle.const_imports.specs.declared.imports.Local as rust_local
use Rattle.const_imports.specs.declared.imports.Role as rust_role
use Rattle.const_imports.specs.declared.imports.Role.TheVariants as role
use Rattle.const_imports.specs.declared.table.Locals.{Locals}
use Rattle.const_imports.specs.Faults.{Fault, missing_export, missing_default, bare_namespace, re_exported, Member, read_name, read_text, member_with}
use Rattle.const_imports.specs.Locals.{Imported, an_export, the_default, the_namespace, export_name, Local, Role, a_constant, other, a_namespace, role_in}

-- given modules

abbrev pub in_exports : {V : Type 0} → Option (BTreeMap (String Global) V) → Text → Option V
in_exports None m = None
in_exports (Some es) m = get_by_text es m

abbrev pub is_given : {V : Type 0} → GivenModules V → Text → Bool
is_given g s = is_some (get_by_text g.modules s)

-- the value of an export of a module
abbrev pub value_of : {V : Type 0} → GivenModules V → Text → Text → Option V
value_of g s m = in_exports (get_by_text g.modules s) m

abbrev pub has_value : {V : Type 0} → GivenModules V → Text → Text → Bool
has_value g s m = is_some (value_of g s m)

-- what they give, by the trees of their values
abbrev pub constants_of : {V : Type 0} → (V → Tree) → GivenModules V → Constants
constants_of tree g = record { is_given = is_given g; export = λ s m. option_map tree (value_of g s m) }

-- locals

abbrev pub imported_of : rust_imported.Imported → Imported
imported_of (imported.Export m) = an_export m.now
imported_of imported.Default = the_default
imported_of imported.Namespace = the_namespace

abbrev pub local_of : rust_local.Local → Local
local_of l = record { name = ident_name l.name.now; source = l.source.now; imported = imported_of l.imported }

abbrev pub locals_of : List rust_local.Local → List Local
locals_of = map local_of

abbrev pub role_of : rust_role.Role → Role
role_of role.Constant = a_constant
role_of role.Other = other
role_of (role.Namespace s) = a_namespace s.now

-- the locals of one text
abbrev pub of_text : Text → List Local → List Local
of_text t = filter (λ l. bytes_eq l.name.text t)

abbrev pub group_in : Option (List rust_local.Local) → List Local
group_in None = []
group_in (Some ls) = locals_of ls

-- what a table has of a text
abbrev pub group_of : Locals → Text → List Local
group_of t x = group_in (option_map (λ g. g.items) (get_by (λ k. bytes_eq x k.now) t.by_text))

-- what a table tells of names
abbrev pub roles_of : Locals → Name → Role
roles_of t x = role_in (group_of t x.text) x

-- values

abbrev pub or_value : {V : Type 0} → Option V → Option V → Option V
or_value None o = o
or_value (Some v) o = Some v

abbrev pub value_at : {V : Type 0} → (Text → Text → Option V) → Text → Option Text → Option V
value_at value s None = None
value_at value s (Some m) = value s m

abbrev pub member_at : {V : Type 0} → (Text → Text → Option V) → Text → Imported → Text → Option V
member_at value s the_namespace m = value s m
member_at value s i m = None

module _ {V : Type 0} (value : Text → Text → Option V) where
  -- the value of a name, and of a member of a name
  abbrev pub constant_in : List Local → Name → Option V
  constant_in [] x = None
  constant_in (l ∷ ls) x = or_value (if same_name l.name x then value_at value l.source (export_name l.imported) else None) (constant_in ls x)

  abbrev pub member_in : List Local → Name → Text → Option V
  member_in [] x m = None
  member_in (l ∷ ls) x m = or_value (if same_name l.name x then member_at value l.source l.imported m else None) (member_in ls x m)

-- faults

abbrev pub fault_of : rust_fault.Fault → Fault
fault_of (fault.MissingExport s m) = missing_export s.now m.now
fault_of (fault.MissingDefault s) = missing_default s.now
fault_of (fault.BareNamespace x) = bare_namespace x.now
fault_of (fault.ReExported x) = re_exported x.now

abbrev pub told : Option rust_fault.Fault → Option Fault
told = option_map fault_of

abbrev pub first_of : List Fault → Option Fault
first_of [] = None
first_of (f ∷ fs) = Some f

-- the fault that an error tells
abbrev pub error_fault : PassError → Option Fault
error_fault (error.MissingExport s m) = Some (missing_export (string_bytes s) (string_bytes m))
error_fault (error.MissingDefault s) = Some (missing_default (string_bytes s))
error_fault (error.BareNamespace x) = Some (bare_namespace (string_bytes x))
error_fault (error.ReExported x) = Some (re_exported (string_bytes x))
error_fault e = None

-- the name of an identifier, if any
abbrev pub told_name : Option (Bor Ident) → Option Name
told_name None = None
told_name (Some n) = Some (ident_name n.now)

abbrev pub member_view : faults_member.Member → Member
member_view m = record { name = ident_name m.name.now; key = m.key.now }

-- the member of the first children, behind a dot and in brackets
abbrev pub dotted : Text → Forest → Option Member
dotted m ε = None
dotted m (o ⊳ ts) = member_with (read_name (label_of o)) (Some m)

abbrev pub indexed : Forest → Option Member
indexed ε = None
indexed (o ⊳ ε) = None
indexed (o ⊳ k ⊳ ts) = member_with (read_name (label_of o)) (read_text (label_of k))

-- trees without the first ones
abbrev pub without_first : ℕ → Forest → Forest
without_first zero ts = ts
without_first (suc n) ε = ε
without_first (suc n) (t ⊳ ts) = without_first n ts

-- an error tells the first of some faults
abbrev pub IsFirst : List Fault → PassError → Type 0
IsFirst [] e = ⊥
IsFirst (f ∷ fs) e = error_fault e ≡ Some f
