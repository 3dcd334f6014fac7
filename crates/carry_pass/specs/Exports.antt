-- What names in exports become.
use Rattle.std.specs.Prelude.{Bool, Option, Some, None, if◌then◌else◌}
use Rattle.std.specs.Borrow.{Bor}
use Rattle.swc_ast.specs.Tree.{Name, Label, ExportNamed, ExportSpecifier, Tree, node}
use Rattle.swc_ast.specs.Parts.{ident_name, option_word_text}
use Rattle.swc_ast.specs.Scope.{has_name}
use Rattle.swc_ast.specs.declared.modules.ExportNamedSpecifier.{ExportNamedSpecifier}
use Rattle.swc_ast.specs.declared.names.Ident.{Ident}
use Rattle.link_proofs.specs.Links.{Put, nothing, a_name, a_value}
use Rattle.carry_rules.specs.Carry.{exported_put, exported_name, respecified}
use Rattle.swc_resolved.specs.Names.{members}
use Rattle.carry_reads.specs.Readings.{value_of}
use Rattle.carry_pass.specs.declared.exports.Exports.{Exports}

-- what the module's own list declares, and what names stand for
abbrev pub binds : Exports → Name → Bool
binds e x = has_name x (members e.declared)

abbrev pub values : Exports → Name → Put
values e x = value_of e.reading.now x

-- the name of an identifier, if any
abbrev pub option_name : Option (Bor Ident) → Option Name
option_name None = None
option_name (Some n) = Some (ident_name n.now)

-- the name that is put, and where a list declares it
abbrev pub put_name : Put → Option Name
put_name nothing = None
put_name (a_name x) = Some x
put_name (a_value v) = None

abbrev pub declared_name : (Name → Bool) → Option Name → Option Name
declared_name binds None = None
declared_name binds (Some x) = if binds x then Some x else None

abbrev pub bound_name : (Name → Bool) → Put → Option Name
bound_name binds q = declared_name binds (put_name q)

-- a specifier
abbrev pub specifier_label : ExportNamedSpecifier → Label
specifier_label n = ExportSpecifier (ident_name n.orig) (option_word_text n.exported)

-- what becomes of its label
abbrev pub renamed : (Name → Bool) → (Name → Put) → Label → Label
renamed binds values l = exported_put binds (exported_name values l) l

-- what becomes of an item of a module
abbrev pub reexported_item : (Name → Bool) → (Name → Put) → Tree → Tree
reexported_item binds values (node ExportNamed ss cs) = node ExportNamed ss (respecified binds values cs)
reexported_item binds values t = t
