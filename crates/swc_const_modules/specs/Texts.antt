-- The texts that are given, and what is made of them.
use Rattle.std.specs.Prelude.{ℕ, ◌≡◌, true, Some, is_some, string_bytes}
use Rattle.std.specs.BTreeMap.{BTreeMap, get_by_text}
use Rattle.std.specs.declared.alloc.Global.{Global}
use Rattle.std.specs.declared.string.String.{String}
use Rattle.swc_ast.specs.Core.{IsCore}
use Rattle.swc_ast.specs.Resolved.{IsResolved}
use Rattle.swc_ast.specs.Tree.{Text, Tree}
use Rattle.swc_ast.specs.Valid.{valid}
use Rattle.swc_ast.specs.Views.{expr_tree}
use Rattle.swc_ast.specs.declared.errors.PassError.{PassError}
use Rattle.swc_ast.specs.declared.errors.PassError.TheVariants as error
use Rattle.swc_ast.specs.declared.expressions.Expr.{Expr}
use Rattle.const_imports.specs.Views.{in_exports, is_given, has_value, value_of}
use Rattle.const_imports.specs.declared.given.GivenModules.{GivenModules}

-- the texts of a module's exports, and of all modules
abbrev pub Texts : Type 0
Texts = BTreeMap (String Global) (String Global)

abbrev pub AllTexts : Type 0
AllTexts = BTreeMap (String Global) Texts

-- an error says that an export's value can't be read
abbrev pub Names : Text → Text → PassError → Type 0
Names s x (error.UnreadableValue m y at) = (string_bytes m ≡ s) × (string_bytes y ≡ x)
Names s x e = ⊥

-- the same of one of a module's exports
abbrev pub NamesOne : Text → Texts → PassError → Type 0
NamesOne s texts (error.UnreadableValue m y at) = (string_bytes m ≡ s) × (is_some (get_by_text texts (string_bytes y)) ≡ true)
NamesOne s texts e = ⊥

-- the same of an export that is given
abbrev pub IsUnreadable : AllTexts → PassError → Type 0
IsUnreadable g (error.UnreadableValue m y at) = is_some (in_exports (get_by_text g (string_bytes m)) (string_bytes y)) ≡ true
IsUnreadable g e = ⊥

-- a module has values for just the exports that have texts
abbrev pub SameExports : Texts → BTreeMap (String Global) Expr → Type 0
SameExports texts values = (x : Text) → is_some (get_by_text values x) ≡ is_some (get_by_text texts x)

-- the modules and exports that have values are just those that have texts
pub record GivesAll (g : AllTexts) (m : GivenModules Expr) : Type 0 where
  pub modules : (s : Text) → is_given m s ≡ is_some (get_by_text g s)
  pub exports : (s x : Text) → has_value m s x ≡ is_some (in_exports (get_by_text g s) x)

-- what holds of a value that was read, by the mark of unresolved names
pub record IsValue (mark : ℕ) (t : Tree) : Type 0 where
  pub is_valid : valid t ≡ true
  pub is_resolved : IsResolved mark t
  pub is_core : IsCore t

-- the same of each value of a module, and of all modules
abbrev pub AreValues : ℕ → BTreeMap (String Global) Expr → Type 0
AreValues mark values = (x : Text) (v : Expr) → get_by_text values x ≡ Some v → IsValue mark (expr_tree v)

abbrev pub AllAreValues : ℕ → GivenModules Expr → Type 0
AllAreValues mark m = (s x : Text) (v : Expr) → value_of m s x ≡ Some v → IsValue mark (expr_tree v)
