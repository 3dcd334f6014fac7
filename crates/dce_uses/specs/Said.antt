-- What items say of names that go by numbers.
use Rattle.std.specs.Prelude.{Bool, true, false, not, ◌≡◌, ◌<◌, ◌≤◌, ◌&&◌, ◌||◌, ⊤, ℕ, nat_eq, List, [], ◌∷◌, ◌++◌, length, slice_range, Option, IfSome, option_map, position, unwrap_or}
use Rattle.stmt_like.specs.Kept.{IsIn}
use Rattle.swc_ast.specs.declared.modules.ModuleItem.{ModuleItem}
use Rattle.swc_ast.specs.Modules.{item_tree}
use Rattle.swc_ast.specs.Scope.{has_name}
use Rattle.swc_ast.specs.Tree.{Name, same_name, Tree, label_of, children_of}
use Rattle.dce_rules.specs.Uses.{declared_in}
use Rattle.dce_uses.specs.declared.said.Row.{Row}
use Rattle.dce_uses.specs.declared.said.Said.{Said}
use Rattle.dce_uses.specs.declared.table.Table.{Table}
use Rattle.dce_uses.specs.declared.tally.Fact.{Fact}
use Rattle.dce_uses.specs.declared.tally.Fact.TheVariants as fact
use Rattle.dce_uses.specs.declared.uses.Uses.{Uses}
use Rattle.dce_uses.specs.Exports.{is_nameless_export}
use Rattle.dce_uses.specs.Items.{item_says}
use Rattle.dce_uses.specs.Tables.{Extends, Notes, fact_at, fact_of, holds, is_free, names_of}

-- whether a name has a number among names
abbrev pub is_number : List Name → Name → ℕ → Bool
is_number ns x n = unwrap_or (option_map (nat_eq n) (position (same_name x) ns)) false

-- what a row tells of a name
abbrev pub row_says : List Name → Row → Fact → Name → Bool
row_says ns r f x = holds r.tally f && is_number ns x r.number

-- what rows tell of a name
abbrev pub rows_say : List Name → List Row → Fact → Name → Bool
rows_say ns [] f x = false
rows_say ns (r ∷ rs) f x = row_says ns r f x || rows_say ns rs f x

-- whether a row tells of a declaration of a name that is neither read nor written, nor used without being named
abbrev pub frees : Table → Row → Bool
frees u r = holds r.tally fact.Declared && not ((fact_at u.tallies.items fact.Used r.number || fact_at u.tallies.items fact.Written r.number) || fact_at u.tallies.items fact.Hidden r.number)

-- Each row is that of a name.
abbrev pub AreNumbered : List Name → List Row → Type 0
AreNumbered ns [] = ⊤
AreNumbered ns (r ∷ rs) = (r.number < length ns) × AreNumbered ns rs

-- What is known of items by places: the names, each at its number, and the rows of all that items said.
pub record Register : Type 0 where
  pub names : List Name
  pub rows : List Row

abbrev pub register_of : Uses → Register
register_of u = record { names = names_of u; rows = u.rows.items }

-- The second is the first with more behind it.
pub record Grows (g h : Register) : Type 0 where
  pub names : Extends g.names h.names
  pub rows : Extends g.rows h.rows

-- the rows of what an item said
abbrev pub rows_of : Register → Said → List Row
rows_of g s = slice_range g.rows s.start s.end

-- They are there.
pub record IsWithin (g : Register) (s : Said) : Type 0 where
  pub ordered : s.start ≤ s.end
  pub within : s.end ≤ length g.rows

-- An item says this.
pub record Says (g : Register) (s : Said) (t : Tree) : Type 0 where
  pub within : IsWithin g s
  pub numbers : AreNumbered g.names (rows_of g s)
  pub facts : (f : Fact) (x : Name) → rows_say g.names (rows_of g s) f x ≡ item_says (label_of t) (children_of t) f x
  pub default : s.exports_default ≡ is_nameless_export (label_of t)

-- Items of which is known what they say say that.
abbrev pub AllSaid : {X : Type 0} → Register → (X → ModuleItem) → (X → Option Said) → List X → Type 0
AllSaid {X} g item tells xs = (x : X) → IsIn x xs → IfSome (tells x) (λ s. Says g s (item_tree (item x)))

-- Rows tell what was noted in a table, which keeps its names.
pub record Takes (u v : Table) (rs : List Row) : Type 0 where
  pub names : v.names ≡ u.names
  pub numbers : AreNumbered u.names rs
  pub facts : (f : Fact) (x : Name) → rows_say u.names rs f x ≡ fact_of u f x

-- The same of rows behind others.
pub record TakesBehind (u v : Table) (old new : List Row) : Type 0 where
  pub more : List Row
  pub is : new ≡ old ++ more
  pub takes : Takes u v more

-- None of the names that a tree declares is free but some.
abbrev pub OnlyFree : Uses → List Name → Tree → Type 0
OnlyFree u xs t = (x : Name) → declared_in x t ≡ true → is_free u x ≡ true → has_name x xs ≡ true

-- What an item says is noted.
pub record Adds (u v : Uses) (s : Said) : Type 0 where
  pub table : Notes u.table v.table (rows_say (names_of u) (rows_of (register_of u) s))
  pub default : v.exports_default ≡ (u.exports_default || s.exports_default)
