-- Names that may stand for others, as a table has them.
use Rattle.std.specs.Prelude.{◌≡◌, ℕ, suc, Bool, true, false, ◌&&◌, ◌||◌, Option, Some, is_some}
use Rattle.swc_ast.specs.Tree.{Name}
use Rattle.carry_tables.specs.Tables.{at, item_of, Keeps}
use Rattle.carry_tables.specs.declared.scoped.Scoped.{Scoped}
use Rattle.carry_vars.specs.Facts.{steady_of}
use Rattle.carry_vars.specs.declared.vars.Vars.{Vars}

abbrev pub is_set : Option ℕ → Bool
is_set (Some (suc n)) = true
is_set o = false

abbrev pub ready_of : Scoped → Name → Bool
ready_of u x = is_set (item_of u x)

-- a table has an item for each name of which something is said
abbrev pub Covers : Vars → (Name → Bool) → Type 0
Covers v has = (x : Name) → is_some (at v.table x) ≡ true → has x ≡ true

-- the names of a table
abbrev pub names_in : Scoped → Name → Bool
names_in u x = is_some (item_of u x)

-- Some steady names are made ready.
pub record Adds (v : Vars) (u w : Scoped) (more : Name → Bool) : Type 0 where
  pub ready : (x : Name) → ready_of w x ≡ (ready_of u x || (more x && steady_of v x))
  pub keeps : Keeps u w
  pub names : (x : Name) → names_in w x ≡ names_in u x
