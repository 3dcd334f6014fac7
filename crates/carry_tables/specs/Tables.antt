-- What tables by number tell of names.
use Rattle.std.specs.Prelude.{ℕ, ◌≡◌, ◌≤◌, List, [], ◌∷◌, length, drop, if◌then◌else◌, Option, option_and_then, option_map, position, slice_get}
use Rattle.std.specs.Borrow.{Bor}
use Rattle.swc_ast.specs.Parts.{ident_name}
use Rattle.swc_ast.specs.Tree.{Name, same_name}
use Rattle.swc_ast.specs.declared.names.Ident.{Ident}
use Rattle.carry_tables.specs.declared.table.NameTable.{NameTable}
use Rattle.carry_tables.specs.declared.scoped.Scoped.{Scoped}

-- the item of a name, if the tree has the name
abbrev pub at : {T : Type 0} → NameTable T → Name → Option T
at u x = option_and_then (slice_get u.items.items) (position (same_name x) u.names.now)

-- the same of a table that is undone
abbrev pub item_of : Scoped → Name → Option ℕ
item_of u x = at u.table x

-- how many changes there were
abbrev pub height : Scoped → ℕ
height u = length u.log.items

-- an item in front of some changes
abbrev pub undone : List (Bor Ident × ℕ) → Option ℕ → Name → Option ℕ
undone [] o x = o
undone (c ∷ cs) o x = if same_name (ident_name c.0.now) x then option_map (λ t. c.1) o else undone cs o x

-- the item of a name when there were so many changes
abbrev pub item_before : Scoped → ℕ → Name → Option ℕ
item_before u h x = undone (drop h u.log.items) (item_of u x) x

-- what was stays known
pub record Keeps (u v : Scoped) : Type 0 where
  pub higher : height u ≤ height v
  pub before : (h : ℕ) → h ≤ height u → (x : Name) → item_before v h x ≡ item_before u h x

-- a table as it was when there were so many changes
pub record Rewinds (h : ℕ) (u v : Scoped) : Type 0 where
  pub lower : h ≤ height u → height v ≡ h
  pub before : (k : ℕ) → k ≤ h → h ≤ height u → (x : Name) → item_before v k x ≡ item_before u k x
