-- What is noted of uses, an item of a module after another.
use Rattle.std.specs.Prelude.{Bool, false, ◌≡◌, ◌&&◌, ◌||◌, []}
use Rattle.swc_ast.specs.Tree.{Name, Label, Tree, node, Forest, label_of, children_of}
use Rattle.swc_ast.specs.Scope.{has_name}
use Rattle.dce_uses.specs.declared.tally.Fact.{Fact}
use Rattle.dce_uses.specs.declared.uses.Uses.{Uses}
use Rattle.dce_uses.specs.Exports.{item_names, is_nameless_export}
use Rattle.dce_uses.specs.Noted.{noted, at_top, is_hiding}
use Rattle.dce_uses.specs.Tables.{IsBlank, Notes}

-- what an item of a module says of a name, by its parts and by what it exports
abbrev pub item_says : Label → Forest → Fact → Name → Bool
item_says l cs f x = noted f x at_top (node l [] cs) || (is_hiding f && has_name x (item_names l cs))

-- Uses of which nothing was noted.
pub record IsUnused (u : Uses) : Type 0 where
  pub table : IsBlank u.table
  pub default : u.exports_default ≡ false

-- Uses become others by noting an item of a module.
pub record NotesItem (u v : Uses) (l : Label) (cs : Forest) : Type 0 where
  pub table : Notes u.table v.table (item_says l cs)
  pub default : v.exports_default ≡ (u.exports_default || is_nameless_export l)

-- The same of an item that wasn't opened.
abbrev pub NotesTree : Uses → Uses → Tree → Type 0
NotesTree u v t = NotesItem u v (label_of t) (children_of t)
