-- What is proved of a text and a tree where one was read or printed as the other. That the text is a text of the tree is tested, and
-- no part of it is said here.
use Rattle.std.specs.Prelude.{◌≡◌, ◌<◌, ◌^◌, true, [], length}
use Rattle.swc_ast.specs.Core.{IsCore}
use Rattle.swc_ast.specs.Marks.{mark_number}
use Rattle.swc_ast.specs.Resolved.{IsResolved}
use Rattle.swc_ast.specs.Tree.{Text, Tree}
use Rattle.swc_ast.specs.Valid as tree
use Rattle.swc_ast.specs.declared.names.Mark.{Mark}
use Rattle.tree_captures.specs.Captured.{no_scope, captured}

-- A text, and the module that `read_module` returns for it. Each text that is short enough has each such module.
pub record IsReadModule (mark : Mark) (text : Text) (t : Tree) : Type 0 where
  pub short : length text < 2 ^ 31
  pub valid : tree.valid t ≡ true
  pub resolved : IsResolved (mark_number mark) t
  pub core : IsCore t

-- The same of a script and `read_script`.
pub record IsReadScript (mark : Mark) (text : Text) (t : Tree) : Type 0 where
  pub short : length text < 2 ^ 31
  pub valid : tree.valid t ≡ true
  pub resolved : IsResolved (mark_number mark) t
  pub core : IsCore t

-- A module or a script, and the text that `print` or `print_script` returns for it. Each text belongs to each such tree.
pub record IsPrinted (t : Tree) (text : Text) : Type 0 where
  pub valid : tree.valid t ≡ true
  pub uncaptured : captured no_scope t ≡ []
