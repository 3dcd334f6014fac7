-- Whether functions of one name are declared apart from those of a module's own list.
use Rattle.std.specs.Prelude.{Bool, false, ◌||◌, if◌then◌else◌, Option, Some, None}
use Rattle.swc_ast.specs.Tree.{Name, same_name, Tree, node, Forest, ε, ◌⊳◌}
use Rattle.swc_ast.specs.Reach.{declares, item_function}

abbrev mutual
  -- whether a function of a name is declared in a tree
  pub declares_in : Name → Tree → Bool
  declares_in x (node l ss cs) = declares x l || declares_among x cs

  pub declares_among : Name → Forest → Bool
  declares_among x ε = false
  declares_among x (t ⊳ ts) = declares_in x t || declares_among x ts

-- whether an item declares a function of a name, unless it is that function
abbrev pub function_apart : Name → Tree → Option Name → Bool
function_apart x t None = declares_in x t
function_apart x t (Some f) = if same_name x f then false else declares_in x t

-- whether a function of a name is declared apart from those of a module's own list
abbrev pub declared_apart : Name → Forest → Bool
declared_apart x ε = false
declared_apart x (t ⊳ ts) = function_apart x t (item_function t) || declared_apart x ts

-- whether an item declares a function of a name
abbrev pub is_of : Name → Option Name → Bool
is_of f None = false
is_of f (Some h) = same_name f h

-- whether a module's own list declares a function, under `export` too
abbrev pub has_function : Name → Forest → Bool
has_function f ε = false
has_function f (t ⊳ ts) = is_of f (item_function t) || has_function f ts
