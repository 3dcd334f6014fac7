-- Jumps that may leave a statement.
use Rattle.std.specs.Prelude.{Bool, true, false, not, ◌&&◌, ◌||◌, List, ◌∷◌, Some, None}
use Rattle.swc_ast.specs.Tree.{Text, Fn, Arrow, Method, FnDecl, ExportDefaultFn, While, DoWhile, For, Labeled, Switch, Break, Continue, Tree, node, Forest, ε, ◌⊳◌}
use Rattle.swc_ast.specs.Meaning.{has_label}

-- With which labels `continue` is looked for: with every label, or only with some.
pub data Sought : Type 0 where
  every : Sought
  only : List Text → Sought

-- whether it is with this one
abbrev pub is_sought : Sought → Text → Bool
is_sought every l = true
is_sought (only ls) l = has_label l ls

-- Which jumps are looked for: `break`, `continue`, and `continue` with a label, but not with one of those of the loops round the
-- place that are looked into themselves.
pub record Kinds : Type 0 where
  pub breaks : Bool
  pub continues : Bool
  pub labelled : Sought
  pub inside : List Text

-- What is looked for in the body of a loop, and in the cases of a switch. The loop's own labels count too: they stand right in
-- front of it, and here in front of those of the loops round it.
abbrev pub in_loop : List Text → Kinds → Kinds
in_loop near g = record { breaks = false; continues = false; labelled = g.labelled; inside = near }

abbrev pub in_switch : Kinds → Kinds
in_switch g = record { breaks = false; continues = g.continues; labelled = g.labelled; inside = g.inside }

abbrev mutual
  -- whether such a jump stands in a tree, outside functions, loops and switches that it is aimed at
  pub escapes_behind : List Text → Kinds → Tree → Bool
  escapes_behind near g (node (Break None) ss cs) = some_escape g cs || g.breaks
  escapes_behind near g (node (Continue None) ss cs) = some_escape g cs || g.continues
  escapes_behind near g (node (Continue (Some l)) ss cs) = some_escape g cs || (is_sought g.labelled l && not (has_label l g.inside))
  escapes_behind near g (node (Fn o) ss cs) = false
  escapes_behind near g (node Arrow ss cs) = false
  escapes_behind near g (node (FnDecl x) ss cs) = false
  escapes_behind near g (node (ExportDefaultFn o) ss cs) = false
  escapes_behind near g (node Method ss (k ⊳ cs)) = escapes_behind g.inside g k
  escapes_behind near g (node (Labeled l) ss (t ⊳ ε)) = escapes_behind (l ∷ near) g t
  escapes_behind near g (node While ss (t ⊳ b ⊳ ε)) = escapes_behind g.inside g t || escapes_behind near (in_loop near g) b
  escapes_behind near g (node DoWhile ss (b ⊳ t ⊳ ε)) = escapes_behind near (in_loop near g) b || escapes_behind g.inside g t
  escapes_behind near g (node For ss (i ⊳ t ⊳ u ⊳ b ⊳ ε)) = escapes_behind g.inside g i || (escapes_behind g.inside g t || (escapes_behind g.inside g u || escapes_behind near (in_loop near g) b))
  escapes_behind near g (node (Switch ds) ss (d ⊳ cs)) = escapes_behind g.inside g d || some_escape (in_switch g) cs
  escapes_behind near g (node l ss cs) = some_escape g cs

  pub some_escape : Kinds → Forest → Bool
  some_escape g ε = false
  some_escape g (t ⊳ ts) = escapes_behind g.inside g t || some_escape g ts

-- the same where no label stands in front of the tree
abbrev pub escapes : Kinds → Tree → Bool
escapes g t = escapes_behind g.inside g t
