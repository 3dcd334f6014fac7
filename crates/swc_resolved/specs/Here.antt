-- What the core asks of a node by itself: that its number is in range, and that the scope which it opens declares no name twice, as
-- far as the names of that scope tell. Of a resolved module or script no more has to be asked.
use Rattle.std.specs.Prelude.{ℕ, Bool, true, ◌&&◌, List, take, drop}
use Rattle.swc_ast.specs.Tree as tree
use Rattle.swc_ast.specs.Tree.{Name, Label, Tree, node, Forest, ε, ◌⊳◌}
use Rattle.swc_ast.specs.Core.{numbers_fit, list_names, once_each, none_in, good_scope}
use Rattle.swc_ast.specs.Meaning.{head_names, first_tree}
use Rattle.swc_ast.specs.Resolved.{first_names}
use Rattle.swc_ast.specs.Scope.{case_statements}

-- names that stand once each
abbrev pub distinct : List Name → Bool
distinct xs = once_each xs xs

-- Names of one scope as the core wants them: as many as `strict` in front stand once each, and so do those behind as many as `loose`, of
-- which none is in front too. (Between the two are names of `var`s, which may be declared again.)
abbrev pub stand_apart : ℕ → ℕ → List Name → Bool
stand_apart strict loose xs = (distinct (drop loose xs) && none_in (drop loose xs) (take loose xs)) && distinct (take strict xs)

-- the names of a node's scope; those of `var`s inside it too where the scope is that of a function, a module or a script
abbrev pub named_once : Label → Forest → Bool
named_once tree.Block cs = distinct (list_names cs)
named_once (tree.Switch ds) cs = distinct (list_names (case_statements cs))
named_once tree.For cs = distinct (first_names (head_names (first_tree cs)))
named_once (tree.Try o) cs = true
named_once l cs = good_scope l cs

abbrev pub own_core : Label → Forest → Bool
own_core l cs = numbers_fit l && named_once l cs

abbrev mutual
  -- the same of each node of a tree
  pub core_here : Tree → Bool
  core_here (node l ss cs) = own_core l cs && all_core_here cs

  pub all_core_here : Forest → Bool
  all_core_here ε = true
  all_core_here (t ⊳ ts) = core_here t && all_core_here ts
