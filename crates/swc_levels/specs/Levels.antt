-- How many levels of expressions and statements a tree has.
use Rattle.std.specs.Prelude.{ℕ, ◌≡◌, ◌+◌, ◌≤◌, max}
use Rattle.swc_ast.specs.Tree as tree
use Rattle.swc_ast.specs.Tree.{Label, Tree, node, Forest, ε, ◌⊳◌}

-- How many levels a node is by itself: none where it is part of an expression or a statement, two where its label has a name or a
-- member in it that is an expression of its own, and one else. An item of a module counts as a statement.
abbrev pub own_levels : Label → ℕ
own_levels tree.SpreadRecord = 0
own_levels tree.KeyValue = 0
own_levels tree.Method = 0
own_levels (tree.PlainKey k) = 0
own_levels tree.ComputedKey = 0
own_levels tree.Params = 0
own_levels (tree.Param x) = 0
own_levels tree.Body = 0
own_levels tree.Absent = 0
own_levels tree.CaseBody = 0
own_levels (tree.Declarator kind x) = 0
own_levels tree.Module = 0
own_levels tree.Script = 0
own_levels tree.ExportDecl = 0
own_levels tree.ExportDefaultExpr = 0
own_levels (tree.TypeOfName x) = 2
own_levels (tree.CallEval x) = 2
own_levels (tree.CallDot k) = 2
own_levels tree.CallIndex = 2
own_levels (tree.AssignDot op k) = 2
own_levels (tree.AssignIndex op) = 2
own_levels (tree.Update op prefix x) = 2
own_levels (tree.UpdateDot op prefix k) = 2
own_levels (tree.UpdateIndex op prefix) = 2
own_levels l = 1

abbrev mutual
  -- how many expressions and statements stand inside one another, the innermost among them
  pub levels : Tree → ℕ
  levels (node l ss cs) = own_levels l + deepest cs

  pub deepest : Forest → ℕ
  deepest ε = 0
  deepest (t ⊳ ts) = max (levels t) (deepest ts)

-- a number that was counted, and that it is no more than asked for
pub record Counts (levels most counted : ℕ) : Type 0 where
  pub is : levels ≡ counted
  pub low : counted ≤ most
