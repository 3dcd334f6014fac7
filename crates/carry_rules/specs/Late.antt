-- Reads that stand later in the text than the declaration of their name, as yes or no on trees, and declarations with a literal.
use Rattle.std.specs.Prelude.{Bool, true, false, not, ◌&&◌, ◌||◌}
use Rattle.swc_ast.specs.Tree.{Name, same_name, Label, NumLit, StrLit, BoolLit, NullLit, Read, Shorthand, TypeOfName, Tree, node, Forest, ε, ◌⊳◌}
use Rattle.carry_rules.specs.Carry.{Pass, constants, inlines, declares_lexical, is_exempt}

-- a node reads a name by itself; a shorthand does so for the pass that carries constants
abbrev pub reads_name : Pass → Name → Label → Bool
reads_name p x (Read y) = same_name x y
reads_name p x (TypeOfName y) = same_name x y
reads_name constants x (Shorthand y) = same_name x y
reads_name p x l = false

-- Parts that a pass leaves as they are count for nothing: operands of `delete`, and assignments and updates where constants are
-- carried.

abbrev mutual
  -- a tree reads a name
  pub reads_in : Pass → Name → Tree → Bool
  reads_in p x (node l ss cs) = not (is_exempt p l) && (reads_name p x l || reads_in_all p x cs)

  pub reads_in_all : Pass → Name → Forest → Bool
  reads_in_all p x ε = false
  reads_in_all p x (t ⊳ ts) = reads_in p x t || reads_in_all p x ts

abbrev mutual
  -- a tree declares a name by `let` or `const`
  pub declares_in : Pass → Name → Tree → Bool
  declares_in p x (node l ss cs) = not (is_exempt p l) && (declares_lexical x l || declares_in_all p x cs)

  pub declares_in_all : Pass → Name → Forest → Bool
  declares_in_all p x ε = false
  declares_in_all p x (t ⊳ ts) = declares_in p x t || declares_in_all p x ts

abbrev mutual
  -- a read of a name stands later than a declaration of it by `let` or `const`
  pub is_late : Pass → Name → Tree → Bool
  is_late p x (node l ss cs) = not (is_exempt p l) && is_late_all p x cs

  pub is_late_all : Pass → Name → Forest → Bool
  is_late_all p x ε = false
  is_late_all p x (t ⊳ ts) = is_late p x t || ((declares_in p x t && reads_in_all p x ts) || is_late_all p x ts)

-- literals that are carried: texts only where names are inlined
abbrev pub is_carried : Pass → Label → Bool
is_carried p (NumLit z) = true
is_carried p (BoolLit b) = true
is_carried p NullLit = true
is_carried inlines (StrLit t) = true
is_carried p l = false

-- a declarator of `let` or `const` whose initialiser is such a literal
abbrev pub declares_literal : Pass → Name → Label → Forest → Bool
declares_literal p x l (node m ss ε ⊳ ε) = declares_lexical x l && is_carried p m
declares_literal p x l cs = false
