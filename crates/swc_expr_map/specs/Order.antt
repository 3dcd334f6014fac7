-- The order of keys: by what the nodes are, and then by their children from the first one on. Spans and contexts don't count.
use Rattle.std.specs.Prelude.{ℕ, Bool}
use Rattle.std.specs.Ordering.{ordering_then, is_eq, nat_cmp, int_cmp}
use Rattle.std.specs.declared.cmp.Ordering.{Ordering}
use Rattle.std.specs.declared.cmp.Ordering.TheVariants.{Less, Equal, Greater}
use Rattle.std.specs.Cmp.Lexicographic.{slice_cmp}
use Rattle.swc_ast.specs.Tree.{Text, Label, Tree, node, Forest, ε, ◌⊳◌}
use Rattle.swc_expr_map.specs.Codes.{Row, Code, label_code}

-- two texts with their numbers
abbrev pub entry_cmp : ℕ × Text → ℕ × Text → Ordering
entry_cmp a b = ordering_then (nat_cmp a.0 b.0) (slice_cmp nat_cmp a.1 b.1)

abbrev pub row_cmp : Row → Row → Ordering
row_cmp = slice_cmp entry_cmp

abbrev pub head_cmp : Code → Code → Ordering
head_cmp a b = ordering_then (ordering_then (nat_cmp a.rank b.rank) (int_cmp a.number b.number)) (nat_cmp a.context b.context)

-- what nodes are, without their children
abbrev pub code_cmp : Code → Code → Ordering
code_cmp a b = ordering_then (head_cmp a b) (row_cmp a.row b.row)

abbrev pub label_cmp : Label → Label → Ordering
label_cmp l m = code_cmp (label_code l) (label_code m)

abbrev mutual
  pub key_cmp : Tree → Tree → Ordering
  key_cmp (node l ss ts) (node m rs us) = ordering_then (label_cmp l m) (children_cmp ts us)

  -- the first child that differs decides, and else there are fewer
  pub children_cmp : Forest → Forest → Ordering
  children_cmp ε ε = Equal
  children_cmp ε (u ⊳ us) = Less
  children_cmp (t ⊳ ts) ε = Greater
  children_cmp (t ⊳ ts) (u ⊳ us) = ordering_then (key_cmp t u) (children_cmp ts us)

-- whether two trees are one key
abbrev pub same_key : Tree → Tree → Bool
same_key t u = is_eq (key_cmp t u)
