-- Where `void 0` stands for a name, as yes or no on a tree and what it becomes, and declarators with an initialiser.
use Rattle.std.specs.Prelude.{Bool, true, false, ◌&&◌, ◌||◌}
use Rattle.swc_ast.specs.declared.UnaryOp.TheVariants.{TypeOf, Void}
use Rattle.swc_ast.specs.Tree.{Name, same_name, Label, Read, Shorthand, KeyValue, TypeOfName, Unary, Declarator, Tree, node, Forest, ε, ◌⊳◌}

abbrev pub is_void : Tree → Bool
is_void (node (Unary Void) ss cs) = true
is_void t = false

abbrev pub is_type_of_void : Tree → Bool
is_type_of_void (node (Unary TypeOf) ss (t ⊳ ε)) = is_void t
is_type_of_void t = false

abbrev pub is_void_field : Tree → Bool
is_void_field (node KeyValue ss (k ⊳ t ⊳ ε)) = is_void t
is_void_field t = false

-- what reads a name by itself becomes `void 0` in its place
abbrev pub is_put : Name → Label → Tree → Bool
is_put x (Read y) u = same_name x y && is_void u
is_put x (TypeOfName y) u = same_name x y && is_type_of_void u
is_put x (Shorthand y) u = same_name x y && is_void_field u
is_put x l u = false

abbrev pub parts_of : Tree → Forest
parts_of (node l ss cs) = cs

abbrev mutual
  -- somewhere in a tree `void 0` is put for a name
  pub is_voided : Name → Tree → Tree → Bool
  is_voided x (node l ss cs) u = is_put x l u || is_voided_all x cs (parts_of u)

  pub is_voided_all : Name → Forest → Forest → Bool
  is_voided_all x ε us = false
  is_voided_all x (t ⊳ ts) ε = false
  is_voided_all x (t ⊳ ts) (u ⊳ us) = is_voided x t u || is_voided_all x ts us

-- a declarator with an initialiser
abbrev pub declares_set : Name → Label → Forest → Bool
declares_set x (Declarator k y) (t ⊳ ts) = same_name x y
declares_set x l cs = false
