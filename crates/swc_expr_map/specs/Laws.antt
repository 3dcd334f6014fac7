-- What is proved of the order of keys.
use Rattle.std.specs.Prelude.{◌≡◌, ◌↔◌}
use Rattle.std.specs.Cmp.{IsTotalOrder}
use Rattle.std.specs.declared.cmp.Ordering.TheVariants.{Equal}
use Rattle.swc_ast.specs.Tree.{Tree}
use Rattle.swc_pass.specs.Inlined.{shape}
use Rattle.swc_expr_map.specs.Order.{key_cmp}

abbrev pub KeysAreOrdered : Type 0
KeysAreOrdered = IsTotalOrder key_cmp

-- two trees are one key where they are equal without spans and contexts
abbrev pub KeysAreShapes : Type 0
KeysAreShapes = (t u : Tree) → (key_cmp t u ≡ Equal) ↔ (shape t ≡ shape u)
