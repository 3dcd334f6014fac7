-- Properties of objects whose values are not used.
use Rattle.std.specs.Prelude.{ℕ, ◌≡◌, true, if◌then◌else◌, List}
use Rattle.swc_ast.specs.declared.Span.{Span}
use Rattle.swc_ast.specs.Tree.{Key, KeyValue, PlainKey, Tree, node, Forest, ε, ◌⊳◌}
use Rattle.swc_utils.specs.Effects.{is_record_spread}
use Rattle.swc_utils.specs.Literals.{is_literal}
use Rattle.swc_utils.specs.Pure.{pure}
use Rattle.branch_rules.specs.Ignored.{property_parts}

-- what is run of a property that is no spread
abbrev pub own_parts : ℕ → Tree → Forest
own_parts mark t = if is_record_spread t then ε else property_parts mark t

-- a key that is no expression
pub record IsPlainKey (t : Tree) : Type 0 where
  pub key : Key
  pub spans : List Span
  pub is : t ≡ node (PlainKey key) spans ε

-- `key: value` of such a key and a literal, which is pure
pub record Goes (mark : ℕ) (t : Tree) : Type 0 where
  pub key : Tree
  pub value : Tree
  pub spans : List Span
  pub plain : IsPlainKey key
  pub is : t ≡ node KeyValue spans (key ⊳ value ⊳ ε)
  pub literal : is_literal value ≡ true
  pub pure : pure mark value ≡ true
