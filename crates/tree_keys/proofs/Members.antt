-- Members by their keys.
use Rattle.std.proofs.Common.{◌≡◌, refl}
use Rattle.swc_ast.specs.Expressions.{key_value_tree}
use Rattle.swc_ast.specs.Views.{expr_tree}
use Rattle.swc_ast.specs.declared.expressions.Expr.{Expr}
use Rattle.swc_ast.specs.declared.expressions.KeyValueProp.{KeyValueProp}
use Rattle.swc_ast.specs.declared.expressions.PropName.{PropName}
use Rattle.swc_ast.specs.declared.expressions.PropName.TheVariants as key
use Rattle.tree_keys.specs.Keys.{key_of, plain_key}

-- a member's key
pub key_of_member : (n : KeyValueProp Expr) → key_of (key_value_tree expr_tree n) ≡ plain_key n.key
key_of_member n = by_key n.key
  where
    by_key : (k : PropName Expr) → key_of (key_value_tree expr_tree (record n { key = k })) ≡ plain_key k
    by_key (key.Ident i) = refl
    by_key (key.Str i) = refl
    by_key (key.Num i) = refl
    by_key (key.Computed i) = refl
