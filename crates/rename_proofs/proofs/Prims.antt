-- Operators and conversions give the same on values that are related.
use Rattle.std.proofs.Common.{◌≡◌, Bool, not, ◌^◌, ◌-◌, Some, refl, ap, ap₂}
use Rattle.swc_ast.specs.declared.UnaryOp.{UnaryOp}
use Rattle.swc_ast.specs.declared.UnaryOp.TheVariants.{Minus, Plus, Bang, Tilde, TypeOf, Void, Delete}
use Rattle.swc_ast.specs.declared.BinaryOp.{BinaryOp}
use Rattle.swc_ast.specs.Value.{Value, Truth, Num, Text}
use Rattle.swc_ast.specs.Operators.{prim, truthy, truthy_prim, is_nullish, is_nullish_prim, type_name, to_text, prim_text, to_number, prim_number, strict_equal, binary_prim, binary_value, on_number, negated, number_value, as_i32, to_u32, unary_value}
use Rattle.rename_proofs.proofs.Relation.{Pairing, V, items}

module _ {P : Pairing} where
  pub same_prim : {v w : Value} → V P v w → prim v ≡ prim w
  same_prim (items r) = refl
  same_prim _ = refl

  pub same_truthy : {v w : Value} → V P v w → truthy v ≡ truthy w
  same_truthy r = ap truthy_prim (same_prim r)

  pub same_nullish : {v w : Value} → V P v w → is_nullish v ≡ is_nullish w
  same_nullish r = ap is_nullish_prim (same_prim r)

  pub same_text : {v w : Value} → V P v w → to_text v ≡ to_text w
  same_text r = ap prim_text (same_prim r)

  pub same_number : {v w : Value} → V P v w → to_number v ≡ to_number w
  same_number r = ap prim_number (same_prim r)

  pub same_type : {v w : Value} → V P v w → type_name v ≡ type_name w
  same_type (items r) = refl
  same_type _ = refl

  pub same_strict : {a c b d : Value} → V P a c → V P b d → strict_equal (prim a) (prim b) ≡ strict_equal (prim c) (prim d)
  same_strict r q = ap₂ strict_equal (same_prim r) (same_prim q)

  pub same_binary : (op : BinaryOp) {a c b d : Value} → V P a c → V P b d → binary_value op a b ≡ binary_value op c d
  same_binary op r q = ap₂ (binary_prim op) (same_prim r) (same_prim q)

  pub same_unary : (op : UnaryOp) {v w : Value} → V P v w → unary_value op v ≡ unary_value op w
  unfolding unary_value
  same_unary Minus r = ap (on_number negated) (same_number r)
  same_unary Plus r = ap (on_number (λ n. Some (number_value n))) (same_number r)
  same_unary Bang r = ap (λ (b : Bool). Some (Truth (not b))) (same_truthy r)
  same_unary Tilde r = ap (on_number (λ n. Some (Num (as_i32 (2 ^ 32 - 1 - to_u32 n))))) (same_number r)
  same_unary TypeOf r = ap (λ t. Some (Text t)) (same_type r)
  same_unary Void r = refl
  same_unary Delete r = refl
