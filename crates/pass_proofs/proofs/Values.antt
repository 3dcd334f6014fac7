-- An expression whose value is known gives that value.
use Rattle.std.proofs.Common.{◌≡◌, ℕ, Bool, List, Option, Some, None, refl, ap, ◌∙◌}
use Rattle.std.proofs.lemmas.Option.{none-some, same_Some}
use Rattle.swc_ast.specs.Tree.{Tree}
use Rattle.swc_ast.specs.Value.{Value, Undefined, Null, NaN, Num, Truth, Text, Context}
use Rattle.swc_ast.specs.Meaning.{Caller, eval}
use Rattle.swc_ast.specs.Operators.{truthy, to_number, to_text, Numeric, number_value}
use Rattle.swc_utils.specs.Known.{truth, number, text}
use Rattle.swc_utils.specs.Types.{type_of, value_type}
use Rattle.swc_utils.specs.declared.answers.ValueType.{ValueType}
use Rattle.swc_utils.specs.declared.answers.ValueType.TheVariants.{Undefined as UndefinedType, Null as NullType, Bool as TruthType, Num as NumberType, Str as TextType, Obj as ObjectType}
use Rattle.swc_utils.specs.Holds.{Is, Yields}
use Rattle.swc_utils.proofs.Ends.{yields_map, yields_both}
use Rattle.swc_utils.proofs.Known.{truth_holds, number_holds, text_holds}
use Rattle.swc_utils.proofs.Typed.{type_holds}
use Rattle.pass_rules.specs.Values.{number_of, text_value, truth_of_known, value_by_type, value_of}

-- values of a known type

undefined_is : (v : Value) → value_type v ≡ UndefinedType → v ≡ Undefined
undefined_is Undefined h = refl
undefined_is _ h = cc

null_is : (v : Value) → value_type v ≡ NullType → v ≡ Null
null_is Null h = refl
null_is _ h = cc

truth_is : (v : Value) (b : Bool) → truthy v ≡ b → value_type v ≡ TruthType → v ≡ Truth b
truth_is (Truth c) b h i = ap Truth h
truth_is _ b h i = cc

pub number_is : (v : Value) (k : Numeric) → to_number v ≡ Some k → value_type v ≡ NumberType → v ≡ number_value k
number_is NaN k h i = ap number_value (same_Some _ _ h)
number_is (Num z) k h i = ap number_value (same_Some _ _ h)
number_is _ k h i = cc

pub text_is : (v : Value) (s : List ℕ) → to_text v ≡ Some s → value_type v ≡ TextType → v ≡ Text s
text_is (Text t) s h i = ap Text (same_Some _ _ h)
text_is _ s h i = cc

module _ (mark n : ℕ) (call : Caller) (t : Tree) (w : Value) (c : Context) where
  by_truth : (o : Option Bool) → truth mark t ≡ o → truth_of_known o ≡ Some w → type_of mark t ≡ Some TruthType → Yields (Is w) (eval mark n call t c)
  by_truth None e h i = absurd (none-some w h)
  by_truth (Some b) e h i = yields_map (yields_both (truth_holds mark n call t b e c) (type_holds mark n call t TruthType i c)) (λ v p. truth_is v b p.0 p.1 ∙ same_Some _ _ h)

  by_number : (o : Option Numeric) → number mark t ≡ o → number_of o ≡ Some w → type_of mark t ≡ Some NumberType → Yields (Is w) (eval mark n call t c)
  by_number None e h i = absurd (none-some w h)
  by_number (Some k) e h i = yields_map (yields_both (number_holds mark n call t k e c) (type_holds mark n call t NumberType i c)) (λ v p. number_is v k p.0 p.1 ∙ same_Some _ _ h)

  by_text : (o : Option (List ℕ)) → text mark t ≡ o → text_value o ≡ Some w → type_of mark t ≡ Some TextType → Yields (Is w) (eval mark n call t c)
  by_text None e h i = absurd (none-some w h)
  by_text (Some s) e h i = yields_map (yields_both (text_holds mark n call t s e c) (type_holds mark n call t TextType i c)) (λ v p. text_is v s p.0 p.1 ∙ same_Some _ _ h)

  by_type : (o : Option ValueType) → type_of mark t ≡ o → value_by_type o (truth mark t) (number mark t) (text mark t) ≡ Some w → Yields (Is w) (eval mark n call t c)
  by_type None e h = absurd (none-some w h)
  by_type (Some UndefinedType) e h = yields_map (type_holds mark n call t UndefinedType e c) (λ v i. undefined_is v i ∙ same_Some _ _ h)
  by_type (Some NullType) e h = yields_map (type_holds mark n call t NullType e c) (λ v i. null_is v i ∙ same_Some _ _ h)
  by_type (Some TruthType) e h = by_truth (truth mark t) refl h e
  by_type (Some NumberType) e h = by_number (number mark t) refl h e
  by_type (Some TextType) e h = by_text (text mark t) refl h e
  by_type (Some ObjectType) e h = absurd (none-some w h)

  -- what is known of a value is that value
  pub value_holds : value_of mark t ≡ Some w → Yields (Is w) (eval mark n call t c)
  value_holds h = by_type (type_of mark t) refl h
