-- Comparisons of known numbers and texts.
use Rattle.std.proofs.Common.{◌≡◌, ℕ, Bool, true, false, ◌&&◌, List, Some}
use Rattle.swc_ast.specs.Tree.{Tree}
use Rattle.swc_ast.specs.Operators.{Numeric, compare_numbers, binary_value}
use Rattle.swc_ast.specs.Value.{Text, Truth}
use Rattle.swc_ast.specs.declared.BinaryOp.{BinaryOp}
use Rattle.swc_utils.specs.Known.{number, text}
use Rattle.swc_utils.specs.Types.{is_text_type, type_of}
use Rattle.swc_utils.specs.declared.answers.ValueType.TheVariants.{Str as TextType}
use Rattle.expr_rules.specs.Comparisons.{compares, is_comparison}
use Rattle.expr_rules.specs.ExprSteps.{compare_known, compare_texts}
use Rattle.expr_operators.specs.Steps.{TruthStep}

pub number_step : (mark : ℕ) (op : BinaryOp) (a b : Tree) (i j : Numeric) (r : Bool) → is_comparison op ≡ true → number mark a ≡ Some i → number mark b ≡ Some j → (is_text_type (type_of mark a) && is_text_type (type_of mark b)) ≡ false → compare_numbers (compares op) i j ≡ Some (Truth r) → TruthStep mark op a b r
number_step mark op a b i j r c m n t e = λ ss rs. compare_known op ss rs a b i j r c m n t e

pub text_step : (mark : ℕ) (op : BinaryOp) (a b : Tree) (s t : List ℕ) (r : Bool) → is_comparison op ≡ true → type_of mark a ≡ Some TextType → type_of mark b ≡ Some TextType → text mark a ≡ Some s → text mark b ≡ Some t → binary_value op (Text s) (Text t) ≡ Some (Truth r) → TruthStep mark op a b r
text_step mark op a b s t r c m n h k e = λ ss rs. compare_texts op ss rs a b s t r c m n h k e
