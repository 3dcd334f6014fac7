-- Rewrites that know one side only: a power of 0, and what is equal to NaN.
use Rattle.std.proofs.Common.{◌≡◌, ℕ, pos, false, List, Option, Some, None, refl, sym, subst, IfSome, length, codes}
use Rattle.swc_ast.specs.declared.Span.{Span}
use Rattle.swc_ast.specs.declared.BinaryOp.TheVariants.{Exp}
use Rattle.swc_ast.specs.Tree.{NumLit, StrLit, Dot, Binary, Tree, node, ε, ◌⊳◌}
use Rattle.swc_ast.specs.Value.{Num, and_then}
use Rattle.swc_ast.specs.Meaning.{operate, get, act, eval, evals}
use Rattle.swc_ast.specs.Operators.{Prim, undefined, null, nan, object, truth as truth_of, num, text as text_of, prim, prim_number, Numeric, NotANumber, Whole, both, power_of, strict_equal, binary_prim, binary_value, own_property, units}
use Rattle.meaning_proofs.specs.Exact.{Exact}
use Rattle.swc_utils.specs.Known.{number}
use Rattle.swc_utils.specs.Effects.{effects, preserve}
use Rattle.swc_utils.specs.Holds.{Is}
use Rattle.swc_utils.proofs.Ends.{yields_then, yields_in_core, any}
use Rattle.swc_utils.proofs.Known.{number_holds}
use Rattle.swc_utils.proofs.Refines.{refines_same}
use Rattle.pass_rules.specs.Leaves.{number_tree}
use Rattle.expr_proofs.proofs.Constant.{constant_exact}
use Rattle.expr_proofs.proofs.Folds.{number_gives}

power_zero : (o : Option Numeric) → IfSome (both power_of o (Some (Whole (pos 0)))) (Is (Num (pos 1)))
power_zero None = tt
power_zero (Some NotANumber) = refl
power_zero (Some (Whole z)) = refl

-- `a ** b` where the number of b is 0
pub power_zero_exact : (mark : ℕ) (ss rs ts : List Span) (a b : Tree) → number mark b ≡ Some (Whole (pos 0)) → Exact mark (node (Binary Exp) ss (a ⊳ b ⊳ ε)) (preserve rs (effects mark (node (Binary Exp) ss (a ⊳ b ⊳ ε))) (number_tree mark ts (Whole (pos 1))))
unfolding eval act operate binary_prim
power_zero_exact mark ss rs ts a b h = constant_exact mark rs (node (Binary Exp) ss (a ⊳ b ⊳ ε)) (number_tree mark ts (Whole (pos 1))) (Num (pos 1))
    (λ n call c. yields_then (any (eval mark n call a c)) (λ v _. yields_then (number_holds mark n call b (Whole (pos 0)) h c) (λ w e. yields_in_core (binary_value Exp v w) (subst (λ o. IfSome (both power_of (prim_number (prim v)) o) (Is (Num (pos 1)))) (sym e) (power_zero (prim_number (prim v)))))))
    (number_gives mark ts (Whole (pos 1)))

-- nothing is strictly equal to NaN

pub nan_left : (q : Prim) → strict_equal nan q ≡ Some false
nan_left q = refl

pub nan_right : (p : Prim) → strict_equal p nan ≡ Some false
nan_right undefined = refl
nan_right null = refl
nan_right nan = refl
nan_right object = refl
nan_right (truth_of b) = refl
nan_right (num z) = refl
nan_right (text_of t) = refl

-- the length of a text literal
pub text_length_exact : (mark : ℕ) (ss is rs : List Span) (t : List ℕ) → Exact mark (node (Dot (codes "length")) ss (node (StrLit t) is ε ⊳ ε)) (node (NumLit (pos (length (units t)))) rs ε)
unfolding eval act evals get own_property and_then
text_length_exact mark ss is rs t = record { by = λ n d c. refines_same _ }
