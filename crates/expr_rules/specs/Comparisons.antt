-- What `<`, `>`, `<=` and `>=` say. ECMA-262, 13.10.
use Rattle.std.specs.Prelude.{Bool, None, Option, Some, false, not, true, ℤ}
use Rattle.swc_ast.specs.Operators.{int_before}
use Rattle.swc_ast.specs.declared.BinaryOp.{BinaryOp}
use Rattle.swc_ast.specs.declared.BinaryOp.TheVariants.{EqEq, EqEqEq, Gt, GtEq, Lt, LtEq, NotEq, NotEqEq}

-- how a comparison of two numbers goes
abbrev pub compares : BinaryOp → ℤ → ℤ → Bool
compares Gt m n = int_before n m
compares LtEq m n = not (int_before n m)
compares GtEq m n = not (int_before m n)
compares _ m n = int_before m n

-- `<`, `>`, `<=` and `>=`
abbrev pub is_comparison : BinaryOp → Bool
is_comparison Lt = true
is_comparison Gt = true
is_comparison LtEq = true
is_comparison GtEq = true
is_comparison _ = false

-- what is so of every value beside itself, where it is not left open
abbrev pub beside_itself : BinaryOp → Option Bool
beside_itself Lt = Some false
beside_itself Gt = Some false
beside_itself _ = None

-- what is so of every text beside itself
abbrev pub text_beside_itself : BinaryOp → Option Bool
text_beside_itself Lt = Some false
text_beside_itself Gt = Some false
text_beside_itself LtEq = Some true
text_beside_itself GtEq = Some true
text_beside_itself EqEq = Some true
text_beside_itself EqEqEq = Some true
text_beside_itself NotEq = Some false
text_beside_itself NotEqEq = Some false
text_beside_itself _ = None
