-- Numbers that digits spell.
use Rattle.std.specs.Prelude.{ℕ, nat_le, if◌then◌else◌, List, [], ◌∷◌, Option, Some, None}
use Rattle.swc_ast.specs.Operators.{greatest, digits_value}

-- a number that digits spell, one at least
abbrev pub digits_spelled : List ℕ → Option ℕ
digits_spelled [] = None
digits_spelled (c ∷ cs) = digits_value 0 (c ∷ cs)

-- a number, if it is one of the core
abbrev pub capped : Option ℕ → Option ℕ
capped None = None
capped (Some n) = if nat_le n greatest then Some n else None
