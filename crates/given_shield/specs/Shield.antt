-- What may not stand bare where it is put: a member or `eval` that is called would hand on an object or be a direct `eval`, and
-- `typeof` of a host's name doesn't read it.
use Rattle.std.specs.Prelude.{pos, zero, Bool, true, false, if◌then◌else◌, [], ◌∷◌}
use Rattle.swc_ast.specs.declared.Span.{Span}
use Rattle.swc_ast.specs.Expressions.{is_eval}
use Rattle.swc_ast.specs.Meaning.{is_host_name}
use Rattle.swc_ast.specs.Tree.{NumLit, Read, Seq, Dot, Index, Tree, node, ε, ◌⊳◌}
use Rattle.tree_put.specs.declared.rules.Spot.{Spot}
use Rattle.tree_put.specs.declared.rules.Spot.TheVariants as spot

abbrev pub is_bare_callee : Tree → Bool
is_bare_callee (node (Dot k) ss cs) = true
is_bare_callee (node Index ss cs) = true
is_bare_callee (node (Read x) ss cs) = is_eval x
is_bare_callee t = false

abbrev pub is_bare_operand : Tree → Bool
is_bare_operand (node (Read x) ss cs) = is_host_name x.text
is_bare_operand t = false

abbrev pub is_bare : Spot → Tree → Bool
is_bare spot.Callee t = is_bare_callee t
is_bare spot.Operand t = is_bare_operand t
is_bare p t = false

-- the span of what stands nowhere in the text
abbrev pub nowhere : Span
nowhere = record { lo = 0; hi = 0 }

-- `(0, t)`
abbrev pub guarded : Tree → Tree
guarded t = node Seq (nowhere ∷ []) (node (NumLit (pos zero)) (nowhere ∷ []) ε ⊳ t ⊳ ε)

-- an expression as it is put
abbrev pub shield : Spot → Tree → Tree
shield p t = if is_bare p t then guarded t else t
