-- The parts of an expression that a run of it may be noticed by, in order.
use Rattle.std.specs.Prelude.{ℕ, Bool, true, false, ◌&&◌, ◌||◌, if◌then◌else◌, List}
use Rattle.swc_ast.specs.declared.UnaryOp.{UnaryOp}
use Rattle.swc_ast.specs.declared.UnaryOp.TheVariants.{TypeOf, Delete}
use Rattle.swc_ast.specs.declared.BinaryOp.{BinaryOp}
use Rattle.swc_ast.specs.declared.BinaryOp.TheVariants.{LogicalOr, LogicalAnd, In, InstanceOf, NullishCoalescing}
use Rattle.swc_ast.specs.declared.Span.{Span}
use Rattle.swc_ast.specs.Tree.{Read, Template, Array, Object, SpreadRecord, KeyValue, Shorthand, Method, ComputedKey, Unary, Binary, Seq, Tree, node, Forest, ε, ◌⊳◌}
use Rattle.swc_ast.specs.Value.{Context}
use Rattle.swc_ast.specs.Scope.{joined}
use Rattle.swc_ast.specs.Meaning.{◌>>=◌, run_all, eval, evals}
use Rattle.swc_ast.specs.Call.{call_at}
use Rattle.meaning_proofs.specs.Exact.{Refines}
use Rattle.swc_utils.specs.Globals.{is_host_name}
use Rattle.swc_utils.specs.Pure.{pure, has_spread}

-- `delete`
abbrev pub deletes : UnaryOp → Bool
deletes Delete = true
deletes _ = false

-- an operator that leaves the core behind its sides
abbrev pub has_no_meaning : BinaryOp → Bool
has_no_meaning In = true
has_no_meaning InstanceOf = true
has_no_meaning _ = false

-- both sides are always evaluated, and the operator has a meaning
abbrev pub is_strict : BinaryOp → Bool
is_strict LogicalOr = false
is_strict LogicalAnd = false
is_strict NullishCoalescing = false
is_strict In = false
is_strict InstanceOf = false
is_strict _ = true

-- a spread in an object
abbrev pub is_record_spread : Tree → Bool
is_record_spread (node SpreadRecord ss cs) = true
is_record_spread _ = false

-- whether a property of an object is a spread
abbrev pub has_record_spread : Forest → Bool
has_record_spread ε = false
has_record_spread (t ⊳ ts) = is_record_spread t || has_record_spread ts

-- `typeof`
abbrev pub is_typeof : UnaryOp → Bool
is_typeof TypeOf = true
is_typeof _ = false

-- a name
abbrev pub is_read : Tree → Bool
is_read (node (Read x) ss cs) = true
is_read _ = false

-- whether an operator and its operand are one effect: `delete`, and `typeof` of a name
abbrev pub keeps_whole : UnaryOp → Tree → Bool
keeps_whole op t = deletes op || (is_typeof op && is_read t)

-- an expression, unless it is pure
abbrev pub unless_pure : ℕ → Tree → Forest
unless_pure mark t = if pure mark t then ε else t ⊳ ε

abbrev mutual
  -- what is to be run of an expression, in order, where its value is dropped
  pub effects : ℕ → Tree → Forest
  effects mark (node (Unary Delete) ss ts) = node (Unary Delete) ss ts ⊳ ε
  effects mark (node (Unary op) ss ts) = effects_all mark ts
  effects mark (node (Binary op) ss ts) = if is_strict op then effects_all mark ts else unless_pure mark (node (Binary op) ss ts)
  effects mark (node (Template qs) ss ts) = effects_all mark ts
  effects mark (node (Array ks) ss ts) = if has_spread ks then node (Array ks) ss ts ⊳ ε else effects_all mark ts
  effects mark (node Object ss ts) = if has_record_spread ts then node Object ss ts ⊳ ε else effects_all mark ts
  effects mark (node KeyValue ss ts) = effects_all mark ts
  effects mark (node ComputedKey ss ts) = effects_all mark ts
  effects mark (node Method ss (k ⊳ p ⊳ b ⊳ ε)) = effects mark k
  effects mark (node (Shorthand x) ss ts) = if is_host_name mark x then node (Read x) ss ε ⊳ ε else ε
  effects mark (node Seq ss ts) = effects_all mark ts
  effects mark (node l ss ts) = unless_pure mark (node l ss ts)

  -- the same of several
  pub effects_all : ℕ → Forest → Forest
  effects_all mark ε = ε
  effects_all mark (t ⊳ ts) = joined (effects mark t) (effects_all mark ts)

-- some expressions in front of a value, as a sequence where there are any; rs are the sequence's spans
abbrev pub preserve : List Span → Forest → Tree → Tree
preserve rs ε t = t
preserve rs (u ⊳ us) t = node Seq rs (joined (u ⊳ us) (t ⊳ ε))

-- A run of u does what runs of ts, whose values are dropped, and then of t do, wherever that stays in the core.
pub record Preserves (mark : ℕ) (ts : Forest) (t u : Tree) : Type 0 where
  pub by : (n d : ℕ) (c : Context) → Refines (run_all (evals mark n (call_at (eval mark n) d) ts) c >>= λ v. eval mark n (call_at (eval mark n) d) t c) (eval mark n (call_at (eval mark n) d) u c)
