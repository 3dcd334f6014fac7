-- Trees that are run in order, for what they do, become others.
use Rattle.std.specs.Prelude.{ℕ, ◌≡◌, List, Option, Some, None}
use Rattle.swc_ast.specs.Tree.{Name, Tree, Forest, ε, ◌⊳◌}
use Rattle.swc_ast.specs.Value.{Context}
use Rattle.swc_ast.specs.Scope.{has_name, vars, vars_all, declared_by, declared}
use Rattle.swc_ast.specs.Meaning.{eval, evals, run_all}
use Rattle.swc_ast.specs.Call.{call_at}
use Rattle.meaning_proofs.specs.Exact.{Refines}

-- To run the second trees in order does what it does to run the first, wherever that stays in the core.
pub record Becomes (mark : ℕ) (ts us : Forest) : Type 0 where
  pub by : (n d : ℕ) (c : Context) → Refines (run_all (evals mark n (call_at (eval mark n) d) ts) c) (run_all (evals mark n (call_at (eval mark n) d) us) c)

-- what is left of an expression, if anything
abbrev pub left_of : Option Tree → Forest
left_of None = ε
left_of (Some t) = t ⊳ ε

-- A statement that declares nothing but `var`s, and statements that declare the same.
pub record SameVars (t : Tree) (us : Forest) : Type 0 where
  pub vars : (x : Name) → has_name x (vars t) ≡ has_name x (vars_all us)
  pub before : declared_by t ≡ List.[]
  pub behind : declared us ≡ List.[]
