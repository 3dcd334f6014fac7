-- Whether `eval` is called and `arguments` is named.
use Rattle.std.specs.Prelude.{◌≡◌, false, ◌||◌, if◌then◌else◌}
use Rattle.swc_ast.specs.Tree.{Label, Tree, Forest}
use Rattle.swc_ast.specs.Reach.{named_by}
use Rattle.dce_rules.specs.Uses.{has_arguments, is_arguments, names_arguments, any_arguments, is_eval, calls_eval, any_eval}
use Rattle.dce_uses.specs.declared.seen.Seen.{Seen}

-- What was seen is what a tree has.
pub record Sees (s : Seen) (t : Tree) : Type 0 where
  pub eval : s.eval ≡ calls_eval t
  pub arguments : s.arguments ≡ names_arguments t

-- The same of trees in a row.
pub record SeesAmong (s : Seen) (ts : Forest) : Type 0 where
  pub eval : s.eval ≡ any_eval ts
  pub arguments : s.arguments ≡ any_arguments ts

-- What is seen in a node, by what is seen among its children.
pub record IsWith (inside : Seen) (l : Label) (s : Seen) : Type 0 where
  pub eval : s.eval ≡ (is_eval l || inside.eval)
  pub arguments : s.arguments ≡ (if has_arguments l then false else (is_arguments (named_by l) || inside.arguments))
