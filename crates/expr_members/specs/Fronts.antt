-- Items that all stand in front of the last one of a sequence.
use Rattle.std.specs.Prelude.{Bool, false, ℕ, ◌||◌}
use Rattle.swc_ast.specs.Scope.{joined}
use Rattle.swc_ast.specs.Tree.{Forest, ε, ◌⊳◌}
use Rattle.expr_rules.specs.Sequences.{folds, front_item}

-- whether one of them is not left as it stands
abbrev pub any_folds : ℕ → Bool → Forest → Bool
any_folds mark callee ε = false
any_folds mark callee (t ⊳ ts) = folds mark callee t || any_folds mark callee ts

-- what is left of them
abbrev pub all_folded : ℕ → Bool → Forest → Forest
all_folded mark callee ε = ε
all_folded mark callee (t ⊳ ts) = joined (front_item mark callee t) (all_folded mark callee ts)
