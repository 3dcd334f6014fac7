-- Runs that end by no jump of some kinds.
use Rattle.std.specs.Prelude.{◌≡◌, Bool, false, not, ◌&&◌, Some, None}
use Rattle.swc_ast.specs.Value.{Jump, Broken, Continued, Returned, Thrown, State, Outcome, Done, Jumps, Outside, Cut, Run}
use Rattle.swc_ast.specs.Meaning.{has_label}
use Rattle.branch_rules.specs.Jumps.{is_sought, Kinds}

-- whether a jump is of some kinds
abbrev pub is_kind : Kinds → Jump → Bool
is_kind g (Broken None) = g.breaks
is_kind g (Broken (Some l)) = false
is_kind g (Continued None) = g.continues
is_kind g (Continued (Some l)) = is_sought g.labelled l && not (has_label l g.inside)
is_kind g (Returned v) = false
is_kind g (Thrown v) = false

-- an outcome that is no such jump
abbrev pub Stays : {A : Type 0} → Kinds → Outcome A → Type 0
Stays g (Done a s) = Unit {0}
Stays g (Jumps j s) = is_kind g j ≡ false
Stays g Outside = Unit {0}
Stays g Cut = Unit {0}

-- a run that ends by none
pub record Keeps {A : Type 0} (g : Kinds) (m : Run A) : Type 0 where
  pub by : (s : State) → Stays g (m s)
