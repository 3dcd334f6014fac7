-- What holds of a run: what it changes, and of the values that it gives.
use Rattle.std.specs.Prelude.{◌≡◌, ℕ, Bool, Some, List}
use Rattle.swc_ast.specs.Value.{Value, State, Outcome, Done, Jumps, Outside, Cut, Run, Context, Meaning}
use Rattle.swc_ast.specs.Operators.{Numeric, truthy, to_number, to_text}
use Rattle.swc_utils.specs.declared.answers.ValueType.{ValueType}
use Rattle.swc_utils.specs.Types.{value_type}

-- nothing is said
abbrev pub Any : {A : Type 0} → A → Type 0
Any a = Unit {0}

-- it is this value
abbrev pub Is : {A : Type 0} → A → A → Type 0
Is a b = b ≡ a

-- ToBoolean gives this of the value
abbrev pub HasTruth : Bool → Value → Type 0
HasTruth b v = truthy v ≡ b

-- ToNumber gives this of the value
abbrev pub HasNumber : Numeric → Value → Type 0
HasNumber k v = to_number v ≡ Some k

-- ToString gives this of the value
abbrev pub HasText : List ℕ → Value → Type 0
HasText t v = to_text v ≡ Some t

-- the value is of this type
abbrev pub HasType : ValueType → Value → Type 0
HasType τ v = value_type v ≡ τ

-- it is done in state s, with a value that P holds of, or it leaves the core or is cut
abbrev pub Quiet : {A : Type 0} → (A → Type 0) → State → Outcome A → Type 0
Quiet P s (Done a t) = (t ≡ s) × P a
Quiet P s (Jumps j t) = ⊥
Quiet P s Outside = Unit {0}
Quiet P s Cut = Unit {0}

-- where it is done, P holds of the value
abbrev pub Where : {A : Type 0} → (A → Type 0) → Outcome A → Type 0
Where P (Done a t) = P a
Where P (Jumps j t) = Unit {0}
Where P Outside = Unit {0}
Where P Cut = Unit {0}

-- changes no state, asks nothing, never jumps, and gives values that P holds of
pub record Keeps {A : Type 0} (P : A → Type 0) (m : Run A) : Type 0 where
  pub by : (s : State) → Quiet P s (m s)

-- gives values that P holds of
pub record Yields {A : Type 0} (P : A → Type 0) (m : Run A) : Type 0 where
  pub by : (s : State) → Where P (m s)

-- it changes nothing, in each context
abbrev pub Still : Meaning → Type 0
Still m = (c : Context) → Keeps Any (m c)
