-- What the answers on an expression say of its runs.
use Rattle.std.specs.Prelude.{ℕ, ℤ, Bool, true, false, List, Option, Some, None, string_bytes}
use Rattle.std.specs.declared.alloc.Global.{Global}
use Rattle.std.specs.declared.string.String.{String}
use Rattle.swc_ast.specs.Tree.{Tree}
use Rattle.swc_ast.specs.Value.{Value, Context}
use Rattle.swc_ast.specs.Operators.{Numeric, NotANumber, Whole}
use Rattle.swc_ast.specs.Meaning.{eval}
use Rattle.swc_ast.specs.Call.{call_at}
use Rattle.swc_utils.specs.declared.answers.Purity.{Purity}
use Rattle.swc_utils.specs.declared.answers.Purity.TheVariants.{MayBeImpure, Pure}
use Rattle.swc_utils.specs.declared.answers.Value.{Value as Answer}
use Rattle.swc_utils.specs.declared.answers.Value.TheVariants.{Known, Unknown}
use Rattle.swc_utils.specs.Holds.{Yields, Still}

-- in each run of the expression, where it is done P holds of what it gives
pub record Always (mark : ℕ) (t : Tree) (P : Value → Type 0) : Type 0 where
  pub by : (n d : ℕ) (c : Context) → Yields P (eval mark n (call_at (eval mark n) d) t c)

-- no run of the expression changes a binding, makes an event, takes a reply or jumps
pub record NoEffect (mark : ℕ) (t : Tree) : Type 0 where
  pub by : (n d : ℕ) → Still (eval mark n (call_at (eval mark n) d) t)

-- whether an expression is pure, as an answer
abbrev pub purity : Bool → Purity
purity true = Pure
purity false = MayBeImpure

-- what an answer knows
abbrev pub known : {A : Type 0} → Answer A → Option A
known (Known a) = Some a
known Unknown = None

-- P of what an answer knows, if anything
abbrev pub IfKnown : {A : Type 0} → Answer A → (A → Type 0) → Type 0
IfKnown (Known a) P = P a
IfKnown Unknown P = Unit {0}

-- a number, or NaN where there is none
abbrev pub numeric : Option ℤ → Numeric
numeric None = NotANumber
numeric (Some z) = Whole z

-- the number that an answer knows
abbrev pub known_number : Answer (Option ℤ) → Option Numeric
known_number (Known o) = Some (numeric o)
known_number Unknown = None

-- the text that an answer knows
abbrev pub known_text : Answer (String Global) → Option (List ℕ)
known_text (Known s) = Some (string_bytes s)
known_text Unknown = None
