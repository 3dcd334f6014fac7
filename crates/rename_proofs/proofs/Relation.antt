-- When two runs do the same: values, cells, states and outcomes that are related, where the second has other names.
use Rattle.std.proofs.Common.{◌≡◌, ℕ, ℤ, Bool, List, [], ◌∷◌, Option, Some, None}
use Rattle.swc_ast.specs.Tree.{Name, Tree}
use Rattle.swc_ast.specs.Value.{Env, Value, Undefined, Null, NaN, TypeError, ScriptThis, Truth, Num, Text, Items, Record, Function, Token, Own, Values, ∅, ◌▹◌, Fields, nofield, field, Cell, State, Jump, Broken, Continued, Returned, Thrown, Outcome, Done, Jumps, Outside, Cut, Run, Context, Meaning}
use Rattle.rename_rules.specs.Renamed.{IsRenaming, renamed}

-- the new names
pub record Pairing : Type 0 where
  pub mark : ℕ
  pub to : Name → Name
  pub is : IsRenaming mark to

-- two lists, item by item
pub data Each {A : Type 0} (RA : A → A → Type 0) : List A → List A → Type 0 where
  none : Each RA [] []
  more : {a b : A} {xs ys : List A} → RA a b → Each RA xs ys → Each RA (a ∷ xs) (b ∷ ys)

pub data Maybe {A : Type 0} (RA : A → A → Type 0) : Option A → Option A → Type 0 where
  neither : Maybe RA None None
  both : {a b : A} → RA a b → Maybe RA (Some a) (Some b)

-- environments agree on each name and its new one
pub record SameEnv (P : Pairing) (e f : Env) : Type 0 where
  pub at : (x : Name) → e x ≡ f (P.to x)

-- a function is renamed
pub record Keeps (P : Pairing) (f g : Tree) : Type 0 where
  pub is : g ≡ renamed P.to f

mutual
  pub data V (P : Pairing) : Value → Value → Type 0 where
    undefined : V P Undefined Undefined
    null : V P Null Null
    nan : V P NaN NaN
    type_error : V P TypeError TypeError
    script_this : V P ScriptThis ScriptThis
    truth : (b : Bool) → V P (Truth b) (Truth b)
    num : (z : ℤ) → V P (Num z) (Num z)
    text : (t : List ℕ) → V P (Text t) (Text t)
    items : {vs ws : Values} → Vs P vs ws → V P (Items vs) (Items ws)
    entries : {fs gs : Fields} → Fs P fs gs → V P (Record fs) (Record gs)
    function : {f g : Tree} {e d : Env} {t u : Value} → Keeps P f g → SameEnv P e d → V P t u → V P (Function f e t) (Function g d u)
    token : (n : ℕ) (b : Bool) → V P (Token n b) (Token n b)
    own : (k : ℕ) → V P (Own k) (Own k)

  pub data Vs (P : Pairing) : Values → Values → Type 0 where
    no_value : Vs P ∅ ∅
    value : {v w : Value} {vs ws : Values} → V P v w → Vs P vs ws → Vs P (v ▹ vs) (w ▹ ws)

  pub data Fs (P : Pairing) : Fields → Fields → Type 0 where
    no_entry : Fs P nofield nofield
    entry : (k : List ℕ) {v w : Value} {fs gs : Fields} → V P v w → Fs P fs gs → Fs P (field k v fs) (field k w gs)

pub record SameCell (P : Pairing) (c d : Cell) : Type 0 where
  pub writable : c.writable ≡ d.writable
  pub held : Maybe (V P) c.held d.held

pub record S (P : Pairing) (s t : State) : Type 0 where
  pub events : s.events ≡ t.events
  pub replies : s.replies ≡ t.replies
  pub handed : Each (V P) s.handed t.handed
  pub natives : s.natives ≡ t.natives
  pub cells : (x : Name) → Each (SameCell P) (s.store x) (t.store (P.to x))

pub record C (P : Pairing) (c d : Context) : Type 0 where
  pub env : SameEnv P c.env d.env
  pub this : V P c.this d.this
  pub labels : c.labels ≡ d.labels

pub data J (P : Pairing) : Jump → Jump → Type 0 where
  broken : (l : Option (List ℕ)) → J P (Broken l) (Broken l)
  continued : (l : Option (List ℕ)) → J P (Continued l) (Continued l)
  returned : {v w : Value} → V P v w → J P (Returned v) (Returned w)
  thrown : {v w : Value} → V P v w → J P (Thrown v) (Thrown w)

-- What the first run does, the second does too, unless the first leaves the core or is cut.
pub data Sim (P : Pairing) {A : Type 0} (RA : A → A → Type 0) : Outcome A → Outcome A → Type 0 where
  done : {a b : A} {s t : State} → RA a b → S P s t → Sim P RA (Done a s) (Done b t)
  jump : {j k : Jump} {s t : State} → J P j k → S P s t → Sim P RA (Jumps j s) (Jumps k t)
  outside : (o : Outcome A) → Sim P RA Outside o
  cut : (o : Outcome A) → Sim P RA Cut o

abbrev pub Ran : (P : Pairing) {A : Type 0} → (A → A → Type 0) → Run A → Run A → Type 0
Ran P RA m n = (s t : State) → S P s t → Sim P RA (m s) (n t)

-- what two trees or parts of trees mean
pub record M (P : Pairing) (m n : Meaning) : Type 0 where
  pub at : (c d : Context) → C P c d → Ran P (V P) (m c) (n d)
