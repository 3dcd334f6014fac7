-- What holds of each state of a run in which names stand for names.
use Rattle.std.proofs.Common.{◌≡◌, ℕ, Bool, true, false, List, Option, Some, None, refl, sym, length, slice_get, cond, ◌∙◌}
use Rattle.swc_ast.specs.Tree.{Name, Tree}
use Rattle.swc_ast.specs.Value.{Env, Value, Items as ItemsValue, Record, Function, Values, ∅, ◌▹◌, Fields, nofield, field, Cell, State, Jump, Returned, Thrown, Outcome, Done, Jumps, Outside, Cut, Run, and_then, Context, Meaning}
use Rattle.swc_ast.specs.Meaning.{◌>>=◌, gives, leaves, jumps, in_core, throws_type_error, Caller}
use Rattle.std.proofs.lemmas.Bool.{false≢true}
use Rattle.link_proofs.specs.Links.{Links, Put, a_name, a_value, Ground, calm, Invoked}

-- What is known of instances: for each of a name, the instance of the name that it stands for; these grow. And the values that
-- some are known to hold.
pub record World : Type 0 where
  pub links : Name → List (Option ℕ)
  pub facts : Name → ℕ → Option Value

-- more instances
pub record Extends (w v : World) : Type 0 where
  pub at : (z : Name) (k : ℕ) (o : Option ℕ) → slice_get (w.links z) k ≡ Some o → slice_get (v.links z) k ≡ Some o

pub record Grown (w v : World) : Type 0 where
  pub more : Extends w v
  pub same : (z : Name) (k : ℕ) → w.facts z k ≡ v.facts z k

pub extends_itself : {w : World} → Extends w w
extends_itself = record { at = λ z k o e. e }

pub grown_itself : {w : World} → Grown w w
grown_itself = record { more = extends_itself; same = λ z k. refl }

pub extends_on : {u v w : World} → Extends u v → Extends v w → Extends u w
extends_on g h = record { at = λ z k o e. h.at z k o (g.at z k o e) }

pub grown_on : {u v w : World} → Grown u v → Grown v w → Grown u w
grown_on g h = record { more = extends_on g.more h.more; same = λ z k. g.same z k ∙ h.same z k }

-- the instance of what stands behind a name
abbrev pub entry_of : Option Name → Env → Option ℕ
entry_of None e = None
entry_of (Some x) e = e x

pub record SomeIndex (o : Option ℕ) : Type 0 where
  pub index : ℕ
  pub is : o ≡ Some index

-- what is put for a settled variable is what it holds
pub data SettledBy (w : World) (e : Env) (u : Value) : Put → Type 0 where
  by_name : {x : Name} (j : ℕ) → e x ≡ Some j → w.facts x j ≡ Some u → SettledBy w e u (a_name x)
  by_value : SettledBy w e u (a_value u)

pub record Settled (L : Links) (w : World) (e : Env) (y : Name) : Type 0 where
  pub index : ℕ
  pub value : Value
  pub is_at : e y ≡ Some index
  pub fact : w.facts y index ≡ Some value
  pub by : SettledBy w e value (L.settles y)

-- an environment where names G are in scope, each linked instance with its own
pub record FineEnv (L : Links) (w : World) (G : Ground) (e : Env) : Type 0 where
  pub hidden : (z : Name) → G.names z ≡ false → e z ≡ None
  pub shown : (z : Name) → G.names z ≡ true → SomeIndex (e z)
  pub at : (z : Name) → L.fixed z ≡ true → (k : ℕ) → e z ≡ Some k → slice_get (w.links z) k ≡ Some (entry_of (L.link z) e)
  pub settled : (z : Name) → G.settled z ≡ true → Settled L w e z
  pub fresh : (z : Name) → G.sets z ≡ true → (k : ℕ) → e z ≡ Some k → w.facts z k ≡ None

pub record Closed (L : Links) (w : World) (f : Tree) (e : Env) : Type 0 where
  pub ground : Ground
  pub env : FineEnv L w (calm ground) e
  pub body : Invoked L ground f

abbrev mutual
  pub Fine : Links → World → Value → Type 0
  Fine L w (ItemsValue vs) = Fines L w vs
  Fine L w (Record fs) = FineFields L w fs
  Fine L w (Function f e t) = Closed L w f e × Fine L w t
  Fine L w _ = Unit {0}

  pub Fines : Links → World → Values → Type 0
  Fines L w ∅ = Unit {0}
  Fines L w (v ▹ vs) = Fine L w v × Fines L w vs

  pub FineFields : Links → World → Fields → Type 0
  FineFields L w nofield = Unit {0}
  FineFields L w (field k v fs) = Fine L w v × FineFields L w fs

abbrev pub FineJump : Links → World → Jump → Type 0
FineJump L w (Returned v) = Fine L w v
FineJump L w (Thrown v) = Fine L w v
FineJump L w _ = Unit {0}

pub record FineContext (L : Links) (w : World) (G : Ground) (c : Context) : Type 0 where
  pub env : FineEnv L w G c.env
  pub this : Fine L w c.this

-- an instance of a name holds what the instance behind it holds
pub record Behind (w : World) (s : State) (y x : Name) (k : ℕ) (v : Value) : Type 0 where
  pub index : ℕ
  pub cell : Cell
  pub linked : slice_get (w.links y) k ≡ Some (Some index)
  pub there : slice_get (s.store x) index ≡ Some cell
  pub holds : cell.held ≡ Some v

-- an instance of a name that no statement writes, and the value that it holds
pub data Steady (L : Links) (z : Name) : Type 0 where
  is_fixed : L.fixed z ≡ true → Steady L z
  is_still : L.still z ≡ true → Steady L z

pub record Holds (L : Links) (s : State) (z : Name) (k : ℕ) (u : Value) : Type 0 where
  pub steady : Steady L z
  pub cell : Cell
  pub there : slice_get (s.store z) k ≡ Some cell
  pub holds : cell.held ≡ Some u

pub record FineState (L : Links) (w : World) (s : State) : Type 0 where
  pub sized : (z : Name) → L.fixed z ≡ true → length (w.links z) ≡ length (s.store z)
  pub fine : (z : Name) (k : ℕ) (c : Cell) (v : Value) → slice_get (s.store z) k ≡ Some c → c.held ≡ Some v → Fine L w v
  pub linked : (y x : Name) → L.link y ≡ Some x → (k : ℕ) (c : Cell) (v : Value) → slice_get (s.store y) k ≡ Some c → c.held ≡ Some v → Behind w s y x k v
  pub known : (y : Name) (u : Value) → L.known y ≡ Some u → (k : ℕ) (c : Cell) (v : Value) → slice_get (s.store y) k ≡ Some c → c.held ≡ Some v → v ≡ u
  pub frozen : (x : Name) → L.constant x ≡ true → (k : ℕ) (c : Cell) → slice_get (s.store x) k ≡ Some c → c.writable ≡ false
  pub facts : (z : Name) (k : ℕ) (u : Value) → w.facts z k ≡ Some u → Holds L s z k u
  pub handed : (k : ℕ) (v : Value) → slice_get s.handed k ≡ Some v → Fine L w v

-- a cell stays as it is, or may be set
pub data Stays (F : Name → ℕ → Type 0) (x : Name) (k : ℕ) (c : Cell) (cs : List Cell) : Type 0 where
  stays : slice_get cs k ≡ Some c → Stays F x k c cs
  is_free : F x k → Stays F x k c cs

-- a later state: cells of fixed names stay, but for those that may be set
pub record Later (L : Links) (F : Name → ℕ → Type 0) (w : World) (s : State) (v : World) (t : State) : Type 0 where
  pub worlds : Grown w v
  pub cells : (x : Name) → L.fixed x ≡ true → (k : ℕ) (c : Cell) → slice_get (s.store x) k ≡ Some c → Stays F x k c (t.store x)

-- any result will do
abbrev pub Any : {A : Type 0} → World → A → Type 0
Any w a = Unit {0}

-- no cell may be set
abbrev pub Nothing : Name → ℕ → Type 0
Nothing x k = ⊥

-- Both runs end alike, unless the first leaves the core or is cut.
pub data Ends (L : Links) (F : Name → ℕ → Type 0) {A : Type 0} (R : World → A → Type 0) (w : World) (s : State) : Outcome A → Outcome A → Type 0 where
  done : {a : A} {v : World} {t : State} → Later L F w s v t → FineState L v t → R v a → Ends L F R w s (Done a t) (Done a t)
  jump : {j : Jump} {v : World} {t : State} → Later L F w s v t → FineState L v t → FineJump L v j → Ends L F R w s (Jumps j t) (Jumps j t)
  outside : (o : Outcome A) → Ends L F R w s Outside o
  cut : (o : Outcome A) → Ends L F R w s Cut o

abbrev pub Runs : (L : Links) (F : Name → ℕ → Type 0) {A : Type 0} → (World → A → Type 0) → World → Run A → Run A → Type 0
Runs L F R w m n = (s : State) → FineState L w s → Ends L F R w s (m s) (n s)

-- what two trees mean where names G are in scope
pub record Safe (L : Links) (G : Ground) (m n : Meaning) : Type 0 where
  pub at : (w : World) (c : Context) → FineContext L w G c → Runs L Nothing (Fine L) w (m c) (n c)

-- what calls two functions
pub record SafeCalls (L : Links) (call call' : Caller) : Type 0 where
  pub by : (w : World) (f t : Value) (vs : Values) → Fine L w f → Fine L w t → Fines L w vs → Runs L Nothing (Fine L) w (call f t vs) (call' f t vs)

-- facts that stay

by_up : {w v : World} {e : Env} {u : Value} {p : Put} → Grown w v → SettledBy w e u p → SettledBy v e u p
by_up g (by_name {x} j e f) = by_name j e (sym (g.same x j) ∙ f)
by_up g by_value = by_value

module _ {L : Links} where
  settled_up : {w v : World} {e : Env} {y : Name} → Grown w v → Settled L w e y → Settled L v e y
  settled_up {y = y} g h = record { index = h.index; value = h.value; is_at = h.is_at; fact = sym (g.same y h.index) ∙ h.fact; by = by_up g h.by }

  pub env_up : {w v : World} {G : Ground} {e : Env} → Grown w v → FineEnv L w G e → FineEnv L v G e
  env_up g h = record { hidden = h.hidden; shown = h.shown; at = λ z f k p. g.more.at z k _ (h.at z f k p); settled = λ z q. settled_up g (h.settled z q); fresh = λ z q k p. sym (g.same z k) ∙ h.fresh z q k p }

  -- where nothing is known, nothing need be kept
  calm_up : {w v : World} (G : Ground) {e : Env} → Extends w v → FineEnv L w (calm G) e → FineEnv L v (calm G) e
  calm_up G g h = record { hidden = h.hidden; shown = h.shown; at = λ z f k p. g.at z k _ (h.at z f k p); settled = λ z q. absurd (false≢true q); fresh = λ z q k p. absurd (false≢true q) }

  pub calmed : {w : World} {G : Ground} {e : Env} → FineEnv L w G e → FineEnv L w (calm G) e
  calmed h = record { hidden = h.hidden; shown = h.shown; at = h.at; settled = λ z q. absurd (false≢true q); fresh = λ z q k p. absurd (false≢true q) }

  pub closed_by : {w v : World} {f : Tree} {e : Env} → Extends w v → Closed L w f e → Closed L v f e
  closed_by g h = record { ground = h.ground; env = calm_up h.ground g h.env; body = h.body }

mutual
  pub fine_by : (L : Links) {w v : World} → Extends w v → (u : Value) → Fine L w u → Fine L v u
  fine_by L g (ItemsValue vs) h = fines_by L g vs h
  fine_by L g (Record fs) h = fields_by L g fs h
  fine_by L g (Function f e t) h = (closed_by g h.0, fine_by L g t h.1)
  fine_by L g _ h = tt

  pub fines_by : (L : Links) {w v : World} → Extends w v → (us : Values) → Fines L w us → Fines L v us
  fines_by L g ∅ h = tt
  fines_by L g (u ▹ us) h = (fine_by L g u h.0, fines_by L g us h.1)

  pub fields_by : (L : Links) {w v : World} → Extends w v → (fs : Fields) → FineFields L w fs → FineFields L v fs
  fields_by L g nofield h = tt
  fields_by L g (field k u fs) h = (fine_by L g u h.0, fields_by L g fs h.1)

pub fine_up : (L : Links) {w v : World} → Grown w v → (u : Value) → Fine L w u → Fine L v u
fine_up L g u h = fine_by L g.more u h

pub fines_up : (L : Links) {w v : World} → Grown w v → (us : Values) → Fines L w us → Fines L v us
fines_up L g us h = fines_by L g.more us h

pub fields_up : (L : Links) {w v : World} → Grown w v → (fs : Fields) → FineFields L w fs → FineFields L v fs
fields_up L g fs h = fields_by L g.more fs h

module _ {L : Links} where
  pub context_up : {w v : World} {G : Ground} {c : Context} → Grown w v → FineContext L w G c → FineContext L v G c
  context_up {c = c} g h = record { env = env_up g h.env; this = fine_up L g c.this h.this }

  pub later_itself : {F : Name → ℕ → Type 0} {w : World} {s : State} → Later L F w s w s
  later_itself = record { worlds = grown_itself; cells = λ x f k c e. stays e }

  pub later_on : {F : Name → ℕ → Type 0} {u v w : World} {r s t : State} → Later L F u r v s → Later L F v s w t → Later L F u r w t
  later_on {F} {r = r} {s} {t} g h = record { worlds = grown_on g.worlds h.worlds; cells = λ x f k c e. go x f k c (g.cells x f k c e) }
    where
      go : (x : Name) → L.fixed x ≡ true → (k : ℕ) (c : Cell) → Stays F x k c (s.store x) → Stays F x k c (t.store x)
      go x f k c (stays e) = h.cells x f k c e
      go x f k c (is_free q) = is_free q

  pub later_freer : {F H : Name → ℕ → Type 0} {v w : World} {s t : State} → ((x : Name) (k : ℕ) → F x k → H x k) → Later L F v s w t → Later L H v s w t
  later_freer {F} {H} {s = s} {t} q g = record { worlds = g.worlds; cells = λ x f k c e. go x k c (g.cells x f k c e) }
    where
      go : (x : Name) (k : ℕ) (c : Cell) → Stays F x k c (t.store x) → Stays H x k c (t.store x)
      go x k c (stays e) = stays e
      go x k c (is_free p) = is_free (q x k p)

  -- an outcome from an earlier state
  pub after : {F : Name → ℕ → Type 0} {A : Type 0} {R : World → A → Type 0} {u v : World} {r s : State} {o p : Outcome A} → Later L F u r v s → Ends L F R v s o p → Ends L F R u r o p
  after l (done m h r) = done (later_on l m) h r
  after l (jump m h r) = jump (later_on l m) h r
  after l (outside o) = outside o
  after l (cut o) = cut o

  pub freer : {F H : Name → ℕ → Type 0} {A : Type 0} {R : World → A → Type 0} {w : World} {s : State} {o p : Outcome A} → ((x : Name) (k : ℕ) → F x k → H x k) → Ends L F R w s o p → Ends L H R w s o p
  freer q (done m h r) = done (later_freer q m) h r
  freer q (jump m h r) = jump (later_freer q m) h r
  freer q (outside o) = outside o
  freer q (cut o) = cut o

  -- combinators

  module _ {F : Name → ℕ → Type 0} {A : Type 0} {R : World → A → Type 0} where
    pub gives_safe : {w : World} (a : A) → R w a → Runs L F R w (gives a) (gives a)
    gives_safe a r = λ s h. done later_itself h r

    pub leaves_safe : {w : World} (m : Run A) → Runs L F R w leaves m
    leaves_safe m = λ s h. outside (m s)

    pub jumps_safe : {w : World} (j : Jump) → FineJump L w j → Runs L F R w (jumps j) (jumps j)
    jumps_safe j r = λ s h. jump later_itself h r

    pub type_error_safe : {w : World} → Runs L F R w throws_type_error throws_type_error
    type_error_safe = λ s h. jump later_itself h tt

    pub if_safe : {w : World} (b : Bool) {m n x y : Run A} → Runs L F R w m x → Runs L F R w n y → Runs L F R w (cond b m n) (cond b x y)
    if_safe true p q = p
    if_safe false p q = q

    pub in_core_safe : {w : World} (o : Option A) → ((a : A) → o ≡ Some a → R w a) → Runs L F R w (in_core o) (in_core o)
    in_core_safe None h = leaves_safe leaves
    in_core_safe (Some a) h = gives_safe a (h a refl)

    pub then_ends : {B : Type 0} {Q : World → B → Type 0} {w : World} {s : State} {o p : Outcome A} {k l : A → Run B} → Ends L F R w s o p → ((v : World) → Grown w v → (a : A) → R v a → Runs L F Q v (k a) (l a)) → Ends L F Q w s (and_then o k) (and_then p l)
    unfolding and_then
    then_ends (done {a} {v} {t} m h r) hk = after m (hk v m.worlds a r t h)
    then_ends (jump m h r) hk = jump m h r
    then_ends (outside o) hk = outside _
    then_ends (cut o) hk = cut _

    pub bind : {B : Type 0} {Q : World → B → Type 0} {w : World} {m n : Run A} {k l : A → Run B} → Runs L F R w m n → ((v : World) → Grown w v → (a : A) → R v a → Runs L F Q v (k a) (l a)) → Runs L F Q w (m >>= k) (n >>= l)
    bind hm hk = λ s h. then_ends (hm s h) hk
