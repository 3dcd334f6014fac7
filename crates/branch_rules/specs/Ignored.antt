-- What is left of an expression whose value is not used: nothing, or an expression. The spans of a new node are the caller's.
use Rattle.std.specs.Prelude.{ℕ, ◌≡◌, Bool, true, false, not, ◌||◌, if◌then◌else◌, List, [], ◌∷◌, Option, Some, None}
use Rattle.swc_ast.specs.declared.Span.{Span}
use Rattle.swc_ast.specs.declared.UnaryOp.{UnaryOp}
use Rattle.swc_ast.specs.declared.BinaryOp.{BinaryOp}
use Rattle.swc_ast.specs.declared.BinaryOp.TheVariants.{LogicalOr, LogicalAnd, NullishCoalescing}
use Rattle.swc_ast.specs.declared.AssignOp.TheVariants.{Assign as Plain}
use Rattle.swc_ast.specs.Tree.{Text, Name, Key, Fn, ItemKind, Plain as PlainItem, Spread, Hole, Read, Template, Array, Object, KeyValue, Shorthand, Method, PlainKey, ComputedKey, Unary, Binary, Cond, Seq, Call, New, Assign, Tree, node, Forest, ε, ◌⊳◌, label_of}
use Rattle.swc_ast.specs.Scope.{joined}
use Rattle.swc_ast.specs.Meaning.{is_unresolved}
use Rattle.swc_utils.specs.declared.answers.ValueType.{ValueType}
use Rattle.swc_utils.specs.Effects.{has_record_spread}
use Rattle.swc_utils.specs.Globals.{is_host_name}
use Rattle.swc_utils.specs.Known.{truth}
use Rattle.swc_utils.specs.Literals.{is_literal}
use Rattle.swc_utils.specs.Pure.{pure, is_pure_callee, has_spread}
use Rattle.swc_utils.specs.Types.{type_of}
use Rattle.swc_ast.specs.Labels.{is_expression}
use Rattle.pass_rules.specs.Values.{is_nullish_type}

-- an operator whose right side may not be run
abbrev pub may_skip : BinaryOp → Bool
may_skip LogicalOr = true
may_skip LogicalAnd = true
may_skip NullishCoalescing = true
may_skip _ = false

-- whether `&&` and `||` skip the right side, by the truth of the left one
abbrev pub skips : BinaryOp → Bool → Option Bool
skips LogicalAnd b = Some (not b)
skips LogicalOr b = Some b
skips _ b = None

-- one expression as itself, more as a sequence
abbrev pub as_one : List Span → Forest → Option Tree
as_one rs ε = None
as_one rs (t ⊳ ε) = Some t
as_one rs (t ⊳ u ⊳ ts) = Some (node Seq rs (t ⊳ u ⊳ ts))

-- what is run of a key: the expression of a computed one
abbrev pub key_parts : Tree → Forest
key_parts (node ComputedKey ss ts) = ts
key_parts (node (PlainKey k) ss ts) = ε
key_parts k = k ⊳ ε

-- what is run of a property
abbrev pub property_parts : ℕ → Tree → Forest
property_parts mark (node KeyValue ss (k ⊳ v ⊳ ε)) = joined (key_parts k) (v ⊳ ε)
property_parts mark (node (Shorthand x) ss ts) = if is_host_name mark x then node (Read x) ss ε ⊳ ε else ε
property_parts mark (node Method ss (k ⊳ ts)) = key_parts k
property_parts mark t = t ⊳ ε

-- the same of several
abbrev pub properties_parts : ℕ → Forest → Forest
properties_parts mark ε = ε
properties_parts mark (t ⊳ ts) = joined (property_parts mark t) (properties_parts mark ts)

-- a function expression
abbrev pub is_function_expression : Tree → Bool
is_function_expression (node (Fn o) ss cs) = true
is_function_expression _ = false

-- expressions whose parts are run in order, and then nothing that may be noticed
pub data Opens (mark : ℕ) : Tree → Forest → Type 0 where
  operand : (op : UnaryOp) (ss : List Span) (a : Tree) → Opens mark (node (Unary op) ss (a ⊳ ε)) (a ⊳ ε)
  sides : (op : BinaryOp) (ss : List Span) (a b : Tree) → may_skip op ≡ false → Opens mark (node (Binary op) ss (a ⊳ b ⊳ ε)) (a ⊳ b ⊳ ε)
  items : (ks : List ItemKind) (ss : List Span) (cs : Forest) → has_spread ks ≡ false → Opens mark (node (Array ks) ss cs) cs
  properties : (ss : List Span) (cs : Forest) → has_record_spread cs ≡ false → Opens mark (node Object ss cs) (properties_parts mark cs)
  texts : (qs : List (Text × Bool)) (ss : List Span) (cs : Forest) → Opens mark (node (Template qs) ss cs) cs
  -- a call of a function that does nothing; `new` of a function expression leaves the core, and of an arrow throws
  arguments : (ss : List Span) (f : Tree) (cs : Forest) → is_pure_callee f ≡ true → Opens mark (node Call ss (f ⊳ cs)) cs
  new_arguments : (ss : List Span) (f : Tree) (cs : Forest) → is_function_expression f ≡ true → is_pure_callee f ≡ true → Opens mark (node New ss (f ⊳ cs)) cs

module _ (mark : ℕ) where
  mutual
    -- what is left of an expression; the truth value says whether that is something else than the expression
    pub data Ignores : Bool → Tree → Option Tree → Type 0 where
      stays : (t : Tree) → Ignores false t (Some t)
      -- a pure expression, and `x = x` of a bound name
      goes : (t : Tree) → is_expression (label_of t) ≡ true → pure mark t ≡ true → Ignores true t None
      itself : (x : Name) (ss rs : List Span) → is_unresolved mark x ≡ false → Ignores true (node (Assign Plain x) ss (node (Read x) rs ε ⊳ ε)) None
      -- what is left of the parts
      opened : {c : Bool} {t : Tree} {cs us : Forest} (rs : List Span) → Opens mark t cs → IgnoresAll c cs us → Ignores true t (as_one rs us)
      -- a sequence, where an item goes or changes
      sequence : (ss rs : List Span) (cs : Forest) {us : Forest} → IgnoresAll true cs us → Ignores true (node Seq ss cs) (as_one rs us)
      -- `&&`, `||` and `??` with a right side of which nothing is left, and one of which something else is
      right_goes : {c : Bool} {o : Option Tree} (op : BinaryOp) (ss : List Span) (a b : Tree) → may_skip op ≡ true → Ignores true b None → Ignores c a o → Ignores true (node (Binary op) ss (a ⊳ b ⊳ ε)) o
      right_left : (op : BinaryOp) (ss rs : List Span) (a b v : Tree) → may_skip op ≡ true → Ignores true b (Some v) → Ignores true (node (Binary op) ss (a ⊳ b ⊳ ε)) (Some (node (Binary op) rs (a ⊳ v ⊳ ε)))
      -- a left side of known truth: the right side is run, or not
      right_runs : {c : Bool} {o : Option Tree} (op : BinaryOp) (ss : List Span) (a b : Tree) (known : Bool) → pure mark a ≡ true → truth mark a ≡ Some known → skips op known ≡ Some false → Ignores c b o → Ignores true (node (Binary op) ss (a ⊳ b ⊳ ε)) o
      right_skipped : {c : Bool} {o : Option Tree} (op : BinaryOp) (ss : List Span) (a b : Tree) (known : Bool) → truth mark a ≡ Some known → skips op known ≡ Some true → Ignores c a o → Ignores true (node (Binary op) ss (a ⊳ b ⊳ ε)) o
      -- `??` with a left side of known type
      never_nullish : {c : Bool} {o : Option Tree} (ss : List Span) (a b : Tree) (τ : ValueType) → type_of mark a ≡ Some τ → is_nullish_type τ ≡ false → Ignores c a o → Ignores true (node (Binary NullishCoalescing) ss (a ⊳ b ⊳ ε)) o
      always_nullish : {c : Bool} {o : Option Tree} (ss : List Span) (a b : Tree) (τ : ValueType) → pure mark a ≡ true → type_of mark a ≡ Some τ → is_nullish_type τ ≡ true → Ignores c b o → Ignores true (node (Binary NullishCoalescing) ss (a ⊳ b ⊳ ε)) o
      -- beside a spread: what is left of an array's items and of an object's properties
      items_left : (ks ls : List ItemKind) (ss rs : List Span) (cs vs : Forest) → ItemsLeft true ks cs ls vs → Ignores true (node (Array ks) ss cs) (Some (node (Array ls) rs vs))
      properties_left : (ss rs : List Span) (cs vs : Forest) → PropertiesLeft true cs vs → Ignores true (node Object ss cs) (Some (node Object rs vs))
      -- a choice with a test of known truth, or one of which nothing is left of an arm, or of both, or something else of an arm
      arm_runs : {c : Bool} {o : Option Tree} (ss : List Span) (t a b : Tree) (known : Bool) → pure mark t ≡ true → truth mark t ≡ Some known → Ignores c (if known then a else b) o → Ignores true (node Cond ss (t ⊳ a ⊳ b ⊳ ε)) o
      arms_go : {c : Bool} {o : Option Tree} (ss : List Span) (t a b : Tree) → Ignores true a None → Ignores true b None → Ignores c t o → Ignores true (node Cond ss (t ⊳ a ⊳ b ⊳ ε)) o
      second_goes : {c : Bool} (ss rs : List Span) (t a b v : Tree) → Ignores c a (Some v) → Ignores true b None → Ignores true (node Cond ss (t ⊳ a ⊳ b ⊳ ε)) (Some (node (Binary LogicalAnd) rs (t ⊳ v ⊳ ε)))
      first_goes : {c : Bool} (ss rs : List Span) (t a b v : Tree) → Ignores true a None → Ignores c b (Some v) → Ignores true (node Cond ss (t ⊳ a ⊳ b ⊳ ε)) (Some (node (Binary LogicalOr) rs (t ⊳ v ⊳ ε)))
      arms_left : {c d : Bool} (ss rs : List Span) (t a b v w : Tree) → Ignores c a (Some v) → Ignores d b (Some w) → (c || d) ≡ true → Ignores true (node Cond ss (t ⊳ a ⊳ b ⊳ ε)) (Some (node Cond rs (t ⊳ v ⊳ w ⊳ ε)))

    -- the same of expressions that are run in order, of which a sequence becomes its items
    pub data IgnoresAll : Bool → Forest → Forest → Type 0 where
      none_left : IgnoresAll false ε ε
      one_goes : {c : Bool} (t : Tree) {ts us : Forest} → Ignores true t None → IgnoresAll c ts us → IgnoresAll true (t ⊳ ts) us
      one_left : {c d : Bool} (t u : Tree) {ts us : Forest} → Ignores c t (Some u) → IgnoresAll d ts us → IgnoresAll (c || d) (t ⊳ ts) (u ⊳ us)
      one_opens : {c d : Bool} (t : Tree) (ss : List Span) (vs : Forest) {ts us : Forest} → Ignores c t (Some (node Seq ss vs)) → IgnoresAll d ts us → IgnoresAll true (t ⊳ ts) (joined vs us)

    -- the items of an array: spreads stay
    pub data ItemsLeft : Bool → List ItemKind → Forest → List ItemKind → Forest → Type 0 where
      no_items : ItemsLeft false [] ε [] ε
      item_goes : {c : Bool} (t : Tree) {ks ls : List ItemKind} {cs vs : Forest} → Ignores true t None → ItemsLeft c ks cs ls vs → ItemsLeft true (PlainItem ∷ ks) (t ⊳ cs) ls vs
      item_left : {c d : Bool} (t v : Tree) {ks ls : List ItemKind} {cs vs : Forest} → Ignores c t (Some v) → ItemsLeft d ks cs ls vs → ItemsLeft (c || d) (PlainItem ∷ ks) (t ⊳ cs) (PlainItem ∷ ls) (v ⊳ vs)
      spread_stays : {c : Bool} (t : Tree) {ks ls : List ItemKind} {cs vs : Forest} → ItemsLeft c ks cs ls vs → ItemsLeft c (Spread ∷ ks) (t ⊳ cs) (Spread ∷ ls) (t ⊳ vs)
      hole_goes : {c : Bool} {ks ls : List ItemKind} {cs vs : Forest} → ItemsLeft c ks cs ls vs → ItemsLeft true (Hole ∷ ks) cs ls vs

    -- the properties of an object: `key: value` of a literal goes, which is pure
    pub data PropertiesLeft : Bool → Forest → Forest → Type 0 where
      no_properties : PropertiesLeft false ε ε
      property_goes : {c : Bool} (k : Key) (ss rs : List Span) (v : Tree) {cs vs : Forest} → is_literal v ≡ true → pure mark v ≡ true → PropertiesLeft c cs vs → PropertiesLeft true (node KeyValue ss (node (PlainKey k) rs ε ⊳ v ⊳ ε) ⊳ cs) vs
      property_stays : {c : Bool} (t : Tree) {cs vs : Forest} → PropertiesLeft c cs vs → PropertiesLeft c (t ⊳ cs) (t ⊳ vs)
