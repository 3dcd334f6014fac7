-- Names that stand for names, an evaluation in which a read of such a name reads the other too, and trees in which that is
-- the same.
use Rattle.std.specs.Prelude.{ℕ, ℤ, ◌≡◌, Bool, true, false, not, ◌&&◌, ◌||◌, if◌then◌else◌, List, [], ◌∷◌, Option, Some, None}
use Rattle.swc_ast.specs.declared.Span.{Span}
use Rattle.swc_ast.specs.declared.VarDeclKind.{VarDeclKind}
use Rattle.swc_ast.specs.declared.VarDeclKind.TheVariants.{Var}
use Rattle.swc_ast.specs.Tree.{Name, same_name, Text, Label, NumLit, StrLit, BoolLit, NullLit, Read, KeyValue, Shorthand, Method, Fn, Arrow, Params, Body, Param, Module, Script, Unary, TypeOfName, Assign, Update, Block, For, Switch, CaseBody, Try, VarDecl, Declarator, FnDecl, ExportDecl, ExportDefaultExpr, Import, ExportNamed, ExportSpecifier, ExportDefaultFn, Tree, node, Forest, ε, ◌⊳◌}
use Rattle.swc_ast.specs.declared.UnaryOp.TheVariants.{TypeOf, Void}
use Rattle.swc_ast.specs.Operators.{unary_value}
use Rattle.swc_ast.specs.Value.{Value, Undefined, Null, Truth, Num, Text as TextValue, Run, Meaning}
use Rattle.swc_ast.specs.Scope.{Declaration, Lexical, Function, default_name, has_name, found, is_found, declared, list_binds, case_statements, param_names, import_names, body_declares, module_binds}
use Rattle.swc_ast.specs.Meaning.{◌>>=◌, gives, in_core, is_unresolved, read, type_of_name, one_field, Caller, shape0, act, is_param, copied_names}
use Rattle.swc_ast.specs.Call.{body_binds, statements_of}
use Rattle.swc_ast.specs.Run.{source_of, export_text}
use Rattle.meaning_proofs.specs.Roles.{holds_function}
use Rattle.tree_put.specs.Keys.{IsKey}

-- what is put for a name: nothing, a name, or a value
pub data Put : Type 0 where
  nothing : Put
  a_name : Name → Put
  a_value : Value → Put

abbrev pub put_known : Option Value → Put → Put
put_known None p = p
put_known (Some v) p = a_value v

abbrev pub put_linked : Option Name → Option Value → Put → Put
put_linked None o p = put_known o p
put_linked (Some x) o p = a_name x

pub record Links : Type 0 where
  -- the name that a name stands for, from when it holds anything
  pub link : Name → Option Name
  -- the value that a name holds, from when it holds anything
  pub known : Name → Option Value
  -- names whose cells are set by their own declarations alone, each once
  pub fixed : Name → Bool
  -- fixed names of `const`: a run that writes one leaves the core
  pub constant : Name → Bool
  -- what a variable stands for behind its declaration, among the statements that follow
  pub settles : Name → Put
  -- such variables, and others that no statement writes
  pub still : Name → Bool
  -- the spans of the reads at which something is put for a name
  pub marked : List Span → Bool

-- what is put for a name at a read
abbrev pub put_at : Links → Name → List Span → Put
put_at L y ss = if L.marked ss then put_linked (L.link y) (L.known y) (L.settles y) else nothing

-- names that stand for others, or hold a known value, are fixed and bound; what stands behind a name stands for no other
pub record Proper (L : Links) (mark : ℕ) : Type 0 where
  pub linked_fixed : (y x : Name) → L.link y ≡ Some x → L.fixed y ≡ true
  pub target_fixed : (y x : Name) → L.link y ≡ Some x → L.fixed x ≡ true
  pub target_ends : (y x : Name) → L.link y ≡ Some x → L.link x ≡ None
  pub target_unknown : (y x : Name) → L.link y ≡ Some x → L.known x ≡ None
  pub linked_bound : (y x : Name) → L.link y ≡ Some x → is_unresolved mark y ≡ false
  pub target_bound : (y x : Name) → L.link y ≡ Some x → is_unresolved mark x ≡ false
  pub known_fixed : (y : Name) (v : Value) → L.known y ≡ Some v → L.fixed y ≡ true
  pub known_bound : (y : Name) (v : Value) → L.known y ≡ Some v → is_unresolved mark y ≡ false
  pub target_settles : (y x : Name) → L.link y ≡ Some x → L.settles x ≡ nothing
  pub settled_bound : (y x : Name) → L.settles y ≡ a_name x → (is_unresolved mark y ≡ false) × (is_unresolved mark x ≡ false)
  pub settled_value : (y : Name) (v : Value) → L.settles y ≡ a_value v → is_unresolved mark y ≡ false
  pub settled_target : (y x : Name) → L.settles y ≡ a_name x → L.fixed x ≡ true
  pub settled_ends : (y x : Name) → L.settles y ≡ a_name x → (L.link x ≡ None) × (L.known x ≡ None) × (L.settles x ≡ nothing)
  pub settled_still : (y : Name) → (L.settles y ≡ nothing → ⊥) → (L.fixed y ≡ false) × (L.still y ≡ true)
  pub constant_fixed : (x : Name) → L.constant x ≡ true → L.fixed x ≡ true

-- a name is read, and then what is put for it in its place
abbrev pub through : ℕ → Name → Put → Meaning → (Name → Meaning) → (Value → Run Value) → Meaning
through mark y nothing m k f = m
through mark y (a_name x) m k f = λ c. read mark y c >>= λ v. k x c
through mark y (a_value u) m k f = λ c. read mark y c >>= λ v. f u

module _ (L : Links) where
  -- what a node does
  unfoldable pub linked_act : ℕ → ℕ → Caller → Label → List Span → Forest → List Meaning → Meaning
  linked_act mark n call (Read y) ss cs = shape0 (through mark y (put_at L y ss) (read mark y) (λ x. read mark x) (λ v. gives v))
  linked_act mark n call (TypeOfName y) ss cs = shape0 (through mark y (put_at L y ss) (type_of_name mark y) (λ x. type_of_name mark x) (λ v. in_core (unary_value TypeOf v)))
  linked_act mark n call (Shorthand y) ss cs = shape0 (through mark y (put_at L y ss) (λ c. read mark y c >>= λ v. one_field y.text v) (λ x c. read mark x c >>= λ v. one_field y.text v) (λ v. one_field y.text v))
  linked_act mark n call l ss cs = act mark n call l ss cs

  unfoldable mutual
    -- what a tree does, where names stand for names
    pub linked_eval : ℕ → ℕ → Caller → Tree → Meaning
    linked_eval mark n call (node l ss cs) = linked_act mark n call l ss cs (linked_evals mark n call cs)

    pub linked_evals : ℕ → ℕ → Caller → Forest → List Meaning
    linked_evals mark n call ε = []
    linked_evals mark n call (t ⊳ ts) = linked_eval mark n call t ∷ linked_evals mark n call ts

-- Trees in which a name that is linked holds what the other holds.

-- the name that a node reads by itself
abbrev pub reads : Label → Option Name
reads (Read x) = Some x
reads (TypeOfName x) = Some x
reads (Shorthand x) = Some x
reads _ = None

-- What is known where a tree stands: the names in scope, the variables that are settled there, and names of which nothing is
-- known yet.
pub record Ground : Type 0 where
  pub names : Name → Bool
  pub settled : Name → Bool
  pub sets : Name → Bool

abbrev pub empty_ground : Ground
empty_ground = record { names = λ x. false; settled = λ x. false; sets = λ x. false }

-- in a function nothing is known of what is around
abbrev pub calm : Ground → Ground
calm G = record { names = G.names; settled = λ x. false; sets = λ x. false }

-- names bound beside others
abbrev pub beside : (Name → Bool) → Ground → Ground
beside B G = record { names = λ x. B x || G.names x; settled = G.settled; sets = λ x. B x || G.sets x }

-- a variable is settled
abbrev pub settle : Name → Name → Ground → Ground
settle y x G = record { names = G.names; settled = λ z. same_name y z || G.settled z; sets = λ z. not (same_name y z) && (not (same_name x z) && G.sets z) }

-- a marked read of a variable that may be settled stands where it is
pub data PlacedAt (L : Links) (G : Ground) (y : Name) (ss : List Span) : Type 0 where
  unmarked : L.marked ss ≡ false → PlacedAt L G y ss
  no_settling : L.settles y ≡ nothing → PlacedAt L G y ss
  settled_here : G.settled y ≡ true → PlacedAt L G y ss

abbrev pub Placed : Links → Ground → Option Name → List Span → Type 0
Placed L G None ss = Unit {0}
Placed L G (Some y) ss = PlacedAt L G y ss

-- a scope binds no name that stands behind one from further out
pub record Opens (L : Links) (G : Ground) (B : Name → Bool) : Type 0 where
  pub apart : (y x : Name) → L.link y ≡ Some x → B x ≡ true → B y ≡ false → G.names y ≡ false
  pub settled : (y : Name) → G.settled y ≡ true → B y ≡ false
  pub settled_target : (y x : Name) → G.settled y ≡ true → L.settles y ≡ a_name x → B x ≡ false

-- a declaration of `let` or `const`
pub data IsLexical : Option Declaration → Type 0 where
  lexical : (w : Bool) → IsLexical (Some (Lexical w))

-- a declaration of `const`
pub data IsConstant : Option Declaration → Type 0 where
  constant : IsConstant (Some (Lexical false))

-- what a list's scope declares: names that wait for a first value, and no linked functions
pub record OpensList (L : Links) (G : Ground) (B : Name → Bool) (ts : Forest) : Type 0 where
  pub opens : Opens L G (list_binds ts)
  pub waiting : (x : Name) → B x ≡ true → IsLexical (found x (declared ts))
  pub waiting_fixed : (x : Name) → B x ≡ true → L.fixed x ≡ true
  pub no_function : (y x : Name) → L.link y ≡ Some x → holds_function (found y (declared ts)) ≡ false
  pub no_known : (y : Name) (v : Value) → L.known y ≡ Some v → holds_function (found y (declared ts)) ≡ false
  pub constants : (x : Name) → L.constant x ≡ true → list_binds ts x ≡ true → IsConstant (found x (declared ts))

-- a name with a known value is declared by `let` or `const`, or it is a variable and undefined at first
pub data KnownBirth (v : Value) : Option Declaration → Type 0 where
  known_lexical : (w : Bool) → KnownBirth v (Some (Lexical w))
  known_variable : v ≡ Undefined → KnownBirth v None

-- the same of a function's body, beside its parameters; no linked name is a variable
pub record OpensBody (L : Links) (G : Ground) (B : Name → Bool) (ps : List Name) (ts : Forest) : Type 0 where
  pub opens : Opens L G (body_binds ps ts)
  pub waiting : (x : Name) → B x ≡ true → IsLexical (found x (declared ts))
  pub waiting_bound : (x : Name) → B x ≡ true → body_binds ps ts x ≡ true
  pub waiting_fixed : (x : Name) → B x ≡ true → L.fixed x ≡ true
  pub no_variable : (y x : Name) → L.link y ≡ Some x → body_binds ps ts y ≡ true → IsLexical (found y (declared ts))
  pub constants : (x : Name) → L.constant x ≡ true → body_binds ps ts x ≡ true → IsConstant (found x (declared ts))
  pub known_variable : (y : Name) (v : Value) → L.known y ≡ Some v → body_binds ps ts y ≡ true → KnownBirth v (found y (declared ts))

-- the same of parameters
pub record OpensParams (L : Links) (G : Ground) (B : Name → Bool) (ps : List Name) : Type 0 where
  pub opens : Opens L G (λ x. has_name x ps)
  pub waiting : (x : Name) → B x ≡ true → has_name x ps ≡ true
  pub waiting_fixed : (x : Name) → B x ≡ true → L.fixed x ≡ true
  pub unlinked : (y x : Name) → L.link y ≡ Some x → has_name y ps ≡ false
  pub unknown : (y : Name) (v : Value) → L.known y ≡ Some v → has_name y ps ≡ false
  pub no_constant : (x : Name) → L.constant x ≡ true → has_name x ps ≡ false

-- a parameter that waits for its value, or is not fixed
pub data ParamFits (L : Links) (B : Name → Bool) (x : Name) : Type 0 where
  no_fixed : L.fixed x ≡ false → L.still x ≡ false → ParamFits L B x
  waits : B x ≡ true → ParamFits L B x

abbrev pub is_body : Tree → Bool
is_body (node Body ss cs) = true
is_body _ = false

-- the value of a literal
abbrev pub literal_value : Label → Option Value
literal_value (NumLit z) = Some (Num z)
literal_value (StrLit t) = Some (TextValue t)
literal_value (BoolLit b) = Some (Truth b)
literal_value NullLit = Some Null
literal_value _ = None

-- names that wait are those of a first part or of a second
pub record Splits (B B₁ B₂ : Name → Bool) : Type 0 where
  pub first : (x : Name) → B₁ x ≡ true → B x ≡ true
  pub second : (x : Name) → B₂ x ≡ true → B x ≡ true
  pub apart : (x : Name) → B₁ x ≡ true → B₂ x ≡ true → ⊥

-- a node whose children have no scope of their own, and are run where it is
abbrev pub is_simple : Label → Bool
is_simple Block = false
is_simple For = false
is_simple (Switch ds) = false
is_simple (Try p) = false
is_simple (Fn o) = false
is_simple Arrow = false
is_simple Method = false
is_simple (FnDecl x) = false
is_simple (ExportDefaultFn o) = false
is_simple Body = false
is_simple _ = true

-- a node whose children are run in turn
abbrev pub is_group : Label → Bool
is_group (VarDecl kind) = true
is_group ExportDecl = true
is_group CaseBody = true
is_group _ = false

-- a name that may be written, or is constant, so that a write leaves the core
pub data Written (L : Links) (x : Name) : Type 0 where
  may_write : L.fixed x ≡ false → L.still x ≡ false → Written L x
  never_writes : L.constant x ≡ true → Written L x

-- a name that is not fixed takes a value, of which nothing is known yet
pub data Declares (L : Links) (G : Ground) (x : Name) : Type 0 where
  moves : L.fixed x ≡ false → L.still x ≡ false → Declares L G x
  sets_it : L.fixed x ≡ false → G.sets x ≡ true → Declares L G x

-- no fixed name is set
abbrev pub Calm : Links → Ground → Label → Type 0
Calm L G (Assign op x) = Written L x
Calm L G (Update op prefix x) = Written L x
Calm L G (Declarator kind x) = Declares L G x
Calm L G ExportDefaultExpr = Declares L G default_name
Calm L G _ = Unit {0}

-- a name that stands for none, holds no known value, and is no constant
pub record Plain (L : Links) (x : Name) : Type 0 where
  pub unlinked : L.link x ≡ None
  pub unknown : L.known x ≡ None
  pub no_constant : L.constant x ≡ false

-- an own name, if there is one, is plain
abbrev pub Unlinked : Links → Option Name → Type 0
Unlinked L None = Unit {0}
Unlinked L (Some x) = Plain L x

-- the parameter of a handler, if there is one
abbrev pub handler_names : Option (Option Name) → Name → Bool
handler_names None x = false
handler_names (Some o) x = is_param o x

abbrev pub UnlinkedHandler : Links → Option (Option Name) → Type 0
UnlinkedHandler L None = Unit {0}
UnlinkedHandler L (Some o) = Unlinked L o

-- as many parts as a `try` has
abbrev pub is_three : Forest → Bool
is_three (a ⊳ b ⊳ c ⊳ ε) = true
is_three _ = false

-- the name that is put, or another
abbrev pub put_name : Name → Put → Name
put_name y nothing = y
put_name y (a_name x) = x
put_name y (a_value v) = y

-- a first value that is what is put
pub data Init (L : Links) (G : Ground) : Tree → Put → Type 0 where
  init_name : (x : Name) {ss : List Span} → Init L G (node (Read x) ss ε) (a_name x)
  init_copy : (a x : Name) {ss : List Span} → PlacedAt L G a ss → put_at L a ss ≡ a_name x → Init L G (node (Read a) ss ε) (a_name x)
  init_known : (a : Name) {v : Value} {ss : List Span} → PlacedAt L G a ss → put_at L a ss ≡ a_value v → Init L G (node (Read a) ss ε) (a_value v)
  init_literal : (l : Label) {v : Value} {ss : List Span} → literal_value l ≡ Some v → Init L G (node l ss ε) (a_value v)

mutual
  -- what a tree does where names G are in scope sets no fixed name that was there before
  pub data Good (L : Links) : Ground → Tree → Type 0 where
    good : {G : Ground} (l : Label) {ss : List Span} {cs : Forest} → is_simple l ≡ true → Calm L G l → Placed L G (reads l) ss → Goods L G cs → Good L G (node l ss cs)
    good_block : {G : Ground} {ss : List Span} {cs : Forest} (B : Name → Bool) → OpensList L G B cs → Functions L (beside (list_binds cs) G) cs → Items L (beside (list_binds cs) G) B cs → Good L G (node Block ss cs)
    good_for : {G : Ground} {ss : List Span} {i t u b : Tree} (B : Name → Bool) → OpensList L G B (i ⊳ ε) → Functions L (beside (list_binds (i ⊳ ε)) G) (i ⊳ ε) → Opens L (beside (list_binds (i ⊳ ε)) G) (λ x. is_found x (copied_names i))
        → Begins L (beside (list_binds (i ⊳ ε)) G) B i → Good L (beside (list_binds (i ⊳ ε)) G) t → Good L (beside (list_binds (i ⊳ ε)) G) u → Good L (beside (list_binds (i ⊳ ε)) G) b → Good L G (node For ss (i ⊳ t ⊳ u ⊳ b ⊳ ε))
    good_switch : {G : Ground} (ds : List Bool) {ss : List Span} {t : Tree} {cs : Forest} (B : Name → Bool) → Good L G t → OpensList L G B (case_statements (t ⊳ cs)) → Functions L (beside (list_binds (case_statements (t ⊳ cs))) G) (case_statements (t ⊳ cs))
        → Cases L (beside (list_binds (case_statements (t ⊳ cs))) G) B cs → Good L G (node (Switch ds) ss (t ⊳ cs))
    good_try : {G : Ground} (p : Option (Option Name)) {ss : List Span} {b h f : Tree} → Good L G b → Opens L G (handler_names p) → UnlinkedHandler L p → Good L (beside (handler_names p) G) h → Good L G f → Good L G (node (Try p) ss (b ⊳ h ⊳ f ⊳ ε))
    good_switch_none : {G : Ground} (ds : List Bool) {ss : List Span} → Good L G (node (Switch ds) ss ε)
    good_try_bad : {G : Ground} (p : Option (Option Name)) {ss : List Span} {cs : Forest} → is_three cs ≡ false → Good L G (node (Try p) ss cs)
    good_fn : {G : Ground} (o : Option Name) {ss : List Span} {cs : Forest} → Opens L (calm G) (is_param o) → Unlinked L o → Callable L (beside (is_param o) (calm G)) cs → Good L G (node (Fn o) ss cs)
    good_arrow : {G : Ground} {ss : List Span} {cs : Forest} → Callable L (calm G) cs → Good L G (node Arrow ss cs)
    good_method : {G : Ground} {ss : List Span} {k : Tree} {cs : Forest} → Good L G k → Callable L (calm G) cs → Good L G (node Method ss (k ⊳ cs))
    good_declared : {G : Ground} (x : Name) {ss : List Span} {cs : Forest} → Callable L (calm G) cs → Good L G (node (FnDecl x) ss cs)
    good_default : {G : Ground} (o : Option Name) {ss : List Span} {cs : Forest} → Callable L (calm G) cs → Good L G (node (ExportDefaultFn o) ss cs)
    good_variable : {G : Ground} (y : Name) {ss : List Span} → Good L G (node (Declarator Var y) ss ε)

  pub data Goods (L : Links) : Ground → Forest → Type 0 where
    no_good : {G : Ground} → Goods L G ε
    more_good : {G : Ground} {t : Tree} {ts : Forest} → Good L G t → Goods L G ts → Goods L G (t ⊳ ts)

  -- a function that may be called, made where names G are in scope
  pub data Invoked (L : Links) : Ground → Tree → Type 0 where
    invoked_fn : {G : Ground} (o : Option Name) {ss : List Span} {cs : Forest} → Opens L (calm G) (is_param o) → Unlinked L o → Callable L (beside (is_param o) (calm G)) cs → Invoked L G (node (Fn o) ss cs)
    invoked_arrow : {G : Ground} {ss : List Span} {cs : Forest} → Callable L (calm G) cs → Invoked L G (node Arrow ss cs)
    invoked_method : {G : Ground} {ss : List Span} {k : Tree} {cs : Forest} → Callable L (calm G) cs → Invoked L G (node Method ss (k ⊳ cs))
    invoked_declared : {G : Ground} (x : Name) {ss : List Span} {cs : Forest} → Callable L (calm G) cs → Invoked L G (node (FnDecl x) ss cs)
    invoked_default : {G : Ground} (o : Option Name) {ss : List Span} {cs : Forest} → Callable L (calm G) cs → Invoked L G (node (ExportDefaultFn o) ss cs)

  -- the functions that a list declares
  pub data Functions (L : Links) : Ground → Forest → Type 0 where
    functions : {G : Ground} {ts : Forest} → ((x : Name) (f : Tree) → found x (declared ts) ≡ Some (Function f) → Invoked L G f) → Functions L G ts

  -- parameters and a body
  pub data Callable (L : Links) : Ground → Forest → Type 0 where
    callable : {G : Ground} {ss : List Span} {ps : Forest} {b : Tree} (B D : Name → Bool) → OpensParams L G B (param_names ps) → GoodParams L (beside (λ x. has_name x (param_names ps)) G) B ps
        → OpensBody L (beside (λ x. has_name x (param_names ps)) G) D (param_names ps) (statements_of b) → Functions L (beside (body_binds (param_names ps) (statements_of b)) (beside (λ x. has_name x (param_names ps)) G)) (statements_of b)
        → BodyGood L (beside (body_binds (param_names ps) (statements_of b)) (beside (λ x. has_name x (param_names ps)) G)) D b → Callable L G (node Params ss ps ⊳ b ⊳ ε)

  pub data GoodParams (L : Links) : Ground → (Name → Bool) → Forest → Type 0 where
    no_params : {G : Ground} {B : Name → Bool} → GoodParams L G B ε
    a_param : {G : Ground} {B : Name → Bool} (x : Name) {ss : List Span} {cs ts : Forest} (B₁ B₂ : Name → Bool) → Splits B B₁ B₂ → L.link x ≡ None → L.known x ≡ None → ParamFits L B₁ x → Goods L G cs → GoodParams L G B₂ ts → GoodParams L G B (node (Param x) ss cs ⊳ ts)

  pub data BodyGood (L : Links) : Ground → (Name → Bool) → Tree → Type 0 where
    body_list : {G : Ground} {B : Name → Bool} {ss : List Span} {ts : Forest} → Items L G B ts → BodyGood L G B (node Body ss ts)
    body_expression : {G : Ground} {B : Name → Bool} {t : Tree} → is_body t ≡ false → Good L G t → BodyGood L G B t

  -- items of a list, which give names of B their first values
  pub data Items (L : Links) : Ground → (Name → Bool) → Forest → Type 0 where
    no_items : {G : Ground} {B : Name → Bool} → Items L G B ε
    a_declaration : {G : Ground} {B : Name → Bool} (k : VarDeclKind) {ss : List Span} {ds ts : Forest} → Chain L G B ds ts → Items L G B (node (VarDecl k) ss ds ⊳ ts)
    an_export : {G : Ground} {B : Name → Bool} (D : Name → Bool) {ss : List Span} {d : Tree} {ts : Forest} → ((x : Name) → D x ≡ true → B x ≡ true) → Items L G D (d ⊳ ts) → Items L G B (node ExportDecl ss (d ⊳ ε) ⊳ ts)
    an_item : {G : Ground} {B : Name → Bool} {t : Tree} {ts : Forest} (B₁ B₂ : Name → Bool) → Splits B B₁ B₂ → Begins L G B₁ t → Items L G B₂ ts → Items L G B (t ⊳ ts)

  -- declarators of one declaration and the items behind it; a variable that takes the value of a name, or a known value, is
  -- settled for what follows
  pub data Chain (L : Links) : Ground → (Name → Bool) → Forest → Forest → Type 0 where
    chain_end : {G : Ground} {B : Name → Bool} {ts : Forest} → Items L G B ts → Chain L G B ε ts
    chain_item : {G : Ground} {B : Name → Bool} {d : Tree} {ds ts : Forest} (B₁ B₂ : Name → Bool) → Splits B B₁ B₂ → Begins L G B₁ d → Chain L G B₂ ds ts → Chain L G B (d ⊳ ds) ts
    chain_settles : {G : Ground} {B : Name → Bool} (y : Name) (p : Put) {ss : List Span} {t : Tree} {ds ts : Forest} → L.settles y ≡ p → G.sets y ≡ true → Init L G t p → Chain L (settle y (put_name y p) G) B ds ts → Chain L G B (node (Declarator Var y) ss (t ⊳ ε) ⊳ ds) ts

  pub data Begins (L : Links) : Ground → (Name → Bool) → Tree → Type 0 where
    begins_good : {G : Ground} {B : Name → Bool} {t : Tree} → Good L G t → Begins L G B t
    begins_first : {G : Ground} {B : Name → Bool} (k : VarDeclKind) (x : Name) {ss : List Span} {cs : Forest} → L.link x ≡ None → L.known x ≡ None → B x ≡ true → Goods L G cs → Begins L G B (node (Declarator k x) ss cs)
    begins_linked : {G : Ground} {B : Name → Bool} (k : VarDeclKind) (y x : Name) {ss rs : List Span} → L.link y ≡ Some x → L.known y ≡ None → B y ≡ true → Begins L G B (node (Declarator k y) ss (node (Read x) rs ε ⊳ ε))
    begins_copy : {G : Ground} {B : Name → Bool} (k : VarDeclKind) (y x a : Name) {ss rs : List Span} → L.link y ≡ Some x → L.known y ≡ None → B y ≡ true → PlacedAt L G a rs → put_at L a rs ≡ a_name x → Begins L G B (node (Declarator k y) ss (node (Read a) rs ε ⊳ ε))
    begins_value : {G : Ground} {B : Name → Bool} (k : VarDeclKind) (y a : Name) {v : Value} {ss rs : List Span} → L.link y ≡ None → L.known y ≡ Some v → B y ≡ true → PlacedAt L G a rs → put_at L a rs ≡ a_value v → Begins L G B (node (Declarator k y) ss (node (Read a) rs ε ⊳ ε))
    begins_known : {G : Ground} {B : Name → Bool} (k : VarDeclKind) (y : Name) {v : Value} (l : Label) {ss rs : List Span} → L.link y ≡ None → L.known y ≡ Some v → B y ≡ true → literal_value l ≡ Some v → Begins L G B (node (Declarator k y) ss (node l rs ε ⊳ ε))
    begins_unset : {G : Ground} {B : Name → Bool} (k : VarDeclKind) (y : Name) {ss : List Span} → L.link y ≡ None → L.known y ≡ Some Undefined → B y ≡ true → Begins L G B (node (Declarator k y) ss ε)
    begins_group : {G : Ground} {B : Name → Bool} (l : Label) {ss : List Span} {cs : Forest} → is_group l ≡ true → Items L G B cs → Begins L G B (node l ss cs)

  -- tests and bodies of a switch
  pub data Cases (L : Links) : Ground → (Name → Bool) → Forest → Type 0 where
    no_cases : {G : Ground} {B : Name → Bool} → Cases L G B ε
    last_case : {G : Ground} {B : Name → Bool} {t : Tree} → Cases L G B (t ⊳ ε)
    a_case : {G : Ground} {B : Name → Bool} {t b : Tree} {cs : Forest} (B₁ B₂ : Name → Bool) → Splits B B₁ B₂ → Good L G t → Begins L G B₁ b → Cases L G B₂ cs → Cases L G B (t ⊳ b ⊳ cs)

-- the scope of a module or a script, where nothing is in scope yet
pub record OpensWhole (L : Links) (B binds : Name → Bool) (ts : Forest) : Type 0 where
  pub waiting : (x : Name) → B x ≡ true → IsLexical (found x (declared ts))
  pub waiting_bound : (x : Name) → B x ≡ true → binds x ≡ true
  pub waiting_fixed : (x : Name) → B x ≡ true → L.fixed x ≡ true
  pub no_variable : (y x : Name) → L.link y ≡ Some x → binds y ≡ true → IsLexical (found y (declared ts))
  pub constants : (x : Name) → L.constant x ≡ true → binds x ≡ true → IsConstant (found x (declared ts))
  pub known_variable : (y : Name) (v : Value) → L.known y ≡ Some v → binds y ≡ true → KnownBirth v (found y (declared ts))

-- modules and scripts in which a linked name holds what the other holds; an import is not fixed
pub data GoodWhole (L : Links) : Tree → Type 0 where
  good_module : {ss : List Span} {ts : Forest} (B : Name → Bool) → OpensWhole L B (module_binds ts) ts → ((x : Name) → has_name x (import_names ts) ≡ true → (L.fixed x ≡ false) × (L.still x ≡ false)) → Functions L (beside (module_binds ts) empty_ground) ts
      → Items L (beside (module_binds ts) empty_ground) B ts → GoodWhole L (node Module ss ts)
  good_script : {ss : List Span} {ts : Forest} (B : Name → Bool) → OpensWhole L B (body_declares ts) ts → Functions L (beside (body_declares ts) empty_ground) ts → Items L (beside (body_declares ts) empty_ground) B ts → GoodWhole L (node Script ss ts)

-- nothing is put for the name that a node reads by itself
abbrev pub ReadsNone : Links → Option Name → List Span → Type 0
ReadsNone L None ss = Unit {0}
ReadsNone L (Some x) ss = put_at L x ss ≡ nothing

-- an expression that gives a value: a literal, or `void 0`
pub data PutTree : Value → Tree → Type 0 where
  put_number : (z : ℤ) {ss : List Span} → PutTree (Num z) (node (NumLit z) ss ε)
  put_text : (t : Text) {ss : List Span} → PutTree (TextValue t) (node (StrLit t) ss ε)
  put_truth : (b : Bool) {ss : List Span} → PutTree (Truth b) (node (BoolLit b) ss ε)
  put_null : {ss : List Span} → PutTree Null (node NullLit ss ε)
  put_void : (z : ℤ) {ss rs : List Span} → PutTree Undefined (node (Unary Void) ss (node (NumLit z) rs ε ⊳ ε))

mutual
  -- at some reads a name is put for one that stands for it
  pub data Puts (L : Links) : Tree → Tree → Type 0 where
    puts_read : (y x : Name) {ss rs : List Span} → put_at L y ss ≡ a_name x → Puts L (node (Read y) ss ε) (node (Read x) rs ε)
    puts_type : (y x : Name) {ss rs : List Span} → put_at L y ss ≡ a_name x → Puts L (node (TypeOfName y) ss ε) (node (TypeOfName x) rs ε)
    puts_shorthand : (y x : Name) {k : Tree} {ss rs vs : List Span} → put_at L y ss ≡ a_name x → IsKey y.text k → Puts L (node (Shorthand y) ss ε) (node KeyValue rs (k ⊳ node (Read x) vs ε ⊳ ε))
    puts_value : (y : Name) {v : Value} {t : Tree} {ss : List Span} → put_at L y ss ≡ a_value v → PutTree v t → Puts L (node (Read y) ss ε) t
    puts_value_type : (y : Name) {v : Value} {t : Tree} {ss rs : List Span} → put_at L y ss ≡ a_value v → PutTree v t → Puts L (node (TypeOfName y) ss ε) (node (Unary TypeOf) rs (t ⊳ ε))
    puts_value_shorthand : (y : Name) {v : Value} {k t : Tree} {ss rs : List Span} → put_at L y ss ≡ a_value v → PutTree v t → IsKey y.text k → Puts L (node (Shorthand y) ss ε) (node KeyValue rs (k ⊳ t ⊳ ε))
    puts_node : (l : Label) {ss rs : List Span} {cs us : Forest} → source_of l ≡ [] → ReadsNone L (reads l) ss → PutsAll L cs us → Puts L (node l ss cs) (node l rs us)
    puts_import : (src : Text) {ss rs : List Span} {cs : Forest} → Puts L (node (Import src) ss cs) (node (Import src) rs cs)

  pub data PutsAll (L : Links) : Forest → Forest → Type 0 where
    puts_end : PutsAll L ε ε
    puts_more : {t u : Tree} {ts us : Forest} → Puts L t u → PutsAll L ts us → PutsAll L (t ⊳ ts) (u ⊳ us)

-- specifiers of an export, of which some name what a name stands for
pub data Respecified (L : Links) : Forest → Forest → Type 0 where
  respecified_end : Respecified L ε ε
  respecified_same : {t : Tree} {ts us : Forest} → Respecified L ts us → Respecified L (t ⊳ ts) (t ⊳ us)
  respecified_as : (y x : Name) (o : Option Text) {ss rs : List Span} {cs ds ts us : Forest} → L.link y ≡ Some x → Respecified L ts us → Respecified L (node (ExportSpecifier y o) ss cs ⊳ ts) (node (ExportSpecifier x (Some (export_text y o))) rs ds ⊳ us)

-- items of a module, of whose exports some do so
pub data Reexports (L : Links) : Forest → Forest → Type 0 where
  reexports_end : Reexports L ε ε
  reexports_same : {t : Tree} {ts us : Forest} → Reexports L ts us → Reexports L (t ⊳ ts) (t ⊳ us)
  reexports_item : {ss rs : List Span} {cs ds ts us : Forest} → Respecified L cs ds → Reexports L ts us → Reexports L (node ExportNamed ss cs ⊳ ts) (node ExportNamed rs ds ⊳ us)
