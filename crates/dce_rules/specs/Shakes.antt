-- What the tree shaker does: to an assignment before its value is walked, to a declaration before its first values are, to
-- nodes and to lists behind that, and which places it doesn't enter.
use Rattle.std.specs.Prelude.{ℕ, ◌≡◌, ◌≤◌, Bool, true, false, not, ◌&&◌, ◌||◌, List, None}
use Rattle.swc_ast.specs.declared.Span.{Span}
use Rattle.swc_ast.specs.declared.AssignOp.TheVariants.{Assign as Plain}
use Rattle.swc_ast.specs.declared.VarDeclKind.{VarDeclKind}
use Rattle.swc_ast.specs.Reach.{is_closed}
use Rattle.swc_ast.specs.Tree.{Name, Text, Key, Label, Read, Assign, Call, Fn, Params, Body, Return, Object, Shorthand, KeyValue, PlainKey, Empty, Block, ExprStmt, Seq, For, VarDecl, Declarator, FnDecl, Import, Tree, node, Forest, ε, ◌⊳◌, label_of, children_of}
use Rattle.swc_ast.specs.Valid.{count}
use Rattle.swc_utils.specs.Pure.{pure}
use Rattle.swc_ast.specs.Labels.{is_expression}
use Rattle.static_proofs.specs.Names.{is_some_tree}
use Rattle.tree_walk.specs.Pass.{Pass}
use Rattle.walk_proofs.specs.Meant.{Sifts}
use Rattle.pass_rules.specs.Leaves.{guarded}
use Rattle.dce_rules.specs.Left.{any_of, declared_plainly}

-- what the shaker knows of the module that it walks
pub record Shaker : Type 0 where
  -- the unresolved mark
  pub mark : ℕ
  -- names that go, with what declares them
  pub free : Name → Bool
  -- names that nothing reads: their plain assignments go
  pub unread : Name → Bool
  -- whether an import goes of which no specifier is left
  pub drops_imports : Bool

-- in front of children

-- whether a tree is a declarator of a name that goes, without a first value or with a pure one
abbrev pub goes_early : Shaker → Tree → Bool
goes_early S (node (Declarator k x) ss ε) = S.free x
goes_early S (node (Declarator k x) ss (r ⊳ ε)) = S.free x && pure S.mark r
goes_early S t = false

-- a tree that goes before it is walked
abbrev pub Early : Shaker → Tree → Type 0
Early S t = goes_early S t ≡ true

-- `x = r` becomes `r`, or `(0, r)`, where nothing reads `x` and `r` is pure, or becomes so in this way; declarators go
pub data Opens (S : Shaker) : Tree → Tree → Type 0 where
  value : {x : Name} {ss : List Span} {r : Tree} → S.unread x ≡ true → is_expression (label_of r) ≡ true → pure S.mark r ≡ true → Opens S (node (Assign Plain x) ss (r ⊳ ε)) r
  shielded : {x : Name} {ss rs zs : List Span} {r : Tree} → S.unread x ≡ true → is_expression (label_of r) ≡ true → pure S.mark r ≡ true → Opens S (node (Assign Plain x) ss (r ⊳ ε)) (guarded rs zs r)
  value_of_value : {x : Name} {ss : List Span} {r u : Tree} → S.unread x ≡ true → is_expression (label_of r) ≡ true → Opens S r u → Opens S (node (Assign Plain x) ss (r ⊳ ε)) u
  -- some declarators go
  declarators_open : {k : VarDeclKind} {ss : List Span} {ds es : Forest} → Sifts (Early S) ds es → 1 ≤ count es → (es ≡ ds → ⊥) → Opens S (node (VarDecl k) ss ds) (node (VarDecl k) ss es)
  -- all of them go
  declaration_opens : {k : VarDeclKind} {ss rs : List Span} {ds : Forest} → 1 ≤ count ds → Sifts (Early S) ds ε → Opens S (node (VarDecl k) ss ds) (node Empty rs ε)

-- declarations whose first values are walked

-- whether a tree declares a name that goes: a function, a specifier, a declarator without a first value or with a number, a text, a truth value or null
abbrev pub goes_plainly : Shaker → Tree → Bool
goes_plainly S (node l ss cs) = any_of S.free (declared_plainly l cs)

-- whether one of some trees does
abbrev pub some_go : Shaker → Forest → Bool
some_go S ε = false
some_go S (t ⊳ ts) = goes_plainly S t || some_go S ts

-- whether all of them do
abbrev pub all_go : Shaker → Forest → Bool
all_go S ε = true
all_go S (t ⊳ ts) = goes_plainly S t && all_go S ts

-- a tree that goes where it stands
abbrev pub Goes : Shaker → Tree → Type 0
Goes S t = goes_plainly S t ≡ true

-- declarators all of whose names go, and the first values that are left of them
pub data Leaves (S : Shaker) : Forest → Forest → Type 0 where
  nothing_left : Leaves S ε ε
  goes_with_value : {t : Tree} {ts qs : Forest} → Goes S t → Leaves S ts qs → Leaves S (t ⊳ ts) qs
  value_left : {k : VarDeclKind} {x : Name} {ss : List Span} {r : Tree} {ts qs : Forest} → S.free x ≡ true → Leaves S ts qs → Leaves S (node (Declarator k x) ss (r ⊳ ε) ⊳ ts) (r ⊳ qs)

-- expressions as one statement; none is the empty statement
abbrev pub as_statement : List Span → List Span → Forest → Tree
as_statement rs vs ε = node Empty rs ε
as_statement rs vs (q ⊳ ε) = node ExprStmt rs (q ⊳ ε)
as_statement rs vs (q ⊳ r ⊳ qs) = node ExprStmt rs (node Seq vs (q ⊳ r ⊳ qs) ⊳ ε)

-- whether there is a tree, and each of them goes
abbrev pub nothing_stays : Shaker → Forest → Bool
nothing_stays S ts = is_some_tree ts && all_go S ts

-- whether an import with these specifiers goes
abbrev pub import_goes : Shaker → Forest → Bool
import_goes S cs = S.drops_imports && nothing_stays S cs

-- properties that only name names
pub data NamesOnly : Forest → Type 0 where
  no_property : NamesOnly ε
  short : (x : Name) {ss : List Span} {ts : Forest} → NamesOnly ts → NamesOnly (node (Shorthand x) ss ε ⊳ ts)
  key_and_name : (k : Key) (x : Name) {ss rs us : List Span} {ts : Forest} → NamesOnly ts → NamesOnly (node KeyValue ss (node (PlainKey k) rs ε ⊳ node (Read x) us ε ⊳ ε) ⊳ ts)

-- a call of a nameless function that returns these properties as an object
abbrev pub object_call : (ss fs ps bs rs os : List Span) → Forest → Tree
object_call ss fs ps bs rs os props = node Call ss (node (Fn None) fs (node Params ps ε ⊳ node Body bs (node Return rs (node Object os props ⊳ ε) ⊳ ε) ⊳ ε) ⊳ ε)

-- what a node becomes
pub data Shakes (S : Shaker) : Tree → Tree → Type 0 where
  -- some declarators go
  declarators_go : {k : VarDeclKind} {ss : List Span} {ds es : Forest} → Sifts (Goes S) ds es → 1 ≤ count es → (es ≡ ds → ⊥) → Shakes S (node (VarDecl k) ss ds) (node (VarDecl k) ss es)
  -- all names go: the first values are left, or nothing
  declaration_goes : {k : VarDeclKind} {ss : List Span} {ds : Forest} (rs vs : List Span) (qs : Forest) → 1 ≤ count ds → Leaves S ds qs → Shakes S (node (VarDecl k) ss ds) (as_statement rs vs qs)
  -- some specifiers of an import go
  specifiers_go : {src : Text} {ss : List Span} {cs us : Forest} → Sifts (Goes S) cs us → (us ≡ cs → ⊥) → Shakes S (node (Import src) ss cs) (node (Import src) ss us)
  -- a call that gives an object of names
  call_gives : {ss fs ps bs rs os : List Span} {props : Forest} → NamesOnly props → Shakes S (object_call ss fs ps bs rs os props) (node Object os props)

-- a node that stays: no declarator goes plainly, and no specifier, unless the import goes with all of them
abbrev pub node_rests : Shaker → Label → Forest → Bool
node_rests S (VarDecl k) ds = not (some_go S ds)
node_rests S (Import src) cs = import_goes S cs || not (some_go S cs)
node_rests S _ cs = true

abbrev pub Rests : Shaker → Tree → Type 0
Rests S t = node_rests S (label_of t) (children_of t) ≡ true

-- lists

-- whether an item goes from its list: a function whose name goes, an import all of whose specifiers do, an empty statement and
-- an empty block
abbrev pub item_goes : Shaker → Tree → Bool
item_goes S (node (FnDecl x) ss cs) = S.free x
item_goes S (node (Import src) ss cs) = import_goes S cs
item_goes S (node Empty ss ε) = true
item_goes S (node Block ss ε) = true
item_goes S t = false

-- whether one of some items does
abbrev pub some_item_goes : Shaker → Forest → Bool
some_item_goes S ε = false
some_item_goes S (t ⊳ ts) = item_goes S t || some_item_goes S ts

abbrev pub ItemGoes : Shaker → Tree → Type 0
ItemGoes S t = item_goes S t ≡ true

-- some items of a list go
pub data Drops (S : Shaker) (ts us : Forest) : Type 0 where
  items_go : Sifts (ItemGoes S) ts us → (us ≡ ts → ⊥) → Drops S ts us

-- places that are not entered

-- a `for` of which only the head is there, a declaration
abbrev pub is_head_alone : Label → Forest → Bool
is_head_alone For (node (VarDecl k) ss ds ⊳ ε) = true
is_head_alone _ cs = false

-- a list that begins with `'use asm'`, an operand of `delete`, a function exported as default, the declaration in a `for`
abbrev pub is_shut : Tree → Bool
is_shut (node l ss cs) = is_closed l cs || is_head_alone l cs

abbrev pub shake_pass : Shaker → Pass
shake_pass S = record { opens = Opens S; steps = Shakes S; rests = Rests S; tidies = λ l ts us. Drops S ts us; tidy = λ l ts. some_item_goes S ts ≡ false; skips = λ t. is_shut t ≡ true }
