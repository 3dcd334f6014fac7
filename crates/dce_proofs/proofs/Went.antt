-- The names whose declarations go in a walk of the tree shaker, and what has to hold of names for the walk to be a rewrite.
use Rattle.std.specs.Prelude.{◌≡◌, ◌≤◌, Bool, true, false, not, List, [], ◌∷◌, ◌++◌}
use Rattle.swc_ast.specs.declared.VarDeclKind.TheVariants.{Var}
use Rattle.swc_ast.specs.Tree.{Name, Label, Params, Body, Method, ImportNamed, ImportDefault, ImportStar, Import, FnDecl, Declarator, Tree, node, Forest, ε, ◌⊳◌}
use Rattle.swc_ast.specs.Resolved.{scopes, scopes_all}
use Rattle.walk_proofs.specs.Meant.{Sifts, sifted, stays_there, goes_there}
use Rattle.tree_walk.specs.Pass.{Pass}
use Rattle.tree_walk.specs.Walks.{Walks, closed, opened, passes, stands, stepped, Entered, plain, exported, headed, head_shut, imports, block, ListMade, listed, tidied, AllWalk, nothing, both}
use Rattle.dce_rules.specs.Shakes.{Shaker, Opens, value, shielded, value_of_value, declarators_open, declaration_opens, Shakes, declarators_go, declaration_goes, specifiers_go, call_gives, Drops, items_go, shake_pass}
use Rattle.dce_proofs.proofs.Walked.{is_left, Stands}

-- a name whose declaration goes, and whether it is other than a `var`
abbrev pub Entry : Type 0
Entry = Name × Bool

abbrev pub entry_of : Label → List Entry
entry_of (FnDecl x) = (x, true) ∷ []
entry_of (Declarator Var x) = (x, false) ∷ []
entry_of (Declarator k x) = (x, true) ∷ []
entry_of (ImportNamed x i) = (x, true) ∷ []
entry_of (ImportDefault x) = (x, true) ∷ []
entry_of (ImportStar x) = (x, true) ∷ []
entry_of _ = []

abbrev pub entries : Forest → List Entry
entries ε = []
entries (node l ss cs ⊳ ts) = entry_of l ++ entries ts

-- an import goes with its specifiers
abbrev pub entries_at : Label → Forest → List Entry
entries_at (Import src) cs = entries cs
entries_at l cs = entry_of l

abbrev pub entries_of : Tree → List Entry
entries_of (node l ss cs) = entries_at l cs

-- of several trees
abbrev pub trees_entries : Forest → List Entry
trees_entries ε = []
trees_entries (t ⊳ ts) = entries_of t ++ trees_entries ts

abbrev pub sifts_went : {G : Tree → Type 0} {ts us : Forest} → Sifts G ts us → List Entry
sifts_went sifted = []
sifts_went (stays_there h) = sifts_went h
sifts_went (goes_there {t = t} g h) = entries_of t ++ sifts_went h

abbrev pub opens_went : {S : Shaker} {t u : Tree} → Opens S t u → List Entry
opens_went (value u e p) = []
opens_went (shielded u e p) = []
opens_went (value_of_value u i o) = []
opens_went (declarators_open h c n) = sifts_went h
opens_went (declaration_opens c h) = sifts_went h

abbrev pub shakes_went : {S : Shaker} {t u : Tree} → Shakes S t u → List Entry
shakes_went (declarators_go h c n) = sifts_went h
shakes_went (declaration_goes {ds = ds} rs vs qs c h) = trees_entries ds
shakes_went (specifiers_go h n) = sifts_went h
shakes_went (call_gives n) = []

abbrev pub drops_went : {S : Shaker} {ts us : Forest} → Drops S ts us → List Entry
drops_went (items_go h n) = sifts_went h

module _ {X : Pass} (O : (t u : Tree) → X.opens t u → List Entry) (T : (t u : Tree) → X.steps t u → List Entry) (L : (l : Label) (ts us : Forest) → X.tidies l ts us → List Entry) where
  abbrev mutual
    pub walk_went : {c : Bool} {t u : Tree} → Walks X c t u → List Entry
    walk_went (closed s) = []
    walk_went (opened {t = t} {u = u} o w) = O t u o ++ walk_went w
    walk_went (passes i e) = entered_went e
    walk_went (stands e r) = entered_went e
    walk_went (stepped {b = b} {d = d} e s) = T b d s ++ entered_went e

    pub entered_went : {c : Bool} {t u : Tree} → Entered X c t u → List Entry
    entered_went (plain p ws) = all_went ws
    entered_went (exported d ws) = all_went ws
    entered_went (headed ds ws) = all_went ds ++ all_went ws
    entered_went (head_shut s ws) = all_went ws
    entered_went (imports u) = []
    entered_went (block b m) = list_went m

    pub list_went : {l : Label} {c : Bool} {ts us : Forest} → ListMade X l c ts us → List Entry
    list_went (listed ws t) = all_went ws
    list_went (tidied {l = l} {us = us} {vs = vs} ws t) = L l us vs t ++ all_went ws

    pub all_went : {c : Bool} {ts us : Forest} → AllWalk X c ts us → List Entry
    all_went nothing = []
    all_went (both w ws) = walk_went w ++ all_went ws

-- of a walk of the shaker
abbrev pub opens_of : (S : Shaker) (t u : Tree) → Opens S t u → List Entry
opens_of S t u o = opens_went o

abbrev pub shakes_of : (S : Shaker) (t u : Tree) → Shakes S t u → List Entry
shakes_of S t u s = shakes_went s

abbrev pub drops_of : (S : Shaker) (l : Label) (ts us : Forest) → Drops S ts us → List Entry
drops_of S l ts us d = drops_went d

abbrev pub went : (S : Shaker) {c : Bool} {t u : Tree} → Walks (shake_pass S) c t u → List Entry
went S w = walk_went (opens_of S) (shakes_of S) (drops_of S) w

abbrev pub node_went : (S : Shaker) {c : Bool} {t u : Tree} → Entered (shake_pass S) c t u → List Entry
node_went S e = entered_went (opens_of S) (shakes_of S) (drops_of S) e

abbrev pub made_went : (S : Shaker) {l : Label} {c : Bool} {ts us : Forest} → ListMade (shake_pass S) l c ts us → List Entry
made_went S m = list_went (opens_of S) (shakes_of S) (drops_of S) m

abbrev pub trees_went : (S : Shaker) {c : Bool} {ts us : Forest} → AllWalk (shake_pass S) c ts us → List Entry
trees_went S ws = all_went (opens_of S) (shakes_of S) (drops_of S) ws

-- an entry among entries
pub data In (e : Entry) : List Entry → Type 0 where
  here : {es : List Entry} → In e (e ∷ es)
  further : {f : Entry} {es : List Entry} → In e es → In e (f ∷ es)

-- names whose declarations go are such names, and no declaration is left of one that is no `var`
pub record Fair (G K : Name → Bool) (es : List Entry) : Type 0 where
  pub goes : (x : Name) (b : Bool) → In (x, b) es → G x ≡ true
  pub none_left : (x : Name) → In (x, true) es → K x ≡ false

-- what stands in front of a method's parameters is none of its parts
abbrev pub is_params_or_body : Label → Bool
is_params_or_body Params = true
is_params_or_body Body = true
is_params_or_body _ = false

abbrev pub key_apart : Label → Forest → Bool
key_apart Method (node m ss cs ⊳ ts) = not (is_params_or_body m)
key_apart _ cs = true

-- each node that is left declares what stays
abbrev mutual
  pub AllStand : (Name → Bool) → (Name → Bool) → Tree → Type 0
  AllStand G K (node l ss cs) = Stands G K l × ((key_apart l cs ≡ true) × AllStandIn G K cs)

  pub AllStandIn : (Name → Bool) → (Name → Bool) → Forest → Type 0
  AllStandIn G K ε = Unit {0}
  AllStandIn G K (t ⊳ ts) = AllStand G K t × AllStandIn G K ts

-- a name of which a declaration is left is bound in as many scopes as before
pub record Bound (G K : Name → Bool) (t u : Tree) : Type 0 where
  pub by : (x : Name) → is_left G K x ≡ true → scopes x t ≤ scopes x u

pub record AllBound (G K : Name → Bool) (ts us : Forest) : Type 0 where
  pub by : (x : Name) → is_left G K x ≡ true → scopes_all x ts ≤ scopes_all x us
