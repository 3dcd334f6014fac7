-- A walk of the tree shaker makes no declarations: those that went and those that are left were there before.
use Rattle.std.proofs.Common.{◌≡◌, ℕ, ◌+◌, ◌≤◌, Bool, true, false, if◌then◌else◌, List, [], ◌∷◌, ◌++◌, refl, arith}
use Rattle.std.proofs.lemmas.Bool.{false≢true}
use Rattle.swc_ast.specs.declared.Span.{Span}
use Rattle.swc_ast.specs.declared.VarDeclKind.TheVariants.{Var, Let, Const}
use Rattle.swc_ast.specs.Tree.{Name, same_name, Label, FnDecl, Declarator, Import, ImportNamed, ImportDefault, ImportStar, Tree, node, Forest, ε, ◌⊳◌}
use Rattle.swc_ast.specs.Core.{times_in}
use Rattle.static_proofs.proofs.Names.{same_name_itself}
use Rattle.walk_proofs.specs.Meant.{Sifts, sifted, stays_there, goes_there}
use Rattle.tree_walk.specs.Walks as walk
use Rattle.tree_walk.specs.Walks.{Walks, Entered, ListMade, AllWalk, nothing, both}
use Rattle.dce_rules.specs.Shakes as rules
use Rattle.dce_rules.specs.Shakes.{Shaker, Opens, Leaves, as_statement, Shakes, items_go, shake_pass}
use Rattle.dce_proofs.proofs.Went.{Entry, In, here, further, entry_of, entries, entries_at, entries_of, trees_entries, sifts_went, opens_went, shakes_went, went, node_went, made_went, trees_went}
use Rattle.dce_proofs.proofs.Declaring.{declares_by, times, times_all}

-- the name of an entry, of one kind
abbrev pub entry_name : Bool → Entry → List Name
entry_name b e = if e.1 then (if b then e.0 ∷ [] else []) else (if b then [] else e.0 ∷ [])

-- how often a name stands among entries
abbrev pub spent : Bool → Name → List Entry → ℕ
spent b x [] = 0
spent b x (e ∷ es) = times_in x (entry_name b e) + spent b x es

spent_append : (b : Bool) (x : Name) (es fs : List Entry) → spent b x (es ++ fs) ≡ spent b x es + spent b x fs
spent_append b x [] fs = omega arith
spent_append b x (e ∷ es) fs = omega (arith, spent_append b x es fs)

one_time : (x : Name) → times_in x (x ∷ []) ≡ 1
one_time x = by_case (same_name x x) (same_name_itself x)
  where
    by_case : (b : Bool) → b ≡ true → ◌≡◌ {A = ℕ} (if b then 1 else 0) 1
    by_case true e = refl
    by_case false e = absurd (false≢true e)

pub in_spent : (b : Bool) {x : Name} {es : List Entry} → In (x, b) es → 1 ≤ spent b x es
in_spent true {x} (here {es = es}) = omega (arith, one_time x)
in_spent false {x} (here {es = es}) = omega (arith, one_time x)
in_spent b (further i) = omega (arith, in_spent b i)

module _ (b : Bool) (x : Name) where
  -- a node declares what it is an entry of
  entry_within : (l : Label) → spent b x (entry_of l) ≤ times_in x (declares_by l b)
  entry_within (FnDecl y) = omega arith
  entry_within (Declarator Var y) = omega arith
  entry_within (Declarator Let y) = omega arith
  entry_within (Declarator Const y) = omega arith
  entry_within (ImportNamed y i) = omega arith
  entry_within (ImportDefault y) = omega arith
  entry_within (ImportStar y) = omega arith
  entry_within l = omega arith

  entries_within : (ts : Forest) → spent b x (entries ts) ≤ times_all b x ts
  entries_within ε = omega arith
  entries_within (node l ss cs ⊳ ts) = omega (arith, entry_within l, entries_within ts, spent_append b x (entry_of l) (entries ts))

  tree_within : (t : Tree) → spent b x (entries_of t) ≤ times b x t
  tree_within (node l ss cs) = at l
    where
      at : (m : Label) → spent b x (entries_at m cs) ≤ times b x (node m ss cs)
      at (Import src) = omega (arith, entries_within cs)
      at m = omega (arith, entry_within m)

  sifts_spent : {H : Tree → Type 0} {ts us : Forest} (h : Sifts H ts us) → spent b x (sifts_went h) + times_all b x us ≤ times_all b x ts
  sifts_spent sifted = omega arith
  sifts_spent (stays_there h) = omega (arith, sifts_spent h)
  sifts_spent (goes_there {t = t} g h) = omega (arith, tree_within t, sifts_spent h, spent_append b x (entries_of t) (sifts_went h))

  leaves_spent : {S : Shaker} {ds qs : Forest} → Leaves S ds qs → spent b x (trees_entries ds) + times_all b x qs ≤ times_all b x ds
  leaves_spent rules.nothing_left = omega arith
  leaves_spent (rules.goes_with_value {t = t} {ts = ts} g h) = omega (arith, tree_within t, leaves_spent h, spent_append b x (entries_of t) (trees_entries ts))
  leaves_spent (rules.value_left {k = k} {x = y} {ss = ss} {r = r} {ts = ts} f h) = omega (arith, entry_within (Declarator k y), leaves_spent h, spent_append b x (entry_of (Declarator k y)) (trees_entries ts))

  statement_times : (rs vs : List Span) (qs : Forest) → times b x (as_statement rs vs qs) ≡ times_all b x qs
  statement_times rs vs ε = refl
  statement_times rs vs (q ⊳ ε) = omega arith
  statement_times rs vs (q ⊳ r ⊳ qs) = omega arith

  opens_spent : {S : Shaker} {t u : Tree} (o : Opens S t u) → spent b x (opens_went o) + times b x u ≤ times b x t
  opens_spent (rules.value u e p) = omega arith
  opens_spent (rules.shielded u e p) = omega arith
  opens_spent (rules.value_of_value u e o) = omega (arith, opens_spent o)
  opens_spent (rules.declarators_open h c n) = omega (arith, sifts_spent h)
  opens_spent (rules.declaration_opens c h) = omega (arith, sifts_spent h)

  shakes_spent : {S : Shaker} {t u : Tree} (s : Shakes S t u) → spent b x (shakes_went s) + times b x u ≤ times b x t
  shakes_spent (rules.declarators_go h c n) = omega (arith, sifts_spent h)
  shakes_spent (rules.declaration_goes rs vs qs c h) = omega (arith, leaves_spent h, statement_times rs vs qs)
  shakes_spent (rules.specifiers_go h n) = omega (arith, sifts_spent h)
  shakes_spent (rules.call_gives n) = omega arith

  module _ {S : Shaker} where
    mutual
      walk_spent : {c : Bool} {t u : Tree} (w : Walks (shake_pass S) c t u) → spent b x (went S w) + times b x u ≤ times b x t
      walk_spent (walk.closed s) = omega arith
      walk_spent (walk.opened o w) = omega (arith, opens_spent o, walk_spent w, spent_append b x (opens_went o) (went S w))
      walk_spent (walk.passes i e) = node_spent e
      walk_spent (walk.stands e r) = node_spent e
      walk_spent (walk.stepped e s) = omega (arith, shakes_spent s, node_spent e, spent_append b x (shakes_went s) (node_went S e))

      node_spent : {c : Bool} {t u : Tree} (e : Entered (shake_pass S) c t u) → spent b x (node_went S e) + times b x u ≤ times b x t
      node_spent (walk.plain p ws) = omega (arith, all_spent ws)
      node_spent (walk.exported d ws) = omega (arith, all_spent ws)
      node_spent (walk.headed hs ws) = omega (arith, all_spent hs, all_spent ws, spent_append b x (trees_went S hs) (trees_went S ws))
      node_spent (walk.head_shut s ws) = omega (arith, all_spent ws)
      node_spent (walk.imports u) = omega arith
      node_spent (walk.block e m) = omega (arith, made_spent m)

      pub made_spent : {l : Label} {c : Bool} {ts us : Forest} (m : ListMade (shake_pass S) l c ts us) → spent b x (made_went S m) + times_all b x us ≤ times_all b x ts
      made_spent (walk.listed ws t) = all_spent ws
      made_spent (walk.tidied ws (items_go h n)) = omega (arith, sifts_spent h, all_spent ws, spent_append b x (sifts_went h) (trees_went S ws))

      all_spent : {c : Bool} {ts us : Forest} (ws : AllWalk (shake_pass S) c ts us) → spent b x (trees_went S ws) + times_all b x us ≤ times_all b x ts
      all_spent nothing = omega arith
      all_spent (both w ws) = omega (arith, walk_spent w, all_spent ws, spent_append b x (went S w) (trees_went S ws))
