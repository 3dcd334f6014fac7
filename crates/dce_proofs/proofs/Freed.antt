-- The names whose declarations go in a walk of the tree shaker are free to go.
use Rattle.std.proofs.Common.{◌≡◌, ◌+◌, ◌≤◌, Bool, true, false, ◌&&◌, ◌||◌, if◌then◌else◌, List, [], ◌∷◌, ◌++◌, refl, sym, ap, subst, ◌∙◌, arith, ◌⊎◌, inl, inr}
use Rattle.std.proofs.lemmas.Bool.{and_parts, or_cases, or_left, or_right, false≢true}
use Rattle.swc_ast.specs.declared.VarDeclKind.{VarDeclKind}
use Rattle.swc_ast.specs.declared.VarDeclKind.TheVariants.{Var, Let, Const}
use Rattle.swc_ast.specs.Scope.{has_name}
use Rattle.swc_ast.specs.Tree.{Name, same_name, Label, FnDecl, Declarator, Import, ImportNamed, ImportDefault, ImportStar, Empty, Block, Tree, node, Forest, ε, ◌⊳◌}
use Rattle.swc_ast.specs.Core.{times_in}
use Rattle.swc_ast.specs.Resolved.{first_names}
use Rattle.static_proofs.specs.Names.{is_some_tree}
use Rattle.static_proofs.proofs.Names.{same_name_itself, same_name_path}
use Rattle.walk_proofs.specs.Meant.{Sifts, sifted, stays_there, goes_there}
use Rattle.tree_walk.specs.Walks as walk
use Rattle.tree_walk.specs.Walks.{Walks, Entered, ListMade, AllWalk, nothing, both}
use Rattle.dce_rules.specs.Left.{any_of, is_plain_value}
use Rattle.dce_rules.specs.Shakes as rules
use Rattle.dce_rules.specs.Shakes.{Shaker, Early, Opens, Goes, Leaves, Shakes, ItemGoes, goes_plainly, all_go, items_go, shake_pass}
use Rattle.dce_proofs.proofs.Went.{Entry, In, here, further, entry_of, entries, entries_of, trees_entries, sifts_went, opens_went, shakes_went, went, node_went, made_went, trees_went}
use Rattle.dce_proofs.proofs.Spent.{entry_name, spent}

-- all entries are of names that are free to go
abbrev AllFree : Shaker → List Entry → Type 0
AllFree S [] = Unit {0}
AllFree S (e ∷ es) = (S.free e.0 ≡ true) × AllFree S es

or_false : (b : Bool) → (b || false) ≡ true → b ≡ true
or_false true h = refl
or_false false h = absurd (false≢true h)

module _ (S : Shaker) where
  free_append : (es fs : List Entry) → AllFree S es → AllFree S fs → AllFree S (es ++ fs)
  free_append [] fs h g = g
  free_append (e ∷ es) fs h g = (h.0, free_append es fs h.1 g)

  declarator_free : (k : VarDeclKind) (x : Name) → S.free x ≡ true → AllFree S (entry_of (Declarator k x))
  declarator_free Var x h = (h, tt)
  declarator_free Let x h = (h, tt)
  declarator_free Const x h = (h, tt)

  early_free : (t : Tree) → Early S t → AllFree S (entries_of t)
  early_free (node (Declarator k x) ss ε) e = declarator_free k x e
  early_free (node (Declarator k x) ss (r ⊳ ε)) e = declarator_free k x (and_parts (S.free x) _ e).0
  early_free (node (Declarator k x) ss (r ⊳ q ⊳ ts)) e = absurd (false≢true e)
  early_free t e = absurd (false≢true e)

  plain_free : (x : Name) (b : Bool) → any_of S.free (if b then x ∷ [] else []) ≡ true → S.free x ≡ true
  plain_free x true e = or_false (S.free x) e
  plain_free x false e = absurd (false≢true e)

  goes_free : (t : Tree) → Goes S t → AllFree S (entries_of t)
  goes_free (node (FnDecl x) ss cs) e = (or_false (S.free x) e, tt)
  goes_free (node (ImportNamed x i) ss cs) e = (or_false (S.free x) e, tt)
  goes_free (node (ImportDefault x) ss cs) e = (or_false (S.free x) e, tt)
  goes_free (node (ImportStar x) ss cs) e = (or_false (S.free x) e, tt)
  goes_free (node (Declarator k x) ss ε) e = declarator_free k x (or_false (S.free x) e)
  goes_free (node (Declarator k x) ss (r ⊳ ε)) e = declarator_free k x (plain_free x (is_plain_value r) e)
  goes_free (node (Declarator k x) ss (r ⊳ q ⊳ ts)) e = absurd (false≢true e)
  goes_free (node l ss cs) e = absurd (false≢true e)

  -- what declares a name by itself has no entries but its own
  specifiers_free : (ts : Forest) → all_go S ts ≡ true → AllFree S (entries ts)
  specifiers_free ε e = tt
  specifiers_free (node l ss cs ⊳ ts) e =
      let p = and_parts (goes_plainly S (node l ss cs)) (all_go S ts) e in
      free_append (entry_of l) (entries ts) (own l p.0) (specifiers_free ts p.1)
    where
      own : (m : Label) → Goes S (node m ss cs) → AllFree S (entry_of m)
      own (Import src) h = tt
      own m h = goes_free (node m ss cs) h

  item_free : (t : Tree) → ItemGoes S t → AllFree S (entries_of t)
  item_free (node (FnDecl x) ss cs) e = (e, tt)
  item_free (node (Import src) ss cs) e = specifiers_free cs (and_parts (is_some_tree cs) (all_go S cs) (and_parts S.drops_imports (is_some_tree cs && all_go S cs) e).1).1
  item_free (node Empty ss ε) e = tt
  item_free (node Block ss ε) e = tt
  item_free (node l ss cs) e = absurd (false≢true e)

  sifts_free : {H : Tree → Type 0} → ((t : Tree) → H t → AllFree S (entries_of t)) → {ts us : Forest} (h : Sifts H ts us) → AllFree S (sifts_went h)
  sifts_free f sifted = tt
  sifts_free f (stays_there h) = sifts_free f h
  sifts_free f (goes_there {t = t} g h) = free_append (entries_of t) (sifts_went h) (f t g) (sifts_free f h)

  leaves_free : {ds qs : Forest} → Leaves S ds qs → AllFree S (trees_entries ds)
  leaves_free rules.nothing_left = tt
  leaves_free (rules.goes_with_value {t = t} {ts = ts} g h) = free_append (entries_of t) (trees_entries ts) (goes_free t g) (leaves_free h)
  leaves_free (rules.value_left {k = k} {x = x} {ts = ts} f h) = free_append (entry_of (Declarator k x)) (trees_entries ts) (declarator_free k x f) (leaves_free h)

  opens_free : {t u : Tree} (o : Opens S t u) → AllFree S (opens_went o)
  opens_free (rules.value u e p) = tt
  opens_free (rules.shielded u e p) = tt
  opens_free (rules.value_of_value u e o) = tt
  opens_free (rules.declarators_open h c n) = sifts_free early_free h
  opens_free (rules.declaration_opens c h) = sifts_free early_free h

  shakes_free : {t u : Tree} (s : Shakes S t u) → AllFree S (shakes_went s)
  shakes_free (rules.declarators_go h c n) = sifts_free goes_free h
  shakes_free (rules.declaration_goes rs vs qs c h) = leaves_free h
  shakes_free (rules.specifiers_go h n) = sifts_free goes_free h
  shakes_free (rules.call_gives n) = tt

  mutual
    walk_free : {c : Bool} {t u : Tree} (w : Walks (shake_pass S) c t u) → AllFree S (went S w)
    walk_free (walk.closed s) = tt
    walk_free (walk.opened o w) = free_append (opens_went o) (went S w) (opens_free o) (walk_free w)
    walk_free (walk.passes i e) = node_free e
    walk_free (walk.stands e r) = node_free e
    walk_free (walk.stepped e s) = free_append (shakes_went s) (node_went S e) (shakes_free s) (node_free e)

    node_free : {c : Bool} {t u : Tree} (e : Entered (shake_pass S) c t u) → AllFree S (node_went S e)
    node_free (walk.plain p ws) = trees_free ws
    node_free (walk.exported d ws) = trees_free ws
    node_free (walk.headed hs ws) = free_append (trees_went S hs) (trees_went S ws) (trees_free hs) (trees_free ws)
    node_free (walk.head_shut s ws) = trees_free ws
    node_free (walk.imports u) = tt
    node_free (walk.block b m) = made_free m

    made_free : {l : Label} {c : Bool} {ts us : Forest} (m : ListMade (shake_pass S) l c ts us) → AllFree S (made_went S m)
    made_free (walk.listed ws t) = trees_free ws
    made_free (walk.tidied ws (items_go h n)) = free_append (sifts_went h) (trees_went S ws) (sifts_free item_free h) (trees_free ws)

    trees_free : {c : Bool} {ts us : Forest} (ws : AllWalk (shake_pass S) c ts us) → AllFree S (trees_went S ws)
    trees_free nothing = tt
    trees_free (both w ws) = free_append (went S w) (trees_went S ws) (walk_free w) (trees_free ws)

  entry_free : (x : Name) (es : List Entry) → AllFree S es → has_name x (first_names es) ≡ true → S.free x ≡ true
  entry_free x [] h e = absurd (false≢true e)
  entry_free x (p ∷ es) h e = by_case (or_cases (same_name x p.0) (has_name x (first_names es)) e) (entry_free x es h.1)
    where
      by_case : (same_name x p.0 ≡ true) ⊎ (has_name x (first_names es) ≡ true) → (has_name x (first_names es) ≡ true → S.free x ≡ true) → S.free x ≡ true
      by_case (inl i) f = ap S.free (same_name_path x p.0 i) ∙ h.0
      by_case (inr i) f = f i

  -- a name whose declaration went is free to go
  pub went_free : {l : Label} {c : Bool} {ts us : Forest} (m : ListMade (shake_pass S) l c ts us) (x : Name) → has_name x (first_names (made_went S m)) ≡ true → S.free x ≡ true
  went_free m x e = entry_free x (made_went S m) (made_free m) e

-- entries by name

pub in_names : {x : Name} {b : Bool} {es : List Entry} → In (x, b) es → has_name x (first_names es) ≡ true
in_names {x} (here {es = es}) = or_left (same_name x x) (has_name x (first_names es)) (same_name_itself x)
in_names {x} (further {f = f} {es = es} i) = or_right (same_name x f.0) (has_name x (first_names es)) (in_names i)

entry_times : (x y : Name) (b : Bool) → same_name x y ≡ true → 1 ≤ times_in x (entry_name false (y, b)) + times_in x (entry_name true (y, b))
entry_times x y true e = omega (arith, subst (λ c. 1 ≤ (if c then 1 else 0)) (sym e) (omega arith))
entry_times x y false e = omega (arith, subst (λ c. 1 ≤ (if c then 1 else 0)) (sym e) (omega arith))

pub names_spent : (x : Name) (es : List Entry) → has_name x (first_names es) ≡ true → 1 ≤ spent false x es + spent true x es
names_spent x [] h = absurd (false≢true h)
names_spent x (p ∷ es) h = by_case (or_cases (same_name x p.0) (has_name x (first_names es)) h) (names_spent x es)
  where
    by_case : (same_name x p.0 ≡ true) ⊎ (has_name x (first_names es) ≡ true) → (has_name x (first_names es) ≡ true → 1 ≤ spent false x es + spent true x es) → 1 ≤ spent false x (p ∷ es) + spent true x (p ∷ es)
    by_case (inl i) f = omega (arith, entry_times x p.0 p.1 i)
    by_case (inr i) f = omega (arith, f i)
