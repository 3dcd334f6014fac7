-- Maps with text keys, entry by entry.
use Rattle.std.proofs.Common.{◌≡◌, ℕ, Bool, true, false, ◌||◌, cond, List, [], ◌∷◌, bytes_eq, Option, Some, is_some, string_bytes, refl, sym, ap, subst, ◌∙◌}
use Rattle.std.proofs.lemmas.Map.Text.{btree_map_updates_text, is_eq-slice_cmp}
use Rattle.std.proofs.lemmas.Slice.Eq.{bytes_eq-Decides}
use Rattle.std.specs.BTreeMap.{BTreeMap, get_by_text, UpdatesBy, is_at}
use Rattle.std.specs.Cmp.Lexicographic.{slice_cmp}
use Rattle.std.specs.Map.{lookup}
use Rattle.std.specs.Ordering.{nat_cmp}
use Rattle.std.specs.String.{string_cmp}
use Rattle.std.specs.declared.alloc.Global.{Global}
use Rattle.std.specs.declared.string.String.{String}
use Rattle.swc_ast.specs.Tree.{Text}

-- what entries have at a text
abbrev pub at_text : {X : Type 0} → Text → List (String Global × X) → Option X
at_text x es = lookup (is_at (λ k. slice_cmp nat_cmp x (string_bytes k))) es

turned : (x y : List ℕ) → bytes_eq x y ≡ bytes_eq y x
turned x y = by (bytes_eq x y) (bytes_eq y x) refl refl
  where
    by : (b c : Bool) → bytes_eq x y ≡ b → bytes_eq y x ≡ c → b ≡ c
    by true true e f = refl
    by false false e f = refl
    by true false e f = sym (sym f ∙ (bytes_eq-Decides y x).1 (sym ((bytes_eq-Decides x y).0 e)))
    by false true e f = sym e ∙ (bytes_eq-Decides x y).1 (sym ((bytes_eq-Decides y x).0 f))

-- the first entry
pub first : {X : Type 0} (x : Text) (name : String Global) (v : X) (t : List (String Global × X)) → at_text x ((name, v) ∷ t) ≡ cond (bytes_eq (string_bytes name) x) (Some v) (at_text x t)
first x name v t = ap (λ b. cond b (Some v) (at_text x t)) (is_eq-slice_cmp x (string_bytes name) ∙ turned x (string_bytes name))

or_true : (b : Bool) → true ≡ (b || true)
or_true true = refl
or_true false = refl

or_false : (b g : Bool) → (b || false) ≡ g → b ≡ g
or_false true g h = h
or_false false g h = h

-- an entry's text is put in
pub added : {X : Type 0} (values new : BTreeMap (String Global) X) (key name : String Global) (v : X) → string_bytes key ≡ string_bytes name → UpdatesBy string_cmp (λ k. slice_cmp nat_cmp (string_bytes key) (string_bytes k)) values new (Some v) → (x : Text) → get_by_text new x ≡ cond (bytes_eq (string_bytes name) x) (Some v) (get_by_text values x)
added values new key name v same u x = btree_map_updates_text (string_bytes key) values new (Some v) u x ∙ ap (λ n. cond (bytes_eq n x) (Some v) (get_by_text values x)) same

-- what holds of each value
abbrev pub Each : {X : Type 0} → (X → Type 0) → BTreeMap (String Global) X → Type 0
Each {X = X} P values = (x : Text) (v : X) → get_by_text values x ≡ Some v → P v

pub none_yet : {X : Type 0} (P : X → Type 0) (values : BTreeMap (String Global) X) → values.entries ≡ [] → Each P values
none_yet P values none x v h = cc (h, ap (at_text x) none)

pub one_more : {X : Type 0} (P : X → Type 0) (values new : BTreeMap (String Global) X) (key name : String Global) (v : X) → string_bytes key ≡ string_bytes name → UpdatesBy string_cmp (λ k. slice_cmp nat_cmp (string_bytes key) (string_bytes k)) values new (Some v) → P v → Each P values → Each P new
one_more {X = X} P values new key name v same u p all x w h = by (bytes_eq (string_bytes name) x) (sym (added values new key name v same u x) ∙ h)
  where
    it : Some v ≡ Some w → v ≡ w
    it e = cc

    by : (b : Bool) → cond b (Some v) (get_by_text values x) ≡ Some w → P w
    by true e = subst P (it e) p
    by false e = all x w e

module _ {X Y : Type 0} where
  moved : (k : Bool) (v : X) (w : Y) (o : Option X) (l : Option Y) → (is_some (cond k (Some v) o) || is_some l) ≡ (is_some o || is_some (cond k (Some w) l))
  moved true v w o l = or_true (is_some o)
  moved false v w o l = refl

  -- which texts are in, or are still to come
  pub key_step : (values new : BTreeMap (String Global) X) (key name : String Global) (v : X) (w : Y) (s t : List (String Global × Y)) (x : Text) (b : Bool) → string_bytes key ≡ string_bytes name → UpdatesBy string_cmp (λ k. slice_cmp nat_cmp (string_bytes key) (string_bytes k)) values new (Some v) → s ≡ (name, w) ∷ t
      → (is_some (get_by_text values x) || is_some (at_text x s)) ≡ b → (is_some (get_by_text new x) || is_some (at_text x t)) ≡ b
  key_step values new key name v w s t x b same u is h =
      ap (λ o. is_some o || is_some (at_text x t)) (added values new key name v same u x) ∙ moved (bytes_eq (string_bytes name) x) v w (get_by_text values x) (at_text x t)
      ∙ sym (ap (λ o. is_some (get_by_text values x) || is_some o) (ap (at_text x) is ∙ first x name w t)) ∙ h

  pub key_end : (values : BTreeMap (String Global) X) (s : List (String Global × Y)) (x : Text) (b : Bool) → s ≡ [] → (is_some (get_by_text values x) || is_some (at_text x s)) ≡ b → is_some (get_by_text values x) ≡ b
  key_end values s x b is h = or_false (is_some (get_by_text values x)) b (sym (ap (λ es. is_some (get_by_text values x) || is_some (at_text x es)) is) ∙ h)

  -- an entry that is to come is there
  pub key_there : (o : Option X) (name : String Global) (w : Y) (s t : List (String Global × Y)) (b : Bool) → s ≡ (name, w) ∷ t → (is_some o || is_some (at_text (string_bytes name) s)) ≡ b → b ≡ true
  key_there o name w s t b is h =
      sym h ∙ ap (λ p. is_some o || is_some p) (ap (at_text (string_bytes name)) is ∙ first (string_bytes name) name w t ∙ ap (λ c. cond c (Some w) (at_text (string_bytes name) t)) ((bytes_eq-Decides (string_bytes name) (string_bytes name)).1 refl)) ∙ sym (or_true (is_some o))

-- all entries are to come
pub key_start : {X Y : Type 0} (values : BTreeMap (String Global) X) (texts : BTreeMap (String Global) Y) (s : List (String Global × Y)) (x : Text) → values.entries ≡ [] → s ≡ texts.entries → (is_some (get_by_text values x) || is_some (at_text x s)) ≡ is_some (get_by_text texts x)
key_start values texts s x none all = ap (λ es. is_some (at_text x es) || is_some (at_text x s)) none ∙ ap (λ es. is_some (at_text x es)) all
