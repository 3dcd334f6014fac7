-- Layers by numbers are layers of trees.
use Rattle.std.proofs.Common.{ℕ, ◌+◌, ◌≡◌, ◌≤◌, ◌<◌, ◌⊎◌, inl, inr, Bool, true, false, ◌||◌, if◌then◌else◌, List, [], ◌∷◌, Option, Some, None, IfSome, Vec, Global, max, nat_eq, nat_lt, refl, sym, ap, ap₂, subst, ◌∙◌, arith}
use Rattle.std.proofs.lemmas.Bool.{false≢true, ltb-true, ltb-false, eqb-true}
use Rattle.std.proofs.lemmas.Option.{none-some}
use Rattle.swc_ast.specs.declared.Span.{Span}
use Rattle.swc_ast.specs.Parts.{list_trees}
use Rattle.swc_ast.specs.Run.{has_text}
use Rattle.swc_ast.specs.Tree.{Text, Name, Tree, Forest, ε, ◌⊳◌, label_of, children_of}
use Rattle.dce_peel.specs.declared.item.Item.{Item}
use Rattle.dce_peel.specs.Rounds as rounds
use Rattle.dce_peel.specs.Rounds.{among, Fits, Each, AreLayers, staying}
use Rattle.dce_layer_proofs.specs.Frames.{own}
use Rattle.dce_layer_proofs.specs.Goers.{goes_with}
use Rattle.dce_layer_proofs.specs.Layers.{Layers, items, live, notes, top, Stays, Leaves, Waits, Placed, AllPlaced, has_layer}
use Rattle.dce_items.specs.Described.{IsNumber, IsAmong, GoesBy, Describes, AllDescribed, layered, IsLayered}

-- each item has a layer
pub whole : (mark : ℕ) (retained : List Text) (names : List Name) (P : Item → ℕ → Type 0) (ts : Forest) (is : List Item) (rs : List ℕ) → AllDescribed mark retained names ts is → Each P is rs → items (layered ts rs) ≡ ts
whole mark retained names P ε is rs d e = refl
whole mark retained names P (t ⊳ ts) [] rs d e = absurd d
whole mark retained names P (t ⊳ ts) (i ∷ is) [] d e = absurd e
whole mark retained names P (t ⊳ ts) (i ∷ is) (r ∷ rs) d e = ap (λ us. t ⊳ us) (whole mark retained names P ts is rs d.1 e.1)

-- the greatest layer of an item that keeps a name
pub top_as : (mark : ℕ) (retained : List Text) (names : List Name) (x : Name) (n : ℕ) (ts : Forest) (is : List Item) (rs : List ℕ) → IsNumber names x n → AllDescribed mark retained names ts is → top x (layered ts rs) ≡ rounds.top is rs n
top_as mark retained names x n ε [] rs p d = refl
top_as mark retained names x n ε (i ∷ is) rs p d = absurd d
top_as mark retained names x n (t ⊳ ts) [] rs p d = absurd d
top_as mark retained names x n (t ⊳ ts) (i ∷ is) [] p d = refl
top_as mark retained names x n (t ⊳ ts) (i ∷ is) (r ∷ rs) p d = ap₂ (λ b m. max (if b then r else 0) m) (sym (d.0.notes x n p)) (top_as mark retained names x n ts is rs p d.1)

module _ (mark : ℕ) (retained : List Text) (names : List Name) (all : Layers) (tops : ℕ → ℕ) (agree : (x : Name) (n : ℕ) → IsNumber names x n → top x all ≡ tops n) where
  -- an item that keeps a name is one of those
  own_top : (x : Name) (t : Tree) (r m : ℕ) → notes x t ≡ true → max (if notes x t then r else 0) m ≤ top x all → r ≤ top x all
  own_top x t r m h le = let e : max r m ≤ top x all = subst (λ b. max (if b then r else 0) m ≤ top x all) h le in omega (arith, e)

  stays_numbered : (ends r n : ℕ) (x : Name) → IsNumber names x n → rounds.Stays tops ends r n → Stays retained all ends r x
  stays_numbered ends r n x p (inl h) = inr (inl (omega (arith, h, agree x n p)))
  stays_numbered ends r n x p (inr h) = inr (inr (omega (arith, h, agree x n p)))

  stays : (ends r : ℕ) (t : Tree) (i : Item) (x : Name) → (r ≤ top x all → Stays retained all ends r x) → (notes x t ≡ true → r ≤ top x all) → Fits tops ends i r → (notes x t ≡ true) ⊎ ((has_text x.text retained ≡ true) ⊎ IsAmong names i.goers.items x) → Stays retained all ends r x
  stays ends r t i x f g fit (inl h) = f (g h)
  stays ends r t i x f g fit (inr (inl h)) = inl h
  stays ends r t i x f g fit (inr (inr h)) = stays_numbered ends r h.0 x h.1.0 (fit.goers h.0 h.1.1)

  leaves : (r : ℕ) (o : Option Name) (i : Option ℕ) → GoesBy retained names o i → rounds.Leaves tops r i → Leaves retained all r o
  leaves r (Some x) (Some n) p h = (p.0, omega (arith, h, agree x n p.1))
  leaves r (Some x) None p h = absurd h
  leaves r None (Some n) p h = absurd p
  leaves r None None p h = absurd h

  waits : (ends r s : ℕ) (o : Option Name) (i : Option ℕ) → s < r → GoesBy retained names o i → rounds.Waits tops ends r i → Waits retained all ends s o
  waits ends r s (Some x) (Some n) m p (inl h) = inr (inl (omega (arith, h, m, agree x n p.1)))
  waits ends r s (Some x) (Some n) m p (inr h) = inr (inr (omega (arith, h, agree x n p.1)))
  waits ends r s (Some x) None m p h = inl p
  waits ends r s None (Some n) m p h = absurd p
  waits ends r s None None m p h = tt

  -- an item stands in its layer
  placed : (ends r m : ℕ) (t : Tree) (i : Item) → ((x : Name) → max (if notes x t then r else 0) (top x []) ≤ top x all) → Describes mark retained names t i → Fits tops ends i r → Placed mark retained all ends t r
  placed ends r m t i le d fit = record {
    tight = d.tight;
    solid = d.solid;
    some = fit.some;
    goers = λ x h. stays ends r t i x (λ k. inr (inl k)) (λ k. own_top x t r 0 k (le x)) fit (d.goers x h);
    goes = λ h. leaves r (goes_with mark (label_of t) (children_of t)) i.name d.name (fit.goes h);
    waits = λ s h. waits ends r s (goes_with mark (label_of t) (children_of t)) i.name h d.name fit.waits;
  }

  -- and so do all
  pub all_placed : (ends : ℕ) (ts : Forest) (is : List Item) (rs : List ℕ) → ((x : Name) → top x (layered ts rs) ≤ top x all) → AllDescribed mark retained names ts is → Each (Fits tops ends) is rs → AllPlaced mark retained all ends (layered ts rs)
  all_placed ends ε is rs le d e = tt
  all_placed ends (t ⊳ ts) [] rs le d e = absurd d
  all_placed ends (t ⊳ ts) (i ∷ is) [] le d e = tt
  all_placed ends (t ⊳ ts) (i ∷ is) (r ∷ rs) le d e =
      (placed ends r 0 t i (λ x. let h = le x in omega (arith, h)) d.0 e.0, all_placed ends ts is rs (λ x. let h = le x in omega (arith, h)) d.1 e.1)

-- a round takes an item
pub reaches : (mark : ℕ) (retained : List Text) (names : List Name) (P : Item → ℕ → Type 0) (r : ℕ) (ts : Forest) (is : List Item) (rs : List ℕ) → AllDescribed mark retained names ts is → Each P is rs → among rs r ≡ true → has_layer r (layered ts rs) ≡ true
reaches mark retained names P r ts is [] d e h = absurd (false≢true h)
reaches mark retained names P r ε [] (m ∷ rs) d e h = absurd e
reaches mark retained names P r ε (i ∷ is) (m ∷ rs) d e h = absurd d
reaches mark retained names P r (t ⊳ ts) [] (m ∷ rs) d e h = absurd d
reaches mark retained names P r (t ⊳ ts) (i ∷ is) (m ∷ rs) d e h = by (λ k. reaches mark retained names P r ts is rs d.1 e.1 k) (nat_lt m r) refl (nat_lt r m) refl (nat_eq r m) refl h
  where
    later : (a b : Bool) → has_layer r (layered ts rs) ≡ true → (if a then has_layer r (layered ts rs) else (if b then has_layer r (layered ts rs) else true)) ≡ true
    later true b k = k
    later false true k = k
    later false false k = refl

    by : (among rs r ≡ true → has_layer r (layered ts rs) ≡ true) → (a : Bool) → nat_lt m r ≡ a → (b : Bool) → nat_lt r m ≡ b → (c : Bool) → nat_eq r m ≡ c → (c || among rs r) ≡ true → (if a then has_layer r (layered ts rs) else (if b then has_layer r (layered ts rs) else true)) ≡ true
    by g a f b l false q k = later a b (g k)
    by g true f b l true q k = absurd (omega (arith, ltb-true m r f, eqb-true r m q))
    by g false f true l true q k = absurd (omega (arith, ltb-true r m l, eqb-true r m q))
    by g false f false l true q k = refl

-- layers that are right by numbers are right
pub laid : (mark : ℕ) (retained : List Text) (names : List Name) (ss : List Span) (ts : Forest) (is : List Item) (ends : ℕ) (rs : List ℕ) → 0 < ends → AllDescribed mark retained names ts is → AreLayers is ends rs → IsLayered mark retained ends (own ss) ts rs
laid mark retained names ss ts is ends rs some d l = record {
  whole = whole mark retained names (Fits (rounds.top is rs) ends) ts is rs d l.fit;
  others = [];
  peels = record {
    outside = refl;
    fits = tt;
    stay = tt;
    placed = all_placed mark retained names (layered ts rs) (rounds.top is rs) (λ x n p. top_as mark retained names x n ts is rs p d) ends ts is rs (λ x. omega arith) d l.fit;
    reaches = reaches mark retained names (Fits (rounds.top is rs) ends) ends ts is rs d l.fit (l.reaches some);
  };
}

-- retained are texts that are others too

gone_by : (a b : List Text) → ((t : Text) → has_text t a ≡ has_text t b) → (names : List Name) (o : Option Name) (i : Option ℕ) → GoesBy a names o i → GoesBy b names o i
gone_by a b same names (Some x) (Some n) h = (sym (same x.text) ∙ h.0, h.1)
gone_by a b same names (Some x) None h = sym (same x.text) ∙ h
gone_by a b same names None (Some n) h = h
gone_by a b same names None None h = h

pub retold : (a b : List Text) → ((t : Text) → has_text t a ≡ has_text t b) → (mark : ℕ) (names : List Name) (ts : Forest) (is : List Item) → AllDescribed mark a names ts is → AllDescribed mark b names ts is
retold a b same mark names ε [] h = h
retold a b same mark names ε (i ∷ is) h = absurd h
retold a b same mark names (t ⊳ ts) [] h = absurd h
retold a b same mark names (t ⊳ ts) (i ∷ is) h = (
  record {
    tight = h.0.tight;
    solid = h.0.solid;
    name = gone_by a b same names (goes_with mark (label_of t) (children_of t)) i.name h.0.name;
    goers = λ x g. by x (h.0.goers x g);
    notes = h.0.notes;
  },
  retold a b same mark names ts is h.1,
)
  where
    by : (x : Name) → (notes x t ≡ true) ⊎ ((has_text x.text a ≡ true) ⊎ IsAmong names i.goers.items x) → (notes x t ≡ true) ⊎ ((has_text x.text b ≡ true) ⊎ IsAmong names i.goers.items x)
    by x (inl g) = inl g
    by x (inr (inl g)) = inr (inl (sym (same x.text) ∙ g))
    by x (inr (inr g)) = inr (inr g)

-- the same by what the code finds
pub laid_from : (mark : ℕ) (told retained : List Text) (names : List Name) (ss : List Span) (ts us : Forest) (o : Option (Vec Item Global)) (v : Vec Item Global) (js : List Item) (ends : ℕ) (rs : List ℕ) → ((t : Text) → has_text t told ≡ has_text t retained) → ts ≡ us → o ≡ Some v → IfSome o (λ w. AllDescribed mark told names us w.items) → js ≡ v.items → (0 < ends → AreLayers js ends rs) → 0 < ends → IsLayered mark retained ends (own ss) ts rs
laid_from mark told retained names ss ts us None v js ends rs kept same is d e l some = absurd (none-some v is)
laid_from mark told retained names ss ts us (Some w) v js ends rs kept same is d e l some =
    let f : js ≡ w.items = cc in
    laid mark retained names ss ts w.items ends rs some (retold told retained kept mark names ts w.items (subst (λ (vs : Forest). AllDescribed mark told names vs w.items) (sym same) d)) (subst (λ (ks : List Item). AreLayers ks ends rs) f (l some))

-- the items that stay are those that are left
pub staying_live : {A : Type 0} (f : A → Tree) (ends : ℕ) (xs : List A) (rs : List ℕ) → items (layered (list_trees f xs) rs) ≡ list_trees f xs → list_trees f (staying ends xs rs) ≡ live (ends + 1) (layered (list_trees f xs) rs)
staying_live f ends [] rs h = refl
staying_live f ends (x ∷ xs) [] h = absurd (some_none (f x) (list_trees f xs) h)
  where
    is_some : Forest → Bool
    is_some ε = false
    is_some (t ⊳ ts) = true

    some_none : (t : Tree) (ts : Forest) → ε ≡ (t ⊳ ts) → ⊥
    some_none t ts e = false≢true (ap is_some e)
staying_live f ends (x ∷ xs) (r ∷ rs) h = by (nat_lt ends r) refl (nat_lt r (ends + 1)) refl (staying_live f ends xs rs (ap behind h))
  where
    behind : Forest → Forest
    behind ε = ε
    behind (t ⊳ ts) = ts

    by : (a : Bool) → nat_lt ends r ≡ a → (b : Bool) → nat_lt r (ends + 1) ≡ b → list_trees f (staying ends xs rs) ≡ live (ends + 1) (layered (list_trees f xs) rs) → list_trees f (if a then x ∷ staying ends xs rs else staying ends xs rs) ≡ (if b then live (ends + 1) (layered (list_trees f xs) rs) else (f x ⊳ live (ends + 1) (layered (list_trees f xs) rs)))
    by true e true g k = absurd (omega (arith, ltb-true ends r e, ltb-true r (ends + 1) g))
    by true e false g k = ap (λ us. f x ⊳ us) k
    by false e true g k = k
    by false e false g k = absurd (omega (arith, ltb-false ends r e, ltb-false r (ends + 1) g))
