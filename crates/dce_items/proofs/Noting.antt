-- The numbers of names that an item keeps.
use Rattle.std.proofs.Common.{ℕ, ◌≡◌, Bool, true, false, not, ◌&&◌, ◌||◌, List, [], ◌∷◌, ◌++◌, Option, Some, None, position, slice_get, get_or, nat_eq, refl, sym, ap, ap₂, ◌∙◌, eq-eqb}
use Rattle.std.proofs.lemmas.Bool.{false≢true, or_left, or_right, eqb-true}
use Rattle.std.proofs.lemmas.List.Quantifiers.{position-Some}
use Rattle.std.proofs.lemmas.Option.{slice_get-get_or}
use Rattle.swc_ast.specs.Scope.{has_name}
use Rattle.swc_ast.specs.Tree.{Name, Label, same_name, Tree, node, Forest, ε, ◌⊳◌, label_of, children_of}
use Rattle.static_proofs.proofs.Names.{same_name_path}
use Rattle.dce_uses.specs.Tables.{is_free}
use Rattle.dce_peel.specs.Rounds.{among}
use Rattle.dce_layer_proofs.specs.Goers.{own_mention, mentions, mentions_among}
use Rattle.dce_items.proofs.Among.{among_more}
use Rattle.dce_items.specs.declared.known.Known.{Known}
use Rattle.dce_items.specs.Gathered.{is_at, keeps_number}

or_grouped : (a b c : Bool) → ((a || b) || c) ≡ (a || (b || c))
or_grouped true b c = refl
or_grouped false b c = refl

or_none : (b : Bool) → (b || false) ≡ b
or_none true = refl
or_none false = refl

-- the name that has the number of a name is that name
named : (x : Name) (ns : List Name) (n : ℕ) → position (same_name x) ns ≡ Some n → slice_get ns n ≡ Some x
named x ns n is =
    let p = position-Some (same_name x) ns n x is in
    slice_get-get_or ns n x p.0 ∙ ap (λ y. Some y) (sym (same_name_path x (get_or ns n x) p.1))

and_false : (b : Bool) → (b && false) ≡ false
and_false true = refl
and_false false = refl

module _ (k : Known) where
  pub keeps_append : (xs ys : List Name) (n : ℕ) → keeps_number k (xs ++ ys) n ≡ (keeps_number k xs n || keeps_number k ys n)
  keeps_append [] ys n = refl
  keeps_append (x ∷ xs) ys n =
      let b = not (is_free k.uses.now x) && is_at (position (same_name x) k.names.now) n in
      ap (λ c. b || c) (keeps_append xs ys n) ∙ sym (or_grouped b (keeps_number k xs n) (keeps_number k ys n))

  -- one name at most

  pub no_name : (ns : List ℕ) (n : ℕ) → among ns n ≡ (among ns n || keeps_number k [] n)
  no_name ns n = sym (or_none (among ns n))

  none_kept : (ns : List ℕ) (x : Name) (n : ℕ) → (not (is_free k.uses.now x) && is_at (position (same_name x) k.names.now) n) ≡ false → among ns n ≡ (among ns n || keeps_number k (x ∷ []) n)
  none_kept ns x n h = sym (ap (λ b. among ns n || (b || false)) h ∙ or_none (among ns n))

  pub name_free : (ns : List ℕ) (x : Name) (n : ℕ) → is_free k.uses.now x ≡ true → among ns n ≡ (among ns n || keeps_number k (x ∷ []) n)
  name_free ns x n h = none_kept ns x n (ap (λ b. not b && is_at (position (same_name x) k.names.now) n) h)

  pub name_unnumbered : (ns : List ℕ) (x : Name) (n : ℕ) → position (same_name x) k.names.now ≡ None → among ns n ≡ (among ns n || keeps_number k (x ∷ []) n)
  name_unnumbered ns x n h = none_kept ns x n (ap (λ o. not (is_free k.uses.now x) && is_at o n) h ∙ and_false (not (is_free k.uses.now x)))

  pub name_added : (old new : List ℕ) (x : Name) (m n : ℕ) → is_free k.uses.now x ≡ false → position (same_name x) k.names.now ≡ Some m → new ≡ old ++ m ∷ [] → among new n ≡ (among old n || keeps_number k (x ∷ []) n)
  name_added old new x m n h p is =
      ap (λ ns. among ns n) is ∙ among_more old m n ∙ ap (λ b. among old n || b) (sym (or_none (nat_eq n m) ∙ refl))
      ∙ ap (λ b. among old n || (b || false)) (sym (ap₂ (λ c o. not c && is_at o n) h p))

  -- two lists of names, one behind the other
  pub two : (old mid new : List ℕ) (xs ys : List Name) → ((n : ℕ) → among mid n ≡ (among old n || keeps_number k xs n)) → ((n : ℕ) → among new n ≡ (among mid n || keeps_number k ys n)) → (n : ℕ) → among new n ≡ (among old n || keeps_number k (xs ++ ys) n)
  two old mid new xs ys f g n =
      g n ∙ ap (λ b. b || keeps_number k ys n) (f n) ∙ or_grouped (among old n) (keeps_number k xs n) (keeps_number k ys n) ∙ ap (λ b. among old n || b) (sym (keeps_append xs ys n))

  -- what is noted, with what the children that are left give, is what all give
  pub record Left (old now : List ℕ) (all left : Forest) : Type 0 where
    pub gives : (n : ℕ) → (among now n || keeps_number k (mentions_among left) n) ≡ (among old n || keeps_number k (mentions_among all) n)

  pub begins : (ns : List ℕ) (all : Forest) → Left ns ns all all
  begins ns all = record { gives = λ n. refl }

  of_node : (t : Tree) → mentions t ≡ own_mention (label_of t) ++ mentions_among (children_of t)
  of_node (node l ss cs) = refl

  pub goes_on : (old now mid new : List ℕ) (all us : Forest) (t : Tree) (ts : Forest) (l : Label) (cs : Forest) → us ≡ t ⊳ ts → label_of t ≡ l → children_of t ≡ cs → ((n : ℕ) → among mid n ≡ (among now n || keeps_number k (own_mention l) n)) → ((n : ℕ) → among new n ≡ (among mid n || keeps_number k (mentions_among cs) n)) → Left old now all us → Left old new all ts
  goes_on old now mid new all us t ts l cs is labelled held f g h = record {
    gives = λ n.
        ap (λ b. b || keeps_number k (mentions_among ts) n) (two now mid new (own_mention l) (mentions_among cs) f g n)
        ∙ or_grouped (among now n) (keeps_number k (own_mention l ++ mentions_among cs) n) (keeps_number k (mentions_among ts) n)
        ∙ ap (λ b. among now n || b)
        (ap₂ (λ (m : Label) (ds : Forest). keeps_number k (own_mention m ++ mentions_among ds) n || keeps_number k (mentions_among ts) n) (sym labelled) (sym held)
        ∙ ap (λ (xs : List Name). keeps_number k xs n || keeps_number k (mentions_among ts) n) (sym (of_node t)) ∙ sym (keeps_append (mentions t) (mentions_among ts) n) ∙ ap (λ (vs : Forest). keeps_number k (mentions_among vs) n) (sym is))
        ∙ h.gives n;
  }

  pub done : (old now : List ℕ) (all us : Forest) → us ≡ ε → Left old now all us → (n : ℕ) → among now n ≡ (among old n || keeps_number k (mentions_among all) n)
  done old now all us is h n = sym (or_none (among now n)) ∙ ap (λ (vs : Forest). among now n || keeps_number k (mentions_among vs) n) (sym is) ∙ h.gives n

  -- a name that stands there and is kept has its number there
  pub kept_number : (x : Name) (n : ℕ) (xs : List Name) → is_free k.uses.now x ≡ false → position (same_name x) k.names.now ≡ Some n → has_name x xs ≡ true → keeps_number k xs n ≡ true
  kept_number x n [] f p h = absurd (false≢true h)
  kept_number x n (y ∷ ys) f p h = by (λ i. kept_number x n ys f p i) (same_name x y) refl h
    where
      own : same_name x y ≡ true → (not (is_free k.uses.now y) && is_at (position (same_name y) k.names.now) n) ≡ true
      own e = ap (λ (z : Name). not (is_free k.uses.now z) && is_at (position (same_name z) k.names.now) n) (sym (same_name_path x y e)) ∙ ap₂ (λ b o. not b && is_at o n) f p ∙ eq-eqb n n refl

      by : (has_name x ys ≡ true → keeps_number k ys n ≡ true) → (b : Bool) → same_name x y ≡ b → (b || has_name x ys) ≡ true → keeps_number k (y ∷ ys) n ≡ true
      by g true e i = or_left (not (is_free k.uses.now y) && is_at (position (same_name y) k.names.now) n) (keeps_number k ys n) (own e)
      by g false e i = or_right (not (is_free k.uses.now y) && is_at (position (same_name y) k.names.now) n) (keeps_number k ys n) (g i)

  -- names of one number are one name
  one_name : (x y : Name) (n : ℕ) → position (same_name x) k.names.now ≡ Some n → position (same_name y) k.names.now ≡ Some n → x ≡ y
  one_name x y n p q = let e = named x k.names.now n p in let f = named y k.names.now n q in cc

  -- a name that isn't kept hasn't
  pub free_number : (x : Name) (n : ℕ) (xs : List Name) → is_free k.uses.now x ≡ true → position (same_name x) k.names.now ≡ Some n → keeps_number k xs n ≡ false
  free_number x n [] f p = refl
  free_number x n (y ∷ ys) f p = ap₂ (λ a b. a || b) (own (position (same_name y) k.names.now) refl) (free_number x n ys f p)
    where
      at : (m : ℕ) (b : Bool) → nat_eq n m ≡ b → position (same_name y) k.names.now ≡ Some m → (not (is_free k.uses.now y) && b) ≡ false
      at m true e q = ap (λ c. not c && true) (ap (is_free k.uses.now) (sym (one_name x y n p (q ∙ ap (λ i. Some i) (sym (eqb-true n m e))))) ∙ f)
      at m false e q = and_false (not (is_free k.uses.now y))

      own : (o : Option ℕ) → position (same_name y) k.names.now ≡ o → (not (is_free k.uses.now y) && is_at o n) ≡ false
      own None q = and_false (not (is_free k.uses.now y))
      own (Some m) q = at m (nat_eq n m) refl q
