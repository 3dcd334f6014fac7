-- What the walk over an item gathers.
use Rattle.std.proofs.Common.{ℕ, ◌≡◌, ◌⊎◌, inl, inr, Option, Some, None, position, IfSome, Bool, true, false, not, ◌&&◌, ◌||◌, if◌then◌else◌, List, [], ◌∷◌, ◌++◌, refl, sym, ap, subst, ◌∙◌}
use Rattle.std.proofs.lemmas.Bool.{false≢true, or_cases, and_from}
use Rattle.swc_ast.specs.Reach.{is_for}
use Rattle.swc_ast.specs.Run.{has_text}
use Rattle.swc_ast.specs.Scope.{has_name, default_name}
use Rattle.swc_ast.specs.Tree.{Name, Label, same_name, Tree, node, Forest, ε, ◌⊳◌, label_of, children_of}
use Rattle.swc_ast.specs.Weight.{is_list}
use Rattle.static_proofs.proofs.Names.{same_name_path, has_name_append}
use Rattle.dce_peel.specs.Rounds.{among}
use Rattle.dce_layer_proofs.specs.Goers.{own_goer, is_closed_label, is_head_label, goers_among, is_sound, tight_among}
use Rattle.dce_uses.specs.Tables.{is_free}
use Rattle.dce_items.specs.Described.{IsNumber}
use Rattle.dce_items.proofs.Among.{more_grows, last_among}
use Rattle.dce_items.specs.declared.known.Known.{Known}
use Rattle.dce_items.specs.Gathered.{is_void, tight_inside, goers_inside, tight_child, goers_child, Settled, Gathers}

-- a name that is not that of a default export, with its number
pub numbered : (names : List Name) (x : Name) (r : Option ℕ) → same_name x default_name ≡ false → r ≡ position (same_name x) names → IfSome r (IsNumber names x)
numbered names x None e h = tt
numbered names x (Some n) e h = record { named = e; number = sym h }

module _ (k : Known) where
  -- nothing is found, and nothing is asked
  pub nothing : (ns : List ℕ) → Gathers k ns ns true true []
  nothing ns = record { grows = λ n h. h; tight = λ e. refl; settled = λ e x h. absurd (false≢true h) }

  -- the walk ends
  pub ends : (old new : List ℕ) (t u : Bool) (xs ys : List Name) → Gathers k old new false t xs → Gathers k old new false u ys
  ends old new t u xs ys g = record { grows = g.grows; tight = λ e. absurd (false≢true e); settled = λ e x h. absurd (false≢true e) }

  pub stops : (ns : List ℕ) (t : Bool) (xs : List Name) → Gathers k ns ns false t xs
  stops ns t xs = record { grows = λ n h. h; tight = λ e. absurd (false≢true e); settled = λ e x h. absurd (false≢true e) }

  -- one name is settled
  pub one : (old new : List ℕ) (x : Name) → ((n : ℕ) → among old n ≡ true → among new n ≡ true) → Settled k new x → Gathers k old new true true (x ∷ [])
  one old new x grows s = record {
    grows = grows;
    tight = λ e. refl;
    settled = λ e y h. by y (same_name y x) refl h;
  }
    where
      by : (y : Name) (b : Bool) → same_name y x ≡ b → (b || false) ≡ true → Settled k new y
      by y true e h = subst (Settled k new) (sym (same_name_path y x e)) s
      by y false e h = absurd (false≢true h)

  pub one_kept : (ns : List ℕ) (x : Name) → is_free k.uses.now x ≡ false → Gathers k ns ns true true (x ∷ [])
  one_kept ns x h = one ns ns x (λ n i. i) (inl h)

  pub one_retained : (ns : List ℕ) (x : Name) → has_text x.text k.retained.now ≡ true → Gathers k ns ns true true (x ∷ [])
  one_retained ns x h = one ns ns x (λ n i. i) (inr (inl h))

  pub one_added : (old new : List ℕ) (x : Name) (m : ℕ) → IsNumber k.names.now x m → new ≡ old ++ m ∷ [] → Gathers k old new true true (x ∷ [])
  one_added old new x m p is = one old new x (λ n i. ap (λ ns. among ns n) is ∙ more_grows old m n i) (inr (inr (m, (p, ap (λ ns. among ns m) is ∙ last_among old m))))

  -- what is settled stays so
  keeps : (old new : List ℕ) → ((n : ℕ) → among old n ≡ true → among new n ≡ true) → (x : Name) → Settled k old x → Settled k new x
  keeps old new grows x (inl h) = inl h
  keeps old new grows x (inr (inl h)) = inr (inl h)
  keeps old new grows x (inr (inr h)) = inr (inr (h.0, (h.1.0, grows h.0 h.1.1)))

  -- one walk behind another
  pub both : (old mid new : List ℕ) (b t u : Bool) (xs ys : List Name) → Gathers k old mid true t xs → Gathers k mid new b u ys → Gathers k old new b (t && u) (xs ++ ys)
  both old mid new b t u xs ys f g = record {
    grows = λ n h. g.grows n (f.grows n h);
    tight = λ e. and_from t u (f.tight refl) (g.tight e);
    settled = λ e x h. at e x (or_cases (has_name x xs) (has_name x ys) (sym (has_name_append x xs ys) ∙ h));
  }
    where
      at : b ≡ true → (x : Name) → (has_name x xs ≡ true) ⊎ (has_name x ys ≡ true) → Settled k new x
      at e x (inl h) = keeps mid new g.grows x (f.settled refl x h)
      at e x (inr h) = g.settled e x h

  -- a node that isn't entered
  pub closed : (ns : List ℕ) (l : Label) (cs : Forest) → is_closed_label l ≡ true → Gathers k ns ns true (tight_inside l cs) (goers_inside l cs)
  closed ns l cs h = subst (λ b. Gathers k ns ns true (if b then true else (is_sound l cs && tight_among (is_for l) (is_list l) cs)) (if b then [] else goers_among (is_for l) cs)) (sym h) (nothing ns)

  -- one that is
  pub inside : (old new : List ℕ) (b : Bool) (l : Label) (cs : Forest) (head listed : Bool) → is_closed_label l ≡ false → is_sound l cs ≡ true → head ≡ is_for l → listed ≡ is_list l → Gathers k old new b (tight_among head listed cs) (goers_among head cs) → Gathers k old new b (tight_inside l cs) (goers_inside l cs)
  inside old new b l cs head listed entered sound f e g =
      subst (λ c. Gathers k old new b (if c then true else (is_sound l cs && tight_among (is_for l) (is_list l) cs)) (if c then [] else goers_among (is_for l) cs)) (sym entered)
      (subst (λ c. Gathers k old new b (c && tight_among (is_for l) (is_list l) cs) (goers_among (is_for l) cs)) (sym sound)
      (subst (λ c. Gathers k old new b (tight_among (is_for l) c cs) (goers_among (is_for l) cs)) e (subst (λ c. Gathers k old new b (tight_among c listed cs) (goers_among c cs)) f g)))

  -- the head of a `for`
  pub head_passed : (ns : List ℕ) (head listed : Bool) (l : Label) (cs : Forest) → is_head_label head l ≡ true → Gathers k ns ns true (tight_child head listed l cs) (goers_child head l cs)
  head_passed ns head listed l cs h = subst (λ b. Gathers k ns ns true (if b then true else (not (listed && is_void l cs) && tight_inside l cs)) (if b then [] else (own_goer l ++ goers_inside l cs))) (sym h) (nothing ns)

  -- another child
  pub child : (old mid new : List ℕ) (b head listed : Bool) (l : Label) (cs : Forest) → is_head_label head l ≡ false → (listed && is_void l cs) ≡ false → Gathers k old mid true true (own_goer l) → Gathers k mid new b (tight_inside l cs) (goers_inside l cs) → Gathers k old new b (tight_child head listed l cs) (goers_child head l cs)
  child old mid new b head listed l cs h v f g =
      subst (λ c. Gathers k old new b (if c then true else (not (listed && is_void l cs) && tight_inside l cs)) (if c then [] else (own_goer l ++ goers_inside l cs))) (sym h)
      (subst (λ c. Gathers k old new b (not c && tight_inside l cs) (own_goer l ++ goers_inside l cs)) (sym v) (both old mid new b true (tight_inside l cs) (own_goer l) (goers_inside l cs) f g))

  -- what the children that are left give is what all give
  pub record Left (old now : List ℕ) (before head listed : Bool) (all left : Forest) : Type 0 where
    pub gives : (new : List ℕ) (b : Bool) → Gathers k now new b (tight_among head listed left) (goers_among head left) → Gathers k old new b (tight_among before listed all) (goers_among before all)

  pub begins : (ns : List ℕ) (head listed : Bool) (all : Forest) → Left ns ns head head listed all all
  begins ns head listed all = record { gives = λ new b g. g }

  first : (now mid new : List ℕ) (b head listed : Bool) (t : Tree) (ts : Forest) → Gathers k now mid true (tight_child head listed (label_of t) (children_of t)) (goers_child head (label_of t) (children_of t)) → Gathers k mid new b (tight_among false listed ts) (goers_among false ts) → Gathers k now new b (tight_among head listed (t ⊳ ts)) (goers_among head (t ⊳ ts))
  first now mid new b head listed (node l ss cs) ts f g = both now mid new b (tight_child head listed l cs) (tight_among false listed ts) (goers_child head l cs) (goers_among false ts) f g

  at_node : (now mid : List ℕ) (b head listed : Bool) (t : Tree) (l : Label) (cs : Forest) → label_of t ≡ l → children_of t ≡ cs → Gathers k now mid b (tight_child head listed l cs) (goers_child head l cs) → Gathers k now mid b (tight_child head listed (label_of t) (children_of t)) (goers_child head (label_of t) (children_of t))
  at_node now mid b head listed t l cs labelled held g =
      subst (λ (m : Label). Gathers k now mid b (tight_child head listed m (children_of t)) (goers_child head m (children_of t))) (sym labelled)
      (subst (λ (ds : Forest). Gathers k now mid b (tight_child head listed l ds) (goers_child head l ds)) (sym held) g)

  -- the walk goes on behind a child
  pub goes_on : (old now mid : List ℕ) (before head listed : Bool) (all us : Forest) (t : Tree) (ts : Forest) (l : Label) (cs : Forest) → us ≡ t ⊳ ts → label_of t ≡ l → children_of t ≡ cs → Gathers k now mid true (tight_child head listed l cs) (goers_child head l cs) → Left old now before head listed all us → Left old mid before false listed all ts
  goes_on old now mid before head listed all us t ts l cs is labelled held f h = record {
    gives = λ new b g. h.gives new b (subst (λ (vs : Forest). Gathers k now new b (tight_among head listed vs) (goers_among head vs)) (sym is) (first now mid new b head listed t ts (at_node now mid true head listed t l cs labelled held f) g));
  }

  -- or ends at it
  pub ends_at : (old now mid : List ℕ) (before head listed t : Bool) (xs : List Name) (all us : Forest) → Gathers k now mid false t xs → Left old now before head listed all us → Gathers k old mid false (tight_among before listed all) (goers_among before all)
  ends_at old now mid before head listed t xs all us f h = h.gives mid false (ends now mid t (tight_among head listed us) xs (goers_among head us) f)

  -- or no child is left
  pub done : (old now : List ℕ) (before head listed : Bool) (all us : Forest) → us ≡ ε → Left old now before head listed all us → Gathers k old now true (tight_among before listed all) (goers_among before all)
  done old now before head listed all us is h = h.gives now true (subst (λ (vs : Forest). Gathers k now now true (tight_among head listed vs) (goers_among head vs)) (sym is) (nothing now))
