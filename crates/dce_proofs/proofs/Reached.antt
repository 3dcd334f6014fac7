-- Functions of a module that are reached are never free to go.
use Rattle.std.proofs.Common.{◌≡◌, Bool, true, false, not, ◌||◌, List, [], Option, Some, None, refl, sym, ap, subst, ◌∙◌, if◌then◌else◌}
use Rattle.std.proofs.lemmas.Bool.{true≢false, false≢true, or_parts, and_parts, or_left, or_right}
use Rattle.swc_ast.specs.Tree.{Text, Name, same_name, VarDecl, Module, Tree, node, Forest, ε, ◌⊳◌}
use Rattle.swc_ast.specs.Scope.{has_name}
use Rattle.swc_ast.specs.Run.{exported, has_text}
use Rattle.swc_ast.specs.Reach.{named_by, occurs, occurs_in, declares, named_outside, outside_in, is_for, is_closed, closed_outside, closed_outside_in, item_function, item_occurs, occurs_among_rest, is_exported, is_root, item_uses, uses, Reached, root, used}
use Rattle.meaning_proofs.proofs.Names.{same_name_eq}
use Rattle.dce_rules.specs.Uses.{is_used_unnamed, is_argument, seen_by_eval, free_to_go}
use Rattle.dce_rules.specs.Apart.{declares_in, declares_among, function_apart, declared_apart}

or_mono : (a b c d : Bool) → (a ≡ true → c ≡ true) → (b ≡ true → d ≡ true) → (a || b) ≡ true → (c || d) ≡ true
or_mono true b c d h g e = ap (λ x. x || d) (h refl)
or_mono false b c d h g e = or_right c d (g e)

-- what is named in a place that is not entered is named

closed_if : (b d n o c : Bool) → (c ≡ true → o ≡ true) → (if b then false else (if d then o else c)) ≡ true → (if b then false else (n || o)) ≡ true
closed_if true d n o c h e = e
closed_if false true n o c h e = or_right n o e
closed_if false false n o c h e = or_right n o (h e)

mutual
  pub closed_named : (x : Name) (t : Tree) → closed_outside x t ≡ true → named_outside x t ≡ true
  closed_named x (node l ss cs) e = closed_if (declares x l) (is_closed l cs) (has_name x (named_by l)) (outside_in x cs) (closed_outside_in x (is_for l) cs) (closed_named_in x (is_for l) cs) e

  closed_named_in : (x : Name) (head : Bool) (ts : Forest) → closed_outside_in x head ts ≡ true → outside_in x ts ≡ true
  closed_named_in x head ε e = e
  closed_named_in x true (node (VarDecl kind) ss ds ⊳ ts) e = or_mono (outside_in x ds) (closed_outside_in x false ts) (outside_in x ds) (outside_in x ts) (λ q. q) (closed_named_in x false ts) e
  closed_named_in x true (t ⊳ ts) e = or_mono (closed_outside x t) (closed_outside_in x false ts) (named_outside x t) (outside_in x ts) (closed_named x t) (closed_named_in x false ts) e
  closed_named_in x false (t ⊳ ts) e = or_mono (closed_outside x t) (closed_outside_in x false ts) (named_outside x t) (outside_in x ts) (closed_named x t) (closed_named_in x false ts) e

-- where no function of a name is declared, what occurs is named outside such functions

occurs_if : (b n o c : Bool) → b ≡ false → (o ≡ true → c ≡ true) → (n || o) ≡ true → (if b then false else (n || c)) ≡ true
occurs_if false n o c p h e = or_mono n o n c (λ q. q) h e
occurs_if true n o c p h e = absurd (true≢false p)

mutual
  pub occurs_named : (x : Name) (t : Tree) → declares_in x t ≡ false → occurs x t ≡ true → named_outside x t ≡ true
  occurs_named x (node l ss cs) a e =
      let p = or_parts (declares x l) (declares_among x cs) a in
      occurs_if (declares x l) (has_name x (named_by l)) (occurs_in x cs) (outside_in x cs) p.0 (occurs_named_in x cs p.1) e

  occurs_named_in : (x : Name) (ts : Forest) → declares_among x ts ≡ false → occurs_in x ts ≡ true → outside_in x ts ≡ true
  occurs_named_in x ε a e = e
  occurs_named_in x (t ⊳ ts) a e =
      let p = or_parts (declares_in x t) (declares_among x ts) a in
      or_mono (occurs x t) (occurs_in x ts) (named_outside x t) (outside_in x ts) (occurs_named x t p.0) (occurs_named_in x ts p.1) e

-- items

rest_item : (x : Name) (t : Tree) (o : Option Name) → function_apart x t o ≡ false → item_occurs x t o ≡ true → named_outside x t ≡ true
rest_item x t None a e = occurs_named x t a e
rest_item x t (Some f) a e = absurd (false≢true e)

pub rest_named : (x : Name) (ts : Forest) → declared_apart x ts ≡ false → occurs_among_rest x ts ≡ true → outside_in x ts ≡ true
rest_named x ε a e = e
rest_named x (t ⊳ ts) a e =
    let p = or_parts (function_apart x t (item_function t)) (declared_apart x ts) a in
    or_mono (item_occurs x t (item_function t)) (occurs_among_rest x ts) (named_outside x t) (outside_in x ts) (rest_item x t (item_function t) p.0) (rest_named x ts p.1) e

-- a function of another name
used_item : (f g : Name) (t : Tree) (o : Option Name) → same_name f g ≡ false → function_apart g t o ≡ false → item_uses f g t o ≡ true → named_outside g t ≡ true
used_item f g t None n a e = absurd (false≢true e)
used_item f g t (Some h) n a e = go (same_name g h) refl a
  where
    go : (b : Bool) → same_name g h ≡ b → (if b then false else declares_in g t) ≡ false → named_outside g t ≡ true
    go false p q = occurs_named g t q (and_parts (same_name f h) (occurs g t) e).1
    go true p q = absurd (false≢true (sym n ∙ ap (λ (z : Name). same_name f z) (same_name_eq g h p) ∙ (and_parts (same_name f h) (occurs g t) e).0))

pub used_named : (f g : Name) (ts : Forest) → same_name f g ≡ false → declared_apart g ts ≡ false → uses f g ts ≡ true → outside_in g ts ≡ true
used_named f g ε n a e = e
used_named f g (t ⊳ ts) n a e =
    let p = or_parts (function_apart g t (item_function t)) (declared_apart g ts) a in
    or_mono (item_uses f g t (item_function t)) (uses f g ts) (named_outside g t) (outside_in g ts) (used_item f g t (item_function t) n p.0) (used_named f g ts n p.1) e

-- free to go

module _ (retained : List Text) (items : Forest) where
  named_stays : (x : Name) → named_outside x (node Module [] items) ≡ true → free_to_go retained (node Module [] items) x ≡ false
  named_stays x e = ap not (or_right (has_text x.text retained) _ (or_left (named_outside x (node Module [] items)) (is_used_unnamed x (node Module [] items)) e))

  root_stays : (x : Name) → declared_apart x items ≡ false → is_root retained items x ≡ true → free_to_go retained (node Module [] items) x ≡ false
  root_stays x a e = go (is_exported x (exported items)) (occurs_among_rest x items) (closed_outside x (node Module [] items)) (has_text x.text retained) refl refl refl refl e
    where
      go : (b d c h : Bool) → is_exported x (exported items) ≡ b → occurs_among_rest x items ≡ d → closed_outside x (node Module [] items) ≡ c → has_text x.text retained ≡ h → (b || (d || (c || h))) ≡ true → free_to_go retained (node Module [] items) x ≡ false
      go true d c h p q r s e = ap not (or_right (has_text x.text retained) _ (or_right (named_outside x (node Module [] items)) _ (or_left (is_exported x (exported items)) (is_argument x (node Module [] items) || seen_by_eval x (node Module [] items)) p)))
      go false true c h p q r s e = named_stays x (rest_named x items a q)
      go false false true h p q r s e = named_stays x (closed_named x (node Module [] items) r)
      go false false false true p q r s e = ap not (or_left (has_text x.text retained) _ s)
      go false false false false p q r s e = absurd (false≢true e)

  stays_by : (b : Bool) (f x : Name) → same_name f x ≡ b → declared_apart x items ≡ false → uses f x items ≡ true
      → (f ≡ x → declared_apart x items ≡ false → free_to_go retained (node Module [] items) x ≡ false) → free_to_go retained (node Module [] items) x ≡ false
  stays_by false f x p a e h = named_stays x (used_named f x items p a e)
  stays_by true f x p a e h = h (same_name_eq f x p) a

  -- A function that is reached is not free to go.
  pub reached_stays : (x : Name) → Reached retained items x → declared_apart x items ≡ false → free_to_go retained (node Module [] items) x ≡ false
  reached_stays x (root y e) a = root_stays x a e
  reached_stays x (used f g h e) a = stays_by (same_name f x) f x refl a e (λ p. subst (λ z. declared_apart z items ≡ false → free_to_go retained (node Module [] items) z ≡ false) p (reached_stays f h))
