-- What a name that is carried stands for is steady, and nothing is carried of it in the end.
use Rattle.std.proofs.Common.{◌≡◌, Bool, true, false, not, ◌&&◌, ◌||◌, List, refl, sym, ap, ap₂, subst, ◌∙◌, ◌⊎◌, inl, inr, if◌then◌else◌}
use Rattle.std.proofs.lemmas.Bool.{and_parts, or_cases, or_left, false≢true, true≢false, false_from_ne_true}
use Rattle.swc_ast.specs.declared.Span.{Span}
use Rattle.swc_ast.specs.declared.VarDeclKind.TheVariants.{Var, Let, Const}
use Rattle.swc_ast.specs.Tree.{Name, same_name, Label, Declarator, Tree, node, Forest, ε, ◌⊳◌}
use Rattle.swc_ast.specs.Scope.{default_name, is_function}
use Rattle.swc_ast.specs.Value.{Undefined}
use Rattle.static_proofs.proofs.Names.{same_name_path}
use Rattle.link_proofs.specs.Links.{Put, nothing, a_name, a_value}
use Rattle.carry_rules.specs.Carry.{Pass, Facts, Carried, put_unless, or_put, carried, ready_at, groups, keeps_names, with_put, first_put, may_carry, may_settle, entry, settling, enter, leave, behind, after, after_all}
use Rattle.carry_rules.proofs.Sound.{Last, nothing≢name, fixed, every, every_all, Enters, Carries, agrees, agrees_all}
use Rattle.carry_rules.proofs.Sources.{From, from_nothing, from_itself, from_name, from_literal, from_value, first_from, unless_name}
use Rattle.carry_rules.proofs.Settling.{settled_own, settled_in, settled_in_all}
use Rattle.carry_proofs.proofs.Others.{ready_other}

pub or_put_name : (f q : Put) (x : Name) → or_put f q ≡ a_name x → (f ≡ a_name x) ⊎ (q ≡ a_name x)
or_put_name nothing q x e = inr e
or_put_name (a_name y) q x e = inl e
or_put_name (a_value v) q x e = inl e

or_put_none : (f q : Put) → or_put f q ≡ nothing → f ≡ nothing
or_put_none nothing q e = refl
or_put_none (a_name y) q e = e
or_put_none (a_value v) q e = e

or_put_same : (f q e : Put) → (f ≡ nothing) ⊎ (f ≡ e) → q ≡ e → or_put f q ≡ e
or_put_same f q e (inl i) j = ap₂ or_put i j
or_put_same f q e (inr i) j = ap₂ or_put i j ∙ itself_put e
  where
    itself_put : (q : Put) → or_put q q ≡ q
    itself_put nothing = refl
    itself_put (a_name x) = refl
    itself_put (a_value v) = refl

or_none : (f q : Put) → q ≡ nothing → or_put f q ≡ f
or_none f q e = ap (or_put f) e ∙ itself_or f
  where
    itself_or : (q : Put) → or_put q nothing ≡ q
    itself_or nothing = refl
    itself_or (a_name x) = refl
    itself_or (a_value v) = refl

in_either : {A B C : Type 0} → A ⊎ B → (A → C) → (B → C) → C
in_either (inl a) f g = f a
in_either (inr b) f g = g b

module _ (p : Pass) (F : Facts) (E : Last) (lex : Name → Bool) (free : fixed F default_name ≡ false) (set : F.unset default_name ≡ false) (idle_unset : (x : Name) → E.idle x ≡ true → F.unset x ≡ true) (unlexical : (x : Name) → lex x ≡ false → E.idle x ≡ false → E.values x ≡ nothing) where
  -- a name that stands for itself alone
  abbrev pub Root : Name → Type 0
  Root x = (F.steady x ≡ true) × (E.values x ≡ nothing)

  -- what is carried somewhere: of names that are ready what is carried in the end, and names that stand for themselves
  pub record Apt (s : Carried) : Type 0 where
    pub right : (x : Name) → (s.values x ≡ nothing) ⊎ (s.values x ≡ E.values x)
    pub ready : (x : Name) → s.ready x ≡ true → (F.steady x ≡ true) × (s.values x ≡ E.values x)
    pub targets : (y x : Name) → s.values y ≡ a_name x → Root x
    pub settled : (y x : Name) → s.settled y ≡ a_name x → Root x
    pub undefined : (x : Name) → E.values x ≡ a_value Undefined → s.values x ≡ E.values x

  carried_root : (r : Carried) → Apt r → (a x : Name) → carried r a ≡ a_name x → Root x
  carried_root r h a x e = by (or_put_name (r.values a) (r.settled a) x (unless_name r.quiet (or_put (r.values a) (r.settled a)) x e).1)
    where
      by : (r.values a ≡ a_name x) ⊎ (r.settled a ≡ a_name x) → Root x
      by (inl f) = h.targets a x f
      by (inr f) = h.settled a x f

  -- what is carried of a first value
  abbrev Rooted : Put → Type 0
  Rooted nothing = Unit {0}
  Rooted (a_name x) = Root x
  Rooted (a_value v) = Unit {0}

  rooted_from : (r : Carried) → Apt r → r.quiet ≡ false → {cs : Forest} {q : Put} → From r cs q → Rooted q
  rooted_from r h q from_nothing = tt
  rooted_from r h q (from_itself x rs i c e n) = let w = h.ready x e in (w.0, sym w.1 ∙ or_put_none (r.values x) (r.settled x) (ap (λ b. put_unless b (or_put (r.values x) (r.settled x))) (sym q) ∙ c))
  rooted_from r h q (from_name a x c e) = carried_root r h a x c
  rooted_from r h q (from_literal l rs v i e) = tt
  rooted_from r h q (from_value a v c d) = tt

  or_false : (a b : Bool) → (a || b) ≡ false → a ≡ false
  or_false false b e = refl
  or_false true b e = absurd (true≢false e)

  -- what a declarator carries
  first_root : (r : Carried) → Apt r → (b : Bool) (ss : List Span) (cs : Forest) (x : Name) → put_unless (r.quiet || b) (first_put p r ss cs) ≡ a_name x → Root x
  first_root r h b ss cs x e = let w = unless_name (r.quiet || b) (first_put p r ss cs) x e in subst Rooted w.1 (rooted_from r h (or_false r.quiet b w.0) (first_from p r ss cs))

  put_root : (f : Name → Put) (y : Name) (q : Put) → ((z x : Name) → f z ≡ a_name x → Root x) → ((x : Name) → q ≡ a_name x → Root x) → (z x : Name) → with_put y q f z ≡ a_name x → Root x
  put_root f y q h k z x e = by (same_name y z) e
    where
      each : (f z ≡ a_name x) ⊎ (q ≡ a_name x) → Root x
      each (inl i) = h z x i
      each (inr i) = k x i

      by : (b : Bool) → (if b then or_put (f z) q else f z) ≡ a_name x → Root x
      by true e = each (or_put_name (f z) q x e)
      by false e = h z x e

  -- what is carried of a name in the end stays so

  -- what a declarator adds: what is carried in the end, or nothing to what is undefined
  abbrev Adds : Name → Put → Type 0
  Adds y q = (E.values y ≡ q) ⊎ ((E.values y ≡ a_value Undefined) × (q ≡ nothing))

  adds : (r : Carried) (y : Name) (ss : List Span) (cs : Forest) → Enters p F E r y ss cs → Adds y (entry p F r y ss cs)
  adds r y ss cs (inl e) = inl e
  adds r y ss cs (inr e) = inr (e.0, ap (λ ts. entry p F r y ss ts) e.1 ∙ none (r.quiet || not (may_carry p F y)))
    where
      none : (b : Bool) → put_unless b nothing ≡ nothing
      none true = refl
      none false = refl

  put_stays : (f : Name → Put) (y : Name) (q : Put) → Adds y q → (x : Name) → f x ≡ E.values x → with_put y q f x ≡ E.values x
  put_stays f y q c x e = by (same_name y x) refl c
    where
      by : (b : Bool) → same_name y x ≡ b → Adds y q → (if b then or_put (f x) q else f x) ≡ E.values x
      by true i (inl c) = or_put_same (f x) q (E.values x) (inr e) (sym c ∙ ap E.values (same_name_path y x i))
      by true i (inr c) = or_none (f x) q c.1 ∙ e
      by false i c = e

  behind_stays : (l : Label) (ss : List Span) (cs : Forest) (r : Carried) → Carries p F E r l ss cs → (x : Name) → r.values x ≡ E.values x → (behind p F l ss cs r).values x ≡ E.values x
  behind_stays (Declarator Var y) ss cs r c x e = e
  behind_stays (Declarator Let y) ss cs r c x e = put_stays r.values y (entry p F r y ss cs) (adds r y ss cs c) x e
  behind_stays (Declarator Const y) ss cs r c x e = put_stays r.values y (entry p F r y ss cs) (adds r y ss cs c) x e
  behind_stays l ss cs r c x e = e

  mutual
    stays : (s : Carried) (t : Tree) → agrees p F E s t → (x : Name) → s.values x ≡ E.values x → (after p F s t).values x ≡ E.values x
    stays s (node l ss cs) a x e = behind_stays l ss cs (leave p F l s (after_all p F (enter p F l ss cs s) cs)) a.1 x (all_stay (enter p F l ss cs s) cs a.0 x e)

    all_stay : (s : Carried) (ts : Forest) → agrees_all p F E s ts → (x : Name) → s.values x ≡ E.values x → (after_all p F s ts).values x ≡ E.values x
    all_stay s ε a x e = e
    all_stay s (t ⊳ ts) a x e = all_stay (after p F s t) ts a.1 x (stays s t a.0 x e)

  -- along a tree

  apt_entered : (l : Label) (ss : List Span) (cs : Forest) (s : Carried) → every F lex (node l ss cs) → Apt s → Apt (enter p F l ss cs s)
  apt_entered l ss cs s v h = record { right = h.right; ready = λ x e. by x (or_cases (s.ready x) (ready_at l cs x && F.steady x) e); targets = h.targets; settled = λ y x e. at (is_function l) y x e; undefined = h.undefined }
    where
      at : (b : Bool) (y x : Name) → (if b then (λ (z : Name). nothing) else s.settled) y ≡ a_name x → Root x
      at true y x e = absurd (nothing≢name x e)
      at false y x e = h.settled y x e

      none : (x : Name) → E.values x ≡ nothing → (s.values x ≡ nothing) ⊎ (s.values x ≡ E.values x) → s.values x ≡ E.values x
      none x e (inl i) = i ∙ sym e
      none x e (inr i) = i

      by : (x : Name) → (s.ready x ≡ true) ⊎ ((ready_at l cs x && F.steady x) ≡ true) → (F.steady x ≡ true) × (s.values x ≡ E.values x)
      by x (inl e) = h.ready x e
      by x (inr e) = let q = and_parts (ready_at l cs x) (F.steady x) e in let o = ready_other F lex free set l ss cs v x q.0 in (q.1, none x (unlexical x (o.0 (or_left (F.steady x) (F.constant x) q.1)) (false_from_ne_true (E.idle x) (λ i. true≢false (sym (idle_unset x i) ∙ o.1)))) (h.right x))

  apt_left : (l : Label) (s t : Carried) → ((x : Name) → s.values x ≡ E.values x → t.values x ≡ E.values x) → Apt s → Apt t → Apt (leave p F l s t)
  apt_left l s t w h k = record { right = k.right; ready = λ x e. by (keeps_names l) x e; targets = k.targets; settled = λ y x e. at (groups l && s.listed) y x e; undefined = k.undefined }
    where
      by : (b : Bool) (x : Name) → (if b then t.ready else s.ready) x ≡ true → (F.steady x ≡ true) × (t.values x ≡ E.values x)
      by true x e = k.ready x e
      by false x e = let q = h.ready x e in (q.0, w x q.1)

      at : (b : Bool) (y x : Name) → (if b then t.settled else s.settled) y ≡ a_name x → Root x
      at true y x e = k.settled y x e
      at false y x e = h.settled y x e

  lexical_apt : (r : Carried) (y : Name) (ss : List Span) (cs : Forest) → Enters p F E r y ss cs → Apt r → Apt (record r { values = with_put y (entry p F r y ss cs) r.values; ready = λ z. r.ready z || (same_name y z && F.steady z) })
  lexical_apt r y ss cs c h = record {
    right = λ x. right x (same_name y x) refl (adds r y ss cs c) (h.right x);
    ready = λ x e. ready x (or_cases (r.ready x) (same_name y x && F.steady x) e);
    targets = put_root r.values y (entry p F r y ss cs) h.targets (λ x e. first_root r h (not (may_carry p F y)) ss cs x e);
    settled = h.settled;
    undefined = λ x e. put_stays r.values y (entry p F r y ss cs) (adds r y ss cs c) x (h.undefined x e);
  }
    where
      right : (x : Name) (b : Bool) → same_name y x ≡ b → Adds y (entry p F r y ss cs) → (r.values x ≡ nothing) ⊎ (r.values x ≡ E.values x) → ((if b then or_put (r.values x) (entry p F r y ss cs) else r.values x) ≡ nothing) ⊎ ((if b then or_put (r.values x) (entry p F r y ss cs) else r.values x) ≡ E.values x)
      right x true i (inl c) o = inr (or_put_same (r.values x) (entry p F r y ss cs) (E.values x) o (sym c ∙ ap E.values (same_name_path y x i)))
      right x true i (inr c) (inl o) = inl (or_none (r.values x) (entry p F r y ss cs) c.1 ∙ o)
      right x true i (inr c) (inr o) = inr (or_none (r.values x) (entry p F r y ss cs) c.1 ∙ o)
      right x false i c o = o

      own : (x : Name) (b : Bool) → b ≡ true → same_name y x ≡ true → Adds y (entry p F r y ss cs) → (if b then or_put (r.values x) (entry p F r y ss cs) else r.values x) ≡ E.values x
      own x true e i (inl c) = or_put_same (r.values x) (entry p F r y ss cs) (E.values x) (h.right x) (sym c ∙ ap E.values (same_name_path y x i))
      own x true e i (inr c) = or_none (r.values x) (entry p F r y ss cs) c.1 ∙ h.undefined x (ap E.values (sym (same_name_path y x i)) ∙ c.0)
      own x false e i c = absurd (false≢true e)

      ready : (x : Name) → (r.ready x ≡ true) ⊎ ((same_name y x && F.steady x) ≡ true) → (F.steady x ≡ true) × (with_put y (entry p F r y ss cs) r.values x ≡ E.values x)
      ready x (inl e) = let w = h.ready x e in (w.0, put_stays r.values y (entry p F r y ss cs) (adds r y ss cs c) x w.1)
      ready x (inr e) = let w = and_parts (same_name y x) (F.steady x) e in (w.1, own x (same_name y x) w.0 w.0 (adds r y ss cs c))

  apt_behind : (l : Label) (ss : List Span) (cs : Forest) (r : Carried) → Carries p F E r l ss cs → Apt r → Apt (behind p F l ss cs r)
  apt_behind (Declarator Var y) ss cs r c h = record { right = h.right; ready = h.ready; targets = h.targets; undefined = h.undefined; settled = put_root r.settled y (settling p F r y ss cs) h.settled (λ x e. first_root r h (not (r.listed && may_settle p F p y)) ss cs x e) }
  apt_behind (Declarator Let y) ss cs r c h = lexical_apt r y ss cs c h
  apt_behind (Declarator Const y) ss cs r c h = lexical_apt r y ss cs c h
  apt_behind l ss cs r c h = h

  mutual
    pub apt_after : (s : Carried) (t : Tree) → every F lex t → agrees p F E s t → Apt s → Apt (after p F s t)
    apt_after s (node l ss cs) v a h =
        let s1 : Carried = enter p F l ss cs s in
        apt_behind l ss cs (leave p F l s (after_all p F s1 cs)) a.1 (apt_left l s (after_all p F s1 cs) (λ x e. all_stay s1 cs a.0 x e) h (apt_all_after s1 cs v.1 a.0 (apt_entered l ss cs s v h)))

    apt_all_after : (s : Carried) (ts : Forest) → every_all F lex ts → agrees_all p F E s ts → Apt s → Apt (after_all p F s ts)
    apt_all_after s ε v a h = h
    apt_all_after s (t ⊳ ts) v a h = apt_all_after (after p F s t) ts v.1 a.1 (apt_after s t v.0 a.0 h)

  -- what is carried of variables stands for such names too

  own_root : (r : Carried) (l : Label) (ss : List Span) (cs : Forest) → Apt r → (y x : Name) → settled_own p F r l ss cs y ≡ a_name x → Root x
  own_root r (Declarator Var z) ss cs h y x e = by (same_name z y) e
    where
      by : (b : Bool) → (if b then settling p F r z ss cs else nothing) ≡ a_name x → Root x
      by true e = first_root r h (not (r.listed && may_settle p F p z)) ss cs x e
      by false e = absurd (nothing≢name x e)
  own_root r (Declarator Let z) ss cs h y x e = absurd (nothing≢name x e)
  own_root r (Declarator Const z) ss cs h y x e = absurd (nothing≢name x e)
  own_root r l ss cs h y x e = absurd (nothing≢name x e)

  mutual
    pub settled_root : (s : Carried) (t : Tree) → every F lex t → agrees p F E s t → Apt s → (y x : Name) → settled_in p F s t y ≡ a_name x → Root x
    settled_root s (node l ss cs) v a h y x e =
        let s1 : Carried = enter p F l ss cs s in
        let h1 : Apt s1 = apt_entered l ss cs s v h in
        in_either (or_put_name (settled_in_all p F s1 cs y) (settled_own p F (leave p F l s (after_all p F s1 cs)) l ss cs y) x e) (λ i. each_settled_root s1 cs v.1 a.0 h1 y x i)
        (λ i. own_root (leave p F l s (after_all p F s1 cs)) l ss cs (apt_left l s (after_all p F s1 cs) (λ z j. all_stay s1 cs a.0 z j) h (apt_all_after s1 cs v.1 a.0 h1)) y x i)

    each_settled_root : (s : Carried) (ts : Forest) → every_all F lex ts → agrees_all p F E s ts → Apt s → (y x : Name) → settled_in_all p F s ts y ≡ a_name x → Root x
    each_settled_root s ε v a h y x e = absurd (nothing≢name x e)
    each_settled_root s (t ⊳ ts) v a h y x e = in_either (or_put_name (settled_in p F s t y) (settled_in_all p F (after p F s t) ts y) x e) (λ i. settled_root s t v.0 a.0 h y x i) (λ i. each_settled_root (after p F s t) ts v.1 a.1 (apt_after s t v.0 a.0 h) y x i)
