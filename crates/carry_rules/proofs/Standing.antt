-- What is carried behind a tree, and that what is known of it stays so.
use Rattle.std.proofs.Common.{◌≡◌, Bool, true, false, not, ◌&&◌, ◌||◌, List, ◌∷◌, refl, sym, ap, ap₂, ◌∙◌, ◌⊎◌, inl, inr, if◌then◌else◌}
use Rattle.std.proofs.lemmas.Bool.{and_parts, or_cases, or_left, or_right, false≢true, true≢false}
use Rattle.swc_ast.specs.declared.Span.{Span}
use Rattle.swc_ast.specs.declared.VarDeclKind.TheVariants.{Var, Let, Const}
use Rattle.swc_ast.specs.Tree.{Name, same_name, Label, VarDecl, Declarator, ExportDecl, Tree, node, Forest, ε, ◌⊳◌, label_of}
use Rattle.swc_ast.specs.Scope.{is_function}
use Rattle.static_proofs.specs.Shaped.{labels_of, all_labels, holds, is_shaped, are_shaped}
use Rattle.static_proofs.proofs.Names.{same_name_path}
use Rattle.link_proofs.specs.Links.{Put, nothing, a_name, a_value, Ground}
use Rattle.carry_rules.specs.Carry.{Pass, Facts, Carried, put_unless, or_put, with_put, groups, may_carry, may_settle, entry, settling, first_put, enter, leave, behind, after, after_all, ready_at, marks, marks_all}
use Rattle.carry_rules.proofs.Sound.{fixed, waits_in, Last, Sure, Stands, Enters, Carries, agrees, agrees_all}
use Rattle.carry_rules.proofs.Shown.{no_params, shown, shown_waits, ready_after}

or_same : (q : Put) → or_put q q ≡ q
or_same nothing = refl
or_same (a_name x) = refl
or_same (a_value v) = refl

pub or_nothing : (q : Put) → or_put q nothing ≡ q
or_nothing nothing = refl
or_nothing (a_name x) = refl
or_nothing (a_value v) = refl

pub unless_nothing : (b : Bool) → put_unless b nothing ≡ nothing
unless_nothing true = refl
unless_nothing false = refl

pub put_unless_true : (b : Bool) (q : Put) → b ≡ true → put_unless b q ≡ nothing
put_unless_true true q e = refl
put_unless_true false q e = absurd (false≢true e)

-- nodes behind which more may be carried of variables, where a list stands around
abbrev pub flows : Label → Bool
flows (VarDecl kind) = true
flows ExportDecl = true
flows (Declarator Var x) = true
flows _ = false

-- behind a tree no more is carried of variables
abbrev pub Flat : Label → Bool → Type 0
Flat l b = (flows l ≡ false) ⊎ (b ≡ false)

flows_grouped : (l : Label) → flows l ≡ false → groups l ≡ false
flows_grouped (VarDecl kind) e = absurd (true≢false e)
flows_grouped ExportDecl e = absurd (true≢false e)
flows_grouped l e = refl

no_group : (l : Label) (b : Bool) → Flat l b → (groups l && b) ≡ false
no_group l b (inl e) = ap (λ c. c && b) (flows_grouped l e)
no_group l b (inr e) = by (groups l) b e
  where
    by : (c b : Bool) → b ≡ false → (c && b) ≡ false
    by true b e = e
    by false b e = refl

module _ (p : Pass) (F : Facts) where
  -- outside lists nothing settles
  pub settling_unlisted : (r : Carried) (x : Name) (ss : List Span) (cs : Forest) → r.listed ≡ false → settling p F r x ss cs ≡ nothing
  settling_unlisted r x ss cs e = put_unless_true (r.quiet || not (r.listed && may_settle p F p x)) (first_put p r ss cs) (or_right r.quiet (not (r.listed && may_settle p F p x)) (ap (λ b. not (b && may_settle p F p x)) e))

  pub put_none : (y : Name) (q : Put) (f : Name → Put) (x : Name) → q ≡ nothing → with_put y q f x ≡ f x
  put_none y q f x e = by (same_name y x)
    where
      by : (b : Bool) → (if b then or_put (f x) q else f x) ≡ f x
      by true = ap (or_put (f x)) e ∙ or_nothing (f x)
      by false = refl

  settled_behind : (l : Label) (ss : List Span) (cs : Forest) (r : Carried) (b : Bool) → r.listed ≡ b → Flat l b → (x : Name) → (behind p F l ss cs r).settled x ≡ r.settled x
  settled_behind (Declarator Var y) ss cs r b i (inl e) x = absurd (true≢false e)
  settled_behind (Declarator Var y) ss cs r b i (inr e) x = put_none y (settling p F r y ss cs) r.settled x (settling_unlisted r y ss cs (i ∙ e))
  settled_behind (Declarator Let y) ss cs r b i f x = refl
  settled_behind (Declarator Const y) ss cs r b i f x = refl
  settled_behind l ss cs r b i f x = refl

  pub settled_after : (s : Carried) (t : Tree) → Flat (label_of t) s.listed → (x : Name) → (after p F s t).settled x ≡ s.settled x
  settled_after s (node l ss cs) f x = settled_behind l ss cs (leave p F l s (after_all p F (enter p F l ss cs s) cs)) s.listed refl f x ∙ left (groups l && s.listed) (no_group l s.listed f)
    where
      left : (b : Bool) → b ≡ false → (if b then (after_all p F (enter p F l ss cs s) cs).settled else s.settled) x ≡ s.settled x
      left true e = absurd (true≢false e)
      left false e = refl

  listed_behind : (l : Label) (ss : List Span) (cs : Forest) (r : Carried) → (behind p F l ss cs r).listed ≡ r.listed
  listed_behind (Declarator Var y) ss cs r = refl
  listed_behind (Declarator Let y) ss cs r = refl
  listed_behind (Declarator Const y) ss cs r = refl
  listed_behind l ss cs r = refl

  pub listed_after : (s : Carried) (t : Tree) → (after p F s t).listed ≡ s.listed
  listed_after s (node l ss cs) = listed_behind l ss cs (leave p F l s (after_all p F (enter p F l ss cs s) cs))

  quiet_behind : (l : Label) (ss : List Span) (cs : Forest) (r : Carried) → (behind p F l ss cs r).quiet ≡ r.quiet
  quiet_behind (Declarator Var y) ss cs r = refl
  quiet_behind (Declarator Let y) ss cs r = refl
  quiet_behind (Declarator Const y) ss cs r = refl
  quiet_behind l ss cs r = refl

  pub quiet_after : (s : Carried) (t : Tree) → (after p F s t).quiet ≡ s.quiet
  quiet_after s (node l ss cs) = quiet_behind l ss cs (leave p F l s (after_all p F (enter p F l ss cs s) cs))

  -- what is put is what is put in the end
  pub fitting_put : (e f : Name → Put) (x : Name) (q : Put) → e x ≡ q → ((y : Name) → (f y ≡ nothing) ⊎ (f y ≡ e y)) → (y : Name) → (with_put x q f y ≡ nothing) ⊎ (with_put x q f y ≡ e y)
  fitting_put e f x q i h y = by (same_name x y) refl (h y)
    where
      same : (g : Put) → e y ≡ q → (g ≡ nothing) ⊎ (g ≡ e y) → (or_put g q ≡ nothing) ⊎ (or_put g q ≡ e y)
      same g i (inl j) = inr (ap (λ g. or_put g q) j ∙ sym i)
      same g i (inr j) = inr (ap₂ or_put j (sym i) ∙ or_same (e y))

      by : (b : Bool) → same_name x y ≡ b → (f y ≡ nothing) ⊎ (f y ≡ e y) → ((if b then or_put (f y) q else f y) ≡ nothing) ⊎ ((if b then or_put (f y) q else f y) ≡ e y)
      by true j g = same (f y) (ap e (sym (same_name_path x y j)) ∙ i) g
      by false j g = g

  -- what is carried is what is carried in the end
  module _ (E : Last) where
    abbrev Right : Carried → Type 0
    Right s = (x : Name) → (s.values x ≡ nothing) ⊎ (s.values x ≡ E.values x)

    abbrev Laid : Carried → Type 0
    Laid s = (x : Name) → (s.settled x ≡ nothing) ⊎ (s.settled x ≡ E.settled x)

    right_entered : (s : Carried) (y : Name) (ss : List Span) (cs : Forest) → Enters p F E s y ss cs → Right s → (x : Name) → (with_put y (entry p F s y ss cs) s.values x ≡ nothing) ⊎ (with_put y (entry p F s y ss cs) s.values x ≡ E.values x)
    right_entered s y ss cs (inl e) h x = fitting_put E.values s.values y (entry p F s y ss cs) e h x
    right_entered s y ss ε (inr e) h x = same (put_none y (entry p F s y ss ε) s.values x (unless_nothing (s.quiet || not (may_carry p F y)))) (h x)
      where
        same : {q r : Put} → q ≡ r → (r ≡ nothing) ⊎ (r ≡ E.values x) → (q ≡ nothing) ⊎ (q ≡ E.values x)
        same i (inl j) = inl (i ∙ j)
        same i (inr j) = inr (i ∙ j)
    right_entered s y ss (t ⊳ ts) (inr e) h x = absurd (more≢none e.1)
      where
        more≢none : (t ⊳ ts) ≡ ε → ⊥
        more≢none e = cc

    right_behind : (s : Carried) (l : Label) (ss : List Span) (cs : Forest) → Carries p F E s l ss cs → Right s → Right (behind p F l ss cs s)
    right_behind s (Declarator Var y) ss cs e h = h
    right_behind s (Declarator Let y) ss cs e h = right_entered s y ss cs e h
    right_behind s (Declarator Const y) ss cs e h = right_entered s y ss cs e h
    right_behind s l ss cs e h = h

    mutual
      pub right_after : (s : Carried) (t : Tree) → agrees p F E s t → Right s → Right (after p F s t)
      right_after s (node l ss cs) a h = right_behind (leave p F l s (after_all p F (enter p F l ss cs s) cs)) l ss cs a.1 (right_all_after (enter p F l ss cs s) cs a.0 h)

      pub right_all_after : (s : Carried) (ts : Forest) → agrees_all p F E s ts → Right s → Right (after_all p F s ts)
      right_all_after s ε a h = h
      right_all_after s (t ⊳ ts) a h = right_all_after (after p F s t) ts a.1 (right_after s t a.0 h)

    laid_behind : (s : Carried) (l : Label) (ss : List Span) (cs : Forest) → Carries p F E s l ss cs → Laid s → Laid (behind p F l ss cs s)
    laid_behind s (Declarator Var y) ss cs e h = fitting_put E.settled s.settled y (settling p F s y ss cs) e.0 h
    laid_behind s (Declarator Let y) ss cs e h = h
    laid_behind s (Declarator Const y) ss cs e h = h
    laid_behind s l ss cs e h = h

    laid_left : (l : Label) (s t : Carried) → Laid s → Laid t → Laid (leave p F l s t)
    laid_left l s t h g x = by (groups l && s.listed)
      where
        by : (b : Bool) → ((if b then t.settled else s.settled) x ≡ nothing) ⊎ ((if b then t.settled else s.settled) x ≡ E.settled x)
        by true = g x
        by false = h x

    pub laid_entered : (s : Carried) (l : Label) (ss : List Span) (cs : Forest) → Laid s → Laid (enter p F l ss cs s)
    laid_entered s l ss cs h x = by (is_function l)
      where
        by : (b : Bool) → ((if b then (λ (y : Name). nothing) else s.settled) x ≡ nothing) ⊎ ((if b then (λ (y : Name). nothing) else s.settled) x ≡ E.settled x)
        by true = inl refl
        by false = h x

    mutual
      pub laid_after : (s : Carried) (t : Tree) → agrees p F E s t → Laid s → Laid (after p F s t)
      laid_after s (node l ss cs) a h = laid_behind (leave p F l s (after_all p F (enter p F l ss cs s) cs)) l ss cs a.1 (laid_left l s (after_all p F (enter p F l ss cs s) cs) h (laid_all_after (enter p F l ss cs s) cs a.0 (laid_entered s l ss cs h)))

      pub laid_all_after : (s : Carried) (ts : Forest) → agrees_all p F E s ts → Laid s → Laid (after_all p F s ts)
      laid_all_after s ε a h = h
      laid_all_after s (t ⊳ ts) a h = laid_all_after (after p F s t) ts a.1 (laid_after s t a.0 h)

-- the shape is the same
module _ (p : Pass) (F : Facts) where
  pub labels_same : (s : Carried) (ts : Forest) → labels_of (marks_all p F s ts) ≡ labels_of ts
  labels_same s ε = refl
  labels_same s (node l ss cs ⊳ ts) = ap (λ ls. l ∷ ls) (labels_same (after p F s (node l ss cs)) ts)

  mutual
    pub shaped_same : (s : Carried) (t : Tree) → is_shaped (marks p F s t) ≡ is_shaped t
    shaped_same s (node l ss cs) = ap₂ (λ ls b. holds l ls && b) (labels_same (enter p F l ss cs s) cs) (are_shaped_same (enter p F l ss cs s) cs)

    pub are_shaped_same : (s : Carried) (ts : Forest) → are_shaped (marks_all p F s ts) ≡ are_shaped ts
    are_shaped_same s ε = refl
    are_shaped_same s (t ⊳ ts) = ap₂ ◌&&◌ (shaped_same s t) (are_shaped_same (after p F s t) ts)

module _ {p : Pass} {F : Facts} {E : Last} {lex : Name → Bool} (sure : Sure p F E lex) where
  -- where a node begins
  pub stands_entered : {G : Ground} {s : Carried} (l : Label) (ss : List Span) (cs : Forest) → ((x : Name) → ready_at l cs x ≡ true → G.names x ≡ true) → Stands E G s → Stands E G (enter p F l ss cs s)
  stands_entered {G} {s} l ss cs f h = record { ready = λ x e. by x (or_cases (s.ready x) (ready_at l cs x && F.steady x) e); right = h.right; settled = λ x. at x (is_function l) }
    where
      by : (x : Name) → (s.ready x ≡ true) ⊎ ((ready_at l cs x && F.steady x) ≡ true) → G.names x ≡ true
      by x (inl e) = h.ready x e
      by x (inr e) = f x (and_parts (ready_at l cs x) (F.steady x) e).0

      at : (x : Name) (b : Bool) → ((if b then (λ (y : Name). nothing) else s.settled) x ≡ nothing) ⊎ (((if b then (λ (y : Name). nothing) else s.settled) x ≡ E.settled x) × (G.settled x ≡ true))
      at x true = inl refl
      at x false = h.settled x

  -- behind a tree
  pub stands_after : {G : Ground} {s : Carried} (t : Tree) → is_shaped t ≡ true → all_labels no_params (labels_of (t ⊳ ε)) ≡ true → ((x : Name) → fixed F x ≡ true → waits_in t x ≡ true → G.names x ≡ true) → ((x : Name) → (after p F s t).settled x ≡ s.settled x) → agrees p F E s t → Stands E G s → Stands E G (after p F s t)
  stands_after {G} {s} t i n f l a h = record { ready = λ x e. by x (ready_after p F s t x e); right = right_after p F E s t a h.right; settled = λ x. at x (l x) (h.settled x) }
    where
      by : (x : Name) → (s.ready x ≡ true) ⊎ ((shown t x ≡ true) × (F.steady x ≡ true)) → G.names x ≡ true
      by x (inl e) = h.ready x e
      by x (inr e) = f x (or_left (F.steady x) (F.constant x) e.1) (shown_waits t x i n e.0)

      at : (x : Name) → (after p F s t).settled x ≡ s.settled x → (s.settled x ≡ nothing) ⊎ ((s.settled x ≡ E.settled x) × (G.settled x ≡ true)) → ((after p F s t).settled x ≡ nothing) ⊎ (((after p F s t).settled x ≡ E.settled x) × (G.settled x ≡ true))
      at x e (inl g) = inl (e ∙ g)
      at x e (inr g) = inr (e ∙ g.0, g.1)

  -- where more names are in scope
  pub stands_wider : {G H : Ground} {s : Carried} → ((x : Name) → G.names x ≡ true → H.names x ≡ true) → ((x : Name) → G.settled x ≡ true → H.settled x ≡ true) → Stands E G s → Stands E H s
  stands_wider {G} {H} {s} f g h = record { ready = λ x e. f x (h.ready x e); right = h.right; settled = λ x. at x (h.settled x) }
    where
      at : (x : Name) → (s.settled x ≡ nothing) ⊎ ((s.settled x ≡ E.settled x) × (G.settled x ≡ true)) → (s.settled x ≡ nothing) ⊎ ((s.settled x ≡ E.settled x) × (H.settled x ≡ true))
      at x (inl e) = inl e
      at x (inr e) = inr (e.0, g x e.1)

  -- where nothing is carried of variables
  pub stands_calm : {G H : Ground} {s : Carried} → ((x : Name) → G.names x ≡ true → H.names x ≡ true) → ((x : Name) → s.settled x ≡ nothing) → Stands E G s → Stands E H s
  stands_calm f n h = record { ready = λ x e. f x (h.ready x e); right = h.right; settled = λ x. inl (n x) }
