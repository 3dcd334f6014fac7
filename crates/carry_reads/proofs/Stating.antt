-- What is carried at a place: at the head of a node, and behind it.
use Rattle.std.proofs.Common.{◌≡◌, ℕ, ◌<◌, Bool, true, false, ◌&&◌, ◌||◌, List, length, Option, Some, None, refl, sym, ap, subst, ◌∙◌, arith}
use Rattle.std.proofs.lemmas.Bool.{and_parts, false≢true}
use Rattle.std.specs.Prelude.{nat_le, is_some, option_and_then, slice_get, if◌then◌else◌}
use Rattle.swc_ast.specs.declared.Span.{Span}
use Rattle.swc_ast.specs.Scope.{is_function}
use Rattle.swc_ast.specs.Tree.{Name, Label, VarDecl, ExportDecl, Tree, Forest, label_of, children_of}
use Rattle.link_proofs.specs.Links.{Put, nothing}
use Rattle.carry_rules.specs.Carry as carry
use Rattle.carry_rules.specs.Carry.{Carried, or_put, starting, groups, is_nowhere, is_declaring, keeps_names, ready_at, enter, leave}
use Rattle.carry_parts.specs.Carries.{pass_of, puts_of}
use Rattle.carry_parts.specs.declared.carry.Carry.{Carry}
use Rattle.carry_tables.specs.Tables.{item_of, height, Keeps, Rewinds}
use Rattle.carry_tables.specs.declared.table.NameTable.{NameTable}
use Rattle.carry_tables.specs.declared.scoped.Scoped.{Scoped}
use Rattle.carry_vars.specs.declared.vars.Vars.{Vars}
use Rattle.carry_reads.specs.declared.place.Place.{Place}
use Rattle.carry_reads.specs.declared.reader.Reader.{Reader}
use Rattle.carry_reads.specs.declared.settled.Settled.{Settled}
use Rattle.carry_reads.specs.declared.tables.Mark.{Mark}
use Rattle.carry_reads.specs.declared.tables.Tables.{Tables}
use Rattle.carry_reads.specs.Fronts.{is_set, ready_of, names_in, Adds}
use Rattle.carry_reads.specs.Values.{value_from, named}
use Rattle.carry_reads.specs.Settles.{numbered, settled_of, Within, Grows}
use Rattle.carry_reads.specs.States.{facts_of, state_of, below_of, Fits, Grown, Rewound, Leaves}
use Rattle.carry_reads.proofs.Undoing.{keeps_itself, keeps_on, undone_items, undone_keeps}
use Rattle.carry_reads.proofs.Settling.{none_next, grows_itself, grows_on}

-- states that are alike in each part
pub same_state : (s t : Carried) → ((x : Name) → s.values x ≡ t.values x) → ((x : Name) → s.settled x ≡ t.settled x) → ((x : Name) → s.ready x ≡ t.ready x) → s.dummy ≡ t.dummy → s.listed ≡ t.listed → s.quiet ≡ t.quiet → s ≡ t
same_state s t v d r a b c = λ i. record { values = λ x. v x i; settled = λ x. d x i; ready = λ x. r x i; dummy = a i; listed = b i; quiet = c i }

-- tables that grow

pub grown_itself : (u : Tables) → Grown u u
grown_itself u = record { values = λ x. refl; settled = grows_itself u.settled; ready = keeps_itself u.ready; names = λ x. refl }

pub grown_on : {u v w : Tables} → Grown u v → Grown v w → Grown u w
grown_on {u} {v} {w} g h = record {
  values = λ x. h.values x ∙ g.values x;
  settled = grows_on g.settled h.settled;
  ready = keeps_on g.ready h.ready;
  names = λ x. h.names x ∙ g.names x;
}

pub grown_fits : {v : Vars} {u w : Tables} → Grown u w → Fits v u → Fits v w
grown_fits {v} {u} {w} g f = record {
  values = λ x i. g.values x ∙ f.values x i;
  settled = λ x i. g.settled.names x ∙ f.settled x i;
  ready = λ x i. g.names x ∙ f.ready x i;
  within = g.settled.within f.within;
}

pub added_grown : {v : Vars} (u : Tables) (w : Scoped) {more : Name → Bool} → Adds v u.ready w more → Grown u (record u { ready = w })
added_grown u w a = record { values = λ x. refl; settled = grows_itself u.settled; ready = a.keeps; names = a.names }

-- names made ready at the head of a node, by what it is opened as
pub front_opened : {v : Vars} {u w : Scoped} (t : Tree) (l : Label) (cs : Forest) → label_of t ≡ l → children_of t ≡ cs → Adds v u w (ready_at (label_of t) (children_of t)) → Adds v u w (ready_at l cs)
front_opened {v} {u} {w} t l cs labelled held a = subst (λ k. Adds v u w (ready_at k cs)) labelled (subst (λ ds. Adds v u w (ready_at (label_of t) ds)) held a)

-- at the head of a node

module _ (r : Reader) (q : Place) (u : Tables) (w : Scoped) (l : Label) (ss : List Span) (cs : Forest) where
  pub entered : (next : ℕ) (nowhere : Bool) → Within u.settled → next ≡ length u.settled.carries.items → nowhere ≡ (groups l && is_nowhere ss) → Adds r.vars u.ready w (ready_at l cs)
      → state_of r (record u { ready = w }) (below_of (pass_of r.pass) l nowhere next q) ≡ enter (pass_of r.pass) (facts_of r.vars) l ss cs (state_of r u q)
  entered next nowhere within is stands a = same_state
      (state_of r (record u { ready = w }) (below_of (pass_of r.pass) l nowhere next q))
      (enter (pass_of r.pass) (facts_of r.vars) l ss cs (state_of r u q))
      (λ x. refl) (λ x. by x (is_function l)) a.ready (ap (λ b. b || (is_declaring l && q.dummy)) stands) refl refl
    where
      by : (x : Name) (b : Bool) → settled_of u.settled (if b then next else q.base) x ≡ (if b then (λ (y : Name). nothing) else settled_of u.settled q.base) x
      by x true = ap (λ n. settled_of u.settled n x) is ∙ none_next u.settled within x
      by x false = refl

-- behind it

-- what had a number has it
pub numbered_before : (u v : Settled) (base : ℕ) (x : Name) → Grows u v → Within u → numbered v.carries.items base (item_of u.numbers x) ≡ settled_of u base x
numbered_before u v base x g within = by (item_of u.numbers x) refl
  where
    by : (o : Option ℕ) → item_of u.numbers x ≡ o → numbered v.carries.items base o ≡ numbered u.carries.items base o
    by None e = refl
    by (Some n) e = ap (λ r. if nat_le base n then puts_of (option_and_then (λ p. p) r) else nothing) (g.carries n (within x n e))

no_function : (l : Label) → groups l ≡ true → is_function l ≡ false
no_function (VarDecl k) e = refl
no_function ExportDecl e = refl
no_function l e = absurd (false≢true e)

-- a table behind a node
module _ (u v w : Scoped) (k : Keeps u v) where
  pub rewound_keeps : (b : Bool) (h : ℕ) → h ≡ height u → Rewound b h v w → Keeps u w
  rewound_keeps true h is r = subst (Keeps u) (sym (r.kept refl)) k
  rewound_keeps false h is r = undone_keeps u v w k (subst (λ n. Rewinds n v w) is (r.undone refl))

  pub rewound_items : (h : ℕ) → h ≡ height u → Rewound false h v w → (x : Name) → item_of w x ≡ item_of u x
  rewound_items h is r x = undone_items u v w k (subst (λ n. Rewinds n v w) is (r.undone refl)) x

  pub rewound_names : (b : Bool) (h : ℕ) → h ≡ height u → Rewound b h v w → ((x : Name) → names_in v x ≡ names_in u x) → (x : Name) → names_in w x ≡ names_in u x
  rewound_names true h is r n x = ap (λ z. names_in z x) (r.kept refl) ∙ n x
  rewound_names false h is r n x = ap is_some (rewound_items h is r x)

-- what is settled behind a node
module _ (u v w : Settled) (g : Grows u v) (same : w.carries ≡ v.carries) where
  pub rewound_grows : (b : Bool) (h : ℕ) → h ≡ height u.numbers → Rewound b h v.numbers w.numbers → Grows u w
  rewound_grows b h is r = record {
    numbers = rewound_keeps u.numbers v.numbers w.numbers g.numbers b h is r;
    names = rewound_names u.numbers v.numbers w.numbers g.numbers b h is r g.names;
    longer = omega (arith, g.longer, ap (λ c. length c.items) same);
    carries = λ n i. ap (λ c. slice_get c.items n) same ∙ g.carries n i;
    within = λ i x n e. by i x n e b r;
  }
    where
      by : Within u → (x : Name) (n : ℕ) → item_of w.numbers x ≡ Some n → (c : Bool) → Rewound c h v.numbers w.numbers → n < length w.carries.items
      by i x n e true r = omega (arith, g.within i x n (ap (λ z. item_of z x) (sym (r.kept refl)) ∙ e), ap (λ c. length c.items) same)
      by i x n e false r = omega (arith, i x n (sym (rewound_items u.numbers v.numbers w.numbers g.numbers h is r x) ∙ e), g.longer, ap (λ c. length c.items) same)

  pub settled_kept : (h base : ℕ) → Rewound true h v.numbers w.numbers → (x : Name) → settled_of w base x ≡ settled_of v base x
  settled_kept h base r x = ap (λ c. numbered c.items base (item_of w.numbers x)) same ∙ ap (λ z. numbered v.carries.items base (item_of z x)) (r.kept refl)

  pub settled_undone : (h base : ℕ) → h ≡ height u.numbers → Within u → Rewound false h v.numbers w.numbers → (x : Name) → settled_of w base x ≡ settled_of u base x
  settled_undone h base is within r x =
      ap (λ c. numbered c.items base (item_of w.numbers x)) same
      ∙ ap (numbered v.carries.items base) (rewound_items u.numbers v.numbers w.numbers g.numbers h is r x)
      ∙ numbered_before u v base x g within

module _ (r : Reader) (q : Place) (u v w : Tables) (m : Mark) (l : Label) (g : Grown u v) (at_settled : m.settled ≡ height u.settled.numbers) (at_ready : m.ready ≡ height u.ready) (left : Leaves (groups l && q.listed) (keeps_names l) m v w) where
  pub left_grown : Grown u w
  left_grown = record {
    values = λ x. ap (λ t. named t x) left.values ∙ g.values x;
    settled = rewound_grows u.settled v.settled w.settled g.settled left.carries (groups l && q.listed) m.settled at_settled left.numbers;
    ready = rewound_keeps u.ready v.ready w.ready g.ready (keeps_names l) m.ready at_ready left.ready;
    names = rewound_names u.ready v.ready w.ready g.ready (keeps_names l) m.ready at_ready left.ready g.names;
  }

  pub left_state : (p : carry.Pass) (nowhere : Bool) (next : ℕ) → Within u.settled → state_of r w q ≡ leave (pass_of r.pass) (facts_of r.vars) l (state_of r u q) (state_of r v (below_of p l nowhere next q))
  left_state p nowhere next within = same_state (state_of r w q) (leave (pass_of r.pass) (facts_of r.vars) l (state_of r u q) (state_of r v below))
      (λ x. ap (λ t. value t x) left.values)
      (λ x. settled x (groups l && q.listed) refl left.numbers)
      (λ x. ready x (keeps_names l) left.ready)
      refl refl refl
    where
      below : Place
      below = below_of p l nowhere next q

      value : NameTable (Option Carry) → Name → Put
      value t x = or_put ((starting (pass_of r.pass) (facts_of r.vars)).values x) (value_from t x)

      settled : (x : Name) (b : Bool) → (groups l && q.listed) ≡ b → Rewound b m.settled v.settled.numbers w.settled.numbers → settled_of w.settled q.base x ≡ (if b then settled_of v.settled below.base else settled_of u.settled q.base) x
      settled x true e k =
          settled_kept u.settled v.settled w.settled g.settled left.carries m.settled q.base k x
          ∙ ap (λ c. settled_of v.settled (if c then next else q.base) x) (sym (no_function l (and_parts (groups l) q.listed e).0))
      settled x false e k = settled_undone u.settled v.settled w.settled g.settled left.carries m.settled q.base at_settled within k x

      ready : (x : Name) (b : Bool) → Rewound b m.ready v.ready w.ready → ready_of w.ready x ≡ (if b then ready_of v.ready else ready_of u.ready) x
      ready x true k = ap (λ z. ready_of z x) (k.kept refl)
      ready x false k = ap is_set (rewound_items u.ready v.ready w.ready g.ready m.ready at_ready k x)
