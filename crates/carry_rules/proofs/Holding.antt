-- What holds of a tree wherever it stands, and lists of such trees.
use Rattle.std.proofs.Common.{◌≡◌, ◌≤◌, Bool, true, false, not, ◌&&◌, ◌||◌, List, Option, Some, None, refl, sym, ◌∙◌, arith, ◌⊎◌, inl, inr}
use Rattle.std.proofs.lemmas.Bool.{and_parts, and_from, or_cases, or_left, or_right, false≢true, true≢false}
use Rattle.swc_ast.specs.declared.Span.{Span}
use Rattle.swc_ast.specs.Tree.{Name, Label, Tree, node, Forest, ε, ◌⊳◌, children_of, label_of}
use Rattle.swc_ast.specs.Scope.{Declaration, Declared, Lexical, Function, has_name, vars, vars_all, found, declared, declared_by}
use Rattle.swc_ast.specs.Value.{Value, Undefined}
use Rattle.swc_ast.specs.Resolved.{scopes_all, own_scopes}
use Rattle.swc_ast.specs.Valid.{valid_all, good_names, good_shape}
use Rattle.meaning_proofs.specs.Roles.{holds_function}
use Rattle.static_proofs.specs.Shaped.{labels_of, all_labels, holds, are_shaped}
use Rattle.link_proofs.specs.Links.{IsLexical, lexical, KnownBirth, known_lexical, known_variable, Put, nothing, a_name, a_value, Ground, beside, calm, Opens, Good, Goods, no_good, more_good, Items, no_items, an_item, Begins, Functions, functions}
use Rattle.carry_rules.specs.Carry.{Pass, Facts, Carried, after, marks, marks_all}
use Rattle.carry_rules.proofs.Sound.{Last, wide, link_of, known_of, linked, knows, fixed, links, nothing≢value, waits_in, waits_all, waiting, waiting_in, splits, Sure, Sound, SoundTree, head_sound, tail_sound, Firm, Stands, agrees, agrees_all}
use Rattle.carry_rules.proofs.Shown.{no_params}
use Rattle.carry_rules.proofs.Standing.{flows, Flat, settled_after, listed_after, shaped_same, stands_after}
use Rattle.carry_rules.proofs.Alike.{Rights, rights_append, found_right, no_function, set_function}
use Rattle.carry_rules.proofs.Varying.{head_vars, tail_vars}
use Rattle.carry_rules.proofs.Places.{alone, begins, alone_no_params, begins_no_params}

-- everything that is known where a tree stands
pub record Here (p : Pass) (F : Facts) (E : Last) (lex : Name → Bool) (s : Carried) (G : Ground) (t : Tree) : Type 0 where
  -- names in scope, and more
  pub names : Name → Bool
  pub more : (x : Name) → G.names x ≡ true → names x ≡ true
  pub stands : Stands E (wide names G) s
  pub agree : agrees p F E s t
  pub firm : Firm E (wide names G)
  pub sound : SoundTree F lex (wide names G) (marks p F s t)
  pub within : (x : Name) → fixed F x ≡ true → waits_in t x ≡ true → names x ≡ true
  -- of variables that are declared here nothing is known yet
  pub sets : (x : Name) → F.variable x ≡ true → fixed F x ≡ false → has_name x (vars (marks p F s t)) ≡ true → G.sets x ≡ true

-- the same of trees of a list, where names N are in scope, or may be
pub record HereList (p : Pass) (F : Facts) (E : Last) (lex : Name → Bool) (s : Carried) (N : Name → Bool) (G : Ground) (ts : Forest) : Type 0 where
  pub more : (x : Name) → G.names x ≡ true → N x ≡ true
  pub stands : Stands E (wide N G) s
  pub agree : agrees_all p F E s ts
  pub firm : Firm E (wide N G)
  pub sound : Sound F lex (wide N G) (marks_all p F s ts)
  pub within : (x : Name) → fixed F x ≡ true → waits_all ts x ≡ true → N x ≡ true
  pub sets : (x : Name) → F.variable x ≡ true → fixed F x ≡ false → has_name x (vars_all (marks_all p F s ts)) ≡ true → G.sets x ≡ true

-- labels behind which nothing settles
abbrev pub still : Label → Bool
still l = not (flows l)

-- the same of trees outside lists
pub record HereAll (p : Pass) (F : Facts) (E : Last) (lex : Name → Bool) (s : Carried) (G : Ground) (ts : Forest) : Type 0 where
  pub names : Name → Bool
  pub list : HereList p F E lex s names G ts
  pub flat : (all_labels still (labels_of ts) ≡ true) ⊎ (s.listed ≡ false)

-- a node's children, where the node opens a scope or none
pub inner_sound : {F : Facts} {lex : Name → Bool} {G H : Ground} (l : Label) (ms : List Span) (cs : Forest) → SoundTree F lex G (node l ms cs) → ((x : Name) → H.names x ≡ true → (G.names x ≡ true) ⊎ (1 ≤ own_scopes x l cs)) → Sound F lex H cs
inner_sound {F} {lex} {G} {H} l ms cs h f = record {
  sits = h.sits.1;
  stays = h.stays.1;
  sole = λ x e. omega (arith, h.sole x e);
  once = λ x e. omega (arith, h.once x e);
  free = λ x e. by x (f x e);
  bound = λ x. omega (arith, h.bound x);
  shaped = (and_parts (holds l (labels_of cs)) (are_shaped cs) h.shaped).1;
  valid = (and_parts (good_names l && good_shape l cs) (valid_all cs) h.valid).1;
}
  where
    by : (x : Name) → (G.names x ≡ true) ⊎ (1 ≤ own_scopes x l cs) → scopes_all x cs ≡ 0
    by x (inl e) = omega (arith, h.free x e)
    by x (inr e) = omega (arith, h.bound x, e)

pub flat_head : (t : Tree) (ts : Forest) (b : Bool) → (all_labels still (labels_of (t ⊳ ts)) ≡ true) ⊎ (b ≡ false) → Flat (label_of t) b
flat_head (node l ss cs) ts b (inl e) = inl (by (flows l) (and_parts (still l) (all_labels still (labels_of ts)) e).0)
  where
    by : (c : Bool) → not c ≡ true → c ≡ false
    by true e = absurd (false≢true e)
    by false e = refl
flat_head t ts b (inr e) = inr e

flat_tail : (t : Tree) (ts : Forest) (b : Bool) → (all_labels still (labels_of (t ⊳ ts)) ≡ true) ⊎ (b ≡ false) → (all_labels still (labels_of ts) ≡ true) ⊎ (b ≡ false)
flat_tail (node l ss cs) ts b (inl e) = inl (and_parts (still l) (all_labels still (labels_of ts)) e).1
flat_tail t ts b (inr e) = inr e

-- the first tree of a list
abbrev pub list_head : {p : Pass} {F : Facts} {E : Last} {lex : Name → Bool} {s : Carried} {N : Name → Bool} {G : Ground} {t : Tree} {ts : Forest} → HereList p F E lex s N G (t ⊳ ts) → Here p F E lex s G t
list_head {p} {F} {s = s} {N} {t = t} {ts} h = record { names = N; more = h.more; stands = h.stands; agree = h.agree.0; firm = h.firm; sound = head_sound h.sound; within = λ x f e. h.within x f (or_left (waits_in t x) (waits_all ts x) e); sets = λ x v f e. h.sets x v f (head_vars (marks p F s t) (marks_all p F (after p F s t) ts) x e) }

module _ {p : Pass} {F : Facts} {E : Last} {lex : Name → Bool} (sure : Sure p F E lex) where
  pub head_here : {s : Carried} {G : Ground} {t : Tree} {ts : Forest} → HereAll p F E lex s G (t ⊳ ts) → Here p F E lex s G t
  head_here h = list_head h.list

  pub list_tail : {s : Carried} {N : Name → Bool} {G : Ground} {t : Tree} {ts : Forest} → all_labels no_params (labels_of (t ⊳ ε)) ≡ true → ((x : Name) → (after p F s t).settled x ≡ s.settled x) → HereList p F E lex s N G (t ⊳ ts) → HereList p F E lex (after p F s t) N G ts
  list_tail {s} {N} {G} {t} {ts} n l h = record {
    more = h.more;
    stands = stands_after sure t (sym (shaped_same p F s t) ∙ (head_sound h.sound).shaped) n (λ x f e. h.within x f (or_left (waits_in t x) (waits_all ts x) e)) l h.agree.0 h.stands;
    agree = h.agree.1;
    firm = h.firm;
    sound = tail_sound h.sound;
    within = λ x f e. h.within x f (or_right (waits_in t x) (waits_all ts x) e);
    sets = λ x v f e. h.sets x v f (tail_vars (marks p F s t) (marks_all p F (after p F s t) ts) x e);
  }

  pub tail_here : {s : Carried} {G : Ground} {t : Tree} {ts : Forest} → all_labels no_params (labels_of (t ⊳ ε)) ≡ true → HereAll p F E lex s G (t ⊳ ts) → HereAll p F E lex (after p F s t) G ts
  tail_here {s} {G} {t} {ts} n h = record { names = h.names; list = list_tail n (settled_after p F s t (flat_head t ts s.listed h.flat)) h.list; flat = by (flat_tail t ts s.listed h.flat) }
    where
      by : (all_labels still (labels_of ts) ≡ true) ⊎ (s.listed ≡ false) → (all_labels still (labels_of ts) ≡ true) ⊎ ((after p F s t).listed ≡ false)
      by (inl e) = inl e
      by (inr e) = inr (listed_after p F s t ∙ e)

  -- what holds of a tree
  pub record Holds (t : Tree) : Type 0 where
    pub good : (s : Carried) (G : Ground) → Here p F E lex s G t → Flat (label_of t) s.listed → alone (label_of t) ≡ true → Good (links F E) G (marks p F s t)
    pub begun : (s : Carried) (G : Ground) → Here p F E lex s G t → Flat (label_of t) s.listed → begins (label_of t) ≡ true → Begins (links F E) G (waiting_in F (marks p F s t)) (marks p F s t)
    pub right : (s : Carried) (G : Ground) → Here p F E lex s G t → Flat (label_of t) s.listed → begins (label_of t) ≡ true → Rights (links F E) F lex G (declared_by (marks p F s t))

  -- and of all trees below it
  mutual
    pub data Known : Tree → Type 0 where
      known : {l : Label} {ss : List Span} {cs : Forest} → Below cs → Holds (node l ss cs) → Known (node l ss cs)

    pub data Below : Forest → Type 0 where
      none_below : Below ε
      more_below : {t : Tree} {ts : Forest} → Known t → Below ts → Below (t ⊳ ts)

  pub holds_known : {t : Tree} → Known t → Holds t
  holds_known (known b h) = h

  pub below_known : {t : Tree} → Known t → Below (children_of t)
  below_known (known b h) = b

  head_is : (q : Label → Bool) (t : Tree) (ts : Forest) → all_labels q (labels_of (t ⊳ ts)) ≡ true → (q (label_of t) ≡ true) × (all_labels q (labels_of ts) ≡ true)
  head_is q (node l ss cs) ts e = and_parts (q l) (all_labels q (labels_of ts)) e

  single : (q : Label → Bool) (t : Tree) → q (label_of t) ≡ true → all_labels q (labels_of (t ⊳ ε)) ≡ true
  single q (node l ss cs) e = and_from (q l) true e refl

  pub goods : {ts : Forest} → Below ts → (s : Carried) (G : Ground) → HereAll p F E lex s G ts → all_labels alone (labels_of ts) ≡ true → Goods (links F E) G (marks_all p F s ts)
  goods none_below s G h a = no_good
  goods (more_below {t} {ts} k b) s G h a =
      let q = head_is alone t ts a in
      more_good ((holds_known k).good s G (head_here h) (flat_head t ts s.listed h.flat) q.0) (goods b (after p F s t) G (tail_here (single no_params t (alone_no_params (label_of t) q.0)) h) q.1)

  pub items : {ts : Forest} → Below ts → (s : Carried) (G : Ground) → HereAll p F E lex s G ts → all_labels begins (labels_of ts) ≡ true → Items (links F E) G (waiting F (marks_all p F s ts)) (marks_all p F s ts)
  items none_below s G h a = no_items
  items (more_below {t} {ts} k b) s G h a =
      let q = head_is begins t ts a in
      an_item (waiting_in F (marks p F s t)) (waiting F (marks_all p F (after p F s t) ts)) (splits F (marks p F s t) (marks_all p F (after p F s t) ts) h.list.sound.once) ((holds_known k).begun s G (head_here h) (flat_head t ts s.listed h.flat) q.0)
      (items b (after p F s t) G (tail_here (single no_params t (begins_no_params (label_of t) q.0)) h) q.1)

  -- what a list declares
  pub rights : {ts : Forest} → Below ts → (s : Carried) (G : Ground) → HereAll p F E lex s G ts → all_labels begins (labels_of ts) ≡ true → Rights (links F E) F lex G (declared (marks_all p F s ts))
  rights none_below s G h a = tt
  rights (more_below {t} {ts} k b) s G h a =
      let q = head_is begins t ts a in
      rights_append (links F E) F lex G (declared_by (marks p F s t)) (declared (marks_all p F (after p F s t) ts)) ((holds_known k).right s G (head_here h) (flat_head t ts s.listed h.flat) q.0) (rights b (after p F s t) G (tail_here (single no_params t (begins_no_params (label_of t) q.0)) h) q.1)

  -- the functions that a list declares
  pub functions_of : {G : Ground} (ts : Forest) → Rights (links F E) F lex G (declared ts) → Functions (links F E) G ts
  functions_of {G} ts r = functions (λ x f e. (found_right (links F E) F lex G (declared ts) r x (Function f) e).1)

  -- names that are carried are not idle, but where they are undefined
  carried_set : (x : Name) (q : Put) → E.values x ≡ q → (q ≡ nothing → ⊥) → (q ≡ a_value Undefined → ⊥) → (fixed F x ≡ true) × (lex x ≡ true)
  carried_set x q e n u = (by (fixed F x) refl, at (lex x) refl)
    where
      idle : E.idle x ≡ false
      idle = go (E.idle x) refl
        where
          go : (b : Bool) → E.idle x ≡ b → b ≡ false
          go false i = refl
          go true i = absurd (u (sym e ∙ sure.idle_value x i))

      by : (b : Bool) → fixed F x ≡ b → b ≡ true
      by true i = refl
      by false i = absurd (n (sym e ∙ sure.unfixed x i idle))

      at : (b : Bool) → lex x ≡ b → b ≡ true
      at true i = refl
      at false i = absurd (n (sym e ∙ sure.unlexical x i idle))

  name≢nothing : (x : Name) → a_name x ≡ nothing → ⊥
  name≢nothing x e = cc

  name≢value : (x : Name) (v : Value) → a_name x ≡ a_value v → ⊥
  name≢value x v e = cc

  pub link_fixed : (y x : Name) → link_of (E.values y) ≡ Some x → fixed F y ≡ true
  link_fixed y x e = (carried_set y (a_name x) (linked (E.values y) x e) (name≢nothing x) (name≢value x Undefined)).0

  pub link_lexical : (y x : Name) → link_of (E.values y) ≡ Some x → lex y ≡ true
  link_lexical y x e = (carried_set y (a_name x) (linked (E.values y) x e) (name≢nothing x) (name≢value x Undefined)).1

  -- a name with a known value is one of `let` or `const`, or it is never set
  pub data Knows (y : Name) (v : Value) : Type 0 where
    knows_lexical : fixed F y ≡ true → lex y ≡ true → Knows y v
    knows_unset : F.unset y ≡ true → v ≡ Undefined → Knows y v

  pub known_is : (y : Name) (v : Value) → known_of (E.values y) ≡ Some v → Knows y v
  known_is y v e = by (E.idle y) refl
    where
      value_same : {a b : Value} → a_value a ≡ a_value b → a ≡ b
      value_same e = cc

      by : (b : Bool) → E.idle y ≡ b → Knows y v
      by true i = knows_unset (sure.idle_unset y i) (value_same (sym (knows (E.values y) v e) ∙ sure.idle_value y i))
      by false i = knows_lexical (fix (fixed F y) refl) (at (lex y) refl)
        where
          fix : (b : Bool) → fixed F y ≡ b → b ≡ true
          fix true j = refl
          fix false j = absurd (nothing≢value v (sym (sure.unfixed y j i) ∙ knows (E.values y) v e))

          at : (b : Bool) → lex y ≡ b → b ≡ true
          at true j = refl
          at false j = absurd (nothing≢value v (sym (sure.unlexical y j i) ∙ knows (E.values y) v e))

  pub known_no_function : (G : Ground) (ps : List Declared) → Rights (links F E) F lex G ps → (y : Name) (v : Value) → known_of (E.values y) ≡ Some v → holds_function (found y ps) ≡ false
  known_no_function G ps r y v e = by (known_is y v e)
    where
      by : Knows y v → holds_function (found y ps) ≡ false
      by (knows_lexical f l) = no_function (links F E) F lex G ps r y f l
      by (knows_unset u i) = set_function (links F E) F lex G ps r y u

  -- how a known name is born, where a scope of variables binds it
  pub known_birth : (G : Ground) (ps : List Declared) → Rights (links F E) F lex G ps → (y : Name) (v : Value) → known_of (E.values y) ≡ Some v → (fixed F y ≡ true → lex y ≡ true → IsLexical (found y ps)) → KnownBirth v (found y ps)
  known_birth G ps r y v e h = by (known_is y v e)
    where
      birth : {o : Option Declaration} → IsLexical o → KnownBirth v o
      birth (lexical w) = known_lexical w

      unset : F.unset y ≡ true → v ≡ Undefined → (o : Option Declaration) → found y ps ≡ o → KnownBirth v o
      unset u i None j = known_variable i
      unset u i (Some (Lexical w)) j = known_lexical w
      unset u i (Some (Function g)) j = absurd (true≢false (sym u ∙ (found_right (links F E) F lex G ps r y (Function g) j).0.1))

      by : Knows y v → KnownBirth v (found y ps)
      by (knows_lexical f l) = birth (h f l)
      by (knows_unset u i) = unset u i (found y ps) refl

  pub fixed_link : (x : Name) → fixed F x ≡ true → (fixed F x || E.idle x) ≡ true
  fixed_link x e = or_left (fixed F x) (E.idle x) e

  pub constant_is_fixed : (x : Name) → F.constant x ≡ true → fixed F x ≡ true
  constant_is_fixed x e = or_right (F.steady x) (F.constant x) e

  -- more names in scope
  pub firm_wider : {G : Ground} (B : Name → Bool) → Firm E G → ((y x : Name) → E.values y ≡ a_name x → B y ≡ true → (B x || G.names x) ≡ true) → Firm E (beside B G)
  firm_wider {G} B h f = record {
    closed = λ y x e n. by y x e (or_cases (B y) (G.names y) n);
    settled_named = λ x e. or_right (B x) (G.names x) (h.settled_named x e);
    settled_closed = λ y x e i. or_right (B x) (G.names x) (h.settled_closed y x e i);
    sets_named = λ x e. at x (or_cases (B x) (G.sets x) e);
  }
    where
      by : (y x : Name) → E.values y ≡ a_name x → (B y ≡ true) ⊎ (G.names y ≡ true) → (B x || G.names x) ≡ true
      by y x e (inl n) = f y x e n
      by y x e (inr n) = or_right (B x) (G.names x) (h.closed y x e n)

      at : (x : Name) → (B x ≡ true) ⊎ (G.sets x ≡ true) → (B x || G.names x) ≡ true
      at x (inl e) = or_left (B x) (G.names x) e
      at x (inr e) = or_right (B x) (G.names x) (h.sets_named x e)

  -- in a function nothing is known of what is around
  pub firm_calm : (N : Name → Bool) (G : Ground) → Firm E (wide N G) → Firm E (wide N (calm G))
  firm_calm N G h = record { closed = h.closed; settled_named = λ x e. absurd (false≢true e); settled_closed = λ y x e i. absurd (false≢true e); sets_named = λ x e. absurd (false≢true e) }

  -- a scope that binds names which nothing around binds
  pub opens : {G : Ground} (N : Name → Bool) → ((x : Name) → G.names x ≡ true → N x ≡ true) → (B : Name → Bool) → Firm E (wide N G) → ((x : Name) → B x ≡ true → N x ≡ false) → Opens (links F E) G B
  opens {G} N m B h n = record {
    apart = λ y x l b c. by y x l b (G.names y) refl;
    settled = λ y e. none y (h.settled_named y e);
    settled_target = λ y x e i. none x (h.settled_closed y x e i);
  }
    where
      by : (y x : Name) → link_of (E.values y) ≡ Some x → B x ≡ true → (c : Bool) → G.names y ≡ c → c ≡ false
      by y x l b false e = refl
      by y x l b true e = absurd (true≢false (sym (h.closed y x (linked (E.values y) x l) (m y e)) ∙ n x b))

      none : (y : Name) → N y ≡ true → B y ≡ false
      none y e = at (B y) refl
        where
          at : (b : Bool) → B y ≡ b → b ≡ false
          at false i = refl
          at true i = absurd (true≢false (sym e ∙ n y i))
