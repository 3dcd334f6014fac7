-- Items of a list, where variables settle for those that follow.
use Rattle.std.proofs.Common.{◌≡◌, ◌+◌, ◌≤◌, Bool, true, false, not, ◌&&◌, ◌||◌, List, [], ◌∷◌, refl, sym, ap, subst, ◌∙◌, arith, ◌⊎◌, inl, inr, if◌then◌else◌}
use Rattle.std.proofs.lemmas.Bool.{and_parts, and_from, or_cases, or_left, or_right, false≢true, true≢false}
use Rattle.swc_ast.specs.Labels.{is_declaration}
use Rattle.swc_ast.specs.declared.Span.{Span}
use Rattle.swc_ast.specs.declared.VarDeclKind.{VarDeclKind}
use Rattle.swc_ast.specs.declared.VarDeclKind.TheVariants.{Var, Let, Const}
use Rattle.swc_ast.specs.Tree.{Name, same_name, Label, VarDecl, Declarator, FnDecl, ExportDecl, Tree, node, Forest, ε, ◌⊳◌}
use Rattle.swc_ast.specs.Scope.{has_name, vars, vars_all, Declaration, Lexical, Function, Declared, declared, declared_by, declared_by_label, declarator_names, as_lexicals}
use Rattle.swc_ast.specs.Meaning.{is_param}
use Rattle.static_proofs.specs.Shaped.{is_inner, is_whole_item, is_declarator_of, is_one_declaration, labels_of, all_labels, holds}
use Rattle.static_proofs.proofs.Names.{same_name_path, same_name_itself, same_name_swap}
use Rattle.link_proofs.specs.Links.{Put, nothing, a_name, a_value, put_name, Ground, calm, beside, settle, Splits, Opens, good, Callable, Invoked, invoked_fn, invoked_arrow, invoked_method, invoked_declared, invoked_default, Items, no_items, a_declaration, an_export, an_item, Chain, chain_end, chain_item, chain_settles, Begins, begins_good}
use Rattle.carry_rules.specs.Carry.{Pass, Facts, groups, how_many, how_many_in, Carried, first_put, settling, or_put, keeps_names, read_put, mark_of, enter, leave, after, after_all, marks, marks_all}
use Rattle.carry_rules.proofs.Sound.{Last, fixed, links, waits_in, waits_all, waits_counted, waits_all_counted, waiting, waiting_in, splits, declares_at, Sure, Sits, every_all, Sound, tail_sound, Firm, Stands, wide}
use Rattle.carry_rules.proofs.Shown.{no_params}
use Rattle.carry_rules.proofs.Standing.{flows, settled_after, put_none, labels_same, right_after}
use Rattle.carry_rules.proofs.Alike.{RightOf, Rights, rights_append}
use Rattle.carry_rules.proofs.Sources.{unless_name}
use Rattle.carry_rules.proofs.Targets.{first_ready}
use Rattle.carry_rules.proofs.Places.{alone, begins, inner_alone, item_begins, begins_no_params, variable_calm, all_are}
use Rattle.carry_rules.proofs.Varying.{own_inside, vars_all_counted, vars_counted, head_vars, tail_vars}
use Rattle.carry_rules.proofs.Settled.{Settles, settles, first_settles}
use Rattle.carry_rules.proofs.Holding.{HereList, list_head, list_tail, Holds, known, Below, none_below, more_below}
use Rattle.carry_rules.proofs.Simple.{M, holds_here, idle_good, simple_goods, group_here, inners_still}

-- names that wait among declarators or behind them
abbrev pub waiting_both : Facts → Forest → Forest → Name → Bool
waiting_both F ds ts x = fixed F x && (waits_all ds x || waits_all ts x)

-- how an item of a list stands
data Item : Label → Type 0 where
  variables : (k : VarDeclKind) → Item (VarDecl k)
  exported : Item ExportDecl
  other : {l : Label} → flows l ≡ false → Item l

item_of : (l : Label) → is_whole_item l ≡ true → Item l
item_of (VarDecl k) e = variables k
item_of ExportDecl e = exported
item_of (Declarator k x) e = absurd (false≢true e)
item_of l e = other refl

-- what an `export` stands in front of
data Exported : Label → Type 0 where
  variables : (k : VarDeclKind) → Exported (VarDecl k)
  a_function : (x : Name) → Exported (FnDecl x)

exported_of : (l : Label) → is_declaration l ≡ true → Exported l
exported_of (VarDecl k) e = variables k
exported_of (FnDecl x) e = a_function x
exported_of l e = absurd (false≢true e)

-- declarators of one kind
data DeclaratorIs : Label → Type 0 where
  a_variable : (y : Name) → DeclaratorIs (Declarator Var y)
  a_let : (y : Name) → DeclaratorIs (Declarator Let y)
  a_const : (y : Name) → DeclaratorIs (Declarator Const y)

declarator_is : (k : VarDeclKind) (l : Label) → is_declarator_of k l ≡ true → DeclaratorIs l
declarator_is k (Declarator Var y) e = a_variable y
declarator_is k (Declarator Let y) e = a_let y
declarator_is k (Declarator Const y) e = a_const y
declarator_is Var l e = absurd (false≢true e)
declarator_is Let l e = absurd (false≢true e)
declarator_is Const l e = absurd (false≢true e)

put_cases : (q : Put) → (q ≡ nothing) ⊎ (q ≡ nothing → ⊥)
put_cases nothing = inl refl
put_cases (a_name x) = inr (λ e. cc)
put_cases (a_value v) = inr (λ e. cc)

pub sound_names : {F : Facts} {lex : Name → Bool} {G H : Ground} {ts : Forest} → ((x : Name) → H.names x ≡ true → G.names x ≡ true) → Sound F lex G ts → Sound F lex H ts
sound_names f h = record { sits = h.sits; stays = h.stays; sole = h.sole; once = h.once; free = λ x e. h.free x (f x e); bound = h.bound; shaped = h.shaped; valid = h.valid }

module _ {p : Pass} {F : Facts} {E : Last} {lex : Name → Bool} (sure : Sure p F E lex) where
  -- what a node declares
  pub let_rights : (G : Ground) (ds : Forest) → every_all F lex ds → all_labels (is_declarator_of Let) (labels_of ds) ≡ true → Rights (links F E) F lex G (as_lexicals true (declarator_names ds))
  let_rights G ε s a = tt
  let_rights G (node l ss cs ⊳ ds) s a = let q = and_parts (is_declarator_of Let l) (all_labels (is_declarator_of Let) (labels_of ds)) a in by l q.0 s.0.0 (let_rights G ds s.1 q.1)
    where
      by : (l : Label) → is_declarator_of Let l ≡ true → Sits F lex l → Rights (links F E) F lex G (as_lexicals true (declarator_names ds)) → Rights (links F E) F lex G (as_lexicals true (declarator_names (node l ss cs ⊳ ds)))
      by (Declarator Let x) i t r = (λ c. absurd (true≢false (sym c ∙ t.0)), r)
      by l i t r = absurd (false≢true i)

  pub const_rights : (G : Ground) (xs : List Name) → Rights (links F E) F lex G (as_lexicals false xs)
  const_rights G [] = tt
  const_rights G (x ∷ xs) = (λ c. refl, const_rights G xs)

  pub variables_rights : (G : Ground) (k : VarDeclKind) (ms : List Span) (ds : Forest) → every_all F lex ds → holds (VarDecl k) (labels_of ds) ≡ true → Rights (links F E) F lex G (declared_by_label (VarDecl k) ms ds)
  variables_rights G Var ms ds s a = tt
  variables_rights G Let ms ds s a = let_rights G ds s a
  variables_rights G Const ms ds s a = const_rights G (declarator_names ds)

  -- what a function does hangs on names in scope alone
  invoked_calm : {G H : Ground} {f : Tree} → calm H ≡ calm G → Invoked (links F E) H f → Invoked (links F E) G f
  invoked_calm e (invoked_fn o {cs = cs} op u h) = invoked_fn o (subst (λ K. Opens (links F E) K (is_param o)) e op) u (subst (λ K. Callable (links F E) (beside (is_param o) K) cs) e h)
  invoked_calm e (invoked_arrow {cs = cs} h) = invoked_arrow (subst (λ K. Callable (links F E) K cs) e h)
  invoked_calm e (invoked_method {cs = cs} h) = invoked_method (subst (λ K. Callable (links F E) K cs) e h)
  invoked_calm e (invoked_declared x {cs = cs} h) = invoked_declared x (subst (λ K. Callable (links F E) K cs) e h)
  invoked_calm e (invoked_default o {cs = cs} h) = invoked_default o (subst (λ K. Callable (links F E) K cs) e h)

  calm_rights : (G H : Ground) → calm H ≡ calm G → (ps : List Declared) → Rights (links F E) F lex H ps → Rights (links F E) F lex G ps
  calm_rights G H e [] r = tt
  calm_rights G H e (q ∷ ps) r = (by q.1 r.0, calm_rights G H e ps r.1)
    where
      by : (d : Declaration) → RightOf (links F E) F lex H q.0 d → RightOf (links F E) F lex G q.0 d
      by (Lexical w) h = h
      by (Function f) h = (h.0, invoked_calm e h.1)

  -- where trees of a list go on, and more may be known of variables that stand in front
  pub record Beyond (N : Name → Bool) (G : Ground) (ds : Forest) (s : Carried) (H : Ground) : Type 0 where
    pub calm_same : calm H ≡ calm G
    pub more : (x : Name) → H.names x ≡ true → N x ≡ true
    pub stands : Stands E (wide N H) s
    pub firm : Firm E (wide N H)
    pub kept : (x : Name) → G.settled x ≡ true → H.settled x ≡ true
    pub sets : (x : Name) → F.variable x ≡ true → fixed F x ≡ false → has_name x (vars_all ds) ≡ false → G.sets x ≡ true → H.sets x ≡ true

  chain_splits : (d : Tree) (ds ts : Forest) → ((x : Name) → fixed F x ≡ true → how_many_in (declares_at x) (d ⊳ ds) + how_many_in (declares_at x) ts ≤ 1) → Splits (waiting_both F (d ⊳ ds) ts) (waiting_in F d) (waiting_both F ds ts)
  chain_splits d ds ts h = record {
    first = λ x e. let q = and_parts (fixed F x) (waits_in d x) e in and_from (fixed F x) ((waits_in d x || waits_all ds x) || waits_all ts x) q.0 (or_left (waits_in d x || waits_all ds x) (waits_all ts x) (or_left (waits_in d x) (waits_all ds x) q.1));
    second = λ x e. let q = and_parts (fixed F x) (waits_all ds x || waits_all ts x) e in and_from (fixed F x) ((waits_in d x || waits_all ds x) || waits_all ts x) q.0 (more x (or_cases (waits_all ds x) (waits_all ts x) q.1));
    apart = λ x e f. let q = and_parts (fixed F x) (waits_in d x) e in let r = and_parts (fixed F x) (waits_all ds x || waits_all ts x) f in apart x q.0 (waits_counted d x q.1) (or_cases (waits_all ds x) (waits_all ts x) r.1);
  }
    where
      more : (x : Name) → (waits_all ds x ≡ true) ⊎ (waits_all ts x ≡ true) → ((waits_in d x || waits_all ds x) || waits_all ts x) ≡ true
      more x (inl e) = or_left (waits_in d x || waits_all ds x) (waits_all ts x) (or_right (waits_in d x) (waits_all ds x) e)
      more x (inr e) = or_right (waits_in d x || waits_all ds x) (waits_all ts x) e

      apart : (x : Name) → fixed F x ≡ true → 1 ≤ how_many (declares_at x) d → (waits_all ds x ≡ true) ⊎ (waits_all ts x ≡ true) → ⊥
      apart x f i (inl e) = omega (arith, h x f, i, waits_all_counted ds x e)
      apart x f i (inr e) = omega (arith, h x f, i, waits_all_counted ts x e)

  -- a variable that settles
  module _ {u : Carried} {N : Name → Bool} {G : Ground} (y : Name) (ss : List Span) (cs ds : Forest) (h : HereList p F E lex u N G (node (Declarator Var y) ss cs ⊳ ds)) (n : E.settled y ≡ nothing → ⊥) where
    abbrev d : Tree
    d = node (Declarator Var y) ss cs

    abbrev next : Ground
    next = settle y (put_name y (E.settled y)) G

    pub variable_is : F.variable y ≡ true
    variable_is = by (F.variable y) refl
      where
        by : (b : Bool) → F.variable y ≡ b → b ≡ true
        by true e = refl
        by false e = absurd (n (sure.settled_variable y e))

    pub sets_it : G.sets y ≡ true
    sets_it = h.sets y variable_is h.sound.sits.0.0 (head_vars (marks p F u d) (marks_all p F (after p F u d) ds) y (own_inside (Declarator Var y) (mark_of (read_put p u (Declarator Var y))) (M sure (Declarator Var y) ss cs u) y (or_left (same_name y y) false (same_name_itself y))))

    named : N y ≡ true
    named = h.firm.sets_named y sets_it

    target_named : (x : Name) → E.settled y ≡ a_name x → N x ≡ true
    target_named x e = h.stands.ready x (first_ready p (leave p F (Declarator Var y) u (after_all p F (enter p F (Declarator Var y) ss cs u) cs)) ss cs x (unless_name _ (first_put p (leave p F (Declarator Var y) u (after_all p F (enter p F (Declarator Var y) ss cs u) cs)) ss cs) x (sym h.agree.0.1.0 ∙ e)).1)

    pub next_firm : Firm E (wide N next)
    next_firm = record {
      closed = h.firm.closed;
      settled_named = λ x e. at x (or_cases (same_name y x) (G.settled x) e);
      settled_closed = λ z x e i. target z x i (or_cases (same_name y z) (G.settled z) e);
      sets_named = λ x e. h.firm.sets_named x (and_parts (not (same_name (put_name y (E.settled y)) x)) (G.sets x) (and_parts (not (same_name y x)) (not (same_name (put_name y (E.settled y)) x) && G.sets x) e).1).1;
    }
      where
        at : (x : Name) → (same_name y x ≡ true) ⊎ (G.settled x ≡ true) → N x ≡ true
        at x (inl e) = subst (λ z. N z ≡ true) (same_name_path y x e) named
        at x (inr e) = h.firm.settled_named x e

        target : (z x : Name) → E.settled z ≡ a_name x → (same_name y z ≡ true) ⊎ (G.settled z ≡ true) → N x ≡ true
        target z x i (inl e) = target_named x (ap E.settled (same_name_path y z e) ∙ i)
        target z x i (inr e) = h.firm.settled_closed z x e i

    pub next_stands : Stands E (wide N next) (after p F u d)
    next_stands = record {
      ready = λ x e. h.stands.ready x e;
      right = right_after p F E u d h.agree.0 h.stands.right;
      settled = λ x. at x (same_name y x) refl (h.stands.settled x);
    }
      where
        q : Put
        q = settling p F (leave p F (Declarator Var y) u (after_all p F (enter p F (Declarator Var y) ss cs u) cs)) y ss cs

        or_same : (f : Put) (x : Name) → E.settled x ≡ q → (f ≡ nothing) ⊎ (f ≡ E.settled x) → or_put f q ≡ E.settled x
        or_same f x i (inl e) = ap (λ f. or_put f q) e ∙ sym i
        or_same f x i (inr e) = ap (λ f. or_put f q) (e ∙ i) ∙ same q ∙ sym i
          where
            same : (g : Put) → or_put g g ≡ g
            same nothing = refl
            same (a_name x) = refl
            same (a_value v) = refl

        laid : (x : Name) → (u.settled x ≡ nothing) ⊎ ((u.settled x ≡ E.settled x) × (G.settled x ≡ true)) → (u.settled x ≡ nothing) ⊎ (u.settled x ≡ E.settled x)
        laid x (inl e) = inl e
        laid x (inr e) = inr e.0

        at : (x : Name) (b : Bool) → same_name y x ≡ b → (u.settled x ≡ nothing) ⊎ ((u.settled x ≡ E.settled x) × (G.settled x ≡ true)) → ((if b then or_put (u.settled x) q else u.settled x) ≡ nothing) ⊎ (((if b then or_put (u.settled x) q else u.settled x) ≡ E.settled x) × ((b || G.settled x) ≡ true))
        at x true e g = inr (or_same (u.settled x) x (ap E.settled (sym (same_name_path y x e)) ∙ h.agree.0.1.0) (laid x g), refl)
        at x false e (inl g) = inl g
        at x false e (inr g) = inr (g.0, g.1)

    -- other variables stay unknown
    pub next_sets : (x : Name) → F.variable x ≡ true → fixed F x ≡ false → same_name y x ≡ false → G.sets x ≡ true → next.sets x ≡ true
    next_sets x v f e g = and_from (not (same_name y x)) (not (same_name (put_name y (E.settled y)) x) && G.sets x) (not_of (same_name y x) e) (and_from (not (same_name (put_name y (E.settled y)) x)) (G.sets x) (not_of (same_name (put_name y (E.settled y)) x) (target (E.settled y) refl)) g)
      where
        not_of : (b : Bool) → b ≡ false → not b ≡ true
        not_of false e = refl
        not_of true e = absurd (true≢false e)

        unequal : (z : Name) → fixed F z ≡ true → same_name z x ≡ false
        unequal z i = by (same_name z x) refl
          where
            by : (b : Bool) → same_name z x ≡ b → b ≡ false
            by false e = refl
            by true e = absurd (true≢false (sym i ∙ ap (fixed F) (same_name_path z x e) ∙ f))

        target : (q : Put) → E.settled y ≡ q → same_name (put_name y q) x ≡ false
        target nothing i = e
        target (a_name z) i = unequal z (sure.settled_fixed y z i)
        target (a_value w) i = e

    pub next_here : HereList p F E lex (after p F u d) N next ds
    next_here = record {
      more = h.more;
      stands = next_stands;
      agree = h.agree.1;
      firm = next_firm;
      sound = sound_names {G = wide N G} (λ x e. e) (tail_sound h.sound);
      within = λ x f e. h.within x f e;
      sets = λ x v f e. next_sets x v f (apart x v e (same_name y x) refl) (h.sets x v f (tail_vars (marks p F u d) (marks_all p F (after p F u d) ds) x e));
    }
      where
        apart : (x : Name) → F.variable x ≡ true → has_name x (vars_all (marks_all p F (after p F u d) ds)) ≡ true → (b : Bool) → same_name y x ≡ b → b ≡ false
        apart x v e false i = refl
        apart x v e true i = absurd (omega (arith, h.sound.sole x v, vars_counted (marks p F u d) x (subst (λ z. has_name z (vars (marks p F u d)) ≡ true) (same_name_path y x i) (own_inside (Declarator Var y) (mark_of (read_put p u (Declarator Var y))) (M sure (Declarator Var y) ss cs u) y (or_left (same_name y y) false (same_name_itself y)))), vars_all_counted (marks_all p F (after p F u d) ds) x e))

  -- the declarators of a declaration, and what follows
  abbrev Chained : (u : Carried) (G : Ground) (ds T : Forest) → Type 0 → Type 0
  Chained u G ds T R = Chain (links F E) G (waiting_both F (marks_all p F u ds) T) (marks_all p F u ds) T × R

  plain_step : (u : Carried) {G : Ground} (d : Tree) (ds T : Forest) (R : Type 0) → ((x : Name) → fixed F x ≡ true → how_many_in (declares_at x) (marks_all p F u (d ⊳ ds)) + how_many_in (declares_at x) T ≤ 1) → Begins (links F E) G (waiting_in F (marks p F u d)) (marks p F u d) → Chained (after p F u d) G ds T R → Chained u G (d ⊳ ds) T R
  plain_step u d ds T R o i c = (chain_item (waiting_in F (marks p F u d)) (waiting_both F (marks_all p F (after p F u d) ds) T) (chain_splits (marks p F u d) (marks_all p F (after p F u d) ds) T o) i c.0, c.1)

  -- a variable that takes a value of which nothing is carried
  variable_begins : {u : Carried} {N : Name → Bool} {G : Ground} (y : Name) (ss : List Span) (cs ds : Forest) → Below sure cs → all_labels is_inner (labels_of cs) ≡ true → HereList p F E lex u N G (node (Declarator Var y) ss cs ⊳ ds) → Begins (links F E) G (waiting_in F (marks p F u (node (Declarator Var y) ss cs))) (marks p F u (node (Declarator Var y) ss cs))
  variable_begins {u} {N} {G} y ss cs ds b i h = by (E.idle y) refl
    where
      own : has_name y (vars (marks p F u (node (Declarator Var y) ss cs))) ≡ true
      own = own_inside (Declarator Var y) (mark_of (read_put p u (Declarator Var y))) (M sure (Declarator Var y) ss cs u) y (or_left (same_name y y) false (same_name_itself y))

      by : (c : Bool) → E.idle y ≡ c → Begins (links F E) G (waiting_in F (marks p F u (node (Declarator Var y) ss cs))) (marks p F u (node (Declarator Var y) ss cs))
      by true k = begins_good (idle_good sure u y ss cs (h.agree.0.1.1 k))
      by false k = begins_good (good (Declarator Var y) refl (variable_calm sure G y h.sound.sits.0.0 k (λ v. h.sets y v h.sound.sits.0.0 (head_vars (marks p F u (node (Declarator Var y) ss cs)) (marks_all p F (after p F u (node (Declarator Var y) ss cs)) ds) y own))) tt (simple_goods sure (Declarator Var y) ss cs b (list_head h) (λ x e. false≢true e) refl (inl (inners_still (labels_of cs) i)) (all_are is_inner alone inner_alone (labels_of cs) i)))

  variable_step : {u : Carried} {N : Name → Bool} {G : Ground} (y : Name) (ss : List Span) (cs ds T : Forest) (R : Type 0) → Below sure cs → (h : HereList p F E lex u N G (node (Declarator Var y) ss cs ⊳ ds)) → ((x : Name) → fixed F x ≡ true → how_many_in (declares_at x) (marks_all p F u (node (Declarator Var y) ss cs ⊳ ds)) + how_many_in (declares_at x) T ≤ 1)
      → ((H : Ground) → Beyond N G (marks_all p F u (node (Declarator Var y) ss cs ⊳ ds)) (after_all p F u (node (Declarator Var y) ss cs ⊳ ds)) H → Items (links F E) H (waiting F T) T × R)
      → ((H : Ground) → HereList p F E lex (after p F u (node (Declarator Var y) ss cs)) N H ds → ((K : Ground) → Beyond N H (marks_all p F (after p F u (node (Declarator Var y) ss cs)) ds) (after_all p F (after p F u (node (Declarator Var y) ss cs)) ds) K → Items (links F E) K (waiting F T) T × R) → Chained (after p F u (node (Declarator Var y) ss cs)) H ds T R)
      → Chained u G (node (Declarator Var y) ss cs ⊳ ds) T R
  variable_step {u} {N} {G} y ss cs ds T R b h o rest go = by (put_cases (E.settled y))
    where
      t : Tree
      t = node (Declarator Var y) ss cs

      inner : all_labels is_inner (labels_of cs) ≡ true
      inner = holds_here sure (Declarator Var y) ss cs (list_head h)

      none_behind : (x : Name) → has_name x (vars_all (marks_all p F u (t ⊳ ds))) ≡ false → has_name x (vars_all (marks_all p F (after p F u t) ds)) ≡ false
      none_behind x e = at (has_name x (vars_all (marks_all p F (after p F u t) ds))) refl
        where
          at : (c : Bool) → has_name x (vars_all (marks_all p F (after p F u t) ds)) ≡ c → c ≡ false
          at false i = refl
          at true i = absurd (true≢false (sym (tail_vars (marks p F u t) (marks_all p F (after p F u t) ds) x i) ∙ e))

      fewer : {K : Ground} → Beyond N G (marks_all p F (after p F u t) ds) (after_all p F (after p F u t) ds) K → Beyond N G (marks_all p F u (t ⊳ ds)) (after_all p F u (t ⊳ ds)) K
      fewer k = record { calm_same = k.calm_same; more = k.more; stands = k.stands; firm = k.firm; kept = k.kept; sets = λ x v f e g. k.sets x v f (none_behind x e) g }

      not_own : (x : Name) → has_name x (vars_all (marks_all p F u (t ⊳ ds))) ≡ false → same_name y x ≡ false
      not_own x e = at (same_name y x) refl
        where
          at : (c : Bool) → same_name y x ≡ c → c ≡ false
          at false i = refl
          at true i = absurd (true≢false (sym (head_vars (marks p F u t) (marks_all p F (after p F u t) ds) x (own_inside (Declarator Var y) (mark_of (read_put p u (Declarator Var y))) (M sure (Declarator Var y) ss cs u) x (or_left (same_name x y) false (same_name_swap x y ∙ i)))) ∙ e))

      settled : (n : E.settled y ≡ nothing → ⊥) {K : Ground} → Beyond N (settle y (put_name y (E.settled y)) G) (marks_all p F (after p F u t) ds) (after_all p F (after p F u t) ds) K → Beyond N G (marks_all p F u (t ⊳ ds)) (after_all p F u (t ⊳ ds)) K
      settled n k = record { calm_same = k.calm_same; more = k.more; stands = k.stands; firm = k.firm; kept = λ x e. k.kept x (or_right (same_name y x) (G.settled x) e); sets = λ x v f e g. k.sets x v f (none_behind x e) (next_sets y ss cs ds h n x v f (not_own x e) g) }

      settling_none : E.settled y ≡ nothing → (x : Name) → (after p F u t).settled x ≡ u.settled x
      settling_none e x = put_none p F y (settling p F (leave p F (Declarator Var y) u (after_all p F (enter p F (Declarator Var y) ss cs u) cs)) y ss cs) u.settled x (sym h.agree.0.1.0 ∙ e)

      at_value : (E.settled y ≡ nothing → ⊥) → Settles F E G (E.settled y) (M sure (Declarator Var y) ss cs u) → Chained (after p F u t) (settle y (put_name y (E.settled y)) G) ds T R → Chained u G (t ⊳ ds) T R
      at_value n i c = at (M sure (Declarator Var y) ss cs u) i
        where
          at : (ms : Forest) → Settles F E G (E.settled y) ms → Chain (links F E) G (waiting_both F (node (Declarator Var y) (mark_of (read_put p u (Declarator Var y))) ms ⊳ marks_all p F (after p F u t) ds) T) (node (Declarator Var y) (mark_of (read_put p u (Declarator Var y))) ms ⊳ marks_all p F (after p F u t) ds) T × R
          at _ (settles j) = (chain_settles y (E.settled y) refl (sets_it y ss cs ds h n) j c.0, c.1)

      by : (E.settled y ≡ nothing) ⊎ (E.settled y ≡ nothing → ⊥) → Chained u G (t ⊳ ds) T R
      by (inl e) = plain_step u t ds T R o (variable_begins y ss cs ds b inner h) (go G (list_tail sure refl (settling_none e) h) (λ K k. rest K (fewer k)))
      by (inr n) = at_value n (first_settles sure y ss u (E.settled y) n cs h.stands.right h.stands.settled h.agree.0.1.0) (go (settle y (put_name y (E.settled y)) G) (next_here y ss cs ds h n) (λ K k. rest K (settled n k)))

  chain : (k : VarDeclKind) {ds : Forest} → Below sure ds → (u : Carried) (N : Name → Bool) (G : Ground) → HereList p F E lex u N G ds → all_labels (is_declarator_of k) (labels_of ds) ≡ true → (T : Forest) → ((x : Name) → fixed F x ≡ true → how_many_in (declares_at x) (marks_all p F u ds) + how_many_in (declares_at x) T ≤ 1) → (R : Type 0)
      → ((H : Ground) → Beyond N G (marks_all p F u ds) (after_all p F u ds) H → Items (links F E) H (waiting F T) T × R) → Chained u G ds T R
  chain k none_below u N G h a T o R rest = let r = rest G (record { calm_same = refl; more = h.more; stands = h.stands; firm = h.firm; kept = λ x e. e; sets = λ x v f e g. g }) in (chain_end r.0, r.1)
  chain k (more_below {ts = ds} (known {l} {ss} {cs} bd hd) b) u N G h a T o R rest = by l (declarator_is k l q.0) bd hd h o rest (λ H g r. chain k b (after p F u (node l ss cs)) N H g q.1 T (λ x f. omega (arith, o x f)) R r)
    where
      q : (is_declarator_of k l ≡ true) × (all_labels (is_declarator_of k) (labels_of ds) ≡ true)
      q = and_parts (is_declarator_of k l) (all_labels (is_declarator_of k) (labels_of ds)) a

      by : (l : Label) → DeclaratorIs l → Below sure cs → Holds sure (node l ss cs) → HereList p F E lex u N G (node l ss cs ⊳ ds) → ((x : Name) → fixed F x ≡ true → how_many_in (declares_at x) (marks_all p F u (node l ss cs ⊳ ds)) + how_many_in (declares_at x) T ≤ 1)
          → ((H : Ground) → Beyond N G (marks_all p F u (node l ss cs ⊳ ds)) (after_all p F u (node l ss cs ⊳ ds)) H → Items (links F E) H (waiting F T) T × R)
          → ((H : Ground) → HereList p F E lex (after p F u (node l ss cs)) N H ds → ((K : Ground) → Beyond N H (marks_all p F (after p F u (node l ss cs)) ds) (after_all p F (after p F u (node l ss cs)) ds) K → Items (links F E) K (waiting F T) T × R) → Chained (after p F u (node l ss cs)) H ds T R)
          → Chained u G (node l ss cs ⊳ ds) T R
      by _ (a_variable y) bd hd h o rest go = variable_step y ss cs ds T R bd h o rest go
      by _ (a_let y) bd hd h o rest go = plain_step u (node (Declarator Let y) ss cs) ds T R o (hd.begun u G (list_head h) (inl refl) refl) (go G (list_tail sure refl (settled_after p F u (node (Declarator Let y) ss cs) (inl refl)) h) (λ K k. rest K (record { calm_same = k.calm_same; more = k.more; stands = k.stands; firm = k.firm; kept = k.kept; sets = k.sets })))
      by _ (a_const y) bd hd h o rest go = plain_step u (node (Declarator Const y) ss cs) ds T R o (hd.begun u G (list_head h) (inl refl) refl) (go G (list_tail sure refl (settled_after p F u (node (Declarator Const y) ss cs) (inl refl)) h) (λ K k. rest K (record { calm_same = k.calm_same; more = k.more; stands = k.stands; firm = k.firm; kept = k.kept; sets = k.sets })))

  -- behind a declaration of a list
  left_stands : (N : Name → Bool) (G H : Ground) (l : Label) (s t : Carried) → keeps_names l ≡ true → ((x : Name) → G.settled x ≡ true → H.settled x ≡ true) → ((x : Name) → (s.settled x ≡ nothing) ⊎ ((s.settled x ≡ E.settled x) × (G.settled x ≡ true))) → Stands E (wide N H) t → Stands E (wide N H) (leave p F l s t)
  left_stands N G H l s t k g h i = record { ready = λ x e. i.ready x (ready (keeps_names l) k x e); right = i.right; settled = λ x. at x (groups l && s.listed) }
    where
      ready : (b : Bool) → b ≡ true → (x : Name) → (if b then t.ready else s.ready) x ≡ true → t.ready x ≡ true
      ready true k x e = e
      ready false k x e = absurd (false≢true k)

      before : (x : Name) → (s.settled x ≡ nothing) ⊎ ((s.settled x ≡ E.settled x) × (G.settled x ≡ true)) → (s.settled x ≡ nothing) ⊎ ((s.settled x ≡ E.settled x) × (H.settled x ≡ true))
      before x (inl e) = inl e
      before x (inr e) = inr (e.0, g x e.1)

      at : (x : Name) (b : Bool) → ((if b then t.settled else s.settled) x ≡ nothing) ⊎ (((if b then t.settled else s.settled) x ≡ E.settled x) × (H.settled x ≡ true))
      at x true = i.settled x
      at x false = before x (h x)

  -- what stands behind it
  beyond_here : {s : Carried} {N : Name → Bool} {G : Ground} (H : Ground) (d : Tree) (ts ds : Forest) → HereList p F E lex s N G (d ⊳ ts) → ((x : Name) → has_name x (vars_all ds) ≡ true → 1 ≤ how_many (declares_at x) (marks p F s d)) → ((x : Name) → H.names x ≡ true → N x ≡ true) → Stands E (wide N H) (after p F s d) → Firm E (wide N H)
      → ((x : Name) → F.variable x ≡ true → fixed F x ≡ false → has_name x (vars_all ds) ≡ false → G.sets x ≡ true → H.sets x ≡ true) → HereList p F E lex (after p F s d) N H ts
  beyond_here {s} {N} {G} H d ts ds h c m st fi g = record {
    more = m;
    stands = st;
    agree = h.agree.1;
    firm = fi;
    sound = sound_names {G = wide N G} (λ x e. e) (tail_sound h.sound);
    within = λ x f e. h.within x f (or_right (waits_in d x) (waits_all ts x) e);
    sets = λ x v f e. g x v f (apart x v e (has_name x (vars_all ds)) refl) (h.sets x v f (tail_vars (marks p F s d) (marks_all p F (after p F s d) ts) x e));
  }
    where
      apart : (x : Name) → F.variable x ≡ true → has_name x (vars_all (marks_all p F (after p F s d) ts)) ≡ true → (b : Bool) → has_name x (vars_all ds) ≡ b → b ≡ false
      apart x v e false i = refl
      apart x v e true i = absurd (omega (arith, h.sound.sole x v, c x i, vars_all_counted (marks_all p F (after p F s d) ts) x e))

  -- what a list gives
  abbrev pub Walked : Carried → Ground → Forest → Type 0
  Walked s G ts = Items (links F E) G (waiting F (marks_all p F s ts)) (marks_all p F s ts) × Rights (links F E) F lex G (declared (marks_all p F s ts))

  module _ {s : Carried} {N : Name → Bool} {G : Ground} (ss : List Span) (cs ts : Forest) where
    other_step : (l : Label) → flows l ≡ false → begins l ≡ true → Holds sure (node l ss cs) → HereList p F E lex s N G (node l ss cs ⊳ ts) → ((H : Ground) → HereList p F E lex (after p F s (node l ss cs)) N H ts → Walked (after p F s (node l ss cs)) H ts) → Walked s G (node l ss cs ⊳ ts)
    other_step l f g hd h rest =
        let t = node l ss cs in
        let r = rest G (list_tail sure (and_from (no_params l) true (begins_no_params l g) refl) (settled_after p F s t (inl f)) h) in (
          an_item (waiting_in F (marks p F s t)) (waiting F (marks_all p F (after p F s t) ts)) (splits F (marks p F s t) (marks_all p F (after p F s t) ts) h.sound.once) (hd.begun s G (list_head h) (inl f) g) r.0,
          rights_append (links F E) F lex G (declared_by (marks p F s t)) (declared (marks_all p F (after p F s t) ts)) (hd.right s G (list_head h) (inl f) g) r.1,
        )

    variables_step : (k : VarDeclKind) → Below sure cs → HereList p F E lex s N G (node (VarDecl k) ss cs ⊳ ts) → ((H : Ground) → HereList p F E lex (after p F s (node (VarDecl k) ss cs)) N H ts → Walked (after p F s (node (VarDecl k) ss cs)) H ts) → Walked s G (node (VarDecl k) ss cs ⊳ ts)
    variables_step k b h rest = (a_declaration k c.0, rights_append (links F E) F lex G (declared_by_label (VarDecl k) (mark_of (read_put p s (VarDecl k))) D) (declared T) (variables_rights G k (mark_of (read_put p s (VarDecl k))) D h.sound.sits.0.1 shape) c.1)
      where
        t : Tree
        t = node (VarDecl k) ss cs

        s1 : Carried
        s1 = enter p F (VarDecl k) ss cs s

        D : Forest
        D = marks_all p F s1 cs

        T : Forest
        T = marks_all p F (after p F s t) ts

        inner : HereList p F E lex s1 N G cs
        inner = group_here sure (VarDecl k) ss cs refl (list_head h)

        shape_of : all_labels (is_declarator_of k) (labels_of cs) ≡ true
        shape_of = holds_here sure (VarDecl k) ss cs (list_head h)

        shape : all_labels (is_declarator_of k) (labels_of D) ≡ true
        shape = ap (all_labels (is_declarator_of k)) (labels_same p F s1 cs) ∙ shape_of

        behind : (H : Ground) → Beyond N G D (after_all p F s1 cs) H → HereList p F E lex (after p F s t) N H ts
        behind H g = beyond_here H t ts D h (λ x e. omega (arith, vars_all_counted D x e)) g.more (left_stands N G H (VarDecl k) s (after_all p F s1 cs) refl g.kept h.stands.settled g.stands) g.firm g.sets

        c : Chained s1 G cs T (Rights (links F E) F lex G (declared T))
        c = chain k b s1 N G inner shape_of T (λ x f. omega (arith, h.sound.once x f)) (Rights (links F E) F lex G (declared T)) (λ H g. let r = rest H (behind H g) in (r.0, calm_rights G H g.calm_same (declared T) r.1))

  more_waiting : (l : Label) (ms ns : List Span) (es T : Forest) (x : Name) → waiting F (node l ns es ⊳ T) x ≡ true → waiting F (node ExportDecl ms (node l ns es ⊳ ε) ⊳ T) x ≡ true
  more_waiting l ms ns es T x e =
      let q = and_parts (fixed F x) (waits_in (node l ns es) x || waits_all T x) e in
      and_from (fixed F x) (waits_in (node ExportDecl ms (node l ns es ⊳ ε)) x || waits_all T x) q.0 (by (or_cases (waits_in (node l ns es) x) (waits_all T x) q.1))
    where
      by : (waits_in (node l ns es) x ≡ true) ⊎ (waits_all T x ≡ true) → (waits_in (node ExportDecl ms (node l ns es ⊳ ε)) x || waits_all T x) ≡ true
      by (inl f) = or_left (waits_in (node ExportDecl ms (node l ns es ⊳ ε)) x) (waits_all T x) (or_left (waits_in (node l ns es) x) false f)
      by (inr f) = or_right (waits_in (node ExportDecl ms (node l ns es ⊳ ε)) x) (waits_all T x) f

  module _ {s : Carried} {N : Name → Bool} {G : Ground} (ss us : List Span) (ds ts : Forest) where
    exported_variables : (k : VarDeclKind) → Below sure ds → HereList p F E lex s N G (node ExportDecl ss (node (VarDecl k) us ds ⊳ ε) ⊳ ts) → ((H : Ground) → HereList p F E lex (after p F s (node ExportDecl ss (node (VarDecl k) us ds ⊳ ε))) N H ts → Walked (after p F s (node ExportDecl ss (node (VarDecl k) us ds ⊳ ε))) H ts) → Walked s G (node ExportDecl ss (node (VarDecl k) us ds ⊳ ε) ⊳ ts)
    exported_variables k b h rest = (an_export (waiting F (node (VarDecl k) [] D ⊳ T)) (more_waiting (VarDecl k) [] [] D T) (a_declaration k c.0), rights_append (links F E) F lex G (declared_by_label (VarDecl k) [] D) (declared T) (variables_rights G k [] D h.sound.sits.0.1.0.1 shape) c.1)
      where
        v : Tree
        v = node (VarDecl k) us ds

        t : Tree
        t = node ExportDecl ss (v ⊳ ε)

        s1 : Carried
        s1 = enter p F ExportDecl ss (v ⊳ ε) s

        s2 : Carried
        s2 = enter p F (VarDecl k) us ds s1

        D : Forest
        D = marks_all p F s2 ds

        T : Forest
        T = marks_all p F (after p F s t) ts

        one_here : HereList p F E lex s1 N G (v ⊳ ε)
        one_here = group_here sure ExportDecl ss (v ⊳ ε) refl (list_head h)

        inner : HereList p F E lex s2 N G ds
        inner = group_here sure (VarDecl k) us ds refl (list_head one_here)

        shape_of : all_labels (is_declarator_of k) (labels_of ds) ≡ true
        shape_of = holds_here sure (VarDecl k) us ds (list_head one_here)

        shape : all_labels (is_declarator_of k) (labels_of D) ≡ true
        shape = ap (all_labels (is_declarator_of k)) (labels_same p F s2 ds) ∙ shape_of

        behind : (H : Ground) → Beyond N G D (after_all p F s2 ds) H → HereList p F E lex (after p F s t) N H ts
        behind H g = beyond_here H t ts D h (λ x e. omega (arith, vars_all_counted D x e)) g.more (left_stands N G H ExportDecl s (after p F s1 v) refl g.kept h.stands.settled (left_stands N G H (VarDecl k) s1 (after_all p F s2 ds) refl g.kept h.stands.settled g.stands)) g.firm g.sets

        c : Chained s2 G ds T (Rights (links F E) F lex G (declared T))
        c = chain k b s2 N G inner shape_of T (λ x f. omega (arith, h.sound.once x f)) (Rights (links F E) F lex G (declared T)) (λ H g. let r = rest H (behind H g) in (r.0, calm_rights G H g.calm_same (declared T) r.1))

    exported_function : (z : Name) → Holds sure (node (FnDecl z) us ds) → HereList p F E lex s N G (node ExportDecl ss (node (FnDecl z) us ds ⊳ ε) ⊳ ts) → ((H : Ground) → HereList p F E lex (after p F s (node ExportDecl ss (node (FnDecl z) us ds ⊳ ε))) N H ts → Walked (after p F s (node ExportDecl ss (node (FnDecl z) us ds ⊳ ε))) H ts) → Walked s G (node ExportDecl ss (node (FnDecl z) us ds ⊳ ε) ⊳ ts)
    exported_function z hd h rest = (
      an_export (waiting F (w ⊳ T)) (more_waiting (FnDecl z) [] [] (M sure (FnDecl z) us ds s1) T) (an_item (waiting_in F w) (waiting F T) (splits F w T (λ x f. omega (arith, h.sound.once x f))) (hd.begun s1 G (list_head one_here) (inl refl) refl) r.0),
      rights_append (links F E) F lex G (declared_by w) (declared T) (hd.right s1 G (list_head one_here) (inl refl) refl) r.1,
    )
      where
        v : Tree
        v = node (FnDecl z) us ds

        t : Tree
        t = node ExportDecl ss (v ⊳ ε)

        s1 : Carried
        s1 = enter p F ExportDecl ss (v ⊳ ε) s

        w : Tree
        w = marks p F s1 v

        T : Forest
        T = marks_all p F (after p F s t) ts

        one_here : HereList p F E lex s1 N G (v ⊳ ε)
        one_here = group_here sure ExportDecl ss (v ⊳ ε) refl (list_head h)

        none_here : HereList p F E lex (after p F s1 v) N G ε
        none_here = list_tail sure refl (settled_after p F s1 v (inl refl)) one_here

        r : Walked (after p F s t) G ts
        r = rest G (beyond_here G t ts ε h (λ x e. absurd (false≢true e)) h.more (left_stands N G G ExportDecl s (after p F s1 v) refl (λ x e. e) h.stands.settled none_here.stands) h.firm (λ x q f e g. g))

  export_step : {s : Carried} {N : Name → Bool} {G : Ground} (ss : List Span) (cs ts : Forest) → Below sure cs → HereList p F E lex s N G (node ExportDecl ss cs ⊳ ts) → is_one_declaration (labels_of cs) ≡ true → ((H : Ground) → HereList p F E lex (after p F s (node ExportDecl ss cs)) N H ts → Walked (after p F s (node ExportDecl ss cs)) H ts) → Walked s G (node ExportDecl ss cs ⊳ ts)
  export_step ss ε ts b h i rest = absurd (false≢true i)
  export_step ss (node m us ds ⊳ ε) ts (more_below (known be he) b) h i rest = by m (exported_of m i) be he h rest
    where
      by : {s : Carried} {N : Name → Bool} {G : Ground} (m : Label) → Exported m → Below sure ds → Holds sure (node m us ds) → HereList p F E lex s N G (node ExportDecl ss (node m us ds ⊳ ε) ⊳ ts) → ((H : Ground) → HereList p F E lex (after p F s (node ExportDecl ss (node m us ds ⊳ ε))) N H ts → Walked (after p F s (node ExportDecl ss (node m us ds ⊳ ε))) H ts) → Walked s G (node ExportDecl ss (node m us ds ⊳ ε) ⊳ ts)
      by _ (variables k) be he h rest = exported_variables ss us ds ts k be h rest
      by _ (a_function z) be he h rest = exported_function ss us ds ts z he h rest
  export_step ss (node m us ds ⊳ node l rs es ⊳ ws) ts b h i rest = absurd (false≢true i)

  pub list_walk : {ts : Forest} → Below sure ts → (s : Carried) (N : Name → Bool) (G : Ground) → HereList p F E lex s N G ts → all_labels is_whole_item (labels_of ts) ≡ true → Walked s G ts
  list_walk none_below s N G h a = (no_items, tt)
  list_walk (more_below {ts = ts} (known {l} {ss} {cs} bd hd) b) s N G h a = by l (item_of l q.0) (item_begins l q.0) bd hd h (λ H g. list_walk b (after p F s (node l ss cs)) N H g q.1)
    where
      q : (is_whole_item l ≡ true) × (all_labels is_whole_item (labels_of ts) ≡ true)
      q = and_parts (is_whole_item l) (all_labels is_whole_item (labels_of ts)) a

      by : (l : Label) → Item l → begins l ≡ true → Below sure cs → Holds sure (node l ss cs) → HereList p F E lex s N G (node l ss cs ⊳ ts) → ((H : Ground) → HereList p F E lex (after p F s (node l ss cs)) N H ts → Walked (after p F s (node l ss cs)) H ts) → Walked s G (node l ss cs ⊳ ts)
      by _ (variables k) g bd hd h rest = variables_step ss cs ts k bd h rest
      by _ exported g bd hd h rest = export_step ss cs ts bd h (holds_here sure ExportDecl ss cs (list_head h)) rest
      by l (other f) g bd hd h rest = other_step ss cs ts l f g hd h rest
