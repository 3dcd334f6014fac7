-- A walk that takes declarations away where no run comes keeps what a module or a script does: their names are dead.
use Rattle.std.proofs.Common.{◌≡◌, ℕ, ◌<◌, Bool, true, false, ◌&&◌, ◌||◌, List, [], ◌∷◌, ◌++◌, Option, Some, None, refl, sym, ap, ap₂, subst, ◌∙◌, arith, ◌⊎◌, inl, inr}
use Rattle.std.proofs.lemmas.Bool.{and_parts, or_cases, or_left, or_right, false≢true, true≢false}
use Rattle.swc_ast.specs.Labels.{is_whole, is_block, is_declaration}
use Rattle.swc_ast.specs.declared.Span.{Span}
use Rattle.swc_ast.specs.Tree.{Name, Text, same_name, Label, Param, For, Switch, Block, Body, CaseBody, Import, ExportDecl, VarDecl, Declarator, Module, Script, Tree, node, Forest, ε, ◌⊳◌, label_of}
use Rattle.swc_ast.specs.Core.{IsCore}
use Rattle.swc_ast.specs.Meaning.{is_unresolved, eval}
use Rattle.swc_ast.specs.Resolved.{scopes, is_default, IsResolved}
use Rattle.swc_ast.specs.Run.{Same, sources, source_of, once}
use Rattle.swc_ast.specs.Scope.{default_name, has_name, vars_all, case_statements, found, declared, declarator_name, declarator_names}
use Rattle.swc_ast.specs.Value.{Value, State, Outcome, Done, Context}
use Rattle.swc_ast.specs.Valid.{valid, valid_all, good_names, good_shape, is_identifier}
use Rattle.meaning_proofs.proofs.Observations.{same_itself}
use Rattle.meaning_proofs.specs.Exact.{run_at, Refined, Exact, ListExact, Trimmed, ListTrims, Stops, Yielded, yielded, cases_at, Among, CasesTrim, Discriminant, any_value, one_value}
use Rattle.meaning_proofs.specs.Names.{Names}
use Rattle.meaning_proofs.specs.Rewrites.{Rewrites, All, nil, cons}
use Rattle.meaning_proofs.specs.Roles.{is_part, module_items, Fits, unchanged, changed, SameLists, SameScope, holds_function}
use Rattle.meaning_proofs.specs.Sameness.{heeded, ignoring}
use Rattle.meaning_proofs.specs.Walks as meaning
use Rattle.meaning_proofs.specs.Walks.{dead_names, no_names, binds_living, all_living, all_living_in, Steps, as_it_is, as_told, at_list, at_export, WalksAll, no_more, one_more, stops_there, WalksUnreached, none_unreached, one_unreached, goes_unseen, WalksWhole, walks_module, walks_script, StepsRight}
use Rattle.meaning_proofs.proofs.Laws.{last, exact_itself, list_exact_itself, list_trims_itself, same_lists_itself, trimmed_path}
use Rattle.meaning_proofs.proofs.Making.{other_cases}
use Rattle.meaning_proofs.proofs.Spans.{Bound, all_clean, living_clean}
use Rattle.meaning_proofs.proofs.Walking.{walk_rewrites, walk_all, walk_same, dead_exports}
use Rattle.static_proofs.specs.Shaped.{is_declarator_of, labels_of, all_labels, holds, is_shaped, are_shaped, IsShaped}
use Rattle.static_proofs.specs.Together.{is_module}
use Rattle.static_proofs.proofs.Names.{has_name_append, same_name_path}
use Rattle.static_proofs.proofs.Thinned.{Thinned, inside, a_list, ThinnedAll, none_thinned, more_thinned, ThinnedList, no_item, thinned_keeps, thinned_shaped}
use Rattle.static_proofs.proofs.Thinned as thinned
use Rattle.static_proofs.proofs.Lost.{is_section, thinned_less}
use Rattle.tree_walk.specs.Pass.{Pass, walks_each}
use Rattle.tree_walk.specs.Walks.{Walks, closed, opened, passes, stands, stepped, Entered, plain, exported, headed, head_shut, imports, block, ListMade, listed, tidied, Whole, shut, whole, AllWalk, nothing, both}
use Rattle.walk_proofs.specs.Plain.{NodeRight, does_same, default_goes}
use Rattle.walk_proofs.specs.Dying.{Sheds, sheds_none, item_stays, item_stops, item_goes, CasesShed, tree_stays, Gives, leaf_gives, OpenRight, cases_shed, ListRight, DyingRight}
use Rattle.walk_proofs.proofs.Cases.{itself, all_itself, all_list, cases_thin, cases_vars, cases_scope}
use Rattle.walk_proofs.proofs.Finished.{whole_list, block_list}
use Rattle.walk_proofs.proofs.Living.{Hidden, living}
use Rattle.walk_proofs.proofs.Meant.{block_is, declaration_is, sources_at, plain_meant, default_meant}
use Rattle.walk_proofs.proofs.Shed.{walked_label, Declares, declares, was_declared, declares_dead}

-- steps

-- steps of nodes and lists that do the same; what a `switch` becomes in front is told otherwise
abbrev dying_steps : ℕ → (Name → Bool) → Steps
dying_steps mark dead = record { Early = λ t u. ⊥; Node = λ t u. Exact mark t u × Fits (dead_names dead) t u; Before = λ ts us. us ≡ ts; Behind = λ ts us. ListExact mark ts us × SameLists (dead_names dead) ts us; Goes = λ t. ⊥; GoesBehind = λ t. ⊥ }

dying_right : (mark : ℕ) (dead : Name → Bool) → StepsRight (dead_names dead) mark (dying_steps mark dead)
dying_right mark dead = record {
  firm = λ x. refl;
  early_trims = λ t u e. elim e [ ];
  early_fits = λ t u e. elim e [ ];
  node_exact = λ t u f. f.0;
  node_fits = λ t u f. f.1;
  before_trims = λ ts us e. subst (λ vs. ListTrims (dead_names dead) (eval mark) ts vs) (sym e) (list_trims_itself ts);
  before_declares = λ ts us e. subst (λ vs. SameLists (dead_names dead) ts vs) (sym e) (same_lists_itself ts);
  behind_exact = λ ts us f. f.0;
  behind_declares = λ ts us f. f.1;
  goes_idle = λ t e. elim e [ ];
  goes_declares = λ t e. elim e [ ];
  goes_behind_idle = λ t e. elim e [ ];
  goes_behind_declares = λ t e. elim e [ ];
  goes_behind_no_item = λ t e. elim e [ ];
}

-- the names are dead, and none of them is unresolved
record AreDead (mark : ℕ) (dead : Name → Bool) (xs : List Name) : Type 0 where
  pub bound : Bound dead mark
  pub covers : (x : Name) → has_name x xs ≡ true → dead x ≡ true

dead_first : {mark : ℕ} {dead : Name → Bool} (xs ys : List Name) → AreDead mark dead (xs ++ ys) → AreDead mark dead xs
dead_first xs ys h = record { bound = h.bound; covers = λ x e. h.covers x (has_name_append x xs ys ∙ or_left (has_name x xs) (has_name x ys) e) }

dead_rest : {mark : ℕ} {dead : Name → Bool} (xs ys : List Name) → AreDead mark dead (xs ++ ys) → AreDead mark dead ys
dead_rest xs ys h = record { bound = h.bound; covers = λ x e. h.covers x (has_name_append x xs ys ∙ or_right (has_name x xs) (has_name x ys) e) }

-- what declares the same but for fewer names declares the same

fits_dead : (dead : Name → Bool) {t u : Tree} → Fits no_names t u → Fits (dead_names dead) t u
fits_dead dead unchanged = unchanged
fits_dead dead (changed p q s) = changed p q (record {
  guarded_vars = λ x g e. sym (s.vars x refl refl) ∙ e;
  vars = λ x d z. s.vars x refl refl;
  declares = λ x d. s.declares x refl;
  functions = λ x g e. ap holds_function (s.declares x refl) ∙ e;
  copied = λ x d. s.copied x refl;
})

lists_dead : (dead : Name → Bool) (xs : List Name) {ts us : Forest} → ((x : Name) → has_name x xs ≡ true → dead x ≡ true) → SameLists (dead_names (λ x. has_name x xs)) ts us → SameLists (dead_names dead) ts us
lists_dead dead xs {ts} {us} f s = record {
  vars = λ x d z. s.vars x (lives x d) refl;
  guarded_vars = λ x g e. by_vars x e (has_name x xs) refl;
  declares = λ x d. s.declares x (lives x d);
  functions = λ x g e. by_names x e (has_name x xs) refl;
}
  where
    lives : (x : Name) → dead x ≡ false → has_name x xs ≡ false
    lives x d = go (has_name x xs) refl
      where
        go : (b : Bool) → has_name x xs ≡ b → b ≡ false
        go false e = refl
        go true e = absurd (true≢false (sym (f x e) ∙ d))

    by_vars : (x : Name) → has_name x (vars_all ts) ≡ true → (b : Bool) → has_name x xs ≡ b → has_name x (vars_all us) ≡ true
    by_vars x e true i = s.guarded_vars x i e
    by_vars x e false i = sym (s.vars x i refl) ∙ e

    by_names : (x : Name) → holds_function (found x (declared us)) ≡ false → (b : Bool) → has_name x xs ≡ b → holds_function (found x (declared ts)) ≡ false
    by_names x e true i = s.functions x i e
    by_names x e false i = ap holds_function (s.declares x i) ∙ e

no_source : (l : Label) → is_part l ≡ false → source_of l ≡ []
no_source (Import src) e = absurd (true≢false e)
no_source l e = refl

-- names that go are identifiers

declarators_spelled : (ds : Forest) → valid_all ds ≡ true → (x : Name) → has_name x (declarator_names ds) ≡ true → is_identifier x.text ≡ true
declarators_spelled ε v x e = absurd (false≢true e)
declarators_spelled (node l ss cs ⊳ ds) v x e =
    let p = and_parts (valid (node l ss cs)) (valid_all ds) v in
    by_side (declarators_spelled ds p.1 x) (or_cases (has_name x (declarator_name l)) (has_name x (declarator_names ds)) (sym (has_name_append x (declarator_name l) (declarator_names ds)) ∙ e))
  where
    one : (m : Label) → good_names m ≡ true → has_name x (declarator_name m) ≡ true → is_identifier x.text ≡ true
    one (Declarator k y) g i = ap (λ z. is_identifier z.text) (same_name_path x y (or_nothing (same_name x y) i)) ∙ g
      where
        or_nothing : (b : Bool) → (b || false) ≡ true → b ≡ true
        or_nothing true j = refl
        or_nothing false j = absurd (false≢true j)
    one m g i = absurd (false≢true i)

    by_side : (has_name x (declarator_names ds) ≡ true → is_identifier x.text ≡ true) → (has_name x (declarator_name l) ≡ true) ⊎ (has_name x (declarator_names ds) ≡ true) → is_identifier x.text ≡ true
    by_side f (inl i) = one l (and_parts (good_names l) (good_shape l cs) (and_parts (good_names l && good_shape l cs) (valid_all cs) (and_parts (valid (node l ss cs)) (valid_all ds) v).0).0).0 i
    by_side f (inr i) = f i

either_spelled : (x : Name) (xs ys : List Name) → (has_name x xs ≡ true → is_identifier x.text ≡ true) → (has_name x ys ≡ true → is_identifier x.text ≡ true) → has_name x (xs ++ ys) ≡ true → is_identifier x.text ≡ true
either_spelled x xs ys f g e = go (or_cases (has_name x xs) (has_name x ys) (sym (has_name_append x xs ys) ∙ e))
  where
    go : (has_name x xs ≡ true) ⊎ (has_name x ys ≡ true) → is_identifier x.text ≡ true
    go (inl i) = f i
    go (inr i) = g i

mutual
  spelled : {xs : List Name} {t u : Tree} → Thinned xs t u → valid t ≡ true → (x : Name) → has_name x xs ≡ true → is_identifier x.text ≡ true
  spelled (inside {l = l} {cs = cs} h) v x e = all_spelled h (and_parts (good_names l && good_shape l cs) (valid_all cs) v).1 x e
  spelled (a_list {l = l} {cs = cs} i h) v x e = list_spelled h (and_parts (good_names l && good_shape l cs) (valid_all cs) v).1 x e

  all_spelled : {xs : List Name} {ts us : Forest} → ThinnedAll xs ts us → valid_all ts ≡ true → (x : Name) → has_name x xs ≡ true → is_identifier x.text ≡ true
  all_spelled none_thinned v x e = absurd (false≢true e)
  all_spelled (more_thinned {xs = xs} {ys = ys} {t = t} {ts = ts} h hs) v x e = let p = and_parts (valid t) (valid_all ts) v in either_spelled x xs ys (spelled h p.0 x) (all_spelled hs p.1 x) e

  list_spelled : {xs : List Name} {ts us : Forest} → ThinnedList xs ts us → valid_all ts ≡ true → (x : Name) → has_name x xs ≡ true → is_identifier x.text ≡ true
  list_spelled no_item v x e = absurd (false≢true e)
  list_spelled (thinned.item_stays {xs = xs} {ys = ys} {t = t} {ts = ts} h hs) v x e = let p = and_parts (valid t) (valid_all ts) v in either_spelled x xs ys (spelled h p.0 x) (list_spelled hs p.1 x) e
  list_spelled (thinned.item_goes {k = k} {ss = ss} {ds = ds} {ts = ts} {xs = xs} i hs) v x e =
      let p = and_parts (valid (node (VarDecl k) ss ds)) (valid_all ts) v in
      let q = and_parts (good_names (VarDecl k) && good_shape (VarDecl k) ds) (valid_all ds) p.0 in
      either_spelled x (declarator_names ds) xs (declarators_spelled ds q.1 x) (list_spelled hs p.1 x) e

-- and so none of them is that of a default export
no_default : (x : Name) → is_identifier x.text ≡ true → is_default x ≡ false
unfolding is_identifier
no_default x e = go (is_default x) refl
  where
    go : (b : Bool) → is_default x ≡ b → b ≡ false
    go false i = refl
    go true i = absurd (false≢true (sym (ap (λ z. is_identifier z.text) (same_name_path x default_name i)) ∙ e))

module _ (mark : ℕ) where
  -- What is known of a tree that was walked: what it is without the declarations that go, and that it was walked by right steps
  -- where no label_of of what is left binds a dead name.
  record Walked (a b : Tree) : Type 0 where
    pub names : List Name
    pub thin : Tree
    pub thins : Thinned names a thin
    pub walks : (dead : Name → Bool) → AreDead mark dead names → all_living dead thin ≡ true → meaning.Walks (dead_names dead) mark (dying_steps mark dead) a b

  record WalkedAll (ts us : Forest) : Type 0 where
    pub names : List Name
    pub thin : Forest
    pub thins : ThinnedAll names ts thin
    pub walks : (dead : Name → Bool) → AreDead mark dead names → all_living_in dead thin ≡ true → (b : Bool) → WalksAll (dead_names dead) mark (dying_steps mark dead) b ts us

  -- items of a list, behind one that never ends normally or not
  abbrev ItemsWalk : Bool → (Name → Bool) → Forest → Forest → Type 0
  ItemsWalk false dead ts us = WalksAll (dead_names dead) mark (dying_steps mark dead) true ts us
  ItemsWalk true dead ts us = WalksUnreached (dead_names dead) mark (dying_steps mark dead) ts us

  record WalkedItems (b : Bool) (ts vs : Forest) (went : List Name) : Type 0 where
    pub names : List Name
    pub thin : Forest
    pub thins : ThinnedList names ts thin
    pub covered : (x : Name) → has_name x went ≡ true → has_name x names ≡ true
    pub loads : sources ts ≡ sources vs
    pub walks : (dead : Name → Bool) → AreDead mark dead names → all_living_in dead thin ≡ true → ItemsWalk b dead ts vs

  -- a list that was walked, and then took a step
  record WalkedList (l : Label) (ts vs : Forest) : Type 0 where
    pub names : List Name
    pub thin : Forest
    pub between : Forest
    pub thins : ThinnedList names ts thin
    pub loads : sources ts ≡ sources between
    pub items : is_module l ≡ true → module_items between ≡ module_items vs
    pub walks : (dead : Name → Bool) → AreDead mark dead names → all_living_in dead thin ≡ true → WalksAll (dead_names dead) mark (dying_steps mark dead) true ts between
    pub behind : (dead : Name → Bool) → AreDead mark dead names → ListExact mark between vs × SameLists (dead_names dead) between vs

  -- a step at a node, or none
  data Moved : Tree → Tree → Type 0 where
    unmoved : {t : Tree} → Moved t t
    moved : {t u : Tree} → NodeRight mark t u → Moved t u

  stays_node : (dead : Name → Bool) (t : Tree) → Exact mark t t × Fits (dead_names dead) t t
  stays_node dead t = (exact_itself mark t, unchanged)

  -- a node that is no list

  plain_walked : (l : Label) (ss : List Span) {ts us : Forest} {d : Tree} → walks_each l ≡ true → WalkedAll ts us → Moved (node l ss us) d → Walked (node l ss ts) d
  plain_walked l ss {ts} {us} p w unmoved = record {
    names = w.names;
    thin = node l ss w.thin;
    thins = inside w.thins;
    walks = λ dead k e. let q = and_parts (binds_living dead l) (all_living_in dead w.thin) e in plain_meant l p (all_clean k.bound l q.0) (w.walks dead k q.1) (stays_node dead (node l ss us));
  }
  plain_walked l ss {ts} {us} {d} p w (moved (does_same e f i)) = record {
    names = w.names;
    thin = node l ss w.thin;
    thins = inside w.thins;
    walks = λ dead k a. let q = and_parts (binds_living dead l) (all_living_in dead w.thin) a in plain_meant l p (all_clean k.bound l q.0) (w.walks dead k q.1) (e, fits_dead dead f);
  }
  plain_walked l ss {ts} p w (moved (default_goes {x = x} y)) = record {
    names = w.names;
    thin = node l ss w.thin;
    thins = inside w.thins;
    walks = λ dead k a. let q = and_parts (binds_living dead (Param x)) (all_living_in dead w.thin) a in default_meant (all_clean k.bound (Param x) q.0) (w.walks dead k q.1 false) y;
  }

  -- an exported declaration, and an import
  exported_walked : (l : Label) (ss rs : List Span) {ts us : Forest} {d : Tree} → is_declaration l ≡ true → WalkedAll ts us → Moved (node ExportDecl ss (node l rs us ⊳ ε)) d → Walked (node ExportDecl ss (node l rs ts ⊳ ε)) d
  exported_walked l ss rs {ts} {us} e w unmoved = record {
    names = w.names ++ [];
    thin = node ExportDecl ss (node l rs w.thin ⊳ ε);
    thins = inside (more_thinned (inside w.thins) none_thinned);
    walks = λ dead k a.
        let q = and_parts (binds_living dead l) (all_living_in dead w.thin) (and_parts (binds_living dead l && all_living_in dead w.thin) true a).0 in
        at_export l (declaration_is l e) (all_clean k.bound l q.0) (w.walks dead (dead_first w.names [] k) q.1 false) (stays_node dead (node l rs us)) refl;
  }
  exported_walked l ss rs e w (moved (does_same g f i)) = absurd (true≢false i)

  import_walked : (src : Text) (ss : List Span) {ts : Forest} {d : Tree} → Moved (node (Import src) ss ts) d → Walked (node (Import src) ss ts) d
  import_walked src ss {ts} unmoved = record {
    names = [];
    thin = node (Import src) ss ts;
    thins = itself (node (Import src) ss ts);
    walks = λ dead k a. as_it_is refl (living_clean k.bound (node (Import src) ss ts) a);
  }
  import_walked src ss (moved (does_same g f i)) = absurd (true≢false i)

  -- a list inside a module or a script

  list_step : (dead : Name → Bool) (l : Label) {ss : List Span} {us : Forest} {d : Tree} → is_block l ≡ true → Moved (node l ss us) d → Exact mark (node l ss us) d × Fits (dead_names dead) (node l ss us) d
  list_step dead l {ss} {us} e unmoved = stays_node dead (node l ss us)
  list_step dead l e (moved (does_same g f i)) = (g, fits_dead dead f)
  list_step dead l e (moved (default_goes y)) = absurd (false≢true e)

  block_walked : (l : Label) (ss : List Span) {ts us : Forest} {d : Tree} → is_block l ≡ true → WalkedList l ts us → Moved (node l ss us) d → Walked (node l ss ts) d
  block_walked l ss {ts} {us} {d} e w m = record {
    names = w.names;
    thin = node l ss w.thin;
    thins = a_list (block_list l e) w.thins;
    walks = λ dead k a. let q = and_parts (binds_living dead l) (all_living_in dead w.thin) a in at_list l (block_is l e) refl (w.walks dead k q.1) (w.behind dead k) (list_step dead l e m);
  }

  -- a `switch`

  -- What is known of a `switch` whose cases became others in front of their walk, where no label_of of what is left binds a dead name.
  record CasesMade (dead : Name → Bool) (ds : List Bool) (ss : List Span) (t given : Tree) (cs : Forest) (w : Tree) : Type 0 where
    pub known : Option Value
    pub between : Forest
    pub rest : Forest
    pub begins : Rewrites (dead_names dead) mark (eval mark) t given
    pub tells : Discriminant mark given known
    pub among : (v : Value) (n d : ℕ) (c : Context) (s : State) → run_at (eval mark) n d t c s ≡ Done v s → Among known v
    pub trims : CasesTrim (dead_names dead) (eval mark) known ds cs ds between
    pub scope : SameScope (dead_names dead) (case_statements (t ⊳ cs)) (case_statements (t ⊳ between))
    pub vars : vars_all (t ⊳ cs) ≡ vars_all (t ⊳ between)
    pub goes_on : All (dead_names dead) mark (eval mark) false between rest
    pub steps : Exact mark (node (Switch ds) ss (given ⊳ rest)) w × Fits (dead_names dead) (node (Switch ds) ss (given ⊳ rest)) w

  record WalkedSwitch (ds : List Bool) (ss : List Span) (t : Tree) (cs : Forest) (w : Tree) : Type 0 where
    pub names : List Name
    pub thin : Forest
    pub thins : ThinnedAll names (t ⊳ cs) thin
    pub given : Tree
    -- a leaf for a discriminant does the same once it is walked
    pub still : (l : Label) (qs : List Span) → walks_each l ≡ true → t ≡ node l qs ε → Exact mark t given
    pub made : (dead : Name → Bool) → AreDead mark dead names → all_living_in dead thin ≡ true → CasesMade dead ds ss t given cs w

  switch_is : {ds : List Bool} {ss : List Span} {t : Tree} {cs : Forest} {w : Tree} → WalkedSwitch ds ss t cs w → Walked (node (Switch ds) ss (t ⊳ cs)) w
  switch_is {ds} {ss} {t} {cs} {w} k = record {
    names = k.names;
    thin = node (Switch ds) ss k.thin;
    thins = inside k.thins;
    walks = λ dead q a.
        let m = k.made dead q a in
        as_told (last (other_cases ds ds ss ss m.begins m.tells m.trims m.scope (record { vars = λ x i z. ap (has_name x) m.vars; guarded_vars = λ x g e. sym (ap (has_name x) m.vars) ∙ e }) m.goes_on) m.steps.0 m.steps.1);
  }

  -- one that is not entered
  living_rewrites : (dead : Name → Bool) → Bound dead mark → (t : Tree) → all_living dead t ≡ true → Rewrites (dead_names dead) mark (eval mark) t t
  living_rewrites dead b t a = walk_rewrites (dying_right mark dead) (as_it_is refl (living_clean b t a))

  living_all : (dead : Name → Bool) → Bound dead mark → (ts : Forest) → all_living_in dead ts ≡ true → All (dead_names dead) mark (eval mark) false ts ts
  living_all dead b ε a = nil
  living_all dead b (t ⊳ ts) a = let q = and_parts (all_living dead t) (all_living_in dead ts) a in cons (living_rewrites dead b t q.0) (living_all dead b ts q.1)

  same_cases : {N : Names} (ds : List Bool) (cs : Forest) → CasesTrim N (eval mark) None ds cs ds cs
  same_cases ds cs = record { by = λ n d v c s a g. trimmed_path refl }

  shut_switch : (ds : List Bool) (ss : List Span) (t : Tree) (cs : Forest) → WalkedSwitch ds ss t cs (node (Switch ds) ss (t ⊳ cs))
  shut_switch ds ss t cs = record {
    names = [];
    thin = t ⊳ cs;
    thins = all_itself (t ⊳ cs);
    given = t;
    still = λ l qs p e. exact_itself mark t;
    made = λ dead k a.
        let q = and_parts (all_living dead t) (all_living_in dead cs) a in
        record {
          known = None;
          between = cs;
          rest = cs;
          begins = living_rewrites dead k.bound t q.0;
          tells = any_value;
          among = λ v n d c s e. tt;
          trims = same_cases ds cs;
          scope = record { declares = λ x i. refl; functions = λ x g e. e };
          vars = refl;
          goes_on = living_all dead k.bound cs q.1;
          steps = stays_node dead (node (Switch ds) ss (t ⊳ cs));
        };
  }

  -- one whose children are walked
  switch_step : (dead : Name → Bool) {ds : List Bool} {ss : List Span} {us : Forest} {w : Tree} → Moved (node (Switch ds) ss us) w → Exact mark (node (Switch ds) ss us) w × Fits (dead_names dead) (node (Switch ds) ss us) w
  switch_step dead {ds} {ss} {us} unmoved = stays_node dead (node (Switch ds) ss us)
  switch_step dead (moved (does_same g f i)) = (g, fits_dead dead f)

  first_walks : {N : Names} {t u : Tree} {ts us : Forest} → All N mark (eval mark) false (t ⊳ ts) (u ⊳ us) → Rewrites N mark (eval mark) t u
  first_walks (cons h hs) = h

  rest_walks : {N : Names} {t u : Tree} {ts us : Forest} → All N mark (eval mark) false (t ⊳ ts) (u ⊳ us) → All N mark (eval mark) false ts us
  rest_walks (cons h hs) = hs

  entered_switch : {ds : List Bool} {ss : List Span} {t d : Tree} {cs us : Forest} {w : Tree} → ((l : Label) (qs : List Span) → walks_each l ≡ true → t ≡ node l qs ε → Exact mark t d) → WalkedAll (t ⊳ cs) (d ⊳ us) → Moved (node (Switch ds) ss (d ⊳ us)) w → WalkedSwitch ds ss t cs w
  entered_switch {ds} {ss} {t} {d} {cs} {us} f k m = record {
    names = k.names;
    thin = k.thin;
    thins = k.thins;
    given = d;
    still = f;
    made = λ dead q a.
        let h = walk_all (dying_right mark dead) (k.walks dead q a false) in
        record {
          known = None;
          between = cs;
          rest = us;
          begins = first_walks h;
          tells = any_value;
          among = λ v n d c s e. tt;
          trims = same_cases ds cs;
          scope = record { declares = λ x i. refl; functions = λ x g e. e };
          vars = refl;
          goes_on = rest_walks h;
          steps = switch_step dead m;
        };
  }

  -- one whose lists lost declarations in front of that

  value_given : {v : Value} {t : Tree} → Gives mark v t → (n d : ℕ) (c : Context) (s : State) → run_at (eval mark) n d t c s ≡ Done v s
  value_given (leaf_gives l p h f) = f

  abbrev done_value : Value → Outcome Value → Value
  done_value v (Done w s) = w
  done_value v o = v

  yields_it : {v : Value} {s : State} {o r : Outcome Value} → o ≡ Done v s → Refined o r → Yielded v r
  yields_it {v} {s} {o} {r} e h = subst (λ z. Yielded v z) (sym (subst (λ z. Refined z r) e h)) yielded

  gives_tells : {v : Value} {t d : Tree} → Gives mark v t → ((l : Label) (qs : List Span) → walks_each l ≡ true → t ≡ node l qs ε → Exact mark t d) → Discriminant mark d (Some v)
  gives_tells (leaf_gives l {ss} p h f) g = one_value h (record { by = λ n d c s. yields_it (f n d c s) (((g l ss p refl).by n d c).by s) })

  opened_switch : {ds : List Bool} {ss : List Span} {t : Tree} {cs us : Forest} {xs : List Name} {w : Tree} (v : Value) → Gives mark v t → CasesShed mark cs us xs → ((n d : ℕ) (c : Context) (s : State) → cases_at (eval mark) n d ds cs v c s ≡ cases_at (eval mark) n d ds us v c s) → WalkedSwitch ds ss t us w → WalkedSwitch ds ss t cs w
  opened_switch {ds} {ss} {t} {cs} {us} {xs} v g k e r =
      let b = cases_thin (tree_stays {t = t} k) r.thins in
      record {
        names = b.names;
        thin = r.thin;
        thins = b.thins;
        given = r.given;
        still = r.still;
        made = λ dead q a.
            let m = r.made dead (record { bound = q.bound; covers = λ x i. q.covers x (b.second.by x i) }) a in
            let f = cases_scope (tree_stays {t = t} k) (λ x i. q.covers x (b.first.by x i)) in
            record {
              known = Some v;
              between = m.between;
              rest = m.rest;
              begins = m.begins;
              tells = gives_tells g r.still;
              among = λ w n d c s i. ap (done_value w) (sym i ∙ value_given g n d c s);
              trims = record {
                by = λ n d w c s i h. subst (λ z. Trimmed (dead_names dead) (cases_at (eval mark) n d ds cs z c s) (cases_at (eval mark) n d ds m.between z c s)) (sym i)
                    (subst (λ z. Trimmed (dead_names dead) z (cases_at (eval mark) n d ds m.between v c s)) (sym (e n d c s)) (m.trims.by n d v c s (m.among v n d c s (value_given g n d c s)) h));
              };
              scope = record { declares = λ x i. f.declares x i ∙ m.scope.declares x i; functions = λ x i j. f.functions x i (m.scope.functions x i j) };
              vars = cases_vars (tree_stays {t = t} k) ∙ m.vars;
              goes_on = m.goes_on;
              steps = m.steps;
            };
      }

  -- a `switch` that lost declarations has its shape
  shed_shaped : (ds : List Bool) (ss : List Span) (t : Tree) {cs us : Forest} {xs : List Name} → CasesShed mark cs us xs → is_shaped (node (Switch ds) ss (t ⊳ cs)) ≡ true → is_shaped (node (Switch ds) ss (t ⊳ us)) ≡ true
  shed_shaped ds ss t {cs} {us} k h = thinned_shaped (inside {l = Switch ds} {ss = ss} (cases_thin (tree_stays {t = t} k) (all_itself (t ⊳ us))).thins) h

  open_shaped : {a b : Tree} → OpenRight mark a b → is_shaped a ≡ true → is_shaped b ≡ true
  open_shaped (cases_shed {ds = ds} {ss = ss} {t = t} v g k e) h = shed_shaped ds ss t k h

  -- what is known of a walked tree, if it is a `switch`
  abbrev SwitchOf : Tree → Tree → Type 0
  SwitchOf (node (Switch ds) ss (t ⊳ cs)) d = WalkedSwitch ds ss t cs d
  SwitchOf t d = Unit {0}

  shut_of : (t : Tree) → SwitchOf t t
  shut_of (node (Switch ds) ss (t ⊳ cs)) = shut_switch ds ss t cs
  shut_of t = tt

  opened_of : (d : Tree) {a b : Tree} → OpenRight mark a b → SwitchOf b d → SwitchOf a d
  opened_of d (cases_shed v g k e) w = opened_switch v g k e w

  opened_is : (d : Tree) {a b : Tree} → OpenRight mark a b → SwitchOf b d → Walked a d
  opened_is d (cases_shed v g k e) w = switch_is (opened_switch v g k e w)

  block_of : (l : Label) (ss : List Span) (ts : Forest) (d : Tree) → is_block l ≡ true → SwitchOf (node l ss ts) d
  block_of (Switch ds) ss ts d e = absurd (false≢true e)
  block_of l ss ts d e = tt

  all_both : {t u : Tree} {ts us : Forest} → Walked t u → WalkedAll ts us → WalkedAll (t ⊳ ts) (u ⊳ us)
  all_both w ws = record {
    names = w.names ++ ws.names;
    thin = w.thin ⊳ ws.thin;
    thins = more_thinned w.thins ws.thins;
    walks = λ dead k a b. let q = and_parts (all_living dead w.thin) (all_living_in dead ws.thin) a in one_more (w.walks dead (dead_first w.names ws.names k) q.0) (ws.walks dead (dead_rest w.names ws.names k) q.1 b);
  }

  no_items : (b : Bool) → WalkedItems b ε ε []
  no_items false = record { names = []; thin = ε; thins = no_item; covered = λ x e. e; loads = refl; walks = λ dead k a. no_more }
  no_items true = record { names = []; thin = ε; thins = no_item; covered = λ x e. e; loads = refl; walks = λ dead k a. none_unreached }

  module _ {X : Pass} (r : DyingRight X mark) where
    -- the modules that items load are those that they loaded

    loads_one : {c : Bool} {t u : Tree} (ts us : Forest) → Walks X c t u → sources ts ≡ sources us → sources (t ⊳ ts) ≡ sources (u ⊳ us)
    loads_one {t = t} {u = u} ts us w e = sources_at t ts ∙ ap₂ ◌++◌ (walked_label source_of [] no_source r w) e ∙ sym (sources_at u us)

    loads_all : {c : Bool} {ts us : Forest} → AllWalk X c ts us → sources ts ≡ sources us
    loads_all nothing = refl
    loads_all (both {ts = ts} {us = us} w ws) = loads_one ts us w (loads_all ws)

    -- items

    one_stays : (b : Bool) {c : Bool} {t u : Tree} {ts vs : Forest} {went : List Name} → Walks X c t u → Walked t u → WalkedItems b ts vs went → WalkedItems b (t ⊳ ts) (u ⊳ vs) went
    one_stays b {t = t} {u = u} {ts = ts} {vs = vs} {went = went} h w s = record {
      names = w.names ++ s.names;
      thin = w.thin ⊳ s.thin;
      thins = thinned.item_stays w.thins s.thins;
      covered = λ x e. has_name_append x w.names s.names ∙ or_right (has_name x w.names) (has_name x s.names) (s.covered x e);
      loads = loads_one ts vs h s.loads;
      walks = λ dead k a. let q = and_parts (all_living dead w.thin) (all_living_in dead s.thin) a in put b dead (w.walks dead (dead_first w.names s.names k) q.0) (s.walks dead (dead_rest w.names s.names k) q.1);
    }
      where
        put : (b : Bool) (dead : Name → Bool) → meaning.Walks (dead_names dead) mark (dying_steps mark dead) t u → ItemsWalk b dead ts vs → ItemsWalk b dead (t ⊳ ts) (u ⊳ vs)
        put false dead i j = one_more i j
        put true dead i j = one_unreached i j

    one_stops : (b : Bool) {c : Bool} {t u : Tree} {ts vs : Forest} {went : List Name} → Walks X c t u → Stops mark u → Walked t u → WalkedItems true ts vs went → WalkedItems b (t ⊳ ts) (u ⊳ vs) went
    one_stops b {t = t} {u = u} {ts = ts} {vs = vs} {went = went} h g w s = record {
      names = w.names ++ s.names;
      thin = w.thin ⊳ s.thin;
      thins = thinned.item_stays w.thins s.thins;
      covered = λ x e. has_name_append x w.names s.names ∙ or_right (has_name x w.names) (has_name x s.names) (s.covered x e);
      loads = loads_one ts vs h s.loads;
      walks = λ dead k a. let q = and_parts (all_living dead w.thin) (all_living_in dead s.thin) a in put b dead (w.walks dead (dead_first w.names s.names k) q.0) (s.walks dead (dead_rest w.names s.names k) q.1);
    }
      where
        put : (b : Bool) (dead : Name → Bool) → meaning.Walks (dead_names dead) mark (dying_steps mark dead) t u → ItemsWalk true dead ts vs → ItemsWalk b dead (t ⊳ ts) (u ⊳ vs)
        put false dead i j = stops_there i g j
        put true dead i j = one_unreached i j

    one_goes : {c : Bool} {t u : Tree} {ts vs : Forest} {xs went : List Name} → Walks X c t u → is_shaped t ≡ true → Declares xs t → source_of (label_of t) ≡ [] → WalkedItems true ts vs went → WalkedItems true (t ⊳ ts) vs (xs ++ went)
    one_goes {ts = ts} {vs = vs} {xs = xs} {went = went} h a (declares {k = k} {ss = ss} {ds = ds} e f) o s = record {
      names = declarator_names ds ++ s.names;
      thin = s.thin;
      thins = thinned.item_goes e s.thins;
      covered = λ x i. has_name_append x (declarator_names ds) s.names ∙ by_side x (or_cases (has_name x xs) (has_name x went) (sym (has_name_append x xs went) ∙ i));
      loads = s.loads;
      walks = λ dead n b. goes_unseen (declares_dead k ss ds e (and_parts (all_labels (is_declarator_of k) (labels_of ds)) (are_shaped ds) a).0 (λ x i. (dead_first (declarator_names ds) s.names n).covers x i)) (s.walks dead (dead_rest (declarator_names ds) s.names n) b);
    }
      where
        by_side : (x : Name) → (has_name x xs ≡ true) ⊎ (has_name x went ≡ true) → (has_name x (declarator_names ds) || has_name x s.names) ≡ true
        by_side x (inl i) = or_left (has_name x (declarator_names ds)) (has_name x s.names) (f x i)
        by_side x (inr i) = or_right (has_name x (declarator_names ds)) (has_name x s.names) (s.covered x i)

    -- lists

    untidied : (l : Label) {c : Bool} {ts us : Forest} → AllWalk X c ts us → WalkedAll ts us → WalkedList l ts us
    untidied l {us = us} ws w = record {
      names = w.names;
      thin = w.thin;
      between = us;
      thins = all_list w.thins;
      loads = loads_all ws;
      items = λ i. refl;
      walks = λ dead k a. w.walks dead k a true;
      behind = λ dead k. (list_exact_itself mark us, same_lists_itself us);
    }

    tidied_list : (l : Label) {ts us vs : Forest} (m : ListRight mark l us vs) → WalkedItems false ts m.between m.names → WalkedList l ts vs
    tidied_list l m w = record {
      names = w.names;
      thin = w.thin;
      between = m.between;
      thins = w.thins;
      loads = w.loads;
      items = m.items;
      walks = w.walks;
      behind = λ dead k. (m.exact, lists_dead dead m.names (λ x e. k.covers x (w.covered x e)) m.declares);
    }

    not_entered : (t : Tree) → Walked t t
    not_entered t = record { names = []; thin = t; thins = itself t; walks = λ dead k a. as_it_is refl (living_clean k.bound t a) }

    -- a leaf that is walked does the same

    leaf_entered : {c : Bool} {l : Label} {qs : List Span} {b : Tree} → walks_each l ≡ true → Entered X c (node l qs ε) b → b ≡ node l qs ε
    leaf_entered p (plain q nothing) = refl
    leaf_entered p (imports u) = refl
    leaf_entered {l = l} p (block e w) = absurd (not_both l e p)
      where
        not_both : (l : Label) → is_block l ≡ true → walks_each l ≡ true → ⊥
        not_both Block e p = false≢true p
        not_both Body e p = false≢true p
        not_both CaseBody e p = false≢true p
        not_both l e p = false≢true e

    no_leaf : {a b : Tree} {l : Label} {qs : List Span} → a ≡ node l qs ε → OpenRight mark a b → ⊥
    no_leaf e (cases_shed v g k f) = cc

    leaf_step : {a d : Tree} {l : Label} {qs : List Span} → a ≡ node l qs ε → NodeRight mark a d → Exact mark (node l qs ε) d
    leaf_step {d = d} e (does_same g f i) = subst (λ z. Exact mark z d) e g
    leaf_step e (default_goes y) = cc

    leaf_walked : {c : Bool} {l : Label} {qs : List Span} {d : Tree} → walks_each l ≡ true → Walks X c (node l qs ε) d → Exact mark (node l qs ε) d
    leaf_walked {l = l} {qs = qs} p (closed s) = exact_itself mark (node l qs ε)
    leaf_walked {l = l} {qs = qs} p (opened {t = t} {u = u} s w) = absurd (no_leaf refl (r.open_right t u s))
    leaf_walked {l = l} {qs = qs} p (passes i w) = subst (λ z. Exact mark (node l qs ε) z) (sym (leaf_entered p w)) (exact_itself mark (node l qs ε))
    leaf_walked {l = l} {qs = qs} p (stands w i) = subst (λ z. Exact mark (node l qs ε) z) (sym (leaf_entered p w)) (exact_itself mark (node l qs ε))
    leaf_walked p (stepped {b = b} {d = d} w s) = leaf_step (leaf_entered p w) (r.node_right b d s)

    leaf_still : {c : Bool} {t d : Tree} → Walks X c t d → (l : Label) (qs : List Span) → walks_each l ≡ true → t ≡ node l qs ε → Exact mark t d
    leaf_still {c = c} {d = d} w l qs p e = subst (λ z. Exact mark z d) (sym e) (leaf_walked p (subst (λ z. Walks X c z d) e w))

    plain_of : (l : Label) (ss : List Span) {c : Bool} {ts us : Forest} {d : Tree} → AllWalk X c ts us → WalkedAll ts us → Moved (node l ss us) d → SwitchOf (node l ss ts) d
    plain_of (Switch ds) ss nothing k m = tt
    plain_of (Switch ds) ss (both w ws) k m = entered_switch (leaf_still w) k m
    plain_of l ss ws k m = tt

    mutual
      walked : {c : Bool} {a b : Tree} → Walks X c a b → is_shaped a ≡ true → Walked a b
      walked (closed {t = t} s) h = not_entered t
      walked (opened {t = t} {u = u} {v = v} s w) h = opened_is v (r.open_right t u s) (switch_walked w (open_shaped (r.open_right t u s) h))
      walked (passes i w) h = entered w h unmoved
      walked (stands w i) h = entered w h unmoved
      walked (stepped {b = b} {d = d} w s) h = entered w h (moved (r.node_right b d s))

      entered : {c : Bool} {a b d : Tree} → Entered X c a b → is_shaped a ≡ true → Moved b d → Walked a d
      entered (plain {l = l} {ss = ss} {ts = ts} p ws) h m = plain_walked l ss p (walked_all ws (and_parts (holds l (labels_of ts)) (are_shaped ts) h).1) m
      entered (exported {l = l} {ss = ss} {rs = rs} {ts = ts} d ws) h m = exported_walked l ss rs d (walked_all ws (and_parts (holds l (labels_of ts)) (are_shaped ts) (and_parts (is_shaped (node l rs ts)) true (and_parts (holds ExportDecl (l ∷ [])) (are_shaped (node l rs ts ⊳ ε)) h).1).0).1) m
      entered (headed {k = k} {ss = ss} {rs = rs} {ds = ds} {ts = ts} hs ws) h m =
          let q = and_parts (is_shaped (node (VarDecl k) rs ds)) (are_shaped ts) (and_parts (holds For (labels_of (node (VarDecl k) rs ds ⊳ ts))) (are_shaped (node (VarDecl k) rs ds ⊳ ts)) h).1 in
          plain_walked For ss refl (all_both (plain_walked (VarDecl k) rs refl (walked_all hs (and_parts (holds (VarDecl k) (labels_of ds)) (are_shaped ds) q.0).1) unmoved) (walked_all ws q.1)) m
      entered (head_shut {h = d} {ss = ss} {ts = ts} s ws) h m = plain_walked For ss refl (all_both (not_entered d) (walked_all ws (and_parts (is_shaped d) (are_shaped ts) (and_parts (holds For (labels_of (d ⊳ ts))) (are_shaped (d ⊳ ts)) h).1).1)) m
      entered (imports {src = src} {ss = ss} u) h m = import_walked src ss m
      entered (block {l = l} {ss = ss} {ts = ts} e w) h m = block_walked l ss e (walked_list w (and_parts (holds l (labels_of ts)) (are_shaped ts) h).1) m

      -- where a `switch` was walked
      switch_walked : {c : Bool} {a b : Tree} → Walks X c a b → is_shaped a ≡ true → SwitchOf a b
      switch_walked (closed {t = t} s) h = shut_of t
      switch_walked (opened {t = t} {u = u} {v = v} s w) h = opened_of v (r.open_right t u s) (switch_walked w (open_shaped (r.open_right t u s) h))
      switch_walked (passes i w) h = switch_entered w h unmoved
      switch_walked (stands w i) h = switch_entered w h unmoved
      switch_walked (stepped {b = b} {d = d} w s) h = switch_entered w h (moved (r.node_right b d s))

      switch_entered : {c : Bool} {a b d : Tree} → Entered X c a b → is_shaped a ≡ true → Moved b d → SwitchOf a d
      switch_entered (plain {l = l} {ss = ss} {ts = ts} p ws) h m = plain_of l ss ws (walked_all ws (and_parts (holds l (labels_of ts)) (are_shaped ts) h).1) m
      switch_entered (exported d ws) h m = tt
      switch_entered (headed hs ws) h m = tt
      switch_entered (head_shut s ws) h m = tt
      switch_entered (imports u) h m = tt
      switch_entered {d = d} (block {l = l} {ss = ss} {ts = ts} e w) h m = block_of l ss ts d e

      walked_list : {l : Label} {c : Bool} {ts us : Forest} → ListMade X l c ts us → are_shaped ts ≡ true → WalkedList l ts us
      walked_list {l = l} (listed ws t) h = untidied l ws (walked_all ws h)
      walked_list {l = l} (tidied {us = us} {vs = vs} ws t) h = let m = r.list_right l us vs t in tidied_list l m (walked_items false ws m.sheds h)

      walked_all : {c : Bool} {ts us : Forest} → AllWalk X c ts us → are_shaped ts ≡ true → WalkedAll ts us
      walked_all nothing h = record { names = []; thin = ε; thins = none_thinned; walks = λ dead k a b. no_more }
      walked_all (both {t = t} {ts = ts} w ws) h = let q = and_parts (is_shaped t) (are_shaped ts) h in all_both (walked w q.0) (walked_all ws q.1)

      walked_items : (b : Bool) {c : Bool} {ts us vs : Forest} {went : List Name} → AllWalk X c ts us → Sheds mark b us vs went → are_shaped ts ≡ true → WalkedItems b ts vs went
      walked_items b nothing sheds_none h = no_items b
      walked_items b (both {t = t} {ts = ts} w ws) (item_stays s) h = let q = and_parts (is_shaped t) (are_shaped ts) h in one_stays b w (walked w q.0) (walked_items b ws s q.1)
      walked_items b (both {t = t} {ts = ts} w ws) (item_stops g s) h = let q = and_parts (is_shaped t) (are_shaped ts) h in one_stops b w g (walked w q.0) (walked_items true ws s q.1)
      walked_items true (both {t = t} {ts = ts} w ws) (item_goes e a s) h = let q = and_parts (is_shaped t) (are_shaped ts) h in one_goes w q.0 (was_declared r e a w) (walked_label source_of [] no_source r w) (walked_items true ws s q.1)

    -- the law

    -- what is left of a module or a script shows nothing
    whole_hidden : {dead : Name → Bool} (l : Label) (ss : List Span) (ts : Forest) → is_whole l ≡ true → ((x : Name) → dead x ≡ true → scopes x (node l ss ts) ≡ 0) → Hidden dead (node l ss ts)
    whole_hidden Module ss ts i f = record { unbound = f; no_var = record { by = λ y d. refl }; not_shown = record { by = λ y d. refl } }
    whole_hidden Script ss ts i f = record { unbound = f; no_var = record { by = λ y d. refl }; not_shown = record { by = λ y d. refl } }
    whole_hidden l ss ts i f = absurd (false≢true i)

    whole_is_none : (l : Label) → is_whole l ≡ true → is_section l ≡ false
    whole_is_none Module i = refl
    whole_is_none Script i = refl
    whole_is_none l i = absurd (false≢true i)

    -- the names that went are dead in what is left
    record Settled (names : List Name) (thin : Tree) : Type 0 where
      pub dead : AreDead mark (λ x. has_name x names) names
      pub lives : all_living (λ x. has_name x names) thin ≡ true

    settled : {xs : List Name} (l : Label) (ss : List Span) {ts us : Forest} → is_whole l ≡ true → ThinnedList xs ts us → IsResolved mark (node l ss ts) → IsCore (node l ss ts) → IsShaped (node l ss ts) → Settled xs (node l ss us)
    settled {xs} l ss {ts} {us} i h d c s = record {
      dead = record { bound = record { at = λ x e. resolved x e (is_unresolved mark x) refl }; covers = λ x e. e };
      lives = living (λ x. has_name x xs) (node l ss us) (thinned_shaped th s.shaped) ((thinned_keeps th).valid_kept c.is_valid) (whole_hidden l ss us i (λ x e. omega (arith, less x e, d.bound_once x)));
    }
      where
        th : Thinned xs (node l ss ts) (node l ss us)
        th = a_list (whole_list l i) h

        less : (x : Name) → has_name x xs ≡ true → scopes x (node l ss us) < scopes x (node l ss ts)
        less x e = thinned_less th (whole_is_none l i) s.shaped c.fits_core x e

        resolved : (x : Name) → has_name x xs ≡ true → (b : Bool) → is_unresolved mark x ≡ b → b ≡ false
        resolved x e false j = refl
        resolved x e true j = absurd (omega (arith, less x e, d.none_unresolved x j (no_default x (spelled th c.is_valid x e))))

    whole_walks : (loads : Bool) (l : Label) (ss : List Span) {ts us : Forest} → is_whole l ≡ true → (w : WalkedList l ts us) → Settled w.names (node l ss w.thin) → WalksWhole (dead_names (λ x. has_name x w.names)) mark (dying_steps mark (λ x. has_name x w.names)) loads (node l ss ts) (node l ss us)
    whole_walks loads Module ss i w k = walks_module refl refl (w.walks (λ x. has_name x w.names) k.dead k.lives) (w.behind (λ x. has_name x w.names) k.dead) (w.items refl) (λ x e. dead_exports (λ y. has_name y w.names) x) (ap (λ z. heeded (ignoring loads) (once [] z)) w.loads)
    whole_walks loads Script ss i w k = walks_script refl (w.walks (λ x. has_name x w.names) k.dead k.lives) (w.behind (λ x. has_name x w.names) k.dead)
    whole_walks loads l ss i w k = absurd (false≢true i)

    pub dying_same : (loads : Bool) {c : Bool} {t u : Tree} → IsResolved mark t → IsCore t → IsShaped t → Whole X c t u → Same mark loads t u
    dying_same loads {t = t} d c s (shut h) = same_itself mark loads t
    dying_same loads d c s (whole {l = l} {ss = ss} {ts = ts} i w) =
        let m = walked_list w (and_parts (holds l (labels_of ts)) (are_shaped ts) s.shaped).1 in
        let k = settled l ss i m.thins d c s in
        walk_same (dying_right mark (λ x. has_name x m.names)) loads (whole_walks loads l ss i m k)
