-- Cases of a `switch` whose lists lose declarations that no run comes to: they hold the same variables, their scope declares the
-- same but for the names that went, and what is thinned behind that is thinned from the start.
use Rattle.std.proofs.Common.{◌≡◌, ℕ, Bool, true, false, List, [], ◌++◌, Option, Some, None, refl, sym, ap, ap₂, ◌∙◌}
use Rattle.std.proofs.lemmas.Bool.{or_left, or_right}
use Rattle.swc_ast.specs.declared.Span.{Span}
use Rattle.swc_ast.specs.Tree.{Name, CaseBody, VarDecl, Tree, node, Forest, ε, ◌⊳◌}
use Rattle.swc_ast.specs.Scope.{Declaration, has_name, vars, vars_all, found, declared, declared_by, declarator_names, joined, body_statements, case_statements}
use Rattle.meaning_proofs.specs.Roles.{holds_function, SameScope}
use Rattle.meaning_proofs.specs.Walks.{dead_names}
use Rattle.meaning_proofs.proofs.Declared.{or_else_fresh}
use Rattle.meaning_proofs.proofs.Finds.{or_else, is_none, found_cons}
use Rattle.static_proofs.specs.Names.{Within}
use Rattle.static_proofs.proofs.Names.{within_same, within_append, within_trans, within_second, has_name_append}
use Rattle.static_proofs.proofs.Thinned.{Thinned, inside, a_list, ThinnedAll, none_thinned, more_thinned, ThinnedList, no_item}
use Rattle.static_proofs.proofs.Thinned as thinned
use Rattle.walk_proofs.specs.Dying.{Sheds, sheds_none, item_stays, item_stops, item_goes, CasesShed, no_tree, tree_stays, body_sheds}
use Rattle.walk_proofs.proofs.Shed.{no_vars, declares_dead}

-- a tree as it is

mutual
  pub itself : (t : Tree) → Thinned [] t t
  itself (node l ss ts) = inside (all_itself ts)

  pub all_itself : (ts : Forest) → ThinnedAll [] ts ts
  all_itself ε = none_thinned
  all_itself (t ⊳ ts) = more_thinned (itself t) (all_itself ts)

pub all_list : {xs : List Name} {ts us : Forest} → ThinnedAll xs ts us → ThinnedList xs ts us
all_list none_thinned = no_item
all_list (more_thinned h hs) = thinned.item_stays h (all_list hs)

-- what went at once, and what goes behind that

record ListBoth (xs ys : List Name) (ts vs : Forest) : Type 0 where
  pub names : List Name
  pub thins : ThinnedList names ts vs
  pub first : Within xs names
  pub second : Within ys names

record BodyBoth (xs ys : List Name) (t v : Tree) : Type 0 where
  pub names : List Name
  pub thins : Thinned names t v
  pub first : Within xs names
  pub second : Within ys names

pub record AllBoth (xs ys : List Name) (ts vs : Forest) : Type 0 where
  pub names : List Name
  pub thins : ThinnedAll names ts vs
  pub first : Within xs names
  pub second : Within ys names

stays_both : {xs ys zs : List Name} {t v : Tree} {ts vs : Forest} → Thinned zs t v → ListBoth xs ys ts vs → ListBoth xs (zs ++ ys) (t ⊳ ts) (v ⊳ vs)
stays_both {zs = zs} h r = record {
  names = zs ++ r.names;
  thins = thinned.item_stays h r.thins;
  first = within_trans r.first (within_second zs r.names);
  second = within_append (within_same zs) r.second;
}

list_thins : {mark : ℕ} {b : Bool} {xs ys : List Name} {ts us vs : Forest} → Sheds mark b ts us xs → ThinnedList ys us vs → ListBoth xs ys ts vs
list_thins sheds_none no_item = record { names = []; thins = no_item; first = within_same []; second = within_same [] }
list_thins (item_stays s) (thinned.item_stays h hs) = stays_both h (list_thins s hs)
list_thins (item_stays s) (thinned.item_goes {ds = ds} e hs) =
    let r = list_thins s hs in
    record {
      names = declarator_names ds ++ r.names;
      thins = thinned.item_goes e r.thins;
      first = within_trans r.first (within_second (declarator_names ds) r.names);
      second = within_append (within_same (declarator_names ds)) r.second;
    }
list_thins (item_stops g s) (thinned.item_stays h hs) = stays_both h (list_thins s hs)
list_thins (item_stops g s) (thinned.item_goes {ds = ds} e hs) =
    let r = list_thins s hs in
    record {
      names = declarator_names ds ++ r.names;
      thins = thinned.item_goes e r.thins;
      first = within_trans r.first (within_second (declarator_names ds) r.names);
      second = within_append (within_same (declarator_names ds)) r.second;
    }
list_thins (item_goes {d = d} {ds = ds} e a s) hs =
    let r = list_thins s hs in
    record {
      names = declarator_names (d ⊳ ds) ++ r.names;
      thins = thinned.item_goes e r.thins;
      first = within_append (within_same (declarator_names (d ⊳ ds))) r.first;
      second = within_trans r.second (within_second (declarator_names (d ⊳ ds)) r.names);
    }

body_thins : {mark : ℕ} {b : Bool} {xs ys : List Name} {ss : List Span} {ts us : Forest} {v : Tree} → Sheds mark b ts us xs → Thinned ys (node CaseBody ss us) v → BodyBoth xs ys (node CaseBody ss ts) v
body_thins s (inside h) = let r = list_thins s (all_list h) in record { names = r.names; thins = a_list refl r.thins; first = r.first; second = r.second }
body_thins s (a_list e h) = let r = list_thins s h in record { names = r.names; thins = a_list refl r.thins; first = r.first; second = r.second }

pub cases_thin : {mark : ℕ} {xs ys : List Name} {cs us vs : Forest} → CasesShed mark cs us xs → ThinnedAll ys us vs → AllBoth xs ys cs vs
cases_thin no_tree none_thinned = record { names = []; thins = none_thinned; first = within_same []; second = within_same [] }
cases_thin (tree_stays k) (more_thinned {xs = zs} h hs) =
    let r = cases_thin k hs in
    record {
      names = zs ++ r.names;
      thins = more_thinned h r.thins;
      first = within_trans r.first (within_second zs r.names);
      second = within_append (within_same zs) r.second;
    }
cases_thin (body_sheds s k) (more_thinned h hs) =
    let b = body_thins s h in
    let r = cases_thin k hs in
    record { names = b.names ++ r.names; thins = more_thinned b.thins r.thins; first = within_append b.first r.first; second = within_append b.second r.second }

-- no variable goes

list_vars : {mark : ℕ} {b : Bool} {xs : List Name} {ts us : Forest} → Sheds mark b ts us xs → vars_all ts ≡ vars_all us
list_vars sheds_none = refl
list_vars (item_stays {t = t} s) = ap (λ zs. vars t ++ zs) (list_vars s)
list_vars (item_stops {t = t} g s) = ap (λ zs. vars t ++ zs) (list_vars s)
list_vars (item_goes {k = k} {d = d} {ds = ds} {ts = ts} e a s) = ap (λ zs. zs ++ vars_all ts) (no_vars k e (d ⊳ ds) a) ∙ list_vars s

pub cases_vars : {mark : ℕ} {xs : List Name} {cs us : Forest} → CasesShed mark cs us xs → vars_all cs ≡ vars_all us
cases_vars no_tree = refl
cases_vars (tree_stays {t = t} k) = ap (λ zs. vars t ++ zs) (cases_vars k)
cases_vars (body_sheds s k) = ap₂ ◌++◌ (list_vars s) (cases_vars k)

-- what the scope declares

fresh_behind : (o p q : Option Declaration) → (holds_function q ≡ false → holds_function p ≡ false) → holds_function (or_else o q) ≡ false → holds_function (or_else o p) ≡ false
fresh_behind None p q f e = f e
fresh_behind (Some a) p q f e = e

module _ {dead : Name → Bool} where
  scope_itself : (ts : Forest) → SameScope (dead_names dead) ts ts
  scope_itself ts = record { declares = λ x k. refl; functions = λ x g e. e }

  behind_item : (t : Tree) {ts us : Forest} → SameScope (dead_names dead) ts us → SameScope (dead_names dead) (t ⊳ ts) (t ⊳ us)
  behind_item t {ts} {us} h = record {
    declares = λ x k. found_cons x t ts ∙ ap (or_else (found x (declared_by t))) (h.declares x k) ∙ sym (found_cons x t us);
    functions = λ x g e. ap holds_function (found_cons x t ts) ∙ fresh_behind (found x (declared_by t)) (found x (declared ts)) (found x (declared us)) (h.functions x g) (sym (ap holds_function (found_cons x t us)) ∙ e);
  }

  behind_items : (bs : Forest) {ts us : Forest} → SameScope (dead_names dead) ts us → SameScope (dead_names dead) (joined bs ts) (joined bs us)
  behind_items ε h = h
  behind_items (b ⊳ bs) h = behind_item b (behind_items bs h)

  list_scope : {mark : ℕ} {b : Bool} {xs : List Name} {bs ts us vs : Forest} → Sheds mark b ts us xs → ((x : Name) → has_name x xs ≡ true → dead x ≡ true) → SameScope (dead_names dead) bs vs → SameScope (dead_names dead) (joined ts bs) (joined us vs)
  list_scope sheds_none f h = h
  list_scope (item_stays {t = t} s) f h = behind_item t (list_scope s f h)
  list_scope (item_stops {t = t} g s) f h = behind_item t (list_scope s f h)
  list_scope {bs = bs} {vs = vs} (item_goes {k = k} {ss = ss} {d = d} {ds = ds} {ts = ts} {us = us} {xs = xs} e a s) f h =
      let names = declarator_names (d ⊳ ds) in
      let n = declares_dead {dead = dead} k ss (d ⊳ ds) e a (λ x i. f x (has_name_append x names xs ∙ or_left (has_name x names) (has_name x xs) i)) in
      let r = list_scope s (λ x i. f x (has_name_append x names xs ∙ or_right (has_name x names) (has_name x xs) i)) h in
      let t = node (VarDecl k) ss (d ⊳ ds) in
      record {
        declares = λ x q. found_cons x t (joined ts bs) ∙ ap (λ o. or_else o (found x (declared (joined ts bs)))) (is_none x (declared_by t) (n.declares x q)) ∙ r.declares x q;
        functions = λ x g q. ap holds_function (found_cons x t (joined ts bs)) ∙ or_else_fresh (found x (declared_by t)) (found x (declared (joined ts bs))) (n.functions x g) (r.functions x g q);
      }

  pub cases_scope : {mark : ℕ} {xs : List Name} {cs us : Forest} → CasesShed mark cs us xs → ((x : Name) → has_name x xs ≡ true → dead x ≡ true) → SameScope (dead_names dead) (case_statements cs) (case_statements us)
  cases_scope no_tree f = scope_itself ε
  cases_scope (tree_stays {t = node l ss ts} k) f = behind_items (body_statements l ts) (cases_scope k f)
  cases_scope (body_sheds {xs = xs} {ys = ys} s k) f =
      list_scope s (λ x i. f x (has_name_append x xs ys ∙ or_left (has_name x xs) (has_name x ys) i)) (cases_scope k (λ x i. f x (has_name_append x xs ys ∙ or_right (has_name x xs) (has_name x ys) i)))
