-- What a finished walk leaves as it is holds no redex of its kind.
use Rattle.std.proofs.Common.{List, ◌≡◌, ◌<◌, Bool, true, false, not, ◌&&◌, ◌||◌, if◌then◌else◌, refl, sym, ap, ◌∙◌, arith}
use Rattle.std.proofs.lemmas.Bool.{or_parts, or_from}
use Rattle.swc_ast.specs.declared.Span.{Span}
use Rattle.swc_ast.specs.declared.UnaryOp.TheVariants.{Delete}
use Rattle.swc_ast.specs.Tree.{Label, Unary, Tree, node, Forest, ε, ◌⊳◌, children_of}
use Rattle.swc_ast.specs.Weight.{weight, is_list}
use Rattle.swc_ast.specs.Redex.{own_redex, list_redex, is_delete, has_redex, any_redex}
use Rattle.static_proofs.specs.Lighter.{is_settled, Lowers}
use Rattle.static_proofs.specs.Free.{is_folded, fold_redex, branch_redex, has_kind, any_kind, kind_at}
use Rattle.static_proofs.specs.Walks.{Leaves, AllLeave, closed, opened, stands, steps, none_left, more_left}
use Rattle.static_proofs.proofs.Lighter.{inside_weighed, step_lower, lower_then, leaves_weighed, all_leave_weighed}

abbrev first_of_forest : Tree → Forest → Tree
first_of_forest d ε = d
first_of_forest d (t ⊳ ts) = t

abbrev rest_of_forest : Forest → Forest
rest_of_forest ε = ε
rest_of_forest (t ⊳ ts) = ts

node_free : (k : Label → Forest → Bool) (l : Label) (ss : List Span) (cs : Forest) → k l cs ≡ false → any_kind k cs ≡ false → has_kind k (node l ss cs) ≡ false
node_free k l ss cs h i = or_from (k l cs) (if is_delete l then false else any_kind k cs) h (by_case (is_delete l))
  where
    by_case : (b : Bool) → (if b then false else any_kind k cs) ≡ false
    by_case true = refl
    by_case false = i

module _ (N : Type 0) (C E : Tree → Type 0) (X : Tree → Tree → Type 0) (k : Label → Forest → Bool) (settled : (b : Tree) → E b → N → is_settled b) (lowers : (b c : Tree) → X b c → Lowers N b c) (free : (b : Tree) → E b → kind_at k b ≡ false) (shut : (b : Tree) → C b → has_kind k b ≡ false) where
  not_lower : {t u : Tree} → u ≡ t → weight u < weight t → ⊥
  not_lower e h = omega (arith, ap weight e)

  mutual
    pub unchanged_free : {t u : Tree} → Leaves C E X t u → u ≡ t → has_kind k t ≡ false
    unchanged_free (closed {t = t} h) e = shut t h
    unchanged_free (opened {t = t} {u = u} {v = v} x h) e = absurd (not_lower e (lower_then (lowers t u x) (leaves_weighed settled lowers h)))
    unchanged_free (stands {l = l} {ss = ss} {ts = ts} {us = us} h i) e = node_free k l ss ts (ap (k l) (sym (ap children_of e)) ∙ free (node l ss us) i) (all_unchanged_free h (ap children_of e))
    unchanged_free (steps {l = l} {ss = ss} {us = us} {v = v} h x) e = absurd (not_lower e (step_lower (inside_weighed l ss (all_leave_weighed settled lowers h)) (lowers (node l ss us) v x)))

    pub all_unchanged_free : {ts us : Forest} → AllLeave C E X ts us → us ≡ ts → any_kind k ts ≡ false
    all_unchanged_free none_left e = refl
    all_unchanged_free (more_left {t = t} {u = u} {ts = ts} {us = us} h hs) e = or_from (has_kind k t) (any_kind k ts) (unchanged_free h (ap (first_of_forest t) e)) (all_unchanged_free hs (ap rest_of_forest e))

-- the kinds together

-- what is free of both kinds holds no redex
own_by : (f r i : Bool) → (f && r) ≡ false → ((not f && r) || i) ≡ false → (r ≡ false) × (i ≡ false)
own_by true r i h e = (h, e)
own_by false r i h e = or_parts r i e

parts_of_none : (k : Label → Forest → Bool) (l : Label) (ss : List Span) (cs : Forest) → has_kind k (node l ss cs) ≡ false → (k l cs ≡ false) × ((if is_delete l then false else any_kind k cs) ≡ false)
parts_of_none k l ss cs h = or_parts (k l cs) (if is_delete l then false else any_kind k cs) h

inner_by : (b x y z : Bool) → (x ≡ false → y ≡ false → z ≡ false) → (if b then false else x) ≡ false → (if b then false else y) ≡ false → (if b then false else z) ≡ false
inner_by true x y z f h i = refl
inner_by false x y z f h i = f h i

mutual
  pub free_of_both : (t : Tree) → has_kind fold_redex t ≡ false → has_kind branch_redex t ≡ false → has_redex t ≡ false
  free_of_both (node l ss cs) h i =
      let p = parts_of_none fold_redex l ss cs h in
      let q = parts_of_none branch_redex l ss cs i in
      let own = own_by (is_folded l) (own_redex l cs) (is_list l && list_redex cs) p.0 q.0 in
      or_from (own_redex l cs) ((is_list l && list_redex cs) || (if is_delete l then false else any_redex cs)) own.0 (or_from (is_list l && list_redex cs) (if is_delete l then false else any_redex cs) own.1 (inner_by (is_delete l) (any_kind fold_redex cs) (any_kind branch_redex cs) (any_redex cs) (all_free_of_both cs) p.1 q.1))

  pub all_free_of_both : (ts : Forest) → any_kind fold_redex ts ≡ false → any_kind branch_redex ts ≡ false → any_redex ts ≡ false
  all_free_of_both ε h i = refl
  all_free_of_both (t ⊳ ts) h i =
      let p = or_parts (has_kind fold_redex t) (any_kind fold_redex ts) h in
      let q = or_parts (has_kind branch_redex t) (any_kind branch_redex ts) i in
      or_from (has_redex t) (any_redex ts) (free_of_both t p.0 q.0) (all_free_of_both ts p.1 q.1)

-- a node that is no operand's `delete` holds a kind of its children
pub delete_free : (k : Label → Forest → Bool) (ss : List Span) (cs : Forest) → k (Unary Delete) cs ≡ false → has_kind k (node (Unary Delete) ss cs) ≡ false
delete_free k ss cs h = or_from (k (Unary Delete) cs) false h refl
