-- Trees, one after another.
use Rattle.std.proofs.Common.{◌≡◌, ℕ, ◌+◌, ◌*◌, ◌<◌, ◌≤◌, Bool, ◌&&◌, ◌||◌, true, false, List, [], ◌∷◌, ◌++◌, length, Result, Ok, Err, OnOk, refl, sym, ap, ap₂, subst, ◌∙◌, arith}
use Rattle.std.proofs.lemmas.List.{append_assoc, append-nil}
use Rattle.swc_ast.specs.declared.VarDeclKind.TheVariants.{Var, Let}
use Rattle.swc_ast.specs.declared.declarations.VarDeclarator.{VarDeclarator}
use Rattle.swc_ast.specs.declared.expressions.Expr.{Expr}
use Rattle.swc_ast.specs.Parts.{ident_name, optional_trees}
use Rattle.swc_ast.specs.Scope.{is_function}
use Rattle.swc_ast.specs.Statements.{declarator_tree}
use Rattle.swc_ast.specs.Tree.{Name, same_name, Label, Tree, node, Forest, ε, ◌⊳◌, label_of, spans_of, children_of}
use Rattle.swc_ast.specs.Views.{expr_tree}
use Rattle.link_proofs.specs.Links.{Put}
use Rattle.carry_rules.specs.Carry as carry
use Rattle.carry_rules.specs.Carry.{Facts, Carried, starting, groups, is_nowhere, keeps_names, ready_at, enter, leave, behind, after, after_all, with_put}
use Rattle.static_proofs.proofs.Names.{same_name_swap}
use Rattle.tree_visit.proofs.Caps.{tree_size, forest_size, opened_smaller}
use Rattle.carry_parts.specs.Carries.{pass_of}
use Rattle.carry_parts.specs.Reads.{own_reads, reads, reads_all}
use Rattle.carry_parts.specs.declared.carry.Carry.{Carry}
use Rattle.carry_tables.specs.Tables.{height}
use Rattle.carry_tables.specs.declared.scoped.Scoped.{Scoped}
use Rattle.carry_tables.specs.declared.table.NameTable.{NameTable}
use Rattle.std.specs.Prelude.{Option, if◌then◌else◌}
use Rattle.carry_reads.specs.declared.place.Place.{Place}
use Rattle.carry_reads.specs.declared.reader.Reader.{Reader}
use Rattle.carry_reads.specs.declared.settled.Settled.{Settled}
use Rattle.carry_reads.specs.declared.tables.Mark.{Mark}
use Rattle.carry_reads.specs.declared.tables.Tables.{Tables}
use Rattle.carry_reads.specs.Fronts.{Adds}
use Rattle.carry_reads.specs.Settles.{settled_of, Grows}
use Rattle.carry_reads.specs.Values.{value_from, Puts}
use Rattle.carry_reads.specs.States.{facts_of, state_of, below_of, Fits, Grown, Leaves}
use Rattle.carry_reads.specs.Walks.{behind_tree, Steps, Walks, WalksAll}
use Rattle.carry_reads.proofs.Undoing.{keeps_itself}
use Rattle.carry_reads.proofs.Settling.{grows_itself}
use Rattle.carry_reads.proofs.Stating.{same_state, grown_itself, grown_on, added_grown, entered, left_grown, left_state}
use Rattle.carry_reads.proofs.Carrying.{value_carried}

-- what a call gives
pub call_gives : {A E P Q : Type 0} (k : Result A E) → (P → Q) → OnOk k P → OnOk k Q
call_gives (Ok a) f h = f h
call_gives (Err e) f h = h

-- behind a declarator

pub carried_steps : (r : Reader) (q : Place) (u : Tables) (t : NameTable (Option Carry)) (w : Scoped) (n : VarDeclarator Expr)
    → Puts u.values t (ident_name n.name) (carry.entry (pass_of r.pass) (facts_of r.vars) (state_of r u q) (ident_name n.name) (n.span ∷ n.name.span ∷ []) (optional_trees expr_tree n.init))
    → Adds r.vars u.ready w (λ x. same_name x (ident_name n.name))
    → Steps r q u (record u { values = t; ready = w }) (behind_tree (pass_of r.pass) (facts_of r.vars) (declarator_tree expr_tree Let n) (state_of r u q))
carried_steps r q u t w n p a = record {
  state = same_state
      (state_of r (record u { values = t; ready = w }) q)
      (behind_tree (pass_of r.pass) (facts_of r.vars) (declarator_tree expr_tree Let n) (state_of r u q))
      (value_carried (starting (pass_of r.pass) (facts_of r.vars)).values (value_from u.values) (value_from t) (ident_name n.name) _ p.values)
      (λ x. refl)
      (λ x. a.ready x ∙ ap (λ b. (state_of r u q).ready x || (b && (facts_of r.vars).steady x)) (same_name_swap x (ident_name n.name)))
      refl refl refl;
  grown = record { values = p.names; settled = grows_itself u.settled; ready = a.keeps; names = a.names };
}

pub settled_steps : (r : Reader) (q : Place) (u : Tables) (w : Settled) (n : VarDeclarator Expr)
    → ((x : Name) → settled_of w q.base x ≡ with_put (ident_name n.name) (carry.settling (pass_of r.pass) (facts_of r.vars) (state_of r u q) (ident_name n.name) (n.span ∷ n.name.span ∷ []) (optional_trees expr_tree n.init)) (settled_of u.settled q.base) x)
    → Grows u.settled w
    → Steps r q u (record u { settled = w }) (behind_tree (pass_of r.pass) (facts_of r.vars) (declarator_tree expr_tree Var n) (state_of r u q))
settled_steps r q u w n more g = record {
  state = same_state
      (state_of r (record u { settled = w }) q)
      (behind_tree (pass_of r.pass) (facts_of r.vars) (declarator_tree expr_tree Var n) (state_of r u q))
      (λ x. refl) more (λ x. refl) refl refl refl;
  grown = record { values = λ x. refl; settled = g; ready = keeps_itself u.ready; names = λ x. refl };
}

pub call_steps : {A E : Type 0} (k : Result A E) (r : Reader) (q : Place) (u v : Tables) (t d : Tree) → t ≡ d → OnOk k (Steps r q u v (behind_tree (pass_of r.pass) (facts_of r.vars) d (state_of r u q))) → OnOk k (Steps r q u v (behind_tree (pass_of r.pass) (facts_of r.vars) t (state_of r u q)))
call_steps k r q u v t d is h = subst (λ e. OnOk k (Steps r q u v (behind_tree (pass_of r.pass) (facts_of r.vars) e (state_of r u q)))) (sym is) h

-- a whole node

whole_after : (p : carry.Pass) (F : Facts) (s : Carried) (t : Tree) (l : Label) (cs : Forest) → label_of t ≡ l → children_of t ≡ cs → after p F s t ≡ behind_tree p F t (leave p F l s (after_all p F (enter p F l (spans_of t) cs s) cs))
whole_after p F s (node m ss ds) l cs e h = ap₂ (λ k us. behind p F m ss ds (leave p F k s (after_all p F (enter p F k ss us s) us))) e h

whole_reads : (p : carry.Pass) (F : Facts) (s : Carried) (t : Tree) (l : Label) (cs : Forest) → label_of t ≡ l → children_of t ≡ cs → reads p F s t ≡ own_reads p F s l ++ reads_all p F (enter p F l (spans_of t) cs s) cs
whole_reads p F s (node m ss ds) l cs e h = ap₂ (λ k us. own_reads p F s k ++ reads_all p F (enter p F k ss us s) us) e h

module _ (r : Reader) (q p : Place) (u v w x z : Tables) (t : Tree) (l : Label) (cs : Forest) where
  abbrev P : carry.Pass
  P = pass_of r.pass

  abbrev F : Facts
  F = facts_of r.vars

  pub node_walked : (xs ys zs : List Put) → label_of t ≡ l → children_of t ≡ cs
      → ys ≡ xs ++ own_reads P F (state_of r u q) l
      → state_of r v p ≡ enter P F l (spans_of t) cs (state_of r u q)
      → WalksAll r p v w ys zs cs
      → Grown u x → state_of r x q ≡ leave P F l (state_of r u q) (state_of r w p)
      → Steps r q x z (behind_tree P F t (state_of r x q))
      → Walks r q u z xs zs t
  node_walked xs ys zs labelled held own at_head inner left at_end last = record {
    reads = inner.reads ∙ ap₂ (λ k s. k ++ reads_all P F s cs) own at_head ∙ append_assoc xs (own_reads P F (state_of r u q) l) _ ∙ ap (λ k. xs ++ k) (sym (whole_reads P F (state_of r u q) t l cs labelled held));
    steps = record {
      state = last.state ∙ ap (behind_tree P F t) (at_end ∙ ap (leave P F l (state_of r u q)) (inner.steps.state ∙ ap (λ s. after_all P F s cs) at_head)) ∙ sym (whole_after P F (state_of r u q) t l cs labelled held);
      grown = grown_on left last.grown;
    };
  }

-- trees, one after another: what is left

pub record Left (r : Reader) (q : Place) (u v : Tables) (xs ys : List Put) (us cs : Forest) : Type 0 where
  pub reads : ys ++ reads_all (pass_of r.pass) (facts_of r.vars) (state_of r v q) us ≡ xs ++ reads_all (pass_of r.pass) (facts_of r.vars) (state_of r u q) cs
  pub state : after_all (pass_of r.pass) (facts_of r.vars) (state_of r v q) us ≡ after_all (pass_of r.pass) (facts_of r.vars) (state_of r u q) cs
  pub grown : Grown u v
  pub smaller : forest_size us ≤ forest_size cs

pub all_left : (r : Reader) (q : Place) (u : Tables) (xs : List Put) (cs : Forest) → Left r q u u xs xs cs cs
all_left r q u xs cs = record { reads = refl; state = refl; grown = grown_itself u; smaller = omega arith }

pub one_less : (r : Reader) (q : Place) (u v w : Tables) (xs ys zs : List Put) (t : Tree) (ts us cs : Forest) → us ≡ t ⊳ ts → Walks r q v w ys zs t → Left r q u v xs ys us cs → Left r q u w xs zs ts cs
one_less r q u v w xs ys zs t ts us cs is k h =
    let P : carry.Pass = pass_of r.pass in let F : Facts = facts_of r.vars in let s : Carried = state_of r v q in record {
      reads = ap₂ (λ a b. a ++ reads_all P F b ts) k.reads k.steps.state
          ∙ append_assoc ys (reads P F s t) (reads_all P F (after P F s t) ts)
          ∙ ap (λ zs. ys ++ reads_all P F s zs) (sym is)
          ∙ h.reads;
      state = ap (λ b. after_all P F b ts) k.steps.state ∙ ap (after_all P F s) (sym is) ∙ h.state;
      grown = grown_on h.grown k.steps.grown;
      smaller = omega (arith, ap forest_size is, h.smaller);
    }

pub none_left : (r : Reader) (q : Place) (u v : Tables) (xs ys : List Put) (us cs : Forest) → us ≡ ε → Left r q u v xs ys us cs → WalksAll r q u v xs ys cs
none_left r q u v xs ys us cs is h =
    let P : carry.Pass = pass_of r.pass in let F : Facts = facts_of r.vars in record {
      reads = sym (append-nil ys) ∙ ap (λ zs. ys ++ reads_all P F (state_of r v q) zs) (sym is) ∙ h.reads;
      steps = record { state = ap (after_all P F (state_of r v q)) (sym is) ∙ h.state; grown = h.grown };
    }

-- what falls

pub children_fall : (t : Tree) (cs : Forest) → children_of t ≡ cs → forest_size cs * 2 + 1 < tree_size t * 2
children_fall t cs is = let smaller = opened_smaller t cs is in omega (arith, smaller)

pub child_falls : (t : Tree) (ts us cs : Forest) → us ≡ t ⊳ ts → forest_size us ≤ forest_size cs → tree_size t * 2 < forest_size cs * 2 + 1
child_falls t ts us cs is h = omega (arith, ap forest_size is, h)

-- a node, by what its parts do

room_below : (p : carry.Pass) (l : Label) (nowhere : Bool) (next n : ℕ) (q : Place) → next ≡ n → q.base ≤ n → (below_of p l nowhere next q).base ≤ n
room_below p l nowhere next n q is room = by (is_function l)
  where
    by : (b : Bool) → (if b then next else q.base) ≤ n
    by true = omega (arith, is)
    by false = room

pub head_room : (p : carry.Pass) (l : Label) (nowhere : Bool) (next n : ℕ) (q b : Place) → b ≡ below_of p l nowhere next q → next ≡ n → q.base ≤ n → b.base ≤ n
head_room p l nowhere next n q b below is room = subst (λ c. c.base ≤ n) (sym below) (room_below p l nowhere next n q is room)

pub grown_room : {u v : Tables} (n : ℕ) → Grown u v → n ≤ length u.settled.carries.items → n ≤ length v.settled.carries.items
grown_room n g room = omega (arith, room, g.settled.longer)

module _ (r : Reader) (q b : Place) (u : Tables) (w : Scoped) (v x : Tables) (m : Mark) (l : Label) (cs : Forest) (t : Tree) (fits : Fits r.vars u) (a : Adds r.vars u.ready w (ready_at l cs)) where
  -- what is known behind the children
  pub inner_grown : (ys zs : List Put) → WalksAll r b (record u { ready = w }) v ys zs cs → Grown u v
  inner_grown ys zs inner = grown_on (added_grown u w a) inner.steps.grown

  pub end_grown : (ys zs : List Put) → m.settled ≡ height u.settled.numbers → m.ready ≡ height u.ready → WalksAll r b (record u { ready = w }) v ys zs cs → Leaves (groups l && q.listed) (keeps_names l) m v x → Grown u x
  end_grown ys zs at_settled at_ready inner left = left_grown r q u v x m l (inner_grown ys zs inner) at_settled at_ready left

  pub node_read : (z : Tables) (next : ℕ) (nowhere : Bool) (xs ys zs : List Put) → label_of t ≡ l → children_of t ≡ cs → ys ≡ xs ++ own_reads (pass_of r.pass) (facts_of r.vars) (state_of r u q) l
      → m.settled ≡ height u.settled.numbers → m.ready ≡ height u.ready → next ≡ length u.settled.carries.items → nowhere ≡ (groups (label_of t) && is_nowhere (spans_of t)) → b ≡ below_of (pass_of r.pass) l nowhere next q
      → WalksAll r b (record u { ready = w }) v ys zs cs → Leaves (groups l && q.listed) (keeps_names l) m v x → Steps r q x z (behind_tree (pass_of r.pass) (facts_of r.vars) t (state_of r x q))
      → Walks r q u z xs zs t
  node_read z next nowhere xs ys zs labelled held own at_settled at_ready counted stands below inner left last =
      node_walked r q b u (record u { ready = w }) v x z t l cs xs ys zs labelled held own
      (ap (state_of r (record u { ready = w })) below ∙ entered r q u w l (spans_of t) cs next nowhere fits.within counted (stands ∙ ap (λ k. groups k && is_nowhere (spans_of t)) labelled) a)
      inner (end_grown ys zs at_settled at_ready inner left)
      (left_state r q u v x m l (inner_grown ys zs inner) at_settled at_ready left (pass_of r.pass) nowhere next fits.within ∙ ap (λ c. leave (pass_of r.pass) (facts_of r.vars) l (state_of r u q) (state_of r v c)) (sym below))
      last
