-- What is gathered of an item describes it.
use Rattle.std.proofs.Common.{ℕ, ◌≡◌, ◌⊎◌, inl, inr, Bool, true, false, not, ◌||◌, List, [], ◌∷◌, ◌++◌, refl, sym, ap, subst, ◌∙◌, append_assoc, length, ◌<◌, arith}
use Rattle.std.proofs.lemmas.List.{append-nil}
use Rattle.swc_ast.specs.Parts.{list_trees}
use Rattle.swc_ast.specs.Run.{has_text}
use Rattle.swc_ast.specs.Scope.{has_name}
use Rattle.swc_ast.specs.Tree.{Text, Name, Label, Module, Tree, node, Forest, ε, ◌⊳◌, label_of, children_of}
use Rattle.tree_visit.specs.Kinds.{kind_label}
use Rattle.tree_visit.specs.declared.node.Node.{Node}
use Rattle.tree_visit.specs.Nodes.{children_forest, node_tree}
use Rattle.dce_uses.specs.Tables.{Tells, is_free}
use Rattle.dce_peel.specs.declared.item.Item.{Item}
use Rattle.dce_peel.specs.Rounds.{among}
use Rattle.dce_layer_proofs.specs.Goers.{own_mention, mentions, mentions_among, goes_with, inner_goers}
use Rattle.dce_layer_proofs.specs.Layers.{notes}
use Rattle.dce_layer_proofs.proofs.Mentioned.{noted_stands}
use Rattle.dce_items.specs.declared.known.Known.{Known}
use Rattle.dce_items.specs.declared.parts.Parts.{Parts}
use Rattle.dce_items.specs.Described.{IsNumber, IsAmong, GoesBy, Describes, AllDescribed}
use Rattle.dce_items.specs.Gathered.{is_void, tight_inside, goers_inside, keeps_number, Settled, Gathers, name_of, Divides}
use Rattle.dce_items.proofs.Noting.{kept_number, free_number}

-- what is said of an item's label and children is said of the item
pub record Found (mark : ℕ) (k : Known) (l : Label) (cs : Forest) (i : Item) : Type 0 where
  pub solid : is_void l cs ≡ false
  pub name : GoesBy k.retained.now k.names.now (goes_with mark l cs) i.name
  pub goers : Gathers k [] i.goers.items true (tight_inside l cs) (inner_goers mark l cs)
  pub notes : (n : ℕ) → among i.notes.items n ≡ (among [] n || keeps_number k (own_mention l ++ mentions_among cs) n)

-- a name is free in the item, or the item notes it
free_not : (k : Known) (t : Tree) → Tells k.uses.now (node Module [] (t ⊳ ε)) → (x : Name) → notes x t ≡ not (is_free k.uses.now x)
free_not k t u x = ap not (sym (u.free x))

settled : (k : Known) (t : Tree) (ns : List ℕ) (x : Name) → Tells k.uses.now (node Module [] (t ⊳ ε)) → Settled k ns x → (notes x t ≡ true) ⊎ ((has_text x.text k.retained.now ≡ true) ⊎ IsAmong k.names.now ns x)
settled k t ns x u (inl h) = inl (free_not k t u x ∙ ap not h)
settled k t ns x u (inr h) = inr h

noted : (k : Known) (l : Label) (cs : Forest) (t : Tree) (x : Name) (n : ℕ) → mentions t ≡ own_mention l ++ mentions_among cs → Tells k.uses.now (node Module [] (t ⊳ ε)) → IsNumber k.names.now x n → keeps_number k (own_mention l ++ mentions_among cs) n ≡ notes x t
noted k l cs t x n is u p = by (is_free k.uses.now x) refl
  where
    not_true : (b : Bool) → b ≡ false → not b ≡ true
    not_true b e = ap not e

    by : (b : Bool) → is_free k.uses.now x ≡ b → keeps_number k (own_mention l ++ mentions_among cs) n ≡ notes x t
    by true e = free_number k x n (own_mention l ++ mentions_among cs) e p.number ∙ sym (free_not k t u x ∙ ap not e)
    by false e =
        let h : notes x t ≡ true = free_not k t u x ∙ ap not e in
        kept_number k x n (own_mention l ++ mentions_among cs) e p.number (sym (ap (has_name x) is) ∙ noted_stands x t p.named h) ∙ sym h

described : (mark : ℕ) (k : Known) (t : Tree) (l : Label) (cs : Forest) (i : Item) → label_of t ≡ l → children_of t ≡ cs → Tells k.uses.now (node Module [] (t ⊳ ε)) → Found mark k l cs i → Describes mark k.retained.now k.names.now t i
described mark k (node m ss ds) l cs i labelled held u p =
    let t = node m ss ds in
    let q : Found mark k m ds i = subst (λ (j : Label). Found mark k j ds i) (sym labelled) (subst (λ (es : Forest). Found mark k l es i) (sym held) p) in record {
      tight = q.goers.tight refl;
      solid = q.solid;
      name = q.name;
      goers = λ x h. settled k t i.goers.items x u (q.goers.settled refl x h);
      notes = λ x n o. q.notes n ∙ noted k m ds t x n refl u o;
    }

-- what is gathered below the node that has the other names is gathered of the item
gathered : (mark : ℕ) (k : Known) (l : Label) (cs : Forest) (p : Parts) (new : List ℕ) → Divides mark l cs p → Gathers k [] new true (tight_inside (kind_label p.inner.kind) (children_forest p.inner.children)) (goers_inside (kind_label p.inner.kind) (children_forest p.inner.children)) → Gathers k [] new true (tight_inside l cs) (inner_goers mark l cs)
gathered mark k l cs p new d g = record { grows = g.grows; tight = λ e. d.tight (g.tight e); settled = λ e x h. g.settled e x (sym (ap (has_name x) d.goers) ∙ h) }

-- the same by what the code finds
pub described_so : (mark : ℕ) (k : Known) (t : Tree) (l : Label) (cs : Forest) (p : Parts) (i : Item) (v b : Bool) (none blank : List ℕ) → Divides mark l cs p → Gathers k none i.goers.items b (tight_inside (kind_label p.inner.kind) (children_forest p.inner.children)) (goers_inside (kind_label p.inner.kind) (children_forest p.inner.children)) → ((n : ℕ) → among i.notes.items n ≡ (among blank n || keeps_number k (own_mention l ++ mentions_among cs) n)) → label_of t ≡ l → children_of t ≡ cs → Tells k.uses.now (node Module [] (t ⊳ ε)) → v ≡ is_void l cs → v ≡ false → GoesBy k.retained.now k.names.now (name_of p.name) i.name → none ≡ [] → b ≡ true → blank ≡ [] → Describes mark k.retained.now k.names.now t i
described_so mark k t l cs p i v b none blank d g h labelled held u w solid f n going m =
    let ts = tight_inside (kind_label p.inner.kind) (children_forest p.inner.children) in
    let xs = goers_inside (kind_label p.inner.kind) (children_forest p.inner.children) in
    let q : Found mark k l cs i = record {
      solid = sym w ∙ solid;
      name = subst (λ o. GoesBy k.retained.now k.names.now o i.name) (sym d.name) f;
      goers = gathered mark k l cs p i.goers.items d (subst (λ a. Gathers k [] i.goers.items a ts xs) going (subst (λ (ns : List ℕ). Gathers k ns i.goers.items b ts xs) n g));
      notes = λ x. h x ∙ ap (λ (ns : List ℕ). among ns x || keeps_number k (own_mention l ++ mentions_among cs) x) m;
    } in described mark k t l cs i labelled held u q

-- items in a row: what is described, with what describes those that are left, describes all
pub record Left (mark : ℕ) (retained : List Text) (names : List Name) (now : List Item) (all left : Forest) : Type 0 where
  pub gives : (more : List Item) → AllDescribed mark retained names left more → AllDescribed mark retained names all (now ++ more)

pub begins : (mark : ℕ) (retained : List Text) (names : List Name) (all : Forest) → Left mark retained names [] all all
begins mark retained names all = record { gives = λ more h. h }

pub goes_on : (mark : ℕ) (retained : List Text) (names : List Name) (now new : List Item) (all us : Forest) (t : Tree) (ts : Forest) (i : Item) → us ≡ t ⊳ ts → new ≡ now ++ i ∷ [] → Describes mark retained names t i → Left mark retained names now all us → Left mark retained names new all ts
goes_on mark retained names now new all us t ts i is pushed d h = record {
  gives = λ more g. subst (λ (js : List Item). AllDescribed mark retained names all js) (sym (append_assoc now (i ∷ []) more) ∙ ap (λ (js : List Item). js ++ more) (sym pushed)) (h.gives (i ∷ more) (subst (λ (vs : Forest). AllDescribed mark retained names vs (i ∷ more)) (sym is) (d, g)));
}

pub done : (mark : ℕ) (retained : List Text) (names : List Name) (now : List Item) (all us : Forest) → us ≡ ε → Left mark retained names now all us → AllDescribed mark retained names all now
done mark retained names now all us is h = subst (λ (js : List Item). AllDescribed mark retained names all js) (append-nil now) (h.gives [] (subst (λ (vs : Forest). AllDescribed mark retained names vs []) (sym is) tt))

-- the same where items in a row are done
pub done_row : (mark : ℕ) (retained : List Text) (names : List Name) (now : List Item) (all : Forest) (left : List Node) → length left < 1 → Left mark retained names now all (list_trees node_tree left) → AllDescribed mark retained names all now
done_row mark retained names now all [] l h = done mark retained names now all ε refl h
done_row mark retained names now all (x ∷ xs) l h = absurd (omega (arith, l))
