-- Parts of an item.
use Rattle.std.proofs.Common.{ℕ, ◌≡◌, Bool, true, false, not, List, None, refl, sym, ap, subst, ◌∙◌}
use Rattle.std.proofs.lemmas.Bool.{false≢true}
use Rattle.swc_ast.specs.declared.Span.{Span}
use Rattle.swc_ast.specs.declared.VarDeclKind.{VarDeclKind}
use Rattle.swc_ast.specs.Tree.{Label, VarDecl, Declarator, FnDecl, Tree, node, Forest, ε, ◌⊳◌}
use Rattle.static_proofs.specs.Names.{is_some_tree}
use Rattle.swc_utils.specs.Pure.{pure}
use Rattle.tree_visit.specs.declared.kind.Kind.{Kind}
use Rattle.tree_visit.specs.declared.kind.Kind.TheVariants as kind
use Rattle.tree_visit.specs.declared.opened.Opened.{Opened}
use Rattle.tree_visit.specs.Kinds.{kind_label}
use Rattle.tree_visit.specs.Nodes.{children_forest}
use Rattle.dce_layer_proofs.specs.Goers.{is_pure_init, goes_with, inner_goers}
use Rattle.dce_items.specs.declared.parts.Parts.{Parts}
use Rattle.dce_items.specs.Gathered.{tight_inside, goers_inside, name_of, Divides, DividesAt}

-- a first value, or none, and more than one

not_not : (b : Bool) → not (not b) ≡ b
not_not true = refl
not_not false = refl

pub no_init : (mark : ℕ) (cs : Forest) → cs ≡ ε → true ≡ is_pure_init mark cs
no_init mark cs is = sym (ap (is_pure_init mark) is)

pub many_inits : (mark : ℕ) (cs : Forest) (t : Tree) (ts : Forest) (e : Bool) → cs ≡ t ⊳ ts → e ≡ not (is_some_tree ts) → e ≡ false → false ≡ is_pure_init mark cs
many_inits mark cs t ε e is f some = absurd (false≢true (sym some ∙ f))
many_inits mark cs t (u ⊳ us) e is f some = sym (ap (is_pure_init mark) is)

pub one_init : (mark : ℕ) (cs : Forest) (t : Tree) (ts : Forest) (e b : Bool) → cs ≡ t ⊳ ts → e ≡ not (is_some_tree ts) → e ≡ true → b ≡ not (pure mark t) → not b ≡ is_pure_init mark cs
one_init mark cs t ε e b is f none h = ap not h ∙ not_not (pure mark t) ∙ sym (ap (is_pure_init mark) is)
one_init mark cs t (u ⊳ us) e b is f none h = absurd (false≢true (sym f ∙ none))

-- whether an item goes with no name, and its names are all below it
pub record IsWhole (mark : ℕ) (l : Label) (cs : Forest) : Type 0 where
  pub name : goes_with mark l cs ≡ None
  pub goers : inner_goers mark l cs ≡ goers_inside l cs

-- other kinds

pub other_declared : (mark : ℕ) (k : VarDeclKind) (m : Kind) (ss : List Span) (cs : Forest) → ((j : _) → (n : _) → m ≡ kind.Declarator j n → ⊥) → IsWhole mark (VarDecl k) (node (kind_label m) ss cs ⊳ ε)
other_declared mark k (kind.Declarator j n) ss cs f = absurd (f j n refl)
other_declared mark k m ss cs f = record { name = refl; goers = refl }

pub other_item : (mark : ℕ) (m : Kind) (cs : Forest) → ((k : _) → m ≡ kind.VarDecl k → ⊥) → ((n : _) → m ≡ kind.FnDecl n → ⊥) → IsWhole mark (kind_label m) cs
other_item mark (kind.VarDecl k) cs f g = absurd (f k refl)
other_item mark (kind.FnDecl n) cs f g = absurd (g n refl)
other_item mark m cs f g = record { name = refl; goers = refl }

module _ (mark : ℕ) (item : Opened) (p : Parts) where
  -- parts of an item that is whole
  pub whole_divides : p.name ≡ None → p.inner ≡ item → IsWhole mark (kind_label item.kind) (children_forest item.children) → Divides mark (kind_label item.kind) (children_forest item.children) p
  whole_divides n is h = record {
    name = h.name ∙ sym (ap name_of n);
    goers = h.goers ∙ ap (λ (o : Opened). goers_inside (kind_label o.kind) (children_forest o.children)) (sym is);
    tight = λ e. subst (λ (o : Opened). tight_inside (kind_label o.kind) (children_forest o.children) ≡ true) is e;
  }

  -- of a declaration of something that is no variable
  pub other_divides : (variable : Opened) → p.name ≡ None → p.inner ≡ item → ((j : _) → (n : _) → variable.kind ≡ kind.Declarator j n → ⊥) → DividesAt mark item variable p
  other_divides variable n is f k ss l c =
      let w = other_declared mark k variable.kind ss (children_forest variable.children) f in
      whole_divides n is (subst (λ (m : Label). IsWhole mark m (children_forest item.children)) (sym l) (subst (λ (cs : Forest). IsWhole mark (VarDecl k) cs) (sym c) w))
