-- What is gathered in a walk over an item.
use Rattle.std.specs.Borrow.{Bor}
use Rattle.std.specs.Prelude.{ℕ, ◌≡◌, ◌⊎◌, Bool, true, false, not, ◌&&◌, ◌||◌, if◌then◌else◌, List, [], ◌∷◌, ◌++◌, Option, Some, None, position, nat_eq}
use Rattle.swc_ast.specs.declared.Span.{Span}
use Rattle.swc_ast.specs.declared.VarDeclKind.{VarDeclKind}
use Rattle.swc_ast.specs.declared.names.Ident.{Ident}
use Rattle.swc_ast.specs.Parts.{ident_name}
use Rattle.swc_ast.specs.Run.{has_text}
use Rattle.swc_ast.specs.Reach.{is_for}
use Rattle.swc_ast.specs.Scope.{has_name}
use Rattle.swc_ast.specs.Tree.{Name, same_name, Label, VarDecl, node, Forest, ε, ◌⊳◌}
use Rattle.swc_ast.specs.Weight.{is_list}
use Rattle.static_proofs.specs.Names.{is_some_tree}
use Rattle.tree_visit.specs.declared.opened.Opened.{Opened}
use Rattle.tree_visit.specs.Kinds.{kind_label}
use Rattle.tree_visit.specs.Nodes.{children_forest}
use Rattle.dce_uses.specs.Tables.{is_free}
use Rattle.dce_peel.specs.Rounds.{among}
use Rattle.dce_layer_proofs.specs.Goers.{own_goer, is_closed_label, is_head_label, goers_among, goes_with, inner_goers, is_void_label, is_sound, tight_among}
use Rattle.dce_items.specs.declared.known.Known.{Known}
use Rattle.dce_items.specs.declared.parts.Parts.{Parts}
use Rattle.dce_items.specs.Described.{IsAmong}

-- the parts of an item, or of a node in it

abbrev pub is_void : Label → Forest → Bool
is_void l cs = is_void_label l && not (is_some_tree cs)

abbrev pub tight_inside : Label → Forest → Bool
tight_inside l cs = if is_closed_label l then true else (is_sound l cs && tight_among (is_for l) (is_list l) cs)

abbrev pub goers_inside : Label → Forest → List Name
goers_inside l cs = if is_closed_label l then [] else goers_among (is_for l) cs

-- a child of a node, the first of a `for` where the flag says so, and one of a list
abbrev pub tight_child : Bool → Bool → Label → Forest → Bool
tight_child head listed l cs = if is_head_label head l then true else (not (listed && is_void l cs) && tight_inside l cs)

abbrev pub goers_child : Bool → Label → Forest → List Name
goers_child head l cs = if is_head_label head l then [] else (own_goer l ++ goers_inside l cs)

-- the name of an identifier, if there is one
abbrev pub name_of : Option (Bor Ident) → Option Name
name_of None = None
name_of (Some n) = Some (ident_name n.now)

-- Parts of an item: the name with which it goes, and a node below which the others are declared, and that is as tight.
pub record Divides (mark : ℕ) (l : Label) (cs : Forest) (p : Parts) : Type 0 where
  pub name : goes_with mark l cs ≡ name_of p.name
  pub goers : inner_goers mark l cs ≡ goers_inside (kind_label p.inner.kind) (children_forest p.inner.children)
  pub tight : tight_inside (kind_label p.inner.kind) (children_forest p.inner.children) ≡ true → tight_inside l cs ≡ true

-- Parts of an item that is a declaration of one variable, where it is.
abbrev pub DividesAt : ℕ → Opened → Opened → Parts → Type 0
DividesAt mark item variable p =
    (k : VarDeclKind) (ss : List Span) → kind_label item.kind ≡ VarDecl k → children_forest item.children ≡ node (kind_label variable.kind) ss (children_forest variable.children) ⊳ ε → Divides mark (kind_label item.kind) (children_forest item.children) p

-- A name is kept by its item, or it is retained, or its number is among some.
abbrev pub Settled : Known → List ℕ → Name → Type 0
Settled k ns x = (is_free k.uses.now x ≡ false) ⊎ ((has_text x.text k.retained.now ≡ true) ⊎ IsAmong k.names.now ns x)

-- Numbers become others by a walk, which goes on where it finds what is tight; then each of some names is settled.
pub record Gathers (k : Known) (old new : List ℕ) (goes : Bool) (is_tight : Bool) (xs : List Name) : Type 0 where
  pub grows : (n : ℕ) → among old n ≡ true → among new n ≡ true
  pub tight : goes ≡ true → is_tight ≡ true
  pub settled : goes ≡ true → (x : Name) → has_name x xs ≡ true → Settled k new x

-- whether a name has a number
abbrev pub is_at : Option ℕ → ℕ → Bool
is_at None n = false
is_at (Some m) n = nat_eq n m

-- whether a number is that of one of some names, one that the item keeps
abbrev pub keeps_number : Known → List Name → ℕ → Bool
keeps_number k [] n = false
keeps_number k (x ∷ xs) n = (not (is_free k.uses.now x) && is_at (position (same_name x) k.names.now) n) || keeps_number k xs n
