-- What the walk makes of an item that goes in a round.
use Rattle.std.proofs.Common.{ℕ, ◌<◌, ◌≡◌, Bool, true, false, ◌&&◌, if◌then◌else◌, List, Some, None, [], refl, ap₂, ◌∙◌, arith}
use Rattle.std.proofs.lemmas.Bool.{false≢true}
use Rattle.swc_ast.specs.declared.Span.{Span}
use Rattle.swc_ast.specs.declared.VarDeclKind.{VarDeclKind}
use Rattle.swc_ast.specs.Run.{has_text}
use Rattle.swc_ast.specs.Tree.{Text, Name, VarDecl, Declarator, FnDecl, Module, Empty, Tree, node, Forest, ε, ◌⊳◌, label_of, children_of}
use Rattle.tree_walk.specs.Walks.{Walks, opened, stands, plain, nothing}
use Rattle.walk_proofs.specs.Meant.{sifted, goes_there}
use Rattle.dce_rules.specs.Shakes.{Shaker, goes_early, item_goes, declaration_opens, shake_pass}
use Rattle.dce_rules.specs.Uses.{free_to_go}
use Rattle.dce_layer_proofs.specs.Goers.{is_pure_init, goes_with, inner_goers, tight}
use Rattle.dce_layer_proofs.specs.Layers.{Layers, live, top, Leaves}
use Rattle.dce_layer_proofs.specs.Walked.{shaker_of}
use Rattle.dce_layer_proofs.proofs.Live.{gone}
use Rattle.dce_layer_proofs.proofs.Quiet.{Quiet, walks}

-- An item becomes one that goes from its list.
pub record Went (S : Shaker) (t : Tree) : Type 0 where
  pub becomes : Tree
  pub changed : Bool
  pub walk : Walks (shake_pass S) changed t becomes
  pub goes : item_goes S becomes ≡ true

-- a declarator of a name that goes, where its first value is left out or pure
goes_before : (S : Shaker) (k : VarDeclKind) (x : Name) (ss : List Span) (cs : Forest) → is_pure_init S.mark cs ≡ true → S.free x ≡ true → goes_early S (node (Declarator k x) ss cs) ≡ true
goes_before S k x ss ε p f = f
goes_before S k x ss (r ⊳ ε) p f = ap₂ (λ a b. a && b) f p
goes_before S k x ss (r ⊳ t ⊳ ts) p f = absurd (false≢true p)

-- a declaration of one becomes the empty statement
declaration_went : (S : Shaker) (k : VarDeclKind) (ss : List Span) (d : Tree) → goes_early S d ≡ true → Went S (node (VarDecl k) ss (d ⊳ ε))
declaration_went S k ss d h = record {
  becomes = node Empty [] ε;
  changed = true;
  walk = opened (declaration_opens (omega arith) (goes_there h sifted)) (stands (plain refl nothing) refl);
  goes = refl;
}

module _ (mark : ℕ) (drops : Bool) (retained : List Text) (m : Tree) (all : Layers) (r : ℕ) (frees : (x : Name) → free_to_go retained m x ≡ free_to_go retained (node Module [] (live r all)) x) where
  abbrev S : Shaker
  S = shaker_of mark drops retained m

  free : (x : Name) → has_text x.text retained ≡ false → top x all < r → free_to_go retained m x ≡ true
  free x h k = frees x ∙ gone retained [] r all x h k

  variable_went : (k j : VarDeclKind) (rs us : List Span) (x : Name) (cs : Forest) (b : Bool) → is_pure_init mark cs ≡ b → Leaves retained all r (if b then Some x else None) → Went S (node (VarDecl k) rs (node (Declarator j x) us cs ⊳ ε))
  variable_went k j rs us x cs true p h = declaration_went S k rs (node (Declarator j x) us cs) (goes_before S j x us cs p (free x h.0 h.1))
  variable_went k j rs us x cs false p h = absurd h

  pub went : (t : Tree) → tight t ≡ true → Quiet S (inner_goers mark (label_of t) (children_of t)) → Leaves retained all r (goes_with mark (label_of t) (children_of t)) → Went S t
  went (node (FnDecl f) rs cs) i q h = record {
    becomes = node (FnDecl f) rs cs;
    changed = false;
    walk = walks S (node (FnDecl f) rs cs) i q;
    goes = free f h.0 h.1;
  }
  went (node (VarDecl k) rs (node (Declarator j x) us cs ⊳ ε)) i q h = variable_went k j rs us x cs (is_pure_init mark cs) refl h
  went (node l rs cs) i q h = absurd h
