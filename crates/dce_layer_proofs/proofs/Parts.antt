-- The names of an item are the one with which it goes and the others.
use Rattle.std.proofs.Common.{ℕ, ◌≡◌, Bool, true, false, ◌||◌, if◌then◌else◌, List, [], ◌∷◌, ◌++◌, Option, Some, None, refl, sym, ap, subst, ◌∙◌}
use Rattle.std.proofs.lemmas.List.{append-nil}
use Rattle.swc_ast.specs.declared.Span.{Span}
use Rattle.swc_ast.specs.declared.VarDeclKind.{VarDeclKind}
use Rattle.swc_ast.specs.Scope.{has_name}
use Rattle.swc_ast.specs.Tree.{Name, same_name, VarDecl, Declarator, FnDecl, Tree, node, Forest, ε, ◌⊳◌, label_of, children_of}
use Rattle.static_proofs.proofs.Names.{same_name_path}
use Rattle.dce_rules.specs.Shakes.{Shaker}
use Rattle.dce_layer_proofs.specs.Goers.{goers, goers_among, is_pure_init, goes_with, inner_goers}
use Rattle.dce_layer_proofs.proofs.Quiet.{Quiet, Held}

-- the name, if there is one, doesn't go
abbrev pub Still : Shaker → Option Name → Type 0
Still S (Some x) = S.free x ≡ false
Still S None = Unit {0}

module _ {S : Shaker} where
  quiet_more : (x : Name) (xs : List Name) → S.free x ≡ false → Quiet S xs → Quiet S (x ∷ xs)
  quiet_more x xs f q = record { still = λ y h. by y (same_name y x) refl h }
    where
      by : (y : Name) (b : Bool) → same_name y x ≡ b → (b || has_name y xs) ≡ true → S.free y ≡ false
      by y true e h = ap S.free (same_name_path y x e) ∙ f
      by y false e h = q.still y h

  quiet_end : (xs : List Name) → Quiet S xs → Quiet S (xs ++ [])
  quiet_end xs q = subst (Quiet S) (sym (append-nil xs)) q

  variable_quiet : (b : Bool) (k : VarDeclKind) (x : Name) (ss : List Span) (cs : Forest) → Still S (if b then Some x else None) → Quiet S (if b then goers_among false cs else goers_among false (node (Declarator k x) ss cs ⊳ ε)) → Quiet S (goers_among false (node (Declarator k x) ss cs ⊳ ε))
  variable_quiet true k x ss cs w q = quiet_end (x ∷ goers_among false cs) (quiet_more x (goers_among false cs) w q)
  variable_quiet false k x ss cs w q = q

  -- none of them goes where neither that one nor the others do
  pub quiet_whole : (mark : ℕ) (t : Tree) → Still S (goes_with mark (label_of t) (children_of t)) → Quiet S (inner_goers mark (label_of t) (children_of t)) → Quiet S (goers t)
  quiet_whole mark (node (VarDecl k) ss (node (Declarator j x) rs cs ⊳ ε)) w q = variable_quiet (is_pure_init mark cs) j x rs cs w q
  quiet_whole mark (node l ss cs) w q = q

-- nor does the function that it declares, where the one doesn't
pub held_still : (S : Shaker) (mark : ℕ) (t : Tree) → Still S (goes_with mark (label_of t) (children_of t)) → Held S (label_of t)
held_still S mark (node (FnDecl f) ss cs) w = w
held_still S mark (node l ss cs) w = tt
