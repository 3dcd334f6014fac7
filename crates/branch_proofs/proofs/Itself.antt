-- `x = x` of a bound name is `x`.
use Rattle.std.proofs.Common.{◌≡◌, ℕ, zero, suc, Bool, true, false, ◌&&◌, if◌then◌else◌, List, [], ◌∷◌, Option, Some, None, refl, sym, ap, ◌∙◌, slice_get, slice_set}
use Rattle.std.proofs.lemmas.Option.{none-some, same_Some}
use Rattle.swc_ast.specs.declared.Span.{Span}
use Rattle.swc_ast.specs.declared.AssignOp.TheVariants.{Assign as Plain}
use Rattle.swc_ast.specs.Tree.{Name, same_name, Read, Assign, node, ε, ◌⊳◌}
use Rattle.swc_ast.specs.Value.{Value, Cell, State, Done, and_then}
use Rattle.swc_ast.specs.Meaning.{leaves, in_core, is_unresolved, read, read_bound, read_host, held_value, cell_at, set_cell, is_initialised, write, write_bound, write_cell, write_host, assign, act, eval, evals}
use Rattle.meaning_proofs.specs.Exact.{Refined, Exact}
use Rattle.meaning_proofs.proofs.Names.{same_name_eq}
use mathlib.Core.Path.{fun_ext}

set_same : {A : Type 0} (xs : List A) (k : ℕ) (a : A) → slice_get xs k ≡ Some a → slice_set xs k a ≡ xs
set_same [] k a h = refl
set_same (x ∷ xs) zero a h = ap (λ y. y ∷ xs) (sym (same_Some _ _ h))
set_same (x ∷ xs) (suc k) a h = ap (λ ys. x ∷ ys) (set_same xs k a h)

same_store : (s : State) (x : Name) (k : ℕ) (c : Cell) → slice_get (s.store x) k ≡ Some c → (y : Name) (b : Bool) → same_name x y ≡ b → (if b then slice_set (s.store y) k c else s.store y) ≡ s.store y
same_store s x k c h y true e = set_same (s.store y) k c (ap (λ z. slice_get (s.store z) k) (sym (same_name_eq x y e)) ∙ h)
same_store s x k c h y false e = refl

-- a cell that is set to what it is
set_itself : (s : State) (x : Name) (k : ℕ) (c : Cell) → cell_at s x k ≡ Some c → set_cell s x k c ≡ s
set_itself s x k c h = ap (λ f. record s { store = f }) (fun_ext (λ y. same_store s x k c h y (same_name x y) refl))

module _ (x : Name) (k : ℕ) (s : State) where
  may_write : (b : Bool) (v : Value) (c : Cell) → cell_at s x k ≡ Some c → c.held ≡ Some v → Refined ((if b then (λ s. Done v (set_cell s x k (record c { held = Some v }))) else leaves) s) (Done v s)
  may_write true v c h e = ap (λ t. Done v t) (sym (ap (λ o. set_cell s x k (record c { held = o })) (sym e) ∙ set_itself s x k c h))
  may_write false v c h e = tt

  written_back : (v : Value) (c : Cell) (o : Option Cell) → cell_at s x k ≡ o → o ≡ Some c → c.held ≡ Some v → Refined (write_cell x k v o s) (Done v s)
  written_back v c None h i e = absurd (none-some c i)
  written_back v c (Some b) h i e = may_write (b.writable && is_initialised b.held) v b h (ap (λ z. z.held) (same_Some _ _ i) ∙ e)

  held_back : (o : Option Value) (c : Cell) → c.held ≡ o → cell_at s x k ≡ Some c → Refined (and_then (in_core o s) (λ v. write_bound x v (Some k))) (in_core o s)
  unfolding and_then
  held_back None c e h = tt
  held_back (Some v) c e h = written_back v c (cell_at s x k) refl h e

  read_back : (o : Option Cell) → cell_at s x k ≡ o → Refined (and_then (held_value o s) (λ v. write_bound x v (Some k))) (held_value o s)
  unfolding and_then
  read_back None h = tt
  read_back (Some c) h = held_back c.held c refl h

bound_back : (x : Name) (o : Option ℕ) (s : State) → Refined (and_then (read_bound x o s) (λ v. write_bound x v o)) (read_bound x o s)
unfolding and_then
bound_back x None s = tt
bound_back x (Some k) s = read_back x k s (cell_at s x k) refl

back : (mark : ℕ) (x : Name) (o : Option ℕ) (b : Bool) → b ≡ false → (s : State) → Refined (and_then ((if b then read_host x.text else read_bound x o) s) (λ v. if b then write_host x.text v else write_bound x v o)) ((if b then read_host x.text else read_bound x o) s)
back mark x o true e s = cc
back mark x o false e s = bound_back x o s

pub itself_exact : (mark : ℕ) (x : Name) (ss rs us : List Span) → is_unresolved mark x ≡ false → Exact mark (node (Assign Plain x) ss (node (Read x) rs ε ⊳ ε)) (node (Read x) us ε)
unfolding eval act evals assign read write
itself_exact mark x ss rs us e = record { by = λ n d c. record { by = λ s. back mark x (c.env x) (is_unresolved mark x) e s } }
