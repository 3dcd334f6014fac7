-- Declarations by a name that itself stands for another, or holds a known value.
use Rattle.std.proofs.Common.{◌≡◌, ℕ, Bool, true, false, [], ◌∷◌, Option, Some, None, refl, sym, ap, subst, slice_get, ◌∙◌}
use Rattle.swc_ast.specs.declared.VarDeclKind.{VarDeclKind}
use Rattle.swc_ast.specs.declared.VarDeclKind.TheVariants.{Var, Let, Const}
use Rattle.swc_ast.specs.Tree.{Name}
use Rattle.swc_ast.specs.Value.{Value, Cell, State, Outcome, Done, Outside, and_then, Context}
use Rattle.swc_ast.specs.Meaning.{gives, in_core, is_unresolved, read, read_bound, held_value, cell_at, initialise, declare}
use Rattle.link_proofs.specs.Links.{Links, Ground, Proper}
use Rattle.link_proofs.proofs.State.{World, Fine, entry_of, FineContext, Behind, FineState, Ends, outside}
use Rattle.link_proofs.proofs.Scopes.{Own, Pend}
use Rattle.link_proofs.proofs.Lists.{Sets, first_safe, no_value, unlinked_behind}
use Rattle.link_proofs.proofs.Settles.{Stands}
use Rattle.link_proofs.proofs.Fors.{bound_read}
use Rattle.link_proofs.proofs.Acts.{LinkedRead, same_read, no_read, NamedBy, named_read, ValuedBy, valued_read}

same_some : {A : Type 0} {a b : A} → Some a ≡ Some b → a ≡ b
same_some e = cc

pub stands : (mark : ℕ) (x : Name) (c : Context) (s : State) (v : Value) → is_unresolved mark x ≡ false → read mark x c s ≡ Done v s → Stands s x c v
stands mark x c s v u e = at_index (c.env x) refl (sym (bound_read mark x c s u) ∙ e)
  where
    done_value : {v u : Value} → Done u s ≡ Done v s → u ≡ v
    done_value e = cc

    not_outside : {A : Type 0} → Outside ≡ Done v s → A
    not_outside e = absurd (differ e)
      where
        differ : Outside ≡ Done v s → ⊥
        differ e = cc

    at_value : (j : ℕ) → c.env x ≡ Some j → (a : Cell) → slice_get (s.store x) j ≡ Some a → (o : Option Value) → a.held ≡ o → in_core o s ≡ Done v s → Stands s x c v
    at_value j i a t None q e = not_outside e
    at_value j i a t (Some u) q e = record { index = j; cell = a; is_at = i; there = t; holds = q ∙ ap Some (done_value e) }

    at_cell : (j : ℕ) → c.env x ≡ Some j → (o : Option Cell) → slice_get (s.store x) j ≡ o → held_value o s ≡ Done v s → Stands s x c v
    at_cell j i None t e = not_outside e
    at_cell j i (Some a) t e = at_value j i a t a.held refl e

    at_index : (o : Option ℕ) → c.env x ≡ o → read_bound x o s ≡ Done v s → Stands s x c v
    at_index None i e = not_outside e
    at_index (Some j) i e = at_cell j i (cell_at s x j) refl e

module _ {L : Links} {mark : ℕ} (P : Proper L mark) where
  -- a name takes the value of one that stands for the same name
  copy_ends : {G : Ground} {B : Name → Bool} (y x : Name) → L.link y ≡ Some x → L.known y ≡ None → B y ≡ true → is_unresolved mark x ≡ false → (w : World) (c : Context) → FineContext L w G c → (s : State) → Pend L B c.env s → FineState L w s → {o : Outcome Value} → LinkedRead L w s o (read mark x c s)
      → Ends L (Own B c.env) (Fine L) w s (and_then o (λ v. initialise y v c)) (and_then (and_then o (λ v. read mark x c)) (λ v. initialise y v c))
  unfolding and_then
  copy_ends {G} {B} y x l n b ux w c hc s p h {o} (no_read e) = subst (λ (o : Outcome Value). Ends L (Own B c.env) (Fine L) w s (and_then o (λ v. initialise y v c)) (and_then (and_then o (λ v. read mark x c)) (λ v. initialise y v c))) (sym e) (outside _)
  copy_ends {G} {B} y x l n b ux w c hc s p h {o} (same_read v r e d) =
      subst (λ (o : Outcome Value). Ends L (Own B c.env) (Fine L) w s (and_then o (λ v. initialise y v c)) (and_then (and_then o (λ v. read mark x c)) (λ v. initialise y v c))) (sym e)
      (subst (λ (o : Outcome Value). Ends L (Own B c.env) (Fine L) w s (initialise y v c s) (and_then o (λ v. initialise y v c))) (sym d)
      (first_safe P w y v c hc r b s p h behind (no_value P y v n)))
    where
      behind : (k : ℕ) → c.env y ≡ Some k → (z : Name) → L.link y ≡ Some z → Behind w s y z k v
      behind k i z m =
          let a = stands mark x c s v ux d in
          subst (λ (z : Name). Behind w s y z k v) (same_some (sym l ∙ m))
          (record { index = a.index; cell = a.cell; linked = hc.env.at y (P.linked_fixed y x l) k i ∙ ap (λ (o : Option Name). Some (entry_of o c.env)) l ∙ ap Some a.is_at; there = a.there; holds = a.holds })

  pub declare_copy : {G : Ground} {B : Name → Bool} (k : VarDeclKind) (y x a : Name) → L.link y ≡ Some x → L.known y ≡ None → B y ≡ true → NamedBy L G a x → Sets L G B (declare k y (read mark a ∷ [])) (declare k y ((λ c s. and_then (read mark a c s) (λ v. read mark x c)) ∷ []))
  unfolding declare
  declare_copy {G} {B} k y x a l n b q = kinds k
    where
      at : (w : World) (c : Context) → FineContext L w G c → (s : State) → Pend L B c.env s → FineState L w s → Ends L (Own B c.env) (Fine L) w s (and_then (read mark a c s) (λ v. initialise y v c)) (and_then (and_then (read mark a c s) (λ v. read mark x c)) (λ v. initialise y v c))
      at w c hc s p h = let r = named_read P a x q in copy_ends y x l n b r.1 w c hc s p h (r.2 w c hc s h)

      kinds : (k : VarDeclKind) → Sets L G B (declare k y (read mark a ∷ [])) (declare k y ((λ c s. and_then (read mark a c s) (λ v. read mark x c)) ∷ []))
      kinds Var = record { at = at }
      kinds Let = record { at = at }
      kinds Const = record { at = at }

  -- a name takes a known value
  value_ends : {G : Ground} {B : Name → Bool} (y : Name) (u : Value) → L.link y ≡ None → L.known y ≡ Some u → B y ≡ true → (w : World) (c : Context) → FineContext L w G c → (s : State) → Pend L B c.env s → FineState L w s → {o : Outcome Value} → LinkedRead L w s o (Done u s)
      → Ends L (Own B c.env) (Fine L) w s (and_then o (λ v. initialise y v c)) (and_then (and_then o (λ v. gives u)) (λ v. initialise y v c))
  unfolding and_then
  value_ends {G} {B} y u l n b w c hc s p h {o} (no_read e) = subst (λ (o : Outcome Value). Ends L (Own B c.env) (Fine L) w s (and_then o (λ v. initialise y v c)) (and_then (and_then o (λ v. gives u)) (λ v. initialise y v c))) (sym e) (outside _)
  value_ends {G} {B} y u l n b w c hc s p h {o} (same_read v r e d) =
      subst (λ (o : Outcome Value). Ends L (Own B c.env) (Fine L) w s (and_then o (λ v. initialise y v c)) (and_then (and_then o (λ v. gives u)) (λ v. initialise y v c))) (sym e)
      (subst (λ (a : Value). Ends L (Own B c.env) (Fine L) w s (initialise y a c s) (initialise y u c s)) same
      (first_safe P w y u c hc (subst (Fine L w) (sym same) r) b s p h (λ k e. unlinked_behind P y u l k) (λ a m. same_some (sym n ∙ m))))
    where
      done_value : {a : Value} → Done u s ≡ Done a s → u ≡ a
      done_value e = cc

      same : u ≡ v
      same = done_value d

  pub declare_value : {G : Ground} {B : Name → Bool} (k : VarDeclKind) (y a : Name) (u : Value) → L.link y ≡ None → L.known y ≡ Some u → B y ≡ true → ValuedBy L G a u → Sets L G B (declare k y (read mark a ∷ [])) (declare k y ((λ c s. and_then (read mark a c s) (λ v. gives u)) ∷ []))
  unfolding declare
  declare_value {G} {B} k y a u l n b q = kinds k
    where
      at : (w : World) (c : Context) → FineContext L w G c → (s : State) → Pend L B c.env s → FineState L w s → Ends L (Own B c.env) (Fine L) w s (and_then (read mark a c s) (λ v. initialise y v c)) (and_then (and_then (read mark a c s) (λ v. gives u)) (λ v. initialise y v c))
      at w c hc s p h = let r = valued_read P a u q in value_ends y u l n b w c hc s p h (r.1 w c hc s h)

      kinds : (k : VarDeclKind) → Sets L G B (declare k y (read mark a ∷ [])) (declare k y ((λ c s. and_then (read mark a c s) (λ v. gives u)) ∷ []))
      kinds Var = record { at = at }
      kinds Let = record { at = at }
      kinds Const = record { at = at }
