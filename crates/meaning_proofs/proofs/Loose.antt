-- Names that stay declared but that nothing reads: an assignment to one becomes its right side.
use Rattle.std.proofs.Common.{◌≡◌, ℕ, zero, suc, Bool, true, false, ◌&&◌, List, [], ◌∷◌, Option, Some, None, refl, sym, ap, subst, ◌∙◌, cond, slice_get, slice_set, if◌then◌else◌}
use Rattle.swc_ast.specs.declared.Span.{Span}
use Rattle.swc_ast.specs.declared.AssignOp.TheVariants.{Assign as Plain}
use Rattle.swc_ast.specs.Tree.{Name, same_name, Assign, Tree, node, ε, ◌⊳◌}
use Rattle.swc_ast.specs.Value.{Value, Cell, State, Done, Context}
use Rattle.swc_ast.specs.Meaning.{leaves, is_unresolved, cell_at, set_cell, write, write_host, write_bound, write_cell, is_initialised, assign, eval, evals, act}
use Rattle.meaning_proofs.specs.Names.{Names}
use Rattle.meaning_proofs.specs.Exact.{run_at, AlikeCells, none_alike, one_alike, Off, Trimmed, same_value, left_core, Trims}
use Rattle.meaning_proofs.proofs.Names.{same_name_eq, other_name'}
use Rattle.meaning_proofs.proofs.Stores.{free, guard_set}
use Rattle.meaning_proofs.proofs.Laws.{alike_itself}
use Rattle.meaning_proofs.proofs.Drops.{trimmed_end}

-- a name that nothing reads, and whose declaration stays
pub record LooseName (N : Names) (x : Name) : Type 0 where
  pub is_loose : N.loose x ≡ true
  pub is_free : N.guarded x ≡ false

set_alike : {b : Bool} (cs : List Cell) (k : ℕ) (c : Cell) (v : Value) → slice_get cs k ≡ Some c → is_initialised c.held ≡ true → AlikeCells b (slice_set cs k (record c { held = Some v })) cs
set_alike [] k c v e i = none_alike
set_alike (d ∷ cs) zero c v e i =
    let q : c ≡ d = cc in
    one_alike (ap (λ (c : Cell). c.writable) q) (sym i ∙ ap (λ (c : Cell). is_initialised c.held) q) (alike_itself cs)
set_alike (d ∷ cs) (suc k) c v e i = one_alike refl refl (set_alike cs k c v e i)

module _ {N : Names} where
  off_loose : (x : Name) (k : ℕ) (c : Cell) (v : Value) → LooseName N x → (s : State) → cell_at s x k ≡ Some c → is_initialised c.held ≡ true → Off N (set_cell s x k (record c { held = Some v })) s
  off_loose x k c v u s e i = record {
    apart = record {
      events = refl;
      replies = refl;
      handed = refl;
      natives = refl;
      store = λ y keeps l. ap (λ b. cond b (slice_set (s.store y) k (record c { held = Some v })) (s.store y)) (other_name' N.loose x y u.is_loose l);
      loosely = λ y keeps l. go y (same_name x y) refl;
    };
    guards = λ g. record { at = λ y h. guard_set N s x y k c v (free u.is_free) h (g.at y h) };
  }
    where
      go : (y : Name) (b : Bool) → same_name x y ≡ b → AlikeCells (N.slack y) (cond b (slice_set (s.store y) k (record c { held = Some v })) (s.store y)) (s.store y)
      go y false q = alike_itself (s.store y)
      go y true q = set_alike (s.store y) k c v (ap (λ (z : Name). slice_get (s.store z) k) (sym (same_name_eq x y q)) ∙ e) i

  loose_if : (b d : Bool) (x : Name) (k : ℕ) (c : Cell) (v : Value) → LooseName N x → (s : State) → cell_at s x k ≡ Some c → is_initialised c.held ≡ d → Trimmed N ((if b && d then (λ s. Done v (set_cell s x k (record c { held = Some v }))) else leaves) s) (Done v s)
  loose_if true true x k c v u s e i = same_value (off_loose x k c v u s e i)
  loose_if true false x k c v u s e i = left_core _
  loose_if false d x k c v u s e i = left_core _

  loose_cell : (x : Name) (k : ℕ) (v : Value) (o : Option Cell) → LooseName N x → (s : State) → cell_at s x k ≡ o → Trimmed N (write_cell x k v o s) (Done v s)
  loose_cell x k v None u s e = left_core _
  loose_cell x k v (Some c) u s e = loose_if c.writable (is_initialised c.held) x k c v u s e refl

  loose_bound : (x : Name) (v : Value) (o : Option ℕ) → LooseName N x → (s : State) → Trimmed N (write_bound x v o s) (Done v s)
  loose_bound x v None u s = left_core _
  loose_bound x v (Some k) u s = loose_cell x k v (cell_at s x k) u s refl

  loosely_written : (mark : ℕ) (x : Name) (v : Value) (c : Context) → is_unresolved mark x ≡ false → LooseName N x → (s : State) → Trimmed N (write mark x v c s) (Done v s)
  unfolding write
  loosely_written mark x v c e u s = subst (λ (b : Bool). Trimmed N ((if b then write_host x.text v else write_bound x v (c.env x)) s) (Done v s)) (sym e) (loose_bound x v (c.env x) u s)

  -- `x = r` to `r`
  pub assign_loose : (mark : ℕ) (x : Name) (ss : List Span) (r : Tree) → is_unresolved mark x ≡ false → LooseName N x → Trims N (eval mark) (node (Assign Plain x) ss (r ⊳ ε)) r
  unfolding eval act evals assign
  assign_loose mark x ss r e u = record { by = λ n d c s g. trimmed_end (run_at (eval mark) n d r c s) _ (λ v s. loosely_written mark x v c e u s) }
