-- A new scope takes related states to related states.
use Rattle.std.proofs.Common.{◌≡◌, ℕ, Bool, List, Option, Some, refl, ap, ap₂, subst, length, cond, ◌∙◌}
use Rattle.swc_ast.specs.Tree.{Name}
use Rattle.swc_ast.specs.Value.{Env, Cell, State, Run, Context}
use Rattle.swc_ast.specs.Meaning.{Scope, numbered, with_cell, in_scope, plain}
use Rattle.rename_proofs.proofs.Relation.{Pairing, Each, none, more, Maybe, neither, both, SameEnv, SameCell, S, C, Ran}
use Rattle.rename_proofs.proofs.Stores.{append_each, length_each, cond_each}

module _ {P : Pairing} where
  pub plain_sim : {c d : Context} → C P c d → C P (plain c) (plain d)
  plain_sim hc = record { env = hc.env; this = hc.this; labels = refl }

  numbered_sim : {binds : Name → Bool} (binds' : Name → Bool) {e f : Env} {s t : State} → ((x : Name) → binds x ≡ binds' (P.to x)) → SameEnv P e f → S P s t → SameEnv P (numbered binds e s) (numbered binds' f t)
  numbered_sim {binds} binds' {e} {f} {s} {t} b he h = record { at = λ x. ap₂ (λ (b : Bool) (o : Option ℕ). cond b o (e x)) (b x) (ap Some (length_each (h.cells x))) ∙ ap (cond (binds' (P.to x)) (Some (length (t.store (P.to x))))) (he.at x) }

  with_cell_sim : {o p : Option Cell} {cs ds : List Cell} → Maybe (SameCell P) o p → Each (SameCell P) cs ds → Each (SameCell P) (with_cell o cs) (with_cell p ds)
  with_cell_sim neither rs = rs
  with_cell_sim (both r) rs = append_each rs (more r none)

  store_sim : (b d : Bool) {o p : Option Cell} {cs ds : List Cell} → b ≡ d → Maybe (SameCell P) o p → Each (SameCell P) cs ds → Each (SameCell P) (cond b (with_cell o cs) cs) (cond d (with_cell p ds) ds)
  store_sim b d {o} {p} {cs} {ds} e r rs = subst (λ z. Each (SameCell P) (cond b (with_cell o cs) cs) (cond z (with_cell p ds) ds)) e (cond_each b (with_cell_sim r rs) rs)

  pub in_scope_sim : {A : Type 0} {RA : A → A → Type 0} {binds : Name → Bool} (binds' : Name → Bool) {cells : Env → Scope} (cells' : Env → Scope) {body body' : Context → Run A}
      → ((x : Name) → binds x ≡ binds' (P.to x))
      → ((e f : Env) → SameEnv P e f → (x : Name) → Maybe (SameCell P) (cells e x) (cells' f (P.to x)))
      → ((c d : Context) → C P c d → Ran P RA (body c) (body' d))
      → {c d : Context} → C P c d → Ran P RA (in_scope binds cells body c) (in_scope binds' cells' body' d)
  unfolding in_scope
  in_scope_sim {binds = binds} binds' cells' hb hcells hbody {c} {d} hc s t h =
      let he : SameEnv P (numbered binds c.env s) (numbered binds' d.env t) = numbered_sim binds' hb hc.env h in
      hbody _ _ (record { env = he; this = hc.this; labels = hc.labels }) _ _
      (record {
        events = h.events;
        replies = h.replies;
        handed = h.handed;
        natives = h.natives;
        cells = λ x. store_sim (binds x) (binds' (P.to x)) (hb x) (hcells _ _ he x) (h.cells x);
      })
