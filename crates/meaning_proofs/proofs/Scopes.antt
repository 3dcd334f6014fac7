-- A new scope takes related states to related states.
use Rattle.std.proofs.Common.{◌≡◌, ℕ, Bool, true, false, List, [], ◌∷◌, ◌++◌, Option, Some, None, refl, ap, ap₂, subst, length, cond, ◌∙◌}
use Rattle.swc_ast.specs.Tree.{Name}
use Rattle.swc_ast.specs.Value.{Env, Value, Cell, State, Run, Context}
use Rattle.swc_ast.specs.Meaning.{Scope, numbered, with_cell, in_scope, plain}
use Rattle.meaning_proofs.specs.Names.{Holds, Guarded, no_cell, a_cell}
use Rattle.meaning_proofs.proofs.Relation.{Pairing, Each, none, more, Maybe, neither, both, SameEnv, SameCell, S, C, Ran}
use Rattle.meaning_proofs.proofs.Stores.{append_each, length_each, cond_each}

-- a new cell that holds what it may
abbrev pub Born : Option Value → Option Cell → Type 0
Born g None = Unit {0}
Born g (Some c) = Holds g c

guarded_behind : {g : Option Value} {cs : List Cell} (c : Cell) → Guarded g cs → Holds g c → Guarded g (cs ++ c ∷ [])
guarded_behind c no_cell e = a_cell e no_cell
guarded_behind c (a_cell f h) e = a_cell f (guarded_behind c h e)

with_guarded : {g : Option Value} {cs : List Cell} (o : Option Cell) → Born g o → Guarded g cs → Guarded g (with_cell o cs)
with_guarded None e h = h
with_guarded (Some c) e h = guarded_behind c h e

store_guarded : {g : Option Value} (b : Bool) (o : Option Cell) {cs : List Cell} → (b ≡ true → Born g o) → Guarded g cs → Guarded g (cond b (with_cell o cs) cs)
store_guarded true o e h = with_guarded o (e refl) h
store_guarded false o e h = h

module _ {P : Pairing} where
  pub plain_sim : {c d : Context} → C P c d → C P (plain c) (plain d)
  plain_sim hc = record { env = hc.env; this = hc.this; labels = refl }

  numbered_sim : {binds binds' : Name → Bool} {e f : Env} {s t : State} → ((x : Name) → P.dropped x ≡ false → binds x ≡ binds' x) → SameEnv P e f → S P s t → SameEnv P (numbered binds e s) (numbered binds' f t)
  numbered_sim {binds} {binds'} {e} {f} {s} {t} b he h = record { at = λ x kept. go x kept (binds x) (binds' x) (b x kept) }
    where
      go : (x : Name) → P.dropped x ≡ false → (b d : Bool) → b ≡ d → cond b (Some (length (s.store x))) (e x) ≡ cond d (Some (length (t.store x))) (f x)
      go x kept b d p = ap₂ (λ (b : Bool) (o : Option ℕ). cond b o (e x)) p (ap Some (length_each (h.cells x kept))) ∙ ap (cond d (Some (length (t.store x)))) (he.at x kept)

  with_cell_sim : {x : Name} {o p : Option Cell} {cs ds : List Cell} → Maybe (SameCell P x) o p → Each (SameCell P x) cs ds → Each (SameCell P x) (with_cell o cs) (with_cell p ds)
  with_cell_sim neither rs = rs
  with_cell_sim (both r) rs = append_each rs (more r none)

  store_sim : {x : Name} (b d : Bool) {o p : Option Cell} {cs ds : List Cell} → b ≡ d → Maybe (SameCell P x) o p → Each (SameCell P x) cs ds → Each (SameCell P x) (cond b (with_cell o cs) cs) (cond d (with_cell p ds) ds)
  store_sim {x} b d {o} {p} {cs} {ds} e r rs = subst (λ z. Each (SameCell P x) (cond b (with_cell o cs) cs) (cond z (with_cell p ds) ds)) e (cond_each b (with_cell_sim r rs) rs)

  pub in_scope_sim : {A : Type 0} {RA : A → A → Type 0} {binds binds' : Name → Bool} {cells cells' : Env → Scope} {body body' : Context → Run A}
      → ((x : Name) → P.dropped x ≡ false → binds x ≡ binds' x)
      → ((e f : Env) → SameEnv P e f → (x : Name) → P.dropped x ≡ false → Maybe (SameCell P x) (cells e x) (cells' f x))
      → ((e : Env) (x : Name) → P.guarded x ≡ true → binds x ≡ true → Born (P.guard x) (cells e x))
      → ((c d : Context) → C P c d → Ran P RA (body c) (body' d))
      → {c d : Context} → C P c d → Ran P RA (in_scope binds cells body c) (in_scope binds' cells' body' d)
  unfolding in_scope
  in_scope_sim {binds = binds} {binds' = binds'} hb hcells hdead hbody {c} {d} hc s t h =
      let he : SameEnv P (numbered binds c.env s) (numbered binds' d.env t) = numbered_sim hb hc.env h in
      hbody _ _ (record { env = he; this = hc.this; labels = hc.labels }) _ _
      (record {
        events = h.events;
        replies = h.replies;
        handed = h.handed;
        natives = h.natives;
        cells = λ x kept. store_sim (binds x) (binds' x) (hb x kept) (hcells _ _ he x kept) (h.cells x kept);
        guards = record { at = λ x g. store_guarded (binds x) _ (hdead _ x g) (h.guards.at x g) };
      })
