-- A name for which a name is carried is declared where that is in scope.
use Rattle.std.proofs.Common.{◌≡◌, Bool, true, false, not, ◌&&◌, ◌||◌, List, refl, sym, ap, subst, ◌∙◌, ◌⊎◌, inl, inr, if◌then◌else◌}
use Rattle.std.proofs.lemmas.Bool.{and_parts, and_from, or_cases, or_left, or_right, false≢true, true≢false}
use Rattle.swc_ast.specs.declared.Span.{Span}
use Rattle.swc_ast.specs.declared.VarDeclKind.TheVariants.{Var, Let, Const}
use Rattle.swc_ast.specs.Tree.{Name, Label, Declarator, Tree, node, Forest, ε, ◌⊳◌}
use Rattle.swc_ast.specs.Value.{Value}
use Rattle.static_proofs.specs.Shaped.{labels_of, all_labels, holds, is_shaped, are_shaped}
use Rattle.static_proofs.proofs.Names.{same_name_path}
use Rattle.link_proofs.specs.Links.{Put, nothing, a_name, a_value, is_group}
use Rattle.carry_rules.specs.Carry.{Pass, Facts, declares_lexical, Carried, first_put, may_carry, keeps_names, enter, leave, after, after_all, ready_at}
use Rattle.carry_rules.proofs.Sound.{Last, fixed, waits_in, waits_all, Enters, Carries, agrees, agrees_all}
use Rattle.carry_rules.proofs.Sources.{From, from_nothing, from_itself, from_name, from_literal, from_value, first_from, unless_name}
use Rattle.carry_rules.proofs.Shown.{no_params, shown, shown_waits, ready_after}
use Rattle.carry_rules.proofs.Places.{begins, begins_no_params, group_children, group_ready}

-- a name that is carried is ready
abbrev IsReady : Carried → Put → Type 0
IsReady r nothing = Unit {0}
IsReady r (a_name x) = r.ready x ≡ true
IsReady r (a_value v) = Unit {0}

ready_from : {r : Carried} {cs : Forest} {q : Put} → From r cs q → IsReady r q
ready_from from_nothing = tt
ready_from (from_itself x rs i c e n) = e
ready_from (from_name a x c e) = e
ready_from (from_literal l rs v i e) = tt
ready_from (from_value a v c d) = tt

pub first_ready : (p : Pass) (r : Carried) (ss : List Span) (cs : Forest) (x : Name) → first_put p r ss cs ≡ a_name x → r.ready x ≡ true
first_ready p r ss cs x e = subst (IsReady r) e (ready_from (first_from p r ss cs))

module _ (p : Pass) (F : Facts) (E : Last) where
  entered_target : (r : Carried) (z : Name) (ss : List Span) (cs : Forest) (x : Name) → Enters p F E r z ss cs → E.values z ≡ a_name x → r.ready x ≡ true
  entered_target r z ss cs x (inl c) e = first_ready p r ss cs x (unless_name (r.quiet || not (may_carry p F z)) (first_put p r ss cs) x (sym c ∙ e)).1
  entered_target r z ss cs x (inr c) e = absurd (value≢name (sym c.0 ∙ e))
    where
      value≢name : {v : Value} → a_value v ≡ a_name x → ⊥
      value≢name e = cc

  own_target : (r : Carried) (l : Label) (ss : List Span) (cs : Forest) (y x : Name) → declares_lexical y l ≡ true → Carries p F E r l ss cs → E.values y ≡ a_name x → r.ready x ≡ true
  own_target r (Declarator Let z) ss cs y x d c e = entered_target r z ss cs x c (ap E.values (sym (same_name_path y z d)) ∙ e)
  own_target r (Declarator Const z) ss cs y x d c e = entered_target r z ss cs x c (ap E.values (sym (same_name_path y z d)) ∙ e)
  own_target r (Declarator Var z) ss cs y x d c e = absurd (false≢true d)
  own_target r l ss cs y x d c e = absurd (false≢true d)

  lexical_keeps : (y : Name) (l : Label) → declares_lexical y l ≡ true → keeps_names l ≡ false
  lexical_keeps y (Declarator k z) d = refl
  lexical_keeps y l d = absurd (false≢true d)

  left_ready : (s t : Carried) (l : Label) (x : Name) → keeps_names l ≡ false → (leave p F l s t).ready x ≡ true → s.ready x ≡ true
  left_ready s t l x k e = by (keeps_names l) k e
    where
      by : (b : Bool) → b ≡ false → (if b then t.ready else s.ready) x ≡ true → s.ready x ≡ true
      by true k e = absurd (true≢false k)
      by false k e = e

  module _ (R : Name → Bool) where
    abbrev Within : Carried → Type 0
    Within s = (z : Name) → s.ready z ≡ true → R z ≡ true

    entered : (s : Carried) (l : Label) (ss : List Span) (cs : Forest) → is_group l ≡ true → Within s → Within (enter p F l ss cs s)
    entered s l ss cs g h z e = by (or_cases (s.ready z) (ready_at l cs z && F.steady z) e)
      where
        by : (s.ready z ≡ true) ⊎ ((ready_at l cs z && F.steady z) ≡ true) → R z ≡ true
        by (inl e) = h z e
        by (inr e) = absurd (group_ready l cs z g (and_parts (ready_at l cs z) (F.steady z) e).0)

    behind_it : (s : Carried) (t : Tree) → is_shaped t ≡ true → all_labels no_params (labels_of (t ⊳ ε)) ≡ true → ((z : Name) → fixed F z ≡ true → waits_in t z ≡ true → R z ≡ true) → Within s → Within (after p F s t)
    behind_it s t i n f h z e = by (ready_after p F s t z e)
      where
        by : (s.ready z ≡ true) ⊎ ((shown t z ≡ true) × (F.steady z ≡ true)) → R z ≡ true
        by (inl e) = h z e
        by (inr e) = f z (or_left (F.steady z) (F.constant z) e.1) (shown_waits t z i n e.0)

    mutual
      targets_in : (t : Tree) (s : Carried) → Within s → agrees p F E s t → is_shaped t ≡ true → ((z : Name) → fixed F z ≡ true → waits_in t z ≡ true → R z ≡ true) → (y x : Name) → waits_in t y ≡ true → E.values y ≡ a_name x → R x ≡ true
      targets_in (node l ss cs) s w a h f y x e i = by (or_cases (declares_lexical y l) (is_group l && waits_all cs y) e) (λ g. targets cs (enter p F l ss cs s) (entered s l ss cs g w) a.0 (and_parts (holds l (labels_of cs)) (are_shaped cs) h).1 (group_children l (labels_of cs) g (and_parts (holds l (labels_of cs)) (are_shaped cs) h).0) (λ z k m. f z k (or_right (declares_lexical z l) (is_group l && waits_all cs z) (and_from (is_group l) (waits_all cs z) g m))) y x)
        where
          by : (declares_lexical y l ≡ true) ⊎ ((is_group l && waits_all cs y) ≡ true) → (is_group l ≡ true → waits_all cs y ≡ true → E.values y ≡ a_name x → R x ≡ true) → R x ≡ true
          by (inl d) g = w x (left_ready s (after_all p F (enter p F l ss cs s) cs) l x (lexical_keeps y l d) (own_target (leave p F l s (after_all p F (enter p F l ss cs s) cs)) l ss cs y x d a.1 i))
          by (inr d) g = let q = and_parts (is_group l) (waits_all cs y) d in g q.0 q.1 i

      pub targets : (ts : Forest) (s : Carried) → Within s → agrees_all p F E s ts → are_shaped ts ≡ true → all_labels begins (labels_of ts) ≡ true → ((z : Name) → fixed F z ≡ true → waits_all ts z ≡ true → R z ≡ true) → (y x : Name) → waits_all ts y ≡ true → E.values y ≡ a_name x → R x ≡ true
      targets ε s w a h b f y x e i = absurd (false≢true e)
      targets (node l ss cs ⊳ ts) s w a h b f y x e i =
          let q = and_parts (is_shaped (node l ss cs)) (are_shaped ts) h in
          let r = and_parts (begins l) (all_labels begins (labels_of ts)) b in
          by (or_cases (waits_in (node l ss cs) y) (waits_all ts y) e) (λ g. targets_in (node l ss cs) s w a.0 q.0 first y x g i) (λ g. targets ts (after p F s (node l ss cs)) (behind_it s (node l ss cs) q.0 (and_from (no_params l) true (begins_no_params l r.0) refl) first w) a.1 q.1 r.1 (λ z k m. f z k (or_right (waits_in (node l ss cs) z) (waits_all ts z) m)) y x g i)
        where
          first : (z : Name) → fixed F z ≡ true → waits_in (node l ss cs) z ≡ true → R z ≡ true
          first z k m = f z k (or_left (waits_in (node l ss cs) z) (waits_all ts z) m)

          by : (waits_in (node l ss cs) y ≡ true) ⊎ (waits_all ts y ≡ true) → (waits_in (node l ss cs) y ≡ true → R x ≡ true) → (waits_all ts y ≡ true → R x ≡ true) → R x ≡ true
          by (inl e) f g = f e
          by (inr e) f g = g e
