-- `void 0` is put for names alone that no declaration sets.
use Rattle.std.proofs.Common.{◌≡◌, ℕ, zero, suc, Bool, true, false, not, ◌&&◌, ◌||◌, List, None, refl, sym, ap, subst, ◌∙◌, arith, ◌⊎◌, inl, inr, if◌then◌else◌}
use Rattle.std.proofs.lemmas.Bool.{and_parts, or_cases, false≢true, true≢false}
use Rattle.swc_ast.specs.declared.Span.{Span}
use Rattle.swc_ast.specs.declared.VarDeclKind.TheVariants.{Var, Let, Const}
use Rattle.swc_ast.specs.Tree.{Name, same_name, Label, Read, Shorthand, TypeOfName, Declarator, Tree, node, Forest, ε, ◌⊳◌}
use Rattle.swc_ast.specs.Scope.{is_function}
use Rattle.swc_ast.specs.Value.{Value, Undefined}
use Rattle.static_proofs.proofs.Names.{same_name_path}
use Rattle.link_proofs.specs.Links.{Put, nothing, a_name, a_value, reads, PutTree, put_number, put_text, put_truth, put_null, put_void}
use Rattle.carry_rules.specs.Carry.{inlines, Facts, facts, starting, propagated, how_many, groups, Carried, carried, put_unless, or_put, read_put, first_put, may_settle, settling, enter, leave, behind, after, after_all, value_tree, rebuilt, written, written_all}
use Rattle.carry_rules.specs.Parted.{has_parts, is_parted, are_parted}
use Rattle.carry_rules.specs.Voids.{is_void, is_put, is_voided, is_voided_all, declares_set}
use Rattle.carry_rules.proofs.Sound.{nothing≢value}
use Rattle.carry_rules.proofs.Puts.{ReadView, is_read, is_type, is_shorthand, is_import, is_other, read_view}
use Rattle.carry_rules.proofs.Valued.{BothHave, enter_have, after_have, carried_has}
use Rattle.carry_rules.proofs.Top.{starts_valued}
use Rattle.carry_proofs.specs.Laws.{IsWhole, a_module, a_script}
use Rattle.carry_proofs.proofs.Unset.{valued_set}
use Rattle.carry_proofs.proofs.Undefined.{unless_defined, first_defined, undefined_was}

-- a value whose expression is `void 0` is undefined
void_is : {v : Value} {t : Tree} → PutTree v t → is_void t ≡ true → v ≡ Undefined
void_is (put_number z) e = absurd (false≢true e)
void_is (put_text t) e = absurd (false≢true e)
void_is (put_truth b) e = absurd (false≢true e)
void_is put_null e = absurd (false≢true e)
void_is (put_void z) e = refl

-- a node that reads no name by itself is not put
none_put : (x : Name) (l : Label) (ss : List Span) (us : Forest) → reads l ≡ None → is_put x l (node l ss us) ≡ false
none_put x (Read y) ss us e = absurd (cc)
none_put x (TypeOfName y) ss us e = absurd (cc)
none_put x (Shorthand y) ss us e = absurd (cc)
none_put x l ss us e = refl

module _ (F : Facts) where
  -- what is undefined is a name that is never set
  pub record Idle (s : Carried) : Type 0 where
    pub values : (y : Name) → s.values y ≡ a_value Undefined → F.unset y ≡ true
    pub settled : (y : Name) → s.settled y ≡ a_value Undefined → ⊥
    pub have : BothHave inlines F s

  abbrev Defined : Carried → Type 0
  Defined s = (y : Name) → s.settled y ≡ a_value Undefined → ⊥

  none_entered : (s : Carried) (l : Label) (ss : List Span) (cs : Forest) → Defined s → Defined (enter inlines F l ss cs s)
  none_entered s l ss cs h y e = by (is_function l) e
    where
      by : (b : Bool) → (if b then (λ (z : Name). nothing) else s.settled) y ≡ a_value Undefined → ⊥
      by true e = nothing≢value Undefined e
      by false e = h y e

  none_behind : (l : Label) (ss : List Span) (cs : Forest) (r : Carried) → Defined r → Defined (behind inlines F l ss cs r)
  none_behind (Declarator Var z) ss cs r h y e = by (same_name z y) e
    where
      q : Put
      q = settling inlines F r z ss cs

      or_none : (f : Put) → (f ≡ a_value Undefined → ⊥) → or_put f q ≡ a_value Undefined → ⊥
      or_none nothing g e = unless_defined (r.quiet || not (r.listed && may_settle inlines F inlines z)) (first_put inlines r ss cs) (first_defined inlines r ss cs) e
      or_none (a_name x) g e = g e
      or_none (a_value v) g e = g e

      by : (b : Bool) → (if b then or_put (r.settled y) q else r.settled y) ≡ a_value Undefined → ⊥
      by true e = or_none (r.settled y) (h y) e
      by false e = h y e
  none_behind (Declarator Let z) ss cs r h y e = h y e
  none_behind (Declarator Const z) ss cs r h y e = h y e
  none_behind l ss cs r h y e = h y e

  none_left : (l : Label) (s t : Carried) → Defined s → Defined t → Defined (leave inlines F l s t)
  none_left l s t h g y e = by (groups l && s.listed) e
    where
      by : (b : Bool) → (if b then t.settled else s.settled) y ≡ a_value Undefined → ⊥
      by true e = g y e
      by false e = h y e

  mutual
    none_after : (s : Carried) (t : Tree) → Defined s → Defined (after inlines F s t)
    none_after s (node l ss cs) h = none_behind l ss cs (leave inlines F l s (after_all inlines F (enter inlines F l ss cs s) cs)) (none_left l s (after_all inlines F (enter inlines F l ss cs s) cs) h (none_all_after (enter inlines F l ss cs s) cs (none_entered s l ss cs h)))

    none_all_after : (s : Carried) (ts : Forest) → Defined s → Defined (after_all inlines F s ts)
    none_all_after s ε h = h
    none_all_after s (t ⊳ ts) h = none_all_after (after inlines F s t) ts (none_after s t h)

  idle_entered : (s : Carried) (l : Label) (ss : List Span) (cs : Forest) → Idle s → Idle (enter inlines F l ss cs s)
  idle_entered s l ss cs h = record { values = h.values; settled = none_entered s l ss cs h.settled; have = enter_have inlines F l ss cs s h.have }

  idle_after : (s : Carried) (t : Tree) → Idle s → Idle (after inlines F s t)
  idle_after s t h = record { values = λ y e. h.values y (undefined_was inlines F y s t e); settled = none_after s t h.settled; have = after_have inlines F s t h.have }

  -- what is carried of a name is undefined only where it is never set
  carried_idle : (s : Carried) (y : Name) → Idle s → carried s y ≡ a_value Undefined → F.unset y ≡ true
  carried_idle s y h e = by s.quiet e
    where
      at : (f : Put) → s.values y ≡ f → or_put f (s.settled y) ≡ a_value Undefined → F.unset y ≡ true
      at nothing i e = absurd (h.settled y e)
      at (a_name x) i e = absurd (cc)
      at (a_value v) i e = h.values y (i ∙ e)

      by : (b : Bool) → put_unless b (or_put (s.values y) (s.settled y)) ≡ a_value Undefined → F.unset y ≡ true
      by true e = absurd (nothing≢value Undefined e)
      by false e = at (s.values y) refl e

  value_idle : (s : Carried) (y : Name) (v : Value) (ss : List Span) → Idle s → carried s y ≡ a_value v → is_void (value_tree v ss) ≡ true → F.unset y ≡ true
  value_idle s y v ss h i e = carried_idle s y h (i ∙ ap a_value (void_is (carried_has inlines F s h.have.0 h.have.1 y v i ss) e))

  -- reads that become `void 0`
  or_none : (b : Bool) → (b || false) ≡ true → b ≡ true
  or_none true e = refl
  or_none false e = e

  read_idle : (x : Name) (s : Carried) (y : Name) (ss : List Span) (us : Forest) (q : Put) → carried s y ≡ q → Idle s → is_put x (Read y) (rebuilt q (Read y) ss us) ≡ true → F.unset x ≡ true
  read_idle x s y ss us nothing i h e = absurd (false≢true (and_parts (same_name x y) false e).1)
  read_idle x s y ss us (a_name z) i h e = absurd (false≢true (and_parts (same_name x y) false e).1)
  read_idle x s y ss us (a_value v) i h e = let r = and_parts (same_name x y) (is_void (value_tree v ss)) e in ap F.unset (same_name_path x y r.0) ∙ value_idle s y v ss h i r.1

  type_idle : (x : Name) (s : Carried) (y : Name) (ss : List Span) (us : Forest) (q : Put) → carried s y ≡ q → Idle s → is_put x (TypeOfName y) (rebuilt q (TypeOfName y) ss us) ≡ true → F.unset x ≡ true
  type_idle x s y ss us nothing i h e = absurd (false≢true (and_parts (same_name x y) false e).1)
  type_idle x s y ss us (a_name z) i h e = absurd (false≢true (and_parts (same_name x y) false e).1)
  type_idle x s y ss us (a_value v) i h e = let r = and_parts (same_name x y) (is_void (value_tree v ss)) e in ap F.unset (same_name_path x y r.0) ∙ value_idle s y v ss h i r.1

  mutual
    pub voided_unset : (x : Name) (s : Carried) (t : Tree) → Idle s → is_parted t ≡ true → is_voided x t (written inlines F s t) ≡ true → F.unset x ≡ true
    voided_unset x s (node l ss cs) h w e = node_voided x s l ss cs (read_view l) h (and_parts (has_parts l cs) (are_parted cs) w) e (λ f. each_voided x (enter inlines F l ss cs s) cs (idle_entered s l ss cs h) (and_parts (has_parts l cs) (are_parted cs) w).1 f)

    node_voided : (x : Name) (s : Carried) (l : Label) (ss : List Span) (cs : Forest) → ReadView l → Idle s → (has_parts l cs ≡ true) × (are_parted cs ≡ true) → is_voided x (node l ss cs) (written inlines F s (node l ss cs)) ≡ true → (is_voided_all x cs (written_all inlines F (enter inlines F l ss cs s) cs) ≡ true → F.unset x ≡ true) → F.unset x ≡ true
    node_voided x s _ ss ε (is_read y) h w e f = read_idle x s y ss ε (carried s y) refl h (or_none (is_put x (Read y) (rebuilt (carried s y) (Read y) ss ε)) e)
    node_voided x s _ ss (t ⊳ ts) (is_read y) h w e f = absurd (false≢true w.0)
    node_voided x s _ ss ε (is_type y) h w e f = type_idle x s y ss ε (carried s y) refl h (or_none (is_put x (TypeOfName y) (rebuilt (carried s y) (TypeOfName y) ss ε)) e)
    node_voided x s _ ss (t ⊳ ts) (is_type y) h w e f = absurd (false≢true w.0)
    node_voided x s _ ss ε (is_shorthand y) h w e f = absurd (false≢true (and_parts (same_name x y) false (or_none (same_name x y && false) e)).1)
    node_voided x s _ ss (t ⊳ ts) (is_shorthand y) h w e f = absurd (false≢true w.0)
    node_voided x s _ ss cs (is_import src) h w e f = f e
    node_voided x s l ss cs (is_other o a r m) h w e f = by (read_put inlines s l) (o inlines s) e
      where
        by : (q : Put) → q ≡ nothing → is_voided x (node l ss cs) (rebuilt q l ss (written_all inlines F (enter inlines F l ss cs s) cs)) ≡ true → F.unset x ≡ true
        by nothing i e = f (subst (λ b. (b || is_voided_all x cs (written_all inlines F (enter inlines F l ss cs s) cs)) ≡ true) (none_put x l ss (written_all inlines F (enter inlines F l ss cs s) cs) r) e)
        by (a_name z) i e = absurd (cc)
        by (a_value v) i e = absurd (cc)

    each_voided : (x : Name) (s : Carried) (ts : Forest) → Idle s → are_parted ts ≡ true → is_voided_all x ts (written_all inlines F s ts) ≡ true → F.unset x ≡ true
    each_voided x s ε h w e = absurd (false≢true e)
    each_voided x s (t ⊳ ts) h w e =
        let q = and_parts (is_parted t) (are_parted ts) w in
        by (or_cases (is_voided x t (written inlines F s t)) (is_voided_all x ts (written_all inlines F (after inlines F s t) ts)) e) (λ f. voided_unset x s t h q.0 f) (λ f. each_voided x (after inlines F s t) ts (idle_after s t h) q.1 f)
      where
        by : (is_voided x t (written inlines F s t) ≡ true) ⊎ (is_voided_all x ts (written_all inlines F (after inlines F s t) ts) ≡ true) → (is_voided x t (written inlines F s t) ≡ true → F.unset x ≡ true) → (is_voided_all x ts (written_all inlines F (after inlines F s t) ts) ≡ true → F.unset x ≡ true) → F.unset x ≡ true
        by (inl e) f g = f e
        by (inr e) f g = g e

-- where the walk begins
starts : (F : Facts) → Idle F (starting inlines F)
starts F = record { values = λ y e. at (F.unset y) e; settled = λ y e. nothing≢value Undefined e; have = (λ y v e. starts_valued inlines F y v e, λ y v e. absurd (nothing≢value v e)) }
  where
    at : (b : Bool) → (if b then a_value Undefined else nothing) ≡ a_value Undefined → b ≡ true
    at true e = refl
    at false e = absurd (nothing≢value Undefined e)

pub propagated_voids : (t : Tree) → IsWhole t → (x : Name) → is_voided x t (propagated inlines t) ≡ true → how_many (declares_set x) t ≡ 0
propagated_voids t w x e = none (how_many (declares_set x) t) refl
  where
    parted_of : {t : Tree} → IsWhole t → is_parted t ≡ true
    parted_of (a_module s w) = w.parted
    parted_of (a_script s w) = w.parted

    unset : (facts t).unset x ≡ true
    unset = voided_unset (facts t) x (starting inlines (facts t)) t (starts (facts t)) (parted_of w) e

    none : (n : ℕ) → how_many (declares_set x) t ≡ n → n ≡ 0
    none zero i = refl
    none (suc n) i = absurd (true≢false (sym unset ∙ valued_set t x (omega (arith, i))))
