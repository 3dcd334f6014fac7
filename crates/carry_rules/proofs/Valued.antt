-- A value that is carried is one that a literal has.
use Rattle.std.proofs.Common.{◌≡◌, Bool, true, false, not, ◌&&◌, ◌||◌, List, Some, None, subst, if◌then◌else◌}
use Rattle.swc_ast.specs.declared.Span.{Span}
use Rattle.swc_ast.specs.declared.VarDeclKind.TheVariants.{Var, Let, Const}
use Rattle.swc_ast.specs.Tree.{Name, same_name, Label, NumLit, StrLit, BoolLit, NullLit, Declarator, Tree, node, Forest, ε, ◌⊳◌}
use Rattle.swc_ast.specs.Scope.{is_function}
use Rattle.swc_ast.specs.Value.{Value}
use Rattle.link_proofs.specs.Links.{Put, nothing, a_name, a_value, literal_value, PutTree, put_number, put_text, put_truth, put_null}
use Rattle.carry_rules.specs.Carry.{Pass, Facts, Carried, carried, or_put, with_put, first_put, groups, may_carry, may_settle, entry, settling, enter, leave, behind, after, after_all, value_tree}
use Rattle.carry_rules.proofs.Sound.{Last, nothing≢value}
use Rattle.carry_rules.proofs.Sources.{From, from_nothing, from_itself, from_name, from_literal, from_value, first_from, unless_value}
use Rattle.carry_rules.proofs.Settling.{settled_own, settled_in, settled_in_all}

abbrev pub Has : Value → Type 0
Has v = (ss : List Span) → PutTree v (value_tree v ss)

some_same : {u v : Value} → Some u ≡ Some v → u ≡ v
some_same e = cc

none_some : {v : Value} → None ≡ Some v → ⊥
none_some e = cc

literal_has : (l : Label) (v : Value) → literal_value l ≡ Some v → Has v
literal_has (NumLit z) v e = subst Has (some_same e) (λ ss. put_number z)
literal_has (StrLit t) v e = subst Has (some_same e) (λ ss. put_text t)
literal_has (BoolLit b) v e = subst Has (some_same e) (λ ss. put_truth b)
literal_has NullLit v e = subst Has (some_same e) (λ ss. put_null)
literal_has l v e = absurd (none_some e)

-- what is carried of a first value
abbrev Having : Put → Type 0
Having nothing = Unit {0}
Having (a_name x) = Unit {0}
Having (a_value v) = Has v

having_from : {r : Carried} {cs : Forest} {q : Put} → ((a : Name) (u : Value) → carried r a ≡ a_value u → Has u) → From r cs q → Having q
having_from h from_nothing = tt
having_from h (from_itself x rs i c e n) = tt
having_from h (from_name a x c e) = tt
having_from h (from_literal l rs v i e) = literal_has l v e
having_from h (from_value a v c d) = h a v c

first_has : (p : Pass) (r : Carried) (ss : List Span) (cs : Forest) (v : Value) → ((a : Name) (u : Value) → carried r a ≡ a_value u → Has u) → first_put p r ss cs ≡ a_value v → Has v
first_has p r ss cs v h e = subst Having e (having_from h (first_from p r ss cs))

module _ (p : Pass) (F : Facts) where
  -- what is carried of names, and of variables
  abbrev pub AllHave : (Name → Put) → Type 0
  AllHave f = (y : Name) (v : Value) → f y ≡ a_value v → Has v

  or_has : (q r : Put) (v : Value) → (q ≡ a_value v → Has v) → (r ≡ a_value v → Has v) → or_put q r ≡ a_value v → Has v
  or_has nothing r v g h e = h e
  or_has (a_name x) r v g h e = g e
  or_has (a_value w) r v g h e = g e

  pub carried_has : (r : Carried) → AllHave r.values → AllHave r.settled → (a : Name) (u : Value) → carried r a ≡ a_value u → Has u
  carried_has r h g a u e = or_has (r.values a) (r.settled a) u (h a u) (g a u) (unless_value r.quiet (or_put (r.values a) (r.settled a)) u e)

  put_all_have : (y : Name) (q : Put) (f : Name → Put) → AllHave f → ((v : Value) → q ≡ a_value v → Has v) → AllHave (with_put y q f)
  put_all_have y q f h g x v e = by (same_name y x) e
    where
      by : (b : Bool) → (if b then or_put (f x) q else f x) ≡ a_value v → Has v
      by false e = h x v e
      by true e = or_has (f x) q v (h x v) (g v) e

  pub settling_has : (r : Carried) (y : Name) (ss : List Span) (cs : Forest) → AllHave r.values → AllHave r.settled → (v : Value) → settling p F r y ss cs ≡ a_value v → Has v
  settling_has r y ss cs h g v e = first_has p r ss cs v (carried_has r h g) (unless_value (r.quiet || not (r.listed && may_settle p F p y)) (first_put p r ss cs) v e)

  entry_has : (r : Carried) (y : Name) (ss : List Span) (cs : Forest) → AllHave r.values → AllHave r.settled → (v : Value) → entry p F r y ss cs ≡ a_value v → Has v
  entry_has r y ss cs h g v e = first_has p r ss cs v (carried_has r h g) (unless_value (r.quiet || not (may_carry p F y)) (first_put p r ss cs) v e)

  abbrev pub BothHave : Carried → Type 0
  BothHave s = AllHave s.values × AllHave s.settled

  behind_have : (l : Label) (ss : List Span) (cs : Forest) (r : Carried) → BothHave r → BothHave (behind p F l ss cs r)
  behind_have (Declarator Var y) ss cs r h = (h.0, put_all_have y (settling p F r y ss cs) r.settled h.1 (λ v e. settling_has r y ss cs h.0 h.1 v e))
  behind_have (Declarator Let y) ss cs r h = (put_all_have y (entry p F r y ss cs) r.values h.0 (λ v e. entry_has r y ss cs h.0 h.1 v e), h.1)
  behind_have (Declarator Const y) ss cs r h = (put_all_have y (entry p F r y ss cs) r.values h.0 (λ v e. entry_has r y ss cs h.0 h.1 v e), h.1)
  behind_have l ss cs r h = h

  pub enter_have : (l : Label) (ss : List Span) (cs : Forest) (s : Carried) → BothHave s → BothHave (enter p F l ss cs s)
  enter_have l ss cs s h = (h.0, λ y v e. by (is_function l) y v e)
    where
      by : (b : Bool) (y : Name) (v : Value) → (if b then (λ (z : Name). nothing) else s.settled) y ≡ a_value v → Has v
      by true y v e = absurd (nothing≢value v e)
      by false y v e = h.1 y v e

  pub leave_have : (l : Label) (s t : Carried) → BothHave s → BothHave t → BothHave (leave p F l s t)
  leave_have l s t h g = (g.0, λ y v e. by (groups l && s.listed) y v e)
    where
      by : (b : Bool) (y : Name) (v : Value) → (if b then t.settled else s.settled) y ≡ a_value v → Has v
      by true y v e = g.1 y v e
      by false y v e = h.1 y v e

  mutual
    pub after_have : (s : Carried) (t : Tree) → BothHave s → BothHave (after p F s t)
    after_have s (node l ss cs) h = behind_have l ss cs (leave p F l s (after_all p F (enter p F l ss cs s) cs)) (leave_have l s (after_all p F (enter p F l ss cs s) cs) h (after_all_have (enter p F l ss cs s) cs (enter_have l ss cs s h)))

    pub after_all_have : (s : Carried) (ts : Forest) → BothHave s → BothHave (after_all p F s ts)
    after_all_have s ε h = h
    after_all_have s (t ⊳ ts) h = after_all_have (after p F s t) ts (after_have s t h)

  -- and of what settles
  own_settled_has : (l : Label) (ss : List Span) (cs : Forest) (r : Carried) → BothHave r → AllHave (settled_own p F r l ss cs)
  own_settled_has (Declarator Var y) ss cs r h x v e = by (same_name y x) e
    where
      by : (b : Bool) → (if b then settling p F r y ss cs else nothing) ≡ a_value v → Has v
      by true e = settling_has r y ss cs h.0 h.1 v e
      by false e = absurd (nothing≢value v e)
  own_settled_has (Declarator Let y) ss cs r h x v e = absurd (nothing≢value v e)
  own_settled_has (Declarator Const y) ss cs r h x v e = absurd (nothing≢value v e)
  own_settled_has l ss cs r h x v e = absurd (nothing≢value v e)

  mutual
    pub settled_have : (s : Carried) (t : Tree) → BothHave s → AllHave (settled_in p F s t)
    settled_have s (node l ss cs) h x v e =
        or_has (settled_in_all p F (enter p F l ss cs s) cs x) (settled_own p F (leave p F l s (after_all p F (enter p F l ss cs s) cs)) l ss cs x) v (settled_all_have (enter p F l ss cs s) cs (enter_have l ss cs s h) x v)
        (own_settled_has l ss cs (leave p F l s (after_all p F (enter p F l ss cs s) cs)) (leave_have l s (after_all p F (enter p F l ss cs s) cs) h (after_all_have (enter p F l ss cs s) cs (enter_have l ss cs s h))) x v) e

    settled_all_have : (s : Carried) (ts : Forest) → BothHave s → AllHave (settled_in_all p F s ts)
    settled_all_have s ε h x v e = absurd (nothing≢value v e)
    settled_all_have s (t ⊳ ts) h x v e = or_has (settled_in p F s t x) (settled_in_all p F (after p F s t) ts x) v (settled_have s t h x v) (settled_all_have (after p F s t) ts (after_have s t h) x v) e

  pub both_has : (E : Last) → AllHave E.values → AllHave E.settled → (y : Name) (v : Value) → or_put (E.values y) (E.settled y) ≡ a_value v → Has v
  both_has E h g y v e = or_has (E.values y) (E.settled y) v (h y v) (g y v) e
