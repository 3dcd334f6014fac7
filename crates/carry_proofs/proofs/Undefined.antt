-- What is carried of a name that is never set is undefined from the start, and of no other name.
use Rattle.std.proofs.Common.{◌≡◌, Some, Bool, true, false, not, ◌&&◌, ◌||◌, List, refl, ap, ap₂, ◌∙◌, if◌then◌else◌}
use Rattle.swc_ast.specs.declared.Span.{Span}
use Rattle.swc_ast.specs.declared.VarDeclKind.TheVariants.{Var, Let, Const}
use Rattle.swc_ast.specs.Tree.{Name, same_name, Label, NumLit, StrLit, BoolLit, NullLit, Declarator, Tree, node, Forest, ε, ◌⊳◌}
use Rattle.swc_ast.specs.Value.{Value, Undefined}
use Rattle.static_proofs.proofs.Names.{same_name_path}
use Rattle.link_proofs.specs.Links.{Put, nothing, a_name, a_value, literal_value}
use Rattle.carry_rules.specs.Carry.{Pass, Facts, Carried, put_unless, or_put, with_put, first_put, may_carry, may_settle, entry, settling, enter, leave, behind, after, after_all}
use Rattle.carry_rules.proofs.Sound.{Last}
use Rattle.carry_rules.proofs.Sources.{From, from_nothing, from_itself, from_name, from_literal, from_value, first_from, unless_value}
use Rattle.carry_rules.proofs.Settling.{settled_own, settled_in, settled_in_all}
use Rattle.carry_rules.proofs.Agreeing.{Bare, all_bare, each_bare}

-- no first value is undefined

pub unless_defined : (b : Bool) (q : Put) → (q ≡ a_value Undefined → ⊥) → put_unless b q ≡ a_value Undefined → ⊥
unless_defined b q f e = f (unless_value b q Undefined e)

literal_defined : (l : Label) (v : Value) → literal_value l ≡ Some v → v ≡ Undefined → ⊥
literal_defined (NumLit z) v e i = cc
literal_defined (StrLit t) v e i = cc
literal_defined (BoolLit b) v e i = cc
literal_defined NullLit v e i = cc
literal_defined l v e i = cc

value_same : {u v : Value} → a_value u ≡ a_value v → u ≡ v
value_same e = cc

defined_from : {r : Carried} {cs : Forest} {q : Put} → From r cs q → q ≡ a_value Undefined → ⊥
defined_from from_nothing e = cc
defined_from (from_itself x rs i c w n) e = cc
defined_from (from_name a x c w) e = cc
defined_from (from_literal l rs v i w) e = literal_defined l v w (value_same e)
defined_from (from_value a v c d) e = d (value_same e)

pub first_defined : (p : Pass) (r : Carried) (ss : List Span) (cs : Forest) → first_put p r ss cs ≡ a_value Undefined → ⊥
first_defined p r ss cs = defined_from (first_from p r ss cs)

module _ (p : Pass) (F : Facts) (x : Name) where
  put_was : (f : Name → Put) (y : Name) (q : Put) → (q ≡ a_value Undefined → ⊥) → with_put y q f x ≡ a_value Undefined → f x ≡ a_value Undefined
  put_was f y q n e = by (same_name y x) (f x) e
    where
      by : (b : Bool) (g : Put) → (if b then or_put g q else g) ≡ a_value Undefined → g ≡ a_value Undefined
      by false g e = e
      by true nothing e = absurd (n e)
      by true (a_name z) e = e
      by true (a_value v) e = e

  behind_was : (l : Label) (ss : List Span) (cs : Forest) (r : Carried) → (behind p F l ss cs r).values x ≡ a_value Undefined → r.values x ≡ a_value Undefined
  behind_was (Declarator Var y) ss cs r e = e
  behind_was (Declarator Let y) ss cs r e = put_was r.values y (entry p F r y ss cs) (unless_defined (r.quiet || not (may_carry p F y)) (first_put p r ss cs) (first_defined p r ss cs)) e
  behind_was (Declarator Const y) ss cs r e = put_was r.values y (entry p F r y ss cs) (unless_defined (r.quiet || not (may_carry p F y)) (first_put p r ss cs) (first_defined p r ss cs)) e
  behind_was l ss cs r e = e

  mutual
    -- what is undefined was so
    pub undefined_was : (s : Carried) (t : Tree) → (after p F s t).values x ≡ a_value Undefined → s.values x ≡ a_value Undefined
    undefined_was s (node l ss cs) e = all_was (enter p F l ss cs s) cs (behind_was l ss cs (leave p F l s (after_all p F (enter p F l ss cs s) cs)) e)

    all_was : (s : Carried) (ts : Forest) → (after_all p F s ts).values x ≡ a_value Undefined → s.values x ≡ a_value Undefined
    all_was s ε e = e
    all_was s (t ⊳ ts) e = undefined_was s t (all_was (after p F s t) ts e)

-- along lists nothing is carried of it
module _ (p : Pass) (F : Facts) (E : Last) (x : Name) (idle : E.idle x ≡ true) where
  none_settles : (r : Carried) (y : Name) (ss : List Span) (cs : Forest) → cs ≡ ε → settling p F r y ss cs ≡ nothing
  none_settles r y ss cs e = ap (settling p F r y ss) e ∙ none (r.quiet || not (r.listed && may_settle p F p y))
    where
      none : (b : Bool) → put_unless b nothing ≡ nothing
      none true = refl
      none false = refl

  own_unsettled : (r : Carried) (l : Label) (ss : List Span) (cs : Forest) → Bare E l cs → settled_own p F r l ss cs x ≡ nothing
  own_unsettled r (Declarator Var y) ss cs b = by (same_name y x) refl
    where
      by : (c : Bool) → same_name y x ≡ c → (if c then settling p F r y ss cs else nothing) ≡ nothing
      by true i = none_settles r y ss cs (b (ap E.idle (same_name_path y x i) ∙ idle))
      by false i = refl
  own_unsettled r (Declarator Let y) ss cs b = refl
  own_unsettled r (Declarator Const y) ss cs b = refl
  own_unsettled r l ss cs b = refl

  mutual
    pub idle_unsettled : (s : Carried) (t : Tree) → all_bare E t → settled_in p F s t x ≡ nothing
    idle_unsettled s (node l ss cs) b = ap₂ or_put (each_unsettled (enter p F l ss cs s) cs b.1) (own_unsettled (leave p F l s (after_all p F (enter p F l ss cs s) cs)) l ss cs b.0)

    each_unsettled : (s : Carried) (ts : Forest) → each_bare E ts → settled_in_all p F s ts x ≡ nothing
    each_unsettled s ε b = refl
    each_unsettled s (t ⊳ ts) b = ap₂ or_put (idle_unsettled s t b.0) (each_unsettled (after p F s t) ts b.1)
