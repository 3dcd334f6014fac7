-- Where what is carried of a first value comes from.
use Rattle.std.proofs.Common.{◌≡◌, Bool, true, false, not, ◌&&◌, ◌||◌, List, Option, Some, None, refl}
use Rattle.std.proofs.lemmas.Bool.{and_parts}
use Rattle.swc_ast.specs.declared.Span.{Span}
use Rattle.swc_ast.specs.Tree.{Name, Label, StrLit, Read, node, Forest, ε, ◌⊳◌}
use Rattle.swc_ast.specs.Value.{Value, Undefined}
use Rattle.swc_ast.specs.Expressions.{is_eval}
use Rattle.link_proofs.specs.Links.{Put, nothing, a_name, a_value, literal_value, put_known}
use Rattle.carry_rules.specs.Carry.{Pass, constants, inlines, Carried, carried, put_unless, passed_on, literal_put, name_put, first_put, second_nowhere, is_nowhere}
use Rattle.carry_rules.proofs.Sound.{nothing≢name, nothing≢value}

-- a name that is not `eval` is read itself, or it is carried of what is read; a value is that of a literal, or it is carried, and defined
pub data From (r : Carried) (cs : Forest) : Put → Type 0 where
  from_nothing : From r cs nothing
  from_itself : (x : Name) (rs : List Span) → cs ≡ node (Read x) rs ε ⊳ ε → carried r x ≡ nothing → r.ready x ≡ true → is_eval x ≡ false → From r cs (a_name x)
  from_name : (a x : Name) → carried r a ≡ a_name x → r.ready x ≡ true → From r cs (a_name x)
  from_literal : (l : Label) (rs : List Span) (v : Value) → cs ≡ node l rs ε ⊳ ε → literal_value l ≡ Some v → From r cs (a_value v)
  from_value : (a : Name) (v : Value) → carried r a ≡ a_value v → (v ≡ Undefined → ⊥) → From r cs (a_value v)

module _ (r : Carried) (rs : List Span) where
  itself_from : (a : Name) (e b : Bool) → is_eval a ≡ e → carried r a ≡ nothing → (b ≡ true → r.ready a ≡ true) → From r (node (Read a) rs ε ⊳ ε) (put_unless (e || not b) (a_name a))
  itself_from a true b i c f = from_nothing
  itself_from a false true i c f = from_itself a rs refl c (f refl) i
  itself_from a false false i c f = from_nothing

  read_from : (p : Pass) (d : Bool) (a : Name) → carried r a ≡ nothing → From r (node (Read a) rs ε ⊳ ε) (name_put p r d a)
  read_from constants d a c = itself_from a (is_eval a) (r.ready a && d) refl c (λ e. (and_parts (r.ready a) d e).0)
  read_from inlines d a c = itself_from a (is_eval a) (r.ready a) refl c (λ e. e)

  name_from : (a z : Name) → carried r a ≡ a_name z → From r (node (Read a) rs ε ⊳ ε) (put_unless (not (r.ready z)) (a_name z))
  name_from a z c = by (r.ready z) refl
    where
      by : (b : Bool) → r.ready z ≡ b → From r (node (Read a) rs ε ⊳ ε) (put_unless (not b) (a_name z))
      by true e = from_name a z c e
      by false e = from_nothing

  value_from : (a : Name) (v : Value) (q : Put) → carried r a ≡ a_value v → From r (node (Read a) rs ε ⊳ ε) (passed_on r (a_value v) q)
  value_from a Undefined q c = from_nothing
  value_from a v q c = from_value a v c (λ e. cc)

  passed_from : (p : Pass) (d : Bool) (a : Name) (w : Put) → carried r a ≡ w → From r (node (Read a) rs ε ⊳ ε) (passed_on r w (name_put p r d a))
  passed_from p d a nothing c = read_from p d a c
  passed_from p d a (a_name z) c = name_from a z c
  passed_from p d a (a_value v) c = value_from a v (name_put p r d a) c

  known_from : (l : Label) (o : Option Value) → literal_value l ≡ o → From r (node l rs ε ⊳ ε) (put_known o nothing)
  known_from l None e = from_nothing
  known_from l (Some v) e = from_literal l rs v refl e

  literal_from : (p : Pass) (l : Label) → From r (node l rs ε ⊳ ε) (literal_put p l)
  literal_from constants (StrLit t) = from_nothing
  literal_from p l = known_from l (literal_value l) refl

pub first_from : (p : Pass) (r : Carried) (ss : List Span) (cs : Forest) → From r cs (first_put p r ss cs)
first_from p r ss ε = from_nothing
first_from p r ss (node (Read a) rs ε ⊳ ε) = passed_from r rs p (second_nowhere ss || (r.dummy || is_nowhere rs)) a (carried r a) refl
first_from p r ss (node l rs (t ⊳ ts) ⊳ us) = more l
  where
    more : (l : Label) → From r (node l rs (t ⊳ ts) ⊳ us) (first_put p r ss (node l rs (t ⊳ ts) ⊳ us))
    more (Read a) = from_nothing
    more l = from_nothing
first_from p r ss (node l rs ε ⊳ t ⊳ ts) = more l
  where
    more : (l : Label) → From r (node l rs ε ⊳ t ⊳ ts) (first_put p r ss (node l rs ε ⊳ t ⊳ ts))
    more (Read a) = from_nothing
    more l = from_nothing
first_from p r ss (node l rs ε ⊳ ε) = literal_from r rs p l

pub unless_name : (b : Bool) (q : Put) (x : Name) → put_unless b q ≡ a_name x → (b ≡ false) × (q ≡ a_name x)
unless_name true q x e = absurd (nothing≢name x e)
unless_name false q x e = (refl, e)

pub unless_value : (b : Bool) (q : Put) (v : Value) → put_unless b q ≡ a_value v → q ≡ a_value v
unless_value true q v e = absurd (nothing≢value v e)
unless_value false q v e = e
