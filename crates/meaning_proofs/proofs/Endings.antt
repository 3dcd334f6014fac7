-- Related runs show the same.
use Rattle.std.proofs.Common.{◌≡◌, Bool, true, false, List, [], ◌∷◌, refl, sym, ap, ◌∙◌}
use Rattle.swc_ast.specs.Tree.{Text}
use Rattle.swc_ast.specs.Value.{Value, Event, Load, Reads, TypeOf, Writes, Gets, Sets, Calls, Makes, Returns, Fails, Outcome}
use Rattle.swc_ast.specs.Run.{Ending, Threw, Observation, Observed, Sees, LeftCore, Unfinished, threw, ends, without_loads, counted}
use Rattle.meaning_proofs.specs.Sameness.{counting, counted_but, ignoring}
use Rattle.meaning_proofs.proofs.Relation.{Pairing, broken, continued, returned, thrown, Sim, done, jump, outside, cut}
use Rattle.meaning_proofs.proofs.Combine.{Eq}
use Rattle.meaning_proofs.proofs.Stores.{hand_sim}

-- where the first is seen, so is the second, and the same
pub data Follows (ignores : Text → Bool) : Observed → Observed → Type 0 where
  sees : {o p : Observation} → counted_but ignores p ≡ counted_but ignores o → Follows ignores (Sees o) (Sees p)
  left_core : (q : Observed) → Follows ignores LeftCore q
  unfinished : (q : Observed) → Follows ignores Unfinished q

pub seen_of : (ignores : Text → Bool) (o : Observation) (q : Observed) → Follows ignores (Sees o) q → (p : Observation) × (q ≡ Sees p) × (counted_but ignores p ≡ counted_but ignores o)
seen_of ignores o q (sees {p = p} e) = (p, refl, e)

counted_same : (ignores : Text → Bool) (es fs : List Event) (a b : Ending) → counting ignores es ≡ counting ignores fs → a ≡ b → counted_but ignores (record { events = fs; ending = b }) ≡ counted_but ignores (record { events = es; ending = a })
counted_same ignores es fs a b e d = λ i. record { events = sym e i; ending = sym d i }

-- all loads count, or none

counting_all : (es : List Event) → counting (ignoring true) es ≡ es
counting_all [] = refl
counting_all (Load t ∷ es) = ap (λ es. Load t ∷ es) (counting_all es)
counting_all (Reads t ∷ es) = ap (λ es. Reads t ∷ es) (counting_all es)
counting_all (TypeOf t ∷ es) = ap (λ es. TypeOf t ∷ es) (counting_all es)
counting_all (Writes t v ∷ es) = ap (λ es. Writes t v ∷ es) (counting_all es)
counting_all (Gets v t ∷ es) = ap (λ es. Gets v t ∷ es) (counting_all es)
counting_all (Sets v t w ∷ es) = ap (λ es. Sets v t w ∷ es) (counting_all es)
counting_all (Calls f t vs ∷ es) = ap (λ es. Calls f t vs ∷ es) (counting_all es)
counting_all (Makes f vs ∷ es) = ap (λ es. Makes f vs ∷ es) (counting_all es)
counting_all (Returns v ∷ es) = ap (λ es. Returns v ∷ es) (counting_all es)
counting_all (Fails v ∷ es) = ap (λ es. Fails v ∷ es) (counting_all es)

counting_none : (es : List Event) → counting (ignoring false) es ≡ without_loads es
counting_none [] = refl
counting_none (Load t ∷ es) = counting_none es
counting_none (Reads t ∷ es) = ap (λ es. Reads t ∷ es) (counting_none es)
counting_none (TypeOf t ∷ es) = ap (λ es. TypeOf t ∷ es) (counting_none es)
counting_none (Writes t v ∷ es) = ap (λ es. Writes t v ∷ es) (counting_none es)
counting_none (Gets v t ∷ es) = ap (λ es. Gets v t ∷ es) (counting_none es)
counting_none (Sets v t w ∷ es) = ap (λ es. Sets v t w ∷ es) (counting_none es)
counting_none (Calls f t vs ∷ es) = ap (λ es. Calls f t vs ∷ es) (counting_none es)
counting_none (Makes f vs ∷ es) = ap (λ es. Makes f vs ∷ es) (counting_none es)
counting_none (Returns v ∷ es) = ap (λ es. Returns v ∷ es) (counting_none es)
counting_none (Fails v ∷ es) = ap (λ es. Fails v ∷ es) (counting_none es)

counted_is : (loads : Bool) (o : Observation) → counted_but (ignoring loads) o ≡ counted loads o
counted_is true o = λ i. record { events = counting_all o.events i; ending = o.ending }
counted_is false o = λ i. record { events = counting_none o.events i; ending = o.ending }

pub as_counted : (loads : Bool) (p o : Observation) → counted_but (ignoring loads) p ≡ counted_but (ignoring loads) o → counted loads p ≡ counted loads o
as_counted loads p o e = sym (counted_is loads p) ∙ e ∙ counted_is loads o

module _ {P : Pairing} where
  threw_sim : {o p : Outcome Value} → Sim P Eq o p → Follows P.ignores (threw o) (threw p)
  threw_sim (done {a} {b} {s} {t} e h) = sees (counted_same P.ignores s.events t.events (Threw a) (Threw b) h.events (ap Threw e))
  threw_sim (jump r h) = left_core _
  threw_sim (outside o) = left_core _
  threw_sim (cut o) = left_core _

  pub ends_sim : {o p : Outcome Ending} → Sim P Eq o p → Follows P.ignores (ends o) (ends p)
  ends_sim (done {a} {b} {s} {t} e h) = sees (counted_same P.ignores s.events t.events a b h.events e)
  ends_sim (jump {s = s} {t} (thrown r) h) = threw_sim (hand_sim r s t h)
  ends_sim (jump (broken l) h) = left_core _
  ends_sim (jump (continued l) h) = left_core _
  ends_sim (jump (returned r) h) = left_core _
  ends_sim (outside o) = left_core _
  ends_sim (cut o) = unfinished _
