-- Tables in which nothing is carried, and facts of a whole tree.
use Rattle.std.proofs.Common.{◌≡◌, ℕ, ◌<◌, ◌≤◌, true, false, List, [], ◌∷◌, ◌++◌, length, slice_get, position, Option, Some, None, Result, Ok, Err, IfOk, refl, sym, ap, ◌∙◌, arith}
use Rattle.std.proofs.lemmas.Option.{same_Some}
use Rattle.std.specs.Prelude.{is_some, option_map, option_and_then, map}
use Rattle.swc_ast.specs.Tree.{Name, same_name, Tree}
use Rattle.link_proofs.specs.Links.{nothing}
use Rattle.carry_rules.specs.Carry as carry
use Rattle.carry_rules.specs.Carry.{Facts, facts, or_put, starting, after}
use Rattle.carry_parts.specs.Carries.{pass_of, puts_of}
use Rattle.carry_parts.specs.Reads.{reads}
use Rattle.carry_parts.specs.declared.carry.Carry.{Carry}
use Rattle.carry_tables.specs.Tables.{at, item_of}
use Rattle.carry_vars.specs.Facts.{Tells as TellsFacts}
use Rattle.carry_vars.specs.declared.vars.Vars.{Vars}
use Rattle.carry_reads.specs.declared.place.Place.{Place}
use Rattle.carry_reads.specs.declared.reader.Reader.{Reader}
use Rattle.carry_reads.specs.declared.reading.Reading.{Reading}
use Rattle.carry_reads.specs.declared.tables.Tables.{Tables}
use Rattle.carry_reads.specs.Fronts.{is_set}
use Rattle.carry_reads.specs.Settles.{numbered}
use Rattle.carry_reads.specs.States.{facts_of, state_of, Fits, IsNew}
use Rattle.carry_reads.specs.Walks.{Walks}
use Rattle.carry_reads.specs.Readings.{Tells}
use Rattle.carry_reads.proofs.Settling.{or_nothing}
use Rattle.carry_reads.proofs.Stating.{same_state}

-- a name of a table has a number
numbered_name : (v : Vars) (x : Name) → is_some (at v.table x) ≡ true → is_some (position (same_name x) v.table.names.now) ≡ true
numbered_name v x = by (position (same_name x) v.table.names.now)
  where
    by : (o : Option ℕ) → is_some (option_and_then (slice_get v.table.items.items) o) ≡ true → is_some o ≡ true
    by None e = e
    by (Some n) e = refl

alike : {A : Type 0} (o : Option ℕ) (w : A) → is_some (option_map (λ n. w) o) ≡ is_some o
alike None w = refl
alike (Some n) w = refl

pub new_fits : (v : Vars) (ns : List Name) (u : Tables) → ns ≡ v.table.names.now → IsNew ns u → Fits v u
new_fits v ns u is new = record {
  values = λ x e. ap is_some (new.values x) ∙ alike (position (same_name x) ns) None ∙ there x e;
  settled = λ x e. ap is_some (new.numbers x) ∙ alike (position (same_name x) ns) 0 ∙ there x e;
  ready = λ x e. ap is_some (new.ready x) ∙ alike (position (same_name x) ns) 0 ∙ there x e;
  within = λ x n e. within (position (same_name x) ns) n (sym (new.numbers x) ∙ e);
}
  where
    there : (x : Name) → is_some (at v.table x) ≡ true → is_some (position (same_name x) ns) ≡ true
    there x e = ap (λ ms. is_some (position (same_name x) ms)) is ∙ numbered_name v x e

    within : (o : Option ℕ) (n : ℕ) → option_map (λ m. 0) o ≡ Some n → n < length u.settled.carries.items
    within None n e = absurd (cc)
    within (Some m) n e = omega (arith, same_Some 0 n e, ap length new.carries)

abbrev top : Place
top = record { base = 0; dummy = false; listed = false; quiet = false }

start_settled : (p : carry.Pass) (F : Facts) (x : Name) → (starting p F).settled x ≡ nothing
start_settled carry.constants F x = refl
start_settled carry.inlines F x = refl

start_ready : (p : carry.Pass) (F : Facts) (x : Name) → (starting p F).ready x ≡ false
start_ready carry.constants F x = refl
start_ready carry.inlines F x = refl

start_flags : (p : carry.Pass) (F : Facts) → ((starting p F).dummy ≡ false) × ((starting p F).listed ≡ false) × ((starting p F).quiet ≡ false)
start_flags carry.constants F = (refl, refl, refl)
start_flags carry.inlines F = (refl, refl, refl)

pub new_state : (r : Reader) (q : Place) (ns : List Name) (u : Tables) → q ≡ top → IsNew ns u → state_of r u q ≡ starting (pass_of r.pass) (facts_of r.vars)
new_state r q ns u at_top new = ap (state_of r u) at_top ∙ same_state (state_of r u top) (starting p F)
    (λ x. ap (or_put ((starting p F).values x)) (ap (λ o. puts_of (option_and_then (λ q. q) o)) (new.values x) ∙ none (position (same_name x) ns)) ∙ or_nothing ((starting p F).values x))
    (λ x. ap (λ cs. numbered cs 0 (item_of u.settled.numbers x)) new.carries ∙ ap (numbered (None ∷ []) 0) (new.numbers x) ∙ unsettled (position (same_name x) ns) ∙ sym (start_settled p F x))
    (λ x. ap is_set (new.ready x) ∙ unready (position (same_name x) ns) ∙ sym (start_ready p F x))
    (sym (start_flags p F).0) (sym (start_flags p F).1) (sym (start_flags p F).2)
  where
    p : carry.Pass
    p = pass_of r.pass

    F : Facts
    F = facts_of r.vars

    no_carry : Option Carry
    no_carry = None

    none : (o : Option ℕ) → puts_of (option_and_then (λ q. q) (option_map (λ n. no_carry) o)) ≡ nothing
    none None = refl
    none (Some n) = refl

    unsettled : (o : Option ℕ) → numbered (None ∷ []) 0 (option_map (λ n. 0) o) ≡ nothing
    unsettled None = refl
    unsettled (Some n) = refl

    unready : (o : Option ℕ) → is_set (option_map (λ n. 0) o) ≡ false
    unready None = refl
    unready (Some n) = refl

-- what is told of names is what the tree says
facts_same : (v : Vars) (t : Tree) → TellsFacts v t → facts_of v ≡ facts t
facts_same v t h = λ i. record { steady = λ x. h.steady x i; constant = λ x. h.constant x i; variable = λ x. h.variable x i; unset = λ x. h.unset x i }

pub told_of : (k : Reading) (q : Place) (u : Tables) (xs : List (Option Carry)) (t : Tree) → TellsFacts k.reader.vars t → state_of k.reader u q ≡ starting (pass_of k.reader.pass) (facts_of k.reader.vars) → xs ≡ [] → Walks k.reader q u k.tables (map puts_of xs) (map puts_of k.reads.items) t
    → Tells (pass_of k.reader.pass) k t
told_of k q u xs t h begins none w = record {
  reads = w.reads
      ∙ ap (λ ys. map puts_of ys ++ reads p F (state_of k.reader u q) t) none
      ∙ ap (λ s. reads p F s t) begins
      ∙ ap (λ G. reads p G (starting p G) t) (facts_same k.reader.vars t h);
  values = λ x. ap (λ s. s.values x) (w.steps.state ∙ ap (λ s. after p F s t) begins ∙ ap (λ G. after p G (starting p G) t) (facts_same k.reader.vars t h));
}
  where
    p : carry.Pass
    p = pass_of k.reader.pass

    F : Facts
    F = facts_of k.reader.vars

pub top_room : (q : Place) (n : ℕ) → q ≡ top → q.base ≤ n
top_room q n is = omega (arith, ap (λ c. c.base) is)

-- what a reading of a tree tells
pub call_tells : {E : Type 0} (k : Result Reading E) (p : carry.Pass) (v : Vars) (t : Tree) → TellsFacts v t → IfOk k (λ r. (u : Tree) → u ≡ t → TellsFacts v u → Tells p r u) → IfOk k (λ r. Tells p r t)
call_tells (Ok r) p v t h f = f t refl h
call_tells (Err e) p v t h f = f
