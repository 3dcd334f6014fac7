-- How a node is evaluated in the world with answers.
use Rattle.std.proofs.Common.{◌≡◌, arith, ℕ, zero, suc, Bool, true, false, List, [], length, ◌∷◌, refl, sym, ap, ap₂, ◌∙◌}
use Rattle.std.proofs.lemmas.Bool.{false≢true}
use Rattle.swc_ast.specs.declared.Span.{Span}
use Rattle.swc_ast.specs.Tree.{Label, Read, Shorthand, TypeOfName, Dot, Index, CallEval, CallDot, CallIndex, Tree, node, Forest, ε, ◌⊳◌}
use Rattle.swc_ast.specs.Value.{Meaning}
use Rattle.swc_ast.specs.Meaning.{Caller, act}
use Rattle.swc_ast.specs.Call.{each_of}
use Rattle.meaning_proofs.specs.Exact.{Evaluation}
use Rattle.meaning_proofs.specs.Roles.{Unfolds}
use Rattle.swc_pass.specs.Given.{Owners, owned, all_owned, Answers, room, act_given, eval_inside, evals_inside, eval_within, eval_given}

-- a node for whose own read, and for no part of whose label, something may stand
abbrev pub is_free : Label → Bool
is_free (Read x) = false
is_free (Dot k) = false
is_free Index = false
is_free (CallDot k) = false
is_free CallIndex = false
is_free (CallEval x) = false
is_free (Shorthand x) = false
is_free (TypeOfName x) = false
is_free l = true

-- code of more owners has less room
room_none : (n k : ℕ) → suc n ≡ suc k → room n [] ≡ k
room_none zero k e = omega (arith, e)
room_none (suc n) k e = omega (arith, e)

room_step : (n k : ℕ) (os : Owners) → room (suc n) os ≡ suc k → room n os ≡ k
room_step n k [] e = room_none n k e
room_step zero k (o ∷ os) e = omega (arith, e)
room_step (suc n) k (o ∷ os) e = room_step n k os e

pub room_falls : (n k : ℕ) (o : Span) (os : Owners) → room (suc n) os ≡ suc k → room (suc n) (o ∷ os) ≡ k
room_falls n k o os e = room_step n k os e

module _ (a : Answers) (mark : ℕ) where
  abbrev pub does : Evaluation
  does = eval_given a mark

  abbrev pub all_room : ℕ
  all_room = suc (suc (length a.values))

  module _ (n : ℕ) (call : Caller) (k : ℕ) (os : Owners) (e : room all_room os ≡ suc k) where
    at_room : (l : Label) (ss : List Span) (cs : Forest) → does n call (owned os (node l ss cs)) ≡ eval_inside a mark n call (eval_within a mark n call k) (owned os (node l ss cs))
    unfolding eval_within
    at_room l ss cs = ap (λ j. eval_within a mark n call j (owned os (node l ss cs))) e

    all_at_room : (ts : Forest) → evals_inside a mark n call (eval_within a mark n call k) (all_owned os ts) ≡ each_of (does n call) (all_owned os ts)
    unfolding evals_inside
    all_at_room ε = refl
    all_at_room (node l ss cs ⊳ ts) = ap₂ (λ m ms. m ∷ ms) (sym (at_room l ss cs)) (all_at_room ts)

    -- what a node does, by what its children do
    pub does_acts : (l : Label) (ss : List Span) (cs : Forest) → does n call (owned os (node l ss cs)) ≡ act_given a mark n call (eval_within a mark n call k) l os (all_owned os cs) (each_of (does n call) (all_owned os cs))
    unfolding eval_inside
    does_acts l ss cs = at_room l ss cs ∙ ap (act_given a mark n call (eval_within a mark n call k) l os (all_owned os cs)) (all_at_room cs)

  free_acts : (n : ℕ) (call : Caller) (inner : Tree → Meaning) (l : Label) → is_free l ≡ true → (os : Owners) (cs : Forest) (ms : List Meaning) → act_given a mark n call inner l os cs ms ≡ act mark n call l os cs ms
  unfolding act_given
  free_acts n call inner (Read x) e os cs ms = absurd (false≢true e)
  free_acts n call inner (Dot k) e os cs ms = absurd (false≢true e)
  free_acts n call inner Index e os cs ms = absurd (false≢true e)
  free_acts n call inner (CallDot k) e os cs ms = absurd (false≢true e)
  free_acts n call inner CallIndex e os cs ms = absurd (false≢true e)
  free_acts n call inner (CallEval x) e os cs ms = absurd (false≢true e)
  free_acts n call inner (Shorthand x) e os cs ms = absurd (false≢true e)
  free_acts n call inner (TypeOfName x) e os cs ms = absurd (false≢true e)
  free_acts n call inner l e os cs ms = refl

  -- a node for which nothing may stand does what its label says
  pub free_unfolds : (k : ℕ) (os : Owners) → room all_room os ≡ suc k → (l : Label) (ss : List Span) (cs : Forest) → is_free l ≡ true → Unfolds mark does (owned os (node l ss cs))
  free_unfolds k os e l ss cs f = record { by = λ n call. does_acts n call k os e l ss cs ∙ free_acts n call (eval_within a mark n call k) l f os (all_owned os cs) (each_of (does n call) (all_owned os cs)) }
