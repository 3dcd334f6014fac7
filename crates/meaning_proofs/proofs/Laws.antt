-- Steps follow one another, and doing nothing is a step.
use Rattle.std.proofs.Common.{Bool, ◌≡◌, ℕ, List, [], ◌∷◌, true, List, refl, sym, subst, ◌∙◌}
use Rattle.swc_ast.specs.Tree.{Tree, Forest}
use Rattle.swc_ast.specs.Value.{Cell, State, Outcome, Done, Jumps, Outside, Cut, Run, and_then, Context}
use Rattle.swc_ast.specs.Meaning.{Caller, eval, run_all}
use Rattle.swc_ast.specs.Call.{each_of, call_at}
use Rattle.meaning_proofs.specs.Names.{Names}
use Rattle.meaning_proofs.specs.Exact.{Evaluation, run_at, list_at, Refined, Exact, ListExact, AlikeCells, none_alike, one_alike, one_any, Apart, Off, Trimmed, same_value, same_jump, left_core, was_cut, Trims, ListTrims}
use Rattle.meaning_proofs.specs.Roles.{SameNames, Fits, unchanged, changed, SameLists}
use Rattle.meaning_proofs.specs.Rewrites.{Kept, KeptOrUnseen, as_kept, Rewrites, step, All, Listed, listed}

-- outcomes

module _ {A : Type 0} where
  pub refined_itself : (o : Outcome A) → Refined o o
  refined_itself (Done a s) = refl
  refined_itself (Jumps j s) = refl
  refined_itself Outside = tt
  refined_itself Cut = tt

  pub refined_path : {o p : Outcome A} → o ≡ p → Refined o p
  refined_path {o} e = subst (Refined o) e (refined_itself o)

  pub refined_trans : (o p q : Outcome A) → Refined o p → Refined p q → Refined o q
  refined_trans (Done a s) p q h i = subst (λ p. Refined p q) h i
  refined_trans (Jumps j s) p q h i = subst (λ p. Refined p q) h i
  refined_trans Outside p q h i = tt
  refined_trans Cut p q h i = tt

  pub and_then_assoc : {B E : Type 0} (o : Outcome A) (f : A → Run B) (g : B → Run E) → and_then (and_then o f) g ≡ and_then o (λ a s. and_then (f a s) g)
  unfolding and_then
  and_then_assoc (Done a s) f g = refl
  and_then_assoc (Jumps j s) f g = refl
  and_then_assoc Outside f g = refl
  and_then_assoc Cut f g = refl

pub alike_itself : {b : Bool} (cs : List Cell) → AlikeCells b cs cs
alike_itself [] = none_alike
alike_itself (c ∷ cs) = one_alike refl refl (alike_itself cs)

alike_trans : {z : Bool} {bs cs ds : List Cell} → AlikeCells z bs cs → AlikeCells z cs ds → AlikeCells z bs ds
alike_trans none_alike none_alike = none_alike
alike_trans (one_alike w i a) (one_alike v j b) = one_alike (w ∙ v) (i ∙ j) (alike_trans a b)
alike_trans (one_alike w i a) (one_any e b) = one_any e (alike_trans a b)
alike_trans (one_any e a) (one_alike v j b) = one_any e (alike_trans a b)
alike_trans (one_any e a) (one_any f b) = one_any e (alike_trans a b)

pub apart_itself : {N : Names} (s : State) → Apart N s s
apart_itself s = record { events = refl; replies = refl; handed = refl; natives = refl; store = λ x keeps l. refl; loosely = λ x keeps l. alike_itself (s.store x) }

pub off_itself : {N : Names} (s : State) → Off N s s
off_itself s = record { apart = apart_itself s; guards = λ g. g }

pub off_trans : {N : Names} {r s t : State} → Off N r s → Off N s t → Off N r t
off_trans h i = record {
  apart = record {
    events = h.apart.events ∙ i.apart.events;
    replies = h.apart.replies ∙ i.apart.replies;
    handed = h.apart.handed ∙ i.apart.handed;
    natives = h.apart.natives ∙ i.apart.natives;
    store = λ x keeps l. h.apart.store x keeps l ∙ i.apart.store x keeps l;
    loosely = λ x keeps l. alike_trans (h.apart.loosely x keeps l) (i.apart.loosely x keeps l);
  };
  guards = λ g. h.guards (i.guards g);
}

module _ {N : Names} {A : Type 0} where
  pub trimmed_itself : (o : Outcome A) → Trimmed N o o
  trimmed_itself (Done a s) = same_value (off_itself s)
  trimmed_itself (Jumps j s) = same_jump (off_itself s)
  trimmed_itself Outside = left_core _
  trimmed_itself Cut = was_cut _

  pub trimmed_path : {o p : Outcome A} → o ≡ p → Trimmed N o p
  trimmed_path {o} e = subst (Trimmed N o) e (trimmed_itself o)

  pub trimmed_trans : {o p q : Outcome A} → Trimmed N o p → Trimmed N p q → Trimmed N o q
  trimmed_trans (same_value h) (same_value i) = same_value (off_trans h i)
  trimmed_trans (same_jump h) (same_jump i) = same_jump (off_trans h i)
  trimmed_trans (left_core o) i = left_core _
  trimmed_trans (was_cut o) i = was_cut _

  pub refined_trims : (o p : Outcome A) → Refined o p → Trimmed N o p
  refined_trims (Done a s) p e = trimmed_path (sym e)
  refined_trims (Jumps j s) p e = trimmed_path (sym e)
  refined_trims Outside p e = left_core _
  refined_trims Cut p e = was_cut _

-- trees and lists

module _ (mark : ℕ) where
  pub exact_itself : (t : Tree) → Exact mark t t
  exact_itself t = record { by = λ n d c. record { by = λ s. refined_itself (run_at (eval mark) n d t c s) } }

  -- where the same is done, however functions are called
  pub exact_path : {t u : Tree} → ((n : ℕ) (call : Caller) (c : Context) (s : State) → eval mark n call t c s ≡ eval mark n call u c s) → Exact mark t u
  exact_path h = record { by = λ n d c. record { by = λ s. refined_path (h n (call_at (eval mark n) d) c s) } }

  pub exact_trans : {t u v : Tree} → Exact mark t u → Exact mark u v → Exact mark t v
  exact_trans h i = record { by = λ n d c. record { by = λ s. refined_trans _ _ _ ((h.by n d c).by s) ((i.by n d c).by s) } }

  pub list_exact_itself : (ts : Forest) → ListExact mark ts ts
  list_exact_itself ts = record { by = λ n d c. record { by = λ s. refined_itself (list_at (eval mark) n d ts c s) } }

  pub list_exact_path : {ts us : Forest} → ((n : ℕ) (call : Caller) (c : Context) (s : State) → run_all (each_of (eval mark n call) ts) c s ≡ run_all (each_of (eval mark n call) us) c s) → ListExact mark ts us
  list_exact_path h = record { by = λ n d c. record { by = λ s. refined_path (h n (call_at (eval mark n) d) c s) } }

module _ {N : Names} {does : Evaluation} where
  pub trims_itself : (t : Tree) → Trims N does t t
  trims_itself t = record { by = λ n d c s g. trimmed_itself (run_at does n d t c s) }

  pub trims_trans : {t u v : Tree} → Trims N does t u → Trims N does u v → Trims N does t v
  trims_trans h i = record { by = λ n d c s g. trimmed_trans (h.by n d c s g) (i.by n d c s g) }

  pub list_trims_itself : (ts : Forest) → ListTrims N does ts ts
  list_trims_itself ts = record { by = λ n d c s g. trimmed_itself (list_at does n d ts c s) }

  pub list_trims_trans : {ts us vs : Forest} → ListTrims N does ts us → ListTrims N does us vs → ListTrims N does ts vs
  list_trims_trans h i = record { by = λ n d c s g. trimmed_trans (h.by n d c s g) (i.by n d c s g) }

-- a step that does the same may come first, too
pub exact_trims : {N : Names} {mark : ℕ} {t u : Tree} → Exact mark t u → Trims N (eval mark) t u
exact_trims h = record { by = λ n d c s g. refined_trims _ _ ((h.by n d c).by s) }

pub list_exact_trims : {N : Names} {mark : ℕ} {ts us : Forest} → ListExact mark ts us → ListTrims N (eval mark) ts us
list_exact_trims h = record { by = λ n d c s g. refined_trims _ _ ((h.by n d c).by s) }

-- names

pub same_lists_itself : {N : Names} (ts : Forest) → SameLists N ts ts
same_lists_itself ts = record { vars = λ x keeps z. refl; guarded_vars = λ x g e. e; declares = λ x keeps. refl; functions = λ x g e. e }

module _ {N : Names} where
  pub same_lists_trans : {ts us vs : Forest} → SameLists N ts us → SameLists N us vs → SameLists N ts vs
  same_lists_trans h i = record { vars = λ x keeps z. h.vars x keeps z ∙ i.vars x keeps z; guarded_vars = λ x g e. i.guarded_vars x g (h.guarded_vars x g e); declares = λ x keeps. h.declares x keeps ∙ i.declares x keeps; functions = λ x g e. h.functions x g (i.functions x g e) }

  same_names_trans : {t u v : Tree} → SameNames N t u → SameNames N u v → SameNames N t v
  same_names_trans h i = record { vars = λ x keeps z. h.vars x keeps z ∙ i.vars x keeps z; guarded_vars = λ x g e. i.guarded_vars x g (h.guarded_vars x g e); declares = λ x keeps. h.declares x keeps ∙ i.declares x keeps; functions = λ x g e. h.functions x g (i.functions x g e); copied = λ x keeps. h.copied x keeps ∙ i.copied x keeps }

  pub fits_trans : {t u v : Tree} → Fits N t u → Fits N u v → Fits N t v
  fits_trans unchanged i = i
  fits_trans (changed p q h) unchanged = changed p q h
  fits_trans (changed p q h) (changed r o i) = changed p o (same_names_trans h i)

-- rewrites

module _ {N : Names} {mark : ℕ} {does : Evaluation} where
  pub only_either : {t u : Tree} → KeptOrUnseen N mark does t u → Rewrites N mark does t u
  only_either {t} {u} k = step (trims_itself t) unchanged k (exact_itself mark u) unchanged

  pub only_kept : {t u : Tree} → Kept N mark does t u → Rewrites N mark does t u
  only_kept k = only_either (as_kept k)

  -- a step before a rewrite
  pub first : {t u w : Tree} → Trims N does t u → Fits N t u → Rewrites N mark does u w → Rewrites N mark does t w
  first h f (step a g k e i) = step (trims_trans h a) (fits_trans f g) k e i

  -- a step behind a rewrite
  pub last : {t v w : Tree} → Rewrites N mark does t v → Exact mark v w → Fits N v w → Rewrites N mark does t w
  last (step a g k e i) h f = step a g k (exact_trans mark e h) (fits_trans i f)

  pub only_listed : {ts us : Forest} → All N mark does true ts us → Listed N mark does ts us
  only_listed {ts} {us} h = listed (list_trims_itself ts) (same_lists_itself ts) h (list_exact_itself mark us) (same_lists_itself us)

  pub first_listed : {ts us ws : Forest} → ListTrims N does ts us → SameLists N ts us → Listed N mark does us ws → Listed N mark does ts ws
  first_listed h f (listed a g k e i) = listed (list_trims_trans h a) (same_lists_trans f g) k e i
