-- Nodes whose children are rewritten, under an evaluation of their own; and code that is evaluated as it is written.
use Rattle.std.proofs.Common.{◌≡◌, ℕ, suc, Bool, true, false, List, [], ◌∷◌, Option, None, refl, ap, ap₂, ◌∙◌}
use Rattle.std.proofs.lemmas.Bool.{false≢true}
use Rattle.swc_ast.specs.declared.Span.{Span}
use Rattle.swc_ast.specs.Tree.{Text, Name, Label, Read, Shorthand, TypeOfName, Dot, Index, CallEval, CallDot, CallIndex, Block, Body, CaseBody, VarDecl, Import, Tree, node, Forest, ε, ◌⊳◌, bare, bares}
use Rattle.swc_ast.specs.Value.{Meaning}
use Rattle.swc_ast.specs.Meaning.{Caller, act}
use Rattle.meaning_proofs.specs.Exact.{Evaluation}
use Rattle.meaning_proofs.specs.Roles.{Unfolds}
use Rattle.meaning_proofs.specs.Walks.{no_names}
use Rattle.meaning_proofs.specs.Rewrites.{SameExports, Specifiers, no_more, keep, Kept, kept, kept_list, kept_declarators, kept_import, Rewrites, All, nil, cons}
use Rattle.meaning_proofs.proofs.Laws.{only_kept, only_listed}
use Rattle.meaning_proofs.proofs.Making.{firm_scoped}
use Rattle.meaning_proofs.proofs.Spans.{all_clean, none_dead, no_dead_label, same_exports}
use Rattle.swc_pass.specs.Given.{Owners, plain, owned, all_owned, Stand, as_written, Answers, for_read, for_type, room, taken, told, typed, with_part, act_given}
use Rattle.given_rules.proofs.Standing.{does, all_room, does_acts}

-- an import, whose specifiers stay
abbrev pub ImportStays : Label → Forest → Forest → Type 0
ImportStays (Import src) cs us = Specifiers no_names cs us
ImportStays l cs us = Unit {0}

module _ {mark : ℕ} {evaluation : Evaluation} where
  -- a node whose children are rewritten
  pub kept_by : (l : Label) (ss rs : List Span) (cs us : Forest) → Unfolds mark evaluation (node l ss cs) → ImportStays l cs us → SameExports l cs us → All no_names mark evaluation false cs us → All no_names mark evaluation true cs us → Kept no_names mark evaluation (node l ss cs) (node l rs us)
  kept_by Block ss rs cs us u i e f g = kept_list Block refl u (only_listed g)
  kept_by Body ss rs cs us u i e f g = kept_list Body refl u (only_listed g)
  kept_by CaseBody ss rs cs us u i e f g = kept_list CaseBody refl u (only_listed g)
  kept_by (VarDecl k) ss rs cs us u i e f g = kept_declarators k u g
  kept_by (Import src) ss rs cs us u i e f g = kept_import src u i
  kept_by l ss rs cs us u i e f g = kept l refl u (all_clean (none_dead mark) l (no_dead_label l)) e (firm_scoped no_names (λ x. refl) l cs us) f

pub specifiers_stay : (os : Owners) (ts : Forest) → Specifiers no_names (all_owned os ts) ts
specifiers_stay os ε = no_more
specifiers_stay os (node l ss cs ⊳ ts) = keep l (λ x g. absurd (false≢true g)) (specifiers_stay os ts)

pub import_stays : (os : Owners) (l : Label) (ts : Forest) → ImportStays l (all_owned os ts) ts
import_stays os (Import src) ts = specifiers_stay os ts
import_stays os l ts = tt

mutual
  bare_owned : (os : Owners) (t : Tree) → bare (owned os t) ≡ bare t
  bare_owned os (node l ss cs) = ap (node l []) (bares_owned os cs)

  pub bares_owned : (os : Owners) (ts : Forest) → bares (all_owned os ts) ≡ bares ts
  bares_owned os ε = refl
  bares_owned os (t ⊳ ts) = ap₂ ◌⊳◌ (bare_owned os t) (bares_owned os ts)

-- nothing stands for what is read in code that is evaluated as it is written
pub record Leaves (a : Answers) : Type 0 where
  pub no_read : (os : Owners) (t : Tree) → for_read a (plain ∷ os) t ≡ as_written
  pub no_type : (os : Owners) (x : Name) → for_type a (plain ∷ os) x ≡ None

-- where nothing stands for a read, or for a part of a label
module _ (a : Answers) (mark n : ℕ) (call : Caller) (inner : Tree → Meaning) where
  pub taken_written : {s : Stand} → s ≡ as_written → (m : Meaning) → taken a mark n call inner s m ≡ m
  taken_written e m = ap (λ s. taken a mark n call inner s m) e

  pub part_written : {s : Stand} → s ≡ as_written → (os : Owners) (l : Label) (ms : List Meaning) (m : Meaning) → with_part a mark n call inner s os l ms m ≡ told a mark n call inner os l m
  part_written e os l ms m = ap (λ s. with_part a mark n call inner s os l ms m) e

  pub type_written : {o : Option Text} → o ≡ None → (m : Meaning) → typed a mark n call inner o m ≡ m
  type_written e m = ap (λ o. typed a mark n call inner o m) e

module _ {a : Answers} (h : Leaves a) (mark : ℕ) where
  plain_acts : (n : ℕ) (call : Caller) (inner : Tree → Meaning) (l : Label) (os : Owners) (cs : Forest) (ms : List Meaning) → act_given a mark n call inner l (plain ∷ os) cs ms ≡ act mark n call l (plain ∷ os) cs ms
  unfolding act_given
  plain_acts n call inner (Read x) os cs ms = taken_written a mark n call inner (h.no_read os (node (Read x) (plain ∷ os) cs)) _
  plain_acts n call inner (Dot k) os cs ms = taken_written a mark n call inner (h.no_read os (node (Dot k) (plain ∷ os) cs)) _
  plain_acts n call inner Index os cs ms = taken_written a mark n call inner (h.no_read os (node Index (plain ∷ os) cs)) _
  plain_acts n call inner (CallDot k) os ε ms = refl
  plain_acts n call inner (CallDot k) os (o ⊳ cs) ms = part_written a mark n call inner (h.no_read os (node (Dot k) (plain ∷ os) (o ⊳ ε))) (plain ∷ os) (CallDot k) ms _
  plain_acts n call inner CallIndex os ε ms = refl
  plain_acts n call inner CallIndex os (o ⊳ ε) ms = refl
  plain_acts n call inner CallIndex os (o ⊳ k ⊳ cs) ms = part_written a mark n call inner (h.no_read os (node Index (plain ∷ os) (o ⊳ k ⊳ ε))) (plain ∷ os) CallIndex ms _
  plain_acts n call inner (CallEval x) os cs ms = part_written a mark n call inner (h.no_read os (node (Read x) (plain ∷ os) ε)) (plain ∷ os) (CallEval x) ms _
  plain_acts n call inner (Shorthand x) os cs ms = part_written a mark n call inner (h.no_read os (node (Read x) (plain ∷ os) ε)) (plain ∷ os) (Shorthand x) ms _
  plain_acts n call inner (TypeOfName x) os cs ms = part_written a mark n call inner (h.no_read os (node (Read x) (plain ∷ os) ε)) (plain ∷ os) (TypeOfName x) ms _ ∙ type_written a mark n call inner (h.no_type os x) _
  plain_acts n call inner l os cs ms = refl

  module _ (k : ℕ) (os : Owners) (e : room (all_room a mark) (plain ∷ os) ≡ suc k) where
    mutual
      -- it is rewritten to itself
      pub plain_rewrites : (t : Tree) → Rewrites no_names mark (does a mark) (owned (plain ∷ os) t) t
      plain_rewrites (node l ss cs) = only_kept (kept_by l (plain ∷ os) ss (all_owned (plain ∷ os) cs) cs
          (record { by = λ n call. does_acts a mark n call k (plain ∷ os) e l ss cs ∙ plain_acts n call _ l os _ _ })
          (import_stays (plain ∷ os) l cs) (same_exports l (all_owned (plain ∷ os) cs) cs (bares_owned (plain ∷ os) cs)) (all_plain cs false) (all_plain cs true))

      all_plain : (ts : Forest) (b : Bool) → All no_names mark (does a mark) b (all_owned (plain ∷ os) ts) ts
      all_plain ε b = nil
      all_plain (t ⊳ ts) b = cons (plain_rewrites t) (all_plain ts b)
