-- A `do` that runs its body once keeps and spares what a pass may not touch without the loop, and is lighter.
use Rattle.std.proofs.Common.{◌≡◌, ℕ, suc, ◌+◌, ◌≤◌, ◌<◌, Bool, true, false, if◌then◌else◌, List, [], refl, sym, ap, subst, ◌∙◌, arith}
use Rattle.std.proofs.lemmas.Bool.{and_parts, and_from, false≢true}
use Rattle.swc_ast.specs.declared.Span.{Span}
use Rattle.swc_ast.specs.Tree.{Text, Name, Block, Empty, FnDecl, DoWhile, Tree, node, Forest, ε, ◌⊳◌, label_of}
use Rattle.swc_ast.specs.Scope.{has_name, vars, vars_all, joined, import_names}
use Rattle.swc_ast.specs.Valid.{valid, valid_all, none_listed}
use Rattle.swc_ast.specs.Resolved.{scopes, own_scopes, Targets, in_loop as loop_targets, aimed, aimed_all, apart, apart_all}
use Rattle.swc_ast.specs.Core.{list_names, fits, fits_all}
use Rattle.swc_ast.specs.Weight.{own_weight, weight, is_stopper, stays_behind, movable, unreached}
use Rattle.static_proofs.specs.Drawn.{is_plain_statement}
use Rattle.static_proofs.specs.Keeps.{Keeps, more_kept, none_kept}
use Rattle.static_proofs.specs.Names.{Within, Fewer}
use Rattle.static_proofs.specs.Spares.{Spared}
use Rattle.static_proofs.specs.Step.{Step}
use Rattle.static_proofs.specs.Together.{without_own, KeepsAll}
use Rattle.static_proofs.proofs.Drawn.{weight_joined}
use Rattle.static_proofs.proofs.Inside.{keeps_inside}
use Rattle.static_proofs.proofs.Kept.{keeps_then, keeps_itself}
use Rattle.static_proofs.proofs.Names.{within_same, within_append, within_first, within_none, fewer_none}
use Rattle.static_proofs.proofs.Over.{made_keeps}
use Rattle.static_proofs.proofs.Plain.{statement_plain, keeps_plain, spares_plain}
use Rattle.static_proofs.proofs.Targets.{MoreLabels, no_labels}
use Rattle.static_proofs.specs.Over.{over_none, over_made}
use Rattle.static_proofs.proofs.Together.{together, kept_then, list_keeps}
use Rattle.branch_rules.specs.Jumps.{Sought, every, only, escapes, some_escape}
use Rattle.branch_rules.specs.Once.{looping, all_functions, whole, a_jump, inside, DoStep, do_once}
use Rattle.branch_rules.specs.Statements.{as_statement}
use Rattle.branch_proofs.proofs.AimedRest.{aimed_without, aimed_bare}
use Rattle.branch_proofs.proofs.BranchesOwe.{statement_lowers}
use Rattle.branch_proofs.proofs.DoOnce.{do_vars}
use Rattle.branch_proofs.proofs.Escapes.{none_behind, functions_stay}
use Rattle.branch_proofs.proofs.Gathered.{empty_made}
use Rattle.branch_proofs.proofs.Places.{as_vars}
use Rattle.branch_proofs.proofs.PlainNames.{plain_names, plain_imports}
use Rattle.branch_proofs.proofs.StatementsOwe.{span_keeps}
use Rattle.branch_proofs.proofs.SwitchOwes.{all_in, behind}
use Rattle.branch_proofs.proofs.SwitchForms.{part_out}
use Rattle.branch_proofs.proofs.Takes.{parts_kept}

-- the body without the loop

-- a plain statement in the place of another, in a list, where no label stands in front of it
pub plain_alone : {t u : Tree} → is_plain_statement (label_of t) ≡ true → is_plain_statement (label_of u) ≡ true → ((x : Name) → scopes x u ≤ scopes x t) → Within (vars u) (vars t) → (valid t ≡ true → valid u ≡ true) → ((g : Targets) → aimed (without_own g) t ≡ true → aimed (without_own g) u ≡ true) → (apart t ≡ true → apart u ≡ true) → (fits t ≡ true → fits u ≡ true) → KeepsAll (t ⊳ ε) (u ⊳ ε)
plain_alone {t} {u} p q s w v a i f =
    let none = and_from (is_plain_statement (label_of u)) true q refl in
    record {
      scopes_kept = λ x. omega (arith, s x);
      list_kept = record { vars_kept = within_append w (within_same []); names_kept = subst (λ xs. Fewer xs (list_names (t ⊳ ε))) (sym (plain_names (u ⊳ ε) none)) (fewer_none _) };
      imports_kept = subst (λ xs. Fewer xs (import_names (t ⊳ ε))) (sym (plain_imports (u ⊳ ε) none)) (fewer_none _);
      valid_kept = λ h. and_from (valid u) true (v (and_parts (valid t) true h).0) refl;
      aimed_kept = λ g h. and_from (aimed (without_own g) u) true (a g (and_parts (aimed (without_own g) t) true h).0) refl;
      apart_kept = λ h. and_from (apart u) true (i (and_parts (apart t) true h).0) refl;
      fits_kept = λ h. and_from (fits u) true (f (and_parts (fits t) true h).0) refl;
    }

pub alone : {t u : Tree} → Keeps t u → KeepsAll (t ⊳ ε) (u ⊳ ε)
alone k = together (more_kept k none_kept)

module _ (ss : List Span) (b t : Tree) where
  abbrev loop : Tree
  loop = node DoWhile ss (b ⊳ t ⊳ ε)

  fewer_scopes : (x : Name) → scopes x b ≤ scopes x loop
  unfolding own_scopes
  fewer_scopes x = omega arith

  body_valid : valid loop ≡ true → valid b ≡ true
  body_valid v = let q = and_parts (none_listed (b ⊳ t ⊳ ε)) (valid_all (b ⊳ t ⊳ ε)) v in (and_parts (valid b) (valid_all (t ⊳ ε)) q.1).0

  body_aimed : (g : Targets) → aimed g loop ≡ true → aimed (loop_targets g) b ≡ true
  body_aimed g v = (and_parts (aimed (loop_targets g) b) (aimed_all (loop_targets g) (t ⊳ ε)) v).0

  body_apart : apart loop ≡ true → apart b ≡ true
  body_apart v = (and_parts (apart b) (apart_all (t ⊳ ε)) v).0

  body_fits : fits loop ≡ true → fits b ≡ true
  body_fits v = (and_parts (fits b) (fits_all (t ⊳ ε)) v).0

  body_keeps : is_plain_statement (label_of b) ≡ true → escapes (looping every) b ≡ false → Keeps loop b
  body_keeps p e = keeps_plain (statement_plain loop refl) (statement_plain b p) fewer_scopes (within_first (vars b) (vars_all (t ⊳ ε))) body_valid (λ g v. aimed_without g b e (body_aimed g v)) body_apart body_fits

  -- of a loop whose own labels are among some
  body_aims : (ls : List Text) → escapes (looping (only ls)) b ≡ false → (g : Targets) → MoreLabels g.own ls → aimed g loop ≡ true → aimed g b ≡ true
  body_aims ls e g f v = aimed_bare g b f e (body_aimed g v)

  -- of one without labels
  body_alone : (ls : List Text) → is_plain_statement (label_of b) ≡ true → escapes (looping (only ls)) b ≡ false → KeepsAll (loop ⊳ ε) (b ⊳ ε)
  body_alone ls p e = plain_alone refl p fewer_scopes (within_first (vars b) (vars_all (t ⊳ ε))) body_valid (λ g v. body_aims ls e (without_own g) (no_labels ls) v) body_apart body_fits

-- a jump goes from the body
jump_goes : (ss bs : List Span) (ts : Forest) (j : Tree) (others : Forest) (t : Tree) → Keeps (node DoWhile ss (node Block bs (joined ts (j ⊳ others)) ⊳ t ⊳ ε)) (node DoWhile ss (node Block bs (joined ts others) ⊳ t ⊳ ε))
jump_goes ss bs ts j others t = keeps_inside DoWhile ss (more_kept (list_keeps Block bs refl (parts_kept (behind ts (part_out (all_in others))))) (more_kept (keeps_itself t) none_kept))

inside_keeps : (ss bs us : List Span) (ts : Forest) (j : Tree) (others : Forest) (t : Tree) → some_escape (looping every) ts ≡ false → all_functions others ≡ true → Keeps (node DoWhile ss (node Block bs (joined ts (j ⊳ others)) ⊳ t ⊳ ε)) (node Block us (joined ts others))
inside_keeps ss bs us ts j others t e f =
    keeps_then (jump_goes ss bs ts j others t)
    (keeps_then (body_keeps ss (node Block bs (joined ts others)) t refl (none_behind (looping every) ts others e (functions_stay (looping every) others f))) (span_keeps Block bs us (joined ts others) refl))

-- of a loop whose own labels are among some
module _ (ss bs us : List Span) (ts : Forest) (j : Tree) (others : Forest) (t : Tree) (ls : List Text) (e : some_escape (looping (only ls)) ts ≡ false) (f : all_functions others ≡ true) where
  none_inside : escapes (looping (only ls)) (node Block bs (joined ts others)) ≡ false
  none_inside = none_behind (looping (only ls)) ts others e (functions_stay (looping (only ls)) others f)

  inside_aims : (g : Targets) → MoreLabels g.own ls → aimed g (node DoWhile ss (node Block bs (joined ts (j ⊳ others)) ⊳ t ⊳ ε)) ≡ true → aimed g (node Block us (joined ts others)) ≡ true
  inside_aims g m v = (span_keeps Block bs us (joined ts others) refl).aimed_kept g (body_aims ss (node Block bs (joined ts others)) t ls none_inside g m ((jump_goes ss bs ts j others t).aimed_kept g v))

  inside_alone : KeepsAll (node DoWhile ss (node Block bs (joined ts (j ⊳ others)) ⊳ t ⊳ ε) ⊳ ε) (node Block us (joined ts others) ⊳ ε)
  inside_alone =
      kept_then (alone (jump_goes ss bs ts j others t))
      (kept_then (body_alone ss (node Block bs (joined ts others)) t ls refl none_inside) (alone (span_keeps Block bs us (joined ts others) refl)))

jump_keeps : (ss rs : List Span) (b t : Tree) → Keeps (node DoWhile ss (b ⊳ t ⊳ ε)) (node Empty rs ε)
jump_keeps ss rs b t = made_keeps (statement_plain (node DoWhile ss (b ⊳ t ⊳ ε)) refl) (statement_plain (node Empty rs ε) refl) (within_none _) (over_made (empty_made _ _ ε) over_none over_none)

-- one that stands in a list, without labels
pub do_alone : {mark : ℕ} {ls : List Text} (rs : List Span) {t : Tree} {us : Forest} → DoStep mark (only ls) t us → KeepsAll (t ⊳ ε) (as_statement rs us ⊳ ε)
do_alone {ls = ls} rs (do_once ss b t q p k (whole _ i g e)) = body_alone ss b t ls i e
do_alone rs (do_once ss b t q p k (a_jump _ g)) = alone (jump_keeps ss rs b t)
do_alone {ls = ls} rs (do_once ss b t q p k (inside bs us ts j others e g f)) = inside_alone ss bs us ts j others t ls e f

-- one behind labels that are among some
pub do_aims : {mark : ℕ} {ls : List Text} (rs : List Span) {t : Tree} {us : Forest} → DoStep mark (only ls) t us → (g : Targets) → MoreLabels g.own ls → aimed g t ≡ true → aimed g (as_statement rs us) ≡ true
do_aims {ls = ls} rs (do_once ss b t q p k (whole _ i h e)) g m a = body_aims ss b t ls e g m a
do_aims rs (do_once ss b t q p k (a_jump _ h)) g m a = (jump_keeps ss rs b t).aimed_kept g a
do_aims {ls = ls} rs (do_once ss b t q p k (inside bs us ts j others e h f)) g m a = inside_aims ss bs us ts j others t ls e f g m a

-- weights

functions_still : (ts : Forest) → all_functions ts ≡ true → (movable ts ≡ 0) × (unreached ts ≡ 0)
functions_still ε h = (refl, refl)
functions_still (node (FnDecl x) ss cs ⊳ ts) h = functions_still ts h
functions_still (t ⊳ ts) h = absurd (false≢true h)

movable_less : (ts : Forest) (j : Tree) (others : Forest) → all_functions others ≡ true → movable (joined ts others) ≤ movable (joined ts (j ⊳ others))
movable_less ε j others f = by_stay (stays_behind j)
  where
    by_stay : (b : Bool) → movable others ≤ (if b then movable others else suc (movable others))
    by_stay true = omega arith
    by_stay false = omega arith
movable_less (t ⊳ ts) j others f = by_stay (stays_behind t) (movable_less ts j others f)
  where
    by_stay : (b : Bool) → movable (joined ts others) ≤ movable (joined ts (j ⊳ others)) → (if b then movable (joined ts others) else suc (movable (joined ts others))) ≤ (if b then movable (joined ts (j ⊳ others)) else suc (movable (joined ts (j ⊳ others))))
    by_stay true h = h
    by_stay false h = omega arith

unreached_less : (ts : Forest) (j : Tree) (others : Forest) → all_functions others ≡ true → unreached (joined ts others) ≤ unreached (joined ts (j ⊳ others))
unreached_less ε j others f = omega (arith, (functions_still others f).1)
unreached_less (t ⊳ ts) j others f = by_stopper (is_stopper t) (movable_less ts j others f) (unreached_less ts j others f)
  where
    by_stopper : (b : Bool) → movable (joined ts others) ≤ movable (joined ts (j ⊳ others)) → unreached (joined ts others) ≤ unreached (joined ts (j ⊳ others)) → (if b then movable (joined ts others) else unreached (joined ts others)) ≤ (if b then movable (joined ts (j ⊳ others)) else unreached (joined ts (j ⊳ others)))
    by_stopper true h i = h
    by_stopper false h i = i

block_lighter : (ss bs us : List Span) (ts : Forest) (j : Tree) (others : Forest) (t : Tree) → all_functions others ≡ true → weight (node Block us (joined ts others)) < weight (node DoWhile ss (node Block bs (joined ts (j ⊳ others)) ⊳ t ⊳ ε))
unfolding own_weight
block_lighter ss bs us ts j others t f = omega (arith, unreached_less ts j others f, weight_joined ts others, weight_joined ts (j ⊳ others))

body_lighter : (ss : List Span) (b t : Tree) → weight b + 4 ≤ weight (node DoWhile ss (b ⊳ t ⊳ ε))
unfolding own_weight
body_lighter ss b t = omega arith

empty_lighter : (ss rs : List Span) (b t : Tree) → weight (node Empty rs ε) + 3 ≤ weight (node DoWhile ss (b ⊳ t ⊳ ε))
unfolding own_weight
empty_lighter ss rs b t = omega arith

-- what is left is lighter, and where it ends its list, so is a block round it
pub do_lighter : {mark : ℕ} {k : Sought} (rs : List Span) {t : Tree} {us : Forest} → DoStep mark k t us → (weight (as_statement rs us) < weight t) × (is_stopper (as_statement rs us) ≡ true → weight (as_statement rs us) + 4 ≤ weight t)
do_lighter rs (do_once ss b t q p k (whole _ i g e)) = (omega (arith, body_lighter ss b t), λ i. body_lighter ss b t)
do_lighter rs (do_once ss b t q p k (a_jump _ g)) = (omega (arith, empty_lighter ss rs b t), λ i. absurd (false≢true i))
do_lighter rs (do_once ss b t q p k (inside bs us ts j others e g f)) = (block_lighter ss bs us ts j others t f, λ i. absurd (false≢true i))

module _ {N : Type 0} {P : Name → Type 0} {mark : ℕ} (n : N) (rs : List Span) where
  -- what is left of a `do` declares what it declared
  vars_there : {t : Tree} {us : Forest} → DoStep mark every t us → Spared P (vars t) (vars (as_statement rs us))
  vars_there {us = us} s = record { by = λ x p h. sym (ap (has_name x) (as_vars rs us)) ∙ sym ((do_vars s).vars x) ∙ h }

  owed : {ss : List Span} {b t : Tree} {us : Forest} → DoStep mark every (node DoWhile ss (b ⊳ t ⊳ ε)) us → is_plain_statement (label_of (as_statement rs us)) ≡ true → Keeps (node DoWhile ss (b ⊳ t ⊳ ε)) (as_statement rs us) → Step N P (node DoWhile ss (b ⊳ t ⊳ ε)) (as_statement rs us)
  owed {ss} {b} {t} {us} s p k = record {
    keeps = k;
    spares = spares_plain (statement_plain (node DoWhile ss (b ⊳ t ⊳ ε)) refl) (statement_plain (as_statement rs us) p) (vars_there s);
    lowers = let l = do_lighter rs s in statement_lowers n refl refl l.0 (λ i. omega (arith, l.1 i));
  }

  pub do_owes : {t : Tree} {us : Forest} → DoStep mark every t us → Step N P t (as_statement rs us)
  do_owes (do_once ss b t q p k (whole _ i g e)) = owed (do_once ss b t q p k (whole b i g e)) i (body_keeps ss b t i e)
  do_owes (do_once ss b t q p k (a_jump _ g)) = owed (do_once ss b t q p k (a_jump b g)) refl (jump_keeps ss rs b t)
  do_owes (do_once ss b t q p k (inside bs us ts j others e g f)) = owed (do_once ss _ t q p k (inside bs us ts j others e g f)) refl (inside_keeps ss bs us ts j others t e f)
