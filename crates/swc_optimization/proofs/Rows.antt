-- The three passes in a row, again and again, are rounds.
use Rattle.std.proofs.Common.{ℕ, Bool, refl, sym, subst, Some}
use Rattle.swc_ast.specs.declared.names.Mark.{Mark}
use Rattle.swc_ast.specs.Marks.{mark_number}
use Rattle.swc_ast.specs.Tree.{Tree}
use Rattle.swc_pass.specs.Chain.{MarksAgree, chained}
use Rattle.swc_pass.specs.ChainLaws.{chained_lawful}
use Rattle.swc_pass.specs.Pass.{PassSpec, IsLawful}
use Rattle.swc_pass.specs.Repeat.{Rounds, none, changing, last, Rounded, Repeats}
use Rattle.swc_pass.specs.RepeatLaws.{rounds_give}
use Rattle.swc_expr.specs.Simplified.{simplify_spec, simplify_lawful}
use Rattle.swc_expr.proofs.SimplifyLaw.{tells as simplify_tells}
use Rattle.swc_branch.specs.Removed.{Removed, remove_spec, remove_lawful}
use Rattle.swc_branch.proofs.RemoveLaw.{tells as remove_tells}
use Rattle.swc_dce.specs.Shaken.{Told, Shaken, shake_spec, shake_lawful}
use Rattle.swc_dce.proofs.ShakeLaw.{tells as shake_tells}
use Rattle.swc_optimization.specs.Laws.{row_spec, HasOneMark}
use Rattle.swc_optimization.specs.Simplifier.{Round, round_spec}
use Rattle.swc_optimization.proofs.Exact.{Settles, settles, given_last, row_last, row_settles}

-- each pass answers what is equal or lighter

pub simplify_settles : (m : Mark) → Settles (simplify_spec m)
simplify_settles m = settles (simplify_lawful m) refl (λ t u a. (a.changed, simplify_tells (mark_number m) t u a.changed a.walk))

pub remove_settles : (m : Mark) → Settles (remove_spec m)
remove_settles m = settles (remove_lawful m) refl (λ t u a. (a.changed, remove_tells (mark_number m) t u a.changed a.walk))

pub shake_settles : (told : Told) → Settles (shake_spec told)
shake_settles told = settles (shake_lawful told) refl (λ t u a. (a.changed, shake_tells a.shaker a.changed t u a.walk))

-- what the row answers is a round

abbrev one_row : Told → PassSpec
one_row told = row_spec ((told.mark, told.mark), told)

module _ (told : Told) where
  front_settles : Settles (chained (simplify_spec told.mark) (remove_spec told.mark))
  front_settles = row_settles (simplify_settles told.mark) (remove_settles told.mark)

  row_round : (t u : Tree) → (one_row told).answers t u → Round told t u
  row_round t u a =
      let b = a.first_answers in
      record {
        simplified = b.between;
        removed = a.between;
        simplifies = b.first_answers;
        removes = subst (λ x. Removed (mark_number told.mark) b.between x) (sym (row_last (simplify_settles told.mark) (remove_settles told.mark) t a.between b)) b.second_answers;
        shakes = subst (λ x. Shaken told a.between x) (sym (row_last front_settles (shake_settles told) t u a)) a.second_answers;
      }

-- the passes tell the same mark
agree : (m : Mark) → MarksAgree (Some m) (Some m)
agree m a b e f = cc

row_lawful : (told : Told) → IsLawful (one_row told)
row_lawful told = chained_lawful (agree told.mark) (chained_lawful (agree told.mark) (simplify_lawful told.mark) (remove_lawful told.mark)) (shake_lawful told)

-- rounds of one relation are rounds of a wider one
pub wider_rounds : {A B : Tree → Tree → Type 0} (f : (t u : Tree) → A t u → B t u) {t u : Tree} {n : ℕ} {b : Bool} → Rounds A t n b u → Rounds B t n b u
wider_rounds f none = none
wider_rounds f (changing {u = u} {v = v} s a d) = changing (wider_rounds f s) (f u v a) d
wider_rounds f (last {u = u} s a) = last (wider_rounds f s) (f u u a)

rows_of_one : (told : Told) (most : ℕ) (t : Tree) (n : ℕ) (b : Bool) (u : Tree) → Repeats (one_row told) most t n b u → Rounded (round_spec told) most t n b u
rows_of_one told most t n b u r =
    let e = given_last (rounds_give (row_lawful told) t n b r.last refl r.rounded.rounds) refl r.gives in
    record {
      rounds = subst (λ x. Rounds (Round told) t n b x) (sym e) (wider_rounds (row_round told) r.rounded.rounds);
      within = r.rounded.within;
      fewer = r.rounded.fewer;
    }

pub rows_are_rounds : (s : (Mark × Mark) × Told) (most : ℕ) (t : Tree) (n : ℕ) (b : Bool) (u : Tree) → HasOneMark s → Repeats (row_spec s) most t n b u → Rounded (round_spec s.1) most t n b u
rows_are_rounds s most t n b u e r = rows_of_one s.1 most t n b u (subst (λ m. Repeats (row_spec (m, s.1)) most t n b u) e r)

-- what each round keeps, rounds keep
module _ {told : Told} (P : Tree → Type 0) (keeps : (t u : Tree) → Round told t u → P t → P u) where
  pub rounds_keep : {t u : Tree} {n : ℕ} {b : Bool} → Rounds (Round told) t n b u → P t → P u
  rounds_keep none p = p
  rounds_keep (changing {u = u} {v = v} s a d) p = keeps u v a (rounds_keep s p)
  rounds_keep (last s a) p = rounds_keep s p
