-- What a round leaves as it is, is settled.
use Rattle.std.proofs.Common.{ℕ, Bool, true, false, ◌≡◌, if◌then◌else◌, refl, sym, subst, arith}
use Rattle.std.proofs.lemmas.Bool.{or_parts, or_from}
use Rattle.swc_ast.specs.Marks.{mark_number}
use Rattle.swc_ast.specs.Redex.{is_delete}
use Rattle.swc_ast.specs.Tree.{Label, Unary, Binary, Cond, Tree, node, Forest, ε, ◌⊳◌}
use Rattle.swc_ast.specs.Valid.{valid}
use Rattle.static_proofs.specs.Free.{fold_redex, has_kind, any_kind}
use Rattle.static_proofs.proofs.Free.{free_of_both}
use Rattle.expr_rules.specs.Replaced.{expr_redex}
use Rattle.swc_pass.specs.Repeat.{Rounds, last}
use Rattle.swc_expr.specs.Simplified.{Simplified}
use Rattle.swc_branch.specs.Removed.{Removed}
use Rattle.swc_dce.specs.Shaken.{Told, Shaken}
use Rattle.round_proofs.specs.Rested.{Rested}
use Rattle.swc_optimization.specs.Simplifier.{Round, Settled}
use Rattle.swc_optimization.proofs.Exact.{not_heavier, unchanged}
use Rattle.swc_optimization.proofs.Rows.{simplify_settles, remove_settles, shake_settles}

-- a node that isn't of the first kind isn't of the second

fold_by : (l : Label) (cs : Forest) → expr_redex l cs ≡ false → fold_redex l cs ≡ false
fold_by (Unary op) ε h = refl
fold_by (Unary op) (a ⊳ ε) h = h
fold_by (Unary op) (a ⊳ b ⊳ cs) h = refl
fold_by (Binary op) ε h = refl
fold_by (Binary op) (a ⊳ ε) h = refl
fold_by (Binary op) (a ⊳ b ⊳ ε) h = h
fold_by (Binary op) (a ⊳ b ⊳ c ⊳ cs) h = refl
fold_by Cond ε h = refl
fold_by Cond (t ⊳ cs) h = h
fold_by l cs h = refl

mutual
  fold_free : (t : Tree) → has_kind expr_redex t ≡ false → has_kind fold_redex t ≡ false
  fold_free (node l ss cs) h =
      let p = or_parts (expr_redex l cs) (if is_delete l then false else any_kind expr_redex cs) h in
      or_from (fold_redex l cs) (if is_delete l then false else any_kind fold_redex cs) (fold_by l cs p.0) (inside (is_delete l) cs (all_fold_free cs) p.1)
    where
      inside : (b : Bool) (cs : Forest) → (any_kind expr_redex cs ≡ false → any_kind fold_redex cs ≡ false) → (if b then false else any_kind expr_redex cs) ≡ false → (if b then false else any_kind fold_redex cs) ≡ false
      inside true cs f h = refl
      inside false cs f h = f h

  all_fold_free : (ts : Forest) → any_kind expr_redex ts ≡ false → any_kind fold_redex ts ≡ false
  all_fold_free ε h = refl
  all_fold_free (t ⊳ ts) h =
      let p = or_parts (has_kind expr_redex t) (any_kind expr_redex ts) h in
      or_from (has_kind fold_redex t) (any_kind fold_redex ts) (fold_free t p.0) (all_fold_free ts p.1)

-- where a round answers its input, each of its passes does

at_rest : (told : Told) (t : Tree) → Round told t t → Rested told t t
at_rest told t a =
    let f = simplify_settles told.mark t a.simplified a.simplifies in
    let g = remove_settles told.mark a.simplified a.removed a.removes in
    let h = shake_settles told a.removed t a.shakes in
    let s = not_heavier f.0 t a.simplified f.1 in
    let d = not_heavier g.0 a.simplified a.removed g.1 in
    let k = not_heavier h.0 a.removed t h.1 in
    let e = unchanged f.0 t a.simplified f.1 (omega (arith, d, k)) in
    let i = unchanged h.0 a.removed t h.1 (omega (arith, s, d)) in
    record {
      rests = record {
        simplifies = subst (λ x. Simplified (mark_number told.mark) t x) e a.simplifies;
        removes = subst (λ x. Removed (mark_number told.mark) t x) (sym i) (subst (λ x. Removed (mark_number told.mark) x a.removed) e a.removes);
      };
      shakes = subst (λ x. Shaken told x t) (sym i) a.shakes;
    }

settled : (told : Told) (t : Tree) → Rested told t t → valid t ≡ true → Settled told t
settled told t a v = record {
  simple = free_of_both t (fold_free t (a.rests.simplifies.finished refl)) (a.rests.removes.finished v refl);
  used = λ e p q l ss cs i x xs d. a.shakes.left e refl v p q l ss cs i x xs d;
}

pub reached_settled : (told : Told) (t : Tree) (n : ℕ) (u : Tree) → Rounds (Round told) t n true u → valid u ≡ true → Settled told u
reached_settled told t n u (last s a) v = settled told u (at_rest told u a) v
