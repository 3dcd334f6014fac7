-- What is given are expressions.
use Rattle.std.proofs.Common.{◌≡◌, ◌≤◌, ℕ, zero, suc, true, List, [], ◌∷◌, ◌++◌, map, Option, Some, None, slice_get, option_map, refl, sym, subst, arith}
use Rattle.std.proofs.lemmas.Option.{slice_get-map}
use Rattle.std.specs.BTreeMap.{get_by_text}
use Rattle.swc_ast.specs.declared.declarations.Decl.TheOpen as Open
use Rattle.swc_ast.specs.declared.declarations.Decl.TheViews.{out-Expr, roll-out-Expr}
use Rattle.swc_ast.specs.declared.expressions.Expr.{Expr}
use Rattle.swc_ast.specs.Tree.{Label, Tree, label_of, expr}
use Rattle.swc_ast.specs.Views.{expr_tree}
use Rattle.swc_ast.proofs.ApartExpressions.{ExprForm, expr_form, expr_number, expr_at}
use Rattle.meaning_proofs.proofs.Quiet.{declares_nothing}
use Rattle.swc_pass.specs.Given.{or_invalid}
use Rattle.given_rules.proofs.Instances.{AreExpressions}
use Rattle.given_globals.specs.Globals.{Row, expression_rows, global_rows, expressions, rows_of, given_of}
use Rattle.given_globals.specs.declared.settings.Settings.{Settings}

numbered : (o : ExprForm) → 1 ≤ expr_number o
numbered (Open.This n) = omega arith
numbered _ = omega arith

silent : (l : Label) → 1 ≤ expr_form l → declares_nothing l ≡ true
silent (expr e) h = refl
silent _ h = absurd (omega (arith, h))

-- an expression declares nothing
pub expr_declares_nothing : (e : Expr) → declares_nothing (label_of (expr_tree e)) ≡ true
expr_declares_nothing e = subst (λ x. declares_nothing (label_of (expr_tree x)) ≡ true) (roll-out-Expr e) (silent _ (subst (λ n. 1 ≤ n) (sym (expr_at (out-Expr e))) (numbered (out-Expr e))))

-- each value of some rows, and what stands for one that isn't there
abbrev Quiet : Option Row → Type 0
Quiet o = declares_nothing (label_of (or_invalid (option_map (λ r. r.1) o))) ≡ true

quiet_both : (rs qs : List Row) → ((i : ℕ) → Quiet (slice_get rs i)) → ((i : ℕ) → Quiet (slice_get qs i)) → (i : ℕ) → Quiet (slice_get (rs ++ qs) i)
quiet_both [] qs f g i = g i
quiet_both (r ∷ rs) qs f g zero = f 0
quiet_both (r ∷ rs) qs f g (suc i) = quiet_both rs qs (λ j. f (suc j)) g i

quiet_mapped : {X : Type 0} (row : X → Row) → ((x : X) → declares_nothing (label_of (row x).1) ≡ true) → (xs : List X) (i : ℕ) → Quiet (slice_get (map row xs) i)
quiet_mapped row f [] i = refl
quiet_mapped row f (x ∷ xs) zero = f x
quiet_mapped row f (x ∷ xs) (suc i) = quiet_mapped row f xs i

some_quiet : (o : Option Expr) (t : Tree) → option_map expr_tree o ≡ Some t → declares_nothing (label_of t) ≡ true
some_quiet None t e = cc
some_quiet (Some x) t e = subst (λ u. declares_nothing (label_of u) ≡ true) (some_same e) (expr_declares_nothing x)
  where
    some_same : {u v : Tree} → Some u ≡ Some v → u ≡ v
    some_same e = cc

pub given_are_expressions : (s : Settings) → AreExpressions (given_of s)
unfolding given_of
given_are_expressions s = record {
  values = λ i. subst (λ o. declares_nothing (label_of (or_invalid o)) ≡ true) (sym (slice_get-map (λ r. r.1) (rows_of s) i)) (quiet_both (expression_rows (expressions s)) (global_rows s.globals.now) (quiet_mapped _ (λ e. expr_declares_nothing e.value) (expressions s)) (quiet_mapped _ (λ e. expr_declares_nothing e.1) s.globals.now.entries) i);
  envs = λ k t e. some_quiet (get_by_text s.envs.now k) t e;
}
