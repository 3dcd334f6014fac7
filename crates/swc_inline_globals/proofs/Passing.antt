-- What the two walks make of a tree.
use Rattle.std.proofs.Common.{◌≡◌, ℕ, zero, suc, true, List, [], ◌∷◌, length, Option, is_some, slice_get, refl, sym, ap, subst, ◌∙◌, arith}
use Rattle.std.proofs.lemmas.Bool.{false≢true}
use Rattle.swc_ast.specs.Tree.{Tree}
use Rattle.swc_ast.specs.declared.expressions.Expr.{Expr}
use Rattle.swc_pass.specs.Given.{Answers}
use Rattle.tree_put.specs.Put as walk
use Rattle.tree_put.specs.Still.{still}
use Rattle.tree_put.specs.Walks.{Makes}
use Rattle.tree_put.specs.declared.rules.Spot.TheVariants.{Here}
use Rattle.given_shield.specs.Shield.{shield}
use Rattle.given_rules.specs.Formed.{formed}
use Rattle.given_rules.specs.Met.{met, covers}
use Rattle.given_rules.specs.Put.{here, put}
use Rattle.given_rules.specs.Walk.{gathering, put_answer}
use Rattle.given_rules.specs.Worked.{Finished, finished, has_final, puts}
use Rattle.given_rules.proofs.ByWalk.{put_by_walk}
use Rattle.given_rules.proofs.ByWalk as by_walk
use Rattle.given_rules.proofs.Gathered.{gathers}
use Rattle.given_globals.specs.Globals.{answers_of}
use Rattle.given_globals.specs.declared.settings.Settings.{Settings}
use Rattle.swc_inline_globals.specs.Made.{IsMade}
use Rattle.swc_inline_globals.specs.Slots.{slots}
use Rattle.swc_inline_globals.specs.Walking.{is_done, AreMade}
use Rattle.swc_inline_globals.proofs.Founds.{given_spanless}
use Rattle.swc_inline_globals.proofs.Lists.{covers_more}

module _ (s : Settings) where
  -- the first walk lets the tree stay, and tells what is met
  pub gather_tells : (t u : Tree) (a b : Answers) (js is : List ℕ) → a ≡ answers_of s → js ≡ [] → formed t ≡ true → Makes gathering t (a, js) Here u (b, is) → (u ≡ t) × (is ≡ met (answers_of s) t)
  gather_tells t u a b js is e n f h =
      let start : (a, js) ≡ (answers_of s, []) = λ i. (e i, n i) in
      let q : (u, (b, is)) ≡ (t, (answers_of s, met (answers_of s) t)) = sym h.is ∙ ap (λ k. walk.put gathering t k here) start ∙ gathers (given_spanless s) t [] here f in
      (ap (λ r. r.0) q, ap (λ r. r.1.1) q)

  -- the second walk puts
  pub walk_puts : (h : Finished) (t u : Tree) (k : Answers × Finished) → formed t ≡ true → Makes (still put_answer) t (answers_of s, h) Here u k → u ≡ put (puts (answers_of s) shield h) here t
  walk_puts h t u k f m = ap (λ r. r.0) (sym m.is ∙ put_by_walk (answers_of s) (given_spanless s) h t here f)

  there : (xs : List (Option Expr)) (vs : List Tree) (i : ℕ) → length xs ≡ length vs → is_done xs i ≡ true → is_some (slice_get vs i) ≡ true
  there [] vs i l d = absurd (false≢true d)
  there (x ∷ xs) [] i l d = absurd (omega (arith, l))
  there (x ∷ xs) (v ∷ vs) zero l d = refl
  there (x ∷ xs) (v ∷ vs) (suc i) l d = there xs vs i (omega (arith, l)) d

  -- both
  pub walks_make : (t u v : Tree) (is : List ℕ) (xs : List (Option Expr)) → u ≡ t → is ≡ met (answers_of s) t → AreMade (answers_of s) is xs → v ≡ put (puts (answers_of s) shield (slots xs)) here u → IsMade s t v
  walks_make t u v is xs e m made p =
      let has : (i : ℕ) → has_final made.made.finals i ≡ is_done xs i = λ i. ap (λ f. is_some (f i)) made.made.is in
      record {
        finals = made.made.finals;
        worked = made.made.worked;
        covered = subst (λ js. covers (has_final made.made.finals) js ≡ true) m (covers_more (has_final made.made.finals) (is_done xs) (λ i d. has i ∙ d) is made.done);
        known = λ i h. there xs (answers_of s).values i made.all (sym (has i) ∙ h);
        is = p ∙ ap (λ f. put (puts (answers_of s) shield f) here u) (sym made.made.is) ∙ ap (put (puts (answers_of s) shield (finished made.made.finals)) here) e;
      }
