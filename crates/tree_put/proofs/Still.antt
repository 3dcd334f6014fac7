-- A pass that carries nothing has the state behind a tree that it had in front of it.
use Rattle.std.proofs.Common.{◌≡◌, Bool, true, false, refl, ap, ◌∙◌, List, [], ◌∷◌}
use Rattle.std.specs.Prelude.{if◌then◌else◌, Some}
use Rattle.swc_ast.specs.Labels.{is_expression}
use Rattle.swc_ast.specs.Tree as tree
use Rattle.swc_ast.specs.Tree.{Label, Tree, node, Forest, ε, ◌⊳◌}
use Rattle.swc_ast.specs.declared.Span.{Span}
use Rattle.swc_ast.specs.declared.UnaryOp.TheVariants as op
use Rattle.tree_put.specs.Put.{Step, put, steps, around, in_turn, chosen, expanded}
use Rattle.tree_put.specs.Puts.{Answer, enter, stay, become}
use Rattle.tree_put.specs.Still.{still}
use Rattle.tree_put.specs.declared.rules.Spot.{Spot}
use Rattle.tree_put.specs.declared.rules.Spot.TheVariants as spot

data Stays {K : Type 0} (k : K) : List (Step K) → Type 0 where
  no_more : Stays k []
  and_more : {f : Step K} {fs : List (Step K)} → ((p : Spot) → (f k p).1 ≡ k) → Stays k fs → Stays k (f ∷ fs)

turn : {K : Type 0} {k : K} {fs : List (Step K)} → Stays k fs → (in_turn fs k).1 ≡ k
turn no_more = refl
turn (and_more {fs = fs} h rest) = ap (λ z. (in_turn fs z).1) (h spot.Here) ∙ turn rest

-- behind what stays
turn_from : {K : Type 0} {k : K} {fs : List (Step K)} (z : K) → z ≡ k → Stays k fs → (in_turn fs z).1 ≡ k
turn_from {K} {k} {fs} z e h = ap (λ i. (in_turn fs i).1) e ∙ turn h

chosen_stays : {K : Type 0} {k : K} (v : Answer) (t : Tree) (r : Tree × K) → r.1 ≡ k → (chosen (v, k) t r).1 ≡ k
chosen_stays enter t r h = h
chosen_stays stay t r h = refl
chosen_stays (become u) t r h = refl

expanded_stays : {K : Type 0} {k : K} (v : Answer) (x : tree.Name) (ss : List Span) (t : Tree) → (expanded (v, k) x ss t).1 ≡ k
expanded_stays enter x ss t = refl
expanded_stays stay x ss t = refl
expanded_stays (become u) x ss t = refl

around_stays : {K : Type 0} (A : K → Spot → Tree → Answer) (k : K) (l : Label) (ss : List Span) (ts : Forest) {fs : List (Step K)} → Stays k fs → (around (still A) k l ss ts fs).1 ≡ k
unfolding around
around_stays A k (tree.CallDot x) ss (o ⊳ ts) (and_more h rest) = turn_from _ (chosen_stays _ _ _ (h spot.Here)) rest
around_stays A k tree.CallIndex ss (o ⊳ i ⊳ ts) (and_more {f = f} h (and_more {f = g} j rest)) = turn_from _ (chosen_stays _ _ _ (ap (λ z. (g z spot.Here).1) (h spot.Here) ∙ j spot.Here)) rest
around_stays A k (tree.CallEval x) ss ts h = turn_from _ (chosen_stays _ _ _ refl) h
around_stays A k tree.Call ss (t ⊳ ts) (and_more h rest) = turn_from _ (h spot.Callee) rest
around_stays A k (tree.TypeOfName x) ss ts h = chosen_stays _ _ _ (turn h)
around_stays A k (tree.Unary op.TypeOf) ss (t ⊳ ε) (and_more h no_more) = h spot.Operand
around_stays A k (tree.Unary op.Delete) ss ts h = refl
around_stays A k (tree.Import src) ss ts h = refl
around_stays A k (tree.Shorthand x) ss ts h = expanded_stays _ x ss _
around_stays A k tree.Method ss (t ⊳ ts) (and_more h rest) = turn_from _ (h spot.Here) rest
around_stays A k (tree.Switch ds) ss (t ⊳ ts) (and_more h rest) = turn_from _ (h spot.Here) rest
around_stays A k (tree.Try (Some o)) ss (b ⊳ t ⊳ e ⊳ ε) (and_more h (and_more {f = g} i (and_more {f = q} j no_more))) = ap (λ z. (q (g z spot.Here).1 spot.Here).1) (h spot.Here) ∙ ap (λ z. (q z spot.Here).1) (i spot.Here) ∙ j spot.Here
around_stays A k (tree.ExportSpecifier x i) ss ts h = refl
around_stays A k tree.Absent ss ts h = turn h
around_stays A k (tree.FnDecl x0) ss ts h = turn h
around_stays A k l ss ts h = turn h

if_stays : {K : Type 0} {k : K} (b : Bool) (x y : Tree × K) → x.1 ≡ k → y.1 ≡ k → (if b then x else y).1 ≡ k
if_stays true x y h i = h
if_stays false x y h i = i

mutual
  unfolding put steps

  pub put_stays : {K : Type 0} (A : K → Spot → Tree → Answer) (t : Tree) (k : K) (p : Spot) → (put (still A) t k p).1 ≡ k
  put_stays A (node l ss cs) k p =
      let w : (around (still A) k l ss cs (steps (still A) cs)).1 ≡ k = around_stays A k l ss cs (steps_stay A cs k) in
      if_stays (is_expression l) _ _ (chosen_stays (A k p (node l ss cs)) (node l ss cs) (around (still A) k l ss cs (steps (still A) cs)) w) w

  steps_stay : {K : Type 0} (A : K → Spot → Tree → Answer) (ts : Forest) (k : K) → Stays k (steps (still A) ts)
  steps_stay A ε k = no_more
  steps_stay A (t ⊳ ts) k = and_more (λ p. put_stays A t k p) (steps_stay A ts k)
