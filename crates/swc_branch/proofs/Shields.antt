-- What stands for a member or a name where it may not stand alone.
use Rattle.std.proofs.Common.{◌≡◌, ℕ, zero, suc, pos, negsuc, ◌<◌, ◌≤◌, Bool, true, false, ◌&&◌, not, if◌then◌else◌, List, [], ◌∷◌, Option, Some, None, refl, sym, ap, ◌∙◌, subst, arith}
use Rattle.std.proofs.lemmas.Bool.{false≢true, true≢false}
use Rattle.swc_ast.specs.Scope.{joined}
use Rattle.swc_ast.specs.Tree as tree
use Rattle.swc_ast.specs.Tree.{Seq, Tree, node, Forest, ε, ◌⊳◌, label_of}
use Rattle.swc_ast.specs.Views.{expr_tree}
use Rattle.swc_ast.specs.Weight.{own_weight, weight, weight_all}
use Rattle.swc_ast.specs.declared.expressions.Expr.{Expr}
use Rattle.swc_ast.specs.declared.Span.{Span}
use Rattle.swc_ast.specs.Labels.{is_expression}
use Rattle.static_proofs.proofs.Drawn.{weight_joined}
use Rattle.swc_utils.specs.Pure.{pure}
use Rattle.tree_walk.specs.Parts.{stands_alone}
use Rattle.tree_walk.specs.Walks.{Fits, Stepped}
use Rattle.tree_walk.specs.declared.rules.Place.{Place}
use Rattle.tree_walk.specs.declared.rules.Place.TheVariants as place
use Rattle.tree_walk.proofs.NodeKinds.{alone_fits}
use Rattle.pass_rules.specs.Leaves.{guarded}
use Rattle.pass_proofs.proofs.ExprTrees.{is_an_expression}
use Rattle.pass_places.specs.Dropped.{MayDrop, dropped}
use Rattle.pass_places.specs.Places.{nowhere, shielded}
use Rattle.branch_rules.specs.Expressions.{ExpressionStep, front, itself, same_arms, in_guard, Becomes}
use Rattle.branch_rules.specs.Ignored.{Opens, operand, sides, items, properties, texts, arguments, new_arguments, Ignores, stays, goes, itself as itself_goes, opened, sequence, right_goes, right_left, right_runs, right_skipped, never_nullish, always_nullish, items_left, properties_left, arm_runs, arms_go, second_goes, first_goes, arms_left, IgnoresAll, one_goes, one_left, one_opens}
use Rattle.branch_rules.specs.Removes.{Removes, of_expression, of_default, remove_pass}
use Rattle.branch_proofs.proofs.IgnoredLight.{ignores_light, ignores_all_light}
use Rattle.swc_branch.specs.Places.{is_light, are_cramped, is_cramped}

-- what is not light and of which nothing is left weighs more than the literal 0

pure_heavy : (mark : ℕ) (t : Tree) → is_expression (label_of t) ≡ true → pure mark t ≡ true → is_light t ≡ false → 2 ≤ weight t
unfolding own_weight
pure_heavy mark (node (tree.NumLit (pos zero)) ss cs) e h l = absurd (true≢false l)
pure_heavy mark (node (tree.NumLit (pos (suc n))) ss cs) e h l = omega arith
pure_heavy mark (node (tree.NumLit (negsuc n)) ss cs) e h l = omega arith
pure_heavy mark (node (tree.StrLit t) ss cs) e h l = omega arith
pure_heavy mark (node (tree.BoolLit b) ss cs) e h l = omega arith
pure_heavy mark (node tree.NullLit ss cs) e h l = omega arith
pure_heavy mark (node tree.This ss cs) e h l = omega arith
pure_heavy mark (node (tree.Read x) ss cs) e h l = omega arith
pure_heavy mark (node (tree.Template qs) ss cs) e h l = omega arith
pure_heavy mark (node (tree.Array ks) ss cs) e h l = omega arith
pure_heavy mark (node tree.Object ss cs) e h l = omega arith
pure_heavy mark (node (tree.Fn o) ss cs) e h l = omega arith
pure_heavy mark (node tree.Arrow ss cs) e h l = omega arith
pure_heavy mark (node (tree.Unary op) ss cs) e h l = omega arith
pure_heavy mark (node (tree.TypeOfName x) ss cs) e h l = omega arith
pure_heavy mark (node (tree.Binary op) ss cs) e h l = omega arith
pure_heavy mark (node tree.Cond ss cs) e h l = omega arith
pure_heavy mark (node Seq ss cs) e h l = absurd (true≢false l)
pure_heavy mark (node tree.Call ss cs) e h l = omega arith
pure_heavy mark (node tree.KeyValue ss cs) e h l = absurd (false≢true e)
pure_heavy mark (node tree.Method ss cs) e h l = absurd (false≢true e)
pure_heavy mark (node (tree.Shorthand x) ss cs) e h l = absurd (false≢true e)
pure_heavy mark (node (tree.PlainKey k) ss cs) e h l = absurd (false≢true e)
pure_heavy mark (node tree.ComputedKey ss cs) e h l = absurd (false≢true e)
pure_heavy mark _ e h l = absurd (false≢true h)

opened_heavy : {mark : ℕ} {t : Tree} {cs : Forest} → Opens mark t cs → 2 ≤ weight t
unfolding own_weight
opened_heavy (operand op ss a) = omega arith
opened_heavy (sides op ss a b e) = omega arith
opened_heavy (items ks ss cs e) = omega arith
opened_heavy (properties ss cs e) = omega arith
opened_heavy (texts qs ss cs) = omega arith
opened_heavy (arguments ss f cs e) = omega arith
opened_heavy (new_arguments ss f cs x e) = omega arith

changed_heavy : {mark : ℕ} {t : Tree} {o : Option Tree} → Ignores mark true t o → is_light t ≡ false → 2 ≤ weight t
unfolding own_weight
changed_heavy {mark} (goes t e p) l = pure_heavy mark t e p l
changed_heavy (itself_goes x ss rs e) l = omega arith
changed_heavy (opened rs p h) l = opened_heavy p
changed_heavy (sequence ss rs cs h) l = absurd (true≢false l)
changed_heavy (right_goes op ss a b m h i) l = omega arith
changed_heavy (right_left op ss rs a b v m h) l = omega arith
changed_heavy (right_runs op ss a b known p e q h) l = omega arith
changed_heavy (right_skipped op ss a b known e q h) l = omega arith
changed_heavy (never_nullish ss a b τ e q h) l = omega arith
changed_heavy (always_nullish ss a b τ p e q h) l = omega arith
changed_heavy (items_left ks ls ss rs cs vs h) l = omega arith
changed_heavy (properties_left ss rs cs vs h) l = omega arith
changed_heavy (arm_runs ss t a b known p e h) l = omega arith
changed_heavy (arms_go ss t a b h i j) l = omega arith
changed_heavy (second_goes ss rs t a b v h i) l = omega arith
changed_heavy (first_goes ss rs t a b v h i) l = omega arith
changed_heavy (arms_left ss rs t a b v w h i k) l = omega arith

-- so does what becomes a sequence of nothing

emptied_heavy : {mark : ℕ} {c : Bool} {t : Tree} {ss : List Span} {vs : Forest} → Ignores mark c t (Some (node Seq ss vs)) → is_light t ≡ false → 2 ≤ weight t
emptied_heavy {c = true} h l = changed_heavy h l
emptied_heavy {c = false} (stays t) l = absurd (true≢false l)

emptied_weighs : {mark : ℕ} {c : Bool} {t : Tree} {ss : List Span} {vs : Forest} → Ignores mark c t (Some (node Seq ss vs)) → 1 ≤ weight t
unfolding own_weight
emptied_weighs h = omega (arith, ignores_light h)

-- items of which nothing is left: two, or one that is not light

one_heavy : {mark : ℕ} {c : Bool} {a : Tree} {ts us : Forest} → IgnoresAll mark c (a ⊳ ts) us → us ≡ ε → is_light a ≡ false → 2 ≤ weight a
one_heavy (one_goes t h i) e l = changed_heavy h l
one_heavy (one_left t u h i) e l = cc
one_heavy (one_opens t ss vs h i) e l = emptied_heavy h l

first_weighs : {mark : ℕ} {c : Bool} {a : Tree} {ts us : Forest} → IgnoresAll mark c (a ⊳ ts) us → us ≡ ε → 1 ≤ weight a
first_weighs (one_goes t h i) e = omega (arith, ignores_light h)
first_weighs (one_left t u h i) e = cc
first_weighs (one_opens t ss vs h i) e = emptied_weighs h

none_joined : (vs us : Forest) → joined vs us ≡ ε → us ≡ ε
none_joined ε us e = e
none_joined (v ⊳ vs) us e = cc

rest_weighs : {mark : ℕ} {c : Bool} {a b : Tree} {ts us : Forest} → IgnoresAll mark c (a ⊳ b ⊳ ts) us → us ≡ ε → 1 ≤ weight b
rest_weighs (one_goes t h i) e = first_weighs i e
rest_weighs (one_left t u h i) e = cc
rest_weighs (one_opens t ss vs {us = us} h i) e = first_weighs i (none_joined vs us e)

no_change : {mark : ℕ} {us : Forest} → IgnoresAll mark true ε us → ⊥
no_change h = omega (arith, ignores_all_light h)

front_heavy : {mark : ℕ} (p : Place) (fs us : Forest) (t : Tree) → IgnoresAll mark true fs us → us ≡ ε → are_cramped p (joined fs (t ⊳ ε)) ≡ false → stands_alone p t ≡ false → 2 ≤ weight_all fs
front_heavy p ε us t h e r a = absurd (no_change h)
front_heavy p (a ⊳ ε) us t h e r i = omega (arith, one_heavy h e (one_light (is_light a) refl))
  where
    one_light : (b : Bool) → is_light a ≡ b → is_light a ≡ false
    one_light false k = k
    one_light true k = absurd (true≢false (sym (ap not i) ∙ (ap (λ x. x && not (stands_alone p t)) (sym k) ∙ r)))
front_heavy p (a ⊳ b ⊳ fs) us t h e r i = omega (arith, first_weighs h e, rest_weighs h e)

-- sequences stand alone everywhere
sequence_alone : (p : Place) (ss : List Span) (cs : Forest) → stands_alone p (node Seq ss cs) ≡ true
sequence_alone place.Callee ss cs = refl
sequence_alone place.TypeOf ss cs = refl
sequence_alone place.Delete ss cs = refl
sequence_alone place.Value ss cs = refl
sequence_alone place.Statement ss cs = refl
sequence_alone place.Part ss cs = refl

-- there is room for `0,` in front of what may not stand alone
roomy : {mark : ℕ} (p : Place) {t u : Tree} → is_cramped p t ≡ false → ExpressionStep mark t u → stands_alone p u ≡ false → (rs zs : List Span) → weight (guarded rs zs u) < weight t
unfolding own_weight
roomy p r (front ss qs fs ε t h) a rs zs = omega (arith, front_heavy p fs ε t h refl r a, weight_joined fs (t ⊳ ε))
roomy p r (front ss qs fs (u ⊳ us) t h) a rs zs = absurd (true≢false (sym (sequence_alone p qs _) ∙ a))
roomy p r (itself ss is qs x h) a rs zs = omega arith
roomy p r (same_arms ss c u v h i j) a rs zs = omega arith
roomy p r (in_guard qs ys s l) a rs zs = absurd (true≢false (sym (sequence_alone p qs _) ∙ a))

-- a step, shielded where its answer may not stand alone
shield_step : (mark : ℕ) (p : Place) (t u : Tree) → is_cramped p t ≡ false → ExpressionStep mark t u → ExpressionStep mark t (shielded p u)
shield_step mark p t u r s = by_place (stands_alone p u) refl
  where
    by_place : (b : Bool) → stands_alone p u ≡ b → ExpressionStep mark t (if b then u else guarded (nowhere ∷ []) (nowhere ∷ []) u)
    by_place true e = s
    by_place false e = in_guard (nowhere ∷ []) (nowhere ∷ []) s (roomy p r s e (nowhere ∷ []) (nowhere ∷ []))

pub shielded_fits : (p : Place) (u : Tree) → Fits p (shielded p u)
shielded_fits p u = by_place (stands_alone p u) refl
  where
    by_place : (b : Bool) → stands_alone p u ≡ b → Fits p (if b then u else guarded (nowhere ∷ []) (nowhere ∷ []) u)
    by_place true e = alone_fits p u e
    by_place false e = alone_fits p (guarded (nowhere ∷ []) (nowhere ∷ []) u) (sequence_alone p _ _)

-- what a fold answers, in an expression's place
pub folded_at : (mark : ℕ) (p : Place) (t v : Tree) (o : Option Expr) (u w : Expr) → is_cramped p t ≡ false → o ≡ Some u → Becomes mark t v o → expr_tree w ≡ shielded p (expr_tree u) → Removes mark t (expr_tree w)
folded_at mark p t v o u w r is b e = of_expression (is_an_expression w) (subst (ExpressionStep mark t) (sym e) (shield_step mark p t (expr_tree u) r (subst (Becomes mark t v) is b)))

-- what no fold changed
pub unfolded_at : (mark : ℕ) (t u : Tree) (o : Option Expr) → o ≡ None → Becomes mark t u o → u ≡ t
unfolded_at mark t u o is b = subst (Becomes mark t u) is b

-- a parameter that may have lost its default
pub default_at : (mark : ℕ) (c : Bool) (t u : Tree) → MayDrop mark c t u → Stepped (remove_pass mark) c t u
default_at mark true t u (dropped x ss rs d h) = of_default h
default_at mark false t u d = d
