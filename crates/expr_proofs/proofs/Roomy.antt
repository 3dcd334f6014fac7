-- Where a member or a name takes the place of a node, there is room for `0,` in front of it.
use Rattle.std.proofs.Common.{◌≡◌, ℕ, zero, suc, pos, negsuc, ◌+◌, ◌<◌, ◌≤◌, Bool, true, false, not, ◌&&◌, ◌||◌, if◌then◌else◌, List, Option, Some, None, refl, sym, ap, ◌∙◌, ⊎_elim, arith}
use Rattle.std.proofs.lemmas.Bool.{false≢true, and_parts, or_cases}
use Rattle.std.proofs.lemmas.Option.{none-some}
use Rattle.swc_ast.specs.declared.Span.{Span}
use Rattle.swc_ast.specs.declared.UnaryOp.{UnaryOp}
use Rattle.swc_ast.specs.declared.UnaryOp.TheVariants.{Minus, Plus, Bang, TypeOf}
use Rattle.swc_ast.specs.declared.BinaryOp.{BinaryOp}
use Rattle.swc_ast.specs.declared.BinaryOp.TheVariants.{Add, Exp}
use Rattle.swc_ast.specs.Tree.{NumLit, StrLit, BoolLit, NullLit, Read, Template, Array, Object, Unary, Binary, Cond, Seq, Dot, Tree, node, Forest, ε, ◌⊳◌, label_of}
use Rattle.swc_ast.specs.Operators.{Numeric, Whole}
use Rattle.swc_ast.specs.Redex.{is_zero}
use Rattle.swc_ast.specs.Scope.{joined}
use Rattle.swc_ast.specs.Weight.{own_weight, weight, weight_all}
use Rattle.swc_ast.specs.Labels.{is_member_or_name}
use Rattle.swc_utils.specs.Effects.{effects, effects_all, preserve}
use Rattle.swc_utils.specs.Known.{minus, number}
use Rattle.swc_utils.specs.Literals.{is_literal}
use Rattle.swc_utils.specs.Pure.{pure}
use Rattle.expr_rules.specs.Arithmetic.{computed, summed}
use Rattle.expr_rules.specs.Choices.{chosen_arm, chosen_side, decided}
use Rattle.expr_rules.specs.Equality.{tells}
use Rattle.expr_rules.specs.ExprSteps.{MemberOf, by_dot, by_key, ExprStep, not_known, plus_known, minus_known, tilde_known, void_pure, typeof_expression, typeof_constant, join_texts, add_numbers, compute_numbers, power_zero, regroup, compare_known, compare_texts, compare_name, compare_type, equality, instance, logical, choice, front, spread_array, spread_object, text_length, text_character, array_length, array_item, object_value, in_guard}
use Rattle.pass_rules.specs.Leaves.{as_sequence, guarded, number_tree, text_tree, truth_tree, void_tree}
use Rattle.expr_rules.specs.Sequences.{array_opened, front_folded, front_item, is_bound_name, some_folds}
use Rattle.expr_proofs.specs.Laws.{is_guarded}
use Rattle.expr_proofs.proofs.ExprSteps.{void_light}
use Rattle.expr_proofs.proofs.LighterMembers.{front_light, member_lighter, array_at_roomy, value_named_roomy}
use Rattle.expr_proofs.proofs.Rewrites.{if_gives}
use Rattle.expr_proofs.proofs.Sequences.{is_some, folded_some}
use Rattle.pass_proofs.proofs.Weights.{number_light}

abbrev is_named : Tree → Bool
is_named u = is_member_or_name (label_of u)

-- a value with effects in front is neither, where the value is neither
preserved_unnamed : (rs : List Span) (fs : Forest) (u : Tree) → is_named u ≡ false → is_named (preserve rs fs u) ≡ false
preserved_unnamed rs ε u h = h
preserved_unnamed rs (f ⊳ fs) u h = refl

no_room_asked : {A : Type 0} (rs : List Span) (fs : Forest) (u : Tree) → is_named u ≡ false → is_named (preserve rs fs u) ≡ true → A
no_room_asked rs fs u h i = absurd (false≢true (sym (preserved_unnamed rs fs u h) ∙ i))

-- numbers

known_weighs : (mark : ℕ) (a : Tree) (k : Numeric) → number mark a ≡ Some k → 0 < weight a
unfolding own_weight
known_weighs mark (node (Unary op) ss ts) k h = omega arith
known_weighs mark (node (NumLit (pos zero)) ss ts) k h = omega arith
known_weighs mark (node (NumLit (pos (suc n))) ss ts) k h = omega arith
known_weighs mark (node (NumLit (negsuc n)) ss ts) k h = omega arith
known_weighs mark (node (StrLit t) ss ts) k h = omega arith
known_weighs mark (node (BoolLit b) ss ts) k h = omega arith
known_weighs mark (node NullLit ss ts) k h = omega arith
known_weighs mark (node (Read x) ss ts) k h = omega arith
known_weighs mark _ k h = absurd (none-some k h)

computed_known : (op : BinaryOp) (i j : Option Numeric) (r : Numeric) → computed op i j ≡ Some r → (k : Numeric) × (i ≡ Some k)
computed_known op None j r h = absurd (none-some r h)
computed_known op (Some k) j r h = (k, refl)

summed_known : (i j : Option Numeric) (r : Numeric) → summed i j ≡ Some r → (k : Numeric) × (i ≡ Some k)
summed_known None j r h = absurd (none-some r h)
summed_known (Some k) j r h = (k, refl)

minus_known_of : (i : Option Numeric) (k : Numeric) → minus i ≡ Some k → (j : Numeric) × (i ≡ Some j)
minus_known_of None k h = absurd (none-some k h)
minus_known_of (Some j) k h = (j, refl)

unary_roomy : (mark : ℕ) (op : UnaryOp) (ss rs : List Span) (a : Tree) (i k : Numeric) → number mark a ≡ Some i → 2 + weight (number_tree mark rs k) < weight (node (Unary op) ss (a ⊳ ε))
unfolding own_weight
unary_roomy mark op ss rs a i k h = let w = known_weighs mark a i h in let l = number_light mark rs k in omega (arith, w, l)

binary_roomy : (mark : ℕ) (op : BinaryOp) (ss rs : List Span) (a b : Tree) (i k : Numeric) → number mark a ≡ Some i → 2 + weight (number_tree mark rs k) < weight (node (Binary op) ss (a ⊳ b ⊳ ε))
unfolding own_weight
binary_roomy mark op ss rs a b i k h = let w = known_weighs mark a i h in let l = number_light mark rs k in omega (arith, w, l)

-- sides and arms

side_roomy : (mark : ℕ) (op : BinaryOp) (ss rs : List Span) (a b : Tree) (known : Bool) → is_named (chosen_side mark rs op a b known) ≡ true → 2 + weight (chosen_side mark rs op a b known) < weight (node (Binary op) ss (a ⊳ b ⊳ ε))
unfolding own_weight
side_roomy mark op ss rs a b known = by_kind (decided op known) (pure mark a)
  where
    by_kind : (x y : Bool) → is_named (if x then a else (if y then b else node Seq rs (a ⊳ b ⊳ ε))) ≡ true → 2 + weight (if x then a else (if y then b else node Seq rs (a ⊳ b ⊳ ε))) < weight (node (Binary op) ss (a ⊳ b ⊳ ε))
    by_kind true y h = omega arith
    by_kind false true h = omega arith
    by_kind false false h = absurd (false≢true h)

arm_roomy : (ss rs : List Span) (t a b : Tree) (known is_pure : Bool) → is_named (chosen_arm rs t (if known then a else b) is_pure) ≡ true → 2 + weight (chosen_arm rs t (if known then a else b) is_pure) < weight (node Cond ss (t ⊳ a ⊳ b ⊳ ε))
unfolding own_weight
arm_roomy ss rs t a b true true h = omega arith
arm_roomy ss rs t a b false true h = omega arith
arm_roomy ss rs t a b known false h = absurd (false≢true h)

-- sequences: what goes in front of the last item weighs 2 at least, but for the literal 0

literal_heavy : (t : Tree) → is_literal t ≡ true → is_zero t ≡ false → 2 ≤ weight t
unfolding own_weight
literal_heavy (node (NumLit (pos zero)) ss ts) h z = absurd (false≢true (sym z))
literal_heavy (node (NumLit (pos (suc n))) ss ts) h z = omega arith
literal_heavy (node (NumLit (negsuc n)) ss ts) h z = omega arith
literal_heavy (node (StrLit t) ss ts) h z = omega arith
literal_heavy (node (BoolLit b) ss ts) h z = omega arith
literal_heavy (node NullLit ss ts) h z = omega arith
literal_heavy (node (Template qs) ss ts) h z = omega arith
literal_heavy (node (Array ks) ss ts) h z = omega arith
literal_heavy (node Object ss ts) h z = omega arith
literal_heavy _ h z = absurd (false≢true h)

bound_heavy : (mark : ℕ) (t : Tree) → is_bound_name mark t ≡ true → 2 ≤ weight t
unfolding own_weight
bound_heavy mark (node (Read x) ss ts) h = omega arith
bound_heavy mark _ h = absurd (false≢true h)

array_heavy : (t : Tree) → array_opened t ≡ ε → 2 ≤ weight t
unfolding own_weight
array_heavy (node (Array ks) ss ts) h = omega arith
array_heavy _ h = cc

gone_heavy : (mark : ℕ) (callee : Bool) (t : Tree) → front_item mark callee t ≡ ε → is_zero t ≡ false → 2 ≤ weight t
gone_heavy mark callee t h z = by_kind (is_literal t || (callee && is_bound_name mark t)) refl h
  where
    by_kind : (b : Bool) → (is_literal t || (callee && is_bound_name mark t)) ≡ b → ◌≡◌ {A = Forest} (if b then ε else array_opened t) ε → 2 ≤ weight t
    by_kind true e h' = ⊎_elim (λ i. literal_heavy t i z) (λ i. bound_heavy mark t (and_parts callee (is_bound_name mark t) i).1) (or_cases (is_literal t) (callee && is_bound_name mark t) e)
    by_kind false e h' = array_heavy t h'

zero_weighs : (t : Tree) → is_zero t ≡ true → 1 ≤ weight t
unfolding own_weight
zero_weighs (node (NumLit (pos zero)) ss ts) h = omega arith
zero_weighs _ h = absurd (false≢true h)

gone_weighs : (mark : ℕ) (callee : Bool) (t : Tree) → front_item mark callee t ≡ ε → 1 ≤ weight t
gone_weighs mark callee t h = by_zero (is_zero t) refl
  where
    by_zero : (b : Bool) → is_zero t ≡ b → 1 ≤ weight t
    by_zero true z = zero_weighs t z
    by_zero false z = let i = gone_heavy mark callee t h z in omega (arith, i)

-- one tree that two lists are together is the second, where that has a tree
record OneLeft (fs gs : Forest) (g : Tree) : Type 0 where
  none_first : fs ≡ ε
  one_second : gs ≡ g ⊳ ε

one_left : (fs gs : Forest) (g : Tree) → is_some gs ≡ true → joined fs gs ≡ g ⊳ ε → OneLeft fs gs g
one_left ε gs g s h = record { none_first = refl; one_second = h }
one_left (f ⊳ fs) gs g s h = absurd (no_more fs gs s (tail_of h))
  where
    tail_of : {x y : Tree} {xs ys : Forest} → x ⊳ xs ≡ y ⊳ ys → xs ≡ ys
    tail_of e = cc

    no_more : (xs ys : Forest) → is_some ys ≡ true → joined xs ys ≡ ε → ⊥
    no_more ε ε i e = false≢true i
    no_more ε (y ⊳ ys) i e = cc
    no_more (x ⊳ xs) ys i e = cc

-- of two and more items that one is left of, the others weigh something
one_lighter : (mark : ℕ) (callee : Bool) (t u : Tree) (ts : Forest) (g : Tree) → front_folded mark callee (t ⊳ u ⊳ ts) ≡ g ⊳ ε → 1 + weight g ≤ weight_all (t ⊳ u ⊳ ts)
one_lighter mark callee t u ts g h =
    let o = one_left (front_item mark callee t) (front_folded mark callee (u ⊳ ts)) g (folded_some mark callee u ts) h in
    let i = gone_weighs mark callee t o.none_first in
    let j = front_light mark callee (u ⊳ ts) in
    let e = ap weight_all o.one_second in
    omega (arith, i, j, e)

one_roomy : (mark : ℕ) (callee : Bool) (ss : List Span) (ts : Forest) (g : Tree) → some_folds mark callee ts ≡ true → is_guarded (node Seq ss ts) ≡ false → front_folded mark callee ts ≡ g ⊳ ε → 2 + weight g < weight (node Seq ss ts)
unfolding own_weight
one_roomy mark callee ss ε g s z h = absurd (false≢true s)
one_roomy mark callee ss (t ⊳ ε) g s z h = absurd (false≢true s)
one_roomy mark callee ss (t ⊳ u ⊳ ε) g s z h =
    let o = one_left (front_item mark callee t) (u ⊳ ε) g refl h in
    let i = gone_heavy mark callee t o.none_first z in
    let e = ap weight_all o.one_second in
    omega (arith, i, e)
one_roomy mark callee ss (t ⊳ u ⊳ v ⊳ ts) g s z h =
    let o = one_left (front_item mark callee t) (front_folded mark callee (u ⊳ v ⊳ ts)) g (folded_some mark callee u (v ⊳ ts)) h in
    let i = gone_weighs mark callee t o.none_first in
    let j = one_lighter mark callee u v ts g o.one_second in
    omega (arith, i, j)

front_roomy : (mark : ℕ) (callee : Bool) (ss rs : List Span) (ts : Forest) → some_folds mark callee ts ≡ true → is_guarded (node Seq ss ts) ≡ false → is_named (as_sequence rs (front_folded mark callee ts)) ≡ true → 2 + weight (as_sequence rs (front_folded mark callee ts)) < weight (node Seq ss ts)
front_roomy mark callee ss rs ts s z = by_count (front_folded mark callee ts) refl
  where
    by_count : (gs : Forest) → front_folded mark callee ts ≡ gs → is_named (as_sequence rs gs) ≡ true → 2 + weight (as_sequence rs gs) < weight (node Seq ss ts)
    by_count ε e h = absurd (false≢true h)
    by_count (g ⊳ ε) e h = one_roomy mark callee ss ts g s z e
    by_count (g ⊳ f ⊳ gs) e h = absurd (false≢true h)

-- members

member_roomy : {m o : Tree} {k : List ℕ} (u : Tree) → MemberOf m o k → ((ss : List Span) → 2 + weight u < weight (node (Dot k) ss (o ⊳ ε))) → 2 + weight u < weight m
member_roomy u (by_dot ss) h = h ss
member_roomy {k} u (by_key {o} {key} ss e) h = let i = member_lighter ss ss o key k e in let j = h ss in omega (arith, i, j)

-- 2 is what `0,` weighs
step_roomy : {mark : ℕ} {t u : Tree} → ExprStep mark t u → is_named u ≡ true → is_guarded t ≡ false → 2 + weight u < weight t
step_roomy {mark} (not_known ss rs ts a b h) n z = no_room_asked rs (effects mark (node (Unary Bang) ss (a ⊳ ε))) (truth_tree ts (not b)) refl n
step_roomy {mark} (plus_known ss rs a k h) n z = unary_roomy mark Plus ss rs a k k h
step_roomy {mark} (minus_known ss rs a k h) n z = let j = minus_known_of (number mark a) k h in unary_roomy mark Minus ss rs a j.0 k j.1
step_roomy {mark} (tilde_known ss rs a k h) n z = absurd (false≢true n)
step_roomy {mark} (void_pure ss rs zs a h l) n z = absurd (false≢true n)
step_roomy {mark} (typeof_expression ss rs ts a s h) n z = no_room_asked rs (effects mark (node (Unary TypeOf) ss (a ⊳ ε))) (text_tree ts s) refl n
step_roomy {mark} (typeof_constant ss rs cs x v h) n z = absurd (false≢true n)
step_roomy {mark} (join_texts ss rs a b r h) n z = absurd (false≢true n)
step_roomy {mark} (add_numbers ss rs a b r h m) n z = let j = summed_known (number mark a) (number mark b) r (if_gives _ (summed (number mark a) (number mark b)) r h).1 in binary_roomy mark Add ss rs a b j.0 r j.1
step_roomy {mark} (compute_numbers op ss rs a b r h m) n z = let j = computed_known op (number mark a) (number mark b) r h in binary_roomy mark op ss rs a b j.0 r j.1
step_roomy {mark} (power_zero ss rs ts a b h) n z = no_room_asked rs (effects mark (node (Binary Exp) ss (a ⊳ b ⊳ ε))) (number_tree mark ts (Whole (pos 1))) refl n
step_roomy {mark} (regroup op ss is rs ns a b c r g h m) n z = absurd (false≢true n)
step_roomy {mark} (compare_known op ss rs a b i j r k ha hb ty h) n z = absurd (false≢true n)
step_roomy {mark} (compare_texts op ss rs a b s t r k ta tb ea eb h) n z = absurd (false≢true n)
step_roomy {mark} (compare_name op ss is js rs x r u h) n z = absurd (false≢true n)
step_roomy {mark} (compare_type op ss is js rs x r u h) n z = absurd (false≢true n)
step_roomy {mark} (equality op ss rs ts a b r k h) n z = no_room_asked rs (effects mark (node (Binary op) ss (a ⊳ b ⊳ ε))) (truth_tree ts (tells op r)) refl n
step_roomy {mark} (instance ss rs ts a b r) n z = no_room_asked rs (effects_all mark (a ⊳ b ⊳ ε)) (truth_tree ts r) refl n
step_roomy {mark} (logical op ss rs a b known k h) n z = side_roomy mark op ss rs a b known n
step_roomy {mark} (choice ss rs t a b known h) n z = arm_roomy ss rs t a b known (pure mark t) n
step_roomy {mark} (front callee ss rs ts h) n z = front_roomy mark callee ss rs ts h z n
step_roomy {mark} (spread_array ss rs vs zs ks ts h) n z = absurd (false≢true n)
step_roomy {mark} (spread_object ss rs ts h) n z = absurd (false≢true n)
step_roomy {mark} (text_length is rs t m i) n z = absurd (false≢true n)
step_roomy {mark} (text_character is rs t k u m h) n z = absurd (false≢true n)
step_roomy {mark} (array_length is rs ks ts m p s i) n z = absurd (false≢true n)
step_roomy {mark} (array_item is rs vs zs ks ts k i t m e h) n z = member_roomy _ m (λ ss. array_at_roomy mark (void_tree vs zs) ks ts ss is rs k i t (void_light vs zs) h)
step_roomy {mark} (object_value is ts k t m u h) n z = member_roomy _ m (λ ss. value_named_roomy mark k ss is ts t h)
step_roomy {mark} (in_guard rs zs s l) n z = absurd (false≢true n)

pub guarded_lighter : {mark : ℕ} {t u : Tree} → ExprStep mark t u → is_named u ≡ true → is_guarded t ≡ false → (rs zs : List Span) → weight (guarded rs zs u) < weight t
unfolding own_weight
guarded_lighter s n z rs zs = let i = step_roomy s n z in omega (arith, i)
