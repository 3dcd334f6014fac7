-- What a node of an expression becomes means exactly the same, and is lighter.
use Rattle.std.proofs.Common.{◌≡◌, ℕ, pos, ◌-◌, ◌^◌, ◌<◌, ◌≤◌, Bool, true, not, ◌&&◌, List, Some, refl, ap₂, subst, arith, length, codes}
use Rattle.std.proofs.lemmas.Bool.{false≢true}
use Rattle.swc_ast.specs.declared.Span.{Span}
use Rattle.swc_ast.specs.declared.UnaryOp.TheVariants.{Minus, Plus, Tilde}
use Rattle.swc_ast.specs.declared.BinaryOp.{BinaryOp}
use Rattle.swc_ast.specs.declared.BinaryOp.TheVariants.{Add, InstanceOf, Lt, LtEq, Gt, GtEq}
use Rattle.swc_ast.specs.Tree.{ItemKind, StrLit, Array, Binary, Seq, Dot, Tree, node, Forest, ε, ◌⊳◌}
use Rattle.swc_ast.specs.Value.{Text, Truth}
use Rattle.swc_ast.specs.Operators.{Whole, as_i32, to_u32, type_name, units, binary_value}
use Rattle.swc_ast.specs.Weight.{own_weight, weight}
use Rattle.meaning_proofs.specs.Exact.{Exact}
use Rattle.meaning_proofs.proofs.Laws.{exact_itself, exact_trans}
use Rattle.swc_utils.specs.Pure.{pure}
use Rattle.swc_utils.specs.Known.{truth, number, text}
use Rattle.swc_utils.specs.Types.{type_of}
use Rattle.swc_utils.specs.declared.answers.ValueType.TheVariants.{Str as TextType}
use Rattle.swc_utils.specs.Effects.{is_strict, preserve}
use Rattle.swc_utils.proofs.Known.{text_pure}
use Rattle.pass_rules.specs.Values.{value_by_type, value_of}
use Rattle.expr_rules.specs.ExprSteps.{MemberOf, by_dot, by_key, ExprStep, not_known, plus_known, minus_known, tilde_known, void_pure, typeof_expression, typeof_constant, join_texts, add_numbers, compute_numbers, power_zero, regroup, compare_known, compare_texts, compare_name, compare_type, equality, instance, logical, choice, front, spread_array, spread_object, text_length, text_character, array_length, array_item, object_value, in_guard}
use Rattle.pass_rules.specs.Leaves.{text_tree, void_tree, number_tree, truth_tree, as_sequence}
use Rattle.expr_rules.specs.Comparisons.{is_comparison}
use Rattle.expr_rules.specs.Sequences.{front_folded}
use Rattle.expr_rules.specs.Equality.{tells}
use Rattle.expr_proofs.proofs.Compare.{compare_exact}
use Rattle.expr_proofs.proofs.Constant.{not_exact}
use Rattle.expr_proofs.proofs.Equality.{equality_exact}
use Rattle.expr_proofs.proofs.Folds.{plus_exact, number_exact, tilde_exact, void_exact, fold_texts_exact, fold_sum_exact, choice_exact}
use Rattle.expr_proofs.proofs.Lighter.{number_by_unary_lighter, number_by_binary_lighter, text_by_binary_lighter, truth_by_binary_lighter, type_of_constant_lighter, not_lighter, typeof_lighter, void_lighter, equality_lighter, power_zero_lighter, no_meaning_lighter, side_lighter, arm_lighter, regroup_lighter, single_lighter}
use Rattle.expr_proofs.proofs.LighterMembers.{front_lighter, spread_array_lighter, spread_object_lighter, member_lighter, literal_member_lighter, text_at_lighter, array_at_roomy, value_named_roomy}
use Rattle.expr_proofs.proofs.Lists.{single_exact, length_exact}
use Rattle.expr_proofs.proofs.Members.{text_at_exact, array_at_exact, value_named_exact}
use Rattle.expr_proofs.proofs.ObjectSpreads.{spread_object_exact}
use Rattle.pass_proofs.proofs.Guarded.{guarded_exact}
use Rattle.expr_proofs.proofs.Places.{type_of_constant_exact, member_exact}
use Rattle.expr_proofs.proofs.Quiet.{pure_no_effects}
use Rattle.expr_proofs.proofs.Regroup.{regroup_exact}
use Rattle.expr_proofs.proofs.Rewrites.{fold_numbers_exact, logical_exact}
use Rattle.pass_proofs.proofs.Truths.{truth_tree_gives}
use Rattle.expr_proofs.proofs.Self.{self_exact, type_self_exact}
use Rattle.expr_proofs.proofs.Sequences.{front_folded_exact}
use Rattle.expr_proofs.proofs.Special.{power_zero_exact, text_length_exact}
use Rattle.expr_proofs.proofs.Spreads.{spread_array_exact}
use Rattle.expr_proofs.proofs.Values.{known_binary_exact, typeof_exact, no_meaning_exact}
use Rattle.pass_proofs.proofs.Weights.{number_light, void_weighs}

-- comparisons of texts

comparison_strict : (op : BinaryOp) → is_comparison op ≡ true → is_strict op ≡ true
comparison_strict Lt h = refl
comparison_strict Gt h = refl
comparison_strict LtEq h = refl
comparison_strict GtEq h = refl
comparison_strict _ h = absurd (false≢true h)

comparison_pure : (mark : ℕ) (op : BinaryOp) (ss : List Span) (a b : Tree) → is_comparison op ≡ true → pure mark a ≡ true → pure mark b ≡ true → pure mark (node (Binary op) ss (a ⊳ b ⊳ ε)) ≡ true
comparison_pure mark Lt ss a b h pa pb = ap₂ (λ x y. x && (y && true)) pa pb
comparison_pure mark Gt ss a b h pa pb = ap₂ (λ x y. x && (y && true)) pa pb
comparison_pure mark LtEq ss a b h pa pb = ap₂ (λ x y. x && (y && true)) pa pb
comparison_pure mark GtEq ss a b h pa pb = ap₂ (λ x y. x && (y && true)) pa pb
comparison_pure mark _ ss a b h pa pb = absurd (false≢true h)

text_is_value : (mark : ℕ) (t : Tree) (s : List ℕ) → type_of mark t ≡ Some TextType → text mark t ≡ Some s → value_of mark t ≡ Some (Text s)
text_is_value mark t s h i = ap₂ (λ τ o. value_by_type τ (truth mark t) (number mark t) o) h i

texts_exact : (mark : ℕ) (op : BinaryOp) (ss rs : List Span) (a b : Tree) (s t : List ℕ) (r : Bool) → is_comparison op ≡ true → type_of mark a ≡ Some TextType → type_of mark b ≡ Some TextType → text mark a ≡ Some s → text mark b ≡ Some t → binary_value op (Text s) (Text t) ≡ Some (Truth r) → Exact mark (node (Binary op) ss (a ⊳ b ⊳ ε)) (truth_tree rs r)
texts_exact mark op ss rs a b s t r k ta tb ea eb h =
    subst (λ fs. Exact mark (node (Binary op) ss (a ⊳ b ⊳ ε)) (preserve rs fs (truth_tree rs r))) (pure_no_effects mark (node (Binary op) ss (a ⊳ b ⊳ ε)) (comparison_pure mark op ss a b k (text_pure mark a s ea) (text_pure mark b t eb)))
    (known_binary_exact mark op ss rs a b (truth_tree rs r) (Text s) (Text t) (Truth r) (comparison_strict op k) (text_is_value mark a s ta ea) (text_is_value mark b t tb eb) h (λ n call c st. truth_tree_gives mark n call rs r c st))

-- members by a dot or by a literal key

member_is : {mark : ℕ} {m o : Tree} {k : List ℕ} {u : Tree} → MemberOf m o k → ((ss : List Span) → Exact mark (node (Dot k) ss (o ⊳ ε)) u) → Exact mark m u
member_is (by_dot ss) h = h ss
member_is {mark} {k} {u} (by_key {o} {key} ss e) h = exact_trans mark (member_exact mark ss ss o key k e) (h ss)

member_weighs : {m o : Tree} {k : List ℕ} (u : Tree) → MemberOf m o k → ((ss : List Span) → weight u < weight (node (Dot k) ss (o ⊳ ε))) → weight u < weight m
member_weighs u (by_dot ss) h = h ss
member_weighs {k} u (by_key {o} {key} ss e) h = let i = member_lighter ss ss o key k e in let j = h ss in omega (arith, i, j)

sequence_exact : (mark : ℕ) (rs : List Span) (ts : Forest) → Exact mark (node Seq rs ts) (as_sequence rs ts)
sequence_exact mark rs ε = exact_itself mark _
sequence_exact mark rs (t ⊳ ε) = single_exact mark rs t
sequence_exact mark rs (t ⊳ u ⊳ ts) = exact_itself mark _

sequence_light : (rs : List Span) (ts : Forest) → weight (as_sequence rs ts) ≤ weight (node Seq rs ts)
sequence_light rs ε = omega arith
sequence_light rs (t ⊳ ε) = let i = single_lighter rs t in omega (arith, i)
sequence_light rs (t ⊳ u ⊳ ts) = omega arith

pub step_exact : {mark : ℕ} {t u : Tree} → ExprStep mark t u → Exact mark t u
step_exact {mark} (not_known ss rs ts a b h) = not_exact mark ss rs ts a b h
step_exact {mark} (plus_known ss rs a k h) = plus_exact mark ss rs a k h
step_exact {mark} (minus_known ss rs a k h) = number_exact mark rs _ k h refl
step_exact {mark} (tilde_known ss rs a k h) = tilde_exact mark ss rs a k h
step_exact {mark} (void_pure ss rs zs a h l) = void_exact mark ss rs zs a h
step_exact {mark} (typeof_expression ss rs ts a s h) = typeof_exact mark ss rs ts a s h
step_exact {mark} (typeof_constant ss rs cs x v h) = type_of_constant_exact mark ss rs cs x v h
step_exact {mark} (join_texts ss rs a b r h) = fold_texts_exact mark ss rs a b r h
step_exact {mark} (add_numbers ss rs a b r h m) = fold_sum_exact mark ss rs a b r h
step_exact {mark} (compute_numbers op ss rs a b r h m) = fold_numbers_exact mark op ss rs a b r h
step_exact {mark} (power_zero ss rs ts a b h) = power_zero_exact mark ss rs ts a b h
step_exact {mark} (regroup op ss is rs ns a b c r g h m) = regroup_exact mark op ss is rs ns a b c r g h
step_exact {mark} (compare_known op ss rs a b i j r k ha hb ty h) = compare_exact mark op ss rs a b i j r k ha hb ty h
step_exact {mark} (compare_texts op ss rs a b s t r k ta tb ea eb h) = texts_exact mark op ss rs a b s t r k ta tb ea eb h
step_exact {mark} (compare_name op ss is js rs x r u h) = self_exact mark op ss is js rs x r u h
step_exact {mark} (compare_type op ss is js rs x r u h) = type_self_exact mark op ss is js rs x r u h
step_exact {mark} (equality op ss rs ts a b r k h) = equality_exact mark op ss rs ts a b r k h
step_exact {mark} (instance ss rs ts a b r) = no_meaning_exact mark InstanceOf ss rs a b (truth_tree ts r) refl
step_exact {mark} (logical op ss rs a b known k h) = logical_exact mark op ss rs a b known k h
step_exact {mark} (choice ss rs t a b known h) = choice_exact mark ss rs t a b known h
step_exact {mark} (front callee ss rs ts h) = exact_trans mark (front_folded_exact mark callee ss rs ts) (sequence_exact mark rs (front_folded mark callee ts))
step_exact {mark} (spread_array ss rs vs zs ks ts h) = spread_array_exact mark (void_tree vs zs) ss rs ks ts
step_exact {mark} (spread_object ss rs ts h) = spread_object_exact mark ss rs ts
step_exact {mark} (text_length is rs t m z) = member_is m (λ ss. text_length_exact mark ss is rs t)
step_exact {mark} (text_character is rs t k u m h) = member_is m (λ ss. text_at_exact mark ss is rs t k u h)
step_exact {mark} (array_length is rs ks ts m p s z) = member_is m (λ ss. length_exact mark ks ss is rs ts p s)
step_exact {mark} (array_item is rs vs zs ks ts k i t m e h) = member_is m (λ ss. array_at_exact mark (void_tree vs zs) ks ts ss is rs k i t e h)
step_exact {mark} (object_value is ts k t m u h) = member_is m (λ ss. value_named_exact mark ss is ts k t h)
step_exact {mark} (in_guard {t} {u} rs zs s l) = exact_trans mark (step_exact s) (guarded_exact mark rs zs u)

-- lengths

text_weighs : (is : List Span) (t : List ℕ) → 0 < weight (node (StrLit t) is ε)
unfolding own_weight
text_weighs is t = omega arith

array_weighs : (is : List Span) (ks : List ItemKind) (ts : Forest) → 0 < weight (node (Array ks) is ts)
unfolding own_weight
array_weighs is ks ts = omega arith

pub void_light : (vs zs : List Span) → weight (void_tree vs zs) ≤ 6
void_light vs zs = let e = void_weighs vs zs in omega (arith, e)

pub step_lighter : {mark : ℕ} {t u : Tree} → ExprStep mark t u → weight u < weight t
step_lighter {mark} (not_known ss rs ts a b h) = not_lighter mark ss rs ts (a ⊳ ε) (not b)
step_lighter {mark} (plus_known ss rs a k h) = number_by_unary_lighter mark Plus ss rs (a ⊳ ε) k
step_lighter {mark} (minus_known ss rs a k h) = number_by_unary_lighter mark Minus ss rs (a ⊳ ε) k
step_lighter {mark} (tilde_known ss rs a k h) = number_by_unary_lighter mark Tilde ss rs (a ⊳ ε) (Whole (as_i32 (2 ^ 32 - 1 - to_u32 k)))
step_lighter {mark} (void_pure ss rs zs a h l) = void_lighter ss rs zs a l
step_lighter {mark} (typeof_expression ss rs ts a s h) = typeof_lighter mark ss rs ts (a ⊳ ε) s
step_lighter {mark} (typeof_constant ss rs cs x v h) = type_of_constant_lighter ss rs cs x (type_name v)
step_lighter {mark} (join_texts ss rs a b r h) = text_by_binary_lighter Add ss rs (a ⊳ b ⊳ ε) r
step_lighter {mark} (add_numbers ss rs a b r h m) = number_by_binary_lighter mark Add ss rs (a ⊳ b ⊳ ε) r
step_lighter {mark} (compute_numbers op ss rs a b r h m) = number_by_binary_lighter mark op ss rs (a ⊳ b ⊳ ε) r
step_lighter {mark} (power_zero ss rs ts a b h) = power_zero_lighter mark ss rs ts (a ⊳ b ⊳ ε) (Whole (pos 1))
step_lighter {mark} (regroup op ss is rs ns a b c r g h m) = regroup_lighter mark op ss is rs ns a b c r
step_lighter {mark} (compare_known op ss rs a b i j r k ha hb ty h) = truth_by_binary_lighter op ss rs (a ⊳ b ⊳ ε) r
step_lighter {mark} (compare_texts op ss rs a b s t r k ta tb ea eb h) = truth_by_binary_lighter op ss rs (a ⊳ b ⊳ ε) r
step_lighter {mark} (compare_name op ss is js rs x r u h) = truth_by_binary_lighter op ss rs _ r
step_lighter {mark} (compare_type op ss is js rs x r u h) = truth_by_binary_lighter op ss rs _ r
step_lighter {mark} (equality op ss rs ts a b r k h) = equality_lighter mark op ss rs ts (a ⊳ b ⊳ ε) (tells op r) k
step_lighter {mark} (instance ss rs ts a b r) = no_meaning_lighter mark InstanceOf ss rs ts (a ⊳ b ⊳ ε) r
step_lighter {mark} (logical op ss rs a b known k h) = side_lighter mark op ss rs a b known
step_lighter {mark} (choice ss rs t a b known h) = arm_lighter ss rs t a b known (pure mark t)
step_lighter {mark} (front callee ss rs ts h) = let i = front_lighter mark callee ss rs ts h in let j = sequence_light rs (front_folded mark callee ts) in omega (arith, i, j)
step_lighter {mark} (spread_array ss rs vs zs ks ts h) = spread_array_lighter (void_tree vs zs) (void_light vs zs) ss rs ks ts h
step_lighter {mark} (spread_object ss rs ts h) = spread_object_lighter ss rs ts h
step_lighter {mark} (text_length is rs t m z) = member_weighs (number_tree mark rs (Whole (pos (length (units t))))) m (λ ss. literal_member_lighter (codes "length") ss (node (StrLit t) is ε) (number_tree mark rs (Whole (pos (length (units t))))) (text_weighs is t) (number_light mark rs (Whole (pos (length (units t))))))
step_lighter {mark} (text_character is rs t k u m h) = member_weighs (text_tree rs u) m (λ ss. text_at_lighter k t u ss is rs)
step_lighter {mark} (array_length is rs ks ts m p s z) = member_weighs (number_tree mark rs (Whole (pos (length ks)))) m (λ ss. literal_member_lighter (codes "length") ss (node (Array ks) is ts) (number_tree mark rs (Whole (pos (length ks)))) (array_weighs is ks ts) (number_light mark rs (Whole (pos (length ks)))))
step_lighter {mark} (array_item is rs vs zs ks ts k i t m e h) = member_weighs _ m (λ ss. let r = array_at_roomy mark (void_tree vs zs) ks ts ss is rs k i t (void_light vs zs) h in omega (arith, r))
step_lighter {mark} (object_value is ts k t m u h) = member_weighs _ m (λ ss. let r = value_named_roomy mark k ss is ts t h in omega (arith, r))
step_lighter {mark} (in_guard {t} {u} rs zs s l) = l
