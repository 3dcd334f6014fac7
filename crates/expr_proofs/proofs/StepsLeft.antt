-- What a node of an expression becomes is left of it: so it is valid, resolved and core where the node was.
use Rattle.std.proofs.Common.{◌≡◌, ℕ, zero, suc, pos, ◌-◌, ◌^◌, Bool, true, false, not, ◌&&◌, ◌||◌, if◌then◌else◌, List, [], ◌∷◌, Some, None, refl, sym, subst, bytes_eq}
use Rattle.std.proofs.lemmas.Bool.{false≢true, and_parts}
use Rattle.std.proofs.lemmas.Option.{none-some, same_Some}
use Rattle.swc_ast.specs.declared.Span.{Span}
use Rattle.swc_ast.specs.declared.UnaryOp.TheVariants.{Minus, Plus}
use Rattle.swc_ast.specs.declared.BinaryOp.{BinaryOp}
use Rattle.swc_ast.specs.declared.BinaryOp.TheVariants.{InstanceOf}
use Rattle.swc_ast.specs.Tree.{Label, ItemKind, Plain, Spread, Hole, Array, Object, SpreadRecord, KeyValue, PlainKey, Unary, Binary, Cond, Seq, Dot, Index, Tree, node, Forest, ε, ◌⊳◌}
use Rattle.swc_ast.specs.Operators.{Whole, as_i32, to_u32, type_name}
use Rattle.swc_ast.specs.Meaning.{key_name}
use Rattle.swc_ast.specs.Scope.{joined}
use Rattle.swc_ast.specs.Valid.{valid, valid_all}
use Rattle.swc_ast.specs.Core.{fits}
use Rattle.static_proofs.proofs.Drawn.{valid_below, fits_below}
use Rattle.swc_utils.specs.Pure.{pure, pure_all, has_spread}
use Rattle.swc_utils.specs.Known.{number}
use Rattle.swc_utils.specs.Literals.{is_literal}
use Rattle.swc_utils.specs.Effects.{effects, effects_all, preserve}
use Rattle.swc_utils.proofs.Chains.{joined_assoc}
use Rattle.expr_rules.specs.Equality.{tells}
use Rattle.expr_rules.specs.ExprSteps.{MemberOf, by_dot, by_key, ExprStep, not_known, plus_known, minus_known, tilde_known, void_pure, typeof_expression, typeof_constant, join_texts, add_numbers, compute_numbers, power_zero, regroup, compare_known, compare_texts, compare_name, compare_type, equality, instance, logical, choice, front, spread_array, spread_object, text_length, text_character, array_length, array_item, object_value, in_guard}
use Rattle.pass_rules.specs.Leaves.{void_tree, number_tree, truth_tree, as_sequence}
use Rattle.expr_rules.specs.Choices.{chosen_arm, decided, chosen_side}
use Rattle.expr_rules.specs.Arithmetic.{summed}
use Rattle.expr_rules.specs.Members.{items_before, item_at, items_behind, array_at, none_named, value_named}
use Rattle.expr_rules.specs.Sequences.{is_bound_name, array_opened, front_item, front_folded, some_folds}
use Rattle.expr_rules.specs.Spreads.{filled_items, spread_trees, opened_kinds, opened_items, opens, opened_property, opened_properties}
use Rattle.pass_proofs.proofs.Remains.{Remains, nothing, goes, stays, opened, made, all_go, all_stay}
use Rattle.pass_proofs.proofs.Leftovers.{operator_stands, array_stands, object_stands, text_made, truth_made, whole_made, number_made, zero_made, void_made, two_made, sequence_made, preserve_made, effects_left, effects_all_left}
use Rattle.expr_proofs.proofs.Members.{found_some}
use Rattle.expr_proofs.proofs.Ranges.{number_fits, computed_fits, summed_fits, i32_in_range}
use Rattle.expr_proofs.proofs.Rewrites.{if_gives}
use Rattle.expr_proofs.proofs.Sequences.{is_some, folded_some}

member_valid : {m o : Tree} {k : List ℕ} → MemberOf m o k → valid m ≡ true → valid o ≡ true
member_valid {k} (by_dot {o} ss) v = (and_parts (valid o) true (valid_below (Dot k) ss (o ⊳ ε) v)).0
member_valid (by_key {o} {key} ss e) v = (and_parts (valid o) (valid_all (key ⊳ ε)) (valid_below Index ss (o ⊳ key ⊳ ε) v)).0

operand_fits : (l : Label) (ss : List Span) (a : Tree) → fits (node l ss (a ⊳ ε)) ≡ true → fits a ≡ true
operand_fits l ss a f = (and_parts (fits a) true (fits_below l ss (a ⊳ ε) f)).0

module _ {V F : Type 0} where
  -- sequences

  opened_items_left : (t : Tree) {rest us : Forest} → Remains V F rest us → Remains V F (t ⊳ rest) (joined (array_opened t) us)
  opened_items_left (node (Array ks) ss ts) {rest} {us} r = by_spread (has_spread ks)
    where
      by_spread : (b : Bool) → Remains V F (node (Array ks) ss ts ⊳ rest) (joined (if b then node (Array ks) ss ts ⊳ ε else ts) us)
      by_spread true = stays _ r
      by_spread false = opened (Array ks) ss ts refl (all_stay ts r)
  opened_items_left t r = stays t r

  item_left : (mark : ℕ) (callee : Bool) (t : Tree) {rest us : Forest} → Remains V F rest us → Remains V F (t ⊳ rest) (joined (front_item mark callee t) us)
  item_left mark callee t {rest} {us} r = by_kind (is_literal t || (callee && is_bound_name mark t))
    where
      by_kind : (b : Bool) → Remains V F (t ⊳ rest) (joined (if b then ε else array_opened t) us)
      by_kind true = goes t r
      by_kind false = opened_items_left t r

  fronts_left : (mark : ℕ) (callee : Bool) (ts : Forest) {rest us : Forest} → Remains V F rest us → Remains V F (joined ts rest) (joined (front_folded mark callee ts) us)
  fronts_left mark callee ε r = r
  fronts_left mark callee (t ⊳ ε) r = stays t r
  fronts_left mark callee (t ⊳ u ⊳ ts) {rest} {us} r = subst (Remains V F (t ⊳ joined (u ⊳ ts) rest)) (sym (joined_assoc (front_item mark callee t) (front_folded mark callee (u ⊳ ts)) us)) (item_left mark callee t (fronts_left mark callee (u ⊳ ts) r))

  sequence_left : (rs : List Span) (fs : Forest) {ts : Forest} → is_some fs ≡ true → Remains V F ts (joined fs ε) → Remains V F ts (as_sequence rs fs ⊳ ε)
  sequence_left rs ε h r = absurd (false≢true h)
  sequence_left rs (t ⊳ ε) h r = r
  sequence_left rs (t ⊳ u ⊳ ts) h r = sequence_made rs t u ts r

  front_left : (mark : ℕ) (callee : Bool) (ss rs : List Span) (ts : Forest) → some_folds mark callee ts ≡ true → Remains V F (node Seq ss ts ⊳ ε) (as_sequence rs (front_folded mark callee ts) ⊳ ε)
  front_left mark callee ss rs ε h = absurd (false≢true h)
  front_left mark callee ss rs (t ⊳ ts) h = sequence_left rs (front_folded mark callee (t ⊳ ts)) (folded_some mark callee t ts) (opened Seq ss (t ⊳ ts) refl (fronts_left mark callee (t ⊳ ts) nothing))

  -- spreads

  module _ (vs zs : List Span) where
    filled_left : (is : List ItemKind) (us : Forest) {rest out : Forest} → Remains V F rest out → Remains V F (joined us rest) (joined (filled_items (void_tree vs zs) is us) out)
    filled_left [] us r = all_go us r
    filled_left (Hole ∷ is) us r = void_made vs zs (filled_left is us r)
    filled_left (Plain ∷ is) ε r = r
    filled_left (Spread ∷ is) ε r = r
    filled_left (Plain ∷ is) (u ⊳ us) r = stays u (filled_left is us r)
    filled_left (Spread ∷ is) (u ⊳ us) r = stays u (filled_left is us r)

    spread_left : (t : Tree) {rest out : Forest} → Remains V F rest out → Remains V F (t ⊳ rest) (joined (spread_trees (void_tree vs zs) t) out)
    spread_left (node (Array is) ss us) r = opened (Array is) ss us refl (filled_left is us r)
    spread_left t r = stays t r

    array_left : (ks : List ItemKind) (ts : Forest) {rest out : Forest} → Remains V F rest out → Remains V F (joined ts rest) (joined (opened_items (void_tree vs zs) ks ts) out)
    array_left [] ts r = all_stay ts r
    array_left (Hole ∷ ks) ts r = array_left ks ts r
    array_left (Plain ∷ ks) ε r = r
    array_left (Spread ∷ ks) ε r = r
    array_left (Plain ∷ ks) (t ⊳ ts) r = stays t (array_left ks ts r)
    array_left (Spread ∷ ks) (t ⊳ ts) {rest} {out} r = subst (Remains V F (t ⊳ joined ts rest)) (sym (joined_assoc (spread_trees (void_tree vs zs) t) (opened_items (void_tree vs zs) ks ts) out)) (spread_left t (array_left ks ts r))

  property_left : (t : Tree) {rest out : Forest} → Remains V F rest out → Remains V F (t ⊳ rest) (joined (opened_property t) out)
  property_left (node SpreadRecord ss (node Object rs us ⊳ ε)) {rest} {out} r = by_kind (opens us)
    where
      by_kind : (b : Bool) → Remains V F (node SpreadRecord ss (node Object rs us ⊳ ε) ⊳ rest) (joined (if b then us else node SpreadRecord ss (node Object rs us ⊳ ε) ⊳ ε) out)
      by_kind true = opened SpreadRecord ss (node Object rs us ⊳ ε) refl (opened Object rs us refl (all_stay us r))
      by_kind false = stays _ r
  property_left t r = stays t r

  object_left : (ts : Forest) {rest out : Forest} → Remains V F rest out → Remains V F (joined ts rest) (joined (opened_properties ts) out)
  object_left ε r = r
  object_left (t ⊳ ts) {rest} {out} r = subst (Remains V F (t ⊳ joined ts rest)) (sym (joined_assoc (opened_property t) (opened_properties ts) out)) (property_left t (object_left ts r))

  -- members

  member_left : {m o : Tree} {k : List ℕ} (u : Tree) → MemberOf m o k → ((rest : Forest) → Remains V F rest ε → Remains V F (o ⊳ rest) (u ⊳ ε)) → Remains V F (m ⊳ ε) (u ⊳ ε)
  member_left {k} u (by_dot {o} ss) h = opened (Dot k) ss (o ⊳ ε) refl (h ε nothing)
  member_left u (by_key {o} {key} ss e) h = opened Index ss (o ⊳ key ⊳ ε) refl (h (key ⊳ ε) (goes key nothing))

  items_left : (mark : ℕ) (vs zs : List Span) (ks : List ItemKind) (us : Forest) (i : ℕ) (x : Tree) {rest : Forest} → (V → valid_all us ≡ true) → item_at (void_tree vs zs) ks us i ≡ Some x → Remains V F rest ε → Remains V F (joined us rest) (joined (effects_all mark (items_before ks us i)) (x ⊳ ε))
  items_left mark vs zs [] us i x v h r = absurd (none-some x h)
  items_left mark vs zs (Hole ∷ ks) us zero x {rest} v h r = subst (λ y. Remains V F (joined us rest) (y ⊳ ε)) (same_Some _ _ h) (void_made vs zs (all_go us r))
  items_left mark vs zs (Hole ∷ ks) us (suc i) x v h r = items_left mark vs zs ks us i x v h r
  items_left mark vs zs (Plain ∷ ks) ε i x v h r = absurd (none-some x h)
  items_left mark vs zs (Spread ∷ ks) ε i x v h r = absurd (none-some x h)
  items_left mark vs zs (Plain ∷ ks) (u ⊳ us) zero x {rest} v h r = subst (λ y. Remains V F (u ⊳ joined us rest) (y ⊳ ε)) (same_Some _ _ h) (stays u (all_go us r))
  items_left mark vs zs (Spread ∷ ks) (u ⊳ us) zero x {rest} v h r = subst (λ y. Remains V F (u ⊳ joined us rest) (y ⊳ ε)) (same_Some _ _ h) (stays u (all_go us r))
  items_left mark vs zs (Plain ∷ ks) (u ⊳ us) (suc i) x {rest} v h r = subst (Remains V F (u ⊳ joined us rest)) (sym (joined_assoc (effects mark u) (effects_all mark (items_before ks us i)) (x ⊳ ε))) (effects_left mark u (λ e. (and_parts (valid u) (valid_all us) (v e)).0) (items_left mark vs zs ks us i x (λ e. (and_parts (valid u) (valid_all us) (v e)).1) h r))
  items_left mark vs zs (Spread ∷ ks) (u ⊳ us) (suc i) x {rest} v h r = subst (Remains V F (u ⊳ joined us rest)) (sym (joined_assoc (effects mark u) (effects_all mark (items_before ks us i)) (x ⊳ ε))) (effects_left mark u (λ e. (and_parts (valid u) (valid_all us) (v e)).0) (items_left mark vs zs ks us i x (λ e. (and_parts (valid u) (valid_all us) (v e)).1) h r))

  item_of_array_left : (mark : ℕ) (is rs vs zs : List Span) (ks : List ItemKind) (us : Forest) (i : ℕ) (t : Tree) → (V → valid_all us ≡ true) → array_at mark rs (void_tree vs zs) ks us i ≡ Some t → (rest : Forest) → Remains V F rest ε → Remains V F (node (Array ks) is us ⊳ rest) (t ⊳ ε)
  item_of_array_left mark is rs vs zs ks us i t v h rest r =
      let p = if_gives (not (has_spread ks) && pure_all mark (items_behind ks us i)) _ t h in
      let q = found_some (item_at (void_tree vs zs) ks us i) (λ x. Some (preserve rs (effects_all mark (items_before ks us i)) x)) t p.1 in
      subst (λ y. Remains V F (node (Array ks) is us ⊳ rest) (y ⊳ ε)) (same_Some _ _ q.2) (preserve_made rs (effects_all mark (items_before ks us i)) q.0 (opened (Array ks) is us refl (items_left mark vs zs ks us i q.0 v q.1 r)))

  named_left : (mark : ℕ) (k : List ℕ) (ts : Forest) (t : Tree) {rest : Forest} → value_named mark k ts ≡ Some t → Remains V F rest ε → Remains V F (joined ts rest) (t ⊳ ε)
  named_left mark k (node KeyValue ss (node (PlainKey l) rs ε ⊳ t ⊳ ε) ⊳ ts) u {rest} h r = by_key (bytes_eq (key_name l) k) h (λ e. named_left mark k ts u e r)
    where
      by_key : (b : Bool) → (if b then (if none_named mark k ts then Some t else None) else (if pure mark t then value_named mark k ts else None)) ≡ Some u → (value_named mark k ts ≡ Some u → Remains V F (joined ts rest) (u ⊳ ε)) → Remains V F (node KeyValue ss (node (PlainKey l) rs ε ⊳ t ⊳ ε) ⊳ joined ts rest) (u ⊳ ε)
      by_key true h' next = let p = if_gives (none_named mark k ts) (Some t) u h' in subst (λ y. Remains V F (node KeyValue ss (node (PlainKey l) rs ε ⊳ t ⊳ ε) ⊳ joined ts rest) (y ⊳ ε)) (same_Some _ _ p.1) (opened KeyValue ss (node (PlainKey l) rs ε ⊳ t ⊳ ε) refl (goes _ (stays t (all_go ts r))))
      by_key false h' next = let p = if_gives (pure mark t) (value_named mark k ts) u h' in goes _ (next p.1)
  named_left mark k _ u h r = absurd (none-some u h)

  -- sides and arms

  side_left : (mark : ℕ) (op : BinaryOp) (ss rs : List Span) (a b : Tree) (known : Bool) → Remains V F (node (Binary op) ss (a ⊳ b ⊳ ε) ⊳ ε) (chosen_side mark rs op a b known ⊳ ε)
  side_left mark op ss rs a b known = by_kind (decided op known) (pure mark a)
    where
      by_kind : (x y : Bool) → Remains V F (node (Binary op) ss (a ⊳ b ⊳ ε) ⊳ ε) ((if x then a else (if y then b else node Seq rs (a ⊳ b ⊳ ε))) ⊳ ε)
      by_kind true y = opened (Binary op) ss (a ⊳ b ⊳ ε) refl (stays a (goes b nothing))
      by_kind false true = opened (Binary op) ss (a ⊳ b ⊳ ε) refl (goes a (stays b nothing))
      by_kind false false = opened (Binary op) ss (a ⊳ b ⊳ ε) refl (two_made rs a b (stays a (stays b nothing)))

  arm_left : (ss rs : List Span) (t a b : Tree) (known is_pure : Bool) → Remains V F (node Cond ss (t ⊳ a ⊳ b ⊳ ε) ⊳ ε) (chosen_arm rs t (if known then a else b) is_pure ⊳ ε)
  arm_left ss rs t a b true true = opened Cond ss (t ⊳ a ⊳ b ⊳ ε) refl (goes t (stays a (goes b nothing)))
  arm_left ss rs t a b true false = opened Cond ss (t ⊳ a ⊳ b ⊳ ε) refl (two_made rs t a (stays t (stays a (goes b nothing))))
  arm_left ss rs t a b false true = opened Cond ss (t ⊳ a ⊳ b ⊳ ε) refl (goes t (goes a (stays b nothing)))
  arm_left ss rs t a b false false = opened Cond ss (t ⊳ a ⊳ b ⊳ ε) refl (two_made rs t b (stays t (goes a (stays b nothing))))

  -- effects in front of a new leaf
  behind : (mark : ℕ) (t u : Tree) (rs : List Span) → (V → valid t ≡ true) → Remains V F ε (u ⊳ ε) → Remains V F (t ⊳ ε) (preserve rs (effects mark t) u ⊳ ε)
  behind mark t u rs v r = preserve_made rs (effects mark t) u (effects_left mark t v r)

  -- all go, and new leaves stand in their place
  leaf_left : {u : Tree} (t : Tree) → Remains V F ε (u ⊳ ε) → Remains V F (t ⊳ ε) (u ⊳ ε)
  leaf_left t r = goes t r

  pub step_left : {mark : ℕ} {t u : Tree} → (V → valid t ≡ true) → (F → fits t ≡ true) → ExprStep mark t u → Remains V F (t ⊳ ε) (u ⊳ ε)
  step_left {mark} v f (not_known ss rs ts a b h) = behind mark _ _ rs v (truth_made ts (not b) nothing)
  step_left {mark} v f (plus_known ss rs a k h) = leaf_left _ (number_made mark rs k (λ i. number_fits mark a k (operand_fits (Unary Plus) ss a (f i)) h) nothing)
  step_left {mark} v f (minus_known ss rs a k h) = leaf_left _ (number_made mark rs k (λ i. number_fits mark (node (Unary Minus) ss (a ⊳ ε)) k (f i) h) nothing)
  step_left {mark} v f (tilde_known ss rs a k h) = leaf_left _ (number_made mark rs (Whole (as_i32 (2 ^ 32 - 1 - to_u32 k))) (λ i. i32_in_range (2 ^ 32 - 1 - to_u32 k)) nothing)
  step_left {mark} v f (void_pure ss rs zs a h l) = leaf_left _ (void_made rs zs nothing)
  step_left {mark} v f (typeof_expression ss rs ts a s h) = behind mark _ _ rs v (text_made ts s nothing)
  step_left {mark} v f (typeof_constant ss rs cs x w h) = leaf_left _ (text_made rs (type_name w) nothing)
  step_left {mark} v f (join_texts ss rs a b r h) = leaf_left _ (text_made rs r nothing)
  step_left {mark} v f (add_numbers ss rs a b r h m) = leaf_left _ (number_made mark rs r (λ i. summed_fits (number mark a) (number mark b) r (if_gives _ (summed (number mark a) (number mark b)) r h).1) nothing)
  step_left {mark} v f (compute_numbers op ss rs a b r h m) = leaf_left _ (number_made mark rs r (λ i. computed_fits op (number mark a) (number mark b) r h) nothing)
  step_left {mark} v f (power_zero ss rs ts a b h) = behind mark _ _ rs v (number_made mark ts (Whole (pos 1)) (λ i. refl) nothing)
  step_left {mark} v f (regroup op ss is rs ns a b c r g h m) = made (Binary op) rs (a ⊳ number_tree mark ns r ⊳ ε) (operator_stands op (a ⊳ number_tree mark ns r ⊳ ε)) (opened (Binary op) ss (node (Binary op) is (a ⊳ b ⊳ ε) ⊳ c ⊳ ε) refl (opened (Binary op) is (a ⊳ b ⊳ ε) refl (stays a (goes b (goes c (number_made mark ns r (λ i. computed_fits op (number mark b) (number mark c) r h) nothing))))))
  step_left {mark} v f (compare_known op ss rs a b i j r k ha hb ty h) = leaf_left _ (truth_made rs r nothing)
  step_left {mark} v f (compare_texts op ss rs a b s t r k ta tb ea eb h) = leaf_left _ (truth_made rs r nothing)
  step_left {mark} v f (compare_name op ss is js rs x r u h) = leaf_left _ (truth_made rs r nothing)
  step_left {mark} v f (compare_type op ss is js rs x r u h) = leaf_left _ (truth_made rs r nothing)
  step_left {mark} v f (equality op ss rs ts a b r k h) = behind mark _ _ rs v (truth_made ts (tells op r) nothing)
  step_left {mark} v f (instance ss rs ts a b r) = preserve_made rs (effects_all mark (a ⊳ b ⊳ ε)) (truth_tree ts r) (opened (Binary InstanceOf) ss (a ⊳ b ⊳ ε) refl (effects_all_left mark (a ⊳ b ⊳ ε) (λ i. valid_below (Binary InstanceOf) ss (a ⊳ b ⊳ ε) (v i)) (truth_made ts r nothing)))
  step_left {mark} v f (logical op ss rs a b known k h) = side_left mark op ss rs a b known
  step_left {mark} v f (choice ss rs t a b known h) = arm_left ss rs t a b known (pure mark t)
  step_left {mark} v f (front callee ss rs ts h) = front_left mark callee ss rs ts h
  step_left {mark} v f (spread_array ss rs vs zs ks ts h) = made (Array (opened_kinds ks ts)) rs (opened_items (void_tree vs zs) ks ts) (array_stands (opened_kinds ks ts) (opened_items (void_tree vs zs) ks ts)) (opened (Array ks) ss ts refl (array_left vs zs ks ts nothing))
  step_left {mark} v f (spread_object ss rs ts h) = made Object rs (opened_properties ts) (object_stands (opened_properties ts)) (opened Object ss ts refl (object_left ts nothing))
  step_left {mark} v f (text_length is rs t m z) = member_left _ m (λ rest r. goes _ (whole_made rs _ (λ i. z) r))
  step_left {mark} v f (text_character is rs t k u m h) = member_left _ m (λ rest r. goes _ (text_made rs u r))
  step_left {mark} v f (array_length is rs ks ts m p s z) = member_left _ m (λ rest r. goes _ (whole_made rs _ (λ i. z) r))
  step_left {mark} v f (array_item is rs vs zs ks ts k i t m e h) = member_left t m (item_of_array_left mark is rs vs zs ks ts i t (λ i. valid_below (Array ks) is ts (member_valid m (v i))) h)
  step_left {mark} v f (object_value is ts k t m u h) = member_left t m (λ rest r. opened Object is ts refl (named_left mark k ts t h r))
  step_left {mark} v f (in_guard {t} {u} rs zs s l) = two_made rs _ u (zero_made zs (step_left v f s))
