-- What a rewrite of a sequence, a spread or a member leaves is lighter.
use Rattle.std.proofs.Common.{◌≡◌, ℕ, zero, suc, pos, negsuc, ◌+◌, ◌<◌, ◌≤◌, Bool, true, false, not, ◌&&◌, ◌||◌, if◌then◌else◌, List, [], ◌∷◌, ◌++◌, Some, None, refl, sym, ap, subst, ◌∙◌, ⊎_elim, arith, bytes_eq}
use Rattle.std.proofs.lemmas.Bool.{false≢true, and_parts, or_cases, or_parts, or_from}
use Rattle.std.proofs.lemmas.Option.{none-some, same_Some}
use Rattle.swc_ast.specs.declared.Span.{Span}
use Rattle.swc_ast.specs.Tree.{ItemKind, Plain, Spread, Hole, NumLit, StrLit, BoolLit, NullLit, Read, Template, Array, Object, SpreadRecord, KeyValue, PlainKey, Seq, Dot, Index, Tree, node, Forest, ε, ◌⊳◌}
use Rattle.swc_ast.specs.Meaning.{key_name}
use Rattle.swc_ast.specs.Scope.{joined}
use Rattle.swc_ast.specs.Weight.{items_weight, own_weight, weight, weight_all}
use Rattle.static_proofs.proofs.Drawn.{weight_joined}
use Rattle.swc_utils.specs.Pure.{has_spread, pure, pure_all}
use Rattle.swc_utils.specs.Literals.{is_literal}
use Rattle.swc_utils.specs.Effects.{effects_all, preserve}
use Rattle.pass_rules.specs.Leaves.{text_tree, key_text_of}
use Rattle.expr_rules.specs.Members.{items_before, item_at, items_behind, array_at, none_named, value_named}
use Rattle.expr_rules.specs.Sequences.{is_bound_name, array_opened, front_item, front_folded, folds, some_folds}
use Rattle.expr_rules.specs.Spreads.{filled_kinds, filled_items, spread_kinds, spread_trees, opened_kinds, opened_items, opens, opened_property, opened_properties, is_array, spreads_array, opens_property, spreads_object}
use Rattle.expr_proofs.proofs.Members.{found_some}
use Rattle.expr_proofs.proofs.Rewrites.{if_gives}
use Rattle.pass_proofs.proofs.Weights.{all_light, preserve_light}

-- sequences

opened_light : (t : Tree) → weight_all (array_opened t) ≤ weight t
unfolding own_weight
opened_light (node (Array ks) ss ts) = by_spread (has_spread ks)
  where
    by_spread : (b : Bool) → weight_all (if b then node (Array ks) ss ts ⊳ ε else ts) ≤ weight (node (Array ks) ss ts)
    by_spread true = omega arith
    by_spread false = omega arith
opened_light t = omega arith

item_light : (mark : ℕ) (callee : Bool) (t : Tree) → weight_all (front_item mark callee t) ≤ weight t
item_light mark callee t = by_kind (is_literal t || (callee && is_bound_name mark t))
  where
    by_kind : (b : Bool) → weight_all (if b then ε else array_opened t) ≤ weight t
    by_kind true = omega arith
    by_kind false = opened_light t

literal_weighs : (t : Tree) → is_literal t ≡ true → 0 < weight t
unfolding own_weight
literal_weighs (node (NumLit (pos zero)) ss ts) h = omega arith
literal_weighs (node (NumLit (pos (suc n))) ss ts) h = omega arith
literal_weighs (node (NumLit (negsuc n)) ss ts) h = omega arith
literal_weighs (node (StrLit t) ss ts) h = omega arith
literal_weighs (node (BoolLit b) ss ts) h = omega arith
literal_weighs (node NullLit ss ts) h = omega arith
literal_weighs (node (Template qs) ss ts) h = omega arith
literal_weighs (node (Array ks) ss ts) h = omega arith
literal_weighs (node Object ss ts) h = omega arith
literal_weighs _ h = absurd (false≢true h)

bound_weighs : (mark : ℕ) (t : Tree) → is_bound_name mark t ≡ true → 0 < weight t
unfolding own_weight
bound_weighs mark (node (Read x) ss ts) h = omega arith
bound_weighs mark _ h = absurd (false≢true h)

gone_lighter : (mark : ℕ) (callee : Bool) (t : Tree) → (is_literal t || (callee && is_bound_name mark t)) ≡ true → weight_all (front_item mark callee t) < weight t
gone_lighter mark callee t h = subst (λ b. weight_all (if b then ε else array_opened t) < weight t) (sym h) (⊎_elim (λ e. literal_weighs t e) (λ e. bound_weighs mark t (and_parts callee (is_bound_name mark t) e).1) (or_cases (is_literal t) (callee && is_bound_name mark t) h))

item_lighter : (mark : ℕ) (callee : Bool) (t : Tree) → folds mark callee t ≡ true → weight_all (front_item mark callee t) < weight t
unfolding own_weight
item_lighter mark callee (node (Array ks) ss ts) h = by_literal (is_literal (node (Array ks) ss ts) || (callee && false)) (has_spread ks) refl refl
  where
    by_literal : (l s : Bool) → (is_literal (node (Array ks) ss ts) || (callee && false)) ≡ l → has_spread ks ≡ s → weight_all (if l then ε else (if s then node (Array ks) ss ts ⊳ ε else ts)) < weight (node (Array ks) ss ts)
    by_literal true s e i = omega arith
    by_literal false false e i = omega arith
    by_literal false true e i = absurd (false≢true (sym (or_from (is_literal (node (Array ks) ss ts)) (not (has_spread ks)) (or_parts (is_literal (node (Array ks) ss ts)) (callee && false) e).0 (ap not i)) ∙ h))
item_lighter mark callee t h = gone_lighter mark callee t h

pub front_light : (mark : ℕ) (callee : Bool) (ts : Forest) → weight_all (front_folded mark callee ts) ≤ weight_all ts
front_light mark callee ε = omega arith
front_light mark callee (t ⊳ ε) = omega arith
front_light mark callee (t ⊳ u ⊳ ts) = let i = item_light mark callee t in let j = front_light mark callee (u ⊳ ts) in let e = weight_joined (front_item mark callee t) (front_folded mark callee (u ⊳ ts)) in omega (arith, i, j, e)

fronts_lighter : (mark : ℕ) (callee : Bool) (ts : Forest) → some_folds mark callee ts ≡ true → weight_all (front_folded mark callee ts) < weight_all ts
fronts_lighter mark callee ε h = absurd (false≢true h)
fronts_lighter mark callee (t ⊳ ε) h = absurd (false≢true h)
fronts_lighter mark callee (t ⊳ u ⊳ ts) h = by_first (folds mark callee t) refl h (fronts_lighter mark callee (u ⊳ ts))
  where
    by_first : (b : Bool) → folds mark callee t ≡ b → (b || some_folds mark callee (u ⊳ ts)) ≡ true → (some_folds mark callee (u ⊳ ts) ≡ true → weight_all (front_folded mark callee (u ⊳ ts)) < weight_all (u ⊳ ts)) → weight_all (joined (front_item mark callee t) (front_folded mark callee (u ⊳ ts))) < weight_all (t ⊳ u ⊳ ts)
    by_first true e h' next = let i = item_lighter mark callee t e in let j = front_light mark callee (u ⊳ ts) in let w = weight_joined (front_item mark callee t) (front_folded mark callee (u ⊳ ts)) in omega (arith, i, j, w)
    by_first false e h' next = let i = item_light mark callee t in let j = next h' in let w = weight_joined (front_item mark callee t) (front_folded mark callee (u ⊳ ts)) in omega (arith, i, j, w)

pub front_lighter : (mark : ℕ) (callee : Bool) (ss rs : List Span) (ts : Forest) → some_folds mark callee ts ≡ true → weight (node Seq rs (front_folded mark callee ts)) < weight (node Seq ss ts)
unfolding own_weight
front_lighter mark callee ss rs ts h = let i = fronts_lighter mark callee ts h in omega (arith, i)

-- spreads of array literals

items_joined : (ks js : List ItemKind) → items_weight (ks ++ js) ≡ items_weight ks + items_weight js
items_joined [] js = omega arith
items_joined (Plain ∷ ks) js = items_joined ks js
items_joined (Spread ∷ ks) js = let i = items_joined ks js in omega (arith, i)
items_joined (Hole ∷ ks) js = let i = items_joined ks js in omega (arith, i)

filled_kinds_light : (ks : List ItemKind) → items_weight (filled_kinds ks) ≤ items_weight ks
filled_kinds_light [] = omega arith
filled_kinds_light (Plain ∷ ks) = filled_kinds_light ks
filled_kinds_light (Spread ∷ ks) = let i = filled_kinds_light ks in omega (arith, i)
filled_kinds_light (Hole ∷ ks) = let i = filled_kinds_light ks in omega (arith, i)

module _ (w : Tree) (light : weight w ≤ 6) where
  filled_light : (ks : List ItemKind) (us : Forest) → items_weight (filled_kinds ks) + weight_all (filled_items w ks us) ≤ items_weight ks + weight_all us
  filled_light [] us = omega arith
  filled_light (Hole ∷ ks) us = let i = filled_light ks us in omega (arith, i, light)
  filled_light (Plain ∷ ks) ε = let i = filled_kinds_light ks in omega (arith, i)
  filled_light (Spread ∷ ks) ε = let i = filled_kinds_light ks in omega (arith, i)
  filled_light (Plain ∷ ks) (u ⊳ us) = let i = filled_light ks us in omega (arith, i)
  filled_light (Spread ∷ ks) (u ⊳ us) = let i = filled_light ks us in omega (arith, i)

  spread_light : (t : Tree) → items_weight (spread_kinds t) + weight_all (spread_trees w t) ≤ 1 + weight t
  unfolding own_weight
  spread_light (node (Array is) ss us) = let i = filled_light is us in omega (arith, i)
  spread_light t = omega arith

  spread_lighter : (t : Tree) → is_array t ≡ true → items_weight (spread_kinds t) + weight_all (spread_trees w t) < 1 + weight t
  unfolding own_weight
  spread_lighter (node (Array is) ss us) h = let i = filled_light is us in omega (arith, i)
  spread_lighter _ h = absurd (false≢true h)

  opened_array_light : (ks : List ItemKind) (ts : Forest) → items_weight (opened_kinds ks ts) + weight_all (opened_items w ks ts) ≤ items_weight ks + weight_all ts
  opened_array_light [] ts = omega arith
  opened_array_light (Hole ∷ ks) ts = let i = opened_array_light ks ts in omega (arith, i)
  opened_array_light (Plain ∷ ks) ε = omega arith
  opened_array_light (Spread ∷ ks) ε = omega arith
  opened_array_light (Plain ∷ ks) (t ⊳ ts) = let i = opened_array_light ks ts in omega (arith, i)
  opened_array_light (Spread ∷ ks) (t ⊳ ts) = let i = opened_array_light ks ts in let j = spread_light t in let a = items_joined (spread_kinds t) (opened_kinds ks ts) in let b = weight_joined (spread_trees w t) (opened_items w ks ts) in omega (arith, i, j, a, b)

  opened_array_lighter : (ks : List ItemKind) (ts : Forest) → spreads_array ks ts ≡ true → items_weight (opened_kinds ks ts) + weight_all (opened_items w ks ts) < items_weight ks + weight_all ts
  opened_array_lighter [] ts h = absurd (false≢true h)
  opened_array_lighter (Hole ∷ ks) ts h = let i = opened_array_lighter ks ts h in omega (arith, i)
  opened_array_lighter (Plain ∷ ks) ε h = absurd (false≢true h)
  opened_array_lighter (Spread ∷ ks) ε h = absurd (false≢true h)
  opened_array_lighter (Plain ∷ ks) (t ⊳ ts) h = let i = opened_array_lighter ks ts h in omega (arith, i)
  opened_array_lighter (Spread ∷ ks) (t ⊳ ts) h =
      let a = items_joined (spread_kinds t) (opened_kinds ks ts) in let b = weight_joined (spread_trees w t) (opened_items w ks ts) in
      ⊎_elim (λ e. let i = opened_array_light ks ts in let j = spread_lighter t e in omega (arith, i, j, a, b)) (λ e. let i = opened_array_lighter ks ts e in let j = spread_light t in omega (arith, i, j, a, b)) (or_cases (is_array t) (spreads_array ks ts) h)

  pub spread_array_lighter : (ss rs : List Span) (ks : List ItemKind) (ts : Forest) → spreads_array ks ts ≡ true → weight (node (Array (opened_kinds ks ts)) rs (opened_items w ks ts)) < weight (node (Array ks) ss ts)
  unfolding own_weight
  spread_array_lighter ss rs ks ts h = let i = opened_array_lighter ks ts h in omega (arith, i)

-- spreads of object literals

property_light : (t : Tree) → weight_all (opened_property t) ≤ weight t
unfolding own_weight
property_light (node SpreadRecord ss (node Object rs us ⊳ ε)) = by_kind (opens us)
  where
    by_kind : (b : Bool) → weight_all (if b then us else node SpreadRecord ss (node Object rs us ⊳ ε) ⊳ ε) ≤ weight (node SpreadRecord ss (node Object rs us ⊳ ε))
    by_kind true = omega arith
    by_kind false = omega arith
property_light t = omega arith

property_lighter : (t : Tree) → opens_property t ≡ true → weight_all (opened_property t) < weight t
unfolding own_weight
property_lighter (node SpreadRecord ss (node Object rs us ⊳ ε)) h = subst (λ b. weight_all (if b then us else node SpreadRecord ss (node Object rs us ⊳ ε) ⊳ ε) < weight (node SpreadRecord ss (node Object rs us ⊳ ε))) (sym h) (omega arith)
property_lighter _ h = absurd (false≢true h)

properties_light : (ts : Forest) → weight_all (opened_properties ts) ≤ weight_all ts
properties_light ε = omega arith
properties_light (t ⊳ ts) = let i = property_light t in let j = properties_light ts in let e = weight_joined (opened_property t) (opened_properties ts) in omega (arith, i, j, e)

properties_lighter : (ts : Forest) → spreads_object ts ≡ true → weight_all (opened_properties ts) < weight_all ts
properties_lighter ε h = absurd (false≢true h)
properties_lighter (t ⊳ ts) h =
    let e = weight_joined (opened_property t) (opened_properties ts) in
    ⊎_elim (λ o. let i = property_lighter t o in let j = properties_light ts in omega (arith, i, j, e)) (λ o. let i = property_light t in let j = properties_lighter ts o in omega (arith, i, j, e)) (or_cases (opens_property t) (spreads_object ts) h)

pub spread_object_lighter : (ss rs : List Span) (ts : Forest) → spreads_object ts ≡ true → weight (node Object rs (opened_properties ts)) < weight (node Object ss ts)
unfolding own_weight
spread_object_lighter ss rs ts h = let i = properties_lighter ts h in omega (arith, i)

-- members

key_weighs : (key : Tree) (k : List ℕ) → key_text_of key ≡ Some k → 0 < weight key
unfolding own_weight
key_weighs (node (StrLit t) ss ε) k h = omega arith
key_weighs (node (NumLit (pos zero)) ss ε) k h = omega arith
key_weighs (node (NumLit (pos (suc n))) ss ε) k h = omega arith
key_weighs (node (NumLit (negsuc n)) ss ε) k h = omega arith
key_weighs _ k h = absurd (none-some k h)

pub member_lighter : (ss rs : List Span) (o key : Tree) (k : List ℕ) → key_text_of key ≡ Some k → weight (node (Dot k) rs (o ⊳ ε)) < weight (node Index ss (o ⊳ key ⊳ ε))
unfolding own_weight
member_lighter ss rs o key k h = let i = key_weighs key k h in omega (arith, i)

-- a text, a number or a truth in place of a member of a literal
pub literal_member_lighter : (k : List ℕ) (ss : List Span) (o u : Tree) → 0 < weight o → weight u ≤ 2 → weight u < weight (node (Dot k) ss (o ⊳ ε))
unfolding own_weight
literal_member_lighter k ss o u p h = omega arith

pub text_at_lighter : (k t u : List ℕ) (ss is rs : List Span) → weight (text_tree rs u) < weight (node (Dot k) ss (node (StrLit t) is ε ⊳ ε))
unfolding own_weight
text_at_lighter k t u ss is rs = omega arith

item_before_light : (w : Tree) → weight w ≤ 6 → (ks : List ItemKind) (us : Forest) (i : ℕ) (x : Tree) → item_at w ks us i ≡ Some x → weight_all (items_before ks us i) + weight x ≤ items_weight ks + weight_all us
item_before_light w l [] us i x h = absurd (none-some x h)
item_before_light w l (Hole ∷ ks) us zero x h = let e : weight w ≡ weight x = ap weight (same_Some _ _ h) in omega (arith, e, l)
item_before_light w l (Hole ∷ ks) us (suc i) x h = let j = item_before_light w l ks us i x h in omega (arith, j)
item_before_light w l (Plain ∷ ks) ε i x h = absurd (none-some x h)
item_before_light w l (Spread ∷ ks) ε i x h = absurd (none-some x h)
item_before_light w l (Plain ∷ ks) (u ⊳ us) zero x h = let e : weight u ≡ weight x = ap weight (same_Some _ _ h) in omega (arith, e)
item_before_light w l (Spread ∷ ks) (u ⊳ us) zero x h = let e : weight u ≡ weight x = ap weight (same_Some _ _ h) in omega (arith, e)
item_before_light w l (Plain ∷ ks) (u ⊳ us) (suc i) x h = let j = item_before_light w l ks us i x h in omega (arith, j)
item_before_light w l (Spread ∷ ks) (u ⊳ us) (suc i) x h = let j = item_before_light w l ks us i x h in omega (arith, j)

-- an item or a value in place of a member of a literal: even with `0,` in front it is lighter
pub array_at_roomy : (mark : ℕ) (w : Tree) (ks : List ItemKind) (us : Forest) (ss is rs : List Span) (k : List ℕ) (i : ℕ) (t : Tree) → weight w ≤ 6 → array_at mark rs w ks us i ≡ Some t → 2 + weight t < weight (node (Dot k) ss (node (Array ks) is us ⊳ ε))
unfolding own_weight
array_at_roomy mark w ks us ss is rs k i t l h =
    let p = if_gives (not (has_spread ks) && pure_all mark (items_behind ks us i)) _ t h in
    let r = found_some (item_at w ks us i) (λ x. Some (preserve rs (effects_all mark (items_before ks us i)) x)) t p.1 in
    let a = item_before_light w l ks us i r.0 r.1 in
    let b = all_light mark (items_before ks us i) in
    let c = preserve_light rs (effects_all mark (items_before ks us i)) r.0 in
    let e : weight (preserve rs (effects_all mark (items_before ks us i)) r.0) ≡ weight t = ap weight (same_Some _ _ r.2) in
    omega (arith, a, b, c, e)

named_light : (mark : ℕ) (k : List ℕ) (ts : Forest) (t : Tree) → value_named mark k ts ≡ Some t → weight t ≤ weight_all ts
unfolding own_weight
named_light mark k (node KeyValue ss (node (PlainKey l) rs ε ⊳ t ⊳ ε) ⊳ ts) u h = by_key (bytes_eq (key_name l) k) h (named_light mark k ts u)
  where
    by_key : (b : Bool) → (if b then (if none_named mark k ts then Some t else None) else (if pure mark t then value_named mark k ts else None)) ≡ Some u → (value_named mark k ts ≡ Some u → weight u ≤ weight_all ts) → weight u ≤ weight_all (node KeyValue ss (node (PlainKey l) rs ε ⊳ t ⊳ ε) ⊳ ts)
    by_key true h' next = let p = if_gives (none_named mark k ts) (Some t) u h' in let e : weight t ≡ weight u = ap weight (same_Some _ _ p.1) in omega (arith, e)
    by_key false h' next = let p = if_gives (pure mark t) (value_named mark k ts) u h' in let i = next p.1 in omega (arith, i)
named_light mark k _ u h = absurd (none-some u h)

pub value_named_roomy : (mark : ℕ) (k : List ℕ) (ss is : List Span) (ts : Forest) (t : Tree) → value_named mark k ts ≡ Some t → 2 + weight t < weight (node (Dot k) ss (node Object is ts ⊳ ε))
unfolding own_weight
value_named_roomy mark k ss is ts t h = let i = named_light mark k ts t h in omega (arith, i)
