-- What is left of an expression whose value is not used is left of it: parts that are drawn from it, and nodes that are built of these.
use Rattle.std.proofs.Common.{◌≡◌, ℕ, Bool, true, false, ◌&&◌, if◌then◌else◌, List, Option, refl, sym, ap, subst, ◌∙◌}
use Rattle.std.proofs.lemmas.Bool.{and_parts, and_from, false≢true}
use Rattle.swc_ast.specs.declared.Span.{Span}
use Rattle.swc_ast.specs.declared.BinaryOp.TheVariants.{LogicalOr, LogicalAnd}
use Rattle.swc_ast.specs.Tree.{Name, Label, ItemKind, Read, Template, Array, Object, KeyValue, Shorthand, Method, PlainKey, ComputedKey, Unary, Binary, Cond, Seq, Call, New, Tree, node, Forest, ε, ◌⊳◌}
use Rattle.swc_ast.specs.Scope.{joined}
use Rattle.swc_ast.specs.Valid.{is_identifier, good_names, good_shape, valid, valid_all}
use Rattle.swc_ast.specs.Resolved.{own_scopes}
use Rattle.static_proofs.specs.Names.{is_some_tree}
use Rattle.static_proofs.specs.Over.{Makes, Over, over_none, over_piece, over_made}
use Rattle.static_proofs.specs.Drawn.{all_of, AllDrawn, none_drawn, more_drawn, Drawn, nothing_of, part_of}
use Rattle.static_proofs.proofs.Drawn.{valid_below, valid_joined}
use Rattle.swc_utils.specs.Globals.{is_host_name}
use Rattle.swc_utils.proofs.Chains.{joined_assoc, joined_none}
use Rattle.pass_proofs.proofs.Remains.{Remains, goes as tree_goes, stays as tree_stays, opened as tree_opened, made}
use Rattle.pass_proofs.proofs.Leftovers.{operator_stands, array_stands, object_stands, sequence_made}
use Rattle.branch_rules.specs.Ignored.{as_one, key_parts, property_parts, properties_parts, Opens, operand, sides, items, properties, texts, arguments, new_arguments, Ignores, stays, goes, itself, opened, sequence, right_goes, right_left, right_runs, right_skipped, never_nullish, always_nullish, items_left, properties_left, arm_runs, arms_go, second_goes, first_goes, arms_left, IgnoresAll, none_left, one_goes, one_left, one_opens, ItemsLeft, no_items, item_goes, item_left, spread_stays, hole_goes, PropertiesLeft, no_properties, property_goes, property_stays}
use Rattle.branch_proofs.proofs.Becoming.{left_of}

module _ {V F : Type 0} where
  cond_stands : (cs : Forest) → Makes V F Cond cs
  unfolding own_scopes
  cond_stands cs = record { names = λ v. refl; shape = λ v. refl; numbers = λ f. refl; scope = λ f. refl; opens_none = λ x. refl; out = refl; no_function = refl; no_jump = λ g. refl }

  pub read_stands : (x : Name) → (V → is_identifier x.text ≡ true) → Makes V F (Read x) ε
  unfolding own_scopes
  read_stands x h = record { names = h; shape = λ v. refl; numbers = λ f. refl; scope = λ f. refl; opens_none = λ x. refl; out = refl; no_function = refl; no_jump = λ g. refl }

  one_made : (rs : List Span) (vs us : Forest) {ts : Forest} → Remains V F ts (joined vs us) → Remains V F ts (joined (left_of (as_one rs vs)) us)
  one_made rs ε us r = r
  one_made rs (t ⊳ ε) us r = r
  one_made rs (t ⊳ u ⊳ vs) us r = sequence_made rs t u vs r

-- validity of parts

-- a tree that is valid where V holds
pub record Good (V : Type 0) (t : Tree) : Type 0 where
  pub by : V → valid t ≡ true

pub record AllGood (V : Type 0) (ts : Forest) : Type 0 where
  pub by : V → valid_all ts ≡ true

pub good_below : {V : Type 0} {l : Label} {ss : List Span} {cs : Forest} → Good V (node l ss cs) → AllGood V cs
good_below {l = l} {ss} {cs} h = record { by = λ v. valid_below l ss cs (h.by v) }

pub head : {V : Type 0} {t : Tree} {ts : Forest} → AllGood V (t ⊳ ts) → Good V t
head {t = t} {ts} h = record { by = λ v. (and_parts (valid t) (valid_all ts) (h.by v)).0 }

pub tail : {V : Type 0} {t : Tree} {ts : Forest} → AllGood V (t ⊳ ts) → AllGood V ts
tail {t = t} {ts} h = record { by = λ v. (and_parts (valid t) (valid_all ts) (h.by v)).1 }

first_good : (ts us : Forest) → valid_all (joined ts us) ≡ true → valid_all ts ≡ true
first_good ε us h = refl
first_good (t ⊳ ts) us h = let p = and_parts (valid t) (valid_all (joined ts us)) h in and_from (valid t) (valid_all ts) p.0 (first_good ts us p.1)

pub all_good : {V : Type 0} (ts us : Forest) → (V → valid_all (joined ts us) ≡ true) → AllGood V ts
all_good ts us h = record { by = λ v. first_good ts us (h v) }

-- a sequence at the front of what is built gives way to its items
data First : Forest → Forest → Type 0 where
  first : {ss : List Span} {cs : Forest} (ds : Forest) → First (node Seq ss cs ⊳ ds) (joined cs ds)

some_first : {ps qs : Forest} → First ps qs → is_some_tree ps ≡ true
some_first (first ds) = refl

all_itself : (ts : Forest) → AllDrawn ts ts
all_itself ε = none_drawn
all_itself (t ⊳ ts) = more_drawn all_of (all_itself ts)

mutual
  open_one : {t : Tree} {ps qs : Forest} → Drawn t ps → First ps qs → Drawn t qs
  open_one nothing_of f = absurd (false≢true (some_first f))
  open_one all_of (first {ss} {cs} ds) = part_of refl (subst (AllDrawn cs) (sym (joined_none cs)) (all_itself cs))
  open_one (part_of e d) f = part_of e (open_all d f)

  open_all : {ts ps qs : Forest} → AllDrawn ts ps → First ps qs → AllDrawn ts qs
  open_all none_drawn f = absurd (false≢true (some_first f))
  open_all (more_drawn {us = ε} d ds) f = more_drawn nothing_of (open_all ds f)
  open_all {ts = t ⊳ ts} (more_drawn {us = x ⊳ xs} {vs = vs} d ds) (first {ss} {cs} _) = subst (AllDrawn (t ⊳ ts)) (joined_assoc cs xs vs) (more_drawn (open_one d (first xs)) ds)

module _ {V F : Type 0} where
  pub over_behind : {ts us vs ws : Forest} → Over V F ts us → Over V F vs ws → Over V F (joined ts vs) (joined us ws)
  over_behind over_none k = k
  over_behind (over_piece o) k = over_piece (over_behind o k)
  over_behind {vs = vs} {ws = ws} (over_made {l = l} {ss = ss} {us = es} {ws = bs} {ts = ds} {vs = cs} m o os) k = subst (λ z. Over V F z (node l ss bs ⊳ joined cs ws)) (sym (joined_assoc es ds vs)) (over_made m o (over_behind os k))

  pub over_itself : (ts : Forest) → Over V F ts ts
  over_itself ε = over_none
  over_itself (t ⊳ ts) = over_piece (over_itself ts)

  by_front : {ts ds us : Forest} (ss : List Span) (vs : Forest) → AllDrawn ts ds → Over V F ds (node Seq ss vs ⊳ us) → Remains V F ts (joined vs us)
  by_front ss vs d (over_piece {us = ds} o) = record { parts = joined vs ds; drawn = open_all d (first ds); built = over_behind (over_itself vs) o }
  by_front ss vs d (over_made m o os) = record { parts = _; drawn = d; built = over_behind o os }

  unbundled : (ss : List Span) (vs : Forest) {ts us : Forest} → Remains V F ts (node Seq ss vs ⊳ us) → Remains V F ts (joined vs us)
  unbundled ss vs r = by_front ss vs r.drawn r.built

-- validity

key_valid : (k : Tree) → valid k ≡ true → valid_all (key_parts k) ≡ true
key_valid (node ComputedKey ss ts) h = valid_below ComputedKey ss ts h
key_valid (node (PlainKey k) ss ts) h = refl
key_valid k h = and_from (valid k) true h refl

host_valid : (x : Name) (ss : List Span) (b : Bool) → is_identifier x.text ≡ true → valid_all (if b then node (Read x) ss ε ⊳ ε else ε) ≡ true
host_valid x ss true h = ap (λ z. ((z && true) && true) && true) h
host_valid x ss false h = refl

property_valid : (mark : ℕ) (t : Tree) → valid t ≡ true → valid_all (property_parts mark t) ≡ true
property_valid mark (node KeyValue ss (k ⊳ v ⊳ ε)) h = let p = and_parts (valid k) (valid_all (v ⊳ ε)) (valid_below KeyValue ss (k ⊳ v ⊳ ε) h) in valid_joined (key_parts k) (v ⊳ ε) (key_valid k p.0) p.1
property_valid mark (node (Shorthand x) ss ts) h = host_valid x ss (is_host_name mark x) (and_parts (is_identifier x.text) true (and_parts (good_names (Shorthand x) && good_shape (Shorthand x) ts) (valid_all ts) h).0).0
property_valid mark (node Method ss (k ⊳ ts)) h = key_valid k (and_parts (valid k) (valid_all ts) (valid_below Method ss (k ⊳ ts) h)).0
property_valid mark t h = and_from (valid t) true h refl

properties_valid : (mark : ℕ) (ts : Forest) → valid_all ts ≡ true → valid_all (properties_parts mark ts) ≡ true
properties_valid mark ε h = refl
properties_valid mark (t ⊳ ts) h = let p = and_parts (valid t) (valid_all ts) h in valid_joined (property_parts mark t) (properties_parts mark ts) (property_valid mark t p.0) (properties_valid mark ts p.1)

module _ {V : Type 0} where
  parts_valid : {mark : ℕ} {t : Tree} {cs : Forest} → Opens mark t cs → Good V t → AllGood V cs
  parts_valid (operand op ss a) v = good_below v
  parts_valid (sides op ss a b e) v = good_below v
  parts_valid (items ks ss cs e) v = good_below v
  parts_valid {mark} (properties ss cs e) v = record { by = λ i. properties_valid mark cs ((good_below v).by i) }
  parts_valid (texts qs ss cs) v = good_below v
  parts_valid (arguments ss f cs e) v = tail (good_below v)
  parts_valid (new_arguments ss f cs x e) v = tail (good_below v)

-- lists, of which the second lacks names that may be made anew
data Lessens (V : Type 0) : Forest → Forest → Type 0 where
  none_less : Lessens V ε ε
  kept_there : (t : Tree) {ts us : Forest} → Lessens V ts us → Lessens V (t ⊳ ts) (t ⊳ us)
  name_less : (x : Name) (ss : List Span) {ts us : Forest} → (V → is_identifier x.text ≡ true) → Lessens V ts us → Lessens V (node (Read x) ss ε ⊳ ts) us

-- what is less than two lists
record LessApart (V : Type 0) (us vs ws : Forest) : Type 0 where
  first : Forest
  second : Forest
  together : ws ≡ joined first second
  of_first : Lessens V us first
  of_second : Lessens V vs second

module _ {V : Type 0} where
  same_less : (ts : Forest) → Lessens V ts ts
  same_less ε = none_less
  same_less (t ⊳ ts) = kept_there t (same_less ts)

  less_joined : {ts us vs ws : Forest} → Lessens V ts us → Lessens V vs ws → Lessens V (joined ts vs) (joined us ws)
  less_joined none_less k = k
  less_joined (kept_there t h) k = kept_there t (less_joined h k)
  less_joined (name_less x ss v h) k = name_less x ss v (less_joined h k)

  less_apart : (us vs : Forest) {ws : Forest} → Lessens V (joined us vs) ws → LessApart V us vs ws
  less_apart ε vs {ws} h = record { first = ε; second = ws; together = refl; of_first = none_less; of_second = h }
  less_apart (u ⊳ us) vs (kept_there t h) = let r = less_apart us vs h in record { first = u ⊳ r.first; second = r.second; together = ap (λ zs. u ⊳ zs) r.together; of_first = kept_there u r.of_first; of_second = r.of_second }
  less_apart (u ⊳ us) vs (name_less x ss v h) = let r = less_apart us vs h in record { first = r.first; second = r.second; together = r.together; of_first = name_less x ss v r.of_first; of_second = r.of_second }

-- what is drawn from two lists
record Apart (ts us ds : Forest) : Type 0 where
  first : Forest
  second : Forest
  together : ds ≡ joined first second
  of_first : AllDrawn ts first
  of_second : AllDrawn us second

apart : (ts us : Forest) {ds : Forest} → AllDrawn (joined ts us) ds → Apart ts us ds
apart ε us {ds} d = record { first = ε; second = ds; together = refl; of_first = none_drawn; of_second = d }
apart (t ⊳ ts) us (more_drawn {us = xs} d ds) =
    let r = apart ts us ds in
    record { first = joined xs r.first; second = r.second; together = ap (joined xs) r.together ∙ sym (joined_assoc xs r.first r.second); of_first = more_drawn d r.of_first; of_second = r.of_second }

drawn_joined : {ts us ps qs : Forest} → AllDrawn ts ps → AllDrawn us qs → AllDrawn (joined ts us) (joined ps qs)
drawn_joined none_drawn k = k
drawn_joined {ts = t ⊳ ts} {us} {qs = qs} (more_drawn {us = xs} {vs = ys} d ds) k = subst (AllDrawn (t ⊳ joined ts us)) (sym (joined_assoc xs ys qs)) (more_drawn d (drawn_joined ds k))

-- what is drawn from the parts of a property is drawn from the property, but for names that it stands for
record Narrows (V : Type 0) (ts ps : Forest) : Type 0 where
  found : Forest
  drawn : AllDrawn ts found
  less : Lessens V ps found

pub drawn_one : {t : Tree} {ps : Forest} → AllDrawn (t ⊳ ε) ps → Drawn t ps
drawn_one {t} (more_drawn {us = us} d none_drawn) = subst (Drawn t) (sym (joined_none us)) d

key_drawn : (k : Tree) (others : Forest) {ps : Forest} → AllDrawn (joined (key_parts k) others) ps → AllDrawn (k ⊳ others) ps
key_drawn (node ComputedKey ss ts) others d = let r = apart ts others d in subst (AllDrawn (node ComputedKey ss ts ⊳ others)) (sym r.together) (more_drawn (part_of refl r.of_first) r.of_second)
key_drawn (node (PlainKey k) ss ts) others d = more_drawn nothing_of d
key_drawn k others d = d

nothing_more : (ts : Forest) {ps : Forest} → AllDrawn ε ps → AllDrawn ts ps
nothing_more ε d = d
nothing_more (t ⊳ ts) d = more_drawn nothing_of (nothing_more ts d)

drawn_more : (k : Tree) (ts : Forest) {ps : Forest} → AllDrawn (k ⊳ ε) ps → AllDrawn (k ⊳ ts) ps
drawn_more k ts (more_drawn d ds) = more_drawn d (nothing_more ts ds)

behind_nothing : (k : Tree) {ps : Forest} → AllDrawn (key_parts k) ps → AllDrawn (joined (key_parts k) ε) ps
behind_nothing k {ps} d = subst (λ zs. AllDrawn zs ps) (sym (joined_none (key_parts k))) d

module _ {V : Type 0} where
  as_one_drawn : {t : Tree} {ps qs : Forest} → Drawn t qs → Lessens V ps qs → Narrows V (t ⊳ ε) ps
  as_one_drawn {t} {ps} {qs} d h = record { found = qs; drawn = subst (AllDrawn (t ⊳ ε)) (joined_none qs) (more_drawn d none_drawn); less = h }

  host_drawn : (x : Name) (ss : List Span) (ts : Forest) (b : Bool) {ps : Forest} → (V → is_identifier x.text ≡ true) → AllDrawn (if b then node (Read x) ss ε ⊳ ε else ε) ps → Narrows V (node (Shorthand x) ss ts ⊳ ε) ps
  host_drawn x ss ts true v (more_drawn nothing_of none_drawn) = as_one_drawn nothing_of none_less
  host_drawn x ss ts true v (more_drawn all_of none_drawn) = as_one_drawn nothing_of (name_less x ss v none_less)
  host_drawn x ss ts true v (more_drawn (part_of e none_drawn) none_drawn) = as_one_drawn nothing_of none_less
  host_drawn x ss ts false v none_drawn = as_one_drawn nothing_of none_less

  property_drawn : (mark : ℕ) (t : Tree) {ps : Forest} → Good V t → AllDrawn (property_parts mark t) ps → Narrows V (t ⊳ ε) ps
  property_drawn mark (node KeyValue ss (k ⊳ v ⊳ ε)) {ps} h d = as_one_drawn (part_of refl (key_drawn k (v ⊳ ε) d)) (same_less ps)
  property_drawn mark (node (Shorthand x) ss ts) h d = host_drawn x ss ts (is_host_name mark x) (λ v. (and_parts (is_identifier x.text) true (and_parts (good_names (Shorthand x) && good_shape (Shorthand x) ts) (valid_all ts) (h.by v)).0).0) d
  property_drawn mark (node Method ss (k ⊳ ts)) {ps} h d = as_one_drawn (part_of refl (drawn_more k ts (key_drawn k ε (behind_nothing k d)))) (same_less ps)
  property_drawn mark t {ps} h d = as_one_drawn (drawn_one d) (same_less ps)

  properties_drawn : (mark : ℕ) (ts : Forest) {ps : Forest} → AllGood V ts → AllDrawn (properties_parts mark ts) ps → Narrows V ts ps
  properties_drawn mark ε {ps} h d = record { found = ps; drawn = d; less = same_less ps }
  properties_drawn mark (t ⊳ ts) {ps} h d =
      let r = apart (property_parts mark t) (properties_parts mark ts) d in
      let p = property_drawn mark t (head h) r.of_first in
      let q = properties_drawn mark ts (tail h) r.of_second in
      record { found = joined p.found q.found; drawn = drawn_joined p.drawn q.drawn; less = subst (λ zs. Lessens V zs (joined p.found q.found)) (sym r.together) (less_joined p.less q.less) }

module _ {V F : Type 0} where
  -- what is built with names may be built without them
  over_less : {ts us vs : Forest} → Over V F ts vs → Lessens V ts us → Over V F us vs
  over_less over_none none_less = over_none
  over_less (over_piece o) (kept_there t h) = over_piece (over_less o h)
  over_less (over_piece o) (name_less x ss v h) = over_made (read_stands x v) over_none (over_less o h)
  over_less {vs = node l ss ws ⊳ vs} (over_made {us = us} {ts = ts} m o os) h = let r = less_apart us ts h in subst (λ zs. Over V F zs (node l ss ws ⊳ vs)) (sym r.together) (over_made m (over_less o r.of_first) (over_less os r.of_second))

  properties_opened : (mark : ℕ) (ts rest : Forest) {us : Forest} → AllGood V ts → Remains V F (joined (properties_parts mark ts) rest) us → Remains V F (joined ts rest) us
  properties_opened mark ts rest {us} h r =
      let a = apart (properties_parts mark ts) rest r.drawn in
      let p = properties_drawn mark ts h a.of_first in
      record { parts = joined p.found a.second; drawn = drawn_joined p.drawn a.of_second; built = over_less (subst (λ zs. Over V F zs us) a.together r.built) (less_joined p.less (same_less a.second)) }

  -- parts of an expression

  parts_left : {mark : ℕ} {t : Tree} {cs : Forest} → Opens mark t cs → {rest us : Forest} → Good V t → Remains V F (joined cs rest) us → Remains V F (t ⊳ rest) us
  parts_left (operand op ss a) h r = tree_opened (Unary op) ss (a ⊳ ε) refl r
  parts_left (sides op ss a b e) h r = tree_opened (Binary op) ss (a ⊳ b ⊳ ε) refl r
  parts_left (items ks ss cs e) h r = tree_opened (Array ks) ss cs refl r
  parts_left {mark} (properties ss cs e) {rest} h r = tree_opened Object ss cs refl (properties_opened mark cs rest (good_below h) r)
  parts_left (texts qs ss cs) h r = tree_opened (Template qs) ss cs refl r
  parts_left (arguments ss f cs e) h r = tree_opened Call ss (f ⊳ cs) refl (tree_goes f r)
  parts_left (new_arguments ss f cs x e) h r = tree_opened New ss (f ⊳ cs) refl (tree_goes f r)

  -- the arm that is run
  arm_left : (known : Bool) (a b : Tree) {rest us vs : Forest} → AllGood V (a ⊳ b ⊳ ε) → ((xs : Forest) → Good V (if known then a else b) → Remains V F xs us → Remains V F ((if known then a else b) ⊳ xs) vs) → Remains V F rest us → Remains V F (a ⊳ b ⊳ rest) vs
  arm_left true a b v f r = f _ (head v) (tree_goes b r)
  arm_left false a b v f r = tree_goes a (f _ (head (tail v)) r)

  module _ {mark : ℕ} where
    mutual
      pub ignores_left : {k : Bool} {t : Tree} {o : Option Tree} → Ignores mark k t o → {rest us : Forest} → Good V t → Remains V F rest us → Remains V F (t ⊳ rest) (joined (left_of o) us)
      ignores_left (stays t) v r = tree_stays t r
      ignores_left (goes t e p) v r = tree_goes t r
      ignores_left (itself x ss rs e) v r = tree_goes _ r
      ignores_left (opened {us = us} rs p h) v r = one_made rs us _ (parts_left p v (ignores_all_left h (parts_valid p v) r))
      ignores_left (sequence ss rs cs {us} h) v r = one_made rs us _ (tree_opened Seq ss cs refl (ignores_all_left h (good_below v) r))
      ignores_left (right_goes op ss a b m h i) v r = tree_opened (Binary op) ss (a ⊳ b ⊳ ε) refl (ignores_left i (head (good_below v)) (tree_goes b r))
      ignores_left (right_left op ss rs a b w m h) v r = made (Binary op) rs (a ⊳ w ⊳ ε) (operator_stands op _) (tree_opened (Binary op) ss (a ⊳ b ⊳ ε) refl (tree_stays a (ignores_left h (head (tail (good_below v))) r)))
      ignores_left (right_runs op ss a b known p e q h) v r = tree_opened (Binary op) ss (a ⊳ b ⊳ ε) refl (tree_goes a (ignores_left h (head (tail (good_below v))) r))
      ignores_left (right_skipped op ss a b known e q h) v r = tree_opened (Binary op) ss (a ⊳ b ⊳ ε) refl (ignores_left h (head (good_below v)) (tree_goes b r))
      ignores_left (never_nullish ss a b τ e q h) v r = tree_opened _ ss (a ⊳ b ⊳ ε) refl (ignores_left h (head (good_below v)) (tree_goes b r))
      ignores_left (always_nullish ss a b τ p e q h) v r = tree_opened _ ss (a ⊳ b ⊳ ε) refl (tree_goes a (ignores_left h (head (tail (good_below v))) r))
      ignores_left (items_left ks ls ss rs cs vs h) v r = made (Array ls) rs vs (array_stands ls vs) (tree_opened (Array ks) ss cs refl (array_left h (good_below v) r))
      ignores_left (properties_left ss rs cs vs h) v r = made Object rs vs (object_stands vs) (tree_opened Object ss cs refl (object_left h r))
      ignores_left (arm_runs ss t a b known p e h) v r = tree_opened Cond ss (t ⊳ a ⊳ b ⊳ ε) refl (tree_goes t (arm_left known a b (tail (good_below v)) (λ xs w q. ignores_left h w q) r))
      ignores_left (arms_go ss t a b h i j) v r = tree_opened Cond ss (t ⊳ a ⊳ b ⊳ ε) refl (ignores_left j (head (good_below v)) (tree_goes a (tree_goes b r)))
      ignores_left (second_goes ss rs t a b w h i) v r = made (Binary LogicalAnd) rs (t ⊳ w ⊳ ε) (operator_stands LogicalAnd _) (tree_opened Cond ss (t ⊳ a ⊳ b ⊳ ε) refl (tree_stays t (ignores_left h (head (tail (good_below v))) (tree_goes b r))))
      ignores_left (first_goes ss rs t a b w h i) v r = made (Binary LogicalOr) rs (t ⊳ w ⊳ ε) (operator_stands LogicalOr _) (tree_opened Cond ss (t ⊳ a ⊳ b ⊳ ε) refl (tree_stays t (tree_goes a (ignores_left i (head (tail (tail (good_below v)))) r))))
      ignores_left (arms_left ss rs t a b w x h i k) v r = made Cond rs (t ⊳ w ⊳ x ⊳ ε) (cond_stands _) (tree_opened Cond ss (t ⊳ a ⊳ b ⊳ ε) refl (tree_stays t (ignores_left h (head (tail (good_below v))) (ignores_left i (head (tail (tail (good_below v)))) r))))

      pub ignores_all_left : {k : Bool} {ts vs : Forest} → IgnoresAll mark k ts vs → {rest us : Forest} → AllGood V ts → Remains V F rest us → Remains V F (joined ts rest) (joined vs us)
      ignores_all_left none_left v r = r
      ignores_all_left (one_goes t h i) v r = ignores_left h (head v) (ignores_all_left i (tail v) r)
      ignores_all_left (one_left t w h i) v r = ignores_left h (head v) (ignores_all_left i (tail v) r)
      ignores_all_left (one_opens t ss vs {ts} {us} h i) {us = ws} v r = subst (Remains V F _) (sym (joined_assoc vs us ws)) (unbundled ss vs (ignores_left h (head v) (ignores_all_left i (tail v) r)))

      array_left : {k : Bool} {ks ls : List ItemKind} {cs vs : Forest} → ItemsLeft mark k ks cs ls vs → {rest us : Forest} → AllGood V cs → Remains V F rest us → Remains V F (joined cs rest) (joined vs us)
      array_left no_items v r = r
      array_left (item_goes t h i) v r = ignores_left h (head v) (array_left i (tail v) r)
      array_left (item_left t w h i) v r = ignores_left h (head v) (array_left i (tail v) r)
      array_left (spread_stays t i) v r = tree_stays t (array_left i (tail v) r)
      array_left (hole_goes i) v r = array_left i v r

      object_left : {k : Bool} {cs vs : Forest} → PropertiesLeft mark k cs vs → {rest us : Forest} → Remains V F rest us → Remains V F (joined cs rest) (joined vs us)
      object_left no_properties r = r
      object_left (property_goes k ss rs v l e i) r = tree_goes _ (object_left i r)
      object_left (property_stays t i) r = tree_stays t (object_left i r)
