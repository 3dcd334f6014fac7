-- What is left of an expression whose value is not used is no heavier, and where it is something else, lighter.
use Rattle.std.proofs.Common.{◌≡◌, ℕ, zero, suc, pos, negsuc, ◌+◌, ◌≤◌, Bool, true, false, ◌||◌, if◌then◌else◌, List, Option, arith}
use Rattle.std.proofs.lemmas.Bool.{false≢true}
use Rattle.swc_ast.specs.declared.Span.{Span}
use Rattle.swc_ast.specs.Tree.{ItemKind, NumLit, StrLit, BoolLit, NullLit, This, Read, Template, Array, Object, KeyValue, Shorthand, Method, PlainKey, ComputedKey, Fn, Arrow, Unary, TypeOfName, Binary, Cond, Seq, Call, Tree, node, Forest, ε, ◌⊳◌, label_of}
use Rattle.swc_ast.specs.Resolved.{one_if}
use Rattle.swc_ast.specs.Weight.{own_weight, items_weight, weight, weight_all}
use Rattle.swc_ast.specs.Labels.{is_expression}
use Rattle.static_proofs.proofs.Drawn.{weight_joined}
use Rattle.swc_utils.specs.Globals.{is_host_name}
use Rattle.swc_utils.specs.Pure.{pure}
use Rattle.branch_rules.specs.Ignored.{as_one, key_parts, property_parts, properties_parts, Opens, operand, sides, items, properties, texts, arguments, new_arguments, Ignores, stays, goes, itself, opened, sequence, right_goes, right_left, right_runs, right_skipped, never_nullish, always_nullish, items_left, properties_left, arm_runs, arms_go, second_goes, first_goes, arms_left, IgnoresAll, none_left, one_goes, one_left, one_opens, ItemsLeft, no_items, item_goes, item_left, spread_stays, hole_goes, PropertiesLeft, no_properties, property_goes, property_stays}
use Rattle.branch_proofs.proofs.Becoming.{left_of}

-- one step of two, and at least one of two
either_most : (c d : Bool) → one_if (c || d) ≤ one_if c + one_if d
either_most true d = omega arith
either_most false d = omega arith

some_step : (c d : Bool) → (c || d) ≡ true → 1 ≤ one_if c + one_if d
some_step true d h = omega arith
some_step false true h = omega arith
some_step false false h = absurd (false≢true h)

-- a pure expression weighs something
pub pure_weighs : (mark : ℕ) (t : Tree) → is_expression (label_of t) ≡ true → pure mark t ≡ true → 1 ≤ weight t
unfolding own_weight
pure_weighs mark (node (NumLit (pos zero)) ss cs) e h = omega arith
pure_weighs mark (node (NumLit (pos (suc n))) ss cs) e h = omega arith
pure_weighs mark (node (NumLit (negsuc n)) ss cs) e h = omega arith
pure_weighs mark (node (StrLit t) ss cs) e h = omega arith
pure_weighs mark (node (BoolLit b) ss cs) e h = omega arith
pure_weighs mark (node NullLit ss cs) e h = omega arith
pure_weighs mark (node This ss cs) e h = omega arith
pure_weighs mark (node (Read x) ss cs) e h = omega arith
pure_weighs mark (node (Template qs) ss cs) e h = omega arith
pure_weighs mark (node (Array ks) ss cs) e h = omega arith
pure_weighs mark (node Object ss cs) e h = omega arith
pure_weighs mark (node (Fn o) ss cs) e h = omega arith
pure_weighs mark (node Arrow ss cs) e h = omega arith
pure_weighs mark (node (Unary op) ss cs) e h = omega arith
pure_weighs mark (node (TypeOfName x) ss cs) e h = omega arith
pure_weighs mark (node (Binary op) ss cs) e h = omega arith
pure_weighs mark (node Cond ss cs) e h = omega arith
pure_weighs mark (node Seq ss cs) e h = omega arith
pure_weighs mark (node Call ss cs) e h = omega arith
pure_weighs mark (node KeyValue ss cs) e h = absurd (false≢true e)
pure_weighs mark (node Method ss cs) e h = absurd (false≢true e)
pure_weighs mark (node (Shorthand x) ss cs) e h = absurd (false≢true e)
pure_weighs mark (node (PlainKey k) ss cs) e h = absurd (false≢true e)
pure_weighs mark (node ComputedKey ss cs) e h = absurd (false≢true e)
pure_weighs mark _ e h = absurd (false≢true h)

one_light : (rs : List Span) (us : Forest) → weight_all (left_of (as_one rs us)) ≤ 1 + weight_all us
unfolding own_weight
one_light rs ε = omega arith
one_light rs (t ⊳ ε) = omega arith
one_light rs (t ⊳ u ⊳ ts) = omega arith

-- properties

key_light : (k : Tree) → weight_all (key_parts k) ≤ weight k
unfolding own_weight
key_light (node ComputedKey ss ts) = omega arith
key_light (node (PlainKey k) ss ts) = omega arith
key_light k = omega arith

host_light : (b : Bool) (us : Forest) (n : ℕ) → weight_all us ≤ n → weight_all (if b then us else ε) ≤ n
host_light true us n h = h
host_light false us n h = omega arith

property_light : (mark : ℕ) (t : Tree) → weight_all (property_parts mark t) ≤ weight t
unfolding own_weight
property_light mark (node KeyValue ss (k ⊳ v ⊳ ε)) = omega (arith, key_light k, weight_joined (key_parts k) (v ⊳ ε))
property_light mark (node (Shorthand x) ss ts) = host_light (is_host_name mark x) (node (Read x) ss ε ⊳ ε) (3 + weight_all ts) (omega arith)
property_light mark (node Method ss (k ⊳ ts)) = omega (arith, key_light k)
property_light mark t = omega arith

properties_light : (mark : ℕ) (ts : Forest) → weight_all (properties_parts mark ts) ≤ weight_all ts
properties_light mark ε = omega arith
properties_light mark (t ⊳ ts) = omega (arith, property_light mark t, properties_light mark ts, weight_joined (property_parts mark t) (properties_parts mark ts))

opens_light : {mark : ℕ} {t : Tree} {cs : Forest} → Opens mark t cs → 2 + weight_all cs ≤ weight t
unfolding own_weight
opens_light (operand op ss a) = omega arith
opens_light (sides op ss a b e) = omega arith
opens_light (items ks ss cs e) = omega arith
opens_light {mark} (properties ss cs e) = omega (arith, properties_light mark cs)
opens_light (texts qs ss cs) = omega arith
opens_light (arguments ss f cs e) = omega arith
opens_light (new_arguments ss f cs x e) = omega arith

arm_light : (b : Bool) (m n k : ℕ) (a c : Tree) → k ≤ weight (if b then a else c) → k ≤ weight a + weight c
arm_light true m n k a c h = omega (arith, h)
arm_light false m n k a c h = omega (arith, h)

module _ {mark : ℕ} where
  mutual
    unfolding own_weight

    pub ignores_light : {k : Bool} {t : Tree} {o : Option Tree} → Ignores mark k t o → one_if k + weight_all (left_of o) ≤ weight t
    ignores_light (stays t) = omega arith
    ignores_light (goes t e p) = omega (arith, pure_weighs mark t e p)
    ignores_light (itself x ss rs e) = omega arith
    ignores_light (opened {us = us} rs p h) = omega (arith, opens_light p, ignores_all_light h, one_light rs us)
    ignores_light (sequence ss rs cs {us} h) = omega (arith, ignores_all_light h, one_light rs us)
    ignores_light (right_goes {c = c} op ss a b m h i) = omega (arith, ignores_light i)
    ignores_light (right_left op ss rs a b v m h) = omega (arith, ignores_light h)
    ignores_light (right_runs op ss a b known p e q h) = omega (arith, ignores_light h)
    ignores_light (right_skipped op ss a b known e q h) = omega (arith, ignores_light h)
    ignores_light (never_nullish ss a b τ e q h) = omega (arith, ignores_light h)
    ignores_light (always_nullish ss a b τ p e q h) = omega (arith, ignores_light h)
    ignores_light (items_left ks ls ss rs cs vs h) = omega (arith, items_light h)
    ignores_light (properties_left ss rs cs vs h) = omega (arith, properties_lighter h)
    ignores_light (arm_runs {c = c} {o = o} ss t a b known p e h) = omega (arith, arm_light known 0 0 (one_if c + weight_all (left_of o)) a b (ignores_light h))
    ignores_light (arms_go ss t a b h i j) = omega (arith, ignores_light j)
    ignores_light (second_goes ss rs t a b v h i) = omega (arith, ignores_light h)
    ignores_light (first_goes ss rs t a b v h i) = omega (arith, ignores_light i)
    ignores_light (arms_left {c = c} {d = d} ss rs t a b v w h i k) = omega (arith, ignores_light h, ignores_light i, some_step c d k)

    pub ignores_all_light : {k : Bool} {ts us : Forest} → IgnoresAll mark k ts us → one_if k + weight_all us ≤ weight_all ts
    ignores_all_light none_left = omega arith
    ignores_all_light (one_goes t h i) = omega (arith, ignores_light h, ignores_all_light i)
    ignores_all_light (one_left {c = c} {d = d} t u h i) = omega (arith, ignores_light h, ignores_all_light i, either_most c d)
    ignores_all_light (one_opens t ss vs {us = us} h i) = omega (arith, ignores_light h, ignores_all_light i, weight_joined vs us)

    items_light : {k : Bool} {ks ls : List ItemKind} {cs vs : Forest} → ItemsLeft mark k ks cs ls vs → one_if k + (items_weight ls + weight_all vs) ≤ items_weight ks + weight_all cs
    items_light no_items = omega arith
    items_light (item_goes t h i) = omega (arith, ignores_light h, items_light i)
    items_light (item_left {c = c} {d = d} t v h i) = omega (arith, ignores_light h, items_light i, either_most c d)
    items_light (spread_stays t i) = omega (arith, items_light i)
    items_light (hole_goes i) = omega (arith, items_light i)

    properties_lighter : {k : Bool} {cs vs : Forest} → PropertiesLeft mark k cs vs → one_if k + weight_all vs ≤ weight_all cs
    properties_lighter no_properties = omega arith
    properties_lighter (property_goes k ss rs v l e i) = omega (arith, properties_lighter i)
    properties_lighter (property_stays t i) = omega (arith, properties_lighter i)
