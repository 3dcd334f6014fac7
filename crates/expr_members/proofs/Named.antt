-- The properties of an object round the one of a key.
use Rattle.std.proofs.Common.{◌≡◌, ℕ, zero, suc, ◌+◌, ◌<◌, Bool, true, false, not, ◌&&◌, if◌then◌else◌, List, [], ◌∷◌, length, take, drop, get_or, Some, None, bytes_eq, refl, sym, ap, subst, ◌∙◌, arith}
use Rattle.std.proofs.lemmas.Bool.{false≢true}
use Rattle.swc_ast.specs.Meaning.{key_name}
use Rattle.swc_ast.specs.Tree.{KeyValue, PlainKey, Tree, node, Forest, ε, ◌⊳◌}
use Rattle.swc_ast.specs.Expressions.{key_tree}
use Rattle.swc_ast.specs.Views.{expr_tree, prop_or_spread_tree}
use Rattle.swc_ast.specs.declared.expressions.Expr.{Expr}
use Rattle.swc_ast.specs.declared.expressions.PropName.{PropName}
use Rattle.swc_ast.specs.declared.expressions.PropName.TheVariants as key
use Rattle.swc_ast.specs.declared.expressions.PropOrSpread.{PropOrSpread}
use Rattle.swc_utils.specs.Literals.{is_plain_key}
use Rattle.swc_utils.specs.Pure.{pure}
use Rattle.expr_rules.specs.Members.{none_named, value_named}
use Rattle.expr_members.specs.Objects.{has_text, has_key, value_of, IsPlace}
use Rattle.expr_members.proofs.Props.{trees_of}

-- truth values

with_true : (a b : Bool) → (a && (b && true)) ≡ (a && b)
with_true true true = refl
with_true true false = refl
with_true false b = refl

and_assoc : (a b c : Bool) → (a && (b && c)) ≡ ((a && (b && true)) && c)
and_assoc true true c = refl
and_assoc true false c = refl
and_assoc false b c = refl

left_true : (a b : Bool) → (a && b) ≡ true → a ≡ true
left_true true b h = refl
left_true false b h = absurd (false≢true h)

right_true : (a b : Bool) → (a && b) ≡ true → b ≡ true
right_true true b h = h
right_true false b h = absurd (false≢true h)

-- one property

pub prop_other : (mark : ℕ) (k : List ℕ) (p : PropName Expr) (t : Tree) → none_named mark k (node KeyValue [] (key_tree expr_tree p ⊳ t ⊳ ε) ⊳ ε) ≡ (is_plain_key p && (not (has_text k (key_tree expr_tree p)) && pure mark t))
prop_other mark k (key.Ident n) t = with_true _ (pure mark t)
prop_other mark k (key.Str n) t = with_true _ (pure mark t)
prop_other mark k (key.Num n) t = with_true _ (pure mark t)
prop_other mark k (key.Computed n) t = refl

-- several

pub none_cons : (mark : ℕ) (k : List ℕ) (t : Tree) (ts : Forest) → none_named mark k (t ⊳ ts) ≡ (none_named mark k (t ⊳ ε) && none_named mark k ts)
none_cons mark k (node KeyValue ss (node (PlainKey l) rs ε ⊳ t ⊳ ε)) ts = and_assoc (not (bytes_eq (key_name l) k)) (pure mark t) (none_named mark k ts)
none_cons mark k t ts = refl

-- in front of the property
passed : (mark : ℕ) (k : List ℕ) (t : Tree) (ts : Forest) → none_named mark k (t ⊳ ε) ≡ true → value_named mark k (t ⊳ ts) ≡ value_named mark k ts
passed mark k (node KeyValue ss (node (PlainKey l) rs ε ⊳ t ⊳ ε)) ts h = by (bytes_eq (key_name l) k) (pure mark t) h
  where
    by : (b p : Bool) → (not b && (p && true)) ≡ true → (if b then (if none_named mark k ts then Some t else None) else (if p then value_named mark k ts else None)) ≡ value_named mark k ts
    by true p h = absurd (false≢true h)
    by false true h = refl
    by false false h = absurd (false≢true h)
passed mark k t ts h = absurd (false≢true h)

-- at it
found : (mark : ℕ) (k : List ℕ) (t u : Tree) (ts : Forest) → has_key k t ≡ true → none_named mark k ts ≡ true → value_of t ≡ Some u → value_named mark k (t ⊳ ts) ≡ Some u
found mark k (node KeyValue ss (node (PlainKey l) rs ε ⊳ t ⊳ ε)) u ts named others is = by (bytes_eq (key_name l) k) (none_named mark k ts) named others ∙ is
  where
    by : (b n : Bool) → b ≡ true → n ≡ true → (if b then (if n then Some t else None) else (if pure mark t then value_named mark k ts else None)) ≡ Some t
    by true true h g = refl
    by true false h g = absurd (false≢true g)
    by false n h g = absurd (false≢true h)
found mark k (node KeyValue ss (t ⊳ v ⊳ ε)) u ts named others is = absurd (false≢true named)
found mark k t u ts named others is = absurd (false≢true named)

pub value_found : (mark : ℕ) (k : List ℕ) (ps : List PropOrSpread) (i : ℕ) (p : PropOrSpread) (u : Tree) → i < length ps → p ≡ get_or ps i p → has_key k (prop_or_spread_tree p) ≡ true → none_named mark k (trees_of (take i ps)) ≡ true → none_named mark k (trees_of (drop (suc i) ps)) ≡ true → value_of (prop_or_spread_tree p) ≡ Some u → value_named mark k (trees_of ps) ≡ Some u
value_found mark k [] i p u within at named front behind is = absurd (omega (arith, within))
value_found mark k (q ∷ ps) zero p u within at named front behind is = found mark k (prop_or_spread_tree q) u (trees_of ps) (subst (λ r. has_key k (prop_or_spread_tree r) ≡ true) at named) behind (subst (λ r. value_of (prop_or_spread_tree r) ≡ Some u) at is)
value_found mark k (q ∷ ps) (suc i) p u within at named front behind is =
    let both = sym (none_cons mark k (prop_or_spread_tree q) (trees_of (take i ps))) ∙ front in
    passed mark k (prop_or_spread_tree q) (trees_of ps) (left_true _ (none_named mark k (trees_of (take i ps))) both)
    ∙ value_found mark k ps i p u (omega (arith, within)) at named (right_true (none_named mark k (prop_or_spread_tree q ⊳ ε)) _ both) behind is

has_value : (k : List ℕ) (t : Tree) → has_key k t ≡ true → (u : Tree) × (value_of t ≡ Some u)
has_value k (node KeyValue ss (t ⊳ u ⊳ ε)) h = (u, refl)
has_value k t h = absurd (false≢true h)

pub place_value : (mark : ℕ) (k : List ℕ) (ps : List PropOrSpread) (i : ℕ) (p : PropOrSpread) (e : Expr) → IsPlace k ps i → p ≡ get_or ps i p → none_named mark k (trees_of (take i ps)) ≡ true → none_named mark k (trees_of (drop (i + 1) ps)) ≡ true → ((t : Tree) → value_of (prop_or_spread_tree p) ≡ Some t → t ≡ expr_tree e) → value_named mark k (trees_of ps) ≡ Some (expr_tree e)
place_value mark k ps i p e place at front behind value =
    let named = place.1 p at in
    let it = has_value k (prop_or_spread_tree p) named in
    value_found mark k ps i p it.0 place.0 at named front (ap (λ j. none_named mark k (trees_of (drop j ps))) (next i) ∙ behind) it.1 ∙ ap Some (value it.0 it.1)
  where
    next : (j : ℕ) → suc j ≡ j + 1
    next j = omega arith
