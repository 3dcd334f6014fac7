-- The properties of an object that stay, one after another.
use Rattle.std.proofs.Common.{◌≡◌, ℕ, Bool, true, false, not, ◌||◌, Some, List, [], ◌∷◌, ◌++◌, length, refl, sym, ap, subst, ◌∙◌, arith}
use Rattle.std.specs.Vec.Iter.{into_iter_items, into_iter_len}
use Rattle.std.specs.declared.vec.IntoIter.{IntoIter}
use Rattle.swc_ast.specs.declared.Span.{Span}
use Rattle.swc_ast.specs.declared.expressions.PropOrSpread.{PropOrSpread}
use Rattle.swc_ast.specs.declared.expressions.Expr.{Expr}
use Rattle.swc_ast.specs.declared.expressions.KeyValueProp.{KeyValueProp}
use Rattle.swc_ast.specs.declared.expressions.Prop.{Prop}
use Rattle.swc_ast.specs.declared.expressions.Prop.TheVariants as in_prop
use Rattle.swc_ast.specs.declared.expressions.PropOrSpread.TheVariants as in_prop_or_spread
use Rattle.swc_ast.specs.Expressions.{key_tree}
use Rattle.swc_ast.specs.Parts.{list_trees}
use Rattle.swc_ast.specs.Scope.{joined}
use Rattle.swc_ast.specs.Tree.{KeyValue, Object, Tree, node, Forest, ε, ◌⊳◌}
use Rattle.swc_ast.specs.Views.{expr_tree, prop_tree, prop_or_spread_tree}
use Rattle.swc_ast.proofs.Equations.{prop_or_spread_tree-Prop, prop_tree-KeyValue}
use Rattle.swc_utils.specs.Literals.{is_literal}
use Rattle.swc_utils.specs.Pure.{pure}
use Rattle.swc_utils.proofs.Chains.{joined_assoc, joined_none, pushed}
use Rattle.branch_rules.specs.Ignored.{Ignores, PropertiesLeft, properties_left, no_properties, property_goes, property_stays}
use Rattle.branch_expressions.specs.Properties.{Goes, IsPlainKey}
use Rattle.branch_expressions.specs.Left.{Rested}
use Rattle.branch_expressions.specs.declared.rest.Rest.TheVariants as rest
use Rattle.branch_expressions.proofs.Adding.{or_none}

none_of : {X : Type 0} (xs : List X) → length xs ≡ 0 → xs ≡ []
none_of [] h = refl
none_of (x ∷ xs) h = absurd (omega (arith, h))

-- an iterator that has no items left
spent : {X Z : Type 0} (it : IntoIter X Z) → into_iter_len it ≡ 0 → into_iter_items it ≡ []
spent it h = none_of (into_iter_items it) (sym it.rest.ok.0 ∙ h)

-- what the properties that were looked at came to: whatever the others come to
abbrev pub SoFar : ℕ → Bool → List PropOrSpread → List PropOrSpread → List PropOrSpread → Type 0
SoFar mark c out rest all = (d : Bool) (vs : Forest) → PropertiesLeft mark d (list_trees prop_or_spread_tree rest) vs → PropertiesLeft mark (c || d) (list_trees prop_or_spread_tree all) (joined (list_trees prop_or_spread_tree out) vs)

goes_first : (mark : ℕ) (t : Tree) (d : Bool) (ts vs : Forest) → Goes mark t → PropertiesLeft mark d ts vs → PropertiesLeft mark true (t ⊳ ts) vs
goes_first mark t d ts vs g h = subst (λ x. PropertiesLeft mark true (x ⊳ ts) vs) (sym (g.is ∙ ap (λ k. node KeyValue g.spans (k ⊳ g.value ⊳ ε)) g.plain.is)) (property_goes g.plain.key g.spans g.plain.spans g.value g.literal g.pure h)

or_true : (c : Bool) → (c || true) ≡ true
or_true true = refl
or_true false = refl

pub kept_goes : (mark : ℕ) (c : Bool) (out rest all xs : List PropOrSpread) (x : PropOrSpread) → rest ≡ x ∷ xs → Goes mark (prop_or_spread_tree x) → SoFar mark c out rest all → SoFar mark true out xs all
kept_goes mark c out rest all xs x at g h = λ d vs k. subst (λ b. PropertiesLeft mark b (list_trees prop_or_spread_tree all) (joined (list_trees prop_or_spread_tree out) vs)) (or_true c) (h true vs (subst (λ ys. PropertiesLeft mark true (list_trees prop_or_spread_tree ys) vs) (sym at) (goes_first mark (prop_or_spread_tree x) d (list_trees prop_or_spread_tree xs) vs g k)))

pub kept_stays : (mark : ℕ) (c : Bool) (out new rest all xs : List PropOrSpread) (x : PropOrSpread) → rest ≡ x ∷ xs → new ≡ out ++ x ∷ [] → SoFar mark c out rest all → SoFar mark c new xs all
kept_stays mark c out new rest all xs x at is h = λ d vs k. subst (PropertiesLeft mark (c || d) (list_trees prop_or_spread_tree all)) (sym (ap (λ ys. joined (list_trees prop_or_spread_tree ys) vs) is ∙ ap (λ ts. joined ts vs) (pushed prop_or_spread_tree out x) ∙ joined_assoc (list_trees prop_or_spread_tree out) (prop_or_spread_tree x ⊳ ε) vs)) (h d (prop_or_spread_tree x ⊳ vs) (subst (λ ys. PropertiesLeft mark d (list_trees prop_or_spread_tree ys) (prop_or_spread_tree x ⊳ vs)) (sym at) (property_stays (prop_or_spread_tree x) k)))

pub kept_all : {Z : Type 0} (mark : ℕ) (c : Bool) (out all : List PropOrSpread) (it : IntoIter PropOrSpread Z) → into_iter_len it ≡ 0 → SoFar mark c out (into_iter_items it) all → PropertiesLeft mark c (list_trees prop_or_spread_tree all) (list_trees prop_or_spread_tree out)
kept_all mark c out all it end h = subst (λ b. PropertiesLeft mark b (list_trees prop_or_spread_tree all) (list_trees prop_or_spread_tree out)) (or_none c) (subst (PropertiesLeft mark (c || false) (list_trees prop_or_spread_tree all)) (joined_none (list_trees prop_or_spread_tree out)) (h false ε (subst (λ ys. PropertiesLeft mark false (list_trees prop_or_spread_tree ys) ε) (sym (spent it end)) no_properties)))

pub same_props : (mark : ℕ) (c : Bool) (ts us : Forest) → c ≡ false → PropertiesLeft mark c ts us → us ≡ ts
same_props mark c ts us h no_properties = refl
same_props mark c ts us h (property_goes k ss rs v l p g) = cc
same_props mark c ts us h (property_stays t {cs = cs} {vs = vs} g) = ap (λ xs. t ⊳ xs) (same_props mark c cs vs h g)

-- objects with a spread

pub object_changed : (mark : ℕ) (ss : List Span) (c : Bool) (ps qs : List PropOrSpread) (rs : List Span) (u : Tree) (e : Expr) → c ≡ true → PropertiesLeft mark c (list_trees prop_or_spread_tree ps) (list_trees prop_or_spread_tree qs) → expr_tree e ≡ node Object rs (list_trees prop_or_spread_tree qs) → Rested mark (node Object ss (list_trees prop_or_spread_tree ps)) u (rest.Other e)
object_changed mark ss c ps qs rs u e h k is = subst (λ x. Ignores mark true (node Object ss (list_trees prop_or_spread_tree ps)) (Some x)) (sym is) (properties_left ss rs (list_trees prop_or_spread_tree ps) (list_trees prop_or_spread_tree qs) (subst (λ d. PropertiesLeft mark d (list_trees prop_or_spread_tree ps) (list_trees prop_or_spread_tree qs)) h k))

pub object_kept : (mark : ℕ) (ss : List Span) (c : Bool) (ps qs : List PropOrSpread) → c ≡ false → PropertiesLeft mark c (list_trees prop_or_spread_tree ps) (list_trees prop_or_spread_tree qs) → node Object ss (list_trees prop_or_spread_tree qs) ≡ node Object ss (list_trees prop_or_spread_tree ps)
object_kept mark ss c ps qs h k = ap (node Object ss) (same_props mark c (list_trees prop_or_spread_tree ps) (list_trees prop_or_spread_tree qs) h k)

pub not_not : (b p : Bool) → b ≡ not p → not b ≡ true → p ≡ true
not_not b true h k = refl
not_not b false h k = cc

pub goes_prop : (mark : ℕ) (p : PropOrSpread) (q : Prop) (n : KeyValueProp Expr) → p ≡ in_prop_or_spread.Prop q → q ≡ in_prop.KeyValue n → IsPlainKey (key_tree expr_tree n.key) → is_literal (expr_tree n.value.value) ≡ true → pure mark (expr_tree n.value.value) ≡ true → Goes mark (prop_or_spread_tree p)
goes_prop mark p q n is at k l h = record {
  key = key_tree expr_tree n.key;
  value = expr_tree n.value.value;
  spans = [];
  plain = k;
  is = ap prop_or_spread_tree is ∙ prop_or_spread_tree-Prop q ∙ ap prop_tree at ∙ prop_tree-KeyValue n;
  literal = l;
  pure = h;
}

-- a loop over an iterator that adds the trees of its items
pub trees_end : {X Z : Type 0} (f : List X → Forest) → f [] ≡ ε → (a : Forest) (it : IntoIter X Z) {g : Forest} → into_iter_len it ≡ 0 → joined a (f (into_iter_items it)) ≡ g → a ≡ g
trees_end f none a it h is = sym (joined_none a) ∙ ap (joined a) (sym none ∙ sym (ap f (spent it h))) ∙ is
