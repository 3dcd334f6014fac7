-- The properties of an object, with those of each object literal that is spread in it.
use Rattle.std.proofs.Common.{◌≡◌, ℕ, ◌+◌, ◌%◌, ◌^◌, ◌<◌, ℤ, pos, negsuc, Bool, true, false, ◌&&◌, ◌||◌, ◌==◌, if◌then◌else◌, List, [], ◌∷◌, ◌++◌, bytes_eq, refl, sym, ap, subst, ◌∙◌, arith}
use Rattle.std.specs.Fmt.{decimal, signed_decimal}
use Rattle.std.specs.Int.Signed.{mag}
use Rattle.std.specs.Prelude.{codes}
use Rattle.std.proofs.lemmas.Bool.{false≢true}
use Rattle.std.proofs.lemmas.Bool.Decides.{nat_tests}
use Rattle.std.proofs.lemmas.Fmt.{decimal_by_steps}
use Rattle.std.specs.declared.alloc.Global.{Global}
use Rattle.std.specs.declared.vec.Vec.{Vec}
use Rattle.swc_ast.specs.Tree as tree
use Rattle.swc_ast.specs.Tree.{SpreadRecord, Object, KeyValue, Method, Tree, node, Forest, ε, ◌⊳◌, label_of}
use Rattle.swc_ast.specs.SameLaws.{impossible}
use Rattle.swc_ast.specs.Parts.{list_trees}
use Rattle.swc_ast.specs.Scope.{joined}
use Rattle.swc_ast.specs.Expressions.{key_tree, object_tree}
use Rattle.swc_ast.specs.Views.{expr_tree, prop_tree, prop_or_spread_tree}
use Rattle.swc_ast.proofs.ApartProps.{PropForm, prop_form, prop_at, prop_number}
use Rattle.swc_ast.proofs.Equations.{expr_tree-Object, prop_or_spread_tree-Spread}
use Rattle.swc_ast.specs.declared.Span.{Span}
use Rattle.swc_ast.specs.declared.declarations.Decl.TheOpen as Open
use Rattle.swc_ast.specs.declared.declarations.Decl.TheViews.{out-Prop, roll-out-Prop}
use Rattle.swc_ast.specs.declared.expressions.Expr.{Expr}
use Rattle.swc_ast.specs.declared.expressions.Expr.TheVariants as in_expr
use Rattle.swc_ast.specs.declared.expressions.ObjectLit.{ObjectLit}
use Rattle.swc_ast.specs.declared.expressions.Prop.{Prop}
use Rattle.swc_ast.specs.declared.expressions.PropOrSpread.{PropOrSpread}
use Rattle.swc_ast.specs.declared.expressions.PropOrSpread.TheVariants as in_property
use Rattle.swc_ast.specs.declared.expressions.SpreadElement.{SpreadElement}
use Rattle.swc_ast.specs.declared.expressions.PropName.{PropName}
use Rattle.swc_ast.specs.declared.expressions.PropName.TheVariants as key
use Rattle.swc_utils.proofs.Chains.{joined_none}
use Rattle.expr_rules.specs.ExprSteps.{ExprStep, spread_object}
use Rattle.expr_rules.specs.Spreads.{is_proto, has_proto_key, has_proto, opens, opened_property, opened_properties, opens_property, spreads_object}
use Rattle.expr_members.specs.Objects.{is_proto_key, names_proto, is_opened_object, HasProperties}

-- a property that is no spread

prop_form_some : (o : PropForm) → (0 == prop_number o) ≡ false
prop_form_some (Open.Shorthand n) = refl
prop_form_some (Open.KeyValue n) = refl
prop_form_some (Open.Method n) = refl

prop_some : (p : Prop) → (0 == prop_form (label_of (prop_tree p))) ≡ false
prop_some p = subst (λ q. (0 == prop_form (label_of (prop_tree q))) ≡ false) (roll-out-Prop p) (ap (λ n. 0 == n) (prop_at (out-Prop p)) ∙ prop_form_some (out-Prop p))

closed_by_form : (t : Tree) → (0 == prop_form (label_of t)) ≡ false → opens_property t ≡ false
closed_by_form (node tree.SpreadRecord ss ts) h = impossible (sym h)
closed_by_form (node _ ss ts) h = refl

pub prop_closed : (p : Prop) → opens_property (prop_tree p) ≡ false
prop_closed p = closed_by_form (prop_tree p) (prop_some p)

-- the key `__proto__`

-- digits in front are no underscore
abbrev Digits : List ℕ → Type 0
Digits ds = (c : ℕ) × (cs : List ℕ) × (ds ≡ c ∷ cs) × (c < 95)

decimal_digits : (n : ℕ) → n < 2 ^ 64 → Digits (decimal n)
decimal_digits n h = decimal_by_steps (λ n ds. Digits ds) (λ n h. (48 + n, [], refl, omega arith)) (λ n ds h is. (is.0, is.1 ++ ((48 + n % 10) ∷ []), ap (λ xs. xs ++ ((48 + n % 10) ∷ [])) is.2, is.3)) n h

other_first : (c : ℕ) (cs : List ℕ) → c < 95 → bytes_eq (c ∷ cs) (codes "__proto__") ≡ false
other_first c cs h = by (c == 95) (grind (arith, nat_tests))
  where
    by : (b : Bool) → b ≡ false → (b && bytes_eq cs (codes "_proto__")) ≡ false
    by true h = absurd (false≢true (sym h))
    by false h = refl

decimal_no_proto : (ds : List ℕ) → Digits ds → is_proto ds ≡ false
decimal_no_proto ds is = ap is_proto is.2 ∙ other_first is.0 is.1 is.3

pub number_no_proto : (z : ℤ) → mag z < 2 ^ 64 → is_proto (signed_decimal z) ≡ false
number_no_proto (pos n) h = decimal_no_proto (decimal n) (decimal_digits n h)
number_no_proto (negsuc n) h = refl

pub key_value_proto : (k : PropName Expr) (t : Tree) → has_proto_key KeyValue (key_tree expr_tree k ⊳ t ⊳ ε) ≡ is_proto_key (key_tree expr_tree k)
key_value_proto (key.Ident n) t = refl
key_value_proto (key.Str n) t = refl
key_value_proto (key.Num n) t = refl
key_value_proto (key.Computed n) t = refl

pub method_proto : (k : PropName Expr) (t u : Tree) → has_proto_key Method (key_tree expr_tree k ⊳ t ⊳ u ⊳ ε) ≡ is_proto_key (key_tree expr_tree k)
method_proto (key.Ident n) t u = refl
method_proto (key.Str n) t u = refl
method_proto (key.Num n) t u = refl
method_proto (key.Computed n) t u = refl

pub proto_cons : (t : Tree) (ts : Forest) → has_proto (t ⊳ ts) ≡ (names_proto t || has_proto ts)
proto_cons (node l ss cs) ts = refl

-- spreads

pub opens_spread : (ss : List Span) (t : Tree) → opens_property (node SpreadRecord ss (t ⊳ ε)) ≡ is_opened_object t
opens_spread ss (node tree.Object rs us) = refl
opens_spread ss (node _ rs us) = refl

kept : (b : Bool) (us vs : Forest) → b ≡ false → (if b then us else vs) ≡ vs
kept true us vs h = absurd (false≢true (sym h))
kept false us vs h = refl

taken : (b : Bool) (us vs : Forest) → b ≡ true → (if b then us else vs) ≡ us
taken true us vs h = refl
taken false us vs h = absurd (false≢true h)

pub stays : (t : Tree) → opens_property t ≡ false → opened_property t ≡ t ⊳ ε
stays (node tree.SpreadRecord ss (node tree.Object rs us ⊳ ε)) h = kept (opens us) us _ h
stays t h = refl

open_spread : (ss : List Span) (t : Tree) (ps : List PropOrSpread) → is_opened_object t ≡ true → HasProperties t ps → opened_property (node SpreadRecord ss (t ⊳ ε)) ≡ list_trees prop_or_spread_tree ps
open_spread ss t ps h (rs, is) = ap (λ u. opened_property (node SpreadRecord ss (u ⊳ ε))) is ∙ taken (opens (list_trees prop_or_spread_tree ps)) _ _ (sym (ap is_opened_object is) ∙ h)

pub opened_at : (p : PropOrSpread) (n : SpreadElement Expr) (e : Expr) (ps : List PropOrSpread) → p ≡ in_property.Spread n → e ≡ n.expr.value → opens_property (prop_or_spread_tree p) ≡ true → (is_opened_object (expr_tree e) ≡ true → HasProperties (expr_tree e) ps) → opened_property (prop_or_spread_tree p) ≡ list_trees prop_or_spread_tree ps
opened_at p n e ps is inner h props =
    let at : prop_or_spread_tree p ≡ node SpreadRecord (n.dot3_token ∷ []) (expr_tree n.expr.value ⊳ ε) = ap prop_or_spread_tree is ∙ prop_or_spread_tree-Spread n in
    let opens_it : is_opened_object (expr_tree n.expr.value) ≡ true = sym (opens_spread (n.dot3_token ∷ []) (expr_tree n.expr.value)) ∙ (sym (ap opens_property at) ∙ h) in
    ap opened_property at ∙ open_spread (n.dot3_token ∷ []) (expr_tree n.expr.value) ps opens_it (subst (λ f. is_opened_object (expr_tree f) ≡ true → HasProperties (expr_tree f) ps) inner props opens_it)

-- trees of lists

abbrev pub trees_of : List PropOrSpread → Forest
trees_of ps = list_trees prop_or_spread_tree ps

pub trees_joined : (ps qs : List PropOrSpread) → trees_of (ps ++ qs) ≡ joined (trees_of ps) (trees_of qs)
trees_joined [] qs = refl
trees_joined (p ∷ ps) qs = ap (λ ts. prop_or_spread_tree p ⊳ ts) (trees_joined ps qs)

pub opened_cons : (p : PropOrSpread) (ps : List PropOrSpread) → opened_properties (trees_of (p ∷ ps)) ≡ joined (opened_properties (trees_of (p ∷ []))) (opened_properties (trees_of ps))
opened_cons p ps = ap (λ ts. joined ts (opened_properties (trees_of ps))) (sym (joined_none (opened_property (prop_or_spread_tree p))))

pub one_opened : (p : PropOrSpread) → opened_property (prop_or_spread_tree p) ≡ opened_properties (trees_of (p ∷ []))
one_opened p = sym (joined_none (opened_property (prop_or_spread_tree p)))

-- the object with its spreads opened
pub object_step : (mark : ℕ) (n : ObjectLit PropOrSpread) (s : Span) (props opened : Vec PropOrSpread Global) → spreads_object (trees_of n.props.items) ≡ true → props ≡ n.props → trees_of opened.items ≡ opened_properties (trees_of props.items) → ExprStep mark (object_tree prop_or_spread_tree n) (expr_tree (in_expr.Object (record { span = s; props = opened })))
object_step mark n s props opened fires same is =
    subst (ExprStep mark (object_tree prop_or_spread_tree n)) (sym (expr_tree-Object _ ∙ ap (node tree.Object (s ∷ [])) (is ∙ ap (λ v. opened_properties (trees_of v.items)) same)))
    (spread_object (n.span ∷ []) (s ∷ []) (trees_of n.props.items) fires)
