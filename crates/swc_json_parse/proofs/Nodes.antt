-- What nodes are as JSON: those that are no literals, members, literals and templates.
use Rattle.std.proofs.Common.{◌≡◌, ℕ, Bool, true, false, ◌||◌, ◌==◌, nat_le, List, [], ◌∷◌, map, length, ◌++◌, if◌then◌else◌, Option, Some, None, option_map, option_and_then, inl, inr, refl, sym, ap, ◌∙◌, string_bytes, arith}
use Rattle.std.proofs.lemmas.Bool.{false≢true}
use Rattle.std.proofs.lemmas.Bool.Decides.{leb_tells, eqb_tells}
use Rattle.json.specs.Print.{quoted}
use Rattle.serde_json.specs.Data.{Num, number, depth}
use Rattle.serde_json.specs.Written.{compact_text}
use Rattle.swc_ast.specs.Tree as tree
use Rattle.swc_ast.specs.Tree.{Text, Tree, node, label_of}
use Rattle.swc_ast.specs.Expressions.{key_value_tree, array_tree, object_tree, tpl_tree, quasi_text}
use Rattle.swc_ast.proofs.Equations.{expr_tree-Lit, expr_tree-Tpl, expr_tree-Array, expr_tree-Object, prop_or_spread_tree-Spread, prop_or_spread_tree-Prop, prop_tree-KeyValue, prop_tree-Shorthand, prop_tree-Method, method_tree-is}
use Rattle.swc_ast.specs.Parts.{lit_tree, list_trees}
use Rattle.swc_ast.specs.declared.Span.{Span}
use Rattle.swc_ast.specs.Views.{expr_tree, prop_tree, prop_or_spread_tree}
use Rattle.swc_ast.proofs.ApartExpressions.{ExprForm, expr_form, expr_at}
use Rattle.swc_ast.specs.declared.declarations.Decl.TheOpen as Open
use Rattle.swc_ast.specs.declared.declarations.Decl.TheViews.{roll-Expr, out-Expr, roll-out-Expr}
use Rattle.swc_ast.specs.declared.expressions.ArrayLit.{ArrayLit}
use Rattle.swc_ast.specs.declared.expressions.Expr.{Expr}
use Rattle.swc_ast.specs.declared.expressions.Expr.TheVariants as in_expr
use Rattle.swc_ast.specs.declared.expressions.KeyValueProp.{KeyValueProp}
use Rattle.swc_ast.specs.declared.expressions.ObjectLit.{ObjectLit}
use Rattle.swc_ast.specs.declared.expressions.MethodProp.{MethodProp}
use Rattle.swc_ast.specs.declared.expressions.Prop.{Prop}
use Rattle.swc_ast.specs.declared.expressions.Prop.TheVariants as in_prop
use Rattle.swc_ast.specs.declared.expressions.PropOrSpread.{PropOrSpread}
use Rattle.swc_ast.specs.declared.expressions.PropOrSpread.TheVariants as in_list
use Rattle.swc_ast.specs.declared.expressions.SpreadElement.{SpreadElement}
use Rattle.swc_ast.specs.declared.names.Ident.{Ident}
use Rattle.swc_ast.specs.declared.expressions.PropName.{PropName}
use Rattle.swc_ast.specs.declared.expressions.PropName.TheVariants as key
use Rattle.swc_ast.specs.declared.expressions.Tpl.{Tpl}
use Rattle.swc_ast.specs.declared.expressions.TplElement.{TplElement}
use Rattle.swc_ast.specs.declared.literals.Lit.{Lit}
use Rattle.swc_ast.specs.declared.literals.Lit.TheVariants as lit
use Rattle.tree_keys.specs.Keys.{plain_key}
use Rattle.swc_json_parse.specs.JsonText.{data_of, whole}
use Rattle.swc_json_parse.specs.Written.{text_within, member_within, lit_text}

-- a member by its key
pub member_keyed : (levels : ℕ) (n : KeyValueProp Expr) → member_within levels (key_value_tree expr_tree n) ≡ option_and_then (λ k. option_map (λ x. quoted k ++ 58 ∷ x) (text_within levels (expr_tree n.value.value))) (plain_key n.key)
member_keyed levels n = by_key n.key
  where
    by_key : (k : PropName Expr) → member_within levels (key_value_tree expr_tree (record n { key = k })) ≡ option_and_then (λ t. option_map (λ x. quoted t ++ 58 ∷ x) (text_within levels (expr_tree n.value.value))) (plain_key k)
    by_key (key.Ident i) = refl
    by_key (key.Str i) = refl
    by_key (key.Num i) = refl
    by_key (key.Computed i) = refl

-- the forms of expressions that may be JSON literals: arrays, objects, literals and templates
abbrev is_json : ℕ → Bool
is_json n = (n == 2) || (n == 3) || (n == 15) || (n == 16)

no_data : (t : Tree) → is_json (expr_form (label_of t)) ≡ false → data_of t ≡ None
no_data (node (tree.StrLit t) ss cs) h = absurd (false≢true (sym h))
no_data (node (tree.Template qs) ss cs) h = absurd (false≢true (sym h))
no_data (node (tree.NumLit z) ss cs) h = absurd (false≢true (sym h))
no_data (node (tree.BoolLit b) ss cs) h = absurd (false≢true (sym h))
no_data (node tree.NullLit ss cs) h = absurd (false≢true (sym h))
no_data (node (tree.Array ks) ss cs) h = absurd (false≢true (sym h))
no_data (node tree.Object ss cs) h = absurd (false≢true (sym h))
no_data (node _ ss cs) h = refl

-- an expression of another form has no text
pub no_text : (levels : ℕ) (e : Expr) → ((n : Lit) → e ≡ in_expr.Lit n → ⊥) → ((n : Tpl Expr) → e ≡ in_expr.Tpl n → ⊥) → ((n : ArrayLit Expr) → e ≡ in_expr.Array n → ⊥) → ((n : ObjectLit PropOrSpread) → e ≡ in_expr.Object n → ⊥) → text_within levels (expr_tree e) ≡ None
no_text levels e no_lit no_tpl no_array no_object = ap (λ o. option_and_then (λ d. if nat_le (depth d) levels then Some (compact_text d) else None) o) (by_form (out-Expr e) (roll-out-Expr e))
  where
    by_form : (o : ExprForm) → roll-Expr o ≡ e → data_of (expr_tree e) ≡ None
    by_form (Open.Lit n) is = absurd (no_lit n (sym is ∙ in_expr.rolls-Lit n))
    by_form (Open.Tpl n) is = absurd (no_tpl n (sym is ∙ in_expr.rolls-Tpl n))
    by_form (Open.Array n) is = absurd (no_array n (sym is ∙ in_expr.rolls-Array n))
    by_form (Open.Object n) is = absurd (no_object n (sym is ∙ in_expr.rolls-Object n))
    by_form o is = no_data (expr_tree e) (ap (λ x. is_json (expr_form (label_of (expr_tree x)))) (sym is) ∙ ap is_json (expr_at o))

-- nothing nests less deep than at no level
pub zero_below : (n : ℕ) → nat_le 0 n ≡ true
zero_below n = elim (leb_tells 0 n) [ inl p ↦ p.0 | inr p ↦ absurd (omega (arith, p.1)) ]

flat : (o : Option Num) (levels : ℕ) → option_and_then (λ d. if nat_le (depth d) levels then Some (compact_text d) else None) (option_map number o) ≡ option_map compact_text (option_map number o)
flat None levels = refl
flat (Some n) levels = ap (λ b. if b then Some (compact_text (number n)) else None) (zero_below levels)

-- a literal has its text at any level
pub lit_within : (levels : ℕ) (n : Lit) → text_within levels (lit_tree n) ≡ lit_text n
lit_within levels (lit.Str n) = ap (λ b. if b then Some (quoted (string_bytes n.value)) else None) (zero_below levels)
lit_within levels (lit.Bool n) = ap (λ b. if b then lit_text (lit.Bool n) else None) (zero_below levels)
lit_within levels (lit.Null n) = ap (λ b. if b then lit_text (lit.Null n) else None) (zero_below levels)
lit_within levels (lit.Num n) = flat (whole n.value) levels

not_none : (levels : ℕ) (ss : List Span) (qs : List TplElement) (es : List Expr) → (length es ≡ 0 → ⊥) → text_within levels (node (tree.Template (map quasi_text qs)) ss (list_trees expr_tree es)) ≡ None
not_none levels ss qs [] h = absurd (h refl)
not_none levels ss [] (e ∷ es) h = refl
not_none levels ss (p ∷ []) (e ∷ es) h = refl
not_none levels ss (p ∷ r ∷ qs) (e ∷ es) h = refl

-- a template with expressions
pub template_exprs : (levels : ℕ) (n : Tpl Expr) → (length n.exprs.items ≡ 0 → ⊥) → text_within levels (tpl_tree expr_tree n) ≡ None
template_exprs levels n h = not_none levels _ n.quasis.value.items n.exprs.items h

-- an expression's text, by its node
pub at_lit : (levels : ℕ) (e : Expr) (n : Lit) → e ≡ in_expr.Lit n → text_within levels (expr_tree e) ≡ lit_text n
at_lit levels e n is = ap (λ x. text_within levels (expr_tree x)) is ∙ ap (text_within levels) (expr_tree-Lit n) ∙ lit_within levels n

pub at_tpl : (levels : ℕ) (e : Expr) (n : Tpl Expr) → e ≡ in_expr.Tpl n → text_within levels (expr_tree e) ≡ text_within levels (tpl_tree expr_tree n)
at_tpl levels e n is = ap (λ x. text_within levels (expr_tree x)) is ∙ ap (text_within levels) (expr_tree-Tpl n)

pub at_array : (levels : ℕ) (e : Expr) (n : ArrayLit Expr) → e ≡ in_expr.Array n → text_within levels (expr_tree e) ≡ text_within levels (array_tree expr_tree n)
at_array levels e n is = ap (λ x. text_within levels (expr_tree x)) is ∙ ap (text_within levels) (expr_tree-Array n)

pub at_object : (levels : ℕ) (e : Expr) (n : ObjectLit PropOrSpread) → e ≡ in_expr.Object n → text_within levels (expr_tree e) ≡ text_within levels (object_tree prop_or_spread_tree n)
at_object levels e n is = ap (λ x. text_within levels (expr_tree x)) is ∙ ap (text_within levels) (expr_tree-Object n)

-- a property's member, by its node
pub at_spread : (levels : ℕ) (p : PropOrSpread) (n : SpreadElement Expr) → p ≡ in_list.Spread n → member_within levels (prop_or_spread_tree p) ≡ None
at_spread levels p n is = ap (λ x. member_within levels (prop_or_spread_tree x)) is ∙ ap (member_within levels) (prop_or_spread_tree-Spread n)

at_prop : (levels : ℕ) (p : PropOrSpread) (q : Prop) → p ≡ in_list.Prop q → member_within levels (prop_or_spread_tree p) ≡ member_within levels (prop_tree q)
at_prop levels p q is = ap (λ x. member_within levels (prop_or_spread_tree x)) is ∙ ap (member_within levels) (prop_or_spread_tree-Prop q)

pub at_key_value : (levels : ℕ) (p : PropOrSpread) (q : Prop) (n : KeyValueProp Expr) → p ≡ in_list.Prop q → q ≡ in_prop.KeyValue n → member_within levels (prop_or_spread_tree p) ≡ member_within levels (key_value_tree expr_tree n)
at_key_value levels p q n is made = at_prop levels p q is ∙ ap (λ x. member_within levels (prop_tree x)) made ∙ ap (member_within levels) (prop_tree-KeyValue n)

pub at_shorthand : (levels : ℕ) (p : PropOrSpread) (q : Prop) (n : Ident) → p ≡ in_list.Prop q → q ≡ in_prop.Shorthand n → member_within levels (prop_or_spread_tree p) ≡ None
at_shorthand levels p q n is made = at_prop levels p q is ∙ ap (λ x. member_within levels (prop_tree x)) made ∙ ap (member_within levels) (prop_tree-Shorthand n)

pub at_method : (levels : ℕ) (p : PropOrSpread) (q : Prop) (n : MethodProp) → p ≡ in_list.Prop q → q ≡ in_prop.Method n → member_within levels (prop_or_spread_tree p) ≡ None
at_method levels p q n is made = at_prop levels p q is ∙ ap (λ x. member_within levels (prop_tree x)) made ∙ ap (member_within levels) (prop_tree-Method n ∙ method_tree-is n)

-- a key's text in front of the value's
pub keyed : (o p : Option Text) (q : Text) → option_map quoted o ≡ Some q → option_and_then (λ k. option_map (λ x. quoted k ++ 58 ∷ x) p) o ≡ option_map (λ y. q ++ y) (option_map (λ x. 58 ∷ x) p)
keyed None p q h = cc
keyed (Some k) None q h = refl
keyed (Some k) (Some x) q h = let e : quoted k ≡ q = cc in ap (λ r. Some (r ++ 58 ∷ x)) e

-- a test of equality that fails
pub eqb_false : (a b : ℕ) → (a == b) ≡ false → a ≡ b → ⊥
eqb_false a b h is = elim (eqb_tells a b) [ inl p ↦ absurd (false≢true (sym h ∙ p.0)) | inr p ↦ p.1 is ]
