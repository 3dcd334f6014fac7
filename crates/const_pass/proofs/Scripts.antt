-- A script imports nothing: nothing is put in it, and it does in the world with answers what it does.
use Rattle.std.proofs.Common.{◌≡◌, ℕ, true, false, List, [], ◌∷◌, Option, Some, None, option_map, refl, sym, ap, subst, ◌∙◌}
use Rattle.std.proofs.lemmas.Bool.{false≢true}
use Rattle.swc_ast.specs.declared.Span.{Span}
use Rattle.swc_ast.specs.declared.UnaryOp.TheVariants as op
use Rattle.swc_ast.specs.Parts.{list_trees}
use Rattle.swc_ast.specs.Tree as tree
use Rattle.swc_ast.specs.Tree.{Text, Name, Label, Tree, node, Forest, ε, ◌⊳◌, label_of, children_of}
use Rattle.swc_ast.specs.Views.{expr_tree, stmt_tree}
use Rattle.swc_ast.specs.declared.expressions.Expr.{Expr}
use Rattle.swc_ast.specs.declared.modules.Script.{Script}
use Rattle.swc_ast.specs.declared.statements.Stmt.{Stmt}
use Rattle.swc_ast.specs.Modules.{script_tree}
use Rattle.tree_put.specs.declared.rules.Spot.{Spot}
use Rattle.swc_pass.specs.Constants.{Constants, or_expression, in_items, in_item, constants}
use Rattle.swc_pass.specs.Given.{SameGiven}
use Rattle.given_shield.specs.Shield.{shield}
use Rattle.given_rules.specs.Put.{here, callee, operand, Puts, or_parts, called, of_type, as_property, first_spot, around, put, put_all}
use Rattle.given_rules.specs.Worked.{finished, puts, put_expression, put_found}
use Rattle.given_rules.proofs.Instances.{constant_same}
use Rattle.const_imports.specs.Views.{constants_of}
use Rattle.const_imports.specs.declared.given.GivenModules.{GivenModules}
use Rattle.const_imports.specs.Locals.{given_label}
use Rattle.const_imports.proofs.Items.{no_import}
use Rattle.const_pass.proofs.Answered.{are_expressions}
use Rattle.const_pass.proofs.Found.{put_value, same_answers}
use Rattle.const_pass.specs.Rules.{name_read, text_read, member_of, value_at, answers}

-- where nothing is put, a tree stays

module _ (X : Puts) (none : (p : Spot) (t : Tree) → X.expression p t ≡ None) (bare : (x : Name) → X.property x ≡ None) where
  unchanged : (l : Label) (ss : List Span) (cs : Forest) → around X l ss cs cs ≡ node l ss cs
  unchanged (tree.CallDot k) ss ε = refl
  unchanged (tree.CallDot k) ss (o ⊳ ts) = ap (λ v. called v ss ts (node (tree.CallDot k) ss (o ⊳ ts))) (none callee _)
  unchanged tree.CallIndex ss ε = refl
  unchanged tree.CallIndex ss (o ⊳ ε) = refl
  unchanged tree.CallIndex ss (o ⊳ j ⊳ ts) = ap (λ v. called v ss ts (node tree.CallIndex ss (o ⊳ j ⊳ ts))) (none callee _)
  unchanged (tree.CallEval x) ss ts = ap (λ v. called v ss ts (node (tree.CallEval x) ss ts)) (none callee _)
  unchanged (tree.TypeOfName x) ss ts = ap (λ v. of_type v ss (node (tree.TypeOfName x) ss ts)) (none operand _)
  unchanged (tree.Shorthand x) ss ts = ap (λ v. as_property v x ss (node (tree.Shorthand x) ss ts)) (bare x)
  unchanged (tree.Unary op.TypeOf) ss ε = refl
  unchanged (tree.Unary op.TypeOf) ss (t ⊳ ε) = ap (λ v. of_type v ss (node (tree.Unary op.TypeOf) ss (t ⊳ ε))) (none operand t)
  unchanged (tree.Unary op.TypeOf) ss (t ⊳ u ⊳ ts) = refl
  unchanged (tree.Unary op.Minus) ss ts = refl
  unchanged (tree.Unary op.Plus) ss ts = refl
  unchanged (tree.Unary op.Bang) ss ts = refl
  unchanged (tree.Unary op.Tilde) ss ts = refl
  unchanged (tree.Unary op.Void) ss ts = refl
  unchanged (tree.Unary op.Delete) ss ts = refl
  unchanged (tree.Import src) ss ts = refl
  unchanged l ss ts = refl

  mutual
    unfolding put

    stays : (p : Spot) (t : Tree) → put X p t ≡ t
    stays p (node l ss cs) = ap (λ v. or_parts v (around X l ss cs (put_all X (first_spot l) cs))) (none p (node l ss cs)) ∙ ap (around X l ss cs) (all_stay (first_spot l) cs) ∙ unchanged l ss cs

    all_stay : (p : Spot) (ts : Forest) → put_all X p ts ≡ ts
    all_stay p ε = refl
    all_stay p (t ⊳ ts) = ap (λ u. u ⊳ put_all X here ts) (stays p t) ∙ ap (λ us. t ⊳ us) (all_stay here ts)

-- nothing is given in a script

module _ (k : Constants) (by : Text → Label → Option Tree) where
  no_item : (l : Label) (cs : Forest) → false ≡ given_label (λ src. true) l → in_item k by l cs ≡ None
  no_item (tree.Import src) cs h = absurd (false≢true h)
  no_item l cs h = refl

  item_of : (t : Tree) (ts : Forest) → in_items k by (t ⊳ ts) ≡ or_expression (in_item k by (label_of t) (children_of t)) (in_items k by ts)
  item_of (node l ss cs) ts = refl

  no_items : (xs : List Stmt) → in_items k by (list_trees stmt_tree xs) ≡ None
  no_items [] = refl
  no_items (x ∷ xs) = item_of (stmt_tree x) (list_trees stmt_tree xs) ∙ ap (λ o. or_expression o (in_items k by (list_trees stmt_tree xs))) (no_item (label_of (stmt_tree x)) (children_of (stmt_tree x)) (no_import (λ src. true) x)) ∙ no_items xs

module _ (g : GivenModules Expr) (xs : List Stmt) where
  abbrev K : Constants
  K = constants_of expr_tree g

  abbrev items : Forest
  items = list_trees stmt_tree xs

  no_member : (o : Option Name) (m : Option Text) → member_of (λ x. None) (λ x n. None) o m ≡ None
  no_member None m = refl
  no_member (Some x) None = refl
  no_member (Some x) (Some n) = refl

  no_value : (t : Tree) → value_at (λ x. None) (λ x n. None) t ≡ None
  no_value (node (tree.Read x) ss cs) = refl
  no_value (node (tree.Dot n) ss ε) = refl
  no_value (node (tree.Dot n) ss (o ⊳ ε)) = no_member (name_read o) (Some n)
  no_value (node (tree.Dot n) ss (o ⊳ p ⊳ ts)) = refl
  no_value (node tree.Index ss ε) = refl
  no_value (node tree.Index ss (o ⊳ ε)) = refl
  no_value (node tree.Index ss (o ⊳ j ⊳ ε)) = no_member (name_read o) (text_read j)
  no_value (node tree.Index ss (o ⊳ j ⊳ p ⊳ ts)) = refl
  no_value (node l ss cs) = refl

  nothing_given : answers (λ x. None) (λ x n. None) ≡ constants K items
  nothing_given = same_answers K items (λ x. None) (λ x n. None) (λ x. sym (no_items K _ xs)) (λ x n. sym (no_items K _ xs))

  none_put : (p : Spot) (t : Tree) → (puts (constants K items) shield (finished [])).expression p t ≡ None
  none_put p t = sym (ap (λ a. put_expression a shield (finished []) p t) nothing_given) ∙ put_value (λ x. None) (λ x n. None) (finished []) p t ∙ ap (option_map (shield p)) (no_value t)

  none_bare : (x : Name) → (puts (constants K items) shield (finished [])).property x ≡ None
  none_bare x = sym (ap (λ a. put_found a shield (finished []) here (a.found (node (tree.Read x) [] ε))) nothing_given)

-- a script does what it does
pub script_same : (g : GivenModules Expr) (s : Script) (mark : ℕ) → SameGiven (constants (constants_of expr_tree g) (list_trees stmt_tree s.body.items)) mark (script_tree s) (script_tree s)
script_same g s mark =
    let xs = s.body.items in
    subst (λ us. SameGiven (constants (K g xs) (items g xs)) mark (script_tree s) (node tree.Script (s.span ∷ []) us)) (all_stay (puts (constants (K g xs) (items g xs)) shield (finished [])) (none_put g xs) (none_bare g xs) here (items g xs))
    (constant_same (K g xs) (items g xs) mark (are_expressions g (items g xs)) tree.Script (s.span ∷ []) (items g xs))
