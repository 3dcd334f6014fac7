-- Properties of two variants have different trees.
use Rattle.std.proofs.Common.{◌≡◌, refl, sym, ap, ◌∙◌, Bool, false, ◌==◌, subst}
use Rattle.std.specs.Prelude.{ℕ}
use Rattle.swc_ast.specs.Tree as tree
use Rattle.swc_ast.specs.Tree.{Label, label_of}
use Rattle.swc_ast.specs.Same.{same}
use Rattle.swc_ast.specs.Views.{prop_tree, prop_or_spread_tree}
use Rattle.swc_ast.proofs.Labels.{differ}
use Rattle.swc_ast.proofs.Equations.{prop_tree-Shorthand, prop_tree-KeyValue, prop_tree-Method, method_tree-is, prop_or_spread_tree-Spread, prop_or_spread_tree-Prop}
use Rattle.swc_ast.specs.declared.declarations.Decl.TheViews.{roll-Prop, out-Prop, roll-out-Prop, roll-PropOrSpread}
use Rattle.swc_ast.specs.declared.expressions.Prop.TheVariants as in_prop
use Rattle.swc_ast.specs.declared.expressions.PropOrSpread.TheVariants as in_prop_or_spread
use Rattle.swc_ast.specs.declared.declarations.Decl.TheOpen as Open
use Rattle.swc_ast.specs.declared.declarations.Decl.{Decl}
use Rattle.swc_ast.specs.declared.declarations.Function.{Function}
use Rattle.swc_ast.specs.declared.expressions.ArrowExpr.{ArrowExpr}
use Rattle.swc_ast.specs.declared.expressions.BlockStmtOrExpr.{BlockStmtOrExpr}
use Rattle.swc_ast.specs.declared.expressions.Expr.{Expr}
use Rattle.swc_ast.specs.declared.expressions.MethodProp.{MethodProp}
use Rattle.swc_ast.specs.declared.expressions.Prop.{Prop}
use Rattle.swc_ast.specs.declared.expressions.PropOrSpread.{PropOrSpread}
use Rattle.swc_ast.specs.declared.statements.ForStmt.{ForStmt}
use Rattle.swc_ast.specs.declared.statements.IfStmt.{IfStmt}
use Rattle.swc_ast.specs.declared.statements.SwitchCase.{SwitchCase}
use Rattle.swc_ast.specs.declared.statements.SwitchStmt.{SwitchStmt}
use Rattle.swc_ast.specs.declared.statements.WhileStmt.{WhileStmt}
use Rattle.swc_ast.specs.declared.statements.Stmt.{Stmt}

-- which property a label_of is of, by number
abbrev pub prop_form : Label → ℕ
prop_form (tree.Shorthand _) = 1
prop_form tree.KeyValue = 2
prop_form tree.Method = 3
prop_form _ = 0

abbrev pub PropForm : Type 0
PropForm = Open.Prop-F Decl BlockStmtOrExpr Expr Prop PropOrSpread Stmt Function ArrowExpr MethodProp ForStmt IfStmt SwitchCase SwitchStmt WhileStmt

abbrev pub prop_number : PropForm → ℕ
prop_number (Open.Shorthand n) = 1
prop_number (Open.KeyValue n) = 2
prop_number (Open.Method n) = 3

pub prop_at : (o : PropForm) → prop_form (label_of (prop_tree (roll-Prop o))) ≡ prop_number o
prop_at (Open.Shorthand n) = ap (λ t. prop_form (label_of t)) (ap prop_tree (in_prop.rolls-Shorthand n) ∙ prop_tree-Shorthand n)
prop_at (Open.KeyValue n) = ap (λ t. prop_form (label_of t)) (ap prop_tree (in_prop.rolls-KeyValue n) ∙ prop_tree-KeyValue n)
prop_at (Open.Method n) = ap (λ t. prop_form (label_of t)) (ap prop_tree (in_prop.rolls-Method n) ∙ prop_tree-Method n ∙ method_tree-is n)

pub prop_apart : (s : Bool) (o p : PropForm) (a b : Prop) → roll-Prop o ≡ a → roll-Prop p ≡ b → (prop_number o == prop_number p) ≡ false → false ≡ same s (prop_tree a) (prop_tree b)
prop_apart s o p a b at_a at_b = differ prop_form s (prop_tree a) (prop_tree b) (prop_number o) (prop_number p) (ap (λ e. prop_form (label_of (prop_tree e))) (sym at_a) ∙ prop_at o) (ap (λ e. prop_form (label_of (prop_tree e))) (sym at_b) ∙ prop_at p)

pub other_prop-Shorthand : (s : Bool) (a b : Prop) (x : _) → a ≡ in_prop.Shorthand x → ((y : _) → b ≡ in_prop.Shorthand y → ⊥) → false ≡ same s (prop_tree a) (prop_tree b)
other_prop-Shorthand s a b x is others = by (out-Prop b) (roll-out-Prop b)
  where
    by : (p : PropForm) → roll-Prop p ≡ b → false ≡ same s (prop_tree a) (prop_tree b)
    by (Open.Shorthand y) r = absurd (others y (sym r ∙ in_prop.rolls-Shorthand y))
    by p r = prop_apart s (Open.Shorthand x) p a b (in_prop.rolls-Shorthand x ∙ sym is) r refl

pub other_prop-KeyValue : (s : Bool) (a b : Prop) (x : _) → a ≡ in_prop.KeyValue x → ((y : _) → b ≡ in_prop.KeyValue y → ⊥) → false ≡ same s (prop_tree a) (prop_tree b)
other_prop-KeyValue s a b x is others = by (out-Prop b) (roll-out-Prop b)
  where
    by : (p : PropForm) → roll-Prop p ≡ b → false ≡ same s (prop_tree a) (prop_tree b)
    by (Open.KeyValue y) r = absurd (others y (sym r ∙ in_prop.rolls-KeyValue y))
    by p r = prop_apart s (Open.KeyValue x) p a b (in_prop.rolls-KeyValue x ∙ sym is) r refl

pub other_prop-Method : (s : Bool) (a b : Prop) (x : _) → a ≡ in_prop.Method x → ((y : _) → b ≡ in_prop.Method y → ⊥) → false ≡ same s (prop_tree a) (prop_tree b)
other_prop-Method s a b x is others = by (out-Prop b) (roll-out-Prop b)
  where
    by : (p : PropForm) → roll-Prop p ≡ b → false ≡ same s (prop_tree a) (prop_tree b)
    by (Open.Method y) r = absurd (others y (sym r ∙ in_prop.rolls-Method y))
    by p r = prop_apart s (Open.Method x) p a b (in_prop.rolls-Method x ∙ sym is) r refl

-- which item of an object a label_of is of, by number
abbrev pub prop_or_spread_form : Label → ℕ
prop_or_spread_form tree.SpreadRecord = 1
prop_or_spread_form tree.KeyValue = 2
prop_or_spread_form (tree.Shorthand _) = 2
prop_or_spread_form tree.Method = 2
prop_or_spread_form _ = 0

abbrev pub PropOrSpreadForm : Type 0
PropOrSpreadForm = Open.PropOrSpread-F Decl BlockStmtOrExpr Expr Prop PropOrSpread Stmt Function ArrowExpr MethodProp ForStmt IfStmt SwitchCase SwitchStmt WhileStmt

abbrev pub prop_or_spread_number : PropOrSpreadForm → ℕ
prop_or_spread_number (Open.Spread n) = 1
prop_or_spread_number (Open.Prop n) = 2

prop_form-at : (o : PropForm) → prop_or_spread_form (label_of (prop_tree (roll-Prop o))) ≡ 2
prop_form-at (Open.Shorthand n) = ap (λ t. prop_or_spread_form (label_of t)) (ap prop_tree (in_prop.rolls-Shorthand n) ∙ prop_tree-Shorthand n)
prop_form-at (Open.KeyValue n) = ap (λ t. prop_or_spread_form (label_of t)) (ap prop_tree (in_prop.rolls-KeyValue n) ∙ prop_tree-KeyValue n)
prop_form-at (Open.Method n) = ap (λ t. prop_or_spread_form (label_of t)) (ap prop_tree (in_prop.rolls-Method n) ∙ prop_tree-Method n ∙ method_tree-is n)

of_prop : (p : Prop) → prop_or_spread_form (label_of (prop_tree p)) ≡ 2
of_prop p = subst (λ e. prop_or_spread_form (label_of (prop_tree e)) ≡ 2) (roll-out-Prop p) (prop_form-at (out-Prop p))

pub prop_or_spread_at : (o : PropOrSpreadForm) → prop_or_spread_form (label_of (prop_or_spread_tree (roll-PropOrSpread o))) ≡ prop_or_spread_number o
prop_or_spread_at (Open.Spread n) = ap (λ t. prop_or_spread_form (label_of t)) (ap prop_or_spread_tree (in_prop_or_spread.rolls-Spread n) ∙ prop_or_spread_tree-Spread n)
prop_or_spread_at (Open.Prop n) = ap (λ t. prop_or_spread_form (label_of t)) (ap prop_or_spread_tree (in_prop_or_spread.rolls-Prop n) ∙ prop_or_spread_tree-Prop n) ∙ of_prop n

pub prop_or_spread_apart : (s : Bool) (o p : PropOrSpreadForm) (a b : PropOrSpread) → roll-PropOrSpread o ≡ a → roll-PropOrSpread p ≡ b → (prop_or_spread_number o == prop_or_spread_number p) ≡ false → false ≡ same s (prop_or_spread_tree a) (prop_or_spread_tree b)
prop_or_spread_apart s o p a b at_a at_b = differ prop_or_spread_form s (prop_or_spread_tree a) (prop_or_spread_tree b) (prop_or_spread_number o) (prop_or_spread_number p) (ap (λ e. prop_or_spread_form (label_of (prop_or_spread_tree e))) (sym at_a) ∙ prop_or_spread_at o) (ap (λ e. prop_or_spread_form (label_of (prop_or_spread_tree e))) (sym at_b) ∙ prop_or_spread_at p)
