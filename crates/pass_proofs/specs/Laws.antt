-- What is proved for all passes of trees of expressions and of defaults.
use Rattle.std.specs.Prelude.{ℕ, Bool, true, ◌≡◌, List}
use Rattle.swc_ast.specs.declared.Span.{Span}
use Rattle.swc_ast.specs.declared.expressions.Expr.{Expr}
use Rattle.swc_ast.specs.Tree.{Name, Param, Tree, node, ε, ◌⊳◌, label_of}
use Rattle.swc_ast.specs.Views.{expr_tree}
use Rattle.meaning_proofs.specs.Exact.{GivesUndefined}
use Rattle.swc_ast.specs.Labels.{is_expression}
use Rattle.static_proofs.specs.Step.{Step}
use Rattle.pass_rules.specs.Defaults.{is_void}

-- the tree of an expression has an expression's label_of
abbrev pub TreesAreExpressions : Type 0
TreesAreExpressions = (e : Expr) → is_expression (label_of (expr_tree e)) ≡ true

-- a default that is `undefined`, or `void` of what is pure, gives undefined and does nothing else
abbrev pub VoidsAreUndefined : Type 0
VoidsAreUndefined = (mark : ℕ) (t : Tree) → is_void mark t ≡ true → GivesUndefined mark t

-- a parameter without its default keeps and spares what a pass may not touch, and is lighter
abbrev pub DefaultsOwe : Type 0
DefaultsOwe = (n : Bool) (p : Name → Bool) (x : Name) (ss rs : List Span) (t : Tree) → Step (n ≡ true) (λ y. p y ≡ true) (node (Param x) ss (t ⊳ ε)) (node (Param x) rs ε)
