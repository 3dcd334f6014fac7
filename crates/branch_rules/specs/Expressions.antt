-- What an expression becomes beside what is left of it where its value is not used. The spans of a new node are the caller's.
use Rattle.std.specs.Prelude.{ℕ, ◌<◌, ◌≡◌, Bool, true, false, List, Option, Some, None}
use Rattle.swc_ast.specs.declared.Span.{Span}
use Rattle.swc_ast.specs.declared.UnaryOp.TheVariants.{Void}
use Rattle.swc_ast.specs.declared.AssignOp.TheVariants.{Assign as Plain}
use Rattle.swc_ast.specs.Tree.{Name, NumLit, StrLit, BoolLit, NullLit, Read, Assign, Unary, Cond, Seq, Tree, node, Forest, ε, ◌⊳◌}
use Rattle.swc_ast.specs.declared.expressions.Expr.{Expr}
use Rattle.swc_ast.specs.Scope.{joined}
use Rattle.swc_ast.specs.Views.{expr_tree}
use Rattle.swc_ast.specs.Meaning.{is_unresolved}
use Rattle.swc_ast.specs.Weight.{weight}
use Rattle.swc_utils.specs.Effects.{preserve}
use Rattle.swc_utils.specs.Globals.{is_undefined}
use Rattle.swc_utils.specs.Pure.{pure}
use Rattle.pass_rules.specs.Defaults.{is_void}
use Rattle.pass_rules.specs.Leaves.{guarded}
use Rattle.branch_rules.specs.Ignored.{IgnoresAll}

-- a number, a text, a truth value or null
abbrev pub is_literal_leaf : Tree → Bool
is_literal_leaf (node (NumLit z) ss ε) = true
is_literal_leaf (node (StrLit t) ss ε) = true
is_literal_leaf (node (BoolLit b) ss ε) = true
is_literal_leaf (node NullLit ss ε) = true
is_literal_leaf _ = false

-- `undefined`, and `void` of a literal: no run of them leaves the core. `void x` with an `x` that holds nothing yet is no such tree,
-- and may not stand for `undefined`.
abbrev pub always_void : ℕ → Tree → Bool
always_void mark (node (Unary Void) ss (a ⊳ ε)) = is_literal_leaf a
always_void mark (node (Read x) ss ε) = is_undefined mark (node (Read x) ss ε)
always_void mark _ = false

pub data ExpressionStep (mark : ℕ) : Tree → Tree → Type 0 where
  -- the front of a sequence; where nothing is left of it, the last item stands alone
  front : (ss rs : List Span) (fs us : Forest) (t : Tree) → IgnoresAll mark true fs us → ExpressionStep mark (node Seq ss (joined fs (t ⊳ ε))) (preserve rs us t)
  -- `x = x` of a bound name
  itself : (ss is rs : List Span) (x : Name) → is_unresolved mark x ≡ false → ExpressionStep mark (node (Assign Plain x) ss (node (Read x) is ε ⊳ ε)) (node (Read x) rs ε)
  -- a choice of two arms that are both undefined
  same_arms : (ss : List Span) (c u v : Tree) → pure mark c ≡ true → always_void mark u ≡ true → is_void mark v ≡ true → ExpressionStep mark (node Cond ss (c ⊳ u ⊳ v ⊳ ε)) u
  -- a place where the answer would mean something else
  in_guard : {t u : Tree} (rs zs : List Span) → ExpressionStep mark t u → weight (guarded rs zs u) < weight t → ExpressionStep mark t (guarded rs zs u)

-- what takes the place of a node, by one of the rules; or none, and then the node, t before and u now, is as it was
abbrev pub Becomes : ℕ → Tree → Tree → Option Expr → Type 0
Becomes mark t u (Some e) = ExpressionStep mark t (expr_tree e)
Becomes mark t u None = u ≡ t
