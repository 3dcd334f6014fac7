-- What is left of an expression is put behind statements.
use Rattle.std.proofs.Common.{◌≡◌, ℕ, Bool, true, false, not, List, [], ◌∷◌, length, Some, refl, sym, subst, ◌∙◌, arith, ◌<◌, ◌⊎◌, inl, inr}
use Rattle.swc_ast.specs.declared.Span.{Span}
use Rattle.swc_ast.specs.declared.expressions.Expr.{Expr}
use Rattle.swc_ast.specs.declared.statements.Stmt.{Stmt}
use Rattle.swc_ast.specs.Parts.{list_trees}
use Rattle.swc_ast.specs.Scope.{joined}
use Rattle.swc_ast.specs.Tree.{Block, Tree, node, Forest, ε, ◌⊳◌}
use Rattle.swc_ast.specs.Views.{expr_tree, stmt_tree}
use Rattle.swc_utils.specs.Pure.{pure}
use Rattle.swc_utils.proofs.Chains.{joined_none}
use Rattle.pass_proofs.proofs.ExprTrees.{is_an_expression}
use Rattle.branch_rules.specs.Ignored.{Ignores, stays}
use Rattle.branch_rules.specs.Statements.{as_statement, nothing_alone, left_alone}
use Rattle.branch_expressions.specs.Left.{IsLeft}
use Rattle.branch_expressions.specs.declared.ignored.Left.{Left as LeftKind}
use Rattle.branch_expressions.specs.declared.ignored.Left.TheVariants as left
use Rattle.branch_expressions.proofs.Made.{goes_pure}
use Rattle.branch_parts.specs.Behind.{alone_tree, LeftBehind, left_behind}

-- nothing is left
pub behind_nothing : (mark : ℕ) (t u : Tree) (before : Forest) (k : LeftKind) → k ≡ left.Nothing → IsLeft mark t u k → LeftBehind mark t before before
behind_nothing mark t u before k is h = left_behind (nothing_alone t (subst (IsLeft mark t u) is h)) (sym (joined_none before))

-- an expression that has no effect goes
pub behind_idle : (mark : ℕ) (e : Expr) (b : Bool) (before : Forest) → b ≡ not (pure mark (expr_tree e)) → b ≡ false → LeftBehind mark (expr_tree e) before before
behind_idle mark e b before h k = left_behind (nothing_alone (expr_tree e) (goes_pure mark e b h k)) (sym (joined_none before))

-- the expression, as it was
behind_same : (mark : ℕ) (t : Tree) (e r : Expr) (before after : Forest) (k : LeftKind) → k ≡ left.Same → IsLeft mark t (expr_tree e) k → expr_tree r ≡ expr_tree e → after ≡ joined before (alone_tree (expr_tree r) ⊳ ε) → LeftBehind mark t before after
behind_same mark t e r before after k is h at pushed =
    left_behind (left_alone (record { lo = 0; hi = 0 } ∷ []) t (expr_tree r) (is_an_expression r) (subst (λ x. Ignores mark false t (Some x)) (sym (at ∙ subst (IsLeft mark t (expr_tree e)) is h)) (stays t))) pushed

-- another one
behind_changed : (mark : ℕ) (t : Tree) (e r : Expr) (before after : Forest) (k : LeftKind) → k ≡ left.Changed → IsLeft mark t (expr_tree e) k → expr_tree r ≡ expr_tree e → after ≡ joined before (alone_tree (expr_tree r) ⊳ ε) → LeftBehind mark t before after
behind_changed mark t e r before after k is h at pushed =
    left_behind (left_alone (record { lo = 0; hi = 0 } ∷ []) t (expr_tree r) (is_an_expression r) (subst (λ x. Ignores mark true t (Some x)) (sym at) (subst (IsLeft mark t (expr_tree e)) is h))) pushed

-- something is
pub behind_some : (mark : ℕ) (t : Tree) (e r : Expr) (before after : Forest) (k : LeftKind) → (k ≡ left.Same) ⊎ (k ≡ left.Changed) → IsLeft mark t (expr_tree e) k → expr_tree r ≡ expr_tree e → after ≡ joined before (alone_tree (expr_tree r) ⊳ ε) → LeftBehind mark t before after
behind_some mark t e r before after k (inl is) h at pushed = behind_same mark t e r before after k is h at pushed
behind_some mark t e r before after k (inr is) h at pushed = behind_changed mark t e r before after k is h at pushed

-- more than one statement are a block
pub several_statement : (rs : List Span) (xs : List Stmt) → 1 < length xs → node Block rs (list_trees stmt_tree xs) ≡ as_statement rs (list_trees stmt_tree xs)
several_statement rs [] h = absurd (omega (arith, h))
several_statement rs (x ∷ []) h = absurd (omega (arith, h))
several_statement rs (x ∷ y ∷ ys) h = refl
