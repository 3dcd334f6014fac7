-- How deep declarations of variables are: no deeper where declarators go.
use Rattle.std.proofs.Common.{◌≡◌, ◌≤◌, ◌+◌, ℕ, Bool, true, false, max, List, [], ◌∷◌, filter, cond, sym, ap, ◌∙◌, arith}
use denote.Param.Weighed.{most}
use Rattle.swc_ast.specs.declared.declarations.Decl.{Decl, size-Decl, size_is-Decl}
use Rattle.swc_ast.specs.declared.declarations.Decl.TheOpen as Open
use Rattle.swc_ast.specs.declared.declarations.Decl.TheVariants as in_decl
use Rattle.swc_ast.specs.declared.declarations.Decl.TheViews.{roll-Decl, out-roll-Decl, roll-Stmt, out-roll-Stmt}
use Rattle.swc_ast.specs.declared.declarations.VarDecl.{VarDecl}
use Rattle.swc_ast.specs.declared.declarations.VarDeclarator.{VarDeclarator}
use Rattle.swc_ast.specs.declared.expressions.Expr.{Expr}
use Rattle.swc_ast.specs.declared.statements.Stmt.{size-Stmt, size_is-Stmt}
use Rattle.swc_ast.specs.declared.statements.Stmt.TheVariants as in_stmt

-- a declaration as a statement
pub declared_size : (d : Decl) → size-Stmt (in_stmt.Decl d) ≡ size-Decl d + 1
declared_size d = ap size-Stmt (sym (in_stmt.rolls-Decl d)) ∙ (rw (out-roll-Stmt (Open.Decl d)) at (size_is-Stmt (roll-Stmt (Open.Decl d)))) ∙ omega arith

-- the deepest of what stays is no deeper than the deepest
most_sifted : {X : Type 0} (μ : X → ℕ) (p : X → Bool) (xs : List X) → most μ (filter p xs) ≤ most μ xs
most_sifted μ p [] = omega arith
most_sifted μ p (x ∷ xs) = by (p x) (most_sifted μ p xs)
  where
    by : (b : Bool) → most μ (filter p xs) ≤ most μ xs → most μ (cond b (x ∷ filter p xs) (filter p xs)) ≤ most μ (x ∷ xs)
    by true h = omega (arith, h)
    by false h = omega (arith, h)

shallower : (μ : VarDeclarator Expr → ℕ) (p : VarDeclarator Expr → Bool) (a b : ℕ) (ds es : List (VarDeclarator Expr)) → es ≡ filter p ds → a ≡ max (max 0 (max 0 (max (most μ ds) 0))) 0 + 1 → b ≡ max (max 0 (max 0 (max (most μ es) 0))) 0 + 1 → b ≤ a
shallower μ p a b ds es e is at = omega (arith, is, at, ap (most μ) e, most_sifted μ p ds)

-- a declaration of which some declarators stay
pub sifted_shallower : (p : VarDeclarator Expr → Bool) (n m : VarDecl Expr) → m.decls.items ≡ filter p n.decls.items → size-Decl (in_decl.Var m) ≤ size-Decl (in_decl.Var n)
sifted_shallower p n m e =
    shallower _ p (size-Decl (in_decl.Var n)) (size-Decl (in_decl.Var m)) n.decls.items m.decls.items e
    (ap size-Decl (sym (in_decl.rolls-Var n)) ∙ (rw (out-roll-Decl (Open.Var n)) at (size_is-Decl (roll-Decl (Open.Var n)))))
    (ap size-Decl (sym (in_decl.rolls-Var m)) ∙ (rw (out-roll-Decl (Open.Var m)) at (size_is-Decl (roll-Decl (Open.Var m)))))
