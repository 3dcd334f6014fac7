-- Names that the host may be asked about, as what is run of a property.
use Rattle.std.proofs.Common.{◌≡◌, ℕ, Bool, true, false, not, if◌then◌else◌, List, [], ◌∷◌, ◌++◌, Some, sym, ap, subst, ◌∙◌}
use Rattle.swc_ast.specs.Tree.{Name, Read, node, ε, ◌⊳◌}
use Rattle.swc_ast.specs.declared.Span.{Span}
use Rattle.swc_ast.specs.declared.expressions.Expr.{Expr}
use Rattle.swc_ast.specs.Views.{expr_tree}
use Rattle.swc_utils.specs.Globals.{is_host_name}
use Rattle.swc_utils.specs.Pure.{pure}
use Rattle.branch_rules.specs.Ignored.{Ignores, stays}
use Rattle.branch_expressions.specs.Left.{Adds}
use Rattle.branch_expressions.proofs.Adding.{adds_none, adds_one}

host_of : (h b : Bool) → b ≡ not (not h) → h ≡ b
host_of true b e = sym e
host_of false b e = sym e

pub adds_host : (mark : ℕ) (x : Name) (ss : List Span) (e : Expr) (a b : List Expr) (h : Bool) → expr_tree e ≡ node (Read x) ss ε → h ≡ not (pure mark (expr_tree e)) → h ≡ true → b ≡ a ++ e ∷ [] → Adds mark (if is_host_name mark x then node (Read x) ss ε ⊳ ε else ε) a b false
adds_host mark x ss e a b h is p k at =
    subst (λ c. Adds mark (if c then node (Read x) ss ε ⊳ ε else ε) a b false) (sym (host_of (is_host_name mark x) h (p ∙ ap (λ t. not (pure mark t)) is) ∙ k))
    (adds_one mark (node (Read x) ss ε) false a b e at (subst (λ t. Ignores mark false (node (Read x) ss ε) (Some t)) (sym is) (stays (node (Read x) ss ε))))

pub adds_no_host : (mark : ℕ) (x : Name) (ss : List Span) (e : Expr) (a : List Expr) (h : Bool) → expr_tree e ≡ node (Read x) ss ε → h ≡ not (pure mark (expr_tree e)) → h ≡ false → Adds mark (if is_host_name mark x then node (Read x) ss ε ⊳ ε else ε) a a false
adds_no_host mark x ss e a h is p k =
    subst (λ c. Adds mark (if c then node (Read x) ss ε ⊳ ε else ε) a a false) (sym (host_of (is_host_name mark x) h (p ∙ ap (λ t. not (pure mark t)) is) ∙ k)) (adds_none mark a)
