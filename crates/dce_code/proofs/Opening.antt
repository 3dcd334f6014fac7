-- Declarators that go before their first values are walked.
use Rattle.std.proofs.Common.{◌≡◌, Bool, true, false, not, ◌&&◌, List, [], ◌∷◌, length, Option, Some, None, filter, nat_lt, refl, ap, subst, ◌∙◌}
use Rattle.std.proofs.lemmas.Bool.{true≢false}
use Rattle.std.specs.declared.alloc.Global.{Global}
use Rattle.std.specs.declared.boxed.Box.{Box}
use Rattle.swc_ast.specs.declared.Span.{Span}
use Rattle.swc_ast.specs.declared.VarDeclKind.{VarDeclKind}
use Rattle.swc_ast.specs.declared.VarDeclKind.TheVariants.{Var}
use Rattle.swc_ast.specs.declared.declarations.VarDeclarator.{VarDeclarator}
use Rattle.swc_ast.specs.declared.expressions.Expr.{Expr}
use Rattle.swc_ast.specs.Parts.{ident_name, list_trees, optional_trees}
use Rattle.swc_ast.specs.Statements.{declarator_tree}
use Rattle.swc_ast.specs.Tree.{Name, VarDecl, Declarator, Empty, Tree, node, Forest, ε, ◌⊳◌}
use Rattle.swc_ast.specs.Views.{expr_tree}
use Rattle.static_proofs.specs.Names.{is_some_tree}
use Rattle.swc_utils.specs.Pure.{pure}
use Rattle.walk_proofs.specs.Meant.{Sifts}
use Rattle.dce_rules.specs.Shakes.{Shaker, Early, goes_early, Opens, declarators_open, declaration_opens}
use Rattle.dce_code.specs.Lists.{Sifted}
use Rattle.dce_code.proofs.Declared.{some_counted, some_before, not_true}
use Rattle.dce_code.proofs.Sifted.{sifted_by}

-- a declarator with a first value
pub value_goes_early : (S : Shaker) (x : Name) (ss : List Span) (r : Tree) → (S.free x && not (not (pure S.mark r))) ≡ goes_early S (node (Declarator Var x) ss (r ⊳ ε))
value_goes_early S x ss r = ap (λ b. S.free x && b) (twice (pure S.mark r))
  where
    twice : (b : Bool) → not (not b) ≡ b
    twice true = refl
    twice false = refl

-- declarators of each kind go alike

by_value : (S : Shaker) (k : VarDeclKind) (x : Name) (ss : List Span) (o : Option (Box Expr Global)) → goes_early S (node (Declarator Var x) ss (optional_trees expr_tree o)) ≡ goes_early S (node (Declarator k x) ss (optional_trees expr_tree o))
by_value S k x ss None = refl
by_value S k x ss (Some b) = refl

filters_alike : (S : Shaker) (k : VarDeclKind) (ds : List (VarDeclarator Expr)) → filter (λ d. not (goes_early S (declarator_tree expr_tree Var d))) ds ≡ filter (λ d. not (goes_early S (declarator_tree expr_tree k d))) ds
filters_alike S k ds = λ i. filter (λ d. not (by_value S k (ident_name d.name) (d.span ∷ d.name.span ∷ []) d.init i)) ds

pub early_sifted : (S : Shaker) (k : VarDeclKind) (b : Bool) (ds es : List (VarDeclarator Expr)) → es ≡ filter (λ d. not (goes_early S (declarator_tree expr_tree Var d))) ds → b ≡ nat_lt (length es) (length ds) → Sifted (goes_early S) b (list_trees (declarator_tree expr_tree k) ds) (list_trees (declarator_tree expr_tree k) es)
early_sifted S k b ds es e is = sifted_by (declarator_tree expr_tree k) (goes_early S) b ds es (length es) (length ds) (e ∙ filters_alike S k ds) refl refl is

-- what is left of a declaration

pub early_stays : (S : Shaker) (k : VarDeclKind) (ss : List Span) (ds es : Forest) → Sifted (goes_early S) false ds es → node (VarDecl k) ss es ≡ node (VarDecl k) ss ds
early_stays S k ss ds es h = ap (λ cs. node (VarDecl k) ss cs) h.0

pub early_less : (S : Shaker) (k : VarDeclKind) (ss : List Span) (ds es : Forest) → Sifted (goes_early S) true ds es → not (is_some_tree es) ≡ false → Opens S (node (VarDecl k) ss ds) (node (VarDecl k) ss es)
early_less S k ss ds es h some = declarators_open h.0 (some_counted es some) h.1

nothing_of : (es : Forest) → is_some_tree es ≡ false → es ≡ ε
nothing_of ε h = refl
nothing_of (t ⊳ ts) h = absurd (true≢false h)

pub early_gone : (S : Shaker) (k : VarDeclKind) (ss : List Span) (ds es : Forest) → Sifted (goes_early S) true ds es → not (is_some_tree es) ≡ true → (rs : List Span) → Opens S (node (VarDecl k) ss ds) (node Empty rs ε)
early_gone S k ss ds es h none rs =
    let e = not_true (is_some_tree es) none in
    declaration_opens (some_before ds es h.1 e) (subst (Sifts (Early S) ds) (nothing_of es e) h.0)
