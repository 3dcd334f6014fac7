-- First values of declarators that go.
use Rattle.std.proofs.Common.{◌≡◌, ◌<◌, ◌≤◌, Bool, true, false, not, ◌&&◌, ◌||◌, ◌++◌, if◌then◌else◌, List, [], ◌∷◌, length, Option, Some, None, refl, sym, ap, subst, ◌∙◌, arith}
use Rattle.std.specs.List.{All}
use Rattle.std.proofs.lemmas.Bool.{true≢false, false≢true}
use Rattle.std.proofs.lemmas.List.Elements.{All-nil, All-cons, All-head, All-tail, All-same}
use Rattle.std.specs.declared.alloc.Global.{Global}
use Rattle.std.specs.declared.boxed.Box.{Box}
use Rattle.swc_ast.specs.declared.Span.{Span}
use Rattle.swc_ast.specs.declared.VarDeclKind.{VarDeclKind}
use Rattle.swc_ast.specs.declared.VarDeclKind.TheVariants.{Var}
use Rattle.swc_ast.specs.declared.declarations.VarDecl.{VarDecl}
use Rattle.swc_ast.specs.declared.declarations.VarDeclarator.{VarDeclarator}
use Rattle.swc_ast.specs.declared.expressions.Expr.{Expr}
use Rattle.swc_ast.specs.declared.expressions.Expr.TheVariants as in_expr
use Rattle.swc_ast.specs.declared.expressions.SeqExpr.{SeqExpr}
use Rattle.swc_ast.specs.declared.statements.Stmt.{Stmt}
use Rattle.swc_ast.proofs.Equations.{expr_tree-Seq}
use Rattle.swc_ast.specs.Valid.{count}
use Rattle.static_proofs.specs.Names.{is_some_tree}
use Rattle.swc_ast.specs.Parts.{ident_name, list_trees, optional_trees}
use Rattle.swc_ast.specs.Scope.{joined}
use Rattle.swc_ast.specs.Statements.{declarator_tree, var_tree}
use Rattle.swc_ast.specs.Tree.{Declarator, ExprStmt, Seq, Tree, node, Forest, ε, ◌⊳◌}
use Rattle.swc_ast.specs.Views.{expr_tree, stmt_tree}
use Rattle.swc_utils.proofs.Chains.{joined_none, joined_assoc, pushed}
use Rattle.dce_rules.specs.Left.{is_plain_value, any_of}
use Rattle.dce_rules.specs.Shakes.{Shaker, Leaves, Shakes, nothing_left, goes_with_value, value_left, as_statement, declaration_goes}
use Rattle.dce_code.specs.Values.{Free, ValueBehind, value_behind, all_free}
use Rattle.dce_code.proofs.Declared.{some_counted}

-- the trees of declarators, and of values
abbrev declared : VarDeclKind → List (VarDeclarator Expr) → Forest
declared k ds = list_trees (declarator_tree expr_tree k) ds

abbrev values : List Expr → Forest
values es = list_trees expr_tree es

-- one declarator

abbrev behind : Shaker → VarDeclKind → VarDeclarator Expr → Forest → Forest → Option (Box Expr Global) → Type 0
behind S k d before after o = ValueBehind S (node (Declarator k (ident_name d.name)) (d.span ∷ d.name.span ∷ []) (optional_trees expr_tree o)) before after

pub no_value : (S : Shaker) (k : VarDeclKind) (d : VarDeclarator Expr) (before : Forest) → d.init ≡ None → Free S d → ValueBehind S (declarator_tree expr_tree k d) before before
no_value S k d before is f = subst (behind S k d before before) (sym is) (value_behind (goes_with_value (ap (λ b. b || false) f) nothing_left) (sym (joined_none before)))

pub plain_value : (S : Shaker) (k : VarDeclKind) (d : VarDeclarator Expr) (b : Box Expr Global) (e : Expr) (before : Forest) → d.init ≡ Some b → e ≡ b.value → is_plain_value (expr_tree e) ≡ true → Free S d → ValueBehind S (declarator_tree expr_tree k d) before before
plain_value S k d b e before is at p f =
    let goes = ap (λ x. any_of S.free (if x then ident_name d.name ∷ [] else [])) (ap (λ x. is_plain_value (expr_tree x)) (sym at) ∙ p) ∙ ap (λ x. x || false) f in
    subst (behind S k d before before) (sym is) (value_behind (goes_with_value goes nothing_left) (sym (joined_none before)))

pub value_stays : (S : Shaker) (k : VarDeclKind) (d : VarDeclarator Expr) (b : Box Expr Global) (e : Expr) (es fs : List Expr) → d.init ≡ Some b → e ≡ b.value → fs ≡ es ++ (e ∷ []) → Free S d → ValueBehind S (declarator_tree expr_tree k d) (values es) (values fs)
value_stays S k d b e es fs is at more f =
    subst (behind S k d (values es) (values fs)) (sym is) (value_behind (value_left f nothing_left) (ap values more ∙ pushed expr_tree es e ∙ ap (λ x. joined (values es) (expr_tree x ⊳ ε)) at))

-- in front of others
front : {S : Shaker} {d : Tree} {ps ts qs : Forest} → Leaves S (d ⊳ ε) ps → Leaves S ts qs → Leaves S (d ⊳ ts) (joined ps qs)
front (goes_with_value g nothing_left) h = goes_with_value g h
front (value_left f nothing_left) h = value_left f h

-- Values that are gathered: what the rest of the declarators leaves, behind them, is what all leave.
abbrev pub Gathered : List (VarDeclarator Expr) → List (VarDeclarator Expr) → List Expr → Type 0
Gathered all rest out = (S : Shaker) (k : VarDeclKind) → All (Free S) all → All (Free S) rest × ((qs : Forest) → Leaves S (declared k rest) qs → Leaves S (declared k all) (joined (values out) qs))

pub gathered_none : (all rest : List (VarDeclarator Expr)) (out : List Expr) → rest ≡ all → out ≡ [] → Gathered all rest out
gathered_none all rest out e none = λ S k free.
    (All-same (Free S) rest all e free, λ qs l. subst (λ xs. Leaves S (declared k all) (joined (values xs) qs)) (sym none) (subst (λ xs. Leaves S (declared k xs) qs) e l))

pub gathered_on : (all rest after : List (VarDeclarator Expr)) (d : VarDeclarator Expr) (out more : List Expr) → rest ≡ d ∷ after → ((S : Shaker) (k : VarDeclKind) → Free S d → ValueBehind S (declarator_tree expr_tree k d) (values out) (values more)) → Gathered all rest out → Gathered all after more
gathered_on all rest after d out more at pushes h = λ S k free.
    let frees : All (Free S) (d ∷ after) = All-same (Free S) (d ∷ after) rest (sym at) (h S k free).0 in
    (All-tail (Free S) d after frees, λ qs l. by S k free qs l (pushes S k (All-head (Free S) d after frees)))
  where
    by : (S : Shaker) (k : VarDeclKind) → All (Free S) all → (us : Forest) → Leaves S (declared k after) us → ValueBehind S (declarator_tree expr_tree k d) (values out) (values more) → Leaves S (declared k all) (joined (values more) us)
    by S k free us l (value_behind {qs} leaves e) =
        let whole = (h S k free).1 (joined qs us) (subst (λ xs. Leaves S (declared k xs) (joined qs us)) (sym at) (front leaves l)) in
        subst (λ zs. Leaves S (declared k all) (joined zs us)) (sym e) (subst (Leaves S (declared k all)) (sym (joined_assoc (values out) qs us)) whole)

pub gathered_all : (all rest : List (VarDeclarator Expr)) (out : List Expr) → rest ≡ [] → Gathered all rest out → (S : Shaker) (k : VarDeclKind) → All (Free S) all → Leaves S (declared k all) (values out)
gathered_all all rest out none h S k free =
    subst (Leaves S (declared k all)) (joined_none (values out)) ((h S k free).1 ε (subst (λ xs. Leaves S (declared k xs) ε) (sym none) nothing_left))

-- more than one value are a sequence
pub several_values : (rs vs : List Span) (es : List Expr) → 1 < length es → node ExprStmt rs (node Seq vs (values es) ⊳ ε) ≡ as_statement rs vs (values es)
several_values rs vs [] h = absurd (omega (arith, h))
several_values rs vs (e ∷ []) h = absurd (omega (arith, h))
several_values rs vs (e ∷ f ∷ es) h = refl

-- such a statement, by its parts
pub sequence_statement : (p : Span) (n : SeqExpr Expr) (s : Stmt) → n.span ≡ p → 1 < length n.exprs.items → stmt_tree s ≡ node ExprStmt (p ∷ []) (expr_tree (in_expr.Seq n) ⊳ ε) → stmt_tree s ≡ as_statement (p ∷ []) (p ∷ []) (values n.exprs.items)
sequence_statement p n s at h is =
    is
    ∙ ap (λ t. node ExprStmt (p ∷ []) (t ⊳ ε)) (expr_tree-Seq n ∙ ap (λ q. node Seq (q ∷ []) (values n.exprs.items)) at)
    ∙ several_values (p ∷ []) (p ∷ []) n.exprs.items h

and-left : (a b : Bool) → (a && b) ≡ true → a ≡ true
and-left true b h = refl
and-left false b h = absurd (false≢true h)

and-right : (a b : Bool) → (a && b) ≡ true → b ≡ true
and-right true b h = h
and-right false b h = absurd (false≢true h)

-- names that all go
frees_of : (S : Shaker) (ds : List (VarDeclarator Expr)) → all_free S (declared Var ds) ≡ true → All (Free S) ds
frees_of S [] h = All-nil (Free S)
frees_of S (d ∷ ds) h = All-cons (Free S) d ds (and-left (S.free (ident_name d.name)) (all_free S (declared Var ds)) h) (frees_of S ds (and-right (S.free (ident_name d.name)) (all_free S (declared Var ds)) h))

counted : (k : VarDeclKind) (ds : List (VarDeclarator Expr)) → not (is_some_tree (declared Var ds)) ≡ false → 1 ≤ count (declared k ds)
counted k [] h = absurd (true≢false h)
counted k (d ∷ ds) h = some_counted (declared k (d ∷ ds)) refl

-- the first values of a declaration all of whose names go take its place
pub declaration_replaced : (S : Shaker) (n : VarDecl Expr) (p : Span) (es : List Expr) (s : Stmt) → not (is_some_tree (declared Var n.decls.items)) ≡ false → all_free S (declared Var n.decls.items) ≡ true → ((R : Shaker) (k : VarDeclKind) → All (Free R) n.decls.items → Leaves R (declared k n.decls.items) (values es)) → stmt_tree s ≡ as_statement (p ∷ []) (p ∷ []) (values es) → Shakes S (var_tree expr_tree n) (stmt_tree s)
declaration_replaced S n p es s some free leaves is =
    subst (Shakes S (var_tree expr_tree n)) (sym is) (declaration_goes (p ∷ []) (p ∷ []) (values es) (counted n.kind n.decls.items some) (leaves S n.kind (frees_of S n.decls.items free)))
