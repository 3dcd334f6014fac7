-- Statements that no rule takes.
use Rattle.std.proofs.Common.{◌≡◌, ◌≤◌, ◌==◌, ℕ, Bool, true, false, not, ◌&&◌, ◌||◌, List, [], ◌∷◌, length, Option, Some, None, refl, sym, ap, subst, ◌∙◌, arith}
use Rattle.std.proofs.lemmas.Bool.{true≢false}
use Rattle.std.specs.declared.alloc.Global.{Global}
use Rattle.std.specs.declared.boxed.Box.{Box}
use Rattle.swc_ast.specs.declared.Span.{Span}
use Rattle.swc_ast.specs.declared.VarDeclKind.TheVariants.{Var, Let, Const}
use Rattle.swc_ast.specs.declared.declarations.Decl.TheOpen as Open
use Rattle.swc_ast.specs.declared.declarations.Decl.TheViews.{out-Stmt, roll-out-Stmt, roll-Expr, out-Expr, roll-out-Expr}
use Rattle.swc_ast.specs.declared.expressions.Expr.{Expr}
use Rattle.swc_ast.specs.declared.expressions.Expr.TheVariants as in_expr
use Rattle.swc_ast.specs.declared.statements.Stmt.{Stmt}
use Rattle.swc_ast.specs.declared.statements.TryStmt.{TryStmt}
use Rattle.swc_ast.specs.Parts.{list_trees, optional_trees}
use Rattle.swc_ast.specs.Redex.{own_redex, is_empty, is_number, is_simple_literal, is_simple_word, is_text}
use Rattle.swc_ast.specs.Statements.{handler_param, handler_tree, option_block_tree, try_tree}
use Rattle.swc_ast.specs.Tree as tree
use Rattle.swc_ast.specs.Tree.{Name, Tree, node, Forest, ε, ◌⊳◌, label_of}
use Rattle.swc_ast.specs.Valid.{is_listed, none_listed}
use Rattle.swc_ast.specs.Views.{expr_tree, stmt_tree}
use Rattle.swc_ast.proofs.ApartExpressions.{ExprForm, expr_form, expr_number, expr_at}
use Rattle.swc_ast.proofs.ApartStatements.{StmtForm, stmt_form, stmt_number, stmt_at}
use Rattle.swc_utils.specs.Known.{truth}
use Rattle.swc_utils.specs.Pure.{pure}
use Rattle.branch_rules.specs.Removes.{Rests}
use Rattle.branch_rules.specs.Statements.{all_plain, is_plain, is_word}
use Rattle.branch_statements.specs.Arms.{has_empty_else}

pub and_none : (x y : Bool) → y ≡ false → (x && y) ≡ false
and_none true y h = h
and_none false y h = refl

-- literals are known, and do nothing

literal_known : (mark : ℕ) (t : Tree) → is_simple_literal t ≡ true → truth mark t ≡ None → ⊥
literal_known mark (node (tree.NumLit z) ss cs) h k = cc
literal_known mark (node (tree.StrLit t) ss cs) h k = cc
literal_known mark (node (tree.BoolLit b) ss cs) h k = cc
literal_known mark (node tree.NullLit ss cs) h k = cc
literal_known mark _ h k = cc

not_literal : (mark : ℕ) (t : Tree) → truth mark t ≡ None → is_simple_literal t ≡ false
not_literal mark t k = by (is_simple_literal t) refl
  where
    by : (b : Bool) → is_simple_literal t ≡ b → is_simple_literal t ≡ false
    by true h = absurd (literal_known mark t h k)
    by false h = h

word_pure : (mark : ℕ) (t : Tree) → (is_number t || is_simple_word t) ≡ true → pure mark t ≡ true
word_pure mark (node (tree.NumLit z) ss cs) h = refl
word_pure mark (node (tree.BoolLit b) ss cs) h = refl
word_pure mark (node tree.NullLit ss cs) h = refl
word_pure mark _ h = cc

not_word : (mark : ℕ) (t : Tree) → pure mark t ≡ false → (is_number t || is_simple_word t) ≡ false
not_word mark t k = by (is_number t || is_simple_word t) refl
  where
    by : (b : Bool) → (is_number t || is_simple_word t) ≡ b → (is_number t || is_simple_word t) ≡ false
    by true h = let p : pure mark t ≡ true = word_pure mark t h in cc
    by false h = h

-- no text is one
pub text_rests : (s : Span) (a : Tree) → is_text a ≡ true → Rests (node tree.ExprStmt (s ∷ []) (a ⊳ ε))
text_rests s (node (tree.StrLit t) ss cs) h = refl
text_rests s _ h = cc

pub expression_rests : (s : Span) (a : Tree) → (is_number a || is_simple_word a) ≡ false → Rests (node tree.ExprStmt (s ∷ []) (a ⊳ ε))
expression_rests s a h = h

pub idle_literal : (mark : ℕ) (t : Tree) (b : Bool) → b ≡ not (pure mark t) → not b ≡ true → pure mark t ≡ true
idle_literal mark t true h k = cc
idle_literal mark t false h k = by (pure mark t) refl h
  where
    by : (p : Bool) → pure mark t ≡ p → false ≡ not p → pure mark t ≡ true
    by true e g = e
    by false e g = cc

pub not_idle_literal : (mark : ℕ) (t : Tree) (b : Bool) → b ≡ not (pure mark t) → not b ≡ false → (is_number t || is_simple_word t) ≡ false
not_idle_literal mark t false h k = cc
not_idle_literal mark t true h k = not_word mark t (by (pure mark t) refl h)
  where
    by : (p : Bool) → pure mark t ≡ p → true ≡ not p → pure mark t ≡ false
    by false e g = e
    by true e g = cc

-- what is no literal
no_word : (t : Tree) (n : ℕ) → expr_form (label_of t) ≡ n → (n == 15) ≡ false → (is_number t || is_simple_word t) ≡ false
no_word (node (tree.NumLit z) ss cs) n h k = absurd (true≢false (ap (λ m. m == 15) h ∙ k))
no_word (node (tree.BoolLit b) ss cs) n h k = absurd (true≢false (ap (λ m. m == 15) h ∙ k))
no_word (node tree.NullLit ss cs) n h k = absurd (true≢false (ap (λ m. m == 15) h ∙ k))
no_word (node l ss cs) n h k = refl

pub other_word : (e : Expr) → ((n : _) → e ≡ in_expr.Lit n → ⊥) → (is_number (expr_tree e) || is_simple_word (expr_tree e)) ≡ false
other_word e none = by (out-Expr e) (roll-out-Expr e)
  where
    by : (p : ExprForm) → roll-Expr p ≡ e → (is_number (expr_tree e) || is_simple_word (expr_tree e)) ≡ false
    by (Open.Lit n) r = absurd (none n (sym r ∙ in_expr.rolls-Lit n))
    by p r = no_word (expr_tree e) (expr_number p) (ap (λ x. expr_form (label_of (expr_tree x))) (sym r) ∙ expr_at p) refl

-- names, `this` and arrows

pub word_rests : (s : Span) (a : Tree) → is_word a ≡ true → Rests (node tree.ExprStmt (s ∷ []) (a ⊳ ε))
word_rests s (node (tree.Read x) ss cs) h = refl
word_rests s (node tree.This ss cs) h = refl
word_rests s (node tree.Arrow ss cs) h = refl
word_rests s _ h = cc

none_kept : (t : Tree) (n : ℕ) → expr_form (label_of t) ≡ n → (n == 14) ≡ false → (n == 1) ≡ false → (n == 17) ≡ false → false ≡ is_word t
none_kept (node (tree.Read x) ss cs) n h i j k = absurd (true≢false (ap (λ m. m == 14) h ∙ i))
none_kept (node tree.This ss cs) n h i j k = absurd (true≢false (ap (λ m. m == 1) h ∙ j))
none_kept (node tree.Arrow ss cs) n h i j k = absurd (true≢false (ap (λ m. m == 17) h ∙ k))
none_kept (node l ss cs) n h i j k = refl

pub no_kept_word : (e : Expr) → ((n : _) → e ≡ in_expr.Ident n → ⊥) → ((n : _) → e ≡ in_expr.This n → ⊥) → ((n : _) → e ≡ in_expr.Arrow n → ⊥) → false ≡ is_word (expr_tree e)
no_kept_word e no_name no_this no_arrow = by (out-Expr e) (roll-out-Expr e)
  where
    by : (p : ExprForm) → roll-Expr p ≡ e → false ≡ is_word (expr_tree e)
    by (Open.Ident n) r = absurd (no_name n (sym r ∙ in_expr.rolls-Ident n))
    by (Open.This n) r = absurd (no_this n (sym r ∙ in_expr.rolls-This n))
    by (Open.Arrow n) r = absurd (no_arrow n (sym r ∙ in_expr.rolls-Arrow n))
    by p r = none_kept (expr_tree e) (expr_number p) (ap (λ x. expr_form (label_of (expr_tree x))) (sym r) ∙ expr_at p) refl refl refl

-- an arm that is not plain stands in a list

numbered : (o : StmtForm) → 1 ≤ stmt_number o
numbered (Open.Block n) = omega arith
numbered _ = omega arith

listed_at : (t : Tree) → 1 ≤ stmt_form (label_of t) → is_plain t ≡ false → is_listed t ≡ true
listed_at (node (tree.VarDecl Let) ss cs) n h = refl
listed_at (node (tree.VarDecl Const) ss cs) n h = refl
listed_at (node (tree.FnDecl x) ss cs) n h = refl
listed_at (node (tree.VarDecl Var) ss cs) n h = cc
listed_at (node tree.Block ss cs) n h = cc
listed_at (node tree.Empty ss cs) n h = cc
listed_at (node tree.Return ss cs) n h = cc
listed_at (node (tree.Labeled l) ss cs) n h = cc
listed_at (node (tree.Break l) ss cs) n h = cc
listed_at (node (tree.Continue l) ss cs) n h = cc
listed_at (node tree.If ss cs) n h = cc
listed_at (node (tree.Switch ds) ss cs) n h = cc
listed_at (node tree.Throw ss cs) n h = cc
listed_at (node (tree.Try o) ss cs) n h = cc
listed_at (node tree.While ss cs) n h = cc
listed_at (node tree.DoWhile ss cs) n h = cc
listed_at (node tree.For ss cs) n h = cc
listed_at (node tree.ExprStmt ss cs) n h = cc
listed_at _ n h = absurd (omega (arith, n))

stmt_formed : (s : Stmt) → 1 ≤ stmt_form (label_of (stmt_tree s))
stmt_formed s = subst (λ x. 1 ≤ stmt_form (label_of (stmt_tree x))) (roll-out-Stmt s) (subst (λ n. 1 ≤ n) (sym (stmt_at (out-Stmt s))) (numbered (out-Stmt s)))

stmt_listed : (s : Stmt) → is_plain (stmt_tree s) ≡ false → is_listed (stmt_tree s) ≡ true
stmt_listed s h = listed_at (stmt_tree s) (stmt_formed s) h

one_listed : (a : Stmt) (ts : Forest) → (all_plain ts ≡ false → none_listed ts ≡ false) → all_plain (stmt_tree a ⊳ ts) ≡ false → none_listed (stmt_tree a ⊳ ts) ≡ false
one_listed a ts rest h = by (is_plain (stmt_tree a)) refl h
  where
    by : (p : Bool) → is_plain (stmt_tree a) ≡ p → (p && all_plain ts) ≡ false → none_listed (stmt_tree a ⊳ ts) ≡ false
    by true e k = and_none (not (is_listed (stmt_tree a))) (none_listed ts) (rest k)
    by false e k = ap (λ b. not b && none_listed ts) (stmt_listed a e)

arms_listed : (a : Stmt) (o : Option (Box Stmt Global)) → all_plain (stmt_tree a ⊳ optional_trees stmt_tree o) ≡ false → none_listed (stmt_tree a ⊳ optional_trees stmt_tree o) ≡ false
arms_listed a None h = one_listed a ε (λ k. cc) h
arms_listed a (Some b) h = one_listed a (stmt_tree b.value ⊳ ε) (λ k. one_listed b.value ε (λ j. cc) k) h

and_first : (x y : Bool) → x ≡ false → (x && y) ≡ false
and_first true y h = cc
and_first false y h = refl

pub listed_rests : (s : Span) (t : Tree) (a : Stmt) (o : Option (Box Stmt Global)) → all_plain (stmt_tree a ⊳ optional_trees stmt_tree o) ≡ false → Rests (node tree.If (s ∷ []) (t ⊳ stmt_tree a ⊳ optional_trees stmt_tree o))
listed_rests s t a o h = and_first _ _ (and_none (not (is_listed t)) _ (arms_listed a o h))

-- a condition whose truth is unknown

if_own : (mark : ℕ) (t : Tree) (arms : Forest) → truth mark t ≡ None → has_empty_else arms ≡ false → own_redex tree.If (t ⊳ arms) ≡ false
if_own mark t ε k h = refl
if_own mark t (a ⊳ ε) k h = not_literal mark t k
if_own mark t (a ⊳ b ⊳ ε) k h = ap (λ x. x || is_empty b) (not_literal mark t k) ∙ h
if_own mark t (a ⊳ b ⊳ c ⊳ cs) k h = refl

pub unknown_rests : (mark : ℕ) (s : Span) (t : Tree) (arms : Forest) → truth mark t ≡ None → has_empty_else arms ≡ false → Rests (node tree.If (s ∷ []) (t ⊳ arms))
unknown_rests mark s t arms k h = and_none (none_listed (t ⊳ arms)) _ (if_own mark t arms k h)

-- blocks, labels and `try`

try_own : (p : Option (Option Name)) (bs : List Span) (xs : List Stmt) (cs : Forest) → (length xs ≡ 0 → ⊥) → own_redex (tree.Try p) (node tree.Block bs (list_trees stmt_tree xs) ⊳ cs) ≡ false
try_own p bs [] cs h = absurd (h refl)
try_own p bs (x ∷ xs) cs h = refl

pub try_rests : (n : TryStmt Stmt) → (length n.block.stmts.items ≡ 0 → ⊥) → Rests (try_tree stmt_tree n)
try_rests n h = and_none _ _ (try_own (handler_param n.handler) (n.block.span ∷ []) n.block.stmts.items (handler_tree stmt_tree n.handler ⊳ option_block_tree stmt_tree n.finalizer ⊳ ε) h)
