-- What jumps leave a statement, by its parts: none leaves the expressions in it.
use Rattle.std.proofs.Common.{◌≡◌, ℕ, suc, ◌+◌, ◌<◌, Bool, true, false, ◌||◌, List, [], ◌∷◌, map, drop, length, get_or, refl, sym, ap, ◌∙◌, arith}
use Rattle.std.proofs.Math.Seq.{drop-cons}
use Rattle.std.specs.Prelude.{Option, Some, None}
use Rattle.swc_ast.specs.Tree.{Text}
use Rattle.swc_ast.specs.Parts.{list_trees, optional_trees}
use Rattle.swc_ast.specs.Statements.{declarator_tree, var_tree, option_init_tree, block_tree, option_block_tree, return_tree, throw_tree, expr_stmt_tree, handler_tree, try_tree, while_node, do_while_node, case_children}
use Rattle.swc_ast.specs.Views.{expr_tree, stmt_tree, decl_tree, if_tree, for_tree, loop_trees, case_trees, switch_tree}
use Rattle.swc_ast.proofs.Equations.{stmt_tree-While, stmt_tree-DoWhile, if_tree-is, for_tree-is, loop_trees-is, case_trees-is, switch_tree-is, decl_tree-Fn, decl_tree-Var}
use Rattle.swc_ast.specs.declared.declarations.Decl.TheOpen as Open
use Rattle.swc_ast.specs.declared.declarations.Decl.TheViews.{roll-Decl, out-Decl, roll-out-Decl, out-IfStmt, out-ForStmt, out-WhileStmt, out-SwitchCase, out-SwitchStmt}
use Rattle.swc_ast.specs.declared.declarations.Decl.TheVariants as in_decl
use Rattle.swc_ast.specs.declared.VarDeclKind.{VarDeclKind}
use Rattle.swc_ast.specs.declared.declarations.Decl.{Decl}
use Rattle.swc_ast.specs.declared.declarations.VarDecl.{VarDecl}
use Rattle.swc_ast.specs.declared.declarations.VarDeclarator.{VarDeclarator}
use Rattle.swc_ast.specs.declared.declarations.Function.{Function}
use Rattle.swc_ast.specs.declared.expressions.ArrowExpr.{ArrowExpr}
use Rattle.swc_ast.specs.declared.expressions.BlockStmtOrExpr.{BlockStmtOrExpr}
use Rattle.swc_ast.specs.declared.expressions.Expr.{Expr}
use Rattle.swc_ast.specs.declared.expressions.MethodProp.{MethodProp}
use Rattle.swc_ast.specs.declared.expressions.Prop.{Prop}
use Rattle.swc_ast.specs.declared.expressions.PropOrSpread.{PropOrSpread}
use Rattle.swc_ast.specs.declared.statements.ExprStmt.{ExprStmt}
use Rattle.swc_ast.specs.declared.statements.ForStmt.{ForStmt}
use Rattle.swc_ast.specs.declared.statements.IfStmt.{IfStmt}
use Rattle.swc_ast.specs.declared.statements.ReturnStmt.{ReturnStmt}
use Rattle.swc_ast.specs.declared.statements.Stmt.{Stmt}
use Rattle.swc_ast.specs.declared.statements.Stmt.TheVariants as in_stmt
use Rattle.swc_ast.specs.declared.statements.SwitchCase.{SwitchCase}
use Rattle.swc_ast.specs.declared.statements.SwitchStmt.{SwitchStmt}
use Rattle.swc_ast.specs.declared.statements.ThrowStmt.{ThrowStmt}
use Rattle.swc_ast.specs.declared.statements.TryStmt.{TryStmt}
use Rattle.swc_ast.specs.declared.statements.VarDeclOrExpr.{VarDeclOrExpr}
use Rattle.swc_ast.specs.declared.statements.VarDeclOrExpr.TheVariants as init
use Rattle.swc_ast.specs.declared.statements.WhileStmt.{WhileStmt}
use Rattle.branch_rules.specs.Jumps.{Kinds, in_loop, in_switch, escapes_behind, escapes, some_escape}
use Rattle.branch_jumps.proofs.Expressions.{neither, expr_closed, optional_closed, absent_closed}

pub or_none : (b : Bool) → (b || false) ≡ b
or_none true = refl
or_none false = refl

-- behind what no jump leaves
skipped : (a b : Bool) → a ≡ false → (a || b) ≡ b
skipped a b e = ap (λ x. x || b) e

-- statements of expressions alone

pub return_closed : (g : Kinds) (n : ReturnStmt Expr) → false ≡ escapes g (return_tree expr_tree n)
return_closed g n = sym (optional_closed g n.arg)

pub throw_closed : (g : Kinds) (n : ThrowStmt Expr) → false ≡ escapes g (throw_tree expr_tree n)
throw_closed g n = sym (neither (escapes g (expr_tree n.arg.value)) false (expr_closed g n.arg.value) refl)

pub expr_stmt_closed : (g : Kinds) (n : ExprStmt Expr) → false ≡ escapes g (expr_stmt_tree expr_tree n)
expr_stmt_closed g n = sym (neither (escapes g (expr_tree n.expr.value)) false (expr_closed g n.expr.value) refl)

-- declarations

declarators_closed : (g : Kinds) (k : VarDeclKind) (ds : List (VarDeclarator Expr)) → some_escape g (list_trees (declarator_tree expr_tree k) ds) ≡ false
declarators_closed g k [] = refl
declarators_closed g k (d ∷ ds) = neither _ _ (optional_closed g d.init) (declarators_closed g k ds)

var_closed : (g : Kinds) (n : VarDecl Expr) → escapes g (var_tree expr_tree n) ≡ false
var_closed g n = declarators_closed g n.kind n.decls.items

init_closed : (g : Kinds) (o : Option (VarDeclOrExpr Expr)) → escapes g (option_init_tree expr_tree o) ≡ false
init_closed g None = refl
init_closed g (Some (init.VarDecl v)) = var_closed g v
init_closed g (Some (init.Expr e)) = expr_closed g e.value

abbrev DeclForm : Type 0
DeclForm = Open.Decl-F Decl BlockStmtOrExpr Expr Prop PropOrSpread Stmt Function ArrowExpr MethodProp ForStmt IfStmt SwitchCase SwitchStmt WhileStmt

decl_form_closed : (near : List Text) (g : Kinds) (o : DeclForm) → escapes_behind near g (decl_tree (roll-Decl o)) ≡ false
decl_form_closed near g (Open.Decl::Fn d) = ap (escapes_behind near g) (ap decl_tree (in_decl.rolls-Fn d) ∙ decl_tree-Fn d)
decl_form_closed near g (Open.Var d) = ap (escapes_behind near g) (ap decl_tree (in_decl.rolls-Var d) ∙ decl_tree-Var d) ∙ var_closed g d

pub decl_closed : (near : List Text) (g : Kinds) (d : Decl) → false ≡ escapes_behind near g (decl_tree d)
decl_closed near g d = sym (ap (λ q. escapes_behind near g (decl_tree q)) (sym (roll-out-Decl d)) ∙ decl_form_closed near g (out-Decl d))

-- statements of statements

pub if_escapes : (near : List Text) (g : Kinds) (n : IfStmt) → escapes_behind near g (if_tree n) ≡ (escapes g (stmt_tree (out-IfStmt n).cons.value) || some_escape g (optional_trees stmt_tree (out-IfStmt n).alt))
if_escapes near g n = ap (escapes_behind near g) (if_tree-is n) ∙ skipped _ _ (expr_closed g (out-IfStmt n).test.value)

pub try_escapes : (g : Kinds) (n : TryStmt Stmt) → escapes g (try_tree stmt_tree n) ≡ (escapes g (block_tree stmt_tree n.block) || (escapes g (handler_tree stmt_tree n.handler) || escapes g (option_block_tree stmt_tree n.finalizer)))
try_escapes g n = ap (λ b. escapes g (block_tree stmt_tree n.block) || (escapes g (handler_tree stmt_tree n.handler) || b)) (or_none (escapes g (option_block_tree stmt_tree n.finalizer)))

while_escapes : (near : List Text) (g : Kinds) (n : WhileStmt) → escapes_behind near g (while_node (loop_trees n)) ≡ escapes (in_loop near g) (stmt_tree (out-WhileStmt n).body.value)
while_escapes near g n = ap (λ p. escapes_behind near g (while_node p)) (loop_trees-is n) ∙ skipped _ _ (expr_closed g (out-WhileStmt n).test.value)

do_escapes : (near : List Text) (g : Kinds) (n : WhileStmt) → escapes_behind near g (do_while_node (loop_trees n)) ≡ escapes (in_loop near g) (stmt_tree (out-WhileStmt n).body.value)
do_escapes near g n = ap (λ p. escapes_behind near g (do_while_node p)) (loop_trees-is n) ∙ (ap (λ b. escapes (in_loop near g) (stmt_tree (out-WhileStmt n).body.value) || b) (expr_closed g (out-WhileStmt n).test.value) ∙ or_none _)

pub for_escapes : (near : List Text) (g : Kinds) (n : ForStmt) → escapes_behind near g (for_tree n) ≡ escapes (in_loop near g) (stmt_tree (out-ForStmt n).body.value)
for_escapes near g n = ap (escapes_behind near g) (for_tree-is n) ∙ (skipped _ _ (init_closed g (out-ForStmt n).init) ∙ (skipped _ _ (absent_closed g (out-ForStmt n).test) ∙ skipped _ _ (absent_closed g (out-ForStmt n).update)))

pub switch_escapes : (near : List Text) (g : Kinds) (n : SwitchStmt) → escapes_behind near g (switch_tree n) ≡ some_escape (in_switch g) (case_children (map case_trees (out-SwitchStmt n).cases.items))
switch_escapes near g n = ap (escapes_behind near g) (switch_tree-is n) ∙ skipped _ _ (expr_closed g (out-SwitchStmt n).discriminant.value)

pub case_escapes : (g : Kinds) (n : SwitchCase) (cs : List SwitchCase) → some_escape g (case_children (map case_trees (n ∷ cs))) ≡ (some_escape g (list_trees stmt_tree (out-SwitchCase n).cons.items) || some_escape g (case_children (map case_trees cs)))
case_escapes g n cs = ap (λ p. escapes g p.test || (escapes g p.body || some_escape g (case_children (map case_trees cs)))) (case_trees-is n) ∙ skipped _ _ (absent_closed g (out-SwitchCase n).test)

-- a loop whose body was looked at

at_body : (near : List Text) (g k : Kinds) (x y : Stmt) (b : Bool) → k ≡ in_loop near g → x ≡ y → b ≡ escapes k (stmt_tree x) → b ≡ escapes (in_loop near g) (stmt_tree y)
at_body near g k x y b d e h = h ∙ (ap (λ j. escapes j (stmt_tree x)) d ∙ ap (λ z. escapes (in_loop near g) (stmt_tree z)) e)

pub at_while : (near : List Text) (g k : Kinds) (s x : Stmt) (n : WhileStmt) (b : Bool) → s ≡ in_stmt.While n → k ≡ in_loop near g → x ≡ (out-WhileStmt n).body.value → b ≡ escapes k (stmt_tree x) → b ≡ escapes_behind near g (stmt_tree s)
at_while near g k s x n b is d e h = at_body near g k x _ b d e h ∙ sym (ap (λ z. escapes_behind near g (stmt_tree z)) is ∙ (ap (escapes_behind near g) (stmt_tree-While n) ∙ while_escapes near g n))

pub at_do : (near : List Text) (g k : Kinds) (s x : Stmt) (n : WhileStmt) (b : Bool) → s ≡ in_stmt.DoWhile n → k ≡ in_loop near g → x ≡ (out-WhileStmt n).body.value → b ≡ escapes k (stmt_tree x) → b ≡ escapes_behind near g (stmt_tree s)
at_do near g k s x n b is d e h = at_body near g k x _ b d e h ∙ sym (ap (λ z. escapes_behind near g (stmt_tree z)) is ∙ (ap (escapes_behind near g) (stmt_tree-DoWhile n) ∙ do_escapes near g n))

-- cases, from the one that was looked at

at_case : (g : Kinds) (cs : List SwitchCase) (i : ℕ) (n : SwitchCase) (b : Bool) → i < length cs → n ≡ get_or cs i n → some_escape g (list_trees stmt_tree (out-SwitchCase n).cons.items) ≡ b → some_escape g (case_children (map case_trees (drop i cs))) ≡ (b || some_escape g (case_children (map case_trees (drop (suc i) cs))))
at_case g cs i n b within at e =
    ap (λ ds. some_escape g (case_children (map case_trees ds))) (drop-cons cs i n within ∙ ap (λ m. m ∷ drop (suc i) cs) (sym at))
    ∙ (case_escapes g n (drop (suc i) cs) ∙ ap (λ x. x || some_escape g (case_children (map case_trees (drop (suc i) cs)))) e)

pub case_found : (g : Kinds) (cs : List SwitchCase) (i : ℕ) (n : SwitchCase) (b : Bool) → i < length cs → n ≡ get_or cs i n → some_escape g (list_trees stmt_tree (out-SwitchCase n).cons.items) ≡ true → some_escape g (case_children (map case_trees (drop i cs))) ≡ b → true ≡ b
case_found g cs i n b within at e h = sym (at_case g cs i n true within at e) ∙ h

pub case_passed : (g : Kinds) (cs : List SwitchCase) (i : ℕ) (n : SwitchCase) (b : Bool) → i < length cs → n ≡ get_or cs i n → some_escape g (list_trees stmt_tree (out-SwitchCase n).cons.items) ≡ false → some_escape g (case_children (map case_trees (drop i cs))) ≡ b → some_escape g (case_children (map case_trees (drop (i + 1) cs))) ≡ b
case_passed g cs i n b within at e h =
    let same : i + 1 ≡ suc i = omega arith in
    ap (λ k. some_escape g (case_children (map case_trees (drop k cs)))) same ∙ (sym (at_case g cs i n false within at e) ∙ h)

pub ruleset nodes = (
  return_closed,
  throw_closed,
  expr_stmt_closed,
  decl_closed,
  for_escapes,
  switch_escapes,
)
