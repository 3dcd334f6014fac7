-- Nodes that no rule of statements takes.
use Rattle.std.proofs.Common.{◌≡◌, Bool, true, false, not, ◌&&◌, refl, ap, ◌∙◌, subst}
use Rattle.std.proofs.lemmas.Bool.{false≢true, true≢false}
use Rattle.swc_ast.specs.Modules.{item_tree}
use Rattle.swc_ast.specs.Redex.{own_redex}
use Rattle.swc_ast.specs.Tree.{Label, Unary, Binary, Cond, If, For, While, ExprStmt, Switch, Try, Tree, node, Forest, label_of}
use Rattle.swc_ast.specs.Valid.{good_shape}
use Rattle.swc_ast.specs.Views.{decl_tree, expr_tree}
use Rattle.swc_ast.specs.declared.declarations.Decl.{Decl}
use Rattle.swc_ast.specs.declared.declarations.Decl.TheOpen as Open
use Rattle.swc_ast.specs.declared.declarations.Decl.TheVariants as in_decl
use Rattle.swc_ast.specs.declared.declarations.Decl.TheViews.{roll-Decl, out-Decl, roll-out-Decl}
use Rattle.swc_ast.specs.declared.declarations.Function.{Function}
use Rattle.swc_ast.specs.declared.expressions.ArrowExpr.{ArrowExpr}
use Rattle.swc_ast.specs.declared.expressions.BlockStmtOrExpr.{BlockStmtOrExpr}
use Rattle.swc_ast.specs.declared.expressions.Expr.{Expr}
use Rattle.swc_ast.specs.declared.expressions.MethodProp.{MethodProp}
use Rattle.swc_ast.specs.declared.expressions.Prop.{Prop}
use Rattle.swc_ast.specs.declared.expressions.PropOrSpread.{PropOrSpread}
use Rattle.swc_ast.specs.declared.modules.ModuleDecl.{ModuleDecl}
use Rattle.swc_ast.specs.declared.modules.ModuleDecl.TheVariants as decls
use Rattle.swc_ast.specs.declared.modules.ModuleItem.TheVariants as items
use Rattle.swc_ast.specs.declared.statements.ForStmt.{ForStmt}
use Rattle.swc_ast.specs.declared.statements.IfStmt.{IfStmt}
use Rattle.swc_ast.specs.declared.statements.Stmt.{Stmt}
use Rattle.swc_ast.specs.declared.statements.SwitchCase.{SwitchCase}
use Rattle.swc_ast.specs.declared.statements.SwitchStmt.{SwitchStmt}
use Rattle.swc_ast.specs.declared.statements.WhileStmt.{WhileStmt}
use Rattle.swc_ast.proofs.Equations.{decl_tree-Fn, decl_tree-Var}
use Rattle.swc_ast.specs.Labels.{is_expression}
use Rattle.static_proofs.specs.Free.{is_folded}
use Rattle.pass_proofs.proofs.ExprTrees.{is_an_expression}
use Rattle.branch_rules.specs.Removes.{Rests}

-- labels that a rule of statements is about
abbrev is_ruled : Label → Bool
is_ruled If = true
is_ruled For = true
is_ruled While = true
is_ruled ExprStmt = true
is_ruled (Switch ds) = true
is_ruled (Try o) = true
is_ruled _ = false

abbrev ruled : Tree → Bool
ruled t = is_ruled (label_of t)

no_redex : (g b : Bool) → b ≡ false → (g && b) ≡ false
no_redex true b h = h
no_redex false b h = refl

unseen : (l : Label) (ts : Forest) → is_ruled l ≡ false → (not (is_folded l) && own_redex l ts) ≡ false
unseen (Binary op) ts e = refl
unseen (Unary op) ts e = refl
unseen Cond ts e = refl
unseen If ts e = absurd (true≢false e)
unseen For ts e = absurd (true≢false e)
unseen While ts e = absurd (true≢false e)
unseen ExprStmt ts e = absurd (true≢false e)
unseen (Switch ds) ts e = absurd (true≢false e)
unseen (Try o) ts e = absurd (true≢false e)
unseen l ts e = refl

-- a node of another label
pub unruled : (t : Tree) → is_ruled (label_of t) ≡ false → Rests t
unruled (node l ss cs) e = no_redex (good_shape l cs) (not (is_folded l) && own_redex l cs) (unseen l cs e)

-- expressions

no_rule : (l : Label) → is_expression l ≡ true → is_ruled l ≡ false
no_rule If e = absurd (false≢true e)
no_rule For e = absurd (false≢true e)
no_rule While e = absurd (false≢true e)
no_rule ExprStmt e = absurd (false≢true e)
no_rule (Switch ds) e = absurd (false≢true e)
no_rule (Try o) e = absurd (false≢true e)
no_rule l e = refl

pub expr_rests : (e : Expr) → Rests (expr_tree e)
expr_rests e = unruled (expr_tree e) (no_rule (label_of (expr_tree e)) (is_an_expression e))

-- declarations

at_decl : (d : Open.Decl-F Decl BlockStmtOrExpr Expr Prop PropOrSpread Stmt Function ArrowExpr MethodProp ForStmt IfStmt SwitchCase SwitchStmt WhileStmt) → Rests (decl_tree (roll-Decl d))
at_decl (Open.Decl::Fn n) = unruled (decl_tree (roll-Decl (Open.Decl::Fn n))) (ap ruled (ap decl_tree (in_decl.rolls-Fn n) ∙ decl_tree-Fn n))
at_decl (Open.Var n) = unruled (decl_tree (roll-Decl (Open.Var n))) (ap ruled (ap decl_tree (in_decl.rolls-Var n) ∙ decl_tree-Var n))

pub decl_rests : (d : Decl) → Rests (decl_tree d)
decl_rests d = subst (λ e. Rests (decl_tree e)) (roll-out-Decl d) (at_decl (out-Decl d))

-- module declarations
pub declaration_rests : (d : ModuleDecl) → Rests (item_tree (items.ModuleDecl d))
declaration_rests (decls.Import n) = unruled (item_tree (items.ModuleDecl (decls.Import n))) refl
declaration_rests (decls.ExportDecl n) = unruled (item_tree (items.ModuleDecl (decls.ExportDecl n))) refl
declaration_rests (decls.ExportNamed n) = unruled (item_tree (items.ModuleDecl (decls.ExportNamed n))) refl
declaration_rests (decls.ExportDefaultDecl n) = unruled (item_tree (items.ModuleDecl (decls.ExportDefaultDecl n))) refl
declaration_rests (decls.ExportDefaultExpr n) = unruled (item_tree (items.ModuleDecl (decls.ExportDefaultExpr n))) refl
