-- What the walk makes of the parts of functions and statements.
use Rattle.std.specs.Prelude.{Bool, true, false, ◌||◌, ◌≡◌, List, Option}
use Rattle.swc_ast.specs.Labels.{is_declaration}
use Rattle.swc_ast.specs.Tree.{Label, VarDecl, Tree, node, Forest, ε, ◌⊳◌}
use Rattle.swc_ast.specs.Expressions.{FunctionTrees}
use Rattle.swc_ast.specs.Statements.{LoopTrees, CaseTrees, declarator_tree, handler_param, handler_spans, handler_tree}
use Rattle.swc_ast.specs.Views.{expr_tree, stmt_tree}
use Rattle.swc_ast.specs.declared.Span.{Span}
use Rattle.swc_ast.specs.declared.VarDeclKind.{VarDeclKind}
use Rattle.swc_ast.specs.declared.declarations.VarDeclarator.{VarDeclarator}
use Rattle.swc_ast.specs.declared.expressions.Expr.{Expr}
use Rattle.swc_ast.specs.declared.statements.CatchClause.{CatchClause}
use Rattle.swc_ast.specs.declared.statements.Stmt.{Stmt}
use Rattle.tree_walk.specs.Walks.{Walks, AllWalk}
pub use Rattle.tree_walk.specs.Lists.{ListWalks, PartWalks}
use Rattle.tree_walk.specs.Pass.{Pass, only_head}

-- a function, whatever node it is the rest of
pub record FunctionWalks (X : Pass) (f g : FunctionTrees) (c : Bool) : Type 0 where
  pub own : g.own ≡ f.own
  pub parts : AllWalk X c (f.parameters ⊳ f.body ⊳ ε) (g.parameters ⊳ g.body ⊳ ε)

-- a loop, whichever part comes first
pub record LoopWalks (X : Pass) (l m : LoopTrees) (c : Bool) : Type 0 where
  pub tests : Bool
  pub bodies : Bool
  pub own : m.own ≡ l.own
  pub test : Walks X tests l.test m.test
  pub body : Walks X bodies l.body m.body
  pub either : c ≡ (tests || bodies)

-- a case of a switch
pub record CaseWalks (X : Pass) (p q : CaseTrees) (c : Bool) : Type 0 where
  pub tests : Bool
  pub bodies : Bool
  pub kind : q.is_default ≡ p.is_default
  pub test : Walks X tests p.test q.test
  pub body : Walks X bodies p.body q.body
  pub either : c ≡ (tests || bodies)

-- a handler, if any
pub record HandlerWalks (X : Pass) (h k : Option (CatchClause Stmt)) (c : Bool) : Type 0 where
  pub param : handler_param k ≡ handler_param h
  pub spans : handler_spans k ≡ handler_spans h
  pub block : Walks X c (handler_tree stmt_tree h) (handler_tree stmt_tree k)

-- a declarator, in a declaration of any kind
abbrev pub DeclaratorWalks : Pass → VarDeclarator Expr → VarDeclarator Expr → Bool → Type 0
DeclaratorWalks X a b c = (k : VarDeclKind) → Walks X c (declarator_tree expr_tree k a) (declarator_tree expr_tree k b)

-- a declaration, which stays one
pub data DeclWalks (X : Pass) (t u : Tree) (c : Bool) : Type 0 where
  declared : {l : Label} {ss : List Span} {ts us : Forest} → is_declaration l ≡ true → t ≡ node l ss ts → u ≡ node l ss us → AllWalk X c ts us → DeclWalks X t u c

-- the head of a `for`: an expression or none, or a declaration, which is entered or not
pub data HeadWalks (X : Pass) (t u : Tree) (c : Bool) : Type 0 where
  walked : Walks X c t u → HeadWalks X t u c
  declares : {k : VarDeclKind} {ss : List Span} {ts us : Forest} → t ≡ node (VarDecl k) ss ts → u ≡ node (VarDecl k) ss us → AllWalk X c ts us → HeadWalks X t u c
  stays_shut : X.skips (only_head t) → u ≡ t → c ≡ false → HeadWalks X t u c
