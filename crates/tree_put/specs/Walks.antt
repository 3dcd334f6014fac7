-- What the walk makes of the parts that are no nodes of their own, and of lists.
use Rattle.std.specs.Prelude.{Bool, ◌≡◌, List, [], ◌∷◌, Option, Some, None}
use Rattle.std.specs.declared.alloc.Global.{Global}
use Rattle.std.specs.declared.boxed.Box.{Box}
use Rattle.swc_ast.specs.Tree.{Name, Label, Try, Tree, Forest, ε, ◌⊳◌}
use Rattle.swc_ast.specs.Expressions.{FunctionTrees, shorthand_tree, update_node, assign_node}
use Rattle.swc_ast.specs.Statements.{LoopTrees, CaseTrees, declarator_tree, handler_tree, handler_param, handler_spans}
use Rattle.swc_ast.specs.Views.{expr_tree, stmt_tree, prop_tree}
use Rattle.swc_ast.specs.declared.AssignOp.{AssignOp}
use Rattle.swc_ast.specs.declared.Span.{Span}
use Rattle.swc_ast.specs.declared.UnaryOp.{UnaryOp}
use Rattle.swc_ast.specs.declared.UnaryOp.TheVariants as op
use Rattle.swc_ast.specs.declared.UpdateOp.{UpdateOp}
use Rattle.swc_ast.specs.declared.VarDeclKind.{VarDeclKind}
use Rattle.swc_ast.specs.declared.declarations.VarDeclarator.{VarDeclarator}
use Rattle.swc_ast.specs.declared.expressions.AssignTarget.{AssignTarget}
use Rattle.swc_ast.specs.declared.expressions.Expr.{Expr}
use Rattle.swc_ast.specs.declared.expressions.ExprOrSpread.{ExprOrSpread}
use Rattle.swc_ast.specs.declared.expressions.MemberProp.{MemberProp}
use Rattle.swc_ast.specs.declared.expressions.MemberProp.TheVariants as prop
use Rattle.swc_ast.specs.declared.expressions.Prop.{Prop}
use Rattle.swc_ast.specs.declared.names.Ident.{Ident}
use Rattle.swc_ast.specs.declared.statements.CatchClause.{CatchClause}
use Rattle.swc_ast.specs.declared.statements.Stmt.{Stmt}
use Rattle.tree_put.specs.Put.{put, put_all, put_parts, scoped, handled, steps}
use Rattle.tree_put.specs.Puts.{Puts}
use Rattle.tree_put.specs.declared.rules.Spot.{Spot}
use Rattle.tree_put.specs.declared.rules.Spot.TheVariants as spot

-- what the walk makes of a tree at a spot, and what is carried behind it
pub record Makes {S : Type 0} (X : Puts S) (t : Tree) (s : S) (p : Spot) (u : Tree) (r : S) : Type 0 where
  pub is : put X t s p ≡ (u, r)

-- the same of a tree whose parts are walked
pub record MakesParts {S : Type 0} (X : Puts S) (t : Tree) (s : S) (u : Tree) (r : S) : Type 0 where
  pub is : put_parts X t s ≡ (u, r)

-- of trees in a row
pub record MakesAll {S : Type 0} (X : Puts S) (ts : Forest) (s : S) (us : Forest) (r : S) : Type 0 where
  pub is : put_all X ts s ≡ (us, r)

-- of trees in a scope
pub record MakesScope {S : Type 0} (X : Puts S) (l : Label) (ts : Forest) (s : S) (us : Forest) (r : S) : Type 0 where
  pub is : scoped X s l ts (steps X ts) ≡ (us, r)

-- a list, one after another
pub data Each {S N : Type 0} (P : S → N → N → S → Type 0) : S → List N → List N → S → Type 0 where
  none : {s : S} → Each P s [] [] s
  more : {s t u : S} {x y : N} {xs ys : List N} → P s x y t → Each P t xs ys u → Each P s (x ∷ xs) (y ∷ ys) u

-- a node elsewhere than at a spot of its own
abbrev pub Goes : {S N : Type 0} → Puts S → (N → Tree) → S → N → N → S → Type 0
Goes X f s x y t = Makes X (f x) s spot.Here (f y) t

abbrev pub EachGoes : {S N : Type 0} → Puts S → (N → Tree) → S → List N → List N → S → Type 0
EachGoes X f s xs ys t = Each (Goes X f) s xs ys t

-- a part that may be left out
abbrev pub OptionGoes : {S N : Type 0} → Puts S → (N → Tree) → S → Option (Box N Global) → Option (Box N Global) → S → Type 0
OptionGoes X f s None None t = s ≡ t
OptionGoes X f s (Some a) (Some b) t = Goes X f s a.value b.value t
OptionGoes X f s None (Some b) t = ⊥
OptionGoes X f s (Some a) None t = ⊥

-- the handler of a `try`: a scope, if there is one
abbrev pub handler_put : {S : Type 0} → Puts S → S → Option (Option Name) → Tree → Tree × S
handler_put X s None h = put X h s spot.Here
handler_put X s (Some o) h = handled X s (Try (Some o)) h (put X h)

-- an item of an array
abbrev pub ItemGoes : {S : Type 0} → Puts S → S → Option (ExprOrSpread Expr) → Option (ExprOrSpread Expr) → S → Type 0
ItemGoes X s None None t = s ≡ t
ItemGoes X s (Some a) (Some b) t = (b.spread ≡ a.spread) × Goes X expr_tree s a.expr.value b.expr.value t
ItemGoes X s None (Some b) t = ⊥
ItemGoes X s (Some a) None t = ⊥

-- what stands behind the dot or in the brackets
abbrev pub PropGoes : {S : Type 0} → Puts S → S → MemberProp Expr → MemberProp Expr → S → Type 0
PropGoes X s (prop.Ident a) (prop.Ident b) t = (b ≡ a) × (s ≡ t)
PropGoes X s (prop.Computed a) (prop.Computed b) t = (b.span ≡ a.span) × Goes X expr_tree s a.expr.value b.expr.value t
PropGoes X s (prop.Ident a) (prop.Computed b) t = ⊥
PropGoes X s (prop.Computed a) (prop.Ident b) t = ⊥

-- where an operand stands, unless it is deleted
abbrev pub spot_of : UnaryOp → Option Spot
spot_of op.TypeOf = Some spot.Operand
spot_of op.Delete = None
spot_of o = Some spot.Here

-- what is written to: in an update, and in an assignment of any value
pub record TargetGoes {S : Type 0} (X : Puts S) (s : S) (a b : AssignTarget Expr) (t : S) : Type 0 where
  pub updated : (o : UpdateOp) (p : Bool) (m : Span) → MakesParts X (update_node expr_tree o p m a) s (update_node expr_tree o p m b) t
  pub assigned : (o : AssignOp) (m : Span) (v w : Tree) (u : S) → Makes X v t spot.Here w u → MakesParts X (assign_node expr_tree o m a v) s (assign_node expr_tree o m b w) u

-- a function in a scope
pub record FunctionGoes {S : Type 0} (X : Puts S) (s : S) (f g : FunctionTrees) (t : S) : Type 0 where
  pub own : g.own ≡ f.own
  pub parts : MakesAll X (f.parameters ⊳ f.body ⊳ ε) s (g.parameters ⊳ g.body ⊳ ε) t

-- a property that is only a name: what it becomes, if it doesn't stay
abbrev pub ShorthandGoes : {S : Type 0} → Puts S → S → Ident → Ident → Option Prop → S → Type 0
ShorthandGoes X s a b None t = (b ≡ a) × Makes X (shorthand_tree a) s spot.Here (shorthand_tree a) t
ShorthandGoes X s a b (Some p) t = Makes X (shorthand_tree a) s spot.Here (prop_tree p) t

-- a loop, by its parts in the order of the text
pub record LoopGoes {S : Type 0} (X : Puts S) (s : S) (l m : LoopTrees) (t : S) : Type 0 where
  pub own : m.own ≡ l.own
  pub parts : MakesAll X (l.test ⊳ l.body ⊳ ε) s (m.test ⊳ m.body ⊳ ε) t

-- one whose body comes first
pub record DoLoopGoes {S : Type 0} (X : Puts S) (s : S) (l m : LoopTrees) (t : S) : Type 0 where
  pub own : m.own ≡ l.own
  pub parts : MakesAll X (l.body ⊳ l.test ⊳ ε) s (m.body ⊳ m.test ⊳ ε) t

-- a case of a switch
pub record CaseGoes {S : Type 0} (X : Puts S) (s : S) (c d : CaseTrees) (t : S) : Type 0 where
  pub between : S
  pub kind : d.is_default ≡ c.is_default
  pub test : Makes X c.test s spot.Here d.test between
  pub body : Makes X c.body between spot.Here d.body t

-- a handler
pub record HandlerGoes {S : Type 0} (X : Puts S) (s : S) (h k : Option (CatchClause Stmt)) (t : S) : Type 0 where
  pub param : handler_param k ≡ handler_param h
  pub spans : handler_spans k ≡ handler_spans h
  pub block : handler_put X s (handler_param h) (handler_tree stmt_tree h) ≡ (handler_tree stmt_tree k, t)

-- a declarator, in a declaration of any kind
abbrev pub DeclaratorGoes : {S : Type 0} → Puts S → VarDeclKind → S → VarDeclarator Expr → VarDeclarator Expr → S → Type 0
DeclaratorGoes X k s a b t = Goes X (declarator_tree expr_tree k) s a b t
