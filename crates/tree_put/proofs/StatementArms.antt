-- Each kind of statement and declaration, once its parts are walked.
use Rattle.std.proofs.Common.{◌≡◌, refl, sym, ap, ◌∙◌, subst, List, [], ◌∷◌, map}
use Rattle.std.specs.Prelude.{Option, Some, None}
use Rattle.std.specs.declared.alloc.Global.{Global}
use Rattle.std.specs.declared.boxed.Box.{Box}
use Rattle.std.specs.declared.vec.Vec.{Vec}
use Rattle.swc_ast.specs.Tree as tree
use Rattle.swc_ast.specs.Tree.{Name, Label, Tree, node, Forest, ε, ◌⊳◌}
use Rattle.swc_ast.specs.Parts.{list_trees, optional_trees, tree_or_absent, ident_name}
use Rattle.swc_ast.specs.Expressions.{body_tree}
use Rattle.swc_ast.specs.Statements.{LoopTrees, CaseTrees, block_tree, option_block_tree, try_tree, handler_param, handler_spans, if_node, for_node, while_node, do_while_node, loop_parts, case_parts, is_default_case, is_missing, case_children, switch_node, option_init_tree, var_tree, declarator_tree, fn_decl_tree}
use Rattle.swc_ast.specs.Views.{expr_tree, stmt_tree, decl_tree, if_tree, switch_tree, for_tree, case_trees, loop_trees, function_trees}
use Rattle.swc_ast.specs.declared.Span.{Span}
use Rattle.swc_ast.specs.declared.VarDeclKind.{VarDeclKind}
use Rattle.swc_ast.specs.declared.declarations.Decl.{Decl}
use Rattle.swc_ast.specs.declared.declarations.Decl.TheVariants as in_decl
use Rattle.swc_ast.specs.declared.declarations.Decl.TheViews.{out-SwitchStmt, roll-SwitchStmt, out-roll-SwitchStmt}
use Rattle.swc_ast.specs.declared.declarations.FnDecl.{FnDecl}
use Rattle.swc_ast.specs.declared.declarations.Function.{Function}
use Rattle.swc_ast.specs.declared.declarations.VarDecl.{VarDecl}
use Rattle.swc_ast.specs.declared.declarations.VarDeclarator.{VarDeclarator}
use Rattle.swc_ast.specs.declared.expressions.Expr.{Expr}
use Rattle.swc_ast.specs.declared.statements.BlockStmt.{BlockStmt}
use Rattle.swc_ast.specs.declared.statements.BreakStmt.{BreakStmt}
use Rattle.swc_ast.specs.declared.statements.CatchClause.{CatchClause}
use Rattle.swc_ast.specs.declared.statements.ContinueStmt.{ContinueStmt}
use Rattle.swc_ast.specs.declared.statements.EmptyStmt.{EmptyStmt}
use Rattle.swc_ast.specs.declared.statements.ExprStmt.{ExprStmt}
use Rattle.swc_ast.specs.declared.statements.ForStmt.{ForStmt}
use Rattle.swc_ast.specs.declared.statements.IfStmt.{IfStmt}
use Rattle.swc_ast.specs.declared.statements.LabeledStmt.{LabeledStmt}
use Rattle.swc_ast.specs.declared.statements.ReturnStmt.{ReturnStmt}
use Rattle.swc_ast.specs.declared.statements.Stmt.{Stmt}
use Rattle.swc_ast.specs.declared.statements.Stmt.TheVariants as in_stmt
use Rattle.swc_ast.specs.declared.statements.SwitchCase.{SwitchCase}
use Rattle.swc_ast.specs.declared.statements.SwitchStmt.{SwitchStmt}
use Rattle.swc_ast.specs.declared.statements.ThrowStmt.{ThrowStmt}
use Rattle.swc_ast.specs.declared.statements.TryStmt.{TryStmt}
use Rattle.swc_ast.specs.declared.statements.VarDeclOrExpr.{VarDeclOrExpr}
use Rattle.swc_ast.specs.declared.statements.VarDeclOrExpr.TheVariants as init
use Rattle.swc_ast.specs.declared.statements.WhileStmt.{WhileStmt}
use Rattle.swc_ast.proofs.Equations.{stmt_tree-Block, stmt_tree-Empty, stmt_tree-Break, stmt_tree-Continue, stmt_tree-Return, stmt_tree-Labeled, stmt_tree-If, stmt_tree-Switch, stmt_tree-Throw, stmt_tree-Try, stmt_tree-While, stmt_tree-DoWhile, stmt_tree-For, stmt_tree-Decl, stmt_tree-Expr, decl_tree-Fn, decl_tree-Var, switch_tree-is, switch_tree-roll}
use Rattle.tree_put.specs.Put.{put, steps, around, scoped, handled, under, in_front}
use Rattle.tree_put.specs.Puts.{Puts}
use Rattle.tree_put.specs.Scopes.{function_forest}
use Rattle.tree_put.specs.Walks.{Makes, MakesAll, MakesScope, Each, none, more, EachGoes, OptionGoes, FunctionGoes, CaseGoes, LoopGoes, DoLoopGoes, HandlerGoes, DeclaratorGoes, handler_put}
use Rattle.tree_put.specs.declared.rules.Spot.TheVariants as spot
use Rattle.tree_put.proofs.Putting.{nothing, both, one, parts, plain, passed, put_at, put_then, all_then, in_scope, each_list}

-- an expression or a statement, if any
pub option_trees : {S N : Type 0} {X : Puts S} (f : N → Tree) {s t : S} (o p : Option (Box N Global)) → OptionGoes X f s o p t → MakesAll X (optional_trees f o) s (optional_trees f p) t
option_trees f None None h = all_then nothing h
option_trees f (Some a) (Some b) h = one h
option_trees f None (Some b) h = absurd h
option_trees f (Some a) None h = absurd h

pub option_tree : {S N : Type 0} {X : Puts S} (f : N → Tree) {s t : S} (o p : Option (Box N Global)) → OptionGoes X f s o p t → Makes X (tree_or_absent f o) s spot.Here (tree_or_absent f p) t
option_tree f None None h = put_then (plain refl refl nothing) h
option_tree f (Some a) (Some b) h = h
option_tree f None (Some b) h = absurd h
option_tree f (Some a) None h = absurd h

option_missing : {S N : Type 0} (X : Puts S) (f : N → Tree) (s t : S) (o p : Option (Box N Global)) → OptionGoes X f s o p t → is_missing p ≡ is_missing o
option_missing X f s t None None h = refl
option_missing X f s t (Some a) (Some b) h = refl
option_missing X f s t None (Some b) h = absurd h
option_missing X f s t (Some a) None h = absurd h

-- lists of statements
pub body_made : {S : Type 0} {X : Puts S} {s q r t : S} (n m : BlockStmt Stmt) → m.span ≡ n.span → X.opens s tree.Body (list_trees stmt_tree n.stmts.items) ≡ q → EachGoes X stmt_tree q n.stmts.items m.stmts.items r → X.closes r ≡ t → Makes X (body_tree stmt_tree n) s spot.Here (body_tree stmt_tree m) t
unfolding around
body_made {S} {X} {s} {q} {r} {t} n m e o h c = record { is = passed X (body_tree stmt_tree n) s spot.Here refl ∙ ap (under tree.Body (n.span ∷ [])) (in_scope {l = tree.Body} o (each_list h) c).is ∙ ap (λ z. (node tree.Body (z ∷ []) (list_trees stmt_tree m.stmts.items), t)) (sym e) }

pub block_made : {S : Type 0} {X : Puts S} {s q r t : S} (n m : BlockStmt Stmt) → m.span ≡ n.span → X.opens s tree.Block (list_trees stmt_tree n.stmts.items) ≡ q → EachGoes X stmt_tree q n.stmts.items m.stmts.items r → X.closes r ≡ t → Makes X (block_tree stmt_tree n) s spot.Here (block_tree stmt_tree m) t
unfolding around
block_made {S} {X} {s} {q} {r} {t} n m e o h c = record { is = passed X (block_tree stmt_tree n) s spot.Here refl ∙ ap (under tree.Block (n.span ∷ [])) (in_scope {l = tree.Block} o (each_list h) c).is ∙ ap (λ z. (node tree.Block (z ∷ []) (list_trees stmt_tree m.stmts.items), t)) (sym e) }

pub block_arm : {S : Type 0} {X : Puts S} {e f : Stmt} {n m : BlockStmt Stmt} {s t : S} (a : BlockStmt Stmt) → e ≡ in_stmt.Block n → m ≡ n → f ≡ in_stmt.Block a → Makes X (block_tree stmt_tree m) s spot.Here (block_tree stmt_tree a) t → Makes X (stmt_tree e) s spot.Here (stmt_tree f) t
block_arm a is same after w =
    put_at (ap stmt_tree is ∙ stmt_tree-Block _ ∙ ap (block_tree stmt_tree) (sym same)) (ap stmt_tree after ∙ stmt_tree-Block _) w

-- statements without parts
pub empty_arm : {S : Type 0} (X : Puts S) {e : Stmt} {n : EmptyStmt} (s : S) → e ≡ in_stmt.Empty n → Makes X (stmt_tree e) s spot.Here (stmt_tree e) s
empty_arm X s is = put_at (ap stmt_tree is ∙ stmt_tree-Empty _) (ap stmt_tree is ∙ stmt_tree-Empty _) (plain refl refl nothing)

pub break_arm : {S : Type 0} (X : Puts S) {e : Stmt} {n : BreakStmt} (s : S) → e ≡ in_stmt.Break n → Makes X (stmt_tree e) s spot.Here (stmt_tree e) s
break_arm X s is = put_at (ap stmt_tree is ∙ stmt_tree-Break _) (ap stmt_tree is ∙ stmt_tree-Break _) (plain refl refl nothing)

pub continue_arm : {S : Type 0} (X : Puts S) {e : Stmt} {n : ContinueStmt} (s : S) → e ≡ in_stmt.Continue n → Makes X (stmt_tree e) s spot.Here (stmt_tree e) s
continue_arm X s is = put_at (ap stmt_tree is ∙ stmt_tree-Continue _) (ap stmt_tree is ∙ stmt_tree-Continue _) (plain refl refl nothing)

-- statements with parts
pub return_arm : {S : Type 0} {X : Puts S} {e f : Stmt} {n m : ReturnStmt Expr} {s t : S} (a : Option (Box Expr Global)) → e ≡ in_stmt.Return n → m ≡ n → f ≡ in_stmt.Return (record n { arg = a }) → OptionGoes X expr_tree s m.arg a t → Makes X (stmt_tree e) s spot.Here (stmt_tree f) t
return_arm {S} {X} {e} {f} {n} {m} {s} {t} a is same after w =
    put_at (ap stmt_tree is ∙ stmt_tree-Return n) (ap stmt_tree after ∙ stmt_tree-Return _) (plain refl refl (option_trees expr_tree n.arg a (subst (λ k. OptionGoes X expr_tree s k.arg a t) same w)))

pub labeled_arm : {S : Type 0} {X : Puts S} {e f : Stmt} {n m : LabeledStmt Stmt} {s t : S} (a : Box Stmt Global) → e ≡ in_stmt.Labeled n → m ≡ n → f ≡ in_stmt.Labeled (record n { body = a }) → Makes X (stmt_tree m.body.value) s spot.Here (stmt_tree a.value) t → Makes X (stmt_tree e) s spot.Here (stmt_tree f) t
labeled_arm {S} {X} {e} {f} {n} {m} {s} {t} a is same after w =
    put_at (ap stmt_tree is ∙ stmt_tree-Labeled n) (ap stmt_tree after ∙ stmt_tree-Labeled _) (plain refl refl (one (subst (λ k. Makes X (stmt_tree k.body.value) s spot.Here (stmt_tree a.value) t) same w)))

pub throw_arm : {S : Type 0} {X : Puts S} {e f : Stmt} {n m : ThrowStmt Expr} {s t : S} (a : Box Expr Global) → e ≡ in_stmt.Throw n → m ≡ n → f ≡ in_stmt.Throw (record n { arg = a }) → Makes X (expr_tree m.arg.value) s spot.Here (expr_tree a.value) t → Makes X (stmt_tree e) s spot.Here (stmt_tree f) t
throw_arm {S} {X} {e} {f} {n} {m} {s} {t} a is same after w =
    put_at (ap stmt_tree is ∙ stmt_tree-Throw n) (ap stmt_tree after ∙ stmt_tree-Throw _) (plain refl refl (one (subst (λ k. Makes X (expr_tree k.arg.value) s spot.Here (expr_tree a.value) t) same w)))

pub expr_stmt_arm : {S : Type 0} {X : Puts S} {e f : Stmt} {n m : ExprStmt Expr} {s t : S} (a : Box Expr Global) → e ≡ in_stmt.Expr n → m ≡ n → f ≡ in_stmt.Expr (record n { expr = a }) → Makes X (expr_tree m.expr.value) s spot.Here (expr_tree a.value) t → Makes X (stmt_tree e) s spot.Here (stmt_tree f) t
expr_stmt_arm {S} {X} {e} {f} {n} {m} {s} {t} a is same after w =
    put_at (ap stmt_tree is ∙ stmt_tree-Expr n) (ap stmt_tree after ∙ stmt_tree-Expr _) (plain refl refl (one (subst (λ k. Makes X (expr_tree k.expr.value) s spot.Here (expr_tree a.value) t) same w)))

pub if_made : {S : Type 0} {X : Puts S} {x y : Tree} {s t u v : S} (m : Span) (a b : Box Expr Global) (i j : Box Stmt Global) (o p : Option (Box Stmt Global)) → x ≡ if_node expr_tree stmt_tree m a i o → y ≡ if_node expr_tree stmt_tree m b j p → Makes X (expr_tree a.value) s spot.Here (expr_tree b.value) t → Makes X (stmt_tree i.value) t spot.Here (stmt_tree j.value) u → OptionGoes X stmt_tree u o p v → Makes X x s spot.Here y v
if_made m a b i j o p is after h k w = put_at is after (plain refl refl (both h (both k (option_trees stmt_tree o p w))))

pub if_arm : {S : Type 0} {X : Puts S} {e f : Stmt} {n m : IfStmt} {s t : S} (a : IfStmt) → e ≡ in_stmt.If n → m ≡ n → f ≡ in_stmt.If a → Makes X (if_tree m) s spot.Here (if_tree a) t → Makes X (stmt_tree e) s spot.Here (stmt_tree f) t
if_arm a is same after w =
    put_at (ap stmt_tree is ∙ stmt_tree-If _ ∙ ap if_tree (sym same)) (ap stmt_tree after ∙ stmt_tree-If _) w

pub switch_arm : {S : Type 0} {X : Puts S} {e f : Stmt} {n m : SwitchStmt} {s t : S} (a : SwitchStmt) → e ≡ in_stmt.Switch n → m ≡ n → f ≡ in_stmt.Switch a → Makes X (switch_tree m) s spot.Here (switch_tree a) t → Makes X (stmt_tree e) s spot.Here (stmt_tree f) t
switch_arm a is same after w =
    put_at (ap stmt_tree is ∙ stmt_tree-Switch _ ∙ ap switch_tree (sym same)) (ap stmt_tree after ∙ stmt_tree-Switch _) w

pub for_arm : {S : Type 0} {X : Puts S} {e f : Stmt} {n m : Box ForStmt Global} {s t : S} (a : Box ForStmt Global) → e ≡ in_stmt.For n → m ≡ n → f ≡ in_stmt.For a → Makes X (for_tree m.value) s spot.Here (for_tree a.value) t → Makes X (stmt_tree e) s spot.Here (stmt_tree f) t
for_arm a is same after w =
    put_at (ap stmt_tree is ∙ stmt_tree-For _ ∙ ap (λ b. for_tree b.value) (sym same)) (ap stmt_tree after ∙ stmt_tree-For _) w

pub decl_arm : {S : Type 0} {X : Puts S} {e f : Stmt} {n m : Decl} {s t : S} (a : Decl) → e ≡ in_stmt.Decl n → m ≡ n → f ≡ in_stmt.Decl a → Makes X (decl_tree m) s spot.Here (decl_tree a) t → Makes X (stmt_tree e) s spot.Here (stmt_tree f) t
decl_arm a is same after w =
    put_at (ap stmt_tree is ∙ stmt_tree-Decl _ ∙ ap decl_tree (sym same)) (ap stmt_tree after ∙ stmt_tree-Decl _) w

pub try_arm : {S : Type 0} {X : Puts S} {e f : Stmt} {n m : Box (TryStmt Stmt) Global} {s t : S} (a : Box (TryStmt Stmt) Global) → e ≡ in_stmt.Try n → m ≡ n → f ≡ in_stmt.Try a → Makes X (try_tree stmt_tree m.value) s spot.Here (try_tree stmt_tree a.value) t → Makes X (stmt_tree e) s spot.Here (stmt_tree f) t
try_arm a is same after w =
    put_at (ap stmt_tree is ∙ stmt_tree-Try _ ∙ ap (λ b. try_tree stmt_tree b.value) (sym same)) (ap stmt_tree after ∙ stmt_tree-Try _) w

-- loops
pub while_arm : {S : Type 0} {X : Puts S} {e f : Stmt} {n m : WhileStmt} {s t : S} (a : WhileStmt) → e ≡ in_stmt.While n → m ≡ n → f ≡ in_stmt.While a → LoopGoes X s (loop_trees m) (loop_trees a) t → Makes X (stmt_tree e) s spot.Here (stmt_tree f) t
while_arm {S} {X} {e} {f} {n} {m} {s} {t} a is same after w =
    put_at (ap stmt_tree is ∙ stmt_tree-While n ∙ ap (λ k. while_node (loop_trees k)) (sym same)) (ap stmt_tree after ∙ stmt_tree-While a) (put_at refl (ap (λ k. node tree.While (k ∷ []) ((loop_trees a).test ⊳ (loop_trees a).body ⊳ ε)) w.own) (plain refl refl w.parts))

pub do_while_arm : {S : Type 0} {X : Puts S} {e f : Stmt} {n m : WhileStmt} {s t : S} (a : WhileStmt) → e ≡ in_stmt.DoWhile n → m ≡ n → f ≡ in_stmt.DoWhile a → DoLoopGoes X s (loop_trees m) (loop_trees a) t → Makes X (stmt_tree e) s spot.Here (stmt_tree f) t
do_while_arm {S} {X} {e} {f} {n} {m} {s} {t} a is same after w =
    put_at (ap stmt_tree is ∙ stmt_tree-DoWhile n ∙ ap (λ k. do_while_node (loop_trees k)) (sym same)) (ap stmt_tree after ∙ stmt_tree-DoWhile a) (put_at refl (ap (λ k. node tree.DoWhile (k ∷ []) ((loop_trees a).body ⊳ (loop_trees a).test ⊳ ε)) w.own) (plain refl refl w.parts))

pub loop_made : {S : Type 0} {X : Puts S} {l k : LoopTrees} {s t u : S} (m : Span) (a b : Box Expr Global) (i j : Box Stmt Global) → l ≡ loop_parts expr_tree stmt_tree m a i → k ≡ loop_parts expr_tree stmt_tree m b j → Makes X (expr_tree a.value) s spot.Here (expr_tree b.value) t → Makes X (stmt_tree i.value) t spot.Here (stmt_tree j.value) u → LoopGoes X s l k u
loop_made {S} {X} {l} {k} {s} {t} {u} m a b i j is after h w =
    subst (λ z. LoopGoes X s z k u) (sym is) (subst (λ z. LoopGoes X s (loop_parts expr_tree stmt_tree m a i) z u) (sym after) (record { own = refl; parts = both h (one w) }))

pub do_loop_made : {S : Type 0} {X : Puts S} {l k : LoopTrees} {s t u : S} (m : Span) (a b : Box Expr Global) (i j : Box Stmt Global) → l ≡ loop_parts expr_tree stmt_tree m a i → k ≡ loop_parts expr_tree stmt_tree m b j → Makes X (stmt_tree i.value) s spot.Here (stmt_tree j.value) t → Makes X (expr_tree a.value) t spot.Here (expr_tree b.value) u → DoLoopGoes X s l k u
do_loop_made {S} {X} {l} {k} {s} {t} {u} m a b i j is after w h =
    subst (λ z. DoLoopGoes X s z k u) (sym is) (subst (λ z. DoLoopGoes X s (loop_parts expr_tree stmt_tree m a i) z u) (sym after) (record { own = refl; parts = both w (one h) }))

pub for_made : {S : Type 0} {X : Puts S} {x y : Tree} {s q r u v w : S} (t : S) (m : Span) (i j : Option (VarDeclOrExpr Expr)) (a b c d : Option (Box Expr Global)) (k l : Box Stmt Global) → x ≡ for_node expr_tree stmt_tree m i a c k → y ≡ for_node expr_tree stmt_tree m j b d l → X.opens s tree.For (option_init_tree expr_tree i ⊳ tree_or_absent expr_tree a ⊳ tree_or_absent expr_tree c ⊳ stmt_tree k.value ⊳ ε) ≡ q → Makes X (option_init_tree expr_tree i) q spot.Here (option_init_tree expr_tree j) r → OptionGoes X expr_tree r a b t → OptionGoes X expr_tree t c d u → Makes X (stmt_tree k.value) u spot.Here (stmt_tree l.value) v → X.closes v ≡ w → Makes X x s spot.Here y w
unfolding around
for_made {S} {X} {x} {y} {s} {q} {r} {u} {v} {w} t m i j a b c d k l is after o h f g z e =
    put_at is after (record { is = passed X (for_node expr_tree stmt_tree m i a c k) s spot.Here refl ∙ ap (under tree.For (m ∷ [])) (in_scope {l = tree.For} o (both h (both (option_tree expr_tree a b f) (both (option_tree expr_tree c d g) (one z)))) e).is })

pub no_handler : {S : Type 0} (X : Puts S) (s : S) (h : Option (CatchClause Stmt)) → h ≡ None → HandlerGoes X s h h s
no_handler X s h is = subst (λ z. HandlerGoes X s z z s) (sym is) (record { param = refl; spans = refl; block = (plain {l = tree.Absent} refl refl nothing).is })

pub no_finalizer : {S : Type 0} (X : Puts S) (s : S) (f : Option (BlockStmt Stmt)) → f ≡ None → Makes X (option_block_tree stmt_tree f) s spot.Here (option_block_tree stmt_tree f) s
no_finalizer X s f is = put_at (ap (option_block_tree stmt_tree) is) (ap (option_block_tree stmt_tree) is) (plain refl refl nothing)

try_at : {S : Type 0} {X : Puts S} {s t u v : S} (o : Option (Option Name)) (ss : List Span) (a b c d e f : Tree) → Makes X a s spot.Here b t → handler_put X t o c ≡ (d, u) → Makes X e u spot.Here f v → Makes X (node (tree.Try o) ss (a ⊳ c ⊳ e ⊳ ε)) s spot.Here (node (tree.Try o) ss (b ⊳ d ⊳ f ⊳ ε)) v
unfolding around steps
try_at None ss a b c d e f h k l = plain refl refl (both h (both (record { is = k }) (one l)))
try_at {S} {X} {s} {t} {u} {v} (Some o) ss a b c d e f h k l =
    record {
      is = passed X (node (tree.Try (Some o)) ss (a ⊳ c ⊳ e ⊳ ε)) s spot.Here refl
          ∙ ap (λ x. let y = handled X x.1 (tree.Try (Some o)) c (put X c) in let z = put X e y.1 spot.Here in (node (tree.Try (Some o)) ss (x.0 ⊳ y.0 ⊳ z.0 ⊳ ε), z.1)) h.is
          ∙ ap (λ y. let z = put X e y.1 spot.Here in (node (tree.Try (Some o)) ss (b ⊳ y.0 ⊳ z.0 ⊳ ε), z.1)) k
          ∙ ap (λ z. (node (tree.Try (Some o)) ss (b ⊳ d ⊳ z.0 ⊳ ε), z.1)) l.is;
    }

pub try_made : {S : Type 0} {X : Puts S} {s t u v : S} (n m : TryStmt Stmt) → m.span ≡ n.span → Makes X (block_tree stmt_tree n.block) s spot.Here (block_tree stmt_tree m.block) t → HandlerGoes X t n.handler m.handler u → Makes X (option_block_tree stmt_tree n.finalizer) u spot.Here (option_block_tree stmt_tree m.finalizer) v → Makes X (try_tree stmt_tree n) s spot.Here (try_tree stmt_tree m) v
try_made {S} {X} {s} {t} {u} {v} n m e h w f =
    put_at refl (cc (e, w.param, w.spans)) (try_at (handler_param n.handler) (n.span ∷ handler_spans n.handler) _ _ _ _ _ _ h w.block f)

-- cases
case_labels : {S : Type 0} {X : Puts S} {s t : S} {xs ys : List SwitchCase} → Each (λ s x y t. CaseGoes X s (case_trees x) (case_trees y) t) s xs ys t → map is_default_case (map case_trees ys) ≡ map is_default_case (map case_trees xs)
case_labels none = refl
case_labels (more w rest) = cc (w.kind, case_labels rest)

cases_go : {S : Type 0} {X : Puts S} {s t : S} {xs ys : List SwitchCase} → Each (λ s x y t. CaseGoes X s (case_trees x) (case_trees y) t) s xs ys t → MakesAll X (case_children (map case_trees xs)) s (case_children (map case_trees ys)) t
cases_go none = nothing
cases_go (more w rest) = both w.test (both w.body (cases_go rest))

pub switch_made : {S : Type 0} {X : Puts S} {x y : Tree} {s q r t u : S} (m : Span) (a b : Box Expr Global) (xs ys : Vec SwitchCase Global) → x ≡ switch_node expr_tree case_trees m a xs → y ≡ switch_node expr_tree case_trees m b ys → Makes X (expr_tree a.value) s spot.Here (expr_tree b.value) q → X.opens q (tree.Switch (map is_default_case (map case_trees xs.items))) (case_children (map case_trees xs.items)) ≡ r → Each (λ s x y t. CaseGoes X s (case_trees x) (case_trees y) t) r xs.items ys.items t → X.closes t ≡ u → Makes X x s spot.Here y u
unfolding around steps
switch_made {S} {X} {x} {y} {s} {q} {r} {t} {u} m a b xs ys is after h o w c =
    let l : Label = tree.Switch (map is_default_case (map case_trees xs.items)) in
    let cs : Forest = case_children (map case_trees xs.items) in
    put_at is after (record {
      is = passed X (node l (m ∷ []) (expr_tree a.value ⊳ cs)) s spot.Here refl
          ∙ ap (λ z. under l (m ∷ []) (in_front z.0 (scoped X z.1 l cs (steps X cs)))) h.is
          ∙ ap (λ z. under l (m ∷ []) (in_front (expr_tree b.value) z)) (in_scope {l = l} o (cases_go w) c).is
          ∙ ap (λ z. (node (tree.Switch z) (m ∷ []) (expr_tree b.value ⊳ case_children (map case_trees ys.items)), u)) (sym (case_labels w));
    })

pub switch_rolled : {S : Type 0} {X : Puts S} {s q r t u : S} (n : SwitchStmt) (a : Box Expr Global) (ys : Vec SwitchCase Global) → Makes X (expr_tree (out-SwitchStmt n).discriminant.value) s spot.Here (expr_tree a.value) q → X.opens q (tree.Switch (map is_default_case (map case_trees (out-SwitchStmt (roll-SwitchStmt (record { span = (out-SwitchStmt n).span; discriminant = a; cases = (out-SwitchStmt n).cases }))).cases.items))) (case_children (map case_trees (out-SwitchStmt (roll-SwitchStmt (record { span = (out-SwitchStmt n).span; discriminant = a; cases = (out-SwitchStmt n).cases }))).cases.items)) ≡ r → Each (λ s x y t. CaseGoes X s (case_trees x) (case_trees y) t) r (out-SwitchStmt (roll-SwitchStmt (record { span = (out-SwitchStmt n).span; discriminant = a; cases = (out-SwitchStmt n).cases }))).cases.items ys.items t → X.closes t ≡ u → Makes X (switch_tree n) s spot.Here (switch_tree (roll-SwitchStmt (record { span = (out-SwitchStmt (roll-SwitchStmt (record { span = (out-SwitchStmt n).span; discriminant = a; cases = (out-SwitchStmt n).cases }))).span; discriminant = (out-SwitchStmt (roll-SwitchStmt (record { span = (out-SwitchStmt n).span; discriminant = a; cases = (out-SwitchStmt n).cases }))).discriminant; cases = ys }))) u
switch_rolled {S} {X} {s} {q} {r} {t} {u} n a ys h o w c =
    let rolled = out-roll-SwitchStmt (record { span = (out-SwitchStmt n).span; discriminant = a; cases = (out-SwitchStmt n).cases }) in
    switch_made (out-SwitchStmt n).span (out-SwitchStmt n).discriminant a (out-SwitchStmt n).cases ys (switch_tree-is n) (switch_tree-roll _ _ ys ∙ ap (λ z. switch_node expr_tree case_trees z.span z.discriminant ys) rolled) h (subst (λ z. X.opens q (tree.Switch (map is_default_case (map case_trees z.cases.items))) (case_children (map case_trees z.cases.items)) ≡ r) rolled o) (subst (λ z. Each (λ s x y t. CaseGoes X s (case_trees x) (case_trees y) t) r z.cases.items ys.items t) rolled w) c

pub case_made : {S : Type 0} {X : Puts S} {p q : CaseTrees} {s t u : S} (m : Span) (a b : Option (Box Expr Global)) (xs ys : Vec Stmt Global) → p ≡ case_parts expr_tree stmt_tree m a xs → q ≡ case_parts expr_tree stmt_tree m b ys → OptionGoes X expr_tree s a b t → MakesScope X tree.CaseBody (list_trees stmt_tree xs.items) t (list_trees stmt_tree ys.items) u → CaseGoes X s p q u
unfolding around
case_made {S} {X} {p} {q} {s} {t} {u} m a b xs ys e f h k =
    subst (λ z. CaseGoes X s z q u) (sym e) (subst (λ z. CaseGoes X s (case_parts expr_tree stmt_tree m a xs) z u) (sym f) (record {
      between = t;
      kind = option_missing X expr_tree s t a b h;
      test = option_tree expr_tree a b h;
      body = record { is = passed X (node tree.CaseBody (m ∷ []) (list_trees stmt_tree xs.items)) t spot.Here refl ∙ ap (under tree.CaseBody (m ∷ [])) k.is };
    }))

-- declarations
pub declarator_made : {S : Type 0} {X : Puts S} {s u : S} (t : S) (k : VarDeclKind) (m n : VarDeclarator Expr) → n.span ≡ m.span → n.name ≡ m.name → OptionGoes X expr_tree s m.init n.init t → X.declares t (declarator_tree expr_tree k n) ≡ u → DeclaratorGoes X k s m n u
unfolding around
declarator_made {S} {X} {s} {u} t k m n e f h d =
    let l : Label = tree.Declarator k (ident_name m.name) in
    let ss : List Span = m.span ∷ m.name.span ∷ [] in
    let same : node l ss (optional_trees expr_tree n.init) ≡ declarator_tree expr_tree k n = cc (e, f) in
    record {
      is = passed X (declarator_tree expr_tree k m) s spot.Here refl
          ∙ ap (λ a. (node l ss a.0, X.declares a.1 (node l ss a.0))) (option_trees expr_tree m.init n.init h).is
          ∙ ap (λ z. (z, X.declares t z)) same
          ∙ ap (λ z. (declarator_tree expr_tree k n, z)) d;
    }

each_declarator : {S : Type 0} {X : Puts S} {k : VarDeclKind} {s t : S} {xs ys : List (VarDeclarator Expr)} → Each (DeclaratorGoes X k) s xs ys t → MakesAll X (list_trees (declarator_tree expr_tree k) xs) s (list_trees (declarator_tree expr_tree k) ys) t
each_declarator none = nothing
each_declarator (more w rest) = both w (each_declarator rest)

pub var_made : {S : Type 0} {X : Puts S} {s t : S} (m : VarDecl Expr) (ys : Vec (VarDeclarator Expr) Global) → Each (DeclaratorGoes X m.kind) s m.decls.items ys.items t → Makes X (var_tree expr_tree m) s spot.Here (var_tree expr_tree (record m { decls = ys })) t
var_made m ys h = plain refl refl (each_declarator h)

pub fn_decl_arm : {S : Type 0} {X : Puts S} {e f : Decl} {n m : FnDecl Function} {s t u v : S} (b : Box Function Global) → e ≡ in_decl.Fn n → m ≡ n → f ≡ in_decl.Fn (record n { function = b }) → X.opens s (tree.FnDecl (ident_name m.ident)) (function_forest (function_trees m.function.value)) ≡ t → FunctionGoes X t (function_trees m.function.value) (function_trees b.value) u → X.closes u ≡ v → Makes X (decl_tree e) s spot.Here (decl_tree f) v
unfolding around
fn_decl_arm {S} {X} {e} {f} {n} {m} {s} {t} {u} {v} b is same after o w c =
    let g : FunctionGoes X t (function_trees n.function.value) (function_trees b.value) u = subst (λ z. FunctionGoes X t (function_trees z.function.value) (function_trees b.value) u) same w in
    let l : Label = tree.FnDecl (ident_name n.ident) in
    let q : X.opens s l (function_forest (function_trees n.function.value)) ≡ t = subst (λ z. X.opens s (tree.FnDecl (ident_name z.ident)) (function_forest (function_trees z.function.value)) ≡ t) same o in
    put_at (ap decl_tree is ∙ decl_tree-Fn n) (ap decl_tree after ∙ decl_tree-Fn _) (record {
      is = passed X (fn_decl_tree function_trees n) s spot.Here refl
          ∙ ap (under l ((function_trees n.function.value).own ∷ n.ident.span ∷ [])) (in_scope {l = l} q g.parts c).is
          ∙ ap (λ k. (node l (k ∷ n.ident.span ∷ []) (function_forest (function_trees b.value)), v)) (sym g.own);
    })

pub var_arm : {S : Type 0} {X : Puts S} {e f : Decl} {n m : VarDecl Expr} {s t : S} (a : VarDecl Expr) → e ≡ in_decl.Var n → m ≡ n → f ≡ in_decl.Var a → Makes X (var_tree expr_tree m) s spot.Here (var_tree expr_tree a) t → Makes X (decl_tree e) s spot.Here (decl_tree f) t
var_arm a is same after w =
    put_at (ap decl_tree is ∙ decl_tree-Var _ ∙ ap (var_tree expr_tree) (sym same)) (ap decl_tree after ∙ decl_tree-Var _) w

pub no_init : {S : Type 0} (X : Puts S) (s : S) (i : Option (VarDeclOrExpr Expr)) → i ≡ None → Makes X (option_init_tree expr_tree i) s spot.Here (option_init_tree expr_tree i) s
no_init X s i is = put_at (ap (option_init_tree expr_tree) is) (ap (option_init_tree expr_tree) is) (plain refl refl nothing)
