-- Each kind of statement, once its parts are walked.
use Rattle.std.proofs.Common.{◌≡◌, Bool, true, false, ◌||◌, refl, sym, ap, ◌∙◌, subst, List, [], ◌∷◌, map}
use Rattle.std.proofs.lemmas.Bool.{false≢true}
use Rattle.std.specs.Prelude.{Option, Some, None}
use Rattle.std.specs.declared.alloc.Global.{Global}
use Rattle.std.specs.declared.boxed.Box.{Box}
use Rattle.std.specs.declared.vec.Vec.{Vec}
use Rattle.swc_ast.specs.Labels.{is_declaration}
use Rattle.swc_ast.specs.Tree as tree
use Rattle.swc_ast.specs.Tree.{Label, Tree, node, Forest, ε, ◌⊳◌}
use Rattle.swc_ast.specs.Parts.{list_trees, optional_trees, tree_or_absent, absent}
use Rattle.swc_ast.specs.Expressions.{FunctionTrees, function_node}
use Rattle.swc_ast.specs.Statements.{LoopTrees, CaseTrees, block_tree, option_block_tree, try_tree, handler_tree, handler_param, handler_spans, if_node, for_node, while_node, do_while_node, loop_parts, case_parts, is_default_case, is_missing, case_children, switch_node, option_init_tree, init_tree, var_tree, declarator_tree}
use Rattle.swc_ast.specs.Views.{expr_tree, stmt_tree, decl_tree, if_tree, switch_tree, for_tree, case_trees, loop_trees, function_trees}
use Rattle.swc_ast.specs.declared.Span.{Span}
use Rattle.swc_ast.specs.declared.VarDeclKind.{VarDeclKind}
use Rattle.swc_ast.specs.declared.declarations.Decl.{Decl}
use Rattle.swc_ast.specs.declared.declarations.Decl.TheVariants as in_decl
use Rattle.swc_ast.specs.declared.declarations.Decl.TheViews.{out-SwitchStmt, roll-SwitchStmt, out-roll-SwitchStmt}
use Rattle.swc_ast.specs.declared.declarations.FnDecl.{FnDecl}
use Rattle.swc_ast.specs.declared.declarations.Function.{Function}
use Rattle.swc_ast.specs.declared.declarations.VarDecl.{VarDecl}
use Rattle.swc_ast.specs.declared.declarations.VarDeclarator.{VarDeclarator}
use Rattle.swc_ast.specs.declared.expressions.Expr.{Expr}
use Rattle.swc_ast.specs.declared.statements.BlockStmt.{BlockStmt}
use Rattle.swc_ast.specs.declared.statements.CatchClause.{CatchClause}
use Rattle.swc_ast.specs.declared.statements.ExprStmt.{ExprStmt}
use Rattle.swc_ast.specs.declared.statements.ForStmt.{ForStmt}
use Rattle.swc_ast.specs.declared.statements.IfStmt.{IfStmt}
use Rattle.swc_ast.specs.declared.statements.LabeledStmt.{LabeledStmt}
use Rattle.swc_ast.specs.declared.statements.ReturnStmt.{ReturnStmt}
use Rattle.swc_ast.specs.declared.statements.Stmt.{Stmt}
use Rattle.swc_ast.specs.declared.statements.Stmt.TheVariants as in_stmt
use Rattle.swc_ast.specs.declared.statements.SwitchCase.{SwitchCase}
use Rattle.swc_ast.specs.declared.statements.SwitchStmt.{SwitchStmt}
use Rattle.swc_ast.specs.declared.statements.ThrowStmt.{ThrowStmt}
use Rattle.swc_ast.specs.declared.statements.TryStmt.{TryStmt}
use Rattle.swc_ast.specs.declared.statements.VarDeclOrExpr.{VarDeclOrExpr}
use Rattle.swc_ast.specs.declared.statements.VarDeclOrExpr.TheVariants as init
use Rattle.swc_ast.specs.declared.statements.WhileStmt.{WhileStmt}
use Rattle.swc_ast.proofs.Equations.{stmt_tree-Block, stmt_tree-Return, stmt_tree-Labeled, stmt_tree-If, stmt_tree-Switch, stmt_tree-Throw, stmt_tree-Try, stmt_tree-While, stmt_tree-DoWhile, stmt_tree-For, stmt_tree-Decl, stmt_tree-Expr, decl_tree-Fn, decl_tree-Var, switch_tree-is, switch_tree-roll}
use Rattle.tree_walk.specs.declared.rules.ListPlace.{ListPlace}
use Rattle.tree_walk.specs.declared.rules.ListPlace.TheVariants as place
use Rattle.tree_walk.specs.Walks.{Walks, closed, passes, Entered, plain, headed, head_shut, block, ListMade, listed, tidied, AllWalk, nothing, both, Each, none, more}
use Rattle.tree_walk.specs.Parts.{OptionWalks}
use Rattle.tree_walk.specs.Lists.{list_label, ListBecame, ListWalks, PartWalks, Shut}
use Rattle.tree_walk.specs.StatementParts.{FunctionWalks, LoopWalks, CaseWalks, HandlerWalks, HeadWalks, walked, declares, stays_shut, DeclaratorWalks, DeclWalks, declared}
use Rattle.tree_walk.proofs.Walked.{or_none, or_true, or_assoc, or_comm, walks_unvisited, passed, walks_at, entered_at, one_child, two_children, each_list}
use Rattle.tree_walk.specs.Pass.{Pass, only_head}

-- an expression or a statement, if any
pub option_trees : {N : Type 0} {X : Pass} (f : N → Tree) (o p : Option (Box N Global)) (c : Bool) → OptionWalks X f o p c → AllWalk X c (optional_trees f o) (optional_trees f p)
option_trees {N} {X} f None None c h = subst (λ k. AllWalk X k ε ε) (sym h) nothing
option_trees f (Some a) (Some b) c h = one_child h
option_trees f None (Some b) c h = absurd h
option_trees f (Some a) None c h = absurd h

pub option_tree : {N : Type 0} {X : Pass} (f : N → Tree) (o p : Option (Box N Global)) (c : Bool) → OptionWalks X f o p c → Walks X c (tree_or_absent f o) (tree_or_absent f p)
option_tree {N} {X} f None None c h = subst (λ k. Walks X k absent absent) (sym h) (walks_unvisited X absent refl)
option_tree f (Some a) (Some b) c h = h
option_tree f None (Some b) c h = absurd h
option_tree f (Some a) None c h = absurd h

pub option_some : {N : Type 0} {X : Pass} (f : N → Tree) (o : Option (Box N Global)) (a b : Box N Global) (c : Bool) → o ≡ Some a → Walks X c (f a.value) (f b.value) → OptionWalks X f o (Some b) c
option_some {N} {X} f o a b c is w = subst (λ k. OptionWalks X f k (Some b) c) (sym is) w

pub option_none : {N : Type 0} (X : Pass) (f : N → Tree) (o : Option (Box N Global)) → o ≡ None → OptionWalks X f o o false
option_none {N} X f o is = subst (λ k. OptionWalks X f k k false) (sym is) refl

option_missing : {N : Type 0} (X : Pass) (f : N → Tree) (o p : Option (Box N Global)) (c : Bool) → OptionWalks X f o p c → is_missing p ≡ is_missing o
option_missing X f None None c h = refl
option_missing X f (Some a) (Some b) c h = refl
option_missing X f None (Some b) c h = absurd h
option_missing X f (Some a) None c h = absurd h

-- a list of statements, and then the list
pub list_then : {X : Pass} (p : ListPlace) (xs ys zs : List Stmt) (c d : Bool) → Each (λ x y d. Walks X d (stmt_tree x) (stmt_tree y)) xs ys c → ListBecame X p d ys zs → ListWalks X p xs zs (c || d)
list_then {X} p xs ys zs c true h s = subst (λ k. ListMade X (list_label p) k (list_trees stmt_tree xs) (list_trees stmt_tree zs)) (sym (or_true c)) (tidied (each_list h) s)
list_then {X} p xs ys zs c false h s = subst (λ k. ListMade X (list_label p) k (list_trees stmt_tree xs) (list_trees stmt_tree zs)) (sym (or_none c)) (listed (subst (λ k. AllWalk X c (list_trees stmt_tree xs) k) (sym s.0) (each_list h)) s.1)

pub block_arm : {X : Pass} {e f : Stmt} {n m : BlockStmt Stmt} {c : Bool} (a : BlockStmt Stmt) → e ≡ in_stmt.Block n → m ≡ n → f ≡ in_stmt.Block a → Entered X c (block_tree stmt_tree m) (block_tree stmt_tree a) → Entered X c (stmt_tree e) (stmt_tree f)
block_arm {X} {e} {f} {n} {m} {c} a is same after w =
    entered_at (ap stmt_tree is ∙ stmt_tree-Block n ∙ ap (block_tree stmt_tree) (sym same)) (ap stmt_tree after ∙ stmt_tree-Block _) w

pub return_arm : {X : Pass} {e f : Stmt} {n m : ReturnStmt Expr} {c : Bool} (a : Option (Box Expr Global)) → e ≡ in_stmt.Return n → m ≡ n → f ≡ in_stmt.Return (record n { arg = a }) → OptionWalks X expr_tree m.arg a c → Entered X c (stmt_tree e) (stmt_tree f)
return_arm {X} {e} {f} {n} {m} {c} a is same after w =
    entered_at (ap stmt_tree is ∙ stmt_tree-Return n) (ap stmt_tree after ∙ stmt_tree-Return _) (plain refl (option_trees expr_tree n.arg a c (subst (λ k. OptionWalks X expr_tree k.arg a c) same w)))

pub labeled_arm : {X : Pass} {e f : Stmt} {n m : LabeledStmt Stmt} {c : Bool} (a : Box Stmt Global) → e ≡ in_stmt.Labeled n → m ≡ n → f ≡ in_stmt.Labeled (record n { body = a }) → Walks X c (stmt_tree m.body.value) (stmt_tree a.value) → Entered X c (stmt_tree e) (stmt_tree f)
labeled_arm {X} {e} {f} {n} {m} {c} a is same after w =
    entered_at (ap stmt_tree is ∙ stmt_tree-Labeled n) (ap stmt_tree after ∙ stmt_tree-Labeled _) (plain refl (one_child (subst (λ k. Walks X c (stmt_tree k.body.value) (stmt_tree a.value)) same w)))

pub throw_arm : {X : Pass} {e f : Stmt} {n m : ThrowStmt Expr} {c : Bool} (a : Box Expr Global) → e ≡ in_stmt.Throw n → m ≡ n → f ≡ in_stmt.Throw (record n { arg = a }) → Walks X c (expr_tree m.arg.value) (expr_tree a.value) → Entered X c (stmt_tree e) (stmt_tree f)
throw_arm {X} {e} {f} {n} {m} {c} a is same after w =
    entered_at (ap stmt_tree is ∙ stmt_tree-Throw n) (ap stmt_tree after ∙ stmt_tree-Throw _) (plain refl (one_child (subst (λ k. Walks X c (expr_tree k.arg.value) (expr_tree a.value)) same w)))

pub expr_stmt_arm : {X : Pass} {e f : Stmt} {n m : ExprStmt Expr} {c : Bool} (a : Box Expr Global) → e ≡ in_stmt.Expr n → m ≡ n → f ≡ in_stmt.Expr (record n { expr = a }) → Walks X c (expr_tree m.expr.value) (expr_tree a.value) → Entered X c (stmt_tree e) (stmt_tree f)
expr_stmt_arm {X} {e} {f} {n} {m} {c} a is same after w =
    entered_at (ap stmt_tree is ∙ stmt_tree-Expr n) (ap stmt_tree after ∙ stmt_tree-Expr _) (plain refl (one_child (subst (λ k. Walks X c (expr_tree k.expr.value) (expr_tree a.value)) same w)))

pub if_arm : {X : Pass} {e f : Stmt} {n m : IfStmt} {c : Bool} (a : IfStmt) → e ≡ in_stmt.If n → m ≡ n → f ≡ in_stmt.If a → Entered X c (if_tree m) (if_tree a) → Entered X c (stmt_tree e) (stmt_tree f)
if_arm {X} {e} {f} {n} {m} {c} a is same after w =
    entered_at (ap stmt_tree is ∙ stmt_tree-If n ∙ ap if_tree (sym same)) (ap stmt_tree after ∙ stmt_tree-If _) w

pub switch_arm : {X : Pass} {e f : Stmt} {n m : SwitchStmt} {c : Bool} (a : SwitchStmt) → e ≡ in_stmt.Switch n → m ≡ n → f ≡ in_stmt.Switch a → Entered X c (switch_tree m) (switch_tree a) → Entered X c (stmt_tree e) (stmt_tree f)
switch_arm {X} {e} {f} {n} {m} {c} a is same after w =
    entered_at (ap stmt_tree is ∙ stmt_tree-Switch n ∙ ap switch_tree (sym same)) (ap stmt_tree after ∙ stmt_tree-Switch _) w

pub for_arm : {X : Pass} {e f : Stmt} {n m : Box ForStmt Global} {c : Bool} (a : Box ForStmt Global) → e ≡ in_stmt.For n → m ≡ n → f ≡ in_stmt.For a → Entered X c (for_tree m.value) (for_tree a.value) → Entered X c (stmt_tree e) (stmt_tree f)
for_arm {X} {e} {f} {n} {m} {c} a is same after w =
    entered_at (ap stmt_tree is ∙ stmt_tree-For n ∙ ap (λ b. for_tree b.value) (sym same)) (ap stmt_tree after ∙ stmt_tree-For _) w

decl_entered : {X : Pass} {t u : Tree} {c : Bool} → DeclWalks X t u c → Entered X c t u
decl_entered (declared {l = tree.VarDecl k} i e f ws) = entered_at e f (plain refl ws)
decl_entered (declared {l = tree.FnDecl x} i e f ws) = entered_at e f (plain refl ws)
decl_entered (declared {l = l} i e f ws) = absurd (false≢true i)

declared_at : {X : Pass} {c : Bool} {a b x y : Tree} → a ≡ x → b ≡ y → DeclWalks X x y c → DeclWalks X a b c
declared_at {X} {c} {a} {b} {x} {y} p q h = subst (λ z. DeclWalks X z b c) (sym p) (subst (λ z. DeclWalks X x z c) (sym q) h)

pub decl_arm : {X : Pass} {e f : Stmt} {n m : Decl} {c : Bool} (a : Decl) → e ≡ in_stmt.Decl n → m ≡ n → f ≡ in_stmt.Decl a → DeclWalks X (decl_tree m) (decl_tree a) c → Entered X c (stmt_tree e) (stmt_tree f)
decl_arm {X} {e} {f} {n} {m} {c} a is same after w =
    entered_at (ap stmt_tree is ∙ stmt_tree-Decl n ∙ ap decl_tree (sym same)) (ap stmt_tree after ∙ stmt_tree-Decl _) (decl_entered w)

while_walks : {X : Pass} (l m : LoopTrees) (c : Bool) → LoopWalks X l m c → Entered X c (while_node l) (while_node m)
while_walks {X} l m c w = subst (λ k. Entered X k (while_node l) (while_node m)) (sym w.either) (entered_at refl (ap (λ o. node tree.While (o ∷ []) (m.test ⊳ m.body ⊳ ε)) w.own) (plain refl (two_children w.test w.body)))

do_while_walks : {X : Pass} (l m : LoopTrees) (c : Bool) → LoopWalks X l m c → Entered X c (do_while_node l) (do_while_node m)
do_while_walks {X} l m c w = subst (λ k. Entered X k (do_while_node l) (do_while_node m)) (or_comm w.bodies w.tests ∙ sym w.either) (entered_at refl (ap (λ o. node tree.DoWhile (o ∷ []) (m.body ⊳ m.test ⊳ ε)) w.own) (plain refl (two_children w.body w.test)))

pub while_arm : {X : Pass} {e f : Stmt} {n m : WhileStmt} {c : Bool} (a : WhileStmt) → e ≡ in_stmt.While n → m ≡ n → f ≡ in_stmt.While a → LoopWalks X (loop_trees m) (loop_trees a) c → Entered X c (stmt_tree e) (stmt_tree f)
while_arm {X} {e} {f} {n} {m} {c} a is same after w =
    entered_at (ap stmt_tree is ∙ stmt_tree-While n ∙ ap (λ k. while_node (loop_trees k)) (sym same)) (ap stmt_tree after ∙ stmt_tree-While _) (while_walks _ _ c w)

pub do_while_arm : {X : Pass} {e f : Stmt} {n m : WhileStmt} {c : Bool} (a : WhileStmt) → e ≡ in_stmt.DoWhile n → m ≡ n → f ≡ in_stmt.DoWhile a → LoopWalks X (loop_trees m) (loop_trees a) c → Entered X c (stmt_tree e) (stmt_tree f)
do_while_arm {X} {e} {f} {n} {m} {c} a is same after w =
    entered_at (ap stmt_tree is ∙ stmt_tree-DoWhile n ∙ ap (λ k. do_while_node (loop_trees k)) (sym same)) (ap stmt_tree after ∙ stmt_tree-DoWhile _) (do_while_walks _ _ c w)

pub loop_made : {X : Pass} {l m : LoopTrees} {c d : Bool} (s : Span) (a b : Box Expr Global) (p q : Box Stmt Global) → l ≡ loop_parts expr_tree stmt_tree s a p → m ≡ loop_parts expr_tree stmt_tree s b q → Walks X c (expr_tree a.value) (expr_tree b.value) → Walks X d (stmt_tree p.value) (stmt_tree q.value) → LoopWalks X l m (c || d)
loop_made {X} {l} {m} {c} {d} s a b p q e f h k =
    subst (λ z. LoopWalks X z m (c || d)) (sym e) (subst (λ z. LoopWalks X (loop_parts expr_tree stmt_tree s a p) z (c || d)) (sym f) (record { tests = c; bodies = d; own = refl; test = h; body = k; either = refl }))

pub try_arm : {X : Pass} {e f : Stmt} {n m : Box (TryStmt Stmt) Global} {c : Bool} (a : Box (TryStmt Stmt) Global) → e ≡ in_stmt.Try n → m ≡ n → f ≡ in_stmt.Try a → Entered X c (try_tree stmt_tree m.value) (try_tree stmt_tree a.value) → Entered X c (stmt_tree e) (stmt_tree f)
try_arm {X} {e} {f} {n} {m} {c} a is same after w =
    entered_at (ap stmt_tree is ∙ stmt_tree-Try n ∙ ap (λ b. try_tree stmt_tree b.value) (sym same)) (ap stmt_tree after ∙ stmt_tree-Try _) w

pub try_made : {X : Pass} {c d q : Bool} (n : TryStmt Stmt) (a : BlockStmt Stmt) (h : Option (CatchClause Stmt)) (z : Option (BlockStmt Stmt)) → Walks X c (block_tree stmt_tree n.block) (block_tree stmt_tree a) → HandlerWalks X n.handler h d → Walks X q (option_block_tree stmt_tree n.finalizer) (option_block_tree stmt_tree z) → Entered X (c || (d || q)) (try_tree stmt_tree n) (try_tree stmt_tree (record n { block = a; handler = h; finalizer = z }))
try_made {X} {c} {d} {q} n a h z w k u =
    let label : try_tree stmt_tree (record n { block = a; handler = h; finalizer = z }) ≡ node (tree.Try (handler_param n.handler)) (n.span ∷ handler_spans n.handler) (block_tree stmt_tree a ⊳ handler_tree stmt_tree h ⊳ option_block_tree stmt_tree z ⊳ ε) = cc (k.param, k.spans) in
    entered_at refl label (plain refl (both w (two_children k.block u)))

pub handler_made : {X : Pass} {c : Bool} (e f : Option (CatchClause Stmt)) (n m : CatchClause Stmt) (a : BlockStmt Stmt) → e ≡ Some n → m ≡ n → f ≡ Some (record n { body = a }) → Walks X c (block_tree stmt_tree m.body) (block_tree stmt_tree a) → HandlerWalks X e f c
handler_made {X} {c} e f n m a is same after w =
    subst (λ k. HandlerWalks X k f c) (sym is) (subst (λ k. HandlerWalks X (Some n) k c) (sym after) (record { param = refl; spans = refl; block = subst (λ k. Walks X c (block_tree stmt_tree k.body) (block_tree stmt_tree a)) same w }))

pub no_handler : (X : Pass) (h : Option (CatchClause Stmt)) → h ≡ None → HandlerWalks X h h false
no_handler X h is = subst (λ k. HandlerWalks X k k false) (sym is) (record { param = refl; spans = refl; block = walks_unvisited X absent refl })

pub if_made : {X : Pass} {t u : Tree} {c d : Bool} (q : Bool) (s : Span) (a b : Box Expr Global) (v w : Box Stmt Global) (y z : Option (Box Stmt Global)) → t ≡ if_node expr_tree stmt_tree s a v y → u ≡ if_node expr_tree stmt_tree s b w z → Walks X c (expr_tree a.value) (expr_tree b.value) → Walks X d (stmt_tree v.value) (stmt_tree w.value) → OptionWalks X stmt_tree y z q → Entered X (c || (d || q)) t u
if_made {X} {t} {u} {c} {d} q s a b v w y z e f h k l = entered_at e f (plain refl (both h (both k (option_trees stmt_tree y z q l))))

-- a `for`, whose head is entered or not
head_entered : {X : Pass} {c d : Bool} (ss : List Span) {x p : Tree} {ts us : Forest} → HeadWalks X x p c → AllWalk X d ts us → Entered X (c || d) (node tree.For ss (x ⊳ ts)) (node tree.For ss (p ⊳ us))
head_entered ss (walked m) ws = plain refl (both m ws)
head_entered ss {ts = ts} {us = us} (declares i j ds) ws = entered_at (ap (λ g. node tree.For ss (g ⊳ ts)) i) (ap (λ g. node tree.For ss (g ⊳ us)) j) (headed ds ws)
head_entered {X} {c} {d} ss {x} {p} {ts} {us} (stays_shut m j n) ws = subst (λ g. Entered X (g || d) (node tree.For ss (x ⊳ ts)) (node tree.For ss (p ⊳ us))) (sym n) (entered_at refl (ap (λ g. node tree.For ss (g ⊳ us)) j) (head_shut m ws))

pub for_made : {X : Pass} {t u : Tree} {c r : Bool} (d q : Bool) (s : Span) (i j : Option (VarDeclOrExpr Expr)) (a b v w : Option (Box Expr Global)) (y z : Box Stmt Global) → t ≡ for_node expr_tree stmt_tree s i a v y → u ≡ for_node expr_tree stmt_tree s j b w z → HeadWalks X (option_init_tree expr_tree i) (option_init_tree expr_tree j) c → OptionWalks X expr_tree a b d → OptionWalks X expr_tree v w q → Walks X r (stmt_tree y.value) (stmt_tree z.value) → Entered X (c || (d || (q || r))) t u
for_made {X} {t} {u} {c} {r} d q s i j a b v w y z e f h k l o = entered_at e f (head_entered (s ∷ []) h (both (option_tree expr_tree a b d k) (two_children (option_tree expr_tree v w q l) o)))

-- the cases of a switch
case_labels : {X : Pass} {xs ys : List SwitchCase} {c : Bool} → Each (λ x y d. CaseWalks X (case_trees x) (case_trees y) d) xs ys c → map is_default_case (map case_trees ys) ≡ map is_default_case (map case_trees xs)
case_labels none = refl
case_labels (more w rest) = cc (w.kind, case_labels rest)

case_walks : {X : Pass} {xs ys : List SwitchCase} {c : Bool} → Each (λ x y d. CaseWalks X (case_trees x) (case_trees y) d) xs ys c → AllWalk X c (case_children (map case_trees xs)) (case_children (map case_trees ys))
case_walks none = nothing
case_walks {X} (more {x = x} {y = y} {xs = xs} {ys = ys} {c = c} {d = d} w rest) =
    let e : (w.tests || (w.bodies || d)) ≡ (c || d) = sym (or_assoc w.tests w.bodies d) ∙ ap (λ k. k || d) (sym w.either) in
    subst (λ k. AllWalk X k (case_children (map case_trees (x ∷ xs))) (case_children (map case_trees (y ∷ ys)))) e (both w.test (both w.body (case_walks rest)))

pub switch_made : {X : Pass} {t u : Tree} {c d : Bool} (s : Span) (a b : Box Expr Global) (xs ys : Vec SwitchCase Global) → t ≡ switch_node expr_tree case_trees s a xs → u ≡ switch_node expr_tree case_trees s b ys → Walks X c (expr_tree a.value) (expr_tree b.value) → Each (λ x y d. CaseWalks X (case_trees x) (case_trees y) d) xs.items ys.items d → Entered X (c || d) t u
switch_made {X} {t} {u} {c} {d} s a b xs ys e f h k =
    entered_at e (f ∙ ap (λ l. node (tree.Switch l) (s ∷ []) (expr_tree b.value ⊳ case_children (map case_trees ys.items))) (case_labels k)) (plain refl (both h (case_walks k)))

-- a switch as the walk leaves it: its discriminant is written, and then its cases
pub switch_rolled : {X : Pass} {c d : Bool} (n : SwitchStmt) (a : Box Expr Global) (ys : Vec SwitchCase Global) → Walks X c (expr_tree (out-SwitchStmt n).discriminant.value) (expr_tree a.value) → Each (λ x y d. CaseWalks X (case_trees x) (case_trees y) d) (out-SwitchStmt (roll-SwitchStmt (record { span = (out-SwitchStmt n).span; discriminant = a; cases = (out-SwitchStmt n).cases }))).cases.items ys.items d → Entered X (c || d) (switch_tree n) (switch_tree (roll-SwitchStmt (record { span = (out-SwitchStmt (roll-SwitchStmt (record { span = (out-SwitchStmt n).span; discriminant = a; cases = (out-SwitchStmt n).cases }))).span; discriminant = (out-SwitchStmt (roll-SwitchStmt (record { span = (out-SwitchStmt n).span; discriminant = a; cases = (out-SwitchStmt n).cases }))).discriminant; cases = ys })))
switch_rolled {X} {c} {d} n a ys h k =
    let rolled = out-roll-SwitchStmt (record { span = (out-SwitchStmt n).span; discriminant = a; cases = (out-SwitchStmt n).cases }) in
    switch_made (out-SwitchStmt n).span (out-SwitchStmt n).discriminant a (out-SwitchStmt n).cases ys (switch_tree-is n) (switch_tree-roll _ _ ys ∙ ap (λ z. switch_node expr_tree case_trees z.span z.discriminant ys) rolled) h (subst (λ z. Each (λ x y d. CaseWalks X (case_trees x) (case_trees y) d) z.cases.items ys.items d) rolled k)

pub case_made : {X : Pass} {p q : CaseTrees} {d : Bool} (c : Bool) (s : Span) (a b : Option (Box Expr Global)) (xs ys : Vec Stmt Global) → p ≡ case_parts expr_tree stmt_tree s a xs → q ≡ case_parts expr_tree stmt_tree s b ys → OptionWalks X expr_tree a b c → PartWalks X place.Case xs.items ys.items d → CaseWalks X p q (c || d)
case_made {X} {p} {q} {d} c s a b xs ys e f h k =
    subst (λ z. CaseWalks X z q (c || d)) (sym e) (subst (λ z. CaseWalks X (case_parts expr_tree stmt_tree s a xs) z (c || d)) (sym f) (record { tests = c; bodies = d; kind = option_missing X expr_tree a b c h; test = option_tree expr_tree a b c h; body = k refl (s ∷ []); either = refl }))

-- declarations
pub declarator_made : {X : Pass} (m n : VarDeclarator Expr) (c : Bool) → n ≡ record m { init = n.init } → OptionWalks X expr_tree m.init n.init c → DeclaratorWalks X m n c
declarator_made {X} m n c e h = λ k. walks_at refl (ap (declarator_tree expr_tree k) e) (passed refl refl (option_trees expr_tree m.init n.init c h))

each_declarator : {X : Pass} {xs ys : List (VarDeclarator Expr)} {c : Bool} (k : VarDeclKind) → Each (DeclaratorWalks X) xs ys c → AllWalk X c (list_trees (declarator_tree expr_tree k) xs) (list_trees (declarator_tree expr_tree k) ys)
each_declarator k none = nothing
each_declarator k (more w rest) = both (w k) (each_declarator k rest)

pub var_made : {X : Pass} (m : VarDecl Expr) (ys : Vec (VarDeclarator Expr) Global) (c : Bool) → Each (DeclaratorWalks X) m.decls.items ys.items c → DeclWalks X (var_tree expr_tree m) (var_tree expr_tree (record m { decls = ys })) c
var_made m ys c h = declared refl refl refl (each_declarator m.kind h)

function_declared : {X : Pass} (l : Label) (ss : List Span) (f g : FunctionTrees) (c : Bool) → is_declaration l ≡ true → FunctionWalks X f g c → DeclWalks X (function_node l ss f) (function_node l ss g) c
function_declared l ss f g c i w = declared i refl (ap (λ k. node l (k ∷ ss) (g.parameters ⊳ g.body ⊳ ε)) w.own) w.parts

pub fn_decl_arm : {X : Pass} {e f : Decl} {n m : FnDecl Function} {c : Bool} (b : Box Function Global) → e ≡ in_decl.Fn n → m ≡ n → f ≡ in_decl.Fn (record n { function = b }) → FunctionWalks X (function_trees m.function.value) (function_trees b.value) c → DeclWalks X (decl_tree e) (decl_tree f) c
fn_decl_arm {X} {e} {f} {n} {m} {c} b is same after w =
    declared_at (ap decl_tree is ∙ decl_tree-Fn n) (ap decl_tree after ∙ decl_tree-Fn _) (function_declared _ _ _ _ c refl (subst (λ k. FunctionWalks X (function_trees k.function.value) (function_trees b.value) c) same w))

pub var_arm : {X : Pass} {e f : Decl} {n m : VarDecl Expr} {c : Bool} (a : VarDecl Expr) → e ≡ in_decl.Var n → m ≡ n → f ≡ in_decl.Var a → DeclWalks X (var_tree expr_tree m) (var_tree expr_tree a) c → DeclWalks X (decl_tree e) (decl_tree f) c
var_arm {X} {e} {f} {n} {m} {c} a is same after w =
    declared_at (ap decl_tree is ∙ decl_tree-Var n ∙ ap (var_tree expr_tree) (sym same)) (ap decl_tree after ∙ decl_tree-Var _) w

-- the head of a `for`
pub head_at : {X : Pass} {c : Bool} {a b x y : Tree} → a ≡ x → b ≡ y → HeadWalks X x y c → HeadWalks X a b c
head_at {X} {c} {a} {b} {x} {y} p q h = subst (λ z. HeadWalks X z b c) (sym p) (subst (λ z. HeadWalks X x z c) (sym q) h)

-- whether a label is that of a declaration of variables
abbrev declares_variables : Tree → Bool
declares_variables (node (tree.VarDecl k) ss ts) = true
declares_variables (node l ss ts) = false

head_declares : {X : Pass} {c : Bool} {t u : Tree} → declares_variables t ≡ true → DeclWalks X t u c → HeadWalks X t u c
head_declares v (declared {l = tree.VarDecl k} i e f ws) = declares e f ws
head_declares v (declared {l = tree.FnDecl x} i e f ws) = absurd (false≢true (sym (ap declares_variables e) ∙ v))
head_declares v (declared {l = l} i e f ws) = absurd (false≢true i)

-- a list that is not entered, or is walked
pub part_shut : {X : Pass} (p : ListPlace) (xs : List Stmt) → Shut X (list_label p) (list_trees stmt_tree xs) → PartWalks X p xs xs false
part_shut p xs s = λ b ss. closed (s ss)

pub part_walks : {X : Pass} {c : Bool} (p : ListPlace) (xs ys : List Stmt) → ListWalks X p xs ys c → PartWalks X p xs ys c
part_walks place.Block xs ys w = λ b ss. passes refl (block refl w)
part_walks place.Body xs ys w = λ b ss. passes refl (block refl w)
part_walks place.Case xs ys w = λ b ss. passes refl (block refl w)
part_walks place.Script xs ys w = λ b ss. absurd (false≢true b)

pub init_var : {X : Pass} {c : Bool} (e f : VarDeclOrExpr Expr) (n m : VarDecl Expr) (a : VarDecl Expr) → e ≡ init.VarDecl n → m ≡ n → f ≡ init.VarDecl a → DeclWalks X (var_tree expr_tree m) (var_tree expr_tree a) c → HeadWalks X (init_tree expr_tree e) (init_tree expr_tree f) c
init_var e f n m a is same after w = head_at (ap (init_tree expr_tree) is ∙ ap (var_tree expr_tree) (sym same)) (ap (init_tree expr_tree) after) (head_declares refl w)

-- one that is not entered
pub init_shut : {X : Pass} (e : VarDeclOrExpr Expr) (n : VarDecl Expr) → e ≡ init.VarDecl n → X.skips (only_head (var_tree expr_tree n)) → HeadWalks X (init_tree expr_tree e) (var_tree expr_tree n) false
init_shut {X} e n is s = stays_shut (subst (λ k. X.skips (only_head (init_tree expr_tree k))) (sym is) s) (sym (ap (init_tree expr_tree) is)) refl

pub init_expr : {X : Pass} {c : Bool} (e f : VarDeclOrExpr Expr) (n m : Box Expr Global) (a : Box Expr Global) → e ≡ init.Expr n → m ≡ n → f ≡ init.Expr a → Walks X c (expr_tree m.value) (expr_tree a.value) → HeadWalks X (init_tree expr_tree e) (init_tree expr_tree f) c
init_expr e f n m a is same after w = walked (walks_at (ap (init_tree expr_tree) is ∙ ap (λ k. expr_tree k.value) (sym same)) (ap (init_tree expr_tree) after) w)
