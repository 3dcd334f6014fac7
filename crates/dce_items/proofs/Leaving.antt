-- What is left where a list stood in a wrapper.
use Rattle.std.proofs.Common.{ℕ, ◌+◌, ◌≡◌, Bool, true, false, if◌then◌else◌, List, [], ◌∷◌, Option, Vec, Box, Global, Result, Ok, Err, IfOk, sym, ap, ap₂, ◌∙◌}
use Rattle.std.proofs.lemmas.Bool.{false≢true}
use Rattle.swc_ast.specs.declared.Span.{Span}
use Rattle.swc_ast.specs.declared.expressions.ArrowExpr.{ArrowExpr}
use Rattle.swc_ast.specs.declared.declarations.Pat.{Pat}
use Rattle.swc_ast.specs.declared.expressions.Expr.{Expr}
use Rattle.swc_ast.specs.declared.expressions.FnExpr.{FnExpr}
use Rattle.swc_ast.specs.declared.names.Ident.{Ident}
use Rattle.swc_ast.specs.declared.declarations.Function.{Function}
use Rattle.swc_ast.specs.declared.statements.Stmt.{Stmt}
use Rattle.swc_ast.specs.Expressions as form
use Rattle.swc_ast.specs.Expressions.{is_eval, fn_expr_tree, params_tree}
use Rattle.swc_ast.specs.Parts.{list_trees, option_ident_name, option_ident_spans}
use Rattle.swc_ast.specs.Tree.{Name, Label, Fn, Arrow, Read, Dot, Index, Call, CallEval, Body, Tree, node, Forest, ε, ◌⊳◌}
use Rattle.swc_ast.specs.Views.{arrow_tree, arrow_body_tree, expr_tree, function_trees, stmt_tree}
use Rattle.swc_ast.proofs.Equations.{function_trees-is, arrow_tree-is}
use Rattle.dce_layer_proofs.specs.Frames.{Wrapper, wrapped_function, wrapped_call}
use Rattle.dce_layer_proofs.specs.Layers.{items, live}
use Rattle.dce_items.specs.declared.inside.Inside.{Inside}
use Rattle.dce_items.specs.Described.{layered}
use Rattle.dce_items.specs.Remaining.{Remains, RemainsIn, wrapped_body}
use Rattle.dce_peel.specs.Rounds.{staying}
use Rattle.dce_items.proofs.Laying.{staying_live}
use Rattle.dce_items.proofs.Wrapping.{called_node}

-- the same of trees that are others
pub remains_as : (f : Wrapper → Forest → Tree) (g : Inside) (t u v w : Tree) → t ≡ v → u ≡ w → RemainsIn f g v w → RemainsIn f g t u
remains_as f g t u v w is so h = λ x ts e k. so ∙ h x ts (sym is ∙ e) k

-- what a result holds, if it holds one
pub ok_then : {X E : Type 0} {P Q : X → Type 0} (r : Result X E) → IfOk r P → ((x : X) → P x → Q x) → IfOk r Q
ok_then (Ok x) h f = f x h
ok_then (Err e) h f = tt

-- parts of trees

abbrev children : Tree → Forest
children (node l ss cs) = cs

abbrev second : Tree → Tree
second (node l ss (t ⊳ u ⊳ us)) = u
second t = t

abbrev with_second : Tree → Tree → Tree
with_second v (node l ss (t ⊳ u ⊳ us)) = node l ss (t ⊳ v ⊳ us)
with_second v t = t

abbrev label : Tree → Label
label (node l ss cs) = l

abbrev first : Tree → Tree
first (node l ss (t ⊳ ts)) = t
first t = t

abbrev behind : Tree → Forest
behind (node l ss (t ⊳ ts)) = ts
behind t = ε

abbrev spans : Tree → List Span
spans (node l ss cs) = ss

-- what stays of statements, by what the code leaves
pub stmts_remain : (g : Inside) (xs old ys : List Stmt) (rs : List ℕ) → old ≡ xs → rs ≡ g.layers.items → ys ≡ staying g.rounds old rs → Remains g (list_trees stmt_tree xs) (list_trees stmt_tree ys)
stmts_remain g xs old ys rs same so is = λ k. ap (list_trees stmt_tree) (is ∙ ap₂ (staying g.rounds) same so) ∙ staying_live stmt_tree g.rounds xs g.layers.items k

-- the list that is a function's body
abbrev listed : Tree → Forest
listed (node l ss (p ⊳ node m bs ts ⊳ us)) = ts
listed t = ε

-- the function with another
abbrev filled : Forest → Tree → Tree
filled vs (node l ss (p ⊳ node m bs ts ⊳ us)) = node l ss (p ⊳ node m bs vs ⊳ us)
filled vs t = t

function_remains : (g : Inside) (l : Label) (ss bs : List Span) (p : Tree) (xs ys : Forest) → Remains g xs ys → RemainsIn wrapped_function g (node l ss (p ⊳ node Body bs xs ⊳ ε)) (node l ss (p ⊳ node Body bs ys ⊳ ε))
function_remains g l ss bs p xs ys h = λ w ts e k.
    let same : xs ≡ ts = ap listed e in
    let so : ys ≡ live (g.rounds + 1) (layered xs g.layers.items) = h (ap (λ us. items (layered us g.layers.items)) same ∙ k ∙ sym same) in
    ap (filled ys) e ∙ ap (λ us. wrapped_function w us) (so ∙ ap (λ us. live (g.rounds + 1) (layered us g.layers.items)) same)

function_is : (n : FnExpr Function) → fn_expr_tree function_trees n ≡ node (Fn (option_ident_name n.ident)) (n.function.value.span ∷ option_ident_spans n.ident) (params_tree expr_tree n.function.value.params.items ⊳ node Body (n.function.value.body.span ∷ []) (list_trees stmt_tree n.function.value.body.stmts.items) ⊳ ε)
function_is n = ap (form.function_node (Fn (option_ident_name n.ident)) (option_ident_spans n.ident)) (function_trees-is n.function.value)

-- a function with other statements
pub of_function : (g : Inside) (o : Option Ident) (f : Function) (v : Vec Stmt Global) (b c : Box Function Global) → b.value ≡ f → c.value ≡ record f { body = record f.body { stmts = v } } → Remains g (list_trees stmt_tree f.body.stmts.items) (list_trees stmt_tree v.items) → RemainsIn wrapped_function g (fn_expr_tree function_trees (record { ident = o; function = b })) (fn_expr_tree function_trees (record { ident = o; function = c }))
of_function g o f v b c is so h =
    let made : Function → Tree = λ k. node (Fn (option_ident_name o)) (k.span ∷ option_ident_spans o) (params_tree expr_tree k.params.items ⊳ node Body (k.body.span ∷ []) (list_trees stmt_tree k.body.stmts.items) ⊳ ε) in
    remains_as wrapped_function g (fn_expr_tree function_trees (record { ident = o; function = b })) (fn_expr_tree function_trees (record { ident = o; function = c })) (made f) (made (record f { body = record f.body { stmts = v } }))
    (function_is (record { ident = o; function = b }) ∙ ap made is) (function_is (record { ident = o; function = c }) ∙ ap made so)
    (function_remains g (Fn (option_ident_name o)) (f.span ∷ option_ident_spans o) (f.body.span ∷ []) (params_tree expr_tree f.params.items) (list_trees stmt_tree f.body.stmts.items) (list_trees stmt_tree v.items) h)

-- a block with others
pub of_block : (g : Inside) (s : Span) (xs ys : Forest) → Remains g xs ys → RemainsIn wrapped_body g (node Body (s ∷ []) xs) (node Body (s ∷ []) ys)
of_block g s xs ys h = λ w ts e k.
    let same : xs ≡ ts = ap children e in
    ap₂ (node Body) (ap spans e) (h (ap (λ us. items (layered us g.layers.items)) same ∙ k ∙ sym same) ∙ ap (λ us. live (g.rounds + 1) (layered us g.layers.items)) same)

-- an arrow with another body
body_replaced : (g : Inside) (ss : List Span) (p t u : Tree) → RemainsIn wrapped_body g t u → RemainsIn wrapped_function g (node Arrow ss (p ⊳ t ⊳ ε)) (node Arrow ss (p ⊳ u ⊳ ε))
body_replaced g ss p t u h = λ w ts e k. ap (λ v. node Arrow ss (p ⊳ v ⊳ ε)) (h w ts (ap second e) k) ∙ ap (with_second (wrapped_body w (live (g.rounds + 1) (layered ts g.layers.items)))) e

pub of_arrow : (g : Inside) (n m : ArrowExpr) → m.span ≡ n.span → m.params ≡ n.params → RemainsIn wrapped_body g (arrow_body_tree n.body) (arrow_body_tree m.body) → RemainsIn wrapped_function g (arrow_tree n) (arrow_tree m)
of_arrow g n m spanned with_params h =
    let made : Span → Vec (Pat Expr) Global → Tree → Tree = λ s ps t. node Arrow (s ∷ []) (params_tree expr_tree ps.items ⊳ t ⊳ ε) in
    remains_as wrapped_function g (arrow_tree n) (arrow_tree m) (made n.span n.params (arrow_body_tree n.body)) (made n.span n.params (arrow_body_tree m.body))
    (arrow_tree-is n) (arrow_tree-is m ∙ ap₂ (λ s ps. made s ps (arrow_body_tree m.body)) spanned with_params)
    (body_replaced g (n.span ∷ []) (params_tree expr_tree n.params.items) (arrow_body_tree n.body) (arrow_body_tree m.body) h)

pub arrow_same : (n m : ArrowExpr) → m.span ≡ n.span → m.params ≡ n.params → arrow_body_tree m.body ≡ arrow_body_tree n.body → arrow_tree m ≡ arrow_tree n
arrow_same n m spanned with_params h = arrow_tree-is m ∙ ap₂ (λ s ps. node Arrow (s ∷ []) (params_tree expr_tree ps.items ⊳ arrow_body_tree m.body ⊳ ε)) spanned with_params ∙ ap (λ t. node Arrow (n.span ∷ []) (params_tree expr_tree n.params.items ⊳ t ⊳ ε)) h ∙ sym (arrow_tree-is n)

-- a call of a function says what is called

abbrev is_call : Label → Bool
is_call Call = true
is_call _ = false

record Called (s : Span) (t : Tree) (args : Forest) (w : Wrapper) (ts : Forest) : Type 0 where
  pub callee : t ≡ wrapped_function w ts
  pub none : args ≡ ε
  pub spanned : s ∷ [] ≡ w.call

called_is : (s : Span) (t : Tree) (args : Forest) (w : Wrapper) (ts : Forest) → node Call (s ∷ []) (t ⊳ args) ≡ wrapped_call w ts → Called s t args w ts
called_is s t args w ts e = record { callee = ap first e; none = ap behind e; spanned = ap spans e }

named_is : (s : Span) (x : Name) (ss : List Span) (cs args : Forest) (w : Wrapper) (ts : Forest) (b : Bool) → (if b then node (CallEval x) (s ∷ ss) args else node Call (s ∷ []) (node (Read x) ss cs ⊳ args)) ≡ wrapped_call w ts → Called s (node (Read x) ss cs) args w ts
named_is s x ss cs args w ts true e = absurd (false≢true (ap (λ t. is_call (label t)) e))
named_is s x ss cs args w ts false e = called_is s (node (Read x) ss cs) args w ts e

called_back : (s : Span) (t : Tree) (args : Forest) (w : Wrapper) (ts : Forest) → form.call_node s t args ≡ wrapped_call w ts → Called s t args w ts
unfolding form.call_node
called_back s (node (Dot k) ss cs) args w ts e = absurd (false≢true (ap (λ t. is_call (label t)) e))
called_back s (node Index ss cs) args w ts e = absurd (false≢true (ap (λ t. is_call (label t)) e))
called_back s (node (Read x) ss cs) args w ts e = named_is s x ss cs args w ts (is_eval x) e
called_back s (node l ss cs) args w ts e = called_is s (node l ss cs) args w ts e

pub of_call : (g : Inside) (s r : Span) (t u : Tree) (args brgs : Forest) → r ≡ s → brgs ≡ args → RemainsIn wrapped_function g t u → RemainsIn wrapped_call g (form.call_node s t args) (form.call_node r u brgs)
of_call g s r t u args brgs spanned same h = λ w ts e k.
    let c = called_back s t args w ts e in
    let vs = live (g.rounds + 1) (layered ts g.layers.items) in
    ap₂ (λ (p : Span) (us : Forest). form.call_node p u us) spanned (same ∙ c.none) ∙ ap (λ v. form.call_node s v ε) (h w ts c.callee k) ∙ called_node w s vs ∙ ap (λ ss. node Call ss (wrapped_function w vs ⊳ ε)) c.spanned
