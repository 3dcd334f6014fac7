-- A body weighs more than a declaration of its `var` names.
use Rattle.std.proofs.Common.{◌≡◌, ℕ, suc, ◌+◌, ◌*◌, ◌≤◌, ◌<◌, Bool, true, false, if◌then◌else◌, List, [], ◌∷◌, ◌++◌, length, Option, Some, None, refl, sym, ap, subst, ◌∙◌, arith, append-nil, length-append}
use Rattle.swc_ast.specs.declared.Span.{Span}
use Rattle.swc_ast.specs.declared.VarDeclKind.TheVariants.{Var}
use Rattle.swc_ast.specs.declared.statements.Stmt.{Stmt}
use Rattle.swc_ast.specs.declared.statements.Stmt.TheVariants as in_stmt
use Rattle.swc_ast.specs.declared.declarations.Decl.TheOpen as Open
use Rattle.swc_ast.specs.declared.declarations.Decl.TheViews.{roll-Stmt, out-Stmt, roll-out-Stmt}
use Rattle.swc_ast.specs.declared.expressions.Expr.{Expr}
use Rattle.swc_ast.specs.declared.statements.LabeledStmt.{LabeledStmt}
use Rattle.swc_ast.specs.declared.statements.ReturnStmt.{ReturnStmt}
use Rattle.swc_ast.specs.declared.statements.ThrowStmt.{ThrowStmt}
use Rattle.swc_ast.specs.Parts.{list_trees, optional_trees, word_text}
use Rattle.swc_ast.specs.Scope.{vars, vars_all, own_vars, holds_statements, has_name}
use Rattle.swc_ast.specs.Tree as tree
use Rattle.swc_ast.specs.Tree.{Text, Name, Label, Block, ExprStmt, If, While, DoWhile, For, Switch, Try, NumLit, Param, Declarator, Tree, node, Forest, ε, ◌⊳◌, label_of}
use Rattle.swc_ast.specs.Views.{expr_tree, stmt_tree}
use Rattle.swc_ast.specs.Weight.{own_weight, weight, weight_all}
use Rattle.swc_ast.proofs.ApartStatements.{StmtForm, stmt_form, stmt_number, stmt_at}
use Rattle.swc_ast.proofs.Equations.{stmt_tree-Block, stmt_tree-Labeled, stmt_tree-Return, stmt_tree-Throw}
use Rattle.swc_ast.specs.SameLaws.{impossible}
use Rattle.branch_rules.specs.Statements.{as_statement}
use Rattle.branch_rules.specs.Vars.{each_once, Unset, no_more, one_more, Declares, none_declared, some_declared}
use Rattle.branch_loops.specs.Bodies.{Outweighs, is_heavy}

-- each `var` name weighs 4

own_vars_weight : (l : Label) (cs : Forest) → 4 * length (own_vars l) ≤ own_weight l cs
unfolding own_weight
own_vars_weight (Declarator Var x) cs = omega arith
own_vars_weight l cs = omega arith

inner_vars : (b : Bool) (xs : List Name) (n : ℕ) → 4 * length xs ≤ n → 4 * length (if b then xs else []) ≤ n
inner_vars true xs n h = h
inner_vars false xs n h = omega arith

mutual
  vars_weight : (t : Tree) → 4 * length (vars t) ≤ weight t
  vars_weight (node l ss cs) = omega (arith, own_vars_weight l cs, inner_vars (holds_statements l) (vars_all cs) (weight_all cs) (all_vars_weight cs), length-append (own_vars l) (if holds_statements l then vars_all cs else []))

  all_vars_weight : (ts : Forest) → 4 * length (vars_all ts) ≤ weight_all ts
  all_vars_weight ε = omega arith
  all_vars_weight (t ⊳ ts) = omega (arith, vars_weight t, all_vars_weight ts, length-append (vars t) (vars_all ts))

-- and a statement weighs more than its `var` names

own_more : (l : Label) (cs : Forest) → 1 ≤ stmt_form l → 1 ≤ own_weight l cs
unfolding own_weight
own_more (NumLit z) cs h = absurd (omega (arith, h))
own_more (Param x) cs h = absurd (omega (arith, h))
own_more (Try None) cs h = omega arith
own_more (Try (Some o)) cs h = omega arith
own_more tree.Empty cs h = omega (arith, h)
own_more (tree.FnDecl x0) cs h = omega (arith, h)
own_more l cs h = omega (arith, h)

no_own_vars : (l : Label) → 1 ≤ stmt_form l → own_vars l ≡ []
no_own_vars (Declarator k x) h = absurd (omega (arith, h))
no_own_vars l h = refl

formed_more : (t : Tree) → 1 ≤ stmt_form (label_of t) → 4 * length (vars t) + 1 ≤ weight t
formed_more (node l ss cs) h = omega (arith, own_more l cs h, ap length (no_own_vars l h), inner_vars (holds_statements l) (vars_all cs) (weight_all cs) (all_vars_weight cs), length-append (own_vars l) (if holds_statements l then vars_all cs else []))

numbered : (o : StmtForm) → 1 ≤ stmt_number o
numbered (Open.Empty n) = omega arith
numbered _ = omega arith

statement_more : (s : Stmt) → 4 * length (vars (stmt_tree s)) + 1 ≤ weight (stmt_tree s)
statement_more s = formed_more (stmt_tree s) (subst (λ x. 1 ≤ stmt_form (label_of (stmt_tree x))) (roll-out-Stmt s) (subst (λ n. 1 ≤ n) (sym (stmt_at (out-Stmt s))) (numbered (out-Stmt s))))

-- what a declaration weighs

abbrev names_weight : List Name → ℕ
names_weight [] = 1
names_weight (x ∷ xs) = 7 + 4 * length xs

at_most : (xs : List Name) → names_weight xs ≤ 3 + 4 * length xs
at_most [] = omega arith
at_most (x ∷ xs) = omega arith

unset_weight : {xs : List Name} {ds : Forest} → Unset xs ds → weight_all ds ≡ 4 * length xs
unfolding own_weight
unset_weight no_more = refl
unset_weight (one_more x ss h) = omega (arith, unset_weight h)

declared_weight : {xs : List Name} {vs : Forest} (rs : List Span) → Declares xs vs → weight (as_statement rs vs) ≡ names_weight xs
unfolding own_weight
declared_weight rs none_declared = refl
declared_weight rs (some_declared ss h) = omega (arith, unset_weight h)

once_fewer : (seen xs : List Name) → length (each_once seen xs) ≤ length xs
once_fewer seen [] = omega arith
once_fewer seen (x ∷ xs) = by_seen (has_name x seen) (once_fewer seen xs) (once_fewer (x ∷ seen) xs)
  where
    by_seen : (b : Bool) → length (each_once seen xs) ≤ length xs → length (each_once (x ∷ seen) xs) ≤ length xs → length (if b then each_once seen xs else x ∷ each_once (x ∷ seen) xs) ≤ suc (length xs)
    by_seen true h i = omega arith
    by_seen false h i = omega arith

once_weight : (xs : List Name) → names_weight (each_once [] xs) ≤ names_weight xs
once_weight [] = omega arith
once_weight (x ∷ xs) = omega (arith, once_fewer (x ∷ []) xs)

heavy : (b : Tree) → names_weight (vars b) < weight b → Outweighs b
heavy b h = record { more = λ rs vs d. omega (arith, h, declared_weight rs d, once_weight (vars b ++ []), ap names_weight (append-nil (vars b))) }

-- blocks, loops and the like

block_weight : (xs : List Stmt) → names_weight (vars_all (list_trees stmt_tree xs)) < 3 + weight_all (list_trees stmt_tree xs)
block_weight [] = omega arith
block_weight (s ∷ xs) = omega (arith, statement_more s, all_vars_weight (list_trees stmt_tree xs), at_most (vars (stmt_tree s) ++ vars_all (list_trees stmt_tree xs)), length-append (vars (stmt_tree s)) (vars_all (list_trees stmt_tree xs)))

block_heavy : (ss : List Span) (xs : List Stmt) → Outweighs (node Block ss (list_trees stmt_tree xs))
unfolding own_weight
block_heavy ss xs = heavy _ (omega (arith, block_weight xs))

try_weight : (o : Option (Option Name)) (cs : Forest) → 8 ≤ own_weight (Try o) cs
unfolding own_weight
try_weight None cs = omega arith
try_weight (Some p) cs = omega arith

other_heavy : (t : Tree) → (stmt_form (label_of t) ≡ 1 → ⊥) → is_heavy t ≡ true → Outweighs t
unfolding own_weight
other_heavy (node Block ss cs) n h = absurd (n refl)
other_heavy (node ExprStmt ss cs) n h = heavy _ (omega arith)
other_heavy (node If ss cs) n h = heavy _ (omega (arith, at_most (vars_all cs), all_vars_weight cs))
other_heavy (node While ss cs) n h = heavy _ (omega (arith, at_most (vars_all cs), all_vars_weight cs))
other_heavy (node DoWhile ss cs) n h = heavy _ (omega (arith, at_most (vars_all cs), all_vars_weight cs))
other_heavy (node For ss cs) n h = heavy _ (omega (arith, at_most (vars_all cs), all_vars_weight cs))
other_heavy (node (Switch ds) ss cs) n h = heavy _ (omega (arith, at_most (vars_all cs), all_vars_weight cs))
other_heavy (node (Try o) ss cs) n h = heavy _ (omega (arith, try_weight o cs, at_most (vars_all cs), all_vars_weight cs))
other_heavy (node _ ss cs) n h = impossible h

outweighs : (s : Stmt) → is_heavy (stmt_tree s) ≡ true → Outweighs (stmt_tree s)
outweighs s h = by (out-Stmt s) (roll-out-Stmt s)
  where
    by : (o : StmtForm) → roll-Stmt o ≡ s → Outweighs (stmt_tree s)
    by (Open.Block n) r = subst Outweighs (sym (ap stmt_tree (sym r ∙ in_stmt.rolls-Block n) ∙ stmt_tree-Block n)) (block_heavy (n.span ∷ []) n.stmts.items)
    by o r = other_heavy (stmt_tree s) (λ e. omega (arith, e, ap (λ x. stmt_form (label_of (stmt_tree x))) (sym r) ∙ stmt_at o)) h

pub statement_outweighs : (s : Stmt) (b : Bool) → b ≡ is_heavy (stmt_tree s) → b ≡ true → Outweighs (stmt_tree s)
statement_outweighs s b e h = outweighs s (sym e ∙ h)

-- `throw`, `return` and labels

throw_heavy : (ss : List Span) (t : Tree) → 0 < weight t → Outweighs (node tree.Throw ss (t ⊳ ε))
unfolding own_weight
throw_heavy ss t h = heavy _ (omega (arith, h))

pub throw_outweighs : (s : Stmt) (n : ThrowStmt Expr) → s ≡ in_stmt.Throw n → 0 < weight (expr_tree n.arg.value) → Outweighs (stmt_tree s)
throw_outweighs s n is h = subst Outweighs (sym (ap stmt_tree is ∙ stmt_tree-Throw n)) (throw_heavy (n.span ∷ []) (expr_tree n.arg.value) h)

return_heavy : (ss : List Span) (ts : Forest) → 0 < weight_all ts → Outweighs (node tree.Return ss ts)
unfolding own_weight
return_heavy ss ts h = heavy _ (omega (arith, h))

pub return_outweighs : (s : Stmt) (n : ReturnStmt Expr) → s ≡ in_stmt.Return n → 0 < weight_all (optional_trees expr_tree n.arg) → Outweighs (stmt_tree s)
return_outweighs s n is h = subst Outweighs (sym (ap stmt_tree is ∙ stmt_tree-Return n)) (return_heavy (n.span ∷ []) (optional_trees expr_tree n.arg) h)

-- a statement with `var` names in it weighs 2 by itself
room_by_label : (t : Tree) → 1 ≤ stmt_form (label_of t) → names_weight (vars t) ≤ weight t + 1
unfolding own_weight
room_by_label (node Block ss cs) h = omega (arith, at_most (vars_all cs), all_vars_weight cs)
room_by_label (node If ss cs) h = omega (arith, at_most (vars_all cs), all_vars_weight cs)
room_by_label (node While ss cs) h = omega (arith, at_most (vars_all cs), all_vars_weight cs)
room_by_label (node DoWhile ss cs) h = omega (arith, at_most (vars_all cs), all_vars_weight cs)
room_by_label (node For ss cs) h = omega (arith, at_most (vars_all cs), all_vars_weight cs)
room_by_label (node (Switch ds) ss cs) h = omega (arith, at_most (vars_all cs), all_vars_weight cs)
room_by_label (node (Try o) ss cs) h = omega (arith, try_weight o cs, at_most (vars_all cs), all_vars_weight cs)
room_by_label (node (tree.Labeled l) ss cs) h = omega (arith, at_most (vars_all cs), all_vars_weight cs)
room_by_label (node (tree.VarDecl k) ss cs) h = omega (arith, at_most (vars_all cs), all_vars_weight cs)
room_by_label (node ExprStmt ss cs) h = omega arith
room_by_label (node tree.Empty ss cs) h = omega arith
room_by_label (node tree.Throw ss cs) h = omega arith
room_by_label (node tree.Return ss cs) h = omega arith
room_by_label (node (tree.Break l) ss cs) h = omega arith
room_by_label (node (tree.Continue l) ss cs) h = omega arith
room_by_label (node (tree.FnDecl x) ss cs) h = omega arith
room_by_label (node _ ss cs) h = absurd (omega (arith, h))

room : (s : Stmt) → names_weight (vars (stmt_tree s)) ≤ weight (stmt_tree s) + 1
room s = room_by_label (stmt_tree s) (subst (λ x. 1 ≤ stmt_form (label_of (stmt_tree x))) (roll-out-Stmt s) (subst (λ n. 1 ≤ n) (sym (stmt_at (out-Stmt s))) (numbered (out-Stmt s))))

label_heavy : (l : Text) (ss : List Span) (s : Stmt) → Outweighs (node (tree.Labeled l) ss (stmt_tree s ⊳ ε))
unfolding own_weight
label_heavy l ss s = heavy _ (omega (arith, room s, ap names_weight (append-nil (vars (stmt_tree s)))))

pub label_outweighs : (s : Stmt) (n : LabeledStmt Stmt) → s ≡ in_stmt.Labeled n → Outweighs (stmt_tree s)
label_outweighs s n is = subst Outweighs (sym (ap stmt_tree is ∙ stmt_tree-Labeled n)) (label_heavy (word_text n.label) _ n.body.value)
