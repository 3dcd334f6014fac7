-- Cases in front weigh more than a declaration of their `var` names.
use Rattle.std.proofs.Common.{◌≡◌, ℕ, zero, suc, pos, negsuc, ◌+◌, ◌*◌, ◌≤◌, ◌<◌, Bool, true, false, not, if◌then◌else◌, List, [], ◌∷◌, ◌++◌, length, take, Option, Some, None, refl, sym, ap, subst, ◌∙◌, arith, length-append}
use Rattle.std.proofs.lemmas.Bool.{and_parts, false≢true}
use Rattle.std.proofs.lemmas.List.{append_assoc}
use Rattle.swc_ast.specs.declared.Span.{Span}
use Rattle.swc_ast.specs.declared.VarDeclKind.TheVariants.{Var}
use Rattle.swc_ast.specs.declared.statements.LabeledStmt.{LabeledStmt}
use Rattle.swc_ast.specs.declared.statements.Stmt.{Stmt}
use Rattle.swc_ast.specs.declared.statements.Stmt.TheVariants as in_stmt
use Rattle.swc_ast.specs.declared.statements.SwitchCase.{SwitchCase}
use Rattle.swc_ast.specs.declared.declarations.Decl.TheOpen as Open
use Rattle.swc_ast.specs.declared.declarations.Decl.TheViews.{roll-Stmt, out-Stmt, roll-out-Stmt}
use Rattle.swc_ast.specs.Parts.{list_trees}
use Rattle.swc_ast.specs.Statements.{labeled_tree}
use Rattle.swc_ast.specs.Scope.{joined, vars, vars_all, own_vars, holds_statements, has_name}
use Rattle.swc_ast.specs.Tree.{Name, Label, Block, If, While, DoWhile, For, Labeled, Switch, Try, VarDecl, NumLit, Invalid, PlainKey, ComputedKey, Params, Param, Absent, Module, Script, Declarator, Tree, node, Forest, ε, ◌⊳◌, label_of, Empty, FnDecl}
use Rattle.swc_ast.specs.Value.{Value}
use Rattle.swc_ast.specs.Views.{stmt_tree}
use Rattle.swc_ast.specs.Weight.{own_weight, weight, weight_all}
use Rattle.swc_ast.proofs.ApartStatements.{StmtForm, stmt_form, stmt_number, stmt_at}
use Rattle.swc_ast.proofs.Equations.{stmt_tree-Labeled}
use Rattle.pass_rules.specs.Values.{value_of}
use Rattle.branch_rules.specs.Statements.{as_statement}
use Rattle.branch_rules.specs.Switches.{Clause, switch_tree, trees_of, bodies_of, no_default, Passed, unequal, over_default}
use Rattle.branch_rules.specs.Vars.{each_once, Unset, no_more, one_more, Declares, none_declared, some_declared}
use Rattle.branch_switch.specs.Clauses.{clause, clauses}

-- each `var` name weighs 4

own_vars_weight : (l : Label) (cs : Forest) → 4 * length (own_vars l) ≤ own_weight l cs
unfolding own_weight
own_vars_weight (Declarator Var x) cs = omega arith
own_vars_weight l cs = omega arith

inner_vars : (b : Bool) (xs : List Name) (n : ℕ) → 4 * length xs ≤ n → 4 * length (if b then xs else []) ≤ n
inner_vars true xs n h = h
inner_vars false xs n h = omega arith

mutual
  vars_weight : (t : Tree) → 4 * length (vars t) ≤ weight t
  vars_weight (node l ss cs) = omega (arith, own_vars_weight l cs, inner_vars (holds_statements l) (vars_all cs) (weight_all cs) (all_vars_weight cs), length-append (own_vars l) (if holds_statements l then vars_all cs else []))

  all_vars_weight : (ts : Forest) → 4 * length (vars_all ts) ≤ weight_all ts
  all_vars_weight ε = omega arith
  all_vars_weight (t ⊳ ts) = omega (arith, vars_weight t, all_vars_weight ts, length-append (vars t) (vars_all ts))

-- and a statement weighs more than its `var` names

own_more : (l : Label) (cs : Forest) → 1 ≤ stmt_form l → 1 ≤ own_weight l cs
unfolding own_weight
own_more (NumLit z) cs h = absurd (omega (arith, h))
own_more (Param x) cs h = absurd (omega (arith, h))
own_more (Try None) cs h = omega arith
own_more (Try (Some o)) cs h = omega arith
own_more Empty cs h = omega (arith, h)
own_more (FnDecl x0) cs h = omega (arith, h)
own_more l cs h = omega (arith, h)

no_own_vars : (l : Label) → 1 ≤ stmt_form l → own_vars l ≡ []
no_own_vars (Declarator k x) h = absurd (omega (arith, h))
no_own_vars l h = refl

formed_more : (t : Tree) → 1 ≤ stmt_form (label_of t) → 4 * length (vars t) + 1 ≤ weight t
formed_more (node l ss cs) h = omega (arith, own_more l cs h, ap length (no_own_vars l h), inner_vars (holds_statements l) (vars_all cs) (weight_all cs) (all_vars_weight cs), length-append (own_vars l) (if holds_statements l then vars_all cs else []))

numbered : (o : StmtForm) → 1 ≤ stmt_number o
numbered (Open.Empty n) = omega arith
numbered _ = omega arith

is_formed : (s : Stmt) → 1 ≤ stmt_form (label_of (stmt_tree s))
is_formed s = subst (λ x. 1 ≤ stmt_form (label_of (stmt_tree x))) (roll-out-Stmt s) (subst (λ n. 1 ≤ n) (sym (stmt_at (out-Stmt s))) (numbered (out-Stmt s)))

-- a statement with some `var` names weighs 3 more than they

abbrev room : List Name → ℕ
room [] = 0
room (x ∷ xs) = 7 + 4 * length xs

at_most : (xs : List Name) → room xs ≤ 3 + 4 * length xs
at_most [] = omega arith
at_most (x ∷ xs) = omega arith

room_both : (xs ys : List Name) → room (xs ++ ys) ≤ room xs + room ys
room_both [] ys = omega arith
room_both (x ∷ xs) [] = omega (arith, length-append xs [])
room_both (x ∷ xs) (y ∷ ys) = omega (arith, length-append xs (y ∷ ys))

try_weight : (o : Option (Option Name)) (cs : Forest) → 8 ≤ own_weight (Try o) cs
unfolding own_weight
try_weight None cs = omega arith
try_weight (Some p) cs = omega arith

other_room : (t : Tree) → 1 ≤ stmt_form (label_of t) → (stmt_form (label_of t) ≡ 4 → ⊥) → room (vars t) ≤ weight t
unfolding own_weight
other_room (node (Labeled l) ss cs) h n = absurd (n refl)
other_room (node (Declarator k x) ss cs) h n = absurd (omega (arith, h))
other_room (node Block ss cs) h n = omega (arith, at_most (vars_all cs), all_vars_weight cs)
other_room (node If ss cs) h n = omega (arith, at_most (vars_all cs), all_vars_weight cs)
other_room (node While ss cs) h n = omega (arith, at_most (vars_all cs), all_vars_weight cs)
other_room (node DoWhile ss cs) h n = omega (arith, at_most (vars_all cs), all_vars_weight cs)
other_room (node For ss cs) h n = omega (arith, at_most (vars_all cs), all_vars_weight cs)
other_room (node (Switch ds) ss cs) h n = omega (arith, at_most (vars_all cs), all_vars_weight cs)
other_room (node (Try o) ss cs) h n = omega (arith, try_weight o cs, at_most (vars_all cs), all_vars_weight cs)
other_room (node (VarDecl k) ss cs) h n = omega (arith, at_most (vars_all cs), all_vars_weight cs)
other_room (node _ ss cs) h n = omega (arith, h)

labeled_room : (n : LabeledStmt Stmt) → room (vars (labeled_tree stmt_tree n)) ≤ weight (labeled_tree stmt_tree n)
unfolding own_weight
labeled_room n =
    let t = stmt_tree n.body.value in
    omega (arith, at_most (vars t ++ []), formed_more t (is_formed n.body.value), length-append (vars t) [])

statement_room : (s : Stmt) → room (vars (stmt_tree s)) ≤ weight (stmt_tree s)
statement_room s = by (out-Stmt s) (roll-out-Stmt s)
  where
    by : (o : StmtForm) → roll-Stmt o ≡ s → room (vars (stmt_tree s)) ≤ weight (stmt_tree s)
    by (Open.Labeled n) r = subst (λ t. room (vars t) ≤ weight t) (sym (ap stmt_tree (sym r ∙ in_stmt.rolls-Labeled n) ∙ stmt_tree-Labeled n)) (labeled_room n)
    by o r = other_room (stmt_tree s) (is_formed s) (λ e. omega (arith, e, ap (λ x. stmt_form (label_of (stmt_tree x))) (sym r) ∙ stmt_at o))

list_room : (xs : List Stmt) → room (vars_all (list_trees stmt_tree xs)) ≤ weight_all (list_trees stmt_tree xs)
list_room [] = omega arith
list_room (s ∷ xs) = omega (arith, statement_room s, list_room xs, room_both (vars (stmt_tree s)) (vars_all (list_trees stmt_tree xs)))

-- the same of cases, whose tests weigh something

vars_joined : (ts us : Forest) → vars_all (joined ts us) ≡ vars_all ts ++ vars_all us
vars_joined ε us = refl
vars_joined (t ⊳ ts) us = ap (λ xs. vars t ++ xs) (vars_joined ts us) ∙ sym (append_assoc (vars t) (vars_all ts) (vars_all us))

abbrev is_known : Option Value → Bool
is_known None = false
is_known (Some v) = true

value_weighs : (mark : ℕ) (t : Tree) (w : Value) → value_of mark t ≡ Some w → 1 ≤ weight t
unfolding own_weight
value_weighs mark (node (NumLit (pos zero)) ss cs) w e = omega arith
value_weighs mark (node (NumLit (pos (suc n))) ss cs) w e = omega arith
value_weighs mark (node (NumLit (negsuc n)) ss cs) w e = omega arith
value_weighs mark (node Invalid ss cs) w e = absurd (false≢true (ap is_known e))
value_weighs mark (node (PlainKey k) ss cs) w e = absurd (false≢true (ap is_known e))
value_weighs mark (node ComputedKey ss cs) w e = absurd (false≢true (ap is_known e))
value_weighs mark (node Params ss cs) w e = absurd (false≢true (ap is_known e))
value_weighs mark (node (Param x) ss cs) w e = absurd (false≢true (ap is_known e))
value_weighs mark (node Absent ss cs) w e = absurd (false≢true (ap is_known e))
value_weighs mark (node Module ss cs) w e = absurd (false≢true (ap is_known e))
value_weighs mark (node Script ss cs) w e = absurd (false≢true (ap is_known e))
value_weighs mark (node (Try None) ss cs) w e = omega arith
value_weighs mark (node (Try (Some o)) ss cs) w e = omega arith
value_weighs mark (node Empty ss cs) w e = omega arith
value_weighs mark (node (FnDecl x0) ss cs) w e = omega arith
value_weighs mark (node l ss cs) w e = omega arith

first_passed : (mark : ℕ) (v : Value) {k : Clause} {ks : List Clause} → k.is_default ≡ false → Passed mark v (k ∷ ks) → (1 ≤ weight k.test) × Passed mark v ks
first_passed mark v d (unequal k w e f g h p) = (value_weighs mark k.test w g.known, p)
first_passed mark v d (over_default k e p) = absurd (false≢true (sym d ∙ e))

opposite : (b : Bool) → not b ≡ true → b ≡ false
opposite false e = refl
opposite true e = absurd (false≢true e)

front_room : (mark : ℕ) (v : Value) (cs : List SwitchCase) → Passed mark v (clauses cs) → no_default (clauses cs) ≡ true → room (vars_all (bodies_of (clauses cs))) + 4 * length cs ≤ weight_all (trees_of (clauses cs))
unfolding own_weight
front_room mark v [] h n = omega arith
front_room mark v (c ∷ cs) h n =
    let p = and_parts (not (clause c).is_default) (no_default (clauses cs)) n in
    let r = first_passed mark v (opposite (clause c).is_default p.0) h in
    omega (arith, r.0, front_room mark v cs r.1 p.1, list_room c.cons.items, room_both (vars_all (clause c).body) (vars_all (bodies_of (clauses cs))), ap room (vars_joined (clause c).body (bodies_of (clauses cs))))

-- what is left weighs less

unset_weight : {xs : List Name} {ds : Forest} → Unset xs ds → weight_all ds ≡ 4 * length xs
unfolding own_weight
unset_weight no_more = refl
unset_weight (one_more x ss h) = omega (arith, unset_weight h)

once_fewer : (seen xs : List Name) → length (each_once seen xs) ≤ length xs
once_fewer seen [] = omega arith
once_fewer seen (x ∷ xs) = by_seen (has_name x seen) (once_fewer seen xs) (once_fewer (x ∷ seen) xs)
  where
    by_seen : (b : Bool) → length (each_once seen xs) ≤ length xs → length (each_once (x ∷ seen) xs) ≤ length xs → length (if b then each_once seen xs else x ∷ each_once (x ∷ seen) xs) ≤ suc (length xs)
    by_seen true h i = omega arith
    by_seen false h i = omega arith

once_room : (xs : List Name) → room (each_once [] xs) ≤ room xs
once_room [] = omega arith
once_room (x ∷ xs) = omega (arith, once_fewer (x ∷ []) xs)

left_weight : {xs : List Name} {vs : Forest} (rs us : List Span) (d : Tree) (ks : List Clause) → Declares xs vs → weight (as_statement rs (joined vs (switch_tree us d ks ⊳ ε))) ≤ 3 + room xs + weight (switch_tree us d ks)
unfolding own_weight
left_weight rs us d ks none_declared = omega arith
left_weight rs us d ks (some_declared ss h) = omega (arith, unset_weight h)

trees_weight : (fs ks : List Clause) → weight_all (trees_of (fs ++ ks)) ≡ weight_all (trees_of fs) + weight_all (trees_of ks)
trees_weight [] ks = omega arith
trees_weight (f ∷ fs) ks = omega (arith, trees_weight fs ks)

some_taken : (i : ℕ) (cs : List SwitchCase) → 1 ≤ i → i ≤ length cs → 1 ≤ length (take i cs)
some_taken i [] h w = absurd (omega (arith, h, w))
some_taken zero (c ∷ cs) h w = absurd (omega (arith, h))
some_taken (suc i) (c ∷ cs) h w = omega arith

pub rest_lighter : (mark : ℕ) (v : Value) (ss us rs : List Span) (d : Tree) (cs : List SwitchCase) (i : ℕ) (ks : List Clause) {vs : Forest} → 1 ≤ i → i ≤ length cs → Passed mark v (clauses (take i cs)) → no_default (clauses (take i cs)) ≡ true → Declares (each_once [] (vars_all (bodies_of (clauses (take i cs))))) vs → weight (as_statement rs (joined vs (switch_tree us d ks ⊳ ε))) < weight (switch_tree ss d (clauses (take i cs) ++ ks))
unfolding own_weight
rest_lighter mark v ss us rs d cs i ks some within h n vars =
    omega (arith, left_weight rs us d ks vars, once_room (vars_all (bodies_of (clauses (take i cs)))), front_room mark v (take i cs) h n, trees_weight (clauses (take i cs)) ks, some_taken i cs some within)
