-- Cases that lose `let` and `const` where no run comes to them, by what the code makes of them.
use Rattle.std.proofs.Common.{◌≡◌, ℕ, ◌+◌, ◌≤◌, ◌<◌, Bool, true, false, not, ◌==◌, ◌||◌, if◌then◌else◌, max, List, [], ◌∷◌, ◌++◌, cond, filter, length, take, drop, get_or, refl, sym, ap, ap₂, subst, ◌∙◌, arith}
use Rattle.std.proofs.lemmas.Bool.{or_left, or_right, false≢true}
use Rattle.std.proofs.lemmas.List.{map-append, take_more, take-append-drop, drop_all}
use Rattle.std.specs.declared.alloc.Global.{Global}
use Rattle.std.specs.declared.vec.Vec.{Vec}
use denote.Param.Weighed.{most}
use Rattle.swc_ast.specs.declared.Span.{Span}
use Rattle.swc_ast.specs.declared.statements.Stmt.{Stmt}
use Rattle.swc_ast.specs.declared.VarDeclKind.{VarDeclKind}
use Rattle.swc_ast.specs.declared.VarDeclKind.TheVariants.{Var, Let, Const}
use Rattle.swc_ast.specs.declared.declarations.VarDecl.{VarDecl as Declared}
use Rattle.swc_ast.specs.declared.expressions.Expr.{Expr}
use Rattle.swc_ast.specs.declared.statements.SwitchCase.{SwitchCase, roll-SwitchCase, size-SwitchCase, size_is-SwitchCase}
use Rattle.swc_ast.specs.declared.declarations.Decl.TheViews.{out-SwitchStmt, roll-SwitchStmt, out-roll-SwitchStmt}
use Rattle.swc_ast.specs.declared.statements.SwitchStmt.{SwitchStmt, size-SwitchStmt, size_is-SwitchStmt}
use Rattle.swc_ast.specs.Parts.{list_trees, tree_or_absent}
use Rattle.swc_ast.specs.Scope.{joined}
use Rattle.swc_ast.specs.Statements.{declarator_tree, is_missing, var_tree}
use Rattle.swc_ast.specs.Tree.{VarDecl, Tree, node, Forest, ε, ◌⊳◌}
use Rattle.swc_ast.specs.Value.{Value}
use Rattle.swc_ast.specs.Views as view
use Rattle.swc_ast.specs.Views.{expr_tree, stmt_tree}
use Rattle.swc_ast.specs.Weight.{is_stopper}
use Rattle.tree_walk.specs.Walks.{Opened, Each, none, more}
use Rattle.static_proofs.specs.Shaped.{is_lexical}
use Rattle.branch_lists.proofs.Lists.{statements_alone}
use Rattle.branch_lists.proofs.Shapes.{bare_by_count}
use Rattle.branch_rules.specs.Lists.{is_bare}
use Rattle.branch_rules.specs.Removes.{remove_pass}
use Rattle.branch_rules.specs.Switches.{Clause, bodies_of, switch_tree, FixedValue, Selects, functions_of, is_shed, unlet, has_shed, has_stopper, unlet_case, Sheds, no_case, case_stays, case_sheds, Ends, all_run, some_run, leading_shed, selected_shed}
use Rattle.branch_switch.specs.Clauses.{clause, clauses}
use Rattle.branch_switch.specs.Shed.{CaseSheds, as_it_was, without_lets, LeadingSheds, leading, AroundSheds, around, PassedFront, Unreached, in_front, on_both_sides}
use Rattle.branch_switch.proofs.Forms.{by_clauses, clauses_parted}

-- a list without its `let` and `const`

pub unlet_filter : (xs : List Stmt) → list_trees stmt_tree (filter (λ s. not (is_shed (stmt_tree s))) xs) ≡ unlet (list_trees stmt_tree xs)
unlet_filter [] = refl
unlet_filter (x ∷ xs) = by (is_shed (stmt_tree x)) (unlet_filter xs)
  where
    by : (b : Bool) → list_trees stmt_tree (filter (λ s. not (is_shed (stmt_tree s))) xs) ≡ unlet (list_trees stmt_tree xs) → list_trees stmt_tree (cond (not b) (x ∷ filter (λ s. not (is_shed (stmt_tree s))) xs) (filter (λ s. not (is_shed (stmt_tree s))) xs)) ≡ (if b then unlet (list_trees stmt_tree xs) else stmt_tree x ⊳ unlet (list_trees stmt_tree xs))
    by true h = h
    by false h = ap (λ ts. stmt_tree x ⊳ ts) h

-- a declaration of variables, by the number of its declarators

shed_bare : (k : VarDeclKind) (ss : List Span) (ds : Forest) → is_lexical k ≡ true → not (is_bare (node (VarDecl k) ss ds)) ≡ is_shed (node (VarDecl k) ss ds)
shed_bare Var ss ds h = absurd (false≢true h)
shed_bare Let ss ε h = refl
shed_bare Let ss (d ⊳ ds) h = refl
shed_bare Const ss ε h = refl
shed_bare Const ss (d ⊳ ds) h = refl

pub shed_by_count : (n : Declared Expr) (m : ℕ) → is_lexical n.kind ≡ true → m ≡ length n.decls.items → not (m == 0) ≡ is_shed (var_tree expr_tree n)
shed_by_count n m h l = ap not (bare_by_count n m h l) ∙ shed_bare n.kind (n.span ∷ []) (list_trees (declarator_tree expr_tree n.kind) n.decls.items) h

shed_var : (k : VarDeclKind) (ss : List Span) (ds : Forest) → is_lexical k ≡ false → false ≡ is_shed (node (VarDecl k) ss ds)
shed_var k ss ε h = refl
shed_var k ss (d ⊳ ds) h = sym h

pub shed_by_kind : (n : Declared Expr) → is_lexical n.kind ≡ false → false ≡ is_shed (var_tree expr_tree n)
shed_by_kind n h = shed_var n.kind (n.span ∷ []) (list_trees (declarator_tree expr_tree n.kind) n.decls.items) h

-- a case

most_filtered : {X : Type 0} (μ : X → ℕ) (p : X → Bool) (xs : List X) → most μ (filter p xs) ≤ most μ xs
most_filtered μ p [] = omega arith
most_filtered μ p (x ∷ xs) = by (p x) (most_filtered μ p xs)
  where
    by : (b : Bool) → most μ (filter p xs) ≤ most μ xs → most μ (cond b (x ∷ filter p xs) (filter p xs)) ≤ most μ (x ∷ xs)
    by true h = omega (arith, h)
    by false h = omega (arith, h)

shallower : {X : Type 0} (μ : X → ℕ) (t : ℕ) (p : X → Bool) (a b : ℕ) (xs ys : List X) → ys ≡ filter p xs → a ≡ max 0 (max t (max (most μ xs) 0)) + 1 → b ≡ max 0 (max t (max (most μ ys) 0)) + 1 → b ≤ a
shallower μ t p a b xs ys e is at = omega (arith, is, at, ap (most μ) e, most_filtered μ p xs)

-- one of whose statements some stay is no deeper
pub case_shallower : (p : Stmt → Bool) (c : SwitchCase) (v : Vec Stmt Global) → v.items ≡ filter p c.cons.items → size-SwitchCase (roll-SwitchCase (record { span = c.span; test = c.test; cons = v })) ≤ size-SwitchCase c
case_shallower p c v e = shallower _ _ p (size-SwitchCase c) (size-SwitchCase (roll-SwitchCase (record { span = c.span; test = c.test; cons = v }))) c.cons.items v.items e (size_is-SwitchCase c) (size_is-SwitchCase (roll-SwitchCase (record { span = c.span; test = c.test; cons = v })))

pub without : (c : SwitchCase) (v : Vec Stmt Global) → v.items ≡ filter (λ s. not (is_shed (stmt_tree s))) c.cons.items → clause (roll-SwitchCase (record { span = c.span; test = c.test; cons = v })) ≡ unlet_case (clause c)
without c v e = ap (λ ts. record { is_default = is_missing c.test; test = tree_or_absent expr_tree c.test; spans = c.span ∷ []; body = ts }) (ap (list_trees stmt_tree) e ∙ unlet_filter c.cons.items)

pub case_shed : (c : SwitchCase) (k : Clause) → functions_of (clause c).body ≡ ε → has_shed (clause c).body ≡ true → k ≡ unlet_case (clause c) → CaseSheds true (clause c) k
case_shed c k f h e = subst (CaseSheds true (clause c)) (sym e) (without_lets (clause c) f (statements_alone c.cons.items) h)

sheds_more : {b c : Bool} {k l : Clause} {ks ls : List Clause} → CaseSheds b k l → Sheds c ks ls → Sheds (b || c) (k ∷ ks) (l ∷ ls)
sheds_more (as_it_was k) s = case_stays k s
sheds_more (without_lets k f a h) s = case_sheds k f a h s

-- what is done of each case
abbrev pub ShedEach : SwitchCase → SwitchCase → Bool → Type 0
ShedEach x y b = CaseSheds b (clause x) (clause y) × (size-SwitchCase y ≤ size-SwitchCase x)

pub each_sheds : {xs ys : List SwitchCase} {b : Bool} → Each ShedEach xs ys b → Sheds b (clauses xs) (clauses ys)
each_sheds none = no_case
each_sheds (more p h) = sheds_more p.0 (each_sheds h)

pub each_no_deeper : {xs ys : List SwitchCase} {b : Bool} → Each ShedEach xs ys b → most size-SwitchCase ys ≤ most size-SwitchCase xs
each_no_deeper none = omega arith
each_no_deeper (more p h) = omega (arith, p.1, each_no_deeper h)

-- lists in two parts

pub most_joined : {X : Type 0} (μ : X → ℕ) (xs ys : List X) → most μ (xs ++ ys) ≡ max (most μ xs) (most μ ys)
most_joined μ [] ys = omega arith
most_joined μ (x ∷ xs) ys = omega (arith, most_joined μ xs ys)

sheds_same : {fs gs : List Clause} {b : Bool} → b ≡ false → Sheds b fs gs → gs ≡ fs
sheds_same e no_case = refl
sheds_same e (case_stays k s) = ap (λ ks. k ∷ ks) (sheds_same e s)
sheds_same e (case_sheds k f a h s) = absurd (false≢true (sym e))

-- what a value is known to pass, and what it selects

pub front_unreached : (mark : ℕ) (v : Value) (cs : List SwitchCase) (n : ℕ) (b : Bool) {ls : List Clause} → PassedFront mark v cs n → LeadingSheds b (clauses (take n cs)) (clauses (drop n cs)) ls → Unreached mark v b (clauses cs) ls
front_unreached mark v cs n b {ls} p h = subst (λ ks. Unreached mark v b ks ls) (clauses_parted n cs) (in_front (clauses (take n cs)) (clauses (drop n cs)) p.front_passed p.front_named h)

pub around_unreached : (mark : ℕ) (v : Value) (cs : List SwitchCase) (i : ℕ) (b : Bool) {ls : List Clause} → Selects mark v (clauses (take i cs)) (clauses (drop i cs)) → AroundSheds b (clauses (take i cs)) (clauses (drop i cs)) ls → Unreached mark v b (clauses cs) ls
around_unreached mark v cs i b {ls} p h = subst (λ ks. Unreached mark v b ks ls) (clauses_parted i cs) (on_both_sides (clauses (take i cs)) (clauses (drop i cs)) p h)

-- the `switch`

either_false : (b c : Bool) → (b || c) ≡ false → (b ≡ false) × (c ≡ false)
either_false true c e = absurd (false≢true (sym e))
either_false false c e = (refl, e)

pub shed_opens : (mark : ℕ) (ss : List Span) (d : Tree) (v : Value) (b : Bool) {ks ls : List Clause} → FixedValue mark d v → Unreached mark v b ks ls → Opened (remove_pass mark) b (switch_tree ss d ks) (switch_tree ss d ls)
shed_opens mark ss d v true f (in_front fs ks p i (leading gs s)) = leading_shed ss d v fs gs ks f p i s
shed_opens mark ss d v false f (in_front fs ks p i (leading gs s)) = ap (λ z. switch_tree ss d (z ++ ks)) (sheds_same refl s)
shed_opens mark ss d v true f (on_both_sides fs ks p (around gs ms hs is e o s r c)) = subst (λ z. (remove_pass mark).opens (switch_tree ss d (fs ++ z)) (switch_tree ss d (gs ++ (ms ++ is)))) (sym e) (selected_shed ss d v fs gs ms hs is f (subst (λ z. Selects mark v fs z) e p) o s r c)
shed_opens mark ss d v false f (on_both_sides fs ks p (around gs ms hs is {b = a} {c = b} e o s r c)) =
    let q = either_false a b c in
    ap₂ (λ x y. switch_tree ss d (x ++ (ms ++ y))) (sheds_same q.0 s) (sheds_same q.1 r) ∙ ap (λ z. switch_tree ss d (fs ++ z)) (sym e)

-- the cases that are run

stopper_joined : (ts us : Forest) → has_stopper (joined ts us) ≡ (has_stopper ts || has_stopper us)
stopper_joined ε us = refl
stopper_joined (t ⊳ ts) us = ap (λ b. is_stopper t || b) (stopper_joined ts us) ∙ or_assoc (is_stopper t) (has_stopper ts) (has_stopper us)
  where
    or_assoc : (a b c : Bool) → (a || (b || c)) ≡ ((a || b) || c)
    or_assoc true b c = refl
    or_assoc false b c = refl

stopper_behind : (fs : List Clause) (k : Clause) → has_stopper k.body ≡ true → has_stopper (bodies_of (fs ++ k ∷ [])) ≡ true
stopper_behind [] k h = stopper_joined k.body ε ∙ or_left (has_stopper k.body) false h
stopper_behind (f ∷ fs) k h = stopper_joined f.body (bodies_of (fs ++ k ∷ [])) ∙ or_right (has_stopper f.body) (has_stopper (bodies_of (fs ++ k ∷ []))) (stopper_behind fs k h)

pub ends_at : (cs : List SwitchCase) (i : ℕ) (c : SwitchCase) → i < length cs → c ≡ get_or cs i c → has_stopper (clause c).body ≡ true → Ends (clauses (take (i + 1) cs)) (clauses (drop (i + 1) cs))
ends_at cs i c within at h =
    some_run (clauses (take (i + 1) cs)) (clauses (drop (i + 1) cs))
    (subst (λ ks. has_stopper (bodies_of ks) ≡ true) (sym (ap clauses (take_more cs i c within ∙ ap (λ y. take i cs ++ y ∷ []) (sym at)) ∙ map-append clause (take i cs) (c ∷ []))) (stopper_behind (clauses (take i cs)) (clause c) h))

pub ends_behind : (cs : List SwitchCase) (n : ℕ) → length cs ≤ n → Ends (clauses (take n cs)) (clauses (drop n cs))
ends_behind cs n h = subst (λ ks. Ends (clauses (take n cs)) (clauses ks)) (sym (drop_all n cs h)) (all_run (clauses (take n cs)))

-- cases in parts

pub leading_by : (cs front back gs new : List SwitchCase) (n : ℕ) (b : Bool) → front ≡ take n cs → back ≡ drop n cs → Sheds b (clauses front) (clauses gs) → new ≡ gs ++ back → LeadingSheds b (clauses (take n cs)) (clauses (drop n cs)) (clauses new)
leading_by cs front back gs new n b at_front at_back s is =
    subst (λ ks. LeadingSheds b (clauses (take n cs)) (clauses (drop n cs)) ks) (sym (ap clauses is ∙ map-append clause gs back ∙ ap (λ ks. clauses gs ++ clauses ks) at_back))
    (leading (clauses gs) (subst (λ ks. Sheds b (clauses ks) (clauses gs)) at_front s))

pub around_by : (cs front back run behind gs is new : List SwitchCase) (n m : ℕ) (b c : Bool) → front ≡ take n cs → back ≡ drop n cs → run ≡ take m back → behind ≡ drop m back → Ends (clauses (take m back)) (clauses (drop m back)) → Sheds b (clauses front) (clauses gs) → Sheds c (clauses behind) (clauses is) → new ≡ gs ++ (run ++ is) → AroundSheds (b || c) (clauses (take n cs)) (clauses (drop n cs)) (clauses new)
around_by cs front back run behind gs is new n m b c at_front at_back at_run at_behind e s r at =
    subst (λ ks. AroundSheds (b || c) (clauses (take n cs)) (clauses (drop n cs)) ks) (sym (ap clauses at ∙ map-append clause gs (run ++ is) ∙ ap (λ ks. clauses gs ++ ks) (map-append clause run is ∙ ap (λ ks. clauses ks ++ clauses is) at_run)))
    (around (clauses gs) (clauses (take m back)) (clauses (drop m back)) (clauses is) (ap clauses (sym at_back) ∙ sym (clauses_parted m back)) e (subst (λ ks. Sheds b (clauses ks) (clauses gs)) at_front s) (subst (λ ks. Sheds c (clauses ks) (clauses is)) at_behind r) refl)

most_parted : {X : Type 0} (μ : X → ℕ) (n : ℕ) (xs : List X) → max (most μ (take n xs)) (most μ (drop n xs)) ≡ most μ xs
most_parted μ n xs = sym (most_joined μ (take n xs) (drop n xs)) ∙ ap (most μ) (take-append-drop n xs)

pub leading_depth : {X : Type 0} (μ : X → ℕ) (cs front back gs new : List X) (n : ℕ) → front ≡ take n cs → back ≡ drop n cs → most μ gs ≤ most μ front → new ≡ gs ++ back → most μ new ≤ most μ cs
leading_depth μ cs front back gs new n at_front at_back h is = omega (arith, h, ap (most μ) at_front, ap (most μ) at_back, ap (most μ) is, most_joined μ gs back, most_parted μ n cs)

pub around_depth : {X : Type 0} (μ : X → ℕ) (cs front back run behind gs is new : List X) (n m : ℕ) → front ≡ take n cs → back ≡ drop n cs → run ≡ take m back → behind ≡ drop m back → most μ gs ≤ most μ front → most μ is ≤ most μ behind → new ≡ gs ++ (run ++ is) → most μ new ≤ most μ cs
around_depth μ cs front back run behind gs is new n m at_front at_back at_run at_behind h k at =
    omega (arith, h, k, ap (most μ) at_front, ap (most μ) at_back, ap (most μ) at_run, ap (most μ) at_behind, ap (most μ) at, most_joined μ gs (run ++ is), most_joined μ run is, most_parted μ n cs, most_parted μ m back)

deeper_switch : {X : Type 0} (μ : X → ℕ) (t a b : ℕ) (xs ys : List X) → most μ ys ≤ most μ xs → a ≡ max 0 (max t (max (most μ xs) 0)) + 1 → b ≡ max 0 (max t (max (most μ ys) 0)) + 1 → b ≤ a
deeper_switch μ t a b xs ys h is at = omega (arith, is, at, h)

-- one whose cases are no deeper is no deeper
pub switch_shallower : (n : SwitchStmt) (v : Vec SwitchCase Global) → most size-SwitchCase v.items ≤ most size-SwitchCase (out-SwitchStmt n).cases.items → size-SwitchStmt (roll-SwitchStmt (record { span = (out-SwitchStmt n).span; discriminant = (out-SwitchStmt n).discriminant; cases = v })) ≤ size-SwitchStmt n
switch_shallower n v h =
    deeper_switch size-SwitchCase _ (size-SwitchStmt n) (size-SwitchStmt (roll-SwitchStmt (record { span = (out-SwitchStmt n).span; discriminant = (out-SwitchStmt n).discriminant; cases = v }))) (out-SwitchStmt n).cases.items v.items h (size_is-SwitchStmt n)
    (rw (out-roll-SwitchStmt (record { span = (out-SwitchStmt n).span; discriminant = (out-SwitchStmt n).discriminant; cases = v })) at (size_is-SwitchStmt (roll-SwitchStmt (record { span = (out-SwitchStmt n).span; discriminant = (out-SwitchStmt n).discriminant; cases = v }))))

-- the view of a `switch`
pub shed_view : (mark : ℕ) (n m : SwitchStmt) (v : Value) (b : Bool) (cs : List SwitchCase) → (out-SwitchStmt m).span ≡ (out-SwitchStmt n).span → (out-SwitchStmt m).discriminant.value ≡ (out-SwitchStmt n).discriminant.value → (out-SwitchStmt m).cases.items ≡ cs → FixedValue mark (expr_tree (out-SwitchStmt n).discriminant.value) v → Unreached mark v b (clauses (out-SwitchStmt n).cases.items) (clauses cs) → Opened (remove_pass mark) b (view.switch_tree n) (view.switch_tree m)
shed_view mark n m v b cs at_span at_value at_cases f h =
    let d = expr_tree (out-SwitchStmt n).discriminant.value in
    let ss = (out-SwitchStmt n).span ∷ [] in
    subst (λ t. Opened (remove_pass mark) b t (view.switch_tree m)) (sym (by_clauses n))
    (subst (λ u. Opened (remove_pass mark) b (switch_tree ss d (clauses (out-SwitchStmt n).cases.items)) u) (sym (by_clauses m ∙ ap₂ (λ x y. switch_tree (x ∷ []) (expr_tree y) (clauses (out-SwitchStmt m).cases.items)) at_span at_value ∙ ap (λ ds. switch_tree ss d (clauses ds)) at_cases))
    (shed_opens mark ss d v b f h))
