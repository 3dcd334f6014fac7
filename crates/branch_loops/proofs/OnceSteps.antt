-- A body that is run once.
use Rattle.std.proofs.Common.{◌≡◌, ◌≤◌, ◌-◌, ℕ, ◌+◌, suc, Bool, true, false, ◌||◌, List, [], ◌∷◌, ◌++◌, length, take, drop, get_or, Option, Some, None, refl, sym, ap, ap₂, subst, ◌∙◌, arith, length-append}
use Rattle.std.proofs.lemmas.List.{append_assoc, take_all}
use Rattle.swc_ast.specs.SameLaws.{impossible}
use Rattle.swc_ast.specs.Parts.{absent, list_trees}
use Rattle.swc_ast.specs.Statements.{block_tree, do_while_node}
use Rattle.swc_ast.specs.Tree.{Block, DoWhile, Empty, For, Tree, node, ε, ◌⊳◌}
use Rattle.swc_ast.specs.Views.{expr_tree, for_tree, loop_trees, stmt_tree}
use Rattle.swc_ast.specs.declared.Span.{Span}
use Rattle.swc_ast.specs.declared.statements.BlockStmt.{BlockStmt}
use Rattle.swc_ast.specs.declared.statements.ForStmt.{ForStmt}
use Rattle.swc_ast.specs.declared.statements.Stmt.{Stmt}
use Rattle.swc_ast.specs.declared.statements.WhileStmt.{WhileStmt}
use Rattle.std.specs.declared.alloc.Global.{Global}
use Rattle.std.specs.declared.boxed.Box.{Box}
use Rattle.swc_ast.specs.declared.declarations.Decl.TheViews.{roll-ForStmt}
use Rattle.swc_ast.specs.declared.statements.Stmt.TheVariants as in_stmt
use Rattle.swc_ast.proofs.Equations.{loop_trees-is, stmt_tree-For, for_tree-is}
use Rattle.swc_utils.specs.Known.{truth, pure_truth}
use Rattle.swc_utils.specs.Pure.{pure}
use Rattle.pass_proofs.proofs.ExprTrees.{is_an_expression}
use Rattle.branch_rules.specs.Jumps.{Sought, every, escapes, some_escape}
use Rattle.branch_rules.specs.Once.{looping, is_jump, whole, a_jump, inside, do_once}
use Rattle.branch_rules.specs.Removes.{statement, once}
use Rattle.branch_rules.specs.Statements.{is_plain, do_true}
use Rattle.branch_rules.specs.Turns.{Turns, by_rule, as_it_was}
use Rattle.branch_expressions.proofs.Adding.{row_joined}
use Rattle.branch_expressions.proofs.Made.{pure_known}
use Rattle.branch_parts.proofs.GivesNothing.{stmt_gives_nothing}
use Rattle.branch_loops.specs.Runs.{Once, runs_once, stays_round, JumpAt, Passed}

pub once_jump : (k : Sought) (t u : Tree) (s : Stmt) (ss : List Span) → is_jump t ≡ true → stmt_tree s ≡ node Empty ss ε → Once k t u (Some s)
once_jump k t u s ss h is = runs_once ss (a_jump t h) is

pub once_whole : (k : Sought) (b : Stmt) (u : Tree) (s : Stmt) → is_plain (stmt_tree b) ≡ true → escapes (looping k) (stmt_tree b) ≡ false → stmt_tree s ≡ stmt_tree b → Once k (stmt_tree b) u (Some s)
once_whole k b u s p e is = runs_once [] (whole (stmt_tree b) p (stmt_gives_nothing b) e) is

behind : {X : Type 0} (front : List X) (x : X) (rest : List X) → drop (suc (length front)) (front ++ x ∷ rest) ≡ rest
behind [] x rest = refl
behind (y ∷ ys) x rest = behind ys x rest

in_front : {X : Type 0} (front : List X) (rest : List X) → take (length front) (front ++ rest) ≡ front
in_front [] rest = refl
in_front (y ∷ ys) rest = ap (λ zs. y ∷ zs) (in_front ys rest)

without : {X : Type 0} (front : List X) (x : X) (rest : List X) → take (length front) (front ++ x ∷ rest) ++ drop (length front + 1) (front ++ x ∷ rest) ≡ front ++ rest
without front x rest =
    let e : length front + 1 ≡ suc (length front) = omega arith in
    ap (λ k. take (length front) (front ++ x ∷ rest) ++ drop k (front ++ x ∷ rest)) e ∙ ap₂ (λ xs ys. xs ++ ys) (in_front front (x ∷ rest)) (behind front x rest)

pub once_inside : (k : Sought) (n : BlockStmt Stmt) (i : ℕ) (made : List Stmt) (ss : List Span) (u : Tree) (s : Stmt) → JumpAt k i n.stmts.items → made ≡ take i n.stmts.items ++ drop (i + 1) n.stmts.items → stmt_tree s ≡ node Block ss (list_trees stmt_tree made) → Once k (block_tree stmt_tree n) u (Some s)
once_inside k n i made ss u s j is at =
    let ts = list_trees stmt_tree j.front in
    let rest = list_trees stmt_tree j.rest in
    let step = inside (n.span ∷ []) ss ts (stmt_tree j.jump) rest j.before j.jumps j.functions in
    let made_is = is ∙ ap (λ k. take k n.stmts.items ++ drop (k + 1) n.stmts.items) (sym j.place) ∙ ap (λ xs. take (length j.front) xs ++ drop (length j.front + 1) xs) j.is ∙ without j.front j.jump j.rest in
    subst (λ t. Once k t u (Some s)) (sym (ap (λ xs. node Block (n.span ∷ []) (list_trees stmt_tree xs)) j.is ∙ ap (node Block (n.span ∷ [])) (row_joined stmt_tree j.front (j.jump ∷ j.rest))))
    (runs_once [] step (at ∙ ap (λ xs. node Block ss (list_trees stmt_tree xs)) made_is ∙ ap (node Block ss) (row_joined stmt_tree j.front j.rest)))

-- steps of `do`

pub endless_is : (m : Box ForStmt Global) (s : Span) (b : Box Stmt Global) → m.value ≡ roll-ForStmt (record { span = s; init = None; test = None; update = None; body = b }) → stmt_tree (in_stmt.For m) ≡ node For (s ∷ []) (absent ⊳ absent ⊳ absent ⊳ stmt_tree b.value ⊳ ε)
endless_is m s b is = stmt_tree-For m ∙ ap for_tree is ∙ for_tree-is (roll-ForStmt (record { span = s; init = None; test = None; update = None; body = b }))

pub do_is : (n : WhileStmt) → do_while_node (loop_trees n) ≡ node DoWhile (n.span ∷ []) (stmt_tree n.body.value ⊳ expr_tree n.test.value ⊳ ε)
do_is n = ap do_while_node (loop_trees-is n)

-- one with the same body
pub same_do : (n m : WhileStmt) → stmt_tree m.body.value ≡ stmt_tree n.body.value → m.span ≡ n.span → m.test ≡ n.test → do_while_node (loop_trees m) ≡ do_while_node (loop_trees n)
same_do n m e span test = do_is m ∙ ap (λ x. node DoWhile (x ∷ []) (stmt_tree m.body.value ⊳ expr_tree m.test.value ⊳ ε)) span ∙ ap (λ x. node DoWhile (n.span ∷ []) (x ⊳ expr_tree m.test.value ⊳ ε)) e ∙ ap (λ x. node DoWhile (n.span ∷ []) (stmt_tree n.body.value ⊳ expr_tree x.value ⊳ ε)) test ∙ sym (do_is n)

module _ (mark : ℕ) (n : WhileStmt) where
  pub endless_do : (u : Tree) (s : Stmt) → stmt_tree s ≡ node For (n.span ∷ []) (absent ⊳ absent ⊳ absent ⊳ stmt_tree n.body.value ⊳ ε) → pure_truth mark (expr_tree n.test.value) ≡ Some true → Turns mark (do_while_node (loop_trees n)) u (Some s)
  endless_do u s is h =
      let t = expr_tree n.test.value in
      let p = pure_known (pure mark t) (truth mark t) true h in
      subst (λ x. Turns mark x u (Some s)) (sym (do_is n)) (by_rule [] (statement (do_true (n.span ∷ []) [] [] [] (n.span ∷ []) (stmt_tree n.body.value) t (is_an_expression n.test.value) p.0 p.1)) is)

  pub once_do : (m : WhileStmt) (b c : Stmt) (o : Option Stmt) → Once every (stmt_tree b) (stmt_tree c) o → pure_truth mark (expr_tree n.test.value) ≡ Some false → b ≡ n.body.value → m.body.value ≡ c → m.span ≡ n.span → m.test ≡ n.test → Turns mark (do_while_node (loop_trees n)) (do_while_node (loop_trees m)) o
  once_do m b c o k h is made span test = by o (subst (λ x. Once every (stmt_tree x) (stmt_tree c) o) is k)
    where
      by : (q : Option Stmt) → Once every (stmt_tree n.body.value) (stmt_tree c) q → Turns mark (do_while_node (loop_trees n)) (do_while_node (loop_trees m)) q
      by q (runs_once rs {us = us} {s = s} r at) =
          let t = expr_tree n.test.value in
          let p = pure_known (pure mark t) (truth mark t) false h in
          subst (λ x. Turns mark x (do_while_node (loop_trees m)) (Some s)) (sym (do_is n)) (by_rule rs (once (do_once (n.span ∷ []) (stmt_tree n.body.value) t (is_an_expression n.test.value) p.0 p.1 r)) at)
      by q (stays_round e) = as_it_was (same_do n m (ap stmt_tree made ∙ e) span test)

-- statements one after another

both_false : (a b : Bool) → a ≡ false → b ≡ false → (a || b) ≡ false
both_false a b e f = ap (λ c. c || b) e ∙ f

parts_false : (a b : Bool) → (a || b) ≡ false → (a ≡ false) × (b ≡ false)
parts_false true b h = impossible (sym h)
parts_false false b h = (refl, h)

none_more : (k : Sought) (xs : List Stmt) (s : Stmt) → some_escape (looping k) (list_trees stmt_tree xs) ≡ false → escapes (looping k) (stmt_tree s) ≡ false → some_escape (looping k) (list_trees stmt_tree (xs ++ s ∷ [])) ≡ false
none_more k [] s h e = both_false _ false e refl
none_more k (x ∷ xs) s h e = let p = parts_false (escapes (looping k) (stmt_tree x)) _ h in both_false (escapes (looping k) (stmt_tree x)) _ p.0 (none_more k xs s p.1 e)

pub passed_more : (k : Sought) (i j : ℕ) (ss left rest : List Stmt) (s : Stmt) → Passed k i ss left → left ≡ s ∷ rest → j ≡ i + 1 → escapes (looping k) (stmt_tree s) ≡ false → Passed k j ss rest
passed_more k i j ss left rest s p is next h = record {
  front = p.front ++ s ∷ [];
  is = p.is ∙ ap (λ xs. p.front ++ xs) is ∙ sym (append_assoc p.front (s ∷ []) rest);
  place = length-append p.front (s ∷ []) ∙ ap (λ m. m + 1) p.place ∙ sym next;
  before = none_more k p.front s p.before h;
}

-- the first of what is left, and what stands behind it
pub first_left : (left : List Stmt) (s : Stmt) → 1 ≤ length left → s ≡ get_or left 0 s → left ≡ s ∷ take (length left - 1) (drop 1 left)
first_left [] s some is = absurd (omega (arith, some))
first_left (y ∷ ys) s some is = ap₂ (λ k ks. k ∷ ks) (sym is) (sym (take_all (length (y ∷ ys) - 1) ys (omega arith)))
