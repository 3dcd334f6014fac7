-- A `do` in a loop's body, and the loop.
use Rattle.std.proofs.Common.{◌≡◌, ℕ, Bool, true, false, ◌||◌, if◌then◌else◌, List, [], ◌∷◌, map, Option, Some, None, refl, sym, ap, ap₂, subst, ◌∙◌}
use Rattle.std.proofs.lemmas.Bool.{true≢false}
use Rattle.std.specs.declared.alloc.Global.{Global}
use Rattle.std.specs.declared.boxed.Box.{Box}
use Rattle.std.specs.declared.vec.Vec.{Vec}
use Rattle.swc_ast.specs.Parts.{list_trees, optional_trees}
use Rattle.swc_ast.specs.Statements.{CaseTrees, block_tree, option_block_tree, handler_param, handler_spans, handler_tree, try_tree, do_while_node, if_node, is_default_case, case_parts, case_children, switch_node}
use Rattle.swc_ast.specs.Tree.{Text, Block, If, DoWhile, Labeled, Switch, CaseBody, Try, Tree, node, Forest, ε, ◌⊳◌}
use Rattle.swc_ast.specs.Views.{case_trees, expr_tree, loop_trees, stmt_tree, switch_tree}
use Rattle.swc_ast.specs.Weight.{is_stopper}
use Rattle.swc_ast.specs.declared.Span.{Span}
use Rattle.swc_ast.specs.declared.expressions.Expr.{Expr}
use Rattle.swc_ast.specs.declared.statements.BlockStmt.{BlockStmt}
use Rattle.swc_ast.specs.declared.statements.CatchClause.{CatchClause}
use Rattle.swc_ast.specs.declared.statements.Stmt.{Stmt}
use Rattle.swc_ast.specs.declared.statements.SwitchCase.{SwitchCase}
use Rattle.swc_ast.specs.declared.statements.SwitchStmt.{SwitchStmt}
use Rattle.swc_ast.specs.declared.statements.TryStmt.{TryStmt}
use Rattle.swc_ast.specs.declared.declarations.Decl.TheViews.{out-SwitchStmt}
use Rattle.swc_ast.proofs.Equations.{switch_tree-is}
use Rattle.swc_ast.specs.declared.statements.WhileStmt.{WhileStmt}
use Rattle.swc_utils.specs.Known.{truth, pure_truth}
use Rattle.swc_utils.specs.Pure.{pure}
use Rattle.tree_walk.specs.Walks.{Each, none, more}
use Rattle.tree_walk.proofs.Walked.{or_none}
use Rattle.pass_proofs.proofs.ExprTrees.{is_an_expression}
use Rattle.branch_rules.specs.Jumps.{only}
use Rattle.branch_rules.specs.Once.{do_once}
use Rattle.branch_rules.specs.Statements.{as_statement}
use Rattle.branch_rules.specs.Within.{unstopped, Within, stays, runs, of_part, in_if, in_label, in_try, in_switch, AllWithin, none_within, one_within, PartWithin, same_part, in_block, in_case, PartsWithin, none_parts, one_part, WithinStep}
use Rattle.branch_expressions.proofs.Made.{pure_known}
use Rattle.branch_loops.specs.Bodies.{nowhere}
use Rattle.branch_loops.specs.Runs.{Once, runs_once, stays_round, RunsDo, do_runs, do_stays, HandlerWithin, CaseWithin, RunsWithin, runs_within, as_before}
use Rattle.branch_loops.proofs.OnceSteps.{do_is, same_do}

-- a statement that ends its list, in a block
pub boxed : (s : Stmt) (xs : List Stmt) (t : Tree) (r : Bool) → r ≡ is_stopper (stmt_tree s) → r ≡ true → xs ≡ s ∷ [] → t ≡ node Block nowhere (list_trees stmt_tree xs) → t ≡ unstopped nowhere (stmt_tree s)
boxed s xs t r is h items at = at ∙ ap (λ ys. node Block nowhere (list_trees stmt_tree ys)) items ∙ sym (ap (λ b. if b then node Block nowhere (stmt_tree s ⊳ ε) else stmt_tree s) (sym is ∙ h))

module _ (mark : ℕ) (ls : List Text) (n : WhileStmt) where
  pub once_runs : (u v : Tree) (b once made : Stmt) (o : Option Stmt) → o ≡ Some once → Once (only ls) (stmt_tree b) v o → b ≡ n.body.value → pure_truth mark (expr_tree n.test.value) ≡ Some false → stmt_tree made ≡ unstopped nowhere (stmt_tree once) → RunsDo mark ls (do_while_node (loop_trees n)) u (Some made)
  once_runs u v b once made o is k at h e = by (subst (Once (only ls) (stmt_tree b) v) is k)
    where
      by : Once (only ls) (stmt_tree b) v (Some once) → RunsDo mark ls (do_while_node (loop_trees n)) u (Some made)
      by (runs_once rs {us = us} r kept) =
          let t = expr_tree n.test.value in
          let p = pure_known (pure mark t) (truth mark t) false h in
          let w : Within mark ls true (node DoWhile (n.span ∷ []) (stmt_tree b ⊳ t ⊳ ε)) (unstopped nowhere (as_statement rs us)) = runs rs nowhere (do_once (n.span ∷ []) (stmt_tree b) t (is_an_expression n.test.value) p.0 p.1 r) in
          do_runs (subst (λ x. Within mark ls true x (stmt_tree made)) (ap (λ x. node DoWhile (n.span ∷ []) (stmt_tree x ⊳ t ⊳ ε)) at ∙ sym (do_is n)) (subst (Within mark ls true (node DoWhile (n.span ∷ []) (stmt_tree b ⊳ t ⊳ ε))) (sym (e ∙ ap (unstopped nowhere) kept)) w))

  pub once_stays : (m : WhileStmt) (b c : Stmt) (o : Option Stmt) → o ≡ None → Once (only ls) (stmt_tree b) (stmt_tree c) o → b ≡ n.body.value → m.body.value ≡ c → m.span ≡ n.span → m.test ≡ n.test → RunsDo mark ls (do_while_node (loop_trees n)) (do_while_node (loop_trees m)) None
  once_stays m b c o is k at made span test = by (subst (Once (only ls) (stmt_tree b) (stmt_tree c)) is k)
    where
      by : Once (only ls) (stmt_tree b) (stmt_tree c) None → RunsDo mark ls (do_while_node (loop_trees n)) (do_while_node (loop_trees m)) None
      by (stays_round e) = do_stays (same_do n m (ap stmt_tree made ∙ e ∙ ap stmt_tree at) span test)

-- no `do` runs once
pub nothing_runs : (mark : ℕ) (ls : List Text) (t u : Tree) (o : Option Stmt) → o ≡ None → RunsDo mark ls t u o → Within mark ls false t u
nothing_runs mark ls t u o is h = by (subst (RunsDo mark ls t u) is h)
  where
    by : RunsDo mark ls t u None → Within mark ls false t u
    by (do_stays e) = subst (Within mark ls false t) (sym e) (stays t)

-- parts

pub each_within : {mark : ℕ} {ls : List Text} {xs ys : List Stmt} {c : Bool} → Each (λ x y d. Within mark ls d (stmt_tree x) (stmt_tree y)) xs ys c → AllWithin mark ls c (list_trees stmt_tree xs) (list_trees stmt_tree ys)
each_within none = none_within
each_within (more w ws) = one_within w (each_within ws)

module _ {mark : ℕ} {ls : List Text} where
  pub arms_within : {t u : Tree} {c d : Bool} (s : Span) (a : Box Expr Global) (v w : Box Stmt Global) (y z : Option (Box Stmt Global)) → t ≡ if_node expr_tree stmt_tree s a v y → u ≡ if_node expr_tree stmt_tree s a w z → Within mark ls c (stmt_tree v.value) (stmt_tree w.value) → AllWithin mark ls d (optional_trees stmt_tree y) (optional_trees stmt_tree z) → Within mark ls (c || d) t u
  arms_within {t} {u} {c} {d} s a v w y z e f h k = subst (λ x. Within mark ls (c || d) x u) (sym e) (subst (Within mark ls (c || d) (if_node expr_tree stmt_tree s a v y)) (sym f) (in_if (s ∷ []) (expr_tree a.value) (one_within h k)))

  pub some_within : (o : Option (Box Stmt Global)) (a b : Box Stmt Global) (c : Bool) → o ≡ Some a → Within mark ls c (stmt_tree a.value) (stmt_tree b.value) → AllWithin mark ls c (optional_trees stmt_tree o) (stmt_tree b.value ⊳ ε)
  some_within o a b c is w = subst (λ k. AllWithin mark ls c (optional_trees stmt_tree k) (stmt_tree b.value ⊳ ε)) (sym is) (subst (λ d. AllWithin mark ls d (stmt_tree a.value ⊳ ε) (stmt_tree b.value ⊳ ε)) (or_none c) (one_within w none_within))

  pub no_within : (o : Option (Box Stmt Global)) → o ≡ None → AllWithin mark ls false (optional_trees stmt_tree o) (optional_trees stmt_tree o)
  no_within o is = subst (λ k. AllWithin mark ls false (optional_trees stmt_tree k) (optional_trees stmt_tree k)) (sym is) none_within

  -- the label of a statement comes in front of the others
  pub label_within : {l m : Text} {ks : List Text} {ss : List Span} {t u : Tree} {c : Bool} → ks ≡ m ∷ ls → m ≡ l → Within mark ks c t u → Within mark ls c (node (Labeled l) ss (t ⊳ ε)) (node (Labeled l) ss (u ⊳ ε))
  label_within {l} {ss = ss} {t = t} {u} {c} is at w = in_label l ss (subst (λ ks. Within mark ks c t u) (is ∙ ap (λ k. k ∷ ls) at) w)

  -- `try`

  pub handler_within : {c : Bool} (h k : Option (CatchClause Stmt)) (n : CatchClause Stmt) (a : BlockStmt Stmt) → h ≡ Some n → k ≡ Some (record n { body = a }) → PartWithin mark ls c (block_tree stmt_tree n.body) (block_tree stmt_tree a) → HandlerWithin mark ls h k c
  handler_within {c} h k n a is after w = subst (λ x. HandlerWithin mark ls x k c) (sym is) (subst (λ x. HandlerWithin mark ls (Some n) x c) (sym after) (record { param = refl; spans = refl; block = w }))

  pub no_handler : (h : Option (CatchClause Stmt)) → h ≡ None → HandlerWithin mark ls h h false
  no_handler h is = record { param = refl; spans = refl; block = same_part (handler_tree stmt_tree h) }

  pub try_within : {b c d : Bool} (n : TryStmt Stmt) (a : BlockStmt Stmt) (k : Option (CatchClause Stmt)) (z : Option (BlockStmt Stmt)) → PartWithin mark ls b (block_tree stmt_tree n.block) (block_tree stmt_tree a) → HandlerWithin mark ls n.handler k c → PartWithin mark ls d (option_block_tree stmt_tree n.finalizer) (option_block_tree stmt_tree z) → Within mark ls (b || (c || d)) (try_tree stmt_tree n) (try_tree stmt_tree (record n { block = a; handler = k; finalizer = z }))
  try_within {b} {c} {d} n a k z block handler final =
      let made = try_tree stmt_tree (record n { block = a; handler = k; finalizer = z }) in
      let label : made ≡ node (Try (handler_param n.handler)) (n.span ∷ handler_spans n.handler) (block_tree stmt_tree a ⊳ handler_tree stmt_tree k ⊳ option_block_tree stmt_tree z ⊳ ε) = cc (handler.param, handler.spans) in
      subst (λ e. Within mark ls (b || (c || e)) (try_tree stmt_tree n) made) (or_none d)
      (subst (Within mark ls (b || (c || (d || false))) (try_tree stmt_tree n)) (sym label) (in_try (handler_param n.handler) (n.span ∷ handler_spans n.handler) (one_part block (one_part handler.block (one_part final none_parts)))))

  -- `switch`

  pub case_within : {p q : CaseTrees} {c : Bool} (s : Span) (t : Option (Box Expr Global)) (xs ys : Vec Stmt Global) → p ≡ case_parts expr_tree stmt_tree s t xs → q ≡ case_parts expr_tree stmt_tree s t ys → Each (λ x y d. Within mark ls d (stmt_tree x) (stmt_tree y)) xs.items ys.items c → CaseWithin mark ls p q c
  case_within {p} {q} {c} s t xs ys e f w = subst (λ x. CaseWithin mark ls x q c) (sym e) (subst (λ x. CaseWithin mark ls (case_parts expr_tree stmt_tree s t xs) x c) (sym f) (record { kind = refl; test = refl; body = in_case (s ∷ []) (each_within w) }))

  case_kinds : {xs ys : List SwitchCase} {c : Bool} → Each (λ x y d. CaseWithin mark ls (case_trees x) (case_trees y) d) xs ys c → map is_default_case (map case_trees ys) ≡ map is_default_case (map case_trees xs)
  case_kinds none = refl
  case_kinds (more w ws) = cc (w.kind, case_kinds ws)

  cases_within : {xs ys : List SwitchCase} {c : Bool} → Each (λ x y d. CaseWithin mark ls (case_trees x) (case_trees y) d) xs ys c → PartsWithin mark ls c (case_children (map case_trees xs)) (case_children (map case_trees ys))
  cases_within none = none_parts
  cases_within (more {x = x} {y} w ws) = one_part (subst (PartWithin mark ls false (case_trees x).test) (sym w.test) (same_part (case_trees x).test)) (one_part w.body (cases_within ws))

  pub switch_within : {u : Tree} {c : Bool} (n : SwitchStmt) (ys : Vec SwitchCase Global) → u ≡ switch_node expr_tree case_trees (out-SwitchStmt n).span (out-SwitchStmt n).discriminant ys → Each (λ x y d. CaseWithin mark ls (case_trees x) (case_trees y) d) (out-SwitchStmt n).cases.items ys.items c → Within mark ls c (switch_tree n) u
  switch_within {u} {c} n ys is ws =
      let s = (out-SwitchStmt n).span in
      let a = (out-SwitchStmt n).discriminant in
      let xs = (out-SwitchStmt n).cases in
      let made = is ∙ ap (λ ds. node (Switch ds) (s ∷ []) (expr_tree a.value ⊳ case_children (map case_trees ys.items))) (case_kinds ws) in
      subst (λ x. Within mark ls c x u) (sym (switch_tree-is n)) (subst (Within mark ls c (switch_node expr_tree case_trees s a xs)) (sym made) (in_switch (map is_default_case (map case_trees xs.items)) (s ∷ []) (one_part (same_part (expr_tree a.value)) (cases_within ws))))

-- where nothing changed

none_of : (a b : Bool) → (a || b) ≡ false → (a ≡ false) × (b ≡ false)
none_of true b e = absurd (true≢false e)
none_of false b e = (refl, e)

mutual
  unchanged : {mark : ℕ} {ls : List Text} {k : Bool} {t u : Tree} → Within mark ls k t u → k ≡ false → u ≡ t
  unchanged (stays t) e = refl
  unchanged (runs rs qs s) e = absurd (true≢false e)
  unchanged (of_part p) e = part_unchanged p e
  unchanged (in_if ss t ws) e = ap (λ us. node If ss (t ⊳ us)) (all_unchanged ws e)
  unchanged (in_label l ss w) e = ap (λ u. node (Labeled l) ss (u ⊳ ε)) (unchanged w e)
  unchanged (in_try p ss ps) e = ap (node (Try p) ss) (parts_unchanged ps e)
  unchanged (in_switch ds ss ps) e = ap (node (Switch ds) ss) (parts_unchanged ps e)

  all_unchanged : {mark : ℕ} {ls : List Text} {k : Bool} {ts us : Forest} → AllWithin mark ls k ts us → k ≡ false → us ≡ ts
  all_unchanged none_within e = refl
  all_unchanged (one_within {c = c} {d} w ws) e = let p = none_of c d e in ap₂ ◌⊳◌ (unchanged w p.0) (all_unchanged ws p.1)

  part_unchanged : {mark : ℕ} {ls : List Text} {k : Bool} {t u : Tree} → PartWithin mark ls k t u → k ≡ false → u ≡ t
  part_unchanged (same_part t) e = refl
  part_unchanged (in_block ss ws) e = ap (node Block ss) (all_unchanged ws e)
  part_unchanged (in_case ss ws) e = ap (node CaseBody ss) (all_unchanged ws e)

  parts_unchanged : {mark : ℕ} {ls : List Text} {k : Bool} {ts us : Forest} → PartsWithin mark ls k ts us → k ≡ false → us ≡ ts
  parts_unchanged none_parts e = refl
  parts_unchanged (one_part {c = c} {d} p ps) e = let q = none_of c d e in ap₂ ◌⊳◌ (part_unchanged p q.0) (parts_unchanged ps q.1)

-- loops

pub loop_runs : {mark : ℕ} {t u b v : Tree} (c : Bool) (f : Tree → Tree) → (Within mark [] true b v → WithinStep mark (f b) (f v ⊳ ε)) → t ≡ f b → u ≡ f v → Within mark [] c b v → RunsWithin mark t u c
loop_runs {mark} {t} {u} {b} {v} true f step is made w = runs_within (subst (λ x. WithinStep mark x (u ⊳ ε)) (sym is) (subst (λ x. WithinStep mark (f b) (x ⊳ ε)) (sym made) (step w)))
loop_runs false f step is made w = as_before (made ∙ ap f (unchanged w refl) ∙ sym is)

pub runs_as_before : (mark : ℕ) (t : Tree) → RunsWithin mark t t false
runs_as_before mark t = as_before refl
