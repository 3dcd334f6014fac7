-- What takes the place of statements.
use Rattle.std.proofs.Common.{◌≡◌, ◌<◌, ℕ, Bool, true, false, ◌&&◌, List, [], ◌∷◌, ◌++◌, length, Option, Some, None, refl, sym, ap, subst, ◌∙◌, append-nil, arith}
use Rattle.std.specs.Prelude.{IsSome, option_to_list}
use Rattle.std.specs.declared.alloc.Global.{Global}
use Rattle.std.specs.declared.boxed.Box.{Box}
use Rattle.std.proofs.Math.ListN.{length-append}
use Rattle.swc_ast.specs.declared.Span.{Span}
use Rattle.swc_ast.specs.declared.expressions.Expr.{Expr}
use Rattle.swc_ast.specs.declared.statements.BlockStmt.{BlockStmt}
use Rattle.swc_ast.specs.declared.statements.CatchClause.{CatchClause}
use Rattle.swc_ast.specs.declared.statements.IfStmt.{IfStmt}
use Rattle.swc_ast.specs.declared.statements.Stmt.{Stmt}
use Rattle.swc_ast.specs.declared.statements.Stmt.TheVariants as in_stmt
use Rattle.swc_ast.specs.declared.statements.TryStmt.{TryStmt}
use Rattle.swc_ast.specs.Parts.{absent, list_trees, optional_trees}
use Rattle.swc_ast.specs.Scope.{joined}
use Rattle.swc_ast.specs.Statements.{block_tree, handler_param, handler_spans, handler_tree, option_block_tree, try_tree}
use Rattle.swc_ast.specs.Tree as tree
use Rattle.swc_ast.specs.Tree.{Name, Text, Tree, node, Forest, ε, ◌⊳◌}
use Rattle.swc_ast.specs.Views.{expr_tree, if_tree, stmt_tree}
use Rattle.swc_ast.proofs.Equations.{stmt_tree-If, if_tree-is}
use Rattle.swc_utils.specs.Known.{truth}
use Rattle.swc_utils.specs.Pure.{pure}
use Rattle.swc_utils.proofs.Chains.{joined_assoc, joined_none, pushed}
use Rattle.pass_proofs.proofs.ExprTrees.{is_an_expression}
use Rattle.branch_rules.specs.Ignored.{Ignores, goes}
use Rattle.branch_rules.specs.Removes.{statement}
use Rattle.branch_rules.specs.Statements as rule
use Rattle.branch_rules.specs.Statements.{Chooses, StatementStep, all_give_nothing, all_plain, as_statement, gives_nothing, is_plain, left_alone, nothing_alone, else_arm, no_arm, only_arm, then_arm, is_word}
use Rattle.branch_rules.specs.Vars.{none_declared}
use Rattle.branch_rules.specs.Turns.{Turns, by_rule}
use Rattle.branch_expressions.specs.Left.{IsLeft}
use Rattle.branch_expressions.specs.declared.ignored.Left.{Left as LeftKind}
use Rattle.branch_expressions.specs.declared.ignored.Left.TheVariants as left
use Rattle.branch_parts.proofs.GivesNothing.{stmt_gives_nothing}
use Rattle.branch_parts.specs.Behind.{LeftBehind, VarsBehind, left_behind, vars_behind}
use Rattle.branch_statements.specs.Arms.{ArmsBehind, EmptyElse, LoneEmpty, arms, empty_else, lone_empty}
use Rattle.branch_statements.proofs.Tells.{nothing}
use Rattle.branch_statements.specs.Shapes.{Idles, IsBare, OneShallow, bare, idle, leaves, one_shallow}

-- a rule of statements
turned : {mark : ℕ} {t : Tree} (u : Tree) (rs : List Span) {us : Forest} (s : Stmt) → StatementStep mark t us → stmt_tree s ≡ as_statement rs us → Turns mark t u (Some s)
turned u rs s h is = by_rule rs (statement h) is

-- expression statements

pub pure_turns : (mark : ℕ) (s : Span) (e : Expr) (u : Tree) (r : Stmt) → is_word (expr_tree e) ≡ false → pure mark (expr_tree e) ≡ true → stmt_tree r ≡ node tree.Empty (s ∷ []) ε → Turns mark (node tree.ExprStmt (s ∷ []) (expr_tree e ⊳ ε)) u (Some r)
pure_turns mark s e u r w h is = turned u (s ∷ []) r (rule.expression (s ∷ []) (expr_tree e) (is_an_expression e) w (nothing_alone (expr_tree e) (goes (expr_tree e) (is_an_expression e) h))) is

pub nothing_turns : (mark : ℕ) (s : Span) (e : Expr) (u : Tree) (r : Stmt) → is_word (expr_tree e) ≡ false → Ignores mark true (expr_tree e) None → stmt_tree r ≡ node tree.Empty (s ∷ []) ε → Turns mark (node tree.ExprStmt (s ∷ []) (expr_tree e ⊳ ε)) u (Some r)
nothing_turns mark s e u r w h is = turned u (s ∷ []) r (rule.expression (s ∷ []) (expr_tree e) (is_an_expression e) w (nothing_alone (expr_tree e) h)) is

pub left_turns : (mark : ℕ) (s : Span) (e v : Expr) (u : Tree) (r : Stmt) → is_word (expr_tree e) ≡ false → Ignores mark true (expr_tree e) (Some (expr_tree v)) → stmt_tree r ≡ node tree.ExprStmt (s ∷ []) (expr_tree v ⊳ ε) → Turns mark (node tree.ExprStmt (s ∷ []) (expr_tree e ⊳ ε)) u (Some r)
left_turns mark s e v u r w h is = turned u [] r (rule.expression (s ∷ []) (expr_tree e) (is_an_expression e) w (left_alone (s ∷ []) (expr_tree e) (expr_tree v) (is_an_expression v) h)) is

module _ (mark : ℕ) (s : Span) (x v : Expr) (k : LeftKind) (e : Expr) (at : x ≡ e) where
  left_at : (l : LeftKind) → k ≡ l → IsLeft mark (expr_tree x) (expr_tree v) k → IsLeft mark (expr_tree e) (expr_tree v) l
  left_at l is h = subst (λ y. IsLeft mark (expr_tree y) (expr_tree v) l) at (subst (IsLeft mark (expr_tree x) (expr_tree v)) is h)

  pub same_left : k ≡ left.Same → IsLeft mark (expr_tree x) (expr_tree v) k → node tree.ExprStmt (s ∷ []) (expr_tree v ⊳ ε) ≡ node tree.ExprStmt (s ∷ []) (expr_tree e ⊳ ε)
  same_left is h = ap (λ t. node tree.ExprStmt (s ∷ []) (t ⊳ ε)) (left_at left.Same is h)

  pub nothing_left : (u : Tree) (r : Stmt) → is_word (expr_tree e) ≡ false → k ≡ left.Nothing → IsLeft mark (expr_tree x) (expr_tree v) k → stmt_tree r ≡ node tree.Empty (s ∷ []) ε → Turns mark (node tree.ExprStmt (s ∷ []) (expr_tree e ⊳ ε)) u (Some r)
  nothing_left u r w is h to = nothing_turns mark s e u r w (left_at left.Nothing is h) to

  pub changed_left : (u : Tree) (r : Stmt) (w : Expr) → is_word (expr_tree e) ≡ false → k ≡ left.Changed → IsLeft mark (expr_tree x) (expr_tree v) k → expr_tree w ≡ expr_tree v → stmt_tree r ≡ node tree.ExprStmt (s ∷ []) (expr_tree w ⊳ ε) → Turns mark (node tree.ExprStmt (s ∷ []) (expr_tree e ⊳ ε)) u (Some r)
  changed_left u r w n is h same to = left_turns mark s e v u r n (left_at left.Changed is h) (to ∙ ap (λ t. node tree.ExprStmt (s ∷ []) (t ⊳ ε)) same)

-- conditions

pub choose_turns : (mark : ℕ) (known : Bool) (s : Span) (rs : List Span) (e : Expr) (arms before middle after : Forest) (u : Tree) (r : Stmt) → truth mark (expr_tree e) ≡ Some known → all_plain arms ≡ true → all_give_nothing arms ≡ true → before ≡ ε → LeftBehind mark (expr_tree e) before middle → ArmsBehind known arms middle after → stmt_tree r ≡ as_statement rs after → Turns mark (node tree.If (s ∷ []) (expr_tree e ⊳ arms)) u (Some r)
choose_turns mark known s rs e arms before middle after u r h plain nothing none (left_behind {es = es} alone at) b is =
    turned u rs r (rule.choose (s ∷ []) (expr_tree e) known arms b.kept b.gone (is_an_expression e) h b.chooses plain nothing alone b.vars)
    (is ∙ ap (as_statement rs) (b.is ∙ ap (λ x. joined x (joined b.names b.kept)) (at ∙ ap (λ x. joined x es) none)))

first : (x y : Bool) → (x && y) ≡ true → x ≡ true
first true y h = refl
first false y h = cc

pub else_turns : (mark : ℕ) (s : Span) (e : Expr) (arms : Forest) (a u : Tree) (r : Stmt) → EmptyElse arms a → all_plain arms ≡ true → stmt_tree r ≡ node tree.If (s ∷ []) (expr_tree e ⊳ a ⊳ ε) → Turns mark (node tree.If (s ∷ []) (expr_tree e ⊳ arms)) u (Some r)
else_turns mark s e arms a u r (empty_else t rs) h is = turned u [] r (rule.else_goes (s ∷ []) rs (s ∷ []) (expr_tree e) t (is_an_expression e) (first (is_plain t) _ h)) is

pub idle_turns : (mark : ℕ) (s : Span) (rs : List Span) (e : Expr) (arms before after : Forest) (u : Tree) (r : Stmt) → LoneEmpty arms → before ≡ ε → LeftBehind mark (expr_tree e) before after → stmt_tree r ≡ as_statement rs after → Turns mark (node tree.If (s ∷ []) (expr_tree e ⊳ arms)) u (Some r)
idle_turns mark s rs e arms before after u r (lone_empty es) none (left_behind {es = ls} alone at) is = turned u rs r (rule.branch_goes (s ∷ []) es (expr_tree e) (is_an_expression e) alone) (is ∙ ap (as_statement rs) (at ∙ ap (λ x. joined x ls) none))

pub at_if : (mark : ℕ) (n : IfStmt) (u : Tree) (o : Option Stmt) → Turns mark (node tree.If (n.span ∷ []) (expr_tree n.test.value ⊳ arms n)) u o → Turns mark (if_tree n) u o
at_if mark n u o h = subst (λ t. Turns mark t u o) (sym (if_tree-is n)) h

pub arms_give : (a : Stmt) (o : Option (Box Stmt Global)) → all_give_nothing (stmt_tree a ⊳ optional_trees stmt_tree o) ≡ true
arms_give a None = ap (λ b. b && true) (stmt_gives_nothing a)
arms_give a (Some b) = ap (λ x. x && (gives_nothing (stmt_tree b.value) && true)) (stmt_gives_nothing a) ∙ ap (λ x. x && true) (stmt_gives_nothing b.value)

module _ (known : Bool) (a : Stmt) (o : Option (Box Stmt Global)) (before after : List Stmt) where
  at_arms : (p : Option (Box Stmt Global)) → o ≡ p → ArmsBehind known (stmt_tree a ⊳ optional_trees stmt_tree p) (list_trees stmt_tree before) (list_trees stmt_tree after) → ArmsBehind known (stmt_tree a ⊳ optional_trees stmt_tree o) (list_trees stmt_tree before) (list_trees stmt_tree after)
  at_arms p is h = subst (λ q. ArmsBehind known (stmt_tree a ⊳ optional_trees stmt_tree q) (list_trees stmt_tree before) (list_trees stmt_tree after)) (sym is) h

  at_end : (vs : Forest) (middle : List Stmt) (x y : Stmt) → list_trees stmt_tree middle ≡ joined (list_trees stmt_tree before) vs → after ≡ middle ++ x ∷ [] → stmt_tree x ≡ stmt_tree y → list_trees stmt_tree after ≡ joined (list_trees stmt_tree before) (joined vs (stmt_tree y ⊳ ε))
  at_end vs middle x y start is same = ap (list_trees stmt_tree) is ∙ pushed stmt_tree middle x ∙ ap (λ t. joined (list_trees stmt_tree middle) (t ⊳ ε)) same ∙ ap (λ ts. joined ts (stmt_tree y ⊳ ε)) start ∙ joined_assoc (list_trees stmt_tree before) vs (stmt_tree y ⊳ ε)

  pub cons_behind : (b : Box Stmt Global) (middle : List Stmt) (x : Stmt) → known ≡ true → o ≡ Some b → VarsBehind (stmt_tree b.value ⊳ ε) (list_trees stmt_tree before) (list_trees stmt_tree middle) → after ≡ middle ++ x ∷ [] → stmt_tree x ≡ stmt_tree a → ArmsBehind known (stmt_tree a ⊳ optional_trees stmt_tree o) (list_trees stmt_tree before) (list_trees stmt_tree after)
  cons_behind b middle x h is (vars_behind {vs = vs} v start) to same = at_arms (Some b) is (record { kept = stmt_tree a ⊳ ε; gone = stmt_tree b.value ⊳ ε; names = vs; chooses = subst (λ k. Chooses k (stmt_tree a ⊳ stmt_tree b.value ⊳ ε) (stmt_tree a ⊳ ε) (stmt_tree b.value ⊳ ε)) (sym h) (then_arm (stmt_tree a) (stmt_tree b.value)); vars = v; is = at_end vs middle x a start to same })

  pub lone_behind : (x : Stmt) → known ≡ true → o ≡ None → after ≡ before ++ x ∷ [] → stmt_tree x ≡ stmt_tree a → ArmsBehind known (stmt_tree a ⊳ optional_trees stmt_tree o) (list_trees stmt_tree before) (list_trees stmt_tree after)
  lone_behind x h is to same = at_arms None is (record { kept = stmt_tree a ⊳ ε; gone = ε; names = ε; chooses = subst (λ k. Chooses k (stmt_tree a ⊳ ε) (stmt_tree a ⊳ ε) ε) (sym h) (only_arm (stmt_tree a)); vars = none_declared; is = at_end ε before x a (sym (joined_none (list_trees stmt_tree before))) to same })

  pub alt_behind : (b : Box Stmt Global) (middle : List Stmt) (x : Stmt) → known ≡ false → o ≡ Some b → VarsBehind (stmt_tree a ⊳ ε) (list_trees stmt_tree before) (list_trees stmt_tree middle) → after ≡ middle ++ x ∷ [] → stmt_tree x ≡ stmt_tree b.value → ArmsBehind known (stmt_tree a ⊳ optional_trees stmt_tree o) (list_trees stmt_tree before) (list_trees stmt_tree after)
  alt_behind b middle x h is (vars_behind {vs = vs} v start) to same = at_arms (Some b) is (record { kept = stmt_tree b.value ⊳ ε; gone = stmt_tree a ⊳ ε; names = vs; chooses = subst (λ k. Chooses k (stmt_tree a ⊳ stmt_tree b.value ⊳ ε) (stmt_tree b.value ⊳ ε) (stmt_tree a ⊳ ε)) (sym h) (else_arm (stmt_tree a) (stmt_tree b.value)); vars = v; is = at_end vs middle x b.value start to same })

  pub none_behind : known ≡ false → o ≡ None → VarsBehind (stmt_tree a ⊳ ε) (list_trees stmt_tree before) (list_trees stmt_tree after) → ArmsBehind known (stmt_tree a ⊳ optional_trees stmt_tree o) (list_trees stmt_tree before) (list_trees stmt_tree after)
  none_behind h is (vars_behind {vs = vs} v start) = at_arms None is (record { kept = ε; gone = stmt_tree a ⊳ ε; names = vs; chooses = subst (λ k. Chooses k (stmt_tree a ⊳ ε) ε (stmt_tree a ⊳ ε)) (sym h) (no_arm (stmt_tree a)); vars = v; is = start ∙ ap (joined (list_trees stmt_tree before)) (sym (joined_none vs)) })

pub without_else : (mark : ℕ) (n m : IfStmt) (u : Tree) → m.span ≡ n.span → expr_tree m.test.value ≡ expr_tree n.test.value → stmt_tree m.cons.value ≡ stmt_tree n.cons.value → m.alt ≡ None → EmptyElse (arms n) (stmt_tree n.cons.value) → all_plain (arms n) ≡ true → Turns mark (if_tree n) u (Some (in_stmt.If m))
without_else mark n m u at test cons alt h plain =
    subst (λ t. Turns mark t u (Some (in_stmt.If m))) (sym (if_tree-is n))
    (else_turns mark n.span n.test.value (arms n) (stmt_tree n.cons.value) u (in_stmt.If m) h plain
    (stmt_tree-If m ∙ if_tree-is m ∙ ap (λ s. node tree.If (s ∷ []) (expr_tree m.test.value ⊳ stmt_tree m.cons.value ⊳ optional_trees stmt_tree m.alt)) at ∙ ap (λ t. node tree.If (n.span ∷ []) (t ⊳ stmt_tree m.cons.value ⊳ optional_trees stmt_tree m.alt)) test ∙ ap (λ t. node tree.If (n.span ∷ []) (expr_tree n.test.value ⊳ t ⊳ optional_trees stmt_tree m.alt)) cons ∙ ap (λ o. node tree.If (n.span ∷ []) (expr_tree n.test.value ⊳ stmt_tree n.cons.value ⊳ optional_trees stmt_tree o)) alt))

-- blocks and labels

pub empty_turns : (mark : ℕ) (s : Span) (xs : List Stmt) (u : Tree) (r : Stmt) → length xs ≡ 0 → stmt_tree r ≡ node tree.Empty (s ∷ []) ε → Turns mark (node tree.Block (s ∷ []) (list_trees stmt_tree xs)) u (Some r)
empty_turns mark s xs u r h is = subst (λ ts. Turns mark (node tree.Block (s ∷ []) ts) u (Some r)) (sym (nothing xs h)) (turned u (s ∷ []) r (rule.block_empty (s ∷ [])) is)

one_turns : (mark : ℕ) (s : Span) (ts : Forest) (u : Tree) (r : Stmt) → OneShallow ts → ts ≡ stmt_tree r ⊳ ε → Turns mark (node tree.Block (s ∷ []) ts) u (Some r)
one_turns mark s ts u r (one_shallow t h k) is = turned u [] r (rule.block_one (s ∷ []) t h k (subst (λ x. gives_nothing x ≡ true) same (stmt_gives_nothing r))) same
  where
    same : stmt_tree r ≡ t
    same = cc

-- a block whose one statement is moved out
pub popped_turns : (mark : ℕ) (s : Span) (xs ys : List Stmt) (u : Tree) (o : Option Stmt) → OneShallow (list_trees stmt_tree xs) → (0 < length xs → IsSome o) → xs ≡ ys ++ option_to_list o → Turns mark (node tree.Block (s ∷ []) (list_trees stmt_tree xs)) u o
popped_turns mark s [] ys u o h some is = elim h [ ]
popped_turns mark s (x ∷ z ∷ xs) ys u o h some is = elim h [ ]
popped_turns mark s (x ∷ []) ys u None h some is = let e : false ≡ true = some (omega arith) in cc
popped_turns mark s (x ∷ []) [] u (Some r) h some is = one_turns mark s _ u r h (ap (list_trees stmt_tree) is)
popped_turns mark s (x ∷ []) (y ∷ ys) u (Some r) h some is = absurd (omega (arith, ap length is, length-append ys (r ∷ [])))

pub label_turns : (mark : ℕ) (l : Text) (ss : List Span) (s : Span) (t u : Tree) (r : Stmt) → Idles l t → stmt_tree r ≡ node tree.Empty (s ∷ []) ε → Turns mark (node (tree.Labeled l) ss (t ⊳ ε)) u (Some r)
label_turns mark l ss s t u r (idle rs) is = turned u (s ∷ []) r (rule.label_empty l ss rs) is
label_turns mark l ss s t u r (leaves m rs h) is = turned u (s ∷ []) r (rule.label_left l m ss rs h) is

-- `try`

pub handler_behind : (n : CatchClause Stmt) (before after : Forest) → VarsBehind (list_trees stmt_tree n.body.stmts.items) before after → VarsBehind (handler_tree stmt_tree (Some n) ⊳ ε) before after
handler_behind n before after (vars_behind {vs = vs} h is) = vars_behind (rw append-nil h) is

pub no_handler : (before : Forest) → VarsBehind (handler_tree stmt_tree None ⊳ ε) before before
no_handler before = vars_behind none_declared (sym (joined_none before))

module _ (mark : ℕ) (p : Option (Option Name)) (ss bs : List Span) (xs : List Stmt) (h : Tree) (before middle : Forest) (u : Tree) (r : Stmt) where
  at_nothing : (f : Tree) → length xs ≡ 0 → Turns mark (node (tree.Try p) ss (node tree.Block bs ε ⊳ h ⊳ f ⊳ ε)) u (Some r) → Turns mark (node (tree.Try p) ss (node tree.Block bs (list_trees stmt_tree xs) ⊳ h ⊳ f ⊳ ε)) u (Some r)
  at_nothing f none k = subst (λ ts. Turns mark (node (tree.Try p) ss (node tree.Block bs ts ⊳ h ⊳ f ⊳ ε)) u (Some r)) (sym (nothing xs none)) k

  pub try_alone : (rs : List Span) → length xs ≡ 0 → before ≡ ε → VarsBehind (h ⊳ ε) before middle → stmt_tree r ≡ as_statement rs middle → Turns mark (node (tree.Try p) ss (node tree.Block bs (list_trees stmt_tree xs) ⊳ h ⊳ absent ⊳ ε)) u (Some r)
  try_alone rs none start (vars_behind {vs = vs} k at) is = at_nothing absent none (turned u rs r (rule.try_alone p ss bs [] h k) (is ∙ ap (as_statement rs) (at ∙ ap (λ x. joined x vs) start)))

  pub try_beside : (rs : List Span) (f : BlockStmt Stmt) (after : Forest) → length xs ≡ 0 → before ≡ ε → VarsBehind (h ⊳ ε) before middle → after ≡ joined middle (block_tree stmt_tree f ⊳ ε) → stmt_tree r ≡ as_statement rs after → Turns mark (node (tree.Try p) ss (node tree.Block bs (list_trees stmt_tree xs) ⊳ h ⊳ block_tree stmt_tree f ⊳ ε)) u (Some r)
  try_beside rs f after none start (vars_behind {vs = vs} k at) last is = at_nothing (block_tree stmt_tree f) none (turned u rs r (rule.try_beside p ss bs (f.span ∷ []) h (list_trees stmt_tree f.stmts.items) k) (is ∙ ap (as_statement rs) (last ∙ ap (λ x. joined x (block_tree stmt_tree f ⊳ ε)) (at ∙ ap (λ x. joined x vs) start))))

  pub try_inside : (s : Span) (f : BlockStmt Stmt) (after : Forest) → length xs ≡ 0 → before ≡ ε → all_plain (list_trees stmt_tree f.stmts.items) ≡ true → VarsBehind (h ⊳ ε) before middle → after ≡ joined middle (list_trees stmt_tree f.stmts.items) → stmt_tree r ≡ node tree.Block (s ∷ []) after → Turns mark (node (tree.Try p) ss (node tree.Block bs (list_trees stmt_tree xs) ⊳ h ⊳ block_tree stmt_tree f ⊳ ε)) u (Some r)
  try_inside s f after none start plain (vars_behind {vs = vs} k at) last is = at_nothing (block_tree stmt_tree f) none (turned u [] r (rule.try_inside p ss bs (f.span ∷ []) (s ∷ []) h (list_trees stmt_tree f.stmts.items) plain k) (is ∙ ap (node tree.Block (s ∷ [])) (last ∙ ap (λ x. joined x (list_trees stmt_tree f.stmts.items)) (at ∙ ap (λ x. joined x vs) start))))

module _ (mark : ℕ) (n : TryStmt Stmt) (before middle : Forest) (u : Tree) (r : Stmt) (none : length n.block.stmts.items ≡ 0) (start : before ≡ ε) where
  at_last : (o : Option (BlockStmt Stmt)) → n.finalizer ≡ o → Turns mark (node (tree.Try (handler_param n.handler)) (n.span ∷ handler_spans n.handler) (block_tree stmt_tree n.block ⊳ handler_tree stmt_tree n.handler ⊳ option_block_tree stmt_tree o ⊳ ε)) u (Some r) → Turns mark (try_tree stmt_tree n) u (Some r)
  at_last o is k = subst (λ p. Turns mark (node (tree.Try (handler_param n.handler)) (n.span ∷ handler_spans n.handler) (block_tree stmt_tree n.block ⊳ handler_tree stmt_tree n.handler ⊳ option_block_tree stmt_tree p ⊳ ε)) u (Some r)) (sym is) k

  pub alone_turns : (rs : List Span) → n.finalizer ≡ None → VarsBehind (handler_tree stmt_tree n.handler ⊳ ε) before middle → stmt_tree r ≡ as_statement rs middle → Turns mark (try_tree stmt_tree n) u (Some r)
  alone_turns rs last h is = at_last None last (try_alone mark (handler_param n.handler) (n.span ∷ handler_spans n.handler) (n.block.span ∷ []) n.block.stmts.items (handler_tree stmt_tree n.handler) before middle u r rs none start h is)

  pub beside_turns : (rs : List Span) (f : BlockStmt Stmt) (after : Forest) → n.finalizer ≡ Some f → VarsBehind (handler_tree stmt_tree n.handler ⊳ ε) before middle → after ≡ joined middle (block_tree stmt_tree f ⊳ ε) → stmt_tree r ≡ as_statement rs after → Turns mark (try_tree stmt_tree n) u (Some r)
  beside_turns rs f after last h to is = at_last (Some f) last (try_beside mark (handler_param n.handler) (n.span ∷ handler_spans n.handler) (n.block.span ∷ []) n.block.stmts.items (handler_tree stmt_tree n.handler) before middle u r rs f after none start h to is)

  pub inside_turns : (s : Span) (f : BlockStmt Stmt) (after : Forest) → n.finalizer ≡ Some f → all_plain (list_trees stmt_tree f.stmts.items) ≡ true → VarsBehind (handler_tree stmt_tree n.handler ⊳ ε) before middle → after ≡ joined middle (list_trees stmt_tree f.stmts.items) → stmt_tree r ≡ node tree.Block (s ∷ []) after → Turns mark (try_tree stmt_tree n) u (Some r)
  inside_turns s f after last plain h to is = at_last (Some f) last (try_inside mark (handler_param n.handler) (n.span ∷ handler_spans n.handler) (n.block.span ∷ []) n.block.stmts.items (handler_tree stmt_tree n.handler) before middle u r s f after none start plain h to is)

pub bare_turns : (mark : ℕ) (t b u : Tree) (r : Stmt) → IsBare t b → stmt_tree r ≡ b → Turns mark t u (Some r)
bare_turns mark t b u r (bare ss bs hs fs cs) is = turned u [] r (rule.try_block ss bs hs fs cs) is
