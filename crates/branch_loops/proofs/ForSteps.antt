-- Steps of `for`.
use Rattle.std.proofs.Common.{◌≡◌, ◌<◌, ℕ, Bool, true, false, ◌||◌, [], ◌∷◌, Option, Some, None, refl, sym, ap, subst, ◌∙◌, arith}
use Rattle.std.specs.declared.alloc.Global.{Global}
use Rattle.std.specs.declared.boxed.Box.{Box}
use Rattle.swc_ast.specs.Parts.{absent, tree_or_absent}
use Rattle.swc_ast.specs.SameLaws.{impossible}
use Rattle.swc_ast.specs.Statements.{for_node, option_init_tree}
use Rattle.swc_ast.specs.Tree.{For, Tree, node, ε, ◌⊳◌, label_of}
use Rattle.swc_ast.specs.Views.{expr_tree, for_tree, stmt_tree}
use Rattle.swc_ast.specs.Weight.{own_weight, weight, is_truth_or_absent}
use Rattle.swc_ast.specs.declared.Span.{Span}
use Rattle.swc_ast.specs.declared.expressions.Expr.{Expr}
use Rattle.swc_ast.specs.declared.statements.ForStmt.{ForStmt}
use Rattle.swc_ast.specs.declared.statements.Stmt.{Stmt}
use Rattle.swc_ast.specs.declared.statements.VarDeclOrExpr.{VarDeclOrExpr}
use Rattle.swc_ast.proofs.Equations.{for_tree-is}
use Rattle.swc_ast.specs.Labels.{is_expression}
use Rattle.swc_utils.specs.Known.{truth, pure_truth}
use Rattle.swc_utils.specs.Pure.{pure}
use Rattle.pass_proofs.proofs.ExprTrees.{is_an_expression}
use Rattle.branch_rules.specs.Removes.{statement}
use Rattle.branch_rules.specs.Statements.{is_optional, StatementStep, Part, part_goes, part_left, for_first, for_update, for_true, for_false, for_no_update, for_no_body, for_never}
use Rattle.branch_rules.specs.Turns.{Turns, by_rule}
use Rattle.branch_expressions.specs.Left.{IsLeft}
use Rattle.branch_expressions.specs.declared.ignored.Left.{Left as LeftKind}
use Rattle.branch_expressions.specs.declared.ignored.Left.TheVariants as left
use Rattle.branch_expressions.proofs.Made.{pure_known}
use Rattle.branch_loops.specs.Bodies.{IsNames, PartLeft, part_same, part_changed, Outweighs, truth_tree}

-- a `for` by the trees of its parts
abbrev parts_tree : Span → Tree → Tree → Tree → Tree → Tree
parts_tree s i t u b = node For (s ∷ []) (i ⊳ t ⊳ u ⊳ b ⊳ ε)

same_parts : (s : Span) {i j t v u w b c : Tree} → i ≡ j → t ≡ v → u ≡ w → b ≡ c → parts_tree s i t u b ≡ parts_tree s j v w c
same_parts s {i} {j} {t} {v} {u} {w} {b} {c} e f g h = ap (λ x. parts_tree s x t u b) e ∙ ap (λ x. parts_tree s j x u b) f ∙ ap (λ x. parts_tree s j v x b) g ∙ ap (λ x. parts_tree s j v w x) h

pub same_for : (s : Span) (i j : Option (VarDeclOrExpr Expr)) (t v u w : Option (Box Expr Global)) (b c : Box Stmt Global) → i ≡ j → t ≡ v → u ≡ w → stmt_tree b.value ≡ stmt_tree c.value → for_node expr_tree stmt_tree s i t u b ≡ for_node expr_tree stmt_tree s j v w c
same_for s i j t v u w b c e f g h = same_parts s (ap (option_init_tree expr_tree) e) (ap (tree_or_absent expr_tree) f) (ap (tree_or_absent expr_tree) g) h

-- what is left of the first part, or of the update

pub part_unchanged : (mark : ℕ) (t : Tree) → PartLeft mark t t false
part_unchanged mark t = part_same refl

pub part_kept : (mark : ℕ) (t u x y : Tree) (k : LeftKind) → k ≡ left.Same → IsLeft mark x y k → x ≡ t → u ≡ y → PartLeft mark t u false
part_kept mark t u x y k is h a b = part_same (b ∙ subst (IsLeft mark x y) is h ∙ a)

pub part_other : (mark : ℕ) (t u : Tree) (e f : Expr) (k : LeftKind) → k ≡ left.Changed → IsLeft mark (expr_tree e) (expr_tree f) k → expr_tree e ≡ t → u ≡ expr_tree f → PartLeft mark t u true
part_other mark t u e f k is h a b =
    subst (λ x. PartLeft mark x u true) a (subst (λ x. PartLeft mark (expr_tree e) x true) (sym b) (part_changed (is_an_expression e) (part_left (expr_tree e) (expr_tree f) (is_an_expression f) (subst (IsLeft mark (expr_tree e) (expr_tree f)) is h))))

pub part_gone : (mark : ℕ) (t y : Tree) (e : Expr) (k : LeftKind) → k ≡ left.Nothing → IsLeft mark (expr_tree e) y k → expr_tree e ≡ t → PartLeft mark t absent true
part_gone mark t y e k is h a = subst (λ x. PartLeft mark x absent true) a (part_changed (is_an_expression e) (part_goes [] (expr_tree e) (subst (IsLeft mark (expr_tree e) y) is h)))

part_is : (mark : ℕ) (t u : Tree) (c : Bool) → c ≡ true → PartLeft mark t u c → (is_expression (label_of t) ≡ true) × Part mark t u
part_is mark t u c h (part_same e) = impossible h
part_is mark t u c h (part_changed e p) = (e, p)

part_was : (mark : ℕ) (t u : Tree) (c : Bool) → c ≡ false → PartLeft mark t u c → u ≡ t
part_was mark t u c h (part_same e) = e
part_was mark t u c h (part_changed e p) = impossible (sym h)

-- tests and updates

pub test_expression : (mark : ℕ) (o : Option (Box Expr Global)) (k : Bool) → pure_truth mark (tree_or_absent expr_tree o) ≡ Some k → is_expression (label_of (tree_or_absent expr_tree o)) ≡ true
test_expression mark None k h = cc
test_expression mark (Some e) k h = is_an_expression e.value

pub no_weight : (o : Option (Box Expr Global)) → 0 < weight (tree_or_absent expr_tree o) → is_expression (label_of (tree_or_absent expr_tree o)) ≡ true
unfolding own_weight
no_weight None h = absurd (omega (arith, h))
no_weight (Some e) h = is_an_expression e.value

or_true : (a b : Bool) → a ≡ true → (a || b) ≡ true
or_true a b h = ap (λ c. c || b) h

optional : (o : Option (Box Expr Global)) → is_optional (tree_or_absent expr_tree o) ≡ true
optional None = refl
optional (Some e) = or_true _ _ (is_an_expression e.value)

-- a loop of the same parts
pub for_same : (n m : ForStmt) → m.span ≡ n.span → option_init_tree expr_tree m.init ≡ option_init_tree expr_tree n.init → tree_or_absent expr_tree m.test ≡ tree_or_absent expr_tree n.test → tree_or_absent expr_tree m.update ≡ tree_or_absent expr_tree n.update → m.body ≡ n.body → for_tree m ≡ for_tree n
for_same n m s i t u b =
    for_tree-is m
    ∙ same_parts m.span i t u (ap (λ (x : Box Stmt Global). stmt_tree x.value) b)
    ∙ ap (λ x. parts_tree x (option_init_tree expr_tree n.init) (tree_or_absent expr_tree n.test) (tree_or_absent expr_tree n.update) (stmt_tree n.body.value)) s
    ∙ sym (for_tree-is n)

-- a loop without turns and without a first part goes
pub never_for : (mark : ℕ) (n : ForStmt) (u : Tree) (s b : Stmt) → IsNames (stmt_tree b) (stmt_tree s) → b ≡ n.body.value → option_init_tree expr_tree n.init ≡ absent → pure_truth mark (tree_or_absent expr_tree n.test) ≡ Some false → Turns mark (for_tree n) u (Some s)
never_for mark n u s b names at none h =
    let k = subst (λ x. IsNames (stmt_tree x) (stmt_tree s)) at names in
    let t = tree_or_absent expr_tree n.test in
    let p = pure_known (pure mark t) (truth mark t) false h in
    subst (λ x. Turns mark x u (Some s)) (sym (for_tree-is n ∙ same_parts n.span none refl refl refl))
    (by_rule k.spans (statement (for_never (n.span ∷ []) [] t (tree_or_absent expr_tree n.update) (stmt_tree n.body.value) (test_expression mark n.test false h) (optional n.update) p.0 p.1 k.declares)) k.is)

module _ (mark : ℕ) (n m : ForStmt) where
  turns_by : (u : Tree) (s : Stmt) {j v w c : Tree} → stmt_tree s ≡ for_tree m → StatementStep mark (parts_tree n.span (option_init_tree expr_tree n.init) (tree_or_absent expr_tree n.test) (tree_or_absent expr_tree n.update) (stmt_tree n.body.value)) (parts_tree m.span j v w c ⊳ ε) → option_init_tree expr_tree m.init ≡ j → tree_or_absent expr_tree m.test ≡ v → tree_or_absent expr_tree m.update ≡ w → stmt_tree m.body.value ≡ c → Turns mark (for_tree n) u (Some s)
  turns_by u s is step e f g h = subst (λ x. Turns mark x u (Some s)) (sym (for_tree-is n)) (by_rule [] (statement step) (is ∙ for_tree-is m ∙ same_parts m.span e f g h))

  body_same : m.body ≡ n.body → stmt_tree m.body.value ≡ stmt_tree n.body.value
  body_same b = ap (λ (x : Box Stmt Global). stmt_tree x.value) b

  pub init_turns : (u : Tree) (s : Stmt) (c : Bool) → stmt_tree s ≡ for_tree m → c ≡ true → PartLeft mark (option_init_tree expr_tree n.init) (option_init_tree expr_tree m.init) c → m.test ≡ n.test → m.update ≡ n.update → m.body ≡ n.body → Turns mark (for_tree n) u (Some s)
  init_turns u s c is h p t v b =
      let q = part_is mark _ _ c h p in
      turns_by u s is (for_first (n.span ∷ []) (m.span ∷ []) (option_init_tree expr_tree n.init) (option_init_tree expr_tree m.init) (tree_or_absent expr_tree n.test) (tree_or_absent expr_tree n.update) (stmt_tree n.body.value) q.0 q.1) refl (ap (tree_or_absent expr_tree) t) (ap (tree_or_absent expr_tree) v) (body_same b)

  pub init_was : (c : Bool) → c ≡ false → PartLeft mark (option_init_tree expr_tree n.init) (option_init_tree expr_tree m.init) c → m.span ≡ n.span → m.test ≡ n.test → m.update ≡ n.update → m.body ≡ n.body → for_tree m ≡ for_tree n
  init_was c h p s t v b = for_same n m s (part_was mark _ _ c h p) (ap (tree_or_absent expr_tree) t) (ap (tree_or_absent expr_tree) v) b

  pub update_turns : (u : Tree) (s : Stmt) (c : Bool) → stmt_tree s ≡ for_tree m → c ≡ true → PartLeft mark (tree_or_absent expr_tree n.update) (tree_or_absent expr_tree m.update) c → m.init ≡ n.init → m.test ≡ n.test → m.body ≡ n.body → Turns mark (for_tree n) u (Some s)
  update_turns u s c is h p i t b =
      let q = part_is mark _ _ c h p in
      turns_by u s is (for_update (n.span ∷ []) (m.span ∷ []) (option_init_tree expr_tree n.init) (tree_or_absent expr_tree n.test) (tree_or_absent expr_tree n.update) (tree_or_absent expr_tree m.update) (stmt_tree n.body.value) q.0 q.1) (ap (option_init_tree expr_tree) i) (ap (tree_or_absent expr_tree) t) refl (body_same b)

  pub update_was : (c : Bool) → c ≡ false → PartLeft mark (tree_or_absent expr_tree n.update) (tree_or_absent expr_tree m.update) c → m.span ≡ n.span → m.init ≡ n.init → m.test ≡ n.test → m.body ≡ n.body → for_tree m ≡ for_tree n
  update_was c h p s i t b = for_same n m s (ap (option_init_tree expr_tree) i) (ap (tree_or_absent expr_tree) t) (part_was mark _ _ c h p) b

  pub test_goes : (u : Tree) (s : Stmt) → stmt_tree s ≡ for_tree m → pure_truth mark (tree_or_absent expr_tree n.test) ≡ Some true → m.test ≡ None → m.init ≡ n.init → m.update ≡ n.update → m.body ≡ n.body → Turns mark (for_tree n) u (Some s)
  test_goes u s is h none i v b =
      let t = tree_or_absent expr_tree n.test in
      let p = pure_known (pure mark t) (truth mark t) true h in
      turns_by u s is (for_true (n.span ∷ []) [] (m.span ∷ []) (option_init_tree expr_tree n.init) t (tree_or_absent expr_tree n.update) (stmt_tree n.body.value) (test_expression mark n.test true h) p.0 p.1) (ap (option_init_tree expr_tree) i) (ap (tree_or_absent expr_tree) none) (ap (tree_or_absent expr_tree) v) (body_same b)

  module _ (h : pure_truth mark (tree_or_absent expr_tree n.test) ≡ Some false) where
    abbrev test : Tree
    test = tree_or_absent expr_tree n.test

    is_pure : pure mark test ≡ true
    is_pure = (pure_known (pure mark test) (truth mark test) false h).0

    is_false : truth mark test ≡ Some false
    is_false = (pure_known (pure mark test) (truth mark test) false h).1

    pub test_is_false : (u : Tree) (s : Stmt) → stmt_tree s ≡ for_tree m → is_truth_or_absent test ≡ false → tree_or_absent expr_tree m.test ≡ truth_tree false → m.init ≡ n.init → m.update ≡ n.update → m.body ≡ n.body → Turns mark (for_tree n) u (Some s)
    test_is_false u s is shut made i v b = turns_by u s is (for_false (n.span ∷ []) (record { lo = 0; hi = 0 } ∷ []) (m.span ∷ []) (option_init_tree expr_tree n.init) test (tree_or_absent expr_tree n.update) (stmt_tree n.body.value) (test_expression mark n.test false h) shut is_pure is_false) (ap (option_init_tree expr_tree) i) made (ap (tree_or_absent expr_tree) v) (body_same b)

    pub no_update : (u : Tree) (s : Stmt) → stmt_tree s ≡ for_tree m → 0 < weight (tree_or_absent expr_tree n.update) → m.update ≡ None → m.init ≡ n.init → m.test ≡ n.test → m.body ≡ n.body → Turns mark (for_tree n) u (Some s)
    no_update u s is some none i t b = turns_by u s is (for_no_update (n.span ∷ []) [] (m.span ∷ []) (option_init_tree expr_tree n.init) test (tree_or_absent expr_tree n.update) (stmt_tree n.body.value) (test_expression mark n.test false h) (no_weight n.update some) some is_pure is_false) (ap (option_init_tree expr_tree) i) (ap (tree_or_absent expr_tree) t) (ap (tree_or_absent expr_tree) none) (body_same b)

    pub no_body : (u : Tree) (s b r : Stmt) → stmt_tree s ≡ for_tree m → IsNames (stmt_tree b) (stmt_tree r) → b ≡ n.body.value → Outweighs (stmt_tree n.body.value) → m.body.value ≡ r → m.init ≡ n.init → m.test ≡ n.test → m.update ≡ n.update → Turns mark (for_tree n) u (Some s)
    no_body u s b r is names at heavy body i t v =
        let k = subst (λ x. IsNames (stmt_tree x) (stmt_tree r)) at names in
        turns_by u s is (for_no_body (n.span ∷ []) k.spans (m.span ∷ []) (option_init_tree expr_tree n.init) test (tree_or_absent expr_tree n.update) (stmt_tree n.body.value) (test_expression mark n.test false h) is_pure is_false k.declares (heavy.more k.spans k.names k.declares)) (ap (option_init_tree expr_tree) i) (ap (tree_or_absent expr_tree) t) (ap (tree_or_absent expr_tree) v) (ap stmt_tree body ∙ k.is)
