-- What looks at statements tell.
use Rattle.std.proofs.Common.{◌≡◌, ℕ, Bool, true, false, ◌==◌, List, [], ◌∷◌, length, Option, Some, None, refl, sym, ap, subst, ◌∙◌, arith}
use Rattle.std.proofs.lemmas.Bool.{false≢true}
use Rattle.std.specs.Prelude.{slice_index_or, bytes_eq}
use Rattle.std.specs.Cmp.{unsigned_Decides}
use Rattle.std.specs.declared.alloc.Global.{Global}
use Rattle.std.specs.declared.boxed.Box.{Box}
use Rattle.swc_ast.specs.declared.declarations.Decl.TheOpen as Open
use Rattle.swc_ast.specs.declared.declarations.Decl.TheViews.{roll-Stmt, out-Stmt, roll-out-Stmt}
use Rattle.swc_ast.specs.declared.names.IdentName.{IdentName}
use Rattle.swc_ast.specs.declared.statements.BlockStmt.{BlockStmt}
use Rattle.swc_ast.specs.declared.statements.BreakStmt.{BreakStmt}
use Rattle.swc_ast.specs.declared.statements.EmptyStmt.{EmptyStmt}
use Rattle.swc_ast.specs.declared.statements.Stmt.{Stmt}
use Rattle.swc_ast.specs.declared.statements.Stmt.TheVariants as in_stmt
use Rattle.swc_ast.specs.declared.declarations.Decl.{Decl}
use Rattle.swc_ast.specs.declared.statements.ForStmt.{ForStmt}
use Rattle.swc_ast.specs.declared.statements.IfStmt.{IfStmt}
use Rattle.swc_ast.specs.declared.statements.TryStmt.{TryStmt}
use Rattle.swc_ast.specs.declared.statements.WhileStmt.{WhileStmt}
use Rattle.swc_ast.specs.Parts.{list_trees, option_word_spans, option_word_text, optional_trees, word_text}
use Rattle.swc_ast.specs.Redex.{is_empty}
use Rattle.swc_ast.specs.Statements.{block_tree, do_while_node, handler_param, handler_spans, handler_tree, option_block_tree, try_tree, while_node}
use Rattle.swc_ast.specs.Tree as tree
use Rattle.swc_ast.specs.Tree.{Tree, node, ε, ◌⊳◌, label_of}
use Rattle.swc_ast.specs.Views.{decl_tree, stmt_tree}
use Rattle.swc_ast.proofs.ApartStatements.{StmtForm, stmt_form, stmt_number, stmt_at}
use Rattle.swc_ast.proofs.Equations.{for_tree-is, if_tree-is, loop_trees-is, stmt_tree-Break, stmt_tree-Decl, stmt_tree-DoWhile, stmt_tree-Empty, stmt_tree-For, stmt_tree-If, stmt_tree-While}
use Rattle.branch_rules.specs.Statements.{all_flat, is_flat, is_plain, is_shallow}
use Rattle.branch_statements.specs.Arms.{EmptyElse, EmptyStatement, LoneEmpty, arms, empty, empty_else, lone_empty}
use Rattle.branch_statements.specs.Shapes.{Idles, IsBare, OneShallow, bare, idle, leaves, one_shallow}

-- counts

pub counted : (b : Bool) (n : ℕ) (xs : List Stmt) → b ≡ true → b ≡ (n == 0) → n ≡ length xs → length xs ≡ 0
counted b n xs h is len = omega (arith, len, (unsigned_Decides n 0).0 (sym is ∙ h))

pub uncounted : (b : Bool) (n : ℕ) (xs : List Stmt) → b ≡ false → b ≡ (n == 0) → n ≡ length xs → length xs ≡ 0 → ⊥
uncounted b n xs h is len none = let e : (n == 0) ≡ true = ap (λ k. k == 0) (len ∙ none) in cc

pub none_left : (xs : List Stmt) → length xs ≡ 0 → xs ≡ []
none_left [] h = refl
none_left (x ∷ xs) h = absurd (omega (arith, h))

pub nothing : (xs : List Stmt) → length xs ≡ 0 → list_trees stmt_tree xs ≡ ε
nothing [] h = refl
nothing (x ∷ xs) h = absurd (omega (arith, h))

pub one_at : (xs : List Stmt) (x : Stmt) → length xs ≡ 1 → x ≡ slice_index_or xs 0 x → is_plain (stmt_tree x) ≡ true → is_shallow (stmt_tree x) ≡ true → OneShallow (list_trees stmt_tree xs)
one_at [] x n at h k = absurd (omega (arith, n))
one_at (y ∷ []) x n at h k = one_shallow (stmt_tree y) (sym (ap (λ z. is_plain (stmt_tree z)) at) ∙ h) (sym (ap (λ z. is_shallow (stmt_tree z)) at) ∙ k)
one_at (y ∷ z ∷ ys) x n at h k = absurd (omega (arith, n))

-- what stands in conditions and loops

pub if_shallow : (s : Stmt) (n : IfStmt) (b : Bool) → s ≡ in_stmt.If n → b ≡ all_flat (arms n) → b ≡ is_shallow (stmt_tree s)
if_shallow s n b is h = h ∙ sym (ap is_shallow (ap stmt_tree is ∙ stmt_tree-If n ∙ if_tree-is n))

at_body : (x y : Stmt) (b : Bool) → x ≡ y → b ≡ is_flat (stmt_tree x) → b ≡ is_flat (stmt_tree y)
at_body x y b at h = h ∙ ap (λ z. is_flat (stmt_tree z)) at

pub while_shallow : (s : Stmt) (n : WhileStmt) (x : Stmt) (b : Bool) → s ≡ in_stmt.While n → x ≡ n.body.value → b ≡ is_flat (stmt_tree x) → b ≡ is_shallow (stmt_tree s)
while_shallow s n x b is at h = at_body x n.body.value b at h ∙ sym (ap is_shallow (ap stmt_tree is ∙ stmt_tree-While n ∙ ap while_node (loop_trees-is n)))

pub do_shallow : (s : Stmt) (n : WhileStmt) (x : Stmt) (b : Bool) → s ≡ in_stmt.DoWhile n → x ≡ n.body.value → b ≡ is_flat (stmt_tree x) → b ≡ is_shallow (stmt_tree s)
do_shallow s n x b is at h = at_body x n.body.value b at h ∙ sym (ap is_shallow (ap stmt_tree is ∙ stmt_tree-DoWhile n ∙ ap do_while_node (loop_trees-is n)))

pub for_shallow : (s : Stmt) (n : Box ForStmt Global) (x : Stmt) (b : Bool) → s ≡ in_stmt.For n → x ≡ n.value.body.value → b ≡ is_flat (stmt_tree x) → b ≡ is_shallow (stmt_tree s)
for_shallow s n x b is at h = at_body x n.value.body.value b at h ∙ sym (ap is_shallow (ap stmt_tree is ∙ stmt_tree-For n ∙ for_tree-is n.value))

pub decl_shallow : (s : Stmt) (n : Decl) (b : Bool) → s ≡ in_stmt.Decl n → b ≡ is_flat (decl_tree n) → b ≡ true → b ≡ is_shallow (stmt_tree s)
decl_shallow s n b is h k = k ∙ sym (ap is_shallow (ap stmt_tree is ∙ stmt_tree-Decl n) ∙ flat_shallow (decl_tree n) (sym h ∙ k))
  where
    flat_shallow : (t : Tree) → is_flat t ≡ true → is_shallow t ≡ true
    flat_shallow (node tree.If ss cs) e = absurd (false≢true e)
    flat_shallow (node tree.While ss cs) e = absurd (false≢true e)
    flat_shallow (node tree.DoWhile ss cs) e = absurd (false≢true e)
    flat_shallow (node tree.For ss cs) e = absurd (false≢true e)
    flat_shallow t e = refl

-- empty statements

pub empty_shape : (s : Stmt) (n : EmptyStmt) → s ≡ in_stmt.Empty n → EmptyStatement (stmt_tree s)
empty_shape s n is = subst EmptyStatement (sym (ap stmt_tree is ∙ stmt_tree-Empty n)) (empty (n.span ∷ []))

no_empty : (t : Tree) → (stmt_form (label_of t) ≡ 2 → ⊥) → is_empty t ≡ false
no_empty (node tree.Empty ss cs) h = absurd (h refl)
no_empty _ h = refl

pub not_empty : (s : Stmt) → ((x : _) → s ≡ in_stmt.Empty x → ⊥) → false ≡ is_empty (stmt_tree s)
not_empty s others = by (out-Stmt s) (roll-out-Stmt s)
  where
    numbers : (p : StmtForm) → roll-Stmt p ≡ s → (stmt_number p ≡ 2 → ⊥) → false ≡ is_empty (stmt_tree s)
    numbers p r h = sym (no_empty (stmt_tree s) (λ k. h (sym (stmt_at p) ∙ ap (λ x. stmt_form (label_of (stmt_tree x))) r ∙ k)))

    by : (p : StmtForm) → roll-Stmt p ≡ s → false ≡ is_empty (stmt_tree s)
    by (Open.Empty y) r = absurd (others y (sym r ∙ in_stmt.rolls-Empty y))
    by p r = numbers p r (λ h. absurd (omega (arith, h)))

pub empty_alt : (a : Tree) (o : Option (Box Stmt Global)) (b : Box Stmt Global) (s : Stmt) → o ≡ Some b → s ≡ b.value → EmptyStatement (stmt_tree s) → EmptyElse (a ⊳ optional_trees stmt_tree o) a
empty_alt a o b s is at h = subst (λ p. EmptyElse (a ⊳ optional_trees stmt_tree p) a) (sym is) (by (stmt_tree b.value) (subst (λ x. EmptyStatement (stmt_tree x)) at h))
  where
    by : (t : Tree) → EmptyStatement t → EmptyElse (a ⊳ t ⊳ ε) a
    by t (empty ss) = empty_else a ss

pub empty_cons : (a s : Stmt) (o : Option (Box Stmt Global)) → o ≡ None → s ≡ a → EmptyStatement (stmt_tree s) → LoneEmpty (stmt_tree a ⊳ optional_trees stmt_tree o)
empty_cons a s o is at h = subst (λ p. LoneEmpty (stmt_tree a ⊳ optional_trees stmt_tree p)) (sym is) (by (stmt_tree a) (subst (λ x. EmptyStatement (stmt_tree x)) at h))
  where
    by : (t : Tree) → EmptyStatement t → LoneEmpty (t ⊳ ε)
    by t (empty ss) = lone_empty ss

-- labels

pub idle_empty : (l : IdentName) (s : Stmt) (n : EmptyStmt) → s ≡ in_stmt.Empty n → Idles (word_text l) (stmt_tree s)
idle_empty l s n is = subst (Idles (word_text l)) (sym (ap stmt_tree is ∙ stmt_tree-Empty n)) (idle (n.span ∷ []))

pub idle_break : (l m : IdentName) (s : Stmt) (n : BreakStmt) (b : Bool) → s ≡ in_stmt.Break n → n.label ≡ Some m → b ≡ bytes_eq l.sym m.sym → b ≡ true → Idles (word_text l) (stmt_tree s)
idle_break l m s n b is at e h =
    subst (Idles (word_text l)) (sym (ap stmt_tree is ∙ stmt_tree-Break n))
    (subst (λ o. Idles (word_text l) (node (tree.Break (option_word_text o)) (n.span ∷ option_word_spans o) ε)) (sym at) (leaves (word_text m) _ (sym e ∙ h)))

-- `try`

pub bare_at : (n : TryStmt Stmt) (f : BlockStmt Stmt) → n.handler ≡ None → n.finalizer ≡ Some f → length f.stmts.items ≡ 0 → IsBare (try_tree stmt_tree n) (block_tree stmt_tree n.block)
bare_at n f alone at none =
    let b : Tree = block_tree stmt_tree n.block in
    subst (λ h. IsBare (node (tree.Try (handler_param h)) (n.span ∷ handler_spans h) (b ⊳ handler_tree stmt_tree h ⊳ option_block_tree stmt_tree n.finalizer ⊳ ε)) b) (sym alone)
    (subst (λ o. IsBare (node (tree.Try None) (n.span ∷ []) (b ⊳ handler_tree stmt_tree None ⊳ option_block_tree stmt_tree o ⊳ ε)) b) (sym at)
    (subst (λ ts. IsBare (node (tree.Try None) (n.span ∷ []) (b ⊳ handler_tree stmt_tree None ⊳ node tree.Block (f.span ∷ []) ts ⊳ ε)) b) (sym (nothing f.stmts.items none))
    (bare (n.span ∷ []) (n.block.span ∷ []) [] (f.span ∷ []) (list_trees stmt_tree n.block.stmts.items))))
