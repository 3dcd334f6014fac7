-- Statements are no imports.
use Rattle.std.proofs.Common.{◌≡◌, ◌≤◌, Bool, false, List, [], ◌++◌, subst, sym, ap, ◌∙◌, arith, refl}
use Rattle.std.proofs.lemmas.List.{append-nil}
use Rattle.swc_ast.specs.Tree.{Text, Label, Import, Tree, node, Forest, label_of, children_of}
use Rattle.swc_ast.specs.Views.{stmt_tree}
use Rattle.swc_ast.specs.declared.declarations.Decl.TheOpen as Open
use Rattle.swc_ast.specs.declared.declarations.Decl.TheViews.{out-Stmt, roll-out-Stmt}
use Rattle.swc_ast.specs.declared.statements.Stmt.{Stmt}
use Rattle.swc_ast.proofs.ApartStatements.{StmtForm, stmt_form, stmt_number, stmt_at}
use Rattle.const_imports.specs.Locals.{Local, given_label, item_locals}

label_same : (t : Tree) → label_of t ≡ label_of t
label_same (node l ss cs) = refl

numbered : (o : StmtForm) → 1 ≤ stmt_number o
numbered (Open.Block n) = omega arith
numbered _ = omega arith

-- a statement has a number
stmt_numbered : (s : Stmt) → 1 ≤ stmt_form (label_of (stmt_tree s))
stmt_numbered s = subst (λ l. 1 ≤ stmt_form l) (label_same (stmt_tree s)) (subst (λ x. 1 ≤ stmt_form (label_of (stmt_tree x))) (roll-out-Stmt s) (subst (λ n. 1 ≤ n) (sym (stmt_at (out-Stmt s))) (numbered (out-Stmt s))))

module _ (is_given : Text → Bool) where
  no_given : (l : Label) → 1 ≤ stmt_form l → given_label is_given l ≡ false
  no_given (Import src) h = absurd (omega (arith, h))
  no_given l h = refl

  no_locals : (l : Label) (cs : Forest) → 1 ≤ stmt_form l → item_locals is_given l cs ≡ []
  no_locals (Import src) cs h = absurd (omega (arith, h))
  no_locals l cs h = refl

  pub no_import : (s : Stmt) → false ≡ given_label is_given (label_of (stmt_tree s))
  no_import s = sym (no_given (label_of (stmt_tree s)) (stmt_numbered s))

  pub nothing_added : (s : Stmt) (ls : List Local) → ls ≡ ls ++ item_locals is_given (label_of (stmt_tree s)) (children_of (stmt_tree s))
  nothing_added s ls = sym (append-nil ls) ∙ ap (λ ms. ls ++ ms) (sym (no_locals (label_of (stmt_tree s)) (children_of (stmt_tree s)) (stmt_numbered s)))
