-- The `var` names of nodes and of lists, one by one.
use Rattle.std.proofs.Common.{◌≡◌, ◌<◌, List, [], ◌∷◌, ◌++◌, length, refl, sym, ap, ◌∙◌, arith}
use Rattle.std.proofs.lemmas.List.{append_assoc, append-nil}
use Rattle.swc_ast.specs.Tree.{Name, Label, Tree, node, Forest, ε, ◌⊳◌, label_of, children_of}
use Rattle.swc_ast.specs.Scope.{vars, vars_all}
use Rattle.std.specs.Borrow.{Bor}
use Rattle.swc_ast.specs.Parts.{list_trees}
use Rattle.swc_ast.specs.Views.{stmt_tree}
use Rattle.swc_ast.specs.declared.names.Ident.{Ident}
use Rattle.swc_ast.specs.declared.statements.Stmt.{Stmt}
use Rattle.branch_vars.specs.Names.{names_of, opened_vars}

by_parts : (t : Tree) → vars t ≡ opened_vars (label_of t) (children_of t)
by_parts (node l ss cs) = refl

-- a node that was looked into
pub opened : (t : Tree) (l : Label) (cs : Forest) → label_of t ≡ l → children_of t ≡ cs → opened_vars l cs ≡ vars t
opened t l cs labelled held = sym (by_parts t ∙ cc (labelled, held))

-- a child was read
pub goes_on : (t : Tree) (ts us : Forest) (xs new g : List Name) → us ≡ t ⊳ ts → new ≡ xs ++ vars t → xs ++ vars_all us ≡ g → new ++ vars_all ts ≡ g
goes_on t ts us xs new g is read h = ap (λ ys. ys ++ vars_all ts) read ∙ append_assoc xs (vars t) (vars_all ts) ∙ sym (ap (λ vs. xs ++ vars_all vs) is) ∙ h

-- sizes

-- the names of one statement
pub one_left : (t : Tree) (old : List (Bor Ident)) → old ≡ [] → names_of old ++ vars t ≡ vars_all (t ⊳ ε)
one_left t old none = ap (λ ns. names_of ns ++ vars t) none ∙ sym (append-nil (vars t))

-- no statement is left
pub all_left : (left : List Stmt) (ns g : List Name) → length left < 1 → ns ++ vars_all (list_trees stmt_tree left) ≡ g → ns ≡ g
all_left [] ns g done h = sym (append-nil ns) ∙ h
all_left (s ∷ rest) ns g done h = absurd (omega (arith, done))
