-- Loops over statements and cases that are moved.
use Rattle.std.proofs.Common.{◌≡◌, Bool, true, false, List, [], ◌∷◌, ◌++◌, length, refl, sym, ap, ◌∙◌, arith, ◌≤◌}
use Rattle.std.specs.Vec.Iter.{into_iter_items, into_iter_len}
use Rattle.std.specs.declared.vec.IntoIter.{IntoIter}
use Rattle.swc_ast.specs.Parts.{list_trees}
use Rattle.swc_ast.specs.Scope.{joined}
use Rattle.swc_ast.specs.Tree.{Forest, ε, ◌⊳◌}
use Rattle.swc_ast.specs.Views.{stmt_tree}
use Rattle.swc_ast.specs.declared.statements.Stmt.{Stmt}
use Rattle.swc_ast.specs.declared.statements.SwitchCase.{SwitchCase}
use Rattle.swc_utils.specs.Pure.{no_trees}
use Rattle.swc_utils.proofs.Chains.{joined_none, joined_assoc, pushed}
use Rattle.branch_rules.specs.Switches.{bodies_of}
use Rattle.branch_switch.specs.Clauses.{clause, clauses}
use Rattle.branch_switch.specs.Kept.{stopped_by, only_if, stays, goes, kept, gone}

none_of : {X : Type 0} (xs : List X) → length xs ≡ 0 → xs ≡ []
none_of [] h = refl
none_of (x ∷ xs) h = absurd (omega (arith, h))

-- an iterator that has no items left
pub at_end : {X Z : Type 0} (f : List X → Forest) → f [] ≡ ε → (a : Forest) (it : IntoIter X Z) {g : Forest} → into_iter_len it ≡ 0 → joined a (f (into_iter_items it)) ≡ g → a ≡ g
at_end f none a it h is = sym (joined_none a) ∙ (ap (joined a) (sym (ap f (none_of (into_iter_items it) (sym it.rest.ok.0 ∙ h)) ∙ none)) ∙ is)

-- lists that are put together
pub appended : (xs ys : List Stmt) → list_trees stmt_tree (xs ++ ys) ≡ joined (list_trees stmt_tree xs) (list_trees stmt_tree ys)
appended [] ys = refl
appended (x ∷ xs) ys = ap (λ ts. stmt_tree x ⊳ ts) (appended xs ys)

-- a part more, in front of what is left
more : (a d one rest : Forest) {g : Forest} → d ≡ joined a one → joined a (joined one rest) ≡ g → joined d rest ≡ g
more a d one rest is h = ap (λ e. joined e rest) is ∙ (joined_assoc a one rest ∙ h)

pub bodies_on : (a d : Forest) (x : SwitchCase) (xs ys : List SwitchCase) {g : Forest} → ys ≡ x ∷ xs → d ≡ joined a (clause x).body → joined a (bodies_of (clauses ys)) ≡ g → joined d (bodies_of (clauses xs)) ≡ g
bodies_on a d x xs ys at is h = more a d (clause x).body (bodies_of (clauses xs)) is (sym (ap (λ zs. joined a (bodies_of (clauses zs))) at) ∙ h)

pub kept_on : (a d : Forest) (b c : Bool) (x : Stmt) (xs ys : List Stmt) {g : Forest} → ys ≡ x ∷ xs → c ≡ stopped_by b (stmt_tree x) → d ≡ joined a (only_if (stays b (stmt_tree x)) (stmt_tree x)) → joined a (kept b (list_trees stmt_tree ys)) ≡ g → joined d (kept c (list_trees stmt_tree xs)) ≡ g
kept_on a d b c x xs ys at next is h =
    ap (λ e. joined d (kept e (list_trees stmt_tree xs))) next
    ∙ more a d (only_if (stays b (stmt_tree x)) (stmt_tree x)) (kept (stopped_by b (stmt_tree x)) (list_trees stmt_tree xs)) is (sym (ap (λ zs. joined a (kept b (list_trees stmt_tree zs))) at) ∙ h)

pub gone_on : (a d : Forest) (b c : Bool) (x : Stmt) (xs ys : List Stmt) {g : Forest} → ys ≡ x ∷ xs → c ≡ stopped_by b (stmt_tree x) → d ≡ joined a (only_if (goes b (stmt_tree x)) (stmt_tree x)) → joined a (gone b (list_trees stmt_tree ys)) ≡ g → joined d (gone c (list_trees stmt_tree xs)) ≡ g
gone_on a d b c x xs ys at next is h =
    ap (λ e. joined d (gone e (list_trees stmt_tree xs))) next
    ∙ more a d (only_if (goes b (stmt_tree x)) (stmt_tree x)) (gone (stopped_by b (stmt_tree x)) (list_trees stmt_tree xs)) is (sym (ap (λ zs. joined a (gone b (list_trees stmt_tree zs))) at) ∙ h)

-- a statement that is put behind others, where a test says so

pub put : (b : Bool) (xs ys : List Stmt) (s : Stmt) → b ≡ true → ys ≡ xs ++ s ∷ [] → list_trees stmt_tree ys ≡ joined (list_trees stmt_tree xs) (only_if b (stmt_tree s))
put b xs ys s e at = ap (list_trees stmt_tree) at ∙ (pushed stmt_tree xs s ∙ sym (ap (λ c. joined (list_trees stmt_tree xs) (only_if c (stmt_tree s))) e))

pub not_put : (b : Bool) (xs : List Stmt) (s : Stmt) → b ≡ false → list_trees stmt_tree xs ≡ joined (list_trees stmt_tree xs) (only_if b (stmt_tree s))
not_put b xs s e = sym (ap (λ c. joined (list_trees stmt_tree xs) (only_if c (stmt_tree s))) e ∙ joined_none (list_trees stmt_tree xs))

-- a list that isn't empty
pub some_trees : (xs : List Stmt) → 1 ≤ length xs → false ≡ no_trees (list_trees stmt_tree xs)
some_trees [] h = absurd (omega (arith, h))
some_trees (x ∷ xs) h = refl
