-- What follows from the label of a tree: what it declares, and what no label of its kind is.
use Rattle.std.proofs.Common.{◌≡◌, ℕ, true, false, [], refl, ⊎_elim}
use Rattle.std.proofs.lemmas.Bool.{false≢true, or_cases}
use Rattle.swc_ast.specs.declared.VarDeclKind.TheVariants.{Var}
use Rattle.swc_ast.specs.Tree.{Label, VarDecl, Absent, Tree, node, label_of, expr, simple, holder}
use Rattle.swc_ast.specs.Scope.{vars, declared_by}
use Rattle.meaning_proofs.specs.Roles.{is_item}
use Rattle.meaning_proofs.proofs.Quiet.{declares_nothing}
use Rattle.swc_ast.specs.Labels.{is_param, is_whole, is_expression}
use Rattle.static_proofs.proofs.Expressions.{expression_quiet}
use Rattle.branch_rules.specs.Statements.{is_plain, is_absent, is_optional, Part, part_goes, part_left}

pub expression_declares : (t : Tree) → is_expression (label_of t) ≡ true → declared_by t ≡ []
expression_declares (node (expr e) ss cs) h = refl
expression_declares _ h = absurd (false≢true h)

pub plain_declares : (t : Tree) → is_plain t ≡ true → declared_by t ≡ []
plain_declares (node (simple s) ss cs) h = refl
plain_declares (node (holder l) ss cs) h = refl
plain_declares (node (VarDecl Var) ss cs) h = refl
plain_declares _ h = absurd (false≢true h)

-- an expression declares no `var`, and neither does a part that is left out
pub expression_vars : (t : Tree) → is_expression (label_of t) ≡ true → vars t ≡ []
expression_vars t h = (expression_quiet t h).no_vars

absent_vars : (t : Tree) → is_absent t ≡ true → vars t ≡ []
absent_vars (node Absent ss cs) h = refl
absent_vars _ h = absurd (false≢true h)

pub optional_vars : (t : Tree) → is_optional t ≡ true → vars t ≡ []
optional_vars t h = ⊎_elim (expression_vars t) (absent_vars t) (or_cases (is_expression (label_of t)) (is_absent t) h)

pub part_vars : {mark : ℕ} {a b : Tree} → Part mark a b → vars b ≡ []
part_vars (part_goes rs a r) = refl
part_vars (part_left a v e r) = expression_vars v e

pub part_declares : {mark : ℕ} {a b : Tree} → Part mark a b → declared_by b ≡ []
part_declares (part_goes rs a r) = refl
part_declares (part_left a v e r) = expression_declares v e

-- the label of an expression declares nothing, is no item of a module, no parameter and no module
pub record Inside (l : Label) : Type 0 where
  pub nothing : declares_nothing l ≡ true
  pub no_item : is_item l ≡ false
  pub no_param : is_param l ≡ false
  pub below_top : is_whole l ≡ false

inside_of : {l : Label} → declares_nothing l ≡ true → is_item l ≡ false → is_param l ≡ false → is_whole l ≡ false → Inside l
inside_of a b c d = record { nothing = a; no_item = b; no_param = c; below_top = d }

pub expression_inside : (l : Label) → is_expression l ≡ true → Inside l
expression_inside (expr e) h = inside_of refl refl refl refl
expression_inside _ h = absurd (false≢true h)
