-- What plain statements declare, and what `var` names weigh.
use Rattle.std.proofs.Common.{◌≡◌, ℕ, ◌+◌, ◌*◌, ◌≤◌, Bool, true, false, if◌then◌else◌, List, [], ◌++◌, length, Some, None, refl, ap₂, ◌∙◌, arith, length-append}
use Rattle.std.proofs.lemmas.Bool.{and_parts, false≢true}
use Rattle.swc_ast.specs.declared.VarDeclKind.TheVariants.{Var, Let, Const}
use Rattle.swc_ast.specs.Tree.{Name, Label, Block, Empty, Throw, ExprStmt, Return, If, While, DoWhile, For, Labeled, Break, Continue, Switch, Try, VarDecl, Declarator, Tree, node, Forest, ε, ◌⊳◌, label_of, children_of, simple, holder}
use Rattle.swc_ast.specs.Scope.{vars, vars_all, own_vars, holds_statements, import_names_of, import_names}
use Rattle.swc_ast.specs.Weight.{own_weight, weight, weight_all, stays_behind, is_truth_or_absent}
use Rattle.swc_ast.specs.Core.{list_names}
use Rattle.static_proofs.specs.Names.{names_of}
use Rattle.static_proofs.specs.Spares.{exports_by, exports_all}
use Rattle.static_proofs.specs.Drawn.{is_plain_statement}
use Rattle.static_proofs.proofs.Parts.{names_cons}
use Rattle.branch_rules.specs.Lists.{is_bare, all_bare}
use Rattle.branch_proofs.proofs.ListForms.{may_go}
use Rattle.branch_rules.specs.Statements.{all_plain}

pub record Nothing (t : Tree) : Type 0 where
  pub no_names : names_of t ≡ []
  pub no_imports : import_names_of (label_of t) (children_of t) ≡ []
  pub no_exports : exports_by (label_of t) (children_of t) ≡ []
  pub no_stay : stays_behind t ≡ false
  pub no_truth : is_truth_or_absent t ≡ false

pub plain_nothing : (t : Tree) → is_plain_statement (label_of t) ≡ true → Nothing t
plain_nothing (node (simple s) ss cs) h = record { no_names = refl; no_imports = refl; no_exports = refl; no_stay = refl; no_truth = refl }
plain_nothing (node (holder l) ss cs) h = record { no_names = refl; no_imports = refl; no_exports = refl; no_stay = refl; no_truth = refl }
plain_nothing (node (VarDecl Var) ss cs) h = record { no_names = refl; no_imports = refl; no_exports = refl; no_stay = refl; no_truth = refl }
plain_nothing (node l ss cs) h = absurd (false≢true h)

pub plain_names : (ts : Forest) → all_plain ts ≡ true → list_names ts ≡ []
plain_names ε h = refl
plain_names (t ⊳ ts) h = let p = and_parts (is_plain_statement (label_of t)) (all_plain ts) h in names_cons t ts ∙ ap₂ ◌++◌ (plain_nothing t p.0).no_names (plain_names ts p.1)

pub plain_imports : (ts : Forest) → all_plain ts ≡ true → import_names ts ≡ []
plain_imports ε h = refl
plain_imports (node l ss cs ⊳ ts) h = let p = and_parts (is_plain_statement l) (all_plain ts) h in ap₂ ◌++◌ (plain_nothing (node l ss cs) p.0).no_imports (plain_imports ts p.1)

-- each `var` name weighs 4

own_vars_weight : (l : Label) (cs : Forest) → 4 * length (own_vars l) ≤ own_weight l cs
unfolding own_weight
own_vars_weight (Declarator Var x) cs = omega arith
own_vars_weight l cs = omega arith

inner_vars : (b : Bool) (xs : List Name) (n : ℕ) → 4 * length xs ≤ n → 4 * length (if b then xs else []) ≤ n
inner_vars true xs n h = h
inner_vars false xs n h = omega arith

mutual
  pub vars_weight : (t : Tree) → 4 * length (vars t) ≤ weight t
  vars_weight (node l ss cs) = omega (arith, own_vars_weight l cs, inner_vars (holds_statements l) (vars_all cs) (weight_all cs) (all_vars_weight cs), length-append (own_vars l) (if holds_statements l then vars_all cs else []))

  pub all_vars_weight : (ts : Forest) → 4 * length (vars_all ts) ≤ weight_all ts
  all_vars_weight ε = omega arith
  all_vars_weight (t ⊳ ts) = omega (arith, vars_weight t, all_vars_weight ts, length-append (vars t) (vars_all ts))

-- and a statement weighs more than its `var` names
pub statement_weight : (t : Tree) → may_go t ≡ true → 4 * length (vars t) + 1 ≤ weight t
unfolding own_weight
statement_weight (node Block ss cs) h = omega (arith, all_vars_weight cs)
statement_weight (node Empty ss cs) h = omega arith
statement_weight (node Throw ss cs) h = omega arith
statement_weight (node ExprStmt ss cs) h = omega arith
statement_weight (node Return ss cs) h = omega arith
statement_weight (node If ss cs) h = omega (arith, all_vars_weight cs)
statement_weight (node While ss cs) h = omega (arith, all_vars_weight cs)
statement_weight (node DoWhile ss cs) h = omega (arith, all_vars_weight cs)
statement_weight (node For ss cs) h = omega (arith, all_vars_weight cs)
statement_weight (node (Labeled t) ss cs) h = omega (arith, all_vars_weight cs)
statement_weight (node (Break o) ss cs) h = omega arith
statement_weight (node (Continue o) ss cs) h = omega arith
statement_weight (node (Switch ds) ss cs) h = omega (arith, all_vars_weight cs)
statement_weight (node (Try None) ss cs) h = omega (arith, all_vars_weight cs)
statement_weight (node (Try (Some o)) ss cs) h = omega (arith, all_vars_weight cs)
statement_weight (node (VarDecl kind) ss cs) h = omega (arith, all_vars_weight cs)
statement_weight (node l ss cs) h = absurd (false≢true h)

-- so it is of `let` and `const` of no name

pub bare_nothing : (t : Tree) → is_bare t ≡ true → Nothing t
bare_nothing (node (VarDecl Let) ss ε) h = record { no_names = refl; no_imports = refl; no_exports = refl; no_stay = refl; no_truth = refl }
bare_nothing (node (VarDecl Const) ss ε) h = record { no_names = refl; no_imports = refl; no_exports = refl; no_stay = refl; no_truth = refl }
bare_nothing (node (VarDecl Var) ss ε) h = record { no_names = refl; no_imports = refl; no_exports = refl; no_stay = refl; no_truth = refl }
bare_nothing t h = plain_nothing t h

pub bare_names : (ts : Forest) → all_bare ts ≡ true → list_names ts ≡ []
bare_names ε h = refl
bare_names (t ⊳ ts) h = let p = and_parts (is_bare t) (all_bare ts) h in names_cons t ts ∙ ap₂ ◌++◌ (bare_nothing t p.0).no_names (bare_names ts p.1)

pub bare_imports : (ts : Forest) → all_bare ts ≡ true → import_names ts ≡ []
bare_imports ε h = refl
bare_imports (node l ss cs ⊳ ts) h = let p = and_parts (is_bare (node l ss cs)) (all_bare ts) h in ap₂ ◌++◌ (bare_nothing (node l ss cs) p.0).no_imports (bare_imports ts p.1)

pub bare_exports : (ts : Forest) → all_bare ts ≡ true → exports_all ts ≡ []
bare_exports ε h = refl
bare_exports (node l ss cs ⊳ ts) h = let p = and_parts (is_bare (node l ss cs)) (all_bare ts) h in ap₂ ◌++◌ (bare_nothing (node l ss cs) p.0).no_exports (bare_exports ts p.1)
