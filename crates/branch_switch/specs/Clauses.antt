-- The cases of a `switch` as the rules have them, and what is told of them.
use Rattle.std.specs.Prelude.{ℕ, Bool, true, ◌&&◌, ◌||◌, List, [], ◌∷◌, map}
use Rattle.swc_ast.specs.Parts.{list_trees, tree_or_absent}
use Rattle.swc_ast.specs.Statements.{is_missing}
use Rattle.swc_ast.specs.Views.{expr_tree, stmt_tree}
use Rattle.swc_ast.specs.declared.expressions.Expr.{Expr}
use Rattle.swc_ast.specs.declared.statements.SwitchCase.{SwitchCase}
use Rattle.swc_ast.specs.declared.declarations.Decl.TheViews.{out-SwitchStmt}
use Rattle.swc_ast.specs.declared.statements.SwitchStmt.{SwitchStmt}
use Rattle.swc_utils.specs.Pure.{pure}
use Rattle.branch_rules.specs.Statements.{all_plain}
use Rattle.branch_rules.specs.Switches.{Clause, starts_with_break}

-- a case
abbrev pub clause : SwitchCase → Clause
clause c = record { is_default = is_missing c.test; test = tree_or_absent expr_tree c.test; spans = c.span ∷ []; body = list_trees stmt_tree c.cons.items }

-- cases in order
abbrev pub clauses : List SwitchCase → List Clause
clauses = map clause

-- what a `switch` asks for
abbrev pub discriminant_of : SwitchStmt → Expr
discriminant_of n = (out-SwitchStmt n).discriminant.value

-- its cases
abbrev pub cases_of : SwitchStmt → List SwitchCase
cases_of n = (out-SwitchStmt n).cases.items

-- a test without effect, or none
abbrev pub is_pure_test : ℕ → Clause → Bool
is_pure_test mark k = k.is_default || pure mark k.test

-- a case that does nothing where it is selected, and declares nothing
abbrev pub is_idle : ℕ → Clause → Bool
is_idle mark k = starts_with_break k.body && (is_pure_test mark k && all_plain k.body)

-- the same of each case
abbrev pub all_idle : ℕ → List Clause → Bool
all_idle mark [] = true
all_idle mark (k ∷ ks) = is_idle mark k && all_idle mark ks

-- no statement of a case declares anything
abbrev pub plain_bodies : List Clause → Bool
plain_bodies [] = true
plain_bodies (k ∷ ks) = all_plain k.body && plain_bodies ks
