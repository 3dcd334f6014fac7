-- What the dead-branch remover does at a node, in front of its children and when it has done them, and at lists.
use Rattle.std.specs.Prelude.{ℕ, ◌≡◌, Bool, true, false, not, ◌&&◌, List}
use Rattle.swc_ast.specs.declared.Span.{Span}
use Rattle.swc_ast.specs.Redex.{own_redex, list_redex, is_delete}
use Rattle.swc_ast.specs.Tree.{Name, Label, Param, Tree, node, Forest, ε, ◌⊳◌, label_of}
use Rattle.swc_ast.specs.Valid.{good_shape}
use Rattle.swc_ast.specs.Weight.{is_list}
use Rattle.swc_ast.specs.Labels.{is_expression}
use Rattle.static_proofs.specs.Free.{is_folded, kind_at}
use Rattle.tree_walk.specs.Pass.{Pass}
use Rattle.pass_rules.specs.Defaults.{is_void}
use Rattle.branch_rules.specs.Expressions.{ExpressionStep}
use Rattle.branch_rules.specs.Jumps.{every}
use Rattle.branch_rules.specs.Lists.{Tidied, kept_names}
use Rattle.branch_rules.specs.Once.{DoStep}
use Rattle.branch_rules.specs.Statements.{as_statement, StatementStep}
use Rattle.branch_rules.specs.Switches.{ShedStep, SwitchStep}
use Rattle.branch_rules.specs.Within.{WithinStep}

-- some statements in the place of one
pub data BranchStep (mark : ℕ) : Tree → Forest → Type 0 where
  statement : {t : Tree} {us : Forest} → StatementStep mark t us → BranchStep mark t us
  once : {t : Tree} {us : Forest} → DoStep mark every t us → BranchStep mark t us
  within : {t : Tree} {us : Forest} → WithinStep mark t us → BranchStep mark t us
  cases : {t : Tree} {us : Forest} → SwitchStep mark t us → BranchStep mark t us

-- what a node becomes: one of the rules, or several one behind another
pub data Removes (mark : ℕ) : Tree → Tree → Type 0 where
  of_expression : {t u : Tree} → is_expression (label_of u) ≡ true → ExpressionStep mark t u → Removes mark t u
  of_statement : {t : Tree} (rs : List Span) {us : Forest} → BranchStep mark t us → Removes mark t (as_statement rs us)
  of_default : {x : Name} {ss rs : List Span} {d : Tree} → is_void mark d ≡ true → Removes mark (node (Param x) ss (d ⊳ ε)) (node (Param x) rs ε)
  followed : {t u v : Tree} → is_list (label_of t) ≡ false → Removes mark t u → Removes mark u v → Removes mark t v

-- A statement that a rule takes: a condition, a loop, an expression statement, `switch` or `try` on literals that tell what it
-- does. One whose parts aren't what its label wants is none.
abbrev pub statement_redex : Label → Forest → Bool
statement_redex l cs = good_shape l cs && (not (is_folded l) && own_redex l cs)

-- a node that no rule of statements takes
abbrev pub Rests : Tree → Type 0
Rests t = kind_at statement_redex t ≡ false

-- The operand of `delete` isn't entered.
abbrev pub remove_pass : ℕ → Pass
remove_pass mark = record { opens = ShedStep mark; steps = Removes mark; rests = Rests; tidies = λ l ts us. Tidied (kept_names l ts) ts us; tidy = λ l ts. list_redex ts ≡ false; skips = λ t. is_delete (label_of t) ≡ true }
