-- What is proved of each step of the dead-branch remover.
use Rattle.std.specs.Prelude.{ℕ, ◌≡◌, Bool, true, false, ◌&&◌, ◌||◌}
use Rattle.swc_ast.specs.Redex.{list_redex}
use Rattle.swc_ast.specs.Tree.{Name, Label, Tree, Forest}
use Rattle.swc_ast.specs.Valid.{valid}
use Rattle.swc_ast.specs.Weight.{is_list}
use Rattle.meaning_proofs.specs.Exact.{ListExact}
use Rattle.static_proofs.specs.Free.{branch_redex, has_kind, kind_at}
use Rattle.static_proofs.specs.Lighter.{is_settled}
use Rattle.static_proofs.specs.Vars.{LosesNoVar}
use Rattle.walk_proofs.specs.Dying.{DyingRight}
use Rattle.walk_proofs.specs.Finished.{Does, Finished}
use Rattle.walk_proofs.specs.Laws.{StepsOwed}
use Rattle.walk_proofs.specs.Plain.{NodeRight}
use Rattle.branch_rules.specs.Removes.{Removes, statement_redex, remove_pass}

-- what a node becomes does exactly what the node does, and declares the same; or it is a parameter that loses a default
-- that gives undefined
abbrev pub RemovesAreRight : Type 0
RemovesAreRight = (mark : ℕ) (t u : Tree) → Removes mark t u → NodeRight mark t u

-- Each step is lighter, keeps what a pass may not touch and drops no name that it may not, whatever these are; so is a list
-- that is tidied, and a block that is tidied and then opened.
abbrev pub StepsOwe : Type 0
StepsOwe = (mark : ℕ) (p : Name → Bool) → StepsOwed (remove_pass mark) true p

-- what no rule takes, of a node and of its list
abbrev pub left_redex : Label → Forest → Bool
left_redex l cs = statement_redex l cs || (is_list l && list_redex cs)

-- nothing of that is where the pass leaves a node as it is, and nothing stands behind a stopper
abbrev pub FinishedIsFree : Type 0
FinishedIsFree = (mark : ℕ) (b : Tree) → Finished (remove_pass mark) b → kind_at left_redex b ≡ false

abbrev pub FinishedIsSettled : Type 0
FinishedIsSettled = (mark : ℕ) (b : Tree) → Finished (remove_pass mark) b → is_settled b

-- in a valid tree there is no other redex of statements and lists
abbrev pub ValidIsFree : Type 0
ValidIsFree = (t : Tree) → valid t ≡ true → has_kind left_redex t ≡ false → has_kind branch_redex t ≡ false

-- a list that is tidied does exactly what it did
abbrev pub TidiedIsExact : Type 0
TidiedIsExact = (mark : ℕ) (l : Label) (ts us : Forest) → (remove_pass mark).tidies l ts us → ListExact mark ts us

-- no `var` name goes, neither in a tree nor of the body of a module or a script
abbrev pub NoVarGoes : Type 0
NoVarGoes = (mark : ℕ) (a b : Tree) → Does (remove_pass mark) a b → LosesNoVar a b

-- each step does the same and declares the same, but that `let` and `const` go with their names behind what never ends normally
abbrev pub RemovesDie : Type 0
RemovesDie = (mark : ℕ) → DyingRight (remove_pass mark) mark
