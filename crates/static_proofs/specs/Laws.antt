-- What is proved of a rewrite of a whole module, from what it keeps.
use Rattle.std.specs.Prelude.{ℕ, ◌≡◌, Bool, true, false}
use Rattle.swc_ast.specs.Tree.{Name, Tree, bare}
use Rattle.swc_ast.specs.Core.{IsCore}
use Rattle.swc_ast.specs.Modules.{module_tree, script_tree}
use Rattle.swc_ast.specs.Redex.{has_redex}
use Rattle.swc_ast.specs.Resolved.{IsResolved}
use Rattle.swc_ast.specs.Scope.{has_name}
use Rattle.static_proofs.specs.Free.{fold_redex, branch_redex, has_kind}
use Rattle.static_proofs.specs.Keeps.{Keeps}
use Rattle.static_proofs.specs.Lighter.{Weighed}
use Rattle.static_proofs.specs.Shaped.{IsShaped}
use Rattle.static_proofs.specs.Spares.{Spares, exports_of}
use Rattle.swc_ast.specs.declared.modules.Module.{Module}
use Rattle.swc_ast.specs.declared.modules.Script.{Script}

-- what is resolved stays so, where the names that it exports by specifiers are spared
abbrev pub KeptIsResolved : Type 0
KeptIsResolved = (mark : ℕ) (p : Name → Bool) (t u : Tree) → Keeps t u → Spares (λ x. p x ≡ true) t u → ((x : Name) → has_name x (exports_of t) ≡ true → p x ≡ true) → IsResolved mark t → IsResolved mark u

-- what is in the core, and so valid, stays so
abbrev pub KeptIsCore : Type 0
KeptIsCore = (t u : Tree) → Keeps t u → IsCore t → IsCore u

-- where no step but a lighter one changes anything, what is the same up to spans is the same
abbrev pub WeighedIsSame : Type 0
WeighedIsSame = (n : Bool) (t u : Tree) → Weighed (n ≡ true) t u → bare u ≡ bare t → u ≡ t

-- what holds no redex of expressions and none of statements and lists holds none
abbrev pub FreeOfBoth : Type 0
FreeOfBoth = (t : Tree) → has_kind fold_redex t ≡ false → has_kind branch_redex t ≡ false → has_redex t ≡ false

-- the views of modules and scripts are shaped
abbrev pub ModulesAreShaped : Type 0
ModulesAreShaped = (m : Module) → IsShaped (module_tree m)

abbrev pub ScriptsAreShaped : Type 0
ScriptsAreShaped = (s : Script) → IsShaped (script_tree s)
