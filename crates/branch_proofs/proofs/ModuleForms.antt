-- The list step of a module: of the statements behind a stopper the `var` names stay, and those names of `let` and `const`
-- that have to be kept, which P holds of; they become `var` names.
use Rattle.std.specs.Prelude.{◌≤◌, ◌≡◌, true, false, List, [], ◌++◌, length}
use Rattle.swc_ast.specs.declared.Span.{Span}
use Rattle.swc_ast.specs.declared.VarDeclKind.TheVariants.{Var}
use Rattle.swc_ast.specs.Tree.{Name, VarDecl, Module, Tree, node, Forest, ε, ◌⊳◌}
use Rattle.swc_ast.specs.Scope.{vars_all, declarator_names, joined}
use Rattle.swc_ast.specs.Valid.{count}
use Rattle.swc_ast.specs.Core.{list_names}
use Rattle.swc_ast.specs.Weight.{is_stopper}
use Rattle.static_proofs.specs.Names.{Within}
use Rattle.static_proofs.specs.Spares.{Spared}
use Rattle.branch_proofs.proofs.ListForms.{Sweeps, are_bare}
use Rattle.branch_rules.specs.Lists.{staying, going, all_statements}

abbrev pub all_declared : Forest → List Name
all_declared ts = vars_all ts ++ list_names ts

pub data ModuleHoists (P : Name → Type 0) (ts : Forest) : Forest → Type 0 where
  no_names : vars_all ts ≡ [] → Spared P (list_names ts) [] → ModuleHoists P ts ε
  some_names : {ss : List Span} {ds : Forest} → are_bare ds ≡ true → Within (declarator_names ds) (all_declared ts) → Within (vars_all ts) (declarator_names ds) → Spared P (list_names ts) (declarator_names ds) → 1 ≤ count ds → count ds ≤ length (all_declared ts) → ModuleHoists P ts (node (VarDecl Var) ss ds ⊳ ε)

pub data ModuleCuts (P : Name → Type 0) : Forest → Forest → Type 0 where
  uncut : ModuleCuts P ε ε
  past_item : {t : Tree} {ts us : Forest} → is_stopper t ≡ false → ModuleCuts P ts us → ModuleCuts P (t ⊳ ts) (t ⊳ us)
  cut_at : {t : Tree} {ts hs : Forest} → is_stopper t ≡ true → ModuleHoists P (going ts) hs → ModuleCuts P (t ⊳ ts) (joined hs (t ⊳ staying ts))

pub data ModuleStep (P : Name → Type 0) : Tree → Tree → Type 0 where
  tidy_module : {ss : List Span} {ts us vs : Forest} → Sweeps ts us → all_statements us ≡ true → ModuleCuts P us vs → (vs ≡ ts → ⊥) → ModuleStep P (node Module ss ts) (node Module ss vs)
