-- What is proved of propagation in modules and scripts: trees whose nodes stand where they may and have their parts, as views do.
use Rattle.std.specs.Prelude.{ℕ, ◌≡◌, ◌≤◌, Bool, true, false, List}
use Rattle.swc_ast.specs.declared.Span.{Span}
use Rattle.swc_ast.specs.declared.modules.Module.{Module as ModuleView}
use Rattle.swc_ast.specs.declared.modules.Script.{Script as ScriptView}
use Rattle.swc_ast.specs.Modules.{module_tree, script_tree}
use Rattle.swc_ast.specs.Tree.{Name, Module, Script, Tree, node, Forest}
use Rattle.swc_ast.specs.Valid.{valid}
use Rattle.swc_ast.specs.Resolved.{IsResolved}
use Rattle.swc_ast.specs.Core.{IsCore}
use Rattle.swc_ast.specs.Run.{Same}
use Rattle.static_proofs.specs.Shaped.{IsShaped}
use Rattle.carry_rules.specs.Carry.{Pass, constants, inlines, writes, declares_const, how_many, propagated}
use Rattle.carry_rules.specs.Late.{is_late, declares_literal}
use Rattle.carry_rules.specs.Voids.{is_voided, declares_set}
use Rattle.carry_rules.specs.Parted.{IsParted}

-- a module or a script, whose nodes stand where they may and have their parts
pub data IsWhole : Tree → Type 0 where
  a_module : {ss : List Span} {cs : Forest} → IsShaped (node Module ss cs) → IsParted (node Module ss cs) → IsWhole (node Module ss cs)
  a_script : {ss : List Span} {cs : Forest} → IsShaped (node Script ss cs) → IsParted (node Script ss cs) → IsWhole (node Script ss cs)

-- views are whole
abbrev pub ModulesAreWhole : Type 0
ModulesAreWhole = (m : ModuleView) → IsWhole (module_tree m)

abbrev pub ScriptsAreWhole : Type 0
ScriptsAreWhole = (s : ScriptView) → IsWhole (script_tree s)

-- where what is carried is put, a resolved module or script of the core does the same
abbrev pub PropagationIsSame : Type 0
PropagationIsSame = (p : Pass) (mark : ℕ) (loads : Bool) (t : Tree) → IsWhole t → IsResolved mark t → IsCore t → Same mark loads t (propagated p t)

-- and it stays resolved, valid and in the core
abbrev pub PropagationIsResolved : Type 0
PropagationIsResolved = (p : Pass) (mark : ℕ) (t : Tree) → IsWhole t → IsResolved mark t → IsResolved mark (propagated p t)

abbrev pub PropagationIsValid : Type 0
PropagationIsValid = (p : Pass) (t : Tree) → IsWhole t → valid t ≡ true → valid (propagated p t) ≡ true

abbrev pub PropagationIsCore : Type 0
PropagationIsCore = (p : Pass) (t : Tree) → IsWhole t → IsCore t → IsCore (propagated p t)

-- names of which a pass carries literals: those of `const`, and where names are inlined those that nothing writes
abbrev pub Stays : Pass → Name → Tree → Type 0
Stays constants x t = 1 ≤ how_many (λ l cs. declares_const x l) t
Stays inlines x t = how_many (λ l cs. writes x l) t ≡ 0

-- no read of such a name that is declared with a literal stands later than its declaration
abbrev pub LiteralsArePut : Type 0
LiteralsArePut = (p : Pass) (mark : ℕ) (t : Tree) → IsWhole t → IsResolved mark t → IsCore t → (x : Name) → Stays p x t → 1 ≤ how_many (declares_literal p x) t → is_late p x (propagated p t) ≡ false

-- `void 0` is put for names alone of which no declaration has an initialiser
abbrev pub VoidIsPut : Type 0
VoidIsPut = (t : Tree) → IsWhole t → (x : Name) → is_voided x t (propagated inlines t) ≡ true → how_many (declares_set x) t ≡ 0
