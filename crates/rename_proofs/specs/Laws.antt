-- What is proved of modules with other names.
use Rattle.std.specs.Prelude.{ℕ, ◌≡◌, Bool, true}
use Rattle.swc_ast.specs.Tree.{Name, same_name, Tree, bare}
use Rattle.swc_ast.specs.Valid.{valid}
use Rattle.swc_ast.specs.Resolved.{apart, own_exports_bound, IsResolved}
use Rattle.swc_ast.specs.Core.{IsCore}
use Rattle.swc_ast.specs.Run.{Same}
use Rattle.rename_rules.specs.Renamed.{IsRenaming, renamed, own_exports_stay}
use Rattle.rename_rules.specs.Opened.{opened}
use Rattle.rename_rules.specs.Tables.{Table, new_name, all_named, all_identifiers, Fits}

-- a module or a script does the same under other names, where the names of exported declarations stay
abbrev pub RenamedIsSame : Type 0
RenamedIsSame = (mark : ℕ) (loads : Bool) (to : Name → Name) (t : Tree) → IsRenaming mark to → own_exports_stay to t ≡ true → Same mark loads t (renamed to t)

-- it does the same under the new names of a table that fits
abbrev pub TabledIsSame : Type 0
TabledIsSame = (mark : ℕ) (loads : Bool) (ps : Table) (t : Tree) → Fits mark ps t → Same mark loads t (renamed (new_name ps) t)

-- it stays valid and in the core where the new texts are identifiers
abbrev pub TabledIsValid : Type 0
TabledIsValid = (ps : Table) (t : Tree) → all_identifiers ps ≡ true → valid t ≡ true → valid (renamed (new_name ps) t) ≡ true

abbrev pub TabledIsCore : Type 0
TabledIsCore = (mark : ℕ) (ps : Table) (t : Tree) → Fits mark ps t → all_identifiers ps ≡ true → IsCore t → IsCore (renamed (new_name ps) t)

-- and resolved where no new text of a parameter is declared in the body beside a default
abbrev pub TabledIsResolved : Type 0
TabledIsResolved = (mark : ℕ) (ps : Table) (t : Tree) → Fits mark ps t → apart (renamed (new_name ps) t) ≡ true → IsResolved mark t → IsResolved mark (renamed (new_name ps) t)

-- a tree stays where each name stays, and only there it stays up to spans
abbrev pub RenamedTells : Type 0
RenamedTells = (to : Name → Name) (t : Tree) → (all_named (λ x. same_name (to x) x) t ≡ true → renamed to t ≡ t) × (bare (renamed to t) ≡ bare t → all_named (λ x. same_name (to x) x) t ≡ true)

-- a module does the same where its exported declarations are opened
abbrev pub OpenedIsSame : Type 0
OpenedIsSame = (mark : ℕ) (loads : Bool) (t : Tree) → Same mark loads t (opened t)

-- it stays in the core, and resolved where the exported names are bound, as they are in each view of a module
abbrev pub OpenedIsCore : Type 0
OpenedIsCore = (t : Tree) → IsCore t → IsCore (opened t)

abbrev pub OpenedIsResolved : Type 0
OpenedIsResolved = (mark : ℕ) (t : Tree) → own_exports_bound (opened t) ≡ true → IsResolved mark t → IsResolved mark (opened t)
