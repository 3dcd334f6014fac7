-- What a scope binds, and what is left free where scopes are bound one by one.
use Rattle.std.specs.Prelude.{ℕ, ◌+◌, ◌≤◌, ◌≡◌, Bool, true, false, List, [], ◌++◌, if◌then◌else◌}
use Rattle.swc_ast.specs.Tree as tree
use Rattle.swc_ast.specs.Tree.{Name, Label, Tree, Forest, ◌⊳◌}
use Rattle.swc_ast.specs.Scope.{is_function, option_name, declared, case_statements, import_names}
use Rattle.swc_ast.specs.Meaning.{head_names, first_tree}
use Rattle.swc_ast.specs.Resolved.{one_if, catch_name, first_names, declared_names, params_of, body_of, params_apart, scopes, own_exports_bound}
use Rattle.swc_resolved.specs.Names.{is_free}
use Rattle.swc_resolved.specs.declared.scopes.Bound.{Bound}
use Rattle.swc_resolved.specs.declared.scopes.Bound.TheVariants as bound
use Rattle.swc_resolved.specs.declared.functions.Half.{Half}
use Rattle.swc_resolved.specs.declared.functions.Half.TheVariants as half

-- the names that a node binds in a scope of its own, those of a function's parameters and body aside
abbrev pub own_names : Label → Forest → List Name
own_names (tree.Fn o) cs = option_name o
own_names tree.Block cs = first_names (declared cs)
own_names tree.For cs = first_names (head_names (first_tree cs))
own_names (tree.Switch ds) cs = first_names (declared (case_statements cs))
own_names (tree.Try o) cs = catch_name o
own_names tree.Module cs = import_names cs ++ declared_names cs
own_names tree.Script cs = declared_names cs
own_names _ cs = []

-- the parameters or the statements among a function's children
abbrev pub half_of : Half → Forest → Forest
half_of half.Params cs = params_of cs
half_of half.Body cs = body_of cs

abbrev pub is_half : Half → Label → Bool
is_half half.Params tree.Params = true
is_half half.Params _ = false
is_half half.Body tree.Body = true
is_half half.Body _ = false

-- a parameter with a default
abbrev pub is_defaulted : Label → Forest → Bool
is_defaulted (tree.Param x) (d ⊳ ds) = true
is_defaulted _ ds = false

-- a node that opens scopes
abbrev pub opens_scope : Label → Bool
opens_scope tree.Module = true
opens_scope tree.Script = true
opens_scope tree.Block = true
opens_scope tree.For = true
opens_scope (tree.Switch ds) = true
opens_scope (tree.Try o) = true
opens_scope l = is_function l

-- Scopes are bound, as many for each name as `more` says: names that were taken or are bound by them are taken;
-- or one of them is bound a second time.
abbrev pub Binds : Bool → (Name → Bool) → (Name → Bool) → (Name → ℕ) → Type 0
Binds true old new more = (x : Name) → one_if (new x) ≡ one_if (old x) + more x
Binds false old new more = (x : Name) × (2 ≤ one_if (old x) + more x)

-- The same by how scopes were bound, where it is also told whether they declare no name twice.
abbrev pub BindsNamed : Bound → (Name → Bool) → (Name → Bool) → (Name → ℕ) → Bool → Type 0
BindsNamed bound.Once old new more good = Binds true old new more × (good ≡ true)
BindsNamed bound.Again old new more good = Binds true old new more × (good ≡ false)
BindsNamed bound.Taken old new more good = Binds false old new more

-- how scopes were bound and, behind them, others
abbrev pub both : Bound → Bound → Bound
both bound.Once b = b
both bound.Again bound.Once = bound.Again
both bound.Again b = b
both bound.Taken b = bound.Taken

-- a function's parameters, where one has a default, and its body declare no text in common
abbrev pub own_apart : Label → Forest → Bool
own_apart l cs = if is_function l then params_apart cs else true

-- No name is bound twice, no unresolved name is bound, and what is exported by name is bound.
abbrev pub BindsWell : ℕ → Tree → Type 0
BindsWell mark t = ((x : Name) → one_if (is_free mark x) + scopes x t ≤ 1) × (own_exports_bound t ≡ true)
