-- What is read of a branch, where there is one.
use Rattle.std.specs.Prelude.{List, [], Option, Some, None, Box}
use Rattle.std.specs.declared.alloc.Global.{Global}
use Rattle.swc_expr_map.specs.declared.entry.Entry.{Entry}

-- the entries of a branch, if there is one
abbrev pub entries : {B : Type 0} → (B → List Entry) → Option (Box B Global) → List Entry
entries f None = []
entries f (Some b) = f b.value

-- what holds of a branch, if there is one
abbrev pub IfBranch : {B : Type 0} → (B → Type 0) → Option (Box B Global) → Type 0
IfBranch P None = Unit {0}
IfBranch P (Some b) = P b.value
