-- Whether a function with a default stands apart, by whether a node is a function.
use Rattle.std.proofs.Common.{◌≡◌, true, false, sym, ap}
use Rattle.std.specs.Prelude.{if◌then◌else◌}
use Rattle.swc_ast.specs.Tree.{Label, Forest}
use Rattle.swc_ast.specs.Scope.{is_function}
use Rattle.swc_ast.specs.Resolved.{params_apart}
use Rattle.swc_resolved.specs.Scopes.{own_apart}

pub plain_apart : (l : Label) (cs : Forest) → is_function l ≡ false → true ≡ own_apart l cs
plain_apart l cs is = sym (ap (λ b. if b then params_apart cs else true) is)

pub function_apart : (l : Label) (cs : Forest) → is_function l ≡ true → params_apart cs ≡ own_apart l cs
function_apart l cs is = sym (ap (λ b. if b then params_apart cs else true) is)
