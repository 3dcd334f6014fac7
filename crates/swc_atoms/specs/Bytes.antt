-- The bytes of a text, wherever they stand.
use Rattle.std.specs.Prelude.{ℕ, List, string_bytes}
use Rattle.swc_atoms.specs.declared.Text.{Text}
use Rattle.swc_atoms.specs.declared.Text.TheVariants.{Short, Long}

abbrev pub bytes_of : Text → List ℕ
bytes_of (Short s) = s
bytes_of (Long s) = string_bytes s.value
