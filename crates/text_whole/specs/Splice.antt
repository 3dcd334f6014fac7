-- A text of which parts are replaced.
use Rattle.std.specs.Prelude.{ℕ, List, [], ◌∷◌, ◌++◌, length, slice_range, string_bytes}
use Rattle.text_whole.specs.declared.splices.Cut.{Cut}

-- A text from a byte on, with what is put in the place of each of some parts of it, in order.
abbrev pub spliced : List ℕ → ℕ → List Cut → List ℕ
spliced text from [] = slice_range text from (length text)
spliced text from (cut ∷ cuts) = slice_range text from cut.from ++ (string_bytes cut.put ++ spliced text cut.to cuts)
