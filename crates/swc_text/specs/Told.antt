-- What is written of a text that isn't read.
use Rattle.std.specs.Prelude.{ℕ, List, ◌++◌, codes, decimal}
use Rattle.text_lexer.specs.Words.{construct_word}
use Rattle.swc_text.specs.declared.error.ReadError.{ReadError}
use Rattle.swc_text.specs.declared.error.ReadError.TheVariants.{Syntax, OutOfCore, NumberRange, TooDeep, OutOfMemory, TooLong}

abbrev pub read_error_text : ReadError → List ℕ
read_error_text (Syntax at) = codes "syntax at " ++ decimal at
read_error_text (OutOfCore at what) = codes "out of core at " ++ decimal at ++ codes ": " ++ construct_word what
read_error_text (NumberRange at) = codes "number range at " ++ decimal at
read_error_text TooDeep = codes "too deep"
read_error_text OutOfMemory = codes "out of memory"
read_error_text TooLong = codes "too long"
