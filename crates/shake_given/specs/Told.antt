-- What is written of a refusal.
use Rattle.std.specs.Prelude.{ℕ, List, [], ◌∷◌, ◌++◌, if◌then◌else◌, chars, codes, flat_map, encode_utf8_all, string_bytes}
use Rattle.std.specs.Char.{is_control}
use Rattle.std.specs.Char.Escape.{escape_default}
use Rattle.std.specs.declared.alloc.Global.{Global}
use Rattle.std.specs.declared.string.String.{String}
use Rattle.swc_ast.specs.Tree.{Text}
use Rattle.swc_text.specs.Told.{read_error_text}
use Rattle.shake_given.specs.declared.error.GivenError.{GivenError}
use Rattle.shake_given.specs.declared.error.GivenError.TheVariants.{Unreadable, NoChain, Unfit, Cyclic, NoExport, NoDefault, Namespace, ReExported, TooDeep, OutOfMemory}

-- a character, and for a control character its escape
abbrev pub told_char : ℕ → List ℕ
told_char c = if is_control c then escape_default c else c ∷ []

-- a text in one line
abbrev pub line : Text → Text
line t = encode_utf8_all (flat_map told_char (chars t))

abbrev told : String Global → Text
told s = line (string_bytes s)

abbrev pub error_text : GivenError → Text
error_text (Unreadable key fault) = codes "given " ++ told key ++ codes ": " ++ read_error_text fault
error_text (NoChain key) = codes "given " ++ told key ++ codes ": no chain"
error_text (Unfit key) = codes "given " ++ told key ++ codes ": unfit"
error_text (Cyclic name) = codes "cyclic " ++ told name
error_text (NoExport name «module») = codes "no export " ++ told name ++ codes " in " ++ told «module»
error_text (NoDefault «module») = codes "no default in " ++ told «module»
error_text (Namespace name) = codes "namespace " ++ told name
error_text (ReExported name) = codes "re-exported " ++ told name
error_text TooDeep = codes "too deep"
error_text OutOfMemory = codes "out of memory"
