-- How constructs are told, and what words are made of.
use Rattle.std.specs.Prelude.{ℕ, Bool, List, ◌==◌, ◌||◌, codes}
use Rattle.std.specs.Char.{is_ascii_alphanumeric}
use Rattle.text_lexer.specs.declared.fault.Construct.{Construct}
use Rattle.text_lexer.specs.declared.fault.Construct.TheVariants as construct

-- a construct's name
abbrev pub construct_word : Construct → List ℕ
construct_word construct.Number = codes "Number"
construct_word construct.Name = codes "Name"
construct_word construct.Template = codes "Template"
construct_word construct.Class = codes "Class"
construct_word construct.Async = codes "Async"
construct_word construct.Generator = codes "Generator"
construct_word construct.Pattern = codes "Pattern"
construct_word construct.Rest = codes "Rest"
construct_word construct.ForIn = codes "ForIn"
construct_word construct.ForOf = codes "ForOf"
construct_word construct.CallSpread = codes "CallSpread"
construct_word construct.Accessor = codes "Accessor"
construct_word construct.BigInt = codes "BigInt"
construct_word construct.Regex = codes "Regex"
construct_word construct.OptChain = codes "OptChain"
construct_word construct.With = codes "With"
construct_word construct.Debugger = codes "Debugger"
construct_word construct.ReExport = codes "ReExport"
construct_word construct.TextName = codes "TextName"
construct_word construct.Redeclared = codes "Redeclared"
construct_word construct.Surrogate = codes "Surrogate"
construct_word construct.Meta = codes "Meta"

-- whether a byte is an ASCII letter, a digit, `_` or `$`
abbrev pub word_part : ℕ → Bool
word_part byte = is_ascii_alphanumeric byte || (byte == 95) || (byte == 36)
