-- What the words of a command line give, as texts.
use Rattle.std.specs.Prelude.{ℕ, Bool, ◌&&◌, not, ◌==◌, if◌then◌else◌, nat_lt, List, length, Option, Some, None, codes}
use Rattle.std.specs.Borrow.{Bor}
use Rattle.std.specs.List.{position_or_len, before_first, after_first}
use Rattle.std.specs.Path.{rsplit_once}
use Rattle.std.specs.Str.{bytes_eq}
use Rattle.shake_options.specs.declared.flags.Flag.{Flag}
use Rattle.shake_options.specs.declared.flags.Flag.TheVariants as flag

abbrev Text : Type 0
Text = List ℕ

-- A text for a key, or the text of a module's export.
pub data FlagText : Type 0 where
  defined an_env a_type : Text → Text → FlagText
  a_const : Text → Text → Text → FlagText

abbrev pub flag_texts : Flag → FlagText
flag_texts (flag.Define k v) = defined k.now v.now
flag_texts (flag.Env k t) = an_env k.now t.now
flag_texts (flag.TypeOf x t) = a_type x.now t.now
flag_texts (flag.Const m x v) = a_const m.now x.now v.now

abbrev pub text_pair : Bor Text × Bor Text → Text × Text
text_pair p = (p.0.now, p.1.now)

abbrev is_empty : Text → Bool
is_empty t = length t == 0

-- where `=` stands first
abbrev equals_at : Text → ℕ
equals_at word = position_or_len (λ b. b == 61) word

-- what stands in front of the first `=`, and behind it; nothing in front is no key
abbrev pub pair_in : Text → Option (Text × Text)
pair_in word = if nat_lt 0 (equals_at word) && nat_lt (equals_at word) (length word) then Some (before_first (λ b. b == 61) word, after_first (λ b. b == 61) word) else None

-- a module and a name, by what stands in front of the last `:`, and behind it
abbrev named : Option (Text × Text) → Text → Option FlagText
named None value = None
named (Some p) value = if not (is_empty p.0) && not (is_empty p.1) then Some (a_const p.0 p.1 value) else None

abbrev pub const_of : Text → Text → Option FlagText
const_of key value = named (rsplit_once 58 key) value

abbrev flagged : Text → Option (Text × Text) → Option FlagText
flagged option None = None
flagged option (Some p) =
    if bytes_eq option (codes "--define") then Some (defined p.0 p.1)
    else if bytes_eq option (codes "--env") then Some (an_env p.0 p.1)
    else if bytes_eq option (codes "--typeof") then Some (a_type p.0 p.1)
    else if bytes_eq option (codes "--const") then const_of p.0 p.1
    else None

-- what an option gives with its operand
abbrev pub flag_of : Text → Text → Option FlagText
flag_of option operand = flagged option (pair_in operand)
