-- What a command line asks for.
use Rattle.std.specs.Prelude.{ℕ, ◌^◌, Bool, true, false, ◌&&◌, ◌||◌, List, [], ◌∷◌, ◌++◌, Option, None, Some, codes, nat_lt, if◌then◌else◌}
use Rattle.std.specs.Char.{is_ascii_digit}
use Rattle.std.specs.List.{list_all}
use Rattle.std.specs.Str.{bytes_eq}
use Rattle.std.specs.Option.{option_and_then, option_map}
use Rattle.std.specs.Str.Parse.{digits_value}
use Rattle.shake_options.specs.declared.options.Options.{Options}
use Rattle.shake_options.specs.declared.options.PassName.{PassName}
use Rattle.shake_options.specs.declared.options.PassName.TheVariants.{Expr, Branch, Dce, Simplify, Optimize, Const, Inline, Json}
use Rattle.shake_options.specs.Flags.{FlagText, flag_of}

-- the number that decimal digits alone write, where a usize holds it
abbrev pub count_in : List ℕ → Option ℕ
count_in [] = None
count_in (c ∷ cs) = if list_all is_ascii_digit (c ∷ cs) && nat_lt (digits_value 10 (c ∷ cs)) (2 ^ 64) then Some (digits_value 10 (c ∷ cs)) else None

-- the pass of this name
abbrev pub pass_named : List ℕ → Option PassName
pass_named word =
    if bytes_eq word (codes "expr") then Some Expr
    else if bytes_eq word (codes "branch") then Some Branch
    else if bytes_eq word (codes "dce") then Some Dce
    else if bytes_eq word (codes "simplify") then Some Simplify
    else if bytes_eq word (codes "optimize") then Some Optimize
    else if bytes_eq word (codes "const") then Some Const
    else if bytes_eq word (codes "inline") then Some Inline
    else if bytes_eq word (codes "json") then Some Json
    else None

-- a pass with no options beside it
abbrev pub defaults : PassName → Options
defaults p = record { pass = p; top_level = true; preserve_imports_with_side_effects = true; max_rounds = 18446744073709551615; min_cost = 1024; compact = false }

-- an option that gives something
abbrev pub gives : List ℕ → Bool
gives word = bytes_eq word (codes "--define") || bytes_eq word (codes "--env") || bytes_eq word (codes "--typeof") || bytes_eq word (codes "--const")

-- an option with an operand in the next word
abbrev pub takes_operand : List ℕ → Bool
takes_operand word = bytes_eq word (codes "--retain") || bytes_eq word (codes "--rounds") || bytes_eq word (codes "--min-cost") || gives word

-- the options, changed by one that stands alone
abbrev pub switched : List ℕ → Options → Option Options
switched word o =
    if bytes_eq word (codes "--keep-top") then Some (record o { top_level = false })
    else if bytes_eq word (codes "--drop-imports") then Some (record o { preserve_imports_with_side_effects = false })
    else if bytes_eq word (codes "--compact") then Some (record o { compact = true })
    else None

-- the options, changed by one with an operand
abbrev pub valued : List ℕ → List ℕ → Options → Option Options
valued word operand o =
    if bytes_eq word (codes "--retain") then Some o
    else if bytes_eq word (codes "--rounds") then option_map (λ n. record o { max_rounds = n }) (count_in operand)
    else if bytes_eq word (codes "--min-cost") then option_map (λ n. record o { min_cost = n }) (count_in operand)
    else option_map (λ _. o) (flag_of word operand)

-- the options, changed by these words from the first to the last
abbrev pub changed_by : List (List ℕ) → Options → Option Options
changed_by [] o = Some o
changed_by (word ∷ []) o = if takes_operand word then None else switched word o
changed_by (word ∷ next ∷ words) o =
    if takes_operand word then option_and_then (λ p. changed_by words p) (valued word next o)
    else option_and_then (λ p. changed_by (next ∷ words) p) (switched word o)

-- what a command line asks for: a pass and its options
abbrev pub command_line : List (List ℕ) → Option Options
command_line [] = None
command_line (name ∷ words) = option_and_then (λ p. changed_by words (defaults p)) (pass_named name)

-- the operands of `--retain` among these words, in order; an operand is no option itself
abbrev pub retained_among : List (List ℕ) → List (List ℕ)
retained_among [] = []
retained_among (word ∷ []) = []
retained_among (word ∷ next ∷ words) =
    if bytes_eq word (codes "--retain") then next ∷ retained_among words
    else if takes_operand word then retained_among words
    else retained_among (next ∷ words)

-- the texts of names that a command line retains
abbrev pub retained_in : List (List ℕ) → List (List ℕ)
retained_in [] = []
retained_in (name ∷ words) = retained_among words

abbrev pub if_any : Option FlagText → List FlagText
if_any None = []
if_any (Some f) = f ∷ []

-- what is given among these words, in order; an operand is no option itself
abbrev pub flags_among : List (List ℕ) → List FlagText
flags_among [] = []
flags_among (word ∷ []) = []
flags_among (word ∷ next ∷ words) =
    if takes_operand word then if_any (flag_of word next) ++ flags_among words
    else flags_among (next ∷ words)

-- what a command line gives
abbrev pub flags_in : List (List ℕ) → List FlagText
flags_in [] = []
flags_in (name ∷ words) = flags_among words
