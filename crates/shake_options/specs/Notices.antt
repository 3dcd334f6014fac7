-- What a command line asks of the program itself.
use Rattle.std.specs.Prelude.{ℕ, ◌||◌, List, [], ◌∷◌, Option, None, Some, codes, if◌then◌else◌}
use Rattle.std.specs.Str.{bytes_eq}
use Rattle.shake_options.specs.CommandLine.{command_line}
use Rattle.shake_options.specs.declared.notice.Notice.{Notice}
use Rattle.shake_options.specs.declared.notice.Notice.TheVariants.{Help, Version}
use Rattle.shake_options.specs.declared.options.Options.{Options}

-- what a word asks for
abbrev pub notice_named : List ℕ → Option Notice
notice_named word =
    if bytes_eq word (codes "--help") || bytes_eq word (codes "-h") then Some Help
    else if bytes_eq word (codes "--version") || bytes_eq word (codes "-v") then Some Version
    else None

abbrev pub or_else : Option Notice → Option Notice → Option Notice
or_else None n = n
or_else (Some m) n = Some m

-- what the first such word asks for
abbrev pub first_notice : List (List ℕ) → Option Notice
first_notice [] = None
first_notice (word ∷ words) = or_else (notice_named word) (first_notice words)

abbrev pub without_work : Option Options → Option Notice → Option Notice
without_work None n = n
without_work (Some o) n = None

-- what a command line asks for that isn't understood as a pass and its options
abbrev pub notice_in : List (List ℕ) → Option Notice
notice_in words = without_work (command_line words) (first_notice words)
