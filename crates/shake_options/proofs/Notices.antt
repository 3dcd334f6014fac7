-- A command line that asks for a notice asks for no work.
use Rattle.std.proofs.Common.{◌≡◌, ◌≢◌, ℕ, List, Option, None, Some, refl}
use Rattle.shake_options.specs.CommandLine.{command_line}
use Rattle.shake_options.specs.Notices.{notice_in, first_notice, without_work}
use Rattle.shake_options.specs.declared.notice.Notice.{Notice}
use Rattle.shake_options.specs.declared.options.Options.{Options}

by_work : (work : Option Options) (n : Option Notice) → without_work work n ≢ None → work ≡ None
by_work None n some = refl
by_work (Some o) n some = absurd (some refl)

pub asked_for_no_work : (words : List (List ℕ)) → notice_in words ≢ None → command_line words ≡ None
asked_for_no_work words some = by_work (command_line words) (first_notice words) some
