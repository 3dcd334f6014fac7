-- Each step tells one part of what is done.
use Rattle.std.proofs.Common.{rules, ◌≡◌, ◌∙◌, ap, Some, map, string_bytes, IfSome}
use Rattle.std.specs.Io.KnownBytes.{Appends, Keeps}
use Rattle.swc_ast.specs.Marks.{mark_number}
use Rattle.swc_ast.specs.Modules.{module_tree}
use Rattle.swc_text.specs.Texts.{IsPrinted}
use Rattle.shake_options.specs.CommandLine.{command_line, retained_in, flags_in}
use Rattle.shake_options.specs.Flags.{flag_texts}
use Rattle.shake_run.specs.Done.{Becomes, Done}
use Rattle.shake_run.proofs.Doing.{appends_kept, all_done, anyway, of_value}
use Rattle.shake_run.proofs.work.work.Goals as goal

pub returns-clause-done : goal.returns-clause-done
returns-clause-done g c =
    let args = map string_bytes c.args.args.now in
    let answer = module_tree c.in_ok-simpler.simpler in
    let left = g.R.Read.remaining c.args.reader.now in
    let before = g.W.Write.contents c.args.writer.now in
    let after = g.W.Write.contents c.flush.new.self in
    let becomes : Becomes (map flag_texts c.as_slice.result.now) c.unwrap-mark.result c.in_ok-options.options (map string_bytes c.in_ok-retained.retained.items) c.as_str.result.now answer = c.in_ok-simpler.ensures.becomes in
    let printed : IsPrinted answer (string_bytes c.in_ok-printed.printed) = search rules in
    let added : Appends before (g.W.Write.contents c.write_all.new.self) (string_bytes c.in_ok-printed.printed) = search rules in
    let whole : IfSome left (λ bytes. c.as_str.result.now ≡ bytes) = search rules in
    let retained : map string_bytes c.in_ok-retained.retained.items ≡ retained_in args = of_value _ c.retained.result c.in_ok-retained.retained (λ texts. map string_bytes texts.items ≡ retained_in args) c.retained.ensures c.in_ok-retained.ensures.cases in
    let flags : map flag_texts c.as_slice.result.now ≡ flags_in args = ap (map flag_texts) c.as_slice.ensures.value ∙ of_value _ c.flags_of.result c.in_ok-flags.flags (λ given. map flag_texts given.items ≡ flags_in args) c.flags_of.ensures c.in_ok-flags.ensures.cases in
    let first : mark_number c.unwrap-mark.result ≡ 1 = search rules in
    let asked : command_line args ≡ Some c.in_ok-options.options = search rules in
    anyway c.map_err-5.result (Done args left before after)
    (all_done args _ _ _ _ _ _ answer left before after becomes printed (appends_kept _ _ _ _ added c.flush.ensures.bytes) whole retained flags first asked)
