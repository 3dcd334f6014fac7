-- What flags make of a module stays what the pass needs, and what the pass keeps of that, it keeps of the module.
use Rattle.std.proofs.Common.{map, string_bytes}
use Rattle.swc_ast.specs.Marks.{mark_number}
use Rattle.swc_ast.specs.Modules.{module_tree}
use Rattle.shake_options.specs.Flags.{flag_texts}
use Rattle.shake_run.specs.Flagged.{by_flags}
use Rattle.shake_run.specs.Passes.{pass_by}
use Rattle.shake_run.proofs.Flags.{behind_flags}
use Rattle.shake_run.proofs.Refusals.{memory_refused}
use Rattle.shake_run.proofs.flagged.run_pass.Goals as goal

pub returns-in-Ok-named_pass-clause-same : goal.returns-in-Ok-named_pass-clause-same
returns-in-Ok-named_pass-clause-same c no_json resolved core =
    let stays = c.in-Ok.ensures.stays in
    let spec = pass_by c.args.mark c.args.options (map string_bytes c.args.retained.items) in
    behind_flags c.given_laws.ensures.in_front c.args.mark spec.loads (map flag_texts c.args.flags.now) (module_tree c.args.module) (module_tree c.in-Ok.prepared) (module_tree c.in-Ok-named_pass.answer) c.in-Ok.ensures.prepared (c.in-Ok-named_pass.ensures.same no_json (stays.resolved (mark_number c.args.mark) resolved) (stays.core core))

pub returns-in-Ok-named_pass-clause-resolved : goal.returns-in-Ok-named_pass-clause-resolved
returns-in-Ok-named_pass-clause-resolved c resolved = c.in-Ok-named_pass.ensures.resolved (c.in-Ok.ensures.stays.resolved (mark_number c.args.mark) resolved)

pub returns-in-Ok-named_pass-clause-valid : goal.returns-in-Ok-named_pass-clause-valid
returns-in-Ok-named_pass-clause-valid c resolved valid =
    let stays = c.in-Ok.ensures.stays in
    c.in-Ok-named_pass.ensures.valid (stays.resolved (mark_number c.args.mark) resolved) (stays.valid valid)

pub returns-in-Ok-named_pass-clause-core : goal.returns-in-Ok-named_pass-clause-core
returns-in-Ok-named_pass-clause-core c resolved core =
    let stays = c.in-Ok.ensures.stays in
    c.in-Ok-named_pass.ensures.core (stays.resolved (mark_number c.args.mark) resolved) (stays.core core)

pub returns-in-Err-clause-refused : goal.returns-in-Err-clause-refused
returns-in-Err-clause-refused c = by_flags c.in-Err.ensures.refused

pub returns-in-Err-named_pass-clause-refused : goal.returns-in-Err-named_pass-clause-refused
returns-in-Err-named_pass-clause-refused c = memory_refused c.args.flags.now c.in-Err-named_pass.fault c.in-Err-named_pass.ensures.memory
