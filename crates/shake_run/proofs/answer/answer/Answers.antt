-- A module that is read is resolved and in the core, so what a pass keeps of such a module holds of the answer.
use Rattle.swc_ast.specs.Modules.{module_tree}
use Rattle.shake_run.specs.Done.{unread, refused}
use Rattle.shake_run.proofs.answer.answer.Goals as goal

pub returns-in-Ok-run_pass-clause-becomes : goal.returns-in-Ok-run_pass-clause-becomes
returns-in-Ok-run_pass-clause-becomes c =
    let read = c.in-Ok.ensures in let ran = c.in-Ok-run_pass.ensures in
    record {
      read = module_tree c.in-Ok.module;
      is_read = read.read;
      answers = ran.answers;
      same = λ no_json. ran.same no_json read.resolved read.core;
      resolved = ran.resolved read.resolved;
      core = ran.core read.resolved read.core;
    }

pub returns-in-Err-clause-unanswered : goal.returns-in-Err-clause-unanswered
returns-in-Err-clause-unanswered c = unread

pub returns-in-Err-run_pass-clause-unanswered : goal.returns-in-Err-run_pass-clause-unanswered
returns-in-Err-run_pass-clause-unanswered c = refused c.in-Err-run_pass.ensures.refused
