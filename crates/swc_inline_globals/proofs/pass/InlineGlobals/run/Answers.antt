use Rattle.std.proofs.Common.{rules, ◌≡◌, IfErr, sym, subst}
use Rattle.swc_ast.specs.Modules.{module_tree}
use Rattle.swc_ast.specs.declared.errors.PassError.TheVariants.{OutOfMemory}
use Rattle.given_rules.proofs.ByWalk.{a_module}
use Rattle.swc_inline_globals.specs.Answers.{Refused, no_memory}
use Rattle.swc_inline_globals.proofs.Stepping.{if_err}
use Rattle.swc_inline_globals.proofs.Answered.{some_inlined, none_inlined, some_tells, none_tells}
use Rattle.swc_inline_globals.proofs.pass.InlineGlobals.run.Goals as goal

pub returns-in-Some-clause-answer : goal.returns-in-Some-clause-answer
returns-in-Some-clause-answer c = some_inlined module_tree c.args.self.now.settings (module_tree c.args.module.now) a_module c.in_ok-answer.field-0 c.in-Some.answer c.answer.new.self.changed c.in_ok-answer.ensures.answer c.in-Some.is

pub returns-in-Some-clause-changed : goal.returns-in-Some-clause-changed
returns-in-Some-clause-changed c = some_tells module_tree c.args.self.now.settings (module_tree c.args.module.now) c.in_ok-answer.field-0 c.in-Some.answer c.answer.new.self.changed c.in_ok-answer.ensures.answer c.in-Some.is

pub returns-in_ok-copy-in-None-clause-answer : goal.returns-in_ok-copy-in-None-clause-answer
returns-in_ok-copy-in-None-clause-answer c = none_inlined module_tree c.args.self.now.settings (module_tree c.args.module.now) (module_tree c.in_ok-copy-in-None.field-0) a_module c.in_ok-answer.field-0 c.answer.new.self.changed c.in_ok-answer.ensures.answer c.in-None.is c.in_ok-copy-in-None.ensures

pub returns-in_ok-copy-in-None-clause-changed : goal.returns-in_ok-copy-in-None-clause-changed
returns-in_ok-copy-in-None-clause-changed c = none_tells module_tree c.args.self.now.settings (module_tree c.args.module.now) (module_tree c.in_ok-copy-in-None.field-0) c.in_ok-answer.field-0 c.answer.new.self.changed c.in_ok-answer.ensures.answer c.in-None.is c.in_ok-copy-in-None.ensures

pub returns-in_err-copy-in-None-clause-told : goal.returns-in_err-copy-in-None-clause-told
returns-in_err-copy-in-None-clause-told c =
    let m : IfErr c.from_residual-in_err-copy-in-None.result (λ e. e ≡ OutOfMemory) = search rules in
    if_err c.from_residual-in_err-copy-in-None.result (λ e q. subst (Refused c.args.self.now.settings (module_tree c.args.module.now)) (sym q) no_memory) m
