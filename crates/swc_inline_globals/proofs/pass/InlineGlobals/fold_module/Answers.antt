use Rattle.std.proofs.Common.{refl}
use Rattle.swc_ast.specs.Modules.{module_tree}
use Rattle.given_rules.proofs.ByWalk.{a_module}
use Rattle.swc_inline_globals.proofs.Answered.{some_inlined, none_inlined, some_tells, none_tells}
use Rattle.swc_inline_globals.proofs.pass.InlineGlobals.fold_module.Goals as goal

pub returns-in-Some-clause-answer : goal.returns-in-Some-clause-answer
returns-in-Some-clause-answer c = some_inlined module_tree c.args.self.now.settings (module_tree c.args.module) a_module c.in_ok-answer.field-0 c.in-Some.answer c.answer.new.self.changed c.in_ok-answer.ensures.answer c.in-Some.is

pub returns-in-Some-clause-changed : goal.returns-in-Some-clause-changed
returns-in-Some-clause-changed c = some_tells module_tree c.args.self.now.settings (module_tree c.args.module) c.in_ok-answer.field-0 c.in-Some.answer c.answer.new.self.changed c.in_ok-answer.ensures.answer c.in-Some.is

pub returns-in-None-clause-answer : goal.returns-in-None-clause-answer
returns-in-None-clause-answer c = none_inlined module_tree c.args.self.now.settings (module_tree c.args.module) (module_tree c.args.module) a_module c.in_ok-answer.field-0 c.answer.new.self.changed c.in_ok-answer.ensures.answer c.in-None.is refl

pub returns-in-None-clause-changed : goal.returns-in-None-clause-changed
returns-in-None-clause-changed c = none_tells module_tree c.args.self.now.settings (module_tree c.args.module) (module_tree c.args.module) c.in_ok-answer.field-0 c.answer.new.self.changed c.in_ok-answer.ensures.answer c.in-None.is refl
