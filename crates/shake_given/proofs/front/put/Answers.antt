use Rattle.std.proofs.Common.{subst}
use Rattle.std.proofs.lemmas.Result.{IfOk-from_err}
use Rattle.swc_ast.specs.Modules.{module_tree}
use Rattle.given_globals.specs.Globals.{answers_of}
use Rattle.swc_inline_globals.specs.Answers.{Inlined}
use Rattle.swc_inline_globals.specs.Answers as inline
use Rattle.swc_inline_globals.specs.Nesting.{TellsOfTree}
use Rattle.shake_given.specs.Deep.{Counted, counted}
use Rattle.shake_given.specs.Prepared.{Puts, put}
use Rattle.shake_given.specs.Refused.{of_pass, NamesRefused, no_memory_for_names, nested}
use Rattle.shake_given.proofs.Deep.{no_more, nests}
use Rattle.shake_given.proofs.Refusals.{returned, cycle_told}
use Rattle.shake_given.proofs.front.put.Goals as goal

pub returns-clause-puts : goal.returns-clause-puts
returns-clause-puts c = put c.inlining-pass.result.settings c.inlining-pass.ensures (subst (λ t. Inlined c.inlining-pass.result.settings t (module_tree c.in_ok-fold_module.field-0)) c.in_ok-count_levels.ensures.same c.in_ok-fold_module.ensures.answer)

pub returns-clause-within : goal.returns-clause-within
returns-clause-within c =
    let i : Inlined c.inlining-pass.result.settings (module_tree c.args.module) (module_tree c.in_ok-fold_module.field-0) = subst (λ t. Inlined c.inlining-pass.result.settings t (module_tree c.in_ok-fold_module.field-0)) c.in_ok-count_levels.ensures.same c.in_ok-fold_module.ensures.answer in
    counted c.inlining-pass.result.settings c.inlining-pass.ensures
    (no_more (answers_of c.inlining-pass.result.settings) (module_tree c.args.module) c.args.most c.in_ok-count_levels.field-0 c.in_ok-count_levels.ensures.nesting c.in_default.not-TooMany i.acyclic)

pub returns-in_err-count_levels-clause-told : goal.returns-in_err-count_levels-clause-told
returns-in_err-count_levels-clause-told c = returned c.from_residual.result (NamesRefused c.args.given.now c.args.mark c.args.most (module_tree c.args.module)) _ c.from_residual.ensures.1 no_memory_for_names

pub returns-in-TooMany-clause-told : goal.returns-in-TooMany-clause-told
returns-in-TooMany-clause-told c = nested (nests c.args.given.now c.args.mark c.inlining-pass.result.settings c.inlining-pass.ensures (module_tree c.args.module) c.args.most (subst (TellsOfTree (answers_of c.inlining-pass.result.settings) (module_tree c.args.module) c.args.most) c.in-TooMany.is c.in_ok-count_levels.ensures.nesting))

pub returns-in_err-fold_module : goal.returns-in_err-fold_module
returns-in_err-fold_module c =
    let r = c.from_residual-in_err-fold_module.result in
    record {
      puts = IfOk-from_err r (λ m. Puts c.args.given.now c.args.mark (module_tree c.args.module) (module_tree m)) c.from_residual-in_err-fold_module.ensures.0;
      within = IfOk-from_err r (λ _. Counted c.args.given.now c.args.mark c.args.most (module_tree c.args.module)) c.from_residual-in_err-fold_module.ensures.0;
      told = returned r (NamesRefused c.args.given.now c.args.mark c.args.most (module_tree c.args.module)) (of_pass c.in_err-fold_module.field-0.0) c.from_residual-in_err-fold_module.ensures.1
          (cycle_told c.args.given.now c.args.mark c.args.most c.inlining-pass.result.settings c.inlining-pass.ensures (module_tree c.args.module) c.in_err-fold_module.field-0.0 (subst (λ t. inline.Refused c.inlining-pass.result.settings t c.in_err-fold_module.field-0.0) c.in_ok-count_levels.ensures.same c.in_err-fold_module.ensures.told));
    }
