use Rattle.std.proofs.Common.{◌≡◌, ◌⊎◌, subst}
use Rattle.swc_ast.specs.Modules.{module_tree}
use Rattle.const_pass.specs.Replaced.{constants_in, Replaced}
use Rattle.shake_given.specs.declared.error.GivenError.TheVariants.{OutOfMemory}
use Rattle.shake_given.specs.Prepared.{replaced}
use Rattle.shake_given.specs.Refused.{of_pass, ImportRefused}
use Rattle.shake_given.proofs.Refusals.{returned, import_told}
use Rattle.shake_given.proofs.front.replace.Goals as goal

pub returns-clause-replaces : goal.returns-clause-replaces
returns-clause-replaces c = replaced (subst (λ g. Replaced (constants_in g) (module_tree c.args.module) (module_tree c.in_ok-fold_module.field-0)) c.new-pass.ensures.given c.in_ok-fold_module.ensures.answer)

pub returns-in_err-fold_module-clause-told : goal.returns-in_err-fold_module-clause-told
returns-in_err-fold_module-clause-told c =
    returned c.from_residual.result (λ e. (e ≡ OutOfMemory) ⊎ ImportRefused c.args.given (module_tree c.args.module) e) (of_pass c.in_err-fold_module.field-0.0) c.from_residual.ensures.1
    (import_told c.args.given c.new-pass.result.given c.new-pass.ensures.given (module_tree c.args.module) c.in_err-fold_module.field-0.0 c.in_err-fold_module.ensures.told)
