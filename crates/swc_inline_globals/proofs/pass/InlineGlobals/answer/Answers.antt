use Rattle.std.proofs.Common.{rules, ◌≡◌, IfErr, sym, subst}
use Rattle.swc_ast.specs.declared.errors.PassError.TheVariants.{OutOfMemory}
use Rattle.swc_inline_globals.specs.Answers.{Refused, no_memory}
use Rattle.swc_inline_globals.proofs.Stepping.{if_err}
use Rattle.swc_inline_globals.proofs.pass.InlineGlobals.answer.Goals as goal

pub returns-in_err-copy-clause-told : goal.returns-in_err-copy-clause-told
returns-in_err-copy-clause-told g c =
    let m : IfErr c.from_residual.result (λ e. e ≡ OutOfMemory) = search rules in
    if_err c.from_residual.result (λ e q. subst (Refused c.args.self.now.settings (g.W.Whole.tree c.args.input.now)) (sym q) no_memory) m

pub returns-in_err-lookup-clause-told : goal.returns-in_err-lookup-clause-told
returns-in_err-lookup-clause-told g c =
    let m : IfErr c.from_residual-in_err-lookup.result (λ e. e ≡ OutOfMemory) = search rules in
    if_err c.from_residual-in_err-lookup.result (λ e q. subst (Refused c.args.self.now.settings (g.W.Whole.tree c.args.input.now)) (sym q) no_memory) m
