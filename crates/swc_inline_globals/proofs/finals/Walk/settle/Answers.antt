use Rattle.std.proofs.Common.{rules, ◌≡◌, true, IfErr, sym, subst}
use Rattle.swc_ast.specs.declared.errors.PassError.TheVariants.{OutOfMemory}
use Rattle.swc_inline_globals.specs.Walking.{is_done}
use Rattle.swc_inline_globals.proofs.Stepping.{if_err, memory_refused, settle_begins, begins_begun}
use Rattle.swc_inline_globals.proofs.finals.Walk.settle.Goals as goal

pub returns-in_err-begin-clause-refused : goal.returns-in_err-begin-clause-refused
returns-in_err-begin-clause-refused c =
    let w = c.args.self.now in
    let m : IfErr c.from_residual.result (λ e. e ≡ OutOfMemory) = search rules in
    if_err c.from_residual.result (memory_refused w.lookup.now.settings w.roots.now) m

pub loop-self-init : goal.loop-self-init
loop-self-init c =
    let w = c.args.self.now in
    let v = c.begin.new.self in
    let b = c.in_ok-begin.ensures.begins in
    (settle_begins w v c.args.number c.requires.stands c.requires.stack c.requires.among c.requires.in_range b, b.asked, λ j d. subst (λ x. is_done x.items j ≡ true) (sym b.finals) d, begins_begun w v c.args.number c.requires.stands c.requires.in_range b)
