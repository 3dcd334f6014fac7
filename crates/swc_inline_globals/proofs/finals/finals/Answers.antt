use Rattle.std.proofs.Common.{rules, ◌≡◌, ◌<◌, true, length, get_or, IfErr, sym, ap, subst, ◌∙◌, arith}
use Rattle.std.proofs.lemmas.List.{get_or_default}
use Rattle.swc_ast.specs.declared.errors.PassError.TheVariants.{OutOfMemory}
use Rattle.given_rules.specs.Cycles.{is_among}
use Rattle.swc_inline_globals.proofs.Lists.{among_at}
use Rattle.swc_inline_globals.proofs.Stepping.{if_err, memory_refused, one_more_done}
use Rattle.swc_inline_globals.proofs.finals.finals.Goals as goal

pub returns-in_err-walk-clause-refused : goal.returns-in_err-walk-clause-refused
returns-in_err-walk-clause-refused c =
    let m : IfErr c.from_residual.result (λ e. e ≡ OutOfMemory) = search rules in
    if_err c.from_residual.result (memory_refused c.args.lookup.now.settings c.args.roots.now) m

pub settle-requires-clause-among : goal.settle-requires-clause-among
settle-requires-clause-among c =
    let rs = c.args.roots.now in
    let i = c.loop-i.i in
    let h : i < length rs = omega (arith, c.loop-i-test.true) in
    subst (λ js. is_among (get_or rs i 0) js ≡ true) (sym c.loop-i.invariant.3) (among_at rs i 0 h)

pub loop-i-preserved : goal.loop-i-preserved
loop-i-preserved c =
    let rs = c.args.roots.now in
    let i = c.loop-i.i in
    let h : i < length rs = omega (arith, c.loop-i-test.true) in
    let d = c.in_ok-settle.ensures.settled in
    (d.stands, d.stack, ap (λ l. l.now) d.asked.0 ∙ c.loop-i.invariant.2, ap (λ r. r.now) d.asked.1 ∙ c.loop-i.invariant.3, one_more_done c.loop-i.walk.finals.items c.settle.new.self.finals.items rs i d.grows c.loop-i.invariant.4 h (get_or rs i 0) (get_or_default rs i 0 (get_or rs i 0) h) d.done)
