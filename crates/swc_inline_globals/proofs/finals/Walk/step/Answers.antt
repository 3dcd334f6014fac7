use Rattle.std.proofs.Common.{rules, ◌≡◌, ◌<◌, length, Some, IfErr, sym, ap, subst, ◌∙◌, arith}
use Rattle.std.proofs.lemmas.Option.{slice_get-get_or}
use Rattle.swc_ast.specs.declared.errors.PassError.TheVariants.{OutOfMemory}
use Rattle.swc_inline_globals.specs.Walking.{AllInRange, AllDone, IsReady, IsNeed}
use Rattle.swc_inline_globals.proofs.Stepping.{last_needs, step_finish, step_begin, step_refused, on_ok, if_err, memory_refused}
use Rattle.swc_inline_globals.proofs.finals.Walk.step.Goals as goal

pub next_need-requires-clause-in_range : goal.next_need-requires-clause-in_range
next_need-requires-clause-in_range c =
    let w = c.args.self.now in
    subst (λ xs. AllInRange (length xs) c.in-Some.frame.needs.items) (sym c.deref.ensures.value) (last_needs w c.pop.new.self c.in-Some.frame c.in-Some.ensures.items c.requires.stands)

pub returns-in_default-next_need-clause-steps : goal.returns-in_default-next_need-clause-steps
returns-in_default-next_need-clause-steps c =
    let w = c.args.self.now in
    let g = c.next_need.new.self in
    let ready = subst (λ xs. IsReady xs g) c.deref.ensures.value c.next_need.ensures.ready in
    let done = subst (λ xs. AllDone xs g.needs.items) c.deref.ensures.value (c.next_need.ensures.done c.in_default-next_need.is) in
    on_ok c.finish.result (step_finish w c.finish.new.self c.pop.new.self c.in-Some.frame g c.in-Some.ensures.items c.requires.stands c.next_need.ensures.same ready done) c.finish.ensures.finishes

pub returns-in_default-next_need-clause-refused : goal.returns-in_default-next_need-clause-refused
returns-in_default-next_need-clause-refused c = let w = c.args.self.now in if_err c.finish.result (memory_refused w.lookup.now.settings w.roots.now) c.finish.ensures.memory

pub returns-in_err-cyclic-clause-refused : goal.returns-in_err-cyclic-clause-refused
returns-in_err-cyclic-clause-refused c =
    let w = c.args.self.now in
    let m : IfErr c.from_residual-in_err-cyclic.result (λ e. e ≡ OutOfMemory) = search rules in
    if_err c.from_residual-in_err-cyclic.result (memory_refused w.lookup.now.settings w.roots.now) m

pub returns-then-index-clause-refused : goal.returns-then-index-clause-refused
returns-then-index-clause-refused c =
    let w = c.args.self.now in
    let g = c.next_need.new.self in
    let i = c.in-Some-next_need.need in
    let ready = subst (λ xs. IsReady xs g) c.deref.ensures.value c.next_need.ensures.ready in
    let need = subst (λ xs. IsNeed xs g.needs.items i) c.deref.ensures.value c.in-Some-next_need.ensures.need in
    let all = c.requires.stands.all in
    let begun = c.requires.stands.all_begun in
    let low = need.in_range in
    let h : i < length w.begun.items = omega (arith, all, begun, low) in
    step_refused w w c.pop.new.self c.in-Some.frame g c.in-Some.ensures.items c.requires.stands c.next_need.ensures.same ready c.push.new.self c.in_ok-push.ensures.items i need
    (slice_get-get_or w.begun.items i c.index.result.now h ∙ ap Some (sym c.index.ensures ∙ c.if-index.true)) c.in_ok-cyclic.ensures

pub returns-clause-steps : goal.returns-clause-steps
returns-clause-steps c =
    let w = c.args.self.now in
    let g = c.next_need.new.self in
    let i = c.in-Some-next_need.need in
    let ready = subst (λ xs. IsReady xs g) c.deref.ensures.value c.next_need.ensures.ready in
    let need = subst (λ xs. IsNeed xs g.needs.items i) c.deref.ensures.value c.in-Some-next_need.ensures.need in
    let all = c.requires.stands.all in
    let begun = c.requires.stands.all_begun in
    let low = need.in_range in
    let h : i < length w.begun.items = omega (arith, all, begun, low) in
    on_ok c.begin.result
    (step_begin w c.begin.new.self c.pop.new.self c.in-Some.frame g c.in-Some.ensures.items c.requires.stands c.next_need.ensures.same ready c.push.new.self c.in_ok-push.ensures.items i need
    (slice_get-get_or w.begun.items i c.index.result.now h ∙ ap Some (sym c.index.ensures ∙ c.if-index.false)))
    c.begin.ensures.begins

pub returns-clause-refused : goal.returns-clause-refused
returns-clause-refused c = let w = c.args.self.now in if_err c.begin.result (memory_refused w.lookup.now.settings w.roots.now) c.begin.ensures.memory
