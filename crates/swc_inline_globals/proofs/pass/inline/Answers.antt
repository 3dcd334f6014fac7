use Rattle.std.proofs.Common.{rules, ◌≡◌, length, IfErr, sym, ap, subst, ◌∙◌}
use Rattle.swc_ast.specs.declared.errors.PassError.TheVariants.{OutOfMemory}
use Rattle.given_shield.specs.Shield.{shield}
use Rattle.given_rules.specs.Put.{here, put}
use Rattle.given_rules.specs.Worked.{puts}
use Rattle.given_globals.specs.Globals.{answers_of}
use Rattle.swc_inline_globals.specs.Slots.{slots}
use Rattle.swc_inline_globals.specs.Answers.{Refused, no_memory}
use Rattle.swc_inline_globals.specs.Walking.{AllInRange}
use Rattle.swc_inline_globals.proofs.Passing.{gather_tells, walk_puts, walks_make}
use Rattle.swc_inline_globals.proofs.Ranges.{met_in_range}
use Rattle.swc_inline_globals.proofs.Stepping.{if_err}
use Rattle.swc_inline_globals.proofs.pass.inline.Goals as goal

pub returns-in_err-walk-clause-refused : goal.returns-in_err-walk-clause-refused
returns-in_err-walk-clause-refused g c =
    let m : IfErr c.from_residual.result (λ e. e ≡ OutOfMemory) = search rules in
    if_err c.from_residual.result (λ e q. subst (Refused c.args.lookup.now.settings (g.W.Whole.tree c.args.whole.now)) (sym q) no_memory) m

pub finals-requires : goal.finals-requires
finals-requires g c =
    let s = c.args.lookup.now.settings in
    let t = g.W.Whole.tree c.args.whole.now in
    let k = gather_tells s t (g.W.Whole.tree c.walk.new.self) (answers_of c.new-gathering.result.lookup.now.settings) (answers_of c.walk.new.rules.lookup.now.settings) c.new-gathering.result.met.items c.walk.new.rules.met.items
    (ap (λ l. answers_of l.now.settings) c.new-gathering.ensures.lookup) c.new-gathering.ensures.met c.walk.ensures.whole.formed c.in_ok-walk.ensures.makes in
    subst (AllInRange (length (answers_of s).values)) (sym (c.deref.ensures.value ∙ k.1)) (met_in_range s t)

pub returns-in_err-finals-clause-refused : goal.returns-in_err-finals-clause-refused
returns-in_err-finals-clause-refused g c =
    let s = c.args.lookup.now.settings in
    let t = g.W.Whole.tree c.args.whole.now in
    let k = gather_tells s t (g.W.Whole.tree c.walk.new.self) (answers_of c.new-gathering.result.lookup.now.settings) (answers_of c.walk.new.rules.lookup.now.settings) c.new-gathering.result.met.items c.walk.new.rules.met.items
    (ap (λ l. answers_of l.now.settings) c.new-gathering.ensures.lookup) c.new-gathering.ensures.met c.walk.ensures.whole.formed c.in_ok-walk.ensures.makes in
    let r : Refused s t c.in_err-finals.field-0.0 = c.in_err-finals.ensures.refused t (sym (c.deref.ensures.value ∙ k.1)) in
    search (rules, r)

pub returns-in_err-walk-2-clause-refused : goal.returns-in_err-walk-2-clause-refused
returns-in_err-walk-2-clause-refused g c =
    let m : IfErr c.from_residual-in_err-walk-2.result (λ e. e ≡ OutOfMemory) = search rules in
    if_err c.from_residual-in_err-walk-2.result (λ e q. subst (Refused c.args.lookup.now.settings (g.W.Whole.tree c.args.whole.now)) (sym q) no_memory) m

pub returns-clause-made : goal.returns-clause-made
returns-clause-made g c =
    let s = c.args.lookup.now.settings in
    let t = g.W.Whole.tree c.args.whole.now in
    let u = g.W.Whole.tree c.walk.new.self in
    let v = g.W.Whole.tree c.walk-2.new.self in
    let k = gather_tells s t u (answers_of c.new-gathering.result.lookup.now.settings) (answers_of c.walk.new.rules.lookup.now.settings) c.new-gathering.result.met.items c.walk.new.rules.met.items
    (ap (λ l. answers_of l.now.settings) c.new-gathering.ensures.lookup) c.new-gathering.ensures.met c.walk.ensures.whole.formed c.in_ok-walk.ensures.makes in
    let xs = c.in_ok-finals.finals.items in
    let p = walk_puts s (slots c.deref-2.result.now) u v (answers_of c.walk-2.new.rules.lookup.now.settings, slots c.walk-2.new.rules.finals.now) c.walk-2.ensures.whole.formed c.in_ok-walk-2.ensures.makes in
    walks_make s t u v c.deref.result.now xs k.0 (c.deref.ensures.value ∙ k.1) c.in_ok-finals.ensures.made (p ∙ ap (λ ys. put (puts (answers_of s) shield (slots ys)) here u) c.deref-2.ensures.value)
