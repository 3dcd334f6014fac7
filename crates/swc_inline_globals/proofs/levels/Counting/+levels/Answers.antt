use Rattle.std.proofs.Common.{ℕ, ◌+◌, ◌<◌, ◌∷◌, [], length, get_or, set, Some, refl, sym, ap, subst, ◌∙◌, ◌-◌, arith}
use Rattle.std.proofs.lemmas.Option.{slice_get-get_or}
use Rattle.swc_ast.specs.Views.{expr_tree}
use Rattle.swc_pass.specs.Given.{value_at}
use Rattle.given_rules.specs.Met.{met}
use Rattle.given_globals.specs.Globals.{answers_of}
use Rattle.swc_inline_globals.specs.Nesting.{FewerBegun, IsFewer, Told, TellsBehind, TellsOfValue, Lead}
use Rattle.swc_inline_globals.specs.Walking.{AllInRange}
use Rattle.swc_inline_globals.specs.declared.levels.Nesting.TheVariants.{Levels}
use Rattle.swc_inline_globals.specs.declared.levels.Seen.TheVariants.{Begun, Done}
use Rattle.swc_inline_globals.proofs.Nested.{counted, uncounted, in_range_at, first_none, first_more, first_all, all_other, lead_one, lead_fewer, lead_begun, met_high, met_done, met_too_high, met_begun, met_new, met_other, value_alone, value_told, value_other, told_begun, told_done, fewer_done}
use Rattle.swc_inline_globals.proofs.Ranges.{met_in_range}
use Rattle.swc_inline_globals.proofs.levels.Counting.+levels.Goals as goal

pub of_all-loop-i-init : goal.of_all-loop-i-init
of_all-loop-i-init t c = (c.requires.told, refl, c.requires.leads, λ i b. b, first_none (answers_of c.args.self.now.lookup.now.settings) c.args.numbers.now c.args.most)

pub of_all-of_met-requires : goal.of_all-of_met-requires
of_all-of_met-requires t c =
    let ns = c.args.numbers.now in
    let w = c.loop-i.self in
    let h : c.loop-i.i < length ns = omega (arith, c.loop-i-test.true) in
    let r = subst (λ l. AllInRange (length (answers_of l.now.settings).values) ns) (sym c.loop-i.invariant.1) c.requires.in_range in
    (omega (arith, c.decreases), (c.loop-i.invariant.0, (in_range_at (length (answers_of w.lookup.now.settings).values) ns c.loop-i.i r h, lead_one (answers_of w.lookup.now.settings) w.seen.items ns c.loop-i.i 0 h c.loop-i.invariant.2)))

pub of_all-returns-in_default : goal.of_all-returns-in_default
of_all-returns-in_default t c =
    let ns = c.args.numbers.now in
    let a = answers_of c.args.self.now.lookup.now.settings in
    let h : c.loop-i.i < length ns = omega (arith, c.loop-i-test.true) in
    let met = c.in_ok-other.ensures in
    let r = c.in_ok-other.other in
    record {
      lookup = met.lookup ∙ c.loop-i.invariant.1;
      told = met.told;
      fewer = uncounted r c.in_default.not-Levels _;
      nesting = all_other a ns c.loop-i.i 0 c.args.most h r c.in_default.not-Levels (subst (λ l. TellsBehind (answers_of l.now.settings) (get_or ns c.loop-i.i 0 ∷ []) c.args.most r) c.loop-i.invariant.1 met.nesting);
    }

pub of_all-loop-i-preserved : goal.of_all-loop-i-preserved
of_all-loop-i-preserved t c =
    let ns = c.args.numbers.now in
    let a = answers_of c.args.self.now.lookup.now.settings in
    let w = c.loop-i.self in
    let v = c.of_met.new.self in
    let h : c.loop-i.i < length ns = omega (arith, c.loop-i-test.true) in
    let met = c.in_ok-other.ensures in
    let fewer : IsFewer w v = counted c.in_ok-other.other c.in-Levels.levels (IsFewer w v) c.in-Levels.is met.fewer in
    let leads = lead_fewer (answers_of w.lookup.now.settings) w.seen.items v.seen.items ns fewer c.loop-i.invariant.2 in
    let told = subst (λ r. TellsBehind (answers_of w.lookup.now.settings) (get_or ns c.loop-i.i 0 ∷ []) c.args.most r) c.in-Levels.is met.nesting in (
      met.told,
      met.lookup ∙ c.loop-i.invariant.1,
      subst (λ l. Lead (answers_of l.now.settings) v.seen.items ns) (sym met.lookup) leads,
      λ i b. c.loop-i.invariant.3 i (fewer i b),
      first_more a ns c.loop-i.i 0 c.args.most c.loop-i.highest c.in-Levels.levels c.max-highest.result h c.loop-i.invariant.4 (subst (λ l. TellsBehind (answers_of l.now.settings) (get_or ns c.loop-i.i 0 ∷ []) c.args.most (Levels c.in-Levels.levels)) c.loop-i.invariant.1 told) c.max-highest.ensures,
    )

pub of_all-returns-clause-nesting : goal.of_all-returns-clause-nesting
of_all-returns-clause-nesting t c = first_all (answers_of c.args.self.now.lookup.now.settings) c.args.numbers.now c.loop-i.i c.args.most c.loop-i.highest (omega (arith, c.loop-i-test.false)) c.loop-i.invariant.4

pub of_met-returns-then-most-eq0-clause-nesting : goal.of_met-returns-then-most-eq0-clause-nesting
of_met-returns-then-most-eq0-clause-nesting t c = met_high (answers_of c.args.self.now.lookup.now.settings) c.args.number c.args.most (omega (arith, c.if-most-eq0.true))

pub of_met-returns-in-Begun-clause-nesting : goal.of_met-returns-in-Begun-clause-nesting
of_met-returns-in-Begun-clause-nesting t c =
    let xs = c.args.self.now.seen.items in
    let all = c.requires.told.all in
    let h : c.args.number < length xs = omega (arith, all, c.requires.in_range) in
    met_begun (answers_of c.args.self.now.lookup.now.settings) xs c.args.number c.args.most c.requires.leads (slice_get-get_or xs c.args.number c.index.result.now h ∙ ap Some (sym c.index.ensures ∙ c.in-Begun.is))

pub of_met-returns-in-Done-clause-nesting : goal.of_met-returns-in-Done-clause-nesting
of_met-returns-in-Done-clause-nesting t c =
    let xs = c.args.self.now.seen.items in
    let all = c.requires.told.all in
    let h : c.args.number < length xs = omega (arith, all, c.requires.in_range) in
    met_done (answers_of c.args.self.now.lookup.now.settings) xs c.args.number c.in-Done.levels c.args.most c.requires.told (slice_get-get_or xs c.args.number c.index.result.now h ∙ ap Some (sym c.index.ensures ∙ c.in-Done.is)) (omega (arith, c.if-levels-most.true))

pub of_met-returns-in-Done-2-clause-nesting : goal.of_met-returns-in-Done-2-clause-nesting
of_met-returns-in-Done-2-clause-nesting t c =
    let xs = c.args.self.now.seen.items in
    let all = c.requires.told.all in
    let h : c.args.number < length xs = omega (arith, all, c.requires.in_range) in
    met_too_high (answers_of c.args.self.now.lookup.now.settings) xs c.args.number c.in-Done.levels c.args.most c.requires.told (slice_get-get_or xs c.args.number c.index.result.now h ∙ ap Some (sym c.index.ensures ∙ c.in-Done.is)) (omega (arith, c.if-levels-most.false))

pub of_met-returns-in-Levels-clause-nesting : goal.of_met-returns-in-Levels-clause-nesting
of_met-returns-in-Levels-clause-nesting t c =
    let a = answers_of c.args.self.now.lookup.now.settings in
    met_new a c.args.number c.in-Levels.levels c.args.most (subst (TellsOfValue a c.args.number (c.args.most - 1)) c.in-Levels.is c.in_ok-other-in-New.ensures.nesting) (omega (arith, c.if-most-eq0.false))

pub of_met-returns-in_default : goal.of_met-returns-in_default
of_met-returns-in_default t c =
    let r = c.in_ok-other-in-New.other in
    let value = c.in_ok-other-in-New.ensures in
    record {
      lookup = value.lookup;
      told = value.told;
      fewer = uncounted r c.in_default.not-Levels _;
      nesting = met_other (answers_of c.args.self.now.lookup.now.settings) c.args.number c.args.most (omega (arith, c.if-most-eq0.false)) r c.in_default.not-Levels value.nesting;
    }

pub of_value-returns-in_default-clause-nesting : goal.of_value-returns-in_default-clause-nesting
of_value-returns-in_default-clause-nesting t c =
    let a = answers_of c.args.self.now.lookup.now.settings in
    let f = c.in_ok-frame.ensures in
    value_alone a c.args.number c.args.most (expr_tree c.in_ok-frame.frame.value) (f.frame.value ∙ ap (value_at a.values) f.number) (c.levels_of_expr.ensures.more c.in_default.is)

pub of_value-of_all-requires : goal.of_value-of_all-requires
of_value-of_all-requires t c =
    let s = c.args.self.now.lookup.now.settings in
    let a = answers_of s in
    let xs = c.args.self.now.seen.items in
    let i = c.args.number in
    let all = c.requires.told.all in
    let h : i < length xs = omega (arith, all, c.requires.in_range) in
    let f = c.in_ok-frame.ensures in
    let m = c.deref.ensures.value ∙ f.frame.needs ∙ ap (λ n. met a (value_at a.values n)) f.number in
    (omega (arith, c.decreases), (told_begun a xs (set xs i Begun) i c.requires.told h refl, (subst (AllInRange (length a.values)) (sym m) (met_in_range s (value_at a.values i)), lead_begun a xs (set xs i Begun) i c.deref.result.now h refl m c.requires.leads)))

-- what is told of the value, where the levels behind it were counted
value_counted : (t : ℕ) (c : goal.of_value-After-drop-frame-in-Levels-2 t) → TellsOfValue (answers_of c.args.self.now.lookup.now.settings) c.args.number c.args.most (Levels (c.in-Some.own + c.in-Levels.behind))
value_counted t c =
    let a = answers_of c.args.self.now.lookup.now.settings in
    let f = c.in_ok-frame.ensures in
    let m = c.deref.ensures.value ∙ f.frame.needs ∙ ap (λ n. met a (value_at a.values n)) f.number in
    value_told a c.args.number (expr_tree c.in_ok-frame.frame.value) c.deref.result.now c.in-Some.own c.args.most (f.frame.value ∙ ap (value_at a.values) f.number) m c.in-Some.ensures.counts.is c.in-Some.ensures.counts.low c.in-Levels.behind
    (subst (TellsBehind a c.deref.result.now (c.args.most - c.in-Some.own)) c.in-Levels.is c.in_ok-other.ensures.nesting)

-- the number is in range of what is known then
number_counted : (t : ℕ) (c : goal.of_value-After-drop-frame-in-Levels-2 t) → c.args.number < length c.of_all.new.self.seen.items
number_counted t c =
    let told = subst (λ l. Told (answers_of l.now.settings) c.of_all.new.self.seen.items) c.in_ok-other.ensures.lookup c.in_ok-other.ensures.told in
    let all = told.all in
    omega (arith, all, c.requires.in_range)

pub of_value-returns-in-Levels-clause-told : goal.of_value-returns-in-Levels-clause-told
of_value-returns-in-Levels-clause-told t c =
    let a = answers_of c.args.self.now.lookup.now.settings in
    let ys = c.of_all.new.self.seen.items in
    let k = c.in-Some.own + c.in-Levels.behind in
    let told = subst (λ l. Told (answers_of l.now.settings) ys) c.in_ok-other.ensures.lookup c.in_ok-other.ensures.told in
    let value = value_counted t c in
    subst (λ l. Told (answers_of l.now.settings) (set ys c.args.number (Done k))) (sym c.in_ok-other.ensures.lookup) (told_done a ys (set ys c.args.number (Done k)) c.args.number k told (number_counted t c) refl value.0 value.1)

pub of_value-returns-in-Levels-clause-fewer : goal.of_value-returns-in-Levels-clause-fewer
of_value-returns-in-Levels-clause-fewer t c =
    let xs = c.args.self.now.seen.items in
    let ys = c.of_all.new.self.seen.items in
    let i = c.args.number in
    let k = c.in-Some.own + c.in-Levels.behind in
    let fewer : FewerBegun (set xs i Begun) ys = counted c.in_ok-other.other c.in-Levels.behind (FewerBegun (set xs i Begun) ys) c.in-Levels.is c.in_ok-other.ensures.fewer in
    fewer_done (answers_of c.args.self.now.lookup.now.settings) xs ys (set ys i (Done k)) i k (number_counted t c) fewer refl

pub of_value-returns-in-Levels-clause-nesting : goal.of_value-returns-in-Levels-clause-nesting
of_value-returns-in-Levels-clause-nesting t c = value_counted t c

pub of_value-returns : goal.of_value-returns
of_value-returns t c =
    let a = answers_of c.args.self.now.lookup.now.settings in
    let f = c.in_ok-frame.ensures in
    let m = c.deref.ensures.value ∙ f.frame.needs ∙ ap (λ n. met a (value_at a.values n)) f.number in
    let r = c.in_ok-other.other in
    let all = c.in_ok-other.ensures in
    record {
      lookup = all.lookup;
      told = all.told;
      fewer = uncounted r c.in_default-2.not-Levels _;
      nesting = value_other a c.args.number (expr_tree c.in_ok-frame.frame.value) c.deref.result.now c.in-Some.own c.args.most (f.frame.value ∙ ap (value_at a.values) f.number) m c.in-Some.ensures.counts.is c.in-Some.ensures.counts.low r c.in_default-2.not-Levels all.nesting;
    }
