use Rattle.std.proofs.Common.{length, sym, ap, subst, ◌∙◌, ◌-◌}
use Rattle.swc_ast.specs.Modules.{module_tree}
use Rattle.given_rules.proofs.FormedViews.{module_formed}
use Rattle.given_globals.specs.Globals.{answers_of}
use Rattle.swc_inline_globals.specs.Nesting.{TellsBehind}
use Rattle.swc_inline_globals.specs.Walking.{AllInRange}
use Rattle.swc_inline_globals.proofs.Nested.{tree_alone, tree_told, tree_other}
use Rattle.swc_inline_globals.proofs.Passing.{gather_tells}
use Rattle.swc_inline_globals.proofs.Ranges.{met_in_range}
use Rattle.swc_inline_globals.proofs.levels.count_levels.Goals as goal

pub returns-in_default-clause-nesting : goal.returns-in_default-clause-nesting
returns-in_default-clause-nesting c = tree_alone (answers_of c.args.lookup.now.settings) (module_tree c.args.module.now) c.args.most (c.levels_of_module.ensures.more c.in_default.is)

pub of_all-requires-clause-in_range : goal.of_all-requires-clause-in_range
of_all-requires-clause-in_range c =
    let s = c.args.lookup.now.settings in
    let t = module_tree c.args.module.now in
    let k = gather_tells s t (module_tree c.put_module.new.n) (answers_of c.new-gathering.result.lookup.now.settings) (answers_of c.put_module.new.rules.lookup.now.settings) c.new-gathering.result.met.items c.put_module.new.rules.met.items
    (ap (λ l. answers_of l.now.settings) c.new-gathering.ensures.lookup) c.new-gathering.ensures.met (module_formed c.args.module.now) c.in_ok-put_module.ensures in
    subst (λ l. AllInRange (length (answers_of l.now.settings).values) c.deref.result.now) (sym c.in_ok-counting.ensures.lookup) (subst (AllInRange (length (answers_of s).values)) (sym (c.deref.ensures.value ∙ k.1)) (met_in_range s t))

pub returns-in-Levels-clause-same : goal.returns-in-Levels-clause-same
returns-in-Levels-clause-same c =
    let s = c.args.lookup.now.settings in
    let t = module_tree c.args.module.now in
    let k = gather_tells s t (module_tree c.put_module.new.n) (answers_of c.new-gathering.result.lookup.now.settings) (answers_of c.put_module.new.rules.lookup.now.settings) c.new-gathering.result.met.items c.put_module.new.rules.met.items
    (ap (λ l. answers_of l.now.settings) c.new-gathering.ensures.lookup) c.new-gathering.ensures.met (module_formed c.args.module.now) c.in_ok-put_module.ensures in
    k.0

pub returns-in-Levels-clause-nesting : goal.returns-in-Levels-clause-nesting
returns-in-Levels-clause-nesting c =
    let s = c.args.lookup.now.settings in
    let t = module_tree c.args.module.now in
    let a = answers_of s in
    let is = c.deref.result.now in
    let k = gather_tells s t (module_tree c.put_module.new.n) (answers_of c.new-gathering.result.lookup.now.settings) (answers_of c.put_module.new.rules.lookup.now.settings) c.new-gathering.result.met.items c.put_module.new.rules.met.items
    (ap (λ l. answers_of l.now.settings) c.new-gathering.ensures.lookup) c.new-gathering.ensures.met (module_formed c.args.module.now) c.in_ok-put_module.ensures in
    let told = subst (λ l. TellsBehind (answers_of l.now.settings) is (c.args.most - c.in-Some.own) c.in_ok-other.other) c.in_ok-counting.ensures.lookup c.in_ok-other.ensures.nesting in
    tree_told a t is c.in-Some.own c.args.most (c.deref.ensures.value ∙ k.1) c.in-Some.ensures.counts.is c.in-Some.ensures.counts.low c.in-Levels.behind (subst (TellsBehind a is (c.args.most - c.in-Some.own)) c.in-Levels.is told)

pub returns : goal.returns
returns c =
    let s = c.args.lookup.now.settings in
    let t = module_tree c.args.module.now in
    let a = answers_of s in
    let is = c.deref.result.now in
    let k = gather_tells s t (module_tree c.put_module.new.n) (answers_of c.new-gathering.result.lookup.now.settings) (answers_of c.put_module.new.rules.lookup.now.settings) c.new-gathering.result.met.items c.put_module.new.rules.met.items
    (ap (λ l. answers_of l.now.settings) c.new-gathering.ensures.lookup) c.new-gathering.ensures.met (module_formed c.args.module.now) c.in_ok-put_module.ensures in
    let told = subst (λ l. TellsBehind (answers_of l.now.settings) is (c.args.most - c.in-Some.own) c.in_ok-other.other) c.in_ok-counting.ensures.lookup c.in_ok-other.ensures.nesting in
    record {
      same = k.0;
      nesting = tree_other a t is c.in-Some.own c.args.most (c.deref.ensures.value ∙ k.1) c.in-Some.ensures.counts.is c.in-Some.ensures.counts.low c.in_ok-other.other c.in_default-2.not-Levels told;
    }
