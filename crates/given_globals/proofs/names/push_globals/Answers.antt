use Rattle.std.proofs.Common.{rules, ◌≡◌, ◌++◌, map, ap, ◌∙◌}
use Rattle.std.proofs.lemmas.Map.Iter.{iter_end}
use Rattle.std.specs.BTreeMap.{keys}
use Rattle.std.specs.Map.Iter.{deref}
use Rattle.given_globals.specs.Rows.{texts}
use Rattle.given_globals.proofs.Pushes.{all_names}
use Rattle.given_globals.proofs.names.push_globals.Goals as goal

pub returns-clause-names : goal.returns-clause-names
returns-clause-names c =
    let e : map deref c.loop-name.yielded ≡ keys c.args.globals.now = search (rules, iter_end) in
    c.loop-name.invariant ∙ ap (λ ts. texts c.args.names.now.items ++ ts) (all_names c.args.globals.now c.loop-name.yielded e)
