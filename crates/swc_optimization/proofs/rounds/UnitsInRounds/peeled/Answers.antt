use Rattle.std.proofs.Common.{sym, subst, false}
use Rattle.swc_ast.specs.Modules.{module_tree}
use Rattle.swc_pass.specs.Repeat.{Rounds}
use Rattle.swc_dce.specs.Configured.{told}
use Rattle.round_proofs.specs.Rested.{AtRest, Rested}
use Rattle.round_units.specs.Trees.{units_tree}
use Rattle.swc_optimization.proofs.Peeled.{peeled_rounds, peeled_rest}
use Rattle.swc_optimization.proofs.rounds.UnitsInRounds.peeled.Goals as goal

pub returns-clause-rounds : goal.returns-clause-rounds
returns-clause-rounds c =
    let s = told c.args.names.now.unresolved_mark c.args.names.now.config in
    let m = c.in_ok-module.module in
    let n = c.in_ok-peeled.peeled.rounds in
    subst (λ t. Rounds (Rested s) t n false (units_tree c.in_ok-whole.whole)) c.in_ok-module.ensures
    (subst (λ u. Rounds (Rested s) (module_tree m) n false u) (sym c.in_ok-whole.ensures)
    (peeled_rounds s c.args.most n m (module_tree c.in_ok-peeled.peeled.module) (subst (AtRest s) (sym c.in_ok-module.ensures) c.requires) c.in_ok-peeled.ensures.peeled))

pub returns-clause-rests : goal.returns-clause-rests
returns-clause-rests c =
    let s = told c.args.names.now.unresolved_mark c.args.names.now.config in
    let m = c.in_ok-module.module in
    subst (AtRest s) (sym c.in_ok-whole.ensures)
    (peeled_rest s c.args.most c.in_ok-peeled.peeled.rounds m (module_tree c.in_ok-peeled.peeled.module) (subst (AtRest s) (sym c.in_ok-module.ensures) c.requires) c.in_ok-peeled.ensures.peeled)
