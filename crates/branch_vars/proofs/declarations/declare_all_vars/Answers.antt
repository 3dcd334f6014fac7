use Rattle.std.proofs.Common.{[], ap, subst, ◌∙◌}
use Rattle.std.specs.Prelude.{IfOk}
use Rattle.branch_rules.specs.Vars.{each_once, Declares}
use Rattle.branch_vars.specs.Names.{names_of, statements}
use Rattle.branch_vars.proofs.Gathered.{all_left}
use Rattle.branch_vars.proofs.declarations.declare_all_vars.Goals as goal

pub returns : goal.returns
returns c =
    subst (λ xs. IfOk c.declare.result (λ o. Declares (each_once [] xs) (statements o)))
    (ap names_of c.deref.ensures.value ∙ all_left c.loop-left.left.now _ _ c.in_default.len_below c.loop-left.invariant)
    c.declare.ensures
