use Rattle.std.proofs.Common.{[], ap, subst, ◌∙◌}
use Rattle.std.specs.Prelude.{IfOk}
use Rattle.swc_ast.specs.Views.{stmt_tree}
use Rattle.branch_rules.specs.Vars.{each_once, Declares}
use Rattle.branch_vars.specs.Names.{names_of, statements}
use Rattle.branch_vars.proofs.Gathered.{one_left}
use Rattle.branch_vars.proofs.declarations.declare_vars.Goals as goal

pub returns : goal.returns
returns c =
    subst (λ xs. IfOk c.declare.result (λ o. Declares (each_once [] xs) (statements o)))
    (ap names_of c.deref.ensures.value ∙ c.in_ok-add_vars.ensures ∙ one_left (stmt_tree c.args.stmt.now) _ c.new-names.ensures.items)
    c.declare.ensures
