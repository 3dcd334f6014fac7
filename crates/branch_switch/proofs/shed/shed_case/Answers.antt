use Rattle.std.proofs.Common.{not, sym, ap, ◌∙◌, rules}
use Rattle.std.proofs.lemmas.Fn.{filter_same}
use Rattle.swc_ast.specs.Parts.{list_trees}
use Rattle.swc_ast.specs.Views.{stmt_tree}
use Rattle.branch_rules.specs.Switches.{functions_of, has_shed, is_shed}
use Rattle.branch_switch.specs.Shed.{as_it_was}
use Rattle.branch_switch.proofs.Sheds.{case_shed, case_shallower, without}
use Rattle.branch_switch.proofs.shed.shed_case.Goals as goal

pub returns-then-declares_function-clause-sheds : goal.returns-then-declares_function-clause-sheds
returns-then-declares_function-clause-sheds c = as_it_was _

pub returns-then-not-has_shed-clause-sheds : goal.returns-then-not-has_shed-clause-sheds
returns-then-not-has_shed-clause-sheds c = as_it_was _

pub returns-clause-sheds : goal.returns-clause-sheds
returns-clause-sheds c =
    case_shed c.args.case.now _
    (ap (λ xs. functions_of (list_trees stmt_tree xs)) (sym c.deref.ensures.value) ∙ c.declares_function.ensures (search rules))
    (ap (λ xs. has_shed (list_trees stmt_tree xs)) (sym c.deref-2.ensures.value) ∙ (sym c.has_shed.ensures ∙ c.if-not-has_shed.false))
    (without c.args.case.now c.retain.new.self (filter_same _ _ _ (λ x b f h. search rules) _ _ c.retain.ensures.filtered))

pub returns-clause-no_deeper : goal.returns-clause-no_deeper
returns-clause-no_deeper c = case_shallower (λ s. not (is_shed (stmt_tree s))) c.args.case.now c.retain.new.self (filter_same _ _ _ (λ x b f h. search rules) _ _ c.retain.ensures.filtered)
