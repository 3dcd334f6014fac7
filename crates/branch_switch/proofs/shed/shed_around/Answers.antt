use Rattle.std.proofs.Common.{◌++◌, ap, drop, subst, take, ◌∙◌, append_assoc}
use Rattle.swc_ast.specs.declared.statements.SwitchCase.{size-SwitchCase}
use Rattle.branch_rules.specs.Switches.{Ends}
use Rattle.branch_switch.specs.Clauses.{clauses}
use Rattle.branch_switch.proofs.Sheds.{around_by, around_depth}
use Rattle.branch_switch.proofs.shed.shed_around.Goals as goal

pub returns-clause-sheds : goal.returns-clause-sheds
returns-clause-sheds c =
    let m = c.reached-count.result in
    let is = c.shed_cases-behind_shed.new.cases.items in
    around_by c.args.cases.now.items c.split_off.new.self.items c.in_ok-back.back.items c.split_off-2.new.self.items c.in_ok-behind.behind.items c.shed_cases-front_shed.new.cases.items is c.append-2.new.self.items c.args.i m c.shed_cases-front_shed.result c.shed_cases-behind_shed.result
    c.in_ok-back.ensures.items c.in_ok-back.ensures.tail c.in_ok-behind.ensures.items c.in_ok-behind.ensures.tail
    (subst (λ xs. Ends (clauses (take m xs)) (clauses (drop m xs))) c.deref.ensures.value c.reached-count.ensures.ends)
    c.shed_cases-front_shed.ensures.sheds c.shed_cases-behind_shed.ensures.sheds
    (c.in_ok-append-2.ensures.items ∙ ap (λ xs. xs ++ is) c.in_ok-append.ensures.items ∙ append_assoc c.shed_cases-front_shed.new.cases.items c.split_off-2.new.self.items is)

pub returns-clause-no_deeper : goal.returns-clause-no_deeper
returns-clause-no_deeper c =
    let is = c.shed_cases-behind_shed.new.cases.items in
    around_depth size-SwitchCase c.args.cases.now.items c.split_off.new.self.items c.in_ok-back.back.items c.split_off-2.new.self.items c.in_ok-behind.behind.items c.shed_cases-front_shed.new.cases.items is c.append-2.new.self.items c.args.i c.reached-count.result
    c.in_ok-back.ensures.items c.in_ok-back.ensures.tail c.in_ok-behind.ensures.items c.in_ok-behind.ensures.tail
    c.shed_cases-front_shed.ensures.no_deeper c.shed_cases-behind_shed.ensures.no_deeper
    (c.in_ok-append-2.ensures.items ∙ ap (λ xs. xs ++ is) c.in_ok-append.ensures.items ∙ append_assoc c.shed_cases-front_shed.new.cases.items c.split_off-2.new.self.items is)
