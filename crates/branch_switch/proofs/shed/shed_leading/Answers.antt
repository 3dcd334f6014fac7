use Rattle.swc_ast.specs.declared.statements.SwitchCase.{size-SwitchCase}
use Rattle.branch_switch.proofs.Sheds.{leading_by, leading_depth}
use Rattle.branch_switch.proofs.shed.shed_leading.Goals as goal

pub returns-clause-sheds : goal.returns-clause-sheds
returns-clause-sheds c =
    leading_by c.args.cases.now.items c.split_off.new.self.items c.in_ok-back.back.items c.shed_cases-shed.new.cases.items c.append.new.self.items c.args.count c.shed_cases-shed.result
    c.in_ok-back.ensures.items c.in_ok-back.ensures.tail c.shed_cases-shed.ensures.sheds c.in_ok-append.ensures.items

pub returns-clause-no_deeper : goal.returns-clause-no_deeper
returns-clause-no_deeper c =
    leading_depth size-SwitchCase c.args.cases.now.items c.split_off.new.self.items c.in_ok-back.back.items c.shed_cases-shed.new.cases.items c.append.new.self.items c.args.count
    c.in_ok-back.ensures.items c.in_ok-back.ensures.tail c.shed_cases-shed.ensures.no_deeper c.in_ok-append.ensures.items
