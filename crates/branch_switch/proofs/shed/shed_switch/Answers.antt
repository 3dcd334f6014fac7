use Rattle.std.proofs.Common.{IfSome, ap, subst}
use Rattle.swc_ast.specs.Views.{expr_tree}
use Rattle.swc_ast.specs.declared.declarations.Decl.TheViews.{out-roll-SwitchStmt}
use Rattle.swc_utils.specs.Globals.{unresolved}
use Rattle.branch_rules.specs.Switches.{FixedValue}
use Rattle.branch_switch.specs.Values.{value_in}
use Rattle.branch_switch.proofs.Sheds.{shed_view, switch_shallower}
use Rattle.branch_switch.proofs.shed.shed_switch.Goals as goal

pub returns-in_ok-shed-in-Some-clause-sheds : goal.returns-in_ok-shed-in-Some-clause-sheds
returns-in_ok-shed-in-Some-clause-sheds c =
    let mark = unresolved c.args.ctx.now in
    shed_view mark c.args.n.now _ (value_in c.in-Some.value) c.in_ok-shed-in-Some.shed c.shed_unreached.new.cases.items
    (ap (λ m. m.span) (out-roll-SwitchStmt _)) (ap (λ m. m.discriminant.value) (out-roll-SwitchStmt _)) (ap (λ m. m.cases.items) (out-roll-SwitchStmt _))
    (subst (λ e. FixedValue mark (expr_tree e) (value_in c.in-Some.value)) c.deref.ensures (subst (λ o. IfSome o (λ k. FixedValue mark (expr_tree c.deref.result.now) (value_in k))) c.in-Some.is c.in_ok-value.ensures))
    c.in_ok-shed-in-Some.ensures.sheds

pub returns-in_ok-shed-in-Some-clause-no_deeper : goal.returns-in_ok-shed-in-Some-clause-no_deeper
returns-in_ok-shed-in-Some-clause-no_deeper c = switch_shallower c.args.n.now c.shed_unreached.new.cases c.in_ok-shed-in-Some.ensures.no_deeper
