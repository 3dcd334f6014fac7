use Rattle.std.proofs.Common.{rules, refl, sym, ap, ◌∙◌}
use Rattle.swc_ast.specs.Views.{expr_tree}
use Rattle.swc_ast.specs.Weight.{is_truth_or_absent}
use Rattle.branch_rules.specs.Turns.{as_it_was}
use Rattle.branch_loops.proofs.WhileSteps.{endless_turns}
use Rattle.branch_loops.proofs.whiles.fold_endless.Goals as goal

pub returns-then-is_truth : goal.returns-then-is_truth
returns-then-is_truth c = λ mark h. as_it_was refl

pub returns : goal.returns
returns c = λ mark h. endless_turns mark c.args.n.now _ _ _ c.in_ok-take_while.ensures h
    (sym (ap (λ x. is_truth_or_absent (expr_tree x)) c.deref.ensures) ∙ c.is_truth.ensures c.if-is_truth.false) (search rules) (search rules)
