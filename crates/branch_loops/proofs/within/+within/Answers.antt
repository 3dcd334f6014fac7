use Rattle.std.proofs.Common.{rules, [], ◌∷◌, refl}
use Rattle.swc_ast.proofs.Equations.{case_trees-is, if_tree-is, switch_tree-roll}
use Rattle.tree_walk.specs.Walks.{none}
use Rattle.tree_walk.proofs.Walked.{each_all, each_more}
use Rattle.branch_rules.specs.Within.{of_part, same_part, in_block}
use Rattle.branch_loops.proofs.WithinSteps.{each_within, arms_within, some_within, no_within, label_within, handler_within, no_handler, try_within, case_within, switch_within}
use Rattle.branch_loops.proofs.within.+within.Goals as goal

pub run_block-returns : goal.run_block-returns
run_block-returns t c = of_part c.in_ok-made.ensures

pub run_part-returns : goal.run_part-returns
run_part-returns t c = in_block (c.args.n.now.span ∷ []) (each_within c.in_ok-made.ensures)

pub run_arms-returns : goal.run_arms-returns
run_arms-returns t c = arms_within _ c.args.n.now.test c.args.n.now.cons c.run_boxed.new.s c.args.n.now.alt c.run_option.new.s (if_tree-is _) (if_tree-is _) c.in_ok-cons.ensures c.in_ok-alt.ensures

pub run_option-returns-in_ok-made-in-Some : goal.run_option-returns-in_ok-made-in-Some
run_option-returns-in_ok-made-in-Some t c = some_within _ c.in-Some.n c.run_boxed.new.s _ c.in-Some.is c.in_ok-made-in-Some.ensures

pub run_option-returns-in-None : goal.run_option-returns-in-None
run_option-returns-in-None t c = no_within _ c.in-None.is

pub run_stmts-loop-i-init : goal.run_stmts-loop-i-init
run_stmts-loop-i-init t c = (search rules, none)

pub run_stmts-loop-i-preserved : goal.run_stmts-loop-i-preserved
run_stmts-loop-i-preserved t c = (search rules, each_more _ _ _ _ _ _ _ _ (search rules) c.loop-i.invariant.0.0 (search rules) c.in_ok-made.ensures c.loop-i.invariant.1)

pub run_stmts-returns : goal.run_stmts-returns
run_stmts-returns t c = each_all _ _ _ _ _ (search rules) c.loop-i.invariant.0.0 c.loop-i.invariant.1

pub run_try-returns : goal.run_try-returns
run_try-returns t c = try_within c.args.n.now c.run_part.new.n c.run_handler.new.h c.run_finalizer.new.f c.in_ok-block.ensures c.in_ok-handler.ensures c.in_ok-finalizer.ensures

pub run_handler-returns-in_ok-made-in-Some : goal.run_handler-returns-in_ok-made-in-Some
run_handler-returns-in_ok-made-in-Some t c = handler_within _ _ c.in-Some.n c.run_part.new.n c.in-Some.is refl c.in_ok-made-in-Some.ensures

pub run_handler-returns-in-None : goal.run_handler-returns-in-None
run_handler-returns-in-None t c = no_handler _ c.in-None.is

pub run_finalizer-returns-in-None : goal.run_finalizer-returns-in-None
run_finalizer-returns-in-None t c = same_part _

pub run_labelled-returns : goal.run_labelled-returns
run_labelled-returns t c = label_within c.new-near.ensures (search rules) c.in_ok-made.ensures

pub run_switch-returns : goal.run_switch-returns
run_switch-returns t c = switch_within c.args.n.now c.run_cases.new.cases (switch_tree-roll _ _ _) c.in_ok-made.ensures

pub run_case-returns : goal.run_case-returns
run_case-returns t c = case_within _ c.args.n.now.test c.args.n.now.cons c.run_stmts.new.stmts (case_trees-is _) (case_trees-is _) c.in_ok-made.ensures

pub run_cases-loop-i-init : goal.run_cases-loop-i-init
run_cases-loop-i-init t c = (search rules, none)

pub run_cases-loop-i-preserved : goal.run_cases-loop-i-preserved
run_cases-loop-i-preserved t c = (search rules, each_more _ _ _ _ _ _ _ _ (search rules) c.loop-i.invariant.0.0 (search rules) c.in_ok-made.ensures c.loop-i.invariant.1)

pub run_cases-returns : goal.run_cases-returns
run_cases-returns t c = each_all _ _ _ _ _ (search rules) c.loop-i.invariant.0.0 c.loop-i.invariant.1
