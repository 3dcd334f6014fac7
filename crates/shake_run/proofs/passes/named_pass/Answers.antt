-- What the pass itself tells is what the options and its name say.
use Rattle.std.proofs.Common.{ap, ◌∙◌, map, string_bytes}
use Rattle.swc_ast.specs.Modules.{module_tree}
use Rattle.swc_pass.proofs.Keeping.{folded_answers, folded_keeps}
use Rattle.shake_run.proofs.Running.{is_expr, is_branch, is_dce, is_simplify, is_optimize, for_optimize, is_const, is_inline, is_json, told_is, answers_as, rounds_answer, stays_resolved, keeps_same, keeps_resolved, keeps_valid, keeps_core}
use Rattle.shake_run.proofs.passes.named_pass.Goals as goal

pub returns-in-Expr-clause-answers : goal.returns-in-Expr-clause-answers
returns-in-Expr-clause-answers c = answers_as module_tree c.fold_module.result _ (is_expr c.args.mark c.args.options _ c.in-Expr.is c.expr_simplifier-pass.ensures.settings) (folded_answers _ _ _ module_tree c.fold_module.result c.fold_module.ensures.folded)

pub returns-in-Branch-clause-answers : goal.returns-in-Branch-clause-answers
returns-in-Branch-clause-answers c = answers_as module_tree c.fold_module-in-Branch.result _ (is_branch c.args.mark c.args.options _ c.in-Branch.is c.dead_branch_remover-pass.ensures.settings) (folded_answers _ _ _ module_tree c.fold_module-in-Branch.result c.fold_module-in-Branch.ensures.folded)

pub returns-in-Dce-clause-answers : goal.returns-in-Dce-clause-answers
returns-in-Dce-clause-answers c =
    let told = told_is c.args.mark c.args.options _ c.shaking.result c.shaking.ensures.top_level (ap (λ v. map string_bytes v.items) c.shaking.ensures.top_retain) c.shaking.ensures.imports in
    answers_as module_tree c.fold_module-in-Dce.result _ (is_dce c.args.mark c.args.options _ c.in-Dce.is (c.dce-pass.ensures.settings ∙ told)) (folded_answers _ _ _ module_tree c.fold_module-in-Dce.result c.fold_module-in-Dce.ensures.folded)

pub returns-in-Simplify-clause-answers : goal.returns-in-Simplify-clause-answers
returns-in-Simplify-clause-answers c =
    let told = told_is c.args.mark c.args.options _ c.simplifying.result.dce c.simplifying.ensures.top_level (ap (λ v. map string_bytes v.items) c.simplifying.ensures.top_retain) c.simplifying.ensures.imports in
    answers_as module_tree c.fold_module-in-Simplify.result _ (is_simplify c.args.mark c.args.options _ c.in-Simplify.is (c.simplifier-pass.ensures.told ∙ told) (c.simplifier-pass.ensures.most ∙ c.simplifying.ensures.max_rounds)) (rounds_answer module_tree c.fold_module-in-Simplify.result _ _ _ _ c.fold_module-in-Simplify.ensures.simplified)

pub returns-in-Optimize-clause-answers : goal.returns-in-Optimize-clause-answers
returns-in-Optimize-clause-answers c =
    let config = c.simplifying-in-Optimize in
    let told = told_is c.args.mark c.args.options _ config.result.dce config.ensures.top_level (ap (λ v. map string_bytes v.items) config.ensures.top_retain) config.ensures.imports in
    answers_as module_tree c.fold_module-in-Optimize.result _ (is_optimize c.args.mark c.args.options _ c.in-Optimize.is c.optimizer-pass.ensures.settings told config.ensures.max_rounds) (folded_answers _ _ _ module_tree c.fold_module-in-Optimize.result c.fold_module-in-Optimize.ensures.folded)

pub returns-in-Optimize-clause-same : goal.returns-in-Optimize-clause-same
returns-in-Optimize-clause-same c =
    let config = c.simplifying-in-Optimize in
    let told = told_is c.args.mark c.args.options (map string_bytes c.args.retained.items) config.result.dce config.ensures.top_level (ap (λ v. map string_bytes v.items) config.ensures.top_retain) config.ensures.imports in
    keeps_same module_tree c.fold_module-in-Optimize.result _ _ _ (is_optimize c.args.mark c.args.options _ c.in-Optimize.is c.optimizer-pass.ensures.settings told config.ensures.max_rounds) (folded_keeps _ _ _ module_tree c.fold_module-in-Optimize.result c.fold_module-in-Optimize.ensures.folded) (for_optimize c.args.mark c.args.options (map string_bytes c.args.retained.items) c.optimizer-pass.ensures.settings told)

pub returns-in-Optimize-clause-resolved : goal.returns-in-Optimize-clause-resolved
returns-in-Optimize-clause-resolved c =
    let config = c.simplifying-in-Optimize in
    let told = told_is c.args.mark c.args.options (map string_bytes c.args.retained.items) config.result.dce config.ensures.top_level (ap (λ v. map string_bytes v.items) config.ensures.top_retain) config.ensures.imports in
    keeps_resolved module_tree c.fold_module-in-Optimize.result _ _ _ (folded_keeps _ _ _ module_tree c.fold_module-in-Optimize.result c.fold_module-in-Optimize.ensures.folded) (for_optimize c.args.mark c.args.options (map string_bytes c.args.retained.items) c.optimizer-pass.ensures.settings told)

pub returns-in-Optimize-clause-valid : goal.returns-in-Optimize-clause-valid
returns-in-Optimize-clause-valid c =
    let config = c.simplifying-in-Optimize in
    let told = told_is c.args.mark c.args.options (map string_bytes c.args.retained.items) config.result.dce config.ensures.top_level (ap (λ v. map string_bytes v.items) config.ensures.top_retain) config.ensures.imports in
    keeps_valid module_tree c.fold_module-in-Optimize.result _ _ _ (folded_keeps _ _ _ module_tree c.fold_module-in-Optimize.result c.fold_module-in-Optimize.ensures.folded) (for_optimize c.args.mark c.args.options (map string_bytes c.args.retained.items) c.optimizer-pass.ensures.settings told)

pub returns-in-Optimize-clause-core : goal.returns-in-Optimize-clause-core
returns-in-Optimize-clause-core c =
    let config = c.simplifying-in-Optimize in
    let told = told_is c.args.mark c.args.options (map string_bytes c.args.retained.items) config.result.dce config.ensures.top_level (ap (λ v. map string_bytes v.items) config.ensures.top_retain) config.ensures.imports in
    keeps_core module_tree c.fold_module-in-Optimize.result _ _ _ (folded_keeps _ _ _ module_tree c.fold_module-in-Optimize.result c.fold_module-in-Optimize.ensures.folded) (for_optimize c.args.mark c.args.options (map string_bytes c.args.retained.items) c.optimizer-pass.ensures.settings told)

pub returns-in-Const-clause-answers : goal.returns-in-Const-clause-answers
returns-in-Const-clause-answers c = answers_as module_tree c.fold_module-in-Const.result _ (is_const c.args.mark c.args.options (map string_bytes c.args.retained.items) c.in-Const.is) (folded_answers _ _ _ module_tree c.fold_module-in-Const.result c.fold_module-in-Const.ensures.folded)

pub returns-in-Const-clause-same : goal.returns-in-Const-clause-same
returns-in-Const-clause-same c = keeps_same module_tree c.fold_module-in-Const.result _ _ _ (is_const c.args.mark c.args.options (map string_bytes c.args.retained.items) c.in-Const.is) (folded_keeps _ _ _ module_tree c.fold_module-in-Const.result c.fold_module-in-Const.ensures.folded) tt

pub returns-in-Const-clause-resolved : goal.returns-in-Const-clause-resolved
returns-in-Const-clause-resolved c = keeps_resolved module_tree c.fold_module-in-Const.result _ _ _ (folded_keeps _ _ _ module_tree c.fold_module-in-Const.result c.fold_module-in-Const.ensures.folded) tt

pub returns-in-Const-clause-valid : goal.returns-in-Const-clause-valid
returns-in-Const-clause-valid c = keeps_valid module_tree c.fold_module-in-Const.result _ _ _ (folded_keeps _ _ _ module_tree c.fold_module-in-Const.result c.fold_module-in-Const.ensures.folded) tt

pub returns-in-Const-clause-core : goal.returns-in-Const-clause-core
returns-in-Const-clause-core c = keeps_core module_tree c.fold_module-in-Const.result _ _ _ (folded_keeps _ _ _ module_tree c.fold_module-in-Const.result c.fold_module-in-Const.ensures.folded) tt

pub returns-in-Inline-clause-answers : goal.returns-in-Inline-clause-answers
returns-in-Inline-clause-answers c = answers_as module_tree c.fold_module-in-Inline.result _ (is_inline c.args.mark c.args.options (map string_bytes c.args.retained.items) c.in-Inline.is) (folded_answers _ _ _ module_tree c.fold_module-in-Inline.result c.fold_module-in-Inline.ensures.folded)

pub returns-in-Inline-clause-same : goal.returns-in-Inline-clause-same
returns-in-Inline-clause-same c = keeps_same module_tree c.fold_module-in-Inline.result _ _ _ (is_inline c.args.mark c.args.options (map string_bytes c.args.retained.items) c.in-Inline.is) (folded_keeps _ _ _ module_tree c.fold_module-in-Inline.result c.fold_module-in-Inline.ensures.folded) tt

pub returns-in-Inline-clause-resolved : goal.returns-in-Inline-clause-resolved
returns-in-Inline-clause-resolved c = keeps_resolved module_tree c.fold_module-in-Inline.result _ _ _ (folded_keeps _ _ _ module_tree c.fold_module-in-Inline.result c.fold_module-in-Inline.ensures.folded) tt

pub returns-in-Inline-clause-valid : goal.returns-in-Inline-clause-valid
returns-in-Inline-clause-valid c = keeps_valid module_tree c.fold_module-in-Inline.result _ _ _ (folded_keeps _ _ _ module_tree c.fold_module-in-Inline.result c.fold_module-in-Inline.ensures.folded) tt

pub returns-in-Inline-clause-core : goal.returns-in-Inline-clause-core
returns-in-Inline-clause-core c = keeps_core module_tree c.fold_module-in-Inline.result _ _ _ (folded_keeps _ _ _ module_tree c.fold_module-in-Inline.result c.fold_module-in-Inline.ensures.folded) tt

pub returns-in-Json-clause-answers : goal.returns-in-Json-clause-answers
returns-in-Json-clause-answers c = answers_as module_tree c.fold_module-in-Json.result _ (is_json c.args.mark c.args.options _ c.in-Json.is c.json_parse-pass.ensures.min_cost) c.fold_module-in-Json.ensures.answer

pub returns-in-Json-clause-resolved : goal.returns-in-Json-clause-resolved
returns-in-Json-clause-resolved c = stays_resolved module_tree c.fold_module-in-Json.result _ _ _ c.fold_module-in-Json.ensures.answer
