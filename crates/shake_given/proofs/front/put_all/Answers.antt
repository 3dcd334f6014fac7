use Rattle.std.proofs.Common.{map, subst}
use Rattle.swc_ast.specs.Modules.{module_tree}
use Rattle.swc_expr_map.specs.Entries.{IsSorted}
use Rattle.shake_options.specs.Flags.{flag_texts}
use Rattle.shake_given.specs.Refused.{Refused, by_flag}
use Rattle.shake_given.proofs.Deep.{names_within}
use Rattle.shake_given.proofs.Refusals.{returned, import_refused, put_refused}
use Rattle.shake_given.proofs.Stay.{put_prepared, put_stays}
use Rattle.shake_given.proofs.front.put_all.Goals as goal

pub returns-clause-prepared : goal.returns-clause-prepared
returns-clause-prepared c = put_prepared (map flag_texts c.args.flags.now) c.args.mark (module_tree c.args.module) (module_tree c.in_ok-constant.constant) c.in_ok-names.field-0 c.in_ok-names.ensures.reads c.in_ok-constant.ensures.replaces c.put.result c.put.ensures.puts

pub returns-clause-stays : goal.returns-clause-stays
returns-clause-stays c =
    put_stays (map flag_texts c.args.flags.now) c.args.mark (module_tree c.args.module) (module_tree c.in_ok-constant.constant) c.in_ok-names.field-0 c.in_ok-names.ensures.reads c.in_ok-constant.ensures.replaces c.put.result c.put.ensures.puts
    (subst IsSorted c.names-2.view_is c.names-2.invariant)

pub returns-clause-within : goal.returns-clause-within
returns-clause-within c = names_within (map flag_texts c.args.flags.now) c.args.mark c.args.most (module_tree c.args.module) c.requires (module_tree c.in_ok-constant.constant) c.in_ok-names.field-0 c.in_ok-names.ensures.reads c.in_ok-constant.ensures.replaces c.put.result c.put.ensures.within

pub returns-in_err-constant-clause-told : goal.returns-in_err-constant-clause-told
returns-in_err-constant-clause-told c =
    returned c.from_residual-in_err-constant.result (Refused (map flag_texts c.args.flags.now) c.args.mark (module_tree c.args.module)) c.in_err-constant.field-0.0 c.from_residual-in_err-constant.ensures.1
    (import_refused (map flag_texts c.args.flags.now) c.args.mark (module_tree c.args.module) c.in_ok-names.field-0 c.in_ok-names.ensures.reads c.in_err-constant.field-0.0 c.in_err-constant.ensures.told)

pub returns-clause-told : goal.returns-clause-told
returns-clause-told c = put_refused (map flag_texts c.args.flags.now) c.args.mark (module_tree c.args.module) c.in_ok-names.field-0 c.in_ok-names.ensures.reads (module_tree c.in_ok-constant.constant) c.in_ok-constant.ensures.replaces c.args.most c.requires c.put.result c.put.ensures.told

pub returns-in_err-names-clause-told : goal.returns-in_err-names-clause-told
returns-in_err-names-clause-told c = returned c.from_residual.result (Refused (map flag_texts c.args.flags.now) c.args.mark (module_tree c.args.module)) c.in_err-names.field-0.0 c.from_residual.ensures.1 (by_flag c.in_err-names.ensures.refused)
