use Rattle.std.proofs.Common.{sym, ap, ◌∙◌}
use Rattle.std.specs.Prelude.{◌&&◌}
use Rattle.swc_ast.specs.Core.{good_list, list_names, once_each, none_in}
use Rattle.tree_visit.specs.Nodes.{children_forest}
use Rattle.swc_resolved.specs.Names.{names}
use Rattle.swc_resolved.proofs.Lists.{first_false, first_true, apart_as, apart_turned}
use Rattle.swc_resolved.proofs.here.is_body_good.Goals as goal

pub returns-then-not-is_list : goal.returns-then-not-is_list
returns-then-not-is_list c = first_false _ _ (sym (c.in_ok-is_list.ensures ∙ apart_as _ _ _ (ap names c.deref.ensures.value ∙ c.in_ok-names.ensures)) ∙ c.if-not-is_list.true)

pub returns : goal.returns
returns c =
    let list = children_forest c.args.body in let others = names c.args.others.now in
    c.in_ok-is_good.ensures
    ∙ apart_turned others (names c.deref-2.result.now) (list_names list) (ap names c.deref-2.ensures.value ∙ c.in_ok-names.ensures)
    ∙ first_true (good_list list) (once_each others others && none_in (list_names list) others) (sym (c.in_ok-is_list.ensures ∙ apart_as _ _ _ (ap names c.deref.ensures.value ∙ c.in_ok-names.ensures)) ∙ c.if-not-is_list.false)
