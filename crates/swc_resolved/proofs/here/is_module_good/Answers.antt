use Rattle.std.proofs.Common.{sym, ap, ◌∙◌}
use Rattle.std.specs.Prelude.{◌&&◌}
use Rattle.swc_ast.specs.Core.{good_list, list_names, once_each, none_in}
use Rattle.swc_ast.specs.Scope.{import_names, vars_all}
use Rattle.tree_visit.specs.Nodes.{children_forest}
use Rattle.swc_resolved.specs.Names.{names}
use Rattle.swc_resolved.proofs.Lists.{two_lists, turned_too, list_fails, body_fails, all_hold}
use Rattle.swc_resolved.proofs.here.is_module_good.Goals as goal

pub returns-then-not-is_list : goal.returns-then-not-is_list
returns-then-not-is_list c =
    let cs = children_forest c.args.items in let is = import_names cs in let ns = list_names cs in let vs = vars_all cs in
    list_fails (good_list cs) (once_each is is && none_in ns is) (none_in is vs) (sym (c.in_ok-is_list.ensures ∙ two_lists _ ns _ vs (ap names c.deref.ensures.value ∙ c.in_ok-names.ensures) (ap names c.deref-2.ensures.value ∙ c.in_ok-vars.ensures)) ∙ c.if-not-is_list.true)

pub returns-then-not-is_body : goal.returns-then-not-is_body
returns-then-not-is_body c =
    let cs = children_forest c.args.items in let is = import_names cs in let ns = list_names cs in let vs = vars_all cs in
    body_fails (good_list cs) (once_each is is && none_in ns is) (none_in is vs) (sym (c.in_ok-is_body.ensures ∙ two_lists _ is _ ns (ap names c.deref-3.ensures.value ∙ c.in_ok-imports.ensures) (ap names c.deref-4.ensures.value ∙ c.in_ok-names.ensures) ∙ turned_too is ns) ∙ c.if-not-is_body.true)

pub returns : goal.returns
returns c =
    let cs = children_forest c.args.items in let is = import_names cs in let ns = list_names cs in let vs = vars_all cs in
    c.in_ok-is_good.ensures ∙ two_lists _ is _ vs (ap names c.deref-5.ensures.value ∙ c.in_ok-imports.ensures) (ap names c.deref-6.ensures.value ∙ c.in_ok-vars.ensures)
    ∙ all_hold (good_list cs) (once_each is is) (none_in ns is) (none_in is vs)
    (sym (c.in_ok-is_list.ensures ∙ two_lists _ ns _ vs (ap names c.deref.ensures.value ∙ c.in_ok-names.ensures) (ap names c.deref-2.ensures.value ∙ c.in_ok-vars.ensures)) ∙ c.if-not-is_list.false)
    (sym (c.in_ok-is_body.ensures ∙ two_lists _ is _ ns (ap names c.deref-3.ensures.value ∙ c.in_ok-imports.ensures) (ap names c.deref-4.ensures.value ∙ c.in_ok-names.ensures) ∙ turned_too is ns) ∙ c.if-not-is_body.false)
