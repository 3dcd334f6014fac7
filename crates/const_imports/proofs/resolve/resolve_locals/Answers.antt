use Rattle.std.proofs.Common.{ap, ◌∙◌, ◌++◌}
use Rattle.swc_ast.specs.Modules.{item_tree}
use Rattle.swc_ast.specs.Parts.{list_trees}
use Rattle.const_imports.specs.Faults.{import_faults, joined, each_faults}
use Rattle.const_imports.specs.Locals.{locals}
use Rattle.const_imports.specs.Views.{is_given, has_value, locals_of, of_text, roles_of, first_of}
use Rattle.const_imports.proofs.Resolved.{refused, faultless}
use Rattle.const_imports.proofs.resolve.resolve_locals.Goals as goal

pub returns-in-Some-clause-told : goal.returns-in-Some-clause-told
returns-in-Some-clause-told g c =
    let t = list_trees item_tree c.args.module.now.body.items in
    refused (is_given c.args.given.now) (has_value c.args.given.now) t c.in_ok-locals.locals c.in_ok-imported.imported.items
    (c.in_ok-imported.ensures ∙ ap (λ xs. locals (is_given c.args.given.now) (list_trees item_tree xs)) c.deref.ensures.value)
    (λ y. c.in_ok-locals.ensures y ∙ ap (λ xs. of_text y (locals_of xs)) c.deref-2.ensures.value)
    c.first_fault.result c.in-Some.fault c.refusal.result
    (c.first_fault.ensures ∙ ap (λ xs. first_of (import_faults (has_value c.args.given.now) (locals_of xs) ++ joined (each_faults (has_value c.args.given.now) (roles_of c.in_ok-locals.locals) t))) c.deref-3.ensures.value)
    c.in-Some.is c.refusal.ensures

pub returns-clause-faultless : goal.returns-clause-faultless
returns-clause-faultless g c =
    let t = list_trees item_tree c.args.module.now.body.items in
    faultless (is_given c.args.given.now) (has_value c.args.given.now) t c.in_ok-locals.locals c.in_ok-imported.imported.items
    (c.in_ok-imported.ensures ∙ ap (λ xs. locals (is_given c.args.given.now) (list_trees item_tree xs)) c.deref.ensures.value)
    (λ y. c.in_ok-locals.ensures y ∙ ap (λ xs. of_text y (locals_of xs)) c.deref-2.ensures.value)
    c.first_fault.result
    (c.first_fault.ensures ∙ ap (λ xs. first_of (import_faults (has_value c.args.given.now) (locals_of xs) ++ joined (each_faults (has_value c.args.given.now) (roles_of c.in_ok-locals.locals) t))) c.deref-3.ensures.value)
    c.in-None.is
