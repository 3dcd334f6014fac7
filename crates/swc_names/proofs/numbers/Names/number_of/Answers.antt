use Rattle.std.proofs.Common.{◌∙◌, ap, position}
use Rattle.swc_ast.specs.Parts.{ident_name}
use Rattle.swc_ast.specs.Tree.{same_name}
use Rattle.swc_names.specs.Ids.{key_name}
use Rattle.swc_names.proofs.Numbered.{by_name, if_named}
use Rattle.swc_names.proofs.numbers.Names.number_of.Goals as goal

pub returns-clause-number : goal.returns-clause-number
returns-clause-number c =
    let k = key_name c.of.result in
    c.get_index_of.ensures.index ∙ by_name k c.self.inside.set.keys ∙ ap (position (same_name k)) c.self.view_is ∙ ap (λ x. position (same_name x) c.args.self.now) c.of.ensures

pub returns-clause-named : goal.returns-clause-named
returns-clause-named c =
    let k = key_name c.of.result in
    if_named (ident_name c.args.name.now) c.args.self.now _
    (c.get_index_of.ensures.index ∙ by_name k c.self.inside.set.keys ∙ ap (position (same_name k)) c.self.view_is ∙ ap (λ x. position (same_name x) c.args.self.now) c.of.ensures)
