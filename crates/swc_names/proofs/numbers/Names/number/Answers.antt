use Rattle.std.proofs.Common.{◌∙◌, ap, position}
use Rattle.swc_ast.specs.Tree.{same_name}
use Rattle.swc_names.specs.Ids.{id_name}
use Rattle.swc_names.proofs.Numbered.{by_name, if_named}
use Rattle.swc_names.proofs.numbers.Names.number.Goals as goal

pub returns-clause-number : goal.returns-clause-number
returns-clause-number c = let x = id_name c.args.id.now in c.get_index_of.ensures.index ∙ by_name x c.self.inside.set.keys ∙ ap (position (same_name x)) c.self.view_is

pub returns-clause-named : goal.returns-clause-named
returns-clause-named c = let x = id_name c.args.id.now in if_named x c.args.self.now _ (c.get_index_of.ensures.index ∙ by_name x c.self.inside.set.keys ∙ ap (position (same_name x)) c.self.view_is)
