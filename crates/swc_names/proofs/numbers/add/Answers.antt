use Rattle.swc_ast.specs.Parts.{ident_name}
use Rattle.swc_names.specs.Ids.{key_name}
use Rattle.swc_names.proofs.Distinct.{named, there, put}
use Rattle.swc_names.proofs.numbers.add.Goals as goal

pub returns-in_ok-insert : goal.returns-in_ok-insert
returns-in_ok-insert c =
    let i = c.in_ok-to_id.field-0 in let n = c.args.name.now in
    put n i c.args.set.now.keys c.insert.new.self.keys (named i n c.in_ok-to_id.ensures.text c.in_ok-to_id.ensures.context) c.in_ok-insert.ensures.keys

pub returns-else-not-contains : goal.returns-else-not-contains
returns-else-not-contains c = there (ident_name c.args.name.now) (key_name c.of.result) c.args.set.now.keys c.contains.result c.of.ensures c.contains.ensures c.if-not-contains.false
