use Rattle.swc_ast.specs.Parts.{ident_name}
use Rattle.dce_uses.proofs.Numbering.{got_number, within}
use Rattle.dce_uses.proofs.table.Table.number.Goals as goal

pub touch-requires : goal.touch-requires
touch-requires c = within (ident_name c.args.name.now) c.add.new.self c.in_ok-number.number c.in_ok-number.ensures.number

pub returns : goal.returns
returns c =
    got_number c.args.self.now c.touch.new.self (ident_name c.args.name.now) c.add.new.self c.in_ok-number.number
    c.in_ok-number.ensures.names c.in_ok-number.ensures.number c.in_ok-touch.ensures
