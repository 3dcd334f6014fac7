use Rattle.std.proofs.Common.{subst, [], ◌∷◌}
use Rattle.swc_ast.specs.Parts.{ident_name, optional_trees}
use Rattle.swc_ast.specs.Views.{expr_tree}
use Rattle.carry_parts.specs.Carries.{pass_of}
use Rattle.carry_reads.specs.States.{state_of}
use Rattle.carry_reads.specs.Values.{Puts}
use Rattle.carry_reads.proofs.Carrying.{some_entry_there}
use Rattle.carry_reads.proofs.Walking.{carried_steps}
use Rattle.carry_reads.proofs.reader.Reader.carry.Goals as goal

pub add_value-requires : goal.add_value-requires
add_value-requires c =
    let r = c.args.self.now in let n = c.args.n.now in
    λ h. c.requires.values (ident_name n.name) (some_entry_there (pass_of r.pass) r.vars (state_of r c.args.tables.now c.args.place) (ident_name n.name) (n.span ∷ n.name.span ∷ []) (optional_trees expr_tree n.init) c.entry-carry.result c.entry-carry.ensures h)

pub returns : goal.returns
returns c =
    let n = c.args.n.now in
    carried_steps c.args.self.now c.args.place c.args.tables.now c.add_value.new.values c.add.new.ready n
    (subst (Puts c.args.tables.now.values c.add_value.new.values (ident_name n.name)) c.entry-carry.ensures c.add_value.ensures) c.in_ok-add.ensures
