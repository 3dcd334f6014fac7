use Rattle.std.proofs.Common.{sym, ◌∙◌}
use Rattle.swc_ast.specs.Parts.{ident_name}
use Rattle.carry_reads.proofs.Readying.{one_added, none_added}
use Rattle.carry_reads.proofs.ready.add.Goals as goal

pub returns-in_ok-set : goal.returns-in_ok-set
returns-in_ok-set c = one_added c.args.vars.now c.args.ready.now c.set.new.self (ident_name c.args.name.now) c.requires (sym c.is_steady.ensures ∙ c.if-is_steady.true) c.in_ok-set.ensures.items c.in_ok-set.ensures.keeps

pub returns-else-is_steady : goal.returns-else-is_steady
returns-else-is_steady c = none_added c.args.vars.now c.args.ready.now (ident_name c.args.name.now) (sym c.is_steady.ensures ∙ c.if-is_steady.false)
