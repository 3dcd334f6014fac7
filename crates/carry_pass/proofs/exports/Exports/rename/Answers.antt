use Rattle.std.proofs.lemmas.Result.{on_ok_weaker}
use Rattle.swc_ast.specs.Parts.{ident_name}
use Rattle.carry_pass.specs.Exports.{binds, values, specifier_label}
use Rattle.carry_pass.proofs.Exporting.{renamed_none, renamed_some}
use Rattle.carry_pass.proofs.exports.Exports.rename.Goals as goal

pub returns-in-Some : goal.returns-in-Some
returns-in-Some c = on_ok_weaker c.name_as.result (λ h. renamed_some (binds c.args.self.now) (values c.args.self.now) c.args.n.now (ident_name c.in-Some.source.now) (specifier_label c.name_as.new.n) c.in-Some.ensures h) c.name_as.ensures

pub returns-in-None : goal.returns-in-None
returns-in-None c = renamed_none (binds c.args.self.now) (values c.args.self.now) c.args.n.now c.in-None.ensures
