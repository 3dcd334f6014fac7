use Rattle.carry_pass.specs.Exports.{binds, values}
use Rattle.carry_pass.proofs.Exporting.{named_arm}
use Rattle.carry_pass.proofs.exports.Exports.rename_in.Goals as goal

pub returns-in_ok-rename_each-in-ExportNamed : goal.returns-in_ok-rename_each-in-ExportNamed
returns-in_ok-rename_each-in-ExportNamed c = named_arm (binds c.args.self.now) (values c.args.self.now) c.rename_each.new.specifiers c.in-ExportNamed.is c.in_ok-rename_each-in-ExportNamed.ensures
