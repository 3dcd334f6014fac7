use Rattle.swc_resolved.specs.Jumps.{targets}
use Rattle.swc_resolved.proofs.Aimed.{plain_below}
use Rattle.swc_resolved.proofs.jumps.Targets.inside.Goals as goal

pub returns-in_default : goal.returns-in_default
returns-in_default c = λ h. let d = c.in_default in plain_below c.args.kind (targets c.args.self.now) h d.not-Switch d.not-Fn d.not-Arrow d.not-Method d.not-FnDecl d.not-ExportDefaultFn
