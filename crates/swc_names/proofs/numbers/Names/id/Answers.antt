use Rattle.std.proofs.Common.{subst}
use Rattle.std.specs.Slice.{IsItemAt}
use Rattle.swc_names.proofs.Numbered.{lent, if_numbered}
use Rattle.swc_names.proofs.numbers.Names.id.Goals as goal

pub returns-clause-name : goal.returns-clause-name
returns-clause-name c = lent c.self.inside.set.keys c.args.self.now c.args.number _ c.self.view_is (subst (λ ks. IsItemAt ks c.args.number c.get.result) c.as_slice.ensures.keys c.get.ensures.lookup)

pub returns-clause-numbered : goal.returns-clause-numbered
returns-clause-numbered c = if_numbered c.self.inside.set.keys c.args.self.now c.args.number _ c.self.view_is c.as_slice.ensures.unique (subst (λ ks. IsItemAt ks c.args.number c.get.result) c.as_slice.ensures.keys c.get.ensures.lookup)
