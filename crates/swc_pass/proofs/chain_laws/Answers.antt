use Rattle.swc_pass.specs.ChainLaws.{chained_lawful}
use Rattle.swc_pass.proofs.chain_laws.Goals as goal

pub returns : goal.returns
returns g c = λ s t m h k. chained_lawful m h k
