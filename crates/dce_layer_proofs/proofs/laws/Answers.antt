use Rattle.dce_layer_proofs.proofs.Peeled.{round}
use Rattle.dce_layer_proofs.proofs.laws.Goals as goal

pub returns : goal.returns
returns c = record { go = λ mark drops retained F others ps rounds r s m p. round mark drops retained F others ps rounds p r s m }
