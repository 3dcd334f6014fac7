use Rattle.std.proofs.Common.{string_bytes, refl}
use Rattle.shake_given.proofs.Texts.{told}
use Rattle.shake_given.proofs.given.Given.set_type.Goals as goal

pub returns : goal.returns
returns c = record {
  typeofs = told string_bytes c.args.self.now.names.typeofs c.insert.new.self c.in_ok-name.name c.in_ok-text.text c.args.text.now c.args.name.now c.in_ok-name.ensures.ok c.in_ok-text.ensures.ok c.in_ok-insert.ensures.updates;
  exprs = refl;
  envs = refl;
  modules = refl;
}
