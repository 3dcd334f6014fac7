use Rattle.std.proofs.Common.{◌≡◌, IfOk, string_bytes, subst, sym}
use Rattle.shake_given.specs.Keys.{key_of}
use Rattle.shake_given.proofs.key.Key.text.Goals as goal

pub returns-in-Some : goal.returns-in-Some
returns-in-Some c = subst (λ m. IfOk c.format.result (λ text. string_bytes text ≡ key_of m c.args.self.name.now)) (sym c.in-Some.is) c.format.ensures.ok
