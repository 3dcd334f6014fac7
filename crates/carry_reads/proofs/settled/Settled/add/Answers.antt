use Rattle.std.proofs.Common.{◌≡◌, length, sym, ◌∙◌, arith}
use Rattle.swc_ast.specs.Parts.{ident_name}
use Rattle.carry_parts.specs.Carries.{put_of}
use Rattle.carry_reads.specs.Settles.{settled_of}
use Rattle.carry_reads.proofs.Carrying.{with_some, nothing_from}
use Rattle.carry_reads.proofs.Settling.{settled_more, settled_grows}
use Rattle.carry_reads.proofs.settled.Settled.add.Goals as goal

pub returns-then-is_some-clause-settles : goal.returns-then-is_some-clause-settles
returns-then-is_some-clause-settles c = λ x. with_some (ident_name c.args.name.now) c.get.result (put_of c.args.carry) (settled_of c.args.self.now c.args.base) (sym c.is_some.ensures ∙ c.if-is_some.true) c.get.ensures x

pub returns-clause-settles : goal.returns-clause-settles
returns-clause-settles c =
    let u = c.args.self.now in let counted : c.len-number.result ≡ length u.carries.items = omega (arith, c.len-number.ensures, u.carries.ok.0) in
    settled_more u (record { numbers = c.set.new.self; carries = c.push.new.self }) (ident_name c.args.name.now) c.args.carry c.len-number.result counted c.in_ok-set.ensures.items c.in_ok-push.ensures.items
    c.args.base c.requires.room c.requires.named c.requires.within (nothing_from c.get.result (settled_of u c.args.base (ident_name c.args.name.now)) (sym c.is_some.ensures ∙ c.if-is_some.false) c.get.ensures)

pub returns-clause-grows : goal.returns-clause-grows
returns-clause-grows c =
    let u = c.args.self.now in let counted : c.len-number.result ≡ length u.carries.items = omega (arith, c.len-number.ensures, u.carries.ok.0) in
    settled_grows u (record { numbers = c.set.new.self; carries = c.push.new.self }) (ident_name c.args.name.now) c.args.carry c.len-number.result counted c.in_ok-set.ensures.items c.in_ok-push.ensures.items c.in_ok-set.ensures.keeps
