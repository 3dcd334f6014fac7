use Rattle.std.specs.Prelude.{drop}
use Rattle.swc_ast.specs.Parts.{ident_name}
use Rattle.carry_parts.specs.Carries.{pass_of}
use Rattle.carry_puts.proofs.Valued.{taken_next}
use Rattle.carry_puts.proofs.putting.Putting.answer.Goals as goal

pub returns-in_ok-value-in-Some-read : goal.returns-in_ok-value-in-Some-read
returns-in_ok-value-in-Some-read c =
    let xs = c.args.self.now.reads.now.items in
    taken_next (pass_of c.args.self.now.pass) (ident_name c.args.n.now) c.args.n.now.span (drop c.args.self.now.at xs) (drop c.in-Some.next xs) c.in-Some.read c.in-Some-read.carry c.in_ok-value-in-Some-read.field-0
    c.in-Some.ensures.there c.in-Some-read.is c.in_ok-value-in-Some-read.ensures
