use Rattle.std.proofs.Common.{◌≡◌, Some, rules, subst}
use Rattle.std.specs.Prelude.{IfSome}
use Rattle.swc_ast.specs.Operators.{index_of}
use Rattle.expr_members.proofs.MemberSteps.{answered, text_length_stands, character_stands}
use Rattle.expr_members.proofs.texts.text_member.Goals as goal

pub returns-then-eq : goal.returns-then-eq
returns-then-eq c = λ mark is. answered c.text_length.result (λ e h. text_length_stands mark c.args.span is c.args.text.now c.args.key.now e (search rules) h) c.text_length.ensures

pub returns-in-Some : goal.returns-in-Some
returns-in-Some c = λ mark is. answered c.text_character.result (λ e h. character_stands mark c.args.span is c.args.text.now c.args.key.now c.in-Some.i e (subst (λ o. IfSome o (λ i. index_of c.args.key.now ≡ Some i)) c.in-Some.is c.in_ok-i.ensures) h) c.text_character.ensures
