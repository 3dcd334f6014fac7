use Rattle.std.proofs.Common.{rules}
use Rattle.expr_members.proofs.MemberSteps.{answered, word_key, literal_key}
use Rattle.expr_members.proofs.keys.key_text.Goals as goal

pub returns-in_ok-from_str-in-Ident : goal.returns-in_ok-from_str-in-Ident
returns-in_ok-from_str-in-Ident c = word_key c.args.key.now c.in-Ident.n _ c.in-Ident.is (search rules)

pub returns-in-Computed : goal.returns-in-Computed
returns-in-Computed c = answered c.literal_text.result (λ k h. literal_key c.args.key.now c.in-Computed.n c.deref-in-Computed.result.now _ c.in-Computed.is c.deref-in-Computed.ensures h) c.literal_text.ensures
