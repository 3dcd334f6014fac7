use Rattle.std.proofs.Common.{◌≡◌, ◌++◌, sym, ap, ◌∙◌, arith}
use Rattle.swc_ast.specs.Views.{expr_tree}
use Rattle.swc_json_parse.specs.Parsing.{parse_call}
use Rattle.swc_json_parse.specs.Written.{text_within}
use Rattle.swc_json_parse.proofs.Decided.{json_within, greatest_enters, none_enters, short_stays, long_becomes, some_same, lengths, texts}
use Rattle.swc_json_parse.proofs.Pieces.{took, there_is_none}
use Rattle.swc_json_parse.proofs.pass.Literals.parse.Goals as goal

pub returns-then-self : goal.returns-then-self
returns-then-self c = greatest_enters c.args.self.now.min_cost c.args.span _ (omega arith)

pub returns-then-not-branch : goal.returns-then-not-branch
returns-then-not-branch c = none_enters c.args.self.now.min_cost c.args.span _ (json_within (expr_tree c.args.e.now) ∙ there_is_none lengths (text_within 127 (expr_tree c.args.e.now)) (record { bytes = 0 }) c.write.new.out c.in_ok-write.field-0 c.if-not-branch.true c.in_ok-write.ensures)

pub returns-then-length-self : goal.returns-then-length-self
returns-then-length-self c =
    let k = took lengths (text_within 127 (expr_tree c.args.e.now)) (record { bytes = 0 }) c.write.new.out c.in_ok-write.field-0 c.if-not-branch.false c.in_ok-write.ensures in
    short_stays c.args.self.now.min_cost c.args.span _ k.text c.write.new.out.bytes (json_within (expr_tree c.args.e.now) ∙ k.is) (omega arith) (λ h. absurd (omega (arith, h))) k.taken (omega arith)

pub returns-then-not-branch-2 : goal.returns-then-not-branch-2
returns-then-not-branch-2 c = none_enters c.args.self.now.min_cost c.args.span _ (json_within (expr_tree c.args.e.now) ∙ there_is_none texts (text_within 127 (expr_tree c.args.e.now)) (record { alloc = c.args.self.now.alloc; text = c.in_ok-with_capacity.field-0 }) c.write-2.new.out c.in_ok-write-2.field-0 c.if-not-branch-2.true c.in_ok-write-2.ensures)

pub returns : goal.returns
returns c =
    let k = took lengths (text_within 127 (expr_tree c.args.e.now)) (record { bytes = 0 }) c.write.new.out c.in_ok-write.field-0 c.if-not-branch.false c.in_ok-write.ensures in
    let m = took texts (text_within 127 (expr_tree c.args.e.now)) (record { alloc = c.args.self.now.alloc; text = c.in_ok-with_capacity.field-0 }) c.write-2.new.out c.in_ok-write-2.field-0 c.if-not-branch-2.false c.in_ok-write-2.ensures in
    let same : m.text ≡ k.text = some_same m.text k.text (sym m.is ∙ k.is) in
    long_becomes c.args.self.now.min_cost c.args.span _ k.text c.write.new.out.bytes _ (json_within (expr_tree c.args.e.now) ∙ k.is) (omega arith) (λ h. absurd (omega (arith, h))) k.taken (omega arith)
    (c.in_ok-parse_call.ensures ∙ ap (parse_call c.args.span) (m.taken ∙ ap (λ s. s ++ m.text) c.in_ok-with_capacity.ensures.bytes ∙ same))
