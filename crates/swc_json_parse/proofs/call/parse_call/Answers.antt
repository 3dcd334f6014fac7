use Rattle.std.proofs.Common.{◌∷◌, [], ◌++◌, ap, ◌∙◌}
use Rattle.swc_ast.specs.declared.expressions.Expr.TheVariants as in_expr
use Rattle.swc_ast.specs.declared.literals.Lit.TheVariants as lit
use Rattle.swc_json_parse.specs.Parsing.{nowhere}
use Rattle.swc_json_parse.proofs.Calls.{call_made}
use Rattle.swc_json_parse.proofs.call.parse_call.Goals as goal

pub returns : goal.returns
returns c = call_made c.args.span c.args.text c.in_ok-from_str.field-0 c.in_ok-from_str-2.field-0 c.empty.result c.in_ok-new.field-0 c.in_ok-new-2.field-0 c.push.new.self c.in_ok-from_str.ensures.ok c.in_ok-from_str-2.ensures.ok c.empty.ensures c.in_ok-new.ensures.ok c.in_ok-new-2.ensures.ok (c.in_ok-push.ensures.items ∙ ap (λ xs. xs ++ in_expr.Lit (lit.Str (record { span = nowhere; value = c.args.text })) ∷ []) c.in_ok-args.ensures.items)
