use Rattle.std.proofs.Common.{◌∙◌, sym, ap, length}
use Rattle.swc_json_parse.proofs.Nodes.{template_exprs, eqb_false}
use Rattle.swc_json_parse.proofs.Pieces.{wrote_none}
use Rattle.swc_json_parse.proofs.text.write_template.Goals as goal

pub returns-then-not-is_empty : goal.returns-then-not-is_empty
returns-then-not-is_empty g c = wrote_none g.O.Out.takes _ _ _ (template_exprs c.args.levels c.args.n.now (λ h. eqb_false _ _ (sym c.is_empty.ensures ∙ c.if-not-is_empty.true) (ap length c.as_slice-exprs.ensures.value ∙ h)))
