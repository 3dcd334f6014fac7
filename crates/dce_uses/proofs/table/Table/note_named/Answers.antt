use Rattle.std.proofs.Common.{[], ◌∷◌, sym, ap, ◌∙◌}
use Rattle.std.proofs.lemmas.Result.{on_ok_weaker}
use Rattle.swc_ast.specs.Parts.{ident_name}
use Rattle.swc_ast.specs.Reach.{named_by}
use Rattle.tree_visit.specs.Kinds.{kind_label}
use Rattle.swc_names.specs.Ids.{optional}
use Rattle.dce_uses.specs.Noted.{naming}
use Rattle.dce_uses.proofs.Counting.{one_said, none_said}
use Rattle.dce_uses.proofs.table.Table.note_named.Goals as goal

pub returns-in-Some : goal.returns-in-Some
returns-in-Some c =
    let l = kind_label c.args.kind in
    on_ok_weaker c.add_tally.result
    (one_said c.args.self.now c.add_tally.new.self c.naming.result (λ f. naming f c.args.place l) (ident_name c.in-Some.name.now ∷ []) (named_by l) c.naming.ensures (sym (ap optional c.in-Some.is) ∙ c.named.ensures))
    c.add_tally.ensures

pub returns-in-None : goal.returns-in-None
returns-in-None c =
    let l = kind_label c.args.kind in
    none_said c.args.self.now (λ f. naming f c.args.place l) (named_by l) (sym (ap optional c.in-None.is) ∙ c.named.ensures)
