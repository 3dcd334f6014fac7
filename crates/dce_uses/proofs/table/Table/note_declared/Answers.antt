use Rattle.std.proofs.Common.{[], ◌∷◌, sym, ap, ◌∙◌}
use Rattle.std.proofs.lemmas.Result.{on_ok_weaker}
use Rattle.swc_ast.specs.Parts.{ident_name}
use Rattle.tree_visit.specs.Kinds.{kind_label}
use Rattle.swc_names.specs.Ids.{optional}
use Rattle.dce_rules.specs.Uses.{declared_by_node}
use Rattle.dce_uses.specs.Noted.{declaring}
use Rattle.dce_uses.proofs.Counting.{one_said, none_said}
use Rattle.dce_uses.proofs.table.Table.note_declared.Goals as goal

pub returns-in-Some : goal.returns-in-Some
returns-in-Some c =
    let l = kind_label c.args.kind in
    on_ok_weaker c.add_tally.result
    (one_said c.args.self.now c.add_tally.new.self c.declaring.result (λ f. declaring f c.args.place l) (ident_name c.in-Some.name.now ∷ []) (declared_by_node l) c.declaring.ensures (sym (ap optional c.in-Some.is) ∙ c.declared_name.ensures))
    c.add_tally.ensures

pub returns-in-None : goal.returns-in-None
returns-in-None c =
    let l = kind_label c.args.kind in
    none_said c.args.self.now (λ f. declaring f c.args.place l) (declared_by_node l) (sym (ap optional c.in-None.is) ∙ c.declared_name.ensures)
