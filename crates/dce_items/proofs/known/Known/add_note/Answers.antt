use Rattle.std.proofs.Common.{◌||◌, sym, ap, ◌∙◌}
use Rattle.swc_ast.specs.Parts.{ident_name}
use Rattle.swc_names.specs.Ids.{optional}
use Rattle.dce_peel.specs.Rounds.{among}
use Rattle.dce_items.specs.Gathered.{keeps_number}
use Rattle.dce_items.proofs.Noting.{name_added}
use Rattle.dce_items.proofs.known.Known.add_note.Goals as goal

pub returns : goal.returns
returns c n =
    let ns = c.args.notes.now.items in
    name_added c.args.self.now ns c.push.new.self.items (ident_name c.in-Some.name.now) c.in-Some-number_of.number n (sym c.is_free.ensures ∙ c.if-is_free.false) (sym c.in-Some-number_of.ensures.number) c.in_ok-push.ensures.items
    ∙ ap (λ o. among ns n || keeps_number c.args.self.now (optional o) n) (sym c.in-Some.is)
