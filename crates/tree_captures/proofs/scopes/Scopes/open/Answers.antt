use Rattle.std.proofs.Common.{ap, ◌∙◌}
use Rattle.tree_captures.specs.Views.{captures, restored}
use Rattle.tree_captures.proofs.Tables.{restored_both}
use Rattle.tree_captures.proofs.scopes.Scopes.open.Goals as goal

pub returns-in_ok-append-clause-round : goal.returns-in_ok-append-clause-round
returns-in_ok-append-clause-round c =
    let before = c.args.self.now.outer.items in
    ap (λ os. restored os (captures c.open.new.self)) c.in_ok-append.ensures.items
    ∙ (restored_both before c.in_ok-outer.outer.items (captures c.open.new.self) ∙ ap (restored before) c.in_ok-outer.ensures.outside)
