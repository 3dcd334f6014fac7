use Rattle.std.proofs.Common.{◌≡◌, IfOk, subst, ◌∙◌}
use Rattle.swc_ast.proofs.Equations.{expr_tree-Ident}
use Rattle.tree_put.specs.Answers.{answer_of}
use Rattle.given_rules.specs.Walk.{found_at, gathered}
use Rattle.given_globals.specs.Globals.{answers_of}
use Rattle.swc_inline_globals.proofs.gather.GatheringPuts.property.Goals as goal

pub returns : goal.returns
returns c =
    let w = c.args.self.now in
    subst (λ t. IfOk c.gather.result (λ a. gathered (answers_of w.lookup.now.settings) (found_at (answers_of w.lookup.now.settings) t) w.met.items ≡ (answer_of a, (answers_of c.gather.new.self.lookup.now.settings, c.gather.new.self.met.items))))
    (expr_tree-Ident c.in_ok-clone.field-0 ∙ c.in_ok-clone.ensures.cases) c.gather.ensures
