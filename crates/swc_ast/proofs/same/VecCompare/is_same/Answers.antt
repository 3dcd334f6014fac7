use Rattle.std.proofs.Common.{sym, ap, ◌∙◌, ◌&&◌, drop, ◌+◌}
use Rattle.swc_ast.specs.Same.{same, same_label, same_forest}
use Rattle.swc_ast.specs.Parts.{list_trees}
use Rattle.swc_ast.proofs.SameParts.{lengths-differ, next-child, no-child}
use Rattle.swc_ast.proofs.same.VecCompare.is_same.Goals as goal

pub returns-then-len : goal.returns-then-len
unfolding same same_label
returns-then-len g c = lengths-differ g.T.Compare.tree c.args.spans c.args.self.now.items c.args.other.now.items (λ e. c.if-len.true ((c.len.ensures ∙ c.args.self.now.ok.0) ∙ e ∙ sym (c.len-2.ensures ∙ c.args.other.now.ok.0)))

pub returns-then-not-is_same : goal.returns-then-not-is_same
unfolding same same_label
returns-then-not-is_same g c = sym (c.loop-i.invariant ∙ next-child g.T.Compare.tree c.args.spans c.args.self.now.items c.args.other.now.items c.loop-i.i c.len-i-end.result _ _ (c.len-i-end.ensures ∙ c.args.self.now.ok.0) (sym (c.len.ensures ∙ c.args.self.now.ok.0) ∙ c.if-len.false ∙ (c.len-2.ensures ∙ c.args.other.now.ok.0)) c.loop-i-test.true c.index.ensures c.index-in-loop-i.ensures ∙ ap (λ b. b && same_forest c.args.spans (list_trees g.T.Compare.tree (drop (c.loop-i.i + 1) c.args.self.now.items)) (list_trees g.T.Compare.tree (drop (c.loop-i.i + 1) c.args.other.now.items))) (sym c.is_same.ensures ∙ c.if-not-is_same.true))

pub loop-i-preserved : goal.loop-i-preserved
unfolding same same_label
loop-i-preserved g c = c.loop-i.invariant ∙ next-child g.T.Compare.tree c.args.spans c.args.self.now.items c.args.other.now.items c.loop-i.i c.len-i-end.result _ _ (c.len-i-end.ensures ∙ c.args.self.now.ok.0) (sym (c.len.ensures ∙ c.args.self.now.ok.0) ∙ c.if-len.false ∙ (c.len-2.ensures ∙ c.args.other.now.ok.0)) c.loop-i-test.true c.index.ensures c.index-in-loop-i.ensures ∙ ap (λ b. b && same_forest c.args.spans (list_trees g.T.Compare.tree (drop (c.loop-i.i + 1) c.args.self.now.items)) (list_trees g.T.Compare.tree (drop (c.loop-i.i + 1) c.args.other.now.items))) (sym c.is_same.ensures ∙ c.if-not-is_same.false)

pub returns : goal.returns
unfolding same same_label
returns g c = sym (c.loop-i.invariant ∙ no-child g.T.Compare.tree c.args.spans c.args.self.now.items c.args.other.now.items c.loop-i.i c.len-i-end.result (c.len-i-end.ensures ∙ c.args.self.now.ok.0) (sym (c.len.ensures ∙ c.args.self.now.ok.0) ∙ c.if-len.false ∙ (c.len-2.ensures ∙ c.args.other.now.ok.0)) c.loop-i-test.false)
