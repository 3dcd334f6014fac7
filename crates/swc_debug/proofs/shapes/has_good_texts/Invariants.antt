use Rattle.std.proofs.Common.{◌≡◌, map, length}
use Rattle.swc_ast.specs.Expressions.{quasi_text}
use Rattle.swc_ast.specs.Valid.{good_texts}
use Rattle.tree_visit.specs.Nodes.{children_forest}
use Rattle.swc_debug.proofs.shapes.has_good_texts.Given as goal

abbrev pub invariant-loop-texts : goal.invariant-loop-texts
invariant-loop-texts l = good_texts (map quasi_text l.texts) (children_forest l.left) ≡ good_texts (map quasi_text l.quasis) (children_forest l.children)

abbrev pub decreases-loop-texts : goal.decreases-loop-texts
decreases-loop-texts l = length l.texts
