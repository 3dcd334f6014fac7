use Rattle.std.proofs.Common.{length}
use Rattle.swc_expr_map.proofs.search_tree.SearchTree.+insert.Given as goal

abbrev pub decreases-insert : goal.decreases-insert
decreases-insert l = length l.self.now
