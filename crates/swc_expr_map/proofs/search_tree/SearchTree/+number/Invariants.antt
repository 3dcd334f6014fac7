use Rattle.swc_expr_map.proofs.search_tree.SearchTree.+number.Given as goal

abbrev pub decreases-number : goal.decreases-number
decreases-number l = goal.size-number l
