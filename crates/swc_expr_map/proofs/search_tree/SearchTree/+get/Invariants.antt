use Rattle.swc_expr_map.proofs.search_tree.SearchTree.+get.Given as goal

abbrev pub decreases-get : goal.decreases-get
decreases-get l = goal.size-get l
