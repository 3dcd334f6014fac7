-- The order of keys is total.
use Rattle.std.proofs.Common.{◌≡◌, refl, sym, ◌∙◌}
use Rattle.std.specs.Cmp.{IsTotalOrder, alike_right, nat_cmp_total, int_cmp_total, on_total, then_total}
use Rattle.std.specs.Cmp.Lexicographic.{lists_total, nat_list_cmp_total}
use Rattle.std.specs.Ordering.{ordering_then, ordering_reverse}
use Rattle.swc_ast.specs.Tree.{Label, Tree, node, Forest, ε, ◌⊳◌}
use Rattle.swc_expr_map.specs.Codes.{label_code}
use Rattle.swc_expr_map.specs.Order.{entry_cmp, code_cmp, label_cmp, key_cmp, children_cmp}
use Rattle.swc_expr_map.proofs.Steps.{turned_then, Chained, then_chained, greater_unrises, less_unlevel, greater_unlevel}

entries_total : IsTotalOrder entry_cmp
entries_total = then_total (on_total (λ e. e.0) nat_cmp_total) (on_total (λ e. e.1) nat_list_cmp_total)

codes_total : IsTotalOrder code_cmp
codes_total = then_total (then_total (then_total (on_total (λ c. c.rank) nat_cmp_total) (on_total (λ c. c.number) int_cmp_total)) (on_total (λ c. c.context) nat_cmp_total)) (on_total (λ c. c.row) (lists_total entries_total))

labels_total : IsTotalOrder label_cmp
labels_total = on_total label_code codes_total

label_chained : (l m n : Label) → Chained (label_cmp l m) (label_cmp m n) (label_cmp l n)
label_chained l m n = record { rises = labels_total.trans l m n; first_level = labels_total.congr l m n; second_level = λ e. sym (alike_right labels_total m n l e) }

mutual
  turned : (t u : Tree) → key_cmp t u ≡ ordering_reverse (key_cmp u t)
  turned (node l ss ts) (node m rs us) = (λ i. ordering_then (labels_total.antisymm l m i) (all_turned ts us i)) ∙ sym (turned_then (label_cmp m l) (children_cmp us ts))

  all_turned : (ts us : Forest) → children_cmp ts us ≡ ordering_reverse (children_cmp us ts)
  all_turned ε ε = refl
  all_turned ε (u ⊳ us) = refl
  all_turned (t ⊳ ts) ε = refl
  all_turned (t ⊳ ts) (u ⊳ us) = (λ i. ordering_then (turned t u i) (all_turned ts us i)) ∙ sym (turned_then (key_cmp u t) (children_cmp us ts))

mutual
  chained : (t u v : Tree) → Chained (key_cmp t u) (key_cmp u v) (key_cmp t v)
  chained (node l ss ts) (node m rs us) (node n qs vs) = then_chained _ _ _ _ _ _ (label_chained l m n) (all_chained ts us vs)

  all_chained : (ts us vs : Forest) → Chained (children_cmp ts us) (children_cmp us vs) (children_cmp ts vs)
  all_chained ε ε vs = record { rises = λ e f. f; first_level = λ e. refl; second_level = λ e. e }
  all_chained ε (u ⊳ us) ε = record { rises = λ e f. greater_unrises f; first_level = λ e. less_unlevel e; second_level = λ e. greater_unlevel e }
  all_chained ε (u ⊳ us) (v ⊳ vs) = record { rises = λ e f. refl; first_level = λ e. less_unlevel e; second_level = λ e. refl }
  all_chained (t ⊳ ts) ε ε = record { rises = λ e f. e; first_level = λ e. e; second_level = λ e. refl }
  all_chained (t ⊳ ts) ε (v ⊳ vs) = record { rises = λ e f. greater_unrises e; first_level = λ e. greater_unlevel e; second_level = λ e. less_unlevel e }
  all_chained (t ⊳ ts) (u ⊳ us) ε = record { rises = λ e f. f; first_level = λ e. refl; second_level = λ e. greater_unlevel e }
  all_chained (t ⊳ ts) (u ⊳ us) (v ⊳ vs) = then_chained _ _ _ _ _ _ (chained t u v) (all_chained ts us vs)

pub keys_ordered : IsTotalOrder key_cmp
keys_ordered = record { antisymm = turned; trans = λ t u v. (chained t u v).rises; congr = λ t u v. (chained t u v).first_level }
