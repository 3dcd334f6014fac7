-- Trees that the order doesn't tell apart have one shape, and the other way round.
use Rattle.std.proofs.Common.{◌≡◌, List, position, [], ◌∷◌, refl, sym, ap, ◌∙◌}
use Rattle.std.specs.Prelude.{Some, None}
use Rattle.std.specs.Cmp.{tied_itself}
use Rattle.std.specs.Ordering.{ordering_then, is_eq, nat_cmp, int_cmp}
use Rattle.std.specs.declared.cmp.Ordering.TheVariants.{Equal}
use Rattle.std.proofs.lemmas.Map.Lookups.{CmpEqualImpliesEq, exact_unsigned, exact_signed, exact_bytes, exact_pairs}
use Rattle.swc_ast.specs.Tree as tree
use Rattle.swc_ast.specs.Tree.{Label, Tree, node, Forest, ε, ◌⊳◌}
use Rattle.swc_pass.specs.Inlined.{bare_label, shape, shapes}
use Rattle.swc_expr_map.specs.Codes.{label_code}
use Rattle.swc_expr_map.specs.Order.{entry_cmp, row_cmp, head_cmp, code_cmp, label_cmp, key_cmp, children_cmp}
use Rattle.swc_expr_map.specs.Entries.{key_of, number_of}
use Rattle.swc_expr_map.specs.declared.entry.Entry.{Entry}
use Rattle.swc_expr_map.proofs.Steps.{first_equal, second_equal, less_unlevel, greater_unlevel}
use Rattle.swc_expr_map.proofs.Decoded.{label_of_code, decoded}
use Rattle.swc_expr_map.proofs.Ordered.{keys_ordered}

exact_entries : CmpEqualImpliesEq entry_cmp
exact_entries = exact_pairs _ _ exact_unsigned exact_bytes

exact_rows : CmpEqualImpliesEq row_cmp
exact_rows [] [] e = refl
exact_rows [] (b ∷ bs) e = less_unlevel e
exact_rows (a ∷ es) [] e = greater_unlevel e
exact_rows (a ∷ es) (b ∷ bs) e = λ i. exact_entries a b (first_equal _ _ e) i ∷ exact_rows es bs (second_equal (entry_cmp a b) _ e) i

exact_codes : CmpEqualImpliesEq code_cmp
exact_codes a b e =
    let head = first_equal (head_cmp a b) _ e in
    let numbers = first_equal (ordering_then (nat_cmp a.rank b.rank) (int_cmp a.number b.number)) _ head in
    λ i. record {
      rank = exact_unsigned a.rank b.rank (first_equal _ _ numbers) i;
      number = exact_signed a.number b.number (second_equal (nat_cmp a.rank b.rank) _ numbers) i;
      context = exact_unsigned a.context b.context (second_equal (ordering_then (nat_cmp a.rank b.rank) (int_cmp a.number b.number)) _ head) i;
      row = exact_rows a.row b.row (second_equal (head_cmp a b) _ e) i;
    }

labels_exact : (l m : Label) → label_cmp l m ≡ Equal → bare_label l ≡ bare_label m
labels_exact l m e = sym (decoded l) ∙ ap label_of_code (exact_codes (label_code l) (label_code m) e) ∙ decoded m

mutual
  one_shape : (t u : Tree) → key_cmp t u ≡ Equal → shape t ≡ shape u
  one_shape (node l ss ts) (node m rs us) e = λ i. node (labels_exact l m (first_equal _ _ e) i) [] (one_shapes ts us (second_equal (label_cmp l m) _ e) i)

  one_shapes : (ts us : Forest) → children_cmp ts us ≡ Equal → shapes ts ≡ shapes us
  one_shapes ε ε e = refl
  one_shapes ε (u ⊳ us) e = less_unlevel e
  one_shapes (t ⊳ ts) ε e = greater_unlevel e
  one_shapes (t ⊳ ts) (u ⊳ us) e = λ i. one_shape t u (first_equal _ _ e) i ⊳ one_shapes ts us (second_equal (key_cmp t u) _ e) i

-- contexts don't count
bare_code : (l : Label) → label_code (bare_label l) ≡ label_code l
unfolding label_code
bare_code (tree.Fn None) = refl
bare_code (tree.Fn (Some x)) = refl
bare_code (tree.Try None) = refl
bare_code (tree.Try (Some None)) = refl
bare_code (tree.Try (Some (Some x))) = refl
bare_code tree.Method = refl
bare_code tree.Absent = refl
bare_code (tree.FnDecl x0) = refl
bare_code l = refl

mutual
  pub shape_left : (t u : Tree) → key_cmp (shape t) u ≡ key_cmp t u
  shape_left (node l ss ts) (node m rs us) = λ i. ordering_then (code_cmp (bare_code l i) (label_code m)) (shapes_left ts us i)

  shapes_left : (ts us : Forest) → children_cmp (shapes ts) us ≡ children_cmp ts us
  shapes_left ε ε = refl
  shapes_left ε (u ⊳ us) = refl
  shapes_left (t ⊳ ts) ε = refl
  shapes_left (t ⊳ ts) (u ⊳ us) = λ i. ordering_then (shape_left t u i) (shapes_left ts us i)

one_key : (t u : Tree) → shape t ≡ shape u → key_cmp t u ≡ Equal
one_key t u e = sym (shape_left t u) ∙ ap (λ v. key_cmp v u) e ∙ shape_left u u ∙ tied_itself keys_ordered u

pub keys_are_shapes : (t u : Tree) → (key_cmp t u ≡ Equal → shape t ≡ shape u) × (shape t ≡ shape u → key_cmp t u ≡ Equal)
keys_are_shapes t u = (one_shape t u, one_key t u)

-- a key has the number of its shape
pub number_of_shape : (t : Tree) (es : List Entry) → number_of (shape t) es ≡ number_of t es
number_of_shape t es = λ i. position (λ e. is_eq (shape_left t (key_of e) i)) es
