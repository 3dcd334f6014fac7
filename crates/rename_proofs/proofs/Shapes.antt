-- A node has a number of children; with another number it leaves the core.
use Rattle.std.proofs.Common.{List}
use Rattle.swc_ast.specs.Value.{Meaning}
use Rattle.swc_ast.specs.Meaning.{shape0, shape1, shape2, shape3, shape4, shape1+, shape2+, bad_shape, shape_if, shape_return}
use Rattle.rename_proofs.proofs.Relation.{Pairing, Each, none, more, undefined, returned, M}
use Rattle.rename_proofs.proofs.Combine.{gives_sim, jumps_sim, bind}
use Rattle.rename_proofs.proofs.Parts.{choice_sim, bad_sim}

module _ {P : Pairing} where
  pub shape0_sim : {f g : Meaning} {ms ns : List Meaning} → M P f g → Each (M P) ms ns → M P (shape0 f ms) (shape0 g ns)
  shape0_sim h none = h
  shape0_sim h (more a hs) = bad_sim bad_shape

  pub shape1_sim : {f g : Meaning → Meaning} {ms ns : List Meaning} → ((m n : Meaning) → M P m n → M P (f m) (g n)) → Each (M P) ms ns → M P (shape1 f ms) (shape1 g ns)
  shape1_sim h (more a none) = h _ _ a
  shape1_sim h none = bad_sim bad_shape
  shape1_sim h (more a (more b hs)) = bad_sim bad_shape

  pub shape2_sim : {f g : Meaning → Meaning → Meaning} {ms ns : List Meaning} → ((a a' b b' : Meaning) → M P a a' → M P b b' → M P (f a b) (g a' b')) → Each (M P) ms ns → M P (shape2 f ms) (shape2 g ns)
  shape2_sim h (more a (more b none)) = h _ _ _ _ a b
  shape2_sim h none = bad_sim bad_shape
  shape2_sim h (more a none) = bad_sim bad_shape
  shape2_sim h (more a (more b (more x hs))) = bad_sim bad_shape

  pub shape3_sim : {f g : Meaning → Meaning → Meaning → Meaning} {ms ns : List Meaning} → ((a a' b b' x x' : Meaning) → M P a a' → M P b b' → M P x x' → M P (f a b x) (g a' b' x')) → Each (M P) ms ns → M P (shape3 f ms) (shape3 g ns)
  shape3_sim h (more a (more b (more x none))) = h _ _ _ _ _ _ a b x
  shape3_sim h none = bad_sim bad_shape
  shape3_sim h (more a none) = bad_sim bad_shape
  shape3_sim h (more a (more b none)) = bad_sim bad_shape
  shape3_sim h (more a (more b (more x (more y hs)))) = bad_sim bad_shape

  pub shape4_sim : {f g : Meaning → Meaning → Meaning → Meaning → Meaning} {ms ns : List Meaning} → ((a a' b b' x x' y y' : Meaning) → M P a a' → M P b b' → M P x x' → M P y y' → M P (f a b x y) (g a' b' x' y')) → Each (M P) ms ns → M P (shape4 f ms) (shape4 g ns)
  shape4_sim h (more a (more b (more x (more y none)))) = h _ _ _ _ _ _ _ _ a b x y
  shape4_sim h none = bad_sim bad_shape
  shape4_sim h (more a none) = bad_sim bad_shape
  shape4_sim h (more a (more b none)) = bad_sim bad_shape
  shape4_sim h (more a (more b (more x none))) = bad_sim bad_shape
  shape4_sim h (more a (more b (more x (more y (more z hs))))) = bad_sim bad_shape

  pub shape1+_sim : {f g : Meaning → List Meaning → Meaning} {ms ns : List Meaning} → ((m n : Meaning) (xs ys : List Meaning) → M P m n → Each (M P) xs ys → M P (f m xs) (g n ys)) → Each (M P) ms ns → M P (shape1+ f ms) (shape1+ g ns)
  shape1+_sim h none = bad_sim bad_shape
  shape1+_sim h (more a hs) = h _ _ _ _ a hs

  pub shape2+_sim : {f g : Meaning → Meaning → List Meaning → Meaning} {ms ns : List Meaning} → ((a a' b b' : Meaning) (xs ys : List Meaning) → M P a a' → M P b b' → Each (M P) xs ys → M P (f a b xs) (g a' b' ys)) → Each (M P) ms ns → M P (shape2+ f ms) (shape2+ g ns)
  shape2+_sim h (more a (more b hs)) = h _ _ _ _ _ _ a b hs
  shape2+_sim h none = bad_sim bad_shape
  shape2+_sim h (more a none) = bad_sim bad_shape

  pub if_node_sim : {ms ns : List Meaning} → Each (M P) ms ns → M P (shape_if ms) (shape_if ns)
  if_node_sim (more t (more a none)) = choice_sim t a (record { at = λ c d hc. gives_sim undefined })
  if_node_sim (more t (more a (more b none))) = choice_sim t a b
  if_node_sim none = bad_sim bad_shape
  if_node_sim (more t none) = bad_sim bad_shape
  if_node_sim (more t (more a (more b (more x hs)))) = bad_sim bad_shape

  pub return_sim : {ms ns : List Meaning} → Each (M P) ms ns → M P (shape_return ms) (shape_return ns)
  return_sim none = record { at = λ c d hc. jumps_sim (returned undefined) }
  return_sim (more h none) = record { at = λ c d hc. bind (h.at c d hc) (λ v w r. jumps_sim (returned r)) }
  return_sim (more a (more b hs)) = bad_sim bad_shape
