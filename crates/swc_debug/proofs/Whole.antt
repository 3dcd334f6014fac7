-- Validity of a tree, by what the node is and its children.
use Rattle.std.proofs.Common.{◌≡◌, Bool, true, false, refl, ap, ◌∙◌, sym}
use Rattle.std.specs.Prelude.{◌&&◌}
use Rattle.swc_ast.specs.Tree.{Label, Tree, node, Forest, label_of, children_of}
use Rattle.swc_ast.specs.Valid.{good_names, good_shape, valid, valid_all}

split : (t : Tree) → valid t ≡ (good_names (label_of t) && good_shape (label_of t) (children_of t) && valid_all (children_of t))
split (node l ss cs) = refl

pub split_as : (t : Tree) (l : Label) (cs : Forest) → label_of t ≡ l → children_of t ≡ cs → valid t ≡ (good_names l && good_shape l cs && valid_all cs)
split_as t l cs labelled held = split t ∙ cc (labelled, held)

first_false : (a b c : Bool) → a ≡ false → (a && b && c) ≡ false
first_false a b c is = ap (λ x. x && b && c) is

second_false : (a b c : Bool) → a ≡ true → b ≡ false → (a && b && c) ≡ false
second_false a b c told is = ap (λ x. x && b && c) told ∙ ap (λ x. true && x && c) is

third_left : (a b c : Bool) → a ≡ true → b ≡ true → (a && b && c) ≡ c
third_left a b c told is = ap (λ x. x && b && c) told ∙ ap (λ x. true && x && c) is

pub names_refuse : (t : Tree) (l : Label) → label_of t ≡ l → good_names l ≡ false → valid t ≡ false
names_refuse t l labelled is = split_as t l (children_of t) labelled refl ∙ first_false _ _ _ is

pub shape_refuses : (t : Tree) (l : Label) (cs : Forest) → label_of t ≡ l → children_of t ≡ cs → good_names l ≡ true → good_shape l cs ≡ false → valid t ≡ false
shape_refuses t l cs labelled held named is = split_as t l cs labelled held ∙ second_false _ _ _ named is

pub children_decide : (t : Tree) (l : Label) (cs : Forest) → label_of t ≡ l → children_of t ≡ cs → good_names l ≡ true → good_shape l cs ≡ true → valid_all cs ≡ valid t
children_decide t l cs labelled held named is = sym (split_as t l cs labelled held ∙ third_left _ _ _ named is)
