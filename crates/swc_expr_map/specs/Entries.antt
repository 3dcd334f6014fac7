-- A map as its entries, in the order of their keys.
use Rattle.std.specs.Prelude.{ℕ, ◌<◌, ◌≡◌, Bool, if◌then◌else◌, List, [], ◌∷◌, length, slice_get, slice_index_or, position, Option, Some, None, option_map}
use Rattle.std.specs.declared.cmp.Ordering.{Ordering}
use Rattle.std.specs.declared.cmp.Ordering.TheVariants.{Less, Equal, Greater}
use Rattle.swc_ast.specs.Tree.{Text, Read, Dot, Index, Tree, node, Forest, ε, ◌⊳◌}
use Rattle.swc_ast.specs.Views.{expr_tree}
use Rattle.swc_expr_map.specs.Order.{key_cmp, same_key}
use Rattle.swc_expr_map.specs.declared.entry.Entry.{Entry}

abbrev pub key_of : Entry → Tree
key_of e = expr_tree e.key

abbrev pub value_of : Entry → Tree
value_of e = expr_tree e.value

abbrev pub has_key : Tree → Entry → Bool
has_key t e = same_key t (key_of e)

-- the value at a key
abbrev pub found : Tree → List Entry → Option Tree
found t [] = None
found t (e ∷ es) = if has_key t e then Some (value_of e) else found t es

-- the number of a key
abbrev pub number_of : Tree → List Entry → Option ℕ
number_of t es = position (has_key t) es

-- the value of a key's number
abbrev pub value_at : List Entry → ℕ → Option Tree
value_at es i = option_map value_of (slice_get es i)

abbrev mutual
  -- the name that a chain of members begins with
  pub leading_name : Tree → Option Text
  leading_name (node (Read x) ss cs) = Some x.text
  leading_name (node (Dot k) ss cs) = object_name cs
  leading_name (node Index ss cs) = object_name cs
  leading_name t = None

  pub object_name : Forest → Option Text
  object_name ε = None
  object_name (o ⊳ os) = leading_name o

-- what the entry at a place tells, if one is there
abbrev pub told : {A : Type 0} → (Entry → Option A) → Option Entry → Option A
told f None = None
told f (Some e) = f e

-- the name that the key of a number begins with
abbrev pub name_at : List Entry → ℕ → Option Text
name_at es i = told (λ e. leading_name (key_of e)) (slice_get es i)

-- one of three things by an order
abbrev pub order_cases : {A : Type 0} → Ordering → A → A → A → A
order_cases Less a b c = a
order_cases Equal a b c = b
order_cases Greater a b c = c

-- an entry in its place among others: a key that is there stays as it was written
abbrev pub put : Entry → List Entry → List Entry
put e [] = e ∷ []
put e (d ∷ es) = order_cases (key_cmp (key_of e) (key_of d)) (e ∷ d ∷ es) (record { key = d.key; value = e.value } ∷ es) (d ∷ put e es)

-- the keys rise, so no key comes twice
abbrev pub IsSorted : List Entry → Type 0
IsSorted es = (i j : ℕ) (d : Entry) → i < j → j < length es → key_cmp (key_of (slice_index_or es i d)) (key_of (slice_index_or es j d)) ≡ Less
