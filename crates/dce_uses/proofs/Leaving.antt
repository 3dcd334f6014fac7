-- Names that an item declares and that are free, by the rows of what it says.
use Rattle.std.proofs.Common.{◌≡◌, ◌<◌, ℕ, true, ◌||◌, List, [], ◌∷◌, length, refl, sym, subst, ◌∙◌, arith}
use Rattle.std.specs.Prelude.{Some, position}
use Rattle.static_proofs.proofs.Names.{same_name_path}
use Rattle.swc_ast.specs.Scope.{has_name}
use Rattle.swc_ast.specs.Tree.{Name, same_name, Tree, node, label_of, children_of}
use Rattle.dce_rules.specs.Uses.{declared_in}
use Rattle.dce_uses.specs.declared.tally.Fact.TheVariants as fact
use Rattle.dce_uses.specs.declared.said.Row.{Row}
use Rattle.dce_uses.specs.declared.said.Said.{Said}
use Rattle.dce_uses.specs.declared.uses.Uses.{Uses}
use Rattle.dce_uses.specs.Noted.{at_top}
use Rattle.dce_uses.specs.Said.{OnlyFree, Says, is_number, register_of, rows_of, rows_say}
use Rattle.dce_uses.specs.Tables.{is_free, names_of}
use Rattle.dce_uses.proofs.Adding.{or_false}
use Rattle.dce_uses.proofs.Numbering.{numbered_so}
use Rattle.dce_uses.proofs.Telling.{declarations}

-- a name whose number is that of one of some names
pub one_of : (x y : Name) (ns xs : List Name) (n : ℕ) → position (same_name y) ns ≡ Some n → has_name y xs ≡ true → is_number ns x n ≡ true → has_name x xs ≡ true
one_of x y ns xs n at found here = subst (λ z. has_name z xs ≡ true) (sym (same_name_path x y (sym (or_false (same_name x y)) ∙ sym (numbered_so x y ns n at) ∙ here))) found

-- rows, one after another: a free name that they declare is among those that are left, or among some names
abbrev pub FreeLeft : Uses → List Name → List Row → List Row → Type 0
FreeLeft u xs all left = (x : Name) → is_free u x ≡ true → rows_say (names_of u) all fact.Declared x ≡ true → (has_name x xs || rows_say (names_of u) left fact.Declared x) ≡ true

-- where none is left, none is free but those
pub none_left : (u : Uses) (xs : List Name) (s : Said) (left : List Row) → length left < 1 → FreeLeft u xs (rows_of (register_of u) s) left → (t : Tree) → Says (register_of u) s t → OnlyFree u xs t
none_left u xs s left short h t says x declared free = empty left short (h x free told)
  where
    told : rows_say (names_of u) (rows_of (register_of u) s) fact.Declared x ≡ true
    told =
        says.facts fact.Declared x ∙ or_false _ ∙ declarations x at_top (node (label_of t) [] (children_of t)) ∙ opened t ∙ declared
      where
        opened : (t : Tree) → declared_in x (node (label_of t) [] (children_of t)) ≡ declared_in x t
        opened (node l ss cs) = refl

    empty : (rs : List Row) → length rs < 1 → (has_name x xs || rows_say (names_of u) rs fact.Declared x) ≡ true → has_name x xs ≡ true
    empty [] low k = sym (or_false (has_name x xs)) ∙ k
    empty (r ∷ rs) low k = absurd (omega (arith, low))
