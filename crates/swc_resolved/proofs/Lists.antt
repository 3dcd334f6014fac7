-- Scopes, by lists of names that stand once each and have no name in common.
use Rattle.std.proofs.Common.{◌≡◌, Bool, true, false, List, [], ◌∷◌, length, ◌<◌, refl, sym, ap, ap₂, ◌∙◌, arith}
use Rattle.std.proofs.lemmas.Bool.{and_parts}
use Rattle.std.specs.Prelude.{◌&&◌}
use Rattle.swc_ast.specs.Tree.{Name}
use Rattle.swc_ast.specs.Core.{once_each, none_in}
use Rattle.swc_resolved.specs.Names.{name, names}
use Rattle.swc_resolved.specs.declared.names.Name as key
use Rattle.swc_resolved.proofs.Once.{none_turned, one_alone}

-- no name of one list stands in the other, and the other way round
pub none_swapped : (xs ys : List Name) → none_in ys xs ≡ none_in xs ys
none_swapped xs ys = none_turned xs xs ys (λ y. refl)

-- a conjunction whose first part is known
pub first_false : (a b : Bool) → a ≡ false → false ≡ (a && b)
first_false a b is = sym (ap (λ c. c && b) is)

pub first_true : (a b : Bool) → a ≡ true → b ≡ (a && b)
first_true a b is = sym (ap (λ c. c && b) is)

-- names once each and apart from others, by lists that are known
pub apart_as : (ns us vs : List Name) → ns ≡ us → (once_each ns ns && none_in ns vs) ≡ (once_each us us && none_in us vs)
apart_as ns us vs is = ap (λ xs. once_each xs xs && none_in xs vs) is

pub apart_from : (ns vs ws : List Name) → vs ≡ ws → (once_each ns ns && none_in ns vs) ≡ (once_each ns ns && none_in ns ws)
apart_from ns vs ws are = ap (λ xs. once_each ns ns && none_in ns xs) are

pub apart_turned : (os ns us : List Name) → ns ≡ us → (once_each os os && none_in os ns) ≡ (once_each os os && none_in us os)
apart_turned os ns us is = ap (λ b. once_each os os && b) (sym (none_swapped os ns) ∙ ap (λ xs. none_in xs os) is)

-- two lists that are known
pub two_lists : (ns us vs ws : List Name) → ns ≡ us → vs ≡ ws → (once_each ns ns && none_in ns vs) ≡ (once_each us us && none_in us ws)
two_lists ns us vs ws is are = ap₂ (λ xs ys. once_each xs xs && none_in xs ys) is are

pub turned_too : (os ns : List Name) → (once_each os os && none_in os ns) ≡ (once_each os os && none_in ns os)
turned_too os ns = ap (λ b. once_each os os && b) (none_swapped ns os)

-- the scope of a module: `l` tells of its list, `b` of its imports beside that, `v` of imports and `var`s
pub list_fails : (l b v : Bool) → l ≡ false → false ≡ ((l && b) && v)
list_fails l b v h = sym (ap (λ c. (c && b) && v) h)

pub body_fails : (l b v : Bool) → b ≡ false → false ≡ ((l && b) && v)
body_fails true b v h = sym (ap (λ c. c && v) h)
body_fails false b v h = refl

pub all_hold : (l d n v : Bool) → l ≡ true → (d && n) ≡ true → (d && v) ≡ ((l && (d && n)) && v)
all_hold l d n v h i = ap (λ c. c && v) (and_parts d n i).0 ∙ sym (ap₂ (λ a c. (a && c) && v) h i)

-- one name at most
pub one_once : (ns : List key.Name) → length ns < 2 → true ≡ once_each (names ns) (names ns)
one_once [] short = refl
one_once (n ∷ []) short = sym (one_alone (name n))
one_once (n ∷ m ∷ ns) short = absurd (omega (arith, short))
