-- Keys that rise, told entry by entry.
use Rattle.std.proofs.Common.{◌≡◌, ℕ, zero, suc, ◌<◌, List, [], ◌∷◌, ◌++◌, length, get_or, ap, ◌∙◌, subst, arith, length-append}
use Rattle.std.specs.Ordering.{ordering_reverse}
use Rattle.std.specs.declared.cmp.Ordering.TheVariants.{Less, Equal, Greater}
use Rattle.swc_expr_map.specs.declared.entry.Entry.{Entry}
use Rattle.swc_ast.specs.Tree.{Tree}
use Rattle.swc_expr_map.specs.Order.{key_cmp}
use Rattle.swc_expr_map.specs.Entries.{key_of, IsSorted}
use Rattle.swc_expr_map.proofs.Ordered.{keys_ordered}

-- all keys are above one
abbrev pub AllAbove : Tree → List Entry → Type 0
AllAbove t [] = Unit {0}
AllAbove t (e ∷ es) = (key_cmp t (key_of e) ≡ Less) × AllAbove t es

-- all keys are below one
abbrev pub AllBelow : Tree → List Entry → Type 0
AllBelow t [] = Unit {0}
AllBelow t (e ∷ es) = (key_cmp t (key_of e) ≡ Greater) × AllBelow t es

-- each key is below those behind it
abbrev pub IsRising : List Entry → Type 0
IsRising [] = Unit {0}
IsRising (e ∷ es) = AllAbove (key_of e) es × IsRising es

-- the order of two keys, and that of the same two turned round

pub turned_less : (t u : Tree) → key_cmp t u ≡ Less → key_cmp u t ≡ Greater
turned_less t u e = keys_ordered.antisymm u t ∙ ap ordering_reverse e

pub turned_greater : (t u : Tree) → key_cmp t u ≡ Greater → key_cmp u t ≡ Less
turned_greater t u e = keys_ordered.antisymm u t ∙ ap ordering_reverse e

-- what is above or below a key is so of another

pub above_more : (t u : Tree) (es : List Entry) → key_cmp t u ≡ Less → AllAbove u es → AllAbove t es
above_more t u [] p a = tt
above_more t u (e ∷ es) p a = (keys_ordered.trans t u (key_of e) p a.0, above_more t u es p a.1)

pub below_more : (t u : Tree) (es : List Entry) → key_cmp t u ≡ Greater → AllBelow u es → AllBelow t es
below_more t u [] p b = tt
below_more t u (e ∷ es) p b = (turned_less (key_of e) t (keys_ordered.trans (key_of e) u t (turned_greater u (key_of e) b.0) (turned_greater t u p)), below_more t u es p b.1)

pub below_same : (t u : Tree) (es : List Entry) → key_cmp t u ≡ Equal → AllBelow u es → AllBelow t es
below_same t u [] p b = tt
below_same t u (e ∷ es) p b = (keys_ordered.congr t u (key_of e) p ∙ b.0, below_same t u es p b.1)

-- the same by places

all_above : (t : Tree) (es : List Entry) → ((j : ℕ) (d : Entry) → j < length es → key_cmp t (key_of (get_or es j d)) ≡ Less) → AllAbove t es
all_above t [] h = tt
all_above t (e ∷ es) h = (h 0 e (omega arith), all_above t es (λ j d q. h (suc j) d (omega (arith, q))))

pub rising : (es : List Entry) → IsSorted es → IsRising es
rising [] s = tt
rising (e ∷ es) s = (all_above (key_of e) es (λ j d q. s 0 (suc j) d (omega arith) (omega (arith, q))), rising es (λ i j d l h. s (suc i) (suc j) d (omega (arith, l)) (omega (arith, h))))

above_at : (t : Tree) (es : List Entry) → AllAbove t es → (j : ℕ) (d : Entry) → j < length es → key_cmp t (key_of (get_or es j d)) ≡ Less
above_at t [] a j d h = absurd (omega (arith, h))
above_at t (e ∷ es) a zero d h = a.0
above_at t (e ∷ es) a (suc j) d h = above_at t es a.1 j d (omega (arith, h))

pub sorted : (es : List Entry) → IsRising es → IsSorted es
sorted [] r i j d l h = absurd (omega (arith, h))
sorted (e ∷ es) r i zero d l h = absurd (omega (arith, l))
sorted (e ∷ es) r zero (suc j) d l h = above_at (key_of e) es r.0 j d (omega (arith, h))
sorted (e ∷ es) r (suc i) (suc j) d l h = sorted es r.1 i j d (omega (arith, l)) (omega (arith, h))

-- what is in front of an entry and behind it

above_front : (t : Tree) (l m : List Entry) → AllAbove t (l ++ m) → AllAbove t l
above_front t [] m a = tt
above_front t (e ∷ l) m a = (a.0, above_front t l m a.1)

above_midst : (t : Tree) (l : List Entry) (e : Entry) (r : List Entry) → AllAbove t (l ++ e ∷ r) → key_cmp t (key_of e) ≡ Less
above_midst t [] e r a = a.0
above_midst t (d ∷ l) e r a = above_midst t l e r a.1

rising_front : (l m : List Entry) → IsRising (l ++ m) → IsRising l
rising_front [] m r = tt
rising_front (e ∷ l) m r = (above_front (key_of e) l m r.0, rising_front l m r.1)

rising_back : (l m : List Entry) → IsRising (l ++ m) → IsRising m
rising_back [] m r = r
rising_back (e ∷ l) m r = rising_back l m r.1

below_midst : (l : List Entry) (e : Entry) (r : List Entry) → IsRising (l ++ e ∷ r) → AllBelow (key_of e) l
below_midst [] e r s = tt
below_midst (d ∷ l) e r s = (turned_less (key_of d) (key_of e) (above_midst (key_of d) l e r s.0), below_midst l e r s.1)

-- sorted entries round one of them
pub record Round (l : List Entry) (e : Entry) (r : List Entry) : Type 0 where
  pub left : IsSorted l
  pub right : IsSorted r
  pub below : AllBelow (key_of e) l
  pub above : AllAbove (key_of e) r

pub round : (l : List Entry) (e : Entry) (r : List Entry) → IsSorted (l ++ e ∷ r) → Round l e r
round l e r s =
    let a = rising (l ++ e ∷ r) s in
    let b = rising_back l (e ∷ r) a in
    record { left = sorted l (rising_front l (e ∷ r) a); right = sorted r b.1; below = below_midst l e r a; above = b.0 }

pub round_in : {es : List Entry} (l : List Entry) (e : Entry) (r : List Entry) → es ≡ l ++ e ∷ r → IsSorted es → Round l e r
round_in l e r is s = round l e r (subst IsSorted is s)

-- each side has fewer entries
pub shorter : {es : List Entry} (l : List Entry) (e : Entry) (r : List Entry) → es ≡ l ++ e ∷ r → (length l < length es) × (length r < length es)
shorter l e r is = (omega (arith, ap length is, length-append l (e ∷ r)), omega (arith, ap length is, length-append l (e ∷ r)))
