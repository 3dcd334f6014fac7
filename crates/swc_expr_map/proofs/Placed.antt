-- What putting an entry in its place does.
use Rattle.std.proofs.Common.{◌≡◌, ℕ, suc, ◌+◌, ◌≤◌, Bool, true, false, if◌then◌else◌, List, [], ◌∷◌, ◌++◌, length, Option, Some, None, Result, Ok, Err, refl, sym, ap, ◌∙◌, subst, arith}
use mathlib.Core.Bool.{true≢false, false≢true}
use Rattle.std.specs.Option.{is_some}
use Rattle.std.specs.Result.{OnOk, OnErr}
use Rattle.std.specs.Ordering.{is_eq}
use Rattle.std.specs.Cmp.{alike_right}
use Rattle.std.specs.declared.cmp.Ordering.{Ordering}
use Rattle.std.specs.declared.cmp.Ordering.TheVariants.{Less, Equal, Greater}
use Rattle.swc_expr_map.specs.declared.entry.Entry.{Entry}
use Rattle.swc_ast.specs.Tree.{Tree}
use Rattle.swc_expr_map.specs.Order.{key_cmp, same_key}
use Rattle.swc_expr_map.specs.Entries.{key_of, value_of, has_key, found, order_cases, put}
use Rattle.swc_expr_map.proofs.Ordered.{keys_ordered}
use Rattle.swc_expr_map.proofs.Rising.{AllAbove, AllBelow, IsRising, Round, above_more, below_more, below_same, turned_greater}
use Rattle.swc_expr_map.proofs.Found.{none_above, found_nowhere}

-- the entry that is left where the key is there
abbrev pub over : Entry → Entry → Entry
over e d = record { key = d.key; value = e.value }

-- among others

put_cases : (o : Ordering) (e d : Entry) (l m rest : List Entry) → rest ≡ put e l ++ m → order_cases o (e ∷ d ∷ (l ++ m)) (over e d ∷ (l ++ m)) (d ∷ rest) ≡ order_cases o (e ∷ d ∷ l) (over e d ∷ l) (d ∷ put e l) ++ m
put_cases Less e d l m rest p = refl
put_cases Equal e d l m rest p = refl
put_cases Greater e d l m rest p = ap (λ xs. d ∷ xs) p

put_in_front : (e d : Entry) (l r : List Entry) → key_cmp (key_of e) (key_of d) ≡ Less → put e (l ++ d ∷ r) ≡ put e l ++ d ∷ r
put_in_front e d [] r p = ap (λ o. order_cases o (e ∷ d ∷ r) (over e d ∷ r) (d ∷ put e r)) p
put_in_front e d (x ∷ l) r p = put_cases (key_cmp (key_of e) (key_of x)) e x l (d ∷ r) (put e (l ++ d ∷ r)) (put_in_front e d l r p)

put_behind : (e : Entry) (l m : List Entry) → AllBelow (key_of e) l → put e (l ++ m) ≡ l ++ put e m
put_behind e [] m b = refl
put_behind e (x ∷ l) m b = ap (λ o. order_cases o (e ∷ x ∷ (l ++ m)) (over e x ∷ (l ++ m)) (x ∷ put e (l ++ m))) b.0 ∙ ap (λ xs. x ∷ xs) (put_behind e l m b.1)

module _ (e : Entry) (l : List Entry) (d : Entry) (r : List Entry) (round : Round l d r) where
  pub put_left : key_cmp (key_of e) (key_of d) ≡ Less → put e l ++ d ∷ r ≡ put e (l ++ d ∷ r)
  put_left less = sym (put_in_front e d l r less)

  pub put_here : key_cmp (key_of e) (key_of d) ≡ Equal → l ++ over e d ∷ r ≡ put e (l ++ d ∷ r)
  put_here equal = sym (put_behind e l (d ∷ r) (below_same (key_of e) (key_of d) l equal round.below) ∙ ap (λ o. l ++ order_cases o (e ∷ d ∷ r) (over e d ∷ r) (d ∷ put e r)) equal)

  pub put_right : key_cmp (key_of e) (key_of d) ≡ Greater → l ++ d ∷ put e r ≡ put e (l ++ d ∷ r)
  put_right greater = sym (put_behind e l (d ∷ r) (below_more (key_of e) (key_of d) l greater round.below) ∙ ap (λ o. l ++ order_cases o (e ∷ d ∷ r) (over e d ∷ r) (d ∷ put e r)) greater)

-- the count

count_cases : (o : Ordering) (e d : Entry) (es : List Entry) → length (put e es) ≤ length es + 1 → length (order_cases o (e ∷ d ∷ es) (over e d ∷ es) (d ∷ put e es)) ≤ length (d ∷ es) + 1
count_cases Less e d es p = omega arith
count_cases Equal e d es p = omega arith
count_cases Greater e d es p = omega (arith, p)

pub put_adds_one : (e : Entry) (es : List Entry) → length (put e es) ≤ length es + 1
put_adds_one e [] = omega arith
put_adds_one e (d ∷ es) = count_cases (key_cmp (key_of e) (key_of d)) e d es (put_adds_one e es)

pub at_most_one_more : {E : Type 0} (r : Result (Unit {0}) E) (e : Entry) (old new : List Entry) → OnOk r (new ≡ put e old) → OnErr r (new ≡ old) → length new ≤ length old + 1
at_most_one_more (Ok u) e old new done kept = subst (λ xs. length xs ≤ length old + 1) (sym done) (put_adds_one e old)
at_most_one_more (Err x) e old new done kept = omega (arith, ap length kept)

-- an answer as it was given
pub on_ok_as : {T E : Type 0} {a b : Result T E} (P : Type 0) → a ≡ b → OnOk b P → OnOk a P
on_ok_as P is p = subst (λ r. OnOk r P) (sym is) p

-- how many there are, by whether the key was there
abbrev Counts : Entry → List Entry → List Entry → Type 0
Counts e old new = length new ≡ (if is_some (found (key_of e) old) then length old else length old + 1)

by_found : (o : Option Tree) (n m : ℕ) → n ≡ (if is_some o then m else m + 1) → suc n ≡ (if is_some o then suc m else suc m + 1)
by_found None n m p = omega (arith, p)
by_found (Some v) n m p = omega (arith, p)

counts_cases : (o : Ordering) (e d : Entry) (es : List Entry) → key_cmp (key_of e) (key_of d) ≡ o → AllAbove (key_of d) es → Counts e es (put e es) → Counts e (d ∷ es) (order_cases o (e ∷ d ∷ es) (over e d ∷ es) (d ∷ put e es))
counts_cases Less e d es is above c =
    omega arith
    ∙ ap (λ x. if is_some x then length (d ∷ es) else length (d ∷ es) + 1) (sym (found_nowhere (key_of e) (d ∷ es) (ap is_eq is, none_above (key_of e) es (above_more (key_of e) (key_of d) es is above))))
counts_cases Equal e d es is above c = ap (λ b. if is_some (if b then Some (value_of d) else found (key_of e) es) then length (d ∷ es) else length (d ∷ es) + 1) (sym (ap is_eq is))
counts_cases Greater e d es is above c =
    by_found (found (key_of e) es) (length (put e es)) (length es) c
    ∙ ap (λ b. if is_some (if b then Some (value_of d) else found (key_of e) es) then length (d ∷ es) else length (d ∷ es) + 1) (sym (ap is_eq is))

pub put_counts : (e : Entry) (es : List Entry) → IsRising es → Counts e es (put e es)
put_counts e [] r = omega arith
put_counts e (d ∷ es) r = counts_cases (key_cmp (key_of e) (key_of d)) e d es refl r.0 (put_counts e es r.1)

-- keys rise as before

above_cases : (o : Ordering) (t : Tree) (e d : Entry) (es : List Entry) → key_cmp t (key_of e) ≡ Less → AllAbove t (d ∷ es) → AllAbove t (put e es) → AllAbove t (order_cases o (e ∷ d ∷ es) (over e d ∷ es) (d ∷ put e es))
above_cases Less t e d es p a b = (p, a)
above_cases Equal t e d es p a b = a
above_cases Greater t e d es p a b = (a.0, b)

put_above : (t : Tree) (e : Entry) (es : List Entry) → key_cmp t (key_of e) ≡ Less → AllAbove t es → AllAbove t (put e es)
put_above t e [] p a = (p, tt)
put_above t e (d ∷ es) p a = above_cases (key_cmp (key_of e) (key_of d)) t e d es p a (put_above t e es p a.1)

rising_cases : (o : Ordering) (e d : Entry) (es : List Entry) → key_cmp (key_of e) (key_of d) ≡ o → IsRising (d ∷ es) → IsRising (put e es) → IsRising (order_cases o (e ∷ d ∷ es) (over e d ∷ es) (d ∷ put e es))
rising_cases Less e d es is r s = ((is, above_more (key_of e) (key_of d) es is r.0), r)
rising_cases Equal e d es is r s = r
rising_cases Greater e d es is r s = (put_above (key_of d) e es (turned_greater (key_of e) (key_of d) is) r.0, s)

pub put_rises : (e : Entry) (es : List Entry) → IsRising es → IsRising (put e es)
put_rises e [] r = (tt, tt)
put_rises e (d ∷ es) r = rising_cases (key_cmp (key_of e) (key_of d)) e d es refl r (put_rises e es r.1)

-- what is found once a value was put at a key

abbrev pub Puts : List Entry → List Entry → Tree → Tree → Type 0
Puts old new t v = (q : Tree) → found q new ≡ (if same_key q t then Some v else found q old)

past : (a b : Bool) (x y z : Option Tree) → (a ≡ true → b ≡ false) → (if b then x else (if a then y else z)) ≡ (if a then y else (if b then x else z))
past true true x y z h = absurd (true≢false (h refl))
past true false x y z h = refl
past false true x y z h = refl
past false false x y z h = refl

hidden : (a b : Bool) (x y z : Option Tree) → a ≡ b → (if a then x else z) ≡ (if b then x else (if a then y else z))
hidden true true x y z h = refl
hidden true false x y z h = absurd (true≢false h)
hidden false true x y z h = absurd (false≢true h)
hidden false false x y z h = refl

-- a key that is another has no entry that the other hasn't
other : (q t u : Tree) → key_cmp t u ≡ Greater → same_key q t ≡ true → same_key q u ≡ false
other q t u greater same = ap is_eq (keys_ordered.congr q t u ((Rattle.std.specs.Cmp.Equal-is (key_cmp q t)).0 same) ∙ greater)

puts_cases : (o : Ordering) (e d : Entry) (es : List Entry) → key_cmp (key_of e) (key_of d) ≡ o → Puts es (put e es) (key_of e) (value_of e) → Puts (d ∷ es) (order_cases o (e ∷ d ∷ es) (over e d ∷ es) (d ∷ put e es)) (key_of e) (value_of e)
puts_cases Less e d es is p q = refl
puts_cases Equal e d es is p q = hidden (same_key q (key_of d)) (same_key q (key_of e)) (Some (value_of e)) (Some (value_of d)) (found q es) (ap is_eq (sym (alike_right keys_ordered (key_of e) (key_of d) q is)))
puts_cases Greater e d es is p q = ap (λ o. if has_key q d then Some (value_of d) else o) (p q) ∙ past (same_key q (key_of e)) (has_key q d) (Some (value_of d)) (Some (value_of e)) (found q es) (other q (key_of e) (key_of d) is)

pub put_puts : (e : Entry) (es : List Entry) → Puts es (put e es) (key_of e) (value_of e)
put_puts e [] q = refl
put_puts e (d ∷ es) q = puts_cases (key_cmp (key_of e) (key_of d)) e d es refl (put_puts e es) q
