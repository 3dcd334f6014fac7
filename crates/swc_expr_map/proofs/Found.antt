-- What is found in entries in front of one and behind it.
use Rattle.std.proofs.Common.{◌≡◌, ℕ, suc, ◌+◌, ltb, Bool, true, false, not, cond, if◌then◌else◌, List, [], ◌∷◌, ◌++◌, length, Option, Some, None, option_map, refl, sym, ap, ◌∙◌, arith}
use Rattle.std.proofs.lemmas.Bool.{lt-ltb, le-ltb, ltb-true, ltb-false}
use Rattle.std.specs.List.{prefix_len}
use Rattle.std.specs.Option.{unwrap_or}
use Rattle.std.specs.Ordering.{is_eq}
use Rattle.std.specs.declared.cmp.Ordering.TheVariants.{Less, Equal, Greater}
use Rattle.swc_expr_map.specs.declared.entry.Entry.{Entry}
use Rattle.swc_ast.specs.Tree.{Tree}
use Rattle.swc_expr_map.specs.Order.{key_cmp}
use Rattle.swc_expr_map.specs.Entries.{key_of, value_of, has_key, found, number_of}
use Rattle.swc_expr_map.proofs.Rising.{AllAbove, AllBelow, Round, above_more, below_more, below_same}

-- no entry has the key
abbrev pub NoneHas : Tree → List Entry → Type 0
NoneHas t [] = Unit {0}
NoneHas t (e ∷ es) = (has_key t e ≡ false) × NoneHas t es

pub none_above : (t : Tree) (es : List Entry) → AllAbove t es → NoneHas t es
none_above t [] a = tt
none_above t (e ∷ es) a = (ap is_eq a.0, none_above t es a.1)

pub none_below : (t : Tree) (es : List Entry) → AllBelow t es → NoneHas t es
none_below t [] b = tt
none_below t (e ∷ es) b = (ap is_eq b.0, none_below t es b.1)

-- a value

pub found_nowhere : (t : Tree) (es : List Entry) → NoneHas t es → found t es ≡ None
found_nowhere t [] n = refl
found_nowhere t (e ∷ es) n = ap (λ b. if b then Some (value_of e) else found t es) n.0 ∙ found_nowhere t es n.1

found_in_front : (t : Tree) (l m : List Entry) → NoneHas t m → found t (l ++ m) ≡ found t l
found_in_front t [] m n = found_nowhere t m n
found_in_front t (e ∷ l) m n = ap (λ o. if has_key t e then Some (value_of e) else o) (found_in_front t l m n)

found_behind : (t : Tree) (l m : List Entry) → NoneHas t l → found t (l ++ m) ≡ found t m
found_behind t [] m n = refl
found_behind t (e ∷ l) m n = ap (λ b. if b then Some (value_of e) else found t (l ++ m)) n.0 ∙ found_behind t l m n.1

-- a number

mapped : (b : Bool) (n : ℕ) → cond b (Some (1 + n)) None ≡ option_map suc (cond b (Some n) None)
mapped true n = ap Some (omega arith)
mapped false n = refl

less_behind : (p l : ℕ) → ltb (1 + p) (suc l) ≡ ltb p l
less_behind p l = elim (ltb p l) as (λ b. ltb p l ≡ b → ltb (1 + p) (suc l) ≡ b) [
  | true ↦ λ e. lt-ltb (1 + p) (suc l) (omega (arith, ltb-true p l e))
  | false ↦ λ e. le-ltb (1 + p) (suc l) (omega (arith, ltb-false p l e))
] refl

number_first : (b : Bool) (p l : ℕ) → cond (ltb (cond (not b) (1 + p) 0) (suc l)) (Some (cond (not b) (1 + p) 0)) None ≡ cond b (Some 0) (option_map suc (cond (ltb p l) (Some p) None))
number_first true p l = ap (λ b. cond b (Some 0) None) (lt-ltb 0 (suc l) (omega arith))
number_first false p l = ap (λ b. cond b (Some (1 + p)) None) (less_behind p l) ∙ mapped (ltb p l) p

number_step : (t : Tree) (e : Entry) (es : List Entry) → number_of t (e ∷ es) ≡ cond (has_key t e) (Some 0) (option_map suc (number_of t es))
number_step t e es = number_first (has_key t e) (prefix_len (λ d. not (has_key t d)) es) (length es)

number_nowhere : (t : Tree) (es : List Entry) → NoneHas t es → number_of t es ≡ None
number_nowhere t [] n = refl
number_nowhere t (e ∷ es) n = number_step t e es ∙ ap (λ b. cond b (Some 0) (option_map suc (number_of t es))) n.0 ∙ ap (option_map suc) (number_nowhere t es n.1)

number_in_front : (t : Tree) (l m : List Entry) → NoneHas t m → number_of t (l ++ m) ≡ number_of t l
number_in_front t [] m n = number_nowhere t m n
number_in_front t (e ∷ l) m n = number_step t e (l ++ m) ∙ ap (λ o. cond (has_key t e) (Some 0) (option_map suc o)) (number_in_front t l m n) ∙ sym (number_step t e l)

behind : (o : Option ℕ) (n : ℕ) → option_map suc (option_map (λ k. n + k) o) ≡ option_map (λ k. suc n + k) o
behind None n = refl
behind (Some k) n = ap Some (omega arith)

unmoved : (o : Option ℕ) → o ≡ option_map (λ k. 0 + k) o
unmoved None = refl
unmoved (Some k) = ap Some (omega arith)

number_behind : (t : Tree) (l m : List Entry) → NoneHas t l → number_of t (l ++ m) ≡ option_map (λ k. length l + k) (number_of t m)
number_behind t [] m n = unmoved (number_of t m)
number_behind t (e ∷ l) m n =
    number_step t e (l ++ m)
    ∙ ap (λ b. cond b (Some 0) (option_map suc (number_of t (l ++ m)))) n.0
    ∙ ap (option_map suc) (number_behind t l m n.1)
    ∙ behind (number_of t m) (length l)

within : (b : Bool) (p n : ℕ) → cond b (Some p) None ≡ Some n → (b ≡ true) × (p ≡ n)
within true p n e = (refl, ap (λ o. unwrap_or o 0) e)
within false p n e = cc

-- a key beside an entry in the midst of others
module _ (t : Tree) (l : List Entry) (e : Entry) (r : List Entry) (round : Round l e r) where
  -- in front of it
  module _ (less : key_cmp t (key_of e) ≡ Less) where
    none_from : NoneHas t (e ∷ r)
    none_from = (ap is_eq less, none_above t r (above_more t (key_of e) r less round.above))

    pub found_left : found t l ≡ found t (l ++ e ∷ r)
    found_left = sym (found_in_front t l (e ∷ r) none_from)

    pub number_left : number_of t l ≡ number_of t (l ++ e ∷ r)
    number_left = sym (number_in_front t l (e ∷ r) none_from)

  -- at it
  module _ (equal : key_cmp t (key_of e) ≡ Equal) where
    none_before : NoneHas t l
    none_before = none_below t l (below_same t (key_of e) l equal round.below)

    pub found_here : Some (value_of e) ≡ found t (l ++ e ∷ r)
    found_here = sym (found_behind t l (e ∷ r) none_before ∙ ap (λ b. if b then Some (value_of e) else found t r) (ap is_eq equal))

    number_first_here : number_of t (e ∷ r) ≡ Some 0
    number_first_here = number_step t e r ∙ ap (λ b. cond b (Some 0) (option_map suc (number_of t r))) (ap is_eq equal)

    pub number_here : Some (length l) ≡ number_of t (l ++ e ∷ r)
    number_here = ap Some (omega arith) ∙ sym (number_behind t l (e ∷ r) none_before ∙ ap (option_map (λ k. length l + k)) number_first_here)

  -- behind it
  module _ (greater : key_cmp t (key_of e) ≡ Greater) where
    none_up_to : NoneHas t l
    none_up_to = none_below t l (below_more t (key_of e) l greater round.below)

    pub found_right : found t r ≡ found t (l ++ e ∷ r)
    found_right = sym (found_behind t l (e ∷ r) none_up_to ∙ ap (λ b. if b then Some (value_of e) else found t r) (ap is_eq greater))

    number_past_here : number_of t (e ∷ r) ≡ option_map suc (number_of t r)
    number_past_here = number_step t e r ∙ ap (λ b. cond b (Some 0) (option_map suc (number_of t r))) (ap is_eq greater)

    pub number_right : number_of t (l ++ e ∷ r) ≡ option_map (λ k. length l + k) (option_map suc (number_of t r))
    number_right = number_behind t l (e ∷ r) none_up_to ∙ ap (option_map (λ k. length l + k)) number_past_here
