-- Texts that are put in an order.
use Rattle.std.proofs.Common.{◌≡◌, ◌≤◌, ◌-◌, Bool, true, false, ◌||◌, List, [], ◌∷◌, map, length, take, drop, get_or, refl, sym, ap, ap₂, ◌∙◌, arith, string_bytes}
use Rattle.std.proofs.lemmas.List.{take_all}
use Rattle.std.proofs.lemmas.Map.Lookups.{exact_bytes}
use Rattle.std.proofs.lemmas.Map.Text.{is_eq-slice_cmp}
use Rattle.std.specs.Borrow.{Bor}
use Rattle.std.specs.BTreeMap.{is_at}
use Rattle.std.specs.BTreeSet.{insert_key}
use Rattle.std.specs.Cmp.Lexicographic.{slice_cmp}
use Rattle.std.specs.List.{list_any}
use Rattle.std.specs.Ordering.{match_ordering, nat_cmp}
use Rattle.std.specs.Str.{bytes_eq}
use Rattle.std.specs.declared.alloc.Global.{Global}
use Rattle.std.specs.declared.cmp.Ordering.{Ordering}
use Rattle.std.specs.declared.cmp.Ordering.TheVariants.{Less, Equal, Greater}
use Rattle.std.specs.declared.string.String.{String}
use Rattle.swc_ast.specs.Run.{has_text}
use Rattle.swc_ast.specs.Tree.{Text}
use Rattle.dce_uses.proofs.Adding.{or_grouped, or_swap}

-- what was put in order
abbrev pub texts : List (Bor Text) → List Text
texts = map (λ k. k.now)

-- a text is found where it is among them
pub found : (t : Text) (ks : List (Bor Text)) → list_any (is_at (λ k. slice_cmp nat_cmp t k.now)) ks ≡ has_text t (texts ks)
found t [] = refl
found t (k ∷ ks) = ap₂ (λ a b. a || b) (is_eq-slice_cmp t k.now) (found t ks)

or_again : (a b : Bool) → (a || b) ≡ ((a || b) || a)
or_again true b = refl
or_again false true = refl
or_again false false = refl

abbrev str_cmp : Bor Text → Bor Text → Ordering
str_cmp x y = slice_cmp nat_cmp x.now y.now

-- there is one more text
put : (t : Text) (ks : List (Bor Text)) (k : Bor Text) → has_text t (texts (insert_key str_cmp ks k)) ≡ (has_text t (texts ks) || bytes_eq t k.now)
put t [] k = or_swap (bytes_eq t k.now) false
put t (i ∷ is) k = by (str_cmp k i) refl (put t is k)
  where
    by : (o : Ordering) → str_cmp k i ≡ o → has_text t (texts (insert_key str_cmp is k)) ≡ (has_text t (texts is) || bytes_eq t k.now) → has_text t (texts (insert_key str_cmp (i ∷ is) k)) ≡ (has_text t (texts (i ∷ is)) || bytes_eq t k.now)
    by Less ordered rest = ap (λ o. has_text t (texts (match_ordering o (k ∷ i ∷ is) (i ∷ is) (i ∷ insert_key str_cmp is k)))) ordered ∙ or_swap (bytes_eq t k.now) (has_text t (texts (i ∷ is)))
    by Equal ordered rest = ap (λ o. has_text t (texts (match_ordering o (k ∷ i ∷ is) (i ∷ is) (i ∷ insert_key str_cmp is k)))) ordered ∙ or_again (bytes_eq t i.now) (has_text t (texts is)) ∙ ap (λ u. has_text t (texts (i ∷ is)) || bytes_eq t u) (sym (exact_bytes k.now i.now ordered))
    by Greater ordered rest = ap (λ o. has_text t (texts (match_ordering o (k ∷ i ∷ is) (i ∷ is) (i ∷ insert_key str_cmp is k)))) ordered ∙ ap (λ b. bytes_eq t i.now || b) rest ∙ sym (or_grouped (bytes_eq t i.now) (has_text t (texts is)) (bytes_eq t k.now))

-- the first of what is left, and what stands behind it
pub first_left : {X : Type 0} (left : List X) (s : X) → 1 ≤ length left → s ≡ get_or left 0 s → left ≡ s ∷ take (length left - 1) (drop 1 left)
first_left [] s some is = absurd (omega (arith, some))
first_left (m ∷ ms) s some is = ap₂ (λ k ks. k ∷ ks) (sym is) (sym (take_all (length (m ∷ ms) - 1) ms (omega arith)))

-- a step of the loop
pub kept : (t : Text) (left : List (String Global)) (s : String Global) (k : Bor Text) (ks ns : List (Bor Text)) (g : Bool) → 1 ≤ length left → s ≡ get_or left 0 s → k.now ≡ string_bytes s → ns ≡ insert_key str_cmp ks k → (has_text t (texts ks) || has_text t (map string_bytes left)) ≡ g → (has_text t (texts ns) || has_text t (map string_bytes (take (length left - 1) (drop 1 left)))) ≡ g
kept t left s k ks ns g some is same made h =
    let rest = map string_bytes (take (length left - 1) (drop 1 left)) in
    ap (λ b. b || has_text t rest) (ap (λ ms. has_text t (texts ms)) made ∙ put t ks k ∙ ap (λ u. has_text t (texts ks) || bytes_eq t u) same) ∙ or_grouped (has_text t (texts ks)) (bytes_eq t (string_bytes s)) (has_text t rest) ∙ sym (ap (λ l. has_text t (texts ks) || has_text t (map string_bytes l)) (first_left left s some is)) ∙ h
