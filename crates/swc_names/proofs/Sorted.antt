-- Names that are put in a set which keeps them in order.
use Rattle.std.proofs.Common.{◌≡◌, Bool, true, false, ◌||◌, List, [], ◌∷◌, refl, sym, ap, ap₂, ◌∙◌}
use Rattle.std.proofs.lemmas.Map.Lookups.{exact_bytes, exact_unsigned}
use Rattle.std.proofs.lemmas.Bool.{false≢true}
use Rattle.std.specs.Borrow.{Bor}
use Rattle.std.specs.Cmp.Lexicographic.{slice_cmp}
use Rattle.swc_ast.specs.Parts.{ident_name}
use Rattle.swc_ast.specs.declared.names.Ident.{Ident}
use Rattle.std.specs.BTreeSet.{insert_key}
use Rattle.std.specs.Ordering.{match_ordering, nat_cmp, ordering_then}
use Rattle.std.specs.declared.cmp.Ordering.{Ordering}
use Rattle.std.specs.declared.cmp.Ordering.TheVariants.{Less, Equal, Greater}
use Rattle.swc_ast.specs.Tree.{Name, same_name}
use Rattle.swc_ast.specs.Scope.{has_name}
use Rattle.swc_names.specs.Ids.{Id, id_name, ids, idents}

or_turned : (a b : Bool) → (a || b) ≡ (b || a)
or_turned true true = refl
or_turned true false = refl
or_turned false true = refl
or_turned false false = refl

or_grouped : (a b c : Bool) → (a || (b || c)) ≡ ((a || b) || c)
or_grouped true b c = refl
or_grouped false b c = refl

or_again : (a b : Bool) → (a || b) ≡ ((a || b) || a)
or_again true b = refl
or_again false true = refl
or_again false false = refl

-- a set has one more name
put : (cmp : Id → Id → Ordering) → ((i j : Id) → cmp i j ≡ Equal → id_name i ≡ id_name j) → (x : Name) (ks : List Id) (k : Id) → has_name x (ids (insert_key cmp ks k)) ≡ (has_name x (ids ks) || same_name x (id_name k))
put cmp exact x [] k = or_turned (same_name x (id_name k)) false
put cmp exact x (i ∷ is) k = by (cmp k i) refl (put cmp exact x is k)
  where
    by : (o : Ordering) → cmp k i ≡ o → has_name x (ids (insert_key cmp is k)) ≡ (has_name x (ids is) || same_name x (id_name k)) → has_name x (ids (insert_key cmp (i ∷ is) k)) ≡ (has_name x (ids (i ∷ is)) || same_name x (id_name k))
    by Less ordered rest = ap (λ o. has_name x (ids (match_ordering o (k ∷ i ∷ is) (i ∷ is) (i ∷ insert_key cmp is k)))) ordered ∙ or_turned (same_name x (id_name k)) (has_name x (ids (i ∷ is)))
    by Equal ordered rest = ap (λ o. has_name x (ids (match_ordering o (k ∷ i ∷ is) (i ∷ is) (i ∷ insert_key cmp is k)))) ordered ∙ or_again (same_name x (id_name i)) (has_name x (ids is)) ∙ ap (λ n. has_name x (ids (i ∷ is)) || same_name x n) (sym (exact k i ordered))
    by Greater ordered rest = ap (λ o. has_name x (ids (match_ordering o (k ∷ i ∷ is) (i ∷ is) (i ∷ insert_key cmp is k)))) ordered ∙ ap (λ b. same_name x (id_name i) || b) rest ∙ or_grouped (same_name x (id_name i)) (has_name x (ids is)) (same_name x (id_name k))

-- values in the order of their texts, and of their contexts beside one text
abbrev pub id_cmp : Id → Id → Ordering
id_cmp i j = ordering_then (slice_cmp nat_cmp i.0 j.0) (nat_cmp i.1.0 j.1.0)

both : (p q : Ordering) → ordering_then p q ≡ Equal → (p ≡ Equal) × (q ≡ Equal)
both Less q h = absurd (false≢true (ap (λ o. match_ordering o false true false) h))
both Equal q h = (refl, h)
both Greater q h = absurd (false≢true (ap (λ o. match_ordering o false true false) h))

exact : (i j : Id) → id_cmp i j ≡ Equal → id_name i ≡ id_name j
exact i j h =
    let p = both (slice_cmp nat_cmp i.0 j.0) (nat_cmp i.1.0 j.1.0) h in
    ap₂ (λ t c. let x : Name = record { text = t; context = c } in x) (exact_bytes i.0 j.0 p.0) (exact_unsigned i.1.0 j.1.0 p.1)

-- a step of the loop
pub kept : (x : Name) (left rest : List (Bor Ident)) (n : Bor Ident) (i : Id) (ks ns : List Id) (g : Bool) → left ≡ n ∷ rest → id_name i ≡ ident_name n.now → ns ≡ insert_key id_cmp ks i → (has_name x (ids ks) || has_name x (idents left)) ≡ g → (has_name x (ids ns) || has_name x (idents rest)) ≡ g
kept x left rest n i ks ns g is same made h = ap (λ b. b || has_name x (idents rest)) (ap (λ ms. has_name x (ids ms)) made ∙ put id_cmp exact x ks i ∙ ap (λ y. has_name x (ids ks) || same_name x y) same) ∙ sym (or_grouped (has_name x (ids ks)) (same_name x (ident_name n.now)) (has_name x (idents rest))) ∙ sym (ap (λ l. has_name x (ids ks) || has_name x (idents l)) is) ∙ h
