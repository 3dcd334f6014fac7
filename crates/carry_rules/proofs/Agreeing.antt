-- What is carried at each declarator is what is carried at the end, since no name that may be carried is declared twice.
use Rattle.std.proofs.Common.{◌≡◌, ℕ, ◌≤◌, Bool, true, false, not, ◌||◌, List, refl, sym, ap, ◌∙◌, arith, inl, inr, if◌then◌else◌}
use Rattle.std.proofs.lemmas.Bool.{or_right, false≢true, true≢false}
use Rattle.swc_ast.specs.declared.Span.{Span}
use Rattle.swc_ast.specs.declared.VarDeclKind.TheVariants.{Var, Let, Const}
use Rattle.swc_ast.specs.Tree.{Name, same_name, Label, Declarator, Tree, node, Forest, ε, ◌⊳◌}
use Rattle.swc_ast.specs.Value.{Undefined}
use Rattle.static_proofs.proofs.Names.{same_name_path, same_name_itself, same_name_swap}
use Rattle.link_proofs.specs.Links.{Put, nothing, a_value}
use Rattle.carry_rules.specs.Carry.{Pass, Facts, declares_lexical, how_many, how_many_in, Carried, or_put, with_put, first_put, may_carry, entry, enter, leave, behind, after, after_all}
use Rattle.carry_rules.proofs.Sound.{Last, Enters, Carries, agrees, agrees_all}
use Rattle.carry_rules.proofs.Standing.{or_nothing, put_unless_true}
use Rattle.carry_rules.proofs.Settling.{none_one, one_of, SettlesAt, settles, settles_all}

abbrev pub lexical_at : Name → Label → Forest → Bool
lexical_at x l cs = declares_lexical x l

module _ (p : Pass) (F : Facts) (x : Name) where
  other_put : (y : Name) (q : Put) (f : Name → Put) → same_name x y ≡ false → with_put y q f x ≡ f x
  other_put y q f e = by (same_name y x) (same_name_swap y x ∙ e)
    where
      by : (b : Bool) → b ≡ false → (if b then or_put (f x) q else f x) ≡ f x
      by false e = refl
      by true e = absurd (true≢false e)

  behind_same : (l : Label) (ss : List Span) (cs : Forest) (r : Carried) → declares_lexical x l ≡ false → (behind p F l ss cs r).values x ≡ r.values x
  behind_same (Declarator Var y) ss cs r e = refl
  behind_same (Declarator Let y) ss cs r e = other_put y (entry p F r y ss cs) r.values e
  behind_same (Declarator Const y) ss cs r e = other_put y (entry p F r y ss cs) r.values e
  behind_same l ss cs r e = refl

  mutual
    pub same_after : (s : Carried) (t : Tree) → how_many (lexical_at x) t ≡ 0 → (after p F s t).values x ≡ s.values x
    same_after s (node l ss cs) e = behind_same l ss cs (leave p F l s (after_all p F (enter p F l ss cs s) cs)) (none_one (declares_lexical x l) (omega (arith, e))) ∙ same_all_after (enter p F l ss cs s) cs (omega (arith, e))

    pub same_all_after : (s : Carried) (ts : Forest) → how_many_in (lexical_at x) ts ≡ 0 → (after_all p F s ts).values x ≡ s.values x
    same_all_after s ε e = refl
    same_all_after s (t ⊳ ts) e = same_all_after (after p F s t) ts (omega (arith, e)) ∙ same_after s t (omega (arith, e))

  -- of a name that may not be carried nothing is
  module _ (never : may_carry p F x ≡ false) where
    no_entry : (r : Carried) (ss : List Span) (cs : Forest) → entry p F r x ss cs ≡ nothing
    no_entry r ss cs = put_unless_true (r.quiet || not (may_carry p F x)) (first_put p r ss cs) (or_right r.quiet (not (may_carry p F x)) (ap not never))

    put_nothing : (y : Name) (r : Carried) (ss : List Span) (cs : Forest) → with_put y (entry p F r y ss cs) r.values x ≡ r.values x
    put_nothing y r ss cs = by (same_name y x) refl
      where
        by : (b : Bool) → same_name y x ≡ b → (if b then or_put (r.values x) (entry p F r y ss cs) else r.values x) ≡ r.values x
        by false e = refl
        by true e = ap (or_put (r.values x)) (ap (λ z. entry p F r z ss cs) (same_name_path y x e) ∙ no_entry r ss cs) ∙ or_nothing (r.values x)

    behind_never : (l : Label) (ss : List Span) (cs : Forest) (r : Carried) → (behind p F l ss cs r).values x ≡ r.values x
    behind_never (Declarator Var y) ss cs r = refl
    behind_never (Declarator Let y) ss cs r = put_nothing y r ss cs
    behind_never (Declarator Const y) ss cs r = put_nothing y r ss cs
    behind_never l ss cs r = refl

    mutual
      pub never_after : (s : Carried) (t : Tree) → (after p F s t).values x ≡ s.values x
      never_after s (node l ss cs) = behind_never l ss cs (leave p F l s (after_all p F (enter p F l ss cs s) cs)) ∙ never_all_after (enter p F l ss cs s) cs

      pub never_all_after : (s : Carried) (ts : Forest) → (after_all p F s ts).values x ≡ s.values x
      never_all_after s ε = refl
      never_all_after s (t ⊳ ts) = never_all_after (after p F s t) ts ∙ never_after s t

-- names that are never set have no first values
module _ (E : Last) where
  abbrev pub Bare : Label → Forest → Type 0
  Bare (Declarator k x) cs = E.idle x ≡ true → cs ≡ ε
  Bare l cs = Unit {0}

  abbrev mutual
    pub all_bare : Tree → Type 0
    all_bare (node l ss cs) = Bare l cs × each_bare cs

    pub each_bare : Forest → Type 0
    each_bare ε = Unit {0}
    each_bare (t ⊳ ts) = all_bare t × each_bare ts

module _ (p : Pass) (F : Facts) (E : Last) (never : (x : Name) → may_carry p F x ≡ false → E.idle x ≡ false → E.values x ≡ nothing) (idle : (x : Name) → E.idle x ≡ true → E.values x ≡ a_value Undefined) where
  -- names that may be carried are declared once, and what is carried of them behind a list or a tree is what is carried in the end
  pub record Ends (n : Name → ℕ) (s t : Carried) : Type 0 where
    pub once : (x : Name) → may_carry p F x ≡ true → E.idle x ≡ false → n x ≤ 1
    pub unset : (x : Name) → may_carry p F x ≡ true → E.idle x ≡ false → 1 ≤ n x → s.values x ≡ nothing
    pub ends : (x : Name) → may_carry p F x ≡ true → E.idle x ≡ false → 1 ≤ n x → E.values x ≡ t.values x

  starts : (r : Carried) (x : Name) (ss : List Span) (cs : Forest) → (E.idle x ≡ true → cs ≡ ε) → (may_carry p F x ≡ true → E.idle x ≡ false → (E.values x ≡ with_put x (entry p F r x ss cs) r.values x) × (r.values x ≡ nothing)) → Enters p F E r x ss cs
  starts r x ss cs b f = at (E.idle x) refl
    where
      same : (b : Bool) → b ≡ true → r.values x ≡ nothing → (if b then or_put (r.values x) (entry p F r x ss cs) else r.values x) ≡ entry p F r x ss cs
      same true e n = ap (λ q. or_put q (entry p F r x ss cs)) n
      same false e n = absurd (false≢true e)

      by : E.idle x ≡ false → (b : Bool) → may_carry p F x ≡ b → E.values x ≡ entry p F r x ss cs
      by n true e = let q = f e n in q.0 ∙ same (same_name x x) (same_name_itself x) q.1
      by n false e = never x e n ∙ sym (no_entry p F x e r ss cs)

      at : (c : Bool) → E.idle x ≡ c → Enters p F E r x ss cs
      at true n = inr (idle x n, b n)
      at false n = inl (by n (may_carry p F x) refl)

  own_carries : (s r : Carried) (l : Label) (ss : List Span) (cs : Forest) → Bare E l cs → SettlesAt p F E.settled r l ss cs → ((x : Name) → may_carry p F x ≡ true → E.idle x ≡ false → declares_lexical x l ≡ true → (E.values x ≡ (behind p F l ss cs r).values x) × (r.values x ≡ nothing)) → Carries p F E r l ss cs
  own_carries s r (Declarator Let x) ss cs b w f = starts r x ss cs b (λ e n. f x e n (same_name_itself x))
  own_carries s r (Declarator Const x) ss cs b w f = starts r x ss cs b (λ e n. f x e n (same_name_itself x))
  own_carries s r (Declarator Var x) ss cs b w f = (w, b)
  own_carries s r l ss cs b w f = tt

  mutual
    pub agrees_after : (s : Carried) (t : Tree) → Ends (λ x. how_many (lexical_at x) t) s (after p F s t) → all_bare E t → settles p F E.settled s t → agrees p F E s t
    agrees_after s (node l ss cs) h b w = (agrees_all_after (enter p F l ss cs s) cs inner b.1 w.0, own_carries s r l ss cs b.0 w.1 own)
      where
        r : Carried
        r = leave p F l s (after_all p F (enter p F l ss cs s) cs)

        not_own : (x : Name) → may_carry p F x ≡ true → E.idle x ≡ false → 1 ≤ how_many_in (lexical_at x) cs → declares_lexical x l ≡ false
        not_own x e n i = none_one (declares_lexical x l) (omega (arith, h.once x e n))

        inner : Ends (λ x. how_many_in (lexical_at x) cs) (enter p F l ss cs s) (after_all p F (enter p F l ss cs s) cs)
        inner = record {
          once = λ x e n. omega (arith, h.once x e n);
          unset = λ x e n i. h.unset x e n (omega (arith, i));
          ends = λ x e n i. h.ends x e n (omega (arith, i)) ∙ behind_same p F x l ss cs r (not_own x e n i);
        }

        own : (x : Name) → may_carry p F x ≡ true → E.idle x ≡ false → declares_lexical x l ≡ true → (E.values x ≡ (behind p F l ss cs r).values x) × (r.values x ≡ nothing)
        own x e n d = (h.ends x e n (omega (arith, one_of (declares_lexical x l) d)), same_all_after p F x (enter p F l ss cs s) cs (omega (arith, h.once x e n, one_of (declares_lexical x l) d)) ∙ h.unset x e n (omega (arith, one_of (declares_lexical x l) d)))

    pub agrees_all_after : (s : Carried) (ts : Forest) → Ends (λ x. how_many_in (lexical_at x) ts) s (after_all p F s ts) → each_bare E ts → settles_all p F E.settled s ts → agrees_all p F E s ts
    agrees_all_after s ε h b w = tt
    agrees_all_after s (t ⊳ ts) h b w = (agrees_after s t first b.0 w.0, agrees_all_after (after p F s t) ts second b.1 w.1)
      where
        first : Ends (λ x. how_many (lexical_at x) t) s (after p F s t)
        first = record {
          once = λ x e n. omega (arith, h.once x e n);
          unset = λ x e n i. h.unset x e n (omega (arith, i));
          ends = λ x e n i. h.ends x e n (omega (arith, i)) ∙ same_all_after p F x (after p F s t) ts (omega (arith, h.once x e n, i));
        }

        second : Ends (λ x. how_many_in (lexical_at x) ts) (after p F s t) (after_all p F (after p F s t) ts)
        second = record {
          once = λ x e n. omega (arith, h.once x e n);
          unset = λ x e n i. same_after p F x s t (omega (arith, h.once x e n, i)) ∙ h.unset x e n (omega (arith, i));
          ends = λ x e n i. h.ends x e n (omega (arith, i));
        }
