-- What is put for a name where a tree stands is what is carried of it in the end.
use Rattle.std.proofs.Common.{◌≡◌, Bool, true, false, refl, sym, ap, ap₂, ◌∙◌, ◌⊎◌, inl, inr}
use Rattle.swc_ast.specs.Tree.{Name, Label, Read, TypeOfName, Shorthand}
use Rattle.link_proofs.specs.Links.{Put, nothing, Ground, PlacedAt, unmarked, no_settling, settled_here, Placed, reads}
use Rattle.carry_rules.specs.Carry.{Pass, constants, inlines, Facts, Carried, carried, put_unless, or_put, read_put, mark_of}
use Rattle.carry_rules.proofs.Sound.{Last, is_marked, fixed, links, Sure}
use Rattle.carry_rules.proofs.Standing.{or_nothing}

-- what is put for a name is nothing, or what is put in the end
abbrev pub Fits : Last → Name → Put → Type 0
Fits E y q = (q ≡ nothing) ⊎ (q ≡ or_put (E.values y) (E.settled y))

-- what is carried of a name, if anything
abbrev pub Valued : Last → Carried → Name → Type 0
Valued E s y = (s.values y ≡ nothing) ⊎ (s.values y ≡ E.values y)

abbrev pub Laid : Last → Carried → Name → Type 0
Laid E s y = (s.settled y ≡ nothing) ⊎ (s.settled y ≡ E.settled y)

abbrev pub LaidAt : Last → Ground → Carried → Name → Type 0
LaidAt E G s y = (s.settled y ≡ nothing) ⊎ ((s.settled y ≡ E.settled y) × (G.settled y ≡ true))

pub laid_at : (E : Last) (G : Ground) (s : Carried) (y : Name) → LaidAt E G s y → Laid E s y
laid_at E G s y (inl e) = inl e
laid_at E G s y (inr e) = inr e.0

module _ {p : Pass} {F : Facts} {E : Last} {lex : Name → Bool} (sure : Sure p F E lex) where
  -- no name has both
  apart : (x : Name) → (E.values x ≡ nothing) ⊎ (E.settled x ≡ nothing)
  apart x = by (fixed F x) (E.idle x) refl refl
    where
      by : (b c : Bool) → fixed F x ≡ b → E.idle x ≡ c → (E.values x ≡ nothing) ⊎ (E.settled x ≡ nothing)
      by true c e i = inr (sure.settled_free x e)
      by false true e i = inr (sure.idle_settled x i)
      by false false e i = inl (sure.unfixed x e i)

  pub both_fit : (s : Carried) (y : Name) → Valued E s y → Laid E s y → Fits E y (or_put (s.values y) (s.settled y))
  both_fit s y (inl a) (inl b) = inl (ap₂ or_put a b)
  both_fit s y (inl a) (inr b) = by (apart y)
    where
      by : (E.values y ≡ nothing) ⊎ (E.settled y ≡ nothing) → Fits E y (or_put (s.values y) (s.settled y))
      by (inl i) = inr (ap₂ or_put a b ∙ sym (ap (λ v. or_put v (E.settled y)) i))
      by (inr j) = inl (ap₂ or_put a b ∙ j)
  both_fit s y (inr a) (inl b) = by (apart y)
    where
      by : (E.values y ≡ nothing) ⊎ (E.settled y ≡ nothing) → Fits E y (or_put (s.values y) (s.settled y))
      by (inl i) = inl (ap₂ or_put a b ∙ or_nothing (E.values y) ∙ i)
      by (inr j) = inr (ap₂ or_put a b ∙ ap (or_put (E.values y)) (sym j))
  both_fit s y (inr a) (inr b) = inr (ap₂ or_put a b)

  pub carried_fits : (s : Carried) (y : Name) → Valued E s y → Laid E s y → Fits E y (carried s y)
  carried_fits s y a b = by s.quiet
    where
      by : (c : Bool) → Fits E y (put_unless c (or_put (s.values y) (s.settled y)))
      by true = inl refl
      by false = both_fit s y a b

  module _ {G : Ground} (s : Carried) (y : Name) where
    pub nothing_placed : (q : Put) → q ≡ nothing → PlacedAt (links F E) G y (mark_of q)
    nothing_placed q e = unmarked (ap (λ q. is_marked (mark_of q)) e)

    pub both_placed : Valued E s y → LaidAt E G s y → PlacedAt (links F E) G y (mark_of (or_put (s.values y) (s.settled y)))
    both_placed a (inr b) = settled_here b.1
    both_placed (inl a) (inl b) = nothing_placed (or_put (s.values y) (s.settled y)) (ap₂ or_put a b)
    both_placed (inr a) (inl b) = by (apart y)
      where
        by : (E.values y ≡ nothing) ⊎ (E.settled y ≡ nothing) → PlacedAt (links F E) G y (mark_of (or_put (s.values y) (s.settled y)))
        by (inl i) = nothing_placed (or_put (s.values y) (s.settled y)) (ap₂ or_put a b ∙ or_nothing (E.values y) ∙ i)
        by (inr j) = no_settling j

    carried_placed : Valued E s y → LaidAt E G s y → PlacedAt (links F E) G y (mark_of (carried s y))
    carried_placed a b = by s.quiet
      where
        by : (c : Bool) → PlacedAt (links F E) G y (mark_of (put_unless c (or_put (s.values y) (s.settled y))))
        by true = unmarked refl
        by false = both_placed a b

    shorthand_placed : (q : Pass) → Valued E s y → LaidAt E G s y → PlacedAt (links F E) G y (mark_of (read_put q s (Shorthand y)))
    shorthand_placed constants a b = carried_placed a b
    shorthand_placed inlines a b = unmarked refl

  -- a read is placed
  pub all_placed : (G : Ground) (s : Carried) → ((y : Name) → Valued E s y) → ((y : Name) → LaidAt E G s y) → (l : Label) → Placed (links F E) G (reads l) (mark_of (read_put p s l))
  all_placed G s a b (Read x) = carried_placed s x (a x) (b x)
  all_placed G s a b (TypeOfName x) = carried_placed s x (a x) (b x)
  all_placed G s a b (Shorthand x) = shorthand_placed s x p (a x) (b x)
  all_placed G s a b l = tt
