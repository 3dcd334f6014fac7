-- In a resolved, shaped tree of the core the facts of names say what propagation stands on.
use Rattle.std.proofs.Common.{◌≡◌, ℕ, ◌≤◌, Bool, true, false, ◌||◌, Some, refl, sym, ap, ◌∙◌, arith, ◌⊎◌, inl, inr}
use Rattle.std.proofs.lemmas.Bool.{or_left, or_right, or_from, false≢true, true≢false, false_from_ne_true, true_from_ne_false}
use Rattle.swc_ast.specs.Tree.{Name, Tree, ε, ◌⊳◌}
use Rattle.swc_ast.specs.Value.{Value, Undefined}
use Rattle.swc_ast.specs.Meaning.{is_unresolved}
use Rattle.swc_ast.specs.Valid.{valid}
use Rattle.swc_ast.specs.Resolved.{scopes, IsResolved}
use Rattle.static_proofs.specs.Shaped.{IsShaped}
use Rattle.link_proofs.specs.Links.{nothing, a_name, a_value, empty_ground, Proper}
use Rattle.carry_rules.specs.Carry.{Pass, constants, inlines, Facts, facts, Carried, declares, how_many, starting, may_carry, may_settle, after, marks}
use Rattle.carry_rules.specs.Parted.{is_parted}
use Rattle.carry_rules.proofs.Sound.{Last, link_of, known_of, linked, knows, nothing≢name, nothing≢value, fixed, links, Sure, SoundTree, agrees}
use Rattle.carry_rules.proofs.Standing.{shaped_same}
use Rattle.carry_rules.proofs.Marked.{many_marked}
use Rattle.carry_rules.proofs.Holding.{link_fixed, Knows, knows_lexical, knows_unset, known_is, fixed_link, constant_is_fixed}
use Rattle.carry_rules.proofs.Settling.{variable_at, settled_in, settles_of, settled_never}
use Rattle.carry_rules.proofs.Agreeing.{lexical_at, all_bare, same_after, agrees_after, never_after}
use Rattle.carry_rules.proofs.Literals.{kept_after}
use Rattle.carry_rules.proofs.Top.{idle, carried_last, Founded, starts_idle, starts_settled, starts_ready, undefined_at}
use Rattle.carry_proofs.proofs.Counts.{at, with_variables}
use Rattle.carry_proofs.proofs.Steady.{Sole, still_says, fixed_sole, none_lexical, constant_lexical, carried_sole, settles_sole, unsettled, unfixed_carries_none, default_free, default_moves, variable_moves}
use Rattle.carry_proofs.proofs.Sitting.{lex, Under, all_sit, all_stays, under_itself, all_are_bare}
use Rattle.carry_proofs.proofs.Unset.{unset_says, default_set}
use Rattle.carry_proofs.proofs.Undefined.{undefined_was, idle_unsettled}
use Rattle.carry_proofs.proofs.Like.{Like}
use Rattle.carry_proofs.proofs.LikeKept.{scopes_like, valid_whole}
use Rattle.carry_proofs.proofs.Marks.{marks_like}
use Rattle.carry_proofs.proofs.Ends.{Root, Apt, apt_after, settled_root}

idle_says : (p : Pass) (F : Facts) (x : Name) → idle p F x ≡ true → F.unset x ≡ true
idle_says constants F x e = absurd (false≢true e)
idle_says inlines F x e = e

value≢name : (v : Value) (x : Name) → a_value v ≡ a_name x → ⊥
value≢name v x e = cc

module _ (p : Pass) (t : Tree) where
  abbrev F : Facts
  F = facts t

  abbrev E : Last
  E = carried_last p F t

  unlexical : (x : Name) → lex t x ≡ false → E.idle x ≡ false → E.values x ≡ nothing
  unlexical x e i = same_after p F x (starting p F) t (none_lexical t x e) ∙ starts_idle p F x i

  unfixed : (x : Name) → fixed F x ≡ false → E.idle x ≡ false → E.values x ≡ nothing
  unfixed x e i = never_after p F x (unfixed_carries_none t x p e) (starting p F) t ∙ starts_idle p F x i

  settled_variable : (x : Name) → F.variable x ≡ false → E.settled x ≡ nothing
  settled_variable x e = settled_never p F (starting p F) t x (unsettled t x p e)

  once : (x : Name) → may_carry p F x ≡ true → how_many (lexical_at x) t ≤ 1
  once x e = omega (arith, (carried_sole t x p e).once, with_variables x t)

  settled_once : (x : Name) → may_settle p F p x ≡ true → how_many (variable_at x) t ≤ 1
  settled_once x e = omega (arith, (settles_sole t x p e).once)

  idle_unset : (x : Name) → E.idle x ≡ true → F.unset x ≡ true
  idle_unset x e = idle_says p F x e

  idle_value : (x : Name) → E.idle x ≡ true → E.values x ≡ a_value Undefined
  idle_value x e = kept_after p F x (starting p F) t Undefined (undefined_at p F x e)

  bare : all_bare E t
  bare = all_are_bare t E idle_unset

  agreed : agrees p F E (starting p F) t
  agreed = agrees_after p F E (λ x n i. never_after p F x n (starting p F) t ∙ starts_idle p F x i) idle_value (starting p F) t (record { once = λ x e n. once x e; unset = λ x e n i. starts_idle p F x n; ends = λ x e n i. refl }) bare
      (settles_of p F (settled_in p F (starting p F) t) (λ x n. settled_never p F (starting p F) t x n) (starting p F) t (record { once = settled_once; is = λ x e i. refl }))

  abbrev Fit : Carried → Type 0
  Fit = Apt p F E (lex t) (default_free t) (default_set t) idle_unset unlexical

  abbrev Stands : Name → Type 0
  Stands = Root p F E (lex t) (default_free t) (default_set t) idle_unset unlexical

  start : Fit (starting p F)
  start = record {
    right = λ x. right x (idle p F x) refl;
    ready = λ x e. absurd (starts_ready p F x e);
    targets = λ y x e. absurd (no_name y x (idle p F y) refl e);
    settled = λ y x e. absurd (nothing≢name x (sym (starts_settled p F y) ∙ e));
    undefined = λ x e. undefined_was p F x (starting p F) t e ∙ sym e;
  }
    where
      right : (x : Name) (b : Bool) → idle p F x ≡ b → ((starting p F).values x ≡ nothing) ⊎ ((starting p F).values x ≡ E.values x)
      right x false e = inl (starts_idle p F x e)
      right x true e = inr (undefined_at p F x e ∙ sym (idle_value x e))

      no_name : (y x : Name) (b : Bool) → idle p F y ≡ b → (starting p F).values y ≡ a_name x → ⊥
      no_name y x false i e = nothing≢name x (sym (starts_idle p F y i) ∙ e)
      no_name y x true i e = value≢name Undefined x (sym (undefined_at p F y i) ∙ e)

  apt : Fit (after p F (starting p F) t)
  apt = apt_after p F E (lex t) (default_free t) (default_set t) idle_unset unlexical (starting p F) t (all_sit t t (under_itself t)) agreed start

  root : (y x : Name) → link_of (E.values y) ≡ Some x → Stands x
  root y x e = apt.targets y x (linked (E.values y) x e)

  settled_is : (y x : Name) → E.settled y ≡ a_name x → Stands x
  settled_is y x e = settled_root p F E (lex t) (default_free t) (default_set t) idle_unset unlexical (starting p F) t (all_sit t t (under_itself t)) agreed start y x e

  settled_free : (x : Name) → fixed F x ≡ true → E.settled x ≡ nothing
  settled_free x f = settled_variable x (false_from_ne_true (F.variable x) (λ v. true≢false (sym f ∙ variable_moves t x v)))

  root_is_fixed : (x : Name) → Stands x → fixed F x ≡ true
  root_is_fixed x r = or_left (F.steady x) (F.constant x) r.0

  sure : Sure p F E (lex t)
  sure = record {
    unlexical = unlexical;
    unfixed = unfixed;
    constant_lexical = constant_lexical t;
    default_free = default_free t;
    default_moves = default_moves t;
    settled_variable = settled_variable;
    settled_free = settled_free;
    idle_unset = idle_unset;
    idle_value = idle_value;
    idle_settled = λ x e. idle_unsettled p F E x e (starting p F) t bare;
    default_set = default_set t;
    settled_fixed = λ y x e. root_is_fixed x (settled_is y x e);
  }

  module _ {mark : ℕ} (resolved : IsResolved mark t) (declared : (x : Name) → 1 ≤ how_many (at declares x) t → scopes x t ≡ 0 → ⊥) where
    sole_bound : (x : Name) → Sole t x → is_unresolved mark x ≡ false
    sole_bound x s = false_from_ne_true (is_unresolved mark x) (λ e. declared x (omega (arith, s.once)) (resolved.none_unresolved x e s.not_default))

    is_bound : (x : Name) → fixed F x ≡ true → is_unresolved mark x ≡ false
    is_bound x f = sole_bound x (fixed_sole t x f)

    root_fixed : (y x : Name) → link_of (E.values y) ≡ Some x → fixed F x ≡ true
    root_fixed y x e = root_is_fixed x (root y x e)

    -- a variable that settles
    is_variable : (y : Name) → (E.settled y ≡ nothing → ⊥) → F.variable y ≡ true
    is_variable y n = true_from_ne_false (F.variable y) (λ e. n (settled_variable y e))

    variable_bound : (y : Name) → (E.settled y ≡ nothing → ⊥) → is_unresolved mark y ≡ false
    variable_bound y n = sole_bound y (still_says t y (is_variable y n)).sole

    named : (y x : Name) → E.settled y ≡ a_name x → E.settled y ≡ nothing → ⊥
    named y x e n = nothing≢name x (sym n ∙ e)

    -- a name with a known value
    known_link : (y : Name) (v : Value) → known_of (E.values y) ≡ Some v → (fixed F y || E.idle y) ≡ true
    known_link y v e = by (known_is sure y v e)
      where
        at : (a b : Bool) → fixed F y ≡ a → E.idle y ≡ b → (fixed F y || E.idle y) ≡ true
        at true b i j = or_left (fixed F y) (E.idle y) i
        at false true i j = or_right (fixed F y) (E.idle y) j
        at false false i j = absurd (nothing≢value v (sym (unfixed y i j) ∙ knows (E.values y) v e))

        by : Knows sure y v → (fixed F y || E.idle y) ≡ true
        by (knows_lexical f l) = or_left (fixed F y) (E.idle y) f
        by (knows_unset u i) = at (fixed F y) (E.idle y) refl refl

    known_bound : (y : Name) (v : Value) → known_of (E.values y) ≡ Some v → is_unresolved mark y ≡ false
    known_bound y v e = by (known_is sure y v e)
      where
        by : Knows sure y v → is_unresolved mark y ≡ false
        by (knows_lexical f l) = is_bound y f
        by (knows_unset u i) = let s = unset_says t y u in false_from_ne_true (is_unresolved mark y) (λ w. declared y s.some (resolved.none_unresolved y w s.not_default))

    proper : Proper (links F E) mark
    proper = record {
      linked_fixed = λ y x e. fixed_link sure y (link_fixed sure y x e);
      target_fixed = λ y x e. fixed_link sure x (root_fixed y x e);
      target_ends = λ y x e. ap link_of (root y x e).1;
      target_unknown = λ y x e. ap known_of (root y x e).1;
      linked_bound = λ y x e. is_bound y (link_fixed sure y x e);
      target_bound = λ y x e. is_bound x (root_fixed y x e);
      known_fixed = known_link;
      known_bound = known_bound;
      target_settles = λ y x e. settled_free x (root_fixed y x e);
      settled_bound = λ y x e. (variable_bound y (named y x e), is_bound x (root_is_fixed x (settled_is y x e)));
      settled_value = λ y v e. variable_bound y (λ n. nothing≢value v (sym n ∙ e));
      settled_target = λ y x e. fixed_link sure x (root_is_fixed x (settled_is y x e));
      settled_ends = λ y x e. let r = settled_is y x e in (ap link_of r.1, ap known_of r.1, settled_free x (root_is_fixed x r));
      settled_still = λ y n. (still y n, is_variable y n);
      constant_fixed = λ x e. fixed_link sure x (constant_is_fixed sure x e);
    }
      where
        still : (y : Name) → (E.settled y ≡ nothing → ⊥) → (fixed F y || E.idle y) ≡ false
        still y n = or_from (fixed F y) (E.idle y) (variable_moves t y (is_variable y n)) (false_from_ne_true (E.idle y) (λ i. n (idle_unsettled p F E y i (starting p F) t bare)))

    marked_under : Under t (marks p F (starting p F) t)
    marked_under q = omega (arith, many_marked p F q (starting p F) t)

    marked : Like (Unit {0}) (Unit {0}) (λ x. false) (t ⊳ ε) (marks p F (starting p F) t ⊳ ε)
    marked = marks_like (Unit {0}) (Unit {0}) (λ x. false) p F (starting p F) (t ⊳ ε)

    sound : IsShaped t → valid t ≡ true → SoundTree F (lex t) empty_ground (marks p F (starting p F) t)
    sound s v = record {
      sits = all_sit t (marks p F (starting p F) t) marked_under;
      stays = all_stays t (marks p F (starting p F) t) marked_under;
      sole = λ x f. omega (arith, many_marked p F (declares x) (starting p F) t, (still_says t x f).sole.once);
      once = λ x f. omega (arith, many_marked p F (declares x) (starting p F) t, (fixed_sole t x f).once);
      free = λ x e. absurd (false≢true e);
      bound = λ x. omega (arith, scopes_like x marked, resolved.bound_once x);
      shaped = shaped_same p F (starting p F) t ∙ s.shaped;
      valid = valid_whole tt marked v;
    }

    pub founded : IsShaped t → valid t ≡ true → is_parted t ≡ true → Founded p F (lex t) mark t
    founded s v w = record { sure = sure; sound = sound s v; once = once; settled_once = settled_once; bare = bare; proper = proper; parted = w }
