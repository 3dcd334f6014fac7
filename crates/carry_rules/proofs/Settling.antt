-- What is carried of each variable along its list, gathered from a whole tree.
use Rattle.std.proofs.Common.{◌≡◌, ℕ, ◌≤◌, Bool, true, false, not, ◌&&◌, ◌||◌, List, refl, sym, ap, ap₂, ◌∙◌, arith, if◌then◌else◌}
use Rattle.std.proofs.lemmas.Bool.{or_right, false≢true, true≢false}
use Rattle.swc_ast.specs.declared.Span.{Span}
use Rattle.swc_ast.specs.declared.VarDeclKind.TheVariants.{Var, Let, Const}
use Rattle.swc_ast.specs.Tree.{Name, same_name, Label, Declarator, Tree, node, Forest, ε, ◌⊳◌}
use Rattle.static_proofs.proofs.Names.{same_name_path, same_name_itself, same_name_swap}
use Rattle.link_proofs.specs.Links.{Put, nothing}
use Rattle.carry_rules.specs.Carry.{Pass, Facts, declares_variable, one, how_many, how_many_in, Carried, or_put, first_put, may_settle, settling, enter, leave, after, after_all}
use Rattle.carry_rules.proofs.Standing.{or_nothing, put_unless_true}

abbrev pub variable_at : Name → Label → Forest → Bool
variable_at x l cs = declares_variable x l

-- one or none
pub none_one : (b : Bool) → one b ≡ 0 → b ≡ false
none_one false e = refl
none_one true e = absurd (omega (arith, e))

pub one_of : (b : Bool) → b ≡ true → one b ≡ 1
one_of true e = refl
one_of false e = absurd (false≢true e)

module _ (p : Pass) (F : Facts) where
  abbrev pub settled_own : Carried → Label → List Span → Forest → Name → Put
  settled_own r (Declarator Var y) ss cs x = if same_name y x then settling p F r y ss cs else nothing
  settled_own r l ss cs x = nothing

  abbrev mutual
    pub settled_in : Carried → Tree → Name → Put
    settled_in s (node l ss cs) x = or_put (settled_in_all (enter p F l ss cs s) cs x) (settled_own (leave p F l s (after_all p F (enter p F l ss cs s) cs)) l ss cs x)

    pub settled_in_all : Carried → Forest → Name → Put
    settled_in_all s ε x = nothing
    settled_in_all s (t ⊳ ts) x = or_put (settled_in s t x) (settled_in_all (after p F s t) ts x)

  -- a name that is declared nowhere does not settle
  own_none : (r : Carried) (l : Label) (ss : List Span) (cs : Forest) (x : Name) → declares_variable x l ≡ false → settled_own r l ss cs x ≡ nothing
  own_none r (Declarator Var y) ss cs x e = by (same_name y x) (same_name_swap y x ∙ e)
    where
      by : (b : Bool) → b ≡ false → (if b then settling p F r y ss cs else nothing) ≡ nothing
      by false e = refl
      by true e = absurd (true≢false e)
  own_none r (Declarator Let y) ss cs x e = refl
  own_none r (Declarator Const y) ss cs x e = refl
  own_none r l ss cs x e = refl

  mutual
    pub settled_none : (s : Carried) (t : Tree) (x : Name) → how_many (variable_at x) t ≡ 0 → settled_in s t x ≡ nothing
    settled_none s (node l ss cs) x e = ap₂ or_put (settled_all_none (enter p F l ss cs s) cs x (omega (arith, e))) (own_none (leave p F l s (after_all p F (enter p F l ss cs s) cs)) l ss cs x (none_one (declares_variable x l) (omega (arith, e))))

    pub settled_all_none : (s : Carried) (ts : Forest) (x : Name) → how_many_in (variable_at x) ts ≡ 0 → settled_in_all s ts x ≡ nothing
    settled_all_none s ε x e = refl
    settled_all_none s (t ⊳ ts) x e = ap₂ or_put (settled_none s t x (omega (arith, e))) (settled_all_none (after p F s t) ts x (omega (arith, e)))

  -- nor does one that may not
  never_settling : (r : Carried) (x : Name) (ss : List Span) (cs : Forest) → may_settle p F p x ≡ false → settling p F r x ss cs ≡ nothing
  never_settling r x ss cs e = put_unless_true (r.quiet || not (r.listed && may_settle p F p x)) (first_put p r ss cs) (or_right r.quiet (not (r.listed && may_settle p F p x)) (by r.listed (may_settle p F p x) e))
    where
      by : (a b : Bool) → b ≡ false → not (a && b) ≡ true
      by a true e = absurd (true≢false e)
      by true false e = refl
      by false false e = refl

  own_never : (r : Carried) (l : Label) (ss : List Span) (cs : Forest) (x : Name) → may_settle p F p x ≡ false → settled_own r l ss cs x ≡ nothing
  own_never r (Declarator Var y) ss cs x e = by (same_name y x) refl
    where
      by : (b : Bool) → same_name y x ≡ b → (if b then settling p F r y ss cs else nothing) ≡ nothing
      by false i = refl
      by true i = never_settling r y ss cs (ap (may_settle p F p) (same_name_path y x i) ∙ e)
  own_never r (Declarator Let y) ss cs x e = refl
  own_never r (Declarator Const y) ss cs x e = refl
  own_never r l ss cs x e = refl

  mutual
    pub settled_never : (s : Carried) (t : Tree) (x : Name) → may_settle p F p x ≡ false → settled_in s t x ≡ nothing
    settled_never s (node l ss cs) x e = ap₂ or_put (settled_all_never (enter p F l ss cs s) cs x e) (own_never (leave p F l s (after_all p F (enter p F l ss cs s) cs)) l ss cs x e)

    pub settled_all_never : (s : Carried) (ts : Forest) (x : Name) → may_settle p F p x ≡ false → settled_in_all s ts x ≡ nothing
    settled_all_never s ε x e = refl
    settled_all_never s (t ⊳ ts) x e = ap₂ or_put (settled_never s t x e) (settled_all_never (after p F s t) ts x e)

  -- what settles at each declarator is what is gathered, since no variable that may settle is declared twice
  module _ (S : Name → Put) where
    abbrev pub SettlesAt : Carried → Label → List Span → Forest → Type 0
    SettlesAt r (Declarator Var x) ss cs = S x ≡ settling p F r x ss cs
    SettlesAt r l ss cs = Unit {0}

    abbrev mutual
      pub settles : Carried → Tree → Type 0
      settles s (node l ss cs) = settles_all (enter p F l ss cs s) cs × SettlesAt (leave p F l s (after_all p F (enter p F l ss cs s) cs)) l ss cs

      pub settles_all : Carried → Forest → Type 0
      settles_all s ε = Unit {0}
      settles_all s (t ⊳ ts) = settles s t × settles_all (after p F s t) ts

    module _ (never : (x : Name) → may_settle p F p x ≡ false → S x ≡ nothing) where
      pub record Gathers (n : Name → ℕ) (f : Name → Put) : Type 0 where
        pub once : (x : Name) → may_settle p F p x ≡ true → n x ≤ 1
        pub is : (x : Name) → may_settle p F p x ≡ true → 1 ≤ n x → S x ≡ f x

      own_settles : (r : Carried) (l : Label) (ss : List Span) (cs : Forest) (q : Name → Put) → ((x : Name) → may_settle p F p x ≡ true → declares_variable x l ≡ true → (S x ≡ or_put (q x) (settled_own r l ss cs x)) × (q x ≡ nothing)) → SettlesAt r l ss cs
      own_settles r (Declarator Var x) ss cs q f = by (may_settle p F p x) refl
        where
          same : (b : Bool) → b ≡ true → (g : Put) → g ≡ nothing → or_put g (if b then settling p F r x ss cs else nothing) ≡ settling p F r x ss cs
          same true e g i = ap (λ g. or_put g (settling p F r x ss cs)) i
          same false e g i = absurd (false≢true e)

          by : (b : Bool) → may_settle p F p x ≡ b → S x ≡ settling p F r x ss cs
          by true e = let h = f x e (same_name_itself x) in h.0 ∙ same (same_name x x) (same_name_itself x) (q x) h.1
          by false e = never x e ∙ sym (never_settling r x ss cs e)
      own_settles r (Declarator Let x) ss cs q f = tt
      own_settles r (Declarator Const x) ss cs q f = tt
      own_settles r l ss cs q f = tt

      mutual
        pub settles_of : (s : Carried) (t : Tree) → Gathers (λ x. how_many (variable_at x) t) (settled_in s t) → settles s t
        settles_of s (node l ss cs) h = (settles_all_of (enter p F l ss cs s) cs inner, own_settles r l ss cs (settled_in_all (enter p F l ss cs s) cs) own)
          where
            r : Carried
            r = leave p F l s (after_all p F (enter p F l ss cs s) cs)

            inner : Gathers (λ x. how_many_in (variable_at x) cs) (settled_in_all (enter p F l ss cs s) cs)
            inner = record {
              once = λ x e. omega (arith, h.once x e);
              is = λ x e i. h.is x e (omega (arith, i)) ∙ ap (or_put (settled_in_all (enter p F l ss cs s) cs x)) (own_none r l ss cs x (none_one (declares_variable x l) (omega (arith, h.once x e, i)))) ∙ or_nothing (settled_in_all (enter p F l ss cs s) cs x);
            }

            own : (x : Name) → may_settle p F p x ≡ true → declares_variable x l ≡ true → (S x ≡ or_put (settled_in_all (enter p F l ss cs s) cs x) (settled_own r l ss cs x)) × (settled_in_all (enter p F l ss cs s) cs x ≡ nothing)
            own x e d = (h.is x e (omega (arith, one_of (declares_variable x l) d)), settled_all_none (enter p F l ss cs s) cs x (omega (arith, h.once x e, one_of (declares_variable x l) d)))

        settles_all_of : (s : Carried) (ts : Forest) → Gathers (λ x. how_many_in (variable_at x) ts) (settled_in_all s ts) → settles_all s ts
        settles_all_of s ε h = tt
        settles_all_of s (t ⊳ ts) h = (settles_of s t first, settles_all_of (after p F s t) ts second)
          where
            first : Gathers (λ x. how_many (variable_at x) t) (settled_in s t)
            first = record {
              once = λ x e. omega (arith, h.once x e);
              is = λ x e i. h.is x e (omega (arith, i)) ∙ ap (or_put (settled_in s t x)) (settled_all_none (after p F s t) ts x (omega (arith, h.once x e, i))) ∙ or_nothing (settled_in s t x);
            }

            second : Gathers (λ x. how_many_in (variable_at x) ts) (settled_in_all (after p F s t) ts)
            second = record {
              once = λ x e. omega (arith, h.once x e);
              is = λ x e i. h.is x e (omega (arith, i)) ∙ ap (λ q. or_put q (settled_in_all (after p F s t) ts x)) (settled_none s t x (omega (arith, h.once x e, i)));
            }
