-- A number that is met in the value that was begun last, and whose value is walked, is met in its own value.
use Rattle.std.proofs.Common.{◌≡◌, ℕ, Bool, true, false, ◌==◌, ◌||◌, List, [], ◌∷◌, ◌++◌, map, reverse, refl, sym, ap, subst, ◌∙◌, eqb-true}
use Rattle.std.proofs.lemmas.Bool.{false≢true}
use Rattle.std.proofs.lemmas.List.{reverse-append}
use Rattle.swc_ast.specs.Tree.{Tree}
use Rattle.swc_pass.specs.Given.{Answers, value_at}
use Rattle.given_rules.specs.Cycles.{is_among, Leads, meets, through, Cycle}
use Rattle.given_rules.specs.Met.{met}
use Rattle.swc_inline_globals.specs.Walking.{walked, Path, nowhere, begins, goes}
use Rattle.swc_inline_globals.specs.declared.finals.Frame.{Frame}

numbers_push : (fs : List Frame) (f : Frame) → map (λ g. g.number) (fs ++ f ∷ []) ≡ map (λ g. g.number) fs ++ f.number ∷ []
numbers_push [] f = refl
numbers_push (g ∷ fs) f = ap (λ is. g.number ∷ is) (numbers_push fs f)

-- a frame that is put on the stack comes first
pub walked_push : (fs : List Frame) (f : Frame) → walked (fs ++ f ∷ []) ≡ f.number ∷ walked fs
walked_push fs f = ap reverse (numbers_push fs f) ∙ reverse-append (map (λ g. g.number) fs) (f.number ∷ [])

-- one that is first, or behind it
first_or : (a : Answers) (i j x : ℕ) (is : List ℕ) (b : Bool) → (i == j) ≡ b → (b || is_among j is) ≡ true → Leads a (value_at a.values i) x → (is_among j is ≡ true → Leads a (value_at a.values j) x) → Leads a (value_at a.values j) x
first_or a i j x is true e m l k = subst (λ n. Leads a (value_at a.values n) x) (eqb-true i j e) l
first_or a i j x is false e m l k = k m

module _ {a : Answers} {roots : List ℕ} where
  -- what the last value leads to, the tree leads to
  pub path_reaches : {t : Tree} → met a t ≡ roots → (i : ℕ) (is : List ℕ) → Path a roots (i ∷ is) → (x : ℕ) → Leads a (value_at a.values i) x → Leads a t x
  path_reaches m i [] (begins h) x l = through i (subst (λ js. is_among i js ≡ true) (sym m) h) l
  path_reaches m i (j ∷ js) (goes h p) x l = path_reaches m j js p x (through i h l)

  -- and so does each value that is walked
  pub path_leads : (i : ℕ) (is : List ℕ) → Path a roots (i ∷ is) → (j : ℕ) → is_among j (i ∷ is) ≡ true → (x : ℕ) → Leads a (value_at a.values i) x → Leads a (value_at a.values j) x
  path_leads i [] (begins h) j m x l = first_or a i j x [] (i == j) refl m l (λ w. absurd (false≢true w))
  path_leads i (k ∷ ks) (goes h p) j m x l = first_or a i j x (k ∷ ks) (i == j) refl m l (λ w. path_leads k ks p j w x (through i h l))

  pub path_cycle : {t : Tree} → met a t ≡ roots → (i : ℕ) (is : List ℕ) → Path a roots (i ∷ is) → (j : ℕ) → is_among j (i ∷ is) ≡ true → is_among j (met a (value_at a.values i)) ≡ true → Cycle a t j
  path_cycle m i is p j w h = record { reached = path_reaches m i is p j (meets h); again = path_leads i is p j w j (meets h) }

  pub path_tail : (i : ℕ) (is : List ℕ) → Path a roots (i ∷ is) → Path a roots is
  path_tail i [] (begins h) = nowhere
  path_tail i (j ∷ js) (goes h p) = p
