-- What is known where all values that are met are.
use Rattle.std.proofs.Common.{◌≡◌, ℕ, Bool, true, false, ◌&&◌, List, [], ◌∷◌, ◌++◌, if◌then◌else◌, refl, sym, ap, ◌∙◌}
use Rattle.std.proofs.lemmas.Bool.{and_parts, false≢true}
use Rattle.swc_ast.specs.declared.Span.{Span}
use Rattle.swc_ast.specs.Tree.{Name, Label, Read, Dot, Index, CallEval, CallDot, CallIndex, Shorthand, TypeOfName, Tree, node, Forest}
use Rattle.swc_pass.specs.Given.{Owners, value, all_owned, is_within, is_as_written, Found, nothing, a_value, a_plain, as_written, in_itself, stands, stand, value_at, Answers, for_read}
use Rattle.given_rules.specs.Met.{joined, met_behind, met_open, met_at, own_found, covers, is_known}

-- the spans of a read don't matter
pub record Spanless (a : Answers) : Type 0 where
  pub root : (l : Label) (ss : List Span) (cs : Forest) → a.found (node l ss cs) ≡ a.found (node l [] cs)
  pub by : (l : Label) (ss : List Span) (os : Owners) (cs : Forest) → a.found (node l ss (all_owned os cs)) ≡ a.found (node l [] cs)

module _ (has : ℕ → Bool) where
  pub covers_both : (is js : List ℕ) → covers has (is ++ js) ≡ true → (covers has is ≡ true) × (covers has js ≡ true)
  covers_both [] js c = (refl, c)
  covers_both (i ∷ is) js c =
      let p = and_parts (has i) (covers has (is ++ js)) c in
      let q = covers_both is js p.1 in
      (ap (λ b. b && covers has is) p.0 ∙ q.0, q.1)

  -- what is given is known
  pub known_open : (l : Label) (f : Found) (ms : List (List ℕ)) → covers has (met_open l f ms) ≡ true → is_known has f ≡ true
  known_open l nothing ms c = refl
  known_open l (a_value i) ms c = (and_parts (has i) (covers has (met_behind l ms)) c).0
  known_open l (a_plain t) ms c = refl

  behind_open : (l : Label) (f : Found) (ms : List (List ℕ)) → (covers has (joined ms) ≡ true → covers has (met_behind l ms) ≡ true) → covers has (met_open l f ms) ≡ true → covers has (met_behind l ms) ≡ true
  behind_open l nothing ms h c = h c
  behind_open l (a_value i) ms h c = (and_parts (has i) (covers has (met_behind l ms)) c).1
  behind_open l (a_plain t) ms h c = c

  -- the arguments of a call
  pub dot_behind : (k : List ℕ) (f : Found) (m : List ℕ) (ms : List (List ℕ)) → covers has (met_open (CallDot k) f (m ∷ ms)) ≡ true → covers has (joined ms) ≡ true
  dot_behind k f m ms c = behind_open (CallDot k) f (m ∷ ms) (λ d. (covers_both m (joined ms) d).1) c

  pub index_behind : (f : Found) (m j : List ℕ) (ms : List (List ℕ)) → covers has (met_open CallIndex f (m ∷ j ∷ ms)) ≡ true → covers has (joined ms) ≡ true
  index_behind f m j ms c = behind_open CallIndex f (m ∷ j ∷ ms) (λ d. (covers_both j (joined ms) (covers_both m (j ++ joined ms) d).1).1) c

  pub eval_behind : (x : Name) (f : Found) (ms : List (List ℕ)) → covers has (met_open (CallEval x) f ms) ≡ true → covers has (joined ms) ≡ true
  eval_behind x f ms c = behind_open (CallEval x) f ms (λ d. d) c

by_within : (b : Bool) (os : Owners) (i : ℕ) (t : Tree) → (if b then in_itself else stands os t) ≡ as_written → a_value i ≡ nothing
by_within true os i t e = cc
by_within false os i t e = cc

-- where nothing stands for a read, nothing is given
nothing_stands : (vs : List Tree) (os : Owners) (f : Found) (b : Bool) → is_as_written os ≡ b → b ≡ false → (if b then as_written else stand vs os f) ≡ as_written → f ≡ nothing
nothing_stands vs os f true p q e = absurd (false≢true (sym q))
nothing_stands vs os nothing false p q e = refl
nothing_stands vs os (a_value i) false p q e = by_within (is_within i os) (value i ∷ os) i (value_at vs i) e
nothing_stands vs os (a_plain t) false p q e = cc

pub nothing_found : (a : Answers) → Spanless a → (os : Owners) → is_as_written os ≡ false → (l : Label) (cs : Forest) → for_read a os (node l os (all_owned os cs)) ≡ as_written → a.found (node l [] cs) ≡ nothing
nothing_found a sp os p l cs e = sym (sp.by l os os cs) ∙ nothing_stands a.values os (a.found (node l os (all_owned os cs))) (is_as_written os) refl p e

module _ (has : ℕ → Bool) (a : Answers) where
  -- what is given for a node that is looked at is known
  pub known_at : (l : Label) (cs : Forest) (ms : List (List ℕ)) → covers has (met_at l (own_found a l cs) ms) ≡ true → is_known has (own_found a l cs) ≡ true
  known_at (Read x) cs ms c = known_open has (Read x) (own_found a (Read x) cs) ms c
  known_at (Dot k) cs ms c = known_open has (Dot k) (own_found a (Dot k) cs) ms c
  known_at Index cs ms c = known_open has Index (own_found a Index cs) ms c
  known_at (CallDot k) cs ms c = known_open has (CallDot k) (own_found a (CallDot k) cs) ms c
  known_at CallIndex cs ms c = known_open has CallIndex (own_found a CallIndex cs) ms c
  known_at (CallEval x) cs ms c = known_open has (CallEval x) (own_found a (CallEval x) cs) ms c
  known_at (Shorthand x) cs ms c = known_open has (Shorthand x) (own_found a (Shorthand x) cs) ms c
  known_at (TypeOfName x) cs ms c = known_open has (TypeOfName x) (own_found a (TypeOfName x) cs) ms c
  known_at l cs ms c = refl
