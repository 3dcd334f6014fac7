-- The numbers that are met are those of values.
use Rattle.std.proofs.Common.{◌≡◌, ℕ, Bool, true, [], length, nat_lt, lt-ltb}
use Rattle.swc_ast.specs.Tree.{Label, Read, Shorthand, TypeOfName, Dot, Index, CallEval, CallDot, CallIndex, Tree, node, Forest, ε, ◌⊳◌}
use Rattle.swc_pass.specs.Given.{a_value, Answers}
use Rattle.given_rules.specs.Met.{own_found, met}
use Rattle.given_rules.proofs.Uncounted.{all_covered}
use Rattle.given_globals.specs.Globals.{answers_of}
use Rattle.given_globals.specs.declared.settings.Settings.{Settings}
use Rattle.given_globals.proofs.Ranges.{found_within}
use Rattle.swc_inline_globals.specs.Walking.{AllInRange}

module _ (a : Answers) (has : ℕ → Bool) (known : (t : Tree) (i : ℕ) → a.found t ≡ a_value i → has i ≡ true) where
  own_known : (l : Label) (cs : Forest) (i : ℕ) → own_found a l cs ≡ a_value i → has i ≡ true
  own_known (Read x) cs i e = known (node (Read x) [] cs) i e
  own_known (Dot k) cs i e = known (node (Dot k) [] cs) i e
  own_known Index cs i e = known (node Index [] cs) i e
  own_known (CallDot k) ε i e = cc
  own_known (CallDot k) (o ⊳ ts) i e = known (node (Dot k) [] (o ⊳ ε)) i e
  own_known CallIndex ε i e = cc
  own_known CallIndex (o ⊳ ε) i e = cc
  own_known CallIndex (o ⊳ k ⊳ ts) i e = known (node Index [] (o ⊳ k ⊳ ε)) i e
  own_known (CallEval x) ts i e = known (node (Read x) [] ε) i e
  own_known (Shorthand x) ts i e = known (node (Read x) [] ε) i e
  own_known (TypeOfName x) ts i e = known (node (Read x) [] ε) i e
  own_known l cs i e = cc

pub met_in_range : (s : Settings) (t : Tree) → AllInRange (length (answers_of s).values) (met (answers_of s) t)
met_in_range s t = all_covered (λ i. nat_lt i (length (answers_of s).values)) (answers_of s) (own_known (answers_of s) (λ i. nat_lt i (length (answers_of s).values)) (λ u i e. lt-ltb i (length (answers_of s).values) (found_within s u i e))) t
