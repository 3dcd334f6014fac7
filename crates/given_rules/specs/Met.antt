-- Which values are met where what is given is put in the places of a tree: by number, in the order of the text, as often as they
-- are met. What takes a place is not looked into, and neither is the operand of `delete`.
use Rattle.std.specs.Prelude.{ℕ, Bool, true, false, ◌&&◌, if◌then◌else◌, List, [], ◌∷◌, ◌++◌}
use Rattle.swc_ast.specs.declared.UnaryOp.TheVariants.{Delete}
use Rattle.swc_ast.specs.Tree.{Label, Read, Shorthand, TypeOfName, Unary, Dot, Index, CallEval, CallDot, CallIndex, Import, Tree, node, Forest, ε, ◌⊳◌}
use Rattle.swc_pass.specs.Given.{Found, nothing, a_value, a_plain, Answers}

abbrev pub joined : List (List ℕ) → List ℕ
joined [] = []
joined (m ∷ ms) = m ++ joined ms

-- a node that is not looked into
abbrev pub is_closed : Label → Bool
is_closed (Unary Delete) = true
is_closed (Import src) = true
is_closed l = false

-- what is met in the children of a node whose own read, or the part of whose label, is given
abbrev pub met_behind : Label → List (List ℕ) → List ℕ
met_behind (CallDot k) (m ∷ ms) = joined ms
met_behind CallIndex (m ∷ j ∷ ms) = joined ms
met_behind (CallEval x) ms = joined ms
met_behind l ms = []

abbrev pub met_open : Label → Found → List (List ℕ) → List ℕ
met_open l nothing ms = joined ms
met_open l (a_value i) ms = i ∷ met_behind l ms
met_open l (a_plain t) ms = met_behind l ms

abbrev pub met_at : Label → Found → List (List ℕ) → List ℕ
met_at l f ms = if is_closed l then [] else met_open l f ms

module _ (a : Answers) where
  -- what is given for a node, or for the part of its label
  abbrev pub own_found : Label → Forest → Found
  own_found (Read x) cs = a.found (node (Read x) [] cs)
  own_found (Dot k) cs = a.found (node (Dot k) [] cs)
  own_found Index cs = a.found (node Index [] cs)
  own_found (CallDot k) (o ⊳ ts) = a.found (node (Dot k) [] (o ⊳ ε))
  own_found CallIndex (o ⊳ k ⊳ ts) = a.found (node Index [] (o ⊳ k ⊳ ε))
  own_found (CallEval x) ts = a.found (node (Read x) [] ε)
  own_found (Shorthand x) ts = a.found (node (Read x) [] ε)
  own_found (TypeOfName x) ts = a.found (node (Read x) [] ε)
  own_found l cs = nothing

  abbrev mutual
    pub met : Tree → List ℕ
    met (node l ss cs) = met_at l (own_found l cs) (met_each cs)

    pub met_each : Forest → List (List ℕ)
    met_each ε = []
    met_each (t ⊳ ts) = met t ∷ met_each ts

-- whether all of some numbers are such
abbrev pub covers : (ℕ → Bool) → List ℕ → Bool
covers has [] = true
covers has (i ∷ is) = has i && covers has is

abbrev pub is_known : (ℕ → Bool) → Found → Bool
is_known has (a_value i) = has i
is_known has f = true
