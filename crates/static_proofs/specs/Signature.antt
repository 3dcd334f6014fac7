-- What each node of a view is, by its label: which labels stand below it, which spans it has, and what its label takes up.
use Rattle.std.specs.Prelude.{◌≡◌, Bool, true, false, not, ◌&&◌, List, [], ◌∷◌}
use Rattle.swc_ast.specs.declared.Span.{Span}
use Rattle.swc_ast.specs.declared.UnaryOp.TheVariants.{TypeOf}
use Rattle.swc_ast.specs.Expressions.{is_eval}
use Rattle.swc_ast.specs.Tree.{Label, Read, Shorthand, TypeOfName, Unary, Call, CallEval, CallDot, CallIndex, Dot, Index, ExportSpecifier, Switch, CaseBody, Tree, node, Forest, ε, ◌⊳◌}
use Rattle.static_proofs.specs.Shaped.{is_inner, labels_of, holds}

-- tests and bodies by turns
abbrev pub is_case : Label → Bool
is_case CaseBody = true
is_case _ = false

abbrev pub are_cases : List Label → Bool
are_cases [] = true
are_cases (t ∷ []) = false
are_cases (t ∷ b ∷ ls) = is_inner t && (is_case b && are_cases ls)

-- what is switched on, and cases
abbrev pub is_switched : List Label → Bool
is_switched [] = false
is_switched (d ∷ ls) = is_inner d && are_cases ls

-- no trees
abbrev pub is_none : Forest → Bool
is_none ε = true
is_none (t ⊳ ts) = false

-- parts by turns, or none
abbrev pub has_parts : Label → Forest → Bool
has_parts (Switch ds) cs = is_switched (labels_of cs)
has_parts (Read x) cs = is_none cs
has_parts (TypeOfName x) cs = is_none cs
has_parts (Shorthand x) cs = is_none cs
has_parts _ cs = true

abbrev pub is_name : Tree → Bool
is_name (node (Read x) ss cs) = true
is_name t = false

-- what a call takes up
abbrev pub is_bare_callee : Tree → Bool
is_bare_callee (node (Dot k) ss cs) = true
is_bare_callee (node Index ss cs) = true
is_bare_callee (node (Read x) ss cs) = is_eval x
is_bare_callee t = false

-- spans in front of those that a label takes up, and what it leaves
abbrev pub fine : Label → List Span → Forest → Bool
fine (Read x) ss ε = true
fine (Read x) ss cs = false
fine (Shorthand x) ss ε = true
fine (Shorthand x) ss cs = false
fine (ExportSpecifier x i) ss ε = true
fine (ExportSpecifier x i) ss cs = false
fine (TypeOfName x) (s ∷ ss) ε = true
fine (TypeOfName x) ss cs = false
fine (CallDot k) (s ∷ ss) cs = true
fine (CallDot k) [] cs = false
fine CallIndex (s ∷ ss) cs = true
fine CallIndex [] cs = false
fine (CallEval x) (s ∷ ss) cs = is_eval x
fine (CallEval x) [] cs = false
fine Call (s ∷ []) (t ⊳ ts) = not (is_bare_callee t)
fine Call ss cs = false
fine (Unary TypeOf) (s ∷ []) (t ⊳ ε) = not (is_name t)
fine (Unary TypeOf) ss cs = false
fine l ss cs = true

-- the signature of a node
abbrev pub signed : Label → List Span → Forest → Bool
signed l ss cs = holds l (labels_of cs) && (fine l ss cs && has_parts l cs)

abbrev mutual
  pub is_signed : Tree → Bool
  is_signed (node l ss cs) = signed l ss cs && are_signed cs

  pub are_signed : Forest → Bool
  are_signed ε = true
  are_signed (t ⊳ ts) = is_signed t && are_signed ts
