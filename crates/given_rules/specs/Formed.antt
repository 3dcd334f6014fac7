-- How the trees of the syntax tree are formed: a call of a member or of `eval`, and `typeof` of a name, have the part in their label,
-- and the span of the whole in front of the part's.
use Rattle.std.specs.Prelude.{Bool, true, false, not, ◌&&◌, List, [], ◌∷◌}
use Rattle.swc_ast.specs.declared.Span.{Span}
use Rattle.swc_ast.specs.declared.UnaryOp.TheVariants.{TypeOf}
use Rattle.swc_ast.specs.Expressions.{is_eval}
use Rattle.swc_ast.specs.Tree.{Label, Read, Shorthand, TypeOfName, Unary, Call, CallEval, CallDot, CallIndex, ExportSpecifier, Tree, node, Forest, ε, ◌⊳◌}
use Rattle.given_shield.specs.Shield.{is_bare_callee}

abbrev pub is_name : Tree → Bool
is_name (node (Read x) ss cs) = true
is_name t = false

abbrev pub fine : Label → List Span → Forest → Bool
fine (Read x) ss ε = true
fine (Read x) ss cs = false
fine (Shorthand x) ss ε = true
fine (Shorthand x) ss cs = false
fine (ExportSpecifier x i) ss ε = true
fine (ExportSpecifier x i) ss cs = false
fine (TypeOfName x) (s ∷ ss) ε = true
fine (TypeOfName x) ss cs = false
fine (CallDot k) (s ∷ ss) cs = true
fine (CallDot k) [] cs = false
fine CallIndex (s ∷ ss) cs = true
fine CallIndex [] cs = false
fine (CallEval x) (s ∷ ss) cs = is_eval x
fine (CallEval x) [] cs = false
fine Call (s ∷ []) (t ⊳ ts) = not (is_bare_callee t)
fine Call ss cs = false
fine (Unary TypeOf) (s ∷ []) (t ⊳ ε) = not (is_name t)
fine (Unary TypeOf) ss cs = false
fine l ss cs = true

abbrev mutual
  pub formed : Tree → Bool
  formed (node l ss cs) = fine l ss cs && all_formed cs

  pub all_formed : Forest → Bool
  all_formed ε = true
  all_formed (t ⊳ ts) = formed t && all_formed ts
