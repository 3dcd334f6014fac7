-- What is put in the places of a tree: at each expression, in front of its parts, something may take its place and is not
-- looked into. A name or a member that is part of a label is looked at as an expression.
use Rattle.std.specs.Prelude.{List, [], ◌∷◌, Option, Some, None}
use Rattle.swc_ast.specs.declared.Span.{Span}
use Rattle.swc_ast.specs.declared.UnaryOp.TheVariants.{TypeOf, Delete}
use Rattle.swc_ast.specs.Tree.{Name, Label, Read, Shorthand, TypeOfName, Unary, Dot, Index, Call, CallEval, CallDot, CallIndex, Import, Tree, node, Forest, ε, ◌⊳◌}
use Rattle.tree_put.specs.Put as walk
use Rattle.tree_put.specs.declared.rules.Spot.{Spot}
use Rattle.tree_put.specs.declared.rules.Spot.TheVariants as spot

abbrev pub here : Spot
here = spot.Here

abbrev pub callee : Spot
callee = spot.Callee

abbrev pub operand : Spot
operand = spot.Operand

pub record Puts : Type 0 where
  -- what takes the place of an expression
  pub expression : Spot → Tree → Option Tree
  -- the value of a property that was only a name
  pub property : Name → Option Tree

-- the span of a node, and those of the part that is part of its label
abbrev pub front : List Span → List Span
front [] = []
front (s ∷ ss) = s ∷ []

abbrev pub behind : List Span → List Span
behind [] = []
behind (s ∷ ss) = ss

abbrev pub or_parts : Option Tree → Tree → Tree
or_parts None t = t
or_parts (Some v) t = v

abbrev pub called : Option Tree → List Span → Forest → Tree → Tree
called None ss args t = t
called (Some v) ss args t = node Call (front ss) (v ⊳ args)

abbrev pub of_type : Option Tree → List Span → Tree → Tree
of_type None ss t = t
of_type (Some v) ss t = walk.of_type ss v

abbrev pub as_property : Option Tree → Name → List Span → Tree → Tree
as_property None x ss t = t
as_property (Some v) x ss t = walk.as_property x ss v

-- where the first child of a node stands; all others stand elsewhere
abbrev pub first_spot : Label → Spot
first_spot Call = callee
first_spot (Unary TypeOf) = operand
first_spot l = here

module _ (X : Puts) where
  -- a node by its children and what they became
  abbrev pub around : Label → List Span → Forest → Forest → Tree
  around (CallDot k) ss (o ⊳ ts) (u ⊳ us) = called (X.expression callee (node (Dot k) (behind ss) (o ⊳ ε))) ss us (node (CallDot k) ss (u ⊳ us))
  around CallIndex ss (o ⊳ k ⊳ ts) (u ⊳ v ⊳ us) = called (X.expression callee (node Index (behind ss) (o ⊳ k ⊳ ε))) ss us (node CallIndex ss (u ⊳ v ⊳ us))
  around (CallEval x) ss ts us = called (X.expression callee (node (Read x) (behind ss) ε)) ss us (node (CallEval x) ss us)
  around (TypeOfName x) ss ts us = of_type (X.expression operand (node (Read x) (behind ss) ε)) ss (node (TypeOfName x) ss us)
  around (Unary TypeOf) ss (t ⊳ ε) us = of_type (X.expression operand t) ss (node (Unary TypeOf) ss us)
  around (Shorthand x) ss ts us = as_property (X.property x) x ss (node (Shorthand x) ss us)
  around (Unary Delete) ss ts us = node (Unary Delete) ss ts
  around (Import src) ss ts us = node (Import src) ss ts
  around l ss ts us = node l ss us

  unfoldable mutual
    pub put : Spot → Tree → Tree
    put p (node l ss cs) = or_parts (X.expression p (node l ss cs)) (around l ss cs (put_all (first_spot l) cs))

    -- the first stands at a spot of its own
    pub put_all : Spot → Forest → Forest
    put_all p ε = ε
    put_all p (t ⊳ ts) = put p t ⊳ put_all here ts
