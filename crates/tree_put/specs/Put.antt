-- What the walk makes of a tree: it goes through it in the order of the text.
use Rattle.std.specs.Prelude.{if◌then◌else◌, List, [], ◌∷◌, Some}
use Rattle.swc_ast.specs.Labels.{is_expression}
use Rattle.swc_ast.specs.Tree.{Name, Label, Read, KeyValue, Shorthand, Method, Fn, Arrow, FnDecl, TypeOfName, Unary, Dot, Index, Call, CallEval, CallDot, CallIndex, Block, Body, CaseBody, For, Switch, Try, Declarator, Module, Script, Import, ExportSpecifier, ExportDefaultFn, Tree, node, Forest, ε, ◌⊳◌}
use Rattle.swc_ast.specs.declared.Span.{Span}
use Rattle.swc_ast.specs.declared.UnaryOp.TheVariants as op
use Rattle.swc_ast.specs.Expressions.{call_node, unary_node}
use Rattle.tree_put.specs.Keys.{property_key}
use Rattle.tree_put.specs.declared.rules.Spot.{Spot}
use Rattle.tree_put.specs.declared.rules.Spot.TheVariants as spot
use Rattle.tree_put.specs.Puts.{Answer, enter, stay, become, Puts}

-- the spans behind the node's own: those of the part that is part of its label
abbrev pub behind : List Span → List Span
behind [] = []
behind (s ∷ ss) = ss

-- a call of what is called
abbrev pub called : List Span → Tree → Forest → Tree
called [] t args = node Call [] (t ⊳ args)
called (s ∷ ss) t args = call_node s t args

-- `typeof` in front of an operand
abbrev pub of_type : List Span → Tree → Tree
of_type [] t = node (Unary op.TypeOf) [] (t ⊳ ε)
of_type (s ∷ ss) t = unary_node op.TypeOf s t

-- a property that was only a name
abbrev pub as_property : Name → List Span → Tree → Tree
as_property x ss v = node KeyValue [] (property_key x.text ss ⊳ v ⊳ ε)

-- what an answer makes of a tree, whose parts were walked too, and what is carried behind it
abbrev pub chosen : {S : Type 0} → Answer × S → Tree → Tree × S → Tree × S
chosen (enter, s) t a = a
chosen (stay, s) t a = (t, s)
chosen (become v, s) t a = (v, s)

-- the same of a name that is a property
abbrev pub expanded : {S : Type 0} → Answer × S → Name → List Span → Tree → Tree × S
expanded (become v, s) x ss t = (as_property x ss v, s)
expanded (enter, s) x ss t = (t, s)
expanded (stay, s) x ss t = (t, s)

-- a tree that is walked where it stands
abbrev pub Step : Type 0 → Type 0
Step S = S → Spot → Tree × S

abbrev pub in_turn : {S : Type 0} → List (Step S) → S → Forest × S
in_turn [] s = (ε, s)
in_turn (f ∷ fs) s =
    let a = f s spot.Here in
    let b = in_turn fs a.1 in
    (a.0 ⊳ b.0, b.1)

-- a node of trees that were walked
abbrev pub under : {S : Type 0} → Label → List Span → Forest × S → Tree × S
under l ss a = (node l ss a.0, a.1)

abbrev pub in_front : {S : Type 0} → Tree → Forest × S → Forest × S
in_front t a = (t ⊳ a.0, a.1)

module _ {S : Type 0} (X : Puts S) where
  -- trees in a scope
  abbrev pub scoped : S → Label → Forest → List (Step S) → Forest × S
  scoped s l cs fs =
      let a = in_turn fs (X.opens s l cs) in
      (a.0, X.closes a.1)

  -- the handler of a `try` is a scope
  abbrev pub handled : S → Label → Tree → Step S → Tree × S
  handled s l h g =
      let a = g (X.opens s l (h ⊳ ε)) spot.Here in
      (a.0, X.closes a.1)

  -- a node by its parts, and how each is walked
  unfoldable pub around : S → Label → List Span → Forest → List (Step S) → Tree × S
  around s (CallDot k) ss (o ⊳ ts) (f ∷ fs) =
      let t : Tree = node (Dot k) (behind ss) (o ⊳ ε) in
      let a = X.expression s spot.Callee t in
      let b = f a.1 spot.Here in
      let c = chosen a t (node (Dot k) (behind ss) (b.0 ⊳ ε), b.1) in
      let d = in_turn fs c.1 in
      (called ss c.0 d.0, d.1)
  around s CallIndex ss (o ⊳ k ⊳ ts) (f ∷ g ∷ fs) =
      let t : Tree = node Index (behind ss) (o ⊳ k ⊳ ε) in
      let a = X.expression s spot.Callee t in
      let b = f a.1 spot.Here in
      let e = g b.1 spot.Here in
      let c = chosen a t (node Index (behind ss) (b.0 ⊳ e.0 ⊳ ε), e.1) in
      let d = in_turn fs c.1 in
      (called ss c.0 d.0, d.1)
  around s (CallEval x) ss ts fs =
      let t : Tree = node (Read x) (behind ss) ε in
      let a = X.expression s spot.Callee t in
      let c = chosen a t (t, a.1) in
      let d = in_turn fs c.1 in
      (called ss c.0 d.0, d.1)
  around s Call ss (t ⊳ ts) (f ∷ fs) =
      let c = f s spot.Callee in
      let d = in_turn fs c.1 in
      (called ss c.0 d.0, d.1)
  around s (TypeOfName x) ss ts fs =
      let t : Tree = node (Read x) (behind ss) ts in
      let a = X.expression s spot.Operand t in
      let c = chosen a t (under (Read x) (behind ss) (in_turn fs a.1)) in
      (of_type ss c.0, c.1)
  around s (Unary op.TypeOf) ss (t ⊳ ε) (f ∷ []) =
      let c = f s spot.Operand in
      (of_type ss c.0, c.1)
  around s (Unary op.Delete) ss ts fs = (node (Unary op.Delete) ss ts, s)
  around s (Import src) ss ts fs = (node (Import src) ss ts, s)
  around s (Shorthand x) ss ts fs = expanded (X.expression s spot.Property (node (Read x) ss ε)) x ss (node (Shorthand x) ss ts)
  around s Method ss (k ⊳ ts) (f ∷ fs) =
      let a = f s spot.Here in
      under Method ss (in_front a.0 (scoped a.1 Method ts fs))
  around s (Switch ds) ss (k ⊳ ts) (f ∷ fs) =
      let a = f s spot.Here in
      under (Switch ds) ss (in_front a.0 (scoped a.1 (Switch ds) ts fs))
  around s (Try (Some o)) ss (b ⊳ h ⊳ k ⊳ ε) (f ∷ g ∷ e ∷ []) =
      let a = f s spot.Here in
      let c = handled a.1 (Try (Some o)) h g in
      let d = e c.1 spot.Here in
      (node (Try (Some o)) ss (a.0 ⊳ c.0 ⊳ d.0 ⊳ ε), d.1)
  around s (Declarator k x) ss ts fs =
      let a = in_turn fs s in
      (node (Declarator k x) ss a.0, X.declares a.1 (node (Declarator k x) ss a.0))
  around s (ExportSpecifier x i) ss ts fs = X.exports s (node (ExportSpecifier x i) ss ts)
  around s (Fn o) ss ts fs = under (Fn o) ss (scoped s (Fn o) ts fs)
  around s (FnDecl x) ss ts fs = under (FnDecl x) ss (scoped s (FnDecl x) ts fs)
  around s (ExportDefaultFn o) ss ts fs = under (ExportDefaultFn o) ss (scoped s (Fn o) ts fs)
  around s Arrow ss ts fs = under Arrow ss (scoped s Arrow ts fs)
  around s Block ss ts fs = under Block ss (scoped s Block ts fs)
  around s Body ss ts fs = under Body ss (scoped s Body ts fs)
  around s CaseBody ss ts fs = under CaseBody ss (scoped s CaseBody ts fs)
  around s For ss ts fs = under For ss (scoped s For ts fs)
  around s Module ss ts fs = under Module ss (scoped s Module ts fs)
  around s Script ss ts fs = under Script ss (scoped s Script ts fs)
  around s l ss ts fs = under l ss (in_turn fs s)

  unfoldable mutual
    -- a tree at a spot
    pub put : Tree → S → Spot → Tree × S
    put (node l ss cs) s p =
        if is_expression l
        then (let a = X.expression s p (node l ss cs) in chosen a (node l ss cs) (around a.1 l ss cs (steps cs)))
        else around s l ss cs (steps cs)

    -- how the trees in a row are walked
    pub steps : Forest → List (Step S)
    steps ε = []
    steps (t ⊳ ts) = put t ∷ steps ts

  -- trees in a row
  abbrev pub put_all : Forest → S → Forest × S
  put_all ts s = in_turn (steps ts) s

  -- a tree that no answer takes: its parts are walked
  abbrev pub put_parts : Tree → S → Tree × S
  put_parts (node l ss cs) s = around s l ss cs (steps cs)
