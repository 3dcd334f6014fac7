-- Objects of names, and calls that give them.
use Rattle.std.specs.Prelude.{List, None}
use Rattle.swc_ast.specs.declared.Span.{Span}
use Rattle.swc_ast.specs.Tree.{Fn, Params, Body, Return, Object, Tree, node, Forest, ε, ◌⊳◌}
use Rattle.dce_rules.specs.Shakes.{NamesOnly}

-- a property that only names names, whatever follows it
abbrev pub AddsNames : Tree → Type 0
AddsNames t = (ts : Forest) → NamesOnly ts → NamesOnly (t ⊳ ts)

-- `return {..};` of properties that only name names, and the object
pub data Returns : Tree → Tree → Type 0 where
  returned : {rs os : List Span} {props : Forest} → NamesOnly props → Returns (node Return rs (node Object os props ⊳ ε)) (node Object os props)

-- statements that are such a statement alone
abbrev pub ReturnsAlone : Forest → Tree → Type 0
ReturnsAlone (s ⊳ ε) o = Returns s o
ReturnsAlone ss o = ⊥

-- a nameless function without parameters that does nothing else, and the object
pub data Gives : Tree → Tree → Type 0 where
  gives : {fs ps bs : List Span} {ss : Forest} {o : Tree} → ReturnsAlone ss o → Gives (node (Fn None) fs (node Params ps ε ⊳ node Body bs ss ⊳ ε)) o
