-- Items and properties one behind another.
use Rattle.std.specs.Prelude.{ℕ, Bool, true, false, List, [], ◌∷◌}
use Rattle.swc_ast.specs.Tree.{ItemKind, Tree, Forest, ε, ◌⊳◌}
use Rattle.swc_ast.specs.Parts.{then_all}
use Rattle.text_match.specs.Grammar.{Items, Properties}

-- an item, or a hole, with a comma behind it, in front of others; or the last one with the closing bracket
abbrev pub Listed : Bool → ItemKind → Forest → List ℕ → List ℕ → Type 0
Listed false k us b c = (ks : List ItemKind) (ts : Forest) (e : List ℕ) → Items ks ts c e → Items (k ∷ ks) (then_all us ts) b e
Listed true k us b c = Items (k ∷ []) us b c

-- the same of a property
abbrev pub ListedProperty : Bool → Tree → List ℕ → List ℕ → Type 0
ListedProperty false t b c = (ts : Forest) (e : List ℕ) → Properties ts c e → Properties (t ⊳ ts) b e
ListedProperty true t b c = Properties (t ⊳ ε) b c
