-- Declarations that the tree shaker leaves where it changes nothing: none that is free to go, outside places that aren't
-- entered.
use Rattle.std.specs.Prelude.{◌≡◌, Bool, true, false, ◌||◌, if◌then◌else◌, List, [], ◌∷◌}
use Rattle.swc_ast.specs.declared.Span.{Span}
use Rattle.swc_ast.specs.Tree.{Text, Name, Label, NumLit, StrLit, BoolLit, NullLit, ImportNamed, ImportDefault, ImportStar, VarDecl, Declarator, FnDecl, Tree, node, Forest, ε, ◌⊳◌}
use Rattle.swc_ast.specs.Run.{has_text}
use Rattle.swc_ast.specs.Reach.{named_by, named_outside, is_closed, is_for}
use Rattle.dce_rules.specs.Uses.{is_export_of, is_arguments}

-- a number, a text, a truth value or null, written out
abbrev pub is_plain_value : Tree → Bool
is_plain_value (node (NumLit z) ss ε) = true
is_plain_value (node (StrLit t) ss ε) = true
is_plain_value (node (BoolLit b) ss ε) = true
is_plain_value (node NullLit ss ε) = true
is_plain_value _ = false

-- what a node declares that goes wherever it is free to: a function, a specifier of an import, a declarator without a first
-- value or with a number, a text, a truth value or null
abbrev pub declared_plainly : Label → Forest → List Name
declared_plainly (FnDecl x) cs = x ∷ []
declared_plainly (ImportNamed x i) cs = x ∷ []
declared_plainly (ImportDefault x) cs = x ∷ []
declared_plainly (ImportStar x) cs = x ∷ []
declared_plainly (Declarator kind x) ε = x ∷ []
declared_plainly (Declarator kind x) (r ⊳ ε) = if is_plain_value r then x ∷ [] else []
declared_plainly _ cs = []

-- whether one of some names is such
abbrev pub any_of : (Name → Bool) → List Name → Bool
any_of F [] = false
any_of F (x ∷ xs) = F x || any_of F xs

-- the declaration of a `for` head
abbrev pub is_head : Bool → Tree → Bool
is_head true (node (VarDecl kind) ss ds) = true
is_head _ t = false

abbrev mutual
  -- whether something plain is left that is free to go
  pub left_in : (Name → Bool) → Tree → Bool
  left_in F (node l ss cs) = any_of F (declared_plainly l cs) || (if is_closed l cs then false else left_among F (is_for l) cs)

  pub left_among : (Name → Bool) → Bool → Forest → Bool
  left_among F head ε = false
  left_among F head (t ⊳ ts) = (if is_head head t then false else left_in F t) || left_among F false ts

mutual
  -- a node of a tree that stands in no place that isn't entered
  pub data Entered (s : Tree) : Tree → Type 0 where
    itself : Entered s s
    further : (l : Label) {ss : List Span} (cs : Forest) → is_closed l cs ≡ false → EnteredAmong s (is_for l) cs → Entered s (node l ss cs)

  pub data EnteredAmong (s : Tree) : Bool → Forest → Type 0 where
    in_first : {head : Bool} {t : Tree} {ts : Forest} → is_head head t ≡ false → Entered s t → EnteredAmong s head (t ⊳ ts)
    in_rest : {head : Bool} {t : Tree} {ts : Forest} → EnteredAmong s false ts → EnteredAmong s head (t ⊳ ts)

abbrev mutual
  -- whether `arguments` is named anywhere
  pub speaks_of_arguments : Tree → Bool
  speaks_of_arguments (node l ss cs) = is_arguments (named_by l) || arguments_among cs

  pub arguments_among : Forest → Bool
  arguments_among ε = false
  arguments_among (t ⊳ ts) = speaks_of_arguments t || arguments_among ts

-- exported, retained or named outside functions of that name
abbrev pub is_kept : List Text → Tree → Name → Bool
is_kept retained t x = is_export_of x t || (has_text x.text retained || named_outside x t)
