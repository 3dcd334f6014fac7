-- A pass that turns one module into another and leaves all others.
use Rattle.std.specs.Prelude.{Bool, true, ◌≡◌, ◌⊎◌, [], ◌∷◌, None, if◌then◌else◌}
use Rattle.swc_ast.specs.declared.Span.{Span}
use Rattle.swc_ast.specs.Tree.{Tree, node, ε, ◌⊳◌, Module, Break, Empty}
use Rattle.swc_pass.specs.Pass.{PassSpec, SameBare}

abbrev pub no_span : Span
no_span = record { lo = 0; hi = 0 }

-- `break;`, as a statement: a jump without a target
abbrev pub break_tree : Tree
break_tree = node (Break None) (no_span ∷ []) ε

abbrev pub empty_tree : Tree
empty_tree = node Empty (no_span ∷ []) ε

-- `break; ;`
abbrev pub long_tree : Tree
long_tree = node Module (no_span ∷ []) (break_tree ⊳ empty_tree ⊳ ε)

-- `break;`
abbrev pub short_tree : Tree
short_tree = node Module (no_span ∷ []) (break_tree ⊳ ε)

abbrev pub turned_from : Bool → Tree
turned_from folds = if folds then long_tree else short_tree

abbrev pub turned_to : Bool → Tree
turned_to folds = if folds then short_tree else long_tree

abbrev pub Turned : Bool → Tree → Tree → Type 0
Turned folds t u = (u ≡ t) ⊎ ((SameBare (turned_from folds) t) × (u ≡ turned_to folds))

abbrev pub turns : Bool → PassSpec
turns folds = record { mark = None; loads = true; lowers = folds; answers = Turned folds }

-- a pass that answers nothing but what it is given
abbrev pub leaves : PassSpec
leaves = record { mark = None; loads = true; lowers = true; answers = λ t u. u ≡ t }
