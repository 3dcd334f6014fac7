-- What of a tree may go where the tree shaker enters it: names that it declares, and items of its lists that go in any case.
use Rattle.std.specs.Prelude.{ℕ, Bool, true, false, not, ◌&&◌, ◌||◌, if◌then◌else◌, List, [], ◌∷◌, ◌++◌, Option, Some, None}
use Rattle.swc_ast.specs.Labels.{is_declaration}
use Rattle.swc_ast.specs.Reach.{named_by, is_for, is_default_function}
use Rattle.swc_ast.specs.Redex.{is_delete}
use Rattle.swc_ast.specs.Tree.{Name, Label, VarDecl, Declarator, FnDecl, Module, Script, Import, ImportNamed, ImportDefault, ImportStar, ExportDecl, Empty, Block, Tree, node, Forest, ε, ◌⊳◌, label_of}
use Rattle.swc_ast.specs.Weight.{is_list}
use Rattle.swc_utils.specs.Pure.{pure}
use Rattle.static_proofs.specs.Names.{is_some_tree}
use Rattle.tree_walk.specs.Pass.{are_unvisited}
use Rattle.dce_rules.specs.Uses.{declared_by_node}

-- the name that a node declares, where the node may go with it
abbrev pub own_goer : Label → List Name
own_goer (Declarator k x) = x ∷ []
own_goer (FnDecl x) = x ∷ []
own_goer (ImportNamed x i) = x ∷ []
own_goer (ImportDefault x) = x ∷ []
own_goer (ImportStar x) = x ∷ []
own_goer _ = []

-- an operand of `delete`, and a function exported as default, which aren't entered
abbrev pub is_closed_label : Label → Bool
is_closed_label l = is_delete l || is_default_function l

-- the declaration of a `for` head, which isn't entered
abbrev pub is_head_label : Bool → Label → Bool
is_head_label true (VarDecl k) = true
is_head_label head l = false

abbrev mutual
  -- the names that nodes below a tree declare, where they are entered
  pub goers : Tree → List Name
  goers (node l ss cs) = if is_closed_label l then [] else goers_among (is_for l) cs

  -- those of children, the first of which may be the declaration of a `for` head
  pub goers_among : Bool → Forest → List Name
  goers_among head ε = []
  goers_among head (t ⊳ ts) = (if is_head_label head (label_of t) then [] else (own_goer (label_of t) ++ goers t)) ++ goers_among false ts

-- whether a first value is left out or pure
abbrev pub is_pure_init : ℕ → Forest → Bool
is_pure_init mark ε = true
is_pure_init mark (r ⊳ ε) = pure mark r
is_pure_init mark ts = false

-- the name with which an item of a list goes: a function's, or that of one variable whose first value is left out or pure
abbrev pub goes_with : ℕ → Label → Forest → Option Name
goes_with mark (FnDecl f) cs = Some f
goes_with mark (VarDecl k) (node (Declarator j x) ss cs ⊳ ε) = if is_pure_init mark cs then Some x else None
goes_with mark l cs = None

-- the other names that nodes of the item declare, where they are entered
abbrev pub inner_goers : ℕ → Label → Forest → List Name
inner_goers mark (VarDecl k) (node (Declarator j x) ss cs ⊳ ε) = if is_pure_init mark cs then goers_among false cs else goers_among false (node (Declarator j x) ss cs ⊳ ε)
inner_goers mark l cs = goers (node l [] cs)

abbrev pub is_void_label : Label → Bool
is_void_label Empty = true
is_void_label Block = true
is_void_label _ = false

-- an empty statement or an empty block: it goes from its list
abbrev pub is_void_item : Tree → Bool
is_void_item (node l ss cs) = is_void_label l && not (is_some_tree cs)

-- one declaration
abbrev pub is_one_declaration : Forest → Bool
is_one_declaration (node l ss cs ⊳ ε) = is_declaration l
is_one_declaration ts = false

-- a node that is entered as the walk does: no module or script, and what stands in an import or behind `export` is what may
abbrev pub is_sound : Label → Forest → Bool
is_sound Module cs = false
is_sound Script cs = false
is_sound (Import src) cs = are_unvisited cs
is_sound ExportDecl cs = is_one_declaration cs
is_sound l cs = true

abbrev mutual
  -- a tree in whose lists, where they are entered, nothing goes in any case
  pub tight : Tree → Bool
  tight (node l ss cs) = if is_closed_label l then true else (is_sound l cs && tight_among (is_for l) (is_list l) cs)

  pub tight_among : Bool → Bool → Forest → Bool
  tight_among head listed ε = true
  tight_among head listed (t ⊳ ts) = (if is_head_label head (label_of t) then true else (not (listed && is_void_item t) && tight t)) && tight_among false listed ts

-- each name that stands in a node
abbrev pub own_mention : Label → List Name
own_mention l = named_by l ++ declared_by_node l

abbrev mutual
  -- each name that stands in a tree
  pub mentions : Tree → List Name
  mentions (node l ss cs) = own_mention l ++ mentions_among cs

  pub mentions_among : Forest → List Name
  mentions_among ε = []
  mentions_among (t ⊳ ts) = mentions t ++ mentions_among ts
