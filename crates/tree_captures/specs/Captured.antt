-- Captured names: a scope would bind them in the place of the one that does, if texts alone told names apart.
use Rattle.std.specs.Prelude.{Bool, true, false, not, if◌then◌else◌, List, [], ◌∷◌, ◌++◌, Option, Some, None}
use Rattle.swc_ast.specs.Tree as tree
use Rattle.swc_ast.specs.Tree.{Name, Label, Tree, node, Forest, ε, ◌⊳◌}
use Rattle.swc_ast.specs.Scope.{has_name, param_names}
use Rattle.swc_ast.specs.Resolved.{declares_text, declared_names, has_default, params_of, body_of}
use Rattle.swc_resolved.specs.Scopes.{own_names}
use Rattle.tree_captures.specs.declared.reach.Reach.{Reach}
use Rattle.tree_captures.specs.declared.reach.Reach.TheVariants as over

-- the scopes round a place, told by which names they capture: the innermost scope that binds a name of a text doesn't bind
-- the name itself
abbrev pub Scopes : Type 0
Scopes = Name → Bool

-- no scope captures nothing
abbrev pub no_scope : Scopes
no_scope = λ x. false

-- one more scope inside, which binds some names
abbrev pub with_scope : List Name → Scopes → Scopes
with_scope xs e = λ x. if declares_text xs x.text then not (has_name x xs) else e x

-- the name that a node spells; a function expression's own name and the parameter of a `catch` are left out, since
-- they stand in scopes that bind nothing else
abbrev pub spelled : Label → Option Name
spelled (tree.Read x) = Some x
spelled (tree.Shorthand x) = Some x
spelled (tree.Param x) = Some x
spelled (tree.TypeOfName x) = Some x
spelled (tree.CallEval x) = Some x
spelled (tree.Assign op x) = Some x
spelled (tree.Update op prefix x) = Some x
spelled (tree.Declarator kind x) = Some x
spelled (tree.FnDecl x) = Some x
spelled (tree.ImportNamed x o) = Some x
spelled (tree.ImportDefault x) = Some x
spelled (tree.ImportStar x) = Some x
spelled (tree.ExportSpecifier x o) = Some x
spelled (tree.ExportDefaultFn o) = o
spelled _ = None

-- the name, if any, where it is captured
abbrev pub if_captured : Scopes → Option Name → List Name
if_captured e None = []
if_captured e (Some x) = if e x then x ∷ [] else []

-- which of a node's children its own scope is round
abbrev pub reach : Label → Reach
reach tree.Block = over.Each
reach tree.For = over.Each
reach tree.Module = over.Each
reach tree.Script = over.Each
reach (tree.Switch ds) = over.BehindFirst
reach (tree.Try o) = over.Second
reach (tree.Fn o) = over.Function
reach tree.Arrow = over.Function
reach (tree.FnDecl x) = over.Function
reach (tree.ExportDefaultFn o) = over.Function
reach tree.Method = over.Method
reach _ = over.Nothing

-- the scopes round a node's first child, round its second one, and round all others
pub record Inside : Type 0 where
  pub first : Scopes
  pub second : Scopes
  pub others : Scopes

-- the same scopes round each child
abbrev pub each : Scopes → Inside
each e = record { first = e; second = e; others = e }

-- without the first child
abbrev pub behind_first : Inside → Inside
behind_first i = record { first = i.second; second = i.others; others = i.others }

-- with one more scope, which binds a function's parameters, or what its body declares, or both
abbrev pub with_params : Forest → Scopes → Scopes
with_params cs e = with_scope (param_names (params_of cs)) e

abbrev pub with_body : Forest → Scopes → Scopes
with_body cs e = with_scope (declared_names (body_of cs)) e

abbrev pub with_both : Forest → Scopes → Scopes
with_both cs e = with_scope (param_names (params_of cs) ++ declared_names (body_of cs)) e

-- the scopes round a function's parameters, given those round the function
abbrev pub round_params : Forest → Scopes → Scopes
round_params cs e = if has_default (params_of cs) then with_params cs e else with_both cs e

-- the same of its body: beside a default it has a scope of its own (10.2.11)
abbrev pub round_body : Forest → Scopes → Scopes
round_body cs e = if has_default (params_of cs) then with_body cs (with_params cs e) else with_both cs e

-- the scopes round the parts of a function, which may have a key in front
abbrev pub of_function : Bool → Scopes → Scopes → Scopes → Inside
of_function has_key e params body = if has_key then record { first = e; second = params; others = body } else record { first = params; second = body; others = body }

-- the scopes inside a node, given those round it and those with its own scope
abbrev pub within : Reach → Forest → Scopes → Scopes → Inside
within over.Nothing cs e own = each e
within over.Each cs e own = each own
within over.BehindFirst cs e own = record { first = e; second = own; others = own }
within over.Second cs e own = record { first = e; second = own; others = e }
within over.Function cs e own = of_function false e (round_params cs own) (round_body cs own)
within over.Method cs e own = of_function true e (round_params cs own) (round_body cs own)

-- the same by what the node is
abbrev pub inside : Label → Forest → Scopes → Inside
inside l cs e = within (reach l) cs e (with_scope (own_names l cs) e)

abbrev mutual
  -- the captured names of a tree, in the order of the text
  pub captured : Scopes → Tree → List Name
  captured e (node l ss cs) = if_captured e (spelled l) ++ captured_in (inside l cs e) cs

  -- the same of trees in a row
  pub captured_in : Inside → Forest → List Name
  captured_in i ε = []
  captured_in i (t ⊳ ts) = captured i.first t ++ captured_in (behind_first i) ts

-- the first of some names
abbrev pub first_of : List Name → Option Name
first_of [] = None
first_of (x ∷ xs) = Some x

-- what is seen of nodes: the first of their captured names, or else whether they are valid
pub data Sight : Type 0 where
  Caught : Name → Sight
  Sound : Bool → Sight

abbrev pub seen : List Name → Bool → Sight
seen [] is_valid = Sound is_valid
seen (x ∷ xs) is_valid = Caught x
