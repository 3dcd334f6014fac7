-- What one walk over a tree notes of a name, fact by fact.
use Rattle.std.specs.Prelude.{Bool, true, false, not, ◌&&◌, ◌||◌, if◌then◌else◌, List, [], ◌∷◌}
use Rattle.swc_ast.specs.declared.AssignOp.{AssignOp}
use Rattle.swc_ast.specs.declared.AssignOp.TheVariants.{Assign as Plain}
use Rattle.swc_ast.specs.declared.VarDeclKind.TheVariants.{Var}
use Rattle.swc_ast.specs.Tree.{Name, Label, Assign, Update, Block, Declarator, FnDecl, ExportDefaultFn, Tree, node, Forest, ε, ◌⊳◌}
use Rattle.swc_ast.specs.Scope.{is_function, has_name, option_name, param_names}
use Rattle.swc_ast.specs.Resolved.{params_of}
use Rattle.swc_ast.specs.Reach.{named_by}
use Rattle.tree_visit.specs.Kinds.{kind_label}
use Rattle.tree_visit.specs.Nodes.{children_forest}
use Rattle.tree_visit.specs.declared.opened.Opened.{Opened}
use Rattle.dce_rules.specs.Uses.{has_arguments, any_arguments, any_eval, declared_by_node, declared_among}
use Rattle.dce_uses.specs.declared.place.Place.{Place}
use Rattle.dce_uses.specs.declared.tally.Fact.{Fact}
use Rattle.dce_uses.specs.declared.tally.Fact.TheVariants as fact

-- the name of a function that a node declares
abbrev pub function_name : Label → List Name
function_name (FnDecl x) = x ∷ []
function_name (ExportDefaultFn o) = option_name o
function_name _ = []

-- the declaration of a function, that of a default export aside
abbrev pub is_function_declaration : Label → Bool
is_function_declaration (FnDecl x) = true
is_function_declaration _ = false

abbrev pub is_plain_assignment : AssignOp → Bool
is_plain_assignment Plain = true
is_plain_assignment op = false

-- whether a node that names something reads it: all but plain assignments
abbrev pub reads : Label → Bool
reads (Assign op x) = not (is_plain_assignment op)
reads _ = true

-- whether a node that names something writes it: by an assignment or an update
abbrev pub writes : Label → Bool
writes (Assign op x) = true
writes (Update op prefix x) = true
writes _ = false

-- a block, or a function, whose body is one
abbrev pub is_block_or_function : Label → Bool
is_block_or_function Block = true
is_block_or_function l = is_function l

-- whether a declaration stands below the top level: functions and `var` in a function, others in a block
abbrev pub lets_go : Place → Label → Bool
lets_go p (FnDecl x) = p.in_function
lets_go p (Declarator Var x) = p.in_function
lets_go p l = p.in_block

-- the place of a node's children
abbrev pub below : Place → Label → Place
below p l = record { in_function = has_arguments l || p.in_function; in_block = is_block_or_function l || p.in_block; in_declaration = is_function_declaration l || p.in_declaration; is_inside = is_function l || p.is_inside }

-- the place of a whole module
abbrev pub at_top : Place
at_top = record { in_function = false; in_block = false; in_declaration = false; is_inside = false }

-- what a node says of the name that it reads or writes
abbrev pub naming : Fact → Place → Label → Bool
naming fact.Used p l = reads l
naming fact.Written p l = writes l
naming fact.Abroad p l = not p.in_declaration
naming _ p l = false

-- what a node says of the name that it declares
abbrev pub declaring : Fact → Place → Label → Bool
declaring fact.Declared p l = true
declaring fact.Held p l = not (lets_go p l)
declaring _ p l = false

-- that a name is used without being named
abbrev pub is_hiding : Fact → Bool
is_hiding fact.Hidden = true
is_hiding _ = false

-- what a node says of a name by reading or writing it
abbrev pub by_naming : Fact → Name → Place → Label → Bool
by_naming f x p l = naming f p l && has_name x (named_by l)

-- what a node says of a name by declaring it
abbrev pub by_declaring : Fact → Name → Place → Label → Bool
by_declaring f x p l = declaring f p l && has_name x (declared_by_node l)

-- whether a name is a parameter of a function that names `arguments`
abbrev pub is_own_argument : Name → Label → Forest → Bool
is_own_argument x l cs = has_arguments l && (any_arguments cs && has_name x (param_names (params_of cs)))

-- whether a name is declared in a function that stands in no other and calls `eval`, in itself or further in
abbrev pub is_seen : Name → Place → Label → Forest → Bool
is_seen x p l cs = not p.is_inside && (is_function l && (any_eval cs && declared_among x cs))

-- what a function says of its parameters by naming `arguments`
abbrev pub by_arguments : Fact → Name → Label → Forest → Bool
by_arguments f x l cs = is_hiding f && is_own_argument x l cs

-- what a function says of the names that are declared in it by calling `eval`
abbrev pub by_eval : Fact → Name → Place → Label → Forest → Bool
by_eval f x p l cs = is_hiding f && is_seen x p l cs

-- what a node says by itself
abbrev pub own : Fact → Name → Place → Label → Bool
own f x p l = by_naming f x p l || by_declaring f x p l

-- what a function says without naming anything
abbrev pub unnamed : Fact → Name → Place → Label → Forest → Bool
unnamed f x p l cs = by_arguments f x l cs || by_eval f x p l cs

-- uses and writes of a function's own name don't count inside its declaration
abbrev pub is_counted : Fact → Bool
is_counted fact.Used = true
is_counted fact.Written = true
is_counted _ = false

abbrev mutual
  -- what a tree says of a name
  pub noted : Fact → Name → Place → Tree → Bool
  noted f x p (node l ss cs) = if is_counted f && has_name x (function_name l) then false else ((own f x p l || noted_among f x (below p l) cs) || unnamed f x p l cs)

  pub noted_among : Fact → Name → Place → Forest → Bool
  noted_among f x p ε = false
  noted_among f x p (t ⊳ ts) = noted f x p t || noted_among f x p ts

-- a node that was opened, as a tree
abbrev pub opened_tree : Opened → Tree
opened_tree o = node (kind_label o.kind) [] (children_forest o.children)
