-- The names, scopes and faults that borrowed parts and tables stand for.
use Rattle.std.specs.Prelude.{◌≡◌, ℕ, Bool, true, false, not, ◌==◌, if◌then◌else◌, List, [], ◌∷◌, Option, Some, None, bytes_eq}
use Rattle.std.specs.Borrow.{Bor}
use Rattle.std.specs.List.{list_any}
use Rattle.std.specs.HashMap.{get_by}
use Rattle.swc_ast.specs.Tree as tree
use Rattle.swc_ast.specs.Tree.{Text}
use Rattle.swc_ast.specs.Parts.{ident_name}
use Rattle.swc_ast.specs.declared.names.Ident.{Ident}
use Rattle.swc_ast.specs.declared.names.SyntaxContext.{SyntaxContext}
use Rattle.tree_captures.specs.declared.captures.Fault.{Fault}
use Rattle.tree_captures.specs.declared.captures.Fault.TheVariants as fault
use Rattle.tree_captures.specs.declared.captures.Seen.{Seen}
use Rattle.tree_captures.specs.declared.table.Known.{Known}
use Rattle.tree_captures.specs.declared.table.Outer.{Outer}
use Rattle.tree_captures.specs.declared.table.Table.{Table}
use Rattle.tree_captures.specs.Captured as captured
use Rattle.tree_captures.specs.Captured.{Scopes}

-- the name of an identifier, if any
abbrev pub told : Option (Bor Ident) → Option tree.Name
told None = None
told (Some n) = Some (ident_name n.now)

-- a captured name, or whether nodes are valid
abbrev pub sight_of : Option (Bor Ident) → Bool → captured.Sight
sight_of None is_valid = captured.Sound is_valid
sight_of (Some n) is_valid = captured.Caught (ident_name n.now)

abbrev pub sight : Seen → captured.Sight
sight s = sight_of s.captured s.is_valid

-- the first captured name is told; of a tree without one, given whether it is valid, that it isn't
abbrev pub Tells : List tree.Name → Bool → Option Fault → Type 0
Tells xs is_valid (Some (fault.Captured n)) = captured.first_of xs ≡ Some (ident_name n.now)
Tells xs is_valid (Some fault.Invalid) = (xs ≡ []) × (is_valid ≡ false)
Tells xs is_valid None = (xs ≡ []) × (is_valid ≡ true)

-- the contexts that are known of a text
abbrev pub contexts : Known → List SyntaxContext
contexts k = k.first ∷ k.others.items

abbrev pub contexts_of : Option Known → List SyntaxContext
contexts_of None = []
contexts_of (Some k) = contexts k

-- a context is among some
abbrev pub has_context : ℕ → List SyntaxContext → Bool
has_context c = list_any (λ k. k.0 == c)

-- what is known of a text
abbrev pub known_of : Table → Text → Option Known
known_of t bs = get_by (λ k. bytes_eq bs k.now) t.known

-- a name is bound
abbrev pub binds : Table → tree.Name → Bool
binds t x = has_context x.context (contexts_of (known_of t x.text))

-- names of a text are bound, and this name isn't
abbrev pub lacks : Option Known → tree.Name → Bool
lacks None x = false
lacks (Some k) x = not (has_context x.context (contexts k))

-- the scopes round the place that a table tells of
abbrev pub captures : Table → Scopes
captures t = λ x. lacks (known_of t x.text) x

-- the same after what texts stood for is put back, from the last of them on
abbrev pub restored : List Outer → Scopes → Scopes
restored [] e = e
restored (o ∷ os) e = λ x. if bytes_eq o.text.now x.text then lacks o.known x else restored os e x
