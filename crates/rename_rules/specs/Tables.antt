-- Renamings by a table: some names, each with its new text.
use Rattle.std.specs.Prelude.{ℕ, ◌≡◌, Bool, true, not, ◌&&◌, ◌||◌, List, [], ◌∷◌, Option, Some, None}
use Rattle.swc_ast.specs.Tree.{Text, Name, Label, Read, Shorthand, Fn, Param, TypeOfName, CallEval, Assign, Update, Try, Declarator, FnDecl, ImportNamed, ImportDefault, ImportStar, ExportSpecifier, ExportDefaultFn, Tree, node, Forest, ε, ◌⊳◌}
use Rattle.swc_ast.specs.Scope.{has_name, found, is_found}
use Rattle.swc_ast.specs.Meaning.{is_unresolved}
use Rattle.swc_ast.specs.Valid.{is_identifier}
use Rattle.rename_rules.specs.Renamed.{own_exports_stay}

-- names with their new texts
abbrev pub Table : Type 0
Table = List (Name × Text)

-- a name with another text, where there is one
abbrev pub with_text : Name → Option Text → Name
with_text x None = x
with_text x (Some t) = record { text = t; context = x.context }

-- the new name of a name; one that isn't in the table stays
abbrev pub new_name : Table → Name → Name
new_name ps x = with_text x (found x ps)

-- the new names in a table
abbrev pub targets : Table → List Name
targets [] = []
targets (p ∷ ps) = record { text = p.1; context = p.0.context } ∷ targets ps

-- no two new names are one
abbrev pub all_apart : List Name → Bool
all_apart [] = true
all_apart (x ∷ xs) = not (has_name x xs) && all_apart xs

-- no host's name is in a table
abbrev pub none_host : ℕ → Table → Bool
none_host mark [] = true
none_host mark (p ∷ ps) = not (is_unresolved mark p.0) && none_host mark ps

-- what holds of each name in a label

abbrev pub option_named : (Name → Bool) → Option Name → Bool
option_named f None = true
option_named f (Some x) = f x

abbrev pub label_named : (Name → Bool) → Label → Bool
label_named f (Read x) = f x
label_named f (Shorthand x) = f x
label_named f (Fn o) = option_named f o
label_named f (Param x) = f x
label_named f (TypeOfName x) = f x
label_named f (CallEval x) = f x
label_named f (Assign op x) = f x
label_named f (Update op prefix x) = f x
label_named f (Try None) = true
label_named f (Try (Some o)) = option_named f o
label_named f (Declarator kind x) = f x
label_named f (FnDecl x) = f x
label_named f (ImportNamed x i) = f x
label_named f (ImportDefault x) = f x
label_named f (ImportStar x) = f x
label_named f (ExportSpecifier x o) = f x
label_named f (ExportDefaultFn o) = option_named f o
label_named f _ = true

abbrev mutual
  -- what holds of each name in a tree
  pub all_named : (Name → Bool) → Tree → Bool
  all_named f (node l ss cs) = label_named f l && all_named_in f cs

  pub all_named_in : (Name → Bool) → Forest → Bool
  all_named_in f ε = true
  all_named_in f (t ⊳ ts) = all_named f t && all_named_in f ts

-- a name is a host's, or in the table
abbrev pub is_known : ℕ → Table → Name → Bool
is_known mark ps x = is_unresolved mark x || is_found x ps

-- A table that may be put on a tree: it has each name that is no host's, no host's name, no new name twice, and what a
-- declaration exports stays.
pub record Fits (mark : ℕ) (ps : Table) (t : Tree) : Type 0 where
  pub covers : all_named (is_known mark ps) t ≡ true
  pub no_host : none_host mark ps ≡ true
  pub apart : all_apart (targets ps) ≡ true
  pub exports : own_exports_stay (new_name ps) t ≡ true

-- each new text is an identifier
abbrev pub all_identifiers : Table → Bool
all_identifiers [] = true
all_identifiers (p ∷ ps) = is_identifier p.1 && all_identifiers ps
