-- A module with other names for those that it binds: each binding and each reference of a name has its new name, and what
-- is seen from outside, keys, imports and exports, has its old text.
use Rattle.std.specs.Prelude.{ℕ, ◌≡◌, Bool, true, ◌&&◌, if◌then◌else◌, List, [], ◌∷◌, Option, Some, None}
use Rattle.swc_ast.specs.declared.Span.{Span}
use Rattle.swc_ast.specs.Sorts as by_sort
use Rattle.swc_ast.specs.Sorts.{ExprLabel, PropLabel, PartLabel, HolderLabel, DeclLabel, ItemLabel}
use Rattle.swc_ast.specs.Tree.{Text, Name, same_name, NameKey, Label, expr, prop, part, simple, holder, decl, item, Read, Shorthand, PlainKey, Module, ImportNamed, ExportDecl, ExportSpecifier, Tree, node, Forest, ε, ◌⊳◌}
use Rattle.swc_ast.specs.Meaning.{is_unresolved}
use Rattle.swc_ast.specs.Run.{imported_text, export_text, declared_exports}

-- What a renaming is: no two names become one, a name keeps its context, and a host's name is left as it is.
pub record IsRenaming (mark : ℕ) (to : Name → Name) : Type 0 where
  pub one_to_one : (x y : Name) → to x ≡ to y → x ≡ y
  pub keeps_context : (x : Name) → (to x).context ≡ x.context
  pub hosts_stay : (x : Name) → is_unresolved mark x ≡ true → to x ≡ x

-- the spans of a specifier with those of a word behind its name
abbrev pub with_word : List Span → List Span
with_word (a ∷ b ∷ []) = a ∷ b ∷ b ∷ []
with_word ss = ss

module _ (to : Name → Name) where
  -- a name, where there is one
  abbrev pub new_option : Option Name → Option Name
  new_option None = None
  new_option (Some x) = Some (to x)

  -- the parameter of a handler, where there is one
  abbrev pub new_handler : Option (Option Name) → Option (Option Name)
  new_handler None = None
  new_handler (Some o) = Some (new_option o)

  -- the text of outside, which is written where the new name has another
  abbrev pub new_text : Name → Option Text → Text → Option Text
  new_text x o t = if same_name (to x) x then o else Some t

  -- labels with the new names, by their sorts; a property `x` whose name changes becomes `x: y`

  abbrev pub new_expr : ExprLabel → ExprLabel
  new_expr (by_sort.Read x) = by_sort.Read (to x)
  new_expr (by_sort.Fn o) = by_sort.Fn (new_option o)
  new_expr (by_sort.TypeOfName x) = by_sort.TypeOfName (to x)
  new_expr (by_sort.CallEval x) = by_sort.CallEval (to x)
  new_expr (by_sort.Assign op x) = by_sort.Assign op (to x)
  new_expr (by_sort.Update op prefix x) = by_sort.Update op prefix (to x)
  new_expr e = e

  abbrev pub new_prop : PropLabel → PropLabel
  new_prop (by_sort.Shorthand x) = if same_name (to x) x then by_sort.Shorthand x else by_sort.KeyValue
  new_prop p = p

  abbrev pub new_part : PartLabel → PartLabel
  new_part (by_sort.Param x) = by_sort.Param (to x)
  new_part (by_sort.Declarator kind x) = by_sort.Declarator kind (to x)
  new_part p = p

  abbrev pub new_holder : HolderLabel → HolderLabel
  new_holder (by_sort.Try o) = by_sort.Try (new_handler o)
  new_holder h = h

  abbrev pub new_decl : DeclLabel → DeclLabel
  new_decl (by_sort.FnDecl x) = by_sort.FnDecl (to x)
  new_decl d = d

  abbrev pub new_item : ItemLabel → ItemLabel
  new_item (by_sort.ImportNamed x i) = by_sort.ImportNamed (to x) (new_text x i (imported_text x i))
  new_item (by_sort.ImportDefault x) = by_sort.ImportDefault (to x)
  new_item (by_sort.ImportStar x) = by_sort.ImportStar (to x)
  new_item (by_sort.ExportSpecifier x o) = by_sort.ExportSpecifier (to x) (new_text x o (export_text x o))
  new_item (by_sort.ExportDefaultFn o) = by_sort.ExportDefaultFn (new_option o)
  new_item i = i

  abbrev pub new_label : Label → Label
  new_label (expr e) = expr (new_expr e)
  new_label (prop p) = prop (new_prop p)
  new_label (part p) = part (new_part p)
  new_label (simple s) = simple s
  new_label (holder h) = holder (new_holder h)
  new_label (decl d) = decl (new_decl d)
  new_label (item i) = item (new_item i)

  -- children that are renamed, and those of a property that becomes `x: y`
  abbrev pub new_children : Label → List Span → Forest → Forest
  new_children (Shorthand x) ss cs = if same_name (to x) x then cs else (node (PlainKey (NameKey x.text)) ss ε ⊳ node (Read (to x)) ss ε ⊳ cs)
  new_children l ss cs = cs

  -- where the label's parts stand: a text of outside that is added stands where the name does
  abbrev pub new_spans : Label → List Span → List Span
  new_spans (Shorthand x) ss = if same_name (to x) x then ss else []
  new_spans (ImportNamed x None) ss = if same_name (to x) x then ss else with_word ss
  new_spans (ExportSpecifier x None) ss = if same_name (to x) x then ss else with_word ss
  new_spans l ss = ss

  unfoldable mutual
    -- a tree with the new names
    pub renamed : Tree → Tree
    renamed (node l ss cs) = node (new_label l) (new_spans l ss) (new_children l ss (renamed_all cs))

    pub renamed_all : Forest → Forest
    renamed_all ε = ε
    renamed_all (t ⊳ ts) = renamed t ⊳ renamed_all ts

  -- the new names of exports, under their texts
  abbrev pub new_exports : List (Text × Name) → List (Text × Name)
  new_exports [] = []
  new_exports (p ∷ ps) = (p.0, to p.1) ∷ new_exports ps

  -- names that stay
  abbrev pub all_stay : List (Text × Name) → Bool
  all_stay [] = true
  all_stay (p ∷ ps) = same_name (to p.1) p.1 && all_stay ps

  -- the names of a declaration that is exported stay
  abbrev pub export_stays : Label → Forest → Bool
  export_stays ExportDecl (node l ss cs ⊳ ts) = all_stay (declared_exports l cs)
  export_stays _ cs = true

  abbrev pub exports_stay : Forest → Bool
  exports_stay ε = true
  exports_stay (node l ss cs ⊳ ts) = export_stays l cs && exports_stay ts

  -- the same of a module
  abbrev pub own_exports_stay : Tree → Bool
  own_exports_stay (node Module ss items) = exports_stay items
  own_exports_stay _ = true
