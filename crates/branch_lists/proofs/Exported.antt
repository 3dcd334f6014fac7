-- The names that items export.
use Rattle.std.proofs.Common.{◌≡◌, true, None, ◌||◌, List, [], ◌∷◌, ◌++◌, refl, sym, ap, ◌∙◌}
use Rattle.std.proofs.lemmas.List.{map-append}
use Rattle.swc_ast.specs.Tree as tree
use Rattle.swc_ast.specs.Tree.{Text, Name, Label, same_name, Tree, node, Forest, ε, ◌⊳◌}
use Rattle.std.proofs.lemmas.Option.{none-some}
use Rattle.swc_ast.specs.Modules.{item_tree}
use Rattle.swc_ast.specs.Parts.{ident_name, list_trees}
use Rattle.swc_ast.specs.Reach.{is_exported}
use Rattle.swc_ast.specs.Run.{item_exports, own_texts, exported}
use Rattle.swc_ast.specs.SameLaws.{impossible}
use Rattle.swc_ast.specs.Scope.{has_name, declarator_names}
use Rattle.swc_ast.specs.Statements.{declarator_tree, var_tree}
use Rattle.swc_ast.specs.Views.{expr_tree, stmt_tree}
use Rattle.swc_ast.specs.declared.VarDeclKind.{VarDeclKind}
use Rattle.swc_ast.specs.declared.declarations.VarDecl.{VarDecl}
use Rattle.swc_ast.specs.declared.declarations.VarDeclarator.{VarDeclarator}
use Rattle.swc_ast.specs.declared.expressions.Expr.{Expr}
use Rattle.swc_ast.specs.declared.modules.ModuleItem.{ModuleItem}
use Rattle.swc_ast.specs.declared.modules.ModuleItem.TheVariants as items
use Rattle.swc_ast.specs.declared.statements.Stmt.{Stmt}
use Rattle.stmt_like.specs.Items.{declaration_of}
use Rattle.branch_lists.specs.Swept.{trees}
use Rattle.branch_lists.specs.Exports.{names_for, names_by, names_by_label, names_of_declarators, exported_names}
use Rattle.branch_lists.proofs.Shapes.{Shape, rest, block, empty, function, variables, is_rest, shape}

own_names : (xs : List Name) → names_for (own_texts xs) ≡ xs
own_names [] = refl
own_names (x ∷ xs) = ap (λ ys. x ∷ ys) (own_names xs)

of_declarators : (k : VarDeclKind) (ds : List (VarDeclarator Expr)) → names_of_declarators ds ≡ declarator_names (list_trees (declarator_tree expr_tree k) ds)
of_declarators k [] = refl
of_declarators k (d ∷ ds) = ap (λ ys. ident_name d.name ∷ ys) (of_declarators k ds)

pub declared_names : (n : VarDecl Expr) → names_of_declarators n.decls.items ≡ names_by_label tree.ExportDecl (var_tree expr_tree n ⊳ ε)
declared_names n = of_declarators n.kind n.decls.items ∙ sym (own_names (declarator_names (list_trees (declarator_tree expr_tree n.kind) n.decls.items)))

-- the first item and those behind it
pub names_on : (t : Tree) (ts : Forest) → exported_names (t ⊳ ts) ≡ names_by t ++ exported_names ts
names_on (node l ss cs) ts = map-append (λ p. p.1) (item_exports l cs) (exported ts)

rest_exports : (l : Label) (cs : Forest) → is_rest l ≡ true → names_by_label l cs ≡ []
rest_exports tree.ExportDecl cs h = impossible h
rest_exports tree.ExportNamed cs h = impossible h
rest_exports (tree.ExportDefaultFn o) cs h = impossible h
rest_exports tree.ExportDefaultExpr cs h = impossible h
rest_exports _ cs h = refl

nothing_at : (t : Tree) → Shape t → names_by t ≡ []
nothing_at _ (rest l ss cs h) = rest_exports l cs h
nothing_at _ (block ss xs) = refl
nothing_at _ (empty ss) = refl
nothing_at _ (function x ss cs) = refl
nothing_at _ (variables k ss ds) = refl

-- a statement exports nothing
pub no_names : (s : Stmt) → names_by (stmt_tree s) ≡ []
no_names s = nothing_at (stmt_tree s) (shape s)

pub is_among : (x : Name) (ps : List (Text × Name)) → has_name x (names_for ps) ≡ is_exported x ps
is_among x [] = refl
is_among x (p ∷ ps) = ap (λ b. same_name x p.1 || b) (is_among x ps)

-- an item that is no declaration of a module exports nothing
pub none_by : (x : ModuleItem) → None ≡ declaration_of x → names_by (item_tree x) ≡ []
none_by (items.Stmt s) h = no_names s
none_by (items.ModuleDecl d) h = absurd (none-some d h)

-- it is passed
pub names_past : {X : Type 0} (f : X → ModuleItem) (left behind : List X) (x : X) (ns g : List Name) → left ≡ x ∷ behind → names_by (item_tree (f x)) ≡ [] → ns ++ exported_names (trees f left) ≡ g → ns ++ exported_names (trees f behind) ≡ g
names_past f left behind x ns g is none h = ap (λ ys. ns ++ ys) (sym (names_on (item_tree (f x)) (trees f behind) ∙ ap (λ ys. ys ++ exported_names (trees f behind)) none)) ∙ sym (ap (λ l. ns ++ exported_names (trees f l)) is) ∙ h
