-- What the comparison of parts says of imports, exports and items.
use Rattle.std.proofs.Common.{◌≡◌, refl, sym, ap, ◌∙◌, Bool, true, false, ◌&&◌, ◌==◌, [], ◌∷◌}
use Rattle.swc_ast.specs.Tree as tree
use Rattle.swc_ast.specs.Tree.{label_of}
use Rattle.swc_ast.specs.Expressions.{FunctionTrees, function_node}
use Rattle.swc_ast.specs.Parts.{option_ident_name, option_ident_spans}
use Rattle.std.specs.Prelude.{Option}
use Rattle.swc_ast.specs.Tree.{node, ε, ◌⊳◌, same_name}
use Rattle.swc_ast.specs.Modules.{import_specifier_tree, module_decl_tree}
use Rattle.swc_ast.specs.Same.{same, same_label, same_option, same_spans, same_forest}
use Rattle.swc_ast.specs.Views.{stmt_tree}
use Rattle.swc_ast.proofs.ApartStatements.{StmtForm, stmt_form, stmt_at, stmt_number}
use Rattle.swc_ast.proofs.Labels.{differ}
use Rattle.swc_ast.proofs.SameParts.{first_span}
use Rattle.swc_ast.specs.declared.Span.{Span}
use Rattle.swc_ast.specs.declared.names.Ident.{Ident}
use Rattle.swc_ast.specs.declared.declarations.Decl.TheOpen as Open
use Rattle.swc_ast.specs.declared.declarations.Decl.TheViews.{out-Stmt, roll-out-Stmt}
use Rattle.swc_ast.specs.declared.statements.Stmt.{Stmt}
use Rattle.swc_ast.specs.declared.modules.ImportSpecifier.{ImportSpecifier}
use Rattle.swc_ast.specs.declared.modules.ImportSpecifier.TheVariants as imports
use Rattle.swc_ast.specs.declared.modules.ModuleDecl.{ModuleDecl}
use Rattle.swc_ast.specs.declared.modules.ModuleDecl.TheVariants as decls

-- specifiers of two kinds
pub other_specifier-Named : (s : Bool) (a b : ImportSpecifier) (x : _) → a ≡ imports.Named x → ((y : _) → b ≡ imports.Named y → ⊥) → false ≡ same s (import_specifier_tree a) (import_specifier_tree b)
unfolding same same_label
other_specifier-Named s a (imports.Named y) x is others = absurd (others y refl)
other_specifier-Named s a (imports.Default y) x is others = ap (λ o. same s (import_specifier_tree o) (import_specifier_tree (imports.Default y))) (sym is)
other_specifier-Named s a (imports.Namespace y) x is others = ap (λ o. same s (import_specifier_tree o) (import_specifier_tree (imports.Namespace y))) (sym is)

pub other_specifier-Default : (s : Bool) (a b : ImportSpecifier) (x : _) → a ≡ imports.Default x → ((y : _) → b ≡ imports.Default y → ⊥) → false ≡ same s (import_specifier_tree a) (import_specifier_tree b)
unfolding same same_label
other_specifier-Default s a (imports.Named y) x is others = ap (λ o. same s (import_specifier_tree o) (import_specifier_tree (imports.Named y))) (sym is)
other_specifier-Default s a (imports.Default y) x is others = absurd (others y refl)
other_specifier-Default s a (imports.Namespace y) x is others = ap (λ o. same s (import_specifier_tree o) (import_specifier_tree (imports.Namespace y))) (sym is)

pub other_specifier-Namespace : (s : Bool) (a b : ImportSpecifier) (x : _) → a ≡ imports.Namespace x → ((y : _) → b ≡ imports.Namespace y → ⊥) → false ≡ same s (import_specifier_tree a) (import_specifier_tree b)
unfolding same same_label
other_specifier-Namespace s a (imports.Named y) x is others = ap (λ o. same s (import_specifier_tree o) (import_specifier_tree (imports.Named y))) (sym is)
other_specifier-Namespace s a (imports.Default y) x is others = ap (λ o. same s (import_specifier_tree o) (import_specifier_tree (imports.Default y))) (sym is)
other_specifier-Namespace s a (imports.Namespace y) x is others = absurd (others y refl)

-- imports and exports of two kinds
pub other_decl-Import : (s : Bool) (a b : ModuleDecl) (x : _) → a ≡ decls.Import x → ((y : _) → b ≡ decls.Import y → ⊥) → false ≡ same s (module_decl_tree a) (module_decl_tree b)
unfolding same same_label
other_decl-Import s a (decls.Import y) x is others = absurd (others y refl)
other_decl-Import s a (decls.ExportDecl y) x is others = ap (λ o. same s (module_decl_tree o) (module_decl_tree (decls.ExportDecl y))) (sym is)
other_decl-Import s a (decls.ExportNamed y) x is others = ap (λ o. same s (module_decl_tree o) (module_decl_tree (decls.ExportNamed y))) (sym is)
other_decl-Import s a (decls.ExportDefaultDecl y) x is others = ap (λ o. same s (module_decl_tree o) (module_decl_tree (decls.ExportDefaultDecl y))) (sym is)
other_decl-Import s a (decls.ExportDefaultExpr y) x is others = ap (λ o. same s (module_decl_tree o) (module_decl_tree (decls.ExportDefaultExpr y))) (sym is)

pub other_decl-ExportDecl : (s : Bool) (a b : ModuleDecl) (x : _) → a ≡ decls.ExportDecl x → ((y : _) → b ≡ decls.ExportDecl y → ⊥) → false ≡ same s (module_decl_tree a) (module_decl_tree b)
unfolding same same_label
other_decl-ExportDecl s a (decls.Import y) x is others = ap (λ o. same s (module_decl_tree o) (module_decl_tree (decls.Import y))) (sym is)
other_decl-ExportDecl s a (decls.ExportDecl y) x is others = absurd (others y refl)
other_decl-ExportDecl s a (decls.ExportNamed y) x is others = ap (λ o. same s (module_decl_tree o) (module_decl_tree (decls.ExportNamed y))) (sym is)
other_decl-ExportDecl s a (decls.ExportDefaultDecl y) x is others = ap (λ o. same s (module_decl_tree o) (module_decl_tree (decls.ExportDefaultDecl y))) (sym is)
other_decl-ExportDecl s a (decls.ExportDefaultExpr y) x is others = ap (λ o. same s (module_decl_tree o) (module_decl_tree (decls.ExportDefaultExpr y))) (sym is)

pub other_decl-ExportNamed : (s : Bool) (a b : ModuleDecl) (x : _) → a ≡ decls.ExportNamed x → ((y : _) → b ≡ decls.ExportNamed y → ⊥) → false ≡ same s (module_decl_tree a) (module_decl_tree b)
unfolding same same_label
other_decl-ExportNamed s a (decls.Import y) x is others = ap (λ o. same s (module_decl_tree o) (module_decl_tree (decls.Import y))) (sym is)
other_decl-ExportNamed s a (decls.ExportDecl y) x is others = ap (λ o. same s (module_decl_tree o) (module_decl_tree (decls.ExportDecl y))) (sym is)
other_decl-ExportNamed s a (decls.ExportNamed y) x is others = absurd (others y refl)
other_decl-ExportNamed s a (decls.ExportDefaultDecl y) x is others = ap (λ o. same s (module_decl_tree o) (module_decl_tree (decls.ExportDefaultDecl y))) (sym is)
other_decl-ExportNamed s a (decls.ExportDefaultExpr y) x is others = ap (λ o. same s (module_decl_tree o) (module_decl_tree (decls.ExportDefaultExpr y))) (sym is)

pub other_decl-ExportDefaultDecl : (s : Bool) (a b : ModuleDecl) (x : _) → a ≡ decls.ExportDefaultDecl x → ((y : _) → b ≡ decls.ExportDefaultDecl y → ⊥) → false ≡ same s (module_decl_tree a) (module_decl_tree b)
unfolding same same_label
other_decl-ExportDefaultDecl s a (decls.Import y) x is others = ap (λ o. same s (module_decl_tree o) (module_decl_tree (decls.Import y))) (sym is)
other_decl-ExportDefaultDecl s a (decls.ExportDecl y) x is others = ap (λ o. same s (module_decl_tree o) (module_decl_tree (decls.ExportDecl y))) (sym is)
other_decl-ExportDefaultDecl s a (decls.ExportNamed y) x is others = ap (λ o. same s (module_decl_tree o) (module_decl_tree (decls.ExportNamed y))) (sym is)
other_decl-ExportDefaultDecl s a (decls.ExportDefaultDecl y) x is others = absurd (others y refl)
other_decl-ExportDefaultDecl s a (decls.ExportDefaultExpr y) x is others = ap (λ o. same s (module_decl_tree o) (module_decl_tree (decls.ExportDefaultExpr y))) (sym is)

pub other_decl-ExportDefaultExpr : (s : Bool) (a b : ModuleDecl) (x : _) → a ≡ decls.ExportDefaultExpr x → ((y : _) → b ≡ decls.ExportDefaultExpr y → ⊥) → false ≡ same s (module_decl_tree a) (module_decl_tree b)
unfolding same same_label
other_decl-ExportDefaultExpr s a (decls.Import y) x is others = ap (λ o. same s (module_decl_tree o) (module_decl_tree (decls.Import y))) (sym is)
other_decl-ExportDefaultExpr s a (decls.ExportDecl y) x is others = ap (λ o. same s (module_decl_tree o) (module_decl_tree (decls.ExportDecl y))) (sym is)
other_decl-ExportDefaultExpr s a (decls.ExportNamed y) x is others = ap (λ o. same s (module_decl_tree o) (module_decl_tree (decls.ExportNamed y))) (sym is)
other_decl-ExportDefaultExpr s a (decls.ExportDefaultDecl y) x is others = ap (λ o. same s (module_decl_tree o) (module_decl_tree (decls.ExportDefaultDecl y))) (sym is)
other_decl-ExportDefaultExpr s a (decls.ExportDefaultExpr y) x is others = absurd (others y refl)

-- imports and exports are no statements
no_stmt_form : (d : ModuleDecl) → stmt_form (label_of (module_decl_tree d)) ≡ 0
no_stmt_form (decls.Import n) = refl
no_stmt_form (decls.ExportDecl n) = refl
no_stmt_form (decls.ExportNamed n) = refl
no_stmt_form (decls.ExportDefaultDecl n) = refl
no_stmt_form (decls.ExportDefaultExpr n) = refl

some_stmt : (o : StmtForm) → (0 == stmt_number o) ≡ false
some_stmt (Open.Block n) = refl
some_stmt o = refl

some_stmt-2 : (o : StmtForm) → (stmt_number o == 0) ≡ false
some_stmt-2 (Open.Block n) = refl
some_stmt-2 o = refl

of_stmt : (x : Stmt) → stmt_form (label_of (stmt_tree x)) ≡ stmt_number (out-Stmt x)
of_stmt x = ap (λ e. stmt_form (label_of (stmt_tree e))) (sym (roll-out-Stmt x)) ∙ stmt_at (out-Stmt x)

pub decl-stmt : (s : Bool) (d : ModuleDecl) (x : Stmt) → false ≡ same s (module_decl_tree d) (stmt_tree x)
decl-stmt s d x = differ stmt_form s (module_decl_tree d) (stmt_tree x) 0 (stmt_number (out-Stmt x)) (no_stmt_form d) (of_stmt x) (some_stmt (out-Stmt x))

pub stmt-decl : (s : Bool) (x : Stmt) (d : ModuleDecl) → false ≡ same s (stmt_tree x) (module_decl_tree d)
stmt-decl s x d = differ stmt_form s (stmt_tree x) (module_decl_tree d) (stmt_number (out-Stmt x)) 0 (of_stmt x) (no_stmt_form d) (some_stmt-2 (out-Stmt x))

name-behind : (a n b f : Bool) → (a && (n && (b && f))) ≡ (n && ((a && b) && f))
name-behind true true b f = refl
name-behind true false b f = refl
name-behind false true b f = refl
name-behind false false b f = refl

-- `export default` by its span and its function
pub default-same : (s : Bool) (a b : Span) (x y : Option Ident) (p q : FunctionTrees) → (same_spans s (a ∷ []) (b ∷ []) && same s (function_node (tree.Fn (option_ident_name x)) (option_ident_spans x) p) (function_node (tree.Fn (option_ident_name y)) (option_ident_spans y) q)) ≡ same s (node (tree.ExportDefaultFn (option_ident_name x)) (a ∷ p.own ∷ option_ident_spans x) (p.parameters ⊳ p.body ⊳ ε)) (node (tree.ExportDefaultFn (option_ident_name y)) (b ∷ q.own ∷ option_ident_spans y) (q.parameters ⊳ q.body ⊳ ε))
unfolding same same_label
default-same s a b x y p q = name-behind (same_spans s (a ∷ []) (b ∷ [])) (same_option same_name (option_ident_name x) (option_ident_name y)) (same_spans s (p.own ∷ option_ident_spans x) (q.own ∷ option_ident_spans y)) (same_forest s (p.parameters ⊳ p.body ⊳ ε) (q.parameters ⊳ q.body ⊳ ε)) ∙ ap (λ z. same_option same_name (option_ident_name x) (option_ident_name y) && (z && same_forest s (p.parameters ⊳ p.body ⊳ ε) (q.parameters ⊳ q.body ⊳ ε))) (sym (first_span s a b (p.own ∷ option_ident_spans x) (q.own ∷ option_ident_spans y)))
