-- What a node shows of names to the node around it.
use Rattle.std.proofs.Common.{◌≡◌, Bool, true, false, not, List, [], ◌∷◌, ◌++◌, refl, ap₂, arith}
use Rattle.std.proofs.lemmas.Bool.{and_parts, false≢true, true≢false, not-true}
use Rattle.swc_ast.specs.Labels.{is_param}
use Rattle.swc_ast.specs.declared.Span.{Span}
use Rattle.swc_ast.specs.declared.VarDeclKind.{VarDeclKind}
use Rattle.swc_ast.specs.declared.VarDeclKind.TheVariants.{Var, Let, Const}
use Rattle.swc_ast.specs.Tree.{Name, Label, FnDecl, ExportDecl, ExportDefaultFn, ExportDefaultExpr, Import, ImportNamed, ImportDefault, ImportStar, If, While, DoWhile, For, Labeled, Try, Params, Body, Param, Block, Switch, CaseBody, VarDecl, Declarator, Tree, node, Forest, ε, ◌⊳◌}
use Rattle.swc_ast.specs.Scope.{vars, vars_all, declarator_name, declarator_names, param_name, param_names, imported_name, specifier_names, import_names_of}
use Rattle.swc_ast.specs.Valid.{is_listed, none_listed}
use Rattle.swc_ast.specs.Resolved.{one_if, declared_names}
use Rattle.swc_ast.specs.Core.{list_names}
use Rattle.static_proofs.specs.Names.{names_of}
use Rattle.static_proofs.specs.Shaped.{is_inner, is_statement, is_whole_item, is_block_or_inner, is_declarator_of, is_specifier, labels_of, all_labels}

-- what a node shows of names to the node around it
abbrev pub part_shown : Label → Forest → List Name
part_shown (Declarator kind x) cs = x ∷ []
part_shown (Param x) cs = x ∷ []
part_shown Body cs = declared_names cs
part_shown CaseBody cs = list_names cs
part_shown Params cs = param_names cs
part_shown (Import src) cs = specifier_names cs
part_shown (ImportNamed x i) cs = x ∷ []
part_shown (ImportDefault x) cs = x ∷ []
part_shown (ImportStar x) cs = x ∷ []
part_shown _ cs = []

abbrev pub shown : Tree → List Name
shown (node l ss cs) = part_shown l cs ++ names_of (node l ss cs)

abbrev pub shown_all : Forest → List Name
shown_all ε = []
shown_all (t ⊳ ts) = shown t ++ shown_all ts

-- scopes that bind none

pub not_one : (b : Bool) → one_if b ≡ 0 → b ≡ false
not_one false e = refl
not_one true e = absurd (omega (arith, e))

-- nodes that show nothing

pub inner_vars : (l : Label) (ss : List Span) (cs : Forest) → is_inner l ≡ true → vars (node l ss cs) ≡ []
inner_vars Params ss cs e = absurd (false≢true e)
inner_vars Body ss cs e = absurd (false≢true e)
inner_vars (Param x) ss cs e = absurd (false≢true e)
inner_vars Block ss cs e = absurd (false≢true e)
inner_vars If ss cs e = absurd (false≢true e)
inner_vars While ss cs e = absurd (false≢true e)
inner_vars DoWhile ss cs e = absurd (false≢true e)
inner_vars For ss cs e = absurd (false≢true e)
inner_vars (Labeled t) ss cs e = absurd (false≢true e)
inner_vars (Switch ds) ss cs e = absurd (false≢true e)
inner_vars CaseBody ss cs e = absurd (false≢true e)
inner_vars (Try o) ss cs e = absurd (false≢true e)
inner_vars (VarDecl k) ss cs e = absurd (false≢true e)
inner_vars (Declarator k x) ss cs e = absurd (false≢true e)
inner_vars ExportDecl ss cs e = absurd (false≢true e)
inner_vars l ss cs e = refl

pub inner_shown : (l : Label) (ss : List Span) (cs : Forest) → is_inner l ≡ true → shown (node l ss cs) ≡ []
inner_shown Params ss cs e = absurd (false≢true e)
inner_shown Body ss cs e = absurd (false≢true e)
inner_shown (Param x) ss cs e = absurd (false≢true e)
inner_shown CaseBody ss cs e = absurd (false≢true e)
inner_shown (VarDecl k) ss cs e = absurd (false≢true e)
inner_shown (Declarator k x) ss cs e = absurd (false≢true e)
inner_shown (FnDecl x) ss cs e = absurd (false≢true e)
inner_shown (Import src) ss cs e = absurd (false≢true e)
inner_shown (ImportNamed x i) ss cs e = absurd (false≢true e)
inner_shown (ImportDefault x) ss cs e = absurd (false≢true e)
inner_shown (ImportStar x) ss cs e = absurd (false≢true e)
inner_shown ExportDecl ss cs e = absurd (false≢true e)
inner_shown (ExportDefaultFn o) ss cs e = absurd (false≢true e)
inner_shown ExportDefaultExpr ss cs e = absurd (false≢true e)
inner_shown l ss cs e = refl

pub param_vars : (l : Label) (ss : List Span) (cs : Forest) → is_param l ≡ true → vars (node l ss cs) ≡ []
param_vars (Param x) ss cs e = refl
param_vars l ss cs e = absurd (false≢true e)

pub param_shown : (l : Label) (ss : List Span) (cs : Forest) → is_param l ≡ true → shown (node l ss cs) ≡ param_name l
param_shown (Param x) ss cs e = refl
param_shown l ss cs e = absurd (false≢true e)

pub specifier_vars : (l : Label) (ss : List Span) (cs : Forest) → is_specifier l ≡ true → vars (node l ss cs) ≡ []
specifier_vars (ImportNamed x i) ss cs e = refl
specifier_vars (ImportDefault x) ss cs e = refl
specifier_vars (ImportStar x) ss cs e = refl
specifier_vars l ss cs e = absurd (false≢true e)

pub specifier_shown : (l : Label) (ss : List Span) (cs : Forest) → is_specifier l ≡ true → shown (node l ss cs) ≡ imported_name l
specifier_shown (ImportNamed x i) ss cs e = refl
specifier_shown (ImportDefault x) ss cs e = refl
specifier_shown (ImportStar x) ss cs e = refl
specifier_shown l ss cs e = absurd (false≢true e)

pub block_shown : (l : Label) (ss : List Span) (cs : Forest) → is_block_or_inner l ≡ true → shown (node l ss cs) ≡ []
block_shown Block ss cs e = refl
block_shown l ss cs e = inner_shown l ss cs e

-- the same of all children

pub no_vars : (p : Label → Bool) → ((l : Label) (ss : List Span) (cs : Forest) → p l ≡ true → vars (node l ss cs) ≡ []) → (ts : Forest) → all_labels p (labels_of ts) ≡ true → vars_all ts ≡ []
no_vars p f ε a = refl
no_vars p f (node l ss cs ⊳ ts) a = let q = and_parts (p l) (all_labels p (labels_of ts)) a in ap₂ ◌++◌ (f l ss cs q.0) (no_vars p f ts q.1)

pub none_shown : (p : Label → Bool) → ((l : Label) (ss : List Span) (cs : Forest) → p l ≡ true → shown (node l ss cs) ≡ []) → (ts : Forest) → all_labels p (labels_of ts) ≡ true → shown_all ts ≡ []
none_shown p f ε a = refl
none_shown p f (node l ss cs ⊳ ts) a = let q = and_parts (p l) (all_labels p (labels_of ts)) a in ap₂ ◌++◌ (f l ss cs q.0) (none_shown p f ts q.1)

pub params_shown : (ts : Forest) → all_labels is_param (labels_of ts) ≡ true → shown_all ts ≡ param_names ts
params_shown ε a = refl
params_shown (node l ss cs ⊳ ts) a = let q = and_parts (is_param l) (all_labels is_param (labels_of ts)) a in ap₂ ◌++◌ (param_shown l ss cs q.0) (params_shown ts q.1)

pub specifiers_shown : (ts : Forest) → all_labels is_specifier (labels_of ts) ≡ true → shown_all ts ≡ specifier_names ts
specifiers_shown ε a = refl
specifiers_shown (node l ss cs ⊳ ts) a = let q = and_parts (is_specifier l) (all_labels is_specifier (labels_of ts)) a in ap₂ ◌++◌ (specifier_shown l ss cs q.0) (specifiers_shown ts q.1)

-- declarators

pub declarator_shown : (k : VarDeclKind) (l : Label) (ss : List Span) (cs : Forest) → is_declarator_of k l ≡ true → shown (node l ss cs) ≡ declarator_name l
declarator_shown Var (Declarator Var x) ss cs e = refl
declarator_shown Let (Declarator Let x) ss cs e = refl
declarator_shown Const (Declarator Const x) ss cs e = refl
declarator_shown Var l ss cs e = absurd (false≢true e)
declarator_shown Let l ss cs e = absurd (false≢true e)
declarator_shown Const l ss cs e = absurd (false≢true e)

pub declarators_shown : (k : VarDeclKind) (ts : Forest) → all_labels (is_declarator_of k) (labels_of ts) ≡ true → shown_all ts ≡ declarator_names ts
declarators_shown k ε a = refl
declarators_shown k (node l ss cs ⊳ ts) a = let q = and_parts (is_declarator_of k l) (all_labels (is_declarator_of k) (labels_of ts)) a in ap₂ ◌++◌ (declarator_shown k l ss cs q.0) (declarators_shown k ts q.1)

pub var_of : (l : Label) (ss : List Span) (cs : Forest) → is_declarator_of Var l ≡ true → declarator_name l ≡ vars (node l ss cs)
var_of (Declarator Var x) ss cs e = refl
var_of l ss cs e = absurd (false≢true e)

pub vars_of : (ts : Forest) → all_labels (is_declarator_of Var) (labels_of ts) ≡ true → declarator_names ts ≡ vars_all ts
vars_of ε a = refl
vars_of (node l ss cs ⊳ ts) a = let q = and_parts (is_declarator_of Var l) (all_labels (is_declarator_of Var) (labels_of ts)) a in ap₂ ◌++◌ (var_of l ss cs q.0) (vars_of ts q.1)

-- items and statements

pub item_shown : (l : Label) (cs : Forest) → is_whole_item l ≡ true → part_shown l cs ≡ import_names_of l cs
item_shown (Declarator k x) cs e = absurd (false≢true e)
item_shown (Param x) cs e = absurd (false≢true e)
item_shown Body cs e = absurd (false≢true e)
item_shown CaseBody cs e = absurd (false≢true e)
item_shown Params cs e = absurd (false≢true e)
item_shown (ImportNamed x i) cs e = absurd (false≢true e)
item_shown (ImportDefault x) cs e = absurd (false≢true e)
item_shown (ImportStar x) cs e = absurd (false≢true e)
item_shown (Import src) cs e = refl
item_shown l cs e = refl

pub statement_shown : (l : Label) (cs : Forest) → is_statement l ≡ true → part_shown l cs ≡ []
statement_shown (Declarator k x) cs e = absurd (false≢true e)
statement_shown (Param x) cs e = absurd (false≢true e)
statement_shown Body cs e = absurd (false≢true e)
statement_shown CaseBody cs e = absurd (false≢true e)
statement_shown Params cs e = absurd (false≢true e)
statement_shown (Import src) cs e = absurd (false≢true e)
statement_shown (ImportNamed x i) cs e = absurd (false≢true e)
statement_shown (ImportDefault x) cs e = absurd (false≢true e)
statement_shown (ImportStar x) cs e = absurd (false≢true e)
statement_shown l cs e = refl

-- a statement that stands outside lists shows nothing
pub unlisted_shown : (l : Label) (ss : List Span) (cs : Forest) → is_statement l ≡ true → is_listed (node l ss cs) ≡ false → shown (node l ss cs) ≡ []
unlisted_shown (VarDecl Var) ss cs e u = refl
unlisted_shown (VarDecl Let) ss cs e u = absurd (true≢false u)
unlisted_shown (VarDecl Const) ss cs e u = absurd (true≢false u)
unlisted_shown (FnDecl x) ss cs e u = absurd (true≢false u)
unlisted_shown (Declarator k x) ss cs e u = absurd (false≢true e)
unlisted_shown (Param x) ss cs e u = absurd (false≢true e)
unlisted_shown Body ss cs e u = absurd (false≢true e)
unlisted_shown CaseBody ss cs e u = absurd (false≢true e)
unlisted_shown Params ss cs e u = absurd (false≢true e)
unlisted_shown (Import src) ss cs e u = absurd (false≢true e)
unlisted_shown (ImportNamed x i) ss cs e u = absurd (false≢true e)
unlisted_shown (ImportDefault x) ss cs e u = absurd (false≢true e)
unlisted_shown (ImportStar x) ss cs e u = absurd (false≢true e)
unlisted_shown ExportDecl ss cs e u = absurd (false≢true e)
unlisted_shown (ExportDefaultFn o) ss cs e u = absurd (false≢true e)
unlisted_shown ExportDefaultExpr ss cs e u = absurd (false≢true e)
unlisted_shown l ss cs e u = refl

pub unlisted_all : (ts : Forest) → all_labels is_statement (labels_of ts) ≡ true → none_listed ts ≡ true → shown_all ts ≡ []
unlisted_all ε a u = refl
unlisted_all (node l ss cs ⊳ ts) a u =
    let q = and_parts (is_statement l) (all_labels is_statement (labels_of ts)) a in
    let w = and_parts (not (is_listed (node l ss cs))) (none_listed ts) u in
    ap₂ ◌++◌ (unlisted_shown l ss cs q.0 (not-true (is_listed (node l ss cs)) w.0)) (unlisted_all ts q.1 w.1)
