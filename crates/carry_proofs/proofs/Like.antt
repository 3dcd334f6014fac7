-- Trees that are the same but for spans, for leaves that show nothing, and for exports that name what their own names stand for.
use Rattle.std.proofs.Common.{◌≡◌, Bool, true, false, ◌||◌, List, [], ◌++◌, Option, Some, refl, sym, ap, ap₂, subst, ◌∙◌, if◌then◌else◌}
use Rattle.std.proofs.lemmas.Bool.{false≢true, true≢false}
use Rattle.swc_ast.specs.declared.Span.{Span}
use Rattle.swc_ast.specs.declared.VarDeclKind.TheVariants.{Var, Let, Const}
use Rattle.swc_ast.specs.Tree.{Name, Text, Label, NumLit, StrLit, BoolLit, NullLit, Read, Shorthand, KeyValue, Unary, TypeOfName, Params, Param, Body, CaseBody, VarDecl, FnDecl, Import, ExportDecl, ExportSpecifier, ExportDefaultFn, ExportDefaultExpr, Absent, Tree, node, Forest, ε, ◌⊳◌}
use Rattle.swc_ast.specs.Scope.{has_name, own_vars, holds_statements, vars_all, declarator_name, declarator_names, as_lexicals, declared_by_label, declared_by, declared, list_binds, param_name, param_names, body_declares, imported_name, specifier_names, import_names_of, import_names, module_binds, joined, body_statements, case_statements}
use Rattle.swc_ast.specs.Meaning.{first_tree}
use Rattle.swc_ast.specs.Resolved.{first_names, has_default, params_of, body_of, scopes, Targets, aimed, apart, specifier_bound, exports_bound}
use Rattle.swc_ast.specs.Valid.{is_identifier, is_word, is_optional_word, is_absent, is_listed, valid}
use Rattle.swc_ast.specs.Core.{fits, list_names}
use Rattle.static_proofs.proofs.Names.{first_names_append, found_first}

-- a label that shows nothing to the node around
pub record Blank (l : Label) : Type 0 where
  pub no_vars : own_vars l ≡ []
  pub no_statements : holds_statements l ≡ false
  pub no_label : (ss : List Span) (cs : Forest) → declared_by_label l ss cs ≡ []
  pub no_declared : (ss : List Span) (cs : Forest) → declared_by (node l ss cs) ≡ []
  pub no_declarator : declarator_name l ≡ []
  pub no_param : param_name l ≡ []
  pub no_import : imported_name l ≡ []
  pub no_imports : (cs : Forest) → import_names_of l cs ≡ []
  pub no_params : (ss : List Span) (cs ts : Forest) → params_of (node l ss cs ⊳ ts) ≡ params_of ts
  pub no_body : (ss : List Span) (cs ts : Forest) → body_of (node l ss cs ⊳ ts) ≡ body_of ts
  pub no_default : (ss : List Span) (cs ts : Forest) → has_default (node l ss cs ⊳ ts) ≡ has_default ts
  pub no_case : (cs : Forest) → body_statements l cs ≡ ε
  pub not_absent : (ss : List Span) (cs : Forest) → is_absent (node l ss cs) ≡ false
  pub not_listed : (ss : List Span) (cs : Forest) → is_listed (node l ss cs) ≡ false
  pub no_specifier : (b : Name → Bool) (ss : List Span) (cs ts : Forest) → specifier_bound b (node l ss cs ⊳ ts) ≡ specifier_bound b ts
  pub no_exports : (b : Name → Bool) (ss : List Span) (cs ts : Forest) → exports_bound b (node l ss cs ⊳ ts) ≡ exports_bound b ts

abbrev pub is_blank : Label → Bool
is_blank (NumLit z) = true
is_blank (StrLit t) = true
is_blank (BoolLit b) = true
is_blank NullLit = true
is_blank (Read x) = true
is_blank (TypeOfName x) = true
is_blank (Shorthand x) = true
is_blank KeyValue = true
is_blank (Unary o) = true
is_blank _ = false

pub blank_of : (l : Label) → is_blank l ≡ true → Blank l
blank_of (NumLit z) e = record { no_vars = refl; no_statements = refl; no_label = λ ss cs. refl; no_declared = λ ss cs. refl; no_declarator = refl; no_param = refl; no_import = refl; no_imports = λ cs. refl; no_params = λ ss cs ts. refl; no_body = λ ss cs ts. refl; no_default = λ ss cs ts. refl; no_case = λ cs. refl; not_absent = λ ss cs. refl; not_listed = λ ss cs. refl; no_specifier = λ b ss cs ts. refl; no_exports = λ b ss cs ts. refl }
blank_of (StrLit t) e = record { no_vars = refl; no_statements = refl; no_label = λ ss cs. refl; no_declared = λ ss cs. refl; no_declarator = refl; no_param = refl; no_import = refl; no_imports = λ cs. refl; no_params = λ ss cs ts. refl; no_body = λ ss cs ts. refl; no_default = λ ss cs ts. refl; no_case = λ cs. refl; not_absent = λ ss cs. refl; not_listed = λ ss cs. refl; no_specifier = λ b ss cs ts. refl; no_exports = λ b ss cs ts. refl }
blank_of (BoolLit b) e = record { no_vars = refl; no_statements = refl; no_label = λ ss cs. refl; no_declared = λ ss cs. refl; no_declarator = refl; no_param = refl; no_import = refl; no_imports = λ cs. refl; no_params = λ ss cs ts. refl; no_body = λ ss cs ts. refl; no_default = λ ss cs ts. refl; no_case = λ cs. refl; not_absent = λ ss cs. refl; not_listed = λ ss cs. refl; no_specifier = λ b ss cs ts. refl; no_exports = λ b ss cs ts. refl }
blank_of NullLit e = record { no_vars = refl; no_statements = refl; no_label = λ ss cs. refl; no_declared = λ ss cs. refl; no_declarator = refl; no_param = refl; no_import = refl; no_imports = λ cs. refl; no_params = λ ss cs ts. refl; no_body = λ ss cs ts. refl; no_default = λ ss cs ts. refl; no_case = λ cs. refl; not_absent = λ ss cs. refl; not_listed = λ ss cs. refl; no_specifier = λ b ss cs ts. refl; no_exports = λ b ss cs ts. refl }
blank_of (Read x) e = record { no_vars = refl; no_statements = refl; no_label = λ ss cs. refl; no_declared = λ ss cs. refl; no_declarator = refl; no_param = refl; no_import = refl; no_imports = λ cs. refl; no_params = λ ss cs ts. refl; no_body = λ ss cs ts. refl; no_default = λ ss cs ts. refl; no_case = λ cs. refl; not_absent = λ ss cs. refl; not_listed = λ ss cs. refl; no_specifier = λ b ss cs ts. refl; no_exports = λ b ss cs ts. refl }
blank_of (TypeOfName x) e = record { no_vars = refl; no_statements = refl; no_label = λ ss cs. refl; no_declared = λ ss cs. refl; no_declarator = refl; no_param = refl; no_import = refl; no_imports = λ cs. refl; no_params = λ ss cs ts. refl; no_body = λ ss cs ts. refl; no_default = λ ss cs ts. refl; no_case = λ cs. refl; not_absent = λ ss cs. refl; not_listed = λ ss cs. refl; no_specifier = λ b ss cs ts. refl; no_exports = λ b ss cs ts. refl }
blank_of (Shorthand x) e = record { no_vars = refl; no_statements = refl; no_label = λ ss cs. refl; no_declared = λ ss cs. refl; no_declarator = refl; no_param = refl; no_import = refl; no_imports = λ cs. refl; no_params = λ ss cs ts. refl; no_body = λ ss cs ts. refl; no_default = λ ss cs ts. refl; no_case = λ cs. refl; not_absent = λ ss cs. refl; not_listed = λ ss cs. refl; no_specifier = λ b ss cs ts. refl; no_exports = λ b ss cs ts. refl }
blank_of KeyValue e = record { no_vars = refl; no_statements = refl; no_label = λ ss cs. refl; no_declared = λ ss cs. refl; no_declarator = refl; no_param = refl; no_import = refl; no_imports = λ cs. refl; no_params = λ ss cs ts. refl; no_body = λ ss cs ts. refl; no_default = λ ss cs ts. refl; no_case = λ cs. refl; not_absent = λ ss cs. refl; not_listed = λ ss cs. refl; no_specifier = λ b ss cs ts. refl; no_exports = λ b ss cs ts. refl }
blank_of (Unary o) e = record { no_vars = refl; no_statements = refl; no_label = λ ss cs. refl; no_declared = λ ss cs. refl; no_declarator = refl; no_param = refl; no_import = refl; no_imports = λ cs. refl; no_params = λ ss cs ts. refl; no_body = λ ss cs ts. refl; no_default = λ ss cs ts. refl; no_case = λ cs. refl; not_absent = λ ss cs. refl; not_listed = λ ss cs. refl; no_specifier = λ b ss cs ts. refl; no_exports = λ b ss cs ts. refl }
blank_of l e = absurd (false≢true e)

-- a leaf, or what is put in its place: it binds nothing, and no jump leads out of it
pub record Leaf (V F : Type 0) (t u : Tree) : Type 0 where
  pub before : (x : Name) → scopes x t ≡ 0
  pub behind : (x : Name) → scopes x u ≡ 0
  pub aimed_too : (g : Targets) → aimed g u ≡ true
  pub apart_too : apart u ≡ true
  pub valid_too : V → valid t ≡ true → valid u ≡ true
  pub fits_too : F → fits t ≡ true → fits u ≡ true

pub data Like (V F : Type 0) (B : Name → Bool) : Forest → Forest → Type 0 where
  like_none : Like V F B ε ε
  like_more : (l : Label) {ss rs : List Span} {cs ds ts us : Forest} → Like V F B cs ds → Like V F B ts us → Like V F B (node l ss cs ⊳ ts) (node l rs ds ⊳ us)
  like_leaf : (l m : Label) {ss rs : List Span} {cs ds ts us : Forest} → is_blank l ≡ true → is_blank m ≡ true → Leaf V F (node l ss cs) (node m rs ds) → Like V F B ts us → Like V F B (node l ss cs ⊳ ts) (node m rs ds ⊳ us)
  like_export : (y x : Name) (o : Option Text) (w : Text) {ss rs : List Span} {cs ds ts us : Forest} → B x ≡ true → (V → is_identifier y.text ≡ true → is_identifier x.text ≡ true) → (V → is_identifier y.text ≡ true → is_optional_word o ≡ true → is_word w ≡ true) → Like V F B cs ds → Like V F B ts us
      → Like V F B (node (ExportSpecifier y o) ss cs ⊳ ts) (node (ExportSpecifier x (Some w)) rs ds ⊳ us)

-- along two equalities
subst₂ : (P : Forest → Forest → Type 0) {a b c d : Forest} → a ≡ b → c ≡ d → P a c → P b d
subst₂ P {a} {b} {c} {d} p q h = subst (λ x. P b x) q (subst (λ x. P x c) p h)

if_false : (b : Bool) (xs : List Name) → b ≡ false → (if b then xs else []) ≡ []
if_false false xs e = refl
if_false true xs e = absurd (true≢false e)

blank_vars : (l : Label) → Blank l → (cs : Forest) → own_vars l ++ (if holds_statements l then vars_all cs else []) ≡ []
blank_vars l b cs = ap₂ ◌++◌ b.no_vars (if_false (holds_statements l) (vars_all cs) b.no_statements)

label_like : (l : Label) (ss rs : List Span) (cs ds : Forest) → declarator_names cs ≡ declarator_names ds → first_names (declared_by_label l ss cs) ≡ first_names (declared_by_label l rs ds)
label_like (VarDecl Var) ss rs cs ds e = refl
label_like (VarDecl Let) ss rs cs ds e = ap (λ xs. first_names (as_lexicals true xs)) e
label_like (VarDecl Const) ss rs cs ds e = ap (λ xs. first_names (as_lexicals false xs)) e
label_like (FnDecl y) ss rs cs ds e = refl
label_like (ExportDefaultFn o) ss rs cs ds e = refl
label_like ExportDefaultExpr ss rs cs ds e = refl
label_like l ss rs cs ds e = refl

module _ {V F : Type 0} {B : Name → Bool} where
  -- names

  pub vars_like : {ts us : Forest} → Like V F B ts us → vars_all ts ≡ vars_all us
  vars_like like_none = refl
  vars_like (like_more l h k) = ap₂ (λ xs ys. (own_vars l ++ (if holds_statements l then xs else [])) ++ ys) (vars_like h) (vars_like k)
  vars_like (like_leaf l m {cs = cs} {ds} a b p k) = ap₂ ◌++◌ (blank_vars l (blank_of l a) cs ∙ sym (blank_vars m (blank_of m b) ds)) (vars_like k)
  vars_like (like_export y x o w b v i h k) = vars_like k

  pub params_like : {ts us : Forest} → Like V F B ts us → param_names ts ≡ param_names us
  params_like like_none = refl
  params_like (like_more l h k) = ap (λ xs. param_name l ++ xs) (params_like k)
  params_like (like_leaf l m a b p k) = ap₂ ◌++◌ ((blank_of l a).no_param ∙ sym (blank_of m b).no_param) (params_like k)
  params_like (like_export y x o w b v i h k) = params_like k

  specifiers_like : {ts us : Forest} → Like V F B ts us → specifier_names ts ≡ specifier_names us
  specifiers_like like_none = refl
  specifiers_like (like_more l h k) = ap (λ xs. imported_name l ++ xs) (specifiers_like k)
  specifiers_like (like_leaf l m a b p k) = ap₂ ◌++◌ ((blank_of l a).no_import ∙ sym (blank_of m b).no_import) (specifiers_like k)
  specifiers_like (like_export y x o w b v i h k) = specifiers_like k

  imported_like : (l : Label) {ts us : Forest} → Like V F B ts us → import_names_of l ts ≡ import_names_of l us
  imported_like (Import src) h = specifiers_like h
  imported_like l h = refl

  pub imports_like : {ts us : Forest} → Like V F B ts us → import_names ts ≡ import_names us
  imports_like like_none = refl
  imports_like (like_more l h k) = ap₂ ◌++◌ (imported_like l h) (imports_like k)
  imports_like (like_leaf l m {cs = cs} {ds} a b p k) = ap₂ ◌++◌ ((blank_of l a).no_imports cs ∙ sym ((blank_of m b).no_imports ds)) (imports_like k)
  imports_like (like_export y x o w b v i h k) = imports_like k

  declarators_like : {ts us : Forest} → Like V F B ts us → declarator_names ts ≡ declarator_names us
  declarators_like like_none = refl
  declarators_like (like_more l h k) = ap (λ xs. declarator_name l ++ xs) (declarators_like k)
  declarators_like (like_leaf l m a b p k) = ap₂ ◌++◌ ((blank_of l a).no_declarator ∙ sym (blank_of m b).no_declarator) (declarators_like k)
  declarators_like (like_export y x o w b v i h k) = declarators_like k

  declared_like : (l : Label) (ss rs : List Span) {cs ds : Forest} → Like V F B cs ds → first_names (declared_by (node l ss cs)) ≡ first_names (declared_by (node l rs ds))
  declared_like ExportDecl ss rs like_none = refl
  declared_like ExportDecl ss rs (like_more l {ss = us} {rs = vs} {cs = cs} {ds = ds} h k) = label_like l us vs cs ds (declarators_like h)
  declared_like ExportDecl ss rs (like_leaf l m {ss = us} {rs = vs} {cs = cs} {ds = ds} a b p k) = ap first_names ((blank_of l a).no_label us cs ∙ sym ((blank_of m b).no_label vs ds))
  declared_like ExportDecl ss rs (like_export y x o w b v i h k) = refl
  declared_like l ss rs {cs} {ds} h = label_like l ss rs cs ds (declarators_like h)

  pub names_like : {ts us : Forest} → Like V F B ts us → list_names ts ≡ list_names us
  names_like like_none = refl
  names_like (like_more l {ss} {rs} {cs} {ds} {ts} {us} h k) = first_names_append (declared_by (node l ss cs)) (declared ts) ∙ ap₂ ◌++◌ (declared_like l ss rs h) (names_like k) ∙ sym (first_names_append (declared_by (node l rs ds)) (declared us))
  names_like (like_leaf l m {ss} {rs} {cs} {ds} {ts} {us} a b p k) = first_names_append (declared_by (node l ss cs)) (declared ts) ∙ ap₂ ◌++◌ (ap first_names ((blank_of l a).no_declared ss cs ∙ sym ((blank_of m b).no_declared rs ds))) (names_like k) ∙ sym (first_names_append (declared_by (node m rs ds)) (declared us))
  names_like (like_export y x o w b v i h k) = names_like k

  pub binds_like : (x : Name) {ts us : Forest} → Like V F B ts us → list_binds ts x ≡ list_binds us x
  binds_like x {ts} {us} h = found_first x (declared ts) ∙ ap (has_name x) (names_like h) ∙ sym (found_first x (declared us))

  pub body_like : (x : Name) {ts us : Forest} → Like V F B ts us → body_declares ts x ≡ body_declares us x
  body_like x h = ap₂ ◌||◌ (ap (has_name x) (vars_like h)) (binds_like x h)

  pub module_like : (x : Name) {ts us : Forest} → Like V F B ts us → module_binds ts x ≡ module_binds us x
  module_like x h = ap₂ ◌||◌ (ap (has_name x) (imports_like h)) (body_like x h)

  -- a function's parts

  pub params_of_like : {ts us : Forest} → Like V F B ts us → Like V F B (params_of ts) (params_of us)
  params_of_like like_none = like_none
  params_of_like (like_more Params h k) = h
  params_of_like (like_more l h k) = params_of_like k
  params_of_like (like_leaf l m {ss} {rs} {cs} {ds} {ts} {us} a b p k) = subst₂ (Like V F B) (sym ((blank_of l a).no_params ss cs ts)) (sym ((blank_of m b).no_params rs ds us)) (params_of_like k)
  params_of_like (like_export y x o w b v i h k) = params_of_like k

  pub body_of_like : {ts us : Forest} → Like V F B ts us → Like V F B (body_of ts) (body_of us)
  body_of_like like_none = like_none
  body_of_like (like_more Body h k) = h
  body_of_like (like_more l h k) = body_of_like k
  body_of_like (like_leaf l m {ss} {rs} {cs} {ds} {ts} {us} a b p k) = subst₂ (Like V F B) (sym ((blank_of l a).no_body ss cs ts)) (sym ((blank_of m b).no_body rs ds us)) (body_of_like k)
  body_of_like (like_export y x o w b v i h k) = body_of_like k

  pub default_like : {ts us : Forest} → Like V F B ts us → has_default ts ≡ has_default us
  default_like like_none = refl
  default_like (like_more (Param x) like_none k) = default_like k
  default_like (like_more (Param x) (like_more m h i) k) = refl
  default_like (like_more (Param x) (like_leaf m o a b p i) k) = refl
  default_like (like_more (Param x) (like_export z y o w b v i h j) k) = refl
  default_like (like_more l h k) = default_like k
  default_like (like_leaf l m {ss} {rs} {cs} {ds} {ts} {us} a b p k) = (blank_of l a).no_default ss cs ts ∙ default_like k ∙ sym ((blank_of m b).no_default rs ds us)
  default_like (like_export y x o w b v i h k) = default_like k

  -- cases

  joined_like : {ts us vs ws : Forest} → Like V F B ts us → Like V F B vs ws → Like V F B (joined ts vs) (joined us ws)
  joined_like like_none k = k
  joined_like (like_more l h i) k = like_more l h (joined_like i k)
  joined_like (like_leaf l m a b p i) k = like_leaf l m a b p (joined_like i k)
  joined_like (like_export y x o w b v i h j) k = like_export y x o w b v i h (joined_like j k)

  statements_like : (l : Label) {ts us : Forest} → Like V F B ts us → Like V F B (body_statements l ts) (body_statements l us)
  statements_like CaseBody h = h
  statements_like l h = like_none

  pub cases_like : {ts us : Forest} → Like V F B ts us → Like V F B (case_statements ts) (case_statements us)
  cases_like like_none = like_none
  cases_like (like_more l h k) = joined_like (statements_like l h) (cases_like k)
  cases_like (like_leaf l m {cs = cs} {ds} {ts} {us} a b p k) = subst₂ (λ vs ws. Like V F B (joined vs (case_statements ts)) (joined ws (case_statements us))) (sym ((blank_of l a).no_case cs)) (sym ((blank_of m b).no_case ds)) (cases_like k)
  cases_like (like_export y x o w b v i h k) = cases_like k

  pub first_like : {ts us : Forest} → Like V F B ts us → Like V F B (first_tree ts ⊳ ε) (first_tree us ⊳ ε)
  first_like like_none = like_more Absent like_none like_none
  first_like (like_more l h k) = like_more l h like_none
  first_like (like_leaf l m a b p k) = like_leaf l m a b p like_none
  first_like (like_export y x o w b v i h k) = like_export y x o w b v i h like_none

  pub like_itself : (ts : Forest) → Like V F B ts ts
  like_itself ε = like_none
  like_itself (node l ss cs ⊳ ts) = like_more l (like_itself cs) (like_itself ts)
