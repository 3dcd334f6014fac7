-- What a renamed tree declares: the new names of what the tree declares.
use Rattle.std.proofs.Common.{◌≡◌, Bool, true, false, ◌||◌, List, [], ◌∷◌, ◌++◌, Option, Some, None, refl, sym, ap, ap₂, subst, cond, ◌∙◌, if◌then◌else◌}
use Rattle.swc_ast.specs.declared.Span.{Span}
use Rattle.swc_ast.specs.declared.VarDeclKind.TheVariants.{Var, Let, Const}
use Rattle.swc_ast.specs.Sorts as by_sort
use Rattle.swc_ast.specs.Sorts.{PropLabel}
use Rattle.swc_ast.specs.Tree.{Name, Label, Block, If, While, DoWhile, For, Labeled, Switch, Try, Param, VarDecl, Declarator, FnDecl, ExportDecl, ExportDefaultFn, ExportDefaultExpr, CaseBody, Tree, node, Forest, ε, ◌⊳◌}
use Rattle.swc_ast.specs.Scope.{default_name, has_name, declarator_name, declarator_names, vars, vars_all, Declaration, Lexical, Function, Declared, as_lexicals, name_or_default, declared_by_label, declared_by, declared, found, list_binds, param_name, param_names, body_declares, joined, body_statements, case_statements}
use Rattle.swc_ast.specs.Meaning.{copied_names, first_tree}
use Rattle.rename_rules.specs.Renamed.{new_option, new_label, new_children, new_spans, renamed, renamed_all}
use Rattle.rename_proofs.proofs.Relation.{Pairing, Maybe, neither, both}
use Rattle.rename_proofs.proofs.Stores.{same_new}
use Rattle.rename_proofs.proofs.Statements.{SameList, SameHead, SameDeclaration, lexical, declared_function, is_found_same}

-- what a property by its name alone does not have, nor one that it becomes
pub of_field : {A : Type 0} (F : PropLabel → A) (b : Bool) (x : Name) (a : A) → F (by_sort.Shorthand x) ≡ a → F by_sort.KeyValue ≡ a → F (if b then by_sort.Shorthand x else by_sort.KeyValue) ≡ a
of_field F true x a p q = p
of_field F false x a p q = q

module _ (P : Pairing) where
  -- lists of names

  abbrev pub new_names : List Name → List Name
  new_names [] = []
  new_names (x ∷ xs) = P.to x ∷ new_names xs

  pub names_append : (xs ys : List Name) → new_names (xs ++ ys) ≡ new_names xs ++ new_names ys
  names_append [] ys = refl
  names_append (x ∷ xs) ys = ap (λ zs. P.to x ∷ zs) (names_append xs ys)

  pub has_new : (x : Name) (ys : List Name) → has_name x ys ≡ has_name (P.to x) (new_names ys)
  has_new x [] = refl
  has_new x (y ∷ ys) = ap₂ ◌||◌ (sym (same_new P x y)) (has_new x ys)

  -- lists of declarations

  abbrev pub new_declaration : Declaration → Declaration
  new_declaration (Lexical w) = Lexical w
  new_declaration (Function f) = Function (renamed P.to f)

  abbrev pub new_declared : List Declared → List Declared
  new_declared [] = []
  new_declared (p ∷ ps) = (P.to p.0, new_declaration p.1) ∷ new_declared ps

  pub declared_append : (ps qs : List Declared) → new_declared (ps ++ qs) ≡ new_declared ps ++ new_declared qs
  declared_append [] qs = refl
  declared_append (p ∷ ps) qs = ap (λ rs. (P.to p.0, new_declaration p.1) ∷ rs) (declared_append ps qs)

  same_declaration : (d : Declaration) → SameDeclaration P d (new_declaration d)
  same_declaration (Lexical w) = lexical w
  same_declaration (Function f) = declared_function (record { is = refl })

  one_found : (b d : Bool) → b ≡ d → (a : Declaration) {o p : Option Declaration} → Maybe (SameDeclaration P) o p → Maybe (SameDeclaration P) (cond b (Some a) o) (cond d (Some (new_declaration a)) p)
  one_found true true e a h = both (same_declaration a)
  one_found false false e a h = h
  one_found true false e a h = cc
  one_found false true e a h = cc

  pub found_new : (x : Name) (ps : List Declared) → Maybe (SameDeclaration P) (found x ps) (found (P.to x) (new_declared ps))
  found_new x [] = neither
  found_new x (p ∷ ps) = one_found _ _ (sym (same_new P p.0 x)) p.1 (found_new x ps)

  -- what labels declare

  declarator_new : (l : Label) → declarator_name (new_label P.to l) ≡ new_names (declarator_name l)
  declarator_new (Declarator kind x) = refl
  declarator_new _ = refl

  pub declarators_new : (ts : Forest) → declarator_names (renamed_all P.to ts) ≡ new_names (declarator_names ts)
  unfolding renamed
  declarators_new ε = refl
  declarators_new (node l ss cs ⊳ ts) = ap₂ ◌++◌ (declarator_new l) (declarators_new ts) ∙ sym (names_append (declarator_name l) (declarator_names ts))

  lexicals_new : (w : Bool) (xs : List Name) → as_lexicals w (new_names xs) ≡ new_declared (as_lexicals w xs)
  lexicals_new w [] = refl
  lexicals_new w (x ∷ xs) = ap (λ ps. (P.to x, Lexical w) ∷ ps) (lexicals_new w xs)

  -- the name of a default export stays
  pub default_stays : P.to default_name ≡ default_name
  default_stays = P.is.hosts_stay default_name refl

  or_default_new : (o : Option Name) → name_or_default (new_option P.to o) ≡ P.to (name_or_default o)
  or_default_new None = sym default_stays
  or_default_new (Some x) = refl

  by_label_new : (l : Label) (ss : List Span) (cs : Forest) → declared_by_label (new_label P.to l) (new_spans P.to l ss) (new_children P.to l ss (renamed_all P.to cs)) ≡ new_declared (declared_by_label l ss cs)
  unfolding renamed
  by_label_new (VarDecl Let) ss cs = ap (as_lexicals true) (declarators_new cs) ∙ lexicals_new true (declarator_names cs)
  by_label_new (VarDecl Const) ss cs = ap (as_lexicals false) (declarators_new cs) ∙ lexicals_new false (declarator_names cs)
  by_label_new (VarDecl Var) ss cs = refl
  by_label_new (FnDecl x) ss cs = refl
  by_label_new (ExportDefaultFn o) ss cs = ap (λ (z : Name). (z, Function (node (ExportDefaultFn (new_option P.to o)) ss (renamed_all P.to cs))) ∷ []) (or_default_new o)
  by_label_new ExportDefaultExpr ss cs = ap (λ (z : Name). (z, Lexical false) ∷ []) (sym default_stays)
  by_label_new _ ss cs = refl

  by_new : (t : Tree) → declared_by (renamed P.to t) ≡ new_declared (declared_by t)
  unfolding renamed
  by_new (node ExportDecl ss ε) = refl
  by_new (node ExportDecl ss (node l rs cs ⊳ us)) = by_label_new l rs cs
  by_new (node l ss cs) = by_label_new l ss cs

  pub declared_new : (ts : Forest) → declared (renamed_all P.to ts) ≡ new_declared (declared ts)
  unfolding renamed
  declared_new ε = refl
  declared_new (t ⊳ ts) = ap₂ ◌++◌ (by_new t) (declared_new ts) ∙ sym (declared_append (declared_by t) (declared ts))

  -- variables

  mutual
    unfolding renamed

    pub vars_new : (t : Tree) → vars (renamed P.to t) ≡ new_names (vars t)
    vars_new (node Block ss cs) = vars_all_new cs
    vars_new (node If ss cs) = vars_all_new cs
    vars_new (node While ss cs) = vars_all_new cs
    vars_new (node DoWhile ss cs) = vars_all_new cs
    vars_new (node For ss cs) = vars_all_new cs
    vars_new (node (Labeled l) ss cs) = vars_all_new cs
    vars_new (node (Switch ds) ss cs) = vars_all_new cs
    vars_new (node CaseBody ss cs) = vars_all_new cs
    vars_new (node (Try o) ss cs) = vars_all_new cs
    vars_new (node (VarDecl kind) ss cs) = vars_all_new cs
    vars_new (node ExportDecl ss cs) = vars_all_new cs
    vars_new (node (Declarator Var x) ss cs) = refl
    vars_new (node (Declarator Let x) ss cs) = refl
    vars_new (node (Declarator Const x) ss cs) = refl
    vars_new (node _ ss cs) = refl

    pub vars_all_new : (ts : Forest) → vars_all (renamed_all P.to ts) ≡ new_names (vars_all ts)
    vars_all_new ε = refl
    vars_all_new (t ⊳ ts) = ap₂ ◌++◌ (vars_new t) (vars_all_new ts) ∙ sym (names_append (vars t) (vars_all ts))

  -- what lists and bodies bind

  pub same_list : (ts : Forest) → SameList P ts (renamed_all P.to ts)
  same_list ts = record { at = λ x. subst (λ ps. Maybe (SameDeclaration P) (found x (declared ts)) (found (P.to x) ps)) (sym (declared_new ts)) (found_new x (declared ts)) }

  pub binds_new : (ts : Forest) (x : Name) → list_binds ts x ≡ list_binds (renamed_all P.to ts) (P.to x)
  binds_new ts x = is_found_same x (P.to x) (declared ts) (declared (renamed_all P.to ts)) ((same_list ts).at x)

  pub declares_new : (ts : Forest) (x : Name) → body_declares ts x ≡ body_declares (renamed_all P.to ts) (P.to x)
  declares_new ts x = ap₂ ◌||◌ (has_new x (vars_all ts) ∙ ap (has_name (P.to x)) (sym (vars_all_new ts))) (binds_new ts x)

  param_new : (l : Label) → param_name (new_label P.to l) ≡ new_names (param_name l)
  param_new (Param x) = refl
  param_new _ = refl

  pub params_new : (ts : Forest) → param_names (renamed_all P.to ts) ≡ new_names (param_names ts)
  unfolding renamed
  params_new ε = refl
  params_new (node l ss cs ⊳ ts) = ap₂ ◌++◌ (param_new l) (params_new ts) ∙ sym (names_append (param_name l) (param_names ts))

  -- heads of `for`, and cases

  pub first_new : (ts : Forest) → first_tree (renamed_all P.to ts) ≡ renamed P.to (first_tree ts)
  unfolding renamed
  first_new ε = refl
  first_new (t ⊳ ts) = refl

  copied_new : (t : Tree) → copied_names (renamed P.to t) ≡ new_declared (copied_names t)
  unfolding renamed
  copied_new (node (VarDecl Let) ss cs) = declared_new (node (VarDecl Let) ss cs ⊳ ε)
  copied_new (node (VarDecl Const) ss cs) = refl
  copied_new (node (VarDecl Var) ss cs) = refl
  copied_new (node _ ss cs) = refl

  pub same_head : (t : Tree) → SameHead P t (renamed P.to t)
  unfolding renamed
  same_head t = record {
    names = (same_list (t ⊳ ε)).at;
    copied = λ x. is_found_same x (P.to x) (copied_names t) (copied_names (renamed P.to t)) (subst (λ ps. Maybe (SameDeclaration P) (found x (copied_names t)) (found (P.to x) ps)) (sym (copied_new t)) (found_new x (copied_names t)));
  }

  joined_new : (ts us : Forest) → renamed_all P.to (joined ts us) ≡ joined (renamed_all P.to ts) (renamed_all P.to us)
  unfolding renamed
  joined_new ε us = refl
  joined_new (t ⊳ ts) us = ap (λ vs. renamed P.to t ⊳ vs) (joined_new ts us)

  case_new : (l : Label) (ss : List Span) (cs : Forest) → body_statements (new_label P.to l) (new_children P.to l ss (renamed_all P.to cs)) ≡ renamed_all P.to (body_statements l cs)
  unfolding renamed
  case_new CaseBody ss cs = refl
  case_new _ ss cs = refl

  pub cases_new : (ts : Forest) → case_statements (renamed_all P.to ts) ≡ renamed_all P.to (case_statements ts)
  unfolding renamed
  cases_new ε = refl
  cases_new (node l ss cs ⊳ ts) = ap₂ joined (case_new l ss cs) (cases_new ts) ∙ sym (joined_new (body_statements l cs) (case_statements ts))

  pub same_cases : (ts : Forest) → SameList P (case_statements ts) (case_statements (renamed_all P.to ts))
  same_cases ts = subst (SameList P (case_statements ts)) (sym (cases_new ts)) (same_list (case_statements ts))
