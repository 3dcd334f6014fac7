-- Names that are ready where a scope opens are declared by no `let` or `const`.
use Rattle.std.proofs.Common.{◌≡◌, Bool, true, false, List, Option, Some, None, sym, subst, ◌∙◌, ◌⊎◌, inl, inr}
use Rattle.std.proofs.lemmas.Bool.{or_cases, false≢true}
use Rattle.swc_ast.specs.declared.Span.{Span}
use Rattle.swc_ast.specs.Tree.{Name, same_name, Label, Fn, Params, Param, Body, CaseBody, Block, Switch, Try, Module, Script, FnDecl, ExportDecl, ExportDefaultFn, Tree, node, Forest, ε, ◌⊳◌}
use Rattle.swc_ast.specs.Scope.{has_name, option_name, default_name, param_name, param_names, joined, body_statements, case_statements}
use Rattle.static_proofs.proofs.Names.{same_name_path, has_name_append}
use Rattle.carry_rules.specs.Carry.{Facts, function_name, item_function, list_functions, ready_at}
use Rattle.carry_rules.proofs.Sound.{fixed, Other, OtherOption, Sits, every, every_all}

module _ (F : Facts) (lex : Name → Bool) (free : fixed F default_name ≡ false) (set : F.unset default_name ≡ false) where
  -- the statements of cases

  every_joined : (ts us : Forest) → every_all F lex ts → every_all F lex us → every_all F lex (joined ts us)
  every_joined ε us h k = k
  every_joined (t ⊳ ts) us h k = (h.0, every_joined ts us h.1 k)

  every_body : (l : Label) (cs : Forest) → every_all F lex cs → every_all F lex (body_statements l cs)
  every_body CaseBody cs h = h
  every_body l cs h = tt

  pub every_case : (ts : Forest) → every_all F lex ts → every_all F lex (case_statements ts)
  every_case ε h = tt
  every_case (node l ss cs ⊳ ts) h = every_joined (body_statements l cs) (case_statements ts) (every_body l cs h.0.1) (every_case ts h.1)

  -- parameters and own names

  own_param : (x : Name) (l : Label) → Sits F lex l → has_name x (param_name l) ≡ true → Other F lex x
  own_param x (Param y) h e = by (or_cases (same_name x y) false e)
    where
      by : (same_name x y ≡ true) ⊎ (false ≡ true) → Other F lex x
      by (inl f) = subst (Other F lex) (sym (same_name_path x y f)) h
      by (inr f) = absurd (false≢true f)
  own_param x l h e = absurd (false≢true e)

  params_other : (x : Name) (ts : Forest) → every_all F lex ts → has_name x (param_names ts) ≡ true → Other F lex x
  params_other x ε h e = absurd (false≢true e)
  params_other x (node l ss cs ⊳ ts) h e = by (or_cases (has_name x (param_name l)) (has_name x (param_names ts)) (sym (has_name_append x (param_name l) (param_names ts)) ∙ e)) (params_other x ts h.1)
    where
      by : (has_name x (param_name l) ≡ true) ⊎ (has_name x (param_names ts) ≡ true) → (has_name x (param_names ts) ≡ true → Other F lex x) → Other F lex x
      by (inl f) g = own_param x l h.0.0 f
      by (inr f) g = g f

  own_name : (x : Name) (o : Option Name) → OtherOption F lex o → has_name x (option_name o) ≡ true → Other F lex x
  own_name x None h e = absurd (false≢true e)
  own_name x (Some y) h e = own_param x (Param y) h e

  -- functions that a list declares

  own_function : (x : Name) (l : Label) → Sits F lex l → has_name x (function_name l) ≡ true → Other F lex x
  own_function x (FnDecl y) h e = own_param x (Param y) h e
  own_function x (ExportDefaultFn o) h e = own_name x o h e
  own_function x l h e = absurd (false≢true e)

  item_other : (x : Name) (t : Tree) → every F lex t → has_name x (item_function t) ≡ true → Other F lex x
  item_other x (node ExportDecl ss ε) h e = absurd (false≢true e)
  item_other x (node ExportDecl ss (node l rs cs ⊳ us)) h e = own_function x l h.1.0.0 e
  item_other x (node l ss cs) h e = own_function x l h.0 e

  list_other : (x : Name) (ts : Forest) → every_all F lex ts → has_name x (list_functions ts) ≡ true → Other F lex x
  list_other x ε h e = absurd (false≢true e)
  list_other x (t ⊳ ts) h e = by (or_cases (has_name x (item_function t)) (has_name x (list_functions ts)) (sym (has_name_append x (item_function t) (list_functions ts)) ∙ e)) (list_other x ts h.1)
    where
      by : (has_name x (item_function t) ≡ true) ⊎ (has_name x (list_functions ts) ≡ true) → (has_name x (list_functions ts) ≡ true → Other F lex x) → Other F lex x
      by (inl f) g = item_other x t h.0 f
      by (inr f) g = g f

  -- what is ready at the head of a node
  pub ready_other : (l : Label) (ss : List Span) (cs : Forest) → every F lex (node l ss cs) → (x : Name) → ready_at l cs x ≡ true → Other F lex x
  ready_other (Fn o) ss cs h x e = own_name x o h.0 e
  ready_other (Try (Some o)) ss cs h x e = own_name x o h.0 e
  ready_other Params ss cs h x e = params_other x cs h.1 e
  ready_other Body ss cs h x e = list_other x cs h.1 e
  ready_other Block ss cs h x e = list_other x cs h.1 e
  ready_other Module ss cs h x e = list_other x cs h.1 e
  ready_other Script ss cs h x e = list_other x cs h.1 e
  ready_other (Switch ds) ss cs h x e = list_other x (case_statements cs) (every_case cs h.1) e
  ready_other l ss cs h x e = absurd (false≢true e)
