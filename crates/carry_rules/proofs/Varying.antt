-- Where variables are declared in a tree.
use Rattle.std.proofs.Common.{◌≡◌, ◌≤◌, Bool, true, false, not, ◌||◌, List, [], ◌∷◌, ◌++◌, refl, sym, ap, ap₂, subst, ◌∙◌, arith, ◌⊎◌, inl, inr, if◌then◌else◌}
use Rattle.std.proofs.lemmas.Bool.{and_parts, and_from, or_cases, or_left, or_right, false≢true, true≢false}
use Rattle.swc_ast.specs.Labels.{is_params, is_body, is_param}
use Rattle.swc_ast.specs.declared.Span.{Span}
use Rattle.swc_ast.specs.declared.VarDeclKind.TheVariants.{Var, Let, Const}
use Rattle.swc_ast.specs.Tree.{Name, same_name, Label, Method, Fn, Arrow, Params, Body, Param, Block, If, While, DoWhile, For, Labeled, Switch, CaseBody, Try, VarDecl, Declarator, FnDecl, Module, Script, Import, ImportNamed, ImportDefault, ImportStar, ExportDecl, ExportDefaultFn, Tree, node, Forest, ε, ◌⊳◌}
use Rattle.swc_ast.specs.Scope.{has_name, own_vars, holds_statements, vars, vars_all}
use Rattle.static_proofs.specs.Shaped.{is_inner, is_specifier, is_body_or_inner, are_parts, are_method_parts, labels_of, all_labels, holds}
use Rattle.static_proofs.proofs.Names.{has_name_append}
use Rattle.carry_rules.specs.Carry.{declares, one, how_many, how_many_in}
use Rattle.carry_rules.proofs.Sound.{declares_at}
use Rattle.carry_rules.proofs.Places.{all_are}

-- a node that declares no variable, in itself or below
abbrev pub bare : Label → Bool
bare (Declarator Var x) = false
bare l = not (holds_statements l)

-- a list of statements that is a scope of variables
abbrev pub is_root : Label → Bool
is_root Body = true
is_root Module = true
is_root Script = true
is_root _ = false

pub bare_vars : (l : Label) (ss : List Span) (cs : Forest) → bare l ≡ true → vars (node l ss cs) ≡ []
bare_vars (Declarator Var x) ss cs e = absurd (false≢true e)
bare_vars (Declarator Let x) ss cs e = refl
bare_vars (Declarator Const x) ss cs e = refl
bare_vars Block ss cs e = absurd (false≢true e)
bare_vars If ss cs e = absurd (false≢true e)
bare_vars While ss cs e = absurd (false≢true e)
bare_vars DoWhile ss cs e = absurd (false≢true e)
bare_vars For ss cs e = absurd (false≢true e)
bare_vars (Labeled n) ss cs e = absurd (false≢true e)
bare_vars (Switch ds) ss cs e = absurd (false≢true e)
bare_vars CaseBody ss cs e = absurd (false≢true e)
bare_vars (Try o) ss cs e = absurd (false≢true e)
bare_vars (VarDecl k) ss cs e = absurd (false≢true e)
bare_vars ExportDecl ss cs e = absurd (false≢true e)
bare_vars l ss cs e = refl

pub bare_all : (ts : Forest) → all_labels bare (labels_of ts) ≡ true → vars_all ts ≡ []
bare_all ε e = refl
bare_all (node l ss cs ⊳ ts) e = let q = and_parts (bare l) (all_labels bare (labels_of ts)) e in ap₂ ◌++◌ (bare_vars l ss cs q.0) (bare_all ts q.1)

pub inner_bare : (l : Label) → is_inner l ≡ true → bare l ≡ true
inner_bare (Declarator k x) e = absurd (false≢true e)
inner_bare Block e = absurd (false≢true e)
inner_bare If e = absurd (false≢true e)
inner_bare While e = absurd (false≢true e)
inner_bare DoWhile e = absurd (false≢true e)
inner_bare For e = absurd (false≢true e)
inner_bare (Labeled n) e = absurd (false≢true e)
inner_bare (Switch ds) e = absurd (false≢true e)
inner_bare CaseBody e = absurd (false≢true e)
inner_bare (Try o) e = absurd (false≢true e)
inner_bare (VarDecl k) e = absurd (false≢true e)
inner_bare ExportDecl e = absurd (false≢true e)
inner_bare l e = refl

params_bare : (l : Label) → is_params l ≡ true → bare l ≡ true
params_bare Params e = refl
params_bare l e = absurd (false≢true e)

pub param_bare : (l : Label) → is_param l ≡ true → bare l ≡ true
param_bare (Param x) e = refl
param_bare l e = absurd (false≢true e)

specifier_bare : (l : Label) → is_specifier l ≡ true → bare l ≡ true
specifier_bare (ImportNamed x o) e = refl
specifier_bare (ImportDefault x) e = refl
specifier_bare (ImportStar x) e = refl
specifier_bare l e = absurd (false≢true e)

pub body_bare : (l : Label) → is_body l ≡ true → bare l ≡ true
body_bare Body e = refl
body_bare l e = absurd (false≢true e)

pub part_bare : (l : Label) → is_body_or_inner l ≡ true → bare l ≡ true
part_bare Body e = refl
part_bare l e = inner_bare l e

pub parts_bare : (q : Label → Bool) → ((l : Label) → q l ≡ true → bare l ≡ true) → (ls : List Label) → are_parts q ls ≡ true → all_labels bare ls ≡ true
parts_bare q g [] e = absurd (false≢true e)
parts_bare q g (l ∷ []) e = absurd (false≢true e)
parts_bare q g (l ∷ m ∷ []) e = let r = and_parts (is_params l) (q m) e in and_from (bare l) (all_labels bare (m ∷ [])) (params_bare l r.0) (and_from (bare m) true (g m r.1) refl)
parts_bare q g (l ∷ m ∷ n ∷ ls) e = absurd (false≢true e)

method_bare : (ls : List Label) → are_method_parts ls ≡ true → all_labels bare ls ≡ true
method_bare [] e = absurd (false≢true e)
method_bare (l ∷ ls) e = let r = and_parts (is_inner l) (are_parts is_body ls) e in and_from (bare l) (all_labels bare ls) (inner_bare l r.0) (parts_bare is_body body_bare ls r.1)

-- below a node that holds no statements no variable is declared
pub bare_children : (l : Label) (ls : List Label) → holds_statements l ≡ false → is_root l ≡ false → holds l ls ≡ true → all_labels bare ls ≡ true
bare_children Body ls n r h = absurd (true≢false r)
bare_children Module ls n r h = absurd (true≢false r)
bare_children Script ls n r h = absurd (true≢false r)
bare_children (Fn o) ls n r h = parts_bare is_body body_bare ls h
bare_children (FnDecl x) ls n r h = parts_bare is_body body_bare ls h
bare_children (ExportDefaultFn o) ls n r h = parts_bare is_body body_bare ls h
bare_children Arrow ls n r h = parts_bare is_body_or_inner part_bare ls h
bare_children Method ls n r h = method_bare ls h
bare_children Params ls n r h = all_are is_param bare param_bare ls h
bare_children (Import src) ls n r h = all_are is_specifier bare specifier_bare ls h
bare_children Block ls n r h = absurd (true≢false n)
bare_children If ls n r h = absurd (true≢false n)
bare_children While ls n r h = absurd (true≢false n)
bare_children DoWhile ls n r h = absurd (true≢false n)
bare_children For ls n r h = absurd (true≢false n)
bare_children (Labeled t) ls n r h = absurd (true≢false n)
bare_children (Switch ds) ls n r h = absurd (true≢false n)
bare_children CaseBody ls n r h = absurd (true≢false n)
bare_children (Try o) ls n r h = absurd (true≢false n)
bare_children (VarDecl k) ls n r h = absurd (true≢false n)
bare_children ExportDecl ls n r h = absurd (true≢false n)
bare_children l ls n r h = all_are is_inner bare inner_bare ls h

-- a variable that is declared below a node is declared in it
pub vars_inside : (l : Label) (ss : List Span) (cs : Forest) (x : Name) → is_root l ≡ false → holds l (labels_of cs) ≡ true → has_name x (vars_all cs) ≡ true → has_name x (vars (node l ss cs)) ≡ true
vars_inside l ss cs x r h e = by (holds_statements l) refl
  where
    at : (b : Bool) → b ≡ true → has_name x (if b then vars_all cs else []) ≡ true
    at true f = e
    at false f = absurd (false≢true f)

    by : (b : Bool) → holds_statements l ≡ b → has_name x (vars (node l ss cs)) ≡ true
    by true f = has_name_append x (own_vars l) (if holds_statements l then vars_all cs else []) ∙ or_right (has_name x (own_vars l)) (has_name x (if holds_statements l then vars_all cs else [])) (at (holds_statements l) f)
    by false f = absurd (true≢false (sym e ∙ ap (has_name x) (bare_all cs (bare_children l (labels_of cs) f r h))))

pub own_inside : (l : Label) (ss : List Span) (cs : Forest) (x : Name) → has_name x (own_vars l) ≡ true → has_name x (vars (node l ss cs)) ≡ true
own_inside l ss cs x e = has_name_append x (own_vars l) (if holds_statements l then vars_all cs else []) ∙ or_left (has_name x (own_vars l)) (has_name x (if holds_statements l then vars_all cs else [])) e

pub head_vars : (t : Tree) (ts : Forest) (x : Name) → has_name x (vars t) ≡ true → has_name x (vars_all (t ⊳ ts)) ≡ true
head_vars t ts x e = has_name_append x (vars t) (vars_all ts) ∙ or_left (has_name x (vars t)) (has_name x (vars_all ts)) e

pub tail_vars : (t : Tree) (ts : Forest) (x : Name) → has_name x (vars_all ts) ≡ true → has_name x (vars_all (t ⊳ ts)) ≡ true
tail_vars t ts x e = has_name_append x (vars t) (vars_all ts) ∙ or_right (has_name x (vars t)) (has_name x (vars_all ts)) e

-- a variable that is declared is counted
or_false : (b : Bool) → (b || false) ≡ true → b ≡ true
or_false true e = refl
or_false false e = e

own_counted : (l : Label) (x : Name) → has_name x (own_vars l) ≡ true → 1 ≤ one (declares x l)
own_counted (Declarator Var y) x e = subst (λ b. 1 ≤ one b) (sym (or_left (same_name x y) false (or_false (same_name x y) e))) (omega arith)
own_counted (Declarator Let y) x e = absurd (false≢true e)
own_counted (Declarator Const y) x e = absurd (false≢true e)
own_counted l x e = absurd (false≢true e)

mutual
  pub vars_counted : (t : Tree) (x : Name) → has_name x (vars t) ≡ true → 1 ≤ how_many (declares_at x) t
  vars_counted (node l ss cs) x e = by (or_cases (has_name x (own_vars l)) (has_name x (if holds_statements l then vars_all cs else [])) (sym (has_name_append x (own_vars l) (if holds_statements l then vars_all cs else [])) ∙ e)) (λ f. vars_all_counted cs x f)
    where
      below : (b : Bool) → has_name x (if b then vars_all cs else []) ≡ true → has_name x (vars_all cs) ≡ true
      below true e = e
      below false e = absurd (false≢true e)

      by : (has_name x (own_vars l) ≡ true) ⊎ (has_name x (if holds_statements l then vars_all cs else []) ≡ true) → (has_name x (vars_all cs) ≡ true → 1 ≤ how_many_in (declares_at x) cs) → 1 ≤ how_many (declares_at x) (node l ss cs)
      by (inl f) g = omega (arith, own_counted l x f)
      by (inr f) g = omega (arith, g (below (holds_statements l) f))

  pub vars_all_counted : (ts : Forest) (x : Name) → has_name x (vars_all ts) ≡ true → 1 ≤ how_many_in (declares_at x) ts
  vars_all_counted ε x e = absurd (false≢true e)
  vars_all_counted (t ⊳ ts) x e = by (or_cases (has_name x (vars t)) (has_name x (vars_all ts)) (sym (has_name_append x (vars t) (vars_all ts)) ∙ e)) (λ f. vars_counted t x f) (λ f. vars_all_counted ts x f)
    where
      by : (has_name x (vars t) ≡ true) ⊎ (has_name x (vars_all ts) ≡ true) → (has_name x (vars t) ≡ true → 1 ≤ how_many (declares_at x) t) → (has_name x (vars_all ts) ≡ true → 1 ≤ how_many_in (declares_at x) ts) → 1 ≤ how_many_in (declares_at x) (t ⊳ ts)
      by (inl f) g h = omega (arith, g f)
      by (inr f) g h = omega (arith, h f)
