-- The parts of a function stay what they are, and a rewritten body binds the names that the body bound.
use Rattle.std.proofs.Common.{not, ◌&&◌, ◌≡◌, ℕ, Bool, true, false, ◌||◌, List, [], ◌++◌, Option, Some, None, refl, sym, ap, ap₂, ◌∙◌}
use Rattle.std.proofs.lemmas.Bool.{true≢false, false≢true}
use Rattle.swc_ast.specs.Labels.{is_params, is_body, is_block}
use Rattle.swc_ast.specs.declared.Span.{Span}
use Rattle.swc_ast.specs.Tree.{Name, Label, Params, Body, Param, Tree, node, Forest, ◌⊳◌, ε, label_of}
use Rattle.swc_ast.specs.Value.{Env, Value, Undefined, Cell}
use Rattle.swc_ast.specs.Scope.{Declaration, Lexical, Function, has_name, found, declared, vars_all, param_name, param_names, body_declares}
use Rattle.swc_ast.specs.Meaning.{cell_of_declared}
use Rattle.swc_ast.specs.Call.{var_cell, body_cells}
use Rattle.meaning_proofs.specs.Names.{Names, empty, full}
use Rattle.meaning_proofs.specs.Exact.{Evaluation, GivesUndefined}
use Rattle.meaning_proofs.specs.Roles.{is_part, rewrites_each, holds_function, of_declaration, of_default, Clean}
use Rattle.meaning_proofs.specs.Rewrites.{Rewrites, kept, kept_list, kept_declarators, kept_import, kept_known, kept_unset, kept_default, kept_switch, drop_own, All, nil, cons, Listed}
use Rattle.meaning_proofs.proofs.Relation.{Pairing, Maybe, neither, both, SameEnv, V, undefined, same_held, SameCell, alike}
use Rattle.meaning_proofs.proofs.Scopes.{Born}
use Rattle.meaning_proofs.proofs.Statements.{some_is, found_is, declared_cell_sim, is_found_same}
use Rattle.meaning_proofs.proofs.Declared.{ListRole, View, part, a_function, other, view, same_label}

-- labels

other_params : (l : Label) → is_part l ≡ false → is_params l ≡ false
other_params Params e = absurd (true≢false e)
other_params _ e = refl

other_body : (l : Label) → is_part l ≡ false → is_body l ≡ false
other_body Body e = absurd (true≢false e)
other_body _ e = refl

other_param : (l : Label) → is_part l ≡ false → param_name l ≡ []
other_param (Param x) e = absurd (true≢false e)
other_param _ e = refl

list_params : (l : Label) → is_block l ≡ true → is_params l ≡ false
list_params Params e = absurd (false≢true e)
list_params _ e = refl

list_param : (l : Label) → is_block l ≡ true → param_name l ≡ []
list_param (Param x) e = absurd (false≢true e)
list_param _ e = refl

plain_body : (l : Label) → rewrites_each l ≡ true → is_body l ≡ false
plain_body Body e = absurd (false≢true e)
plain_body _ e = refl

param_names_cons : (t : Tree) (ts : Forest) → param_names (t ⊳ ts) ≡ param_name (label_of t) ++ param_names ts
param_names_cons (node l ss cs) ts = refl

module _ (N : Names) (mark : ℕ) (does : Evaluation) where
  pub data ParamsOf : Tree → Tree → Type 0 where
    params : {ss rs : List Span} {ts us : Forest} → All N mark does false ts us → ParamsOf (node Params ss ts) (node Params rs us)
    no_params : {t u : Tree} → is_params (label_of t) ≡ false → ParamsOf t u

  pub data BodyOf : Tree → Tree → Type 0 where
    body : {ss rs : List Span} {ts us : Forest} → Listed N mark does ts us → BodyOf (node Body ss ts) (node Body rs us)
    no_body : {t u : Tree} → is_body (label_of t) ≡ false → is_body (label_of u) ≡ false → BodyOf t u

  pub data ParamOf : Tree → Tree → Type 0 where
    param : {x : Name} {ss rs : List Span} {ts us : Forest} → (N.dropped x ≡ false) × (N.guarded x ≡ false) → All N mark does false ts us → ParamOf (node (Param x) ss ts) (node (Param x) rs us)
    param_default : {x : Name} {ss rs : List Span} {t u : Tree} → N.dropped x ≡ false → N.guarded x ≡ false → Rewrites N mark does t u → GivesUndefined mark u → ParamOf (node (Param x) ss (t ⊳ ε)) (node (Param x) rs ε)
    no_param : {t u : Tree} → param_name (label_of t) ≡ [] → ParamOf t u

module _ {N : Names} {mark : ℕ} {does : Evaluation} where
  plain_params : (l : Label) {ss rs : List Span} {cs us : Forest} → All N mark does false cs us → ParamsOf N mark does (node l ss cs) (node l rs us)
  plain_params Params h = params h
  plain_params _ h = no_params refl

  list_body : (l : Label) {ss rs : List Span} {cs us : Forest} → is_block l ≡ true → Listed N mark does cs us → BodyOf N mark does (node l ss cs) (node l rs us)
  list_body Body e h = body h
  list_body _ e h = no_body refl refl

  plain_param : (l : Label) {ss rs : List Span} {cs us : Forest} → Clean N mark l → All N mark does false cs us → ParamOf N mark does (node l ss cs) (node l rs us)
  plain_param (Param x) c h = param c h
  plain_param _ c h = no_param refl

  pub params_of : {t u : Tree} → View N mark does t u → ParamsOf N mark does t u
  params_of (a_function of_declaration) = no_params refl
  params_of (a_function of_default) = no_params refl
  params_of (other p q) = no_params (other_params _ p)
  params_of (part (kept l p q c o sc h) e) = plain_params l h
  params_of (part (kept_list l p q h) e) = no_params (list_params l p)
  params_of (part (kept_declarators k q h) e) = no_params refl
  params_of (part (kept_import src q h) e) = no_params refl
  params_of (part (kept_known k q v e' g y a r) e) = no_params refl
  params_of (part (kept_unset k q d g) e) = no_params refl
  params_of (part (kept_default q d g r y) e) = no_params refl
  params_of (part (kept_switch q r k a b i h) e) = no_params refl
  params_of (part (drop_own q d g sc h) e) = no_params refl

  pub body_of : {t u : Tree} → View N mark does t u → BodyOf N mark does t u
  body_of (a_function of_declaration) = no_body refl refl
  body_of (a_function of_default) = no_body refl refl
  body_of (other p q) = no_body (other_body _ p) (other_body _ q)
  body_of (part (kept l p q c o sc h) e) = no_body (plain_body l p) (plain_body l p)
  body_of (part (kept_list l p q h) e) = list_body l p h
  body_of (part (kept_declarators k q h) e) = no_body refl refl
  body_of (part (kept_import src q h) e) = no_body refl refl
  body_of (part (kept_known k q v e' g y a r) e) = no_body refl refl
  body_of (part (kept_unset k q d g) e) = no_body refl refl
  body_of (part (kept_default q d g r y) e) = no_body refl refl
  body_of (part (kept_switch q r k a b i h) e) = no_body refl refl
  body_of (part (drop_own q d g sc h) e) = no_body refl refl

  pub param_of : {t u : Tree} → View N mark does t u → ParamOf N mark does t u
  param_of (a_function of_declaration) = no_param refl
  param_of (a_function of_default) = no_param refl
  param_of (other p q) = no_param (other_param _ p)
  param_of (part (kept l p q c o sc h) e) = plain_param l c h
  param_of (part (kept_list l p q h) e) = no_param (list_param l p)
  param_of (part (kept_declarators k q h) e) = no_param refl
  param_of (part (kept_import src q h) e) = no_param refl
  param_of (part (kept_known k q v e' g y a r) e) = no_param refl
  param_of (part (kept_unset k q d g) e) = no_param refl
  param_of (part (kept_default q d g r y) e) = param_default d g r y
  param_of (part (kept_switch q r k a b i h) e) = no_param refl
  param_of (part (drop_own q d g sc h) e) = no_param refl

  pub param_names_same : {ts us : Forest} → All N mark does false ts us → param_names ts ≡ param_names us
  param_names_same nil = refl
  param_names_same (cons {t = t} {u} {ts} {us} r rs) = param_names_cons t ts ∙ ap₂ ◌++◌ (same_label param_name [] other_param (view r)) (param_names_same rs) ∙ sym (param_names_cons u us)

-- what a body binds

born_at : (g : Option Value) (e : Env) (v : Value) (b : Bool) (o : Option Declaration) → (b ≡ true → g ≡ Some Undefined) → holds_function o ≡ false → (b || some_is o) ≡ true → Born g (var_cell (cell_of_declared e v o))
born_at g e v true None p q h = full (sym (p refl))
born_at g e v false None p q h = absurd (false≢true h)
born_at g e v b (Some (Lexical w)) p q h = empty refl
born_at g e v b (Some (Function f)) p q h = absurd (true≢false q)

module _ {P : Pairing} where
  var_cell_sim : {x : Name} {o p : Option Cell} → Maybe (SameCell P x) o p → Maybe (SameCell P x) (var_cell o) (var_cell p)
  var_cell_sim neither = both (alike refl (both (same_held undefined)))
  var_cell_sim (both r) = both r

  declares_if : {ts us : Forest} → ListRole P ts us → (x : Name) → P.dropped x ≡ false → (b : Bool) → P.slack x ≡ b → (P.slack x ≡ true → body_declares ts x ≡ body_declares us x) → body_declares ts x ≡ body_declares us x
  declares_if {ts} {us} h x keeps false e f = ap₂ ◌||◌ (h.vars x keeps e) (is_found_same x (declared ts) (declared us) (h.declares x keeps))
  declares_if h x keeps true e f = f e

  pub declares_same : {ts us : Forest} → ListRole P ts us → (x : Name) → P.dropped x ≡ false → (P.slack x ≡ true → body_declares ts x ≡ body_declares us x) → body_declares ts x ≡ body_declares us x
  declares_same h x keeps f = declares_if h x keeps (P.slack x) refl f

  -- what a body binds beside the parameters
  pub binds_same : {ts us : Forest} → ListRole P ts us → (x : Name) → P.dropped x ≡ false → (a b : Bool) → a ≡ b → (P.slack x ≡ true → a ≡ false → body_declares ts x ≡ body_declares us x) → (not a && body_declares ts x) ≡ (not b && body_declares us x)
  binds_same h x keeps true true e f = refl
  binds_same h x keeps false false e f = declares_same h x keeps (λ z. f z refl)
  binds_same h x keeps true false e f = cc
  binds_same h x keeps false true e f = cc

  pub cells_same : {ts us : Forest} → ListRole P ts us → {v w : Value} → V P v w → (e f : Env) → SameEnv P e f → (x : Name) → P.dropped x ≡ false → Maybe (SameCell P x) (body_cells ts v e x) (body_cells us w f x)
  cells_same h r e f he x keeps = var_cell_sim (declared_cell_sim he r (h.declares x keeps))

  -- what a body declares neither as a variable nor as a function holds nothing yet
  pub cells_born : {ts us : Forest} → ListRole P ts us → (v : Value) (e : Env) (x : Name) → P.guarded x ≡ true → body_declares ts x ≡ true → Born (P.guard x) (body_cells ts v e x)
  cells_born {ts} h v e x g b = born_at (P.guard x) e v (has_name x (vars_all ts)) (found x (declared ts)) (h.var_undefined x g) (h.fresh x g) (ap (λ b. has_name x (vars_all ts) || b) (found_is x (declared ts)) ∙ b)
