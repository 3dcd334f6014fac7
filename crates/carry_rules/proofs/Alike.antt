-- A tree and the same tree with other spans declare the same names; and what lists declare.
use Rattle.std.proofs.Common.{◌≡◌, Bool, true, false, ◌||◌, List, [], ◌∷◌, ◌++◌, Option, Some, None, refl, sym, ap, ap₂, subst, ◌∙◌, if◌then◌else◌, ◌⊎◌, inl, inr}
use Rattle.std.proofs.lemmas.Bool.{or_cases, or_left, or_right, false≢true, true≢false}
use Rattle.swc_ast.specs.declared.Span.{Span}
use Rattle.swc_ast.specs.declared.VarDeclKind.TheVariants.{Var, Let, Const}
use Rattle.swc_ast.specs.Tree.{Name, same_name, Label, VarDecl, FnDecl, ExportDecl, ExportDefaultFn, ExportDefaultExpr, Tree, node, Forest, ε, ◌⊳◌}
use Rattle.swc_ast.specs.Scope.{has_name, declarator_name, declarator_names, as_lexicals, declared_by_label, declared_by, declared, found, is_found, list_binds, Declaration, Declared, Lexical, Function}
use Rattle.static_proofs.proofs.Names.{same_name_path, same_name_swap, has_name_append}
use Rattle.link_proofs.specs.Links.{Links, Ground, Invoked, IsLexical, lexical, IsConstant, constant}
use Rattle.meaning_proofs.specs.Roles.{holds_function}
use Rattle.carry_rules.specs.Carry.{Pass, Facts, Carried, function_name, item_function, list_functions, enter, after, marks, marks_all}
use Rattle.carry_rules.proofs.Sound.{fixed, Other}

pub data Alike : Forest → Forest → Type 0 where
  alike_none : Alike ε ε
  alike_more : (l : Label) {ss rs : List Span} {cs ds ts us : Forest} → Alike cs ds → Alike ts us → Alike (node l ss cs ⊳ ts) (node l rs ds ⊳ us)

module _ (p : Pass) (F : Facts) where
  mutual
    marks_alike_in : (s : Carried) (t : Tree) {ts us : Forest} → Alike ts us → Alike (marks p F s t ⊳ ts) (t ⊳ us)
    marks_alike_in s (node l ss cs) h = alike_more l (marks_alike (enter p F l ss cs s) cs) h

    pub marks_alike : (s : Carried) (ts : Forest) → Alike (marks_all p F s ts) ts
    marks_alike s ε = alike_none
    marks_alike s (t ⊳ ts) = marks_alike_in s t (marks_alike (after p F s t) ts)

names_alike : {ts us : Forest} → Alike ts us → declarator_names ts ≡ declarator_names us
names_alike alike_none = refl
names_alike (alike_more l h k) = ap (λ xs. declarator_name l ++ xs) (names_alike k)

pub found_append : {A : Type 0} (x : Name) (ps qs : List (Name × A)) → is_found x (ps ++ qs) ≡ (is_found x ps || is_found x qs)
found_append x [] qs = refl
found_append x (p ∷ ps) qs = elim (same_name p.0 x) as (λ b. (b || is_found x (ps ++ qs)) ≡ ((b || is_found x ps) || is_found x qs)) [ true ↦ refl | false ↦ found_append x ps qs ]

label_alike : (x : Name) (l : Label) (ss rs : List Span) (cs ds : Forest) → declarator_names cs ≡ declarator_names ds → is_found x (declared_by_label l ss cs) ≡ is_found x (declared_by_label l rs ds)
label_alike x (VarDecl Var) ss rs cs ds e = refl
label_alike x (VarDecl Let) ss rs cs ds e = ap (λ xs. is_found x (as_lexicals true xs)) e
label_alike x (VarDecl Const) ss rs cs ds e = ap (λ xs. is_found x (as_lexicals false xs)) e
label_alike x (FnDecl y) ss rs cs ds e = refl
label_alike x (ExportDefaultFn o) ss rs cs ds e = refl
label_alike x ExportDefaultExpr ss rs cs ds e = refl
label_alike x l ss rs cs ds e = refl

by_alike : (x : Name) (l : Label) (ss rs : List Span) {cs ds : Forest} → Alike cs ds → is_found x (declared_by (node l ss cs)) ≡ is_found x (declared_by (node l rs ds))
by_alike x ExportDecl ss rs alike_none = refl
by_alike x ExportDecl ss rs (alike_more l {ss = us} {rs = vs} {cs = cs2} {ds = ds2} h k) = label_alike x l us vs cs2 ds2 (names_alike h)
by_alike x l ss rs {cs} {ds} h = label_alike x l ss rs cs ds (names_alike h)

pub binds_alike : (x : Name) {ts us : Forest} → Alike ts us → list_binds ts x ≡ list_binds us x
binds_alike x alike_none = refl
binds_alike x (alike_more l {ss} {rs} {cs} {ds} {ts} {us} h k) = found_append x (declared_by (node l ss cs)) (declared ts) ∙ ap₂ ◌||◌ (by_alike x l ss rs h) (binds_alike x k) ∙ sym (found_append x (declared_by (node l rs ds)) (declared us))

function_label : (x : Name) (l : Label) (ss : List Span) (cs : Forest) → has_name x (function_name l) ≡ true → is_found x (declared_by_label l ss cs) ≡ true
function_label x (FnDecl y) ss cs e = ap (λ b. b || false) (same_name_swap y x) ∙ e
function_label x (ExportDefaultFn None) ss cs e = absurd (false≢true e)
function_label x (ExportDefaultFn (Some y)) ss cs e = ap (λ b. b || false) (same_name_swap y x) ∙ e
function_label x l ss cs e = absurd (false≢true e)

function_item : (x : Name) (t : Tree) → has_name x (item_function t) ≡ true → is_found x (declared_by t) ≡ true
function_item x (node ExportDecl ss ε) e = absurd (false≢true e)
function_item x (node ExportDecl ss (node l rs cs ⊳ us)) e = function_label x l rs cs e
function_item x (node l ss cs) e = function_label x l ss cs e

-- a list binds the functions that it declares
pub function_bound : (x : Name) (ts : Forest) → has_name x (list_functions ts) ≡ true → list_binds ts x ≡ true
function_bound x ε e = absurd (false≢true e)
function_bound x (t ⊳ ts) e = found_append x (declared_by t) (declared ts) ∙ by (or_cases (has_name x (item_function t)) (has_name x (list_functions ts)) (sym (has_name_append x (item_function t) (list_functions ts)) ∙ e)) (function_bound x ts)
  where
    by : (has_name x (item_function t) ≡ true) ⊎ (has_name x (list_functions ts) ≡ true) → (has_name x (list_functions ts) ≡ true → list_binds ts x ≡ true) → (is_found x (declared_by t) || list_binds ts x) ≡ true
    by (inl f) g = or_left (is_found x (declared_by t)) (list_binds ts x) (function_item x t f)
    by (inr f) g = or_right (is_found x (declared_by t)) (list_binds ts x) (g f)

pub some_found : (x : Name) (ps : List Declared) → is_found x ps ≡ true → found x ps ≡ None → ⊥
some_found x [] b e = false≢true b
some_found x (q ∷ ps) b e = at (same_name q.0 x) b e (some_found x ps)
  where
    at : (c : Bool) → (c || is_found x ps) ≡ true → (if c then Some q.1 else found x ps) ≡ None → (is_found x ps ≡ true → found x ps ≡ None → ⊥) → ⊥
    at true b e g = cc
    at false b e g = g b e

-- what lists declare is as the facts say
module _ (L : Links) (F : Facts) (lex : Name → Bool) (G : Ground) where
  abbrev pub RightOf : Name → Declaration → Type 0
  RightOf x (Lexical w) = F.constant x ≡ true → w ≡ false
  RightOf x (Function f) = Other F lex x × Invoked L G f

  abbrev pub Rights : List Declared → Type 0
  Rights [] = Unit {0}
  Rights (q ∷ qs) = RightOf q.0 q.1 × Rights qs

  pub rights_append : (ps qs : List Declared) → Rights ps → Rights qs → Rights (ps ++ qs)
  rights_append [] qs h k = k
  rights_append (p ∷ ps) qs h k = (h.0, rights_append ps qs h.1 k)

  pub found_right : (ps : List Declared) → Rights ps → (x : Name) (d : Declaration) → found x ps ≡ Some d → RightOf x d
  found_right [] h x d e = absurd (cc)
  found_right (q ∷ ps) h x d e = by (same_name q.0 x) refl e (found_right ps h.1 x d)
    where
      some_same : {a b : Declaration} → Some a ≡ Some b → a ≡ b
      some_same e = cc

      by : (b : Bool) → same_name q.0 x ≡ b → (if b then Some q.1 else found x ps) ≡ Some d → (found x ps ≡ Some d → RightOf x d) → RightOf x d
      by true i e g = subst (λ z. RightOf z d) (same_name_path q.0 x i) (subst (RightOf q.0) (some_same e) h.0)
      by false i e g = g e

  pub is_lexical : (ps : List Declared) → Rights ps → (x : Name) → is_found x ps ≡ true → fixed F x ≡ true → lex x ≡ true → IsLexical (found x ps)
  is_lexical ps h x b f l = by (found x ps) refl (some_found x ps b)
    where
      by : (o : Option Declaration) → found x ps ≡ o → (found x ps ≡ None → ⊥) → IsLexical o
      by None e n = absurd (n e)
      by (Some (Lexical w)) e n = lexical w
      by (Some (Function g)) e n = absurd (true≢false (sym l ∙ (found_right ps h x (Function g) e).0.0 f))

  pub is_constant : (ps : List Declared) → Rights ps → (x : Name) → F.constant x ≡ true → IsLexical (found x ps) → IsConstant (found x ps)
  is_constant ps h x c i = by (found x ps) refl i
    where
      by : (o : Option Declaration) → found x ps ≡ o → IsLexical o → IsConstant o
      by (Some (Lexical w)) e j = subst (λ v. IsConstant (Some (Lexical v))) (sym (found_right ps h x (Lexical w) e c)) constant
      by (Some (Function g)) e j = elim j [ ]
      by None e j = elim j [ ]

  pub no_function : (ps : List Declared) → Rights ps → (x : Name) → fixed F x ≡ true → lex x ≡ true → holds_function (found x ps) ≡ false
  no_function ps h x f l = by (found x ps) refl
    where
      by : (o : Option Declaration) → found x ps ≡ o → holds_function o ≡ false
      by None e = refl
      by (Some (Lexical w)) e = refl
      by (Some (Function g)) e = absurd (true≢false (sym l ∙ (found_right ps h x (Function g) e).0.0 f))

  -- a function is set
  pub set_function : (ps : List Declared) → Rights ps → (x : Name) → F.unset x ≡ true → holds_function (found x ps) ≡ false
  set_function ps h x u = by (found x ps) refl
    where
      by : (o : Option Declaration) → found x ps ≡ o → holds_function o ≡ false
      by None e = refl
      by (Some (Lexical w)) e = refl
      by (Some (Function g)) e = absurd (true≢false (sym u ∙ (found_right ps h x (Function g) e).0.1))
