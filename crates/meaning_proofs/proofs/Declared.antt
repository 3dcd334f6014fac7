-- What rewritten trees and lists declare: the same, off the names that are dropped.
use Rattle.std.proofs.Common.{◌≡◌, ℕ, Bool, true, false, ◌||◌, List, [], ◌∷◌, ◌++◌, Option, Some, None, refl, sym, ap, ap₂, subst, cond, ◌∙◌}
use Rattle.std.proofs.lemmas.Bool.{true≢false, false≢true}
use Rattle.swc_ast.specs.Labels.{is_export_declaration, is_block}
use Rattle.swc_ast.specs.declared.Span.{Span}
use Rattle.swc_ast.specs.declared.VarDeclKind.{VarDeclKind}
use Rattle.swc_ast.specs.declared.VarDeclKind.TheVariants.{Var, Let, Const}
use Rattle.swc_ast.specs.Tree.{Name, Text, same_name, Label, Switch, Block, Body, CaseBody, VarDecl, Declarator, FnDecl, ExportDecl, ExportDefaultFn, ExportDefaultExpr, Tree, node, Forest, ε, ◌⊳◌, label_of}
use Rattle.swc_ast.specs.Value.{Undefined}
use Rattle.swc_ast.specs.Scope.{Declaration, Lexical, Function, name_or_default, default_name, has_name, declarator_name, declarator_names, own_vars, holds_statements, vars, vars_all, Declared, found, is_found, declared_by_label, declared_by, declared, as_lexicals}
use Rattle.swc_ast.specs.Meaning.{copied_names}
use Rattle.meaning_proofs.specs.Names.{Names, is_firm, is_known}
use Rattle.meaning_proofs.specs.Exact.{Evaluation}
use Rattle.meaning_proofs.specs.Roles.{is_part, rewrites_each, holds_function, Fits, unchanged, changed, SameLists, SameVars, DeclaresNone, FunctionOf, of_declaration, of_default, Free, free_name, Clean}
use Rattle.meaning_proofs.specs.Rewrites.{Kept, kept, kept_list, kept_declarators, kept_import, kept_known, kept_unset, kept_default, kept_switch, drop_own, KeptOrUnseen, as_kept, unseen, Rewrites, step, All, nil, cons, drop, drop_rewritten, stop, Unreached, end, stay, leave, Listed, listed}
use Rattle.meaning_proofs.proofs.Relation.{Pairing, Maybe, neither, both, SameDeclaration, lexical, declared_function, unseen_function}
use Rattle.meaning_proofs.proofs.Names.{other_name, other_name', same_name_eq, same_name_turned}
use Rattle.meaning_proofs.proofs.Finds.{or_else, or_else_sim, is_none, has_append, found_lexical, found_cons, has_cons}

abbrev pub pairing : (N : Names) (mark : ℕ) (does : Evaluation) (ignores : Text → Bool) → Pairing
pairing N mark does ignores = record { Keeps = Kept N mark does; ignores = ignores; names = N }

-- what a parent sees of two trees
pub record Role (P : Pairing) (t u : Tree) : Type 0 where
  pub declares : (x : Name) → P.dropped x ≡ false → Maybe (SameDeclaration P x) (found x (declared_by t)) (found x (declared_by u))
  pub copied : (x : Name) → P.dropped x ≡ false → is_found x (copied_names t) ≡ is_found x (copied_names u)
  pub fresh : (x : Name) → P.guarded x ≡ true → holds_function (found x (declared_by t)) ≡ false
  pub var_undefined : (x : Name) → P.guarded x ≡ true → has_name x (vars t) ≡ true → P.guard x ≡ Some Undefined
  pub vars : (x : Name) → P.dropped x ≡ false → P.slack x ≡ false → has_name x (vars t) ≡ has_name x (vars u)

-- what a parent sees of two lists
pub record ListRole (P : Pairing) (ts us : Forest) : Type 0 where
  pub declares : (x : Name) → P.dropped x ≡ false → Maybe (SameDeclaration P x) (found x (declared ts)) (found x (declared us))
  pub vars : (x : Name) → P.dropped x ≡ false → P.slack x ≡ false → has_name x (vars_all ts) ≡ has_name x (vars_all us)
  pub fresh : (x : Name) → P.guarded x ≡ true → holds_function (found x (declared ts)) ≡ false
  pub var_undefined : (x : Name) → P.guarded x ≡ true → has_name x (vars_all ts) ≡ true → P.guard x ≡ Some Undefined

-- the declarators of two lists have the same names
pub record SameDeclarators (N : Names) (ts us : Forest) : Type 0 where
  pub at : (x : Name) → N.dropped x ≡ false → has_name x (declarator_names ts) ≡ has_name x (declarator_names us)

names_cons : (t : Tree) (ts : Forest) → declarator_names (t ⊳ ts) ≡ declarator_name (label_of t) ++ declarator_names ts
names_cons (node l ss cs) ts = refl

has_name_cons : (x : Name) (t : Tree) (ts : Forest) → has_name x (declarator_names (t ⊳ ts)) ≡ (has_name x (declarator_name (label_of t)) || has_name x (declarator_names ts))
has_name_cons x t ts = ap (has_name x) (names_cons t ts) ∙ has_append x (declarator_name (label_of t)) (declarator_names ts)

-- labels

-- how one tree stands for another: kept, a function of one name for another, or neither is what a parent looks for
pub data View (N : Names) (mark : ℕ) (does : Evaluation) : Tree → Tree → Type 0 where
  part : {t u : Tree} → Kept N mark does t u → label_of t ≡ label_of u → View N mark does t u
  a_function : {x : Name} {l : Label} {ss rs : List Span} {cs us : Forest} → FunctionOf x l → View N mark does (node l ss cs) (node l rs us)
  other : {t u : Tree} → is_part (label_of t) ≡ false → is_part (label_of u) ≡ false → View N mark does t u

module _ {N : Names} {mark : ℕ} {does : Evaluation} where
  kept_part : {t u : Tree} → Kept N mark does t u → is_part (label_of t) ≡ is_part (label_of u)
  kept_part (kept l p q c o sc h) = refl
  kept_part (kept_list l p q h) = refl
  kept_part (kept_declarators k q h) = refl
  kept_part (kept_import src q h) = refl
  kept_part (kept_known k q v e g y a r) = refl
  kept_part (kept_unset k q d g) = refl
  kept_part (kept_default q d g r y) = refl
  kept_part (kept_switch q r k a e i h) = refl
  kept_part (drop_own q d g sc h) = refl

  kept_view : {t u : Tree} → Kept N mark does t u → View N mark does t u
  kept_view (kept l p q c o sc h) = part (kept l p q c o sc h) refl
  kept_view (kept_list l p q h) = part (kept_list l p q h) refl
  kept_view (kept_declarators k q h) = part (kept_declarators k q h) refl
  kept_view (kept_import src q h) = part (kept_import src q h) refl
  kept_view (kept_known k q v e g y a r) = part (kept_known k q v e g y a r) refl
  kept_view (kept_unset k q d g) = part (kept_unset k q d g) refl
  kept_view (kept_default q d g r y) = part (kept_default q d g r y) refl
  kept_view (kept_switch q r k a e i h) = other refl refl
  kept_view (drop_own q d g sc h) = other refl refl

  either_part : {t u : Tree} → KeptOrUnseen N mark does t u → is_part (label_of t) ≡ is_part (label_of u)
  either_part (as_kept k) = kept_part k
  either_part (unseen d q l g) = refl

  either_view : {t u : Tree} → KeptOrUnseen N mark does t u → View N mark does t u
  either_view (as_kept k) = kept_view k
  either_view (unseen d q l g) = a_function d

  view_of : {t u v w : Tree} → Fits N t u → KeptOrUnseen N mark does u v → Fits N v w → View N mark does t w
  view_of unchanged k unchanged = either_view k
  view_of unchanged k (changed p q s) = other (either_part k ∙ p) q
  view_of (changed p q s) k unchanged = other p (sym (either_part k) ∙ q)
  view_of (changed p q s) k (changed r o i) = other p o

  pub view : {t u : Tree} → Rewrites N mark does t u → View N mark does t u
  view (step a f k e g) = view_of f k g

  -- what a parent may ask of a child's label_of
  pub same_label : {A : Type 0} (f : Label → A) (a : A) → ((l : Label) → is_part l ≡ false → f l ≡ a) → {t u : Tree} → View N mark does t u → f (label_of t) ≡ f (label_of u)
  same_label f a h (part k e) = ap f e
  same_label f a h (a_function d) = refl
  same_label f a h (other p q) = h _ p ∙ sym (h _ q)

no_declarator : (l : Label) → is_part l ≡ false → declarator_name l ≡ []
no_declarator (Declarator k x) e = absurd (true≢false e)
no_declarator _ e = refl

-- one name against another

unless : {A : Type 0} {RA : A → A → Type 0} (b : Bool) (a d : A) → (b ≡ true → RA a d) → Maybe RA (cond b (Some a) None) (cond b (Some d) None)
unless true a d r = both (r refl)
unless false a d r = neither

lexical_if : {P : Pairing} (x : Name) (b d : Bool) (w : Bool) → b ≡ d → Maybe (SameDeclaration P x) (cond b (Some (Lexical w)) None) (cond d (Some (Lexical w)) None)
lexical_if {P} x b d w e = subst (λ d. Maybe (SameDeclaration P x) (cond b (Some (Lexical w)) None) (cond d (Some (Lexical w)) None)) e (unless b _ _ (λ t. lexical w))

lexical_fresh : (b w : Bool) → holds_function (cond b (Some (Lexical w)) None) ≡ false
lexical_fresh true w = refl
lexical_fresh false w = refl

no_function : (b : Bool) (f : Tree) → b ≡ false → holds_function (cond b (Some (Function f)) None) ≡ false
no_function true f e = absurd (true≢false e)
no_function false f e = refl

pub or_else_fresh : (o p : Option Declaration) → holds_function o ≡ false → holds_function p ≡ false → holds_function (or_else o p) ≡ false
or_else_fresh None p e g = g
or_else_fresh (Some d) p e g = e

-- a tree that declares nothing, and only the variables of its children

own : (x : Name) (l : Label) (b : Bool) (xs ys : List Name) → has_name x xs ≡ has_name x ys → has_name x (own_vars l ++ cond b xs []) ≡ has_name x (own_vars l ++ cond b ys [])
own x l true xs ys e = has_append x (own_vars l) xs ∙ ap (λ b. has_name x (own_vars l) || b) e ∙ sym (has_append x (own_vars l) ys)
own x l false xs ys e = refl

either : {A : Type 0} (a b : Bool) → (a ≡ true → A) → (b ≡ true → A) → (a || b) ≡ true → A
either true b f g e = f refl
either false b f g e = g e

own_var : (N : Names) (x : Name) (l : Label) (b : Bool) (xs : List Name) → has_name x (own_vars l) ≡ false → (has_name x xs ≡ true → N.guard x ≡ Some Undefined) → has_name x (own_vars l ++ cond b xs []) ≡ true → N.guard x ≡ Some Undefined
own_var N x l true xs p h e = h (sym (ap (λ b. b || has_name x xs) p) ∙ (sym (has_append x (own_vars l) xs) ∙ e))
own_var N x l false xs p h e = absurd (false≢true (sym (has_append x (own_vars l) [] ∙ ap (λ b. b || false) p) ∙ e))

same_guard : (N : Names) (x y : Name) → N.guard y ≡ Some Undefined → (same_name x y || false) ≡ true → N.guard x ≡ Some Undefined
same_guard N x y e q = ap N.guard (same_name_eq x y (or_nothing (same_name x y) q)) ∙ e
  where
    or_nothing : (b : Bool) → (b || false) ≡ true → b ≡ true
    or_nothing true q = refl
    or_nothing false q = absurd (false≢true q)

clean_var : (N : Names) (mark : ℕ) (x : Name) → N.guarded x ≡ true → (l : Label) → Clean N mark l → has_name x (own_vars l) ≡ false
clean_var N mark x g (Declarator Var y) c = ap (λ (b : Bool). b || false) (other_name' N.guarded x y g c.1)
clean_var N mark x g _ c = refl

guarded_free : (N : Names) (x y : Name) → Free N (Some y) → N.guarded x ≡ true → same_name y x ≡ false
guarded_free N x y (free_name f) g = other_name N.guarded y x f g

-- what the declaration of an export declares
abbrev first_declared : Forest → List Declared
first_declared ε = []
first_declared (node l ss cs ⊳ ts) = declared_by_label l ss cs

export_declares : (ss : List Span) (cs : Forest) → declared_by (node ExportDecl ss cs) ≡ first_declared cs
export_declares ss ε = refl
export_declares ss (node l rs cs ⊳ ts) = refl

no_export_declaration : (l : Label) → is_part l ≡ false → is_export_declaration l ≡ false
no_export_declaration ExportDecl e = absurd (true≢false e)
no_export_declaration _ e = refl

-- of an export by its label_of alone
by_label : (l : Label) (ss : List Span) (cs : Forest) → declared_by_label l ss cs ≡ cond (is_export_declaration l) [] (declared_by (node l ss cs))
by_label ExportDecl ss cs = refl
by_label _ ss cs = refl

plain_fresh : (N : Names) (mark : ℕ) (x : Name) → N.guarded x ≡ true → (l : Label) (ss : List Span) (cs : Forest) → rewrites_each l ≡ true → Clean N mark l → holds_function (found x (first_declared cs)) ≡ false → holds_function (found x (declared_by (node l ss cs))) ≡ false
plain_fresh N mark x g (FnDecl y) ss cs p c f = no_function (same_name y x) _ (other_name N.guarded y x c g)
plain_fresh N mark x g (ExportDefaultFn o) ss cs p c f = no_function (same_name (name_or_default o) x) _ (guarded_free N x (name_or_default o) c g)
plain_fresh N mark x g ExportDefaultExpr ss cs p c f = lexical_fresh (same_name default_name x) false
plain_fresh N mark x g (VarDecl kind) ss cs p c f = absurd (false≢true p)
plain_fresh N mark x g ExportDecl ss cs p c f = ap (λ ps. holds_function (found x ps)) (export_declares ss cs) ∙ f
plain_fresh N mark x g _ ss cs p c f = refl

plain_copied : (x : Name) (l : Label) (ss rs : List Span) (cs us : Forest) → rewrites_each l ≡ true → is_found x (copied_names (node l ss cs)) ≡ is_found x (copied_names (node l rs us))
plain_copied x (VarDecl kind) ss rs cs us p = absurd (false≢true p)
plain_copied x _ ss rs cs us p = refl

pub lexicals_fresh : (w : Bool) (x : Name) (cs : Forest) → holds_function (found x (as_lexicals w (declarator_names cs))) ≡ false
lexicals_fresh w x cs = ap holds_function (found_lexical x w (declarator_names cs)) ∙ lexical_fresh (has_name x (declarator_names cs)) w

is_lexical : (x : Name) (w : Bool) (xs : List Name) → is_found x (as_lexicals w xs ++ []) ≡ has_name x xs
is_lexical x w [] = refl
is_lexical x w (y ∷ xs) = ap₂ ◌||◌ (same_name_turned y x) (is_lexical x w xs)

lets_copied : {N : Names} (cs us : Forest) → SameDeclarators N cs us → (x : Name) → N.dropped x ≡ false → is_found x (as_lexicals true (declarator_names cs) ++ []) ≡ is_found x (as_lexicals true (declarator_names us) ++ [])
lets_copied cs us d x keeps = is_lexical x true (declarator_names cs) ∙ d.at x keeps ∙ sym (is_lexical x true (declarator_names us))

-- a declarator that stays has its name, and one that goes has a dropped one

declarator_stays : {N : Names} {mark : ℕ} {does : Evaluation} {t u : Tree} {ts us : Forest} → Rewrites N mark does t u → SameDeclarators N ts us → SameDeclarators N (t ⊳ ts) (u ⊳ us)
declarator_stays {t = t} {u} {ts} {us} r h = record { at = λ x keeps. has_name_cons x t ts ∙ ap₂ ◌||◌ (ap (has_name x) (same_label declarator_name [] no_declarator (view r))) (h.at x keeps) ∙ sym (has_name_cons x u us) }

declarator_goes : {N : Names} {t : Tree} {ts us : Forest} → DeclaresNone N t → SameDeclarators N ts us → SameDeclarators N (t ⊳ ts) us
declarator_goes {t = t} {ts} d h = record { at = λ x keeps. has_name_cons x t ts ∙ ap (λ b. b || has_name x (declarator_names ts)) (d.is_no_declarator x keeps) ∙ h.at x keeps }

unreached_declarators : {N : Names} {mark : ℕ} {does : Evaluation} {ts us : Forest} → Unreached N mark does ts us → SameDeclarators N ts us
unreached_declarators end = record { at = λ x keeps. refl }
unreached_declarators (stay r rs) = declarator_stays r (unreached_declarators rs)
unreached_declarators (leave d rs) = declarator_goes d (unreached_declarators rs)

same_declarators : {N : Names} {mark : ℕ} {does : Evaluation} {b : Bool} {ts us : Forest} → All N mark does b ts us → SameDeclarators N ts us
same_declarators nil = record { at = λ x keeps. refl }
same_declarators (cons r rs) = declarator_stays r (same_declarators rs)
same_declarators (drop i d rs) = declarator_goes d (same_declarators rs)
same_declarators (stop r s rs) = declarator_stays r (unreached_declarators rs)
same_declarators (drop_rewritten {t} {u} {ts} r i q d rs) =
    let h = same_declarators rs in
    record { at = λ x keeps. has_name_cons x t ts ∙ ap₂ ◌||◌ (ap (has_name x) (same_label declarator_name [] no_declarator (view r)) ∙ d.is_no_declarator x keeps) (h.at x keeps) }

-- first children that are related
data Firsts (N : Names) (mark : ℕ) (does : Evaluation) (ignores : Text → Bool) : Forest → Forest → Type 0 where
  no_first : Firsts N mark does ignores ε ε
  a_first : {t u : Tree} {ts us : Forest} → View N mark does t u → Role (pairing N mark does ignores) t u → Firsts N mark does ignores (t ⊳ ts) (u ⊳ us)

module _ {N : Names} {mark : ℕ} {does : Evaluation} {ignores : Text → Bool} where
  firsts_declare : (x : Name) → N.dropped x ≡ false → {cs us : Forest} → Firsts N mark does ignores cs us → Maybe (SameDeclaration (pairing N mark does ignores) x) (found x (first_declared cs)) (found x (first_declared us))
  firsts_declare x keeps no_first = neither
  firsts_declare x keeps (a_first {t = node l ss cs} {u = node m rs us} v r) =
      subst (λ ps. Maybe (SameDeclaration (pairing N mark does ignores) x) (found x ps) (found x (declared_by_label m rs us))) (sym (by_label l ss cs))
      (subst (λ ps. Maybe (SameDeclaration (pairing N mark does ignores) x) (found x (cond (is_export_declaration l) [] (declared_by (node l ss cs)))) (found x ps)) (sym (by_label m rs us))
      (one (is_export_declaration l) (is_export_declaration m) (same_label is_export_declaration false no_export_declaration v) _ _ (r.declares x keeps)))
    where
      one : (b d : Bool) → b ≡ d → (ps qs : List Declared) → Maybe (SameDeclaration (pairing N mark does ignores) x) (found x ps) (found x qs) → Maybe (SameDeclaration (pairing N mark does ignores) x) (found x (cond b [] ps)) (found x (cond d [] qs))
      one true true e ps qs h = neither
      one false false e ps qs h = h
      one true false e ps qs h = cc
      one false true e ps qs h = cc

  firsts_fresh : (x : Name) → N.guarded x ≡ true → {cs us : Forest} → Firsts N mark does ignores cs us → holds_function (found x (first_declared cs)) ≡ false
  firsts_fresh x g no_first = refl
  firsts_fresh x g (a_first {t = node l ss cs} v r) = ap (λ ps. holds_function (found x ps)) (by_label l ss cs) ∙ one (is_export_declaration l) (r.fresh x g)
    where
      one : (b : Bool) → holds_function (found x (declared_by (node l ss cs))) ≡ false → holds_function (found x (cond b [] (declared_by (node l ss cs)))) ≡ false
      one true h = refl
      one false h = h

  plain_declares : (x : Name) (l : Label) {ss rs : List Span} {cs us : Forest} → N.dropped x ≡ false → rewrites_each l ≡ true → Firsts N mark does ignores cs us → Kept N mark does (node l ss cs) (node l rs us) → Maybe (SameDeclaration (pairing N mark does ignores) x) (found x (declared_by (node l ss cs))) (found x (declared_by (node l rs us)))
  plain_declares x (FnDecl y) keeps p f k = unless (same_name y x) _ _ (λ e. declared_function k)
  plain_declares x (ExportDefaultFn o) keeps p f k = unless (same_name (name_or_default o) x) _ _ (λ e. declared_function k)
  plain_declares x ExportDefaultExpr keeps p f k = unless (same_name default_name x) _ _ (λ e. lexical false)
  plain_declares x (VarDecl kind) keeps p f k = absurd (false≢true p)
  plain_declares x ExportDecl {ss} {rs} {cs} {us} keeps p f k =
      subst (λ ps. Maybe (SameDeclaration (pairing N mark does ignores) x) (found x ps) (found x (declared_by (node ExportDecl rs us)))) (sym (export_declares ss cs))
      (subst (λ ps. Maybe (SameDeclaration (pairing N mark does ignores) x) (found x (first_declared cs)) (found x ps)) (sym (export_declares rs us)) (firsts_declare x keeps f))
  plain_declares x _ keeps p f k = neither

  plain_role : (l : Label) {ss rs : List Span} {cs us : Forest} → rewrites_each l ≡ true → Clean N mark l → ListRole (pairing N mark does ignores) cs us → Firsts N mark does ignores cs us → Kept N mark does (node l ss cs) (node l rs us) → Role (pairing N mark does ignores) (node l ss cs) (node l rs us)
  plain_role l {ss} {rs} {cs} {us} p c h f k = record {
    declares = λ x keeps. plain_declares x l keeps p f k;
    copied = λ x keeps. plain_copied x l ss rs cs us p;
    vars = λ x keeps z. own x l (holds_statements l) (vars_all cs) (vars_all us) (h.vars x keeps z);
    fresh = λ x g. plain_fresh N mark x g l ss cs p c (firsts_fresh x g f);
    var_undefined = λ x g e. own_var N x l (holds_statements l) (vars_all cs) (clean_var N mark x g l c) (h.var_undefined x g) e;
  }

  unseen_of : {f g : Tree} (y x : Name) → N.loose y ≡ true → same_name y x ≡ true → SameDeclaration (pairing N mark does ignores) x (Function f) (Function g)
  unseen_of y x l e = unseen_function (ap N.loose (sym (same_name_eq y x e)) ∙ l)

  -- a function of a name that nothing reads, and another
  unseen_role : {y : Name} {m : Label} {ss rs : List Span} {cs us : Forest} → FunctionOf y m → N.loose y ≡ true → N.guarded y ≡ false → Role (pairing N mark does ignores) (node m ss cs) (node m rs us)
  unseen_role {y} of_declaration l g = record {
    declares = λ x keeps. unless (same_name y x) _ _ (unseen_of y x l);
    copied = λ x keeps. refl;
    vars = λ x keeps z. refl;
    fresh = λ x e. no_function (same_name y x) _ (other_name N.guarded y x g e);
    var_undefined = λ x e h. absurd (false≢true h);
  }
  unseen_role {y} of_default l g = record {
    declares = λ x keeps. unless (same_name y x) _ _ (unseen_of y x l);
    copied = λ x keeps. refl;
    vars = λ x keeps z. refl;
    fresh = λ x e. no_function (same_name y x) _ (other_name N.guarded y x g e);
    var_undefined = λ x e h. absurd (false≢true h);
  }

  list_role : (l : Label) {ss rs : List Span} {cs us : Forest} → is_block l ≡ true → ListRole (pairing N mark does ignores) cs us → Role (pairing N mark does ignores) (node l ss cs) (node l rs us)
  list_role Block p h = record { declares = λ x k. neither; copied = λ x k. refl; vars = h.vars; fresh = λ x g. refl; var_undefined = h.var_undefined }
  list_role Body p h = record { declares = λ x k. neither; copied = λ x k. refl; vars = λ x k z. refl; fresh = λ x g. refl; var_undefined = λ x g e. absurd (false≢true e) }
  list_role CaseBody p h = record { declares = λ x k. neither; copied = λ x k. refl; vars = h.vars; fresh = λ x g. refl; var_undefined = h.var_undefined }
  list_role _ p h = absurd (false≢true p)

  lexicals_same : (w : Bool) {cs us : Forest} → SameDeclarators N cs us → (x : Name) → N.dropped x ≡ false → Maybe (SameDeclaration (pairing N mark does ignores) x) (found x (as_lexicals w (declarator_names cs))) (found x (as_lexicals w (declarator_names us)))
  lexicals_same w {cs} {us} d x keeps =
      subst (λ o. Maybe (SameDeclaration (pairing N mark does ignores) x) o (found x (as_lexicals w (declarator_names us)))) (sym (found_lexical x w (declarator_names cs)))
      (subst (λ o. Maybe (SameDeclaration (pairing N mark does ignores) x) (cond (has_name x (declarator_names cs)) (Some (Lexical w)) None) o) (sym (found_lexical x w (declarator_names us)))
      (lexical_if x _ _ w (d.at x keeps)))

  declarators_role : (k : VarDeclKind) {ss rs : List Span} {cs us : Forest} → SameDeclarators N cs us → ListRole (pairing N mark does ignores) cs us → Role (pairing N mark does ignores) (node (VarDecl k) ss cs) (node (VarDecl k) rs us)
  declarators_role Var d h = record { declares = λ x k. neither; copied = λ x k. refl; vars = h.vars; fresh = λ x g. refl; var_undefined = h.var_undefined }
  declarators_role Let {cs = cs} {us} d h = record { declares = lexicals_same true d; copied = lets_copied cs us d; vars = h.vars; fresh = λ x g. lexicals_fresh true x cs; var_undefined = h.var_undefined }
  declarators_role Const {cs = cs} d h = record { declares = lexicals_same false d; copied = λ x k. refl; vars = h.vars; fresh = λ x g. lexicals_fresh false x cs; var_undefined = h.var_undefined }

  before_role : {t u w : Tree} → Fits N t u → Role (pairing N mark does ignores) u w → Role (pairing N mark does ignores) t w
  before_role unchanged h = h
  before_role {w = w} (changed p q s) h = record {
    declares = λ x keeps. subst (λ o. Maybe (SameDeclaration (pairing N mark does ignores) x) o (found x (declared_by w))) (sym (s.declares x keeps)) (h.declares x keeps);
    copied = λ x keeps. s.copied x keeps ∙ h.copied x keeps;
    vars = λ x keeps z. s.vars x keeps z ∙ h.vars x keeps z;
    fresh = λ x g. s.functions x g (h.fresh x g);
    var_undefined = λ x g e. h.var_undefined x g (s.guarded_vars x g e);
  }

  after_role : {t v w : Tree} → Role (pairing N mark does ignores) t v → Fits N v w → Role (pairing N mark does ignores) t w
  after_role h unchanged = h
  after_role {t} h (changed p q s) = record {
    declares = λ x keeps. subst (λ o. Maybe (SameDeclaration (pairing N mark does ignores) x) (found x (declared_by t)) o) (s.declares x keeps) (h.declares x keeps);
    copied = λ x keeps. h.copied x keeps ∙ s.copied x keeps;
    vars = λ x keeps z. h.vars x keeps z ∙ s.vars x keeps z;
    fresh = h.fresh;
    var_undefined = h.var_undefined;
  }

  unset_role : (k : VarDeclKind) {y : Name} {ss rs : List Span} → N.guard y ≡ Some Undefined → Role (pairing N mark does ignores) (node (Declarator k y) ss ε) (node (Declarator k y) rs ε)
  unset_role Var {y} e = record { declares = λ x keeps. neither; copied = λ x keeps. refl; vars = λ x keeps z. refl; fresh = λ x g. refl; var_undefined = λ x g q. same_guard N x y e q }
  unset_role Let e = record { declares = λ x keeps. neither; copied = λ x keeps. refl; vars = λ x keeps z. refl; fresh = λ x g. refl; var_undefined = λ x g q. absurd (false≢true q) }
  unset_role Const e = record { declares = λ x keeps. neither; copied = λ x keeps. refl; vars = λ x keeps z. refl; fresh = λ x g. refl; var_undefined = λ x g q. absurd (false≢true q) }

  known_role : (k : VarDeclKind) {y : Name} {ss rs : List Span} {cs us : Forest} → own_vars (Declarator k y) ≡ [] → Role (pairing N mark does ignores) (node (Declarator k y) ss cs) (node (Declarator k y) rs us)
  known_role k e = record { declares = λ x keeps. neither; copied = λ x keeps. refl; vars = λ x keeps z. refl; fresh = λ x g. refl; var_undefined = λ x g q. absurd (false≢true (sym (ap (λ (ys : List Name). has_name x (ys ++ [])) e) ∙ q)) }

  -- lists

  pub nil_role : ListRole (pairing N mark does ignores) ε ε
  nil_role = record { declares = λ x keeps. neither; vars = λ x keeps z. refl; fresh = λ x g. refl; var_undefined = λ x g e. absurd (false≢true e) }

  cons_role : {t u : Tree} {ts us : Forest} → Role (pairing N mark does ignores) t u → ListRole (pairing N mark does ignores) ts us → ListRole (pairing N mark does ignores) (t ⊳ ts) (u ⊳ us)
  cons_role {t} {u} {ts} {us} h hs = record {
    declares = λ x keeps.
        subst (λ o. Maybe (SameDeclaration (pairing N mark does ignores) x) o (found x (declared (u ⊳ us)))) (sym (found_cons x t ts))
        (subst (λ o. Maybe (SameDeclaration (pairing N mark does ignores) x) (or_else (found x (declared_by t)) (found x (declared ts))) o) (sym (found_cons x u us))
        (or_else_sim (h.declares x keeps) (hs.declares x keeps)));
    vars = λ x keeps z. has_cons x t ts ∙ ap₂ ◌||◌ (h.vars x keeps z) (hs.vars x keeps z) ∙ sym (has_cons x u us);
    fresh = λ x g. ap holds_function (found_cons x t ts) ∙ or_else_fresh (found x (declared_by t)) (found x (declared ts)) (h.fresh x g) (hs.fresh x g);
    var_undefined = λ x g e. either (has_name x (vars t)) (has_name x (vars_all ts)) (h.var_undefined x g) (hs.var_undefined x g) (sym (has_cons x t ts) ∙ e);
  }

  switch_role : {ds es : List Bool} {ss rs : List Span} {cs vs us : Forest} → SameVars N cs vs → ListRole (pairing N mark does ignores) vs us → Role (pairing N mark does ignores) (node (Switch ds) ss cs) (node (Switch es) rs us)
  switch_role i h = record {
    declares = λ x keeps. neither;
    copied = λ x keeps. refl;
    vars = λ x keeps z. i.vars x keeps z ∙ h.vars x keeps z;
    fresh = λ x g. refl;
    var_undefined = λ x g e. h.var_undefined x g (i.guarded_vars x g e);
  }

  drop_role : {t : Tree} {ts us : Forest} → DeclaresNone N t → ListRole (pairing N mark does ignores) ts us → ListRole (pairing N mark does ignores) (t ⊳ ts) us
  drop_role {t} {ts} {us} d hs = record {
    declares = λ x keeps.
        subst (λ o. Maybe (SameDeclaration (pairing N mark does ignores) x) o (found x (declared us))) (sym (found_cons x t ts ∙ ap (λ o. or_else o (found x (declared ts))) (is_none x (declared_by t) (d.declares x keeps)))) (hs.declares x keeps);
    vars = λ x keeps z. has_cons x t ts ∙ ap (λ b. b || has_name x (vars_all ts)) (d.vars x (is_firm keeps z)) ∙ hs.vars x keeps z;
    fresh = λ x g. ap holds_function (found_cons x t ts) ∙ or_else_fresh (found x (declared_by t)) (found x (declared ts)) (d.functions x g) (hs.fresh x g);
    var_undefined = λ x g e. hs.var_undefined x g (sym (has_cons x t ts ∙ ap (λ b. b || has_name x (vars_all ts)) (d.vars x (is_known g))) ∙ e);
  }

  drop_after_role : {t u : Tree} {ts us : Forest} → Role (pairing N mark does ignores) t u → DeclaresNone N u → ListRole (pairing N mark does ignores) ts us → ListRole (pairing N mark does ignores) (t ⊳ ts) us
  drop_after_role {t} {u} {ts} {us} h d hs =
      record {
        declares = λ x keeps. subst (λ o. Maybe (SameDeclaration (pairing N mark does ignores) x) (found x (declared (t ⊳ ts))) o) (found_cons x u us ∙ ap (λ o. or_else o (found x (declared us))) (is_none x (declared_by u) (d.declares x keeps))) ((cons_role h hs).declares x keeps);
        vars = λ x keeps z. has_cons x t ts ∙ ap₂ ◌||◌ (h.vars x keeps z ∙ d.vars x (is_firm keeps z)) (hs.vars x keeps z);
        fresh = (cons_role h hs).fresh;
        var_undefined = (cons_role h hs).var_undefined;
      }

  between : {ts us vs ws : Forest} → SameLists N ts us → ListRole (pairing N mark does ignores) us vs → SameLists N vs ws → ListRole (pairing N mark does ignores) ts ws
  between {ts} {vs = vs} f h g = record {
    declares = λ x keeps.
        subst (λ o. Maybe (SameDeclaration (pairing N mark does ignores) x) (found x (declared ts)) o) (g.declares x keeps)
        (subst (λ o. Maybe (SameDeclaration (pairing N mark does ignores) x) o (found x (declared vs))) (sym (f.declares x keeps)) (h.declares x keeps));
    vars = λ x keeps z. f.vars x keeps z ∙ h.vars x keeps z ∙ g.vars x keeps z;
    fresh = λ x g. f.functions x g (h.fresh x g);
    var_undefined = λ x g e. h.var_undefined x g (f.guarded_vars x g e);
  }

  mutual
    pub kept_role : {t u : Tree} → Kept N mark does t u → Role (pairing N mark does ignores) t u
    kept_role (kept l p q c o sc h) = plain_role l p c (all_role h) (firsts_role h) (kept l p q c o sc h)
    kept_role (kept_list l p q h) = list_role l p (listed_role h)
    kept_role (kept_declarators k q h) = declarators_role k (same_declarators h) (all_role h)
    kept_role (kept_import src q h) = record { declares = λ x keeps. neither; copied = λ x keeps. refl; vars = λ x keeps z. refl; fresh = λ x g. refl; var_undefined = λ x g e. absurd (false≢true e) }
    kept_role (kept_known k q v e g y a r) = known_role k v
    kept_role (kept_unset k q d g) = unset_role k g
    kept_role (kept_default q d g r y) = record { declares = λ x keeps. neither; copied = λ x keeps. refl; vars = λ x keeps z. refl; fresh = λ x g. refl; var_undefined = λ x g e. absurd (false≢true e) }
    kept_role (kept_switch q r k a e i h) = switch_role i (cons_role (rewrites_role r) (all_role h))
    kept_role (drop_own q d g sc h) = record { declares = λ x keeps. neither; copied = λ x keeps. refl; vars = λ x keeps z. refl; fresh = λ x g. refl; var_undefined = λ x g e. absurd (false≢true e) }

    either_role : {t u : Tree} → KeptOrUnseen N mark does t u → Role (pairing N mark does ignores) t u
    either_role (as_kept k) = kept_role k
    either_role (unseen d q l g) = unseen_role d l g

    pub rewrites_role : {t u : Tree} → Rewrites N mark does t u → Role (pairing N mark does ignores) t u
    rewrites_role (step a f k e g) = after_role (before_role f (either_role k)) g

    pub all_role : {b : Bool} {ts us : Forest} → All N mark does b ts us → ListRole (pairing N mark does ignores) ts us
    all_role nil = nil_role
    all_role (cons r rs) = cons_role (rewrites_role r) (all_role rs)
    all_role (drop i d rs) = drop_role d (all_role rs)
    all_role (drop_rewritten {t} {u} {ts} {us} r i q d rs) = drop_after_role (rewrites_role r) d (all_role rs)
    all_role (stop r s rs) = cons_role (rewrites_role r) (unreached_role rs)

    unreached_role : {ts us : Forest} → Unreached N mark does ts us → ListRole (pairing N mark does ignores) ts us
    unreached_role end = nil_role
    unreached_role (stay r rs) = cons_role (rewrites_role r) (unreached_role rs)
    unreached_role (leave d rs) = drop_role d (unreached_role rs)

    firsts_role : {ts us : Forest} → All N mark does false ts us → Firsts N mark does ignores ts us
    firsts_role nil = no_first
    firsts_role (cons r rs) = a_first (view r) (rewrites_role r)

    pub listed_role : {ts us : Forest} → Listed N mark does ts us → ListRole (pairing N mark does ignores) ts us
    listed_role (listed a f h e g) = between f (all_role h) g
