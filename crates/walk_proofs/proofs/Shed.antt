-- What a declaration that goes from a list was, before it was walked: a declaration of the same names.
use Rattle.std.proofs.Common.{◌≡◌, ℕ, Bool, true, false, List, [], ◌++◌, Option, Some, None, refl, sym, ap, ap₂, cond, ◌∙◌}
use Rattle.std.proofs.lemmas.Bool.{and_parts, false≢true, true≢false}
use Rattle.swc_ast.specs.declared.Span.{Span}
use Rattle.swc_ast.specs.declared.VarDeclKind.{VarDeclKind}
use Rattle.swc_ast.specs.declared.VarDeclKind.TheVariants.{Var, Let, Const}
use Rattle.swc_ast.specs.Tree.{Name, same_name, Label, FnDecl, ExportDecl, ExportDefaultFn, ExportDefaultExpr, VarDecl, Declarator, Tree, node, Forest, ε, ◌⊳◌, label_of}
use Rattle.swc_ast.specs.Scope.{Declaration, Lexical, Function, has_name, vars, vars_all, declarator_name, declarator_names, found, is_found, declared_by, as_lexicals}
use Rattle.meaning_proofs.specs.Names.{Names}
use Rattle.meaning_proofs.specs.Roles.{is_part, Fits, unchanged, changed, DeclaresNone, holds_function}
use Rattle.meaning_proofs.specs.Walks.{dead_names}
use Rattle.meaning_proofs.proofs.Declared.{lexicals_fresh}
use Rattle.meaning_proofs.proofs.Statements.{found_is, some_is}
use Rattle.static_proofs.specs.Shaped.{is_lexical, is_declarator_of, labels_of, all_labels}
use Rattle.static_proofs.proofs.Names.{same_name_itself, found_first}
use Rattle.static_proofs.proofs.Lost.{lexical_names}
use Rattle.tree_walk.specs.Pass.{Pass}
use Rattle.tree_walk.specs.Walks.{Walks, closed, opened, passes, stands, stepped, Entered, plain, exported, headed, head_shut, imports, block, AllWalk, nothing, both}
use Rattle.walk_proofs.specs.Plain.{NodeRight, does_same, default_goes}
use Rattle.walk_proofs.specs.Dying.{OpenRight, cases_shed, DyingRight}

-- labels that a parent looks for stay through a walk

entered_label : {X : Pass} {c : Bool} {a b : Tree} → Entered X c a b → label_of a ≡ label_of b
entered_label (plain p ws) = refl
entered_label (exported d ws) = refl
entered_label (headed ds ws) = refl
entered_label (head_shut s ws) = refl
entered_label (imports u) = refl
entered_label (block b w) = refl

fits_label : {A : Type 0} (f : Label → A) (o : A) → ((l : Label) → is_part l ≡ false → f l ≡ o) → {N : Names} {t u : Tree} → Fits N t u → f (label_of t) ≡ f (label_of u)
fits_label f o h unchanged = refl
fits_label f o h (changed {t = t} {u = u} p q s) = h (label_of t) p ∙ sym (h (label_of u) q)

right_label : {A : Type 0} (f : Label → A) (o : A) → ((l : Label) → is_part l ≡ false → f l ≡ o) → {mark : ℕ} {t u : Tree} → NodeRight mark t u → f (label_of t) ≡ f (label_of u)
right_label f o h (does_same e g i) = fits_label f o h g
right_label f o h (default_goes y) = refl

open_label : {A : Type 0} (f : Label → A) {mark : ℕ} {t u : Tree} → OpenRight mark t u → f (label_of t) ≡ f (label_of u)
open_label f (cases_shed v g h e) = refl

pub walked_label : {A : Type 0} (f : Label → A) (o : A) → ((l : Label) → is_part l ≡ false → f l ≡ o) → {X : Pass} {mark : ℕ} → DyingRight X mark → {c : Bool} {t u : Tree} → Walks X c t u → f (label_of t) ≡ f (label_of u)
walked_label f o h r (closed s) = refl
walked_label f o h r (opened {t = t} {u = u} s w) = open_label f (r.open_right t u s) ∙ walked_label f o h r w
walked_label f o h r (passes i w) = ap f (entered_label w)
walked_label f o h r (stands w i) = ap f (entered_label w)
walked_label f o h r (stepped {b = b} {d = d} w s) = ap f (entered_label w) ∙ right_label f o h (r.node_right b d s)

no_declarator : (l : Label) → is_part l ≡ false → declarator_name l ≡ []
no_declarator (Declarator k x) e = absurd (true≢false e)
no_declarator l e = refl

names_cons : (t : Tree) (ts : Forest) → declarator_names (t ⊳ ts) ≡ declarator_name (label_of t) ++ declarator_names ts
names_cons (node l ss cs) ts = refl

walked_names : {X : Pass} {mark : ℕ} → DyingRight X mark → {c : Bool} {ts us : Forest} → AllWalk X c ts us → declarator_names ts ≡ declarator_names us
walked_names r nothing = refl
walked_names r (both {t = t} {u = u} {ts = ts} {us = us} w ws) = names_cons t ts ∙ ap₂ ◌++◌ (walked_label declarator_name [] no_declarator r w) (walked_names r ws) ∙ sym (names_cons u us)

-- a tree that is a declaration of `let` or `const`, and declares some names
pub data Declares (xs : List Name) : Tree → Type 0 where
  declares : {k : VarDeclKind} {ss : List Span} {ds : Forest} → is_lexical k ≡ true → ((x : Name) → has_name x xs ≡ true → has_name x (declarator_names ds) ≡ true) → Declares xs (node (VarDecl k) ss ds)

-- whether what is found is a name of `let` or `const`
abbrev is_lexical_found : Option Declaration → Bool
is_lexical_found (Some (Lexical w)) = true
is_lexical_found _ = false

unless_function : (b : Bool) (f : Tree) → is_lexical_found (cond b (Some (Function f)) None) ≡ true → ⊥
unless_function true f e = false≢true e
unless_function false f e = false≢true e

-- what declares a name of `let` or `const` and is no part is a declaration
declares_by_label : (l : Label) (ss : List Span) (cs : Forest) (y : Name) (xs : List Name) → is_part l ≡ false → is_lexical_found (found y (declared_by (node l ss cs))) ≡ true → ((x : Name) → has_name x xs ≡ true → is_found x (declared_by (node l ss cs)) ≡ true) → Declares xs (node l ss cs)
declares_by_label (VarDecl Let) ss cs y xs p e f = declares refl (λ x h. ap (has_name x) (sym (lexical_names Let ss cs refl)) ∙ sym (found_first x (declared_by (node (VarDecl Let) ss cs))) ∙ f x h)
declares_by_label (VarDecl Const) ss cs y xs p e f = declares refl (λ x h. ap (has_name x) (sym (lexical_names Const ss cs refl)) ∙ sym (found_first x (declared_by (node (VarDecl Const) ss cs))) ∙ f x h)
declares_by_label (FnDecl z) ss cs y xs p e f = absurd (unless_function (same_name z y) (node (FnDecl z) ss cs) e)
declares_by_label ExportDecl ss cs y xs p e f = absurd (true≢false p)
declares_by_label (ExportDefaultFn o) ss cs y xs p e f = absurd (true≢false p)
declares_by_label ExportDefaultExpr ss cs y xs p e f = absurd (true≢false p)
declares_by_label l ss cs y xs p e f = absurd (false≢true e)

-- declarators

first_found : (k : VarDeclKind) (ss : List Span) (l : Label) (rs : List Span) (cs ds : Forest) → is_lexical k ≡ true → is_declarator_of k l ≡ true → (y : Name) × (is_lexical_found (found y (declared_by (node (VarDecl k) ss (node l rs cs ⊳ ds)))) ≡ true)
first_found Let ss (Declarator Let y) rs cs ds e a = (y, ap (λ b. is_lexical_found (cond b (Some (Lexical true)) (found y (as_lexicals true (declarator_names ds))))) (same_name_itself y))
first_found Const ss (Declarator Const y) rs cs ds e a = (y, ap (λ b. is_lexical_found (cond b (Some (Lexical false)) (found y (as_lexicals false (declarator_names ds))))) (same_name_itself y))
first_found Var ss l rs cs ds e a = absurd (false≢true e)
first_found Let ss l rs cs ds e a = absurd (false≢true a)
first_found Const ss l rs cs ds e a = absurd (false≢true a)

-- what such a declaration was before its step

step_before : {k : VarDeclKind} {ss : List Span} {d : Tree} {ds : Forest} {mark : ℕ} → is_lexical k ≡ true → all_labels (is_declarator_of k) (labels_of (d ⊳ ds)) ≡ true → (b : Tree) → NodeRight mark b (node (VarDecl k) ss (d ⊳ ds)) → Declares (declarator_names (d ⊳ ds)) b
step_before e a b (does_same g unchanged i) = declares e (λ x h. h)
step_before {k = k} {ss = ss} {d = node m rs cs} {ds = ds} e a (node l qs us) (does_same g (changed p q s) i) =
    let f = first_found k ss m rs cs ds e (and_parts (is_declarator_of k m) (all_labels (is_declarator_of k) (labels_of ds)) a).0 in
    declares_by_label l qs us f.0 (declarator_names (node m rs cs ⊳ ds)) p (ap is_lexical_found (s.declares f.0 refl) ∙ f.1)
    (λ x h. sym (found_is x (declared_by (node l qs us))) ∙ ap some_is (s.declares x refl) ∙ found_is x (declared_by (node (VarDecl k) ss (node m rs cs ⊳ ds))) ∙ found_first x (declared_by (node (VarDecl k) ss (node m rs cs ⊳ ds))) ∙ ap (has_name x) (lexical_names k ss (node m rs cs ⊳ ds) e) ∙ h)

entered_before : {X : Pass} {mark : ℕ} → DyingRight X mark → {xs : List Name} {c : Bool} {a b : Tree} → Entered X c a b → Declares xs b → Declares xs a
entered_before r (plain p ws) (declares e h) = declares e (λ x i. ap (has_name x) (walked_names r ws) ∙ h x i)
entered_before r (exported d ws) h = elim h [ ]
entered_before r (headed ds ws) h = elim h [ ]
entered_before r (head_shut s ws) h = elim h [ ]
entered_before r (imports u) h = elim h [ ]
entered_before r (block b w) (declares e h) = absurd (false≢true b)

open_before : {mark : ℕ} {xs : List Name} {t u : Tree} → OpenRight mark t u → Declares xs u → Declares xs t
open_before (cases_shed v g h e) d = elim d [ ]

pub was_declared : {X : Pass} {mark : ℕ} → DyingRight X mark → {k : VarDeclKind} {ss : List Span} {d : Tree} {ds : Forest} → is_lexical k ≡ true → all_labels (is_declarator_of k) (labels_of (d ⊳ ds)) ≡ true → {c : Bool} {t : Tree} → Walks X c t (node (VarDecl k) ss (d ⊳ ds)) → Declares (declarator_names (d ⊳ ds)) t
was_declared r e a (closed s) = declares e (λ x h. h)
was_declared r e a (opened {t = t} {u = u} s w) = open_before (r.open_right t u s) (was_declared r e a w)
was_declared r e a (passes i w) = entered_before r w (declares e (λ x h. h))
was_declared r e a (stands w i) = entered_before r w (declares e (λ x h. h))
was_declared r e a (stepped {b = b} {d = d} w s) = entered_before r w (step_before e a b (r.node_right b d s))

-- a declaration of dead names declares no other

pub no_vars : (k : VarDeclKind) → is_lexical k ≡ true → (ds : Forest) → all_labels (is_declarator_of k) (labels_of ds) ≡ true → vars_all ds ≡ []
no_vars k e ε a = refl
no_vars k e (node l ss cs ⊳ ds) a = let p = and_parts (is_declarator_of k l) (all_labels (is_declarator_of k) (labels_of ds)) a in ap₂ ◌++◌ (no_var k l ss cs e p.0) (no_vars k e ds p.1)
  where
    no_var : (k : VarDeclKind) (l : Label) (ss : List Span) (cs : Forest) → is_lexical k ≡ true → is_declarator_of k l ≡ true → vars (node l ss cs) ≡ []
    no_var Let (Declarator Let x) ss cs e a = refl
    no_var Const (Declarator Const x) ss cs e a = refl
    no_var Var l ss cs e a = absurd (false≢true e)
    no_var Let l ss cs e a = absurd (false≢true a)
    no_var Const l ss cs e a = absurd (false≢true a)

fresh : (k : VarDeclKind) (x : Name) (ss : List Span) (ds : Forest) → is_lexical k ≡ true → holds_function (found x (declared_by (node (VarDecl k) ss ds))) ≡ false
fresh Var x ss ds e = absurd (false≢true e)
fresh Let x ss ds e = lexicals_fresh true x ds
fresh Const x ss ds e = lexicals_fresh false x ds

pub declares_dead : {dead : Name → Bool} (k : VarDeclKind) (ss : List Span) (ds : Forest) → is_lexical k ≡ true → all_labels (is_declarator_of k) (labels_of ds) ≡ true → ((x : Name) → has_name x (declarator_names ds) ≡ true → dead x ≡ true) → DeclaresNone (dead_names dead) (node (VarDecl k) ss ds)
declares_dead {dead} k ss ds e a h = record {
  is_no_export = refl;
  vars = λ x c. ap (has_name x) (no_vars k e ds a);
  declares = λ x c. unless_dead x c (is_found x (declared_by (node (VarDecl k) ss ds))) refl;
  functions = λ x g. fresh k x ss ds e;
  is_no_declarator = λ x c. refl;
  is_no_import = λ x c. refl;
}
  where
    unless_dead : (x : Name) → dead x ≡ false → (b : Bool) → is_found x (declared_by (node (VarDecl k) ss ds)) ≡ b → b ≡ false
    unless_dead x c false i = refl
    unless_dead x c true i = absurd (true≢false (sym (h x (ap (has_name x) (sym (lexical_names k ss ds e)) ∙ sym (found_first x (declared_by (node (VarDecl k) ss ds))) ∙ i)) ∙ c))
