-- A walk of the tree shaker is a rewrite, where the names whose declarations go are such names, and those that are left are
-- bound as before.
use Rattle.std.proofs.Common.{◌≡◌, ℕ, ◌+◌, ◌≤◌, Bool, true, false, not, ◌||◌, if◌then◌else◌, List, [], ◌∷◌, ◌++◌, Option, Some, refl, sym, ap, ap₂, ◌∙◌, arith}
use Rattle.std.proofs.lemmas.Bool.{false≢true, true≢false, and_from}
use Rattle.swc_ast.specs.declared.Span.{Span}
use Rattle.swc_ast.specs.declared.VarDeclKind.{VarDeclKind}
use Rattle.swc_ast.specs.Tree.{Text, Name, Label, Fn, Arrow, Method, FnDecl, ExportDefaultFn, ExportDecl, ExportNamed, ExportSpecifier, Params, Body, Block, CaseBody, VarDecl, Import, Tree, node, Forest, ε, ◌⊳◌, Absent}
use Rattle.swc_ast.specs.Scope.{has_name, param_names, body_declares}
use Rattle.swc_ast.specs.Resolved.{one_if, has_default, params_of, body_of, function_scopes, own_scopes}
use Rattle.swc_ast.specs.Call.{behind_key}
use Rattle.swc_ast.specs.Run.{export_text, specifier_export, specifier_exports}
use Rattle.meaning_proofs.specs.Names.{Names}
use Rattle.meaning_proofs.specs.Roles.{SameBody, Scoped}
use Rattle.meaning_proofs.specs.Rewrites.{SameExports}
use Rattle.static_proofs.specs.Keeps.{Keeps, AllKeep, none_kept, more_kept}
use Rattle.static_proofs.specs.Names.{frame_label}
use Rattle.static_proofs.proofs.Inside.{own_scopes_kept, body_declares_kept}
use Rattle.static_proofs.proofs.Kept.{walk_keeps}
use Rattle.static_proofs.proofs.Parts.{all_scopes, params_kept, body_kept}
use Rattle.static_proofs.proofs.Walked.{leaves_walks}
use Rattle.walk_proofs.specs.Finished.{Does}
use Rattle.walk_proofs.proofs.Finished.{leaves}
use Rattle.tree_walk.specs.Pass.{walks_each}
use Rattle.tree_walk.specs.Walks.{Walks, AllWalk, nothing, both}
use Rattle.dce_rules.specs.Shakes.{Shaker, shake_pass}
use Rattle.dce_proofs.proofs.Owes.{owes}
use Rattle.dce_proofs.proofs.Walked.{gone, is_left, names, Specifiers, no_more, stays, Walked, same_node, same_list, same_import, declaration, Each, none, more, Items, no_item, item, Declarators, no_declarator, declarator}
use Rattle.dce_proofs.proofs.Went.{Entry, In, here, further, Fair, AllStand, AllStandIn, key_apart, is_params_or_body, Bound, AllBound}

-- entries

in_left : {e : Entry} {es : List Entry} (fs : List Entry) → In e es → In e (es ++ fs)
in_left fs here = here
in_left fs (further i) = further (in_left fs i)

in_right : {e : Entry} (es : List Entry) {fs : List Entry} → In e fs → In e (es ++ fs)
in_right [] i = i
in_right (f ∷ es) i = further (in_right es i)

module _ {G K : Name → Bool} where
  pub fair_left : (es fs : List Entry) → Fair G K (es ++ fs) → Fair G K es
  fair_left es fs f = record { goes = λ x b i. f.goes x b (in_left fs i); none_left = λ x i. f.none_left x (in_left fs i) }

  pub fair_right : (es fs : List Entry) → Fair G K (es ++ fs) → Fair G K fs
  fair_right es fs f = record { goes = λ x b i. f.goes x b (in_right es i); none_left = λ x i. f.none_left x (in_right es i) }

  -- a name whose `let`, function or import goes is gone; one whose `var` goes is gone, or still declared
  pub is_gone : (x : Name) {es : List Entry} → Fair G K ((x, true) ∷ es) → gone G K x ≡ true
  is_gone x f = and_from (G x) (not (K x)) (f.goes x true here) (ap not (f.none_left x here))

-- what each step keeps

step_keeps : {S : Shaker} (a b : Tree) → Does (shake_pass S) a b → Keeps a b
step_keeps a b d = (owes a b d).keeps

pub walks_keep : {S : Shaker} {c : Bool} {t u : Tree} → Walks (shake_pass S) c t u → Keeps t u
walks_keep w = walk_keeps step_keeps (leaves_walks (leaves w))

pub all_keep : {S : Shaker} {c : Bool} {ts us : Forest} → AllWalk (shake_pass S) c ts us → AllKeep ts us
all_keep nothing = none_kept
all_keep (both w ws) = more_kept (walks_keep w) (all_keep ws)

-- names that are left, in the parts of a node

module _ {G K : Name → Bool} where
  pub bound_inside : (l : Label) {ss rs : List Span} {ts us : Forest} → AllKeep ts us → Bound G K (node l ss ts) (node l rs us) → AllBound G K ts us
  bound_inside l ks h = record { by = λ x s. omega (arith, h.by x s, own_scopes_kept x l ks) }

  pub bound_first : {t u : Tree} {ts us : Forest} → AllKeep ts us → AllBound G K (t ⊳ ts) (u ⊳ us) → Bound G K t u
  bound_first ks h = record { by = λ x s. omega (arith, h.by x s, all_scopes x ks) }

  pub bound_rest : {t u : Tree} {ts us : Forest} → Keeps t u → AllBound G K (t ⊳ ts) (u ⊳ us) → AllBound G K ts us
  bound_rest k h = record { by = λ x s. omega (arith, h.by x s, k.scopes_kept x) }

  -- behind a step, and in front of one
  pub bound_behind : {t u v : Tree} → Keeps t u → Bound G K t v → Bound G K u v
  bound_behind k h = record { by = λ x s. omega (arith, h.by x s, k.scopes_kept x) }

  pub bound_before : {t u v : Tree} → Keeps u v → Bound G K t v → Bound G K t u
  bound_before k h = record { by = λ x s. omega (arith, h.by x s, k.scopes_kept x) }

-- functions bind what they bound

one_if_back : (a b : Bool) → one_if a ≤ one_if b → (b ≡ true → a ≡ true) → a ≡ b
one_if_back true true h k = refl
one_if_back false false h k = refl
one_if_back true false h k = absurd (omega (arith, h))
one_if_back false true h k = absurd (false≢true (k refl))

body_of_scopes : (d p b : Bool) → p ≡ false → (if d then one_if p + one_if b else one_if (p || b)) ≡ one_if b
body_of_scopes true false true e = refl
body_of_scopes true false false e = refl
body_of_scopes false false b e = refl
body_of_scopes d true b e = absurd (true≢false e)

same_body : {N : Names} {ts us : Forest} → AllKeep ts us → ((x : Name) → N.slack x ≡ true → function_scopes x ts ≤ function_scopes x us) → SameBody N ts us
same_body {N} {ts} {us} ks h = record { binds = λ x s p. at x (h x s) p }
  where
    at : (x : Name) → function_scopes x ts ≤ function_scopes x us → has_name x (param_names (params_of ts)) ≡ false → body_declares (body_of ts) x ≡ body_declares (body_of us) x
    at x i p =
        one_if_back (body_declares (body_of ts) x) (body_declares (body_of us) x)
        (omega (arith, i, body_of_scopes (has_default (params_of ts)) (has_name x (param_names (params_of ts))) (body_declares (body_of ts) x) p, body_of_scopes (has_default (params_of us)) (has_name x (param_names (params_of us))) (body_declares (body_of us) x) (ap (has_name x) (params_kept ks).same_params ∙ p)))
        (body_declares_kept x (body_kept ks))

-- functions that stand behind a key

part_by : Option Label → Bool
part_by (Some Params) = true
part_by (Some Body) = true
part_by _ = false

part_of_label : (l : Label) → is_params_or_body l ≡ part_by (frame_label l)
unfolding part_by
part_of_label Params = refl
part_of_label Body = refl
part_of_label ExportNamed = refl
part_of_label l = refl

behind_params : (l : Label) (ss : List Span) (cs ts : Forest) → is_params_or_body l ≡ false → params_of (node l ss cs ⊳ ts) ≡ params_of ts
behind_params Params ss cs ts e = absurd (true≢false e)
behind_params l ss cs ts e = refl

behind_body : (l : Label) (ss : List Span) (cs ts : Forest) → is_params_or_body l ≡ false → body_of (node l ss cs ⊳ ts) ≡ body_of ts
behind_body Body ss cs ts e = absurd (true≢false e)
behind_body l ss cs ts e = refl

behind_scopes : (x : Name) (l : Label) (ss : List Span) (cs ts : Forest) → is_params_or_body l ≡ false → function_scopes x (node l ss cs ⊳ ts) ≡ function_scopes x ts
behind_scopes x l ss cs ts e = ap₂ (λ ps bs. at ps bs) (behind_params l ss cs ts e) (behind_body l ss cs ts e)
  where
    at : Forest → Forest → ℕ
    at ps bs = if has_default ps then one_if (has_name x (param_names ps)) + one_if (body_declares bs x) else one_if (has_name x (param_names ps) || body_declares bs x)

not_false : (b : Bool) → not b ≡ true → b ≡ false
not_false false h = refl
not_false true h = absurd (false≢true h)

method_body : {N : Names} {ts us : Forest} → AllKeep ts us → key_apart Method us ≡ true → ((x : Name) → N.slack x ≡ true → function_scopes x ts ≤ function_scopes x us) → SameBody N (behind_key ts) (behind_key us)
method_body none_kept e h = same_body none_kept h
method_body {N} (more_kept {t = node l ss cs} {u = node m rs ds} {ts = ts} {us = us} k ks) e h =
    let q = not_false (is_params_or_body m) e in
    let p = part_of_label l ∙ ap part_by (sym k.frame_kept) ∙ sym (part_of_label m) ∙ q in
    same_body ks (λ x s. omega (arith, h x s, behind_scopes x l ss cs ts p, behind_scopes x m rs ds us q))

-- what a node's scope asks of its parts
scoped_at : (G K U : Name → Bool) (l : Label) {ts us : Forest} → AllKeep ts us → key_apart l us ≡ true → ((x : Name) → is_left G K x ≡ true → own_scopes x l ts ≤ own_scopes x l us) → Scoped (names G K U) l ts us
unfolding own_scopes
scoped_at G K U (Fn o) ks e h = same_body ks (λ x s. omega (arith, h x s))
scoped_at G K U Arrow ks e h = same_body ks (λ x s. omega (arith, h x s))
scoped_at G K U Method ks e h = method_body ks e (λ x s. omega (arith, h x s))
scoped_at G K U (FnDecl f) ks e h = same_body ks (λ x s. omega (arith, h x s))
scoped_at G K U (ExportDefaultFn o) ks e h = same_body ks (λ x s. omega (arith, h x s))
scoped_at G K U l ks e h = tt

pub scoped : (G K U : Name → Bool) (l : Label) {ss rs : List Span} {ts us : Forest} → AllKeep ts us → key_apart l us ≡ true → Bound G K (node l ss ts) (node l rs us) → Scoped (names G K U) l ts us
scoped G K U l ks e b = scoped_at G K U l ks e (λ x s. omega (arith, b.by x s, all_scopes x ks))

-- exports

exports_by : Option Label → List (Text × Name)
exports_by (Some (ExportSpecifier x t)) = (export_text x t, x) ∷ []
exports_by _ = []

export_of_label : (l : Label) → specifier_export l ≡ exports_by (frame_label l)
unfolding exports_by
export_of_label (ExportSpecifier x t) = refl
export_of_label Absent = refl
export_of_label l = refl

same_specifiers : {ts us : Forest} → AllKeep ts us → specifier_exports ts ≡ specifier_exports us
same_specifiers none_kept = refl
same_specifiers (more_kept {t = node l ss cs} {u = node m rs ds} k ks) = ap₂ (λ (xs ys : List (Text × Name)). xs ++ ys) (export_of_label l ∙ ap exports_by (sym k.frame_kept) ∙ sym (export_of_label m)) (same_specifiers ks)

pub same_exports : (l : Label) {ts us : Forest} → walks_each l ≡ true → AllKeep ts us → SameExports l ts us
same_exports ExportDecl p ks = absurd (false≢true p)
same_exports ExportNamed p ks = same_specifiers ks
same_exports l p ks = tt

-- what is not entered, and what is not walked, stands as it is

pub scoped_itself : (G K U : Name → Bool) (l : Label) (ts : Forest) → Scoped (names G K U) l ts ts
scoped_itself G K U (Fn o) ts = record { binds = λ x s p. refl }
scoped_itself G K U Arrow ts = record { binds = λ x s p. refl }
scoped_itself G K U Method ts = record { binds = λ x s p. refl }
scoped_itself G K U (FnDecl f) ts = record { binds = λ x s p. refl }
scoped_itself G K U (ExportDefaultFn o) ts = record { binds = λ x s p. refl }
scoped_itself G K U l ts = tt

pub exports_itself : (l : Label) (ts : Forest) → SameExports l ts ts
exports_itself ExportDecl ts = refl
exports_itself ExportNamed ts = refl
exports_itself l ts = tt

pub specifiers_itself : (D : Name → Bool) (ts : Forest) → Specifiers D ts ts
specifiers_itself D ε = no_more
specifiers_itself D (node l ss cs ⊳ ts) = stays l (specifiers_itself D ts)

module _ {G K U : Name → Bool} {mark : ℕ} {drops : Bool} where
  mutual
    pub walked_itself : (t : Tree) → AllStand G K t → Walked G K U mark drops t t
    walked_itself (node Block ss cs) h = same_list Block refl (items_itself cs h.1.1)
    walked_itself (node Body ss cs) h = same_list Body refl (items_itself cs h.1.1)
    walked_itself (node CaseBody ss cs) h = same_list CaseBody refl (items_itself cs h.1.1)
    walked_itself (node (VarDecl k) ss cs) h = declaration k (declarators_itself k cs h.1.1)
    walked_itself (node (Import src) ss cs) h = same_import src (specifiers_itself (gone G K) cs)
    walked_itself (node l ss cs) h = same_node l refl h.0 (exports_itself l cs) (scoped_itself G K U l cs) (each_itself cs h.1.1)

    each_itself : (ts : Forest) → AllStandIn G K ts → Each G K U mark drops ts ts
    each_itself ε h = none
    each_itself (t ⊳ ts) h = more (walked_itself t h.0) (each_itself ts h.1)

    items_itself : (ts : Forest) → AllStandIn G K ts → Items G K U mark drops ts ts
    items_itself ε h = no_item
    items_itself (t ⊳ ts) h = item (walked_itself t h.0) (items_itself ts h.1)

    declarators_itself : (k : VarDeclKind) (ts : Forest) → AllStandIn G K ts → Declarators G K U mark drops k false ts ts
    declarators_itself k ε h = no_declarator
    declarators_itself k (t ⊳ ts) h = declarator (walked_itself t h.0) (declarators_itself k ts h.1)
