-- Each step of the tree shaker keeps what is static, and is lighter.
use Rattle.std.proofs.Common.{◌≡◌, pos, zero, ◌+◌, ◌≤◌, Bool, true, false, ◌&&◌, ◌||◌, if◌then◌else◌, List, [], ◌∷◌, refl, sym, ap, subst, ◌∙◌, arith}
use Rattle.std.proofs.lemmas.Bool.{false≢true, and_parts, le-leb}
use Rattle.swc_ast.specs.declared.Span.{Span}
use Rattle.swc_ast.specs.declared.AssignOp.TheVariants.{Assign as Plain}
use Rattle.swc_ast.specs.declared.VarDeclKind.{VarDeclKind}
use Rattle.swc_ast.specs.declared.VarDeclKind.TheVariants.{Var, Let, Const}
use Rattle.swc_ast.specs.Tree.{Name, same_name, Label, NumLit, Seq, Assign, Block, VarDecl, Declarator, FnDecl, Import, ImportNamed, ImportDefault, ImportStar, Empty, Tree, node, Forest, ε, ◌⊳◌}
use Rattle.swc_ast.specs.Scope.{vars, vars_all, declarator_name, declarator_names, imported_name, specifier_names, joined}
use Rattle.swc_ast.specs.Valid.{valid, count}
use Rattle.swc_ast.specs.Core.{fits}
use Rattle.swc_ast.specs.Resolved.{own_scopes}
use Rattle.swc_ast.specs.Weight.{own_weight, weight, weight_all, is_list}
use Rattle.static_proofs.specs.Drawn.{AllDrawn, nothing_of, all_of, part_of, none_drawn, more_drawn}
use Rattle.static_proofs.specs.Names.{is_some_tree}
use Rattle.static_proofs.specs.Over.{Makes, Over, over_none, over_piece, over_made}
use Rattle.static_proofs.specs.Shaped.{is_specifier}
use Rattle.static_proofs.specs.Spares.{Spared}
use Rattle.static_proofs.specs.Step.{Step}
use Rattle.static_proofs.proofs.Compose.{step_then}
use Rattle.static_proofs.proofs.Expressions.{expression_step}
use Rattle.static_proofs.proofs.Names.{same_name_path}
use Rattle.static_proofs.proofs.Spared.{spared_same, spared_path, spared_then, spared_append}
use Rattle.walk_proofs.specs.Finished.{Does, at_front, at_node, at_list, at_both}
use Rattle.walk_proofs.specs.Meant.{Sifts, sifted, stays_there, goes_there}
use Rattle.swc_utils.specs.Pure.{pure}
use Rattle.pass_rules.specs.Leaves.{guarded}
use Rattle.dce_rules.specs.Left.{any_of, is_plain_value}
use Rattle.dce_rules.specs.Shakes.{Shaker, Early, Opens, value, shielded, value_of_value, declarators_open, declaration_opens, goes_plainly, all_go, Goes, Leaves, nothing_left, goes_with_value, value_left, as_statement, import_goes, Shakes, declarators_go, declaration_goes, specifiers_go, call_gives, item_goes, ItemGoes, items_go, shake_pass}
use Rattle.dce_proofs.proofs.Dropping.{MayGo, Drops as Dropping, none_dropped, item_kept, item_dropped, Thins, none_thinned, tree_kept, tree_dropped, DropStep, drop_items, drop_declarators, only_values, no_values, drop_specifiers, only_value, call_object}
use Rattle.dce_proofs.proofs.DropSteps.{drop_step}

-- names that have to stay
abbrev pub Stays : Shaker → Name → Type 0
Stays S x = S.free x ≡ false

-- assignments

number_made : (V F : Type 0) → Makes V F (NumLit (pos zero)) ε
unfolding own_scopes
number_made V F = record { names = λ v. refl; shape = λ v. refl; numbers = λ f. refl; scope = λ f. refl; opens_none = λ x. refl; out = refl; no_function = refl; no_jump = λ g. refl }

sequence_made : (V F : Type 0) (a b : Tree) → Makes V F Seq (a ⊳ b ⊳ ε)
unfolding own_scopes
sequence_made V F a b = record { names = λ v. refl; shape = λ v. refl; numbers = λ f. refl; scope = λ f. refl; opens_none = λ x. refl; out = refl; no_function = refl; no_jump = λ g. refl }

shielded_step : {P : Name → Type 0} (x : Name) (ss rs zs : List Span) (r : Tree) → Step ⊥ P (node (Assign Plain x) ss (r ⊳ ε)) (guarded rs zs r)
unfolding own_weight
shielded_step x ss rs zs r = expression_step refl refl refl (more_drawn all_of none_drawn) (over_made (sequence_made _ _ (node (NumLit (pos zero)) zs ε) r) (over_made (number_made _ _) over_none (over_piece over_none)) over_none) (omega arith)

-- names that go

-- a name that stays is none that goes
apart : (S : Shaker) (x y : Name) → S.free y ≡ true → Stays S x → same_name x y ≡ false
apart S x y f p = by_case (same_name x y) refl
  where
    by_case : (b : Bool) → same_name x y ≡ b → b ≡ false
    by_case false e = refl
    by_case true e = absurd (false≢true (sym p ∙ ap S.free (same_name_path x y e) ∙ f))

one_spared : (S : Shaker) (y : Name) (ys : List Name) → S.free y ≡ true → Spared (Stays S) (y ∷ []) ys
one_spared S y ys f = record { by = λ x p h. absurd (false≢true (sym (ap (λ b. b || false) (apart S x y f p)) ∙ h)) }

only_of : (S : Shaker) (y : Name) → any_of S.free (y ∷ []) ≡ true → S.free y ≡ true
only_of S y h = by_case (S.free y) refl h
  where
    by_case : (b : Bool) → S.free y ≡ b → (b || false) ≡ true → S.free y ≡ true
    by_case true e h = e
    by_case false e h = absurd (false≢true h)

value_free : (S : Shaker) (y : Name) (b : Bool) → any_of S.free (if b then y ∷ [] else []) ≡ true → S.free y ≡ true
value_free S y true h = only_of S y h
value_free S y false h = absurd (false≢true h)

-- What goes plainly: a declarator, a specifier or a function, whose name goes.
pub data Plainly (S : Shaker) : Tree → Type 0 where
  a_function : {x : Name} {ss : List Span} {cs : Forest} → S.free x ≡ true → Plainly S (node (FnDecl x) ss cs)
  a_specifier : {l : Label} {x : Name} {ss : List Span} {cs : Forest} → is_specifier l ≡ true → imported_name l ≡ x ∷ [] → S.free x ≡ true → Plainly S (node l ss cs)
  unset : {k : VarDeclKind} {x : Name} {ss : List Span} → S.free x ≡ true → Plainly S (node (Declarator k x) ss ε)
  with_value : {k : VarDeclKind} {x : Name} {ss : List Span} {r : Tree} → S.free x ≡ true → Plainly S (node (Declarator k x) ss (r ⊳ ε))

pub plainly : (S : Shaker) (t : Tree) → Goes S t → Plainly S t
plainly S (node (FnDecl x) ss cs) h = a_function (only_of S x h)
plainly S (node (ImportNamed x i) ss cs) h = a_specifier refl refl (only_of S x h)
plainly S (node (ImportDefault x) ss cs) h = a_specifier refl refl (only_of S x h)
plainly S (node (ImportStar x) ss cs) h = a_specifier refl refl (only_of S x h)
plainly S (node (Declarator k x) ss ε) h = unset (only_of S x h)
plainly S (node (Declarator k x) ss (r ⊳ ε)) h = with_value (value_free S x (is_plain_value r) h)
plainly S (node l ss cs) h = absurd (false≢true h)

pub early_plainly : (S : Shaker) (t : Tree) → Early S t → Plainly S t
early_plainly S (node (Declarator k x) ss ε) h = unset h
early_plainly S (node (Declarator k x) ss (r ⊳ ε)) h = with_value (and_parts (S.free x) (pure S.mark r) h).0
early_plainly S (node l ss cs) h = absurd (false≢true h)

-- what such a tree weighs and declares

specifier_weighs : (l : Label) (ss : List Span) (cs : Forest) → is_specifier l ≡ true → 1 ≤ weight (node l ss cs)
unfolding own_weight
specifier_weighs (ImportNamed x i) ss cs e = omega arith
specifier_weighs (ImportDefault x) ss cs e = omega arith
specifier_weighs (ImportStar x) ss cs e = omega arith
specifier_weighs l ss cs e = absurd (false≢true e)

plainly_weighs : {S : Shaker} {t : Tree} → Plainly S t → 1 ≤ weight t
unfolding own_weight
plainly_weighs (a_function f) = omega arith
plainly_weighs (a_specifier {l = l} {ss = ss} {cs = cs} e d f) = specifier_weighs l ss cs e
plainly_weighs (unset f) = omega arith
plainly_weighs (with_value f) = omega arith

specifier_declares : {P : Name → Type 0} (l : Label) → is_specifier l ≡ true → Spared P (declarator_name l) []
specifier_declares (ImportNamed x i) e = spared_same []
specifier_declares (ImportDefault x) e = spared_same []
specifier_declares (ImportStar x) e = spared_same []
specifier_declares l e = absurd (false≢true e)

specifier_vars : {P : Name → Type 0} (l : Label) (ss : List Span) (cs : Forest) → is_specifier l ≡ true → Spared P (vars (node l ss cs)) []
specifier_vars (ImportNamed x i) ss cs e = spared_same []
specifier_vars (ImportDefault x) ss cs e = spared_same []
specifier_vars (ImportStar x) ss cs e = spared_same []
specifier_vars l ss cs e = absurd (false≢true e)

declarator_vars : (S : Shaker) (k : VarDeclKind) (x : Name) (ss : List Span) (cs : Forest) → S.free x ≡ true → Spared (Stays S) (vars (node (Declarator k x) ss cs)) []
declarator_vars S Var x ss cs f = one_spared S x [] f
declarator_vars S Let x ss cs f = spared_same []
declarator_vars S Const x ss cs f = spared_same []

plainly_declares : {S : Shaker} {l : Label} {ss : List Span} {cs : Forest} → Plainly S (node l ss cs) → Spared (Stays S) (declarator_name l) []
plainly_declares (a_function f) = spared_same []
plainly_declares (a_specifier {l = l} e d f) = specifier_declares l e
plainly_declares {S} (unset {x = x} f) = one_spared S x [] f
plainly_declares {S} (with_value {x = x} f) = one_spared S x [] f

plainly_vars : {S : Shaker} {t : Tree} → Plainly S t → Spared (Stays S) (vars t) []
plainly_vars (a_function f) = spared_same []
plainly_vars (a_specifier {l = l} {ss = ss} {cs = cs} e d f) = specifier_vars l ss cs e
plainly_vars {S} (unset {k = k} {x = x} {ss = ss} f) = declarator_vars S k x ss ε f
plainly_vars {S} (with_value {k = k} {x = x} {ss = ss} {r = r} f) = declarator_vars S k x ss (r ⊳ ε) f

plainly_imports : {S : Shaker} {l : Label} {ss : List Span} {cs : Forest} → Plainly S (node l ss cs) → Spared (Stays S) (imported_name l) []
plainly_imports (a_function f) = spared_same []
plainly_imports {S} (a_specifier {x = x} e d f) = spared_then (spared_path d) (one_spared S x [] f)
plainly_imports (unset f) = spared_same []
plainly_imports (with_value f) = spared_same []

-- some trees go

module _ (S : Shaker) {G : Tree → Type 0} (goes : (t : Tree) → G t → Plainly S t) where
  thins : {ts us : Forest} → Sifts G ts us → Thins ts us
  thins sifted = none_thinned
  thins (stays_there h) = tree_kept (thins h)
  thins (goes_there {t = t} g h) = tree_dropped (plainly_weighs (goes t g)) (thins h)

  sifted_declarators : {ts us : Forest} → Sifts G ts us → Spared (Stays S) (declarator_names ts) (declarator_names us)
  sifted_declarators sifted = spared_same []
  sifted_declarators (stays_there {t = node l ss cs} h) = spared_append (spared_same (declarator_name l)) (sifted_declarators h)
  sifted_declarators (goes_there {t = node l ss cs} g h) = spared_append (plainly_declares (goes (node l ss cs) g)) (sifted_declarators h)

  sifted_vars : {ts us : Forest} → Sifts G ts us → Spared (Stays S) (vars_all ts) (vars_all us)
  sifted_vars sifted = spared_same []
  sifted_vars (stays_there {t = t} h) = spared_append (spared_same (vars t)) (sifted_vars h)
  sifted_vars (goes_there {t = t} g h) = spared_append (plainly_vars (goes t g)) (sifted_vars h)

  sifted_specifiers : {ts us : Forest} → Sifts G ts us → Spared (Stays S) (specifier_names ts) (specifier_names us)
  sifted_specifiers sifted = spared_same []
  sifted_specifiers (stays_there {t = node l ss cs} h) = spared_append (spared_same (imported_name l)) (sifted_specifiers h)
  sifted_specifiers (goes_there {t = node l ss cs} g h) = spared_append (plainly_imports (goes (node l ss cs) g)) (sifted_specifiers h)

  declarators_step : {k : VarDeclKind} {ss : List Span} {ds es : Forest} → Sifts G ds es → 1 ≤ count es → (es ≡ ds → ⊥) → Step ⊥ (Stays S) (node (VarDecl k) ss ds) (node (VarDecl k) ss es)
  declarators_step h c n = drop_step _ _ (drop_declarators (thins h) (sifted_declarators h) (sifted_vars h) c n)

-- first values that are left

leaves_declarators : {S : Shaker} {ts qs : Forest} → Leaves S ts qs → Spared (Stays S) (declarator_names ts) []
leaves_declarators nothing_left = spared_same []
leaves_declarators {S} (goes_with_value {t = node l ss cs} {ts = ts} g h) = spared_append {xs = declarator_name l} {ys = declarator_names ts} {us = []} {vs = []} (plainly_declares (plainly S (node l ss cs) g)) (leaves_declarators h)
leaves_declarators {S} (value_left {x = x} {ts = ts} f h) = spared_append {xs = x ∷ []} {ys = declarator_names ts} {us = []} {vs = []} (one_spared S x [] f) (leaves_declarators h)

leaves_vars : {S : Shaker} {ts qs : Forest} → Leaves S ts qs → Spared (Stays S) (vars_all ts) []
leaves_vars nothing_left = spared_same []
leaves_vars {S} (goes_with_value {t = t} {ts = ts} g h) = spared_append {xs = vars t} {ys = vars_all ts} {us = []} {vs = []} (plainly_vars (plainly S t g)) (leaves_vars h)
leaves_vars {S} (value_left {k = k} {x = x} {ss = ss} {r = r} {ts = ts} f h) = spared_append {xs = vars (node (Declarator k x) ss (r ⊳ ε))} {ys = vars_all ts} {us = []} {vs = []} (declarator_vars S k x ss (r ⊳ ε) f) (leaves_vars h)

leaves_drawn : {S : Shaker} {ts qs : Forest} → Leaves S ts qs → AllDrawn ts qs
leaves_drawn nothing_left = none_drawn
leaves_drawn (goes_with_value g h) = more_drawn nothing_of (leaves_drawn h)
leaves_drawn (value_left f h) = more_drawn (part_of refl (more_drawn all_of none_drawn)) (leaves_drawn h)

leaves_weigh : {S : Shaker} {ts qs : Forest} → Leaves S ts qs → weight_all qs + count qs ≤ weight_all ts
unfolding own_weight
leaves_weigh nothing_left = omega arith
leaves_weigh (goes_with_value g h) = omega (arith, leaves_weigh h)
leaves_weigh (value_left f h) = omega (arith, leaves_weigh h)

pieces : {V F : Type 0} (ts : Forest) → Over V F ts ts
pieces ε = over_none
pieces (t ⊳ ts) = over_piece (pieces ts)

joined_none : (ts : Forest) → joined ts ε ≡ ts
joined_none ε = refl
joined_none (t ⊳ ts) = ap (λ z. t ⊳ z) (joined_none ts)

values_made : (V F : Type 0) (a b : Tree) (ts : Forest) → Makes V F Seq (a ⊳ b ⊳ ts)
unfolding own_scopes
values_made V F a b ts = record { names = λ v. refl; shape = λ v. le-leb 2 (count (a ⊳ b ⊳ ts)) (omega arith); numbers = λ f. refl; scope = λ f. refl; opens_none = λ x. refl; out = refl; no_function = refl; no_jump = λ g. refl }

values_step : {S : Shaker} (k : VarDeclKind) (ss rs vs : List Span) (ds qs : Forest) → Leaves S ds qs → DropStep (Stays S) (node (VarDecl k) ss ds) (as_statement rs vs qs)
unfolding own_weight
values_step k ss rs vs ds ε h = no_values (leaves_declarators h) (leaves_vars h)
values_step k ss rs vs ds (q ⊳ ε) h = only_values (leaves_declarators h) (leaves_vars h) (leaves_drawn h) (over_piece over_none) (omega (arith, leaves_weigh h))
values_step k ss rs vs ds (q ⊳ r ⊳ qs) h = only_values (leaves_declarators h) (leaves_vars h) (leaves_drawn h) (subst (λ z. Over (valid (node (VarDecl k) ss ds) ≡ true) (fits (node (VarDecl k) ss ds) ≡ true) z (node Seq vs (q ⊳ r ⊳ qs) ⊳ ε)) (joined_none (q ⊳ r ⊳ qs)) (over_made (values_made _ _ q r qs) (pieces (q ⊳ r ⊳ qs)) over_none)) (omega (arith, leaves_weigh h))

-- in front of children

pub opens_owe : {S : Shaker} {t u : Tree} → Opens S t u → Step ⊥ (Stays S) t u
opens_owe (value {x = x} {ss = ss} {r = r} u e p) = drop_step _ _ (only_value e)
opens_owe (shielded {x = x} {ss = ss} {rs = rs} {zs = zs} {r = r} u e p) = shielded_step x ss rs zs r
opens_owe (value_of_value {x = x} {ss = ss} u i o) = step_then refl (drop_step _ _ (only_value i)) (opens_owe o)
opens_owe {S} (declarators_open h c n) = declarators_step S (early_plainly S) h c n
opens_owe {S} (declaration_opens {k = k} {ss = ss} {rs = rs} {ds = ds} c h) = drop_step _ _ (no_values (sifted_declarators S (early_plainly S) h) (sifted_vars S (early_plainly S) h))

-- nodes

pub shakes_owe : {S : Shaker} {t u : Tree} → Shakes S t u → Step ⊥ (Stays S) t u
shakes_owe {S} (declarators_go h c n) = declarators_step S (plainly S) h c n
shakes_owe (declaration_goes {k = k} {ss = ss} {ds = ds} rs vs qs c h) = drop_step _ _ (values_step k ss rs vs ds qs h)
shakes_owe {S} (specifiers_go h n) = drop_step _ _ (drop_specifiers (thins S (plainly S) h) (sifted_specifiers S (plainly S) h) n)
shakes_owe (call_gives n) = drop_step _ _ (call_object refl)

-- lists

all_imports : (S : Shaker) (cs : Forest) → all_go S cs ≡ true → Spared (Stays S) (specifier_names cs) []
all_imports S ε h = spared_same []
all_imports S (node l ss cs ⊳ ts) h =
    let p = and_parts (goes_plainly S (node l ss cs)) (all_go S ts) h in
    spared_append {xs = imported_name l} {ys = specifier_names ts} {us = []} {vs = []} (plainly_imports (plainly S (node l ss cs) p.0)) (all_imports S ts p.1)

import_parts : (S : Shaker) (cs : Forest) → import_goes S cs ≡ true → all_go S cs ≡ true
import_parts S cs h = (and_parts (is_some_tree cs) (all_go S cs) (and_parts S.drops_imports (is_some_tree cs && all_go S cs) h).1).1

may_go : (S : Shaker) (t : Tree) → item_goes S t ≡ true → MayGo (Stays S) t
unfolding own_weight
may_go S (node (FnDecl x) ss cs) h = record { no_vars = spared_same []; no_names = one_spared S x [] h; no_imports = spared_same []; no_stopper = refl; weighs = omega arith }
may_go S (node (Import src) ss cs) h = record { no_vars = spared_same []; no_names = spared_same []; no_imports = spared_append {xs = specifier_names cs} {ys = []} {us = []} {vs = []} (all_imports S cs (import_parts S cs h)) (spared_same []); no_stopper = refl; weighs = omega arith }
may_go S (node Empty ss ε) h = record { no_vars = spared_same []; no_names = spared_same []; no_imports = spared_same []; no_stopper = refl; weighs = omega arith }
may_go S (node Block ss ε) h = record { no_vars = spared_same []; no_names = spared_same []; no_imports = spared_same []; no_stopper = refl; weighs = omega arith }
may_go S (node l ss cs) h = absurd (false≢true h)

pub dropping : (S : Shaker) {ts us : Forest} → Sifts (ItemGoes S) ts us → Dropping (Stays S) ts us
dropping S sifted = none_dropped
dropping S (stays_there h) = item_kept (dropping S h)
dropping S (goes_there {t = t} g h) = item_dropped (may_go S t g) (dropping S h)

no_list_shakes : {S : Shaker} {l : Label} {ss : List Span} {ts : Forest} {u : Tree} → is_list l ≡ true → Shakes S (node l ss ts) u → ⊥
no_list_shakes e (declarators_go h c n) = false≢true e
no_list_shakes e (declaration_goes rs vs qs c h) = false≢true e
no_list_shakes e (specifiers_go h n) = false≢true e
no_list_shakes e (call_gives n) = false≢true e

pub owes : {S : Shaker} (t u : Tree) → Does (shake_pass S) t u → Step ⊥ (Stays S) t u
owes t u (at_front o) = opens_owe o
owes t u (at_node h) = shakes_owe h
owes {S} t u (at_list e (items_go h n)) = drop_step _ _ (drop_items e (dropping S h) n)
owes t u (at_both e d h) = absurd (no_list_shakes e h)
