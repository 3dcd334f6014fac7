-- Trees inside scopes, by what a node is and its children.
use Rattle.std.proofs.Common.{◌≡◌, Bool, true, false, not, ◌&&◌, ◌||◌, List, [], ◌∷◌, ◌++◌, refl, sym, ap, ap₂, ◌∙◌}
use Rattle.std.proofs.lemmas.Bool.{false≢true}
use Rattle.std.proofs.lemmas.List.{append-nil}
use Rattle.std.specs.Prelude.{◌↔◌, IsTrue, if◌then◌else◌, Some, None}
use Rattle.swc_ast.specs.Tree as tree
use Rattle.swc_ast.specs.Tree.{Name, Label, Tree, node, Forest, ε, ◌⊳◌, label_of, children_of}
use Rattle.swc_ast.specs.Core.{numbers_fit, good_scope, fits, fits_all, none_in, IsCore}
use Rattle.swc_ast.specs.Scope.{has_name, own_vars, holds_statements, vars, vars_all, case_statements}
use Rattle.swc_ast.specs.Valid.{valid}
use Rattle.swc_resolved.specs.Here.{named_once, own_core}
use Rattle.swc_resolved.specs.Scopes.{own_names}
use Rattle.swc_resolved.proofs.Once.{none_turned}
use Rattle.core_trees.specs.Inside.{with_names, undeclared, fits_inside, all_inside, opens_inner, is_switch, vars_apart, Tells}

-- conjunctions

grouped : (a b c : Bool) → (a && (b && c)) ≡ ((a && b) && c)
grouped true b c = refl
grouped false b c = refl

exchanged : (a b c d : Bool) → ((a && b) && (c && d)) ≡ ((a && c) && (b && d))
exchanged true b true d = refl
exchanged true true false d = refl
exchanged true false false d = refl
exchanged false b c d = refl

and_truth : (b : Bool) → b ≡ (b && true)
and_truth true = refl
and_truth false = refl

and_untruth : (b : Bool) → false ≡ (b && false)
and_untruth true = refl
and_untruth false = refl

-- lists of names in a row, and sets in a row

pub undeclared_append : (f : Name → Bool) (xs ys : List Name) → undeclared f (xs ++ ys) ≡ (undeclared f xs && undeclared f ys)
undeclared_append f [] ys = refl
undeclared_append f (x ∷ xs) ys = ap (λ b. not (f x) && b) (undeclared_append f xs ys) ∙ grouped (not (f x)) (undeclared f xs) (undeclared f ys)

pub undeclared_with : (ns : List Name) (f : Name → Bool) (xs : List Name) → undeclared (with_names ns f) xs ≡ (undeclared f xs && none_in xs ns)
undeclared_with ns f [] = refl
undeclared_with ns f (x ∷ xs) = ap (λ b. not (f x || has_name x ns) && b) (undeclared_with ns f xs) ∙ apart (f x) (has_name x ns) (undeclared f xs) (none_in xs ns)
  where
    apart : (a b c d : Bool) → (not (a || b) && (c && d)) ≡ ((not a && c) && (not b && d))
    apart true b c d = refl
    apart false true true d = refl
    apart false true false d = refl
    apart false false c d = refl

undeclared_nowhere : (f : Name → Bool) (xs : List Name) → ((x : Name) → f x ≡ false) → undeclared f xs ≡ true
undeclared_nowhere f [] none = refl
undeclared_nowhere f (x ∷ xs) none = ap (λ b. not b && undeclared f xs) (none x) ∙ undeclared_nowhere f xs none

-- no name of one list stands in the other, and the other way round
pub none_swapped : (xs ys : List Name) → none_in ys xs ≡ none_in xs ys
none_swapped xs ys = none_turned xs xs ys (λ y. refl)

-- trees in a row

pub all_first : (f : Name → Bool) (t : Tree) (ts : Forest) → all_inside f (t ⊳ ts) ≡ (fits_inside f t && all_inside f ts)
all_first f t ts = ap (λ b. (fits t && fits_all ts) && b) (undeclared_append f (vars t) (vars_all ts)) ∙ exchanged (fits t) (fits_all ts) (undeclared f (vars t)) (undeclared f (vars_all ts))

-- the first of them, where a test of trees in a row asks each of them
pub first_stops : (P : (Name → Bool) → Tree → Bool) (Q : (Name → Bool) → Forest → Bool) → ((f : Name → Bool) (t : Tree) (ts : Forest) → Q f (t ⊳ ts) ≡ (P f t && Q f ts)) → (b g : Bool) (cur old new end : Name → Bool) (t : Tree) (ts us : Forest) → us ≡ t ⊳ ts → b ≡ false → Tells b (P cur t) cur new → cur ≡ old → Q old us ≡ g → Tells false g old end
first_stops P Q first b g cur old new end t ts us is fails tells kept same =
    (sym (ap (Q old) is ∙ first old t ts ∙ ap (λ c. c && Q old ts) (ap (λ f. P f t) (sym kept) ∙ sym tells.0 ∙ fails)) ∙ same, λ h. absurd (false≢true h))

pub first_passes : (P : (Name → Bool) → Tree → Bool) (Q : (Name → Bool) → Forest → Bool) → ((f : Name → Bool) (t : Tree) (ts : Forest) → Q f (t ⊳ ts) ≡ (P f t && Q f ts)) → (b g : Bool) (cur old new : Name → Bool) (t : Tree) (ts us : Forest) → us ≡ t ⊳ ts → b ≡ true → Tells b (P cur t) cur new → cur ≡ old → Q old us ≡ g → Q old ts ≡ g
first_passes P Q first b g cur old new t ts us is holds tells kept same =
    sym (ap (Q old) is ∙ first old t ts ∙ ap (λ c. c && Q old ts) (ap (λ f. P f t) (sym kept) ∙ sym tells.0 ∙ holds)) ∙ same

pub none_left : (Q : (Name → Bool) → Forest → Bool) → ((f : Name → Bool) → Q f ε ≡ true) → (g : Bool) (old new : Name → Bool) (us : Forest) → us ≡ ε → new ≡ old → Q old us ≡ g → Tells true g old new
none_left Q empty g old new us is kept same = (sym (ap (Q old) is ∙ empty old) ∙ same, λ h. kept)

-- a node by itself, and what is asked beside it

fits_split : (t : Tree) → fits t ≡ (numbers_fit (label_of t) && (good_scope (label_of t) (children_of t) && fits_all (children_of t)))
fits_split (node l ss cs) = refl

fits_as : (t : Tree) (l : Label) (cs : Forest) → label_of t ≡ l → children_of t ≡ cs → fits t ≡ (numbers_fit l && (good_scope l cs && fits_all cs))
fits_as t l cs labelled held = fits_split t ∙ ap₂ (λ k ds. numbers_fit k && (good_scope k ds && fits_all ds)) labelled held

-- a node that opens no scope inside a body
named_as : (l : Label) (cs : Forest) → opens_inner l ≡ false → good_scope l cs ≡ named_once l cs
named_as tree.Block cs h = absurd (false≢true (sym h))
named_as tree.For cs h = absurd (false≢true (sym h))
named_as (tree.Switch ds) cs h = absurd (false≢true (sym h))
named_as (tree.Try o) cs h = absurd (false≢true (sym h))
named_as l cs h = refl

own_split : (t : Tree) (l : Label) (cs : Forest) → label_of t ≡ l → children_of t ≡ cs → opens_inner l ≡ false → fits t ≡ (own_core l cs && fits_all cs)
own_split t l cs labelled held none =
    fits_as t l cs labelled held ∙ ap (λ b. numbers_fit l && (b && fits_all cs)) (named_as l cs none) ∙ grouped (numbers_fit l) (named_once l cs) (fits_all cs)

-- a node that opens one
good_split : (l : Label) (cs : Forest) → opens_inner l ≡ true → good_scope l cs ≡ (named_once l cs && vars_apart l cs)
good_split tree.Block cs h = refl
good_split tree.For cs h = refl
good_split (tree.Switch ds) cs h = refl
good_split (tree.Try None) cs h = refl
good_split (tree.Try (Some o)) cs h = refl
good_split l cs h = absurd (false≢true h)

scope_split : (t : Tree) (l : Label) (cs : Forest) → label_of t ≡ l → children_of t ≡ cs → opens_inner l ≡ true → fits t ≡ (own_core l cs && (vars_apart l cs && fits_all cs))
scope_split t l cs labelled held opens =
    fits_as t l cs labelled held ∙ ap (λ b. numbers_fit l && (b && fits_all cs)) (good_split l cs opens) ∙ spread (numbers_fit l) (named_once l cs) (vars_apart l cs) (fits_all cs)
  where
    spread : (a b c d : Bool) → (a && ((b && c) && d)) ≡ ((a && b) && (c && d))
    spread true true c d = refl
    spread true false c d = refl
    spread false b c d = refl

refused_by : (t : Tree) (l : Label) (cs : Forest) (b : Bool) → label_of t ≡ l → children_of t ≡ cs → opens_inner l ≡ b → own_core l cs ≡ false → false ≡ fits t
refused_by t l cs true labelled held opens is = sym (scope_split t l cs labelled held opens ∙ ap (λ b. b && (vars_apart l cs && fits_all cs)) is)
refused_by t l cs false labelled held none is = sym (own_split t l cs labelled held none ∙ ap (λ b. b && fits_all cs) is)

pub refused_here : (t : Tree) (l : Label) (cs : Forest) → label_of t ≡ l → children_of t ≡ cs → own_core l cs ≡ false → false ≡ fits t
refused_here t l cs labelled held is = refused_by t l cs (opens_inner l) labelled held refl is

pub children_decide : (t : Tree) (l : Label) (cs : Forest) → label_of t ≡ l → children_of t ≡ cs → opens_inner l ≡ false → own_core l cs ≡ true → fits_all cs ≡ fits t
children_decide t l cs labelled held none is = sym (own_split t l cs labelled held none ∙ ap (λ b. b && fits_all cs) is)

pub scope_decides : (t : Tree) (l : Label) (cs : Forest) → label_of t ≡ l → children_of t ≡ cs → opens_inner l ≡ true → own_core l cs ≡ true → (vars_apart l cs && fits_all cs) ≡ fits t
scope_decides t l cs labelled held opens is = sym (scope_split t l cs labelled held opens ∙ ap (λ b. b && (vars_apart l cs && fits_all cs)) is)

-- the `var`s of a node

holders_no_vars : (l : Label) → holds_statements l ≡ true → own_vars l ≡ []
holders_no_vars (tree.Declarator k x) h = absurd (false≢true h)
holders_no_vars l h = refl

vars_split : (t : Tree) → vars t ≡ own_vars (label_of t) ++ (if holds_statements (label_of t) then vars_all (children_of t) else [])
vars_split (node l ss cs) = refl

vars_as : (t : Tree) (l : Label) (cs : Forest) (b : Bool) → label_of t ≡ l → children_of t ≡ cs → holds_statements l ≡ b → vars t ≡ own_vars l ++ (if b then vars_all cs else [])
vars_as t l cs b labelled held is = vars_split t ∙ cc (labelled, held, is)

vars_below : (t : Tree) (l : Label) (cs : Forest) → label_of t ≡ l → children_of t ≡ cs → holds_statements l ≡ true → vars t ≡ vars_all cs
vars_below t l cs labelled held is = vars_as t l cs true labelled held is ∙ ap (λ xs. xs ++ vars_all cs) (holders_no_vars l is)

vars_alone : (t : Tree) (l : Label) (cs : Forest) → label_of t ≡ l → children_of t ≡ cs → holds_statements l ≡ false → vars t ≡ own_vars l
vars_alone t l cs labelled held is = vars_as t l cs false labelled held is ∙ append-nil (own_vars l)

scopes_hold : (l : Label) → opens_inner l ≡ true → holds_statements l ≡ true
scopes_hold tree.Block h = refl
scopes_hold tree.For h = refl
scopes_hold (tree.Switch ds) h = refl
scopes_hold (tree.Try o) h = refl
scopes_hold l h = absurd (false≢true h)

-- a node inside scopes

untold : (all : Bool) (old new : Name → Bool) → false ≡ all → Tells false all old new
untold all old new is = (is, λ h. absurd (false≢true h))

pub inside_refused : (f new : Name → Bool) (t : Tree) (l : Label) (cs : Forest) → label_of t ≡ l → children_of t ≡ cs → own_core l cs ≡ false → Tells false (fits_inside f t) f new
inside_refused f new t l cs labelled held is = untold (fits_inside f t) f new (ap (λ b. b && undeclared f (vars t)) (refused_here t l cs labelled held is))

pub inside_holder : (b : Bool) (f new : Name → Bool) (t : Tree) (l : Label) (cs : Forest) → label_of t ≡ l → children_of t ≡ cs → opens_inner l ≡ false → own_core l cs ≡ true → holds_statements l ≡ true → Tells b (all_inside f cs) f new → Tells b (fits_inside f t) f new
inside_holder b f new t l cs labelled held none is holds tells =
    (tells.0 ∙ ap₂ ◌&&◌ (children_decide t l cs labelled held none is) (ap (undeclared f) (sym (vars_below t l cs labelled held holds))), tells.1)

pub inside_var : (f new : Name → Bool) (t : Tree) (l : Label) (cs : Forest) → label_of t ≡ l → children_of t ≡ cs → holds_statements l ≡ false → not (undeclared f (own_vars l)) ≡ true → Tells false (fits_inside f t) f new
inside_var f new t l cs labelled held none is =
    untold (fits_inside f t) f new (and_untruth (fits t) ∙ ap (λ b. fits t && b) (sym (ap (undeclared f) (vars_alone t l cs labelled held none) ∙ turned (undeclared f (own_vars l)) is)))
  where
    turned : (b : Bool) → not b ≡ true → b ≡ false
    turned true h = absurd (false≢true h)
    turned false h = refl

pub inside_leaf : (b : Bool) (f : Name → Bool) (t : Tree) (l : Label) (cs : Forest) → label_of t ≡ l → children_of t ≡ cs → opens_inner l ≡ false → own_core l cs ≡ true → holds_statements l ≡ false → not (undeclared f (own_vars l)) ≡ false → b ≡ fits_all cs → Tells b (fits_inside f t) f f
inside_leaf b f t l cs labelled held none is alone free fit =
    (fit ∙ and_truth (fits_all cs) ∙ ap₂ ◌&&◌ (children_decide t l cs labelled held none is) (sym (ap (undeclared f) (vars_alone t l cs labelled held alone) ∙ turned (undeclared f (own_vars l)) free)), λ h. refl)
  where
    turned : (b : Bool) → not b ≡ false → b ≡ true
    turned true h = refl
    turned false h = absurd (false≢true (sym h))

pub inside_scope : (b : Bool) (f new : Name → Bool) (t : Tree) (l : Label) (cs : Forest) → label_of t ≡ l → children_of t ≡ cs → opens_inner l ≡ true → own_core l cs ≡ true → Tells b (vars_apart l cs && all_inside f cs) f new → Tells b (fits_inside f t) f new
inside_scope b f new t l cs labelled held opens is tells =
    (tells.0 ∙ grouped (vars_apart l cs) (fits_all cs) (undeclared f (vars_all cs)) ∙ ap₂ ◌&&◌ (scope_decides t l cs labelled held opens is) (ap (undeclared f) (sym (vars_below t l cs labelled held (scopes_hold l opens)))), tells.1)

-- the scope that a node opens inside a body, by the names that it declares

pub apart_by : (l : Label) (cs : Forest) (ns : List Name) (b : Bool) → ns ≡ own_names l cs → is_switch l ≡ b → vars_apart l cs ≡ none_in ns (if b then vars_all (case_statements cs) else vars_all cs)
apart_by l cs ns b are switches = ap₂ (λ xs d. none_in xs (if d then vars_all (case_statements cs) else vars_all cs)) (sym are) switches

-- no name
pub nothing_named : (l : Label) (cs : Forest) (ns : List Name) → ns ≡ own_names l cs → ns ≡ [] → fits_all cs ≡ (vars_apart l cs && fits_all cs)
nothing_named l cs ns are none = ap (λ b. b && fits_all cs) (sym (apart_by l cs [] (is_switch l) (sym none ∙ are) refl))

behind_one : (a u n : Bool) → (a && (u && n)) ≡ (n && (a && u))
behind_one true true true = refl
behind_one true true false = refl
behind_one true false true = refl
behind_one true false false = refl
behind_one false u true = refl
behind_one false u false = refl

entered_as : (f : Name → Bool) (l : Label) (cs : Forest) (ns : List Name) → ns ≡ own_names l cs → is_switch l ≡ false → all_inside (with_names ns f) cs ≡ (vars_apart l cs && all_inside f cs)
entered_as f l cs ns are other =
    ap (λ b. fits_all cs && b) (undeclared_with ns f (vars_all cs))
    ∙ behind_one (fits_all cs) (undeclared f (vars_all cs)) (none_in (vars_all cs) ns)
    ∙ ap (λ b. b && all_inside f cs) (none_swapped ns (vars_all cs) ∙ sym (apart_by l cs ns false are other))

pub entered : (b : Bool) (f new : Name → Bool) (l : Label) (cs : Forest) (ns : List Name) → ns ≡ own_names l cs → is_switch l ≡ false → Tells b (all_inside (with_names ns f) cs) f new → Tells b (vars_apart l cs && all_inside f cs) f new
entered b f new l cs ns are other tells = (tells.0 ∙ entered_as f l cs ns are other, tells.1)

-- a module or a script is core

pub core_told : (b : Bool) (t : Tree) → b ≡ fits t → valid t ≡ true → (IsTrue b ↔ IsCore t)
core_told b t is v = (λ h. record { is_valid = v; fits_core = sym is ∙ h }, λ k. is ∙ k.fits_core)

-- a set of no names
pub nowhere_declared : (f : Name → Bool) (cs : Forest) (b : Bool) → ((x : Name) → f x ≡ false) → (b && all_inside f cs) ≡ (b && fits_all cs)
nowhere_declared f cs b none = ap (λ c. b && (fits_all cs && c)) (undeclared_nowhere f (vars_all cs) none) ∙ ap (λ c. b && c) (sym (and_truth (fits_all cs)))

-- a walk that goes into a scope and out of it again

pub came_back : (b : Bool) (all : (Name → Bool) → Bool) (ns : List Name) (old inner behind new : Name → Bool) → inner ≡ with_names ns old → Tells b (all inner) inner behind → b ≡ true → (behind ≡ inner → new ≡ old) → Tells true (all (with_names ns old)) old new
came_back b all ns old inner behind new entered tells holds left = (sym (sym tells.0 ∙ holds) ∙ ap all entered, λ h. left (tells.1 holds))

pub stayed_in : (b : Bool) (all : (Name → Bool) → Bool) (ns : List Name) (old inner behind new : Name → Bool) → inner ≡ with_names ns old → Tells b (all inner) inner behind → b ≡ false → Tells false (all (with_names ns old)) old new
stayed_in b all ns old inner behind new entered tells fails = untold (all (with_names ns old)) old new (sym (sym tells.0 ∙ fails) ∙ ap all entered)

-- a walk over trees that go by themselves

pub fit_stops : (b g : Bool) (t : Tree) (ts us : Forest) → us ≡ t ⊳ ts → b ≡ fits t → b ≡ false → fits_all us ≡ g → false ≡ g
fit_stops b g t ts us is fit fails same = sym (ap (λ c. c && fits_all ts) (sym fit ∙ fails)) ∙ sym (ap fits_all is) ∙ same

pub fit_goes_on : (b g : Bool) (t : Tree) (ts us : Forest) → us ≡ t ⊳ ts → b ≡ fits t → b ≡ true → fits_all us ≡ g → fits_all ts ≡ g
fit_goes_on b g t ts us is fit holds same = sym (ap (λ c. c && fits_all ts) (sym fit ∙ holds)) ∙ sym (ap fits_all is) ∙ same

pub fit_ends : (g : Bool) (us : Forest) → us ≡ ε → fits_all us ≡ g → true ≡ g
fit_ends g us is same = sym (ap fits_all is) ∙ same

-- two walks in a row

pub first_refuses : (b p q : Bool) (old new : Name → Bool) → b ≡ p → b ≡ false → Tells false (p && q) old new
first_refuses b p q old new is fails = untold (p && q) old new (sym (ap (λ c. c && q) (sym is ∙ fails)))

pub behind_first : (b c p : Bool) (all : (Name → Bool) → Bool) (ns : List Name) (old mid new : Name → Bool) → b ≡ p → b ≡ true → mid ≡ old → Tells c (all (with_names ns mid)) mid new → Tells c (p && all (with_names ns old)) old new
behind_first b c p all ns old mid new is holds kept tells =
    (tells.0 ∙ ap (λ f. all (with_names ns f)) kept ∙ ap (λ d. d && all (with_names ns old)) (sym holds ∙ is), λ h. tells.1 h ∙ kept)
