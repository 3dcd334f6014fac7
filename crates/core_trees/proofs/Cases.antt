-- The scope of a `switch`, whose names are declared for the bodies of its cases alone.
use Rattle.std.proofs.Common.{◌≡◌, Bool, true, false, not, ◌&&◌, List, [], ◌∷◌, ◌++◌, refl, sym, ap, ap₂, ◌∙◌}
use Rattle.std.proofs.lemmas.List.{append_assoc}
use Rattle.std.specs.Prelude.{if◌then◌else◌}
use Rattle.swc_ast.specs.declared.Span.{Span}
use Rattle.swc_ast.specs.Tree as tree
use Rattle.swc_ast.specs.Tree.{Name, Label, Tree, node, Forest, ε, ◌⊳◌, label_of}
use Rattle.swc_ast.specs.Core.{fits, none_in}
use Rattle.swc_ast.specs.Scope.{has_name, vars, vars_all, joined, body_statements, case_statements}
use Rattle.swc_resolved.specs.Scopes.{own_names}
use Rattle.core_trees.specs.Inside.{with_names, undeclared, fits_inside, all_inside, is_switch, vars_apart, is_asked, some_fit, some_inside, Tells}
use Rattle.core_trees.proofs.Inside.{undeclared_with, none_swapped, all_first, apart_by}

-- one child, by what it is

fit_as : (bodies : Bool) (f : Name → Bool) (t : Tree) (l : Label) (b : Bool) → label_of t ≡ l → is_asked bodies l ≡ b → some_fit bodies f t ≡ (if b then fits_inside f t else true)
fit_as bodies f (node k ss cs) l b labelled is = ap (λ c. if c then fits_inside f (node k ss cs) else true) (ap (is_asked bodies) labelled ∙ is)

pub unasked : (bodies : Bool) (f : Name → Bool) (t : Tree) (l : Label) → label_of t ≡ l → is_asked bodies l ≡ false → Tells true (some_fit bodies f t) f f
unasked bodies f t l labelled is = (sym (fit_as bodies f t l false labelled is), λ h. refl)

pub asked : (b bodies : Bool) (f new : Name → Bool) (t : Tree) (l : Label) → label_of t ≡ l → is_asked bodies l ≡ true → Tells b (fits_inside f t) f new → Tells b (some_fit bodies f t) f new
asked b bodies f new t l labelled is tells = (tells.0 ∙ sym (fit_as bodies f t l true labelled is), tells.1)

-- all children, those without a case's body by the names round them, the bodies by the names of the `switch` too

vars_joined : (ts us : Forest) → vars_all (joined ts us) ≡ vars_all ts ++ vars_all us
vars_joined ε us = refl
vars_joined (t ⊳ ts) us = ap (λ xs. vars t ++ xs) (vars_joined ts us) ∙ sym (append_assoc (vars t) (vars_all ts) (vars_all us))

none_append : (xs ys ns : List Name) → none_in (xs ++ ys) ns ≡ (none_in xs ns && none_in ys ns)
none_append [] ys ns = refl
none_append (x ∷ xs) ys ns = ap (λ b. not (has_name x ns) && b) (none_append xs ys ns) ∙ grouped (not (has_name x ns)) (none_in xs ns) (none_in ys ns)
  where
    grouped : (a b c : Bool) → (a && (b && c)) ≡ ((a && b) && c)
    grouped true b c = refl
    grouped false b c = refl

-- a body: `s` and `t` tell of the children behind it, `n` of its `var`s
body_moved : (s t a m f n : Bool) → (s && t) ≡ (m && a) → (s && ((f && n) && t)) ≡ ((n && m) && (f && a))
body_moved s t a m f n h = turned s t f n ∙ ap (λ b. (n && f) && b) h ∙ spread n f m a
  where
    turned : (s t f n : Bool) → (s && ((f && n) && t)) ≡ ((n && f) && (s && t))
    turned true t true true = refl
    turned true t true false = refl
    turned true t false true = refl
    turned true t false false = refl
    turned false t true true = refl
    turned false t true false = refl
    turned false t false true = refl
    turned false t false false = refl

    spread : (n f m a : Bool) → ((n && f) && (m && a)) ≡ ((n && m) && (f && a))
    spread true true m a = refl
    spread true false true a = refl
    spread true false false a = refl
    spread false f m a = refl

-- any other child
other_moved : (s t a m f : Bool) → (s && t) ≡ (m && a) → ((f && s) && t) ≡ (m && (f && a))
other_moved s t a m true h = h
other_moved s t a true false h = refl
other_moved s t a false false h = refl

fit_with : (ns : List Name) (f : Name → Bool) (t : Tree) → fits_inside (with_names ns f) t ≡ (fits_inside f t && none_in (vars t) ns)
fit_with ns f t = ap (λ b. fits t && b) (undeclared_with ns f (vars t)) ∙ grouped (fits t) (undeclared f (vars t)) (none_in (vars t) ns)
  where
    grouped : (a b c : Bool) → (a && (b && c)) ≡ ((a && b) && c)
    grouped true b c = refl
    grouped false b c = refl

body_first : (f : Name → Bool) (ns : List Name) (ss : List Span) (ds ts : Forest) → (some_inside false f ts && some_inside true (with_names ns f) ts) ≡ (none_in (vars_all (case_statements ts)) ns && all_inside f ts) → (some_inside false f ts && (fits_inside (with_names ns f) (node tree.CaseBody ss ds) && some_inside true (with_names ns f) ts)) ≡ (none_in (vars_all (joined ds (case_statements ts))) ns && all_inside f (node tree.CaseBody ss ds ⊳ ts))
body_first f ns ss ds ts h =
    let t = node tree.CaseBody ss ds in let v = vars_all (case_statements ts) in
    ap (λ b. some_inside false f ts && (b && some_inside true (with_names ns f) ts)) (fit_with ns f t)
    ∙ body_moved (some_inside false f ts) (some_inside true (with_names ns f) ts) (all_inside f ts) (none_in v ns) (fits_inside f t) (none_in (vars_all ds) ns) h
    ∙ sym (ap₂ ◌&&◌ (ap (λ xs. none_in xs ns) (vars_joined ds (case_statements ts)) ∙ none_append (vars_all ds) v ns) (all_first f t ts))

other_first : (f g : Name → Bool) (ns : List Name) (l : Label) (ss : List Span) (ds ts : Forest) → is_asked false l ≡ true → is_asked true l ≡ false → body_statements l ds ≡ ε → (some_inside false f ts && some_inside true g ts) ≡ (none_in (vars_all (case_statements ts)) ns && all_inside f ts) → (some_inside false f (node l ss ds ⊳ ts) && some_inside true g (node l ss ds ⊳ ts)) ≡ (none_in (vars_all (case_statements (node l ss ds ⊳ ts))) ns && all_inside f (node l ss ds ⊳ ts))
other_first f g ns l ss ds ts out not_in no_body h =
    let t = node l ss ds in
    ap₂ (λ a b. ((if a then fits_inside f t else true) && some_inside false f ts) && ((if b then fits_inside g t else true) && some_inside true g ts)) out not_in
    ∙ other_moved (some_inside false f ts) (some_inside true g ts) (all_inside f ts) (none_in (vars_all (case_statements ts)) ns) (fits_inside f t) h
    ∙ sym (ap₂ ◌&&◌ (ap (λ us. none_in (vars_all (joined us (case_statements ts))) ns) no_body) (all_first f t ts))

cases_split : (f : Name → Bool) (ns : List Name) (cs : Forest) → (some_inside false f cs && some_inside true (with_names ns f) cs) ≡ (none_in (vars_all (case_statements cs)) ns && all_inside f cs)
cases_split f ns ε = refl
cases_split f ns (node tree.CaseBody ss ds ⊳ ts) = body_first f ns ss ds ts (cases_split f ns ts)
cases_split f ns (node l ss ds ⊳ ts) = other_first f (with_names ns f) ns l ss ds ts refl refl refl (cases_split f ns ts)

-- the scope of a `switch`, by the names that it declares

entered_as : (f : Name → Bool) (l : Label) (cs : Forest) (ns : List Name) → ns ≡ own_names l cs → is_switch l ≡ true → (some_inside false f cs && some_inside true (with_names ns f) cs) ≡ (vars_apart l cs && all_inside f cs)
entered_as f l cs ns are switches =
    cases_split f ns cs ∙ ap (λ b. b && all_inside f cs) (none_swapped ns (vars_all (case_statements cs)) ∙ sym (apart_by l cs ns true are switches))

pub entered_cases : (b : Bool) (f new : Name → Bool) (l : Label) (cs : Forest) (ns : List Name) → ns ≡ own_names l cs → is_switch l ≡ true → Tells b (some_inside false f cs && some_inside true (with_names ns f) cs) f new → Tells b (vars_apart l cs && all_inside f cs) f new
entered_cases b f new l cs ns are switches tells = (tells.0 ∙ entered_as f l cs ns are switches, tells.1)
