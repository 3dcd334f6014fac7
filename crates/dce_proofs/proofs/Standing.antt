-- Functions of a module's own list that are reached stand in the answer.
use Rattle.std.proofs.Common.{◌≡◌, Bool, true, false, ◌||◌, List, [], Option, Some, None, refl, sym, ap, subst, ◌∙◌}
use Rattle.std.proofs.lemmas.Bool.{true≢false, false≢true, or_left, or_right}
use Rattle.swc_ast.specs.Labels.{is_block}
use Rattle.swc_ast.specs.declared.Span.{Span}
use Rattle.swc_ast.specs.Reach.{item_function, Reached}
use Rattle.swc_ast.specs.Tree.{Text, Name, same_name, Label, Block, Empty, FnDecl, ExportDecl, Import, Module, Tree, node, Forest, ε, ◌⊳◌}
use Rattle.walk_proofs.specs.Meant.{Sifts, sifted, stays_there, goes_there}
use Rattle.meaning_proofs.proofs.Names.{same_name_eq}
use Rattle.tree_walk.specs.Pass.{walks_each}
use Rattle.tree_walk.specs.Walks as walk
use Rattle.tree_walk.specs.Walks.{Walks, Entered, ListMade, Whole, AllWalk, nothing, both}
use Rattle.dce_rules.specs.Apart.{declared_apart, is_of, has_function}
use Rattle.dce_rules.specs.Shakes as rules
use Rattle.dce_rules.specs.Shakes.{Shaker, Opens, Shakes, ItemGoes, items_go, shake_pass}
use Rattle.dce_proofs.specs.Laws.{Knows}
use Rattle.dce_proofs.proofs.Reached.{reached_stays}

-- the function that a declaration under `export` declares
exported_function : Label → Option Name
exported_function (FnDecl f) = Some f
exported_function _ = None

export_item : (ss rs : List Span) (l : Label) (cs ts : Forest) → item_function (node ExportDecl ss (node l rs cs ⊳ ts)) ≡ exported_function l
unfolding exported_function
export_item ss rs (FnDecl f) cs ts = refl
export_item ss rs l cs ts = refl

-- what an item with this label declares, but for exports
own_function : Label → Option Name
own_function (FnDecl f) = Some f
own_function _ = None

own_item : (l : Label) (ss : List Span) (cs : Forest) → walks_each l ≡ true → item_function (node l ss cs) ≡ own_function l
unfolding own_function
own_item (FnDecl f) ss cs p = refl
own_item ExportDecl ss cs p = absurd (false≢true p)
own_item l ss cs p = refl

-- items that take a step declare no function
opens_none : {S : Shaker} {t u : Tree} → Opens S t u → item_function t ≡ None
opens_none (rules.value u e p) = refl
opens_none (rules.shielded u e p) = refl
opens_none (rules.value_of_value u e o) = refl
opens_none (rules.declarators_open h c n) = refl
opens_none (rules.declaration_opens c h) = refl

shakes_none : {S : Shaker} {t u : Tree} → Shakes S t u → item_function t ≡ None
shakes_none (rules.declarators_go h c n) = refl
shakes_none (rules.declaration_goes rs vs qs c h) = refl
shakes_none (rules.specifiers_go h n) = refl
shakes_none (rules.call_gives n) = refl

-- the function that an item declares is the one that it declared
entered_function : {S : Shaker} {c : Bool} {t u : Tree} → Entered (shake_pass S) c t u → item_function t ≡ item_function u
entered_function (walk.plain {l = l} {ss = ss} {ts = ts} {us = us} p ws) = own_item l ss ts p ∙ sym (own_item l ss us p)
entered_function (walk.exported {l = l} {ss = ss} {rs = rs} {ts = ts} {us = us} d ws) = export_item ss rs l ts ε ∙ sym (export_item ss rs l us ε)
entered_function (walk.headed ds ws) = refl
entered_function (walk.head_shut s ws) = refl
entered_function (walk.imports u) = refl
entered_function (walk.block {l = l} {ss = ss} {ts = ts} {us = us} b m) = block_function l ss ts us b
  where
    block_function : (l : Label) (ss : List Span) (ts us : Forest) → is_block l ≡ true → item_function (node l ss ts) ≡ item_function (node l ss us)
    block_function (FnDecl f) ss ts us e = refl
    block_function ExportDecl ss ts us e = absurd (false≢true e)
    block_function l ss ts us e = refl

-- an item that declares a function still does
kept_function : {S : Shaker} {c : Bool} {t u : Tree} (f : Name) → Walks (shake_pass S) c t u → is_of f (item_function t) ≡ true → is_of f (item_function u) ≡ true
kept_function f (walk.closed s) e = e
kept_function f (walk.opened o w) e = absurd (false≢true (sym (ap (is_of f) (opens_none o)) ∙ e))
kept_function f (walk.passes i w) e = ap (is_of f) (sym (entered_function w)) ∙ e
kept_function f (walk.stands w r) e = ap (is_of f) (sym (entered_function w)) ∙ e
kept_function f (walk.stepped w s) e = absurd (false≢true (sym (ap (is_of f) (entered_function w ∙ shakes_none s)) ∙ e))

either : (a b c d : Bool) → (a ≡ true → c ≡ true) → (b ≡ true → d ≡ true) → (a || b) ≡ true → (c || d) ≡ true
either true b c d h g e = or_left c d (h refl)
either false b c d h g e = or_right c d (g e)

kept_functions : {S : Shaker} {c : Bool} {ts us : Forest} (f : Name) → AllWalk (shake_pass S) c ts us → has_function f ts ≡ true → has_function f us ≡ true
kept_functions f nothing e = e
kept_functions f (both {t = t} {u = u} {ts = ts} {us = us} w ws) e = either (is_of f (item_function t)) (has_function f ts) (is_of f (item_function u)) (has_function f us) (kept_function f w) (kept_functions f ws) e

-- an item that goes declares no function that stays
going_function : (S : Shaker) (f : Name) (t : Tree) → S.free f ≡ false → ItemGoes S t → is_of f (item_function t) ≡ false
going_function S f (node (FnDecl x) ss cs) e g = by_name (same_name f x) refl
  where
    by_name : (b : Bool) → same_name f x ≡ b → b ≡ false
    by_name false q = refl
    by_name true q = absurd (true≢false (sym g ∙ sym (ap S.free (same_name_eq f x q)) ∙ e))
going_function S f (node (Import src) ss cs) e g = refl
going_function S f (node Empty ss ε) e g = refl
going_function S f (node Block ss ε) e g = refl
going_function S f (node l ss cs) e g = absurd (false≢true g)

only_right : (a b : Bool) → a ≡ false → (a || b) ≡ true → b ≡ true
only_right a b e h = subst (λ a. (a || b) ≡ true) e h

left_functions : (S : Shaker) (f : Name) {ts us : Forest} → S.free f ≡ false → Sifts (ItemGoes S) ts us → has_function f ts ≡ true → has_function f us ≡ true
left_functions S f e sifted h = h
left_functions S f e (stays_there {t = t} {ts = ts} {us = us} s) h = either (is_of f (item_function t)) (has_function f ts) (is_of f (item_function t)) (has_function f us) (λ q. q) (left_functions S f e s) h
left_functions S f e (goes_there {t = t} {ts = ts} g s) h = left_functions S f e s (only_right (is_of f (item_function t)) (has_function f ts) (going_function S f t e g) h)

list_function : (S : Shaker) (f : Name) {l : Label} {c : Bool} {ts us : Forest} → S.free f ≡ false → ListMade (shake_pass S) l c ts us → has_function f ts ≡ true → has_function f us ≡ true
list_function S f e (walk.listed ws t) h = kept_functions f ws h
list_function S f e (walk.tidied ws (items_go s n)) h = left_functions S f e s (kept_functions f ws h)

-- Each function of a module's own list that is reached stands in the answer.
pub reached_stands : {S : Shaker} {retained : List Text} {c : Bool} {ss rs : List Span} {ts us : Forest} → Knows S retained (node Module [] ts) → Whole (shake_pass S) c (node Module ss ts) (node Module rs us) → (f : Name) → Reached retained ts f → declared_apart f ts ≡ false → has_function f ts ≡ true → has_function f us ≡ true
reached_stands k (walk.shut s) f r a h = h
reached_stands {S} {retained} {ts = ts} k (walk.whole i w) f r a h = list_function S f (by_case (S.free f) refl) w h
  where
    by_case : (b : Bool) → S.free f ≡ b → b ≡ false
    by_case false e = refl
    by_case true e = absurd (true≢false (sym (k.free_are f e) ∙ reached_stays retained ts f r a))
