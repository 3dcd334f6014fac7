-- Lists of units.
use Rattle.std.proofs.Common.{◌≡◌, ℕ, Bool, true, false, List, [], ◌∷◌, ◌++◌, ◌||◌, refl, sym, ap, ap₂, subst, ◌∙◌}
use Rattle.std.specs.Prelude.{Option, Some, None, IfSome}
use Rattle.std.specs.List.{All}
use Rattle.std.proofs.lemmas.List.{map-append, append_assoc}
use Rattle.std.proofs.lemmas.List.Elements.{All-nil, All-cons, All-head, All-tail}
use Rattle.stmt_like.specs.Kept.{IsIn, is_first, is_later, Kept}
use Rattle.stmt_like.proofs.Kept.{all_kept}
use Rattle.swc_ast.specs.Modules.{item_tree}
use Rattle.swc_ast.specs.Parts.{list_trees}
use Rattle.swc_ast.specs.Tree.{Module, Tree, ◌⊳◌}
use Rattle.swc_ast.specs.declared.Span.{Span}
use Rattle.swc_ast.specs.declared.modules.ModuleItem.{ModuleItem}
use Rattle.swc_ast.specs.declared.modules.ModuleItem.TheVariants as items
use Rattle.swc_ast.specs.declared.statements.Stmt.{Stmt}
use Rattle.tree_walk.specs.Lists.{ItemsBecame}
use Rattle.tree_walk.specs.Walks.{Walks, Each, none, more, whole, listed}
use Rattle.tree_walk.proofs.ModuleArms.{items_then}
use Rattle.tree_walk.proofs.Walked.{each_list, or_assoc}
use Rattle.swc_expr.specs.Simplifies.{simplify_pass}
use Rattle.branch_rules.specs.Lists.{kept_names}
use Rattle.branch_rules.specs.Removes.{remove_pass}
use Rattle.branch_lists.specs.Swept.{trees}
use Rattle.branch_lists.specs.Tidy.{ListTidied}
use Rattle.dce_rules.specs.Shakes.{Shaker, shake_pass}
use Rattle.dce_code.specs.Lists.{ListShaken}
use Rattle.dce_uses.specs.Said.{AllSaid, Grows, IsWithin, Register, Says}
use Rattle.dce_uses.specs.declared.said.Said.{Said}
use Rattle.dce_uses.proofs.Saying.{says_behind}
use Rattle.round_units.specs.declared.unit.Unit.{Unit}
use Rattle.round_units.specs.Cleared.{Cleared, ItemCleared}
use Rattle.round_units.specs.Trees.{tree_of}
use Rattle.round_units.specs.Rests.{unknown, Known, SaidOf, AllKnown, AllSay, items_in}

-- what holds of each item of a list, by the items that are in it

pub each_in : {X : Type 0} (P : X → Type 0) (xs : List X) → All P xs → (x : X) → IsIn x xs → P x
each_in P [] h x at = elim at [ ]
each_in P (y ∷ ys) h _ is_first = All-head P y ys h
each_in P (y ∷ ys) h x (is_later at) = each_in P ys (All-tail P y ys h) x at

all_in : {X : Type 0} (P : X → Type 0) (xs : List X) → ((x : X) → IsIn x xs → P x) → All P xs
all_in P [] h = All-nil P
all_in P (y ∷ ys) h = All-cons P y ys (h y is_first) (all_in P ys (λ x at. h x (is_later at)))

-- of a list whose items come from another, or are made
kept_each : {X : Type 0} {made : Stmt → X} (P : X → Type 0) → ((s : Stmt) → P (made s)) → {xs ys : List X} → Kept made xs ys → All P xs → All P ys
kept_each P of_made {xs} {ys} kept h = all_in P ys (all_kept P of_made kept (each_in P xs h))

-- what is known of units

pub unknown_known : (x : ModuleItem) → Known (unknown x)
unknown_known x = (tt, (tt, tt))

pub known_kept : (us vs : List Unit) → Kept (λ s. unknown (items.Stmt s)) us vs → AllKnown us → AllKnown vs
known_kept us vs kept = kept_each Known (λ s. unknown_known (items.Stmt s)) kept

pub said_kept : (us vs : List Unit) → Kept (λ s. unknown (items.Stmt s)) us vs → (g : Register) → AllSay g us → AllSay g vs
said_kept us vs kept g = kept_each (SaidOf g) (λ s. tt) kept

-- where more is known what they say stays
one_more : (o : Option Said) (t : Tree) (g h : Register) → Grows g h → IfSome o (λ s. Says g s t) → IfSome o (λ s. Says h s t)
one_more None t g h e k = tt
one_more (Some s) t g h e k = says_behind g h s t k e

pub say_more : (us : List Unit) (g h : Register) → Grows g h → AllSay g us → AllSay h us
say_more [] g h e k = All-nil (SaidOf h)
say_more (u ∷ us) g h e k = All-cons (SaidOf h) u us (one_more u.said (item_tree u.item) g h e (All-head (SaidOf g) u us k)) (say_more us g h e (All-tail (SaidOf g) u us k))

-- where the rows of what one says are
pub said_within : (g : Register) (o : Option Said) (s : Said) (t : Tree) → o ≡ Some s → IfSome o (λ s. Says g s t) → IsWithin g s
said_within g o s t is h = (subst (λ p. IfSome p (λ s. Says g s t)) is h).within

-- as the shaker's uses ask for it
pub all_said : (g : Register) (us vs : List Unit) → vs ≡ us → AllSay g us → AllSaid g (λ u. u.item) (λ u. u.said) vs
all_said g us vs is h = subst (λ ws. AllSaid g (λ u. u.item) (λ u. u.said) ws) (sym is) (each_in (SaidOf g) us h)

-- the trees of units are those of their items
pub mapped : (us : List Unit) → list_trees item_tree (items_in us) ≡ list_trees (λ u. item_tree u.item) us
mapped [] = refl
mapped (u ∷ us) = ap (λ ts. item_tree u.item ⊳ ts) (mapped us)

-- one item more
pub items_pushed : (us vs : List Unit) (x : ModuleItem) (old rest all : List ModuleItem) → vs ≡ us ++ unknown x ∷ [] → old ≡ x ∷ rest → items_in us ++ old ≡ all → items_in vs ++ rest ≡ all
items_pushed us vs x old rest all pushed taken h =
    ap (λ ws. items_in ws ++ rest) pushed ∙ ap (λ ys. ys ++ rest) (map-append (λ (u : Unit). u.item) us (unknown x ∷ []))
    ∙ append_assoc (items_in us) (x ∷ []) rest ∙ ap (λ ys. items_in us ++ ys) (sym taken) ∙ h

-- what a walk over units made of their items
pub each_item : {P : ModuleItem → ModuleItem → Bool → Type 0} {us vs : List Unit} {c : Bool} → Each (λ x y d. P x.item y.item d) us vs c → Each P (items_in us) (items_in vs) c
each_item none = none
each_item (more p rest) = more p (each_item rest)

-- what both passes made of each item, taken apart: what the first made of all of them, and then the second
pub record Apart (m k : ℕ) (xs ys : List ModuleItem) (c : Bool) : Type 0 where
  pub between : List ModuleItem
  pub by_first : Bool
  pub by_second : Bool
  pub simplified : Each (λ x y d. Walks (simplify_pass m) d (item_tree x) (item_tree y)) xs between by_first
  pub removed : Each (λ x y d. Walks (remove_pass k) d (item_tree x) (item_tree y)) between ys by_second
  pub either : c ≡ (by_first || by_second)

pub apart : {m k : ℕ} {us vs : List Unit} {c : Bool} → Each (λ x y d. ItemCleared m k x.item y.item d) us vs c → Apart m k (items_in us) (items_in vs) c
apart none = record { between = []; by_first = false; by_second = false; simplified = none; removed = none; either = refl }
apart (more p rest) =
    let h = apart rest in
    record {
      between = p.between ∷ h.between;
      by_first = p.by_first || h.by_first;
      by_second = p.by_second || h.by_second;
      simplified = more p.simplified h.simplified;
      removed = more p.removed h.removed;
      either = ap₂ (λ a b. a || b) p.either h.either ∙ or_mix p.by_first p.by_second h.by_first h.by_second;
    }
  where
    or_mix : (a b c d : Bool) → ((a || b) || (c || d)) ≡ ((a || c) || (b || d))
    or_mix true b c d = refl
    or_mix false true true d = refl
    or_mix false true false d = refl
    or_mix false false c d = refl

-- and the list tidied behind both
pub cleared : (m k : ℕ) (s : Span) (us vs ws : List Unit) (c d : Bool) → Apart m k (items_in us) (items_in vs) c → ItemsBecame (remove_pass k) d (items_in vs) (items_in ws) → Cleared m k (tree_of s us) (tree_of s ws) (c || d)
cleared m k s us vs ws c d h tidied = record {
  span = s;
  between = h.between;
  by_first = h.by_first;
  by_second = h.by_second || d;
  simplified = whole refl (listed (each_list h.simplified) tt);
  removed = items_then h.between (items_in vs) (items_in ws) h.by_second d _ h.removed tidied;
  either = ap (λ b. b || d) h.either ∙ or_assoc h.by_first h.by_second d;
}

-- a list that was tidied, or one in which there is nothing to tidy
pub items_tidied : (mark : ℕ) (c : Bool) (us vs : List Unit) → ListTidied (kept_names Module (trees (λ u. u.item) us)) c (trees (λ u. u.item) us) (trees (λ u. u.item) vs) → ItemsBecame (remove_pass mark) c (items_in us) (items_in vs)
items_tidied mark c us vs h = by c (subst (λ ts. ListTidied (kept_names Module ts) c ts (list_trees item_tree (items_in vs))) (sym (mapped us)) (subst (λ ts. ListTidied (kept_names Module (trees (λ u. u.item) us)) c (trees (λ u. u.item) us) ts) (sym (mapped vs)) h))
  where
    by : (d : Bool) → ListTidied (kept_names Module (list_trees item_tree (items_in us))) d (list_trees item_tree (items_in us)) (list_trees item_tree (items_in vs)) → ItemsBecame (remove_pass mark) d (items_in us) (items_in vs)
    by true k = k
    by false k = k

-- a list out of which some items went, or none
pub items_shaken : (S : Shaker) (c : Bool) (us vs : List Unit) → ListShaken S c (trees (λ u. u.item) us) (trees (λ u. u.item) vs) → ItemsBecame (shake_pass S) c (items_in us) (items_in vs)
items_shaken S c us vs h = by c (subst (λ ts. ListShaken S c ts (list_trees item_tree (items_in vs))) (sym (mapped us)) (subst (λ ts. ListShaken S c (trees (λ u. u.item) us) ts) (sym (mapped vs)) h))
  where
    by : (d : Bool) → ListShaken S d (list_trees item_tree (items_in us)) (list_trees item_tree (items_in vs)) → ItemsBecame (shake_pass S) d (items_in us) (items_in vs)
    by true k = k
    by false k = k
