-- Lists whose items come from another list, or are made of statements.
use Rattle.std.proofs.Common.{Bool, true, false, cond, filter, List, [], ◌∷◌, ◌++◌}
use Rattle.swc_ast.specs.declared.statements.Stmt.{Stmt}
use Rattle.stmt_like.specs.Kept.{IsIn, is_first, is_later, Kept, none_more, one_kept, one_made}

-- what holds of each item of the first list and of what is made holds of each of the second
pub all_kept : {X : Type 0} {made : Stmt → X} (P : X → Type 0) → ((s : Stmt) → P (made s)) → {xs ys : List X} → Kept made xs ys → ((x : X) → IsIn x xs → P x) → (y : X) → IsIn y ys → P y
all_kept P of_made none_more of_each y at = elim at [ ]
all_kept P of_made (one_kept here kept) of_each _ is_first = of_each _ here
all_kept P of_made (one_kept here kept) of_each y (is_later at) = all_kept P of_made kept of_each y at
all_kept P of_made (one_made kept) of_each _ is_first = of_made _
all_kept P of_made (one_made kept) of_each y (is_later at) = all_kept P of_made kept of_each y at

-- where an item of lists behind one another is

pub in_left : {X : Type 0} {x : X} {xs : List X} (ys : List X) → IsIn x xs → IsIn x (xs ++ ys)
in_left ys is_first = is_first
in_left ys (is_later at) = is_later (in_left ys at)

pub in_right : {X : Type 0} {x : X} (xs : List X) {ys : List X} → IsIn x ys → IsIn x (xs ++ ys)
in_right [] at = at
in_right (x ∷ xs) at = is_later (in_right xs at)

-- items that come from a part of a list come from the list
pub kept_from : {X : Type 0} {made : Stmt → X} {xs ys zs : List X} → ((x : X) → IsIn x xs → IsIn x ys) → Kept made xs zs → Kept made ys zs
kept_from more none_more = none_more
kept_from more (one_kept here kept) = one_kept (more _ here) (kept_from more kept)
kept_from more (one_made kept) = one_made (kept_from more kept)

-- a list is kept of itself
pub kept_all : {X : Type 0} (made : Stmt → X) (xs : List X) → Kept made xs xs
kept_all made [] = none_more
kept_all made (x ∷ xs) = one_kept is_first (kept_from (λ y at. is_later at) (kept_all made xs))

-- two lists behind one another
pub kept_both : {X : Type 0} {made : Stmt → X} {xs ys zs : List X} → Kept made xs ys → Kept made xs zs → Kept made xs (ys ++ zs)
kept_both none_more last = last
kept_both (one_kept here kept) last = one_kept here (kept_both kept last)
kept_both (one_made kept) last = one_made (kept_both kept last)

-- one item of a list that is kept
kept_one : {X : Type 0} {made : Stmt → X} {xs ys zs : List X} {y : X} → Kept made xs ys → IsIn y ys → Kept made xs zs → Kept made xs (y ∷ zs)
kept_one none_more at last = elim at [ ]
kept_one (one_kept here kept) is_first last = one_kept here last
kept_one (one_kept here kept) (is_later at) last = kept_one kept at last
kept_one (one_made kept) is_first last = one_made last
kept_one (one_made kept) (is_later at) last = kept_one kept at last

-- one list after another
pub kept_through : {X : Type 0} {made : Stmt → X} {xs ys zs : List X} → Kept made xs ys → Kept made ys zs → Kept made xs zs
kept_through kept none_more = none_more
kept_through kept (one_kept here next) = kept_one kept here (kept_through kept next)
kept_through kept (one_made next) = one_made (kept_through kept next)

-- some items of a list
pub kept_filter : {X : Type 0} (made : Stmt → X) (test : X → Bool) (xs : List X) → Kept made xs (filter test xs)
kept_filter made test [] = none_more
kept_filter made test (x ∷ xs) = by (test x) (kept_from (λ y at. is_later at) (kept_filter made test xs))
  where
    by : (b : Bool) → Kept made (x ∷ xs) (filter test xs) → Kept made (x ∷ xs) (cond b (x ∷ filter test xs) (filter test xs))
    by true rest = one_kept is_first rest
    by false rest = rest
