-- Lists that get more items, each of which is one of some or is made of a statement.
use Rattle.std.proofs.Common.{◌≡◌, List, [], ◌∷◌, ◌++◌, Result, Ok, Err, OnOk, sym, ap, subst, ◌∙◌}
use Rattle.std.proofs.lemmas.List.{append-nil, append_assoc}
use Rattle.std.specs.declared.alloc.Global.{Global}
use Rattle.std.specs.declared.vec.Vec.{Vec}
use Rattle.swc_ast.specs.declared.statements.Stmt.{Stmt}
use Rattle.stmt_like.specs.Kept.{IsIn, is_first, is_later, Kept, none_more, one_kept, one_made}
use Rattle.stmt_like.proofs.Kept.{in_left, in_right, kept_all, kept_both, kept_from, kept_through}
use Rattle.branch_lists.specs.Onto.{Onto}

pub onto_none : {X : Type 0} {made : Stmt → X} {xs old new : List X} → new ≡ old → Onto made xs old new
onto_none {old = old} is = record { added = []; is = is ∙ sym (append-nil old); kept = none_more }

-- one item that is there
pub onto_item : {X : Type 0} {made : Stmt → X} {old new : List X} {x : X} → new ≡ old ++ x ∷ [] → Onto made (x ∷ []) old new
onto_item is = record { added = _; is = is; kept = one_kept is_first none_more }

-- one that is made of a statement
pub onto_made : {X : Type 0} {made : Stmt → X} {xs old new : List X} {x : X} (s : Stmt) → x ≡ made s → new ≡ old ++ x ∷ [] → Onto made xs old new
onto_made {old = old} s same is = record { added = _; is = is ∙ ap (λ y. old ++ y ∷ []) same; kept = one_made {s = s} none_more }

pub onto_both : {X : Type 0} {made : Stmt → X} {xs old now new : List X} → Onto made xs old now → Onto made xs now new → Onto made xs old new
onto_both {old = old} a b = record { added = _; is = b.is ∙ ap (λ ys. ys ++ b.added) a.is ∙ append_assoc old a.added b.added; kept = kept_both a.kept b.kept }

-- of more items
pub onto_from : {X : Type 0} {made : Stmt → X} {xs ys old new : List X} → ((x : X) → IsIn x xs → IsIn x ys) → Onto made xs old new → Onto made ys old new
onto_from more a = record { added = a.added; is = a.is; kept = kept_from more a.kept }

-- what a call added of statements alone
pub call_onto : {X A E : Type 0} (made : Stmt → X) (xs old new : List X) (r : Result A E) → OnOk r (Onto made [] old new) → OnOk r (Onto made xs old new)
call_onto made xs old new (Ok u) a = onto_from (λ y at. elim at [ ]) a
call_onto made xs old new (Err e) a = a

-- behind no items
pub kept_onto : {X : Type 0} {made : Stmt → X} {xs new : List X} → Onto made xs [] new → Kept made xs new
kept_onto {made = made} {xs = xs} a = subst (Kept made xs) (sym a.is) a.kept

-- A loop over items: what it added so far and the items that are left come from those at its start.
pub record Adding {X : Type 0} (made : Stmt → X) (xs old now left : List X) : Type 0 where
  pub added : List X
  pub is : now ≡ old ++ added
  pub kept : Kept made xs (added ++ left)

pub adding_none : {X : Type 0} {made : Stmt → X} {xs old now left : List X} → left ≡ xs → now ≡ old → Adding made xs old now left
adding_none {made = made} {xs = xs} {old = old} at same = record { added = []; is = same ∙ sym (append-nil old); kept = subst (Kept made xs) (sym at) (kept_all made xs) }

kept_left : {X : Type 0} {made : Stmt → X} {xs : List X} (ys zs : List X) → Kept made xs (ys ++ zs) → Kept made xs ys
kept_left {made = made} ys zs h = kept_through h (kept_from (λ x at. in_left zs at) (kept_all made ys))

kept_right : {X : Type 0} {made : Stmt → X} {xs : List X} (ys zs : List X) → Kept made xs (ys ++ zs) → Kept made xs zs
kept_right {made = made} ys zs h = kept_through h (kept_from (λ x at. in_right ys at) (kept_all made zs))

-- what is made of the first items that are left goes onto the rest
pub adding_on : {X : Type 0} {made : Stmt → X} {xs old now next left rest : List X} (firsts : List X) → left ≡ firsts ++ rest → Onto made firsts now next → Adding made xs old now left → Adding made xs old next rest
adding_on {made = made} {xs = xs} {old = old} {left = left} {rest = rest} firsts at a h = record {
  added = h.added ++ a.added;
  is = a.is ∙ ap (λ ys. ys ++ a.added) h.is ∙ append_assoc old h.added a.added;
  kept = kept_both (kept_both (kept_left h.added left h.kept) (kept_through (kept_left firsts rest some) a.kept)) (kept_right firsts rest some);
}
  where
    some : Kept made xs (firsts ++ rest)
    some = subst (Kept made xs) at (kept_right h.added left h.kept)

pub adding_end : {X : Type 0} {made : Stmt → X} {xs old now left : List X} → Adding made xs old now left → Onto made xs old now
adding_end {left = left} h = record { added = h.added; is = h.is; kept = kept_left h.added left h.kept }

-- the same of all that are left
pub adding_last : {X : Type 0} {made : Stmt → X} {xs old now next left lasts : List X} → left ≡ lasts → Onto made lasts now next → Adding made xs old now left → Onto made xs old next
adding_last {lasts = lasts} at a h = adding_end (adding_on lasts (at ∙ sym (append-nil lasts)) a h)

-- an item that ends a list, behind what is made of statements, and what stays of those behind it
pub onto_cut : {X : Type 0} {made : Stmt → X} {old mid now new : List X} (x : X) (behind : List X) → Onto made [] old mid → now ≡ mid ++ x ∷ [] → Onto made behind now new → Onto made (x ∷ behind) old new
onto_cut x behind a is b = onto_both (onto_from (λ y at. elim at [ ]) a) (onto_both (onto_from (λ y at. in_left behind at) (onto_item is)) (onto_from (λ y at. is_later at) b))

-- a list that was taken out, and changed twice
pub kept_taken : {X : Type 0} {made : Stmt → X} {old taken : Vec X Global} {mid new : List X} → taken ≡ old → Kept made taken.items mid → Kept made mid new → Kept made old.items new
kept_taken {X = X} {made = made} {mid = mid} is first last = kept_through (subst (λ (v : Vec X Global). Kept made v.items mid) is first) last
