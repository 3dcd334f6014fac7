-- Lists with more behind them, and what is known by places in them.
use Rattle.std.proofs.Common.{◌≡◌, ◌≤◌, ◌-◌, ℕ, List, [], ◌++◌, length, take, drop, refl, sym, ap, ap₂, ◌∙◌, arith, append-nil, append_assoc}
use Rattle.std.specs.Prelude.{slice_range}
use Rattle.std.proofs.lemmas.List.{length-append, length-drop, drop-append-le, take-append-le}
use Rattle.std.proofs.Math.Seq.{drop-append_seam, take-length}
use Rattle.dce_uses.specs.declared.said.Said.{Said}
use Rattle.dce_uses.specs.Said.{Grows, IsWithin, Register, rows_of}
use Rattle.dce_uses.specs.Tables.{Extends}

pub extends_as : {X : Type 0} (xs ys : List X) → ys ≡ xs → Extends xs ys
extends_as xs ys is = record { more = []; is = is ∙ sym (append-nil xs) }

pub extends_itself : {X : Type 0} (xs : List X) → Extends xs xs
extends_itself xs = extends_as xs xs refl

pub extends_more : {X : Type 0} (xs ys zs : List X) → Extends xs ys → Extends ys zs → Extends xs zs
extends_more xs ys zs first second = record { more = first.more ++ second.more; is = second.is ∙ ap (λ ks. ks ++ second.more) first.is ∙ append_assoc xs first.more second.more }

pub longer : {X : Type 0} (xs ys : List X) → Extends xs ys → length xs ≤ length ys
longer xs ys e = omega (arith, ap (λ ks. length ks) e.is, length-append xs e.more)

-- a part of a list, where more stands behind the list
part_behind : {X : Type 0} (xs ys : List X) (i j : ℕ) → i ≤ j → j ≤ length xs → slice_range (xs ++ ys) i j ≡ slice_range xs i j
part_behind xs ys i j up low =
    ap (take (j - i)) (drop-append-le i xs ys (omega (arith, up, low)))
    ∙ take-append-le (j - i) (drop i xs) ys (omega (arith, up, low, length-drop i xs))

-- the part that was put behind a list
pub put_behind : {X : Type 0} (xs ys zs : List X) (i j : ℕ) → zs ≡ xs ++ ys → i ≡ length xs → j ≡ length zs → slice_range zs i j ≡ ys
put_behind xs ys zs i j is start end =
    let long : j - length xs ≡ length ys = omega (arith, end, ap (λ ws. length ws) is, length-append xs ys) in
    ap₂ (λ k ws. slice_range ws k j) start is ∙ ap₂ (λ n ws. take n ws) long (drop-append_seam xs ys) ∙ take-length ys

-- the rows of what an item said stay where they are
pub same_rows : (g h : Register) (s : Said) → Grows g h → IsWithin g s → rows_of h s ≡ rows_of g s
same_rows g h s e at = ap (λ rs. slice_range rs s.start s.end) e.rows.is ∙ part_behind g.rows e.rows.more s.start s.end at.ordered at.within

pub still_within : (g h : Register) (s : Said) → Grows g h → IsWithin g s → IsWithin h s
still_within g h s e at = record { ordered = at.ordered; within = let more = longer g.rows h.rows e.rows in omega (arith, at.within, more) }

pub grows_more : (g h k : Register) → Grows g h → Grows h k → Grows g k
grows_more g h k first second = record { names = extends_more g.names h.names k.names first.names second.names; rows = extends_more g.rows h.rows k.rows first.rows second.rows }

pub grows_itself : (g : Register) → Grows g g
grows_itself g = record { names = extends_itself g.names; rows = extends_itself g.rows }
