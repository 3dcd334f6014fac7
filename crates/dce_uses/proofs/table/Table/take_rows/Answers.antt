use Rattle.std.proofs.Common.{[], ◌∷◌, ◌++◌, option_to_list, refl, sym, ap, ◌∙◌}
use Rattle.dce_uses.specs.declared.said.Row.{Row}
use Rattle.dce_uses.specs.declared.table.Table.{Table}
use Rattle.dce_uses.proofs.Numbering.{changes, with_tally}
use Rattle.dce_uses.proofs.Rows.{blank_tally, none_behind, none_taken, one_behind, past_all, skipped, taken, takes_none, told_there}
use Rattle.dce_uses.proofs.table.Table.take_rows.Goals as goal

pub loop-number-init : goal.loop-number-init
loop-number-init c = none_taken c.args.self.now c.args.rows.now.items (takes_none c.args.self.now c.requires)

pub loop-number-preserved-then-not-is_empty : goal.loop-number-preserved-then-not-is_empty
loop-number-preserved-then-not-is_empty c =
    let v = c.loop-number.self in let p : Table = record { names = v.names; tallies = v.tallies; touched = c.pop.new.self } in
    let n = c.in-Some.number in let t = c.index-tally.result.now in let e = c.empty.result in let r : Row = record { number = c.in-Ok.short; tally = t } in
    let h = c.loop-number.invariant in
    one_behind c.args.self.now v (with_tally p n e) c.args.rows.now.items c.loop-number.rows.items c.push.new.self.items r c.in_ok-push.ensures.items h
    (taken c.args.self.now v p (with_tally p n e) n c.len.result t e r h.more (h.more ++ r ∷ []) refl refl
    (c.pop.ensures.items ∙ ap (λ o. c.pop.new.self.items ++ option_to_list o) c.in-Some.is) c.if-number-len.true c.len.ensures
    (changes p n c.len.result t e c.if-number-len.true c.len.ensures c.index-tally.ensures) c.empty.ensures c.in-Ok.ensures.1 refl refl)

pub loop-number-preserved-else-not-is_empty : goal.loop-number-preserved-else-not-is_empty
loop-number-preserved-else-not-is_empty c =
    let v = c.loop-number.self in let p : Table = record { names = v.names; tallies = v.tallies; touched = c.pop.new.self } in
    let n = c.in-Some.number in let t = c.index-tally.result.now in
    let h = c.loop-number.invariant in
    none_behind c.args.self.now v p c.args.rows.now.items c.loop-number.rows.items h
    (skipped c.args.self.now v p n h.more refl refl
    (c.pop.ensures.items ∙ ap (λ o. c.pop.new.self.items ++ option_to_list o) c.in-Some.is)
    (λ f. told_there v n c.len.result t f c.if-number-len.true c.len.ensures c.index-tally.ensures ∙ blank_tally t (sym c.is_empty.ensures ∙ c.if-not-is_empty.false) f))

pub loop-number-preserved : goal.loop-number-preserved
loop-number-preserved c =
    let v = c.loop-number.self in let p : Table = record { names = v.names; tallies = v.tallies; touched = c.pop.new.self } in
    let h = c.loop-number.invariant in
    none_behind c.args.self.now v p c.args.rows.now.items c.loop-number.rows.items h
    (past_all c.args.self.now v p c.in-Some.number c.len.result h.more refl refl
    (c.pop.ensures.items ∙ ap (λ o. c.pop.new.self.items ++ option_to_list o) c.in-Some.is) c.if-number-len.false c.len.ensures)
