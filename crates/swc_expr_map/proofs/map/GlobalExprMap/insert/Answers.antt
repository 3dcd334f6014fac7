use Rattle.std.proofs.Common.{length, sym, ap, subst, ◌∙◌}
use Rattle.swc_expr_map.specs.Entries.{found, put, IsSorted}
use Rattle.swc_expr_map.specs.declared.entry.Entry.{Entry}
use Rattle.swc_expr_map.proofs.Rising.{rising, sorted}
use Rattle.swc_expr_map.proofs.Placed.{put_rises, put_counts, put_puts}
use Rattle.swc_expr_map.proofs.map.GlobalExprMap.insert.Goals as goal

pub invariant_of-self-2 : goal.invariant_of-self-2
invariant_of-self-2 c =
    let e : Entry = record { key = c.args.key; value = c.args.value } in
    let old = c.self.inside.entries in
    subst IsSorted (sym c.in_ok-insert.ensures.put) (sorted (put e old) (put_rises e old (rising old c.self.invariant)))

pub returns-clause-get : goal.returns-clause-get
returns-clause-get c = λ t.
    let e : Entry = record { key = c.args.key; value = c.args.value } in
    ap (found t) (c.in_ok-insert.ensures.put ∙ ap (put e) c.self.view_is) ∙ put_puts e c.args.self.now t

pub returns-clause-count : goal.returns-clause-count
returns-clause-count c =
    let e : Entry = record { key = c.args.key; value = c.args.value } in
    let old = c.args.self.now in
    ap length (c.in_ok-insert.ensures.put ∙ ap (put e) c.self.view_is) ∙ put_counts e old (rising old (subst IsSorted c.self.view_is c.self.invariant))
