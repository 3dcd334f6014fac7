use Rattle.std.proofs.Common.{[], ◌∷◌, sym, ap, ◌∙◌}
use Rattle.std.proofs.lemmas.List.{map-append}
use Rattle.swc_names.specs.Ids.{id_name, ids}
use Rattle.dce_code.specs.Knowledge.{shaker}
use Rattle.round_units.proofs.Settling.{one_more}
use Rattle.round_units.proofs.unit.going.Goals as goal

pub loop-sym-preserved-in-Continue-1 : goal.loop-sym-preserved-in-Continue-1
loop-sym-preserved-in-Continue-1 c =
    one_more (shaker c.args.rules.now.known) (ids c.loop-sym.going.items) (ids c.push.new.self.items) (id_name (c.in-Some.sym, c.in-Some.ctxt))
    (ap ids c.in_ok-push.ensures.items ∙ map-append id_name c.loop-sym.going.items ((c.in-Some.sym, c.in-Some.ctxt) ∷ []))
    (sym c.is_free.ensures ∙ c.if-is_free.true) c.requires c.loop-sym.invariant
