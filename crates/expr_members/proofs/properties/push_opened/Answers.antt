use Rattle.std.proofs.Common.{sym, ap, ◌∙◌}
use Rattle.swc_ast.specs.Scope.{joined}
use Rattle.expr_members.proofs.Props.{trees_of, trees_joined, opened_at}
use Rattle.expr_members.proofs.properties.push_opened.Goals as goal

pub returns-in_ok-append-in-Spread : goal.returns-in_ok-append-in-Spread
returns-in_ok-append-in-Spread c =
    let old = c.args.out.now.items in
    ap trees_of c.in_ok-append-in-Spread.ensures.items ∙ trees_joined old c.properties_of-props.result.items
    ∙ ap (joined (trees_of old)) (sym (opened_at c.args.prop c.in-Spread.n c.into_inner.result c.properties_of-props.result.items c.in-Spread.is c.into_inner.ensures (sym c.opens_property.ensures ∙ c.if-not-opens_property.false) c.properties_of-props.ensures))
