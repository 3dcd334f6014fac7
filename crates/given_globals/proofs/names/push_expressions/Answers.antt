use Rattle.std.proofs.Common.{◌<◌, ◌+◌, ◌++◌, ◌∷◌, [], take, length, sym, ap, ◌∙◌, arith}
use Rattle.given_globals.specs.Rows.{texts, expression_names}
use Rattle.given_globals.proofs.Pushes.{pushed_name, more_names, names_step}
use Rattle.given_globals.proofs.names.push_expressions.Goals as goal

pub loop-number-preserved : goal.loop-number-preserved
loop-number-preserved c =
    let es = c.args.exprs.now in
    let i = c.loop-number.number in
    let n = c.told_name.result in
    let h : i < length es = omega (arith, c.len-number-end.ensures) in
    let p = pushed_name c.loop-number.names.items c.push.new.self.items n c.in_ok-push.ensures.items in
    names_step (texts c.args.names.now.items) (texts c.loop-number.names.items) (texts c.push.new.self.items) n.now (expression_names (take i es)) (expression_names (take (i + 1) es)) c.loop-number.invariant p
    (more_names es i h ∙ ap (λ t. expression_names (take i es) ++ t ∷ []) (sym c.told_name.ensures))
