use Rattle.std.proofs.Common.{subst, [], ◌∷◌}
use Rattle.swc_ast.specs.Modules.{script_tree}
use Rattle.swc_ast.specs.Parts.{list_trees}
use Rattle.swc_ast.specs.Views.{stmt_tree}
use Rattle.dce_uses.specs.declared.uses.Uses.{Uses}
use Rattle.dce_uses.specs.Noted.{noted}
use Rattle.dce_uses.specs.Tables.{Notes}
use Rattle.dce_uses.proofs.Told.{script_told}
use Rattle.dce_uses.proofs.uses.Uses.of_script.Goals as goal

pub returns-clause-tells : goal.returns-clause-tells
returns-clause-tells c =
    let s = c.args.s.now in let t = script_tree s in let start = c.nothing-uses.result in
    let u : Uses = record { table = c.count.new.self; exports_default = start.exports_default; rows = start.rows; told = start.told } in
    script_told u start.table (s.span ∷ []) (list_trees stmt_tree s.body.items) c.nothing-uses.ensures.table
    (subst (λ p. Notes start.table c.count.new.self (λ f x. noted f x p t)) c.top.ensures c.in_ok-count.ensures.notes)
    c.nothing-uses.ensures.default
