use Rattle.tree_put.proofs.ModuleArms.{script_made}
use Rattle.tree_put.proofs.walk.modules.put_script.Goals as goal

pub returns : goal.returns
returns g c = script_made c.args.n.now c.put_stmts.new.ss c.in_ok-open.ensures c.in_ok-put_stmts.ensures c.in_ok-close.ensures
