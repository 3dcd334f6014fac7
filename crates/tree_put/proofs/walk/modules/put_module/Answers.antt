use Rattle.tree_put.proofs.ModuleArms.{module_made}
use Rattle.tree_put.proofs.walk.modules.put_module.Goals as goal

pub returns : goal.returns
returns g c = module_made c.args.n.now c.put_items.new.items c.in_ok-open.ensures c.in_ok-put_items.ensures c.in_ok-close.ensures
