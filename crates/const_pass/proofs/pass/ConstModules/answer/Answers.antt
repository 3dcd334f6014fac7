use Rattle.swc_ast.specs.Modules.{module_tree}
use Rattle.const_pass.specs.Rules.{state}
use Rattle.const_pass.proofs.Answered.{is_put}
use Rattle.const_pass.proofs.pass.ConstModules.answer.Goals as goal

pub returns-clause-put : goal.returns-clause-put
returns-clause-put c = is_put (record { alloc = c.args.alloc; locals = c.in_ok-locals.locals; given = record { ref_ptr = (0, 0); now = c.args.self.now.given } }) c.args.module.now c.in_ok-copy.copy (module_tree c.put_module.new.n) (state c.put_module.new.rules) c.in_ok-locals.ensures.locals c.in_ok-locals.ensures.faultless c.in_ok-copy.ensures c.in_ok-put_module.ensures
