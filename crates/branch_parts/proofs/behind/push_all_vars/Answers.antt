use Rattle.branch_parts.specs.Behind.{vars_behind}
use Rattle.branch_parts.proofs.behind.push_all_vars.Goals as goal

pub returns : goal.returns
returns c = vars_behind c.in_ok-vars.ensures c.in_ok-push_optional.ensures
