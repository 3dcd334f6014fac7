use Rattle.std.proofs.Common.{refl, sym, ◌∙◌}
use Rattle.branch_vars.proofs.Once.{nothing_declared, all_declared}
use Rattle.branch_vars.proofs.declarations.declare.Goals as goal

pub returns-then-is_empty : goal.returns-then-is_empty
returns-then-is_empty c = nothing_declared _ c.in_ok-decls.decls.items _ c.in_ok-decls.ensures c.in_ok-decls.decls.ok.0 (sym c.is_empty.ensures ∙ c.if-is_empty.true)

pub returns : goal.returns
returns c = all_declared _ _ _ refl c.in_ok-decls.ensures c.in_ok-decls.decls.ok.0 (sym c.is_empty.ensures ∙ c.if-is_empty.false)
