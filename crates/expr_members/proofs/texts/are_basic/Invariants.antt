use Rattle.std.proofs.Common.{◌≡◌, drop}
use Rattle.expr_rules.specs.Members.{all_basic}
use Rattle.expr_members.proofs.texts.are_basic.Given as goal

abbrev pub invariant-loop-c : goal.invariant-loop-c
invariant-loop-c l = all_basic (drop l.c-index l.chars) ≡ all_basic l.chars
