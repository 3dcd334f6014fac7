use Rattle.std.proofs.Common.{◌≡◌, ℕ, false, not, Option, Some, None, is_some, map, refl, ap, ◌∙◌}
use Rattle.swc_ast.specs.Modules.{module_tree}
use Rattle.shake_options.specs.Flags.{flag_texts}
use Rattle.shake_given.specs.Refused.{too_deep}
use Rattle.shake_given.proofs.Deep.{is_made_deep}
use Rattle.shake_given.proofs.front.prepare.Goals as goal

not_some : (o : Option ℕ) → is_some o ≡ false → o ≡ None
not_some None e = refl
not_some (Some n) e = cc

pub returns-then-is_none-clause-told : goal.returns-then-is_none-clause-told
returns-then-is_none-clause-told c =
    let none : c.levels_of_module.result ≡ None = not_some c.levels_of_module.result (c.is_none.ensures ∙ ap not c.if-is_none.true) in
    too_deep (is_made_deep (map flag_texts c.args.flags.now) c.args.mark c.most_levels-most.result (module_tree c.args.module) c.most_levels-most.ensures (module_tree c.in_ok-prepared.prepared) c.in_ok-prepared.ensures.prepared (c.levels_of_module.ensures.more none))
