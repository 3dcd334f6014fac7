-- The settings of the pass are what is given.
use Rattle.std.proofs.Common.{Some, refl, sym, ap, subst, ◌∙◌}
use Rattle.given_globals.specs.declared.settings.Settings.{Settings}
use Rattle.shake_given.specs.Prepared.{AreSettings}
use Rattle.shake_given.proofs.front.inlining.Goals as goal

pub returns : goal.returns
returns c =
    let settings = c.with_mark.ensures.settings ∙ ap {A = Settings} (λ s. record s { mark = Some c.args.mark }) c.inline_globals2.ensures.settings in
    subst (AreSettings c.args.given.now c.args.mark) (sym settings) (record { exprs = refl; globals = c.requires; envs = refl; typeofs = refl; is_marked = refl })
