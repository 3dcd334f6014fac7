-- What was written where nothing failed: the changed text, or the text as it is.
use Rattle.std.proofs.Common.{rules, ◌≡◌, IfSome}
use Rattle.shake_whole.specs.DoneWhole.DoneWhole.{changed, unchanged}
use Rattle.shake_whole.proofs.Written.{when_ok}
use Rattle.shake_whole.proofs.whole.work.Goals as goal

pub returns-in-Ok-clause-done : goal.returns-in-Ok-clause-done
returns-in-Ok-clause-done g c =
    let whole : IfSome (g.R.Read.remaining c.args.reader.now) (λ bytes. c.as_str-text.result.now ≡ bytes) = search rules in
    when_ok c.put.result (λ added. changed c.as_str-text.result.now _ whole c.in_ok-restored-in-Ok.ensures.done added) c.put.ensures.written

pub returns-in-Err-NoStandIn-clause-done : goal.returns-in-Err-NoStandIn-clause-done
returns-in-Err-NoStandIn-clause-done g c =
    let whole : IfSome (g.R.Read.remaining c.args.reader.now) (λ bytes. c.as_str-text.result.now ≡ bytes) = search rules in
    when_ok c.put-in-Err-NoStandIn.result (λ added. unchanged c.as_str-text.result.now whole added) c.put-in-Err-NoStandIn.ensures.written
