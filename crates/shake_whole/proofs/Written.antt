-- What a write that doesn't fail makes of what is known.
use Rattle.std.proofs.Common.{Result, Ok, Err, OnOk, IfOk}

-- what follows from what holds where nothing fails holds there
pub when_ok : {A E X Y : Type 0} (r : Result A E) → (X → Y) → OnOk r X → IfOk r (λ _. Y)
when_ok (Ok x) f h = f h
when_ok (Err e) f h = tt
