-- What is known of a tree that was read, in one record.
use Rattle.std.proofs.Common.{◌≡◌, ◌<◌, ◌^◌, true, length, Result, Ok, Err, IfOk}
use Rattle.swc_ast.specs.Core.{IsCore}
use Rattle.swc_ast.specs.Marks.{mark_number}
use Rattle.swc_ast.specs.Resolved.{IsResolved}
use Rattle.swc_ast.specs.Tree.{Text, Tree}
use Rattle.swc_ast.specs.Valid.{valid}
use Rattle.swc_ast.specs.declared.names.Mark.{Mark}
use Rattle.swc_text.specs.Texts.{IsReadModule, IsReadScript}
use Rattle.swc_text.specs.declared.error.ReadError.{ReadError}

pub read_module : {A : Type 0} (r : Result A ReadError) (f : A → Tree) (mark : Mark) (text : Text) → length text < 2 ^ 31 → IfOk r (λ m. valid (f m) ≡ true) → IfOk r (λ m. IsResolved (mark_number mark) (f m)) → IfOk r (λ m. IsCore (f m)) → IfOk r (λ m. IsReadModule mark text (f m))
read_module (Ok m) f mark text short sound resolved core = record { short = short; valid = sound; resolved = resolved; core = core }
read_module (Err e) f mark text short sound resolved core = tt

pub read_script : {A : Type 0} (r : Result A ReadError) (f : A → Tree) (mark : Mark) (text : Text) → length text < 2 ^ 31 → IfOk r (λ s. valid (f s) ≡ true) → IfOk r (λ s. IsResolved (mark_number mark) (f s)) → IfOk r (λ s. IsCore (f s)) → IfOk r (λ s. IsReadScript mark text (f s))
read_script (Ok s) f mark text short sound resolved core = record { short = short; valid = sound; resolved = resolved; core = core }
read_script (Err e) f mark text short sound resolved core = tt
