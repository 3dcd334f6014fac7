-- What the work has done, by what each of its steps tells.
use Rattle.std.proofs.Common.{ℕ, ◌≡◌, ◌∙◌, List, Option, None, Some, Result, Ok, Err, subst, IfOk, MatchResult, IfSome}
use Rattle.std.specs.Io.KnownBytes.{Appends, Keeps}
use Rattle.swc_ast.specs.Marks.{mark_number}
use Rattle.swc_ast.specs.Tree.{Text, Tree}
use Rattle.swc_ast.specs.declared.names.Mark.{Mark}
use Rattle.swc_text.specs.Texts.{IsPrinted}
use Rattle.shake_options.specs.CommandLine.{command_line, retained_in, flags_in}
use Rattle.shake_options.specs.Flags.{FlagText}
use Rattle.shake_options.specs.declared.options.Options.{Options}
use Rattle.shake_run.specs.Done.{Becomes, Done}

-- what a flush keeps of bytes that were added
pub appends_kept : (old mid new : Option (List ℕ)) (bytes : List ℕ) → Appends old mid bytes → Keeps mid new → Appends old new bytes
appends_kept None mid new bytes a k = tt
appends_kept (Some xs) None new bytes a k = absurd a
appends_kept (Some xs) (Some ys) None bytes a k = absurd k
appends_kept (Some xs) (Some ys) (Some zs) bytes a k = k ∙ a

module _ (args : List Text) (o : Options) (mark : Mark) (retained : List Text) (fs : List FlagText) (text printed : Text) (answer : Tree) where
  -- what becomes of the text under the options that were read becomes of it under those that are asked for
  asked_for : retained ≡ retained_in args → fs ≡ flags_in args → Becomes fs mark o retained text answer → Becomes (flags_in args) mark o (retained_in args) text answer
  asked_for r f b = subst (λ x. Becomes x mark o (retained_in args) text answer) f (subst (λ x. Becomes fs mark o x text answer) r b)

  -- the order of the premises is that in which they determine the rest
  pub all_done : (left before after : Option (List ℕ)) → Becomes fs mark o retained text answer → IsPrinted answer printed → Appends before after printed → IfSome left (λ bytes. text ≡ bytes) → retained ≡ retained_in args → fs ≡ flags_in args → mark_number mark ≡ 1 → command_line args ≡ Some o → Done args left before after
  all_done left before after becomes is_printed written whole r f first asked = record {
    options = o;
    asked = asked;
    mark = mark;
    first_mark = first;
    text = text;
    whole = whole;
    answer = answer;
    becomes = asked_for r f becomes;
    printed = printed;
    is_printed = is_printed;
    written = written;
  }

-- what holds anyway holds of what is returned
pub anyway : {A E : Type 0} (r : Result A E) (X : Type 0) → X → IfOk r (λ _. X)
anyway (Ok x) X h = h
anyway (Err e) X h = tt

-- what is known of a value where nothing is refused, once another error takes the place of the one that there may be
pub of_value : {A E : Type 0} (F : Type 0) (r : Result A E) (y : A) (P : A → Type 0) → IfOk r P → MatchResult r (λ x. ◌≡◌ {A = Result A F} (Ok y) (Ok x)) (λ _. ⊥) → P y
of_value F (Ok x) y P h e = let same : x ≡ y = cc in subst P same h
of_value F (Err e) y P h b = absurd b
