-- What is proved of rewritten modules.
use Rattle.std.specs.Prelude.{ℕ, Bool, ◌≡◌}
use Rattle.swc_ast.specs.Tree.{Text, Tree, bare}
use Rattle.swc_ast.specs.Meaning.{eval}
use Rattle.swc_ast.specs.Run.{Same}
use Rattle.meaning_proofs.specs.Names.{Names}
use Rattle.meaning_proofs.specs.Exact.{Evaluation}
use Rattle.meaning_proofs.specs.Sameness.{ignoring, SameIn}
use Rattle.meaning_proofs.specs.Rewrites.{Related}

-- rewritten modules and scripts do the same
abbrev pub RewrittenIsSame : Type 0
RewrittenIsSame = (loads : Bool) (N : Names) (mark : ℕ) (t u : Tree) → Related N mark (eval mark) (ignoring loads) t u → Same mark loads t u

-- so they do where the first has an evaluation of its own, and some loads are ignored
abbrev pub RewrittenIsSameIn : Type 0
RewrittenIsSameIn = (N : Names) (mark : ℕ) (does : Evaluation) (ignores : Text → Bool) (t u : Tree) → Related N mark does ignores t u → SameIn does mark ignores t u

-- modules that differ in their spans alone do the same
abbrev pub SpansDoNotMatter : Type 0
SpansDoNotMatter = (mark : ℕ) (loads : Bool) (t u : Tree) → bare t ≡ bare u → Same mark loads t u

-- to do the same goes on from one module to the next
abbrev pub SameGoesOn : Type 0
SameGoesOn = (mark : ℕ) (loads : Bool) (t u v : Tree) → Same mark loads t u → Same mark loads u v → Same mark loads t v
