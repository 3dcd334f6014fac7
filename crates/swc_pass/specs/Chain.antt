-- What two passes, one after the other, may answer.
use Rattle.std.specs.Prelude.{◌≡◌, ◌&&◌, Bool, Option, Some, None}
use Rattle.swc_ast.specs.declared.names.Mark.{Mark}
use Rattle.swc_ast.specs.Marks.{mark_number}
use Rattle.swc_ast.specs.Tree.{Tree}
use Rattle.swc_pass.specs.Pass.{PassSpec, SameBare, TellsChange}

-- they are no different marks
abbrev pub MarksAgree : Option Mark → Option Mark → Type 0
MarksAgree m n = (a b : Mark) → m ≡ Some a → n ≡ Some b → mark_number a ≡ mark_number b

abbrev pub first_mark : Option Mark → Option Mark → Option Mark
first_mark None n = n
first_mark (Some m) n = Some m

-- what is answered where t was made into u: t itself where the two are equal up to spans
pub data GivesBack (t u : Tree) : Tree → Type 0 where
  input : SameBare t u → GivesBack t u t
  other : (SameBare t u → ⊥) → GivesBack t u u

-- an answer of the second on an answer of the first
pub record Chained (p q : PassSpec) (t u : Tree) : Type 0 where
  pub between : Tree
  pub last : Tree
  pub first_answers : p.answers t between
  pub second_answers : q.answers between last
  pub gives : GivesBack t last u

-- a run of both, each telling whether it changed something
pub record InRow (p q : PassSpec) (c d : Bool) (t u : Tree) : Type 0 where
  pub between : Tree
  pub first_answers : p.answers t between
  pub first_tells : TellsChange c t between
  pub second_answers : q.answers between u
  pub second_tells : TellsChange d between u

abbrev pub chained : PassSpec → PassSpec → PassSpec
chained p q = record { mark = first_mark p.mark q.mark; loads = p.loads && q.loads; lowers = p.lowers && q.lowers; answers = Chained p q }
