-- A pass behind its flags: what it does, by what the flags make of a module and what the pass makes of that.
use Rattle.std.proofs.Common.{Bool, List, subst}
use Rattle.swc_ast.specs.Marks.{mark_number}
use Rattle.swc_ast.specs.Run.{Same}
use Rattle.swc_ast.specs.Tree.{Tree}
use Rattle.swc_ast.specs.declared.names.Mark.{Mark}
use Rattle.swc_pass.specs.InFront.{InFront}
use Rattle.given_globals.specs.Globals.{answers_of}
use Rattle.shake_options.specs.Flags.{FlagText}
use Rattle.shake_given.specs.declared.given.GivenNames.{GivenNames}
use Rattle.shake_given.specs.Prepared.{Puts, no_names, put, Prepared, unflagged, flagged, SameNamed, in_plain, in_front, SameFlagged, same_unflagged, same_flagged}

module _ (law : InFront) (mark : Mark) (loads : Bool) where
  named : (g : GivenNames) (t u v : Tree) → Puts g mark t u → Same (mark_number mark) loads u v → SameNamed g mark loads t v
  named g t u v (no_names n e) s = in_plain n (subst (λ x. Same (mark_number mark) loads x v) e s)
  named g t u v (put c a i) s = in_front c a (law (answers_of c) (mark_number mark) loads t u v (i.same (mark_number mark)) s)

  pub behind_flags : (fs : List FlagText) (t u v : Tree) → Prepared fs mark t u → Same (mark_number mark) loads u v → SameFlagged fs mark loads t v
  behind_flags fs t u v (unflagged n e) s = same_unflagged n (subst (λ x. Same (mark_number mark) loads x v) e s)
  behind_flags fs t u v (flagged k) s = same_flagged (record { given = k.given; read = k.read; constant = k.constant; replaces = k.replaces; holds = named k.given.names k.constant u v k.holds s })
