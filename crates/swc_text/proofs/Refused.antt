-- What a fault of a tree says of the tree.
use Rattle.std.proofs.Common.{◌≡◌, List, [], Option, Some, None, option_map, sym, ap, ◌∙◌, subst, true, Bool}
use Rattle.swc_ast.specs.Tree.{Name, Tree}
use Rattle.swc_ast.specs.Valid.{valid}
use Rattle.tree_captures.specs.Captured.{no_scope, captured}
use Rattle.tree_captures.specs.Views.{Tells}
use Rattle.tree_captures.specs.declared.captures.Fault.{Fault}
use Rattle.tree_captures.specs.declared.captures.Fault.TheVariants as fault
use Rattle.swc_text.specs.declared.error.PrintError.{PrintError}
use Rattle.swc_text.specs.declared.error.PrintError.TheVariants as print
use Rattle.swc_text.specs.Refused.{Says, Refuses}

-- a fault is told
refused_by : (t : Tree) (f : Fault) (e : PrintError) → Tells (captured no_scope t) (valid t) (Some f) → Says f e → Refuses t e
refused_by t (fault.Captured n) (print.Captured name) h is = ap (option_map (λ x. x.text)) h ∙ ap Some (sym is)
refused_by t (fault.Captured n) print.Invalid h is = absurd is
refused_by t (fault.Captured n) print.OutOfMemory h is = tt
refused_by t fault.Invalid (print.Captured name) h is = absurd is
refused_by t fault.Invalid print.Invalid h is = h
refused_by t fault.Invalid print.OutOfMemory h is = tt

pub refused : (t : Tree) (o : Option Fault) (f : Fault) (e : PrintError) → Tells (captured no_scope t) (valid t) o → o ≡ Some f → Says f e → Refuses t e
refused t o f e h is said = refused_by t f e (subst (Tells (captured no_scope t) (valid t)) is h) said

-- there is no fault
pub uncaptured : (xs : List Name) (v : Bool) (o : Option Fault) → Tells xs v o → o ≡ None → xs ≡ []
uncaptured xs v o h is = (subst (Tells xs v) is h).0

pub sound : (xs : List Name) (v : Bool) (o : Option Fault) → Tells xs v o → o ≡ None → v ≡ true
sound xs v o h is = (subst (Tells xs v) is h).1
