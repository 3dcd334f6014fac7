-- What is seen of a name or a literal.
use Rattle.std.proofs.Common.{◌≡◌, Bool, true, false, ◌&&◌, [], ◌∷◌, ◌++◌, Option, Some, None, is_some, sym, ap, ◌∙◌}
use Rattle.std.proofs.lemmas.Bool.{false≢true}
use Rattle.std.proofs.Math.Bool.{and-true}
use Rattle.std.specs.Borrow.{Bor}
use Rattle.std.specs.Prelude.{if◌then◌else◌}
use Rattle.swc_ast.specs.Parts.{ident_name, ident_tree, lit_tree}
use Rattle.swc_ast.specs.Tree.{Name, Read}
use Rattle.swc_ast.specs.Valid.{good_names, valid}
use Rattle.swc_ast.specs.declared.literals.Lit.{Lit}
use Rattle.swc_ast.specs.declared.literals.Lit.TheVariants as lit
use Rattle.swc_ast.specs.declared.names.Ident.{Ident}
use Rattle.tree_captures.specs.Captured.{Scopes, Sound, if_captured, captured, first_of, seen}
use Rattle.tree_captures.specs.Views.{told, sight_of}
use Rattle.tree_captures.proofs.First.{if_some}

-- a name is captured, or not
by_capture : (b : Bool) (o : Option (Bor Ident)) (x : Name) (v w : Bool) → told o ≡ first_of (if b then x ∷ [] else []) → v ≡ w → sight_of o v ≡ seen ((if b then x ∷ [] else []) ++ []) w
by_capture true None x v w h same = absurd (false≢true (ap is_some h))
by_capture true (Some n) x v w h same = ap if_some h
by_capture false None x v w h same = ap Sound same
by_capture false (Some n) x v w h same = absurd (false≢true (sym (ap is_some h)))

pub name_sight : (e : Scopes) (o : Option (Bor Ident)) (n : Ident) (v g : Bool) → told o ≡ first_of (if_captured e (Some (ident_name n))) → g ≡ good_names (Read (ident_name n)) → sight_of o (v && g) ≡ seen (captured e (ident_tree n)) (v && valid (ident_tree n))
name_sight e o n v g h is = by_capture (e (ident_name n)) o (ident_name n) (v && g) (v && valid (ident_tree n)) h (ap (λ b. v && b) (is ∙ sym (and-true (good_names (Read (ident_name n)) && true) ∙ and-true (good_names (Read (ident_name n))))))

pub literal_sight : (e : Scopes) (l : Lit) (v : Bool) → sight_of None v ≡ seen (captured e (lit_tree l)) (v && valid (lit_tree l))
literal_sight e (lit.Str n) v = ap Sound (sym (and-true v))
literal_sight e (lit.Bool n) v = ap Sound (sym (and-true v))
literal_sight e (lit.Null n) v = ap Sound (sym (and-true v))
literal_sight e (lit.Num n) v = ap Sound (sym (and-true v))
