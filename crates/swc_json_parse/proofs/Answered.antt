-- What the pass answers, by what the walk made.
use Rattle.std.proofs.Common.{◌≡◌, ℕ, Bool, true, Option, Some, None, Result, Ok, Err, IfOk, OnOk, sym, ap, subst, ◌∙◌}
use Rattle.swc_ast.specs.Core.{IsCore}
use Rattle.swc_ast.specs.Resolved.{IsResolved}
use Rattle.swc_ast.specs.Tree.{Tree}
use Rattle.swc_ast.specs.Valid.{valid}
use Rattle.swc_pass.specs.Chain.{GivesBack, input, other}
use Rattle.swc_pass.specs.Pass.{SameBare}
use Rattle.tree_put.specs.Still.{still}
use Rattle.tree_put.specs.Walks.{Makes}
use Rattle.tree_put.specs.declared.rules.Spot.TheVariants.{Here}
use Rattle.swc_json_parse.specs.Answers.{Parsed, WalkGives}
use Rattle.swc_json_parse.specs.Parsing.{parsed}
use Rattle.swc_json_parse.specs.Quick.{quick}
use Rattle.swc_json_parse.proofs.Keeping.{parsed_valid, parsed_resolved, parsed_core}
use Rattle.swc_json_parse.proofs.QuickSame.{quick_parses}

-- what the walk makes
pub walk_parses : (least after : ℕ) (t u : Tree) → Makes (still quick) t least Here u after → u ≡ parsed least t
walk_parses least after t u h = sym (ap (λ r. r.0) h.is) ∙ quick_parses least t

-- a tree that differs from the input
pub other_parsed : (least : ℕ) (t u : Tree) → u ≡ parsed least t → (SameBare t (parsed least t) → ⊥) → Parsed least t u
other_parsed least t u is differs = record {
  gives = subst (λ k. GivesBack t (parsed least t) k) (sym is) (other differs);
  valid = λ h. subst (λ k. valid k ≡ true) (sym is) (parsed_valid least t h);
  resolved = λ mark h. subst (λ k. IsResolved mark k) (sym is) (parsed_resolved least mark t h);
  core = λ h. subst (λ k. IsCore k) (sym is) (parsed_core least t h);
}

-- the input
pub input_parsed : (least : ℕ) (t u : Tree) → u ≡ t → SameBare t (parsed least t) → Parsed least t u
input_parsed least t u is same = record {
  gives = subst (λ k. GivesBack t (parsed least t) k) (sym is) (input same);
  valid = λ h. subst (λ k. valid k ≡ true) (sym is) h;
  resolved = λ mark h. subst (λ k. IsResolved mark k) (sym is) h;
  core = λ h. subst (λ k. IsCore k) (sym is) h;
}

-- the same by what a walk gives
pub some_parsed : {W : Type 0} (f : W → Tree) (least : ℕ) (t : Tree) (o : Option W) (w : W) (b : Bool) → WalkGives f (parsed least t) t o b → o ≡ Some w → Parsed least t (f w)
some_parsed f least t o w b h is = let g : WalkGives f (parsed least t) t (Some w) b = subst (λ q. WalkGives f (parsed least t) t q b) is h in other_parsed least t (f w) g.0 g.1

pub none_parsed : {W : Type 0} (f : W → Tree) (least : ℕ) (t u : Tree) (o : Option W) (b : Bool) → WalkGives f (parsed least t) t o b → o ≡ None → u ≡ t → Parsed least t u
none_parsed f least t u o b h none is = let g : WalkGives f (parsed least t) t None b = subst (λ q. WalkGives f (parsed least t) t q b) none h in input_parsed least t u is g.0

-- what a call of the walk makes
pub walked : {A E : Type 0} (r : Result A E) (least after : ℕ) (t u : Tree) → IfOk r (λ x. Makes (still quick) t least Here u after) → OnOk r (u ≡ parsed least t)
walked (Ok x) least after t u h = walk_parses least after t u h
walked (Err e) least after t u h = h
