-- What the pass answers.
use Rattle.std.specs.Prelude.{ℕ, ◌≡◌, Bool, true, List, [], is_some}
use Rattle.swc_ast.specs.Core.{IsCore}
use Rattle.swc_ast.specs.Resolved.{IsResolved}
use Rattle.swc_ast.specs.Tree.{Text, Tree}
use Rattle.swc_ast.specs.Valid as tree
use Rattle.swc_ast.specs.Views.{expr_tree}
use Rattle.swc_ast.specs.declared.expressions.Expr.{Expr}
use Rattle.swc_pass.specs.Constants.{Constants, items_of, unloaded, constants}
use Rattle.swc_pass.specs.Given.{SameGiven}
use Rattle.given_rules.specs.Givable.{AllGivable}
use Rattle.given_shield.specs.Shield.{shield}
use Rattle.given_rules.specs.Put.{here, put}
use Rattle.given_rules.specs.Worked.{finished, puts}
use Rattle.const_imports.specs.Faults.{Fault, faults}
use Rattle.const_imports.specs.Views.{constants_of}
use Rattle.const_imports.specs.declared.given.GivenModules.{GivenModules}

-- whether a module has an export
abbrev pub has_export : Constants → Text → Text → Bool
has_export k s m = is_some (k.export s m)

-- an answer on a module, by what is given
pub record Replaced (k : Constants) (t u : Tree) : Type 0 where
  -- it does what the module does in the world with answers
  pub same : (mark : ℕ) → SameGiven (constants k (items_of t)) mark (unloaded k t) u
  -- nothing in the module is to be refused
  pub faultless : faults k.is_given (has_export k) (items_of t) ≡ []
  -- what is valid, resolved or core stays so, where the values may be put
  pub valid : AllGivable (constants k (items_of t)) → tree.valid t ≡ true → tree.valid u ≡ true
  pub resolved : AllGivable (constants k (items_of t)) → (mark : ℕ) → IsResolved mark t → IsResolved mark u
  pub core : AllGivable (constants k (items_of t)) → IsCore t → IsCore u

-- an answer on a script does what the script does in the world with answers
abbrev pub SameInScript : Constants → Tree → Tree → Type 0
SameInScript k t u = (mark : ℕ) → SameGiven (constants k (items_of t)) mark t u

-- what is put in the places of a module; for private clauses
pub record IsPut (k : Constants) (t u : Tree) : Type 0 where
  pub faultless : faults k.is_given (has_export k) (items_of t) ≡ []
  pub is : u ≡ put (puts (constants k (items_of t)) shield (finished [])) here (unloaded k t)

-- what the modules that were read give, and what is wrong with a module by them
abbrev pub constants_in : GivenModules Expr → Constants
constants_in g = constants_of expr_tree g

abbrev pub faults_in : GivenModules Expr → Tree → List Fault
faults_in g t = faults (constants_in g).is_given (has_export (constants_in g)) (items_of t)
