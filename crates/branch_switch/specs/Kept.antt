-- Which statements stay where they are taken out of a `switch`: those up to the first direct stopper, without a `break`, and
-- functions behind it. The truth value says whether a stopper stands in front.
use Rattle.std.specs.Prelude.{Bool, true, false, not, ◌&&◌, ◌||◌, if◌then◌else◌, List, [], ◌∷◌}
use Rattle.swc_ast.specs.Tree.{FnDecl, Tree, node, Forest, ε, ◌⊳◌}
use Rattle.swc_ast.specs.Scope.{joined}
use Rattle.swc_ast.specs.Weight.{is_stopper}
use Rattle.branch_rules.specs.Jumps.{escapes}
use Rattle.branch_rules.specs.Statements.{is_plain}
use Rattle.branch_rules.specs.Switches.{Clause, breaking, is_break}

-- a function declaration
abbrev pub declares_function : Tree → Bool
declares_function (node (FnDecl x) ss cs) = true
declares_function _ = false

-- whether a stopper stands in front of what follows a statement
abbrev pub stopped_by : Bool → Tree → Bool
stopped_by stopped t = stopped || is_stopper t

-- the same of some statements
abbrev pub stopped_by_all : Bool → Forest → Bool
stopped_by_all stopped ε = stopped
stopped_by_all stopped (t ⊳ ts) = stopped_by_all (stopped_by stopped t) ts

-- whether a statement stays
abbrev pub stays : Bool → Tree → Bool
stays stopped t = if stopped then declares_function t else not (is_break t)

-- whether it goes and is not run anyway; a `break` goes too, but it is run
abbrev pub goes : Bool → Tree → Bool
goes stopped t = stopped && not (declares_function t)

-- a statement where a test says so
abbrev pub only_if : Bool → Tree → Forest
only_if b t = if b then t ⊳ ε else ε

-- what stays of some statements
abbrev pub kept : Bool → Forest → Forest
kept stopped ε = ε
kept stopped (t ⊳ ts) = joined (only_if (stays stopped t) t) (kept (stopped_by stopped t) ts)

-- what goes of them
abbrev pub gone : Bool → Forest → Forest
gone stopped ε = ε
gone stopped (t ⊳ ts) = joined (only_if (goes stopped t) t) (gone (stopped_by stopped t) ts)

-- a statement that may be taken out: no `break` in it leaves the `switch`, and where it isn't reached, it stays or declares nothing
abbrev pub fits : Bool → Tree → Bool
fits stopped t = if stopped then declares_function t || is_plain t else is_break t || not (escapes breaking t)

-- the same of each of some statements
abbrev pub all_fit : Bool → Forest → Bool
all_fit stopped ε = true
all_fit stopped (t ⊳ ts) = fits stopped t && all_fit (stopped_by stopped t) ts

-- the same of the statements of cases
abbrev pub bodies_fit : Bool → List Clause → Bool
bodies_fit stopped [] = true
bodies_fit stopped (k ∷ ks) = all_fit stopped k.body && bodies_fit (stopped_by_all stopped k.body) ks

-- nothing goes
abbrev pub none_goes : Bool → Forest → Bool
none_goes stopped ε = true
none_goes stopped (t ⊳ ts) = not (goes stopped t) && none_goes (stopped_by stopped t) ts
