-- What one walk over a tree asks: the targets of jumps, parameters apart, what scopes bind, and, where the core is asked for, validity and
-- what the core asks of each node.
use Rattle.std.specs.Prelude.{ℕ, ◌≡◌, Bool, true, false, ◌&&◌, if◌then◌else◌}
use Rattle.swc_ast.specs.Tree.{Name, Label, Tree, Forest}
use Rattle.swc_ast.specs.Core.{numbers_fit}
use Rattle.swc_ast.specs.Resolved.{Targets, jump_is_aimed, aimed, aimed_all, apart, apart_all, IsResolved}
use Rattle.swc_ast.specs.Valid.{good_names, good_shape, valid, valid_all}
use Rattle.swc_resolved.specs.Here.{named_once, core_here, all_core_here}
use Rattle.swc_resolved.specs.Scopes.{own_apart, Binds}

-- a node is as validity wants it and its number is in range, where this is asked for; children aside
abbrev pub own_fit : Bool → Label → Forest → Bool
own_fit core_too l cs = if core_too then (good_names l && good_shape l cs) && numbers_fit l else true

-- the scope that a node opens declares no name twice, where this is asked for
abbrev pub own_named : Bool → Label → Forest → Bool
own_named core_too l cs = if core_too then named_once l cs else true

-- a node that is a jump has a target, and so on; children and the names of its scope aside
abbrev pub own_good : Bool → Targets → Label → Forest → Bool
own_good core_too g l cs = own_fit core_too l cs && (jump_is_aimed l g && own_apart l cs)

-- each node of a tree is as validity and the core want it, where this is asked for
abbrev pub fit : Bool → Tree → Bool
fit core_too t = if core_too then valid t && core_here t else true

-- the same of each node of a tree
abbrev pub good : Bool → Targets → Tree → Bool
good core_too g t = fit core_too t && (aimed g t && apart t)

abbrev pub good_all : Bool → Targets → Forest → Bool
good_all core_too g ts = (if core_too then valid_all ts && all_core_here ts else true) && (aimed_all g ts && apart_all ts)

-- All is good and scopes are bound; or, if all is good, one of them binds a name a second time.
abbrev pub Passes : Bool → Bool → (Name → Bool) → (Name → Bool) → (Name → ℕ) → Type 0
Passes true all old new more = (all ≡ true) × Binds true old new more
Passes false all old new more = all ≡ true → Binds false old new more

-- a tree that is resolved for a mark, and valid and core node by node where this is asked for
abbrev pub IsAsked : Bool → ℕ → Tree → Type 0
IsAsked true mark t = ((valid t && core_here t) ≡ true) × IsResolved mark t
IsAsked false mark t = IsResolved mark t
