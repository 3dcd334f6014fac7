-- What names are, by what was told of them.
use Rattle.std.specs.Prelude.{◌≡◌, Bool, false, not, ◌&&◌, ◌||◌, List, Option, Some, None}
use Rattle.swc_ast.specs.Tree.{Name, Tree}
use Rattle.swc_ast.specs.Resolved.{is_default}
use Rattle.carry_rules.specs.Carry.{facts}
use Rattle.swc_names.specs.Names.{mentioned_in, distinct}
use Rattle.carry_tables.specs.Tables.{at}
use Rattle.carry_vars.specs.declared.tally.Tally.{Tally}
use Rattle.carry_vars.specs.declared.vars.Vars.{Vars}
use Rattle.carry_vars.specs.Counts.{is_zero, is_one}

-- the names of a tree
abbrev pub AreNamesOf : List Name → Tree → Type 0
AreNamesOf ns t = ns ≡ distinct (mentioned_in t)

abbrev pub told_steady : Name → Option Tally → Bool
told_steady x None = false
told_steady x (Some t) = not (is_default x) && (is_one t.declared && (is_zero t.written && (is_zero t.variable && is_zero t.imported)))

abbrev pub told_constant : Name → Option Tally → Bool
told_constant x None = false
told_constant x (Some t) = not (is_default x) && (is_one t.declared && is_one t.constant)

abbrev pub told_variable : Name → Option Tally → Bool
told_variable x None = false
told_variable x (Some t) = not (is_default x) && (is_one t.declared && (is_zero t.written && is_one t.variable))

abbrev pub told_unset : Name → Option Tally → Bool
told_unset x None = false
told_unset x (Some t) = not (is_default x) && (is_zero t.written && (not (is_zero t.unset) && (is_zero t.set && (is_one t.declared || is_zero t.lexical))))

abbrev pub steady_of : Vars → Name → Bool
steady_of v x = told_steady x (at v.table x)

abbrev pub constant_of : Vars → Name → Bool
constant_of v x = told_constant x (at v.table x)

abbrev pub variable_of : Vars → Name → Bool
variable_of v x = told_variable x (at v.table x)

abbrev pub unset_of : Vars → Name → Bool
unset_of v x = told_unset x (at v.table x)

-- facts that are those of a tree
pub record Tells (v : Vars) (t : Tree) : Type 0 where
  pub steady : (x : Name) → steady_of v x ≡ (facts t).steady x
  pub constant : (x : Name) → constant_of v x ≡ (facts t).constant x
  pub variable : (x : Name) → variable_of v x ≡ (facts t).variable x
  pub unset : (x : Name) → unset_of v x ≡ (facts t).unset x
