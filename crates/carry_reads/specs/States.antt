-- What is carried, as tables have it.
use Rattle.std.specs.Prelude.{◌≡◌, ℕ, Bool, true, false, ◌&&◌, ◌||◌, if◌then◌else◌, List, [], ◌∷◌, None, option_map, position}
use Rattle.swc_ast.specs.Scope.{is_function}
use Rattle.swc_ast.specs.Tree.{Name, same_name, Label}
use Rattle.link_proofs.specs.Links.{Put}
use Rattle.carry_rules.specs.Carry as carry
use Rattle.carry_rules.specs.Carry.{Facts, Carried, or_put, starting, is_declaring, lists, is_exempt}
use Rattle.carry_parts.specs.Carries.{pass_of}
use Rattle.carry_tables.specs.Tables.{at, item_of, Keeps, Rewinds}
use Rattle.carry_tables.specs.declared.scoped.Scoped.{Scoped}
use Rattle.carry_vars.specs.Facts.{steady_of, constant_of, variable_of, unset_of}
use Rattle.carry_vars.specs.declared.vars.Vars.{Vars}
use Rattle.carry_reads.specs.declared.place.Place.{Place}
use Rattle.carry_reads.specs.declared.reader.Reader.{Reader}
use Rattle.carry_reads.specs.declared.tables.Mark.{Mark}
use Rattle.carry_reads.specs.declared.tables.Tables.{Tables}
use Rattle.carry_reads.specs.Fronts.{ready_of, names_in, Covers}
use Rattle.carry_reads.specs.Values.{value_from, named}
use Rattle.carry_reads.specs.Settles.{settled_of, Within, Grows}

-- what a reader is told of names
abbrev pub facts_of : Vars → Facts
facts_of v = record { steady = steady_of v; constant = constant_of v; variable = variable_of v; unset = unset_of v }

-- what is carried of a name of `let` or `const`, or from the start
abbrev pub value_at : Reader → Tables → Name → Put
value_at r u x = or_put ((starting (pass_of r.pass) (facts_of r.vars)).values x) (value_from u.values x)

-- what is carried at a place
abbrev pub state_of : Reader → Tables → Place → Carried
state_of r u q = record {
  values = value_at r u;
  settled = settled_of u.settled q.base;
  ready = ready_of u.ready;
  dummy = q.dummy;
  listed = q.listed;
  quiet = q.quiet;
}

-- the place below a node
abbrev pub below_of : carry.Pass → Label → Bool → ℕ → Place → Place
below_of p l nowhere next q = record {
  base = if is_function l then next else q.base;
  dummy = nowhere || (is_declaring l && q.dummy);
  listed = lists l q.listed;
  quiet = q.quiet || is_exempt p l;
}

-- tables that can be changed for each name of which something is said
pub record Fits (v : Vars) (u : Tables) : Type 0 where
  pub values : Covers v (named u.values)
  pub settled : Covers v (names_in u.settled.numbers)
  pub ready : Covers v (names_in u.ready)
  pub within : Within u.settled

-- what is carried goes on to be known
pub record Grown (u v : Tables) : Type 0 where
  pub values : (x : Name) → named v.values x ≡ named u.values x
  pub settled : Grows u.settled v.settled
  pub ready : Keeps u.ready v.ready
  pub names : (x : Name) → names_in v.ready x ≡ names_in u.ready x

-- a table that stays, or else becomes what it was
pub record Rewound (stays : Bool) (h : ℕ) (u v : Scoped) : Type 0 where
  pub kept : stays ≡ true → v ≡ u
  pub undone : stays ≡ false → Rewinds h u v

-- what ends with a node is forgotten
pub record Leaves (settled names : Bool) (m : Mark) (u v : Tables) : Type 0 where
  pub values : v.values ≡ u.values
  pub carries : v.settled.carries ≡ u.settled.carries
  pub numbers : Rewound settled m.settled u.settled.numbers v.settled.numbers
  pub ready : Rewound names m.ready u.ready v.ready

-- nothing is carried
pub record IsNew (ns : List Name) (u : Tables) : Type 0 where
  pub values : (x : Name) → at u.values x ≡ option_map (λ n. None) (position (same_name x) ns)
  pub numbers : (x : Name) → item_of u.settled.numbers x ≡ option_map (λ n. 0) (position (same_name x) ns)
  pub carries : u.settled.carries.items ≡ None ∷ []
  pub ready : (x : Name) → item_of u.ready x ≡ option_map (λ n. 0) (position (same_name x) ns)
