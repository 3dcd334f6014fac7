-- Names that are made ready.
use Rattle.std.proofs.Common.{◌≡◌, ℕ, Bool, true, false, ◌&&◌, ◌||◌, Option, Some, None, refl, sym, ap, ◌∙◌}
use Rattle.std.proofs.lemmas.Bool.{false≢true}
use Rattle.std.specs.Prelude.{is_some, option_map, if◌then◌else◌}
use Rattle.swc_ast.specs.Tree.{Name, same_name}
use Rattle.static_proofs.proofs.Names.{same_name_path, same_name_swap}
use Rattle.carry_tables.specs.Tables.{at, item_of, Keeps}
use Rattle.carry_tables.specs.declared.scoped.Scoped.{Scoped}
use Rattle.carry_vars.specs.Facts.{told_steady, told_constant, told_variable, steady_of, constant_of, variable_of}
use Rattle.carry_vars.specs.declared.tally.Tally.{Tally}
use Rattle.carry_vars.specs.declared.vars.Vars.{Vars}
use Rattle.carry_reads.specs.Fronts.{is_set, ready_of, Covers, names_in, Adds}
use Rattle.carry_reads.proofs.Undoing.{keeps_itself, keeps_on, changed_names}

-- names of which something is said
pub steady_there : (v : Vars) (x : Name) → steady_of v x ≡ true → is_some (at v.table x) ≡ true
steady_there v x = by (at v.table x)
  where
    by : (o : Option Tally) → told_steady x o ≡ true → is_some o ≡ true
    by None e = absurd (false≢true e)
    by (Some t) e = refl

pub constant_there : (v : Vars) (x : Name) → constant_of v x ≡ true → is_some (at v.table x) ≡ true
constant_there v x = by (at v.table x)
  where
    by : (o : Option Tally) → told_constant x o ≡ true → is_some o ≡ true
    by None e = absurd (false≢true e)
    by (Some t) e = refl

pub variable_there : (v : Vars) (x : Name) → variable_of v x ≡ true → is_some (at v.table x) ≡ true
variable_there v x = by (at v.table x)
  where
    by : (o : Option Tally) → told_variable x o ≡ true → is_some o ≡ true
    by None e = absurd (false≢true e)
    by (Some t) e = refl

pub or_none : (a : Bool) → a ≡ (a || false)
or_none true = refl
or_none false = refl

or_grouped : (a b c : Bool) → ((a || b) || c) ≡ (a || (b || c))
or_grouped true b c = refl
or_grouped false b c = refl

either_steady : (a b c : Bool) → ((a && c) || (b && c)) ≡ ((a || b) && c)
either_steady true true true = refl
either_steady true true false = refl
either_steady true false true = refl
either_steady true false false = refl
either_steady false b c = refl

-- no name
pub adds_none : (v : Vars) (u : Scoped) (more : Name → Bool) → ((x : Name) → more x ≡ false) → Adds v u u more
adds_none v u more none = record {
  ready = λ x. or_none (ready_of u x) ∙ ap (λ b. ready_of u x || (b && steady_of v x)) (sym (none x));
  keeps = keeps_itself u;
  names = λ x. refl;
}

pub adds_as : {v : Vars} {u w : Scoped} {more most : Name → Bool} → ((x : Name) → more x ≡ most x) → Adds v u w more → Adds v u w most
adds_as {v} {u} {w} {more} {most} same a = record {
  ready = λ x. a.ready x ∙ ap (λ b. ready_of u x || (b && steady_of v x)) (same x);
  keeps = a.keeps;
  names = a.names;
}

-- one steady name
pub one_added : (v : Vars) (u w : Scoped) (y : Name) → Covers v (names_in u) → steady_of v y ≡ true → ((x : Name) → item_of w x ≡ option_map (λ t. if same_name y x then 1 else t) (item_of u x)) → Keeps u w → Adds v u w (λ x. same_name x y)
one_added v u w y covers steady made keeps = record {
  ready = λ x. ap is_set (made x) ∙ by x (same_name y x) refl ∙ ap (λ b. ready_of u x || (b && steady_of v x)) (same_name_swap y x);
  keeps = keeps;
  names = changed_names u w y 1 made;
}
  where
    set : (o : Option ℕ) → is_some o ≡ true → is_set (option_map (λ t. 1) o) ≡ true
    set None e = absurd (false≢true e)
    set (Some t) e = refl

    stays : (o : Option ℕ) → is_set (option_map (λ t. t) o) ≡ is_set o
    stays None = refl
    stays (Some t) = refl

    true_or : (a b : Bool) → b ≡ true → true ≡ (a || b)
    true_or true b e = refl
    true_or false b e = sym e

    by : (x : Name) (b : Bool) → same_name y x ≡ b → is_set (option_map (λ t. if b then 1 else t) (item_of u x)) ≡ (ready_of u x || (b && steady_of v x))
    by x true e =
        let is : y ≡ x = same_name_path y x e in let told : steady_of v x ≡ true = ap (steady_of v) (sym is) ∙ steady in
        set (item_of u x) (covers x (steady_there v x told)) ∙ true_or (ready_of u x) (steady_of v x) told
    by x false e = stays (item_of u x) ∙ or_none (ready_of u x)

-- one name that isn't steady
pub none_added : (v : Vars) (u : Scoped) (y : Name) → steady_of v y ≡ false → Adds v u u (λ x. same_name x y)
none_added v u y steady = record { ready = λ x. or_none (ready_of u x) ∙ ap (λ b. ready_of u x || b) (sym (by x (same_name x y) refl)); keeps = keeps_itself u; names = λ x. refl }
  where
    by : (x : Name) (b : Bool) → same_name x y ≡ b → (b && steady_of v x) ≡ false
    by x true e = ap (steady_of v) (same_name_path x y e) ∙ steady
    by x false e = refl

-- names that are made ready one after another: those that are left, and all
pub record Adding (v : Vars) (u w : Scoped) (left whole : Name → Bool) : Type 0 where
  pub ready : (x : Name) → (ready_of w x || (left x && steady_of v x)) ≡ (ready_of u x || (whole x && steady_of v x))
  pub keeps : Keeps u w
  pub names : (x : Name) → names_in w x ≡ names_in u x

pub adding_first : (v : Vars) (u : Scoped) (whole : Name → Bool) → Adding v u u whole whole
adding_first v u whole = record { ready = λ x. refl; keeps = keeps_itself u; names = λ x. refl }

pub adding_next : {v : Vars} {u w z : Scoped} {left rest whole more : Name → Bool} → ((x : Name) → (more x || rest x) ≡ left x) → Adding v u w left whole → Adds v w z more → Adding v u z rest whole
adding_next {v} {u} {w} {z} {left} {rest} {whole} {more} split g a = record {
  ready = λ x. ap (λ b. b || (rest x && steady_of v x)) (a.ready x)
      ∙ or_grouped (ready_of w x) (more x && steady_of v x) (rest x && steady_of v x)
      ∙ ap (λ b. ready_of w x || b) (either_steady (more x) (rest x) (steady_of v x) ∙ ap (λ b. b && steady_of v x) (split x))
      ∙ g.ready x;
  keeps = keeps_on g.keeps a.keeps;
  names = λ x. a.names x ∙ g.names x;
}

pub adding_last : {v : Vars} {u w : Scoped} {left whole : Name → Bool} → ((x : Name) → left x ≡ false) → Adding v u w left whole → Adds v u w whole
adding_last {v} {u} {w} {left} {whole} none g = record {
  ready = λ x. or_none (ready_of w x) ∙ ap (λ b. ready_of w x || (b && steady_of v x)) (sym (none x)) ∙ g.ready x;
  keeps = g.keeps;
  names = g.names;
}

pub adding_covers : {v : Vars} {u w : Scoped} {left whole : Name → Bool} → Covers v (names_in u) → Adding v u w left whole → Covers v (names_in w)
adding_covers c g x i = g.names x ∙ c x i
