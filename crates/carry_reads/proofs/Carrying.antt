-- What is carried of the names of declarators.
use Rattle.std.proofs.Common.{◌≡◌, Bool, true, false, not, ◌&&◌, ◌||◌, List, Option, Some, None, refl, sym, ap, ◌∙◌}
use Rattle.std.proofs.lemmas.Bool.{false≢true, true≢false, not-false, and_parts, or_parts}
use Rattle.std.specs.Prelude.{is_some, IsSome, option_map, option_and_then, if◌then◌else◌}
use Rattle.swc_ast.specs.declared.Span.{Span}
use Rattle.swc_ast.specs.Tree.{Name, same_name, Forest}
use Rattle.link_proofs.specs.Links.{Put, nothing, a_name, a_value}
use Rattle.carry_rules.specs.Carry as carry
use Rattle.carry_rules.specs.Carry.{Carried, or_put, put_unless, with_put, first_put}
use Rattle.static_proofs.proofs.Names.{same_name_path}
use Rattle.carry_parts.specs.Carries.{put_of, puts_of}
use Rattle.carry_parts.specs.declared.carry.Carry.{Carry}
use Rattle.carry_parts.specs.declared.carry.Carry.TheVariants as a
use Rattle.carry_tables.specs.Tables.{at}
use Rattle.carry_tables.specs.declared.table.NameTable.{NameTable}
use Rattle.carry_vars.specs.declared.vars.Vars.{Vars}
use Rattle.carry_reads.specs.States.{facts_of}
use Rattle.carry_reads.specs.Values.{value_from, named, Puts}
use Rattle.carry_reads.proofs.Readying.{steady_there, constant_there, variable_there}
use Rattle.carry_reads.proofs.Settling.{with_first, with_nothing}
use Rattle.carry_reads.proofs.Undoing.{named_alike}

-- what is carried is something

pub something : (c : Carry) → put_of c ≡ nothing → ⊥
something (a.Name n) e = cc
something (a.Num z) e = cc
something (a.Text t) e = cc
something (a.Truth b) e = cc
something a.Null e = cc
something a.Void e = cc

pub with_some : (y : Name) (o : Option Carry) (q : Put) (f : Name → Put) → is_some o ≡ true → puts_of o ≡ f y → (x : Name) → f x ≡ with_put y q f x
with_some y None q f e is = absurd (false≢true e)
with_some y (Some c) q f e is = with_first y c q f (sym is)

pub nothing_from : (o : Option Carry) (q : Put) → is_some o ≡ false → puts_of o ≡ q → nothing ≡ q
nothing_from None q e is = is
nothing_from (Some c) q e is = absurd (true≢false e)

-- one name of a table

pub puts_none : (u : NameTable (Option Carry)) (y : Name) (o : Option Carry) → is_some o ≡ false → Puts u u y (puts_of o)
puts_none u y None e = record { values = with_nothing y (value_from u); names = λ x. refl }
puts_none u y (Some c) e = absurd (true≢false e)

pub puts_again : (u : NameTable (Option Carry)) (y : Name) (o r : Option Carry) → is_some r ≡ true → puts_of r ≡ value_from u y → Puts u u y (puts_of o)
puts_again u y o r e is = record { values = with_some y r (puts_of o) (value_from u) e is; names = λ x. refl }

pub puts_first : (u w : NameTable (Option Carry)) (y : Name) (o r : Option Carry) → named u y ≡ true → is_some r ≡ false → puts_of r ≡ value_from u y → ((x : Name) → at w x ≡ option_map (λ t. if same_name y x then o else t) (at u x)) → Puts u w y (puts_of o)
puts_first u w y o r there e is made = record {
  values = λ x. ap (λ p. puts_of (option_and_then (λ t. t) p)) (made x) ∙ by x (same_name y x) refl;
  names = λ x. ap is_some (made x) ∙ named_alike (same_name y x) (at u x) o;
}
  where
    new : (p : Option (Option Carry)) → is_some p ≡ true → puts_of (option_and_then (λ t. t) (option_map (λ t. o) p)) ≡ puts_of o
    new None h = absurd (false≢true h)
    new (Some t) h = refl

    old : (p : Option (Option Carry)) → puts_of (option_and_then (λ t. t) (option_map (λ t. t) p)) ≡ puts_of (option_and_then (λ t. t) p)
    old None = refl
    old (Some t) = refl

    by : (x : Name) (b : Bool) → same_name y x ≡ b → puts_of (option_and_then (λ t. t) (option_map (λ t. if b then o else t) (at u x))) ≡ (if b then or_put (value_from u x) (puts_of o) else value_from u x)
    by x true h =
        let same : y ≡ x = same_name_path y x h in
        new (at u x) (ap (named u) (sym same) ∙ there) ∙ ap (λ p. or_put p (puts_of o)) (nothing_from r (value_from u y) e is ∙ ap (value_from u) same)
    by x false h = old (at u x)

-- something is carried only of names of which something is said

unless_some : (b : Bool) (q : Put) (c : Carry) → put_of c ≡ put_unless b q → b ≡ false
unless_some true q c e = absurd (something c e)
unless_some false q c e = refl

pub may_carry_there : (p : carry.Pass) (v : Vars) (x : Name) → carry.may_carry p (facts_of v) x ≡ true → is_some (at v.table x) ≡ true
may_carry_there carry.constants v x e = constant_there v x e
may_carry_there carry.inlines v x e = steady_there v x e

may_settle_there : (p o : carry.Pass) (v : Vars) (x : Name) → carry.may_settle o (facts_of v) p x ≡ true → is_some (at v.table x) ≡ true
may_settle_there carry.constants o v x e = absurd (false≢true e)
may_settle_there carry.inlines o v x e = variable_there v x e

pub entry_there : (p : carry.Pass) (v : Vars) (s : Carried) (x : Name) (ss : List Span) (cs : Forest) (c : Carry) → put_of c ≡ carry.entry p (facts_of v) s x ss cs → is_some (at v.table x) ≡ true
entry_there p v s x ss cs c e =
    let loud : (s.quiet || not (carry.may_carry p (facts_of v) x)) ≡ false = unless_some (s.quiet || not (carry.may_carry p (facts_of v) x)) (first_put p s ss cs) c e in
    may_carry_there p v x (not-false (carry.may_carry p (facts_of v) x) (or_parts s.quiet (not (carry.may_carry p (facts_of v) x)) loud).1)

pub settling_there : (p : carry.Pass) (v : Vars) (s : Carried) (x : Name) (ss : List Span) (cs : Forest) (c : Carry) → put_of c ≡ carry.settling p (facts_of v) s x ss cs → is_some (at v.table x) ≡ true
settling_there p v s x ss cs c e =
    let may : Bool = carry.may_settle p (facts_of v) p x in
    let loud : (s.quiet || not (s.listed && may)) ≡ false = unless_some (s.quiet || not (s.listed && may)) (first_put p s ss cs) c e in
    may_settle_there p p v x (and_parts s.listed may (not-false (s.listed && may) (or_parts s.quiet (not (s.listed && may)) loud).1)).1

pub some_entry_there : (p : carry.Pass) (v : Vars) (s : Carried) (x : Name) (ss : List Span) (cs : Forest) (o : Option Carry) → puts_of o ≡ carry.entry p (facts_of v) s x ss cs → IsSome o → is_some (at v.table x) ≡ true
some_entry_there p v s x ss cs None e h = absurd (false≢true h)
some_entry_there p v s x ss cs (Some c) e h = entry_there p v s x ss cs c e

-- what is carried from the start comes first
or_grouped : (a b c : Put) → or_put a (or_put b c) ≡ or_put (or_put a b) c
or_grouped nothing b c = refl
or_grouped (a_name x) b c = refl
or_grouped (a_value v) b c = refl

pub value_carried : (s f g : Name → Put) (y : Name) (q : Put) → ((x : Name) → g x ≡ with_put y q f x) → (x : Name) → or_put (s x) (g x) ≡ with_put y q (λ z. or_put (s z) (f z)) x
value_carried s f g y q made x = ap (or_put (s x)) (made x) ∙ by (same_name y x)
  where
    by : (b : Bool) → or_put (s x) (if b then or_put (f x) q else f x) ≡ (if b then or_put (or_put (s x) (f x)) q else or_put (s x) (f x))
    by true = or_grouped (s x) (f x) q
    by false = refl
