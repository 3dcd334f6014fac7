-- Facts that are noted one after another.
use Rattle.std.proofs.Common.{◌≡◌, Bool, true, false, ◌||◌, ◌&&◌, List, [], ◌++◌, refl, sym, ap, ◌∙◌}
use Rattle.swc_ast.specs.Tree.{Name}
use Rattle.swc_ast.specs.Scope.{has_name}
use Rattle.static_proofs.proofs.Names.{has_name_append}
use Rattle.dce_uses.specs.declared.tally.Fact.{Fact}
use Rattle.dce_uses.specs.declared.table.Table.{Table}
use Rattle.dce_uses.specs.Tables.{Extends, Notes, IsNumbered, fact_of}
use Rattle.dce_uses.proofs.Extending.{extends_itself, extends_more}

-- truth values

pub or_false : (a : Bool) → (a || false) ≡ a
or_false true = refl
or_false false = refl

pub or_grouped : (a b c : Bool) → ((a || b) || c) ≡ (a || (b || c))
or_grouped true b c = refl
or_grouped false b c = refl

pub or_true : (a : Bool) → (a || true) ≡ true
or_true true = refl
or_true false = refl

pub or_swap : (a b : Bool) → (a || b) ≡ (b || a)
or_swap true b = sym (or_true b)
or_swap false b = sym (or_false b)

pub and_false : (a : Bool) → (a && false) ≡ false
and_false true = refl
and_false false = refl

pub and_or : (a b c : Bool) → (a && (b || c)) ≡ ((a && b) || (a && c))
and_or true b c = refl
and_or false b c = refl

-- tables

-- nothing was noted
pub nothing : (u : Table) (more : Fact → Name → Bool) → ((f : Fact) (x : Name) → more f x ≡ false) → Notes u u more
nothing u more h = record { names = extends_itself u.names; numbered = λ k. k; facts = λ k f x. sym (ap (λ b. fact_of u f x || b) (h f x) ∙ or_false (fact_of u f x)) }

-- one thing after another
pub next : (u v w : Table) (a b : Fact → Name → Bool) → Notes u v a → Notes v w b → Notes u w (λ f x. a f x || b f x)
next u v w a b first second = record {
  names = extends_more u.names v.names w.names first.names second.names;
  numbered = λ k. second.numbered (first.numbered k);
  facts = λ k f x. second.facts (first.numbered k) f x ∙ ap (λ c. c || b f x) (first.facts k f x) ∙ or_grouped (fact_of u f x) (a f x) (b f x);
}

-- the same facts, said otherwise
pub said : (u v : Table) (a b : Fact → Name → Bool) → ((f : Fact) (x : Name) → a f x ≡ b f x) → Notes u v a → Notes u v b
said u v a b same h = record { names = h.names; numbered = h.numbered; facts = λ k f x. h.facts k f x ∙ ap (λ c. fact_of u f x || c) (same f x) }

-- facts that are noted one after another: what is left
pub record Going (u v : Table) (all left : Fact → Name → Bool) : Type 0 where
  pub names : Extends u.names v.names
  pub numbered : IsNumbered u → IsNumbered v
  pub facts : IsNumbered u → (f : Fact) (x : Name) → (fact_of v f x || left f x) ≡ (fact_of u f x || all f x)

pub begins : (u : Table) (all : Fact → Name → Bool) → Going u u all all
begins u all = record { names = extends_itself u.names; numbered = λ k. k; facts = λ k f x. refl }

pub goes_on : (u v w : Table) (all here rest left : Fact → Name → Bool) → ((f : Fact) (x : Name) → left f x ≡ (here f x || rest f x)) → Notes v w here → Going u v all left → Going u w all rest
goes_on u v w all here rest left split noted h = record {
  names = extends_more u.names v.names w.names h.names noted.names;
  numbered = λ k. noted.numbered (h.numbered k);
  facts = λ k f x.
      ap (λ b. b || rest f x) (noted.facts (h.numbered k) f x) ∙ or_grouped (fact_of v f x) (here f x) (rest f x)
      ∙ ap (λ b. fact_of v f x || b) (sym (split f x)) ∙ h.facts k f x;
}

pub ends : (u v : Table) (all left : Fact → Name → Bool) → ((f : Fact) (x : Name) → left f x ≡ false) → Going u v all left → Notes u v all
ends u v all left none h = record {
  names = h.names;
  numbered = h.numbered;
  facts = λ k f x. sym (ap (λ b. fact_of v f x || b) (none f x) ∙ or_false (fact_of v f x)) ∙ h.facts k f x;
}

-- names in a row

pub noted_apart : (g : Fact → Bool) (f : Fact) (x : Name) (xs ys : List Name) → (g f && has_name x (xs ++ ys)) ≡ ((g f && has_name x xs) || (g f && has_name x ys))
noted_apart g f x xs ys = ap (λ b. g f && b) (has_name_append x xs ys) ∙ and_or (g f) (has_name x xs) (has_name x ys)

pub none_named : (g : Fact → Bool) (f : Fact) (x : Name) (xs : List Name) → xs ≡ [] → (g f && has_name x xs) ≡ false
none_named g f x xs is = ap (λ ys. g f && has_name x ys) is ∙ and_false (g f)
