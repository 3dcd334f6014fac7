-- What is known where a tree is walked, and lists of declarations.
use Rattle.std.proofs.Common.{◌≡◌, ◌≤◌, Bool, true, false, ◌&&◌, ◌||◌, List, [], ◌∷◌, Option, Some, None, refl, sym, ap, ap₂, subst, arith, ◌⊎◌, inl, inr}
use Rattle.std.proofs.lemmas.Bool.{and_parts, and_from, or_cases, or_left, or_right, false≢true}
use Rattle.swc_ast.specs.declared.Span.{Span}
use Rattle.swc_ast.specs.declared.VarDeclKind.TheVariants.{Var, Let, Const}
use Rattle.swc_ast.specs.Tree.{Name, Label, Fn, Param, Assign, Update, Try, Declarator, FnDecl, ImportNamed, ImportDefault, ImportStar, ExportDefaultFn, Tree, node, Forest, ε, ◌⊳◌}
use Rattle.swc_ast.specs.Value.{Value, Undefined}
use Rattle.swc_ast.specs.Scope.{default_name}
use Rattle.swc_ast.specs.Resolved.{scopes, scopes_all}
use Rattle.swc_ast.specs.Valid.{valid, valid_all}
use Rattle.static_proofs.specs.Shaped.{is_shaped, are_shaped}
use Rattle.link_proofs.specs.Links.{Links, Put, nothing, a_name, a_value, put_linked, Ground, Splits, is_group}
use Rattle.carry_rules.specs.Carry.{Pass, Facts, declares, declares_lexical, one, how_many, how_many_in, Carried, or_put, entry, settling, enter, leave, after, after_all, marks, marks_all}

abbrev pub link_of : Put → Option Name
link_of nothing = None
link_of (a_name x) = Some x
link_of (a_value v) = None

abbrev pub known_of : Put → Option Value
known_of nothing = None
known_of (a_name x) = None
known_of (a_value v) = Some v

abbrev pub is_marked : List Span → Bool
is_marked [] = false
is_marked (s ∷ ss) = true

abbrev pub fixed : Facts → Name → Bool
fixed F x = F.steady x || F.constant x

-- what is carried in the end: of names of `let` and `const` and of names that are never set, and of variables along their lists
pub record Last : Type 0 where
  pub values : Name → Put
  pub settled : Name → Put
  -- names that are never set
  pub idle : Name → Bool

-- what is put in the end, as links
abbrev pub links : Facts → Last → Links
links F E = record { link = λ y. link_of (E.values y); known = λ y. known_of (E.values y); fixed = λ y. fixed F y || E.idle y; constant = F.constant; settles = E.settled; still = F.variable; marked = is_marked }

pub put_is : (q r : Put) → put_linked (link_of q) (known_of q) r ≡ or_put q r
put_is nothing r = refl
put_is (a_name x) r = refl
put_is (a_value v) r = refl

pub linked : (q : Put) (x : Name) → link_of q ≡ Some x → q ≡ a_name x
linked nothing x e = absurd (cc)
linked (a_name y) x e = cc
linked (a_value v) x e = absurd (cc)

pub knows : (q : Put) (v : Value) → known_of q ≡ Some v → q ≡ a_value v
knows nothing x e = absurd (cc)
knows (a_name y) x e = absurd (cc)
knows (a_value v) x e = cc

pub nothing≢name : (x : Name) → nothing ≡ a_name x → ⊥
nothing≢name x e = cc

pub nothing≢value : (v : Value) → nothing ≡ a_value v → ⊥
nothing≢value v e = cc

-- names of `let` and `const` that a declaration shows to the list in which it stands
abbrev mutual
  pub waits_in : Tree → Name → Bool
  waits_in (node l ss cs) x = declares_lexical x l || (is_group l && waits_all cs x)

  pub waits_all : Forest → Name → Bool
  waits_all ε x = false
  waits_all (t ⊳ ts) x = waits_in t x || waits_all ts x

module _ (p : Pass) (F : Facts) where
  mutual
    pub waits_same : (s : Carried) (t : Tree) (x : Name) → waits_in (marks p F s t) x ≡ waits_in t x
    waits_same s (node l ss cs) x = ap (λ b. declares_lexical x l || (is_group l && b)) (waits_all_same (enter p F l ss cs s) cs x)

    pub waits_all_same : (s : Carried) (ts : Forest) (x : Name) → waits_all (marks_all p F s ts) x ≡ waits_all ts x
    waits_all_same s ε x = refl
    waits_all_same s (t ⊳ ts) x = ap₂ ◌||◌ (waits_same s t x) (waits_all_same (after p F s t) ts x)

abbrev pub declares_at : Name → Label → Forest → Bool
declares_at x l cs = declares x l

-- what waits is declared
lexical_declares : (x : Name) (l : Label) → declares_lexical x l ≡ true → 1 ≤ one (declares x l)
lexical_declares x l e = subst (λ b. 1 ≤ one b) (sym (or_left (declares_lexical x l) _ e)) (omega arith)

mutual
  pub waits_counted : (t : Tree) (x : Name) → waits_in t x ≡ true → 1 ≤ how_many (declares_at x) t
  waits_counted (node l ss cs) x e = by (or_cases (declares_lexical x l) (is_group l && waits_all cs x) e) (λ f. waits_all_counted cs x f)
    where
      by : (declares_lexical x l ≡ true) ⊎ ((is_group l && waits_all cs x) ≡ true) → (waits_all cs x ≡ true → 1 ≤ how_many_in (declares_at x) cs) → 1 ≤ how_many (declares_at x) (node l ss cs)
      by (inl f) g = omega (arith, lexical_declares x l f)
      by (inr f) g = omega (arith, g (and_parts (is_group l) (waits_all cs x) f).1)

  pub waits_all_counted : (ts : Forest) (x : Name) → waits_all ts x ≡ true → 1 ≤ how_many_in (declares_at x) ts
  waits_all_counted ε x e = absurd (false≢true e)
  waits_all_counted (t ⊳ ts) x e = by (or_cases (waits_in t x) (waits_all ts x) e) (λ f. waits_counted t x f) (λ f. waits_all_counted ts x f)
    where
      by : (waits_in t x ≡ true) ⊎ (waits_all ts x ≡ true) → (waits_in t x ≡ true → 1 ≤ how_many (declares_at x) t) → (waits_all ts x ≡ true → 1 ≤ how_many_in (declares_at x) ts) → 1 ≤ how_many_in (declares_at x) (t ⊳ ts)
      by (inl f) g h = omega (arith, g f)
      by (inr f) g h = omega (arith, h f)

-- names that wait in a list, and are fixed
abbrev pub waiting : Facts → Forest → Name → Bool
waiting F ts x = fixed F x && waits_all ts x

abbrev pub waiting_in : Facts → Tree → Name → Bool
waiting_in F t x = fixed F x && waits_in t x

pub splits : (F : Facts) (t : Tree) (ts : Forest) → ((x : Name) → fixed F x ≡ true → how_many_in (declares_at x) (t ⊳ ts) ≤ 1) → Splits (waiting F (t ⊳ ts)) (waiting_in F t) (waiting F ts)
splits F t ts h = record {
  first = λ x e. let q = and_parts (fixed F x) (waits_in t x) e in and_from (fixed F x) (waits_in t x || waits_all ts x) q.0 (or_left (waits_in t x) (waits_all ts x) q.1);
  second = λ x e. let q = and_parts (fixed F x) (waits_all ts x) e in and_from (fixed F x) (waits_in t x || waits_all ts x) q.0 (or_right (waits_in t x) (waits_all ts x) q.1);
  apart = λ x e f. let q = and_parts (fixed F x) (waits_in t x) e in let r = and_parts (fixed F x) (waits_all ts x) f in absurd (omega (arith, h x q.0, waits_counted t x q.1, waits_all_counted ts x r.1));
}

-- facts of the whole input
pub record Sure (p : Pass) (F : Facts) (E : Last) (lex : Name → Bool) : Type 0 where
  -- what is carried is so for names of `let` and `const`, which are fixed
  pub unlexical : (x : Name) → lex x ≡ false → E.idle x ≡ false → E.values x ≡ nothing
  pub unfixed : (x : Name) → fixed F x ≡ false → E.idle x ≡ false → E.values x ≡ nothing
  pub constant_lexical : (x : Name) → F.constant x ≡ true → lex x ≡ true
  pub default_free : fixed F default_name ≡ false
  -- what is carried along lists is so for variables that are not fixed, and names that they stand for are
  pub default_moves : F.variable default_name ≡ false
  pub settled_variable : (x : Name) → F.variable x ≡ false → E.settled x ≡ nothing
  pub settled_free : (x : Name) → fixed F x ≡ true → E.settled x ≡ nothing
  -- what is never set is undefined
  pub idle_unset : (x : Name) → E.idle x ≡ true → F.unset x ≡ true
  pub idle_value : (x : Name) → E.idle x ≡ true → E.values x ≡ a_value Undefined
  pub idle_settled : (x : Name) → E.idle x ≡ true → E.settled x ≡ nothing
  pub default_set : F.unset default_name ≡ false
  pub settled_fixed : (y x : Name) → E.settled y ≡ a_name x → fixed F x ≡ true

-- a fixed name that a parameter, a function or a `catch` has is not one of `let` or `const`, and the name is set
abbrev pub Other : Facts → (Name → Bool) → Name → Type 0
Other F lex x = (fixed F x ≡ true → lex x ≡ false) × (F.unset x ≡ false)

abbrev pub OtherOption : Facts → (Name → Bool) → Option Name → Type 0
OtherOption F lex None = Unit {0}
OtherOption F lex (Some x) = Other F lex x

-- a node's own names are such as the facts say
abbrev pub Sits : Facts → (Name → Bool) → Label → Type 0
Sits F lex (Assign op x) = F.steady x ≡ false
Sits F lex (Update op prefix x) = F.steady x ≡ false
Sits F lex (Declarator Var x) = fixed F x ≡ false
Sits F lex (Declarator Let x) = (F.constant x ≡ false) × (lex x ≡ true)
Sits F lex (Declarator Const x) = lex x ≡ true
Sits F lex (Param x) = Other F lex x
Sits F lex (FnDecl x) = Other F lex x
Sits F lex (Fn o) = OtherOption F lex o
Sits F lex (ExportDefaultFn o) = OtherOption F lex o
Sits F lex (Try None) = Unit {0}
Sits F lex (Try (Some o)) = OtherOption F lex o
Sits F lex (ImportNamed x o) = fixed F x ≡ false
Sits F lex (ImportDefault x) = fixed F x ≡ false
Sits F lex (ImportStar x) = fixed F x ≡ false
Sits F lex _ = Unit {0}

abbrev mutual
  pub every : Facts → (Name → Bool) → Tree → Type 0
  every F lex (node l ss cs) = Sits F lex l × every_all F lex cs

  pub every_all : Facts → (Name → Bool) → Forest → Type 0
  every_all F lex ε = Unit {0}
  every_all F lex (t ⊳ ts) = every F lex t × every_all F lex ts

-- a name that is a variable, never written, is not written, no parameter, no import and no name of `let` or `const`; a name that
-- is never set is not written and no import, and it is steady if it is one of `let` or `const`
abbrev pub Stays : Facts → Label → Type 0
Stays F (Assign op x) = (F.variable x ≡ false) × (F.unset x ≡ false)
Stays F (Update op prefix x) = (F.variable x ≡ false) × (F.unset x ≡ false)
Stays F (Declarator Let x) = (F.variable x ≡ false) × (F.unset x ≡ true → F.steady x ≡ true)
Stays F (Declarator Const x) = (F.variable x ≡ false) × (F.unset x ≡ true → F.steady x ≡ true)
Stays F (Param x) = F.variable x ≡ false
Stays F (ImportNamed x o) = (F.variable x ≡ false) × (F.unset x ≡ false)
Stays F (ImportDefault x) = (F.variable x ≡ false) × (F.unset x ≡ false)
Stays F (ImportStar x) = (F.variable x ≡ false) × (F.unset x ≡ false)
Stays F _ = Unit {0}

abbrev mutual
  pub all_stay : Facts → Tree → Type 0
  all_stay F (node l ss cs) = Stays F l × each_stays F cs

  pub each_stays : Facts → Forest → Type 0
  each_stays F ε = Unit {0}
  each_stays F (t ⊳ ts) = all_stay F t × each_stays F ts

-- what holds of a list of trees where names G are in scope
pub record Sound (F : Facts) (lex : Name → Bool) (G : Ground) (ts : Forest) : Type 0 where
  pub sits : every_all F lex ts
  pub stays : each_stays F ts
  pub sole : (x : Name) → F.variable x ≡ true → how_many_in (declares_at x) ts ≤ 1
  pub once : (x : Name) → fixed F x ≡ true → how_many_in (declares_at x) ts ≤ 1
  pub free : (x : Name) → G.names x ≡ true → scopes_all x ts ≡ 0
  pub bound : (x : Name) → scopes_all x ts ≤ 1
  pub shaped : are_shaped ts ≡ true
  pub valid : valid_all ts ≡ true

pub record SoundTree (F : Facts) (lex : Name → Bool) (G : Ground) (t : Tree) : Type 0 where
  pub sits : every F lex t
  pub stays : all_stay F t
  pub sole : (x : Name) → F.variable x ≡ true → how_many (declares_at x) t ≤ 1
  pub once : (x : Name) → fixed F x ≡ true → how_many (declares_at x) t ≤ 1
  pub free : (x : Name) → G.names x ≡ true → scopes x t ≡ 0
  pub bound : (x : Name) → scopes x t ≤ 1
  pub shaped : is_shaped t ≡ true
  pub valid : valid t ≡ true

module _ {F : Facts} {lex : Name → Bool} where
  pub head_sound : {G : Ground} {t : Tree} {ts : Forest} → Sound F lex G (t ⊳ ts) → SoundTree F lex G t
  head_sound {t = t} {ts} h = record {
    sits = h.sits.0;
    stays = h.stays.0;
    sole = λ x e. omega (arith, h.sole x e);
    once = λ x e. omega (arith, h.once x e);
    free = λ x e. omega (arith, h.free x e);
    bound = λ x. omega (arith, h.bound x);
    shaped = (and_parts (is_shaped t) (are_shaped ts) h.shaped).0;
    valid = (and_parts (valid t) (valid_all ts) h.valid).0;
  }

  pub tail_sound : {G : Ground} {t : Tree} {ts : Forest} → Sound F lex G (t ⊳ ts) → Sound F lex G ts
  tail_sound {t = t} {ts} h = record {
    sits = h.sits.1;
    stays = h.stays.1;
    sole = λ x e. omega (arith, h.sole x e);
    once = λ x e. omega (arith, h.once x e);
    free = λ x e. omega (arith, h.free x e);
    bound = λ x. omega (arith, h.bound x);
    shaped = (and_parts (is_shaped t) (are_shaped ts) h.shaped).1;
    valid = (and_parts (valid t) (valid_all ts) h.valid).1;
  }

-- What is known of the names in scope, and of what is carried.
pub record Firm (E : Last) (G : Ground) : Type 0 where
  pub closed : (y x : Name) → E.values y ≡ a_name x → G.names y ≡ true → G.names x ≡ true
  pub settled_named : (x : Name) → G.settled x ≡ true → G.names x ≡ true
  pub settled_closed : (y x : Name) → G.settled y ≡ true → E.settled y ≡ a_name x → G.names x ≡ true
  pub sets_named : (x : Name) → G.sets x ≡ true → G.names x ≡ true

pub record Stands (E : Last) (G : Ground) (s : Carried) : Type 0 where
  pub ready : (x : Name) → s.ready x ≡ true → G.names x ≡ true
  pub right : (x : Name) → (s.values x ≡ nothing) ⊎ (s.values x ≡ E.values x)
  pub settled : (x : Name) → (s.settled x ≡ nothing) ⊎ ((s.settled x ≡ E.settled x) × (G.settled x ≡ true))

-- the same where more names may be in scope
abbrev pub wide : (Name → Bool) → Ground → Ground
wide N G = record { names = N; settled = G.settled; sets = G.sets }

-- what is carried at each declarator is what is carried in the end
module _ (p : Pass) (F : Facts) (E : Last) where
  abbrev pub Enters : Carried → Name → List Span → Forest → Type 0
  Enters s x ss cs = (E.values x ≡ entry p F s x ss cs) ⊎ ((E.values x ≡ a_value Undefined) × (cs ≡ ε))

  abbrev pub Carries : Carried → Label → List Span → Forest → Type 0
  Carries s (Declarator Var x) ss cs = (E.settled x ≡ settling p F s x ss cs) × (E.idle x ≡ true → cs ≡ ε)
  Carries s (Declarator Let x) ss cs = Enters s x ss cs
  Carries s (Declarator Const x) ss cs = Enters s x ss cs
  Carries s l ss cs = Unit {0}

  abbrev mutual
    pub agrees : Carried → Tree → Type 0
    agrees s (node l ss cs) = agrees_all (enter p F l ss cs s) cs × Carries (leave p F l s (after_all p F (enter p F l ss cs s) cs)) l ss cs

    pub agrees_all : Carried → Forest → Type 0
    agrees_all s ε = Unit {0}
    agrees_all s (t ⊳ ts) = agrees s t × agrees_all (after p F s t) ts
