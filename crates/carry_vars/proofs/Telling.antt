-- What was told of names is what the facts of the tree say.
use Rattle.std.proofs.Common.{◌≡◌, ℕ, zero, suc, ◌+◌, Bool, true, false, not, ◌==◌, ◌||◌, ◌&&◌, List, Option, Some, None, position, refl, sym, ap, ap₂, ◌∙◌, arith}
use Rattle.std.specs.Prelude.{option_map}
use Rattle.std.proofs.lemmas.Bool.{eq-eqb, ne_eqb}
use Rattle.std.proofs.lemmas.Option.{none-some, same_Some}
use Rattle.swc_ast.specs.Scope.{has_name, option_name}
use Rattle.swc_ast.specs.declared.VarDeclKind.TheVariants.{Var, Let, Const}
use Rattle.swc_ast.specs.Tree.{Name, same_name, Label, Fn, Param, Assign, Update, Try, Declarator, FnDecl, ImportNamed, ImportDefault, ImportStar, ExportDefaultFn, Tree, node, Forest, ε, ◌⊳◌}
use Rattle.swc_ast.specs.Resolved.{is_default}
use Rattle.carry_rules.specs.Carry.{facts, one, how_many, how_many_in, writes, declares, declares_const, declares_lexical, declares_variable, declares_unset, imports}
use Rattle.swc_names.specs.Names.{mentioned_in}
use Rattle.carry_tables.specs.Tables.{at}
use Rattle.carry_tables.specs.declared.table.NameTable.{NameTable}
use Rattle.carry_vars.specs.declared.count.Count.{Count}
use Rattle.carry_vars.specs.declared.count.Count.TheVariants as of
use Rattle.carry_vars.specs.declared.tally.Fact.{Fact}
use Rattle.carry_vars.specs.declared.tally.Fact.TheVariants as fact
use Rattle.carry_vars.specs.declared.tally.Tally.{Tally}
use Rattle.carry_vars.specs.declared.vars.Vars.{Vars}
use Rattle.carry_vars.specs.Counts.{counted, is_zero, is_one, plus}
use Rattle.carry_vars.specs.Told.{holds, is_const, is_none, tells_of, count_at, Notes}
use Rattle.carry_vars.specs.Facts.{AreNamesOf, told_steady, told_constant, told_variable, told_unset, Tells}
use Rattle.carry_vars.proofs.Absent.{absent, unmentioned}

-- counters and numbers

zero_counted : (n : ℕ) → is_zero (counted n) ≡ (n == 0)
zero_counted zero = refl
zero_counted (suc zero) = refl
zero_counted (suc (suc n)) = sym (ne_eqb (suc (suc n)) 0 (λ e. omega (arith, e)))

one_counted : (n : ℕ) → is_one (counted n) ≡ (n == 1)
one_counted zero = refl
one_counted (suc zero) = refl
one_counted (suc (suc n)) = sym (ne_eqb (suc (suc n)) 1 (λ e. omega (arith, e)))

mutual
  how_same : (p q : Label → Forest → Bool) → ((l : Label) (cs : Forest) → p l cs ≡ q l cs) → (t : Tree) → how_many p t ≡ how_many q t
  how_same p q h (node l ss cs) = ap₂ (λ b n. one b + n) (h l cs) (how_same_in p q h cs)

  how_same_in : (p q : Label → Forest → Bool) → ((l : Label) (cs : Forest) → p l cs ≡ q l cs) → (ts : Forest) → how_many_in p ts ≡ how_many_in q ts
  how_same_in p q h ε = refl
  how_same_in p q h (t ⊳ ts) = ap₂ ◌+◌ (how_same p q h t) (how_same_in p q h ts)

mutual
  how_both : (p q r : Label → Forest → Bool) → ((l : Label) (cs : Forest) → one (r l cs) ≡ one (p l cs) + one (q l cs)) → (t : Tree) → how_many r t ≡ how_many p t + how_many q t
  how_both p q r h (node l ss cs) = omega (arith, h l cs, how_both_in p q r h cs)

  how_both_in : (p q r : Label → Forest → Bool) → ((l : Label) (cs : Forest) → one (r l cs) ≡ one (p l cs) + one (q l cs)) → (ts : Forest) → how_many_in r ts ≡ how_many_in p ts + how_many_in q ts
  how_both_in p q r h ε = refl
  how_both_in p q r h (t ⊳ ts) = omega (arith, how_both p q r h t, how_both_in p q r h ts)

-- what a node tells

alone : (b : Bool) → ((b || false) && true) ≡ b
alone true = refl
alone false = refl

some : (b : Bool) → (b && true) ≡ b
some true = refl
some false = refl

never : (b : Bool) → (b && false) ≡ false
never true = refl
never false = refl

writes_told : (x : Name) (l : Label) (cs : Forest) → tells_of fact.Written x l cs ≡ writes x l
writes_told x (Assign op y) cs = alone (same_name x y)
writes_told x (Update op prefix y) cs = alone (same_name x y)
writes_told x (Declarator Let y) cs = never (same_name x y || false)
writes_told x (Declarator Const y) cs = never (same_name x y || false)
writes_told x (Declarator Var y) cs = never (same_name x y || false)
writes_told x (ImportNamed y o) cs = never (same_name x y || false)
writes_told x (ImportDefault y) cs = never (same_name x y || false)
writes_told x (ImportStar y) cs = never (same_name x y || false)
writes_told x (Param y) cs = never (same_name x y || false)
writes_told x (Fn o) cs = never (has_name x (option_name o))
writes_told x (FnDecl y) cs = never (same_name x y || false)
writes_told x (ExportDefaultFn o) cs = never (has_name x (option_name o))
writes_told x (Try None) cs = refl
writes_told x (Try (Some o)) cs = never (has_name x (option_name o))
writes_told x l cs = refl

declares_told : (x : Name) (l : Label) (cs : Forest) → tells_of fact.Declared x l cs ≡ declares x l
declares_told x (Assign op y) cs = never (same_name x y || false)
declares_told x (Update op prefix y) cs = never (same_name x y || false)
declares_told x (Declarator Let y) cs = some (same_name x y || false)
declares_told x (Declarator Const y) cs = some (same_name x y || false)
declares_told x (Declarator Var y) cs = some (same_name x y || false)
declares_told x (ImportNamed y o) cs = some (same_name x y || false)
declares_told x (ImportDefault y) cs = some (same_name x y || false)
declares_told x (ImportStar y) cs = some (same_name x y || false)
declares_told x (Param y) cs = alone (same_name x y)
declares_told x (Fn o) cs = some (has_name x (option_name o))
declares_told x (FnDecl y) cs = alone (same_name x y)
declares_told x (ExportDefaultFn o) cs = some (has_name x (option_name o))
declares_told x (Try None) cs = refl
declares_told x (Try (Some o)) cs = some (has_name x (option_name o))
declares_told x l cs = refl

const_told : (x : Name) (l : Label) (cs : Forest) → tells_of fact.Constant x l cs ≡ declares_const x l
const_told x (Assign op y) cs = never (same_name x y || false)
const_told x (Update op prefix y) cs = never (same_name x y || false)
const_told x (Declarator Let y) cs = never (same_name x y || false)
const_told x (Declarator Const y) cs = alone (same_name x y)
const_told x (Declarator Var y) cs = never (same_name x y || false)
const_told x (ImportNamed y o) cs = never (same_name x y || false)
const_told x (ImportDefault y) cs = never (same_name x y || false)
const_told x (ImportStar y) cs = never (same_name x y || false)
const_told x (Param y) cs = never (same_name x y || false)
const_told x (Fn o) cs = never (has_name x (option_name o))
const_told x (FnDecl y) cs = never (same_name x y || false)
const_told x (ExportDefaultFn o) cs = never (has_name x (option_name o))
const_told x (Try None) cs = refl
const_told x (Try (Some o)) cs = never (has_name x (option_name o))
const_told x l cs = refl

lexical_told : (x : Name) (l : Label) (cs : Forest) → tells_of fact.Lexical x l cs ≡ declares_lexical x l
lexical_told x (Assign op y) cs = never (same_name x y || false)
lexical_told x (Update op prefix y) cs = never (same_name x y || false)
lexical_told x (Declarator Let y) cs = alone (same_name x y)
lexical_told x (Declarator Const y) cs = alone (same_name x y)
lexical_told x (Declarator Var y) cs = never (same_name x y || false)
lexical_told x (ImportNamed y o) cs = never (same_name x y || false)
lexical_told x (ImportDefault y) cs = never (same_name x y || false)
lexical_told x (ImportStar y) cs = never (same_name x y || false)
lexical_told x (Param y) cs = never (same_name x y || false)
lexical_told x (Fn o) cs = never (has_name x (option_name o))
lexical_told x (FnDecl y) cs = never (same_name x y || false)
lexical_told x (ExportDefaultFn o) cs = never (has_name x (option_name o))
lexical_told x (Try None) cs = refl
lexical_told x (Try (Some o)) cs = never (has_name x (option_name o))
lexical_told x l cs = refl

variable_told : (x : Name) (l : Label) (cs : Forest) → tells_of fact.Variable x l cs ≡ declares_variable x l
variable_told x (Assign op y) cs = never (same_name x y || false)
variable_told x (Update op prefix y) cs = never (same_name x y || false)
variable_told x (Declarator Let y) cs = never (same_name x y || false)
variable_told x (Declarator Const y) cs = never (same_name x y || false)
variable_told x (Declarator Var y) cs = alone (same_name x y)
variable_told x (ImportNamed y o) cs = never (same_name x y || false)
variable_told x (ImportDefault y) cs = never (same_name x y || false)
variable_told x (ImportStar y) cs = never (same_name x y || false)
variable_told x (Param y) cs = never (same_name x y || false)
variable_told x (Fn o) cs = never (has_name x (option_name o))
variable_told x (FnDecl y) cs = never (same_name x y || false)
variable_told x (ExportDefaultFn o) cs = never (has_name x (option_name o))
variable_told x (Try None) cs = refl
variable_told x (Try (Some o)) cs = never (has_name x (option_name o))
variable_told x l cs = refl

imports_told : (x : Name) (l : Label) (cs : Forest) → tells_of fact.Imported x l cs ≡ imports x l
imports_told x (Assign op y) cs = never (same_name x y || false)
imports_told x (Update op prefix y) cs = never (same_name x y || false)
imports_told x (Declarator Let y) cs = never (same_name x y || false)
imports_told x (Declarator Const y) cs = never (same_name x y || false)
imports_told x (Declarator Var y) cs = never (same_name x y || false)
imports_told x (ImportNamed y o) cs = alone (same_name x y)
imports_told x (ImportDefault y) cs = alone (same_name x y)
imports_told x (ImportStar y) cs = alone (same_name x y)
imports_told x (Param y) cs = never (same_name x y || false)
imports_told x (Fn o) cs = never (has_name x (option_name o))
imports_told x (FnDecl y) cs = never (same_name x y || false)
imports_told x (ExportDefaultFn o) cs = never (has_name x (option_name o))
imports_told x (Try None) cs = refl
imports_told x (Try (Some o)) cs = never (has_name x (option_name o))
imports_told x l cs = refl

unset_told : (x : Name) (l : Label) (cs : Forest) → tells_of fact.Unset x l cs ≡ declares_unset x l cs
unset_told x (Assign op y) cs = never (same_name x y || false)
unset_told x (Update op prefix y) cs = never (same_name x y || false)
unset_told x (Declarator Let y) ε = alone (same_name x y)
unset_told x (Declarator Let y) (t ⊳ ts) = never (same_name x y || false)
unset_told x (Declarator Const y) ε = never (same_name x y || false)
unset_told x (Declarator Const y) (t ⊳ ts) = never (same_name x y || false)
unset_told x (Declarator Var y) ε = alone (same_name x y)
unset_told x (Declarator Var y) (t ⊳ ts) = never (same_name x y || false)
unset_told x (ImportNamed y o) cs = never (same_name x y || false)
unset_told x (ImportDefault y) cs = never (same_name x y || false)
unset_told x (ImportStar y) cs = never (same_name x y || false)
unset_told x (Param y) cs = never (same_name x y || false)
unset_told x (Fn o) cs = never (has_name x (option_name o))
unset_told x (FnDecl y) cs = never (same_name x y || false)
unset_told x (ExportDefaultFn o) cs = never (has_name x (option_name o))
unset_told x (Try None) cs = refl
unset_told x (Try (Some o)) cs = never (has_name x (option_name o))
unset_told x l cs = refl

split : (h u : Bool) → one (h && true) ≡ one (h && u) + one (h && not u)
split true true = omega arith
split true false = omega arith
split false u = omega arith

split_none : (h : Bool) → one (h && false) ≡ one (h && false) + one (h && false)
split_none true = omega arith
split_none false = omega arith

split_set : (h : Bool) → one (h && true) ≡ one (h && false) + one (h && true)
split_set true = omega arith
split_set false = omega arith

set_told : (x : Name) (l : Label) (cs : Forest) → one (tells_of fact.Declared x l cs) ≡ one (tells_of fact.Unset x l cs) + one (tells_of fact.Set x l cs)
set_told x (Assign op y) cs = split_none (same_name x y || false)
set_told x (Update op prefix y) cs = split_none (same_name x y || false)
set_told x (Declarator Let y) cs = split (same_name x y || false) (is_none cs && not (is_const Let))
set_told x (Declarator Const y) cs = split (same_name x y || false) (is_none cs && not (is_const Const))
set_told x (Declarator Var y) cs = split (same_name x y || false) (is_none cs && not (is_const Var))
set_told x (ImportNamed y o) cs = split_set (same_name x y || false)
set_told x (ImportDefault y) cs = split_set (same_name x y || false)
set_told x (ImportStar y) cs = split_set (same_name x y || false)
set_told x (Param y) cs = split_set (same_name x y || false)
set_told x (Fn o) cs = split_set (has_name x (option_name o))
set_told x (FnDecl y) cs = split_set (same_name x y || false)
set_told x (ExportDefaultFn o) cs = split_set (has_name x (option_name o))
set_told x (Try None) cs = omega arith
set_told x (Try (Some o)) cs = split_set (has_name x (option_name o))
set_told x l cs = omega arith

-- what names are

steady_shape : (a b c d e : Bool) → (a && (b && (c && (d && e)))) ≡ (((a && b) && c) && (d && e))
steady_shape true true true d e = refl
steady_shape true true false d e = refl
steady_shape true false c d e = refl
steady_shape false b c d e = refl

constant_shape : (a b c : Bool) → (a && (b && c)) ≡ ((a && b) && c)
constant_shape true b c = refl
constant_shape false b c = refl

variable_shape : (a b c d : Bool) → (a && (b && (c && d))) ≡ (((a && b) && c) && d)
variable_shape true true c d = refl
variable_shape true false c d = refl
variable_shape false b c d = refl

-- how often the nodes of a tree tell it of a name
abbrev told : Fact → Name → Tree → ℕ
told f x t = how_many (tells_of f x) t

module _ (t : Tree) (x : Name) where
  w : told fact.Written x t ≡ how_many (λ l cs. writes x l) t
  w = how_same (tells_of fact.Written x) (λ l cs. writes x l) (writes_told x) t

  d : told fact.Declared x t ≡ how_many (λ l cs. declares x l) t
  d = how_same (tells_of fact.Declared x) (λ l cs. declares x l) (declares_told x) t

  k : told fact.Constant x t ≡ how_many (λ l cs. declares_const x l) t
  k = how_same (tells_of fact.Constant x) (λ l cs. declares_const x l) (const_told x) t

  e : told fact.Lexical x t ≡ how_many (λ l cs. declares_lexical x l) t
  e = how_same (tells_of fact.Lexical x) (λ l cs. declares_lexical x l) (lexical_told x) t

  v : told fact.Variable x t ≡ how_many (λ l cs. declares_variable x l) t
  v = how_same (tells_of fact.Variable x) (λ l cs. declares_variable x l) (variable_told x) t

  i : told fact.Imported x t ≡ how_many (λ l cs. imports x l) t
  i = how_same (tells_of fact.Imported x) (λ l cs. imports x l) (imports_told x) t

  u : told fact.Unset x t ≡ how_many (declares_unset x) t
  u = how_same (tells_of fact.Unset x) (declares_unset x) (unset_told x) t

  sum : told fact.Declared x t ≡ told fact.Unset x t + told fact.Set x t
  sum = how_both (tells_of fact.Unset x) (tells_of fact.Set x) (tells_of fact.Declared x) (set_told x) t

  zero_is : (c : Count) (m n : ℕ) → c ≡ counted m → m ≡ n → is_zero c ≡ (n == 0)
  zero_is c m n h g = ap is_zero h ∙ zero_counted m ∙ ap (λ j. j == 0) g

  one_is : (c : Count) (m n : ℕ) → c ≡ counted m → m ≡ n → is_one c ≡ (n == 1)
  one_is c m n h g = ap is_one h ∙ one_counted m ∙ ap (λ j. j == 1) g

  -- the declarations without initialisers are all
  all_unset : (m n j : ℕ) → m ≡ n + j → (j == 0) ≡ (m == n)
  all_unset m n zero h = sym (eq-eqb m n (omega (arith, h)))
  all_unset m n (suc j) h = ne_eqb (suc j) 0 (λ q. omega (arith, q)) ∙ sym (ne_eqb m n (λ q. omega (arith, q, h)))

  -- a name that the tree has
  module _ (y : Tally) (h : (f : Fact) → holds y f ≡ counted (told f x t)) where
    some_steady : told_steady x (Some y) ≡ (facts t).steady x
    unfolding facts
    some_steady = steady_shape (not (is_default x)) (is_one y.declared) (is_zero y.written) (is_zero y.variable) (is_zero y.imported)
        ∙ ap₂ (λ p q. ((not (is_default x) && p) && q) && (is_zero y.variable && is_zero y.imported)) (one_is y.declared _ _ (h fact.Declared) d) (zero_is y.written _ _ (h fact.Written) w)
        ∙ ap₂ (λ p q. ((not (is_default x) && (how_many (λ l cs. declares x l) t == 1)) && (how_many (λ l cs. writes x l) t == 0)) && (p && q)) (zero_is y.variable _ _ (h fact.Variable) v) (zero_is y.imported _ _ (h fact.Imported) i)

    some_constant : told_constant x (Some y) ≡ (facts t).constant x
    unfolding facts
    some_constant = constant_shape (not (is_default x)) (is_one y.declared) (is_one y.constant)
        ∙ ap₂ (λ p q. (not (is_default x) && p) && q) (one_is y.declared _ _ (h fact.Declared) d) (one_is y.constant _ _ (h fact.Constant) k)

    some_variable : told_variable x (Some y) ≡ (facts t).variable x
    unfolding facts
    some_variable = variable_shape (not (is_default x)) (is_one y.declared) (is_zero y.written) (is_one y.variable)
        ∙ ap₂ (λ p q. ((not (is_default x) && p) && q) && is_one y.variable) (one_is y.declared _ _ (h fact.Declared) d) (zero_is y.written _ _ (h fact.Written) w)
        ∙ ap (λ q. ((not (is_default x) && (how_many (λ l cs. declares x l) t == 1)) && (how_many (λ l cs. writes x l) t == 0)) && q) (one_is y.variable _ _ (h fact.Variable) v)

    unset_shape : (a b c p q : Bool) → (a && (b && (c && (p && q)))) ≡ (a && (b && ((c && p) && q)))
    unset_shape a b true p q = refl
    unset_shape a b false p q = refl

    some_unset : told_unset x (Some y) ≡ (facts t).unset x
    unfolding facts
    some_unset = unset_shape (not (is_default x)) (is_zero y.written) (not (is_zero y.unset)) (is_zero y.set) (is_one y.declared || is_zero y.lexical)
        ∙ ap₂ (λ p q. not (is_default x) && (p && ((not q && is_zero y.set) && (is_one y.declared || is_zero y.lexical)))) (zero_is y.written _ _ (h fact.Written) w) (zero_is y.unset _ _ (h fact.Unset) u)
        ∙ ap (λ q. not (is_default x) && ((how_many (λ l cs. writes x l) t == 0) && ((not (how_many (declares_unset x) t == 0) && q) && (is_one y.declared || is_zero y.lexical)))) (zero_is y.set _ _ (h fact.Set) refl ∙ all_unset (told fact.Declared x t) (told fact.Unset x t) (told fact.Set x t) sum ∙ ap₂ (λ p q. p == q) d u)
        ∙ ap₂ (λ p q. not (is_default x) && ((how_many (λ l cs. writes x l) t == 0) && ((not (how_many (declares_unset x) t == 0) && (how_many (λ l cs. declares x l) t == how_many (declares_unset x) t)) && (p || q)))) (one_is y.declared _ _ (h fact.Declared) d) (zero_is y.lexical _ _ (h fact.Lexical) e)

  -- a name that it doesn't have
  module _ (h : has_name x (mentioned_in t) ≡ false) where
    undeclared : (how_many (λ l cs. declares x l) t == 1) ≡ false
    undeclared = ne_eqb (how_many (λ l cs. declares x l) t) 1 (λ q. omega (arith, q, d, absent fact.Declared x t h))

    not_unset : (how_many (declares_unset x) t == 0) ≡ true
    not_unset = eq-eqb (how_many (declares_unset x) t) 0 (omega (arith, u, absent fact.Unset x t h))

    none_sole : (not (is_default x) && (how_many (λ l cs. declares x l) t == 1)) ≡ false
    none_sole = ap (λ q. not (is_default x) && q) undeclared ∙ never (not (is_default x))

    none_steady : false ≡ (facts t).steady x
    unfolding facts
    none_steady = sym (ap (λ q. (q && (how_many (λ l cs. writes x l) t == 0)) && ((how_many (λ l cs. declares_variable x l) t == 0) && (how_many (λ l cs. imports x l) t == 0))) none_sole)

    none_constant : false ≡ (facts t).constant x
    unfolding facts
    none_constant = sym (ap (λ q. q && (how_many (λ l cs. declares_const x l) t == 1)) none_sole)

    none_variable : false ≡ (facts t).variable x
    unfolding facts
    none_variable = sym (ap (λ q. (q && (how_many (λ l cs. writes x l) t == 0)) && (how_many (λ l cs. declares_variable x l) t == 1)) none_sole)

    none_unset : false ≡ (facts t).unset x
    unfolding facts
    none_unset = sym (ap (λ q. not (is_default x) && ((how_many (λ l cs. writes x l) t == 0) && ((not q && (how_many (λ l cs. declares x l) t == how_many (declares_unset x) t)) && ((how_many (λ l cs. declares x l) t == 1) || (how_many (λ l cs. declares_lexical x l) t == 0))))) not_unset ∙ ap (λ q. not (is_default x) && q) (never (how_many (λ l cs. writes x l) t == 0)) ∙ never (not (is_default x)))

-- what was told is what a tree says
module _ (t : Tree) (ns : List Name) (v : Vars) (u : NameTable Tally) (r : Tally) (are : AreNamesOf ns t) (zeros : (f : Fact) → holds r f ≡ of.Zero) (began : (x : Name) → at u x ≡ option_map (λ n. r) (position (same_name x) ns)) (noted : Notes u v.table (λ f x. counted (told f x t))) where
  abbrev Four : Name → Option Tally → Type 0
  Four x o = (told_steady x o ≡ (facts t).steady x) × (told_constant x o ≡ (facts t).constant x) × (told_variable x o ≡ (facts t).variable x) × (told_unset x o ≡ (facts t).unset x)

  have : (x : Name) (o : Option Tally) → ((f : Fact) → option_map (λ k. holds k f) o ≡ Some (counted (told f x t))) → Four x o
  have x None h = absurd (none-some _ (h fact.Set))
  have x (Some y) h =
      let g : (f : Fact) → holds y f ≡ counted (told f x t) = λ f. same_Some (holds y f) (counted (told f x t)) (h f) in
      (some_steady t x y g, some_constant t x y g, some_variable t x y g, some_unset t x y g)

  lack : (x : Name) (o : Option Tally) → has_name x (mentioned_in t) ≡ false → ((f : Fact) → option_map (λ k. holds k f) o ≡ None) → Four x o
  lack x None h g = (none_steady t x h, none_constant t x h, none_variable t x h, none_unset t x h)
  lack x (Some y) h g = absurd (none-some _ (sym (g fact.Set)))

  by : (x : Name) → Four x (at v.table x)
  by x = at_position (position (same_name x) ns) refl
    where
      first : (f : Fact) (p : Option ℕ) → position (same_name x) ns ≡ p → count_at v.table f x ≡ option_map (λ c. plus c (counted (told f x t))) (option_map (λ k. holds k f) (option_map (λ n. r) p))
      first f p e = noted f x ∙ ap (λ o. option_map (λ c. plus c (counted (told f x t))) (option_map (λ k. holds k f) o)) (began x ∙ ap (option_map (λ n. r)) e)

      at_position : (p : Option ℕ) → position (same_name x) ns ≡ p → Four x (at v.table x)
      at_position None e = lack x (at v.table x) (unmentioned x ns (mentioned_in t) are e) (λ f. first f None e)
      at_position (Some n) e = have x (at v.table x) (λ f. first f (Some n) e ∙ ap (λ c. Some (plus c (counted (told f x t)))) (zeros f))

  pub told_of : Tells v t
  told_of = record { steady = λ x. (by x).0; constant = λ x. (by x).1; variable = λ x. (by x).2; unset = λ x. (by x).3 }
