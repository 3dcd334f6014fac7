-- How many nodes of a tree declare a name, by the ways in which they do.
use Rattle.std.proofs.Common.{◌+◌, ◌≤◌, Bool, true, false, ◌||◌, List, Some, ap, arith}
use Rattle.std.proofs.lemmas.Bool.{or_left}
use Rattle.swc_ast.specs.declared.VarDeclKind.TheVariants.{Var, Let, Const}
use Rattle.swc_ast.specs.Tree.{Name, same_name, Label, Fn, Param, Try, Declarator, FnDecl, ImportNamed, ImportDefault, ImportStar, ExportDefaultFn, Tree, node, Forest, ε, ◌⊳◌}
use Rattle.swc_ast.specs.Scope.{has_name}
use Rattle.static_proofs.proofs.Names.{same_name_itself}
use Rattle.carry_rules.specs.Carry.{declares_const, declares_lexical, declares_variable, imports, declares_other, declares, one, how_many, how_many_in}

-- a test of names and labels at one name
abbrev pub at : (Name → Label → Bool) → Name → Label → Forest → Bool
at q x l cs = q x l

-- a declarator of `let`
abbrev pub declares_let : Name → Label → Bool
declares_let x (Declarator Let y) = same_name x y
declares_let x _ = false

-- where one or another holds, a third does
module _ (p q r : Label → Forest → Bool) (h : (l : Label) (cs : Forest) → one (p l cs) + one (q l cs) ≤ one (r l cs)) where
  mutual
    pub both : (t : Tree) → how_many p t + how_many q t ≤ how_many r t
    both (node l ss cs) = omega (arith, h l cs, both_in cs)

    both_in : (ts : Forest) → how_many_in p ts + how_many_in q ts ≤ how_many_in r ts
    both_in ε = omega arith
    both_in (t ⊳ ts) = omega (arith, both t, both_in ts)

pub one_or : (b c : Bool) → one b ≤ one (b || c)
one_or true c = omega arith
one_or false c = omega arith

-- a name itself

pub one_itself : (x : Name) → 1 ≤ one (same_name x x)
one_itself x = omega (arith, ap one (same_name_itself x))

pub one_among : (x : Name) (xs : List Name) → 1 ≤ one (same_name x x || has_name x xs)
one_among x xs = omega (arith, ap one (or_left (same_name x x) (has_name x xs) (same_name_itself x)))

-- ways to declare a name exclude each other

variable_own : (x : Name) (l : Label) → one (declares_lexical x l) + one (declares_variable x l) ≤ one (declares x l)
variable_own x (Declarator Let y) = omega (arith, one_or (same_name x y) false)
variable_own x (Declarator Const y) = omega (arith, one_or (same_name x y) false)
variable_own x (Declarator Var y) = omega (arith, one_or (same_name x y) false)
variable_own x l = omega arith

import_own : (x : Name) (l : Label) → one (declares_lexical x l) + one (imports x l) ≤ one (declares x l)
import_own x (Declarator Let y) = omega (arith, one_or (same_name x y) false)
import_own x (Declarator Const y) = omega (arith, one_or (same_name x y) false)
import_own x (ImportNamed y o) = omega (arith, one_or (same_name x y) false)
import_own x (ImportDefault y) = omega (arith, one_or (same_name x y) false)
import_own x (ImportStar y) = omega (arith, one_or (same_name x y) false)
import_own x l = omega arith

other_own : (x : Name) (l : Label) → one (declares_lexical x l) + one (declares_other x l) ≤ one (declares x l)
other_own x (Declarator Let y) = omega (arith, one_or (same_name x y) false)
other_own x (Declarator Const y) = omega (arith, one_or (same_name x y) false)
other_own x (Param y) = omega arith
other_own x (Fn o) = omega arith
other_own x (FnDecl y) = omega arith
other_own x (ExportDefaultFn o) = omega arith
other_own x (Try (Some o)) = omega arith
other_own x l = omega arith

let_own : (x : Name) (l : Label) → one (declares_const x l) + one (declares_let x l) ≤ one (declares_lexical x l)
let_own x (Declarator Let y) = omega arith
let_own x (Declarator Const y) = omega arith
let_own x l = omega arith

variable_import : (x : Name) (l : Label) → one (declares_variable x l) + one (imports x l) ≤ one (declares x l)
variable_import x (Declarator Var y) = omega (arith, one_or (same_name x y) false)
variable_import x (ImportNamed y o) = omega (arith, one_or (same_name x y) false)
variable_import x (ImportDefault y) = omega (arith, one_or (same_name x y) false)
variable_import x (ImportStar y) = omega (arith, one_or (same_name x y) false)
variable_import x l = omega arith

variable_other : (x : Name) (l : Label) → one (declares_variable x l) + one (declares_other x l) ≤ one (declares x l)
variable_other x (Declarator Var y) = omega (arith, one_or (same_name x y) false)
variable_other x (Param y) = omega arith
variable_other x (Fn o) = omega arith
variable_other x (FnDecl y) = omega arith
variable_other x (ExportDefaultFn o) = omega arith
variable_other x (Try (Some o)) = omega arith
variable_other x l = omega arith

pub with_variables : (x : Name) (t : Tree) → how_many (at declares_lexical x) t + how_many (at declares_variable x) t ≤ how_many (at declares x) t
with_variables x t = both (at declares_lexical x) (at declares_variable x) (at declares x) (λ l cs. variable_own x l) t

pub with_imports : (x : Name) (t : Tree) → how_many (at declares_lexical x) t + how_many (at imports x) t ≤ how_many (at declares x) t
with_imports x t = both (at declares_lexical x) (at imports x) (at declares x) (λ l cs. import_own x l) t

pub with_others : (x : Name) (t : Tree) → how_many (at declares_lexical x) t + how_many (at declares_other x) t ≤ how_many (at declares x) t
with_others x t = both (at declares_lexical x) (at declares_other x) (at declares x) (λ l cs. other_own x l) t

pub of_lexical : (x : Name) (t : Tree) → how_many (at declares_const x) t + how_many (at declares_let x) t ≤ how_many (at declares_lexical x) t
of_lexical x t = both (at declares_const x) (at declares_let x) (at declares_lexical x) (λ l cs. let_own x l) t

pub beside_imports : (x : Name) (t : Tree) → how_many (at declares_variable x) t + how_many (at imports x) t ≤ how_many (at declares x) t
beside_imports x t = both (at declares_variable x) (at imports x) (at declares x) (λ l cs. variable_import x l) t

pub beside_others : (x : Name) (t : Tree) → how_many (at declares_variable x) t + how_many (at declares_other x) t ≤ how_many (at declares x) t
beside_others x t = both (at declares_variable x) (at declares_other x) (at declares x) (λ l cs. variable_other x l) t
