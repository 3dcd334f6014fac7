-- A module before and after:
--     import { key } from 'm';  let total = key;  function sum(value) { return { total, value }; }
--     const later = () => total;  export { sum, later as last };
-- and
--     import { key as a } from 'm';  let b = a;  function c(a) { return { total: b, value: a }; }
--     const d = () => b;  export { c as sum, d as last };
-- And a table that gives one new name to two names of one scope, which doesn't fit: what is seen changes.
use Rattle.std.proofs.Common.{◌≡◌, ℕ, pos, true, false, [], ◌∷◌, Some, None, refl, subst, codes}
use Rattle.swc_ast.specs.declared.VarDeclKind.TheVariants.{Let, Const}
use Rattle.swc_ast.specs.declared.VarDeclKind.{VarDeclKind}
use Rattle.swc_ast.specs.Tree.{Name, NameKey, Text, Label, NumLit, Read, Object, KeyValue, Shorthand, PlainKey, Arrow, Return, Params, Param, Body, VarDecl, Declarator, FnDecl, Module, Import, ImportNamed, ExportNamed, ExportSpecifier, Tree, node, ε, ◌⊳◌}
use Rattle.swc_ast.specs.Value.{Num, Undefined, and_then}
use Rattle.swc_ast.specs.Meaning.{hand, act, eval, in_scope, initialise, declare, run_all}
use Rattle.swc_ast.specs.Run.{World, Sees, Finished, Datum, Same, show_exports, answers, run_items, observe_by, observe}
use Rattle.rename_rules.specs.Renamed.{renamed}
use Rattle.rename_rules.specs.Tables.{Table, new_name, all_apart, targets, Fits}
use Rattle.rename_proofs.proofs.Tables.{same_by_table}

abbrev named : Text → ℕ → Name
named t k = record { text = t; context = k }

abbrev leaf : Label → Tree
leaf l = node l [] ε

abbrev one : Label → Tree → Tree
one l t = node l [] (t ⊳ ε)

abbrev declares : VarDeclKind → Name → Tree → Tree
declares k x t = one (VarDecl k) (one (Declarator k x) t)

-- the module's scope has the context 2, that of the function 3
abbrev before : Tree
before = node Module [] (
    one (Import (codes "m")) (leaf (ImportNamed (named (codes "key") 2) None))
    ⊳ declares Let (named (codes "total") 2) (leaf (Read (named (codes "key") 2)))
    ⊳ node (FnDecl (named (codes "sum") 2)) [] (
    one Params (leaf (Param (named (codes "value") 3)))
    ⊳ one Body (one Return (node Object [] (leaf (Shorthand (named (codes "total") 2)) ⊳ leaf (Shorthand (named (codes "value") 3)) ⊳ ε))) ⊳ ε)
    ⊳ declares Const (named (codes "later") 2) (node Arrow [] (leaf Params ⊳ leaf (Read (named (codes "total") 2)) ⊳ ε))
    ⊳ node ExportNamed [] (leaf (ExportSpecifier (named (codes "sum") 2) None) ⊳ leaf (ExportSpecifier (named (codes "later") 2) (Some (codes "last"))) ⊳ ε)
    ⊳ ε)

abbrev property : Text → Name → Tree
property k x = node KeyValue [] (leaf (PlainKey (NameKey k)) ⊳ leaf (Read x) ⊳ ε)

abbrev after : Tree
after = node Module [] (
    one (Import (codes "m")) (leaf (ImportNamed (named (codes "a") 2) (Some (codes "key"))))
    ⊳ declares Let (named (codes "b") 2) (leaf (Read (named (codes "a") 2)))
    ⊳ node (FnDecl (named (codes "c") 2)) [] (
    one Params (leaf (Param (named (codes "a") 3)))
    ⊳ one Body (one Return (node Object [] (property (codes "total") (named (codes "b") 2) ⊳ property (codes "value") (named (codes "a") 3) ⊳ ε))) ⊳ ε)
    ⊳ declares Const (named (codes "d") 2) (node Arrow [] (leaf Params ⊳ leaf (Read (named (codes "b") 2)) ⊳ ε))
    ⊳ node ExportNamed [] (leaf (ExportSpecifier (named (codes "c") 2) (Some (codes "sum"))) ⊳ leaf (ExportSpecifier (named (codes "d") 2) (Some (codes "last"))) ⊳ ε)
    ⊳ ε)

abbrev table : Table
table =
    (named (codes "key") 2, codes "a") ∷ (named (codes "total") 2, codes "b") ∷ (named (codes "sum") 2, codes "c")
    ∷ (named (codes "value") 3, codes "a") ∷ (named (codes "later") 2, codes "d") ∷ []

it_becomes : renamed (new_name table) before ≡ after
unfolding renamed
it_becomes = refl

it_fits : Fits 1 table before
it_fits = record { covers = refl; no_host = refl; apart = refl; exports = refl }

pub it_is_same : Same 1 true before after
it_is_same = subst (Same 1 true before) it_becomes (same_by_table 1 true table before it_fits)

-- let x = 1; let y = 2; export { x as x, y as y }
abbrev two : Tree
two = node Module [] (
    declares Let (named (codes "x") 2) (leaf (NumLit (pos 1)))
    ⊳ declares Let (named (codes "y") 2) (leaf (NumLit (pos 2)))
    ⊳ node ExportNamed [] (leaf (ExportSpecifier (named (codes "x") 2) None) ⊳ leaf (ExportSpecifier (named (codes "y") 2) None) ⊳ ε)
    ⊳ ε)

abbrev bad_table : Table
bad_table = (named (codes "x") 2, codes "a") ∷ (named (codes "y") 2, codes "a") ∷ []

it_does_not_fit : all_apart (targets bad_table) ≡ false
it_does_not_fit = refl

abbrev empty_world : World
empty_world = record { replies = []; natives = λ n k. Undefined; imports = λ m k. record { first = Undefined; later = [] }; namespaces = λ m. Undefined }

seen_before : observe 1 0 0 empty_world [] two ≡ Sees (record { events = []; ending = Finished ((codes "x", Datum (Num (pos 1))) ∷ (codes "y", Datum (Num (pos 2))) ∷ []) [] })
unfolding and_then hand act eval in_scope initialise declare run_all show_exports answers run_items observe_by
seen_before = refl

seen_after : observe 1 0 0 empty_world [] (renamed (new_name bad_table) two) ≡ Sees (record { events = []; ending = Finished ((codes "x", Datum (Num (pos 2))) ∷ (codes "y", Datum (Num (pos 2))) ∷ []) [] })
unfolding and_then hand act eval in_scope initialise declare run_all show_exports answers run_items observe_by renamed
seen_after = refl
