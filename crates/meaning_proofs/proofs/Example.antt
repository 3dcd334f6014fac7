-- A module before and after, and that both do the same:
--     import { a, b } from 'm';  import { z } from 'n';  const c = 3;  let u = f();
--     export const k = c + 1;  function g(p = undefined) { return a; let w = 1; }  let y = 1;  y = f();  export { g };
-- and
--     import { a } from 'm';  f();  export const k = 4;  function g(p) { return a; }  let y = 1;  f();  export { g };
use Rattle.std.proofs.Common.{◌≡◌, ℕ, pos, Bool, true, false, ◌||◌, [], ◌∷◌, Some, None, refl, ap, cond, codes, if◌then◌else◌}
use Rattle.swc_ast.specs.declared.VarDeclKind.TheVariants.{Let, Const}
use Rattle.swc_ast.specs.declared.BinaryOp.TheVariants.{Add}
use Rattle.swc_ast.specs.Tree.{Name, same_name, Text, Label, NumLit, Read, Binary, Call, Return, ExprStmt, Params, Body, VarDecl, Declarator, FnDecl, Module, Import, ImportNamed, ExportDecl, ExportNamed, ExportSpecifier, Tree, node, Forest, ε, ◌⊳◌, Param, Assign}
use Rattle.swc_ast.specs.Value.{Num}
use Rattle.swc_ast.specs.Scope.{Lexical, has_name}
use Rattle.swc_ast.specs.Operators.{binary_prim}
use Rattle.swc_ast.specs.Meaning.{eval, evals, act, read as read_name}
use Rattle.swc_ast.specs.Run.{exported, Same}
use Rattle.swc_ast.specs.declared.AssignOp.TheVariants.{Assign as Plain}
use Rattle.meaning_proofs.proofs.Loose.{LooseName, assign_loose}
use Rattle.meaning_proofs.specs.Exact.{GivesUndefined}
use Rattle.meaning_proofs.specs.Names.{Names, shown}
use Rattle.meaning_proofs.specs.Roles.{holds_function, SameLists}
use Rattle.meaning_proofs.specs.Rewrites.{no_more, keep, skip, Rewrites, All, nil, cons, drop, drop_rewritten, Listed}
use Rattle.meaning_proofs.proofs.Names.{other_name'}
use Rattle.meaning_proofs.proofs.Laws.{first, last, only_listed, first_listed, list_exact_trims}
use Rattle.meaning_proofs.proofs.Making.{firm_scoped, firm_slack, rebuilt, rebuilt_list, rebuilt_declarators, rebuilt_import, exports_tested, module_same, without_default}
use Rattle.meaning_proofs.proofs.Quiet.{a_number, fits_nothing}
use Rattle.meaning_proofs.proofs.ExpressionRules.{fold_binary}
use Rattle.meaning_proofs.proofs.DeadCode.{ends_return, after_end}
use Rattle.meaning_proofs.proofs.Drops.{Unread, declare_only, declare_fits, other_var}
use Rattle.meaning_proofs.proofs.Idles.{idle_import, import_declares, none_left_declares, none_left_idle}
use Rattle.meaning_proofs.proofs.Constants.{KnownName, inline, inline_fits, idle_known, known_declares}

abbrev named : Text → ℕ → Name
named t k = record { text = t; context = k }

abbrev a : Name
a = named (codes "a") 2

abbrev b : Name
b = named (codes "b") 2

abbrev c : Name
c = named (codes "c") 2

abbrev f : Name
f = named (codes "f") 1

abbrev g : Name
g = named (codes "g") 2

abbrev k : Name
k = named (codes "k") 2

abbrev u : Name
u = named (codes "u") 2

abbrev w : Name
w = named (codes "w") 3

abbrev p : Name
p = named (codes "p") 4

abbrev y : Name
y = named (codes "y") 2

abbrev nothing : Name
nothing = named (codes "undefined") 1

abbrev z : Name
z = named (codes "z") 2

abbrev leaf : Label → Tree
leaf l = node l [] ε

abbrev one : Label → Tree → Tree
one l t = node l [] (t ⊳ ε)

abbrev number : ℕ → Tree
number n = leaf (NumLit (pos n))

abbrev exported_g : Tree
exported_g = one ExportNamed (leaf (ExportSpecifier g None))

abbrev call_f : Tree
call_f = one Call (leaf (Read f))

abbrev before : Forest
before =
    node (Import (codes "m")) [] (leaf (ImportNamed a None) ⊳ leaf (ImportNamed b None) ⊳ ε)
    ⊳ one (Import (codes "n")) (leaf (ImportNamed z None))
    ⊳ one (VarDecl Const) (one (Declarator Const c) (number 3))
    ⊳ one (VarDecl Let) (one (Declarator Let u) call_f)
    ⊳ one ExportDecl (one (VarDecl Const) (one (Declarator Const k) (node (Binary Add) [] (leaf (Read c) ⊳ number 1 ⊳ ε))))
    ⊳ node (FnDecl g) [] (one Params (one (Param p) (leaf (Read nothing))) ⊳ node Body [] (one Return (leaf (Read a)) ⊳ one (VarDecl Let) (one (Declarator Let w) (number 1)) ⊳ ε) ⊳ ε)
    ⊳ one (VarDecl Let) (one (Declarator Let y) (number 1))
    ⊳ one ExprStmt (one (Assign Plain y) call_f)
    ⊳ exported_g ⊳ ε

abbrev after : Forest
after =
    one (Import (codes "m")) (leaf (ImportNamed a None))
    ⊳ one ExprStmt call_f
    ⊳ one ExportDecl (one (VarDecl Const) (one (Declarator Const k) (number 4)))
    ⊳ node (FnDecl g) [] (one Params (leaf (Param p)) ⊳ one Body (one Return (leaf (Read a))) ⊳ ε)
    ⊳ one (VarDecl Let) (one (Declarator Let y) (number 1))
    ⊳ one ExprStmt call_f
    ⊳ exported_g ⊳ ε

-- c is known to hold 3, w never holds anything, and y stays declared
abbrev names : Names
names = record {
  dropped = λ x. has_name x (b ∷ z ∷ c ∷ u ∷ w ∷ []);
  loose = λ x. has_name x (y ∷ []);
  slack = λ x. false;
  guarded = λ x. has_name x (c ∷ w ∷ []);
  guard = λ x. if same_name c x then Some (Num (pos 3)) else None;
}

abbrev Step : Tree → Tree → Type 0
Step = Rewrites names 1 (eval 1)

unread_b : Unread names b
unread_b = record { is_dropped = refl; is_free = refl }

unread_u : Unread names u
unread_u = record { is_dropped = refl; is_free = refl }

unread_z : Unread names z
unread_z = record { is_dropped = refl; is_free = refl }

known_c : KnownName names 1 c (Num (pos 3))
known_c = record { is_guarded = refl; guard = refl; is_bound = refl }

read : (x : Name) → names.dropped x ≡ false → names.loose x ≡ false → Step (leaf (Read x)) (leaf (Read x))
read x e l = rebuilt (Read x) [] [] refl (shown e l) tt tt nil

loose_y : LooseName names y
loose_y = record { is_loose = refl; is_free = refl }

call : Step call_f call_f
call = rebuilt Call [] [] refl tt tt tt (cons (read f refl refl) nil)

-- `c + 1` to `4`
sum : Step (node (Binary Add) [] (leaf (Read c) ⊳ number 1 ⊳ ε)) (number 4)
unfolding binary_prim
sum = last
    (rebuilt (Binary Add) [] [] refl tt tt tt (cons (first (inline 1 c [] known_c (a_number (pos 3) [])) (inline_fits c [] (a_number (pos 3) [])) (rebuilt (NumLit (pos 3)) [] [] refl tt tt tt nil)) (cons (rebuilt (NumLit (pos 1)) [] [] refl tt tt tt nil) nil)))
    (fold_binary 1 Add [] (a_number (pos 3) []) (a_number (pos 1) []) (a_number (pos 4) []) refl)
    (fits_nothing (node (Binary Add) [] (number 3 ⊳ number 1 ⊳ ε)) (number 4) refl refl)

-- what stands behind a `return` goes
dead_names : SameLists names (one Return (leaf (Read a)) ⊳ one (VarDecl Let) (one (Declarator Let w) (number 1)) ⊳ ε) (one Return (leaf (Read a)) ⊳ ε)
dead_names = record {
  vars = λ x keeps z. refl;
  guarded_vars = λ x q e. e;
  declares = λ x keeps. ap (λ b. cond b (Some (Lexical true)) None) (other_name' names.dropped w x refl keeps);
  functions = λ x q e. go (same_name w x);
}
  where
    go : (b : Bool) → holds_function (cond b (Some (Lexical true)) None) ≡ false
    go true = refl
    go false = refl

body : Listed names 1 (eval 1) (one Return (leaf (Read a)) ⊳ one (VarDecl Let) (one (Declarator Let w) (number 1)) ⊳ ε) (one Return (leaf (Read a)) ⊳ ε)
body = first_listed (list_exact_trims (after_end 1 (one Return (leaf (Read a))) (ends_return 1 [] (leaf (Read a) ⊳ ε)) _ ε)) dead_names (only_listed (cons (rebuilt Return [] [] refl tt tt tt (cons (read a refl refl) nil)) nil))

-- `undefined` gives undefined
gives_nothing : GivesUndefined 1 (leaf (Read nothing))
unfolding eval act evals read_name
gives_nothing = record { by = λ n d c s. refl }

-- `p = undefined` to `p`
default_goes : Step (one (Param p) (leaf (Read nothing))) (leaf (Param p))
default_goes = without_default p [] [] refl refl (read nothing refl refl) gives_nothing

free_a : (x : Name) → names.guarded x ≡ true → has_name x (a ∷ []) ≡ false
free_a x q = ap (λ b. b || false) (other_name' names.guarded x a q refl)

items : All names 1 (eval 1) true before after
items =
    cons (rebuilt_import (codes "m") [] [] (keep (ImportNamed a None) free_a (skip (ImportNamed b None) (other_var b unread_b) no_more)))
    (drop (idle_import 1 (codes "n") [] _) (import_declares (codes "n") [] (leaf (ImportNamed z None) ⊳ ε) (other_var z unread_z))
    (drop_rewritten (rebuilt_declarators Const [] [] (drop (idle_known 1 Const c [] refl known_c (a_number (pos 3) [])) (known_declares Const c [] (number 3) refl refl) nil)) (none_left_idle 1 Const []) refl (none_left_declares Const [])
    (cons (first (declare_only 1 Let u [] [] [] call_f unread_u) (declare_fits u unread_u Let [] [] [] _ _) (rebuilt ExprStmt [] [] refl tt tt tt (cons call nil)))
    (cons (rebuilt ExportDecl [] [] refl tt refl tt (cons (rebuilt_declarators Const [] [] (cons (rebuilt (Declarator Const k) [] [] refl (refl, refl) tt tt (cons sum nil)) nil)) nil))
    (cons (rebuilt (FnDecl g) [] [] refl refl tt (firm_scoped names (λ x. refl) (FnDecl g) _ _) (cons (rebuilt Params [] [] refl tt tt tt (cons default_goes nil)) (cons (rebuilt_list Body [] [] refl body) nil)))
    (cons (rebuilt_declarators Let [] [] (cons (rebuilt (Declarator Let y) [] [] refl (refl, refl) tt tt (cons (rebuilt (NumLit (pos 1)) [] [] refl tt tt tt nil) nil)) nil))
    (cons (rebuilt ExprStmt [] [] refl tt tt tt (cons (first (assign_loose 1 y [] call_f refl loose_y) (fits_nothing (one (Assign Plain y) call_f) call_f refl refl) call) nil))
    (cons (rebuilt ExportNamed [] [] refl tt refl tt (cons (rebuilt (ExportSpecifier g None) [] [] refl tt tt tt nil) nil)) nil))))))))

example : Same 1 false (node Module [] before) (node Module [] after)
example = module_same false [] [] items (exports_tested names (exported before) refl) refl (firm_slack names (λ x. refl) before after)
