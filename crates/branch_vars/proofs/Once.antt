-- Names that are declared one by one, each where it stands first.
use Rattle.std.proofs.Common.{◌≡◌, ◌-◌, ◌≤◌, ◌<◌, Bool, true, false, not, ◌||◌, ◌==◌, if◌then◌else◌, List, [], ◌∷◌, ◌++◌, length, take, drop, get_or, refl, sym, ap, ap₂, subst, ◌∙◌, arith}
use Rattle.std.proofs.lemmas.List.{map-append, take_all}
use Rattle.std.specs.Borrow.{Bor}
use Rattle.std.specs.List.{list_any}
use Rattle.std.specs.Prelude.{ℕ, map, Some}
use Rattle.std.specs.Cmp.{unsigned_Decides}
use Rattle.swc_ast.specs.Parts.{ident_name, list_trees}
use Rattle.swc_ast.specs.declared.names.Ident.{Ident}
use Rattle.swc_ast.specs.declared.names.SyntaxContext.{SyntaxContext}
use Rattle.swc_ast.specs.Tree.{Text, Name, same_name, VarDecl as VarLabel, node, Forest, ε, ◌⊳◌}
use Rattle.swc_ast.specs.Scope.{has_name, joined}
use Rattle.swc_ast.specs.SameLaws.{impossible}
use Rattle.swc_ast.specs.Statements.{declarator_tree}
use Rattle.swc_ast.specs.Views.{expr_tree, stmt_tree}
use Rattle.swc_ast.specs.declared.VarDeclKind.TheVariants.{Var}
use Rattle.swc_ast.specs.declared.declarations.VarDecl.{VarDecl}
use Rattle.swc_ast.specs.declared.declarations.VarDeclarator.{VarDeclarator}
use Rattle.swc_ast.specs.declared.expressions.Expr.{Expr}
use Rattle.swc_ast.specs.declared.declarations.Decl.TheVariants as in_decl
use Rattle.swc_ast.specs.declared.statements.Stmt.TheVariants as in_stmt
use Rattle.swc_ast.proofs.Equations.{stmt_tree-Decl, decl_tree-Var}
use Rattle.swc_utils.specs.Pure.{no_trees}
use Rattle.swc_utils.proofs.Chains.{joined_none, joined_assoc}
use Rattle.indexmap.specs.IndexSet.{insert_key}
use Rattle.branch_rules.specs.Vars.{each_once, Unset, no_more, one_more, Declares, none_declared, some_declared}
use Rattle.branch_vars.specs.Names.{names_of, nowhere, statements, unset, unset_one}

-- a name by itself
abbrev pub Id : Type 0
Id = Text × SyntaxContext

abbrev pub id_name : Id → Name
id_name i = record { text = i.0; context = i.1.0 }

abbrev pub ids : List Id → List Name
ids = map id_name

abbrev pub same_id : Id → Id → Bool
same_id a b = same_name (id_name a) (id_name b)

-- the name of a value that was made of an identifier
pub named : (i : Id) (n : Ident) → i.0 ≡ n.sym → i.1 ≡ n.ctxt → id_name i ≡ ident_name n
named i n e f = ap₂ (λ t c. let x : Name = record { text = t; context = c } in x) e (ap (λ c. c.0) f)

has_id : (x : Name) (ks : List Id) → list_any (λ k. same_name x (id_name k)) ks ≡ has_name x (ids ks)
has_id x [] = refl
has_id x (k ∷ ks) = ap (λ b. same_name x (id_name k) || b) (has_id x ks)

or_turned : (a b : Bool) → (a || b) ≡ (b || a)
or_turned true true = refl
or_turned true false = refl
or_turned false true = refl
or_turned false false = refl

or_grouped : (a b c : Bool) → (a || (b || c)) ≡ ((a || b) || c)
or_grouped true b c = refl
or_grouped false b c = refl

-- lists that have the same names
abbrev Alike : List Name → List Name → Type 0
Alike xs ys = (x : Name) → has_name x xs ≡ has_name x ys

has_pushed : (x n : Name) (ks : List Name) → has_name x (ks ++ n ∷ []) ≡ (has_name x ks || same_name x n)
has_pushed x n [] = or_turned (same_name x n) false
has_pushed x n (k ∷ ks) = ap (λ b. same_name x k || b) (has_pushed x n ks) ∙ or_grouped (same_name x k) (has_name x ks) (same_name x n)

one_more_name : (n : Name) (ks : List Name) → Alike (n ∷ ks) (ks ++ n ∷ [])
one_more_name n ks x = or_turned (same_name x n) (has_name x ks) ∙ sym (has_pushed x n ks)

alike : (us vs xs : List Name) → Alike us vs → each_once us xs ≡ each_once vs xs
alike us vs [] h = refl
alike us vs (x ∷ xs) h =
    ap (λ b. if b then each_once us xs else x ∷ each_once (x ∷ us) xs) (h x)
    ∙ ap₂ (λ ys zs. if has_name x vs then ys else x ∷ zs) (alike us vs xs h) (alike (x ∷ us) (x ∷ vs) xs (λ y. ap (λ b. same_name y x || b) (h y)))

-- what is left to declare of names, those of a set being declared already
abbrev pub to_declare : List Id → List Name → Forest
to_declare ks xs = unset (each_once (ids ks) xs)

-- a name that was seen
pub seen_on : (ks ns : List Id) (i : Id) (n : Name) (xs : List Name) (d g : Forest) → id_name i ≡ n → ns ≡ insert_key same_id ks i → list_any (same_id i) ks ≡ true → joined d (to_declare ks (n ∷ xs)) ≡ g → joined d (to_declare ns xs) ≡ g
seen_on ks ns i n xs d g same made is h =
    ap (λ ms. joined d (to_declare ms xs)) (made ∙ ap (λ b. if b then ks else ks ++ i ∷ []) is)
    ∙ ap (λ b. joined d (unset (if b then each_once (ids ks) xs else n ∷ each_once (n ∷ ids ks) xs))) (sym (sym (ap (λ y. has_name y (ids ks)) same) ∙ sym (has_id (id_name i) ks) ∙ is))
    ∙ h

-- a name that is new
pub new_on : (ks ns : List Id) (i : Id) (n : Name) (xs : List Name) (d e g : Forest) → id_name i ≡ n → ns ≡ insert_key same_id ks i → list_any (same_id i) ks ≡ false → e ≡ joined d (unset_one n ⊳ ε) → joined d (to_declare ks (n ∷ xs)) ≡ g → joined e (to_declare ns xs) ≡ g
new_on ks ns i n xs d e g same made is pushed h =
    ap₂ (λ c ms. joined c (unset (each_once ms xs))) pushed (ap ids (made ∙ ap (λ b. if b then ks else ks ++ i ∷ []) is) ∙ map-append id_name ks (i ∷ []) ∙ ap (λ y. ids ks ++ y ∷ []) same)
    ∙ joined_assoc d (unset_one n ⊳ ε) (unset (each_once (ids ks ++ n ∷ []) xs))
    ∙ ap (λ ys. joined d (unset_one n ⊳ unset ys)) (sym (alike (n ∷ ids ks) (ids ks ++ n ∷ []) xs (one_more_name n (ids ks))))
    ∙ ap (λ b. joined d (unset (if b then each_once (ids ks) xs else n ∷ each_once (n ∷ ids ks) xs))) (sym (sym (ap (λ y. has_name y (ids ks)) same) ∙ sym (has_id (id_name i) ks) ∙ is))
    ∙ h

pub unset_is : (xs : List Name) → Unset xs (unset xs)
unset_is [] = no_more
unset_is (x ∷ xs) = one_more x (nowhere ∷ nowhere ∷ []) (unset_is xs)

pub not_true : (b : Bool) → not b ≡ true → b ≡ false
not_true true h = impossible h
not_true false h = refl

pub not_false : (b : Bool) → not b ≡ false → b ≡ true
not_false true h = refl
not_false false h = impossible (sym h)

-- the first of the identifiers that are left, and those behind it
pub first_left : (left : List (Bor Ident)) (n : Bor Ident) → 1 ≤ length left → n ≡ get_or left 0 n → left ≡ n ∷ take (length left - 1) (drop 1 left)
first_left [] n some is = absurd (omega (arith, some))
first_left (m ∷ ms) n some is = ap₂ (λ k ks. k ∷ ks) (sym is) (sym (take_all (length (m ∷ ms) - 1) ms (omega arith)))

-- no identifier is left
pub all_done : (ks : List Id) (left : List (Bor Ident)) (d g : Forest) → length left < 1 → joined d (to_declare ks (names_of left)) ≡ g → d ≡ g
all_done ks [] d g none h = sym (joined_none d) ∙ h
all_done ks (n ∷ ns) d g none h = absurd (omega (arith, none))

-- the declarators of a declaration
abbrev bare_trees : List (VarDeclarator Expr) → Forest
bare_trees ds = list_trees (declarator_tree expr_tree Var) ds

pub nothing_declared : (xs : List Name) (ds : List (VarDeclarator Expr)) (n : ℕ) → bare_trees ds ≡ unset xs → n ≡ length ds → (n == 0) ≡ true → Declares xs ε
nothing_declared [] ds n is len none = none_declared
nothing_declared (x ∷ xs) [] n is len none = impossible (sym (ap no_trees is))
nothing_declared (x ∷ xs) (d ∷ ds) n is len none = absurd (omega (arith, len, (unsigned_Decides n 0).0 none))

pub all_declared : (xs : List Name) (v : VarDecl Expr) (n : ℕ) → v.kind ≡ Var → bare_trees v.decls.items ≡ unset xs → n ≡ length v.decls.items → (n == 0) ≡ false → Declares xs (statements (Some (in_stmt.Decl (in_decl.Var v))))
all_declared xs v n kind is len some = subst (Declares xs) (sym (ap (λ t. t ⊳ ε) tree_is)) (declares xs v.decls.items is len)
  where
    tree_is : stmt_tree (in_stmt.Decl (in_decl.Var v)) ≡ node (VarLabel Var) (v.span ∷ []) (unset xs)
    tree_is = stmt_tree-Decl (in_decl.Var v) ∙ decl_tree-Var v ∙ ap (λ k. node (VarLabel k) (v.span ∷ []) (list_trees (declarator_tree expr_tree k) v.decls.items)) kind ∙ ap (node (VarLabel Var) (v.span ∷ [])) is

    declares : (ys : List Name) (ds : List (VarDeclarator Expr)) → bare_trees ds ≡ unset ys → n ≡ length ds → Declares ys (node (VarLabel Var) (v.span ∷ []) (unset ys) ⊳ ε)
    declares [] [] h l = impossible (sym some ∙ (unsigned_Decides n 0).1 l)
    declares [] (d ∷ ds) h l = impossible (ap no_trees h)
    declares (y ∷ ys) ds h l = some_declared (v.span ∷ []) (unset_is (y ∷ ys))
