-- Names that are put in a set one by one.
use Rattle.std.proofs.Common.{◌≡◌, ◌-◌, ◌≤◌, Bool, true, false, ◌||◌, if◌then◌else◌, List, [], ◌∷◌, ◌++◌, length, take, drop, get_or, refl, sym, ap, ap₂, ◌∙◌, arith}
use Rattle.std.proofs.lemmas.List.{map-append, take_all}
use Rattle.std.specs.Borrow.{Bor}
use Rattle.std.specs.List.{list_any}
use Rattle.std.specs.Prelude.{fold}
use Rattle.swc_ast.specs.Parts.{ident_name}
use Rattle.swc_ast.specs.declared.names.Ident.{Ident}
use Rattle.swc_ast.specs.Tree.{Name, same_name}
use Rattle.swc_ast.specs.Scope.{has_name}
use Rattle.swc_names.specs.Ids.{Id, id_name, ids, idents}
use Rattle.swc_names.specs.Names.{with_name}
use Rattle.indexmap.specs.IndexSet.{insert_key}

-- equality of names by themselves
abbrev pub same_id : Id → Id → Bool
same_id a b = same_name (id_name a) (id_name b)

pub has_id : (x : Name) (ks : List Id) → list_any (λ k. same_name x (id_name k)) ks ≡ has_name x (ids ks)
has_id x [] = refl
has_id x (k ∷ ks) = ap (λ b. same_name x (id_name k) || b) (has_id x ks)

pub inserted : (ks : List Id) (k : Id) → ids (insert_key same_id ks k) ≡ with_name (ids ks) (id_name k)
inserted ks k = by (list_any (same_id k) ks) refl
  where
    by : (b : Bool) → list_any (same_id k) ks ≡ b → ids (insert_key same_id ks k) ≡ with_name (ids ks) (id_name k)
    by true is = ap (λ b. ids (if b then ks else ks ++ k ∷ [])) is ∙ ap (λ b. if b then ids ks else ids ks ++ id_name k ∷ []) (sym (sym (has_id (id_name k) ks) ∙ is))
    by false is = ap (λ b. ids (if b then ks else ks ++ k ∷ [])) is ∙ map-append id_name ks (k ∷ []) ∙ ap (λ b. if b then ids ks else ids ks ++ id_name k ∷ []) (sym (sym (has_id (id_name k) ks) ∙ is))

-- the name of a value that was made of an identifier
pub named : (i : Id) (n : Ident) → i.0 ≡ n.sym → i.1 ≡ n.ctxt → id_name i ≡ ident_name n
named i n e f = ap₂ (λ t c. let x : Name = record { text = t; context = c } in x) e (ap (λ c. c.0) f)

-- the first of the identifiers that are left, and those behind it
pub first_left : (left : List (Bor Ident)) (n : Bor Ident) → 1 ≤ length left → n ≡ get_or left 0 n → left ≡ n ∷ take (length left - 1) (drop 1 left)
first_left [] n some is = absurd (omega (arith, some))
first_left (m ∷ ms) n some is = ap₂ (λ k ks. k ∷ ks) (sym is) (sym (take_all (length (m ∷ ms) - 1) ms (omega arith)))

-- a name that is among others
pub there : (x y : Name) (ks : List Id) (b : Bool) → y ≡ x → b ≡ list_any (λ k. same_name y (id_name k)) ks → b ≡ true → ids ks ≡ with_name (ids ks) x
there x y ks b same is holds = ap (λ b. if b then ids ks else ids ks ++ x ∷ []) (sym holds ∙ is ∙ has_id y ks ∙ ap (λ z. has_name z (ids ks)) same)

-- a name that was put in
pub put : (n : Ident) (i : Id) (ks ns : List Id) → id_name i ≡ ident_name n → ns ≡ insert_key same_id ks i → ids ns ≡ with_name (ids ks) (ident_name n)
put n i ks ns same made = ap ids made ∙ inserted ks i ∙ ap (with_name (ids ks)) same

-- a step of the loop
pub counted : (left rest : List (Bor Ident)) (n : Bor Ident) (ms ns : List Name) (g : List Name) → left ≡ n ∷ rest → ns ≡ with_name ms (ident_name n.now) → fold with_name ms (idents left) ≡ g → fold with_name ns (idents rest) ≡ g
counted left rest n ms ns g is made h = ap (λ xs. fold with_name xs (idents rest)) made ∙ sym (ap (λ l. fold with_name ms (idents l)) is) ∙ h
