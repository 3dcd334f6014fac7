-- Of names without a number nothing is told.
use Rattle.std.proofs.Common.{◌≡◌, ◌+◌, ◌≤◌, Bool, true, false, not, cond, ◌||◌, ◌&&◌, List, [], ◌∷◌, ◌++◌, length, position, Some, None, refl, sym, ap, ◌∙◌, arith}
use Rattle.std.specs.Prelude.{if◌then◌else◌, fold, nat_lt}
use Rattle.std.specs.List.{position_or_len}
use Rattle.std.proofs.lemmas.Bool.{or_parts, or_from, ltb-false}
use Rattle.std.proofs.lemmas.Option.{none-some}
use Rattle.swc_ast.specs.Tree as tree
use Rattle.swc_ast.specs.Tree.{Name, Label, same_name, Tree, node, Forest, ε, ◌⊳◌}
use Rattle.swc_ast.specs.Scope.{has_name}
use Rattle.static_proofs.proofs.Names.{has_name_append, same_name_path}
use Rattle.swc_names.specs.Names.{own_name, handler_name, mentioned_in, mentioned_behind, mentioned, with_name, distinct}
use Rattle.carry_rules.specs.Carry.{one, how_many, how_many_in}
use Rattle.carry_vars.specs.declared.tally.Fact.{Fact}
use Rattle.carry_vars.specs.Told.{told_name, tells, tells_of}

-- a name that isn't among two lists in a row

apart : (x : Name) (xs ys : List Name) → has_name x (xs ++ ys) ≡ false → (has_name x xs ≡ false) × (has_name x ys ≡ false)
apart x xs ys h = or_parts (has_name x xs) (has_name x ys) (sym (has_name_append x xs ys) ∙ h)

together : (x : Name) (xs ys : List Name) → has_name x xs ≡ false → has_name x ys ≡ false → has_name x (xs ++ ys) ≡ false
together x xs ys h k = has_name_append x xs ys ∙ or_from (has_name x xs) (has_name x ys) h k

behind : (x : Name) (ws : List Name) (cs : Forest) → has_name x (mentioned_behind ws cs) ≡ false → (has_name x ws ≡ false) × (has_name x (mentioned cs) ≡ false)
behind x ws ε h = (h, refl)
behind x ws (t ⊳ ts) h =
    let p = apart x (mentioned_in t) (ws ++ mentioned ts) h in let q = apart x ws (mentioned ts) p.1 in
    (q.0, together x (mentioned_in t) (mentioned ts) p.0 q.1)

told_absent : (x : Name) (l : Label) → has_name x (own_name l) ≡ false → has_name x (handler_name l) ≡ false → has_name x (told_name l) ≡ false
told_absent x (tree.Assign op y) h k = h
told_absent x (tree.Update op prefix y) h k = h
told_absent x (tree.Declarator kind y) h k = h
told_absent x (tree.ImportNamed y o) h k = h
told_absent x (tree.ImportDefault y) h k = h
told_absent x (tree.ImportStar y) h k = h
told_absent x (tree.Param y) h k = h
told_absent x (tree.Fn o) h k = h
told_absent x (tree.FnDecl y) h k = h
told_absent x (tree.ExportDefaultFn o) h k = h
told_absent x (tree.Try o) h k = k
told_absent x l h k = refl

mutual
  pub absent : (f : Fact) (x : Name) (t : Tree) → has_name x (mentioned_in t) ≡ false → how_many (tells_of f x) t ≡ 0
  absent f x (node l ss cs) h =
      let p = apart x (own_name l) (mentioned_behind (handler_name l) cs) h in
      let q = behind x (handler_name l) cs p.1 in
      omega (arith, ap (λ b. one (b && tells f l cs)) (told_absent x l p.0 q.0), absent_in f x cs q.1)

  absent_in : (f : Fact) (x : Name) (ts : Forest) → has_name x (mentioned ts) ≡ false → how_many_in (tells_of f x) ts ≡ 0
  absent_in f x ε h = refl
  absent_in f x (t ⊳ ts) h = let q = apart x (mentioned_in t) (mentioned ts) h in omega (arith, absent f x t q.0, absent_in f x ts q.1)

-- names once each

or_false : (b : Bool) → (b || false) ≡ b
or_false true = refl
or_false false = refl

or_grouped : (a b c : Bool) → ((a || b) || c) ≡ (a || (b || c))
or_grouped true b c = refl
or_grouped false b c = refl

found_again : (x y : Name) (xs : List Name) → has_name y xs ≡ true → same_name x y ≡ true → has_name x xs ≡ true
found_again x y xs is same = ap (λ z. has_name z xs) (same_name_path x y same) ∙ is

with_one : (x y : Name) (xs : List Name) (b c : Bool) → has_name y xs ≡ b → same_name x y ≡ c → has_name x (with_name xs y) ≡ (has_name x xs || same_name x y)
with_one x y xs true true is same =
    let found = found_again x y xs is same in
    ap (λ b. has_name x (if b then xs else xs ++ y ∷ [])) is ∙ found ∙ sym (ap (λ b. b || same_name x y) found)
with_one x y xs true false is same = ap (λ b. has_name x (if b then xs else xs ++ y ∷ [])) is ∙ sym (ap (λ b. has_name x xs || b) same ∙ or_false (has_name x xs))
with_one x y xs false c is same = ap (λ b. has_name x (if b then xs else xs ++ y ∷ [])) is ∙ has_name_append x xs (y ∷ []) ∙ ap (λ b. has_name x xs || b) (or_false (same_name x y))

with_all : (x : Name) (xs ys : List Name) → has_name x (fold with_name xs ys) ≡ (has_name x xs || has_name x ys)
with_all x xs [] = sym (or_false (has_name x xs))
with_all x xs (y ∷ ys) = with_all x (with_name xs y) ys ∙ ap (λ b. b || has_name x ys) (with_one x y xs (has_name y xs) (same_name x y) refl refl) ∙ or_grouped (has_name x xs) (same_name x y) (has_name x ys)

-- names without a number stand nowhere

past_first : (x y : Name) (ys : List Name) (b : Bool) → same_name x y ≡ b → (length ys ≤ position_or_len (same_name x) ys → has_name x ys ≡ false) → length (y ∷ ys) ≤ position_or_len (same_name x) (y ∷ ys) → has_name x (y ∷ ys) ≡ false
past_first x y ys true is rest h = absurd (omega (arith, h, ap (λ b. cond (not b) (1 + position_or_len (same_name x) ys) 0) is))
past_first x y ys false is rest h = ap (λ b. b || has_name x ys) is ∙ rest (omega (arith, h, ap (λ b. cond (not b) (1 + position_or_len (same_name x) ys) 0) is))

past_all : (x : Name) (ns : List Name) → length ns ≤ position_or_len (same_name x) ns → has_name x ns ≡ false
past_all x [] h = refl
past_all x (y ∷ ys) h = past_first x y ys (same_name x y) refl (past_all x ys) h

unnumbered : (x : Name) (ns : List Name) → position (same_name x) ns ≡ None → has_name x ns ≡ false
unnumbered x ns none = by (nat_lt (position_or_len (same_name x) ns) (length ns)) refl
  where
    by : (b : Bool) → nat_lt (position_or_len (same_name x) ns) (length ns) ≡ b → has_name x ns ≡ false
    by true is = absurd (none-some _ (sym none ∙ ap (λ b. cond b (Some (position_or_len (same_name x) ns)) None) is))
    by false is = past_all x ns (ltb-false (position_or_len (same_name x) ns) (length ns) is)

pub unmentioned : (x : Name) (ns ms : List Name) → ns ≡ distinct ms → position (same_name x) ns ≡ None → has_name x ms ≡ false
unmentioned x ns ms is none = sym (with_all x [] ms) ∙ ap (has_name x) (sym is) ∙ unnumbered x ns none
