-- Changes that are undone.
use Rattle.std.proofs.Common.{◌≡◌, ℕ, zero, suc, ◌+◌, ◌≤◌, Bool, true, false, List, [], ◌∷◌, ◌++◌, length, drop, Option, Some, None, refl, sym, ap, ◌∙◌, arith}
use Rattle.std.specs.Prelude.{if◌then◌else◌, option_map}
use Rattle.std.specs.Borrow.{Bor}
use Rattle.swc_ast.specs.Parts.{ident_name}
use Rattle.swc_ast.specs.Tree.{Name, same_name}
use Rattle.swc_ast.specs.declared.names.Ident.{Ident}
use Rattle.static_proofs.proofs.Names.{same_name_path}
use Rattle.carry_tables.specs.Tables.{undone}

drop_append : {A : Type 0} (h : ℕ) (xs ys : List A) → h ≤ length xs → drop h (xs ++ ys) ≡ drop h xs ++ ys
drop_append zero xs ys i = refl
drop_append (suc h) [] ys i = absurd (omega (arith, i))
drop_append (suc h) (x ∷ xs) ys i = drop_append h xs ys (omega (arith, i))

-- whether there is an item is all that counts
over : (b : Bool) (o : Option ℕ) (t w : ℕ) → option_map (λ s. w) o ≡ option_map (λ s. w) (if b then option_map (λ s. t) o else o)
over true None t w = refl
over true (Some s) t w = refl
over false o t w = refl

-- one change more
undone_append : (cs : List (Bor Ident × ℕ)) (y : Bor Ident) (t : ℕ) (o : Option ℕ) (x : Name) → undone (cs ++ (y, t) ∷ []) o x ≡ undone cs (if same_name (ident_name y.now) x then option_map (λ s. t) o else o) x
undone_append [] y t o x = refl
undone_append (c ∷ cs) y t o x = by (same_name (ident_name c.0.now) x) (undone_append cs y t o x)
  where
    by : (b : Bool) → undone (cs ++ (y, t) ∷ []) o x ≡ undone cs (if same_name (ident_name y.now) x then option_map (λ s. t) o else o) x → (if b then option_map (λ s. c.1) o else undone (cs ++ (y, t) ∷ []) o x) ≡ (if b then option_map (λ s. c.1) (if same_name (ident_name y.now) x then option_map (λ s. t) o else o) else undone cs (if same_name (ident_name y.now) x then option_map (λ s. t) o else o) x)
    by true h = over (same_name (ident_name y.now) x) o t c.1
    by false h = h

was : (b : Bool) (o : Option ℕ) (t w : ℕ) → (b ≡ true → o ≡ Some t) → (if b then option_map (λ s. t) (option_map (λ s. if b then w else s) o) else option_map (λ s. if b then w else s) o) ≡ o
was true o t w h = ap (λ p. option_map (λ s. t) (option_map (λ s. w) p)) (h refl) ∙ sym (h refl)
was false None t w h = refl
was false (Some s) t w h = refl

-- a change that is noted
pub noted : (log : List (Bor Ident × ℕ)) (h : ℕ) (y : Bor Ident) (t w : ℕ) (u v : Name → Option ℕ) → h ≤ length log → u (ident_name y.now) ≡ Some t → ((x : Name) → v x ≡ option_map (λ s. if same_name (ident_name y.now) x then w else s) (u x)) → (x : Name)
    → undone (drop h (log ++ (y, t) ∷ [])) (v x) x ≡ undone (drop h log) (u x) x
noted log h y t w u v i is made x =
    ap (λ cs. undone cs (v x) x) (drop_append h log ((y, t) ∷ []) i)
    ∙ undone_append (drop h log) y t (v x) x
    ∙ ap (λ o. undone (drop h log) o x) (ap (λ o. if same_name (ident_name y.now) x then option_map (λ s. t) o else o) (made x) ∙ was (same_name (ident_name y.now) x) (u x) t w (λ e. ap u (sym (same_name_path (ident_name y.now) x e)) ∙ is))

back : (b : Bool) (o : Option ℕ) (t : ℕ) → option_map (λ s. if b then t else s) o ≡ (if b then option_map (λ s. t) o else o)
back true o t = refl
back false None t = refl
back false (Some s) t = refl

-- a change that is undone
pub popped : (log : List (Bor Ident × ℕ)) (h : ℕ) (y : Bor Ident) (t : ℕ) (u v : Name → Option ℕ) → h ≤ length log → ((x : Name) → v x ≡ option_map (λ s. if same_name (ident_name y.now) x then t else s) (u x)) → (x : Name)
    → undone (drop h log) (v x) x ≡ undone (drop h (log ++ (y, t) ∷ [])) (u x) x
popped log h y t u v i made x =
    ap (λ o. undone (drop h log) o x) (made x ∙ back (same_name (ident_name y.now) x) (u x) t)
    ∙ sym (undone_append (drop h log) y t (u x) x)
    ∙ sym (ap (λ cs. undone cs (u x) x) (drop_append h log ((y, t) ∷ []) i))

pub one_longer : {A : Type 0} (xs : List A) (y : A) → length (xs ++ y ∷ []) ≡ length xs + 1
one_longer [] y = refl
one_longer (x ∷ xs) y = let e = one_longer xs y in omega (arith, e)
