-- The locals of one text tell all of a name of this text.
use Rattle.std.proofs.Common.{◌≡◌, ℕ, Bool, true, false, ◌&&◌, ◌==◌, cond, List, [], ◌∷◌, ◌++◌, if◌then◌else◌, bytes_eq, Option, Some, None, option_map, HashMap, refl, sym, ap, ◌∙◌}
use Rattle.std.proofs.lemmas.List.{map-append}
use Rattle.std.proofs.lemmas.Map.Text.{hash_map_updates_str}
use Rattle.std.proofs.lemmas.Slice.Eq.{bytes_eq-Decides}
use Rattle.std.specs.Borrow.{Bor}
use Rattle.std.specs.HashMap.{get_by, UpdatesBy}
use Rattle.std.specs.declared.alloc.Global.{Global}
use Rattle.std.specs.declared.vec.Vec.{Vec}
use mathlib.Core.Path.{fun_ext}
use Rattle.swc_ast.specs.Tree.{Text, Name, same_name}
use Rattle.const_imports.specs.Locals.{Local, own_role, role_in, export_name}
use Rattle.const_imports.specs.Views.{local_of, locals_of, of_text, group_in, group_of, roles_of, or_value, value_at, member_at, constant_in, member_in}
use Rattle.const_imports.specs.declared.imports.Local as rust
use Rattle.const_imports.specs.declared.table.Locals.{Locals}

-- look-ups

pub role_grouped : (ls : List Local) (x : Name) → role_in (of_text x.text ls) x ≡ role_in ls x
role_grouped [] x = refl
role_grouped (l ∷ ls) x = by (role_grouped ls x) (bytes_eq l.name.text x.text) refl
  where
    by : role_in (of_text x.text ls) x ≡ role_in ls x → (b : Bool) → bytes_eq l.name.text x.text ≡ b → role_in (if b then l ∷ of_text x.text ls else of_text x.text ls) x ≡ role_in (l ∷ ls) x
    by h true e = ap (λ r. if same_name l.name x then own_role l.source l.imported else r) h
    by h false e = h ∙ sym (ap (λ b. if b && (l.name.context == x.context) then own_role l.source l.imported else role_in ls x) e)

module _ {V : Type 0} (value : Text → Text → Option V) where
  pub constant_grouped : (ls : List Local) (x : Name) → constant_in value (of_text x.text ls) x ≡ constant_in value ls x
  constant_grouped [] x = refl
  constant_grouped (l ∷ ls) x = by (constant_grouped ls x) (bytes_eq l.name.text x.text) refl
    where
      own : Bool → Option V
      own b = if b then value_at value l.source (export_name l.imported) else None

      by : constant_in value (of_text x.text ls) x ≡ constant_in value ls x → (b : Bool) → bytes_eq l.name.text x.text ≡ b → constant_in value (if b then l ∷ of_text x.text ls else of_text x.text ls) x ≡ constant_in value (l ∷ ls) x
      by h true e = ap (or_value (own (same_name l.name x))) h
      by h false e = h ∙ sym (ap (λ b. or_value (own (b && (l.name.context == x.context))) (constant_in value ls x)) e)

  pub member_grouped : (ls : List Local) (x : Name) (m : Text) → member_in value (of_text x.text ls) x m ≡ member_in value ls x m
  member_grouped [] x m = refl
  member_grouped (l ∷ ls) x m = by (member_grouped ls x m) (bytes_eq l.name.text x.text) refl
    where
      own : Bool → Option V
      own b = if b then member_at value l.source l.imported m else None

      by : member_in value (of_text x.text ls) x m ≡ member_in value ls x m → (b : Bool) → bytes_eq l.name.text x.text ≡ b → member_in value (if b then l ∷ of_text x.text ls else of_text x.text ls) x m ≡ member_in value (l ∷ ls) x m
      by h true e = ap (or_value (own (same_name l.name x))) h
      by h false e = h ∙ sym (ap (λ b. or_value (own (b && (l.name.context == x.context))) (member_in value ls x m)) e)

-- the table

module _ {S : Type 0} (m n : HashMap (Bor (List ℕ)) (Vec rust.Local Global) S) (bs t : Text) where
  -- the locals of a text are taken out
  pub taken_out : UpdatesBy (λ x y. bytes_eq x.now y.now) (λ k. bytes_eq bs k.now) m n None → group_in (option_map (λ g. g.items) (get_by (λ k. bytes_eq t k.now) n)) ≡ (if bytes_eq bs t then [] else group_in (option_map (λ g. g.items) (get_by (λ k. bytes_eq t k.now) m)))
  taken_out u = ap (λ o. group_in (option_map (λ g. g.items) o)) (hash_map_updates_str bs m n None u t) ∙ by (bytes_eq bs t)
    where
      by : (b : Bool) → group_in (option_map (λ g. g.items) (cond b None (get_by (λ k. bytes_eq t k.now) m))) ≡ (if b then [] else group_in (option_map (λ g. g.items) (get_by (λ k. bytes_eq t k.now) m)))
      by true = refl
      by false = refl

  -- they are put in
  pub put_back : (v : Vec rust.Local Global) → UpdatesBy (λ x y. bytes_eq x.now y.now) (λ k. bytes_eq bs k.now) m n (Some v) → group_in (option_map (λ g. g.items) (get_by (λ k. bytes_eq t k.now) n)) ≡ (if bytes_eq bs t then locals_of v.items else group_in (option_map (λ g. g.items) (get_by (λ k. bytes_eq t k.now) m)))
  put_back v u = ap (λ o. group_in (option_map (λ g. g.items) o)) (hash_map_updates_str bs m n (Some v) u t) ∙ by (bytes_eq bs t)
    where
      by : (b : Bool) → group_in (option_map (λ g. g.items) (cond b (Some v) (get_by (λ k. bytes_eq t k.now) m))) ≡ (if b then locals_of v.items else group_in (option_map (λ g. g.items) (get_by (λ k. bytes_eq t k.now) m)))
      by true = refl
      by false = refl

-- one is added
pub one_added : (old : Text → List Local) (bs cs t : Text) (mid new : List Local) (gs : List rust.Local) (l : rust.Local) → cs ≡ bs → mid ≡ (if bytes_eq cs t then [] else old t) → new ≡ (if bytes_eq cs t then locals_of (gs ++ l ∷ []) else mid) → locals_of gs ≡ old cs → new ≡ (if bytes_eq bs t then old t ++ local_of l ∷ [] else old t)
one_added old bs cs t mid new gs l same out put own = put ∙ ap (λ ms. if bytes_eq cs t then locals_of (gs ++ l ∷ []) else ms) out ∙ by (bytes_eq cs t) refl ∙ ap (λ us. if bytes_eq us t then old t ++ local_of l ∷ [] else old t) same
  where
    by : (b : Bool) → bytes_eq cs t ≡ b → (if b then locals_of (gs ++ l ∷ []) else (if b then [] else old t)) ≡ (if b then old t ++ local_of l ∷ [] else old t)
    by true e = map-append local_of gs (l ∷ []) ∙ ap (λ ls. ls ++ local_of l ∷ []) (own ∙ ap old ((bytes_eq-Decides cs t).0 e))
    by false e = refl

-- what a table tells of all names
pub roles_are : (t : Locals) (ls : List Local) → ((y : Text) → group_of t y ≡ of_text y ls) → roles_of t ≡ (λ x. role_in ls x)
roles_are t ls h = fun_ext (λ x. ap (λ gs. role_in gs x) (h x.text) ∙ role_grouped ls x)
