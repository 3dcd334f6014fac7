-- What maps have at texts once an entry is put in.
use Rattle.std.proofs.Common.{◌≡◌, Bool, true, false, ◌&&◌, ◌||◌, if◌then◌else◌, [], bytes_eq, Option, Some, None, is_some, option_map, string_bytes, refl, sym, ap, ◌∙◌}
use Rattle.std.proofs.lemmas.Map.Text.{btree_map_updates_text}
use Rattle.std.proofs.lemmas.Slice.Eq.{bytes_eq-Decides}
use Rattle.std.specs.BTreeMap.{BTreeMap, get_by_text, is_at, UpdatesBy}
use Rattle.std.specs.Cmp.Lexicographic.{slice_cmp}
use Rattle.std.specs.Map.{lookup}
use Rattle.std.specs.Ordering.{nat_cmp}
use Rattle.std.specs.String.{string_cmp}
use Rattle.std.specs.declared.alloc.Global.{Global}
use Rattle.std.specs.declared.string.String.{String}
use Rattle.swc_ast.specs.Tree.{Text, Tree}
use Rattle.const_imports.specs.Views.{in_exports}

-- an entry is put in, or taken out, at a text
abbrev pub Changes : {X : Type 0} → Text → BTreeMap (String Global) X → BTreeMap (String Global) X → Option X → Type 0
Changes t m n o = UpdatesBy string_cmp (λ q. slice_cmp nat_cmp t (string_bytes q)) m n o

-- the value at a text, once an entry of that text is put in
added : {X : Type 0} (m n : BTreeMap (String Global) X) (key : String Global) (v : X) (t : Text) → string_bytes key ≡ t → Changes (string_bytes key) m n (Some v) → (x : Text) → get_by_text n x ≡ (if bytes_eq t x then Some v else get_by_text m x)
added m n key v t is u x = btree_map_updates_text (string_bytes key) m n (Some v) u x ∙ ap (λ b. if bytes_eq b x then Some v else get_by_text m x) is

mapped : {X Y : Type 0} (f : X → Y) (b : Bool) (v : X) (o : Option X) → option_map f (if b then Some v else o) ≡ (if b then Some (f v) else option_map f o)
mapped f true v o = refl
mapped f false v o = refl

-- the same of what is told of values
pub told : {X Y : Type 0} (f : X → Y) (m n : BTreeMap (String Global) X) (key : String Global) (v : X) (w : Y) (t : Text) → string_bytes key ≡ t → f v ≡ w → Changes (string_bytes key) m n (Some v) → (x : Text) → option_map f (get_by_text n x) ≡ (if bytes_eq t x then Some w else option_map f (get_by_text m x))
told f m n key v w t is tells u x =
    ap (option_map f) (added m n key v t is u x) ∙ mapped f (bytes_eq t x) v (get_by_text m x)
    ∙ ap (λ y. if bytes_eq t x then Some y else option_map f (get_by_text m x)) tells

again : {X : Type 0} (b : Bool) (v : X) (o : Option X) → (if b then Some v else if b then None else o) ≡ (if b then Some v else o)
again true v o = refl
again false v o = refl

there : {X : Type 0} (b : Bool) (v : X) (o : Option X) → is_some (if b then Some v else o) ≡ (b || is_some o)
there true v o = refl
there false v o = refl

-- the exports of a module are taken out, and put in again with one more
module _ {V : Type 0} (m0 m1 m2 : BTreeMap (String Global) (BTreeMap (String Global) V)) (e0 e1 : BTreeMap (String Global) V) (source name : String Global) (v : V) (s n : Text) (source_is : string_bytes source ≡ s) (name_is : string_bytes name ≡ n)
    (out : Changes s m0 m1 None) (inner : Changes (string_bytes name) e0 e1 (Some v)) (into : Changes (string_bytes source) m1 m2 (Some e1)) where
  at_module : (x : Text) → get_by_text m2 x ≡ (if bytes_eq s x then Some e1 else get_by_text m0 x)
  at_module x =
      added m1 m2 source e1 s source_is into x ∙ ap (λ o. if bytes_eq s x then Some e1 else o) (btree_map_updates_text s m0 m1 None out x)
      ∙ again (bytes_eq s x) e1 (get_by_text m0 x)

  pub given_after : (x : Text) → is_some (get_by_text m2 x) ≡ (bytes_eq s x || is_some (get_by_text m0 x))
  given_after x = ap is_some (at_module x) ∙ there (bytes_eq s x) e1 (get_by_text m0 x)

  pub exports_after : ((y : Text) → get_by_text e0 y ≡ in_exports (get_by_text m0 s) y) → (f : V → Tree) (x y : Text) → option_map f (in_exports (get_by_text m2 x) y) ≡ (if bytes_eq s x && bytes_eq n y then Some (f v) else option_map f (in_exports (get_by_text m0 x) y))
  exports_after was f x y = ap (λ o. option_map f (in_exports o y)) (at_module x) ∙ by (bytes_eq s x) refl
    where
      by : (b : Bool) → bytes_eq s x ≡ b → option_map f (in_exports (if b then Some e1 else get_by_text m0 x) y) ≡ (if b && bytes_eq n y then Some (f v) else option_map f (in_exports (get_by_text m0 x) y))
      by true e =
          told f e0 e1 name v (f v) n name_is refl inner y
          ∙ ap (λ o. if bytes_eq n y then Some (f v) else option_map f o) (was y ∙ ap (λ z. in_exports (get_by_text m0 z) y) ((bytes_eq-Decides s x).0 e))
      by false e = refl

-- what a module had, whose exports were taken out
module _ {V : Type 0} (m : BTreeMap (String Global) (BTreeMap (String Global) V)) (taken : Option (BTreeMap (String Global) V)) (s : Text) (e f : BTreeMap (String Global) V) (value : taken ≡ get_by_text m s) (same : e ≡ f) where
  pub had : taken ≡ Some f → (y : Text) → get_by_text e y ≡ in_exports (get_by_text m s) y
  had is y = ap (λ x. get_by_text x y) same ∙ ap (λ o. in_exports o y) (sym is ∙ value)

  pub had_none : taken ≡ None → f.entries ≡ [] → (y : Text) → get_by_text e y ≡ in_exports (get_by_text m s) y
  had_none is empty y = ap (λ x. get_by_text x y) same ∙ ap (λ es. lookup (is_at (λ q. slice_cmp nat_cmp y (string_bytes q))) es) empty ∙ ap (λ o. in_exports o y) (sym is ∙ value)
