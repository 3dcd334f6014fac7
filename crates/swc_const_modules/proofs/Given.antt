-- What is read of given texts, module by module.
use Rattle.std.proofs.Common.{◌≡◌, ℕ, ◌⊎◌, inl, inr, Bool, true, false, ◌||◌, cond, List, [], ◌∷◌, bytes_eq, Option, Some, None, is_some, string_bytes, refl, sym, ap, subst, ◌∙◌}
use Rattle.std.proofs.lemmas.Slice.Eq.{bytes_eq-Decides}
use Rattle.std.specs.BTreeMap.{BTreeMap, get_by_text, UpdatesBy}
use Rattle.std.specs.Cmp.Lexicographic.{slice_cmp}
use Rattle.std.specs.Ordering.{nat_cmp}
use Rattle.std.specs.String.{string_cmp}
use Rattle.std.specs.declared.alloc.Global.{Global}
use Rattle.std.specs.declared.string.String.{String}
use Rattle.swc_ast.specs.Tree.{Text}
use Rattle.swc_ast.specs.Views.{expr_tree}
use Rattle.swc_ast.specs.declared.errors.PassError.{PassError}
use Rattle.swc_ast.specs.declared.errors.PassError.TheVariants as error
use Rattle.swc_ast.specs.declared.expressions.Expr.{Expr}
use Rattle.const_imports.specs.Views.{in_exports}
use Rattle.swc_const_modules.specs.Texts.{Texts, AllTexts, Names, NamesOne, IsUnreadable, SameExports, GivesAll, IsValue, AreValues, AllAreValues}
use Rattle.swc_const_modules.proofs.Maps.{at_text, added, first, key_there, Each}

-- refusals

one_of : (s x : Text) (texts : Texts) (e : PassError) → is_some (get_by_text texts x) ≡ true → Names s x e → NamesOne s texts e
one_of s x texts (error.UnreadableValue m y at) h p = (p.0, ap (λ z. is_some (get_by_text texts z)) p.1 ∙ h)
one_of s x texts (error.MissingExport m y) h p = absurd p
one_of s x texts (error.MissingDefault m) h p = absurd p
one_of s x texts (error.BareNamespace n) h p = absurd p
one_of s x texts (error.ReExported n) h p = absurd p
one_of s x texts (error.CyclicGlobals n) h p = absurd p
one_of s x texts error.OutOfMemory h p = absurd p

pub names_one : (s x : Text) (texts : Texts) (e : PassError) → is_some (get_by_text texts x) ≡ true → (e ≡ error.OutOfMemory) ⊎ Names s x e → (e ≡ error.OutOfMemory) ⊎ NamesOne s texts e
names_one s x texts e h (inl m) = inl m
names_one s x texts e h (inr p) = inr (one_of s x texts e h p)

all_of : (s : Text) (texts : Texts) (g : AllTexts) (e : PassError) → get_by_text g s ≡ Some texts → NamesOne s texts e → IsUnreadable g e
all_of s texts g (error.UnreadableValue m y at) h p = ap (λ z. is_some (in_exports (get_by_text g z) (string_bytes y))) p.0 ∙ ap (λ o. is_some (in_exports o (string_bytes y))) h ∙ p.1
all_of s texts g (error.MissingExport m y) h p = absurd p
all_of s texts g (error.MissingDefault m) h p = absurd p
all_of s texts g (error.BareNamespace n) h p = absurd p
all_of s texts g (error.ReExported n) h p = absurd p
all_of s texts g (error.CyclicGlobals n) h p = absurd p
all_of s texts g error.OutOfMemory h p = absurd p

pub names_all : (s : Text) (texts : Texts) (g : AllTexts) (e : PassError) → get_by_text g s ≡ Some texts → (e ≡ error.OutOfMemory) ⊎ NamesOne s texts e → (e ≡ error.OutOfMemory) ⊎ IsUnreadable g e
names_all s texts g e h (inl m) = inl m
names_all s texts g e h (inr p) = inr (all_of s texts g e h p)

pub named_in_loop : {X : Type 0} (o : Option X) (name text : String Global) (s t : List (String Global × String Global)) (source : Text) (texts : Texts) (e : PassError) → s ≡ (name, text) ∷ t → (is_some o || is_some (at_text (string_bytes name) s)) ≡ is_some (get_by_text texts (string_bytes name))
    → (e ≡ error.OutOfMemory) ⊎ Names source (string_bytes name) e → (e ≡ error.OutOfMemory) ⊎ NamesOne source texts e
named_in_loop o name text s t source texts e is h n = names_one source (string_bytes name) texts e (key_there o name text s t (is_some (get_by_text texts (string_bytes name))) is h) n

-- values

-- the values of a module, by its texts
abbrev pub GivesOne : Option Texts → BTreeMap (String Global) Expr → Type 0
GivesOne (Some texts) values = SameExports texts values
GivesOne None values = ⊥

-- a module that was read, or one that is to come
abbrev pub Rest : Option (BTreeMap (String Global) Expr) → Option Texts → Option Texts → Type 0
Rest (Some values) left given = GivesOne given values
Rest None left given = left ≡ given

moved : (k : Bool) (values : BTreeMap (String Global) Expr) (texts : Texts) (o : Option (BTreeMap (String Global) Expr)) (l g : Option Texts) → (k ≡ true → g ≡ Some texts) → SameExports texts values → Rest o (cond k (Some texts) l) g → Rest (cond k (Some values) o) l g
moved true values texts o l g there same h = subst (λ p. GivesOne p values) (sym (there refl)) same
moved false values texts o l g there same h = h

pub module_step : (modules new : BTreeMap (String Global) (BTreeMap (String Global) Expr)) (key name : String Global) (values : BTreeMap (String Global) Expr) (texts : Texts) (s t : List (String Global × Texts)) (g : AllTexts) (x : Text) → string_bytes key ≡ string_bytes name
    → UpdatesBy string_cmp (λ k. slice_cmp nat_cmp (string_bytes key) (string_bytes k)) modules new (Some values) → s ≡ (name, texts) ∷ t → get_by_text g (string_bytes name) ≡ Some texts → SameExports texts values
    → Rest (get_by_text modules x) (at_text x s) (get_by_text g x) → Rest (get_by_text new x) (at_text x t) (get_by_text g x)
module_step modules new key name values texts s t g x same u is there exports h =
    subst (λ o. Rest o (at_text x t) (get_by_text g x)) (sym (added modules new key name values same u x))
    (moved (bytes_eq (string_bytes name) x) values texts (get_by_text modules x) (at_text x t) (get_by_text g x) (λ e. ap (get_by_text g) (sym ((bytes_eq-Decides (string_bytes name) x).0 e)) ∙ there) exports
    (subst (λ l. Rest (get_by_text modules x) l (get_by_text g x)) (ap (at_text x) is ∙ first x name texts t) h))

has_module : (o : Option (BTreeMap (String Global) Expr)) (g : Option Texts) → Rest o None g → is_some o ≡ is_some g
has_module (Some v) (Some t) h = refl
has_module (Some v) None h = absurd h
has_module None None h = refl
has_module None (Some t) h = cc

has_exports : (o : Option (BTreeMap (String Global) Expr)) (g : Option Texts) → Rest o None g → (x : Text) → is_some (in_exports o x) ≡ is_some (in_exports g x)
has_exports (Some v) (Some t) h x = h x
has_exports (Some v) None h x = absurd h
has_exports None None h x = refl
has_exports None (Some t) h x = cc

-- all are read
pub all_given : (modules : BTreeMap (String Global) (BTreeMap (String Global) Expr)) (s : List (String Global × Texts)) (g : AllTexts) → s ≡ [] → ((x : Text) → Rest (get_by_text modules x) (at_text x s) (get_by_text g x)) → GivesAll g (record { modules = modules })
all_given modules s g is h = record { modules = λ x. has_module (get_by_text modules x) (get_by_text g x) (rest x); exports = λ m x. has_exports (get_by_text modules m) (get_by_text g m) (rest m) x }
  where
    rest : (x : Text) → Rest (get_by_text modules x) None (get_by_text g x)
    rest x = subst (λ es. Rest (get_by_text modules x) (at_text x es) (get_by_text g x)) is (h x)

-- all modules are to come
pub all_to_come : (modules : BTreeMap (String Global) (BTreeMap (String Global) Expr)) (g : AllTexts) (s : List (String Global × Texts)) (x : Text) → modules.entries ≡ [] → s ≡ g.entries → Rest (get_by_text modules x) (at_text x s) (get_by_text g x)
all_to_come modules g s x none all = subst (λ es. Rest (at_text x es) (at_text x s) (get_by_text g x)) (sym none) (ap (λ es. at_text x es) all)

-- all are values
pub all_values : (mark : ℕ) (modules : BTreeMap (String Global) (BTreeMap (String Global) Expr)) → Each (AreValues mark) modules → AllAreValues mark (record { modules = modules })
all_values mark modules all s x v h = in_module (get_by_text modules s) (all s) h
  where
    in_module : (o : Option (BTreeMap (String Global) Expr)) → ((values : BTreeMap (String Global) Expr) → o ≡ Some values → AreValues mark values) → in_exports o x ≡ Some v → IsValue mark (expr_tree v)
    in_module (Some values) f e = f values refl x v e
    in_module None f e = cc
