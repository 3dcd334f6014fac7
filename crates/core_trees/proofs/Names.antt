-- Sets of names, as names are put in and taken out.
use Rattle.std.proofs.Common.{◌≡◌, Bool, true, false, not, cond, ◌==◌, ◌||◌, ◌&&◌, List, [], ◌∷◌, ◌++◌, length, take, drop, get_or, ◌-◌, ◌≤◌, ◌<◌, refl, sym, ap, ap₂, ◌∙◌, arith}
use Rattle.std.proofs.lemmas.Bool.{false≢true}
use Rattle.std.proofs.lemmas.List.{take_all}
use Rattle.std.specs.Cmp.{unsigned_Decides}
use Rattle.std.specs.List.{list_any}
use mathlib.Core.Path.{fun_ext}
use Rattle.swc_ast.specs.Tree.{Name, same_name}
use Rattle.swc_ast.specs.Scope.{has_name}
use Rattle.static_proofs.proofs.Names.{same_name_path, same_name_itself, same_name_swap}
use Rattle.swc_resolved.specs.Names.{name, names}
use Rattle.swc_resolved.specs.declared.names.Name as key
use Rattle.swc_resolved.proofs.Once.{nobody}
use Rattle.swc_resolved.proofs.Sets.{has_key}

-- a borrowed name that is this one
key_of : Name → key.Name
key_of y = record { text = record { ref_ptr = (0, 0); now = y.text }; context = record { 0 = y.context } }

-- its name is this one
named_so : (y : Name) → name (key_of y) ≡ y
unfolding key_of
named_so y = same_name_path (name (key_of y)) y (same_name_itself y)

-- a test that is false for one
taken_out : (b c d e : Bool) → b ≡ d → e ≡ cond b false c → e ≡ (c && not d)
taken_out true true d e is h = h ∙ ap (λ a. true && not a) is
taken_out true false d e is h = h
taken_out false true d e is h = h ∙ ap (λ a. true && not a) is
taken_out false false d e is h = h

-- a set without one name, by what it has of each borrowed name
pub has_less : (k : key.Name) (ks ns : List key.Name) → ((q : key.Name) → list_any (λ j. same_name (name q) (name j)) ns ≡ cond (same_name (name k) (name q)) false (list_any (λ j. same_name (name q) (name j)) ks)) → (y : Name) → has_name y (names ns) ≡ (has_name y (names ks) && not (same_name y (name k)))
has_less k ks ns h y =
    let q = key_of y in let is = named_so y in
    ap (λ z. has_name z (names ns)) (sym is)
    ∙ taken_out (same_name (name k) (name q)) (has_name (name q) (names ks)) (same_name (name q) (name k)) (has_name (name q) (names ns)) (same_name_swap (name k) (name q))
    (sym (has_key (name q) ns) ∙ h q ∙ ap (λ b. cond (same_name (name k) (name q)) false b) (has_key (name q) ks))
    ∙ ap (λ z. has_name z (names ks) && not (same_name z (name k))) is

-- one name that is new, also among those to be taken out again
added : (o f s : Bool) → (s ≡ true → o ≡ false) → ((o || s) && not (f || s)) ≡ (o && not f)
added true true true h = refl
added true true false h = refl
added true false true h = sym (h refl)
added true false false h = refl
added false true true h = refl
added false true false h = refl
added false false true h = refl
added false false false h = refl

-- one name that was there
stayed : (o f s : Bool) → (s ≡ true → o ≡ true) → ((o || s) && not f) ≡ (o && not f)
stayed true f s h = refl
stayed false f true h = absurd (false≢true (h refl))
stayed false f false h = refl

-- where two names are the same, a list has one as it has the other
here_too : (x y : Name) (ms : List Name) (b : Bool) → has_name x ms ≡ b → same_name y x ≡ true → has_name y ms ≡ b
here_too x y ms b is same = ap (λ z. has_name z ms) (same_name_path y x same) ∙ is

or_nothing : (b : Bool) → (b || false) ≡ b
or_nothing true = refl
or_nothing false = refl

pub put_new : (k : key.Name) (ms ns : List Name) (fs gs : List key.Name) → has_name (name k) ms ≡ false → ((y : Name) → has_name y ns ≡ (has_name y ms || same_name y (name k))) → gs ≡ fs ++ (k ∷ []) → (y : Name) → (has_name y ns && not (has_name y (names gs))) ≡ (has_name y ms && not (has_name y (names fs)))
put_new k ms ns fs gs new put is y =
    ap₂ (λ a b. a && not b) (put y) (ap (λ hs. has_name y (names hs)) is ∙ behind fs)
    ∙ added (has_name y ms) (has_name y (names fs)) (same_name y (name k)) (here_too (name k) y ms false new)
  where
    behind : (hs : List key.Name) → has_name y (names (hs ++ (k ∷ []))) ≡ (has_name y (names hs) || same_name y (name k))
    behind [] = or_nothing (same_name y (name k))
    behind (h ∷ hs) = ap (λ b. same_name y (name h) || b) (behind hs) ∙ grouped (same_name y (name h)) (has_name y (names hs)) (same_name y (name k))
      where
        grouped : (a b c : Bool) → (a || (b || c)) ≡ ((a || b) || c)
        grouped true b c = refl
        grouped false b c = refl

pub put_again : (k : key.Name) (ms ns : List Name) (fs : List key.Name) → has_name (name k) ms ≡ true → ((y : Name) → has_name y ns ≡ (has_name y ms || same_name y (name k))) → (y : Name) → (has_name y ns && not (has_name y (names fs))) ≡ (has_name y ms && not (has_name y (names fs)))
put_again k ms ns fs old put y = ap (λ b. b && not (has_name y (names fs))) (put y) ∙ stayed (has_name y ms) (has_name y (names fs)) (same_name y (name k)) (here_too (name k) y ms true old)

-- names that are taken out one by one

rest_is : (x : key.Name) (xs : List key.Name) → take (length (x ∷ xs) - 1) (drop 1 (x ∷ xs)) ≡ xs
rest_is x xs = take_all (length (x ∷ xs) - 1) xs (omega arith)

one_less : (o s r : Bool) → ((o && not s) && not r) ≡ (o && not (s || r))
one_less true true r = refl
one_less true false r = refl
one_less false s r = refl

pub less_step : (left : List key.Name) (ms ns : List Name) (y : Name) (g : Bool) → 1 ≤ length left → has_name y ns ≡ (has_name y ms && not (same_name y (name (get_or left 0 nobody)))) → (has_name y ms && not (has_name y (names left))) ≡ g → (has_name y ns && not (has_name y (names (take (length left - 1) (drop 1 left))))) ≡ g
less_step [] ms ns y g some out h = absurd (omega (arith, some))
less_step (x ∷ xs) ms ns y g some out h =
    ap₂ (λ a rs. a && not (has_name y (names rs))) out (rest_is x xs)
    ∙ one_less (has_name y ms) (same_name y (name x)) (has_name y (names xs)) ∙ h

and_truth : (b : Bool) → b ≡ (b && true)
and_truth true = refl
and_truth false = refl

pub less_end : (ms : List Name) (ns : List key.Name) (y : Name) (g : Bool) → length ns < 1 → (has_name y ms && not (has_name y (names ns))) ≡ g → has_name y ms ≡ g
less_end ms [] y g short h = and_truth (has_name y ms) ∙ h
less_end ms (n ∷ ns) y g short h = absurd (omega (arith, short))

-- the same of all names at once

pub same_at_each : (f g : Name → Bool) → ((x : Name) → f x ≡ g x) → f ≡ g
same_at_each f g h = fun_ext h

-- no name is new yet
pub none_new : (ms : List Name) (fs : List key.Name) (y : Name) → fs ≡ [] → (has_name y ms && not (has_name y (names fs))) ≡ has_name y ms
none_new ms fs y is = ap (λ hs. has_name y ms && not (has_name y (names hs))) is ∙ sym (and_truth (has_name y ms))

pub not_false : (b : Bool) → not b ≡ false → b ≡ true
not_false true h = refl
not_false false h = absurd (false≢true (sym h))

-- a list that is said to be empty
pub none_named : (b : Bool) (ks : List key.Name) → b ≡ (length ks == 0) → b ≡ true → names ks ≡ []
none_named b [] e h = refl
none_named b (k ∷ ks) e h = absurd (let none = (unsigned_Decides (length (k ∷ ks)) 0).0 (sym e ∙ h) in omega (arith, none))
