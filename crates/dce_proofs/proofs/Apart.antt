-- Where a resolved core module's own list declares a function, no other function has its name.
use Rattle.std.proofs.Common.{◌≡◌, ℕ, ◌≤◌, Bool, true, false, if◌then◌else◌, List, [], ◌∷◌, Option, Some, None, refl, subst, sym, arith, ◌⊎◌, inl, inr}
use Rattle.std.proofs.lemmas.Bool.{or_cases, false≢true}
use Rattle.swc_ast.specs.declared.Span.{Span}
use Rattle.swc_ast.specs.Core.{IsCore, times_in}
use Rattle.swc_ast.specs.Reach.{declares, item_function}
use Rattle.swc_ast.specs.Resolved.{IsResolved}
use Rattle.swc_ast.specs.Tree.{Name, same_name, Label, FnDecl, ExportDecl, ExportDefaultFn, Module, Tree, node, Forest, ε, ◌⊳◌}
use Rattle.static_proofs.specs.Shaped.{IsShaped}
use Rattle.dce_rules.specs.Apart.{declares_in, declares_among, function_apart, declared_apart, is_of, has_function}
use Rattle.dce_proofs.proofs.Declaring.{declares_by, times, times_all}
use Rattle.dce_proofs.proofs.Once.{one_declared}

one_time : (f h : Name) → same_name f h ≡ true → 1 ≤ times_in f (h ∷ [])
one_time f h e = subst (λ b. 1 ≤ (if b then 1 else 0)) (sym e) (omega arith)

-- a function that an item declares is a node that declares its name

item_counts : (f : Name) (t : Tree) → is_of f (item_function t) ≡ true → 1 ≤ times true f t
item_counts f (node (FnDecl h) ss cs) e = omega (arith, one_time f h e)
item_counts f (node ExportDecl ss (node (FnDecl h) rs cs ⊳ us)) e = omega (arith, one_time f h e)
item_counts f t e = absurd (false≢true e)

label_counts : (f : Name) (l : Label) → declares f l ≡ true → 1 ≤ times_in f (declares_by l true)
label_counts f (FnDecl h) e = one_time f h e
label_counts f (ExportDefaultFn (Some h)) e = one_time f h e
label_counts f l e = absurd (false≢true e)

mutual
  declared_counts : (f : Name) (t : Tree) → declares_in f t ≡ true → 1 ≤ times true f t
  declared_counts f (node l ss cs) e = by_case (or_cases (declares f l) (declares_among f cs) e) (declared_all_counts f cs)
    where
      by_case : (declares f l ≡ true) ⊎ (declares_among f cs ≡ true) → (declares_among f cs ≡ true → 1 ≤ times_all true f cs) → 1 ≤ times true f (node l ss cs)
      by_case (inl i) g = omega (arith, label_counts f l i)
      by_case (inr i) g = omega (arith, g i)

  declared_all_counts : (f : Name) (ts : Forest) → declares_among f ts ≡ true → 1 ≤ times_all true f ts
  declared_all_counts f ε e = absurd (false≢true e)
  declared_all_counts f (t ⊳ ts) e = by_case (or_cases (declares_in f t) (declares_among f ts) e) (declared_counts f t) (declared_all_counts f ts)
    where
      by_case : (declares_in f t ≡ true) ⊎ (declares_among f ts ≡ true) → (declares_in f t ≡ true → 1 ≤ times true f t) → (declares_among f ts ≡ true → 1 ≤ times_all true f ts) → 1 ≤ times_all true f (t ⊳ ts)
      by_case (inl i) g h = omega (arith, g i)
      by_case (inr i) g h = omega (arith, h i)

-- an item that declares a function apart

apart_declares : (f : Name) (t : Tree) (o : Option Name) → function_apart f t o ≡ true → declares_in f t ≡ true
apart_declares f t None e = e
apart_declares f t (Some h) e = go (same_name f h) e
  where
    go : (b : Bool) → (if b then false else declares_in f t) ≡ true → declares_in f t ≡ true
    go false e = e
    go true e = absurd (false≢true e)

not_itself : (f : Name) (t : Tree) (o : Option Name) → is_of f o ≡ true → function_apart f t o ≡ true → ⊥
not_itself f t None i e = false≢true i
not_itself f t (Some h) i e = false≢true (subst (λ b. (if b then false else declares_in f t) ≡ true) i e)

apart_counts : (f : Name) (ts : Forest) → declared_apart f ts ≡ true → 1 ≤ times_all true f ts
apart_counts f ε e = absurd (false≢true e)
apart_counts f (t ⊳ ts) e = by_case (or_cases (function_apart f t (item_function t)) (declared_apart f ts) e) (apart_counts f ts)
  where
    by_case : (function_apart f t (item_function t) ≡ true) ⊎ (declared_apart f ts ≡ true) → (declared_apart f ts ≡ true → 1 ≤ times_all true f ts) → 1 ≤ times_all true f (t ⊳ ts)
    by_case (inl i) g = omega (arith, declared_counts f t (apart_declares f t (item_function t) i))
    by_case (inr i) g = omega (arith, g i)

function_counts : (f : Name) (ts : Forest) → has_function f ts ≡ true → 1 ≤ times_all true f ts
function_counts f ε e = absurd (false≢true e)
function_counts f (t ⊳ ts) e = by_case (or_cases (is_of f (item_function t)) (has_function f ts) e) (function_counts f ts)
  where
    by_case : (is_of f (item_function t) ≡ true) ⊎ (has_function f ts ≡ true) → (has_function f ts ≡ true → 1 ≤ times_all true f ts) → 1 ≤ times_all true f (t ⊳ ts)
    by_case (inl i) g = omega (arith, item_counts f t i)
    by_case (inr i) g = omega (arith, g i)

-- both are two nodes
two_counts : (f : Name) (ts : Forest) → has_function f ts ≡ true → declared_apart f ts ≡ true → 2 ≤ times_all true f ts
two_counts f ε e d = absurd (false≢true e)
two_counts f (t ⊳ ts) e d = by_case (or_cases (is_of f (item_function t)) (has_function f ts) e) (or_cases (function_apart f t (item_function t)) (declared_apart f ts) d) (two_counts f ts)
  where
    by_case : (is_of f (item_function t) ≡ true) ⊎ (has_function f ts ≡ true) → (function_apart f t (item_function t) ≡ true) ⊎ (declared_apart f ts ≡ true) → (has_function f ts ≡ true → declared_apart f ts ≡ true → 2 ≤ times_all true f ts) → 2 ≤ times_all true f (t ⊳ ts)
    by_case (inl i) (inl j) g = absurd (not_itself f t (item_function t) i j)
    by_case (inl i) (inr j) g = omega (arith, item_counts f t i, apart_counts f ts j)
    by_case (inr i) (inl j) g = omega (arith, function_counts f ts i, declared_counts f t (apart_declares f t (item_function t) j))
    by_case (inr i) (inr j) g = omega (arith, g i j)

pub none_apart : {mark : ℕ} (ss : List Span) (ts : Forest) (f : Name) → IsResolved mark (node Module ss ts) → IsCore (node Module ss ts) → IsShaped (node Module ss ts) → has_function f ts ≡ true → declared_apart f ts ≡ false
none_apart ss ts f r o s h = by_bool (declared_apart f ts) (λ d. omega (arith, two_counts f ts h d, one_declared f Module ss ts refl s.shaped o.is_valid o.fits_core (r.bound_once f) (omega (arith, two_counts f ts h d))))
  where
    by_bool : (b : Bool) → (b ≡ true → ⊥) → b ≡ false
    by_bool false g = refl
    by_bool true g = absurd (g refl)
