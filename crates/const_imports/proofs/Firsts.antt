-- The first fault of a node, of nodes in a row, and of a module.
use Rattle.std.proofs.Common.{◌≡◌, ◌≤◌, ◌<◌, ◌+◌, ◌*◌, ℕ, zero, suc, false, List, [], ◌∷◌, ◌++◌, drop, if◌then◌else◌, Option, Some, None, is_some, refl, sym, ap, ◌∙◌, arith}
use Rattle.std.proofs.lemmas.Bool.{false≢true}
use Rattle.swc_ast.specs.Tree.{Name, Label, Tree, node, Forest, ε, ◌⊳◌, label_of, children_of}
use Rattle.swc_ast.specs.declared.errors.PassError.{PassError}
use Rattle.swc_ast.specs.Redex.{is_delete}
use Rattle.tree_visit.proofs.Caps.{tree_size, forest_size, opened_smaller}
use Rattle.const_imports.specs.Faults.{Fault, Has, seen_at, joined, use_faults, each_faults}
use Rattle.const_imports.specs.Locals.{Role}
use Rattle.const_imports.specs.Views.{told, without_first, first_of, fault_of, error_fault, IsFirst}
use Rattle.const_imports.specs.declared.faults.Fault as rust

-- some faults and others behind them

nothing : (o : Option rust.Fault) (xs : List Fault) → told o ≡ first_of xs → is_some o ≡ false → xs ≡ []
nothing None [] e h = refl
nothing None (x ∷ xs) e h = absurd (false≢true (ap is_some e))
nothing (Some f) xs e h = absurd (false≢true (sym h))

pub passes : (o : Option rust.Fault) (xs ys : List Fault) → told o ≡ first_of xs → is_some o ≡ false → first_of (xs ++ ys) ≡ first_of ys
passes o xs ys e h = ap (λ zs. first_of (zs ++ ys)) (nothing o xs e h)

-- an error tells the first
pub tells : (fs : List Fault) (f : rust.Fault) (e : PassError) → Some (fault_of f) ≡ first_of fs → error_fault e ≡ Some (fault_of f) → IsFirst fs e
tells [] f e first h = absurd (false≢true (sym (ap is_some first)))
tells (g ∷ fs) f e first h = h ∙ first

pub none_first : (fs : List Fault) → None ≡ first_of fs → fs ≡ []
none_first [] e = refl
none_first (f ∷ fs) e = absurd (false≢true (ap is_some e))

module _ (has : Has) (role : Name → Role) where
  -- a node that was looked into

  split : (t : Tree) → use_faults has role t ≡ (if is_delete (label_of t) then [] else (seen_at has role (label_of t) (children_of t)).own ++ joined (drop (seen_at has role (label_of t) (children_of t)).skipped (each_faults has role (children_of t))))
  split (node l ss cs) = refl

  split_as : (t : Tree) (l : Label) (cs : Forest) → label_of t ≡ l → children_of t ≡ cs → use_faults has role t ≡ (if is_delete l then [] else (seen_at has role l cs).own ++ joined (drop (seen_at has role l cs).skipped (each_faults has role cs)))
  split_as t l cs labelled held = split t ∙ cc (labelled, held)

  fewer : (n : ℕ) (ts : Forest) → each_faults has role (without_first n ts) ≡ drop n (each_faults has role ts)
  fewer zero ts = refl
  fewer (suc n) ε = refl
  fewer (suc n) (t ⊳ ts) = fewer n ts

  entered : (t : Tree) (l : Label) (cs : Forest) → label_of t ≡ l → children_of t ≡ cs → is_delete l ≡ false → use_faults has role t ≡ (seen_at has role l cs).own ++ joined (drop (seen_at has role l cs).skipped (each_faults has role cs))
  entered t l cs labelled held is = split_as t l cs labelled held ∙ ap (λ b. if b then [] else (seen_at has role l cs).own ++ joined (drop (seen_at has role l cs).skipped (each_faults has role cs))) is

  -- the fault of a child
  pub child_first : (t : Tree) (l : Label) (cs rs : Forest) (o p : Option rust.Fault) → label_of t ≡ l → children_of t ≡ cs → is_delete l ≡ false → told o ≡ first_of (seen_at has role l cs).own → is_some o ≡ false → rs ≡ without_first (seen_at has role l cs).skipped cs → told p ≡ first_of (joined (each_faults has role rs)) → told p ≡ first_of (use_faults has role t)
  child_first t l cs rs o p labelled held is own none rest found = found ∙ ap (λ us. first_of (joined (each_faults has role us))) rest ∙ ap (λ fs. first_of (joined fs)) (fewer (seen_at has role l cs).skipped cs)
      ∙ sym (passes o (seen_at has role l cs).own (joined (drop (seen_at has role l cs).skipped (each_faults has role cs))) own none) ∙ ap first_of (sym (entered t l cs labelled held is))

  -- nodes in a row

  pub ends : (us : Forest) (h : Option Fault) → us ≡ ε → first_of (joined (each_faults has role us)) ≡ h → None ≡ h
  ends us h is found = sym (ap (λ vs. first_of (joined (each_faults has role vs))) is) ∙ found

-- sizes

fewer_smaller : (n : ℕ) (ts : Forest) → forest_size (without_first n ts) ≤ forest_size ts
fewer_smaller zero ts = omega arith
fewer_smaller (suc n) ε = omega arith
fewer_smaller (suc n) (t ⊳ ts) = let h = fewer_smaller n ts in omega (arith, h)

pub children_fall : (t : Tree) (cs rs : Forest) (n : ℕ) → children_of t ≡ cs → rs ≡ without_first n cs → forest_size rs * 2 + 1 < tree_size t * 2
children_fall t cs rs n is rest = let smaller = opened_smaller t cs is in let fewer = fewer_smaller n cs in omega (arith, smaller, fewer, ap forest_size rest)
