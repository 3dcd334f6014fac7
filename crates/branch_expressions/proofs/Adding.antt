-- What is left of expressions in a row, part by part.
use Rattle.std.proofs.Common.{◌≡◌, ℕ, ◌+◌, ◌<◌, ◌≤◌, Bool, true, false, ◌||◌, List, [], ◌∷◌, ◌++◌, length, take, get_or, Option, Some, None, refl, sym, ap, subst, ◌∙◌}
use Rattle.std.proofs.lemmas.List.{take_all, take_more}
use Rattle.swc_ast.specs.declared.Span.{Span}
use Rattle.swc_ast.specs.declared.expressions.Expr.{Expr}
use Rattle.swc_ast.specs.Parts.{list_trees}
use Rattle.swc_ast.specs.Scope.{joined}
use Rattle.swc_ast.specs.Tree as tree
use Rattle.swc_ast.specs.Tree.{Tree, node, Forest, ε, ◌⊳◌}
use Rattle.swc_ast.specs.Views.{expr_tree}
use Rattle.swc_utils.proofs.Chains.{joined_assoc, joined_none, pushed}
use Rattle.branch_rules.specs.Ignored.{Ignores, IgnoresAll, Opens, stays, opened, sequence, as_one, none_left, one_goes, one_left, one_opens}
use Rattle.branch_expressions.specs.Left.{Adds, tree_of}

pub or_assoc : (a b c : Bool) → (a || (b || c)) ≡ ((a || b) || c)
or_assoc true b c = refl
or_assoc false b c = refl

pub or_none : (a : Bool) → (a || false) ≡ a
or_none true = refl
or_none false = refl

-- two rows, one behind the other
pub both_rows : (mark : ℕ) (c d : Bool) (ts us xs ys : Forest) → IgnoresAll mark c ts us → IgnoresAll mark d xs ys → IgnoresAll mark (c || d) (joined ts xs) (joined us ys)
both_rows mark c d ts us xs ys none_left k = k
both_rows mark c d ts us xs ys (one_goes {c = e} t {ts = rs} {us = vs} h g) k = one_goes t h (both_rows mark e d rs vs xs ys g k)
both_rows mark c d ts us xs ys (one_left {c = a} {d = e} t u {ts = rs} {us = vs} h g) k = subst (λ b. IgnoresAll mark b (t ⊳ joined rs xs) (u ⊳ joined vs ys)) (or_assoc a e d) (one_left t u h (both_rows mark e d rs vs xs ys g k))
both_rows mark c d ts us xs ys (one_opens {d = e} t ss ws {ts = rs} {us = vs} h g) k = subst (IgnoresAll mark true (t ⊳ joined rs xs)) (sym (joined_assoc ws vs ys)) (one_opens t ss ws h (both_rows mark e d rs vs xs ys g k))

pub adds_both : (mark : ℕ) (ts us : Forest) (a b e : List Expr) (c d : Bool) → Adds mark ts a b c → Adds mark us b e d → Adds mark (joined ts us) a e (c || d)
adds_both mark ts us a b e c d h k = record {
  added = joined h.added k.added;
  ignores = both_rows mark c d ts h.added us k.added h.ignores k.ignores;
  is = k.is ∙ ap (λ fs. joined fs k.added) h.is ∙ joined_assoc (list_trees expr_tree a) h.added k.added;
}

pub adds_none : (mark : ℕ) (a : List Expr) → Adds mark ε a a false
adds_none mark a = record { added = ε; ignores = none_left; is = sym (joined_none (list_trees expr_tree a)) }

pub adds_nothing : (mark : ℕ) (t : Tree) (a : List Expr) → Ignores mark true t None → Adds mark (t ⊳ ε) a a true
adds_nothing mark t a h = record { added = ε; ignores = one_goes t h none_left; is = sym (joined_none (list_trees expr_tree a)) }

pub adds_one : (mark : ℕ) (t : Tree) (c : Bool) (a b : List Expr) (e : Expr) → b ≡ a ++ (e ∷ []) → Ignores mark c t (Some (expr_tree e)) → Adds mark (t ⊳ ε) a b c
adds_one mark t c a b e at h = record {
  added = expr_tree e ⊳ ε;
  ignores = subst (λ d. IgnoresAll mark d (t ⊳ ε) (expr_tree e ⊳ ε)) (or_none c) (one_left t (expr_tree e) h none_left);
  is = ap (list_trees expr_tree) at ∙ pushed expr_tree a e;
}

pub adds_items : (mark : ℕ) (t : Tree) (c : Bool) (a b : List Expr) (e : Expr) (ss : List Span) (is : List Expr) → list_trees expr_tree b ≡ joined (list_trees expr_tree a) (list_trees expr_tree is) → expr_tree e ≡ node tree.Seq ss (list_trees expr_tree is) → Ignores mark c t (Some (expr_tree e)) → Adds mark (t ⊳ ε) a b true
adds_items mark t c a b e ss is at seq h = record {
  added = list_trees expr_tree is;
  ignores = subst (IgnoresAll mark true (t ⊳ ε)) (joined_none (list_trees expr_tree is)) (one_opens t ss (list_trees expr_tree is) (subst (λ x. Ignores mark c t (Some x)) seq h) none_left);
  is = at;
}

-- where nothing changes, each is as it was

pub same_left : (mark : ℕ) (t u : Tree) → Ignores mark false t (Some u) → u ≡ t
same_left mark t u (stays v) = refl

same_first : (mark : ℕ) (a b : Bool) (t u : Tree) (rs vs : Forest) → (a || b) ≡ false → Ignores mark a t (Some u) → (b ≡ false → vs ≡ rs) → u ⊳ vs ≡ t ⊳ rs
same_first mark true b t u rs vs h g k = cc
same_first mark false b t u rs vs h g k = ap (λ x. x ⊳ vs) (same_left mark t u g) ∙ ap (λ xs. t ⊳ xs) (k h)

pub same_row : (mark : ℕ) (c : Bool) (ts us : Forest) → c ≡ false → IgnoresAll mark c ts us → us ≡ ts
same_row mark c ts us h none_left = refl
same_row mark c ts us h (one_goes t g k) = cc
same_row mark c ts us h (one_left {c = a} {d = b} t u {ts = rs} {us = vs} g k) = same_first mark a b t u rs vs h g (λ e. same_row mark b rs vs e k)
same_row mark c ts us h (one_opens t ss vs g k) = cc

pub same_adds : (mark : ℕ) (ts : Forest) (b : List Expr) (c : Bool) → c ≡ false → Adds mark ts [] b c → list_trees expr_tree b ≡ ts
same_adds mark ts b c h k = k.is ∙ same_row mark c ts k.added h k.ignores

-- loops: one part more

module _ {X : Type 0} (mark : ℕ) (f : List X → Forest) (both : (xs ys : List X) → f (xs ++ ys) ≡ joined (f xs) (f ys)) where
  pub adds_more : (xs : List X) (i : ℕ) (x : X) (a b e : List Expr) (c d : Bool) → i < length xs → x ≡ get_or xs i x → Adds mark (f (take i xs)) a b c → Adds mark (f (x ∷ [])) b e d → Adds mark (f (take (i + 1) xs)) a e (c || d)
  adds_more xs i x a b e c d within at h k = subst (λ ts. Adds mark ts a e (c || d)) (sym (ap f (take_more xs i x within ∙ ap (λ y. take i xs ++ y ∷ []) (sym at)) ∙ both (take i xs) (x ∷ []))) (adds_both mark (f (take i xs)) (f (x ∷ [])) a b e c d h k)

  pub adds_all : (xs : List X) (i : ℕ) (a b : List Expr) (c : Bool) → length xs ≤ i → Adds mark (f (take i xs)) a b c → Adds mark (f xs) a b c
  adds_all xs i a b c within h = subst (λ ys. Adds mark (f ys) a b c) (take_all i xs within) h

pub row_joined : {X : Type 0} (f : X → Tree) (xs ys : List X) → list_trees f (xs ++ ys) ≡ joined (list_trees f xs) (list_trees f ys)
row_joined f [] ys = refl
row_joined f (x ∷ xs) ys = ap (λ ts. f x ⊳ ts) (row_joined f xs ys)

-- what is left of a node's parts

pub opened_left : (mark : ℕ) (t : Tree) (cs : Forest) (a b : List Expr) (c : Bool) (r : Option Expr) (rs : List Span) → a ≡ [] → Opens mark t cs → Adds mark cs a b c → tree_of r ≡ as_one rs (list_trees expr_tree b) → Ignores mark true t (tree_of r)
opened_left mark t cs a b c r rs none o h is = subst (Ignores mark true t) (sym (is ∙ ap (as_one rs) (h.is ∙ ap (λ xs. joined (list_trees expr_tree xs) h.added) none))) (opened rs o h.ignores)

pub sequence_left : (mark : ℕ) (ss : List Span) (cs : Forest) (a b : List Expr) (c : Bool) (r : Option Expr) (rs : List Span) → a ≡ [] → c ≡ true → Adds mark cs a b c → tree_of r ≡ as_one rs (list_trees expr_tree b) → Ignores mark true (node tree.Seq ss cs) (tree_of r)
sequence_left mark ss cs a b c r rs none changed h is = subst (Ignores mark true (node tree.Seq ss cs)) (sym (is ∙ ap (as_one rs) (h.is ∙ ap (λ xs. joined (list_trees expr_tree xs) h.added) none))) (sequence ss rs cs (subst (λ d. IgnoresAll mark d cs h.added) changed h.ignores))
