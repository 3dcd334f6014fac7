-- Names and literals: their trees bind nothing and hold no jump.
use Rattle.std.proofs.Common.{◌≡◌, Bool, true, false, refl, sym, ap, ap₂, subst, ◌∙◌, arith}
use Rattle.std.proofs.lemmas.Bool.{false≢true}
use Rattle.std.proofs.Math.Bool.{and-true}
use Rattle.std.specs.Prelude.{◌&&◌}
use Rattle.swc_ast.specs.declared.literals.Lit.{Lit}
use Rattle.swc_ast.specs.declared.literals.Lit.TheVariants as lit
use Rattle.swc_ast.specs.declared.literals.Number.{Number}
use Rattle.swc_ast.specs.declared.names.Ident.{Ident}
use Rattle.swc_ast.specs.Core.{in_range}
use Rattle.swc_ast.specs.Parts.{ident_name, ident_tree, lit_tree}
use Rattle.swc_ast.specs.Resolved.{Targets, aimed, apart, own_scopes, scopes}
use Rattle.swc_ast.specs.Tree.{Name, Tree, Read}
use Rattle.swc_ast.specs.Valid.{good_names}
use Rattle.tree_leaves.specs.declared.Leaf.{Leaf}
use Rattle.tree_leaves.specs.declared.Leaf.TheVariants as a
use Rattle.tree_leaves.specs.Leaves.{leaf_tree}
use Rattle.swc_resolved.specs.Asked.{fit, good, Passes}

-- no scope

literal_binds : (x : Name) (l : Lit) → scopes x (lit_tree l) ≡ 0
unfolding own_scopes
literal_binds x (lit.Str n) = refl
literal_binds x (lit.Bool n) = refl
literal_binds x (lit.Null n) = refl
literal_binds x (lit.Num n) = refl

binds_nothing : (x : Name) (leaf : Leaf) → scopes x (leaf_tree leaf) ≡ 0
unfolding own_scopes
binds_nothing x (a.Name n) = refl
binds_nothing x (a.Literal n) = literal_binds x n.now

-- no jump, and no function

literal_placed : (g : Targets) (l : Lit) → (aimed g (lit_tree l) && apart (lit_tree l)) ≡ true
literal_placed g (lit.Str n) = refl
literal_placed g (lit.Bool n) = refl
literal_placed g (lit.Null n) = refl
literal_placed g (lit.Num n) = refl

placed : (g : Targets) (leaf : Leaf) → (aimed g (leaf_tree leaf) && apart (leaf_tree leaf)) ≡ true
placed g (a.Name n) = refl
placed g (a.Literal n) = literal_placed g n.now

-- what validity and the core ask of a name and of a literal

pub name_fit : (b : Bool) (n : Ident) → b ≡ good_names (Read (ident_name n)) → b ≡ fit true (ident_tree n)
name_fit b n is = let g = good_names (Read (ident_name n)) in is ∙ sym (and-true ((g && true) && true) ∙ and-true (g && true) ∙ and-true g)

pub number_fit : (b : Bool) (l : Lit) (n : Number) → b ≡ in_range n.value → l ≡ lit.Num n → b ≡ fit true (lit_tree l)
number_fit b l n is at = let g = in_range n.value in is ∙ sym (ap (λ k. fit true (lit_tree k)) at ∙ and-true (g && true) ∙ and-true g)

-- so all is asked of the node itself

by_fit : (b v : Bool) (g : Targets) (leaf : Leaf) (old : Name → Bool) → b ≡ fit v (leaf_tree leaf) → Passes b (good v g (leaf_tree leaf)) old old (λ x. scopes x (leaf_tree leaf))
by_fit true v g leaf old is = (ap₂ ◌&&◌ (sym is) (placed g leaf), λ x. omega (arith, binds_nothing x leaf))
by_fit false v g leaf old is = λ h. absurd (false≢true (sym (ap₂ ◌&&◌ (sym is) (placed g leaf)) ∙ h))

pub leaf_passes : (b v : Bool) (g : Targets) (t : Tree) (leaf : Leaf) (old : Name → Bool) → t ≡ leaf_tree leaf → b ≡ fit v (leaf_tree leaf) → Passes b (good v g t) old old (λ x. scopes x t)
leaf_passes b v g t leaf old at is = subst (λ u. Passes b (good v g u) old old (λ x. scopes x u)) (sym at) (by_fit b v g leaf old is)
