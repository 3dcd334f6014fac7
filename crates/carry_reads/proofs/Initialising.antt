-- What initialisers carry.
use Rattle.std.proofs.Common.{◌≡◌, false, List, Option, Some, refl, sym, ap, ap₂, ◌∙◌}
use Rattle.std.proofs.lemmas.Bool.{true≢false}
use Rattle.swc_ast.specs.declared.Span.{Span}
use Rattle.std.specs.declared.alloc.Global.{Global}
use Rattle.std.specs.declared.boxed.Box.{Box}
use Rattle.swc_ast.specs.declared.expressions.Expr.{Expr}
use Rattle.swc_ast.specs.Parts.{optional_trees}
use Rattle.swc_ast.specs.Views.{expr_tree}
use Rattle.swc_ast.specs.Tree as tree
use Rattle.swc_ast.specs.Tree.{Label, Tree, node, Forest, ε, ◌⊳◌, label_of, children_of}
use Rattle.link_proofs.specs.Links.{nothing}
use Rattle.carry_rules.specs.Carry.{Pass, Carried, first_put}
use Rattle.carry_parts.specs.Carries.{is_read_tree}
use Rattle.carry_reads.specs.Declarations.{leaf_put}

-- one that isn't
first_inner : (p : Pass) (s : Carried) (ss : List Span) (l : Label) (rs : List Span) (u : Tree) (us : Forest) → first_put p s ss (node l rs (u ⊳ us) ⊳ ε) ≡ nothing
first_inner p s ss (tree.Read x) rs u us = refl
first_inner p s ss l rs u us = refl

first_leaf : (p : Pass) (s : Carried) (ss : List Span) (t : Tree) → is_read_tree t ≡ false → leaf_put p (label_of t) (children_of t) ≡ first_put p s ss (t ⊳ ε)
first_leaf p s ss (node (tree.Read x) rs ε) e = absurd (true≢false e)
first_leaf p s ss (node l rs ε) e = refl
first_leaf p s ss (node l rs (u ⊳ us)) e = sym (first_inner p s ss l rs u us)

pub first_other : (p : Pass) (s : Carried) (ss : List Span) (t : Tree) (l : Label) (cs : Forest) → is_read_tree t ≡ false → label_of t ≡ l → children_of t ≡ cs → leaf_put p l cs ≡ first_put p s ss (t ⊳ ε)
first_other p s ss t l cs e labelled held = ap₂ (leaf_put p) (sym labelled) (sym held) ∙ first_leaf p s ss t e

-- the initialiser of a declarator
pub other_init : (p : Pass) (s : Carried) (ss : List Span) (init : Option (Box Expr Global)) (e : Box Expr Global) (l : Label) (cs : Forest) → init ≡ Some e → is_read_tree (expr_tree e.value) ≡ false → label_of (expr_tree e.value) ≡ l → children_of (expr_tree e.value) ≡ cs → leaf_put p l cs ≡ first_put p s ss (optional_trees expr_tree init)
other_init p s ss init e l cs is unread labelled held = first_other p s ss (expr_tree e.value) l cs unread labelled held ∙ ap (λ o. first_put p s ss (optional_trees expr_tree o)) (sym is)
