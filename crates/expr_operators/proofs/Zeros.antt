-- Whether a literal is 0.
use Rattle.std.proofs.Common.{◌≡◌, zero, suc, ℤ, pos, negsuc, true, false, Some, None, refl}
use Rattle.swc_ast.specs.Tree as tree
use Rattle.swc_ast.specs.Tree.{Tree, node}
use Rattle.swc_ast.specs.Redex.{is_zero}
use Rattle.expr_operators.specs.Literals.{literal_number}

pub zero_literal : (t : Tree) → Some (pos 0) ≡ literal_number t → true ≡ is_zero t
zero_literal (node (tree.NumLit (pos zero)) ss cs) h = refl
zero_literal (node (tree.NumLit (pos (suc n))) ss cs) h = cc
zero_literal (node (tree.NumLit (negsuc n)) ss cs) h = cc
zero_literal (node l ss cs) h = cc

pub other_literal : (t : Tree) (z : ℤ) → Some z ≡ literal_number t → (z ≡ pos 0 → ⊥) → false ≡ is_zero t
other_literal (node (tree.NumLit (pos zero)) ss cs) z h k = absurd (k (cc))
other_literal (node (tree.NumLit (pos (suc n))) ss cs) z h k = refl
other_literal (node (tree.NumLit (negsuc n)) ss cs) z h k = refl
other_literal (node l ss cs) z h k = cc

pub no_literal : (t : Tree) → None ≡ literal_number t → false ≡ is_zero t
no_literal (node (tree.NumLit z) ss cs) h = cc
no_literal (node l ss cs) h = refl

pub ruleset zeros = (
  zero_literal,
  other_literal,
  no_literal,
)
