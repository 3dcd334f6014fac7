-- Assignments to names that nothing reads.
use Rattle.std.specs.Prelude.{◌≡◌, true, List}
use Rattle.swc_ast.specs.declared.Span.{Span}
use Rattle.swc_ast.specs.declared.AssignOp.TheVariants.{Assign as Plain}
use Rattle.swc_ast.specs.Tree.{Name, Assign, Tree, node, ε, ◌⊳◌}
use Rattle.dce_rules.specs.Shakes.{Shaker}

-- a plain assignment of a value to such a name
pub data Unread (S : Shaker) (r : Tree) : Tree → Type 0 where
  unread : {x : Name} {ss : List Span} → S.unread x ≡ true → Unread S r (node (Assign Plain x) ss (r ⊳ ε))
