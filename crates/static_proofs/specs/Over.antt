-- Trees that are built of given trees, in their order, by nodes that open no scope and that no jump goes to.
use Rattle.std.specs.Prelude.{◌≡◌, true, false, List}
use Rattle.swc_ast.specs.declared.Span.{Span}
use Rattle.swc_ast.specs.Tree.{Name, Label, Tree, node, Forest, ε, ◌⊳◌}
use Rattle.swc_ast.specs.Scope.{is_function, joined}
use Rattle.swc_ast.specs.Valid.{good_names, good_shape}
use Rattle.swc_ast.specs.Resolved.{own_scopes, Targets, jump_is_aimed}
use Rattle.swc_ast.specs.Core.{numbers_fit, good_scope}
use Rattle.static_proofs.specs.Drawn.{lets_jumps_out}

-- What a new node is: good where V holds, in range where F holds.
pub record Makes (V F : Type 0) (l : Label) (ws : Forest) : Type 0 where
  pub names : V → good_names l ≡ true
  pub shape : V → good_shape l ws ≡ true
  pub numbers : F → numbers_fit l ≡ true
  pub scope : F → good_scope l ws ≡ true
  pub opens_none : (x : Name) → own_scopes x l ws ≡ 0
  pub out : lets_jumps_out l ≡ true
  pub no_function : is_function l ≡ false
  pub no_jump : (g : Targets) → jump_is_aimed l g ≡ true

pub data Over (V F : Type 0) : Forest → Forest → Type 0 where
  over_none : Over V F ε ε
  over_piece : {t : Tree} {us vs : Forest} → Over V F us vs → Over V F (t ⊳ us) (t ⊳ vs)
  over_made : {l : Label} {ss : List Span} {us ws ts vs : Forest} → Makes V F l ws → Over V F us ws → Over V F ts vs → Over V F (joined us ts) (node l ss ws ⊳ vs)
