-- Rounds that are done at once are rounds in which the other passes rest.
use Rattle.std.proofs.Common.{ℕ, zero, suc, false, refl, sym, subst, arith}
use Rattle.swc_ast.specs.Modules.{module_tree}
use Rattle.swc_ast.specs.Tree.{Tree}
use Rattle.swc_ast.specs.declared.modules.Module.{Module as TheModule}
use Rattle.static_proofs.specs.Shaped.{IsShaped}
use Rattle.static_proofs.proofs.ShapedViews.{module_shaped}
use Rattle.swc_pass.specs.Repeat.{Rounds, none}
use Rattle.swc_dce.specs.Peeling.{PeeledBy}
use Rattle.swc_dce.specs.Shaken.{Told}
use Rattle.round_proofs.specs.Rested.{AtRest, Rested}
use Rattle.round_proofs.proofs.Rounds.{layers_are_rounds, layers_leave_rest}

-- some or none
any_rounds : (told : Told) (most n : ℕ) (t u : Tree) → IsShaped t → AtRest told t → PeeledBy told most t n u → Rounds (Rested told) t n false u
any_rounds told most zero t u s a p = subst (λ x. Rounds (Rested told) t 0 false x) (sym (p.none refl)) none
any_rounds told most (suc n) t u s a p = layers_are_rounds told (suc n) t u (p.some (omega arith)) s a

any_rest : (told : Told) (most n : ℕ) (t u : Tree) → IsShaped t → AtRest told t → PeeledBy told most t n u → AtRest told u
any_rest told most zero t u s a p = subst (AtRest told) (sym (p.none refl)) a
any_rest told most (suc n) t u s a p = layers_leave_rest told (suc n) t u (p.some (omega arith)) s a

-- of a module
pub peeled_rounds : (told : Told) (most n : ℕ) (m : TheModule) (u : Tree) → AtRest told (module_tree m) → PeeledBy told most (module_tree m) n u → Rounds (Rested told) (module_tree m) n false u
peeled_rounds told most n m u a p = any_rounds told most n (module_tree m) u (module_shaped m) a p

pub peeled_rest : (told : Told) (most n : ℕ) (m : TheModule) (u : Tree) → AtRest told (module_tree m) → PeeledBy told most (module_tree m) n u → AtRest told u
peeled_rest told most n m u a p = any_rest told most n (module_tree m) u (module_shaped m) a p
