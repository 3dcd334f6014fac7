-- A bound name, or its type, beside itself.
use Rattle.std.specs.Prelude.{IfSome}
use Rattle.std.proofs.Common.{◌≡◌, ℕ, Bool, false, Option, Some, None, sym, ap, ◌∙◌, subst}
use Rattle.swc_ast.specs.Tree as tree
use Rattle.swc_ast.specs.Tree.{Name, Tree, node, ε}
use Rattle.swc_ast.specs.Meaning.{is_unresolved}
use Rattle.swc_ast.specs.declared.BinaryOp.{BinaryOp}
use Rattle.expr_rules.specs.Comparisons.{beside_itself, text_beside_itself}
use Rattle.expr_rules.specs.ExprSteps.{compare_name, compare_type}
use Rattle.expr_operators.specs.Names.{read_name, typeof_name}
use Rattle.expr_operators.specs.Steps.{TruthStep}

same_name : {x y : Name} → Some x ≡ Some y → x ≡ y
same_name e = cc

pub name_step : (mark : ℕ) (op : BinaryOp) (a b : Tree) (x y : Name) (o : Option Bool) → read_name a ≡ Some x → read_name b ≡ Some y → x ≡ y → is_unresolved mark x ≡ false → o ≡ beside_itself op → IfSome o (λ r. TruthStep mark op a b r)
name_step mark op a b x y None h k e u s = tt
name_step mark op (node (tree.Read z) is ε) (node (tree.Read w) js ε) x y (Some r) h k e u s =
    let p = same_name h in
    let q = same_name k in
    subst (λ v. TruthStep mark op (node (tree.Read z) is ε) (node (tree.Read v) js ε) r) (p ∙ e ∙ sym q) (λ ss rs. compare_name op ss is js rs z r (ap (is_unresolved mark) p ∙ u) (sym s))
name_step mark op a b x y (Some r) h k e u s = cc

pub type_step : (mark : ℕ) (op : BinaryOp) (a b : Tree) (x y : Name) (o : Option Bool) → typeof_name a ≡ Some x → typeof_name b ≡ Some y → x ≡ y → is_unresolved mark x ≡ false → o ≡ text_beside_itself op → IfSome o (λ r. TruthStep mark op a b r)
type_step mark op a b x y None h k e u s = tt
type_step mark op (node (tree.TypeOfName z) is ε) (node (tree.TypeOfName w) js ε) x y (Some r) h k e u s =
    let p = same_name h in
    let q = same_name k in
    subst (λ v. TruthStep mark op (node (tree.TypeOfName z) is ε) (node (tree.TypeOfName v) js ε) r) (p ∙ e ∙ sym q) (λ ss rs. compare_type op ss is js rs z r (ap (is_unresolved mark) p ∙ u) (sym s))
type_step mark op a b x y (Some r) h k e u s = cc
