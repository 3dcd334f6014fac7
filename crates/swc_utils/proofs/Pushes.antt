-- Effects, as they are added one after another.
use Rattle.std.proofs.Common.{◌≡◌, ℕ, suc, ◌+◌, ◌<◌, ◌≤◌, Bool, true, false, ◌||◌, if◌then◌else◌, List, length, drop, get_or, Option, Some, None, refl, sym, ap, ◌∙◌, arith}
use Rattle.std.proofs.lemmas.Bool.{false≢true}
use Rattle.std.proofs.Math.ListN.{drop_of_length-le}
use Rattle.std.specs.declared.alloc.Global.{Global}
use Rattle.std.specs.declared.vec.Vec.{Vec}
use Rattle.swc_ast.specs.Tree.{Seq, Tree, node, Forest, ε, ◌⊳◌}
use Rattle.swc_ast.specs.Parts.{list_trees}
use Rattle.swc_ast.specs.Scope.{joined}
use Rattle.swc_ast.specs.Expressions.{unary_node, item_trees}
use Rattle.swc_ast.specs.Views.{expr_tree, prop_or_spread_tree}
use Rattle.swc_ast.specs.declared.Span.{Span}
use Rattle.swc_ast.specs.declared.expressions.Expr.{Expr}
use Rattle.swc_ast.specs.declared.expressions.Expr.TheVariants as in_expr
use Rattle.swc_ast.specs.declared.expressions.ExprOrSpread.{ExprOrSpread}
use Rattle.swc_ast.specs.declared.expressions.PropOrSpread.{PropOrSpread}
use Rattle.swc_ast.specs.declared.expressions.UnaryExpr.{UnaryExpr}
use Rattle.swc_ast.specs.declared.expressions.BinExpr.{BinExpr}
use Rattle.swc_ast.specs.declared.expressions.CallExpr.{CallExpr}
use Rattle.swc_ast.proofs.Places.{at_expr-Unary, at_expr-Bin, at_expr-Call}
use Rattle.swc_utils.specs.Pure.{no_trees}
use Rattle.swc_utils.specs.Effects.{keeps_whole, is_strict, is_record_spread, has_record_spread, unless_pure, effects, effects_all, preserve}
use Rattle.swc_utils.proofs.Chains.{joined_none, joined_assoc}
use Rattle.swc_utils.proofs.EffectNodes.{effects-unary, effects-call}
use Rattle.swc_utils.proofs.Items.{from_here}

-- the trees of a vector
abbrev pub vec_trees : Vec Expr Global → Forest
vec_trees v = list_trees expr_tree v.items

-- nodes

choose : (b c : Bool) (us vs : Forest) → b ≡ c → (if b then us else vs) ≡ (if c then us else vs)
choose b c us vs h = ap (λ x. if x then us else vs) h

pub unary_whole : (mark : ℕ) (e : Expr) (n : UnaryExpr Expr) → e ≡ in_expr.Unary n → keeps_whole n.op (expr_tree n.arg.value) ≡ true → unless_pure mark (expr_tree e) ≡ effects mark (expr_tree e)
unary_whole mark e n is h =
    let at = at_expr-Unary e n is in
    ap (unless_pure mark) at ∙ sym (ap (effects mark) at ∙ effects-unary mark n.op n.span (expr_tree n.arg.value) ∙ choose _ true (unless_pure mark (unary_node n.op n.span (expr_tree n.arg.value))) (effects mark (expr_tree n.arg.value)) h)

pub unary_part : (mark : ℕ) (e : Expr) (n : UnaryExpr Expr) → e ≡ in_expr.Unary n → keeps_whole n.op (expr_tree n.arg.value) ≡ false → effects mark (expr_tree n.arg.value) ≡ effects mark (expr_tree e)
unary_part mark e n is h =
    let at = at_expr-Unary e n is in
    sym (ap (effects mark) at ∙ effects-unary mark n.op n.span (expr_tree n.arg.value) ∙ choose _ false (unless_pure mark (unary_node n.op n.span (expr_tree n.arg.value))) (effects mark (expr_tree n.arg.value)) h)

pub binary_parts : (mark : ℕ) (e : Expr) (n : BinExpr Expr) → e ≡ in_expr.Bin n → is_strict n.op ≡ true → joined (effects mark (expr_tree n.left.value)) (effects mark (expr_tree n.right.value)) ≡ effects mark (expr_tree e)
binary_parts mark e n is h = sym (ap (effects mark) (at_expr-Bin e n is) ∙ choose (is_strict n.op) true _ _ h ∙ ap (joined (effects mark (expr_tree n.left.value))) (joined_none (effects mark (expr_tree n.right.value))))

pub call_whole : (mark : ℕ) (e : Expr) (n : CallExpr Expr) → e ≡ in_expr.Call n → unless_pure mark (expr_tree e) ≡ effects mark (expr_tree e)
call_whole mark e n is =
    let at = at_expr-Call e n is in
    ap (unless_pure mark) at ∙ sym (ap (effects mark) at ∙ effects-call mark n.span (expr_tree n.callee.value) (list_trees expr_tree n.args.items))

-- lists

one_more : (i : ℕ) → i + 1 ≡ suc i
one_more i = omega arith

moved : (a b c d : Forest) {g : Forest} → d ≡ joined a b → joined a (joined b c) ≡ g → joined d c ≡ g
moved a b c d is h = ap (λ x. joined x c) is ∙ joined_assoc a b c ∙ h

module _ {X : Type 0} (f : X → Tree) (mark : ℕ) (xs : List X) (i : ℕ) where
  pub goes_on : (x : X) (a d : Forest) {g : Forest} → i < length xs → x ≡ get_or xs i x → d ≡ joined a (effects mark (f x)) → joined a (effects_all mark (list_trees f (drop i xs))) ≡ g → joined d (effects_all mark (list_trees f (drop (i + 1) xs))) ≡ g
  goes_on x a d within at is h =
      ap (λ j. joined d (effects_all mark (list_trees f (drop j xs)))) (one_more i)
      ∙ moved a (effects mark (f x)) (effects_all mark (list_trees f (drop (suc i) xs))) d is (sym (ap (λ ys. joined a (effects_all mark (list_trees f ys))) (from_here xs i x x within at refl)) ∙ h)

  pub ends : (a : Forest) {g : Forest} → length xs ≤ i → joined a (effects_all mark (list_trees f (drop i xs))) ≡ g → a ≡ g
  ends a h is = sym (joined_none a) ∙ sym (ap (λ ys. joined a (effects_all mark (list_trees f ys))) (drop_of_length-le xs h)) ∙ is

module _ (mark : ℕ) (xs : List (Option (ExprOrSpread Expr))) (i : ℕ) where
  pub item_goes_on : (o : Option (ExprOrSpread Expr)) (n : ExprOrSpread Expr) (a d : Forest) {g : Forest} → i < length xs → o ≡ get_or xs i o → o ≡ Some n → d ≡ joined a (effects mark (expr_tree n.expr.value)) → joined a (effects_all mark (item_trees expr_tree (drop i xs))) ≡ g → joined d (effects_all mark (item_trees expr_tree (drop (i + 1) xs))) ≡ g
  item_goes_on o n a d within at some is h =
      ap (λ j. joined d (effects_all mark (item_trees expr_tree (drop j xs)))) (one_more i)
      ∙ moved a (effects mark (expr_tree n.expr.value)) (effects_all mark (item_trees expr_tree (drop (suc i) xs))) d is (sym (ap (λ ys. joined a (effects_all mark (item_trees expr_tree ys))) (from_here xs i o (Some n) within at some)) ∙ h)

  pub hole_goes_on : (o : Option (ExprOrSpread Expr)) (a : Forest) {g : Forest} → i < length xs → o ≡ get_or xs i o → o ≡ None → joined a (effects_all mark (item_trees expr_tree (drop i xs))) ≡ g → joined a (effects_all mark (item_trees expr_tree (drop (i + 1) xs))) ≡ g
  hole_goes_on o a within at none h =
      ap (λ j. joined a (effects_all mark (item_trees expr_tree (drop j xs)))) (one_more i)
      ∙ sym (ap (λ ys. joined a (effects_all mark (item_trees expr_tree ys))) (from_here xs i o None within at none)) ∙ h

  pub items_end : (a : Forest) {g : Forest} → length xs ≤ i → joined a (effects_all mark (item_trees expr_tree (drop i xs))) ≡ g → a ≡ g
  items_end a h is = sym (joined_none a) ∙ sym (ap (λ ys. joined a (effects_all mark (item_trees expr_tree ys))) (drop_of_length-le xs h)) ∙ is

or_right_false : (a b : Bool) → (a || b) ≡ false → b ≡ false
or_right_false true b h = absurd (false≢true (sym h))
or_right_false false b h = h

-- what is behind a property is no spread either
pub plain_on : (xs : List PropOrSpread) (i : ℕ) (x : PropOrSpread) → i < length xs → x ≡ get_or xs i x → has_record_spread (list_trees prop_or_spread_tree (drop i xs)) ≡ false → has_record_spread (list_trees prop_or_spread_tree (drop (i + 1) xs)) ≡ false
plain_on xs i x within at h =
    ap (λ j. has_record_spread (list_trees prop_or_spread_tree (drop j xs))) (one_more i)
    ∙ or_right_false (is_record_spread (prop_or_spread_tree x)) _ (sym (ap (λ ys. has_record_spread (list_trees prop_or_spread_tree ys)) (from_here xs i x x within at refl)) ∙ h)

-- effects in front of a value

pub none_in_front : (rs : List Span) (fs es : Forest) (t : Tree) → es ≡ fs → no_trees es ≡ true → t ≡ preserve rs fs t
none_in_front rs fs es t is h = by_parts fs (ap no_trees (sym is) ∙ h)
  where
    by_parts : (fs : Forest) → no_trees fs ≡ true → t ≡ preserve rs fs t
    by_parts ε h = refl
    by_parts (f ⊳ fs) h = absurd (false≢true h)

pub some_in_front : (rs : List Span) (fs es : Forest) (t : Tree) → es ≡ fs → no_trees es ≡ false → node Seq rs (joined es (t ⊳ ε)) ≡ preserve rs fs t
some_in_front rs fs es t is h = ap (λ x. node Seq rs (joined x (t ⊳ ε))) is ∙ by_parts fs (ap no_trees (sym is) ∙ h)
  where
    by_parts : (fs : Forest) → no_trees fs ≡ false → node Seq rs (joined fs (t ⊳ ε)) ≡ preserve rs fs t
    by_parts ε h = absurd (false≢true (sym h))
    by_parts (f ⊳ fs) h = refl
