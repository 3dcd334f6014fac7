-- What takes a node's place keeps what is static, and is lighter.
use Rattle.std.proofs.Common.{◌≡◌, ℕ, Bool, true, false, List, refl}
use Rattle.std.proofs.lemmas.Bool.{false≢true}
use Rattle.swc_ast.specs.declared.Span.{Span}
use Rattle.swc_ast.specs.Tree.{Name, Label, Array, Object, Unary, TypeOfName, Binary, Cond, Seq, Dot, Index, Module, Script, Import, ExportDecl, ExportNamed, ExportDefaultFn, ExportDefaultExpr, Tree, node, Forest, label_of, expr}
use Rattle.swc_ast.specs.Valid.{valid}
use Rattle.swc_ast.specs.Core.{fits}
use Rattle.swc_ast.specs.Weight.{is_truth_or_absent}
use Rattle.meaning_proofs.specs.Roles.{Fits, is_item}
use Rattle.meaning_proofs.specs.Walks.{no_names}
use Rattle.meaning_proofs.proofs.Quiet.{declares_nothing, fits_nothing}
use Rattle.swc_ast.specs.Labels.{is_expression, is_whole}
use Rattle.static_proofs.specs.Step.{Step}
use Rattle.static_proofs.proofs.Expressions.{expression_step}
use Rattle.expr_rules.specs.ExprSteps.{MemberOf, by_dot, by_key, ExprStep, not_known, plus_known, minus_known, tilde_known, void_pure, typeof_expression, typeof_constant, join_texts, add_numbers, compute_numbers, power_zero, regroup, compare_known, compare_texts, compare_name, compare_type, equality, instance, logical, choice, front, spread_array, spread_object, text_length, text_character, array_length, array_item, object_value, in_guard}
use Rattle.expr_proofs.proofs.ExprSteps.{step_lighter}
use Rattle.pass_proofs.proofs.Remains.{remains_below}
use Rattle.expr_proofs.proofs.StepsLeft.{step_left}

-- the nodes that are rewritten
abbrev is_rewritten : Label → Bool
is_rewritten (Array ks) = true
is_rewritten Object = true
is_rewritten (Unary op) = true
is_rewritten (TypeOfName x) = true
is_rewritten (Binary op) = true
is_rewritten Cond = true
is_rewritten Seq = true
is_rewritten (Dot k) = true
is_rewritten Index = true
is_rewritten _ = false

member_rewritten : {m o : Tree} {k : List ℕ} → MemberOf m o k → is_rewritten (label_of m) ≡ true
member_rewritten (by_dot ss) = refl
member_rewritten (by_key ss e) = refl

step_rewritten : {mark : ℕ} {t u : Tree} → ExprStep mark t u → is_rewritten (label_of t) ≡ true
step_rewritten (not_known ss rs ts a b h) = refl
step_rewritten (plus_known ss rs a k h) = refl
step_rewritten (minus_known ss rs a k h) = refl
step_rewritten (tilde_known ss rs a k h) = refl
step_rewritten (void_pure ss rs zs a h l) = refl
step_rewritten (typeof_expression ss rs ts a s h) = refl
step_rewritten (typeof_constant ss rs cs x w h) = refl
step_rewritten (join_texts ss rs a b r h) = refl
step_rewritten (add_numbers ss rs a b r h m) = refl
step_rewritten (compute_numbers op ss rs a b r h m) = refl
step_rewritten (power_zero ss rs ts a b h) = refl
step_rewritten (regroup op ss is rs ns a b c r g h m) = refl
step_rewritten (compare_known op ss rs a b i j r k ha hb ty h) = refl
step_rewritten (compare_texts op ss rs a b s t r k ta tb ea eb h) = refl
step_rewritten (compare_name op ss is js rs x r u h) = refl
step_rewritten (compare_type op ss is js rs x r u h) = refl
step_rewritten (equality op ss rs ts a b r k h) = refl
step_rewritten (instance ss rs ts a b r) = refl
step_rewritten (logical op ss rs a b known k h) = refl
step_rewritten (choice ss rs t a b known h) = refl
step_rewritten (front callee ss rs ts h) = refl
step_rewritten (spread_array ss rs vs zs ks ts h) = refl
step_rewritten (spread_object ss rs ts h) = refl
step_rewritten (text_length is rs t m z) = member_rewritten m
step_rewritten (text_character is rs t k u m h) = member_rewritten m
step_rewritten (array_length is rs ks ts m p s z) = member_rewritten m
step_rewritten (array_item is rs vs zs ks ts k i t m e h) = member_rewritten m
step_rewritten (object_value is ts k t m u h) = member_rewritten m
step_rewritten (in_guard rs zs s l) = step_rewritten s

rewritten_expression : (l : Label) → is_rewritten l ≡ true → is_expression l ≡ true
rewritten_expression (Array ks) h = refl
rewritten_expression Object h = refl
rewritten_expression (Unary op) h = refl
rewritten_expression (TypeOfName x) h = refl
rewritten_expression (Binary op) h = refl
rewritten_expression Cond h = refl
rewritten_expression Seq h = refl
rewritten_expression (Dot k) h = refl
rewritten_expression Index h = refl
rewritten_expression l h = absurd (false≢true h)

rewritten_no_truth : (l : Label) (ss : List Span) (cs : Forest) → is_rewritten l ≡ true → is_truth_or_absent (node l ss cs) ≡ false
rewritten_no_truth (Array ks) ss cs h = refl
rewritten_no_truth Object ss cs h = refl
rewritten_no_truth (Unary op) ss cs h = refl
rewritten_no_truth (TypeOfName x) ss cs h = refl
rewritten_no_truth (Binary op) ss cs h = refl
rewritten_no_truth Cond ss cs h = refl
rewritten_no_truth Seq ss cs h = refl
rewritten_no_truth (Dot k) ss cs h = refl
rewritten_no_truth Index ss cs h = refl
rewritten_no_truth l ss cs h = absurd (false≢true h)

expression_declares : (l : Label) → is_expression l ≡ true → declares_nothing l ≡ true
expression_declares (expr e) h = refl
expression_declares _ h = absurd (false≢true h)

expression_no_item : (l : Label) → is_expression l ≡ true → is_item l ≡ false
expression_no_item (Import src) h = absurd (false≢true h)
expression_no_item ExportDecl h = absurd (false≢true h)
expression_no_item ExportNamed h = absurd (false≢true h)
expression_no_item (ExportDefaultFn o) h = absurd (false≢true h)
expression_no_item ExportDefaultExpr h = absurd (false≢true h)
expression_no_item _ h = refl

expression_below : (l : Label) → is_expression l ≡ true → is_whole l ≡ false
expression_below Module h = absurd (false≢true h)
expression_below Script h = absurd (false≢true h)
expression_below l h = refl

pub step_owes : {N : Type 0} {P : Name → Type 0} {mark : ℕ} {t u : Tree} → is_expression (label_of u) ≡ true → ExprStep mark t u → Step N P t u
step_owes {t = node l ss cs} {u = u} q s =
    let n = step_rewritten s in
    let r = remains_below (step_lighter s) (step_left {V = valid (node l ss cs) ≡ true} {F = fits (node l ss cs) ≡ true} (λ v. v) (λ f. f) s) in
    expression_step (rewritten_expression l n) q (rewritten_no_truth l ss cs n) r.drawn r.built (step_lighter s)

pub step_fits : {mark : ℕ} {t u : Tree} → is_expression (label_of u) ≡ true → ExprStep mark t u → Fits no_names t u
step_fits {t = node l ss cs} {u = node m rs us} q s = fits_nothing (node l ss cs) (node m rs us) (expression_declares l (rewritten_expression l (step_rewritten s))) (expression_declares m q)

pub step_no_item : {mark : ℕ} {t u : Tree} → ExprStep mark t u → is_item (label_of t) ≡ false
step_no_item {t = node l ss cs} s = expression_no_item l (rewritten_expression l (step_rewritten s))

pub step_below : {mark : ℕ} {t u : Tree} → ExprStep mark t u → is_whole (label_of t) ≡ false
step_below {t = node l ss cs} s = expression_below l (rewritten_expression l (step_rewritten s))
