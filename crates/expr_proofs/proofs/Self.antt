-- `x < x`, and `typeof x` beside `typeof x`, of a bound name.
use Rattle.std.specs.Cmp.Lexicographic.{bytes_decides}
use Rattle.std.proofs.Common.{◌≡◌, ℕ, ℤ, pos, negsuc, Bool, true, false, not, ◌&&◌, ◌||◌, ◌==◌, if◌then◌else◌, List, [], ◌∷◌, Option, Some, None, refl, sym, ap, ap₂, subst, ◌∙◌, IfSome, arith, nat_lt, bytes_eq}
use Rattle.std.proofs.lemmas.Bool.{eq-eqb, le-ltb, not_from_false, and_left}
use Rattle.std.proofs.lemmas.Option.{none-some, same_Some}
use Rattle.swc_ast.specs.declared.UnaryOp.TheVariants.{TypeOf}
use Rattle.swc_ast.specs.declared.BinaryOp.{BinaryOp}
use Rattle.swc_ast.specs.declared.BinaryOp.TheVariants.{EqEq, NotEq, EqEqEq, NotEqEq, Lt, LtEq, Gt, GtEq}
use Rattle.swc_ast.specs.declared.Span.{Span}
use Rattle.swc_ast.specs.Tree.{Name, Read, TypeOfName, Binary, Tree, node, ε, ◌⊳◌}
use Rattle.swc_ast.specs.Value.{Value, Truth, Text, TypeOf as TypeOfEvent, Run, Context}
use Rattle.swc_ast.specs.Meaning.{◌>>=◌, in_core, ask, checked_type, is_unresolved, read, type_of_name, compute, operate, act, eval, evals}
use Rattle.swc_ast.specs.Operators.{Prim, undefined, null, nan, object, truth as truth_of, num, text as text_of, prim, prim_number, Numeric, NotANumber, Whole, both, compare_numbers, relational, int_before, units_before, units, unary_value, type_name, binary_prim, binary_value}
use Rattle.meaning_proofs.specs.Exact.{Exact}
use Rattle.swc_utils.specs.Globals.{is_host_name}
use Rattle.swc_utils.specs.Pure.{pure}
use Rattle.swc_utils.specs.Holds.{Is, Any, Yields}
use Rattle.swc_utils.proofs.Ends.{keeps_yields, yields_then, yields_gives, yields_in_core, any}
use Rattle.swc_utils.proofs.Pure.{read_still, type_still}
use Rattle.pass_rules.specs.Leaves.{truth_tree}
use Rattle.expr_rules.specs.Comparisons.{beside_itself, text_beside_itself}
use Rattle.pass_proofs.proofs.Truths.{truth_tree_gives}
use Rattle.pass_proofs.proofs.Runs.{bind_same, yields_twice}
use Rattle.expr_proofs.proofs.Folds.{pure_constant}

not_before_itself : (c : ℕ) → nat_lt c c ≡ false
not_before_itself c = le-ltb c c (omega arith)

equals_itself : (c : ℕ) → (c == c) ≡ true
equals_itself c = eq-eqb c c refl

units_alike : (us : List ℕ) → units_before us us ≡ false
units_alike [] = refl
units_alike (c ∷ us) = ap₂ (λ x y. x || (y && units_before us us)) (not_before_itself c) (equals_itself c) ∙ units_alike us

int_alike : (z : ℤ) → int_before z z ≡ false
int_alike (pos k) = not_before_itself k
int_alike (negsuc k) = not_before_itself k

bytes_alike : (t : List ℕ) → bytes_eq t t ≡ true
bytes_alike t = (bytes_decides t t).1 refl

numbers_alike : (f : ℤ → ℤ → Bool) → ((z : ℤ) → f z z ≡ false) → (o : Option Numeric) → IfSome (both (compare_numbers f) o o) (Is (Truth false))
numbers_alike f h None = tt
numbers_alike f h (Some NotANumber) = refl
numbers_alike f h (Some (Whole z)) = ap Truth (h z)

relates_alike : (on_texts : List ℕ → List ℕ → Bool) (on_ints : ℤ → ℤ → Bool) → ((us : List ℕ) → on_texts us us ≡ false) → ((z : ℤ) → on_ints z z ≡ false) → (p : Prim) → IfSome (relational on_texts on_ints p p) (Is (Truth false))
relates_alike on_texts on_ints h i (text_of t) = ap Truth (h (units t))
relates_alike on_texts on_ints h i undefined = numbers_alike on_ints i (prim_number undefined)
relates_alike on_texts on_ints h i null = numbers_alike on_ints i (prim_number null)
relates_alike on_texts on_ints h i nan = numbers_alike on_ints i (prim_number nan)
relates_alike on_texts on_ints h i object = numbers_alike on_ints i (prim_number object)
relates_alike on_texts on_ints h i (truth_of b) = numbers_alike on_ints i (prim_number (truth_of b))
relates_alike on_texts on_ints h i (num z) = numbers_alike on_ints i (prim_number (num z))

itself_gives : (op : BinaryOp) (b : Bool) (p : Prim) → beside_itself op ≡ Some b → IfSome (binary_prim op p p) (Is (Truth b))
unfolding binary_prim
itself_gives Lt b p h = subst (λ x. IfSome (relational units_before int_before p p) (Is (Truth x))) (same_Some _ _ h) (relates_alike units_before int_before units_alike int_alike p)
itself_gives Gt b p h = subst (λ x. IfSome (relational (λ s t. units_before t s) (λ m n. int_before n m) p p) (Is (Truth x))) (same_Some _ _ h) (relates_alike (λ s t. units_before t s) (λ m n. int_before n m) units_alike int_alike p)
itself_gives _ b p h = absurd (none-some b h)

text_gives_itself : (op : BinaryOp) (b : Bool) (t : List ℕ) → text_beside_itself op ≡ Some b → IfSome (binary_prim op (text_of t) (text_of t)) (Is (Truth b))
unfolding binary_prim
text_gives_itself Lt b t h = ap Truth (units_alike (units t) ∙ same_Some _ _ h)
text_gives_itself Gt b t h = ap Truth (units_alike (units t) ∙ same_Some _ _ h)
text_gives_itself LtEq b t h = ap Truth (ap not (units_alike (units t)) ∙ same_Some _ _ h)
text_gives_itself GtEq b t h = ap Truth (ap not (units_alike (units t)) ∙ same_Some _ _ h)
text_gives_itself EqEq b t h = ap Truth (bytes_alike t ∙ same_Some _ _ h)
text_gives_itself EqEqEq b t h = ap Truth (bytes_alike t ∙ same_Some _ _ h)
text_gives_itself NotEq b t h = ap Truth (ap not (bytes_alike t) ∙ same_Some _ _ h)
text_gives_itself NotEqEq b t h = ap Truth (ap not (bytes_alike t) ∙ same_Some _ _ h)
text_gives_itself _ b t h = absurd (none-some b h)

bound_no_host : (mark : ℕ) (x : Name) → is_unresolved mark x ≡ false → not (is_host_name mark x) ≡ true
bound_no_host mark x h = not_from_false (is_host_name mark x) (and_left (is_unresolved mark x) _ h)

operate_both : (op : BinaryOp) (b : Bool) (v : Value) (right : Run Value) → text_beside_itself op ≡ Some b → operate op v right ≡ (right >>= λ w. compute op v w)
unfolding operate
operate_both Lt b v right h = refl
operate_both Gt b v right h = refl
operate_both LtEq b v right h = refl
operate_both GtEq b v right h = refl
operate_both EqEq b v right h = refl
operate_both EqEqEq b v right h = refl
operate_both NotEq b v right h = refl
operate_both NotEqEq b v right h = refl
operate_both _ b v right h = absurd (none-some b h)

is_text_op : (op : BinaryOp) (b : Bool) → beside_itself op ≡ Some b → text_beside_itself op ≡ Some b
is_text_op Lt b h = h
is_text_op Gt b h = h
is_text_op _ b h = absurd (none-some b h)

strict_pure : (mark : ℕ) (op : BinaryOp) (r : Bool) (ss : List Span) (a b : Tree) → text_beside_itself op ≡ Some r → pure mark a ≡ true → pure mark b ≡ true → pure mark (node (Binary op) ss (a ⊳ b ⊳ ε)) ≡ true
strict_pure mark Lt r ss a b h pa pb = ap₂ (λ x y. x && (y && true)) pa pb
strict_pure mark Gt r ss a b h pa pb = ap₂ (λ x y. x && (y && true)) pa pb
strict_pure mark LtEq r ss a b h pa pb = ap₂ (λ x y. x && (y && true)) pa pb
strict_pure mark GtEq r ss a b h pa pb = ap₂ (λ x y. x && (y && true)) pa pb
strict_pure mark EqEq r ss a b h pa pb = ap₂ (λ x y. x && (y && true)) pa pb
strict_pure mark EqEqEq r ss a b h pa pb = ap₂ (λ x y. x && (y && true)) pa pb
strict_pure mark NotEq r ss a b h pa pb = ap₂ (λ x y. x && (y && true)) pa pb
strict_pure mark NotEqEq r ss a b h pa pb = ap₂ (λ x y. x && (y && true)) pa pb
strict_pure mark _ r ss a b h pa pb = absurd (none-some r h)

-- a bound name beside itself
pub self_exact : (mark : ℕ) (op : BinaryOp) (ss is js rs : List Span) (x : Name) (b : Bool) → is_unresolved mark x ≡ false → beside_itself op ≡ Some b → Exact mark (node (Binary op) ss (node (Read x) is ε ⊳ node (Read x) js ε ⊳ ε)) (truth_tree rs b)
unfolding eval act evals
self_exact mark op ss is js rs x b u h = pure_constant mark _ (truth_tree rs b) (Truth b) (strict_pure mark op b ss _ _ (is_text_op op b h) (bound_no_host mark x u) (bound_no_host mark x u))
    (λ n call c. subst (Yields (Is (Truth b))) (sym (bind_same (read mark x c) (λ v. operate_both op b v (read mark x c) (is_text_op op b h)))) (yields_twice {P = Any} (λ v w. compute op v w) (read_still mark x (bound_no_host mark x u) c) (λ v _. yields_in_core (binary_value op v v) (itself_gives op b (prim v) h))))
    (λ n call c s. truth_tree_gives mark n call rs b c s)

bound_type : (mark : ℕ) (x : Name) (c : Context) → is_unresolved mark x ≡ false → type_of_name mark x c ≡ (read mark x c >>= λ v. in_core (unary_value TypeOf v))
unfolding type_of_name
bound_type mark x c u = ap (λ b. if b then (ask (TypeOfEvent x.text) >>= checked_type) else (read mark x c >>= λ v. in_core (unary_value TypeOf v))) (and_left (is_unresolved mark x) _ u)

type_is_text : (mark : ℕ) (x : Name) (c : Context) → is_unresolved mark x ≡ false → Yields (λ v. (t : List ℕ) × (v ≡ Text t)) (type_of_name mark x c)
unfolding unary_value
type_is_text mark x c u = subst (Yields _) (sym (bound_type mark x c u)) (yields_then (any (read mark x c)) (λ v _. yields_gives {P = λ w. (t : List ℕ) × (w ≡ Text t)} _ (type_name v, refl)))

-- `typeof` of a bound name beside itself
pub type_self_exact : (mark : ℕ) (op : BinaryOp) (ss is js rs : List Span) (x : Name) (b : Bool) → is_unresolved mark x ≡ false → text_beside_itself op ≡ Some b → Exact mark (node (Binary op) ss (node (TypeOfName x) is ε ⊳ node (TypeOfName x) js ε ⊳ ε)) (truth_tree rs b)
unfolding eval act evals
type_self_exact mark op ss is js rs x b u h = pure_constant mark _ (truth_tree rs b) (Truth b) (strict_pure mark op b ss _ _ h (bound_no_host mark x u) (bound_no_host mark x u))
    (λ n call c. subst (Yields (Is (Truth b))) (sym (bind_same (type_of_name mark x c) (λ v. operate_both op b v (type_of_name mark x c) h))) (yields_twice {P = λ v. (t : List ℕ) × (v ≡ Text t)} (λ v w. compute op v w) (keeps_yields (type_still mark x (bound_no_host mark x u) c) (type_is_text mark x c u)) (λ v p. yields_in_core (binary_value op v v) (subst (λ w. IfSome (binary_value op w w) (Is (Truth b))) (sym p.1) (text_gives_itself op b p.0 h)))))
    (λ n call c s. truth_tree_gives mark n call rs b c s)
