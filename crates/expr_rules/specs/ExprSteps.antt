-- What a node of an expression may become, its children being walked already. The spans of a new node are the caller's.
use Rattle.std.specs.Prelude.{ℕ, pos, ◌-◌, ◌^◌, ◌<◌, ◌≤◌, ◌≡◌, Bool, true, false, not, ◌&&◌, if◌then◌else◌, List, Some, length, codes}
use Rattle.swc_ast.specs.declared.Span.{Span}
use Rattle.swc_ast.specs.declared.UnaryOp.TheVariants.{Minus, Plus, Bang, Tilde, TypeOf, Void}
use Rattle.swc_ast.specs.declared.BinaryOp.{BinaryOp}
use Rattle.swc_ast.specs.declared.BinaryOp.TheVariants.{Add, Exp, InstanceOf}
use Rattle.swc_ast.specs.Tree.{Name, ItemKind, NumLit, StrLit, Read, TypeOfName, Array, Object, Unary, Binary, Cond, Seq, Dot, Index, Tree, node, Forest, ε, ◌⊳◌}
use Rattle.swc_ast.specs.Value.{Value, Truth, Text}
use Rattle.swc_ast.specs.Meaning.{is_unresolved}
use Rattle.swc_ast.specs.Operators.{Numeric, Whole, type_name, compare_numbers, units, index_of, as_i32, to_u32, binary_value}
use Rattle.swc_ast.specs.Weight.{weight}
use Rattle.swc_ast.specs.Core.{in_range}
use Rattle.swc_utils.specs.Pure.{has_spread, pure, pure_all}
use Rattle.swc_utils.specs.Known.{truth, number, text}
use Rattle.swc_utils.specs.declared.answers.ValueType.TheVariants.{Str as TextType}
use Rattle.swc_utils.specs.Types.{type_of, is_text_type}
use Rattle.swc_utils.specs.Globals.{name_value}
use Rattle.swc_utils.specs.Effects.{effects, effects_all, preserve}
use Rattle.expr_rules.specs.TypeNames.{typeof_known}
use Rattle.expr_rules.specs.Equality.{is_equality, equal_known, tells}
use Rattle.pass_rules.specs.Leaves.{text_tree, void_tree, guarded, key_text_of, number_tree, truth_tree, as_sequence}
use Rattle.expr_rules.specs.Arithmetic.{admits, fold_texts, fold_sum, regroups, fold_numbers}
use Rattle.expr_rules.specs.Choices.{chosen_arm, is_logical, chosen_side}
use Rattle.expr_rules.specs.Members.{text_at, array_at, value_named}
use Rattle.tree_keys.specs.Keys.{are_keys, keys_of}
use Rattle.expr_rules.specs.Comparisons.{compares, is_comparison, beside_itself, text_beside_itself}
use Rattle.expr_rules.specs.Sequences.{front_folded, some_folds}
use Rattle.expr_rules.specs.Spreads.{opened_kinds, opened_items, opened_properties, spreads_array, spreads_object}

-- `o.k`, or `o[key]` where the key is a literal of text k
pub data MemberOf : Tree → Tree → List ℕ → Type 0 where
  by_dot : {o : Tree} {k : List ℕ} (ss : List Span) → MemberOf (node (Dot k) ss (o ⊳ ε)) o k
  by_key : {o key : Tree} {k : List ℕ} (ss : List Span) → key_text_of key ≡ Some k → MemberOf (node Index ss (o ⊳ key ⊳ ε)) o k

-- One rule a fold: what may stand where a node stands, once its children are walked.
pub data ExprStep (mark : ℕ) : Tree → Tree → Type 0 where
  -- unary operators
  not_known : (ss rs ts : List Span) (a : Tree) (b : Bool) → truth mark a ≡ Some b → ExprStep mark (node (Unary Bang) ss (a ⊳ ε)) (preserve rs (effects mark (node (Unary Bang) ss (a ⊳ ε))) (truth_tree ts (not b)))
  plus_known : (ss rs : List Span) (a : Tree) (k : Numeric) → number mark a ≡ Some k → ExprStep mark (node (Unary Plus) ss (a ⊳ ε)) (number_tree mark rs k)
  minus_known : (ss rs : List Span) (a : Tree) (k : Numeric) → number mark (node (Unary Minus) ss (a ⊳ ε)) ≡ Some k → ExprStep mark (node (Unary Minus) ss (a ⊳ ε)) (number_tree mark rs k)
  tilde_known : (ss rs : List Span) (a : Tree) (k : Numeric) → number mark a ≡ Some k → ExprStep mark (node (Unary Tilde) ss (a ⊳ ε)) (number_tree mark rs (Whole (as_i32 (2 ^ 32 - 1 - to_u32 k))))
  void_pure : (ss rs zs : List Span) (a : Tree) → pure mark a ≡ true → 2 ≤ weight a → ExprStep mark (node (Unary Void) ss (a ⊳ ε)) (void_tree rs zs)
  typeof_expression : (ss rs ts : List Span) (a : Tree) (s : List ℕ) → typeof_known mark a ≡ Some s → ExprStep mark (node (Unary TypeOf) ss (a ⊳ ε)) (preserve rs (effects mark (node (Unary TypeOf) ss (a ⊳ ε))) (text_tree ts s))
  typeof_constant : (ss rs : List Span) (cs : Forest) (x : Name) (v : Value) → name_value mark x ≡ Some v → ExprStep mark (node (TypeOfName x) ss cs) (text_tree rs (type_name v))
  -- numbers and texts
  join_texts : (ss rs : List Span) (a b : Tree) (r : List ℕ) → fold_texts mark a b ≡ Some r → ExprStep mark (node (Binary Add) ss (a ⊳ b ⊳ ε)) (text_tree rs r)
  add_numbers : (ss rs : List Span) (a b : Tree) (r : Numeric) → fold_sum mark a b ≡ Some r → admits Add a b r ≡ true → ExprStep mark (node (Binary Add) ss (a ⊳ b ⊳ ε)) (number_tree mark rs r)
  compute_numbers : (op : BinaryOp) (ss rs : List Span) (a b : Tree) (r : Numeric) → fold_numbers mark op a b ≡ Some r → admits op a b r ≡ true → ExprStep mark (node (Binary op) ss (a ⊳ b ⊳ ε)) (number_tree mark rs r)
  power_zero : (ss rs ts : List Span) (a b : Tree) → number mark b ≡ Some (Whole (pos 0)) → ExprStep mark (node (Binary Exp) ss (a ⊳ b ⊳ ε)) (preserve rs (effects mark (node (Binary Exp) ss (a ⊳ b ⊳ ε))) (number_tree mark ts (Whole (pos 1))))
  regroup : (op : BinaryOp) (ss is rs ns : List Span) (a b c : Tree) (r : Numeric) → regroups op ≡ true → fold_numbers mark op b c ≡ Some r → admits op b c r ≡ true → ExprStep mark (node (Binary op) ss (node (Binary op) is (a ⊳ b ⊳ ε) ⊳ c ⊳ ε)) (node (Binary op) rs (a ⊳ number_tree mark ns r ⊳ ε))
  -- comparisons
  compare_known : (op : BinaryOp) (ss rs : List Span) (a b : Tree) (i j : Numeric) (r : Bool) → is_comparison op ≡ true → number mark a ≡ Some i → number mark b ≡ Some j → (is_text_type (type_of mark a) && is_text_type (type_of mark b)) ≡ false → compare_numbers (compares op) i j ≡ Some (Truth r) → ExprStep mark (node (Binary op) ss (a ⊳ b ⊳ ε)) (truth_tree rs r)
  compare_texts : (op : BinaryOp) (ss rs : List Span) (a b : Tree) (s t : List ℕ) (r : Bool) → is_comparison op ≡ true → type_of mark a ≡ Some TextType → type_of mark b ≡ Some TextType → text mark a ≡ Some s → text mark b ≡ Some t → binary_value op (Text s) (Text t) ≡ Some (Truth r) → ExprStep mark (node (Binary op) ss (a ⊳ b ⊳ ε)) (truth_tree rs r)
  compare_name : (op : BinaryOp) (ss is js rs : List Span) (x : Name) (r : Bool) → is_unresolved mark x ≡ false → beside_itself op ≡ Some r → ExprStep mark (node (Binary op) ss (node (Read x) is ε ⊳ node (Read x) js ε ⊳ ε)) (truth_tree rs r)
  compare_type : (op : BinaryOp) (ss is js rs : List Span) (x : Name) (r : Bool) → is_unresolved mark x ≡ false → text_beside_itself op ≡ Some r → ExprStep mark (node (Binary op) ss (node (TypeOfName x) is ε ⊳ node (TypeOfName x) js ε ⊳ ε)) (truth_tree rs r)
  equality : (op : BinaryOp) (ss rs ts : List Span) (a b : Tree) (r : Bool) → is_equality op ≡ true → equal_known mark op a b ≡ Some r → ExprStep mark (node (Binary op) ss (a ⊳ b ⊳ ε)) (preserve rs (effects mark (node (Binary op) ss (a ⊳ b ⊳ ε))) (truth_tree ts (tells op r)))
  -- `instanceof` has no meaning, so any answer behind the effects of both sides will do
  instance : (ss rs ts : List Span) (a b : Tree) (r : Bool) → ExprStep mark (node (Binary InstanceOf) ss (a ⊳ b ⊳ ε)) (preserve rs (effects_all mark (a ⊳ b ⊳ ε)) (truth_tree ts r))
  -- choices
  logical : (op : BinaryOp) (ss rs : List Span) (a b : Tree) (known : Bool) → is_logical op ≡ true → truth mark a ≡ Some known → ExprStep mark (node (Binary op) ss (a ⊳ b ⊳ ε)) (chosen_side mark rs op a b known)
  choice : (ss rs : List Span) (t a b : Tree) (known : Bool) → truth mark t ≡ Some known → ExprStep mark (node Cond ss (t ⊳ a ⊳ b ⊳ ε)) (chosen_arm rs t (if known then a else b) (pure mark t))
  -- sequences, where the truth value says whether it stands in callee place
  front : (callee : Bool) (ss rs : List Span) (ts : Forest) → some_folds mark callee ts ≡ true → ExprStep mark (node Seq ss ts) (as_sequence rs (front_folded mark callee ts))
  -- spreads
  spread_array : (ss rs vs zs : List Span) (ks : List ItemKind) (ts : Forest) → spreads_array ks ts ≡ true → ExprStep mark (node (Array ks) ss ts) (node (Array (opened_kinds ks ts)) rs (opened_items (void_tree vs zs) ks ts))
  spread_object : (ss rs : List Span) (ts : Forest) → spreads_object ts ≡ true → ExprStep mark (node Object ss ts) (node Object rs (opened_properties ts))
  -- members; a length is a number of the core, and a hole counts as an item
  text_length : {m : Tree} (is rs : List Span) (t : List ℕ) → MemberOf m (node (StrLit t) is ε) (codes "length") → in_range (pos (length (units t))) ≡ true → ExprStep mark m (node (NumLit (pos (length (units t)))) rs ε)
  text_character : {m : Tree} (is rs : List Span) (t k u : List ℕ) → MemberOf m (node (StrLit t) is ε) k → text_at t k ≡ Some u → ExprStep mark m (text_tree rs u)
  array_length : {m : Tree} (is rs : List Span) (ks : List ItemKind) (ts : Forest) → MemberOf m (node (Array ks) is ts) (codes "length") → pure_all mark ts ≡ true → has_spread ks ≡ false → in_range (pos (length ks)) ≡ true → ExprStep mark m (node (NumLit (pos (length ks))) rs ε)
  array_item : {m : Tree} (is rs vs zs : List Span) (ks : List ItemKind) (ts : Forest) (k : List ℕ) (i : ℕ) (t : Tree) → MemberOf m (node (Array ks) is ts) k → index_of k ≡ Some i → array_at mark rs (void_tree vs zs) ks ts i ≡ Some t → ExprStep mark m t
  object_value : {m : Tree} (is : List Span) (ts : Forest) (k : List ℕ) (t : Tree) → MemberOf m (node Object is ts) k → are_keys (keys_of ts) ≡ true → value_named mark k ts ≡ Some t → ExprStep mark m t
  -- a place where the answer would mean something else
  in_guard : {t u : Tree} (rs zs : List Span) → ExprStep mark t u → weight (guarded rs zs u) < weight t → ExprStep mark t (guarded rs zs u)
