-- What takes the place of a member of a literal.
use Rattle.std.proofs.Common.{◌≡◌, ℕ, suc, ◌+◌, ◌-◌, ◌<◌, true, false, if◌then◌else◌, List, [], ◌∷◌, length, take, drop, length-drop, Option, Some, None, Result, Ok, Err, sym, ap, subst, ◌∙◌, arith}
use Rattle.std.specs.Prelude.{IfOk, IfSome, MatchOption, chars, codes, slice_get}
use Rattle.std.proofs.lemmas.List.{length-map, take_all}
use Rattle.swc_ast.specs.Operators.{if_some, index_of, units}
use Rattle.swc_ast.specs.Parts.{list_trees, word_text}
use Rattle.swc_ast.specs.Tree.{Array, StrLit, Tree, node, ε}
use Rattle.swc_ast.specs.Views.{expr_tree, prop_or_spread_tree}
use Rattle.swc_ast.specs.Expressions.{item_kind, member_node, object_tree}
use Rattle.swc_ast.proofs.Equations.{expr_tree-Object}
use Rattle.swc_ast.specs.declared.expressions.Expr.TheVariants as in_expr
use Rattle.swc_ast.specs.declared.expressions.ObjectLit.{ObjectLit}
use Rattle.swc_ast.specs.declared.expressions.PropOrSpread.{PropOrSpread}
use Rattle.expr_rules.specs.Replaced.{Replaced}
use Rattle.swc_ast.specs.declared.Span.{Span}
use Rattle.swc_ast.specs.declared.names.IdentName.{IdentName}
use Rattle.swc_ast.specs.declared.expressions.ComputedPropName.{ComputedPropName}
use Rattle.swc_ast.specs.declared.expressions.Expr.{Expr}
use Rattle.swc_ast.specs.declared.expressions.MemberProp.{MemberProp}
use Rattle.swc_ast.specs.declared.expressions.MemberProp.TheVariants as prop
use Rattle.swc_utils.specs.Pure.{has_spread, pure_all}
use Rattle.tree_keys.specs.Keys.{are_keys, keys_of}
use Rattle.expr_rules.specs.ExprSteps.{ExprStep, MemberOf, by_dot, by_key, text_length, text_character, array_length, array_item, object_value}
use Rattle.pass_rules.specs.Leaves.{key_text_of, void_tree}
use Rattle.expr_rules.specs.Members.{all_basic, array_at, character, text_at, value_named}
use Rattle.expr_members.specs.Members.{StandsFor, IsKey, IsLength, IsCharacter, IsItem, character_at}
use Rattle.expr_members.proofs.Opened.{Item, kinds_of, trees_of}
use Rattle.expr_members.proofs.Indexed.{item_is}

-- what holds of an answer, where there is one

pub answered : {A E : Type 0} {P Q : A → Type 0} (r : Result (Option A) E) → ((a : A) → P a → Q a) → IfOk r (λ o. IfSome o P) → IfOk r (λ o. IfSome o Q)
answered (Ok None) f h = h
answered (Ok (Some a)) f h = f a h
answered (Err e) f h = h

pub answered_or : {A E : Type 0} (P : Type 0) {Q R : A → Type 0} (r : Result (Option A) E) → ((a : A) → Q a → R a) → IfOk r (λ o. MatchOption o P Q) → IfOk r (λ o. MatchOption o P R)
answered_or P (Ok None) f h = h
answered_or P (Ok (Some a)) f h = f a h
answered_or P (Err e) f h = h

-- keys

pub word_key : (p : MemberProp Expr) (n : IdentName) (k : List ℕ) → p ≡ prop.Ident n → k ≡ word_text n → IsKey p k
word_key p n k is text = subst (λ q. IsKey q k) (sym is) (subst (IsKey (prop.Ident n)) (sym text) (λ s o. by_dot (s ∷ n.span ∷ [])))

pub literal_key : (p : MemberProp Expr) (n : ComputedPropName Expr) (e : Expr) (k : List ℕ) → p ≡ prop.Computed n → e ≡ n.expr.value → key_text_of (expr_tree e) ≡ Some k → IsKey p k
literal_key p n e k is inner text = subst (λ q. IsKey q k) (sym is) (λ s o. by_key (s ∷ n.span ∷ []) (ap (λ f. key_text_of (expr_tree f)) (sym inner) ∙ text))

-- texts

pub text_length_stands : (mark : ℕ) (s : Span) (is : List Span) (t key : List ℕ) (e : Expr) → key ≡ codes "length" → IsLength s (length (units t)) e → StandsFor mark (node (StrLit t) is ε) key e
text_length_stands mark s is t key e named h = λ m of. subst (ExprStep mark m) (sym h.0) (text_length is (s ∷ []) t (subst (MemberOf m (node (StrLit t) is ε)) named of) h.1)

text_at_is : (t k u : List ℕ) (i : ℕ) → index_of k ≡ Some i → character_at t i ≡ Some u → text_at t k ≡ Some u
text_at_is t k u i index at = ap (λ o. if all_basic (chars t) then if_some o (λ j. if_some (slice_get (chars t) j) character) else None) index ∙ at

pub character_stands : (mark : ℕ) (s : Span) (is : List Span) (t key : List ℕ) (i : ℕ) (e : Expr) → index_of key ≡ Some i → IsCharacter s t i e → StandsFor mark (node (StrLit t) is ε) key e
character_stands mark s is t key i e index (u, at, char) = λ m of. subst (ExprStep mark m) (sym at) (text_character is (s ∷ []) t key u of (text_at_is t key u i index char))

-- arrays

pub array_length_stands : {P : Type 0} (mark : ℕ) (s : Span) (ss : List Span) (xs : List Item) (key : List ℕ) (r : Option Expr) → P → key ≡ codes "length" → has_spread (kinds_of xs) ≡ false → IfSome r (λ e. IsLength s (length xs) e) → IfSome r (λ e. pure_all mark (trees_of xs) ≡ true) → MatchOption r P (λ e. StandsFor mark (node (Array (kinds_of xs)) ss (trees_of xs)) key e)
array_length_stands mark s ss xs key None same named plain h clean = same
array_length_stands mark s ss xs key (Some e) same named plain h clean = let i : IsLength s (length (kinds_of xs)) e = subst (λ n. IsLength s n e) (sym (length-map xs item_kind)) h in λ m of. subst (ExprStep mark m) (sym i.0) (array_length ss (s ∷ []) (kinds_of xs) (trees_of xs) (subst (MemberOf m (node (Array (kinds_of xs)) ss (trees_of xs))) named of) clean plain i.1)

-- what is behind an index, to the end
pub behind_all : {X : Type 0} (ys : List X) (j : ℕ) → take (length ys - j) (drop j ys) ≡ drop j ys
behind_all ys j = take_all (length ys - j) (drop j ys) (omega (arith, length-drop j ys))

pub item_found : (mark : ℕ) (s : Span) (xs : List Item) (i : ℕ) (e : Expr) → i < length xs → has_spread (kinds_of xs) ≡ false → pure_all mark (trees_of (drop (i + 1) xs)) ≡ true → IsItem mark s xs i e → array_at mark (s ∷ []) (void_tree (s ∷ []) (s ∷ [])) (kinds_of xs) (trees_of xs) i ≡ Some (expr_tree e)
item_found mark s xs i e within plain clean (x, at, is) = item_is mark (s ∷ []) (void_tree (s ∷ []) (s ∷ [])) xs i x within at plain (ap (λ j. pure_all mark (trees_of (drop j xs))) (next i) ∙ clean) ∙ ap Some (sym is)
  where
    next : (j : ℕ) → suc j ≡ j + 1
    next j = omega arith

pub item_stands : (mark : ℕ) (s : Span) (ss : List Span) (xs : List Item) (key : List ℕ) (i : ℕ) (e : Expr) → index_of key ≡ Some i → array_at mark (s ∷ []) (void_tree (s ∷ []) (s ∷ [])) (kinds_of xs) (trees_of xs) i ≡ Some (expr_tree e) → StandsFor mark (node (Array (kinds_of xs)) ss (trees_of xs)) key e
item_stands mark s ss xs key i e index at = λ m of. array_item ss (s ∷ []) (s ∷ []) (s ∷ []) (kinds_of xs) (trees_of xs) key i (expr_tree e) of index at

-- objects

value_stands : (P : Type 0) (mark : ℕ) (key : List ℕ) (n : ObjectLit PropOrSpread) (o : Option Expr) → are_keys (keys_of (list_trees prop_or_spread_tree n.props.items)) ≡ true → MatchOption o P (λ e. value_named mark key (list_trees prop_or_spread_tree n.props.items) ≡ Some (expr_tree e)) → MatchOption o P (λ e. StandsFor mark (object_tree prop_or_spread_tree n) key e)
value_stands P mark key n None once h = h
value_stands P mark key n (Some e) once h = λ m of. object_value (n.span ∷ []) (list_trees prop_or_spread_tree n.props.items) key (expr_tree e) of once h

-- the object of a member, as it was or taken apart

pub arm : (mark : ℕ) (key : List ℕ) {N : Type 0} (put : N → Expr) (tree : N → Tree) (at : (n : N) → expr_tree (put n) ≡ tree n) {old new : Expr} {n k : N} (m : N) (o : Option Expr) → old ≡ put n → k ≡ n → new ≡ put m → MatchOption o (m ≡ k) (λ e. StandsFor mark (tree k) key e) → MatchOption o (new ≡ old) (λ e. StandsFor mark (expr_tree old) key e)
arm mark key put tree at m None is same after h = after ∙ ap put (h ∙ same) ∙ sym is
arm mark key put tree at m (Some e) is same after h = subst (λ t. StandsFor mark t key e) (ap tree same ∙ sym (at _) ∙ sym (ap expr_tree is)) h

pub object_arm : (mark : ℕ) (key : List ℕ) {old new : Expr} {n : ObjectLit PropOrSpread} (k m : ObjectLit PropOrSpread) (o : Option Expr) → old ≡ in_expr.Object n → k ≡ n → new ≡ in_expr.Object m → are_keys (keys_of (list_trees prop_or_spread_tree k.props.items)) ≡ true → MatchOption o (m ≡ k) (λ e. value_named mark key (list_trees prop_or_spread_tree k.props.items) ≡ Some (expr_tree e)) → MatchOption o (new ≡ old) (λ e. StandsFor mark (expr_tree old) key e)
object_arm mark key k m o is same after once h = arm mark key in_expr.Object (object_tree prop_or_spread_tree) expr_tree-Object m o is same after (value_stands (m ≡ k) mark key k o once h)

pub replaced : (mark : ℕ) (s : Span) (x y : Expr) (p : MemberProp Expr) (key : List ℕ) (o : Option Expr) → IsKey p key → MatchOption o (y ≡ x) (λ e. StandsFor mark (expr_tree x) key e) → Replaced mark (member_node expr_tree s x p) (member_node expr_tree s y p) o
replaced mark s x y p key None named h = ap (λ z. member_node expr_tree s z p) h
replaced mark s x y p key (Some e) named h = h (member_node expr_tree s x p) (named s x)
