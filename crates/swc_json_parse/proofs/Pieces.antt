-- A text that is taken in pieces.
use Rattle.std.proofs.Common.{◌≡◌, ℕ, ◌+◌, ◌<◌, Bool, true, false, List, ◌∷◌, ◌++◌, drop, length, get_or, Option, Some, None, option_map, Result, Ok, Err, IfOk, refl, sym, ap, subst, ◌∙◌}
use Rattle.std.proofs.lemmas.Bool.{false≢true}
use Rattle.std.proofs.lemmas.List.{at_drop_more}
use Rattle.std.specs.declared.alloc.AllocError.{AllocError}
use Rattle.serde_json.specs.Written.{comma_if}
use Rattle.swc_ast.specs.Parts.{list_trees}
use Rattle.swc_ast.specs.Tree.{Text}
use Rattle.swc_ast.specs.Views.{expr_tree, prop_or_spread_tree}
use Rattle.swc_ast.specs.declared.expressions.Expr.{Expr}
use Rattle.swc_ast.specs.declared.expressions.ExprOrSpread.{ExprOrSpread}
use Rattle.swc_ast.specs.declared.expressions.PropOrSpread.{PropOrSpread}
use Rattle.swc_json_parse.specs.Written.{Wrote, text_within, elements_within, members_within, member_within}
use Rattle.swc_json_parse.proofs.Within.{joined, elements_first, members_first}

-- what is taken in two pieces is taken as one text
abbrev pub Joins : {O : Type 0} → (O → Text → O → Type 0) → Type 0
Joins {O} takes = (a b c : O) (xs ys : Text) → takes a xs b → takes b ys c → takes a (xs ++ ys) c

-- what was taken of a text that there is
pub record Took {O : Type 0} (takes : O → Text → O → Type 0) (o : Option Text) (a b : O) : Type 0 where
  pub text : Text
  pub is : o ≡ Some text
  pub taken : takes a text b

pub took : {O : Type 0} (takes : O → Text → O → Type 0) (o : Option Text) (a b : O) (w : Bool) → w ≡ true → Wrote takes o a w b → Took takes o a b
took takes None a b w is h = absurd (false≢true (sym h ∙ is))
took takes (Some x) a b w is h = record { text = x; is = refl; taken = h.1 }

-- there is no text
pub there_is_none : {O : Type 0} (takes : O → Text → O → Type 0) (o : Option Text) (a b : O) (w : Bool) → w ≡ false → Wrote takes o a w b → o ≡ None
there_is_none takes None a b w is h = refl
there_is_none takes (Some x) a b w is h = absurd (false≢true (sym is ∙ h.0))

pub wrote_none : {O : Type 0} (takes : O → Text → O → Type 0) (o : Option Text) (a b : O) → o ≡ None → Wrote takes o a false b
wrote_none takes o a b h = subst (λ p. Wrote takes p a false b) (sym h) refl

pub wrote_at : {O : Type 0} (takes : O → Text → O → Type 0) (o p : Option Text) (a b : O) (w : Bool) → o ≡ p → Wrote takes p a w b → Wrote takes o a w b
wrote_at takes o p a b w h k = subst (λ q. Wrote takes q a w b) (sym h) k

-- a piece in front of what is still to be taken
pub in_front : {O : Type 0} (takes : O → Text → O → Type 0) → Joins takes → (x : Text) (o : Option Text) (a b c : O) (w : Bool) → takes a x b → Wrote takes o b w c → Wrote takes (option_map (λ y. x ++ y) o) a w c
in_front takes joins x None a b c w h k = k
in_front takes joins x (Some y) a b c w h k = (k.0, joins a b c x y h k.1)

-- the same of what a call answers, if anything
pub tail_at : {O : Type 0} (takes : O → Text → O → Type 0) (r : Result Bool AllocError) (o p : Option Text) (a b : O) → o ≡ p → IfOk r (λ w. Wrote takes p a w b) → IfOk r (λ w. Wrote takes o a w b)
tail_at takes r o p a b h k = subst (λ q. IfOk r (λ w. Wrote takes q a w b)) (sym h) k

pub tail_front : {O : Type 0} (takes : O → Text → O → Type 0) → Joins takes → (r : Result Bool AllocError) (x : Text) (o p : Option Text) (a b c : O) → o ≡ option_map (λ y. x ++ y) p → takes a x b → IfOk r (λ w. Wrote takes p b w c) → IfOk r (λ w. Wrote takes o a w c)
tail_front takes joins (Ok w) x o p a b c h t k = wrote_at takes o (option_map (λ y. x ++ y) p) a c w h (in_front takes joins x p a b c w t k)
tail_front takes joins (Err e) x o p a b c h t k = k

-- once the rest is taken, the whole is
pub record Leads {O : Type 0} (takes : O → Text → O → Type 0) (rest : Option Text) (now : O) (whole : Option Text) (start : O) : Type 0 where
  pub to : (w : Bool) (c : O) → Wrote takes rest now w c → Wrote takes whole start w c

-- an item with what stands in front of it was taken
step : {O : Type 0} (takes : O → Text → O → Type 0) → Joins takes → (s : Text) (o rest left whole : Option Text) (a b c start : O) → left ≡ joined s o rest → takes a s b → Took takes o b c → Leads takes left a whole start → Leads takes rest c whole start
step takes joins s o rest left whole a b c start is comma t l = record {
  to = λ w d h. l.to w d (wrote_at takes left (option_map (λ z. s ++ z) (option_map (λ y. t.text ++ y) rest)) a d w (is ∙ ap (λ p. joined s p rest) t.is) (in_front takes joins s (option_map (λ y. t.text ++ y) rest) a b d w comma (in_front takes joins t.text rest b c d w t.taken h)));
}

-- what is left has no text
stops : {O : Type 0} (takes : O → Text → O → Type 0) (left whole : Option Text) (a d start : O) → left ≡ None → Leads takes left a whole start → Wrote takes whole start false d
stops takes left whole a d start h l = l.to false d (wrote_none takes left a d h)

module _ {O : Type 0} (takes : O → Text → O → Type 0) where
  -- what is left of elements
  abbrev pub ElementsLead : ℕ → Bool → List (Option (ExprOrSpread Expr)) → O → List (Option (ExprOrSpread Expr)) → O → Type 0
  ElementsLead n later left a whole start = Leads takes (elements_within n later left) a (elements_within n false whole) start

  pub element_taken : Joins takes → (n : ℕ) (later : Bool) (xs whole : List (Option (ExprOrSpread Expr))) (i : ℕ) (o : Option (ExprOrSpread Expr)) (x : ExprOrSpread Expr) (a b c start : O) (w : Bool) → i < length xs → o ≡ get_or xs i o → o ≡ Some x → x.spread ≡ None → takes a (comma_if later) b → w ≡ true → Wrote takes (text_within n (expr_tree x.expr.value)) b w c
      → ElementsLead n later (drop i xs) a whole start → ElementsLead n true (drop (i + 1) xs) c whole start
  element_taken joins n later xs whole i o x a b c start w within at is plain comma good h l =
      let here : elements_within n later (drop i xs) ≡ elements_within n later (Some x ∷ drop (i + 1) xs) = at_drop_more (elements_within n later) xs i o within ∙ ap (λ y. elements_within n later (y ∷ drop (i + 1) xs)) (sym at ∙ is) in
      step takes joins (comma_if later) (text_within n (expr_tree x.expr.value)) _ _ _ a b c start (here ∙ elements_first n later x (drop (i + 1) xs) plain) comma (took takes _ b c w good h) l

  pub element_fails : (n : ℕ) (later : Bool) (xs whole : List (Option (ExprOrSpread Expr))) (i : ℕ) (o : Option (ExprOrSpread Expr)) (x : ExprOrSpread Expr) (a b c d start : O) (w : Bool) → i < length xs → o ≡ get_or xs i o → o ≡ Some x → x.spread ≡ None → w ≡ false → Wrote takes (text_within n (expr_tree x.expr.value)) b w c
      → ElementsLead n later (drop i xs) a whole start → Wrote takes (elements_within n false whole) start false d
  element_fails n later xs whole i o x a b c d start w within at is plain bad h l =
      let here : elements_within n later (drop i xs) ≡ elements_within n later (Some x ∷ drop (i + 1) xs) = at_drop_more (elements_within n later) xs i o within ∙ ap (λ y. elements_within n later (y ∷ drop (i + 1) xs)) (sym at ∙ is) in
      stops takes _ _ a d start (here ∙ elements_first n later x (drop (i + 1) xs) plain ∙ ap (λ p. joined (comma_if later) p (elements_within n true (drop (i + 1) xs))) (there_is_none takes _ b c w bad h)) l

  -- what is left of members
  abbrev pub members_left : ℕ → Bool → List PropOrSpread → Option Text
  members_left n later xs = members_within n later (list_trees prop_or_spread_tree xs)

  abbrev pub MembersLead : ℕ → Bool → List PropOrSpread → O → List PropOrSpread → O → Type 0
  MembersLead n later left a whole start = Leads takes (members_left n later left) a (members_left n false whole) start

  pub member_taken : Joins takes → (n : ℕ) (later : Bool) (xs whole : List PropOrSpread) (i : ℕ) (x : PropOrSpread) (a b c start : O) (w : Bool) → i < length xs → x ≡ get_or xs i x → takes a (comma_if later) b → w ≡ true → Wrote takes (member_within n (prop_or_spread_tree x)) b w c
      → MembersLead n later (drop i xs) a whole start → MembersLead n true (drop (i + 1) xs) c whole start
  member_taken joins n later xs whole i x a b c start w within at comma good h l =
      let here : members_left n later (drop i xs) ≡ members_left n later (x ∷ drop (i + 1) xs) = at_drop_more (members_left n later) xs i x within ∙ ap (λ y. members_left n later (y ∷ drop (i + 1) xs)) (sym at) in
      step takes joins (comma_if later) (member_within n (prop_or_spread_tree x)) _ _ _ a b c start (here ∙ members_first n later (prop_or_spread_tree x) (list_trees prop_or_spread_tree (drop (i + 1) xs))) comma (took takes _ b c w good h) l

  pub member_fails : (n : ℕ) (later : Bool) (xs whole : List PropOrSpread) (i : ℕ) (x : PropOrSpread) (a b c d start : O) (w : Bool) → i < length xs → x ≡ get_or xs i x → w ≡ false → Wrote takes (member_within n (prop_or_spread_tree x)) b w c
      → MembersLead n later (drop i xs) a whole start → Wrote takes (members_left n false whole) start false d
  member_fails n later xs whole i x a b c d start w within at bad h l =
      let here : members_left n later (drop i xs) ≡ members_left n later (x ∷ drop (i + 1) xs) = at_drop_more (members_left n later) xs i x within ∙ ap (λ y. members_left n later (y ∷ drop (i + 1) xs)) (sym at) in
      stops takes _ _ a d start (here ∙ members_first n later (prop_or_spread_tree x) (list_trees prop_or_spread_tree (drop (i + 1) xs)) ∙ ap (λ p. joined (comma_if later) p (members_left n true (drop (i + 1) xs))) (there_is_none takes _ b c w bad h)) l
