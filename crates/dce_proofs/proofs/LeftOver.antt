-- Where nothing plain is left that is free to go, what is declared plainly is exported, retained or named.
use Rattle.std.proofs.Common.{◌≡◌, Bool, true, false, not, ◌&&◌, ◌||◌, List, ◌∷◌, refl, sym, ap, subst, ◌∙◌, if◌then◌else◌}
use Rattle.std.proofs.lemmas.Bool.{true≢false, or_parts, and_left, and_right, or_from}
use Rattle.swc_ast.specs.declared.Span.{Span}
use Rattle.swc_ast.specs.Tree.{Text, Name, Label, Tree, node, Forest, ε, ◌⊳◌}
use Rattle.swc_ast.specs.Scope.{is_function, has_name, param_names}
use Rattle.swc_ast.specs.Run.{has_text}
use Rattle.swc_ast.specs.Resolved.{params_of}
use Rattle.swc_ast.specs.Reach.{named_by, named_outside, is_closed, is_for}
use Rattle.dce_rules.specs.Uses.{has_arguments, is_arguments, names_arguments, any_arguments, is_argument, argument_among, is_eval, calls_eval, any_eval, declared_among, seen_by_eval, eval_among, is_export_of, free_to_go}
use Rattle.dce_rules.specs.Left.{declared_plainly, any_of, is_head, left_in, left_among, Entered, itself, further, EnteredAmong, in_first, in_rest, speaks_of_arguments, arguments_among, is_kept}

open_if : (b e : Bool) → b ≡ false → (if b then false else e) ≡ false → e ≡ false
open_if b e p q = subst (λ b. (if b then false else e) ≡ false) p q

abbrev plainly : Tree → List Name
plainly (node l ss cs) = declared_plainly l cs

left_none : (F : Name → Bool) (t : Tree) → left_in F t ≡ false → any_of F (plainly t) ≡ false
left_none F (node l ss cs) e = (or_parts (any_of F (declared_plainly l cs)) _ e).0

module _ (F : Name → Bool) (s : Tree) where
  mutual
    entered_none : {t : Tree} → Entered s t → left_in F t ≡ false → any_of F (plainly s) ≡ false
    entered_none itself e = left_none F s e
    entered_none (further m ds o h) e = entered_none_among h (open_if (is_closed m ds) (left_among F (is_for m) ds) o (or_parts (any_of F (declared_plainly m ds)) _ e).1)

    entered_none_among : {head : Bool} {ts : Forest} → EnteredAmong s head ts → left_among F head ts ≡ false → any_of F (plainly s) ≡ false
    entered_none_among (in_first {head} {t} {ts} o h) e = entered_none h (open_if (is_head head t) (left_in F t) o (or_parts (if is_head head t then false else left_in F t) (left_among F false ts) e).0)
    entered_none_among (in_rest {head} {t} {ts} h) e = entered_none_among h (or_parts (if is_head head t then false else left_in F t) (left_among F false ts) e).1

-- `arguments` and `eval`

skip_if : (b e : Bool) → e ≡ false → (if b then false else e) ≡ false
skip_if true e p = refl
skip_if false e p = p

mutual
  no_arguments : (t : Tree) → speaks_of_arguments t ≡ false → names_arguments t ≡ false
  no_arguments (node l ss cs) e =
      let p = or_parts (is_arguments (named_by l)) (arguments_among cs) e in
      skip_if (has_arguments l) _ (or_from (is_arguments (named_by l)) (any_arguments cs) p.0 (none_arguments cs p.1))

  none_arguments : (ts : Forest) → arguments_among ts ≡ false → any_arguments ts ≡ false
  none_arguments ε e = e
  none_arguments (t ⊳ ts) e =
      let p = or_parts (speaks_of_arguments t) (arguments_among ts) e in
      or_from (names_arguments t) (any_arguments ts) (no_arguments t p.0) (none_arguments ts p.1)

mutual
  no_argument : (x : Name) (t : Tree) → speaks_of_arguments t ≡ false → is_argument x t ≡ false
  no_argument x (node l ss cs) e =
      let p = or_parts (is_arguments (named_by l)) (arguments_among cs) e in
      or_from (has_arguments l && (any_arguments cs && has_name x (param_names (params_of cs)))) (argument_among x cs)
      (and_right (has_arguments l) _ (and_left (any_arguments cs) (has_name x (param_names (params_of cs))) (none_arguments cs p.1))) (no_argument_among x cs p.1)

  no_argument_among : (x : Name) (ts : Forest) → arguments_among ts ≡ false → argument_among x ts ≡ false
  no_argument_among x ε e = e
  no_argument_among x (t ⊳ ts) e =
      let p = or_parts (speaks_of_arguments t) (arguments_among ts) e in
      or_from (is_argument x t) (argument_among x ts) (no_argument x t p.0) (no_argument_among x ts p.1)

mutual
  no_eval : (x : Name) (t : Tree) → calls_eval t ≡ false → seen_by_eval x t ≡ false
  no_eval x (node l ss cs) e =
      let p = or_parts (is_eval l) (any_eval cs) e in
      or_from (is_function l && (any_eval cs && declared_among x cs)) (eval_among x cs) (and_right (is_function l) _ (and_left (any_eval cs) (declared_among x cs) p.1)) (no_eval_among x cs p.1)

  no_eval_among : (x : Name) (ts : Forest) → any_eval ts ≡ false → eval_among x ts ≡ false
  no_eval_among x ε e = e
  no_eval_among x (t ⊳ ts) e =
      let p = or_parts (calls_eval t) (any_eval ts) e in
      or_from (seen_by_eval x t) (eval_among x ts) (no_eval x t p.0) (no_eval_among x ts p.1)

-- what is not free to go

none_of : (b : Bool) {d : Bool} → (b ≡ true → d ≡ true) → d ≡ false → b ≡ false
none_of false f h = refl
none_of true f h = absurd (true≢false (sym (f refl) ∙ h))

kept_by : (r n e a v : Bool) → a ≡ false → v ≡ false → not (r || (n || (e || (a || v)))) ≡ false → (e || (r || n)) ≡ true
kept_by r n true a v p q h = refl
kept_by true n false a v p q h = refl
kept_by false true false a v p q h = refl
kept_by false false false true v p q h = absurd (true≢false p)
kept_by false false false false true p q h = absurd (true≢false q)
kept_by false false false false false p q h = absurd (true≢false h)

module _ (retained : List Text) (t : Tree) (e : calls_eval t ≡ false) (a : speaks_of_arguments t ≡ false) where
  not_free : (x : Name) → free_to_go retained t x ≡ false → is_kept retained t x ≡ true
  not_free x h = kept_by (has_text x.text retained) (named_outside x t) (is_export_of x t) (is_argument x t) (seen_by_eval x t) (no_argument x t a) (no_eval x t e) h

  -- each name that an entered node declares plainly is exported, retained or named outside functions of that name
  pub left_kept : (F : Name → Bool) → ((x : Name) → free_to_go retained t x ≡ true → F x ≡ true) → left_in F t ≡ false → {l : Label} {ss : List Span} {cs : Forest} → Entered (node l ss cs) t → (x : Name) (xs : List Name) → declared_plainly l cs ≡ x ∷ xs → is_kept retained t x ≡ true
  left_kept F all h {l} {ss} {cs} i x xs q = not_free x (none_of (free_to_go retained t x) (all x) (or_parts (F x) (any_of F xs) (sym (ap (any_of F) q) ∙ entered_none F (node l ss cs) i h)).0)

-- what is named outside functions of its name occurs
