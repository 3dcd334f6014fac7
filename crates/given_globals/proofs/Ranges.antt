-- The numbers that are found are those of values.
use Rattle.std.proofs.Common.{◌≡◌, ℕ, ◌+◌, ◌<◌, Bool, true, false, cond, if◌then◌else◌, List, length, position, nat_lt, ltb-true, Option, Some, None, option_map, refl, ap, subst, ◌∙◌, bytes_eq, arith}
use Rattle.std.specs.List.{position_or_len}
use Rattle.std.proofs.lemmas.List.{length-map, length-append}
use Rattle.swc_ast.specs.Meaning.{is_unresolved}
use Rattle.swc_ast.specs.Tree.{Text, StrLit, Read, Dot, Index, Tree, node, ε, ◌⊳◌}
use Rattle.swc_expr_map.specs.Entries.{has_key, number_of}
use Rattle.swc_pass.specs.Given.{Found, nothing, a_value, a_plain}
use Rattle.swc_pass.specs.Inlined.{shape, leads_outside, or_else, by_value, by_plain, by_expression, is_env, by_key, by_part}
use Rattle.given_globals.specs.Globals as of
use Rattle.given_shield.specs.Names.{mark_of}
use Rattle.given_globals.specs.Globals.{row_name, expressions, expression_rows, global_rows, rows_of, global_number, given_of, answers_of}
use Rattle.given_globals.specs.declared.settings.Settings.{Settings}

some_same : {A : Type 0} {x y : A} → Some x ≡ Some y → x ≡ y
some_same e = cc

position_within : {X : Type 0} (p : X → Bool) (xs : List X) (i : ℕ) → position p xs ≡ Some i → i < length xs
position_within p xs i e = by (nat_lt (position_or_len p xs) (length xs)) refl e
  where
    by : (b : Bool) → nat_lt (position_or_len p xs) (length xs) ≡ b → cond b (Some (position_or_len p xs)) None ≡ Some i → i < length xs
    by true q f = subst (λ n. n < length xs) (some_same f) (ltb-true (position_or_len p xs) (length xs) q)
    by false q f = cc

value_of : (o : Option ℕ) (i : ℕ) → by_value o ≡ a_value i → o ≡ Some i
value_of None i e = cc
value_of (Some j) i e = cc

if_value : (b : Bool) (o : Option ℕ) (i : ℕ) → (if b then by_value o else nothing) ≡ a_value i → o ≡ Some i
if_value true o i e = value_of o i e
if_value false o i e = cc

plain_no_value : {A : Type 0} (o : Option Tree) (i : ℕ) → by_plain o ≡ a_value i → A
plain_no_value None i e = cc
plain_no_value (Some t) i e = cc

if_plain : {A : Type 0} (b : Bool) (o : Option Tree) (i : ℕ) → (if b then by_plain o else nothing) ≡ a_value i → A
if_plain true o i e = plain_no_value o i e
if_plain false o i e = cc

either : {A : Type 0} (f g : Found) (i : ℕ) → (f ≡ a_value i → A) → (g ≡ a_value i → A) → or_else f g ≡ a_value i → A
either nothing g i h k e = k e
either (a_value j) g i h k e = h e
either (a_plain t) g i h k e = h e

moved_within : (n m : ℕ) (o : Option ℕ) (i : ℕ) → ((j : ℕ) → o ≡ Some j → j < m) → option_map (λ j. n + j) o ≡ Some i → i < n + m
moved_within n m None i h e = cc
moved_within n m (Some j) i h e = let k = h j refl in let q : n + j ≡ i = some_same e in omega (arith, k, q)

module _ (s : Settings) where
  pub values_length : length (answers_of s).values ≡ length (rows_of s)
  unfolding answers_of given_of
  values_length = length-map (rows_of s) (λ r. r.1)

  pub rows_length : length (rows_of s) ≡ length (expressions s) + length (global_rows s.globals.now)
  rows_length = length-append (expression_rows (expressions s)) (global_rows s.globals.now) ∙ ap (λ n. n + length (global_rows s.globals.now)) (length-map (expressions s) of.expression_row)

  expression_within : (t : Tree) (i : ℕ) → number_of t (expressions s) ≡ Some i → i < length (answers_of s).values
  expression_within t i e = let h = position_within (has_key t) (expressions s) i e in omega (arith, h, values_length, rows_length)

  global_within : (x : Text) (i : ℕ) → global_number s x ≡ Some i → i < length (answers_of s).values
  global_within x i e =
      let h = moved_within (length (expressions s)) (length (global_rows s.globals.now)) (position (λ r. bytes_eq x (row_name r)) (global_rows s.globals.now)) i (position_within (λ r. bytes_eq x (row_name r)) (global_rows s.globals.now)) e in
      omega (arith, h, values_length, rows_length)

  key_no_value : {A : Type 0} (o k : Tree) (i : ℕ) → by_key (given_of s) (mark_of s.mark) o k ≡ a_value i → A
  key_no_value o (node (StrLit t) ss cs) i e = if_plain (is_env (given_of s) (mark_of s.mark) o) ((given_of s).env t) i e
  key_no_value o (node l ss cs) i e = cc

  part_within : (t : Tree) (i : ℕ) → by_part (given_of s) (mark_of s.mark) t ≡ a_value i → i < length (answers_of s).values
  unfolding given_of
  part_within (node (Read x) ss cs) i e = global_within x.text i (if_value (is_unresolved (mark_of s.mark) x) (global_number s x.text) i e)
  part_within (node (Dot k) ss ε) i e = cc
  part_within (node (Dot k) ss (o ⊳ ε)) i e = if_plain (is_env (given_of s) (mark_of s.mark) o) ((given_of s).env k) i e
  part_within (node (Dot k) ss (o ⊳ p ⊳ ts)) i e = cc
  part_within (node Index ss ε) i e = cc
  part_within (node Index ss (o ⊳ ε)) i e = cc
  part_within (node Index ss (o ⊳ k ⊳ ε)) i e = key_no_value o k i e
  part_within (node Index ss (o ⊳ k ⊳ p ⊳ ts)) i e = cc
  part_within (node l ss cs) i e = cc

  pub found_within : (t : Tree) (i : ℕ) → (answers_of s).found t ≡ a_value i → i < length (answers_of s).values
  unfolding answers_of given_of
  found_within t i e = either (by_expression (given_of s) (mark_of s.mark) t) (by_part (given_of s) (mark_of s.mark) t) i (λ f. expression_within (shape t) i (if_value (leads_outside (mark_of s.mark) t) (number_of (shape t) (expressions s)) i f)) (part_within t i) e
