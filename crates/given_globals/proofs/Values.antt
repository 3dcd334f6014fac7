-- The values by their numbers.
use Rattle.std.proofs.Common.{◌≡◌, ℕ, zero, suc, ◌+◌, ◌-◌, ◌<◌, ◌≤◌, List, [], ◌∷◌, ◌++◌, length, Option, Some, None, option_map, slice_get, string_bytes, refl, sym, ap, subst, ◌∙◌, arith}
use Rattle.std.specs.Prelude.{option_copied}
use Rattle.std.specs.Borrow.{Bor}
use Rattle.std.specs.BTreeMap.{IsOrdered, get_by_text}
use Rattle.std.specs.String.{string_cmp}
use Rattle.std.specs.Cmp.Lexicographic.{on_texts}
use Rattle.std.specs.declared.alloc.Global.{Global}
use Rattle.std.specs.declared.string.String.{String}
use Rattle.std.proofs.lemmas.List.{length-map}
use Rattle.std.proofs.lemmas.Map.Entries.{btree_map_get_place}
use Rattle.std.proofs.lemmas.Option.{slice_get-map}
use Rattle.swc_ast.specs.Tree.{Text}
use Rattle.swc_ast.specs.Views.{expr_tree}
use Rattle.swc_ast.specs.declared.expressions.Expr.{Expr}
use Rattle.swc_expr_map.specs.Entries.{value_of, value_at}
use Rattle.given_globals.specs.Globals.{row_name, expressions, expression_row, expression_rows, global_row, global_rows, rows_of, told_name, given_of, answers_of}
use Rattle.given_globals.specs.declared.settings.Settings.{Settings}

get_front : {X : Type 0} (xs ys : List X) (i : ℕ) → i < length xs → slice_get (xs ++ ys) i ≡ slice_get xs i
get_front [] ys i h = absurd (omega (arith, h))
get_front (x ∷ xs) ys zero h = refl
get_front (x ∷ xs) ys (suc i) h = get_front xs ys i (omega (arith, h))

get_behind : {X : Type 0} (xs ys : List X) (i : ℕ) → slice_get (xs ++ ys) (length xs + i) ≡ slice_get ys i
get_behind [] ys i = let e : 0 + i ≡ i = omega arith in ap (λ n. slice_get ys n) e
get_behind (x ∷ xs) ys i = let e : suc (length xs) + i ≡ suc (length xs + i) = omega arith in ap (λ n. slice_get (x ∷ (xs ++ ys)) n) e ∙ get_behind xs ys i

module _ (s : Settings) where
  value_rows : (i : ℕ) → slice_get (answers_of s).values i ≡ option_map (λ r. r.1) (slice_get (rows_of s) i)
  unfolding answers_of given_of
  value_rows i = slice_get-map (λ r. r.1) (rows_of s) i

  row_value : (o : Option _) → option_map (λ r. r.1) (option_map expression_row o) ≡ option_map value_of o
  row_value None = refl
  row_value (Some e) = refl

  -- of an expression
  pub expression_value : (i : ℕ) → i < length (expressions s) → value_at (expressions s) i ≡ slice_get (answers_of s).values i
  expression_value i h = sym (
      value_rows i ∙ ap (option_map (λ r. r.1)) (get_front (expression_rows (expressions s)) (global_rows s.globals.now) i (subst (λ n. i < n) (sym (length-map (expressions s) expression_row)) h) ∙ slice_get-map expression_row (expressions s) i)
      ∙ row_value (slice_get (expressions s) i))

  -- of a name
  global_at : (o : Option (String Global × Expr)) (i : ℕ) (t : Text) → slice_get s.globals.now.entries i ≡ o → option_map row_name (option_map global_row o) ≡ Some t → IsOrdered string_cmp s.globals.now → option_map expr_tree (get_by_text s.globals.now t) ≡ option_map (λ r. r.1) (option_map global_row o)
  global_at None i t e n o = cc
  global_at (Some p) i t e n o = ap (λ u. option_map expr_tree (get_by_text s.globals.now u)) (sym (some_same n)) ∙ ap (option_map expr_tree) (btree_map_get_place (on_texts string_bytes) s.globals.now i p.0 p.1 o e)
    where
      some_same : {u v : Text} → Some u ≡ Some v → u ≡ v
      some_same e = cc

  behind_rows : (i j : ℕ) → i ≡ length (expressions s) + j → slice_get (rows_of s) i ≡ option_map global_row (slice_get s.globals.now.entries j)
  behind_rows i j e = ap (λ n. slice_get (rows_of s) n) (e ∙ ap (λ n. n + j) (sym (length-map (expressions s) expression_row))) ∙ get_behind (expression_rows (expressions s)) (global_rows s.globals.now) j ∙ slice_get-map global_row s.globals.now.entries j

  pub copied : (o : Option (Bor Expr)) → option_map (λ e. expr_tree e.now) o ≡ option_map expr_tree (option_copied o)
  copied None = refl
  copied (Some e) = refl

  pub global_value : (i : ℕ) (t : Text) (o : Option (Bor Expr)) → length (expressions s) ≤ i → told_name s i ≡ Some t → IsOrdered string_cmp s.globals.now → option_copied o ≡ get_by_text s.globals.now t → option_map (λ e. expr_tree e.now) o ≡ slice_get (answers_of s).values i
  global_value i t o h n r g =
      let j = i - length (expressions s) in
      let b = behind_rows i j (omega (arith, h)) in
      copied o ∙ ap (option_map expr_tree) g
      ∙ global_at (slice_get s.globals.now.entries j) j t refl (ap (option_map row_name) (sym b) ∙ n) r
      ∙ ap (option_map (λ r. r.1)) (sym b) ∙ sym (value_rows i)
