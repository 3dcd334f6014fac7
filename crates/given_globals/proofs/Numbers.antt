-- The numbers of names, by their places among the names.
use Rattle.std.proofs.Common.{◌≡◌, ℕ, ◌+◌, ◌<◌, Bool, not, List, [], ◌∷◌, map, drop, length, get_or, position, nat_lt, cond, Option, Some, None, option_map, slice_get, string_bytes, refl, sym, ap, ap₂, subst, ◌∙◌, bytes_eq, arith}
use Rattle.std.proofs.Math.Seq.{drop-append_seam}
use Rattle.std.proofs.lemmas.List.{length-map, get_or-map}
use Rattle.std.proofs.lemmas.Map.Keys.{Less-from_sorted}
use Rattle.std.specs.Borrow.{Bor}
use Rattle.std.proofs.lemmas.Option.{slice_get-map}
use Rattle.std.specs.BTreeMap.{IsOrdered, keys}
use Rattle.std.specs.Cmp.Lexicographic.{slice_cmp}
use Rattle.std.specs.List.{drop-map, prefix_len, AllByRecursion}
use Rattle.std.specs.List.Sorted.{IsStrictlySortedBy}
use Rattle.std.specs.Ordering.{nat_cmp}
use Rattle.std.specs.String.{string_cmp}
use Rattle.std.specs.declared.alloc.Global.{Global}
use Rattle.std.specs.declared.cmp.Ordering.{Ordering}
use Rattle.std.specs.declared.cmp.Ordering.TheVariants.{Less}
use Rattle.std.specs.declared.string.String.{String}
use Rattle.swc_ast.specs.Tree.{Text}
use Rattle.swc_ast.specs.declared.expressions.Expr.{Expr}
use Rattle.given_globals.specs.Globals.{row_name, expressions, expression_row, expression_rows, global_row, global_rows, rows_of, global_number, told_name, answers_of}
use Rattle.given_globals.specs.Rows.{texts}
use Rattle.given_globals.specs.declared.settings.Settings.{Settings}
use Rattle.given_globals.proofs.Ranges.{values_length}

all_mapped : {K L : Type 0} (f : K → L) (P : L → Type 0) (ks : List K) → AllByRecursion (λ k. P (f k)) ks → AllByRecursion P (map f ks)
all_mapped f P [] h = tt
all_mapped f P (k ∷ ks) h = (h.0, all_mapped f P ks h.1)

mapped_sorted : {K L : Type 0} (f : K → L) (c : L → L → Ordering) (ks : List K) → IsStrictlySortedBy (λ x y. c (f x) (f y)) ks → IsStrictlySortedBy c (map f ks)
unfolding IsStrictlySortedBy
mapped_sorted f c [] h = tt
mapped_sorted f c (k ∷ ks) h = (all_mapped f (λ l. c (f k) l ≡ Less) ks h.0, mapped_sorted f c ks h.1)

prefix_mapped : {X Y : Type 0} (f : X → Y) (p : Y → Bool) (xs : List X) → prefix_len p (map f xs) ≡ prefix_len (λ x. p (f x)) xs
prefix_mapped f p [] = refl
prefix_mapped f p (x ∷ xs) = ap (λ n. cond (p (f x)) (1 + n) 0) (prefix_mapped f p xs)

pub position_mapped : {X Y : Type 0} (f : X → Y) (p : Y → Bool) (xs : List X) → position p (map f xs) ≡ position (λ x. p (f x)) xs
position_mapped f p xs = ap₂ (λ m n. cond (nat_lt m n) (Some m) None) (prefix_mapped f (λ y. not (p y)) xs) (length-map xs f)

names_mapped : (es : List (String Global × Expr)) → map row_name (map global_row es) ≡ map string_bytes (map (λ e. e.0) es)
names_mapped [] = refl
names_mapped (e ∷ es) = ap (λ ts. string_bytes e.0 ∷ ts) (names_mapped es)

drop_texts : (n : ℕ) (ns : List (Bor Text)) → texts (drop n ns) ≡ drop n (texts ns)
drop_texts n ns = sym (drop-map (λ m. m.now) n ns)

module _ (s : Settings) (names : List (Bor Text)) (first : ℕ) (listed : texts names ≡ map row_name (rows_of s)) (is_first : first ≡ length (expressions s)) where
  -- the names behind those of expressions are those of names
  pub behind_first : texts (drop first names) ≡ map row_name (global_rows s.globals.now)
  behind_first =
      drop_texts first names ∙ ap (drop first) listed
      ∙ drop-map row_name first (rows_of s)
      ∙ ap (map row_name) (ap (λ n. drop n (rows_of s)) (is_first ∙ sym (length-map (expressions s) expression_row)) ∙ drop-append_seam (expression_rows (expressions s)) (global_rows s.globals.now))

  -- their names rise
  pub names_rise : IsOrdered string_cmp s.globals.now → (i j : ℕ) (d : Bor Text) → i < j → j < length (drop first names) → slice_cmp nat_cmp (get_or (drop first names) i d).now (get_or (drop first names) j d).now ≡ Less
  names_rise o i j d lt high =
      let ws = drop first names in
      let sorted = subst (IsStrictlySortedBy (slice_cmp nat_cmp)) (sym (behind_first ∙ names_mapped s.globals.now.entries)) (mapped_sorted string_bytes (slice_cmp nat_cmp) (keys s.globals.now) o) in
      let long = length-map ws (λ m. m.now) in
      sym (ap₂ (slice_cmp nat_cmp) (get_or-map (λ m. m.now) ws i d d.now (omega (arith, lt, high))) (get_or-map (λ m. m.now) ws j d d.now high))
      ∙ Less-from_sorted (slice_cmp nat_cmp) (map (λ m. m.now) ws) i j d.now sorted lt (omega (arith, high, long))

  -- so the number of a name follows from its place
  pub number_by_place : (t : Text) (o : Option ℕ) → o ≡ position (λ m. bytes_eq t m.now) (drop first names) → option_map (λ i. first + i) o ≡ global_number s t
  number_by_place t o e =
      ap (option_map (λ i. first + i)) (e ∙ sym (position_mapped (λ m. m.now) (λ x. bytes_eq t x) (drop first names)) ∙ ap (position (λ x. bytes_eq t x)) behind_first ∙ position_mapped row_name (λ x. bytes_eq t x) (global_rows s.globals.now))
      ∙ ap (λ n. option_map (λ i. n + i) (position (λ r. bytes_eq t (row_name r)) (global_rows s.globals.now))) is_first

  -- the name at a place
  pub name_at_place : (i : ℕ) → option_map (λ m. m.now) (slice_get names i) ≡ told_name s i
  name_at_place i = sym (slice_get-map (λ m. m.now) names i) ∙ ap (λ ts. slice_get ts i) listed ∙ slice_get-map row_name (rows_of s) i

  pub names_length : length names ≡ length (answers_of s).values
  names_length = sym (length-map names (λ m. m.now)) ∙ ap length listed ∙ length-map (rows_of s) row_name ∙ sym (values_length s)
