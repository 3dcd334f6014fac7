-- What `serde_json` reads from the text of data is the data, its members in order.
use Rattle.std.proofs.Common.{◌≡◌, ℕ, ℤ, ◌<◌, ◌≤◌, ◌^◌, suc, max, pos, negsuc, arith, Bool, true, false, nat_le, nat_lt, if◌then◌else◌, None, inl, inr, subst, List, [], ◌∷◌, Option, Some, option_map, option_and_then, append-nil, refl, sym, ap, ap₂, ◌∙◌}
use Rattle.std.proofs.lemmas.Bool.{false≢true}
use Rattle.std.proofs.lemmas.Bool.Decides.{leb_tells}
use Rattle.json.specs.Token.{Token}
use Rattle.json.specs.Json as json
use Rattle.json.specs.Tree as tree
use Rattle.json.specs.Tree.{json_tokens, HasNumbers, ItemsHaveNumbers, MembersHaveNumbers}
use Rattle.json.proofs.Printed.Tokens.{tokens-print}
use Rattle.json.proofs.Printed.Trees.{ArePrintable-json_tokens, value-json_tokens}
use Rattle.json.proofs.Printed.Decimals.{IsNumber-decimal, IsNumber-signed_decimal}
use Rattle.serde_json.specs.Data.{Num, unsigned, negative, float, Data, null, boolean, number, string, array, object, Items, no_items, item, Members, no_members, member, put, depth, items_depth, members_depth}
use Rattle.serde_json.specs.Read.{of_json, of_items, of_members, read, max_depth}
use Rattle.serde_json.specs.Written.{outline, items_outline, members_outline, compact_text}
use Rattle.serde_json.proofs.Texts.{print-outline}
use Rattle.serde_json.proofs.Numbers.{number_of-decimal, number_of-negative}
use Rattle.swc_ast.specs.Meaning.{key_name}
use Rattle.swc_ast.specs.Tree as tree_of
use Rattle.swc_ast.specs.Tree.{Text, KeyValue, PlainKey, Tree, node, Forest, ε, ◌⊳◌}
use Rattle.tree_keys.specs.Keys.{are_keys, keys_of}
use Rattle.swc_json_parse.specs.JsonText.{whole, all_plain, data_of, items_of, members_of, shallow, in_order, items_in_order, members_in_order, TextsReadBack}
use Rattle.swc_json_parse.proofs.Settled.{parts_of, part_of, none_some}

-- numbers that 64 bits hold with their sign
abbrev pub IsSmall : Num → Type 0
IsSmall (unsigned n) = n < 2 ^ 63
IsSmall (negative (pos n)) = ⊥
IsSmall (negative (negsuc n)) = n < 2 ^ 63
IsSmall (float x) = ⊥

abbrev mutual
  pub AreSmall : Data → Type 0
  AreSmall (number n) = IsSmall n
  AreSmall (array ds) = ItemsSmall ds
  AreSmall (object ms) = MembersSmall ms
  AreSmall d = Unit {0}

  pub ItemsSmall : Items → Type 0
  ItemsSmall no_items = Unit {0}
  ItemsSmall (item d ds) = AreSmall d × ItemsSmall ds

  pub MembersSmall : Members → Type 0
  MembersSmall no_members = Unit {0}
  MembersSmall (member k d ms) = AreSmall d × MembersSmall ms

number_is : (n : Num) → IsSmall n → HasNumbers (outline (number n))
number_is (unsigned n) h = IsNumber-decimal n (omega (arith, h))
number_is (negative (negsuc n)) h = IsNumber-signed_decimal (negsuc n) (omega (arith, h))
number_is (negative (pos n)) h = absurd h
number_is (float x) h = absurd h

mutual
  numbers_of : (d : Data) → AreSmall d → HasNumbers (outline d)
  numbers_of null h = tt
  numbers_of (boolean b) h = tt
  numbers_of (number n) h = number_is n h
  numbers_of (string s) h = tt
  numbers_of (array ds) h = items_numbers ds h
  numbers_of (object ms) h = members_numbers ms h

  items_numbers : (ds : Items) → ItemsSmall ds → ItemsHaveNumbers (items_outline ds)
  items_numbers no_items h = tt
  items_numbers (item d ds) h = (numbers_of d h.0, items_numbers ds h.1)

  members_numbers : (ms : Members) → MembersSmall ms → MembersHaveNumbers (members_outline ms)
  members_numbers no_members h = tt
  members_numbers (member k d ms) h = (numbers_of d h.0, members_numbers ms h.1)

mutual
  depth_same : (d : Data) → tree.depth (outline d) ≡ depth d
  depth_same null = refl
  depth_same (boolean b) = refl
  depth_same (number n) = refl
  depth_same (string s) = refl
  depth_same (array ds) = ap suc (items_depth_same ds)
  depth_same (object ms) = ap suc (members_depth_same ms)

  items_depth_same : (ds : Items) → tree.items_depth (items_outline ds) ≡ items_depth ds
  items_depth_same no_items = refl
  items_depth_same (item d ds) = ap₂ max (depth_same d) (items_depth_same ds)

  members_depth_same : (ms : Members) → tree.members_depth (members_outline ms) ≡ members_depth ms
  members_depth_same no_members = refl
  members_depth_same (member k d ms) = ap₂ max (depth_same d) (members_depth_same ms)

number_reads : (n : Num) → IsSmall n → of_json (outline (number n)) ≡ Some (number n)
number_reads (unsigned n) h = ap (option_map number) (number_of-decimal n (omega (arith, h)))
number_reads (negative (negsuc n)) h = ap (option_map number) (number_of-negative n (omega (arith, h)))
number_reads (negative (pos n)) h = absurd h
number_reads (float x) h = absurd h

mutual
  reads_as : (d : Data) → AreSmall d → of_json (outline d) ≡ Some (in_order d)
  reads_as null h = refl
  reads_as (boolean b) h = refl
  reads_as (number n) h = number_reads n h
  reads_as (string s) h = refl
  reads_as (array ds) h = ap (option_map array) (items_read ds h)
  reads_as (object ms) h = ap (option_map object) (members_read ms no_members h)

  items_read : (ds : Items) → ItemsSmall ds → of_items (items_outline ds) ≡ Some (items_in_order ds)
  items_read no_items h = refl
  items_read (item d ds) h = ap₂ (λ o p. option_and_then (λ e. option_map (item e) p) o) (reads_as d h.0) (items_read ds h.1)

  members_read : (ms found : Members) → MembersSmall ms → of_members (members_outline ms) found ≡ Some (members_in_order ms found)
  members_read no_members found h = refl
  members_read (member k d ms) found h = ap (λ o. option_and_then (λ e. of_members (members_outline ms) (put k e found)) o) (reads_as d h.0) ∙ members_read ms (put k (in_order d) found) h.1

-- a value with nothing behind it
abbrev complete : Option (json.Json × List Token) → Option Data
complete o = option_and_then of_json (option_and_then (λ p. json.if_last p.0 p.1) o)

-- the text of data is read as the data
pub text_reads : (d : Data) → AreSmall d → depth d ≤ max_depth → read (compact_text d) ≡ Some (in_order d)
text_reads d h shallow =
    ap read (sym (print-outline d))
    ∙ ap complete (ap (json.value max_depth) (tokens-print (json_tokens (outline d)) (ArePrintable-json_tokens (outline d) (numbers_of d h)) ∙ sym (append-nil (json_tokens (outline d)))) ∙ value-json_tokens (outline d) max_depth [] (omega (arith, depth_same d, shallow)))
    ∙ reads_as d h

below_that : (n m : ℕ) → nat_lt n m ≡ true → n < m
below_that n m h = elim (leb_tells (suc n) m) [ inl p ↦ omega (arith, p.1) | inr p ↦ absurd (false≢true (sym p.0 ∙ h)) ]

whole_small : (z : ℤ) (n : Num) → whole z ≡ Some n → IsSmall n
whole_small (pos k) n h = by_test (nat_lt k (2 ^ 63)) refl h
  where
    by_test : (b : Bool) → nat_lt k (2 ^ 63) ≡ b → (if b then Some (unsigned k) else None) ≡ Some n → IsSmall n
    by_test true e i = let is : unsigned k ≡ n = cc in subst IsSmall is (below_that k (2 ^ 63) e)
    by_test false e i = absurd cc
whole_small (negsuc k) n h = by_test (nat_lt k (2 ^ 63)) refl h
  where
    by_test : (b : Bool) → nat_lt k (2 ^ 63) ≡ b → (if b then Some (negative (negsuc k)) else None) ≡ Some n → IsSmall n
    by_test true e i = let is : negative (negsuc k) ≡ n = cc in subst IsSmall is (below_that k (2 ^ 63) e)
    by_test false e i = absurd cc

number_small : (o : Option Num) (d : Data) → ((n : Num) → o ≡ Some n → IsSmall n) → option_map number o ≡ Some d → AreSmall d
number_small None d s h = absurd cc
number_small (Some n) d s h = let is : number n ≡ d = cc in subst AreSmall is (s n refl)

mutual
  -- the numbers of a JSON literal
  data_small : (t : Tree) (d : Data) → data_of t ≡ Some d → AreSmall d
  data_small (node (tree_of.StrLit x) ss ε) d h = let is : string x ≡ d = cc in subst AreSmall is tt
  data_small (node (tree_of.Template ((x, last) ∷ [])) ss ε) d h = let is : string x ≡ d = cc in subst AreSmall is tt
  data_small (node (tree_of.NumLit z) ss ε) d h = number_small (whole z) d (whole_small z) h
  data_small (node (tree_of.BoolLit b) ss ε) d h = let is : boolean b ≡ d = cc in subst AreSmall is tt
  data_small (node tree_of.NullLit ss ε) d h = let is : null ≡ d = cc in subst AreSmall is tt
  data_small (node (tree_of.Array ks) ss ts) d h = let p = part_of array (all_plain ks) (items_of ts) d h in subst AreSmall p.made (items_small ts p.one p.there)
  data_small (node tree_of.Object ss ts) d h = let p = part_of object (are_keys (keys_of ts)) (members_of ts) d h in subst AreSmall p.made (members_small ts p.one p.there)
  data_small t d h = none_some d h

  items_small : (ts : Forest) (ds : Items) → items_of ts ≡ Some ds → ItemsSmall ds
  items_small ε ds h = let is : no_items ≡ ds = cc in subst ItemsSmall is tt
  items_small (t ⊳ ts) ds h = let p = parts_of item (data_of t) (items_of ts) ds h in subst ItemsSmall p.made (data_small t p.one p.first, items_small ts p.other p.second)

  members_small : (ts : Forest) (ms : Members) → members_of ts ≡ Some ms → MembersSmall ms
  members_small ε ms h = let is : no_members ≡ ms = cc in subst MembersSmall is tt
  members_small (node KeyValue ss (node (PlainKey k) rs ε ⊳ v ⊳ ε) ⊳ ts) ms h = let p = parts_of (λ d. member (key_name k) d) (data_of v) (members_of ts) ms h in subst MembersSmall p.made (data_small v p.one p.first, members_small ts p.other p.second)
  members_small (t ⊳ ts) ms h = none_some ms h

shallow_text : (d : Data) (x : Text) → option_map compact_text (shallow d) ≡ Some x → (depth d ≤ max_depth) × (compact_text d ≡ x)
shallow_text d x h = elim (leb_tells (depth d) max_depth) [ inl p ↦ (p.1, by_test (nat_le (depth d) max_depth) p.0 h) | inr p ↦ absurd (never (nat_le (depth d) max_depth) p.0 h) ]
  where
    by_test : (b : Bool) → b ≡ true → option_map compact_text (if b then Some d else None) ≡ Some x → compact_text d ≡ x
    by_test true e i = cc
    by_test false e i = absurd (false≢true e)

    never : (b : Bool) → b ≡ false → option_map compact_text (if b then Some d else None) ≡ Some x → ⊥
    never true e i = false≢true (sym e)
    never false e i = cc

-- what is read from the text of a JSON literal
pub texts_read_back : TextsReadBack
texts_read_back t d x is written =
    let s = shallow_text d x (ap (λ o. option_map compact_text (option_and_then shallow o)) (sym is) ∙ written) in
    ap read (sym s.1) ∙ text_reads d (data_small t d is) s.0
