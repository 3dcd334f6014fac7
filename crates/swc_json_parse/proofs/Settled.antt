-- A literal whose text is too short stays as it is, and so does all that is in it.
use Rattle.std.proofs.Common.{◌≡◌, ℕ, ℤ, suc, ◌+◌, ◌<◌, ◌^◌, Bool, true, false, ◌&&◌, nat_le, nat_lt, List, [], ◌∷◌, ◌++◌, length, if◌then◌else◌, Option, Some, None, option_map, option_and_then, inl, inr, refl, sym, ap, ◌∙◌, arith}
use Rattle.std.proofs.lemmas.List.{length-append}
use Rattle.std.proofs.lemmas.Bool.Decides.{leb_tells}
use Rattle.json.specs.Print.{quoted}
use Rattle.serde_json.specs.Data.{Data, array, object, Items, item, Members, member, depth}
use Rattle.serde_json.specs.Read.{max_depth}
use Rattle.serde_json.specs.Written.{compact_text, items_text, members_text, comma_if}
use Rattle.swc_ast.specs.Labels.{is_expression}
use Rattle.swc_ast.specs.Meaning.{key_name}
use Rattle.swc_ast.specs.Tree as tree
use Rattle.swc_ast.specs.Tree.{Text, KeyValue, PlainKey, Tree, node, Forest, ε, ◌⊳◌, label_of}
use Rattle.swc_ast.specs.declared.Span.{Span}
use Rattle.tree_put.specs.Put.{put, put_parts, steps, around, in_turn, under, chosen}
use Rattle.tree_put.specs.Puts.{enter, become}
use Rattle.tree_put.specs.Still.{still}
use Rattle.tree_put.specs.declared.rules.Spot.{Spot}
use Rattle.tree_put.specs.declared.rules.Spot.TheVariants as spot
use Rattle.tree_put.proofs.Putting.{asked}
use Rattle.tree_keys.specs.Keys.{are_keys, keys_of}
use Rattle.swc_json_parse.specs.JsonText.{data_of, items_of, members_of, all_plain, shallow}
use Rattle.swc_json_parse.specs.Parsing.{literal_span, call_for, is_long, parse_call, parsing}

-- two parts that there are, and what they make
pub record Parts {A B C : Type 0} (f : A → B → C) (o : Option A) (q : Option B) (c : C) : Type 0 where
  pub one : A
  pub other : B
  pub first : o ≡ Some one
  pub second : q ≡ Some other
  pub made : f one other ≡ c

pub parts_of : {A B C : Type 0} (f : A → B → C) (o : Option A) (q : Option B) (c : C) → option_and_then (λ d. option_map (f d) q) o ≡ Some c → Parts f o q c
parts_of f None q c h = cc
parts_of f (Some a) None c h = cc
parts_of f (Some a) (Some b) c h = record { one = a; other = b; first = refl; second = refl; made = cc }

pub record Part {A C : Type 0} (f : A → C) (o : Option A) (c : C) : Type 0 where
  pub one : A
  pub there : o ≡ Some one
  pub made : f one ≡ c

pub part_of : {A C : Type 0} (f : A → C) (b : Bool) (o : Option A) (c : C) → (if b then option_map f o else None) ≡ Some c → Part f o c
part_of f false o c h = cc
part_of f true None c h = cc
part_of f true (Some a) c h = record { one = a; there = refl; made = cc }

pub none_some : {A P : Type 0} (c : A) → None ≡ Some c → P
none_some c h = absurd (cc)

-- a text of data that is too short is not long enough
short_enters : (least : ℕ) (o : Option Span) (d : Data) → length (compact_text d) < least → call_for least o (option_map compact_text (shallow d)) ≡ enter
short_enters least None d h = refl
short_enters least (Some s) d h = by_depth (nat_le (depth d) max_depth)
  where
    not_long : is_long least (compact_text d) ≡ false
    not_long = elim (leb_tells least (length (compact_text d))) [ inl p ↦ absurd (omega (arith, p.1, h)) | inr p ↦ by_first (nat_lt (least + 1) (2 ^ 64)) (nat_le least (length (compact_text d))) p.0 ]
      where
        by_first : (a b : Bool) → b ≡ false → (a && b) ≡ false
        by_first true b k = k
        by_first false b k = refl

    by_depth : (b : Bool) → call_for least (Some s) (option_map compact_text (if b then Some d else None)) ≡ enter
    by_depth true = ap (λ c. if c then become (parse_call s (compact_text d)) else enter) not_long
    by_depth false = refl

-- data are of expressions
data_expression : (t : Tree) (d : Data) → data_of t ≡ Some d → is_expression (label_of t) ≡ true
data_expression (node (tree.StrLit x) ss cs) d h = refl
data_expression (node (tree.Template qs) ss cs) d h = refl
data_expression (node (tree.NumLit z) ss cs) d h = refl
data_expression (node (tree.BoolLit b) ss cs) d h = refl
data_expression (node tree.NullLit ss cs) d h = refl
data_expression (node (tree.Array ks) ss cs) d h = refl
data_expression (node tree.Object ss cs) d h = refl
data_expression (node _ ss cs) d h = none_some d h

module _ (least : ℕ) where
  short_stays : (t : Tree) (d : Data) (p : Spot) → data_of t ≡ Some d → length (compact_text d) < least → put_parts (still parsing) t least ≡ (t, least) → put (still parsing) t least p ≡ (t, least)
  short_stays t d p is short h =
      asked (still parsing) t least p (data_expression t d is)
      ∙ ap (λ a. chosen (a, least) t (put_parts (still parsing) t least)) (ap (λ o. call_for least (literal_span t) (option_map compact_text (option_and_then shallow o))) is ∙ short_enters least (literal_span t) d short)
      ∙ h

  both_stay : (t : Tree) (ts : Forest) → put (still parsing) t least spot.Here ≡ (t, least) → in_turn (steps (still parsing) ts) least ≡ (ts, least) → in_turn (steps (still parsing) (t ⊳ ts)) least ≡ (t ⊳ ts, least)
  unfolding steps
  both_stay t ts h k = ap (λ a. let b = in_turn (steps (still parsing) ts) a.1 in (a.0 ⊳ b.0, b.1)) h ∙ ap (λ b. (t ⊳ b.0, b.1)) k

  key_stays : (k : tree.Key) (rs : List Span) → put (still parsing) (node (PlainKey k) rs ε) least spot.Here ≡ (node (PlainKey k) rs ε, least)
  unfolding put steps around
  key_stays k rs = refl

  member_stays : (ss : List Span) (u v : Tree) → in_turn (steps (still parsing) (u ⊳ v ⊳ ε)) least ≡ (u ⊳ v ⊳ ε, least) → put (still parsing) (node KeyValue ss (u ⊳ v ⊳ ε)) least spot.Here ≡ (node KeyValue ss (u ⊳ v ⊳ ε), least)
  unfolding put around
  member_stays ss u v h = ap (under KeyValue ss) h

  none_stay : in_turn (steps (still parsing) ε) least ≡ (ε, least)
  unfolding steps
  none_stay = refl

  str_stays : (x : Text) (ss : List Span) → put_parts (still parsing) (node (tree.StrLit x) ss ε) least ≡ (node (tree.StrLit x) ss ε, least)
  unfolding around steps
  str_stays x ss = refl

  template_stays : (qs : List (Text × Bool)) (ss : List Span) → put_parts (still parsing) (node (tree.Template qs) ss ε) least ≡ (node (tree.Template qs) ss ε, least)
  unfolding around steps
  template_stays qs ss = refl

  num_stays : (z : ℤ) (ss : List Span) → put_parts (still parsing) (node (tree.NumLit z) ss ε) least ≡ (node (tree.NumLit z) ss ε, least)
  unfolding around steps
  num_stays z ss = refl

  bool_stays : (b : Bool) (ss : List Span) → put_parts (still parsing) (node (tree.BoolLit b) ss ε) least ≡ (node (tree.BoolLit b) ss ε, least)
  unfolding around steps
  bool_stays b ss = refl

  null_stays : (ss : List Span) → put_parts (still parsing) (node tree.NullLit ss ε) least ≡ (node tree.NullLit ss ε, least)
  unfolding around steps
  null_stays ss = refl

  array_stays : (ks : List tree.ItemKind) (ss : List Span) (ts : Forest) → in_turn (steps (still parsing) ts) least ≡ (ts, least) → put_parts (still parsing) (node (tree.Array ks) ss ts) least ≡ (node (tree.Array ks) ss ts, least)
  unfolding around
  array_stays ks ss ts h = ap (under (tree.Array ks) ss) h

  object_stays : (ss : List Span) (ts : Forest) → in_turn (steps (still parsing) ts) least ≡ (ts, least) → put_parts (still parsing) (node tree.Object ss ts) least ≡ (node tree.Object ss ts, least)
  unfolding around
  object_stays ss ts h = ap (under tree.Object ss) h

  item_short : (later : Bool) (d : Data) (ds es : Items) → item d ds ≡ es → length (items_text later es) < least → (length (compact_text d) < least) × (length (items_text true ds) < least)
  item_short later d ds es is short =
      let e : length (items_text later es) ≡ length (comma_if later ++ (compact_text d ++ items_text true ds)) = ap (λ i. length (items_text later i)) (sym is) in
      let f = length-append (comma_if later) (compact_text d ++ items_text true ds) in
      let g = length-append (compact_text d) (items_text true ds) in
      (omega (arith, e, f, g, short), omega (arith, e, f, g, short))

  member_short : (later : Bool) (k : Text) (d : Data) (ms ns : Members) → member k d ms ≡ ns → length (members_text later ns) < least → (length (compact_text d) < least) × (length (members_text true ms) < least)
  member_short later k d ms ns is short =
      let e : length (members_text later ns) ≡ length (comma_if later ++ (quoted k ++ 58 ∷ (compact_text d ++ members_text true ms))) = ap (λ i. length (members_text later i)) (sym is) in
      let f = length-append (comma_if later) (quoted k ++ 58 ∷ (compact_text d ++ members_text true ms)) in
      let i = length-append (quoted k) (58 ∷ (compact_text d ++ members_text true ms)) in
      let g = length-append (compact_text d) (members_text true ms) in
      (omega (arith, e, f, i, g, short), omega (arith, e, f, i, g, short))

  mutual
    -- the parts of a literal whose text is too short
    pub parts_stay : (t : Tree) (d : Data) → data_of t ≡ Some d → length (compact_text d) < least → put_parts (still parsing) t least ≡ (t, least)
    parts_stay (node (tree.StrLit x) ss ε) d is short = str_stays x ss
    parts_stay (node (tree.Template ((x, last) ∷ [])) ss ε) d is short = template_stays ((x, last) ∷ []) ss
    parts_stay (node (tree.NumLit z) ss ε) d is short = num_stays z ss
    parts_stay (node (tree.BoolLit b) ss ε) d is short = bool_stays b ss
    parts_stay (node tree.NullLit ss ε) d is short = null_stays ss
    parts_stay (node (tree.Array ks) ss ts) d is short =
        let p = part_of array (all_plain ks) (items_of ts) d is in
        let e : length (compact_text d) ≡ suc (length (items_text false p.one)) = ap (λ c. length (compact_text c)) (sym p.made) in
        array_stays ks ss ts (items_stay ts p.one false p.there (omega (arith, e, short)))
    parts_stay (node tree.Object ss ts) d is short =
        let p = part_of object (are_keys (keys_of ts)) (members_of ts) d is in
        let e : length (compact_text d) ≡ suc (length (members_text false p.one)) = ap (λ c. length (compact_text c)) (sym p.made) in
        object_stays ss ts (members_stay ts p.one false p.there (omega (arith, e, short)))
    parts_stay t d is short = none_some d is

    items_stay : (ts : Forest) (ds : Items) (later : Bool) → items_of ts ≡ Some ds → length (items_text later ds) < least → in_turn (steps (still parsing) ts) least ≡ (ts, least)
    items_stay ε ds later is short = none_stay
    items_stay (t ⊳ ts) ds later is short =
        let p = parts_of item (data_of t) (items_of ts) ds is in
        let s = item_short later p.one p.other ds p.made short in
        both_stay t ts (short_stays t p.one spot.Here p.first s.0 (parts_stay t p.one p.first s.0)) (items_stay ts p.other true p.second s.1)

    members_stay : (ts : Forest) (ms : Members) (later : Bool) → members_of ts ≡ Some ms → length (members_text later ms) < least → in_turn (steps (still parsing) ts) least ≡ (ts, least)
    members_stay ε ms later is short = none_stay
    members_stay (node KeyValue ss (node (PlainKey k) rs ε ⊳ v ⊳ ε) ⊳ ts) ms later is short =
        let p = parts_of (λ d. member (key_name k) d) (data_of v) (members_of ts) ms is in
        let s = member_short later (key_name k) p.one p.other ms p.made short in
        both_stay (node KeyValue ss (node (PlainKey k) rs ε ⊳ v ⊳ ε)) ts (member_stays ss (node (PlainKey k) rs ε) v (both_stay (node (PlainKey k) rs ε) (v ⊳ ε) (key_stays k rs) (both_stay v ε (short_stays v p.one spot.Here p.first s.0 (parts_stay v p.one p.first s.0)) none_stay))) (members_stay ts p.other true p.second s.1)
    members_stay (t ⊳ ts) ms later is short = none_some ms is
