-- Names that are put behind others.
use Rattle.std.proofs.Common.{◌≡◌, ℕ, zero, suc, ◌+◌, ◌<◌, List, [], ◌∷◌, ◌++◌, map, take, length, string_bytes, refl, sym, ap, ◌∙◌, append_assoc, arith}
use Rattle.std.proofs.lemmas.List.{map-append}
use Rattle.std.specs.Borrow.{Bor}
use Rattle.std.specs.BTreeMap.{BTreeMap, keys}
use Rattle.std.specs.Map.Iter.{deref}
use Rattle.std.specs.declared.alloc.Global.{Global}
use Rattle.std.specs.declared.string.String.{String}
use Rattle.swc_ast.specs.Tree.{Text}
use Rattle.swc_ast.specs.declared.expressions.Expr.{Expr}
use Rattle.swc_expr_map.specs.Entries.{name_at}
use Rattle.swc_expr_map.specs.declared.entry.Entry.{Entry}
use Rattle.given_globals.specs.Globals.{row_name, text_or_none, expression_row, global_row}
use Rattle.given_globals.specs.Rows.{texts, expression_names, global_names}

names_of_keys : (es : List (String Global × Expr)) → map row_name (map global_row es) ≡ map string_bytes (map (λ e. e.0) es)
names_of_keys [] = refl
names_of_keys (e ∷ es) = ap (λ ts. string_bytes e.0 ∷ ts) (names_of_keys es)

yielded_keys : (ks : List (Bor (String Global))) → map (λ k. string_bytes k.now) ks ≡ map string_bytes (map deref ks)
yielded_keys [] = refl
yielded_keys (k ∷ ks) = ap (λ ts. string_bytes k.now ∷ ts) (yielded_keys ks)

-- all keys were yielded
pub all_names : (m : BTreeMap (String Global) Expr) (ks : List (Bor (String Global))) → map deref ks ≡ keys m → map (λ k. string_bytes k.now) ks ≡ global_names m
all_names m ks e = yielded_keys ks ∙ ap (map string_bytes) e ∙ sym (names_of_keys m.entries)

-- a name is put behind others
pub pushed_name : (ns ms : List (Bor Text)) (n : Bor Text) → ms ≡ ns ++ n ∷ [] → texts ms ≡ texts ns ++ n.now ∷ []
pushed_name ns ms n e = ap texts e ∙ map-append (λ m. m.now) ns (n ∷ [])

take_none : {X : Type 0} (xs : List X) → take 0 xs ≡ []
take_none [] = refl
take_none (x ∷ xs) = refl

next_name : (es : List Entry) (i : ℕ) → i < length es → expression_names (take (suc i) es) ≡ expression_names (take i es) ++ text_or_none (name_at es i) ∷ []
next_name [] i h = absurd (omega (arith, h))
next_name (e ∷ es) zero h = ap (λ xs. expression_names (e ∷ xs)) (take_none es)
next_name (e ∷ es) (suc i) h = ap (λ ts. row_name (expression_row e) ∷ ts) (next_name es i (omega (arith, h)))

-- one more name of an expression
pub more_names : (es : List Entry) (i : ℕ) → i < length es → expression_names (take (i + 1) es) ≡ expression_names (take i es) ++ text_or_none (name_at es i) ∷ []
more_names es i h = let e : i + 1 ≡ suc i = omega arith in ap (λ n. expression_names (take n es)) e ∙ next_name es i h

-- a row of names, and one more
pub names_step : (old now next : List Text) (t : Text) (before after : List Text) → now ≡ old ++ before → next ≡ now ++ t ∷ [] → after ≡ before ++ t ∷ [] → next ≡ old ++ after
names_step old now next t before after a b c = b ∙ ap (λ ts. ts ++ t ∷ []) a ∙ append_assoc old before (t ∷ []) ∙ ap (λ ts. old ++ ts) (sym c)
