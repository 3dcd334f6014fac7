-- What is given for names and members may be put, as the pass numbers it.
use Rattle.std.proofs.Common.{◌≡◌, ℕ, zero, suc, ◌<◌, arith, Bool, true, false, if◌then◌else◌, List, [], ◌∷◌, ◌++◌, map, slice_get, slice_index_or, length, Option, Some, None, option_map, refl, sym, ap, ap₂, ◌∙◌}
use Rattle.std.specs.BTreeMap.{get_by_text}
use Rattle.std.specs.Ordering.{is_eq, ordering_reverse}
use Rattle.std.specs.declared.cmp.Ordering.{Ordering}
use Rattle.std.specs.declared.cmp.Ordering.TheVariants.{Less, Equal, Greater}
use Rattle.swc_ast.specs.Meaning.{is_unresolved}
use Rattle.swc_ast.specs.Tree.{Text, StrLit, Read, Dot, Index, Tree, node, ε, ◌⊳◌}
use Rattle.swc_ast.specs.Views.{expr_tree}
use Rattle.swc_ast.specs.declared.names.Mark.{Mark}
use Rattle.swc_expr_map.specs.declared.entry.Entry.{Entry}
use Rattle.swc_expr_map.specs.Entries.{key_of, value_of, found, IsSorted}
use Rattle.swc_expr_map.specs.Order.{key_cmp, same_key}
use Rattle.swc_expr_map.proofs.Ordered.{keys_ordered}
use Rattle.swc_pass.specs.Given.{Found, nothing, a_value, a_plain}
use Rattle.swc_pass.specs.Inlined.{Given, shape, or_else, by_value, by_plain, by_expression, is_env, by_env, by_key, by_part, leads_outside}
use Rattle.given_shield.specs.Names.{mark_of}
use Rattle.given_globals.specs.Globals.{expression_rows, global_row, rows_of, given_of, answers_of}
use Rattle.given_globals.specs.declared.settings.Settings.{Settings}
use Rattle.given_rules.specs.Givable.{IsGivable, AllGivable}
use Rattle.shake_given.specs.declared.given.GivenNames.{GivenNames}
use Rattle.shake_given.specs.Prepared.{AreSettings}

-- keys that rise, without the first one
tail_sorted : (e : Entry) (es : List Entry) → IsSorted (e ∷ es) → IsSorted es
tail_sorted e es s i j d l h = s (suc i) (suc j) d (omega (arith, l)) (omega (arith, h))

own_key : (t : Tree) → same_key t t ≡ true
own_key t = by (key_cmp t t) (keys_ordered.antisymm t t)
  where
    by : (o : Ordering) → o ≡ ordering_reverse o → is_eq o ≡ true
    by Less e = cc
    by Equal e = refl
    by Greater e = cc

-- a key above another is not the same
other_key : (t u : Tree) → key_cmp t u ≡ Less → same_key u t ≡ false
other_key t u e = ap is_eq (keys_ordered.antisymm u t ∙ ap ordering_reverse e)

-- the place of a value
place : (es : List Entry) (i : ℕ) (t : Tree) → slice_get (map value_of es) i ≡ Some t → i < length es
place [] i t e = cc
place (d ∷ es) zero t e = omega arith
place (d ∷ es) (suc i) t e = omega (arith, place es i t e)

-- each value is found at the key beside it
found_at_own : (es : List Entry) → IsSorted es → (i : ℕ) (t : Tree) → slice_get (map value_of es) i ≡ Some t → (d : Entry) → found (key_of (slice_index_or es i d)) es ≡ Some t
found_at_own [] s i t e d = cc
found_at_own (f ∷ es) s zero t e d = ap (λ b. if b then Some (value_of f) else found (key_of f) es) (own_key (key_of f)) ∙ e
found_at_own (f ∷ es) s (suc i) t e d =
    ap (λ b. if b then Some (value_of f) else found (key_of (slice_index_or es i d)) es) (other_key (key_of f) (key_of (slice_index_or es i d)) (s 0 (suc i) d (omega arith) (omega (arith, place es i t e))))
    ∙ found_at_own es (tail_sorted f es s) i t e d

-- an entry, where there is a value
some_entry : (es : List Entry) (i : ℕ) (t : Tree) → slice_get (map value_of es) i ≡ Some t → Entry
some_entry [] i t e = absurd (none e)
  where
    none : None ≡ Some t → ⊥
    none e = cc
some_entry (d ∷ es) i t e = d

row_values : (es : List Entry) → map (λ r. r.1) (expression_rows es ++ []) ≡ map value_of es
row_values [] = refl
row_values (e ∷ es) = ap (λ vs. value_of e ∷ vs) (row_values es)

-- what is plain is a text of `process.env`

or_plain : (f g : Found) {v : Tree} → (f ≡ a_plain v → IsGivable v) → (g ≡ a_plain v → IsGivable v) → or_else f g ≡ a_plain v → IsGivable v
or_plain nothing g p q e = q e
or_plain (a_value i) g p q e = p e
or_plain (a_plain t) g p q e = p e

by_number : (o : Option ℕ) {v : Tree} → by_value o ≡ a_plain v → IsGivable v
by_number None e = cc
by_number (Some i) e = cc

tested : (b : Bool) (f : Found) {v : Tree} → (f ≡ a_plain v → IsGivable v) → (if b then f else nothing) ≡ a_plain v → IsGivable v
tested true f p e = p e
tested false f p e = cc

plain : (o : Option Tree) {v : Tree} → (o ≡ Some v → IsGivable v) → by_plain o ≡ a_plain v → IsGivable v
plain None p e = cc
plain (Some t) {v} p e = p (inside e)
  where
    inside : a_plain t ≡ a_plain v → Some t ≡ Some v
    inside e = cc

module _ (given : Given) (mark : ℕ) (envs : (k : Text) (v : Tree) → given.env k ≡ Some v → IsGivable v) where
  of_env : (o : Tree) (k : Text) (v : Tree) → by_env given mark o k ≡ a_plain v → IsGivable v
  of_env o k v e = tested (is_env given mark o) (by_plain (given.env k)) (plain (given.env k) (envs k v)) e

  of_key : (o k : Tree) (v : Tree) → by_key given mark o k ≡ a_plain v → IsGivable v
  of_key o (node (StrLit t) ss cs) v e = of_env o t v e
  of_key o (node l ss cs) v e = cc

  of_part : (t v : Tree) → by_part given mark t ≡ a_plain v → IsGivable v
  of_part (node (Read x) ss cs) v e = tested (is_unresolved mark x) (by_value (given.global x.text)) (by_number (given.global x.text)) e
  of_part (node (Dot k) ss (o ⊳ ε)) v e = of_env o k v e
  of_part (node Index ss (o ⊳ k ⊳ ε)) v e = of_key o k v e
  of_part t v e = cc

  of_read : (t v : Tree) → or_else (by_expression given mark t) (by_part given mark t) ≡ a_plain v → IsGivable v
  of_read t v e =
      or_plain (by_expression given mark t) (by_part given mark t)
      (tested (leads_outside mark t) (by_value (given.expression (shape t))) (by_number (given.expression (shape t)))) (of_part t v) e

-- what settings give may be put, where what is given may
module _ (g : GivenNames) (mark : Mark) (s : Settings) (are : AreSettings g mark s) (sorted : IsSorted g.exprs) (exprs : (t v : Tree) → found t g.exprs ≡ Some v → IsGivable v) (envs : (k : Text) (v : Tree) → option_map expr_tree (get_by_text g.envs k) ≡ Some v → IsGivable v) where
  values_are : map (λ r. r.1) (rows_of s) ≡ map value_of g.exprs
  values_are = ap₂ (λ es gs. map (λ r. r.1) (expression_rows es ++ map global_row gs)) are.exprs are.globals ∙ row_values g.exprs

  value : (i : ℕ) (t : Tree) → slice_get (map value_of g.exprs) i ≡ Some t → IsGivable t
  value i t e = exprs _ t (found_at_own g.exprs sorted i t e (some_entry g.exprs i t e))

  pub settings_givable : AllGivable (answers_of s)
  unfolding answers_of given_of
  settings_givable = record {
    values = λ i t e. value i t (sym (ap (λ vs. slice_get vs i) values_are) ∙ e);
    plain_ones = of_read (given_of s) (mark_of s.mark) (λ k v e. envs k v (ap (λ m. option_map expr_tree (get_by_text m k)) (sym are.envs) ∙ e));
  }
